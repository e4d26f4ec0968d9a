-- What an event can do to the world, in small steps, and to the rows of ports: the words in which one pass over the calls is written.
use mathlib.Core.Path.{◌≡◌}
use mathlib.Core.Bool.{Bool, true, false, not}
use mathlib.Core.List.{List, [], ◌∷◌, ◌++◌}
use mathlib.Core.Logic.{◌⊎◌}
use Prim.Native.Nat.{ℕ, suc, ◌-◌, ◌≤◌, ◌<◌}
use lib.ListN.{length, get_or}
use Rattle.rights.specs.World.{Rights, Slot, empty, Kind, Act, Wait, sender, receiver, State, stopped, ready, waits, Object, gone, pool, table, port}
use Rattle.rights.specs.World.{page, thread, line, Sizes, World, slot_object, slot_rights, slot_birth, slot_mother, is_empty, among, object}
use Rattle.rights.specs.World.{with_object, slots_of, from_of, waits_thread, cleared, Went, on, wait, refuse, made, is_pool, set_state, resumed}
use Rattle.rights.specs.World.{handed, is_page, is_table, from_page, went_on}
use Rattle.rights.specs.Promise.{Kinds, Note, sends, receives, meets, row_of}

-- no right that the other lacks
unfoldable pub NoWider : Rights → Rights → Type 0
NoWider r q = (r.reads ≡ true → q.reads ≡ true) × (r.writes ≡ true → q.writes ≡ true) × (r.hands ≡ true → q.hands ≡ true)

-- the object that a full slot leads to
abbrev pub to : Slot → ℕ
to y = slot_object y - 1

-- whether somebody came to send, what is noted of coming to port o, and what is noted of a meeting of who comes and who waited
unfoldable pub is_sender : Wait → Bool
is_sender (sender t b ws h g s) = true
is_sender (receiver t d) = false

unfoldable pub came : ℕ → Wait → Note
came o (sender t b ws h g s) = sends o t b ws
came o (receiver t d) = receives o t

unfoldable pub met : ℕ → Wait → Wait → List Note
met o (sender t b ws h g s) (sender q c vs i j r) = []
met o (sender t b ws h g s) (receiver q d) = meets o t q b ws ∷ []
met o (receiver q d) (sender t b ws h g s) = meets o t q b ws ∷ []
met o (receiver t d) (receiver q e) = []

-- what y is told when it meets x
unfoldable pub told : Wait → Wait → List ℕ
told (sender t b ws h g s) x = 0 ∷ []
told (receiver t d) (sender q b ws h g s) = 0 ∷ b ∷ ws
told (receiver t d) (receiver q e) = []

-- a thread as it is told apart here: where it was cut from, its state and its core
pub data Sight (Cpu : Type 0) : Type 0 where
  other : Sight Cpu
  seen_as : ℕ → State Cpu → Cpu → Sight Cpu

-- who waits: where it was cut from, the port, and how it goes on
pub data Pause (Cpu : Type 0) : Type 0 where
  awake : Pause Cpu
  waiting_at : ℕ → ℕ → (List ℕ → Cpu) → Pause Cpu

module _ (Cpu : Type 0) (fresh : ℕ → Cpu) (act : Cpu → (ℕ → ℕ) → Act Cpu) where
  abbrev obj : World Cpu → ℕ → Object Cpu
  obj = object Cpu fresh act

  -- a capability is in some slot
  unfoldable pub In : World Cpu → Slot → Type 0
  In w y = (o : ℕ) × (i : ℕ) × (get_or (slots_of Cpu fresh act (obj w o)) i empty ≡ y) × (is_empty y ≡ false)

  -- object u was x in world w, and is y now. At most one capability is new
  pub data Turn (w : World Cpu) (new : Slot) (u : ℕ) : Object Cpu → Object Cpu → Type 0 where
    kept : {x : Object Cpu} → Turn w new u x x
    spoken : {xs ys vs ns : List ℕ} → Turn w new u (line xs ys) (line vs ns)
    stored : {x : Object Cpu} (p k : ℕ) {f a : ℕ} {s : State Cpu} {c : Cpu} {ps bs : List ℕ} {rs : List Bool} → obj w p ≡ thread f s c a ps rs → get_or ps k 0 ≡ suc u → Turn w new u x (page (from_page Cpu fresh act x) bs)
    mapped : {f a : ℕ} {s : State Cpu} {c : Cpu} {ps qs : List ℕ} {rs ms : List Bool} →
        ((k o : ℕ) → get_or qs k 0 ≡ suc o → (get_or ps k 0 ≡ suc o) ⊎ (is_page Cpu fresh act (obj w o) ≡ true)) → Turn w new u (thread f s c a ps rs) (thread f s c a qs ms)
    bound : {f a o : ℕ} {s : State Cpu} {c : Cpu} {ps : List ℕ} {rs : List Bool} → is_table Cpu fresh act (obj w o) ≡ true → Turn w new u (thread f s c a ps rs) (thread f s c (suc o) ps rs)
    ran : {f a : ℕ} {s q : State Cpu} {c d : Cpu} {ps : List ℕ} {rs : List Bool} → Turn w new u (thread f s c a ps rs) (thread f q d a ps rs)
    rowed : {f : ℕ} {ws vs : List Wait} → Turn w new u (port f ws) (port f vs)
    drawn : {f n a b : ℕ} → b ≤ n → Turn w new u (pool f n a) (pool f n b)
    slotted : {f : ℕ} {ss qs : List Slot} → length qs ≡ length ss → ((i : ℕ) (y : Slot) → get_or qs i empty ≡ y → is_empty y ≡ false → In w y ⊎ (y ≡ new)) → Turn w new u (table f ss) (table f qs)
    cut_new : (o : ℕ) (z : Sizes) (k : Kind) → length w.objects ≤ u → is_pool Cpu fresh act (obj w o) ≡ true → Turn w new u gone (made Cpu fresh act z (suc o) k)

  -- a new capability: born now, made from one that is there; to the same object with no more rights, or to an object that is there
  pub record Born (w v : World Cpu) (x : Slot) : Type 0 where
    pub mother : Slot
    pub here : In w mother
    pub from_it : slot_mother x ≡ slot_birth mother
    pub now : slot_birth x ≡ suc w.births
    pub counted : suc w.births ≤ v.births
    pub leads : ((slot_object x ≡ slot_object mother) × NoWider (slot_rights x) (slot_rights mother)) ⊎ ((obj v (to x) ≡ gone → ⊥) × (slot_object mother < slot_object x))

  -- a step without a revoke: what each object turned into, and what was born
  pub record Change (w v : World Cpu) : Type 0 where
    pub new : Slot
    pub turns : (u : ℕ) → Turn w new u (obj w u) (obj v u)
    pub birth : is_empty new ≡ false → Born w v new
    pub more : w.births ≤ v.births
    pub grows : length w.objects ≤ length v.objects
    pub lines : (v.lineage ≡ w.lineage) ⊎ ((v.lineage ≡ new ∷ w.lineage) × (is_empty new ≡ false))

  -- what was cut from one of a list is in the list too
  unfoldable pub Closed : World Cpu → List ℕ → Type 0
  Closed w os = (u t : ℕ) → from_of Cpu fresh act (obj w u) ≡ suc t → among t os ≡ true → among u os ≡ true

  -- what is in a list was cut, or is gone
  unfoldable pub AllCut : World Cpu → List ℕ → Type 0
  AllCut w os = (u : ℕ) → among u os ≡ true → from_of Cpu fresh act (obj w u) ≡ 0 → ⊥

  unfoldable pub AllGone : World Cpu → List ℕ → Type 0
  AllGone w os = (u : ℕ) → among u os ≡ true → obj w u ≡ gone

  pub data Step (w : World Cpu) : World Cpu → Type 0 where
    small : {v : World Cpu} → Change w v → Step w v
    swept : (ids os : List ℕ) → Closed w os → Step w (cleared Cpu fresh act w ids os)

  pub data Steps (w : World Cpu) : World Cpu → Type 0 where
    none : Steps w w
    after : {v u : World Cpu} → Steps w v → Step v u → Steps w u

  pub one : {w v : World Cpu} → Step w v → Steps w v
  one s = after none s

  -- the number + 1 of the port that a thread waits at, 0 for none
  unfoldable pub waits_at : Object Cpu → ℕ
  waits_at gone = 0
  waits_at (pool f n u) = 0
  waits_at (table f ss) = 0
  waits_at (port f ws) = 0
  waits_at (page f bs) = 0
  waits_at (thread f stopped c t ps rs) = 0
  waits_at (thread f ready c t ps rs) = 0
  waits_at (thread f (waits o then) c t ps rs) = suc o
  waits_at (line xs ys) = 0

  -- a thread as seen from outside; other kinds are all alike
  unfoldable pub view : Object Cpu → Sight Cpu
  view gone = other
  view (pool f n u) = other
  view (table f ss) = other
  view (port f ws) = other
  view (page f bs) = other
  view (thread f s c t ps rs) = seen_as f s c
  view (line xs ys) = other

  unfoldable pub waiting_of : Sight Cpu → Pause Cpu
  waiting_of other = awake
  waiting_of (seen_as f stopped c) = awake
  waiting_of (seen_as f ready c) = awake
  waiting_of (seen_as f (waits o then) c) = waiting_at f o then

  abbrev pub waiting : Object Cpu → Pause Cpu
  waiting x = waiting_of (view x)

  -- two objects with the same row, of which both or none wait, at the same port and to go on alike
  pub record SameFace (x y : Object Cpu) : Type 0 where
    pub rows : row_of Cpu fresh act x ≡ row_of Cpu fresh act y
    pub ports : waits_at x ≡ waits_at y
    pub goes_on : waiting x ≡ waiting y

  -- threads are seen as they were
  abbrev pub AllSeen : World Cpu → World Cpu → Type 0
  AllSeen w v = (u : ℕ) → view (obj v u) ≡ view (obj w u)

  abbrev pub SameFaces : World Cpu → World Cpu → Type 0
  SameFaces w v = (u : ℕ) → SameFace (obj v u) (obj w u)

  -- all of a row came for the same as x, which comes last
  unfoldable pub Behind : Wait → List Wait → Type 0
  Behind x [] = Unit {0}
  Behind x (y ∷ ws) = is_sender x ≡ is_sender y

  -- what a call of thread p does, what is noted of it, and what becomes of the rows: they stay; they are swept; somebody comes last; the first goes
  pub data Doing (w : World Cpu) (p : ℕ) : List Note → Went Cpu fresh act → Type 0 where
    goes : {v : World Cpu} (ws : List ℕ) → Steps w v → (Kinds Cpu fresh act w → SameFaces w v) → Doing w p [] (on v ws)
    sweeps : {v : World Cpu} (ws ids os : List ℕ) → Steps w v → SameFaces (cleared Cpu fresh act w ids os) v → AllSeen (cleared Cpu fresh act w ids os) v → AllCut w os → AllGone v os → Doing w p [] (on v ws)
    rests : {o : ℕ} {f : ℕ} {ws : List Wait} (x : Wait) → Steps w (with_object Cpu fresh act w o (port f (ws ++ x ∷ []))) → obj w o ≡ port f ws → waits_thread Cpu fresh act x ≡ p → Behind x ws →
        Doing w p (came o x ∷ []) (wait (with_object Cpu fresh act w o (port f (ws ++ x ∷ []))) o)
    joins : (o : ℕ) {f : ℕ} {q : List Wait} (x y : Wait) (h : Bool) (a s b d : ℕ) →
        Steps w (resumed Cpu fresh act (handed Cpu fresh act (with_object Cpu fresh act w o (port f q)) h a s b d) (waits_thread Cpu fresh act y) (told y x)) →
        obj w o ≡ port f (y ∷ q) → waits_thread Cpu fresh act x ≡ p → is_sender x ≡ not (is_sender y) →
        Doing w p (came o x ∷ met o x y) (on (resumed Cpu fresh act (handed Cpu fresh act (with_object Cpu fresh act w o (port f q)) h a s b d) (waits_thread Cpu fresh act y) (told y x)) (told x y))

  -- what becomes of x, which comes to object o to send or receive: it is turned away, comes last in the row, or meets the first
  pub data Coming (w : World Cpu) (o : ℕ) (x : Wait) : List Note → Went Cpu fresh act → Type 0 where
    turned_away : Coming w o x [] (refuse Cpu fresh act w)
    comes_last : {f : ℕ} {ws : List Wait} → obj w o ≡ port f ws → Behind x ws → Coming w o x (came o x ∷ []) (wait (with_object Cpu fresh act w o (port f (ws ++ x ∷ []))) o)
    meets_first : {f : ℕ} {q : List Wait} (y : Wait) (h : Bool) (a s b d : ℕ) → obj w o ≡ port f (y ∷ q) → is_sender x ≡ not (is_sender y) →
        Coming w o x (came o x ∷ met o x y) (on (resumed Cpu fresh act (handed Cpu fresh act (with_object Cpu fresh act w o (port f q)) h a s b d) (waits_thread Cpu fresh act y) (told y x)) (told x y))

  -- what an event does, and what is noted of it
  pub data Outcome (w : World Cpu) : List Note → World Cpu → Type 0 where
    nothing : Outcome w [] w
    heard : (o : ℕ) {xs ys : List ℕ} (zs : List ℕ) → obj w o ≡ line xs ys → Outcome w [] (with_object Cpu fresh act w o (line xs zs))
    stops : (p : ℕ) {f a : ℕ} {c : Cpu} {ps : List ℕ} {rs : List Bool} → obj w p ≡ thread f ready c a ps rs → Outcome w [] (with_object Cpu fresh act w p (set_state Cpu fresh act (obj w p) stopped (fresh 0)))
    calls : (p : ℕ) {f a : ℕ} {c : Cpu} {ps : List ℕ} {rs : List Bool} {ns : List Note} {g : Went Cpu fresh act} (then : List ℕ → Cpu) → obj w p ≡ thread f ready c a ps rs → Doing w p ns g →
        Outcome w ns (went_on Cpu fresh act w p then g)
