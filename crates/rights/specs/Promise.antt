-- Statements about the abstract world. Each is a type; a proof of it is a theorem, and stands elsewhere. Assumes nothing.
-- They are about every core: Cpu is what a core keeps, fresh a new one, act what the instruction at hand does.
use Rattle.std.specs.Prelude.{◌≡◌, ℕ, zero, suc, ◌+◌, ◌-◌, ◌*◌, ◌<◌, ◌≤◌, Bool, true, false, ◌≢◌, List, [], ◌∷◌, ◌++◌, length, take, ◌==◌, slice_index, slice_index_or}
use Rattle.rights.specs.World.{Act, World, Sizes, Event, Object, Slot, Rights, Call, Kind, State, Wait, Went}
use Rattle.rights.specs.World.{empty, cap, gone, thread, table, pool, port, page, line, stopped, ready, waits, sender, receiver, tick, byte, on, wait, quiet, store, call, wrong}
use Rattle.rights.specs.World.{cut, copy, move, drop_it, revoke, send, receive, map, unmap, bind, go, say, hear, a_pool, a_table, a_port, a_page}
use Rattle.rights.specs.World.{object, event, run, shown_by, does, offspring, slot, slots_of, from_of, has_slot, is_pool, slot_object, slot_badge, waits_thread, seen, made, all_rights, among, pick, no, up_to, step_of, cost}

module _ (Cpu : Type 0) (fresh : ℕ → Cpu) (act : Cpu → (ℕ → ℕ) → Act Cpu) where
  -- a set of objects and the others lead nowhere to each other: by slots, tables, pages in spaces, pools; and nothing was made from anything yet, and nobody waits
  pub record Parted (A : ℕ → Bool) (w : World Cpu) : Type 0 where
    pub held : (o i u b j m : ℕ) (r : Rights) → slice_index_or (slots_of Cpu fresh act (object Cpu fresh act w o)) i empty ≡ cap u r b j m → (A u ≡ A o) × (m ≡ 0) × (object Cpu fresh act w u ≢ gone)
    pub tables : (o f t : ℕ) (s : State Cpu) (c : Cpu) (ps : List ℕ) (rs : List Bool) → object Cpu fresh act w o ≡ thread f s c (suc t) ps rs → (A t ≡ A o) × (object Cpu fresh act w t ≢ gone)
    pub spaces : (o f t k u : ℕ) (s : State Cpu) (c : Cpu) (ps : List ℕ) (rs : List Bool) → object Cpu fresh act w o ≡ thread f s c t ps rs → slice_index ps k ≡ suc u → (A u ≡ A o) × (object Cpu fresh act w u ≢ gone)
    pub from : (o u : ℕ) → from_of Cpu fresh act (object Cpu fresh act w o) ≡ suc u → A u ≡ A o
    pub once : (o i u b j m p k v c n : ℕ) (r q : Rights) → slice_index_or (slots_of Cpu fresh act (object Cpu fresh act w o)) i empty ≡ cap u r b j m →
        slice_index_or (slots_of Cpu fresh act (object Cpu fresh act w p)) k empty ≡ cap v q c j n → (o ≡ p) × (i ≡ k)
    pub born : (o i u b j m : ℕ) (r : Rights) → slice_index_or (slots_of Cpu fresh act (object Cpu fresh act w o)) i empty ≡ cap u r b j m → (0 < j) × (j ≤ w.births)
    pub nothing_made : w.lineage ≡ []
    pub calm : (o f : ℕ) (ws : List Wait) → object Cpu fresh act w o ≡ port f ws → ws ≡ []
    pub awake : (o f t u : ℕ) (c : Cpu) (ps : List ℕ) (rs : List Bool) (then : List ℕ → Cpu) → object Cpu fresh act w o ≢ thread f (waits u then) c t ps rs

  -- objects as an image can have them: nothing used, nobody waiting, threads with a core as new
  pub data New (z : Sizes) : Object Cpu → Type 0 where
    new_pool : {n : ℕ} → 1 ≤ n → n ≤ 4096 → New z (pool 0 (n * z.bytes) 0)
    new_table : {ss : List Slot} → 1 ≤ length ss → length ss ≤ 4096 → New z (table 0 ss)
    new_port : New z (port 0 [])
    new_page : {bs : List ℕ} → length bs ≡ z.bytes → ((k : ℕ) → slice_index bs k < 256) → New z (page 0 bs)
    new_thread : {s : State Cpu} {a t : ℕ} {ps : List ℕ} {rs : List Bool} → length ps ≡ z.pages → length rs ≡ z.pages → a < 4294967296 →
        New z (thread 0 s (fresh a) t ps rs)
    new_line : New z (line [] [])

  -- every event names a thread or a line of the start
  unfoldable pub Named : World Cpu → List Event → Type 0
  Named w [] = Unit {0}
  Named w (tick p ∷ es) = (p < length w.objects) × Named w es
  Named w (byte o b ∷ es) = (o < length w.objects) × (b < 256) × Named w es

  -- the births in a list of slots, in order
  unfoldable pub births_in : List Slot → List ℕ
  births_in [] = []
  births_in (empty ∷ ss) = births_in ss
  births_in (cap u r b j m ∷ ss) = j ∷ births_in ss

  -- the births in all tables, in order
  unfoldable pub all_births : List (Object Cpu) → List ℕ
  all_births [] = []
  all_births (x ∷ xs) = births_in (slots_of Cpu fresh act x) ++ all_births xs

  -- n numbers from a on
  unfoldable pub up_from : ℕ → ℕ → List ℕ
  up_from a zero = []
  up_from a (suc n) = a ∷ up_from (suc a) n

  -- how many threads there are
  unfoldable pub threads : List (Object Cpu) → ℕ
  threads [] = 0
  threads (gone ∷ xs) = threads xs
  threads (pool f n u ∷ xs) = threads xs
  threads (table f ss ∷ xs) = threads xs
  threads (port f ws ∷ xs) = threads xs
  threads (page f bs ∷ xs) = threads xs
  threads (thread f s c t ps rs ∷ xs) = suc (threads xs)
  threads (line a b ∷ xs) = threads xs

  -- how many lines there are
  unfoldable pub lines : List (Object Cpu) → ℕ
  lines [] = 0
  lines (gone ∷ xs) = lines xs
  lines (pool f n u ∷ xs) = lines xs
  lines (table f ss ∷ xs) = lines xs
  lines (port f ws ∷ xs) = lines xs
  lines (page f bs ∷ xs) = lines xs
  lines (thread f s c t ps rs ∷ xs) = lines xs
  lines (line a b ∷ xs) = suc (lines xs)

  -- what an image can carry: badges of four bytes, births in the order of slots, up to 64 threads and 32 lines, frames for all; tables and spaces name tables and pages
  pub record Fits (frames : List (Object Cpu) → ℕ) (w : World Cpu) : Type 0 where
    pub badges : (o i u b j m : ℕ) (r : Rights) → slice_index_or (slots_of Cpu fresh act (object Cpu fresh act w o)) i empty ≡ cap u r b j m → b < 4294967296
    pub in_order : all_births w.objects ≡ up_from 1 w.births
    pub few : (threads w.objects ≤ 64) × (lines w.objects ≤ 32) × (frames w.objects ≤ 4096)
    pub its_table : (o f t : ℕ) (s : State Cpu) (c : Cpu) (ps : List ℕ) (rs : List Bool) → object Cpu fresh act w o ≡ thread f s c (suc t) ps rs →
        (g : ℕ) × (ss : List Slot) × (object Cpu fresh act w t ≡ table g ss)
    pub its_pages : (o f t k u : ℕ) (s : State Cpu) (c : Cpu) (ps : List ℕ) (rs : List Bool) → object Cpu fresh act w o ≡ thread f s c t ps rs → slice_index ps k ≡ suc u →
        (g : ℕ) × (bs : List ℕ) × (object Cpu fresh act w u ≡ page g bs)

  -- THE MAIN PROMISE, first half: a kernel with frames, page tables, tables of slots in memory and links between them
  -- shows on every line what this world shows, for every row of instructions of any programs.
  -- Image is what it is started from, System what it keeps; taken says which images are let in, world-of which world one means
  module _ (Image System : Type 0) (taken : Sizes → Image → Type 0) (world_of : Sizes → Image → World Cpu)
      (start : Sizes → Image → System) (happens : Sizes → System → Event → System) (shows : System → ℕ → List ℕ)
      (frames : List (Object Cpu) → ℕ) where
    -- what the system keeps after a row of events
    unfoldable pub goes : Sizes → System → List Event → System
    goes z s [] = s
    goes z s (e ∷ es) = goes z (happens z s e) es

    -- for rows that name objects of the image
    unfoldable pub SameShown : Type 0
    SameShown =
        (z : Sizes) (i : Image) (es : List Event) (o : ℕ) → taken z i → Named (world_of z i) es →
        shows (goes z (start z i) es) o ≡ shown_by Cpu fresh act (object Cpu fresh act (run Cpu fresh act z (world_of z i) es) o)

    -- and for every world of new objects, from which nothing was made, there is an image
    unfoldable pub HoldsAll : Type 0
    HoldsAll =
        (z : Sizes) (w : World Cpu) → z.bytes ≡ 4096 → z.pages ≡ 64 → z.heard ≡ 1024 → Parted (λ o. true) w → ((o : ℕ) → o < length w.objects → New z (object Cpu fresh act w o)) →
        length w.objects ≤ 1000 → Fits frames w → (i : Image) × taken z i × (world_of z i ≡ w)

  -- whether an event is for an object of the set
  unfoldable pub mine : (ℕ → Bool) → Event → Bool
  mine A (tick p) = A p
  mine A (byte o b) = A o

  -- the events that are for the set, in order
  unfoldable pub only : (ℕ → Bool) → List Event → List Event
  only A [] = []
  only A (e ∷ es) = pick (mine A e) (e ∷ only A es) (only A es)

  -- two slots that hold the same but for the numbers of births
  pub data SameSlot : Slot → Slot → Type 0 where
    both_empty : SameSlot empty empty
    both_hold : {o b i j m n : ℕ} {r : Rights} → SameSlot (cap o r b i m) (cap o r b j n)

  -- two objects that are the same but for the numbers of births in their slots. An image counts births over all tables, so that they are other numbers where other tables are filled differently
  pub data SameButBirths : Object Cpu → Object Cpu → Type 0 where
    same_object : {x : Object Cpu} → SameButBirths x x
    same_slots : {f : ℕ} {ss qs : List Slot} → length ss ≡ length qs → ((i : ℕ) → SameSlot (slice_index_or ss i empty) (slice_index_or qs i empty)) → SameButBirths (table f ss) (table f qs)

  -- second half: two worlds in which the set's objects are the same but for births, the others differing at will, show the same on the set's lines, for rows of events that have
  -- the same of the set's instructions and bytes in the same order, the others' being any and anywhere between
  unfoldable pub UnreachedIn : (Sizes → World Cpu → List Event → World Cpu) → Type 0
  UnreachedIn running =
      (z : Sizes) (A : ℕ → Bool) (v w : World Cpu) (es fs : List Event) (o : ℕ) → 1 ≤ z.bytes → Parted A v → Parted A w →
      ((u : ℕ) → u < length v.objects → A u ≡ true → SameButBirths (object Cpu fresh act v u) (object Cpu fresh act w u)) → length v.objects ≡ length w.objects →
      only A es ≡ only A fs → A o ≡ true → o < length v.objects → ((u : ℕ) → length v.objects ≤ u → A u ≡ false) →
      shown_by Cpu fresh act (object Cpu fresh act (running z v es) o) ≡ shown_by Cpu fresh act (object Cpu fresh act (running z w fs) o)

  unfoldable pub Unreached : Type 0
  Unreached = UnreachedIn (run Cpu fresh act)

  -- worlds that come about from one in which nothing was made yet
  -- running says what a row of events does: in the laws as in this world; elsewhere it is faulty, and a law has to refuse it
  unfoldable pub ComesBy : (Sizes → World Cpu → List Event → World Cpu) → Sizes → World Cpu → Type 0
  ComesBy running z w = (v : World Cpu) × (es : List Event) × (1 ≤ z.bytes) × Parted (λ o. true) v × (running z v es ≡ w)

  abbrev pub Comes : Sizes → World Cpu → Type 0
  Comes = ComesBy (run Cpu fresh act)

  -- after a capability was revoked, and the call came back with 0, nothing that was made from it is in any slot, whatever happens then
  unfoldable pub Revoked : Type 0
  Revoked =
      (z : Sizes) (w v : World Cpu) (p s u b j m o i c k n t : ℕ) (r q : Rights) → Comes z w → slot Cpu fresh act w p s ≡ cap u r b j m →
      does Cpu fresh act z w p (revoke s) ≡ on v (0 ∷ []) → among k (offspring Cpu fresh act w w.births (j ∷ [])) ≡ true →
      (es : List Event) → slice_index_or (slots_of Cpu fresh act (object Cpu fresh act (run Cpu fresh act z v es) o)) i empty ≢ cap t q c k n

  -- the same for every answer: this is false, since a revoke that is refused (of a pool, without write) leaves what was made
  unfoldable pub RevokedAny : Type 0
  RevokedAny =
      (z : Sizes) (w v : World Cpu) (p s u b j m o i c k n t : ℕ) (r q : Rights) (ws : List ℕ) → Comes z w → slot Cpu fresh act w p s ≡ cap u r b j m →
      does Cpu fresh act z w p (revoke s) ≡ on v ws → among k (offspring Cpu fresh act w w.births (j ∷ [])) ≡ true →
      (es : List Event) → slice_index_or (slots_of Cpu fresh act (object Cpu fresh act (run Cpu fresh act z v es) o)) i empty ≢ cap t q c k n

  -- a pool is never overdrawn
  unfoldable pub WithinIn : (Sizes → World Cpu → List Event → World Cpu) → Type 0
  WithinIn running = (z : Sizes) (v : World Cpu) (es : List Event) → 1 ≤ z.bytes → ((o f n u : ℕ) → object Cpu fresh act v o ≡ pool f n u → u ≤ n) →
      (o f n u : ℕ) → object Cpu fresh act (running z v es) o ≡ pool f n u → u ≤ n

  unfoldable pub Within : Type 0
  Within = WithinIn (run Cpu fresh act)

  -- what can be asked for: a pool of 1 to 4,096 frames, a table of 1 to 4,096 slots, a port, a page
  unfoldable pub Sized : Kind → Type 0
  Sized (a_pool n) = (1 ≤ n) × (n ≤ 4096)
  Sized (a_table n) = (1 ≤ n) × (n ≤ 4096)
  Sized a_port = Unit {0}
  Sized a_page = Unit {0}

  -- how much of a pool is used once a kind was cut from it: filled up to a multiple, then what it costs
  unfoldable pub filled : Sizes → Kind → ℕ → ℕ
  filled z k u = up_to (step_of z k) u + cost z k

  -- what is said of a cut of kind k into slot d, with slot s that leads to a pool o of n bytes, u of them used
  -- doing says how a call is done: in the law as in this world; elsewhere it is faulty
  pub record CutIs (doing : Sizes → World Cpu → ℕ → Call → Went Cpu fresh act) (z : Sizes) (w : World Cpu) (p s d o f n u j : ℕ) (k : Kind) : Type 0 where
    -- refused exactly if the pool is too small
    pub refused : doing z w p (cut s k d) ≡ on w (no ∷ []) → n < filled z k u
    pub too_small : n < filled z k u → doing z w p (cut s k d) ≡ on w (no ∷ [])
    -- else it comes back with 0, so much is used, and the new object is in d with all rights, made from what s holds
    pub done : filled z k u ≤ n → (v : World Cpu) × (doing z w p (cut s k d) ≡ on v (0 ∷ [])) × (object Cpu fresh act v o ≡ pool f n (filled z k u)) ×
        (object Cpu fresh act v (length w.objects) ≡ made Cpu fresh act z (suc o) k) ×
        (slot Cpu fresh act v p d ≡ cap (length w.objects) (all_rights Cpu fresh act) 0 (suc w.births) j)

  -- a cut with write on a pool, into an empty slot, of a right kind and size
  unfoldable pub CutExactlyIn : (Sizes → World Cpu → ℕ → Call → Went Cpu fresh act) → Type 0
  CutExactlyIn doing =
      (z : Sizes) (w : World Cpu) (p s d o f n u b j m : ℕ) (r : Rights) (k : Kind) → 1 ≤ z.bytes →
      slot Cpu fresh act w p s ≡ cap o r b j m → r.writes ≡ true → object Cpu fresh act w o ≡ pool f n u →
      has_slot Cpu fresh act w p d ≡ true → slot Cpu fresh act w p d ≡ empty → Sized k → CutIs doing z w p s d o f n u j k

  unfoldable pub CutExactly : Type 0
  CutExactly = CutExactlyIn (does Cpu fresh act)

  -- what a slot holds is there
  unfoldable pub HeldIsThereIn : (Sizes → World Cpu → List Event → World Cpu) → Type 0
  HeldIsThereIn running =
      (z : Sizes) (w : World Cpu) (o i u b j m : ℕ) (r : Rights) → ComesBy running z w →
      slice_index_or (slots_of Cpu fresh act (object Cpu fresh act w o)) i empty ≡ cap u r b j m → object Cpu fresh act w u ≢ gone

  unfoldable pub HeldIsThere : Type 0
  HeldIsThere = HeldIsThereIn (run Cpu fresh act)

  -- the threads of those who wait, in their order
  unfoldable pub waiters : List Wait → List ℕ
  waiters [] = []
  waiters (x ∷ ws) = waits_thread Cpu fresh act x ∷ waiters ws

  -- no number is twice in a list
  unfoldable pub NoTwice : List ℕ → Type 0
  NoTwice [] = Unit {0}
  NoTwice (t ∷ ts) = (among t ts ≡ false) × NoTwice ts

  -- numbers lead to objects of the right kind: tables, pages of spaces, pools that objects were cut from
  pub record Kinds (w : World Cpu) : Type 0 where
    pub its_table : (o f t : ℕ) (s : State Cpu) (c : Cpu) (ps : List ℕ) (rs : List Bool) → object Cpu fresh act w o ≡ thread f s c (suc t) ps rs →
        (g : ℕ) × (ss : List Slot) × (object Cpu fresh act w t ≡ table g ss)
    pub its_pages : (o f t k u : ℕ) (s : State Cpu) (c : Cpu) (ps : List ℕ) (rs : List Bool) → object Cpu fresh act w o ≡ thread f s c t ps rs → slice_index ps k ≡ suc u →
        (g : ℕ) × (bs : List ℕ) × (object Cpu fresh act w u ≡ page g bs)
    pub its_pool : (o u : ℕ) → from_of Cpu fresh act (object Cpu fresh act w o) ≡ suc u → (g : ℕ) × (n : ℕ) × (k : ℕ) × (object Cpu fresh act w u ≡ pool g n k)

  -- ports and those who wait at them: a thread that waits is in the row of a port that is there, and whoever is in a row is a thread that waits at that port, once
  pub record Rows (w : World Cpu) : Type 0 where
    pub its_port : (t f u a : ℕ) (c : Cpu) (ps : List ℕ) (rs : List Bool) (then : List ℕ → Cpu) → object Cpu fresh act w t ≡ thread f (waits u then) c a ps rs →
        (g : ℕ) × (ws : List Wait) × (object Cpu fresh act w u ≡ port g ws) × (among t (waiters ws) ≡ true)
    pub its_thread : (o f t : ℕ) (ws : List Wait) → object Cpu fresh act w o ≡ port f ws → among t (waiters ws) ≡ true →
        (g : ℕ) × (a : ℕ) × (c : Cpu) × (ps : List ℕ) × (rs : List Bool) × (then : List ℕ → Cpu) × (object Cpu fresh act w t ≡ thread g (waits o then) c a ps rs)
    pub once : (o f : ℕ) (ws : List Wait) → object Cpu fresh act w o ≡ port f ws → NoTwice (waiters ws)

  -- what is gone is held by nobody: no slot, no table, no space, no pool that something was cut from, no port, no row leads to it
  unfoldable pub NothingDangles : Type 0
  NothingDangles =
      (z : Sizes) (v : World Cpu) (es : List Event) → 1 ≤ z.bytes → Parted (λ o. true) v → Kinds v →
      ((o i u b j m : ℕ) (r : Rights) → slice_index_or (slots_of Cpu fresh act (object Cpu fresh act (run Cpu fresh act z v es) o)) i empty ≡ cap u r b j m →
      object Cpu fresh act (run Cpu fresh act z v es) u ≢ gone) ×
      Kinds (run Cpu fresh act z v es) × Rows (run Cpu fresh act z v es)

  -- rights never grow: whoever was made from somebody has no right that the other lacks, as long as both lead to the same object
  unfoldable pub NoMoreIn : (Sizes → World Cpu → List Event → World Cpu) → Type 0
  NoMoreIn running =
      (z : Sizes) (w : World Cpu) (o i u b j m p k v c n : ℕ) (r q : Rights) → ComesBy running z w →
      slice_index_or (slots_of Cpu fresh act (object Cpu fresh act w o)) i empty ≡ cap u r b j m → slice_index_or (slots_of Cpu fresh act (object Cpu fresh act w p)) k empty ≡ cap u q c m n →
      ((r.reads ≡ true → q.reads ≡ true) × (r.writes ≡ true → q.writes ≡ true) × (r.hands ≡ true → q.hands ≡ true))

  unfoldable pub NoMore : Type 0
  NoMore = NoMoreIn (run Cpu fresh act)

  -- threads were not cut from a pool, so that none goes while it waits
  unfoldable pub Uncut : World Cpu → Type 0
  Uncut w = (o f t : ℕ) (s : State Cpu) (c : Cpu) (ps : List ℕ) (rs : List Bool) → object Cpu fresh act w o ≡ thread f s c t ps rs → f ≡ 0

  -- MADE FROM, by what happened: by calls and slots alone, not by the world's own record of what was made from what
  -- a call that makes a capability in slot d, with what slot s holds: a copy or a cut
  pub data Making : Call → ℕ → ℕ → Type 0 where
    by_copy : {s d b : ℕ} {r : Rights} → Making (copy s d r b) s d
    by_cut : {s d : ℕ} {k : Kind} → Making (cut s k d) s d

  -- slot s of thread p holds a capability with birth j
  unfoldable pub Holds : World Cpu → ℕ → ℕ → ℕ → Type 0
  Holds w p s j = (u : ℕ) × (r : Rights) × (b : ℕ) × (m : ℕ) × (slot Cpu fresh act w p s ≡ cap u r b j m)

  -- doing and happening say how a call is done and what an event does: in the laws as in this world; elsewhere they are faulty, and a law has to refuse them
  module _ (doing : Sizes → World Cpu → ℕ → Call → Went Cpu fresh act) (happening : Sizes → World Cpu → Event → World Cpu) where
    -- k was made from j in event e: thread p, which is ready, makes a copy or a cut that comes back with 0, with slot s, which holds j before, into slot d, which holds k after
    pub data MadeNow (z : Sizes) (w : World Cpu) (e : Event) (j k : ℕ) : Type 0 where
      made_by : (p s d f a : ℕ) (x : Call) (c : Cpu) (ps : List ℕ) (rs : List Bool) (then : List ℕ → Cpu) (v : World Cpu) → e ≡ tick p → object Cpu fresh act w p ≡ thread f ready c a ps rs →
          act c (seen Cpu fresh act z w ps) ≡ call x then → Making x s d → doing z w p x ≡ on v (0 ∷ []) → Holds w p s j → Holds (happening z w e) p d k → MadeNow z w e j k

    -- k was made from j in a row of events: in its first event, in the rest, or through another
    pub data MadeIn (z : Sizes) : World Cpu → List Event → ℕ → ℕ → Type 0 where
      in_first : {w : World Cpu} {e : Event} {es : List Event} {j k : ℕ} → MadeNow z w e j k → MadeIn z w (e ∷ es) j k
      in_rest : {w : World Cpu} {e : Event} {es : List Event} {j k : ℕ} → MadeIn z (happening z w e) es j k → MadeIn z w (e ∷ es) j k
      through : {w : World Cpu} {es : List Event} {j i k : ℕ} → MadeIn z w es j i → MadeIn z w es i k → MadeIn z w es j k

    -- the one with birth j is revoked in event e: thread p, which is ready, makes a revoke of slot s, which holds j, that comes back with 0
    pub data RevokedNow (z : Sizes) (w : World Cpu) (e : Event) (j : ℕ) : Type 0 where
      revoked_by : (p s f a : ℕ) (c : Cpu) (ps : List ℕ) (rs : List Bool) (then : List ℕ → Cpu) (v : World Cpu) → e ≡ tick p → object Cpu fresh act w p ≡ thread f ready c a ps rs →
          act c (seen Cpu fresh act z w ps) ≡ call (revoke s) then → doing z w p (revoke s) ≡ on v (0 ∷ []) → Holds w p s j → RevokedNow z w e j

    -- after a row of events es from a start, an event e in which j is revoked, and any row fs, nothing that was made from j in es is in any slot; running says what a row of events does
    unfoldable pub RevokedByCallsIn : (Sizes → World Cpu → List Event → World Cpu) → Type 0
    RevokedByCallsIn running =
        (z : Sizes) (v : World Cpu) (es : List Event) (e : Event) (j k o i t c n : ℕ) (q : Rights) → 1 ≤ z.bytes → Parted (λ o. true) v →
        MadeIn z v es j k → RevokedNow z (running z v es) e j →
        (fs : List Event) → slice_index_or (slots_of Cpu fresh act (object Cpu fresh act (running z (happening z (running z v es) e) fs) o)) i empty ≢ cap t q c k n

  unfoldable pub RevokedByCalls : Type 0
  RevokedByCalls = RevokedByCallsIn (does Cpu fresh act) (event Cpu fresh act) (run Cpu fresh act)

  -- the world's record is exact: what was made from what in a row of events is in it, and nothing else is
  unfoldable pub RecordIsExact : Type 0
  RecordIsExact =
      (z : Sizes) (v : World Cpu) (es : List Event) (j k : ℕ) → 1 ≤ z.bytes → Parted (λ o. true) v →
      (MadeIn (does Cpu fresh act) (event Cpu fresh act) z v es j k → among k (offspring Cpu fresh act (run Cpu fresh act z v es) (run Cpu fresh act z v es).births (j ∷ [])) ≡ true) ×
      (among k (offspring Cpu fresh act (run Cpu fresh act z v es) (run Cpu fresh act z v es).births (j ∷ [])) ≡ true → MadeIn (does Cpu fresh act) (event Cpu fresh act) z v es j k)

  -- object t goes with pool u: it was cut from it, or from one that goes with it
  pub data GoesWith (w : World Cpu) (u : ℕ) : ℕ → Type 0 where
    cut_from : {t : ℕ} → from_of Cpu fresh act (object Cpu fresh act w t) ≡ suc u → GoesWith w u t
    cut_on : {i t : ℕ} → GoesWith w u i → from_of Cpu fresh act (object Cpu fresh act w t) ≡ suc i → GoesWith w u t

  -- why a slot of object o that held a capability to object t with birth k is another once one with birth j was revoked at the end of a row of events from world v, which left world x:
  -- k was made from j in that row, or t is gone, or o is
  pub data Taken (z : Sizes) (v : World Cpu) (es : List Event) (x : World Cpu) (j k t o : ℕ) : Type 0 where
    was_made : MadeIn (does Cpu fresh act) (event Cpu fresh act) z v es j k → Taken z v es x j k t o
    leads_to_gone : object Cpu fresh act x t ≡ gone → Taken z v es x j k t o
    is_in_gone : object Cpu fresh act x o ≡ gone → Taken z v es x j k t o

  -- what a revoke that came back with 0 takes, and that it takes nothing else: of a pool all that goes with it is gone; no other object goes, and where it is no pool none;
  -- and a slot holds what it held unless that was made from what was revoked, or leads to what is gone, or is in it
  unfoldable pub RevokeTakes : Type 0
  RevokeTakes =
      (z : Sizes) (v x : World Cpu) (es : List Event) (p s u b j m : ℕ) (r : Rights) → 1 ≤ z.bytes → Parted (λ o. true) v →
      slot Cpu fresh act (run Cpu fresh act z v es) p s ≡ cap u r b j m → does Cpu fresh act z (run Cpu fresh act z v es) p (revoke s) ≡ on x (0 ∷ []) →
      ((t : ℕ) → is_pool Cpu fresh act (object Cpu fresh act (run Cpu fresh act z v es) u) ≡ true → GoesWith (run Cpu fresh act z v es) u t → object Cpu fresh act x t ≡ gone) ×
      ((t : ℕ) → object Cpu fresh act (run Cpu fresh act z v es) t ≢ gone → object Cpu fresh act x t ≡ gone →
      (is_pool Cpu fresh act (object Cpu fresh act (run Cpu fresh act z v es) u) ≡ true) × GoesWith (run Cpu fresh act z v es) u t) ×
      ((o i t c k n : ℕ) (q : Rights) → slice_index_or (slots_of Cpu fresh act (object Cpu fresh act (run Cpu fresh act z v es) o)) i empty ≡ cap t q c k n →
      slice_index_or (slots_of Cpu fresh act (object Cpu fresh act x o)) i empty ≢ cap t q c k n → Taken z v es x j k t o)

  -- WHAT STANDS CUT. What an object that stands costs: a pool its bytes, a table 64 bytes for each slot, a port 64, a page its bytes
  unfoldable pub cost_of : Object Cpu → ℕ
  cost_of gone = 0
  cost_of (pool f n u) = n
  cost_of (table f ss) = length ss * 64
  cost_of (port f ws) = 64
  cost_of (page f bs) = length bs
  cost_of (thread f s c t ps rs) = 0
  cost_of (line xs ys) = 0

  -- what the objects that were cut from the pool with the number f - 1 cost together
  unfoldable pub standing : ℕ → List (Object Cpu) → ℕ
  standing f [] = 0
  standing f (x ∷ xs) = pick (from_of Cpu fresh act x == f) (cost_of x) 0 + standing f xs

  -- every page has as many bytes as pages have
  unfoldable pub Paged : Sizes → World Cpu → Type 0
  Paged z w = (o f : ℕ) (bs : List ℕ) → object Cpu fresh act w o ≡ page f bs → length bs ≡ z.bytes

  -- worlds as an image can carry them are starts that the laws speak of: of right kinds and pages, threads uncut, pools not overdrawn, nothing cut
  unfoldable pub ImageStarts : Type 0
  ImageStarts =
      (z : Sizes) (frames : List (Object Cpu) → ℕ) (w : World Cpu) → ((o : ℕ) → o < length w.objects → New z (object Cpu fresh act w o)) → Fits frames w →
      Kinds w × Uncut w × ((o f n u : ℕ) → object Cpu fresh act w o ≡ pool f n u → u ≤ n) × Paged z w × ((o : ℕ) → from_of Cpu fresh act (object Cpu fresh act w o) ≡ 0)

  -- from a start of right kinds and pages at which nothing is cut, what is used of a pool covers what stands cut from it, however events are run
  unfoldable pub UsedCoversIn : (Sizes → World Cpu → List Event → World Cpu) → Type 0
  UsedCoversIn running =
      (z : Sizes) (v : World Cpu) (es : List Event) (o f n u : ℕ) → 1 ≤ z.bytes → Kinds v → Paged z v → ((t : ℕ) → from_of Cpu fresh act (object Cpu fresh act v t) ≡ 0) →
      object Cpu fresh act (running z v es) o ≡ pool f n u → standing (suc o) (running z v es).objects ≤ u

  -- what is used of a pool covers what stands cut from it; and what is cut stands for what it cost
  unfoldable pub UsedCovers : Type 0
  UsedCovers = UsedCoversIn (run Cpu fresh act) × ((z : Sizes) (f : ℕ) (k : Kind) → cost_of (made Cpu fresh act z f k) ≡ cost z k)

-- a number is a multiple of another
unfoldable pub Multiple : ℕ → ℕ → Type 0
Multiple s m = (k : ℕ) × (m ≡ k * s)

-- filling up goes to the least multiple that is not below: it is one, it is not below, and no smaller one is; and kinds are filled up to multiples of something
unfoldable pub FillsUpLeast : Type 0
FillsUpLeast =
    ((s n : ℕ) → 0 < s → Multiple s (up_to s n) × (n ≤ up_to s n) × ((m : ℕ) → Multiple s m → n ≤ m → up_to s n ≤ m)) ×
    ((z : Sizes) (k : Kind) → 1 ≤ z.bytes → 0 < step_of z k)

-- PORTS: who is met, and what comes back. What happens at ports is noted event by event, and the laws are about what was noted

-- what is noted of a port: a thread comes to send, with a badge and words; a thread comes to receive; a sender and a receiver meet, and badge and words go over
pub data Note : Type 0 where
  sends : ℕ → ℕ → ℕ → List ℕ → Note
  receives : ℕ → ℕ → Note
  meets : ℕ → ℕ → ℕ → ℕ → List ℕ → Note

-- what somebody came to send: thread, badge, words
pub data Sent : Type 0 where
  message : ℕ → ℕ → List ℕ → Sent

-- a message and the thread that got it
pub data Meeting : Type 0 where
  got_by : Sent → ℕ → Meeting

-- what was sent at port o, in the order of coming
unfoldable pub sent_at : ℕ → List Note → List Sent
sent_at o [] = []
sent_at o (sends k t b ws ∷ ns) = pick (k == o) (message t b ws ∷ sent_at o ns) (sent_at o ns)
sent_at o (receives k t ∷ ns) = sent_at o ns
sent_at o (meets k t q b ws ∷ ns) = sent_at o ns

-- who came to receive at port o, in the order of coming
unfoldable pub asked_at : ℕ → List Note → List ℕ
asked_at o [] = []
asked_at o (sends k t b ws ∷ ns) = asked_at o ns
asked_at o (receives k t ∷ ns) = pick (k == o) (t ∷ asked_at o ns) (asked_at o ns)
asked_at o (meets k t q b ws ∷ ns) = asked_at o ns

-- who met at port o, in the order of the meetings
unfoldable pub met_at : ℕ → List Note → List Meeting
met_at o [] = []
met_at o (sends k t b ws ∷ ns) = met_at o ns
met_at o (receives k t ∷ ns) = met_at o ns
met_at o (meets k t q b ws ∷ ns) = pick (k == o) (got_by (message t b ws) q ∷ met_at o ns) (met_at o ns)

-- one who waits is in a row
pub data IsIn (y : Wait) : List Wait → Type 0 where
  is_first : {ws : List Wait} → IsIn y (y ∷ ws)
  is_later : {x : Wait} {ws : List Wait} → IsIn y ws → IsIn y (x ∷ ws)

-- the first message goes to the first who asks, the second to the second, as far as both go
unfoldable pub paired : List Sent → List ℕ → List Meeting
paired [] qs = []
paired (x ∷ xs) [] = []
paired (x ∷ xs) (q ∷ qs) = got_by x q ∷ paired xs qs

module _ (Cpu : Type 0) (fresh : ℕ → Cpu) (act : Cpu → (ℕ → ℕ) → Act Cpu) where
  -- who waits at a port, first come first; nobody at what isn't one
  unfoldable pub row_of : Object Cpu → List Wait
  row_of gone = []
  row_of (pool f n u) = []
  row_of (table f ss) = []
  row_of (port f ws) = ws
  row_of (page f bs) = []
  row_of (thread f s c t ps rs) = []
  row_of (line xs ys) = []

  -- the thread that came first of those who wait
  unfoldable pub first_of : List Wait → ℕ
  first_of [] = 0
  first_of (x ∷ ws) = waits_thread Cpu fresh act x

  -- what is noted of a send of thread p at port o, with t the first who waits there: it waits, or it comes back with 0 and has met t, or it was refused
  unfoldable pub send_noted : ℕ → ℕ → ℕ → ℕ → List ℕ → Went Cpu fresh act → List Note
  send_noted o p t b ws (wait v k) = sends o p b ws ∷ []
  send_noted o p t b ws (on v []) = []
  send_noted o p t b ws (on v (a ∷ bs)) = pick (a == 0) (sends o p b ws ∷ meets o p t b ws ∷ []) []

  -- the same of a receive, which comes back with 0, the badge and the words
  unfoldable pub receive_noted : ℕ → ℕ → ℕ → Went Cpu fresh act → List Note
  receive_noted o p t (wait v k) = receives o p ∷ []
  receive_noted o p t (on v []) = []
  receive_noted o p t (on v (a ∷ [])) = []
  receive_noted o p t (on v (a ∷ b ∷ ws)) = pick (a == 0) (receives o p ∷ meets o t p b ws ∷ []) []

  -- the object that slot s of thread p leads to
  unfoldable pub port_at : World Cpu → ℕ → ℕ → ℕ
  port_at w p s = slot_object (slot Cpu fresh act w p s) - 1

  -- the thread that came first of those who wait at object o
  unfoldable pub first_at : World Cpu → ℕ → ℕ
  first_at w o = first_of (row_of (object Cpu fresh act w o))

  -- what is noted goes by what comes back from the calls. doing says how a call is done: in the laws as in this world; elsewhere it is faulty, and a law has to refuse it
  module _ (doing : Sizes → World Cpu → ℕ → Call → Went Cpu fresh act) where
    -- what is noted of a call, by what comes back
    unfoldable pub call_noted : Sizes → World Cpu → ℕ → Call → List Note
    call_noted z w p (cut s k d) = []
    call_noted z w p (copy s d r b) = []
    call_noted z w p (move s d) = []
    call_noted z w p (drop_it s) = []
    call_noted z w p (revoke s) = []
    call_noted z w p (send s ws g h) =
        send_noted (port_at w p s) p (first_at w (port_at w p s)) (slot_badge (slot Cpu fresh act w p s)) (take 4 ws) (doing z w p (send s ws g h))
    call_noted z w p (receive s d) = receive_noted (port_at w p s) p (first_at w (port_at w p s)) (doing z w p (receive s d))
    call_noted z w p (map s t a) = []
    call_noted z w p (unmap t a) = []
    call_noted z w p (bind t s) = []
    call_noted z w p (go t a) = []
    call_noted z w p (say s b) = []
    call_noted z w p (hear s) = []

    -- what is noted of an instruction: of the call, if it is one
    unfoldable pub act_noted : Sizes → World Cpu → ℕ → Act Cpu → List Note
    act_noted z w p (quiet c) = []
    act_noted z w p (store a bs c) = []
    act_noted z w p (call c then) = call_noted z w p c
    act_noted z w p wrong = []

    -- what is noted of a thread's time: of the call that it makes, if it is ready
    unfoldable pub tick_noted : Sizes → World Cpu → ℕ → Object Cpu → List Note
    tick_noted z w p gone = []
    tick_noted z w p (pool f n u) = []
    tick_noted z w p (table f ss) = []
    tick_noted z w p (port f ws) = []
    tick_noted z w p (page f bs) = []
    tick_noted z w p (thread f stopped c t ps rs) = []
    tick_noted z w p (thread f ready c t ps rs) = act_noted z w p (act c (seen Cpu fresh act z w ps))
    tick_noted z w p (thread f (waits o then) c t ps rs) = []
    tick_noted z w p (line xs ys) = []

    -- what is noted of an event
    unfoldable pub event_noted : Sizes → World Cpu → Event → List Note
    event_noted z w (tick p) = tick_noted z w p (object Cpu fresh act w p)
    event_noted z w (byte o b) = []

    -- what is noted of a row of events. happening says what an event does
    unfoldable pub log : (Sizes → World Cpu → Event → World Cpu) → Sizes → World Cpu → List Event → List Note
    log happening z w [] = []
    log happening z w (e ∷ es) = event_noted z w e ++ log happening z (happening z w e) es

  -- the first who came to send at a port met the first who came to receive there, the second the second, and so on; each got what was sent
  unfoldable pub FirstComeIn : (Sizes → World Cpu → ℕ → Call → Went Cpu fresh act) → (Sizes → World Cpu → Event → World Cpu) → Type 0
  FirstComeIn doing happening =
      (z : Sizes) (v : World Cpu) (es : List Event) (o : ℕ) → 1 ≤ z.bytes → Parted Cpu fresh act (λ o. true) v → Kinds Cpu fresh act v → Uncut Cpu fresh act v →
      met_at o (log doing happening z v es) ≡ paired (sent_at o (log doing happening z v es)) (asked_at o (log doing happening z v es))

  unfoldable pub FirstCome : Type 0
  FirstCome = FirstComeIn (does Cpu fresh act) (event Cpu fresh act)

  -- what became of thread t, which waited in the row of port o to go on with then, in an event of which ns was noted and after which the world is w
  pub data Back (row : List Wait) (ns : List Note) (w : World Cpu) (t f o : ℕ) (then : List ℕ → Cpu) : Type 0 where
    -- it waits on
    waits_on : (c : Cpu) (a : ℕ) (ps : List ℕ) (rs : List Bool) → object Cpu fresh act w t ≡ thread f (waits o then) c a ps rs → Back row ns w t f o then
    -- it came to send: one receiver got the badge and words that it waited with, and it goes on with 0
    was_heard : (q b a s : ℕ) (h g : Bool) (ws ps : List ℕ) (rs : List Bool) → IsIn (sender t b ws h g s) row → met_at o ns ≡ got_by (message t b ws) q ∷ [] →
        object Cpu fresh act w t ≡ thread f ready (then (0 ∷ [])) a ps rs → Back row ns w t f o then
    -- it came to receive: it goes on with 0 and the badge and words of one sender
    was_told : (q b a d : ℕ) (ws ps : List ℕ) (rs : List Bool) → IsIn (receiver t d) row → met_at o ns ≡ got_by (message q b ws) t ∷ [] →
        object Cpu fresh act w t ≡ thread f ready (then (0 ∷ b ∷ ws)) a ps rs → Back row ns w t f o then
    -- the port is gone: it goes on with no
    was_ended : (a : ℕ) (ps : List ℕ) (rs : List Bool) → object Cpu fresh act w o ≡ gone → object Cpu fresh act w t ≡ thread f ready (then (no ∷ [])) a ps rs → Back row ns w t f o then

  -- who waited comes back with 0 only by a meeting that is noted, with the words of that meeting; and with no only if the port is gone
  unfoldable pub ComesBack : Type 0
  ComesBack =
      (z : Sizes) (v : World Cpu) (es : List Event) (e : Event) (t f o a : ℕ) (c : Cpu) (ps : List ℕ) (rs : List Bool) (then : List ℕ → Cpu) → 1 ≤ z.bytes → Parted Cpu fresh act (λ o. true) v → Kinds Cpu fresh act v → Uncut Cpu fresh act v →
      object Cpu fresh act (run Cpu fresh act z v es) t ≡ thread f (waits o then) c a ps rs →
      Back (row_of (object Cpu fresh act (run Cpu fresh act z v es) o)) (event_noted (does Cpu fresh act) z (run Cpu fresh act z v es) e) (event Cpu fresh act z (run Cpu fresh act z v es) e) t f o then

  -- what became of a send of thread p at port o with badge b and words ws, in the event of the call, of which ns was noted and after which the world is w
  pub data SendBack (ns : List Note) (w : World Cpu) (p f o b : ℕ) (ws : List ℕ) (then : List ℕ → Cpu) : Type 0 where
    -- it was refused: it goes on with no, and nothing is noted
    send_refused : (a : ℕ) (ps : List ℕ) (rs : List Bool) → ns ≡ [] → object Cpu fresh act w p ≡ thread f ready (then (no ∷ [])) a ps rs → SendBack ns w p f o b ws then
    -- it came and waits
    send_waits : (c : Cpu) (a : ℕ) (ps : List ℕ) (rs : List Bool) → ns ≡ sends o p b ws ∷ [] → object Cpu fresh act w p ≡ thread f (waits o then) c a ps rs → SendBack ns w p f o b ws then
    -- it came, one receiver got its badge and words, and it goes on with 0
    send_done : (q a : ℕ) (ps : List ℕ) (rs : List Bool) → ns ≡ sends o p b ws ∷ meets o p q b ws ∷ [] → object Cpu fresh act w p ≡ thread f ready (then (0 ∷ [])) a ps rs → SendBack ns w p f o b ws then

  -- the same of a receive
  pub data ReceiveBack (ns : List Note) (w : World Cpu) (p f o : ℕ) (then : List ℕ → Cpu) : Type 0 where
    receive_refused : (a : ℕ) (ps : List ℕ) (rs : List Bool) → ns ≡ [] → object Cpu fresh act w p ≡ thread f ready (then (no ∷ [])) a ps rs → ReceiveBack ns w p f o then
    receive_waits : (c : Cpu) (a : ℕ) (ps : List ℕ) (rs : List Bool) → ns ≡ receives o p ∷ [] → object Cpu fresh act w p ≡ thread f (waits o then) c a ps rs → ReceiveBack ns w p f o then
    receive_done : (q b a : ℕ) (ws ps : List ℕ) (rs : List Bool) → ns ≡ receives o p ∷ meets o q p b ws ∷ [] → object Cpu fresh act w p ≡ thread f ready (then (0 ∷ b ∷ ws)) a ps rs → ReceiveBack ns w p f o then

  -- a send or a receive is refused, waits, or comes back at once with 0 by a meeting that is noted; in every world
  unfoldable pub AtOnce : Type 0
  AtOnce =
      ((z : Sizes) (w : World Cpu) (p f a s h : ℕ) (g : Bool) (c : Cpu) (ws ps : List ℕ) (rs : List Bool) (then : List ℕ → Cpu) → object Cpu fresh act w p ≡ thread f ready c a ps rs →
      act c (seen Cpu fresh act z w ps) ≡ call (send s ws g h) then →
      SendBack (event_noted (does Cpu fresh act) z w (tick p)) (event Cpu fresh act z w (tick p)) p f (port_at w p s) (slot_badge (slot Cpu fresh act w p s)) (take 4 ws) then) ×
      ((z : Sizes) (w : World Cpu) (p f a s d : ℕ) (c : Cpu) (ps : List ℕ) (rs : List Bool) (then : List ℕ → Cpu) → object Cpu fresh act w p ≡ thread f ready c a ps rs →
      act c (seen Cpu fresh act z w ps) ≡ call (receive s d) then →
      ReceiveBack (event_noted (does Cpu fresh act) z w (tick p)) (event Cpu fresh act z w (tick p)) p f (port_at w p s) then)

  -- thread t, which waited at port o in world w, goes on in world v with words ws
  unfoldable pub Woken : World Cpu → World Cpu → ℕ → ℕ → List ℕ → Type 0
  Woken w v o t ws =
      (f : ℕ) × (a : ℕ) × (b : ℕ) × (c : Cpu) × (ps : List ℕ) × (qs : List ℕ) × (rs : List Bool) × (ms : List Bool) × (then : List ℕ → Cpu) ×
      (object Cpu fresh act w t ≡ thread f (waits o then) c a ps rs) × (object Cpu fresh act v t ≡ thread f ready (then ws) b qs ms)

  -- thread t, which was ready in world w, made a call in event e, and goes on in world v with words ws
  unfoldable pub Replied : Sizes → World Cpu → World Cpu → Event → ℕ → List ℕ → Type 0
  Replied z w v e t ws =
      (f : ℕ) × (a : ℕ) × (b : ℕ) × (c : Cpu) × (d : Call) × (ps : List ℕ) × (qs : List ℕ) × (rs : List Bool) × (ms : List Bool) × (then : List ℕ → Cpu) × (e ≡ tick t) ×
      (object Cpu fresh act w t ≡ thread f ready c a ps rs) × (act c (seen Cpu fresh act z w ps) ≡ call d then) × (object Cpu fresh act v t ≡ thread f ready (then ws) b qs ms)

  -- t, who sent badge b and words ws at port o, and q, who received them, both go on in event e: t with 0, q with 0, the badge and the words
  pub data BothGoOn (z : Sizes) (w v : World Cpu) (e : Event) (o t q b : ℕ) (ws : List ℕ) : Type 0 where
    sender_waited : Woken w v o t (0 ∷ []) → Replied z w v e q (0 ∷ b ∷ ws) → BothGoOn z w v e o t q b ws
    receiver_waited : Replied z w v e t (0 ∷ []) → Woken w v o q (0 ∷ b ∷ ws) → BothGoOn z w v e o t q b ws

  -- whoever meets goes on in that very event: if a meeting is noted in it, one of the two waited there and the other made a call, and both go on.
  -- doing, happening and running say what a call, an event and a row of events do: in the law as in this world; elsewhere they are faulty, and what is noted goes by them too
  unfoldable pub MetGoOnIn : (Sizes → World Cpu → ℕ → Call → Went Cpu fresh act) → (Sizes → World Cpu → Event → World Cpu) → (Sizes → World Cpu → List Event → World Cpu) → Type 0
  MetGoOnIn doing happening running =
      (z : Sizes) (v : World Cpu) (es : List Event) (e : Event) (o t q b : ℕ) (ws : List ℕ) (ns ms : List Note) → 1 ≤ z.bytes → Parted Cpu fresh act (λ o. true) v → Kinds Cpu fresh act v →
      event_noted doing z (running z v es) e ≡ ns ++ meets o t q b ws ∷ ms → BothGoOn z (running z v es) (happening z (running z v es) e) e o t q b ws

  unfoldable pub MetGoOn : Type 0
  MetGoOn = MetGoOnIn (does Cpu fresh act) (event Cpu fresh act) (run Cpu fresh act)
