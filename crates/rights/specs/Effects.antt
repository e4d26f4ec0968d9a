-- What calls and events do, in words that a party can read in place of the world's own definitions. Each statement is a type; a proof of it is a theorem, and stands elsewhere. Assumes nothing.
-- They are about every core: Cpu is what a core keeps, fresh a new one, act what the instruction at hand does.
use Rattle.std.specs.Prelude.{◌≡◌, ◌≢◌, ℕ, suc, ◌-◌, ◌%◌, ◌≤◌, ◌<◌, Bool, true, false, List, [], ◌∷◌, ◌++◌, ◌==◌, length, take, slice_index, slice_index_or, slice_set}
use Rattle.rights.specs.World.{Act, World, Sizes, Event, Object, Slot, Rights, Call, Kind, State, Wait, Went}
use Rattle.rights.specs.World.{empty, cap, gone, pool, table, port, page, thread, line, stopped, ready, waits, tick, sender, receiver, call, on, wait, no}
use Rattle.rights.specs.World.{cut, copy, move, drop_it, revoke, send, receive, map, unmap, bind, go, say, hear}
use Rattle.rights.specs.World.{object, event, run, does, seen, slot, has_slot, slots_of, from_of, table_of, waits_thread, is_pool, is_page, is_table, made, all_rights, meet, pick, slot_object, slot_rights, slot_badge, slot_birth, is_empty}
use Rattle.rights.specs.Promise.{Parted, Kinds, Uncut, Paged, Sized, filled, MadeIn, Taken, IsIn, Sent, message, Meeting, got_by, met_at, log}

-- WHAT STAYS of an object: its kind, its size and the pool that it was cut from (the pool's number + 1, 0 for none)
pub data Shape : Type 0 where
  no_shape : Shape
  pool_shape : ℕ → ℕ → Shape
  table_shape : ℕ → ℕ → Shape
  port_shape : ℕ → Shape
  page_shape : ℕ → ℕ → Shape
  thread_shape : ℕ → Shape
  line_shape : Shape

-- the messages of some meetings, in order
unfoldable pub messages : List Meeting → List Sent
messages [] = []
messages (got_by x q ∷ ms) = x ∷ messages ms

module _ (Cpu : Type 0) (fresh : ℕ → Cpu) (act : Cpu → (ℕ → ℕ) → Act Cpu) where
  -- what slot i of object o holds
  abbrev pub slot_at : World Cpu → ℕ → ℕ → Slot
  slot_at w o i = slice_index_or (slots_of Cpu fresh act (object Cpu fresh act w o)) i empty

  -- the object that slot s of thread p leads to
  abbrev pub led_to : World Cpu → ℕ → ℕ → ℕ
  led_to w p s = slot_object (slot Cpu fresh act w p s) - 1

  -- WHERE A CAPABILITY COMES FROM. Thread p, which is ready, makes call x in event e
  pub data Calls (z : Sizes) (w : World Cpu) (e : Event) (p : ℕ) (x : Call) : Type 0 where
    it_calls : (f a : ℕ) (c : Cpu) (ps : List ℕ) (rs : List Bool) (then : List ℕ → Cpu) → e ≡ tick p → object Cpu fresh act w p ≡ thread f ready c a ps rs →
        act c (seen Cpu fresh act z w ps) ≡ call x then → Calls z w e p x

  -- in event e thread p hands on its slot s, and thread q gets it in slot d: one of the two waits first in the row of a port, the other comes to it.
  -- p said that it hands on when it sent, with a capability to the port that may hand on
  pub data HandsOn (z : Sizes) (w : World Cpu) (e : Event) (p s q d : ℕ) : Type 0 where
    to_who_waits : (n f : ℕ) (ws : List ℕ) (row : List Wait) → Calls z w e p (send n ws true s) → (slot_rights (slot Cpu fresh act w p n)).hands ≡ true →
        object Cpu fresh act w (led_to w p n) ≡ port f (receiver q d ∷ row) → HandsOn z w e p s q d
    from_who_waits : (n b f : ℕ) (ws : List ℕ) (row : List Wait) → Calls z w e q (receive n d) →
        object Cpu fresh act w (led_to w q n) ≡ port f (sender p b ws true true s ∷ row) → HandsOn z w e p s q d

  -- the slot with number i of thread p, a slot of object o, was empty
  unfoldable pub WasFree : World Cpu → ℕ → ℕ → ℕ → Type 0
  WasFree w p o i = (table_of Cpu fresh act (object Cpu fresh act w p) ≡ suc o) × (slot_at w o i ≡ empty)

  -- happening says what an event does, running what a row of events does: in the laws as in this world; elsewhere they are faulty, and a law has to refuse them
  module _ (happening : Sizes → World Cpu → Event → World Cpu) where
    -- how y came to be in slot i of object o by event e: it was there before; or the slot was empty, and a thread whose slot it is moved y there from a slot that is empty then,
    -- or got it from one that handed it on and whose slot is empty then, or made it by a copy of what another slot holds, or by a cut
    pub data Whence (z : Sizes) (w : World Cpu) (e : Event) (o i : ℕ) (y : Slot) : Type 0 where
      stayed : slot_at w o i ≡ y → Whence z w e o i y
      by_move : (p s : ℕ) → WasFree w p o i → Calls z w e p (move s i) → slot Cpu fresh act w p s ≡ y → slot Cpu fresh act (happening z w e) p s ≡ empty → Whence z w e o i y
      by_hand_on : (p s q : ℕ) → WasFree w q o i → HandsOn z w e p s q i → slot Cpu fresh act w p s ≡ y → slot Cpu fresh act (happening z w e) p s ≡ empty → Whence z w e o i y
      by_copying : (p s u b c j m : ℕ) (r q : Rights) → WasFree w p o i → Calls z w e p (copy s i q c) → slot Cpu fresh act w p s ≡ cap u r b j m →
          y ≡ cap u (meet r q) (pick (b == 0) c b) (suc w.births) j → Whence z w e o i y
      by_cutting : (p s u b j m : ℕ) (r : Rights) (k : Kind) → WasFree w p o i → Calls z w e p (cut s k i) → slot Cpu fresh act w p s ≡ cap u r b j m →
          y ≡ cap (length w.objects) (all_rights Cpu fresh act) 0 (suc w.births) j → Whence z w e o i y

    -- every capability that is in a slot after an event came there in one of these ways. So none is written over, and none changes
    unfoldable pub WhenceIn : Type 0
    WhenceIn = (z : Sizes) (w : World Cpu) (e : Event) (o i : ℕ) (y : Slot) → slot_at (happening z w e) o i ≡ y → is_empty y ≡ false → Whence z w e o i y

  -- in every world, also one that no row of events leads to
  unfoldable pub ComesFrom : Type 0
  ComesFrom = WhenceIn (event Cpu fresh act)

  -- from a start no birth is ever in two slots
  unfoldable pub OnceStaysIn : (Sizes → World Cpu → List Event → World Cpu) → Type 0
  OnceStaysIn running =
      (z : Sizes) (v : World Cpu) (es : List Event) (o i u b j m p k t c n : ℕ) (r q : Rights) → Parted Cpu fresh act (λ o. true) v →
      slot_at (running z v es) o i ≡ cap u r b j m → slot_at (running z v es) p k ≡ cap t q c j n → (o ≡ p) × (i ≡ k)

  unfoldable pub OnceStays : Type 0
  OnceStays = OnceStaysIn (run Cpu fresh act)

  -- WHAT A CALL DOES, in place of the world's definition: when it is done, and what it leaves; else it is refused and leaves the world as it was.
  -- Slot s of thread p holds something; slot d is there and empty; what slot s holds has a right
  unfoldable pub Full : World Cpu → ℕ → ℕ → Type 0
  Full w p s = is_empty (slot Cpu fresh act w p s) ≡ false

  unfoldable pub Free : World Cpu → ℕ → ℕ → Type 0
  Free w p d = (has_slot Cpu fresh act w p d ≡ true) × (is_empty (slot Cpu fresh act w p d) ≡ true)

  unfoldable pub Reads : World Cpu → ℕ → ℕ → Type 0
  Reads w p s = (slot_rights (slot Cpu fresh act w p s)).reads ≡ true

  unfoldable pub Writes : World Cpu → ℕ → ℕ → Type 0
  Writes w p s = (slot_rights (slot Cpu fresh act w p s)).writes ≡ true

  unfoldable pub Hands : World Cpu → ℕ → ℕ → Type 0
  Hands w p s = (slot_rights (slot Cpu fresh act w p s)).hands ≡ true

  -- an object is a pool that is large enough for a kind; a thread of which something is said; a line at which a byte waits
  unfoldable pub HasRoom : Sizes → Kind → Object Cpu → Type 0
  HasRoom z k x = (f : ℕ) × (n : ℕ) × (u : ℕ) × (x ≡ pool f n u) × (filled Cpu fresh act z k u ≤ n)

  unfoldable pub IsThread : Object Cpu → (State Cpu → List ℕ → Type 0) → Type 0
  IsThread x P = (f : ℕ) × (s : State Cpu) × (c : Cpu) × (t : ℕ) × (ps : List ℕ) × (rs : List Bool) × (x ≡ thread f s c t ps rs) × P s ps

  unfoldable pub IsLine : Object Cpu → (List ℕ → Type 0) → Type 0
  IsLine x P = (xs : List ℕ) × (ys : List ℕ) × (x ≡ line xs ys) × P ys

  -- when a call is done. A send and a receive are not among them: see AtOnce
  unfoldable pub When : Sizes → World Cpu → ℕ → Call → Type 0
  When z w p (cut s k d) = Full w p s × Writes w p s × Free w p d × Sized Cpu fresh act k × HasRoom z k (object Cpu fresh act w (led_to w p s))
  When z w p (copy s d r b) = Full w p s × Hands w p s × Free w p d
  When z w p (move s d) = Full w p s × Free w p d
  When z w p (drop_it s) = Full w p s
  When z w p (revoke s) = Full w p s × (is_pool Cpu fresh act (object Cpu fresh act w (led_to w p s)) ≡ true → Writes w p s)
  When z w p (send s ws g h) = ⊥
  When z w p (receive s d) = ⊥
  When z w p (map s t a) =
      Full w p s × Full w p t × Reads w p s × Writes w p t × (a < z.pages) × (is_page Cpu fresh act (object Cpu fresh act w (led_to w p s)) ≡ true) ×
      IsThread (object Cpu fresh act w (led_to w p t)) (λ q ps. slice_index ps a ≡ 0)
  When z w p (unmap t a) = Full w p t × Writes w p t × (a < z.pages) × IsThread (object Cpu fresh act w (led_to w p t)) (λ q ps. Unit {0})
  When z w p (bind t s) =
      Full w p t × Full w p s × Writes w p t × Writes w p s × (is_table Cpu fresh act (object Cpu fresh act w (led_to w p s)) ≡ true) ×
      IsThread (object Cpu fresh act w (led_to w p t)) (λ q ps. q ≡ stopped)
  When z w p (go t a) = Full w p t × Writes w p t × IsThread (object Cpu fresh act w (led_to w p t)) (λ q ps. q ≡ stopped)
  When z w p (say s b) = Full w p s × Writes w p s × IsLine (object Cpu fresh act w (led_to w p s)) (λ ys. Unit {0})
  When z w p (hear s) = Full w p s × Reads w p s × IsLine (object Cpu fresh act w (led_to w p s)) (λ ys. ys ≢ [])

  -- nothing was born
  unfoldable pub NoneBorn : World Cpu → World Cpu → Type 0
  NoneBorn w v = (v.births ≡ w.births) × (v.lineage ≡ w.lineage)

  -- the one that was born is recorded
  unfoldable pub OneBorn : World Cpu → World Cpu → Slot → Type 0
  OneBorn w v x = (v.births ≡ suc w.births) × (v.lineage ≡ x ∷ w.lineage)

  -- object o is x in world v, and every other is as it was in world w
  unfoldable pub Only : World Cpu → World Cpu → ℕ → Object Cpu → Type 0
  Only w v o x = (object Cpu fresh act v o ≡ x) × ((u : ℕ) → u ≢ o → object Cpu fresh act v u ≡ object Cpu fresh act w u)

  -- of thread p's table the slots are changed, and nothing else of any object
  unfoldable pub SlotsTo : World Cpu → World Cpu → ℕ → (List Slot → List Slot) → Type 0
  SlotsTo w v p change =
      (t : ℕ) × (f : ℕ) × (ss : List Slot) × (table_of Cpu fresh act (object Cpu fresh act w p) ≡ suc t) × (object Cpu fresh act w t ≡ table f ss) × Only w v t (table f (change ss))

  -- what a copy is: the same object, the rights in both, the badge that is there or the one that is asked for, a birth of its own, made from what slot s holds
  unfoldable pub the_copy : World Cpu → ℕ → ℕ → Rights → ℕ → Slot
  the_copy w p s r b =
      cap (led_to w p s) (meet (slot_rights (slot Cpu fresh act w p s)) r) (pick (slot_badge (slot Cpu fresh act w p s) == 0) b (slot_badge (slot Cpu fresh act w p s))) (suc w.births)
      (slot_birth (slot Cpu fresh act w p s))

  -- what is cut: the next number, all rights, no badge, a birth of its own, made from what slot s holds
  unfoldable pub the_cut : World Cpu → ℕ → ℕ → Slot
  the_cut w p s = cap (length w.objects) (all_rights Cpu fresh act) 0 (suc w.births) (slot_birth (slot Cpu fresh act w p s))

  -- a cut of kind k into slot d out of what slot s leads to: so much more of the pool is used, the new object is there, the slot holds it, and all else is as it was
  unfoldable pub CutTo : Sizes → World Cpu → World Cpu → ℕ → ℕ → Kind → ℕ → Type 0
  CutTo z w v p s k d =
      (f : ℕ) × (n : ℕ) × (u : ℕ) × (t : ℕ) × (g : ℕ) × (ss : List Slot) × (object Cpu fresh act w (led_to w p s) ≡ pool f n u) × (table_of Cpu fresh act (object Cpu fresh act w p) ≡ suc t) ×
      (object Cpu fresh act w t ≡ table g ss) × (object Cpu fresh act v (led_to w p s) ≡ pool f n (filled Cpu fresh act z k u)) ×
      (object Cpu fresh act v (length w.objects) ≡ made Cpu fresh act z (suc (led_to w p s)) k) × (object Cpu fresh act v t ≡ table g (slice_set ss d (the_cut w p s))) ×
      ((i : ℕ) → i ≢ led_to w p s → i ≢ length w.objects → i ≢ t → object Cpu fresh act v i ≡ object Cpu fresh act w i)

  -- after a revoke every slot holds what it held, or nothing. Which ones, and which objects go: see RevokeTakes and RevokeExactly
  unfoldable pub Emptier : World Cpu → World Cpu → Type 0
  Emptier w v = (o i : ℕ) (y : Slot) → slot_at v o i ≡ y → is_empty y ≡ false → slot_at w o i ≡ y

  -- the thread that slot t leads to is another, and nothing else of any object
  unfoldable pub ThreadTo : World Cpu → World Cpu → ℕ → (ℕ → State Cpu → Cpu → ℕ → List ℕ → List Bool → Object Cpu) → Type 0
  ThreadTo w v o change =
      (f : ℕ) × (q : State Cpu) × (c : Cpu) × (t : ℕ) × (ps : List ℕ) × (rs : List Bool) × (object Cpu fresh act w o ≡ thread f q c t ps rs) × Only w v o (change f q c t ps rs)

  -- what a call that is done leaves: world v, and the words ws after the 0 that comes back
  unfoldable pub Leaves : Sizes → World Cpu → ℕ → Call → World Cpu → List ℕ → Type 0
  Leaves z w p (cut s k d) v ws = (ws ≡ []) × OneBorn w v (the_cut w p s) × CutTo z w v p s k d
  Leaves z w p (copy s d r b) v ws = (ws ≡ []) × OneBorn w v (the_copy w p s r b) × SlotsTo w v p (λ ss. slice_set ss d (the_copy w p s r b))
  Leaves z w p (move s d) v ws = (ws ≡ []) × NoneBorn w v × SlotsTo w v p (λ ss. slice_set (slice_set ss d (slot Cpu fresh act w p s)) s empty)
  Leaves z w p (drop_it s) v ws = (ws ≡ []) × NoneBorn w v × SlotsTo w v p (λ ss. slice_set ss s empty)
  Leaves z w p (revoke s) v ws = (ws ≡ []) × NoneBorn w v × Emptier w v
  Leaves z w p (send s us g h) v ws = ⊥
  Leaves z w p (receive s d) v ws = ⊥
  Leaves z w p (map s t a) v ws =
      (ws ≡ []) × NoneBorn w v ×
      ThreadTo w v (led_to w p t) (λ f q c b ps rs. thread f q c b (slice_set ps a (suc (led_to w p s))) (slice_set rs a (slot_rights (slot Cpu fresh act w p s)).writes))
  Leaves z w p (unmap t a) v ws = (ws ≡ []) × NoneBorn w v × ThreadTo w v (led_to w p t) (λ f q c b ps rs. thread f q c b (slice_set ps a 0) (slice_set rs a false))
  Leaves z w p (bind t s) v ws = (ws ≡ []) × NoneBorn w v × ThreadTo w v (led_to w p t) (λ f q c b ps rs. thread f q c (suc (led_to w p s)) ps rs)
  Leaves z w p (go t a) v ws = (ws ≡ []) × NoneBorn w v × ThreadTo w v (led_to w p t) (λ f q c b ps rs. thread f ready (fresh a) b ps rs)
  Leaves z w p (say s b) v ws =
      (ws ≡ []) × NoneBorn w v × ((xs : List ℕ) × (ys : List ℕ) × (object Cpu fresh act w (led_to w p s) ≡ line xs ys) × Only w v (led_to w p s) (line (xs ++ b % 256 ∷ []) ys))
  Leaves z w p (hear s) v ws =
      NoneBorn w v × ((xs : List ℕ) × (y : ℕ) × (ys : List ℕ) × (ws ≡ y ∷ []) × (object Cpu fresh act w (led_to w p s) ≡ line xs (y ∷ ys)) × Only w v (led_to w p s) (line xs ys))

  -- whether a call is answered in its own time, whatever it finds: all but a send and a receive
  unfoldable pub answered : Call → Bool
  answered (cut s k d) = true
  answered (copy s d r b) = true
  answered (move s d) = true
  answered (drop_it s) = true
  answered (revoke s) = true
  answered (send s ws g h) = false
  answered (receive s d) = false
  answered (map s t a) = true
  answered (unmap t a) = true
  answered (bind t s) = true
  answered (go t a) = true
  answered (say s b) = true
  answered (hear s) = true

  -- a call is done exactly when it can be: if so it comes back with 0, and leaves what it is to leave; if not it is refused, and the world is as it was. doing says how a call is done
  unfoldable pub CallsDoIn : (Sizes → World Cpu → ℕ → Call → Went Cpu fresh act) → Type 0
  CallsDoIn doing =
      (z : Sizes) (w : World Cpu) (p : ℕ) (x : Call) → 1 ≤ z.bytes → answered x ≡ true →
      (When z w p x → (v : World Cpu) × (ws : List ℕ) × (doing z w p x ≡ on v (0 ∷ ws)) × Leaves z w p x v ws) × ((When z w p x → ⊥) → doing z w p x ≡ on w (no ∷ []))

  unfoldable pub CallsDo : Type 0
  CallsDo = CallsDoIn (does Cpu fresh act)

  -- what comes back from any call: no, and the world is as it was; or 0 first; or nothing yet, and the thread waits
  pub data Answer (w : World Cpu) : Went Cpu fresh act → Type 0 where
    says_no : Answer w (on w (no ∷ []))
    says_yes : (v : World Cpu) (ws : List ℕ) → Answer w (on v (0 ∷ ws))
    says_nothing : (v : World Cpu) (o : ℕ) → Answer w (wait v o)

  -- so a call that is refused leaves the world as it was, and its event changes nothing but the thread that called
  unfoldable pub RefusedLeavesIn : (Sizes → World Cpu → ℕ → Call → Went Cpu fresh act) → (Sizes → World Cpu → Event → World Cpu) → Type 0
  RefusedLeavesIn doing happening =
      ((z : Sizes) (w : World Cpu) (p : ℕ) (x : Call) → Answer w (doing z w p x)) ×
      ((z : Sizes) (w v : World Cpu) (p : ℕ) (x : Call) (ws : List ℕ) → doing z w p x ≡ on v (no ∷ ws) → (v ≡ w) × (ws ≡ [])) ×
      ((z : Sizes) (w v : World Cpu) (e : Event) (p u : ℕ) (x : Call) (ws : List ℕ) → Calls z w e p x → doing z w p x ≡ on v (no ∷ ws) → u ≢ p →
      object Cpu fresh act (happening z w e) u ≡ object Cpu fresh act w u)

  unfoldable pub RefusedLeaves : Type 0
  RefusedLeaves = RefusedLeavesIn (does Cpu fresh act) (event Cpu fresh act)

  -- rights never grow, by what happened, whatever the world's own record says: k was made from j by calls in a row of events from a start, through any others; both are in slots after it, and hold the same object
  unfoldable pub NoMoreByCallsIn : (Sizes → World Cpu → ℕ → Call → Went Cpu fresh act) → (Sizes → World Cpu → Event → World Cpu) → (Sizes → World Cpu → List Event → World Cpu) → Type 0
  NoMoreByCallsIn doing happening running =
      (z : Sizes) (v : World Cpu) (es : List Event) (j k o i u b m p l c n : ℕ) (r q : Rights) → Parted Cpu fresh act (λ o. true) v → MadeIn Cpu fresh act doing happening z v es j k →
      slot_at (running z v es) o i ≡ cap u r b j m → slot_at (running z v es) p l ≡ cap u q c k n →
      (q.reads ≡ true → r.reads ≡ true) × (q.writes ≡ true → r.writes ≡ true) × (q.hands ≡ true → r.hands ≡ true)

  unfoldable pub NoMoreByCalls : Type 0
  NoMoreByCalls = NoMoreByCallsIn (does Cpu fresh act) (event Cpu fresh act) (run Cpu fresh act)

  -- what is gone has none
  unfoldable pub shape : Object Cpu → Shape
  shape gone = no_shape
  shape (pool f n u) = pool_shape f n
  shape (table f ss) = table_shape f (length ss)
  shape (port f ws) = port_shape f
  shape (page f bs) = page_shape f (length bs)
  shape (thread f s c t ps rs) = thread_shape f
  shape (line xs ys) = line_shape

  -- an object has the same kind, size and pool until it is gone, and what is gone stays gone: in any world that comes about from one of right kinds and pages, what is there after any further row of events has the shape that it had
  unfoldable pub StaysIn : (Sizes → World Cpu → List Event → World Cpu) → Type 0
  StaysIn running =
      (z : Sizes) (v : World Cpu) (es fs : List Event) (o : ℕ) → Kinds Cpu fresh act v → Paged Cpu fresh act z v → o < length (running z v es).objects →
      object Cpu fresh act (running z (running z v es) fs) o ≢ gone → shape (object Cpu fresh act (running z (running z v es) fs) o) ≡ shape (object Cpu fresh act (running z v es) o)

  unfoldable pub Stays : Type 0
  Stays = StaysIn (run Cpu fresh act)

  -- A REVOKE, WHOLE. A number + 1 of an object is as it was, or none where that object is gone
  pub data UnlessGone (v : World Cpu) : ℕ → ℕ → Type 0 where
    the_same : {a : ℕ} → UnlessGone v a a
    no_longer : {u : ℕ} → object Cpu fresh act v u ≡ gone → UnlessGone v (suc u) 0

  -- a thread's state and core are as they were, or it waited at a port that is gone and goes on with no
  pub data GoesOn (v : World Cpu) (s : State Cpu) (c : Cpu) : State Cpu → Cpu → Type 0 where
    as_before : GoesOn v s c s c
    told_no : {o : ℕ} {then : List ℕ → Cpu} → s ≡ waits o then → object Cpu fresh act v o ≡ gone → GoesOn v s c ready (then (no ∷ []))

  -- a row without those whose thread is gone, in the same order
  pub data Thinned (v : World Cpu) : List Wait → List Wait → Type 0 where
    nobody : Thinned v [] []
    stays_in : {y : Wait} {ws vs : List Wait} → Thinned v ws vs → Thinned v (y ∷ ws) (y ∷ vs)
    is_left_out : {y : Wait} {ws vs : List Wait} → object Cpu fresh act v (waits_thread Cpu fresh act y) ≡ gone → Thinned v ws vs → Thinned v (y ∷ ws) vs

  -- what became of object t, which was x, in world v in which some objects are gone: it is gone itself; it is as it was; a table in which slots are emptied;
  -- a port whose row is without those who are gone; a thread whose table and pages are as they were but for what is gone, and which goes on with no if it waited at a port that is gone
  pub data Remains (v : World Cpu) (t : ℕ) (x : Object Cpu) : Type 0 where
    is_gone : object Cpu fresh act v t ≡ gone → Remains v t x
    as_it_was : object Cpu fresh act v t ≡ x → Remains v t x
    fewer_slots : (f : ℕ) (ss qs : List Slot) → x ≡ table f ss → object Cpu fresh act v t ≡ table f qs → length qs ≡ length ss → Remains v t x
    fewer_wait : (f : ℕ) (ws vs : List Wait) → x ≡ port f ws → object Cpu fresh act v t ≡ port f vs → Thinned v ws vs → Remains v t x
    less_held : (f a b : ℕ) (s q : State Cpu) (c d : Cpu) (ps qs : List ℕ) (rs : List Bool) → x ≡ thread f s c a ps rs → object Cpu fresh act v t ≡ thread f q d b qs rs → UnlessGone v a b →
        ((k : ℕ) → UnlessGone v (slice_index ps k) (slice_index qs k)) → GoesOn v s c q d → Remains v t x

  -- what is said of a revoke in the world that a row of events es from v leaves. doing and running say what a call and a row of events do
  pub record RevokeIs (doing : Sizes → World Cpu → ℕ → Call → Went Cpu fresh act) (running : Sizes → World Cpu → List Event → World Cpu) (z : Sizes) (v : World Cpu) (es : List Event) (p s u j : ℕ) (r : Rights) : Type 0 where
    -- it is refused exactly if it is a pool's and without write; else it comes back with 0
    pub refused : is_pool Cpu fresh act (object Cpu fresh act (running z v es) u) ≡ true → r.writes ≡ false → doing z (running z v es) p (revoke s) ≡ on (running z v es) (no ∷ [])
    pub done : (is_pool Cpu fresh act (object Cpu fresh act (running z v es) u) ≡ true → r.writes ≡ true) → (x : World Cpu) × (doing z (running z v es) p (revoke s) ≡ on x (0 ∷ []))
    -- if it came back with 0: nothing of the pool is used
    pub refills : (x : World Cpu) → doing z (running z v es) p (revoke s) ≡ on x (0 ∷ []) → (f n k : ℕ) →
        object Cpu fresh act (running z v es) u ≡ pool f n k → object Cpu fresh act x u ≡ pool f n 0
    -- a slot that held something is empty exactly if that was made from what was revoked, or leads to what is gone, or is in it; else it holds what it held, and a slot that was empty is
    pub empties : (x : World Cpu) → doing z (running z v es) p (revoke s) ≡ on x (0 ∷ []) → (o i t c k n : ℕ) (q : Rights) → slot_at (running z v es) o i ≡ cap t q c k n →
        (Taken Cpu fresh act z v es x j k t o → slot_at x o i ≡ empty) × ((Taken Cpu fresh act z v es x j k t o → ⊥) → slot_at x o i ≡ cap t q c k n)
    pub leaves_empty : (x : World Cpu) → doing z (running z v es) p (revoke s) ≡ on x (0 ∷ []) → (o i : ℕ) → slot_at (running z v es) o i ≡ empty → slot_at x o i ≡ empty
    -- all other objects remain as far as they do not lead to what is gone; nothing is born
    pub leaves : (x : World Cpu) → doing z (running z v es) p (revoke s) ≡ on x (0 ∷ []) → (t : ℕ) → (t ≡ u → is_pool Cpu fresh act (object Cpu fresh act (running z v es) u) ≡ false) →
        Remains x t (object Cpu fresh act (running z v es) t)
    pub births : (x : World Cpu) → doing z (running z v es) p (revoke s) ≡ on x (0 ∷ []) → NoneBorn (running z v es) x

  -- at the end of a row of events from a start at which nothing is cut, slot s of thread p holds a capability to object u with birth j, and is revoked
  unfoldable pub RevokeExactlyIn : (Sizes → World Cpu → ℕ → Call → Went Cpu fresh act) → (Sizes → World Cpu → List Event → World Cpu) → Type 0
  RevokeExactlyIn doing running =
      (z : Sizes) (v : World Cpu) (es : List Event) (p s u b j m : ℕ) (r : Rights) → 1 ≤ z.bytes → Parted Cpu fresh act (λ o. true) v →
      ((t : ℕ) → from_of Cpu fresh act (object Cpu fresh act v t) ≡ 0) → slot Cpu fresh act (running z v es) p s ≡ cap u r b j m →
      RevokeIs doing running z v es p s u j r

  unfoldable pub RevokeExactly : Type 0
  RevokeExactly = RevokeExactlyIn (does Cpu fresh act) (run Cpu fresh act)

  -- a slot that is empty can't be revoked
  unfoldable pub EmptyStays : Type 0
  EmptyStays = (z : Sizes) (w : World Cpu) (p s : ℕ) → slot Cpu fresh act w p s ≡ empty → does Cpu fresh act z w p (revoke s) ≡ on w (no ∷ [])

  -- WHAT IS SENT IS RECEIVED ONCE
  module _ (doing : Sizes → World Cpu → ℕ → Call → Went Cpu fresh act) (happening : Sizes → World Cpu → Event → World Cpu) where
    -- a send at port o is answered with 0 in event e: thread t makes it in e, and it comes back with 0; or t waits with it in the row of the port, and after e it goes on while the port is there
    pub data AnsweredNow (z : Sizes) (w : World Cpu) (e : Event) (o : ℕ) : Sent → Type 0 where
      at_once : (t s h : ℕ) (g : Bool) (us vs : List ℕ) (v : World Cpu) → Calls z w e t (send s us g h) → doing z w t (send s us g h) ≡ on v (0 ∷ vs) → led_to w t s ≡ o →
          AnsweredNow z w e o (message t (slot_badge (slot Cpu fresh act w t s)) (take 4 us))
      after_waiting : (t b s f k a : ℕ) (h g : Bool) (ws ps : List ℕ) (rs : List Bool) (row : List Wait) (c : Cpu) → object Cpu fresh act w o ≡ port f row → IsIn (sender t b ws h g s) row →
          object Cpu fresh act (happening z w e) t ≡ thread k ready c a ps rs → object Cpu fresh act (happening z w e) o ≢ gone → AnsweredNow z w e o (message t b ws)

    -- the messages that were answered with 0 at port o in a row of events, in order
    pub data Answers (z : Sizes) (o : ℕ) : World Cpu → List Event → List Sent → Type 0 where
      no_more : {w : World Cpu} → Answers z o w [] []
      one_now : {w : World Cpu} {e : Event} {es : List Event} {x : Sent} {xs : List Sent} → AnsweredNow z w e o x → Answers z o (happening z w e) es xs → Answers z o w (e ∷ es) (x ∷ xs)
      none_now : {w : World Cpu} {e : Event} {es : List Event} {xs : List Sent} → ((x : Sent) → AnsweredNow z w e o x → ⊥) → Answers z o (happening z w e) es xs → Answers z o w (e ∷ es) xs

  -- from a start, in every row of events, the messages that were answered with 0 at a port are those of the meetings that are noted of it, one for one and in the same order. So each was received once (who received goes on with it: see MetGoOn)
  unfoldable pub SentOnceIn : (Sizes → World Cpu → ℕ → Call → Went Cpu fresh act) → (Sizes → World Cpu → Event → World Cpu) → Type 0
  SentOnceIn doing happening =
      (z : Sizes) (v : World Cpu) (es : List Event) (o : ℕ) → 1 ≤ z.bytes → Parted Cpu fresh act (λ o. true) v → Kinds Cpu fresh act v → Uncut Cpu fresh act v →
      Answers doing happening z o v es (messages (met_at o (log Cpu fresh act doing happening z v es))) ×
      ((xs : List Sent) → Answers doing happening z o v es xs → xs ≡ messages (met_at o (log Cpu fresh act doing happening z v es)))

  unfoldable pub SentOnce : Type 0
  SentOnce = SentOnceIn (does Cpu fresh act) (event Cpu fresh act)
