-- Definitions of the world with a fault in each, and the law that the fault breaks: the law holds of the world's own definition and not of the faulty one.
-- Assumes nothing: these are definitions and statements.
use Rattle.std.specs.Prelude.{◌≡◌, ◌+◌, ◌==◌, length, not, ◌-◌, ◌||◌, Bool, true, false, List, [], ◌∷◌, ℕ, suc, eqb, get_or}
use Rattle.rights.specs.World.{Call, move, drop_it, say, refuse, table_of, send, receive, cut, copy, revoke, call, ready, Sizes, Event, tick, byte}
use Rattle.rights.specs.World.{object, slot, slot_object, is_pool, offspring, cleared, with_object, with_slot, does, seen, went_on, acts, ticked, event, run}
use Rattle.rights.specs.World.{Act, World, Object, Slot, Rights, Wait, Went, empty, cap, gone, table, port, page, pool, thread, line, sender, on, wait, pick, among, copied, slot_rights, slot_birth, slots_of, is_empty, cleaned, clean_all, receiving, handed}
use Rattle.rights.specs.Promise.{all_births, NoMore, NoMoreIn, Within, WithinIn, HeldIsThere, HeldIsThereIn, FirstCome, FirstComeIn, Unreached, UnreachedIn, RevokedByCalls, RevokedByCallsIn, CutExactly, CutExactlyIn, UsedCovers, UsedCoversIn, MetGoOn, MetGoOnIn, first_at, port_at}
use Rattle.rights.specs.Effects.{ComesFrom, WhenceIn, OnceStays, OnceStaysIn, NoMoreByCalls, NoMoreByCallsIn, RefusedLeaves, RefusedLeavesIn, CallsDo, CallsDoIn, Stays, StaysIn, SentOnce, SentOnceIn, RevokeExactly, RevokeExactlyIn}
use Rattle.laws.specs.Examples.{all, copies_twice, cuts_two, talks, hands_over, asks_all, cuts_pool, cuts_and_revokes, drops, queues, telling}
use Rattle.rv32.specs.Registers as core
use Rattle.rv32.specs.declared.registers.Cpu.{Cpu}

-- COPY. What is made from a capability has no right that it lacks
abbrev pub CopiesLess : (Slot → Rights → ℕ → ℕ → Slot) → Type 0
CopiesLess f =
    (o c j m b i : ℕ) (q r : Rights) →
    (((slot_rights (f (cap o q c j m) r b i)).reads ≡ true → q.reads ≡ true) × ((slot_rights (f (cap o q c j m) r b i)).writes ≡ true → q.writes ≡ true) ×
    ((slot_rights (f (cap o q c j m) r b i)).hands ≡ true → q.hands ≡ true))

-- a copy that has the rights that were asked for, also those that the first one lacks
unfoldable pub copied_wide : Slot → Rights → ℕ → ℕ → Slot
copied_wide empty r b i = empty
copied_wide (cap o q c j m) r b i = cap o r (pick (eqb c 0) b c) i j

abbrev pub CopyTested : Type 0
CopyTested = CopiesLess copied × (CopiesLess copied_wide → ⊥)

-- REVOKE. Once objects are swept, no slot of any table has one of the births
abbrev pub SweepsAll : (List ℕ → List ℕ → ℕ → List (Object Cpu) → List (Object Cpu)) → Type 0
SweepsAll g =
    (fresh : ℕ → Cpu) (act : Cpu → (ℕ → ℕ) → Act Cpu) (ids os : List ℕ) (xs : List (Object Cpu)) (o i : ℕ) (y : Slot) →
    get_or (slots_of Cpu fresh act (get_or (g ids os 0 xs) o gone)) i empty ≡ y → is_empty y ≡ false → among (slot_birth y) ids ≡ false

-- a sweep that leaves out object 1
unfoldable pub clean_but_one : (fresh : ℕ → Cpu) (act : Cpu → (ℕ → ℕ) → Act Cpu) → List ℕ → List ℕ → ℕ → List (Object Cpu) → List (Object Cpu)
clean_but_one fresh act ids os i [] = []
clean_but_one fresh act ids os i (x ∷ xs) = pick (eqb i 1) x (pick (among i os) gone (cleaned Cpu fresh act ids os x)) ∷ clean_but_one fresh act ids os (suc i) xs

abbrev pub RevokeTested : Type 0
RevokeTested = (fresh : ℕ → Cpu) (act : Cpu → (ℕ → ℕ) → Act Cpu) → SweepsAll (clean_all Cpu fresh act) × (SweepsAll (clean_but_one fresh act) → ⊥)

-- PORTS. Who receives where senders wait gets 0, the badge and the words of the first
module _ (fresh : ℕ → Cpu) (act : Cpu → (ℕ → ℕ) → Act Cpu) where
  unfoldable pub answer : Went Cpu fresh act → List ℕ
  answer (on v ws) = ws
  answer (wait v o) = []

  abbrev pub TakesFirst : (World Cpu → ℕ → ℕ → ℕ → Object Cpu → Went Cpu fresh act) → Type 0
  TakesFirst get =
      (w : World Cpu) (p o d f t b s : ℕ) (ws : List ℕ) (h g : Bool) (q : List Wait) → answer (get w p o d (port f (sender t b ws h g s ∷ q))) ≡ 0 ∷ b ∷ ws

  -- the last of a row put first
  unfoldable pub last_first : Wait → List Wait → List Wait
  last_first x [] = x ∷ []
  last_first x (y ∷ q) = pick_last (last_first y q)
    where
      pick_last : List Wait → List Wait
      pick_last [] = x ∷ []
      pick_last (l ∷ q) = l ∷ x ∷ q

  -- a port that meets the last who waits
  unfoldable pub receiving_last : World Cpu → ℕ → ℕ → ℕ → Object Cpu → Went Cpu fresh act
  receiving_last w p o d gone = receiving Cpu fresh act w p o d gone
  receiving_last w p o d (pool f n u) = receiving Cpu fresh act w p o d (pool f n u)
  receiving_last w p o d (table f ss) = receiving Cpu fresh act w p o d (table f ss)
  receiving_last w p o d (port f []) = receiving Cpu fresh act w p o d (port f [])
  receiving_last w p o d (port f (x ∷ q)) = receiving Cpu fresh act w p o d (port f (last_first x q))
  receiving_last w p o d (page f bs) = receiving Cpu fresh act w p o d (page f bs)
  receiving_last w p o d (thread f s c t ps rs) = receiving Cpu fresh act w p o d (thread f s c t ps rs)
  receiving_last w p o d (line xs ys) = receiving Cpu fresh act w p o d (line xs ys)

abbrev pub PortTested : Type 0
PortTested = (fresh : ℕ → Cpu) (act : Cpu → (ℕ → ℕ) → Act Cpu) → TakesFirst fresh act (receiving Cpu fresh act) × (TakesFirst fresh act (receiving_last fresh act) → ⊥)

-- HANDING ON. Without the right to hand on, nothing moves
abbrev pub HandsByRight : (World Cpu → Bool → ℕ → ℕ → ℕ → ℕ → World Cpu) → Type 0
HandsByRight f = (w : World Cpu) (p s q d : ℕ) → f w false p s q d ≡ w

-- a slot that is handed on whatever the right says
unfoldable pub handed_always : (fresh : ℕ → Cpu) (act : Cpu → (ℕ → ℕ) → Act Cpu) → World Cpu → Bool → ℕ → ℕ → ℕ → ℕ → World Cpu
handed_always fresh act w h p s q d = handed Cpu fresh act w true p s q d

abbrev pub HandOnTested : Type 0
HandOnTested = (fresh : ℕ → Cpu) (act : Cpu → (ℕ → ℕ) → Act Cpu) → HandsByRight (handed Cpu fresh act) × (HandsByRight (handed_always fresh act) → ⊥)

-- a capability with other rights; a pool of which twice as much is used; a table with one slot more
unfoldable pub with_rights : Rights → Slot → Slot
with_rights r empty = empty
with_rights r (cap o q b j m) = cap o r b j m

unfoldable pub twice_used : Object Cpu → Object Cpu
twice_used (pool f n u) = pool f n (u + u)
twice_used x = x

unfoldable pub grown : Object Cpu → Object Cpu
grown (table f ss) = table f (empty ∷ ss)
grown x = x

-- WHOLE STEPS. Rows of events in which calls are done in another way, and all else is as in the world
module _ (fresh : ℕ → Cpu) (act : Cpu → (ℕ → ℕ) → Act Cpu) where
  module _ (doing : Sizes → World Cpu → ℕ → Call → Went Cpu fresh act) where
    unfoldable pub acts_by : Sizes → World Cpu → ℕ → List ℕ → List Bool → Act Cpu → World Cpu
    acts_by z w p ps rs (call c then) = went_on Cpu fresh act w p then (doing z w p c)
    acts_by z w p ps rs x = acts Cpu fresh act z w p ps rs x

    unfoldable pub ticked_by : Sizes → World Cpu → ℕ → Object Cpu → World Cpu
    ticked_by z w p (thread f ready c t ps rs) = acts_by z w p ps rs (act c (seen Cpu fresh act z w ps))
    ticked_by z w p x = ticked Cpu fresh act z w p x

    unfoldable pub event_by : Sizes → World Cpu → Event → World Cpu
    event_by z w (tick p) = ticked_by z w p (object Cpu fresh act w p)
    event_by z w (byte o b) = event Cpu fresh act z w (byte o b)

    unfoldable pub run_by : Sizes → World Cpu → List Event → World Cpu
    run_by z w [] = w
    run_by z w (e ∷ es) = run_by z (event_by z w e) es

  -- with the world's own calls they are the world's own
  unfoldable pub OwnSteps : Type 0
  OwnSteps = (z : Sizes) (w : World Cpu) (es : List Event) → run_by (does Cpu fresh act) z w es ≡ run Cpu fresh act z w es

  -- a call after which the record is as it was
  unfoldable pub forgotten : World Cpu → Went Cpu fresh act → Went Cpu fresh act
  forgotten w (on v ws) = on (record { objects = v.objects; births = v.births; lineage = w.lineage }) ws
  forgotten w (wait v o) = wait v o

  -- a copy that is not recorded
  unfoldable pub does_unrecorded : Sizes → World Cpu → ℕ → Call → Went Cpu fresh act
  does_unrecorded z w p (copy s d r b) = forgotten w (does Cpu fresh act z w p (copy s d r b))
  does_unrecorded z w p c = does Cpu fresh act z w p c

  -- a revoke of what is not a pool that takes one generation only: what was made from that capability itself
  unfoldable pub revoked_once : World Cpu → ℕ → Slot → Went Cpu fresh act → Went Cpu fresh act
  revoked_once w o x g = pick (is_empty x || is_pool Cpu fresh act (object Cpu fresh act w o)) g (on (cleared Cpu fresh act w (offspring Cpu fresh act w 1 (slot_birth x ∷ [])) []) (0 ∷ []))

  unfoldable pub does_once : Sizes → World Cpu → ℕ → Call → Went Cpu fresh act
  does_once z w p (revoke s) = revoked_once w (slot_object (slot Cpu fresh act w p s) - 1) (slot Cpu fresh act w p s) (does Cpu fresh act z w p (revoke s))
  does_once z w p c = does Cpu fresh act z w p c

  -- a call after which object o is as it was
  unfoldable pub untaken : World Cpu → ℕ → Went Cpu fresh act → Went Cpu fresh act
  untaken w o (on v ws) = on (with_object Cpu fresh act v o (object Cpu fresh act w o)) ws
  untaken w o (wait v u) = wait v u

  -- a cut that takes nothing from its pool
  unfoldable pub does_untaken : Sizes → World Cpu → ℕ → Call → Went Cpu fresh act
  does_untaken z w p (cut s k d) = untaken w (slot_object (slot Cpu fresh act w p s) - 1) (does Cpu fresh act z w p (cut s k d))
  does_untaken z w p c = does Cpu fresh act z w p c

  -- a meeting after which the one who waited waits on
  unfoldable pub does_unwoken : Sizes → World Cpu → ℕ → Call → Went Cpu fresh act
  does_unwoken z w p (send s ws g h) = untaken w (first_at Cpu fresh act w (port_at Cpu fresh act w p s)) (does Cpu fresh act z w p (send s ws g h))
  does_unwoken z w p (receive s d) = untaken w (first_at Cpu fresh act w (port_at Cpu fresh act w p s)) (does Cpu fresh act z w p (receive s d))
  does_unwoken z w p c = does Cpu fresh act z w p c

  -- a call after which slot h of thread p holds what it held before
  unfoldable pub left_there : World Cpu → ℕ → ℕ → Went Cpu fresh act → Went Cpu fresh act
  left_there w p h (on v ws) = on (with_slot Cpu fresh act v p h (slot Cpu fresh act w p h)) ws
  left_there w p h (wait v o) = wait v o

  -- handing on that copies: the slot of the one who sends keeps what it holds
  unfoldable pub does_copying : Sizes → World Cpu → ℕ → Call → Went Cpu fresh act
  does_copying z w p (send s ws g h) = left_there w p h (does Cpu fresh act z w p (send s ws g h))
  does_copying z w p c = does Cpu fresh act z w p c

  -- a call after which slot d of thread p holds another thing
  unfoldable pub got_as : (Slot → Slot) → ℕ → ℕ → Went Cpu fresh act → Went Cpu fresh act
  got_as f p d (on v ws) = on (with_slot Cpu fresh act v p d (f (slot Cpu fresh act v p d))) ws
  got_as f p d (wait v o) = wait v o

  -- handing on that changes what is handed on
  unfoldable pub does_changing : (Slot → Slot) → Sizes → World Cpu → ℕ → Call → Went Cpu fresh act
  does_changing f z w p (receive s d) = got_as f p d (does Cpu fresh act z w p (receive s d))
  does_changing f z w p c = does Cpu fresh act z w p c

  -- a copy with the rights that are asked for, also those that the first lacks
  unfoldable pub does_wide : Sizes → World Cpu → ℕ → Call → Went Cpu fresh act
  does_wide z w p (copy s d r b) = got_as (with_rights r) p d (does Cpu fresh act z w p (copy s d r b))
  does_wide z w p c = does Cpu fresh act z w p c

  -- a cut that takes twice of its pool
  unfoldable pub taken_twice : ℕ → Went Cpu fresh act → Went Cpu fresh act
  taken_twice o (on v ws) = on (with_object Cpu fresh act v o (twice_used (object Cpu fresh act v o))) ws
  taken_twice o (wait v u) = wait v u

  unfoldable pub does_twice : Sizes → World Cpu → ℕ → Call → Went Cpu fresh act
  does_twice z w p (cut s k d) = taken_twice (slot_object (slot Cpu fresh act w p s) - 1) (does Cpu fresh act z w p (cut s k d))
  does_twice z w p c = does Cpu fresh act z w p c

  -- a revoke after which slot 7 holds what it held
  unfoldable pub does_leaving : Sizes → World Cpu → ℕ → Call → Went Cpu fresh act
  does_leaving z w p (revoke s) = left_there w p 7 (does Cpu fresh act z w p (revoke s))
  does_leaving z w p c = does Cpu fresh act z w p c

  -- a send that comes back with 0 where nobody receives, and is lost
  unfoldable pub lost : World Cpu → Went Cpu fresh act → Went Cpu fresh act
  lost w (on v ws) = on v ws
  lost w (wait v o) = on w (0 ∷ [])

  unfoldable pub does_lost : Sizes → World Cpu → ℕ → Call → Went Cpu fresh act
  does_lost z w p (send s ws g h) = lost w (does Cpu fresh act z w p (send s ws g h))
  does_lost z w p c = does Cpu fresh act z w p c

  -- a receive that meets the last who waits
  unfoldable pub does_last : Sizes → World Cpu → ℕ → Call → Went Cpu fresh act
  does_last z w p (receive s d) =
      pick (is_empty (slot Cpu fresh act w p s) || not (slot_rights (slot Cpu fresh act w p s)).reads) (refuse Cpu fresh act w)
      (receiving_last fresh act w p (slot_object (slot Cpu fresh act w p s) - 1) d (object Cpu fresh act w (slot_object (slot Cpu fresh act w p s) - 1)))
  does_last z w p c = does Cpu fresh act z w p c

  -- an answer that tells how many slots are full in all tables
  unfoldable pub counted : World Cpu → Went Cpu fresh act → Went Cpu fresh act
  counted w (on v ws) = on v (0 ∷ length (all_births Cpu fresh act w.objects) ∷ [])
  counted w (wait v o) = wait v o

  unfoldable pub does_counting : Sizes → World Cpu → ℕ → Call → Went Cpu fresh act
  does_counting z w p (say s b) = counted w (does Cpu fresh act z w p (say s b))
  does_counting z w p c = does Cpu fresh act z w p c

  -- a move that is refused and empties its slot
  unfoldable pub spilled : ℕ → ℕ → Went Cpu fresh act → Went Cpu fresh act
  spilled p s (on v []) = on v []
  spilled p s (on v (a ∷ ws)) = pick (a == 0) (on v (a ∷ ws)) (on (with_slot Cpu fresh act v p s empty) (a ∷ ws))
  spilled p s (wait v o) = wait v o

  unfoldable pub does_spilling : Sizes → World Cpu → ℕ → Call → Went Cpu fresh act
  does_spilling z w p (move s d) = spilled p s (does Cpu fresh act z w p (move s d))
  does_spilling z w p c = does Cpu fresh act z w p c

  -- a drop after which the table has one slot more
  unfoldable pub grows : ℕ → Went Cpu fresh act → Went Cpu fresh act
  grows p (on v ws) = on (with_object Cpu fresh act v (table_of Cpu fresh act (object Cpu fresh act v p) - 1) (grown (object Cpu fresh act v (table_of Cpu fresh act (object Cpu fresh act v p) - 1)))) ws
  grows p (wait v o) = wait v o

  unfoldable pub does_growing : Sizes → World Cpu → ℕ → Call → Went Cpu fresh act
  does_growing z w p (drop_it s) = grows p (does Cpu fresh act z w p (drop_it s))
  does_growing z w p c = does Cpu fresh act z w p c

-- the same with badge 7, and with all rights
unfoldable pub rebadged : Slot → Slot
rebadged empty = empty
rebadged (cap o r b j m) = cap o r 7 j m

unfoldable pub widened : Slot → Slot
widened empty = empty
widened (cap o r b j m) = cap o all b j m

abbrev pub StepsTested : Type 0
StepsTested = (fresh : ℕ → Cpu) (act : Cpu → (ℕ → ℕ) → Act Cpu) → OwnSteps fresh act

-- what was copied stays after the revoke, where copies are not recorded
abbrev pub UnrecordedTested : Type 0
UnrecordedTested =
    RevokedByCalls Cpu core.fresh copies_twice ×
    (RevokedByCallsIn Cpu core.fresh copies_twice (does_unrecorded core.fresh copies_twice) (event_by core.fresh copies_twice (does_unrecorded core.fresh copies_twice)) (run_by core.fresh copies_twice (does_unrecorded core.fresh copies_twice)) → ⊥)

-- the copy of a copy stays after the revoke, where it takes one generation only
abbrev pub OnceTested : Type 0
OnceTested =
    RevokedByCalls Cpu core.fresh copies_twice ×
    (RevokedByCallsIn Cpu core.fresh copies_twice (does_once core.fresh copies_twice) (event_by core.fresh copies_twice (does_once core.fresh copies_twice)) (run_by core.fresh copies_twice (does_once core.fresh copies_twice)) → ⊥)

-- more stands cut than is used, where cuts take nothing; and less is used than a cut is to take
abbrev pub UntakenTested : Type 0
UntakenTested =
    (UsedCovers Cpu core.fresh cuts_two × (UsedCoversIn Cpu core.fresh cuts_two (run_by core.fresh cuts_two (does_untaken core.fresh cuts_two)) → ⊥)) ×
    (CutExactly Cpu core.fresh cuts_two × (CutExactlyIn Cpu core.fresh cuts_two (does_untaken core.fresh cuts_two) → ⊥))

-- a meeting is noted and only one of the two goes on, where the one who waited is not woken; and a message is received that is not answered
abbrev pub UnwokenTested : Type 0
UnwokenTested =
    (MetGoOn Cpu core.fresh talks ×
    (MetGoOnIn Cpu core.fresh talks (does_unwoken core.fresh talks) (event_by core.fresh talks (does_unwoken core.fresh talks)) (run_by core.fresh talks (does_unwoken core.fresh talks)) → ⊥)) ×
    (SentOnce Cpu core.fresh talks × (SentOnceIn Cpu core.fresh talks (does_unwoken core.fresh talks) (event_by core.fresh talks (does_unwoken core.fresh talks)) → ⊥))

-- a birth is in two slots, where handing on copies
abbrev pub CopyingTested : Type 0
CopyingTested = OnceStays Cpu core.fresh (hands_over 3) × (OnceStaysIn Cpu core.fresh (hands_over 3) (run_by core.fresh (hands_over 3) (does_copying core.fresh (hands_over 3))) → ⊥)

-- a capability comes from nowhere, where handing on gives it another badge, or more rights
abbrev pub RebadgedTested : Type 0
RebadgedTested = ComesFrom Cpu core.fresh (hands_over 3) × (WhenceIn Cpu core.fresh (hands_over 3) (event_by core.fresh (hands_over 3) (does_changing core.fresh (hands_over 3) rebadged)) → ⊥)

abbrev pub WidenedTested : Type 0
WidenedTested = ComesFrom Cpu core.fresh (hands_over 0) × (WhenceIn Cpu core.fresh (hands_over 0) (event_by core.fresh (hands_over 0) (does_changing core.fresh (hands_over 0) widened)) → ⊥)

-- rights grow, where a copy has the rights that are asked for: by the world's record, and by calls
abbrev pub WideTested : Type 0
WideTested =
    (NoMore Cpu core.fresh asks_all × (NoMoreIn Cpu core.fresh asks_all (run_by core.fresh asks_all (does_wide core.fresh asks_all)) → ⊥)) ×
    (NoMoreByCalls Cpu core.fresh asks_all × (NoMoreByCallsIn Cpu core.fresh asks_all (does_wide core.fresh asks_all) (event_by core.fresh asks_all (does_wide core.fresh asks_all)) (run_by core.fresh asks_all (does_wide core.fresh asks_all)) → ⊥))

-- a pool is overdrawn, where a cut takes twice
abbrev pub TwiceTested : Type 0
TwiceTested = Within Cpu core.fresh cuts_pool × (WithinIn Cpu core.fresh cuts_pool (run_by core.fresh cuts_pool (does_twice core.fresh cuts_pool)) → ⊥)

-- a slot leads to what is gone, where a revoke leaves it; and it is not empty, as it is to be
abbrev pub LeavingTested : Type 0
LeavingTested =
    (HeldIsThere Cpu core.fresh cuts_and_revokes × (HeldIsThereIn Cpu core.fresh cuts_and_revokes (run_by core.fresh cuts_and_revokes (does_leaving core.fresh cuts_and_revokes)) → ⊥)) ×
    (RevokeExactly Cpu core.fresh cuts_and_revokes × (RevokeExactlyIn Cpu core.fresh cuts_and_revokes (does_leaving core.fresh cuts_and_revokes) (run_by core.fresh cuts_and_revokes (does_leaving core.fresh cuts_and_revokes)) → ⊥))

-- somebody meets nobody, where a send is lost
abbrev pub LostTested : Type 0
LostTested = MetGoOn Cpu core.fresh talks × (MetGoOnIn Cpu core.fresh talks (does_lost core.fresh talks) (event_by core.fresh talks (does_lost core.fresh talks)) (run_by core.fresh talks (does_lost core.fresh talks)) → ⊥)

-- the second who came is met first, where a receive meets the last who waits
abbrev pub LastTested : Type 0
LastTested = FirstCome Cpu core.fresh queues × (FirstComeIn Cpu core.fresh queues (does_last core.fresh queues) (event_by core.fresh queues (does_last core.fresh queues)) → ⊥)

-- a set sees what another does, where an answer tells how many slots are full
abbrev pub CountingTested : Type 0
CountingTested = Unreached Cpu core.fresh telling × (UnreachedIn Cpu core.fresh telling (run_by core.fresh telling (does_counting core.fresh telling)) → ⊥)

-- a call that is refused changes the world, where a refused move empties its slot
abbrev pub SpillingTested : Type 0
SpillingTested =
    (RefusedLeaves Cpu core.fresh drops × (RefusedLeavesIn Cpu core.fresh drops (does_spilling core.fresh drops) (event_by core.fresh drops (does_spilling core.fresh drops)) → ⊥)) ×
    (CallsDo Cpu core.fresh drops × (CallsDoIn Cpu core.fresh drops (does_spilling core.fresh drops) → ⊥))

-- an object has another size, where a drop makes the table larger
abbrev pub GrowingTested : Type 0
GrowingTested = Stays Cpu core.fresh drops × (StaysIn Cpu core.fresh drops (run_by core.fresh drops (does_growing core.fresh drops)) → ⊥)
