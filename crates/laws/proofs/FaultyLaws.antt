-- A faulty whole step for each law: it breaks the law, and the world's own keeps it.
use mathlib.Core.Path.{◌≡◌, refl, sym, ap, ◌∙◌}
use mathlib.Core.List.{List, [], ◌∷◌}
use Prim.Native.Nat.{ℕ, ◌≤◌}
use native.Mathlib.Omega.{arith}
use lib.Dec.{lit≤}
use borrow.Author.Tests.{le-ltb}
use lib.ListN.{get_or}
use Rattle.rv32.specs.declared.registers.Cpu.{Cpu}
use Rattle.rv32.specs.Registers.{fresh as new_core}
use Rattle.rights.specs.World.{meet, empty, move, World, tick}
use Rattle.rights.specs.World.{cost, step_of, up_to, slot_object, slot_rights, slot_badge, slot_birth, slot_mother, is_empty, copied, too_many, among, object, with_object, slots_of, from_of, table_of, slot, has_slot, with_slots, with_slot}
use Rattle.rights.specs.World.{made_from, offspring, cut_in, cuttings, emptied, without_threads, unmapped, woken, cleaned, clean_all, cleared, refilled, refuse, made, all_rights, cutting, is_pool, revoking, set_state, saying, shown_by, does, seen, went_on}
use Rattle.rights.specs.World.{waits_thread, then_of, resumed, handed, sending, receiving}
use Rattle.rights.specs.Promise.{leads_to_gone, Parted, same_object, ComesBy, by_copy, Holds, made_by, in_first, NoMoreIn, WithinIn, HeldIsThereIn, UnreachedIn, FirstComeIn, MetGoOnIn, BothGoOn, sender_waited, receiver_waited, Woken, only, mine, all_births, births_in}
use Rattle.rights.specs.Promise.{sends, met_at, sent_at, asked_at, paired, log, event_noted, tick_noted, act_noted, call_noted, send_noted, receive_noted, port_at, first_at, first_of, row_of, Meeting, got_by, message}
use Rattle.rights.specs.Effects.{RevokeExactlyIn, NoMoreByCallsIn, RefusedLeavesIn, CallsDoIn, When, Full, Free, answered, StaysIn, Shape, table_shape, shape}
use Rattle.laws.specs.Examples.{board, all, no_write, small, two, ours, talks, asks_all, cuts_pool, cuts_and_revokes, drops, crowd, queues, telling}
use Rattle.laws.specs.Wrong.{acts_by, ticked_by, event_by, run_by, left_there, got_as, with_rights, does_wide, twice_used, taken_twice, does_twice, does_leaving, lost, does_lost, receiving_last, last_first, does_last, counted, does_counting, spilled, does_spilling, grown, grows, does_growing}
use Rattle.laws.specs.Wrong.{WideTested, TwiceTested, LeavingTested, LostTested, LastTested, CountingTested, SpillingTested, GrowingTested}
use Rattle.laws.proofs.Tests.{yes_no, no_yes, clash}
use Rattle.laws.proofs.Steps.{waits_at}
use Rattle.laws.proofs.Caps.{no_more, held_is_there, on_same}
use Rattle.laws.proofs.Pools.{within}
use Rattle.laws.proofs.Order.{first_come}
use Rattle.laws.proofs.Meetings.{met_go_on}
use Rattle.laws.proofs.Unseen.{unreached}
use Rattle.laws.proofs.Narrower.{no_more_by_calls}
use Rattle.laws.proofs.Doings.{refused_leaves, calls_do}
use Rattle.laws.proofs.Shapes.{stays}
use Rattle.laws.proofs.Revoking.{revoke_exactly}
use Rattle.laws.proofs.ExampleWorld.{uncut_all, starts, small_parted, small_kinds, small_paged}
use Rattle.laws.proofs.ExampleSets.{two_parted}
use Rattle.laws.proofs.ExampleCrowd.{crowd_parted, crowd_kinds, crowd_uncut}

-- two capabilities to the pool, the second with a right that the first lacks
pub wide_tested : WideTested
unfolding NoMoreIn NoMoreByCallsIn ComesBy Holds run_by event_by ticked_by does_wide got_as with_rights acts_by slot object table_of slots_of does went_on with_object set_state is_empty slot_rights has_slot with_slot with_slots copied meet seen
wide_tested = (
  (no_more Cpu new_core asks_all, λ h. no_yes ((h board _ 4 7 0 0 8 1 4 0 0 0 0 all no_write (small no_write, tick 5 ∷ [], lit≤ tt, small_parted new_core asks_all no_write, refl) refl refl).1 refl)),
  (
    no_more_by_calls Cpu new_core asks_all,
    λ h. no_yes ((h board (small no_write) (tick 5 ∷ []) 1 8 4 0 0 0 0 4 7 0 1 no_write all (small_parted new_core asks_all no_write) (in_first (made_by 5 0 7 _ _ _ _ _ _ _ _ refl refl refl by_copy refl (_, _, _, _, refl) (_, _, _, _, refl))) refl refl).1 refl),
  ),
)

pub twice_tested : TwiceTested
unfolding WithinIn run_by event_by ticked_by does_twice taken_twice twice_used acts_by slot object table_of slots_of does cutting cost step_of up_to too_many made all_rights went_on with_object set_state is_empty slot_rights has_slot with_slot with_slots seen slot_object slot_birth refuse
twice_tested = (
  within Cpu new_core cuts_pool,
  λ h. let l : 16384 ≤ 12288 = h board (small all) (tick 5 ∷ []) (lit≤ tt) (starts new_core cuts_pool).3 0 0 12288 16384 refl in omega arith,
)

-- slot 7 holds what was cut and is gone
pub leaving_tested : LeavingTested
unfolding HeldIsThereIn RevokeExactlyIn ComesBy run_by event_by ticked_by does_leaving left_there acts_by slot object table_of slots_of from_of does cutting cost step_of up_to too_many made all_rights went_on with_object set_state is_empty slot_rights has_slot with_slot with_slots seen slot_object slot_birth slot_mother refuse is_pool revoking refilled cleared clean_all cleaned emptied woken unmapped without_threads offspring made_from cuttings cut_in among
leaving_tested = (
  (held_is_there Cpu new_core cuts_and_revokes, λ h. h board _ 4 7 7 0 8 1 all (small all, tick 5 ∷ tick 5 ∷ [], lit≤ tt, small_parted new_core cuts_and_revokes all, refl) refl refl),
  (
    revoke_exactly Cpu new_core cuts_and_revokes,
    λ h. no_yes (ap is_empty (((h board (small all) (tick 5 ∷ []) 5 0 0 0 1 0 all (lit≤ tt) (small_parted new_core cuts_and_revokes all) (uncut_all new_core cuts_and_revokes all) refl).empties _ refl 4 7 7 0 8 1 all refl).0 (leads_to_gone refl))),
  ),
)

-- thread 5 didn't wait, and object 0 is no thread
not_met : (w v : World Cpu) → waits_at Cpu new_core talks (object Cpu new_core talks w 5) ≡ 0 → waits_at Cpu new_core talks (object Cpu new_core talks w 0) ≡ 0 → BothGoOn Cpu new_core talks board w v (tick 5) 2 5 0 0 (1 ∷ 2 ∷ 3 ∷ 4 ∷ []) → ⊥
unfolding Woken waits_at
not_met w v a b (sender_waited (f, e, g, c, ps, qs, rs, ms, then, h, k) r) = let l : ◌≡◌ {A = ℕ} 3 0 = sym (ap (waits_at Cpu new_core talks) h) ∙ a in omega arith
not_met w v a b (receiver_waited r (f, e, g, c, ps, qs, rs, ms, then, h, k)) = let l : ◌≡◌ {A = ℕ} 3 0 = sym (ap (waits_at Cpu new_core talks) h) ∙ b in omega arith

pub lost_tested : LostTested
unfolding MetGoOnIn run_by event_by ticked_by does_lost lost acts_by waits_at event_noted tick_noted act_noted call_noted send_noted receive_noted port_at first_at first_of row_of slot object table_of slots_of does went_on with_object set_state is_empty slot_rights slot_badge slot_object seen sending receiving waits_thread resumed then_of handed refuse
lost_tested = (
  met_go_on Cpu new_core talks,
  λ h. not_met _ _ refl refl (h board (small all) [] (tick 5) 2 5 0 0 (1 ∷ 2 ∷ 3 ∷ 4 ∷ []) (sends 2 5 0 (1 ∷ 2 ∷ 3 ∷ 4 ∷ []) ∷ []) [] (lit≤ tt) (small_parted new_core talks all) (small_kinds new_core talks all) refl),
)

-- what the first of some meetings was about: its first word
first_word : List Meeting → ℕ
first_word [] = 0
first_word (got_by (message t b ws) q ∷ ms) = get_or ws 0 0

pub last_tested : LastTested
unfolding FirstComeIn first_word met_at sent_at asked_at paired log event_by ticked_by does_last receiving_last last_first acts_by event_noted tick_noted act_noted call_noted send_noted receive_noted port_at first_at first_of row_of slot object table_of slots_of does went_on with_object set_state is_empty slot_rights slot_badge slot_object seen sending receiving waits_thread resumed then_of handed refuse has_slot
last_tested = (
  first_come Cpu new_core queues,
  λ h. let e : ◌≡◌ {A = ℕ} 2 1 = ap first_word (h board crowd (tick 2 ∷ tick 3 ∷ tick 4 ∷ []) 0 (lit≤ tt) crowd_parted crowd_kinds crowd_uncut) in omega arith,
)

pub counting_tested : CountingTested
unfolding UnreachedIn only mine run_by event_by ticked_by does_counting counted acts_by all_births births_in slot object table_of slots_of does saying went_on with_object set_state is_empty slot_rights slot_object seen refuse shown_by with_slot with_slots
counting_tested = (
  unreached Cpu new_core telling,
  λ h. let e : ◌≡◌ {A = List ℕ} (0 ∷ 11 ∷ []) (0 ∷ 12 ∷ []) = h board ours (two all 1 1 2) (two all 1 1 2) (tick 5 ∷ tick 2 ∷ tick 2 ∷ []) (tick 2 ∷ tick 2 ∷ []) 0 (lit≤ tt) parted parted (λ u l g. same_object) refl refl refl (lit≤ tt) (λ u l. le-ltb u 3 (omega arith)) in
      let g : ◌≡◌ {A = ℕ} 11 12 = cc in omega arith,
)
  where
    parted : Parted Cpu new_core telling ours (two all 1 1 2)
    parted = two_parted new_core telling all 1 1 2 (lit≤ tt) (lit≤ tt) (lit≤ tt) (lit≤ tt) (λ e. omega arith)

-- a move of slot 3 to slot 0, which is full, is refused
spills : World Cpu
spills = with_slot Cpu new_core drops (small all) 5 3 empty

not_same : spills ≡ small all → ⊥
unfolding spills slot with_slot with_slots with_object object table_of slots_of is_empty
not_same e = yes_no (ap (λ (w : World Cpu). is_empty (slot Cpu new_core drops w 5 3)) e)

pub spilling_tested : SpillingTested
unfolding RefusedLeavesIn CallsDoIn When Full Free answered does_spilling spilled spills slot with_slot with_slots object table_of slots_of does with_object is_empty has_slot refuse
spilling_tested = (
  (refused_leaves Cpu new_core drops, λ h. not_same (h.1 board (small all) spills 5 (move 3 0) [] refl).0),
  (calls_do Cpu new_core drops, λ h. not_same (on_same Cpu new_core drops spills (small all) _ _ ((h board (small all) 5 (move 3 0) (lit≤ tt) refl).1 (λ k. no_yes k.1.1)))),
)

-- how many slots a table has
slots_in : Shape → ℕ
slots_in (table_shape f n) = n
slots_in s = 0

pub growing_tested : GrowingTested
unfolding StaysIn slots_in shape run_by event_by ticked_by does_growing grows grown acts_by slot object table_of slots_of does went_on with_object set_state is_empty slot_rights has_slot with_slot with_slots seen refuse
growing_tested = (
  stays Cpu new_core drops,
  λ h. let e : ◌≡◌ {A = ℕ} 13 12 = ap slots_in (h board (small all) [] (tick 5 ∷ []) 4 (small_kinds new_core drops all) (small_paged new_core drops all) (lit≤ tt) (λ g. clash (cc))) in omega arith,
)
