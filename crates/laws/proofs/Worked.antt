-- Change worlds worked out: a cut, a copy and its revoke, a meeting, two sets apart; and the revoke that is refused.
use mathlib.Core.Path.{refl}
use mathlib.Core.List.{[], ◌∷◌}
use Prim.Native.Nat.{ℕ}
use lib.Dec.{lit≤}
use Rattle.rv32.specs.declared.registers.Cpu.{Cpu}
use Rattle.rv32.specs.Registers.{fresh}
use Rattle.rights.specs.World.{meet, copy, Act, World, tick, cost, step_of, up_to, slot_object, slot_rights, slot_badge, slot_birth, slot_mother}
use Rattle.rights.specs.World.{is_empty, copied, among, object, with_object, slots_of, table_of, slot, has_slot, with_slots, with_slot, made_from}
use Rattle.rights.specs.World.{offspring, waits_thread, refuse, too_many, made, all_rights, cutting, from_of, is_pool, revoking, set_state, sending, receiving, does, seen, went_on, acts, ticked}
use Rattle.rights.specs.World.{event, run, comes_in, is_page, is_table, no as nay}
use Rattle.rights.specs.Promise.{ComesBy, Holds, by_copy, made_by, revoked_by, in_first, in_rest, through, RevokedAny, standing, cost_of, cut_from, Sized, filled, met_at, row_of, first_of, send_noted, receive_noted, port_at, first_at}
use Rattle.rights.specs.Promise.{call_noted, act_noted, tick_noted, event_noted, log}
use Rattle.rights.specs.Effects.{When, Full, Free, Reads, Writes, Hands, HasRoom, IsThread, IsLine}
use Rattle.laws.proofs.Tests.{no_yes, clash}
use Rattle.laws.specs.Examples.{CanBeDone, board, all, no_write, calling, small, Cuts, cuts_two, Stands, copies, Makes, MakesTwice, Meets}
use Rattle.laws.proofs.ExampleWorld.{small_parted, small_kinds, small_paged, uncut_all}

pub cut_both_ways : Cuts
unfolding slot object table_of slots_of has_slot Sized filled cost step_of up_to
cut_both_ways f a = (refl, refl, refl, refl, (lit≤ tt, lit≤ tt), (lit≤ tt, lit≤ tt), lit≤ tt, lit≤ tt, refl)

pub two_stand : Stands
unfolding slot object table_of slots_of from_of run event ticked acts does cutting cost step_of up_to too_many made all_rights went_on with_object set_state is_empty slot_rights has_slot with_slot with_slots seen slot_object slot_birth refuse standing cost_of is_pool revoking
two_stand = (small_kinds fresh cuts_two all, small_paged fresh cuts_two all, uncut_all fresh cuts_two all, refl, refl, refl, cut_from refl, (_, refl))

pub made_and_revoked : Makes
unfolding ComesBy slot object table_of slots_of run event ticked acts does went_on with_object set_state is_empty slot_rights has_slot with_slot with_slots copied meet seen offspring made_from among slot_mother slot_birth slot_object is_pool revoking refuse
made_and_revoked = ((small all, tick 5 ∷ [], lit≤ tt, small_parted fresh copies all, refl), refl, refl, refl, (_, refl))

pub made_twice : MakesTwice
unfolding Holds slot object table_of slots_of run event ticked acts does went_on with_object set_state is_empty slot_rights has_slot with_slot with_slots copied meet seen offspring made_from among slot_mother slot_birth slot_object is_pool revoking refuse
made_twice = (
  through (in_first (made_by 5 3 7 _ _ _ _ _ _ _ _ refl refl refl by_copy refl (_, _, _, _, refl) (_, _, _, _, refl))) (in_rest (in_first (made_by 5 7 8 _ _ _ _ _ _ _ _ refl refl refl by_copy refl (_, _, _, _, refl) (_, _, _, _, refl)))),
  revoked_by 5 3 _ _ _ _ _ _ _ refl refl refl refl (_, _, _, _, refl),
  refl,
  refl,
  (_, refl),
)

pub meeting : Meets
unfolding met_at log event_noted tick_noted act_noted call_noted send_noted receive_noted port_at first_at first_of row_of slot object table_of slots_of run event ticked acts does went_on with_object set_state is_empty slot_rights slot_badge slot_object seen sending receiving waits_thread
meeting = ((_, _, refl), refl, refl)

pub can_be_done : CanBeDone
unfolding When Full Free Reads Writes Hands HasRoom IsThread IsLine Sized filled cost step_of up_to is_pool is_page is_table run event ticked acts comes_in set_state with_object object table_of slots_of slot has_slot is_empty slot_rights slot_object seen
can_be_done = (
  (refl, refl, (refl, refl), tt, (_, _, _, refl, lit≤ tt)),
  (refl, refl, (refl, refl)),
  (refl, (refl, refl)),
  refl,
  (refl, λ e. refl),
  (refl, refl, refl, refl, lit≤ tt, refl, (_, _, _, _, _, _, refl, refl)),
  (refl, refl, lit≤ tt, (_, _, _, _, _, _, refl, tt)),
  (refl, refl, refl, refl, refl, (_, _, _, _, _, _, refl, refl)),
  (refl, refl, (_, _, _, _, _, _, refl, refl)),
  (refl, refl, (_, _, refl, tt)),
  (refl, refl, (_, _, refl, λ e. clash (cc))),
  λ h. no_yes h.1.1,
)

-- the revoke of a pool without write is refused, and leaves the copy
abbrev pub hands_on : Cpu → (ℕ → ℕ) → Act Cpu
hands_on = calling (copy 0 7 all 0 ∷ [])

abbrev left : World Cpu
left = run Cpu fresh hands_on board (small no_write) (tick 5 ∷ [])

pub refused_leaves : RevokedAny Cpu fresh hands_on → ⊥
unfolding RevokedAny ComesBy slot object table_of slots_of run event ticked acts does went_on with_object set_state is_empty slot_rights has_slot with_slot with_slots copied meet seen offspring made_from among slot_mother slot_birth slot_object is_pool refuse
refused_leaves h =
    h board left left 5 0 0 0 1 0 4 7 0 8 1 0 no_write no_write (nay ∷ []) (small no_write, tick 5 ∷ [], lit≤ tt, small_parted fresh hands_on no_write, refl) refl refl refl [] refl
