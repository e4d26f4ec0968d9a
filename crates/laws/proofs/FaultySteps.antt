-- Faulty steps break the laws themselves, and the world's own keep them.
use mathlib.Core.Path.{◌≡◌, refl, sym, ap, ◌∙◌}
use mathlib.Core.Bool.{Bool}
use mathlib.Core.List.{List, [], ◌∷◌}
use Prim.Native.Nat.{ℕ, ◌≤◌}
use native.Mathlib.Omega.{arith}
use lib.Dec.{lit≤}
use Rattle.rv32.specs.declared.registers.Cpu.{Cpu}
use Rattle.rv32.specs.Registers.{fresh as new_core}
use Rattle.rights.specs.World.{a_page, meet, Act, quiet, store, call, wrong, stopped, ready, waits, Object, gone, pool, table, port, page, thread, line, Sizes, World, Event, tick, byte}
use Rattle.rights.specs.World.{cost, step_of, up_to, slot_object, slot_rights, slot_birth, slot_mother, is_empty, copied, too_many, among, object, with_object, slots_of, from_of, table_of, slot, has_slot, with_slots, with_slot}
use Rattle.rights.specs.World.{made_from, offspring, emptied, without_threads, unmapped, woken, cleaned, clean_all, cleared, refuse, made, all_rights, cutting, is_pool, revoking, set_state, does, seen, went_on, acts, ticked, event, run}
use Rattle.rights.specs.Promise.{CutIs, CutExactlyIn, Sized, filled, by_copy, Holds, made_by, revoked_by, in_first, in_rest, through, RevokedByCallsIn, UsedCoversIn, cost_of, standing}
use Rattle.rights.specs.Promise.{sends, row_of, first_of, send_noted, receive_noted, port_at, first_at, call_noted, act_noted, tick_noted, event_noted, Woken, BothGoOn, sender_waited, receiver_waited, MetGoOnIn}
use Rattle.rights.specs.World.{slot_badge, waits_thread, then_of, resumed, handed, sending, receiving}
use Rattle.laws.specs.Examples.{board, all, small, copies_twice, cuts_two, talks}
use Rattle.laws.specs.Wrong.{acts_by, ticked_by, event_by, run_by, OwnSteps, forgotten, does_unrecorded, revoked_once, does_once, untaken, does_untaken, StepsTested, UnrecordedTested, OnceTested, UntakenTested, does_unwoken}
use Rattle.laws.proofs.Steps.{waits_at}
use Rattle.laws.proofs.Makings.{revoked_by_calls}
use Rattle.laws.proofs.Standing.{used_covers}
use Rattle.laws.proofs.Cuts.{cut_exactly}
use Rattle.laws.proofs.Caps.{on_same}
use Rattle.laws.proofs.ExampleWorld.{small_parted, small_kinds, small_paged, uncut_all}

module _ (fresh : ℕ → Cpu) (act : Cpu → (ℕ → ℕ) → Act Cpu) where
  own_act : (z : Sizes) (w : World Cpu) (p : ℕ) (ps : List ℕ) (rs : List Bool) (x : Act Cpu) → acts_by fresh act (does Cpu fresh act) z w p ps rs x ≡ acts Cpu fresh act z w p ps rs x
  unfolding acts_by acts
  own_act z w p ps rs (quiet c) = refl
  own_act z w p ps rs (store a bs c) = refl
  own_act z w p ps rs (call c then) = refl
  own_act z w p ps rs wrong = refl

  own_tick : (z : Sizes) (w : World Cpu) (p : ℕ) (x : Object Cpu) → ticked_by fresh act (does Cpu fresh act) z w p x ≡ ticked Cpu fresh act z w p x
  unfolding ticked_by ticked
  own_tick z w p gone = refl
  own_tick z w p (pool f n u) = refl
  own_tick z w p (table f ss) = refl
  own_tick z w p (port f ws) = refl
  own_tick z w p (page f bs) = refl
  own_tick z w p (thread f stopped c t ps rs) = refl
  own_tick z w p (thread f ready c t ps rs) = own_act z w p ps rs (act c (seen Cpu fresh act z w ps))
  own_tick z w p (thread f (waits o then) c t ps rs) = refl
  own_tick z w p (line xs ys) = refl

  own_event : (z : Sizes) (w : World Cpu) (e : Event) → event_by fresh act (does Cpu fresh act) z w e ≡ event Cpu fresh act z w e
  unfolding event_by event
  own_event z w (tick p) = own_tick z w p (object Cpu fresh act w p)
  own_event z w (byte o b) = refl

  own_run : (z : Sizes) (w : World Cpu) (es : List Event) → run_by fresh act (does Cpu fresh act) z w es ≡ run Cpu fresh act z w es
  unfolding run_by run
  own_run z w [] = refl
  own_run z w (e ∷ es) = own_run z (event_by fresh act (does Cpu fresh act) z w e) es ∙ ap (λ (v : World Cpu). run Cpu fresh act z v es) (own_event z w e)

pub steps_tested : StepsTested
unfolding OwnSteps
steps_tested fresh act = own_run fresh act

pub unrecorded_tested : UnrecordedTested
unfolding RevokedByCallsIn Holds run_by event_by ticked_by does_unrecorded forgotten acts_by slot object table_of slots_of does went_on with_object set_state is_empty slot_rights has_slot with_slot with_slots copied meet seen offspring made_from among slot_mother slot_birth slot_object is_pool revoking refuse cleared clean_all cleaned emptied woken unmapped without_threads
unrecorded_tested = (
  revoked_by_calls Cpu new_core copies_twice,
  λ h. h board (small all) (tick 5 ∷ tick 5 ∷ []) (tick 5) 4 8 4 7 3 0 4 all (lit≤ tt) (small_parted new_core copies_twice all)
      (in_first (made_by 5 3 7 _ _ _ _ _ _ _ _ refl refl refl by_copy refl (_, _, _, _, refl) (_, _, _, _, refl))) (revoked_by 5 3 _ _ _ _ _ _ _ refl refl refl refl (_, _, _, _, refl)) [] refl,
)

pub once_tested : OnceTested
unfolding RevokedByCallsIn Holds run_by event_by ticked_by does_once revoked_once acts_by slot object table_of slots_of does went_on with_object set_state is_empty slot_rights has_slot with_slot with_slots copied meet seen offspring made_from among slot_mother slot_birth slot_object is_pool revoking refuse cleared clean_all cleaned emptied woken unmapped without_threads
once_tested = (
  revoked_by_calls Cpu new_core copies_twice,
  λ h. h board (small all) (tick 5 ∷ tick 5 ∷ []) (tick 5) 4 9 4 8 3 0 8 all (lit≤ tt) (small_parted new_core copies_twice all)
      (through (in_first (made_by 5 3 7 _ _ _ _ _ _ _ _ refl refl refl by_copy refl (_, _, _, _, refl) (_, _, _, _, refl))) (in_rest (in_first (made_by 5 7 8 _ _ _ _ _ _ _ _ refl refl refl by_copy refl (_, _, _, _, refl) (_, _, _, _, refl)))))
      (revoked_by 5 3 _ _ _ _ _ _ _ refl refl refl refl (_, _, _, _, refl)) [] refl,
)

-- what is used of the pool after a cut of a page
used_of : Object Cpu → ℕ
used_of (pool f n u) = u
used_of x = 0

cut_takes : CutIs Cpu new_core cuts_two (does_untaken new_core cuts_two) board (small all) 5 0 7 0 0 12288 0 1 a_page → ⊥
unfolding does_untaken untaken slot object table_of slots_of does cutting cost step_of up_to too_many filled made all_rights with_object is_empty slot_rights has_slot with_slot with_slots slot_object slot_birth refuse used_of
cut_takes c =
    let d = c.done (lit≤ tt) in
    let e : ◌≡◌ {A = ℕ} 0 4096 = ap (λ (w : World Cpu). used_of (object Cpu new_core cuts_two w 0)) (on_same Cpu new_core cuts_two _ d.0 _ _ d.1) ∙ ap used_of d.2 in omega arith

pub untaken_tested : UntakenTested
unfolding UsedCoversIn CutExactlyIn Sized run_by event_by ticked_by does_untaken untaken acts_by slot object table_of slots_of from_of does cutting cost step_of up_to too_many made all_rights went_on with_object set_state is_empty slot_rights has_slot with_slot with_slots seen slot_object slot_birth refuse standing cost_of
untaken_tested = (
  (
    used_covers Cpu new_core cuts_two,
    λ h. let l : 64 ≤ 0 = h board (small all) (tick 5 ∷ []) 0 0 12288 0 (lit≤ tt) (small_kinds new_core cuts_two all) (small_paged new_core cuts_two all) (uncut_all new_core cuts_two all) refl in omega arith,
  ),
  (cut_exactly Cpu new_core cuts_two, λ h. cut_takes (h board (small all) 5 0 7 0 0 12288 0 0 1 0 all a_page (lit≤ tt) refl refl refl refl refl tt)),
)

-- thread 5 didn't wait, and thread 6 waits on
not_both : (w v : World Cpu) → waits_at Cpu new_core talks (object Cpu new_core talks w 5) ≡ 0 → waits_at Cpu new_core talks (object Cpu new_core talks v 6) ≡ 3 → BothGoOn Cpu new_core talks board w v (tick 5) 2 5 6 0 (1 ∷ 2 ∷ 3 ∷ 4 ∷ []) → ⊥
unfolding Woken waits_at
not_both w v a b (sender_waited (f, e, g, c, ps, qs, rs, ms, then, h, k) r) = let l : ◌≡◌ {A = ℕ} 3 0 = sym (ap (waits_at Cpu new_core talks) h) ∙ a in omega arith
not_both w v a b (receiver_waited r (f, e, g, c, ps, qs, rs, ms, then, h, k)) = let l : ◌≡◌ {A = ℕ} 0 3 = sym (ap (waits_at Cpu new_core talks) k) ∙ b in omega arith

pub unwoken_met : MetGoOnIn Cpu new_core talks (does_unwoken new_core talks) (event_by new_core talks (does_unwoken new_core talks)) (run_by new_core talks (does_unwoken new_core talks)) → ⊥
unfolding MetGoOnIn run_by event_by ticked_by does_unwoken untaken acts_by waits_at event_noted tick_noted act_noted call_noted send_noted receive_noted port_at first_at first_of row_of slot object table_of slots_of does went_on with_object set_state is_empty slot_rights slot_badge slot_object seen sending receiving waits_thread resumed then_of handed refuse
unwoken_met h =
    not_both _ _ refl refl (h board (small all) (tick 6 ∷ []) (tick 5) 2 5 6 0 (1 ∷ 2 ∷ 3 ∷ 4 ∷ []) (sends 2 5 0 (1 ∷ 2 ∷ 3 ∷ 4 ∷ []) ∷ []) [] (lit≤ tt) (small_parted new_core talks all) (small_kinds new_core talks all) refl)
