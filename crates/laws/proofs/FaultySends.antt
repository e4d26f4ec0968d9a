-- Where the one who waited is not woken, a meeting brings only one of the two back, and a message is received that is not answered.
use mathlib.Core.Path.{◌≡◌, refl, sym, ap, subst, ◌∙◌}
use mathlib.Core.Bool.{true, false}
use mathlib.Core.List.{List, [], ◌∷◌}
use Prim.Native.Nat.{ℕ}
use native.Mathlib.Omega.{arith}
use lib.Dec.{lit≤}
use Rattle.rv32.specs.declared.registers.Cpu.{Cpu}
use Rattle.rv32.specs.Registers.{fresh as new_core}
use Rattle.rights.specs.World.{Call, send, receive, Wait, sender, receiver, Sizes, World, Event, tick, on, Went}
use Rattle.rights.specs.World.{object, with_object, slots_of, table_of, slot, is_empty, slot_object, slot_rights, slot_badge, set_state, then_of, resumed, handed, sending, receiving, refuse, does, seen, went_on, waits_thread}
use Rattle.rights.specs.Promise.{IsIn, is_first, is_later, Sent, message, met_at, log, event_noted, tick_noted, act_noted, call_noted, send_noted, receive_noted, port_at, first_at, first_of, row_of}
use Rattle.rights.specs.Effects.{messages, AnsweredNow, at_once, after_waiting, Answers, no_more, one_now, none_now, SentOnceIn}
use Rattle.laws.specs.Examples.{board, all, small, talks}
use Rattle.laws.specs.Wrong.{acts_by, ticked_by, event_by, run_by, untaken, does_unwoken, UnwokenTested}
use Rattle.laws.proofs.Tests.{clash}
use Rattle.laws.proofs.Steps.{waits_at}
use Rattle.laws.proofs.Meetings.{met_go_on}
use Rattle.laws.proofs.Sending.{sent_once}
use Rattle.laws.proofs.ExampleWorld.{starts, small_parted, small_kinds}
use Rattle.laws.proofs.FaultyHands.{core_of, space_of, call_of, called, is_called}
use Rattle.laws.proofs.FaultySteps.{unwoken_met}

abbrev doing : Sizes → World Cpu → ℕ → Call → Went Cpu new_core talks
doing = does_unwoken new_core talks

abbrev happening : Sizes → World Cpu → Event → World Cpu
happening = event_by new_core talks (does_unwoken new_core talks)

abbrev Now : World Cpu → ℕ → Sent → Type 0
Now w p x = AnsweredNow Cpu new_core talks doing happening board w (tick p) 2 x

-- thread 5 has come to send and waits
second : World Cpu
second = happening board (small all) (tick 5)

-- who is in a row of one
only_in : (y z : Wait) → IsIn y (z ∷ []) → y ≡ z
only_in y z is_first = refl
only_in y z (is_later i) = elim i [ ]

waits_thread_of : Wait → ℕ
waits_thread_of (sender t b ws h g s) = t
waits_thread_of (receiver t d) = t

-- in the first event nothing is answered: the send waits, and nobody waited
not_first : (x : Sent) → Now (small all) 5 x → ⊥
unfolding called core_of space_of call_of does_unwoken untaken does sending slot object table_of slots_of slot_object slot_rights slot_badge is_empty seen refuse
not_first x (at_once t s h g us vs v c e l) = clash (let e2 = waits_only in cc)
  where
    here : (5 ≡ t) × (send 2 (1 ∷ 2 ∷ 3 ∷ 4 ∷ []) false 0 ≡ send s us g h)
    here = let k = is_called talks (small all) 5 t (send s us g h) c in (k.0, ap (called talks (small all)) k.0 ∙ k.1)

    waits_only : doing board (small all) 5 (send 2 (1 ∷ 2 ∷ 3 ∷ 4 ∷ []) false 0) ≡ on v (0 ∷ vs)
    waits_only = ap (doing board (small all) 5) here.1 ∙ subst (λ (p : ℕ). doing board (small all) p (send s us g h) ≡ on v (0 ∷ vs)) (sym here.0) e
not_first x (after_waiting t b s f k a h g ws ps rs row c port_is in_row goes there) = none_in (subst (λ (vs : List Wait). IsIn (sender t b ws h g s) vs) empty_row in_row)
  where
    empty_row : row ≡ []
    empty_row = cc

    none_in : IsIn (sender t b ws h g s) [] → ⊥
    none_in i = elim i [ ]

-- nor in the second: it is a receive, and thread 5 waits on
not_second : (x : Sent) → Now second 6 x → ⊥
unfolding second run_by event_by ticked_by does_unwoken untaken acts_by waits_at called core_of space_of call_of first_at first_of row_of port_at slot object table_of slots_of does went_on with_object set_state is_empty slot_rights slot_badge slot_object seen sending receiving waits_thread resumed then_of handed refuse waits_thread_of
not_second x (at_once t s h g us vs v c e l) = clash (let i = is_called talks second 6 t (send s us g h) c in let k : receive 2 8 ≡ send s us g h = ap (called talks second) i.0 ∙ i.1 in cc)
not_second x (after_waiting t b s f k a h g ws ps rs row c port_is in_row goes there) =
    let l : ◌≡◌ {A = ℕ} 3 0 = ap (λ (p : ℕ). waits_at Cpu new_core talks (object Cpu new_core talks (happening board second (tick 6)) p)) (sym (it (subst (λ (vs : List Wait). IsIn (sender t b ws h g s) vs) one_row in_row))) ∙ ap (waits_at Cpu new_core talks) goes in omega arith
  where
    one_row : row ≡ sender 5 0 (1 ∷ 2 ∷ 3 ∷ 4 ∷ []) true false 0 ∷ []
    one_row = cc

    it : IsIn (sender t b ws h g s) (sender 5 0 (1 ∷ 2 ∷ 3 ∷ 4 ∷ []) true false 0 ∷ []) → t ≡ 5
    it i = ap waits_thread_of (only_in _ _ i)

no_answers : (w : World Cpu) (xs : List Sent) → ((x : Sent) → Now w 5 x → ⊥) → ((x : Sent) → Now (happening board w (tick 5)) 6 x → ⊥) → Answers Cpu new_core talks doing happening board 2 w (tick 5 ∷ tick 6 ∷ []) xs → xs ≡ []
no_answers w xs f g (one_now n a) = absurd (f _ n)
no_answers w xs f g (none_now n (one_now m a)) = absurd (g _ m)
no_answers w xs f g (none_now n (none_now m no_more)) = refl

pub unwoken_tested : UnwokenTested
unfolding SentOnceIn messages second met_at log run_by event_by ticked_by does_unwoken untaken acts_by event_noted tick_noted act_noted call_noted send_noted receive_noted port_at first_at first_of row_of slot object table_of slots_of does went_on with_object set_state is_empty slot_rights slot_badge slot_object seen sending receiving waits_thread resumed then_of handed refuse
unwoken_tested = (
  (met_go_on Cpu new_core talks, unwoken_met),
  (
    sent_once Cpu new_core talks,
    λ h. clash (let e : ◌≡◌ {A = List Sent} (message 5 0 (1 ∷ 2 ∷ 3 ∷ 4 ∷ []) ∷ []) [] = no_answers (small all) _ not_first not_second (h board (small all) (tick 5 ∷ tick 6 ∷ []) 2 (lit≤ tt) (small_parted new_core talks all) (small_kinds new_core talks all) (starts new_core talks).2).0 in cc),
  ),
)
