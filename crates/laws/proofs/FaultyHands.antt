-- Handing on that copies, or that changes what it hands on, breaks the laws of where capabilities come from.
use mathlib.Core.Path.{◌≡◌, refl, sym, ap, subst, ◌∙◌}
use mathlib.Core.Bool.{true, false}
use mathlib.Core.List.{List, [], ◌∷◌}
use Prim.Native.Nat.{ℕ}
use native.Mathlib.Omega.{arith}
use lib.ListN.{get_or}
use Rattle.rv32.specs.declared.registers.Cpu.{Cpu}
use Rattle.rv32.specs.Registers.{fresh as new_core}
use Rattle.rights.specs.World.{Slot, empty, cap, Call, hear, receive, Act, quiet, store, call, wrong, sender, Object, gone, pool, table, port, page, thread, line, Sizes, World, Event, tick}
use Rattle.rights.specs.World.{object, with_object, slots_of, table_of, slot, has_slot, is_empty, with_slots, with_slot, slot_object, slot_rights, slot_badge, set_state, then_of, resumed, handed, sending, receiving, refuse, does, seen, went_on, run, event, ticked, acts, waits_thread}
use Rattle.rights.specs.Promise.{met_at, log, event_noted, tick_noted, act_noted, call_noted, send_noted, receive_noted, port_at, first_at, first_of, row_of}
use Rattle.rights.specs.Effects.{led_to, Calls, it_calls, to_who_waits, from_who_waits, Whence, stayed, by_move, by_hand_on, by_copying, by_cutting, WhenceIn, OnceStaysIn}
use Rattle.laws.specs.Examples.{board, all, no_write, small, hands_over, HandsOver}
use Rattle.laws.specs.Wrong.{acts_by, ticked_by, event_by, run_by, left_there, does_copying, got_as, does_changing, rebadged, widened, CopyingTested, RebadgedTested, WidenedTested}
use Rattle.laws.proofs.Tests.{yes_no, no_yes, clash}
use Rattle.laws.proofs.ExampleWorld.{small_parted}
use Rattle.laws.proofs.Arrivals.{comes_from, once_stays}

pub handed_over : HandsOver
unfolding met_at log event_noted tick_noted act_noted call_noted send_noted receive_noted port_at first_at first_of row_of slot object table_of slots_of run event ticked acts does went_on with_object set_state is_empty slot_rights slot_badge slot_object seen sending receiving waits_thread resumed then_of handed has_slot with_slot with_slots refuse
handed_over = ((_, _, refl), refl, refl, refl, refl, refl, from_who_waits 2 0 0 _ [] (it_calls _ _ _ _ _ _ refl refl refl) refl)

pub copying_tested : CopyingTested
unfolding OnceStaysIn run_by event_by ticked_by does_copying left_there acts_by slot object table_of slots_of does went_on with_object set_state is_empty slot_rights slot_badge slot_object seen sending receiving resumed then_of handed has_slot with_slot with_slots refuse
copying_tested = (
  once_stays Cpu new_core (hands_over 3),
  λ h. let e : 3 ≡ 8 = (h board (small all) (tick 6 ∷ tick 5 ∷ []) 4 3 3 0 4 0 4 8 3 0 0 all all (small_parted new_core (hands_over 3) all) refl refl).1 in omega arith,
)

-- what a thread's core, its space and the call that it makes are
unfoldable pub core_of : Object Cpu → Cpu
core_of gone = new_core 0
core_of (pool f n u) = new_core 0
core_of (table f ss) = new_core 0
core_of (port f ws) = new_core 0
core_of (page f bs) = new_core 0
core_of (thread f s c t ps rs) = c
core_of (line xs ys) = new_core 0

unfoldable pub space_of : Object Cpu → List ℕ
space_of gone = []
space_of (pool f n u) = []
space_of (table f ss) = []
space_of (port f ws) = []
space_of (page f bs) = []
space_of (thread f s c t ps rs) = ps
space_of (line xs ys) = []

unfoldable pub call_of : Act Cpu → Call
call_of (quiet c) = hear 0
call_of (store a bs c) = hear 0
call_of (call x then) = x
call_of wrong = hear 0

module _ (act : Cpu → (ℕ → ℕ) → Act Cpu) where
  unfoldable pub called : World Cpu → ℕ → Call
  called w p = call_of (act (core_of (object Cpu new_core act w p)) (seen Cpu new_core act board w (space_of (object Cpu new_core act w p))))

  pub is_called : (w : World Cpu) (q p : ℕ) (x : Call) → Calls Cpu new_core act board w (tick q) p x → (q ≡ p) × (called w p ≡ x)
  unfolding core_of space_of call_of called
  is_called w q p x (it_calls f a c ps rs then e i m) = (
    cc,
    ap (λ (o : Object Cpu). call_of (act (core_of o) (seen Cpu new_core act board w (space_of o)))) i ∙ ap call_of m,
  )

  receives_only : (w : World Cpu) (p : ℕ) (x : Call) → called w 6 ≡ receive 2 8 → Calls Cpu new_core act board w (tick 6) p x → receive 2 8 ≡ x
  receives_only w p x e c = let i = is_called w 6 p x c in sym e ∙ ap (called w) i.0 ∙ i.1

  -- thread 6 receives in its slot 8 what thread 5, which waits, hands on: its slot n. Nothing else comes there
  only_handed : (happening : Sizes → World Cpu → Event → World Cpu) (w : World Cpu) (n b f : ℕ) (us : List ℕ) (y : Slot) → called w 6 ≡ receive 2 8 → object Cpu new_core act w (led_to Cpu new_core act w 6 2) ≡ port f (sender 5 b us true true n ∷ []) →
      get_or (slots_of Cpu new_core act (object Cpu new_core act w 4)) 8 empty ≡ empty → is_empty y ≡ false → (slot Cpu new_core act w 5 n ≡ y → ⊥) → Whence Cpu new_core act happening board w (tick 6) 4 8 y → ⊥
  unfolding is_empty
  only_handed happening w n b f us y call_is row free full other (stayed e) = yes_no (ap is_empty (sym free ∙ e) ∙ full)
  only_handed happening w n b f us y call_is row free full other (by_move p s k c l m) = clash (let e = receives_only w p _ call_is c in cc)
  only_handed happening w n b f us y call_is row free full other (by_hand_on p s q k (to_who_waits m g vs ws c h e) l d) = clash (let e = receives_only w p _ call_is c in cc)
  only_handed happening w n b f us y call_is row free full other (by_hand_on p s q k (from_who_waits m a g vs ws c e) l d) = other (subst (λ (i : ℕ). slot Cpu new_core act w 5 i ≡ y) it.1 (subst (λ (i : ℕ). slot Cpu new_core act w i s ≡ y) it.0 l))
    where
      same : (m ≡ 2) × (6 ≡ q)
      same = let e = receives_only w q _ call_is c in (cc, (is_called w 6 q _ c).0)

      it : (p ≡ 5) × (s ≡ n)
      it = let i = subst (λ (j : ℕ). object Cpu new_core act w (led_to Cpu new_core act w 6 j) ≡ port g (sender p a vs true true s ∷ ws)) same.0 (subst (λ (j : ℕ). object Cpu new_core act w (led_to Cpu new_core act w j m) ≡ port g (sender p a vs true true s ∷ ws)) (sym same.1) e) in (cc, cc)
  only_handed happening w n b f us y call_is row free full other (by_copying p s u a d j m r q k c l x) = clash (let e = receives_only w p _ call_is c in cc)
  only_handed happening w n b f us y call_is row free full other (by_cutting p s u a j m r k l c x d) = clash (let e = receives_only w p _ call_is c in cc)

pub rebadged_tested : RebadgedTested
unfolding WhenceIn run event_by ticked_by does_changing got_as rebadged acts_by event ticked acts slot object table_of slots_of does went_on with_object set_state is_empty slot_rights slot_badge slot_object seen sending receiving resumed then_of handed has_slot with_slot with_slots refuse called core_of space_of call_of
rebadged_tested = (
  comes_from Cpu new_core (hands_over 3),
  λ h. only_handed (hands_over 3) _ (run Cpu new_core (hands_over 3) board (small all) (tick 5 ∷ [])) 3 0 0 _ (cap 3 all 7 4 0) refl refl refl refl (λ e. let i : ◌≡◌ {A = ℕ} 0 7 = ap slot_badge e in omega arith) (h board _ (tick 6) 4 8 (cap 3 all 7 4 0) refl refl),
)

pub widened_tested : WidenedTested
unfolding WhenceIn run event_by ticked_by does_changing got_as widened acts_by event ticked acts slot object table_of slots_of does went_on with_object set_state is_empty slot_rights slot_badge slot_object seen sending receiving resumed then_of handed has_slot with_slot with_slots refuse called core_of space_of call_of
widened_tested = (
  comes_from Cpu new_core (hands_over 0),
  λ h. only_handed (hands_over 0) _ (run Cpu new_core (hands_over 0) board (small no_write) (tick 5 ∷ [])) 0 0 0 _ (cap 0 all 0 1 0) refl refl refl refl (λ e. no_yes (ap (λ (y : Slot). (slot_rights y).writes) e)) (h board _ (tick 6) 4 8 (cap 0 all 0 1 0) refl refl),
)
