-- What is said, worked out; and the fault that the law finds.
use mathlib.Core.Path.{◌≡◌, refl, ap}
use mathlib.Core.List.{List, [], ◌∷◌}
use Prim.Native.Nat.{ℕ}
use native.Mathlib.Omega.{arith}
use lib.ListN.{length}
use Rattle.rv32.specs.declared.registers.Cpu.{Cpu}
use Rattle.rv32.specs.Registers.{fresh}
use Rattle.rights.specs.World.{meet, tick, slot_object, slot_rights, slot_birth, slot_badge, is_empty, copied, object, with_object, slots_of, table_of, slot, has_slot, with_slots, with_slot, refuse, set_state, saying, does, seen, went_on, acts, ticked, event, run, shown_by}
use Rattle.rights.specs.Said.{with_first, said_on, at_line, call_says, act_says, tick_says, event_says, said, SaidIsShownIn}
use Rattle.laws.specs.Examples.{board, all, small}
use Rattle.laws.specs.Wrong.{acts_by, ticked_by, event_by, run_by}
use Rattle.laws.specs.Speech.{speaks, Speaks, does_unasked, whispers, UnaskedTested}
use Rattle.laws.proofs.ExampleWorld.{small_kinds}
use Rattle.laws.proofs.Spoken.{said_is_shown}

pub speaking : Speaks
unfolding said with_first event_says tick_says act_says call_says at_line shown_by slot object table_of slots_of run event ticked acts does went_on with_object set_state is_empty slot_rights slot_object seen saying refuse
speaking = (small_kinds fresh speaks all, refl, refl)

pub unasked_tested : UnaskedTested
unfolding SaidIsShownIn run_by event_by ticked_by acts_by does_unasked said with_first said_on event_says tick_says act_says call_says at_line shown_by slot object table_of slots_of run event ticked acts does went_on with_object set_state is_empty slot_rights slot_badge slot_birth slot_object has_slot with_slot with_slots copied meet seen saying refuse
unasked_tested = (
  said_is_shown Cpu fresh whispers,
  λ h. let e : ◌≡◌ {A = List ℕ} (66 ∷ []) [] = h board (small all) (tick 5 ∷ tick 5 ∷ []) 1 (small_kinds fresh whispers all) in
      let l : ◌≡◌ {A = ℕ} 1 0 = ap length e in omega arith,
)
