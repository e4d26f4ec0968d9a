-- What is said is what lines show: the law, a worked example, and a fault that the law finds.
-- Assumes nothing: these are definitions and statements.
use Rattle.std.specs.Prelude.{◌≡◌, ◌-◌, ◌%◌, [], ◌∷◌, ℕ}
use Rattle.rights.specs.declared.said.Said.{Said}
use Rattle.rights.specs.World.{Act, World, Sizes, Call, Went, copy, say, hear, tick, object, slot, slot_object, saying, does, run, shown_by}
use Rattle.rights.specs.Promise.{Kinds}
use Rattle.rights.specs.Said as spec
use Rattle.rv32.specs.declared.registers.Cpu.{Cpu}
use Rattle.rv32.specs.Registers as core
use Rattle.laws.specs.Examples.{board, all, reads_only, calling, small}
use Rattle.laws.specs.Wrong.{run_by}

-- from a start of right kinds, after every row of events, each line shows what it showed at the start and then exactly the bytes said on it, in order
abbrev pub SaidIsShown : Type 0
SaidIsShown = (fresh : ℕ → Cpu) (act : Cpu → (ℕ → ℕ) → Act Cpu) → spec.SaidIsShown Cpu fresh act

-- a byte that was said
abbrev pub on_line : ℕ → ℕ → Said
on_line o b = record { line = o; byte = b }

-- thread 5 says 321, which is 65 in a byte, on the line in slot 1, and then 66 on the pool in slot 0, which can't be done; between them thread 6 says 72 on the line
abbrev pub speaks : Cpu → (ℕ → ℕ) → Act Cpu
speaks = calling (say 1 321 ∷ say 0 66 ∷ hear 11 ∷ hear 11 ∷ say 1 72 ∷ [])

abbrev pub spoken_world : World Cpu
spoken_world = run Cpu core.fresh speaks board (small all) (tick 5 ∷ tick 6 ∷ tick 5 ∷ [])

-- 65 and 72 were said on line 1, and it shows them
abbrev pub Speaks : Type 0
Speaks =
    Kinds Cpu core.fresh speaks (small all)
    × (spec.said Cpu core.fresh speaks board (small all) (tick 5 ∷ tick 6 ∷ tick 5 ∷ []) ≡ on_line 1 65 ∷ on_line 1 72 ∷ [])
    × (shown_by Cpu core.fresh speaks (object Cpu core.fresh speaks spoken_world 1) ≡ 65 ∷ 72 ∷ [])

-- THE FAULT: a byte is shown whatever the right to write says
module _ (fresh : ℕ → Cpu) (act : Cpu → (ℕ → ℕ) → Act Cpu) where
  unfoldable pub does_unasked : Sizes → World Cpu → ℕ → Call → Went Cpu fresh act
  does_unasked z w p (say s b) = saying Cpu fresh act w (slot_object (slot Cpu fresh act w p s) - 1) (b % 256) (object Cpu fresh act w (slot_object (slot Cpu fresh act w p s) - 1))
  does_unasked z w p c = does Cpu fresh act z w p c

-- thread 5 copies its capability to the line to slot 7, to be read only, and says 66 there
abbrev pub whispers : Cpu → (ℕ → ℕ) → Act Cpu
whispers = calling (copy 1 7 reads_only 0 ∷ say 7 66 ∷ [])

-- the line shows what was not said, where that right isn't asked for
abbrev pub UnaskedTested : Type 0
UnaskedTested = spec.SaidIsShown Cpu core.fresh whispers × (spec.SaidIsShownIn Cpu core.fresh whispers (run_by core.fresh whispers (does_unasked core.fresh whispers)) → ⊥)
