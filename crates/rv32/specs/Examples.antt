-- What the theorems take for granted can be met: an example for each. Assumes nothing: these are definitions and statements.
use Rattle.std.specs.Prelude.{◌≡◌, ℕ, ◌%◌, ◌<◌, ◌≤◌, cond, [], ◌∷◌, pos, negsuc, ◌==◌}
use Rattle.rights.specs.Request.{choose}
use Rattle.rights.specs.World as world
use Rattle.rv32.specs.declared.registers.Cpu.{Cpu}
use Rattle.rv32.specs.declared.forms.Operation.TheVariants.{Add}
use Rattle.rv32.specs.declared.forms.Width.TheVariants.{Word}
use Rattle.rv32.specs.declared.forms.Loading.TheVariants.{Lw}
use Rattle.rv32.specs.declared.forms.Instruction.TheVariants.{Load, OpImm}
use Rattle.rv32.specs.Registers.{fresh, gone_on}
use Rattle.rv32.specs.Execute.{size, act}
use Rattle.rv32.specs.Encode.{Legal, encode}
use Rattle.rv32.specs.Sound.{Sound}
use Rattle.rv32.specs.Reach.{at_hand, named, Agree, Stops}

-- a memory that has LW x1, 4(x0), which is 0x00402083, in every word
abbrev pub loads : ℕ → ℕ
loads a = choose (a % 4) ((0, 0x83) ∷ (1, 0x20) ∷ (2, 0x40) ∷ []) 0

-- the same with another byte at 8
abbrev pub loads' : ℕ → ℕ
loads' a = cond (a == 8) 1 (loads a)

-- the sizes of the board
abbrev pub sizes : world.Sizes
sizes = record { bytes = 4096; pages = 64; heard = 1024 }

-- a world of one thread, ready, that has no page
abbrev pub alone : world.World Cpu
alone = record { objects = world.thread 0 world.ready (fresh 0) 0 [] [] ∷ []; births = 0; lineage = [] }

-- an instruction in range; a sound core, and what it does there; an aligned access; two memories that differ and agree where the load reads; a thread that stops
pub record Met : Type 0 where
  -- ADDI x1, x0, -1
  pub legal : Legal (OpImm Add 1 0 (negsuc 0)) × (encode (OpImm Add 1 0 (negsuc 0)) ≡ 0xfff00093)
  pub sound : Sound (fresh 0) × ((a : ℕ) → loads a ≤ 256) × (act (fresh 0) loads ≡ world.quiet (gone_on (fresh 0) 1 0x00402083 4))
  pub aligned : (4092 % size Word ≡ 0) × (3 < size Word)
  pub loaded : at_hand (fresh 0) loads ≡ Load Lw 1 0 (pos 4)
  pub agree : Agree loads loads' 0 4 × Agree loads loads' (named (fresh 0) (at_hand (fresh 0) loads)).0 (named (fresh 0) (at_hand (fresh 0) loads)).1 × (loads 8 ≡ 0x83) × (loads' 8 ≡ 1)
  pub stopped :
      (world.object Cpu fresh act alone 0 ≡ world.thread 0 world.ready (fresh 0) 0 [] [])
      × Stops sizes [] [] (act (fresh 0) (world.seen Cpu fresh act sizes alone []))
