-- A small memory, and what an instruction does over it.
use Rattle.std.specs.Prelude.{◌≡◌, ℕ, suc, cond, List, [], ◌∷◌, Some, None, Option, replicate, nat_lt, slice_index, slice_set}
use Rattle.std.specs.declared.ops.ControlFlow.{ControlFlow}
use Rattle.std.specs.declared.ops.ControlFlow.TheVariants.{Continue, Break}
use Rattle.rights.specs.World as world
use Rattle.rv32.specs.declared.registers.Cpu.{Cpu}
use Rattle.rv32.specs.declared.forms.Width.TheVariants.{Word}
use Rattle.rv32.specs.Registers.{fresh, put}
use Rattle.rv32.specs.declared.steps.Step.{Step}
use Rattle.rv32.specs.Execute.{bytes, told}
use Rattle.rv32_tests.specs.declared.ram.Ram.{Ram}

-- all bytes are 0
abbrev pub blank : Ram
blank = record { bytes = replicate 4096 0 }

-- the byte at an address, 256 where there is none
abbrev pub byte_of : Ram → ℕ → ℕ
byte_of s a = cond (nat_lt a 4096) (slice_index s.bytes a) 256

-- a byte that is put where there is a place for it
abbrev pub put_byte : Ram → ℕ → ℕ → Ram
put_byte s a b = record { bytes = cond (nat_lt a 4096) (slice_set s.bytes a b) s.bytes }

-- bytes from an address on
abbrev pub put_bytes : Ram → ℕ → List ℕ → Ram
put_bytes s a [] = s
put_bytes s a (b ∷ bs) = put_bytes (put_byte s a b) (suc a) bs

-- an instruction at 16 and two words of data at 256
abbrev pub held : Ram → ℕ → Ram
held s w = put_bytes (put_bytes (put_bytes s 16 (bytes Word w)) 256 (bytes Word 0x01ff7f80)) 260 (bytes Word 0x12348000)

-- a core at pc 16 with x1 and x2
abbrev pub started : ℕ → ℕ → Cpu
started a b = put (put (fresh 16) 1 a) 2 b

-- the core that is left by an act that touches nothing else
abbrev pub stepped : world.Act Cpu → Option Cpu
stepped (world.quiet d) = Some d
stepped (world.store a bs d) = None
stepped (world.call k then) = None
stepped world.wrong = None

-- it does not go on, and gives the step back that means an act
abbrev pub Halts : Cpu → world.Act Cpu → ControlFlow Step (Unit {0}) → Type 0
Halts c a (Continue u) = ⊥
Halts c a (Break step) = told c step ≡ a

-- what an act leaves of a core and a memory, and whether it goes on
abbrev pub Ticked : world.Act Cpu → Cpu → Ram → ControlFlow Step (Unit {0}) → Cpu → Ram → Type 0
Ticked (world.quiet d) c s r c' s' = (r ≡ Continue tt) × (c' ≡ d) × (s' ≡ s)
Ticked (world.store a bs d) c s r c' s' = (r ≡ Continue tt) × (c' ≡ d) × (s' ≡ put_bytes s a bs)
Ticked (world.call k then) c s r c' s' = Halts c (world.call k then) r × (c' ≡ c) × (s' ≡ s)
Ticked world.wrong c s r c' s' = Halts c world.wrong r × (c' ≡ c) × (s' ≡ s)
