-- What an instruction can reach of memory, and what is left of a thread that stops. Assumes nothing: these are statements.
use Rattle.std.specs.Prelude.{◌≡◌, ℕ, ◌+◌, ◌/◌, ◌%◌, ◌^◌, ◌<◌, ◌≤◌, Bool, false, List, length, Some, None, Option, ◌≢◌}
use Rattle.rights.specs.World as world
use Rattle.rv32.specs.declared.registers.Cpu.{Cpu}
use Rattle.rv32.specs.declared.forms.Width.{Width}
use Rattle.rv32.specs.declared.forms.Instruction.{Instruction}
use Rattle.rv32.specs.declared.forms.Instruction.TheVariants.{Lui, Auipc, Jal, Jalr, Branch, Load, Store, OpImm, Op, Fence, Ecall, Ebreak, Illegal}
use Rattle.rv32.specs.Formats.{unsigned}
use Rattle.rv32.specs.Decode.{decode}
use Rattle.rv32.specs.Registers.{fresh, x}
use Rattle.rv32.specs.Execute.{size, load_size, aligned, act}

-- an access of 1, 2 or 4 bytes at a multiple of its size lies in one page
abbrev pub OnePage : Type 0
OnePage = (t : Width) (a k : ℕ) → a % size t ≡ 0 → k < size t → (a + k) / 4096 ≡ a / 4096

-- an act stores nothing, or bytes that lie in one page
abbrev pub Inside : world.Act Cpu → Type 0
Inside (world.quiet d) = Unit {0}
Inside (world.store a bs d) = a % 4096 + length bs ≤ 4096
Inside (world.call k then) = Unit {0}
Inside world.wrong = Unit {0}

-- so does every store that an instruction asks for
abbrev pub StoresInside : Type 0
StoresInside = (c : Cpu) (m : ℕ → ℕ) → Inside (act c m)

-- the instruction that a word is, if it was there
abbrev pub instruction_of : Option ℕ → Instruction
instruction_of None = Illegal
instruction_of (Some w) = decode w

-- the instruction at the pc
abbrev pub at_hand : Cpu → (ℕ → ℕ) → Instruction
at_hand c m = instruction_of (aligned m c.pc 4)

-- the bytes that an instruction reads: from where on, and how many
abbrev pub named : Cpu → Instruction → ℕ × ℕ
named c (Lui rd i) = (0, 0)
named c (Auipc rd i) = (0, 0)
named c (Jal rd i) = (0, 0)
named c (Jalr rd rs1 i) = (0, 0)
named c (Branch t rs1 rs2 i) = (0, 0)
named c (Load t rd rs1 i) = ((x c rs1 + unsigned i) % 2 ^ 32, load_size t)
named c (Store t rs1 rs2 i) = (0, 0)
named c (OpImm o rd rs1 i) = (0, 0)
named c (Op o rd rs1 rs2) = (0, 0)
named c (Fence rd rs1 o) = (0, 0)
named c Ecall = (0, 0)
named c Ebreak = (0, 0)
named c Illegal = (0, 0)

-- two memories have the same n bytes from a on
abbrev pub Agree : (ℕ → ℕ) → (ℕ → ℕ) → ℕ → ℕ → Type 0
Agree m m' a n = (k : ℕ) → k < n → m (a + k) ≡ m' (a + k)

-- an instruction depends on the four bytes at the pc and on the bytes that it names, and on nothing else of memory
abbrev pub ReadsNamed : Type 0
ReadsNamed =
    (c : Cpu) (m m' : ℕ → ℕ) → Agree m m' c.pc 4 → Agree m m' (named c (at_hand c m)).0 (named c (at_hand c m)).1 → act c m ≡ act c m'

-- an act that stops its thread: a wrong one, or a store where none may be
abbrev pub Stops : world.Sizes → List ℕ → List Bool → world.Act Cpu → Type 0
Stops z ps rs (world.quiet d) = ⊥
Stops z ps rs (world.store a bs d) = world.may_store Cpu fresh act z ps rs a bs ≡ false
Stops z ps rs (world.call k then) = ⊥
Stops z ps rs world.wrong = Unit {0}

-- a thread that stops is as new, with pc 0; its table and its space stay, and nothing else changes
abbrev pub StopsAsNew : Type 0
StopsAsNew =
    (z : world.Sizes) (w : world.World Cpu) (p f t : ℕ) (c : Cpu) (ps : List ℕ) (rs : List Bool) →
    world.object Cpu fresh act w p ≡ world.thread f world.ready c t ps rs → Stops z ps rs (act c (world.seen Cpu fresh act z w ps)) →
    (world.object Cpu fresh act (world.event Cpu fresh act z w (world.tick p)) p ≡ world.thread f world.stopped (fresh 0) t ps rs)
    × ((o : ℕ) → (o ≢ p) → world.object Cpu fresh act (world.event Cpu fresh act z w (world.tick p)) o ≡ world.object Cpu fresh act w o)
