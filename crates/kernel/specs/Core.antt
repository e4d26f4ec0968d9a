-- The abstract world at the core RV32I, by short names. Assumes nothing: these are definitions.
use Rattle.std.specs.Prelude.{ℕ, List}
use Rattle.rights.specs.World as w
use Rattle.rv32.specs.declared.registers.Cpu.{Cpu}
use Rattle.rv32.specs.Registers.{fresh}
use Rattle.rv32.specs.Execute.{act}

abbrev pub World : Type 0
World = w.World Cpu

abbrev pub Object : Type 0
Object = w.Object Cpu

abbrev pub object : World → ℕ → Object
object v o = w.object Cpu fresh act v o

abbrev pub slots_of : Object → List w.Slot
slots_of x = w.slots_of Cpu fresh act x

abbrev pub slot : World → ℕ → ℕ → w.Slot
slot v p s = w.slot Cpu fresh act v p s

abbrev pub Went : Type 0
Went = w.Went Cpu fresh act

-- pages of 4,096 bytes, 64 pages to a space, 1,024 bytes that can wait at a line
abbrev pub sizes : w.Sizes
sizes = record { bytes = 4096; pages = 64; heard = 1024 }

abbrev pub does : World → ℕ → w.Call → Went
does v p c = w.does Cpu fresh act sizes v p c
