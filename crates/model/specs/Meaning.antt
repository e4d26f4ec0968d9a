-- What the world in the code's own parts means: the abstract world at the core RV32I. Assumes nothing: these are definitions.
use Rattle.std.specs.Prelude.{ℕ, suc, Bool, map, reverse, Some, None, Option, nat_le}
use Rattle.rights.specs.Vocabulary.{four, rights_of, words}
use Rattle.rights.specs.World as w
use Rattle.rv32.specs.declared.registers.Cpu.{Cpu}
use Rattle.rv32.specs.Registers.{fresh, returned}
use Rattle.rv32.specs.Execute.{act}
use Rattle.model.specs.declared.objects.Capability.{Capability}
use Rattle.model.specs.declared.objects.Mapping.{Mapping}
use Rattle.model.specs.declared.objects.State.{State}
use Rattle.model.specs.declared.objects.State.TheVariants.{Stopped, Ready, Waits}
use Rattle.model.specs.declared.objects.Wait.{Wait}
use Rattle.model.specs.declared.objects.Wait.TheVariants.{Sender, Receiver}
use Rattle.model.specs.declared.objects.World.{World}
use Rattle.model.specs.Plain as p

-- pages of 4,096 bytes, 64 pages to a space, 1,024 bytes that can wait at a line
abbrev pub sizes : w.Sizes
sizes = record { bytes = 4096; pages = 64; heard = 1024 }

-- a number + 1, or 0 for none
abbrev pub number_of : Option ℕ → ℕ
number_of None = 0
number_of (Some n) = suc n

-- a page of a space: the world has one list of the pages, and one of whether they may be written
abbrev pub page_of : Mapping → ℕ
page_of m = number_of (p.page_in m)

abbrev pub may_write : Mapping → Bool
may_write m = p.mark_in m

abbrev pub cap_of : Capability → w.Slot
cap_of c = w.cap c.object (rights_of c.rights) c.badge c.birth c.mother

abbrev pub slot_of : Option Capability → w.Slot
slot_of None = w.empty
slot_of (Some c) = cap_of c

-- a thread that waits goes on from the registers that it kept
abbrev pub state_of : State → Cpu → w.State Cpu
state_of Stopped c = w.stopped
state_of Ready c = w.ready
state_of (Waits o) c = w.waits o (returned c)

abbrev pub core_of : State → Cpu → Cpu
core_of (Waits o) c = fresh 0
core_of _ c = c

abbrev pub wait_of : Wait → w.Wait
wait_of (Sender x) = w.sender x.thread x.badge (four x.words) x.hands_on (nat_le x.slot 4095) x.slot
wait_of (Receiver t s) = w.receiver t s

abbrev pub object_of : p.Thing → w.Object Cpu
object_of p.gone = w.gone
object_of (p.pool f n u) = w.pool (number_of f) n u
object_of (p.table f ss) = w.table (number_of f) (map slot_of ss)
object_of (p.port f q) = w.port (number_of f) (map wait_of q)
object_of (p.page f bs) = w.page (number_of f) bs
object_of (p.thread t) = w.thread 0 (state_of t.state t.cpu) (core_of t.state t.cpu) (number_of t.table) (map page_of t.pages) (map may_write t.pages)
object_of (p.line a b) = w.line a b

-- the lineage of the abstract world has the newest first
abbrev pub world_of : p.Whole → w.World Cpu
world_of v = record { objects = map object_of v.things; births = v.births; lineage = reverse (map slot_of v.lineage) }

-- how a call ends
abbrev pub went_of : p.Ended → w.Went Cpu fresh act
went_of (p.on v a) = w.on (world_of v) (words a)
went_of (p.wait v o) = w.wait (world_of v) o

-- the program's world
abbrev pub meant : World → w.World Cpu
meant v = world_of (p.plain v)
