-- Threads and lines. Assumes nothing: these are definitions.
use Rattle.std.specs.Prelude.{ℕ, replicate, None}
use Rattle.rv32.specs.Registers as registers
use Rattle.space.specs.declared.side.Side.{Side}
use Rattle.space.specs.declared.side.State.TheVariants.{Stopped}
use Rattle.space.specs.declared.side.Thread.{Thread}
use Rattle.space.specs.Lines as lines
use Rattle.space.specs.Tables as tables

-- a new thread of object o: stopped, with registers that are 0, no table and no page
abbrev pub fresh_thread : ℕ → Thread
fresh_thread o = record { object = o; state = Stopped; cpu = registers.fresh 0; table = None; next = 0; pages = tables.fresh; spare = replicate 14 0 }

-- nothing is there yet: the object numbers are above every object's
abbrev pub fresh : Side
fresh = record { threads = replicate 64 (fresh_thread 4294967295); lines = replicate 32 (lines.fresh 65535) }

-- each page that lies among n units from a place on leaves a thread's space; the rest of the thread is as it was
abbrev pub without_range : ℕ → ℕ → Thread → Thread
without_range from n t = record t { pages = tables.unmap_range from n t.pages }
