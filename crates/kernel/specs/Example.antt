-- What these laws ask for can be met. Assumes nothing: these are definitions and a statement.
use Rattle.std.specs.Prelude.{◌≡◌, ℕ, zero, suc, true, false, List, [], ◌∷◌, length, replicate, Option, Some, None, slice_set}
use Rattle.rights.specs.Vocabulary.{everything}
use Rattle.rights.specs.World as w
use Rattle.rv32.specs.Registers.{fresh}
use Rattle.board.specs.declared.slots.Capability.{Capability}
use Rattle.board.specs.declared.slots.Object.{Object}
use Rattle.board.specs.declared.slots.Object.TheVariants as at
use Rattle.board.specs.Links.{put_next, put_prev, put_depth}
use Rattle.board.specs.Parts.{page_at}
use Rattle.board.specs.Slots.{put_slot}
use Rattle.space.specs.declared.side.State.TheVariants.{Ready}
use Rattle.space.specs.declared.side.Thread.{Thread}
use Rattle.space.specs.Lines as lines
use Rattle.space.specs.Side as side
use Rattle.space.specs.Tables as tables
use Rattle.calls.specs.Machine.{Machine, with_thread, with_line}
use Rattle.chain.specs.Entries.{Entry}
use Rattle.kernel.specs.Core.{World}
use Rattle.kernel.specs.Events.{Happened, silent, stop, byte}
use Rattle.kernel.specs.Relation.{Rep, bits_of}

-- object 0 is a thread, 1 a table of one slot, 2 a page, 3 a line
abbrev pub small_spot : ℕ → Option Object
small_spot zero = Some (at.Thread 0)
small_spot (suc zero) = Some (at.Table 65 1)
small_spot (suc (suc zero)) = Some (at.Page 1)
small_spot (suc (suc (suc zero))) = Some (at.Line 0)
small_spot (suc (suc (suc (suc o)))) = None

-- the slot leads to the line, by birth 1
abbrev pub small_capability : Capability
small_capability = record { object = at.Line 0; rights = bits_of everything; badge = 0 }

abbrev pub small_ring : List Entry
small_ring = record { place = 65; depth = 0; birth = 1 } ∷ []

-- any two frames with that slot in the second
abbrev pub small_bytes : List ℕ → List ℕ
small_bytes m = put_prev (put_next (put_depth (put_slot m 65 (Some small_capability)) 65 0) 65 65) 65 65

-- the thread is ready, has the table, and the page as page 1 of its space
abbrev pub small_thread : Thread
small_thread = record (side.fresh_thread 0) { state = Ready; table = Some (record { place = 65; slots = 1 }); pages = tables.map_page tables.fresh 1 1 true }

abbrev pub small_machine : List ℕ → Machine
small_machine m = record { bytes = small_bytes m; side = with_line (with_thread side.fresh 0 small_thread) 0 (lines.fresh 3) }

abbrev pub small_world : List ℕ → World
small_world m = record {
  objects =
      w.thread 0 w.ready (fresh 0) 2 (slice_set (replicate 64 0) 1 3) (slice_set (replicate 64 false) 1 true)
      ∷ w.table 0 (w.cap 3 everything 0 1 0 ∷ [])
      ∷ w.page 0 (page_at (small_bytes m) 1)
      ∷ w.line [] [] ∷ [];
  births = 1;
  lineage = [];
}

-- that machine is that world; its thread has an instruction's time, in which it stops, since no page is at address 0; and any byte comes in at its line
abbrev pub CanBeMet : Type 0
CanBeMet =
    (m : List ℕ) → length m ≡ 8192 →
    Rep small_spot small_ring (small_machine m) (small_world m)
    × Happened small_spot (small_machine m) (w.tick 0) (silent (stop (small_machine m) 0))
    × ((b : ℕ) → Happened small_spot (small_machine m) (w.byte 3 b) (silent (byte (small_machine m) 0 b)))
