-- A machine in which each call can be done, so that none is refused whatever its arguments. Assumes nothing: these are definitions and a statement.
use Rattle.std.specs.Prelude.{◌≡◌, ℕ, List, replicate, Some}
use Rattle.rights.specs.declared.answers.Answer.TheVariants.{Done, Heard}
use Rattle.rights.specs.declared.calls.Call.{Call}
use Rattle.rights.specs.declared.calls.Call.TheVariants.{Copy, Move, Drop, Revoke, Map, Unmap, Bind, Go, Say, Hear}
use Rattle.rights.specs.Vocabulary.{all_three}
use Rattle.board.specs.declared.slots.Object.{Object}
use Rattle.board.specs.declared.slots.Object.TheVariants.{Table, Page, Thread, Line}
use Rattle.board.specs.Slots.{put_slot}
use Rattle.space.specs.declared.side.Side.{Side}
use Rattle.space.specs.Lines as lines
use Rattle.space.specs.Side as side
use Rattle.calls.specs.declared.outcomes.Outcome.{Outcome}
use Rattle.calls.specs.declared.outcomes.Outcome.TheVariants.{Answered, Said}
use Rattle.calls.specs.Machine.{Machine, with_thread, with_line}
use Rattle.calls.specs.Calls.{call}

-- the slot at a place holds an object with all rights
abbrev pub with_object : List ℕ → ℕ → Object → List ℕ
with_object m p o = put_slot m p (Some (record { object = o; rights = all_three; badge = 0 }))

-- a table of eight slots: itself, a page, a thread and a line
abbrev pub bytes : List ℕ
bytes = with_object (with_object (with_object (with_object (replicate 512 0) 1 (Table 1 8)) 2 (Page 65)) 3 (Thread 1)) 4 (Line 0)

-- thread 0 has that table; at line 0, which is object 9, a byte came in
abbrev pub beside : Side
beside = with_line (with_thread side.fresh 0 (record (side.fresh_thread 5) { table = Some (record { place = 1; slots = 8 }) })) 0 (lines.come_in (lines.fresh 9) 65)

abbrev pub small : Machine
small = record { bytes = bytes; side = beside }

-- what its thread 0 is told
abbrev pub told : Call → Outcome
told c = (call small 0 c).outcome

abbrev pub EachCanBeDone : Type 0
EachCanBeDone =
    (told (Copy 1 7 all_three 3) ≡ Answered Done)
    × (told (Move 1 7) ≡ Answered Done)
    × (told (Drop 1) ≡ Answered Done)
    × (told (Revoke 1) ≡ Answered Done)
    × (told (Map 1 2 63) ≡ Answered Done)
    × (told (Unmap 2 63) ≡ Answered Done)
    × (told (Bind 2 0) ≡ Answered Done)
    × (told (Go 2 4096) ≡ Answered Done)
    × (told (Say 3 321) ≡ Said (record { line = 9; byte = 65 }))
    × (told (Hear 3) ≡ Answered (Heard 65))
