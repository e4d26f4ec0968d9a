-- The row of events that bytes mean. Assumes nothing: these are definitions and a statement.
use Rattle.std.specs.Prelude.{◌≡◌, ℕ, zero, suc, ◌+◌, ◌<◌, Bool, cond, List, [], ◌∷◌, length, Ok, ◌==◌, nat_lt, slice_index}
use Rattle.rights.specs.World.{World, State, Event, tick, byte, thread, line, object}
use Rattle.rights.specs.Promise.{Named}
use Rattle.rv32.specs.declared.registers.Cpu.{Cpu}
use Rattle.rv32.specs.Registers.{fresh}
use Rattle.rv32.specs.Execute.{act}
use Rattle.image.specs.Fields.{one, two}
use Rattle.image.specs.Events.{events}
use Rattle.image.specs.Meaning.{world_of}

-- events from a place on, at most k of them: 0, thread (two bytes); or 1, line (two bytes), byte
unfoldable pub row_from : List ℕ → ℕ → ℕ → List Event
row_from es zero at = []
row_from es (suc k) at =
    cond (nat_lt at (length es))
    (cond (one es at == 0) (tick (two es (at + 1)) ∷ row_from es k (at + 3)) (byte (two es (at + 1)) (one es (at + 3)) ∷ row_from es k (at + 4)))
    []

-- a row has at most as many events as bytes
abbrev pub row : List ℕ → List Event
row es = row_from es (length es) 0

-- an instruction's time is a thread's, and a byte comes in at a line
abbrev pub MeetsKind : World Cpu → Event → Type 0
MeetsKind w (tick p) =
    (s : State Cpu) × (c : Cpu) × (t : ℕ) × (ps : List ℕ) × (rs : List Bool) × (object Cpu fresh act w p ≡ thread 0 s c t ps rs)
MeetsKind w (byte o b) = object Cpu fresh act w o ≡ line [] []

unfoldable pub MeetKinds : World Cpu → List Event → Type 0
MeetKinds w [] = Unit {0}
MeetKinds w (e ∷ es) = MeetsKind w e × MeetKinds w es

-- events that are taken name objects of the image, each of its kind
abbrev pub RowsNamed : Type 0
RowsNamed =
    (bs es : List ℕ) → ((k : ℕ) → slice_index es k < 256) → events bs es ≡ Ok tt → Named Cpu fresh act (world_of bs) (row es) × MeetKinds (world_of bs) (row es)
