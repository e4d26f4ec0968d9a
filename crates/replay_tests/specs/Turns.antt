-- The bytes of a row of events, turn by turn. Assumes nothing: these are definitions.
use Rattle.std.specs.Prelude.{ℕ, List, [], ◌∷◌}
use Rattle.std.specs.List.{flat_map, repeat}
use Rattle.std.specs.Int.{w16, to_le_bytes}
use Rattle.replay_tests.specs.declared.turns.Turn.{Turn}
use Rattle.replay_tests.specs.declared.turns.Turn.TheVariants.{Ticks, Bytes, Same}

-- an instruction's time for a thread, and a byte that comes in at line 1
abbrev pub tick : ℕ → List ℕ
tick thread = 0 ∷ to_le_bytes w16 thread

abbrev pub comes : ℕ → List ℕ
comes byte = 1 ∷ 1 ∷ 0 ∷ byte ∷ []

-- the events of a turn
abbrev pub events : Turn → List ℕ
events (Ticks thread count) = repeat count (tick thread)
events (Bytes bytes) = flat_map comes bytes.now
events (Same byte count) = repeat count (comes byte)
