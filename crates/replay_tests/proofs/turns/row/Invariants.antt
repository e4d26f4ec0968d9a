use Rattle.std.proofs.Common.{◌≡◌, take}
use Rattle.std.specs.List.{flat_map}
use Rattle.replay_tests.specs.Turns.{events}
use Rattle.replay_tests.proofs.turns.row.Given as goal

abbrev pub invariant-loop-turn : goal.invariant-loop-turn
invariant-loop-turn l = l.row.items ≡ flat_map events (take l.turn-index l.turns)
