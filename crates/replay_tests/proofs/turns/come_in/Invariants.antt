use Rattle.std.proofs.Common.{◌≡◌, ◌++◌, take}
use Rattle.std.specs.List.{flat_map}
use Rattle.replay_tests.specs.Turns.{comes}
use Rattle.replay_tests.proofs.turns.come_in.Given as goal

abbrev pub invariant-loop-byte : goal.invariant-loop-byte
invariant-loop-byte l = l.row.items ≡ l.initial.row.items ++ flat_map comes (take l.byte-index l.bytes)
