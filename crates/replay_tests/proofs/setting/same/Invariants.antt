use Rattle.std.proofs.Common.{◌≡◌, ◌++◌}
use Rattle.std.specs.List.{repeat}
use Rattle.image_builder.specs.Written.{header}
use Rattle.replay_tests.proofs.setting.same.Given as goal

abbrev pub invariant-loop : goal.invariant-loop
invariant-loop l = l.image ≡ l.initial.image ++ repeat l.counter (header l.kind 0)
