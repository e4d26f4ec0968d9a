use Rattle.std.proofs.Common.{◌≡◌, ◌++◌}
use Rattle.replay_tests.specs.Setting.{held}
use Rattle.replay_tests.proofs.setting.held.Given as goal

abbrev pub invariant-loop-object : goal.invariant-loop-object
invariant-loop-object l = l.image ≡ l.initial.image ++ held l.object
