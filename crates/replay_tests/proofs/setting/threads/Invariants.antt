use Rattle.std.proofs.Common.{◌≡◌, ◌++◌}
use Rattle.replay_tests.specs.Setting.{threads}
use Rattle.replay_tests.proofs.setting.threads.Given as goal

abbrev pub invariant-loop-k : goal.invariant-loop-k
invariant-loop-k l = l.image ≡ l.initial.image ++ threads l.programs l.first l.k
