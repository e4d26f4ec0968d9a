use Rattle.std.proofs.Common.{◌≡◌, ◌++◌, take}
use Rattle.std.specs.List.{flat_map}
use Rattle.replay_tests.specs.Setting.{code}
use Rattle.replay_tests.proofs.setting.image.Given as goal

abbrev pub invariant-loop-program : goal.invariant-loop-program
invariant-loop-program l = l.image ≡ l.initial.image ++ flat_map code (take l.program-index l.programs)
