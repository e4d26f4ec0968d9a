use Rattle.std.proofs.Common.{◌≡◌, ◌++◌}
use Rattle.std.specs.List.{repeat}
use Rattle.image_builder.specs.Written.{header}
use Rattle.image_tests.proofs.images.Objects.headers.Given as goal

abbrev pub invariant-loop : goal.invariant-loop
invariant-loop l = l.image ≡ l.initial.image ++ repeat l.counter (header l.self.1 l.self.2)
