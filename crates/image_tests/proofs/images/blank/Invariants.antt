use Rattle.std.proofs.Common.{◌≡◌, ◌++◌, take}
use Rattle.std.specs.List.{flat_map}
use Rattle.image_tests.specs.Images.{headers_of, content_of}
use Rattle.image_tests.proofs.images.blank.Given as goal

abbrev pub invariant-loop-row : goal.invariant-loop-row
invariant-loop-row l = l.image ≡ l.initial.image ++ flat_map headers_of (take l.row-index l.rows)

abbrev pub invariant-loop-row-2 : goal.invariant-loop-row-2
invariant-loop-row-2 l = l.image ≡ l.initial.image ++ flat_map content_of (take l.row-index l.rows)
