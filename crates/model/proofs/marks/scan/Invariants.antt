use Rattle.std.proofs.Common.{◌≡◌, Bool, List, [], drop, vec_items}
use Rattle.model.specs.Sweeps.{scan}
use Rattle.model.proofs.marks.scan.Given as goal

abbrev pub invariant-loop-x : goal.invariant-loop-x
invariant-loop-x g l =
    (f : List Bool → _ → Bool) → ((ms : _) (x : _) (b : _) → goal.F-post g l.test ms x b → b ≡ f ms.now x.now) →
    scan f (vec_items l.marks) (drop l.x-index l.items) ≡ scan f [] l.items
