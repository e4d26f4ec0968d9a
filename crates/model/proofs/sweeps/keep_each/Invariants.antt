use Rattle.std.proofs.Common.{◌≡◌, ◌++◌, map, take, drop}
use Rattle.model.proofs.sweeps.keep_each.Given as goal

abbrev pub invariant-loop-x : goal.invariant-loop-x
invariant-loop-x g l =
    (f : _ → _) → ((x : _) (y : _) → goal.F-post g l.keep x y → y ≡ f x) → l.items ≡ map f (take l.x-index l.initial.items) ++ drop l.x-index l.initial.items
