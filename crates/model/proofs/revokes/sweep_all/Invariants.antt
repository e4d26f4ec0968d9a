use Rattle.std.proofs.Common.{◌≡◌, ◌++◌, map, take, drop}
use Rattle.model.specs.Plain.{thing}
use Rattle.model.specs.Sweeps.{at_each, kept_at}
use Rattle.model.proofs.revokes.sweep_all.Given as goal

abbrev pub invariant-loop-i : goal.invariant-loop-i
invariant-loop-i l =
    map thing l.x-items ≡ at_each (kept_at l.marks) 0 (take l.i (map thing l.initial.x-items)) ++ drop l.i (map thing l.initial.x-items)
