use Rattle.std.proofs.Common.{◌≡◌, ◌++◌, map, take, drop}
use Rattle.space.specs.Entries.{outside}
use Rattle.space.proofs.tables.free_entries.Given as goal

abbrev pub invariant-loop-entry : goal.invariant-loop-entry
invariant-loop-entry l = l.leaf ≡ map (outside l.from l.units) (take l.entry-index l.initial.leaf) ++ drop l.entry-index l.initial.leaf
