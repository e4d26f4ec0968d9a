use Rattle.std.proofs.Common.{◌≡◌, ◌++◌, map, take, drop}
use Rattle.space.specs.Tables.{freed}
use Rattle.space.proofs.tables.PageTables.unmap_range.Given as goal

abbrev pub invariant-loop-leaf : goal.invariant-loop-leaf
invariant-loop-leaf l = l.leaf-items ≡ map (freed l.from l.units) (take l.leaf-index l.initial.leaf-items) ++ drop l.leaf-index l.initial.leaf-items
