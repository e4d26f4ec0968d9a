use Rattle.space.specs.Entries.{outside}
use Rattle.space.proofs.Turned.{turned}
use Rattle.space.proofs.tables.free_entries.Goals as goal

pub loop-entry-preserved : goal.loop-entry-preserved
loop-entry-preserved c =
    turned (outside c.args.from c.args.units) _ _ _ _ _ c.loop-entry-test.true c.loop-entry.auto.leaf c.loop-entry.invariant c.outside.ensures
