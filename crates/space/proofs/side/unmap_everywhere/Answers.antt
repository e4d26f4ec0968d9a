use Rattle.std.proofs.Common.{ap, get_or}
use Rattle.space.specs.Side.{without_range}
use Rattle.space.proofs.Turned.{turned}
use Rattle.space.proofs.side.unmap_everywhere.Goals as goal

pub loop-thread-preserved : goal.loop-thread-preserved
loop-thread-preserved c =
    let xs = c.loop-thread.threads in
    let i = c.loop-thread.thread-index in
    turned (without_range c.args.from c.args.units) _ xs i _ _ c.loop-thread-test.true c.loop-thread.auto.threads c.loop-thread.invariant
    (ap (λ p. record (get_or xs i _) { pages = p }) c.unmap_range.ensures)
