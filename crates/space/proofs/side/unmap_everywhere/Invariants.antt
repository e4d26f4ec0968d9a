use Rattle.std.proofs.Common.{◌≡◌, ◌++◌, map, take, drop}
use Rattle.space.specs.Side.{without_range}
use Rattle.space.proofs.side.unmap_everywhere.Given as goal

abbrev pub invariant-loop-thread : goal.invariant-loop-thread
invariant-loop-thread l = l.threads ≡ map (without_range l.from l.units) (take l.thread-index l.initial.threads) ++ drop l.thread-index l.initial.threads
