use Rattle.std.proofs.Common.{append_assoc, add-one, arith}
use Rattle.replay_tests.proofs.Again.{repeat_more}
use Rattle.replay_tests.proofs.turns.times.Goals as goal

pub loop-preserved : goal.loop-preserved
loop-preserved c = grind (arith, append_assoc, add-one, repeat_more c.loop.counter c.args.event.now)
