use Rattle.std.proofs.Common.{sym, ◌∙◌}
use Rattle.replay.proofs.Turns.{bytes_on, bytes_end}
use Rattle.replay.proofs.objects.page.Goals as goal

pub loop-k-preserved : goal.loop-k-preserved
loop-k-preserved c = bytes_on _ _ _ _ _ _ _ c.loop-k-test.true c.in_ok-push.ensures.items c.one.ensures ∙ c.loop-k.invariant

pub returns : goal.returns
returns c = sym (bytes_end _ _ _ _ _ c.loop-k-test.false) ∙ c.loop-k.invariant
