use Rattle.std.proofs.Common.{sym, ◌∙◌, rules}
use Rattle.replay.proofs.Turns.{slots_on, slots_end}
use Rattle.replay.proofs.slots.slots.Goals as goal

pub loop-k-preserved : goal.loop-k-preserved
loop-k-preserved c =
    (slots_on _ _ _ _ _ _ _ _ _ c.loop-k-test.true c.in_ok-push.ensures.items c.slot-slot.ensures (search rules) ∙ c.loop-k.invariant.0, search rules)

pub returns : goal.returns
returns c = sym (slots_end _ _ _ _ _ _ c.loop-k-test.false) ∙ c.loop-k.invariant.0
