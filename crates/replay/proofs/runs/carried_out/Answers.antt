use Rattle.std.proofs.Common.{arith}
use Rattle.model.specs.Plain.{plain}
use Rattle.replay.proofs.Ran.{replays}
use Rattle.replay.proofs.runs.carried_out.Goals as goal

pub returns : goal.returns
returns c =
    replays c.args.image.now c.args.events.now (plain c.in_ok-world.world) _ (λ k. omega (arith, c.type_inv.image k)) c.in_ok-world.ensures c.in_ok-said.ensures.ran c.in_ok-said.ensures.said
