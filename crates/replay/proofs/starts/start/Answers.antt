use Rattle.std.proofs.Common.{sym, arith, rules}
use Rattle.model.specs.Plain.{plain}
use Rattle.replay.proofs.Sound.{started}
use Rattle.replay.proofs.starts.start.Goals as goal

pub returns-clause-sound : goal.returns-clause-sound
returns-clause-sound c =
    started c.args.frames c.args.image.now c.in_ok-check_with.field-0 (plain c.in_ok-world.world) (λ k. omega (arith, c.type_inv.image k)) (sym c.in_ok-check_with.ensures) (search rules)
