use Rattle.std.proofs.Common.{refl}
use Rattle.rights.specs.World.{meet}
use Rattle.rights.proofs.Lowest.{has_both}
use Rattle.rights.proofs.bits.Rights.meet.Goals as goal

pub returns : goal.returns
unfolding meet
returns c =
    let a = c.args.self.bits in
    let b = c.args.other.bits in
    record { value = refl; meaning = simp (has_both 0 a b, has_both 1 a b, has_both 2 a b) }
