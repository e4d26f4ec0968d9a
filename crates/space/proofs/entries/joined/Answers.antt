use Rattle.std.proofs.Common.{◌≡◌, ◌*◌, ◌%◌, ◌^◌, ap, ◌∙◌, arith}
use lib.Bits.{bit_or}
use Rattle.std.proofs.lemmas.Nat.{or_shifted}
use Rattle.space.proofs.entries.joined.Goals as goal

pub returns : goal.returns
returns c =
    let fits : c.args.frame * 1024 % 4294967296 ≡ c.args.frame * 2 ^ 10 = omega (arith, c.requires.0) in
    ap (λ n. bit_or n c.args.bits) fits ∙ or_shifted c.args.frame 10 c.args.bits c.requires.1
