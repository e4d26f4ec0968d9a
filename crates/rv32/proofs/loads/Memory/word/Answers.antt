use Rattle.std.proofs.Common.{◌≡◌, ◌+◌, ◌*◌, ◌%◌, ◌^◌, ◌<◌, Some, ap, ◌∙◌, arith, rules}
use lib.Bits.{bit_or}
use Rattle.std.proofs.lemmas.Nat.{or_shifted}
use Rattle.rv32.specs.Execute.{aligned}
use Rattle.rv32.proofs.Reading.{both, halves}
use Rattle.rv32.proofs.loads.Memory.word.Goals as goal

pub returns-in_err-low : goal.returns-in_err-low
returns-in_err-low g c =
    let m = g.Self.Memory.seen c.args.self.now in
    let z : c.args.address % 4 ≡ 0 = search rules in
    c.from_residual.ensures ∙ ap (λ x. both x (aligned m (c.args.address + 2) 2)) c.in_err-low.ensures ∙ halves m c.args.address z

pub returns-in_err-high : goal.returns-in_err-high
returns-in_err-high g c =
    let m = g.Self.Memory.seen c.args.self.now in
    let z : c.args.address % 4 ≡ 0 = search rules in
    c.from_residual-in_err-high.ensures ∙ ap (both (Some c.in_ok-low.low)) c.in_err-high.ensures
    ∙ ap (λ x. both x (aligned m (c.args.address + 2) 2)) c.in_ok-low.ensures ∙ halves m c.args.address z

pub returns : goal.returns
returns g c =
    let m = g.Self.Memory.seen c.args.self.now in
    let low = c.in_ok-low.low in
    let high = c.in_ok-high.high in
    let z : c.args.address % 4 ≡ 0 = search rules in
    let fits : low < 2 ^ 16 = search rules in
    let whole : c.from.result * 65536 % 4294967296 ≡ high * 2 ^ 16 = omega arith in
    let value : bit_or (c.from.result * 65536 % 4294967296) c.from-2.result ≡ low + 65536 * high =
    ap (λ x. bit_or x c.from-2.result) whole ∙ ap (bit_or (high * 2 ^ 16)) c.from-2.ensures ∙ or_shifted high 16 low fits ∙ omega arith in
    ap Some value ∙ ap (both (Some low)) c.in_ok-high.ensures ∙ ap (λ x. both x (aligned m (c.args.address + 2) 2)) c.in_ok-low.ensures ∙ halves m c.args.address z
