use Rattle.std.proofs.Common.{◌≡◌, ◌+◌, ◌*◌, ◌%◌, ◌<◌, Some, ap, ◌∙◌, arith, lit<, rules}
use Rattle.rv32.proofs.Reading.{aligned_first, aligned_none, aligned_2}
use Rattle.rv32.proofs.loads.Memory.half.Goals as goal

pub returns-in_err-a : goal.returns-in_err-a
returns-in_err-a g c =
    c.from_residual.ensures ∙ aligned_first (g.Self.Memory.seen c.args.self.now) c.args.address 1 c.in_err-a.ensures

pub returns-in_err-b : goal.returns-in_err-b
returns-in_err-b g c =
    c.from_residual-in_err-b.ensures ∙ aligned_none (g.Self.Memory.seen c.args.self.now) c.args.address 2 1 (lit< tt) c.in_err-b.ensures

pub returns : goal.returns
returns g c =
    let a : c.in_ok-a.a < 256 = search rules in
    let b : c.in_ok-b.b < 256 = search rules in
    let whole : c.args.address % 2 ≡ 0 = search rules in
    let value : c.from_le_bytes.result ≡ c.in_ok-a.a + 256 * c.in_ok-b.b = omega arith in
    ap Some value
    ∙ aligned_2 (g.Self.Memory.seen c.args.self.now) c.args.address c.in_ok-a.a c.in_ok-b.b whole c.in_ok-a.ensures c.in_ok-b.ensures a b
