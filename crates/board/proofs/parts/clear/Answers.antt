use Rattle.std.proofs.Common.{◌≤◌, ◌+◌, ◌-◌, ◌*◌, length, arith}
use Rattle.std.proofs.lemmas.Bool.Decides.{nat_tests}
use Rattle.board.specs.Parts.{cleared}
use Rattle.board.proofs.Spans.{filled_mid}
use Rattle.board.proofs.parts.clear.Goals as goal

pub returns-then-within : goal.returns-then-within
unfolding cleared
returns-then-within c =
    let from = 64 * c.args.place - 64 in
    let h : from + 64 * c.args.units ≤ length c.args.board.now = grind (arith, nat_tests) in
    rw (← c.within.ensures, c.if-within.true) (filled_mid from _ (64 * c.args.units) c.args.board.now _ h (omega arith) (c.fill.ensures.after (λ y e. e)))

pub returns-else-within : goal.returns-else-within
unfolding cleared
returns-else-within c = grind (arith, nat_tests)
