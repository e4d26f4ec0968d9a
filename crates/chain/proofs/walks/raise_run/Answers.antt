use Rattle.std.proofs.Common.{sym, ◌∙◌, arith}
use Rattle.chain.proofs.Turns.{raise_goes_on, raise_ended, raise_all, raise_whole, length_whole, raise_counts, end_counts}
use Rattle.chain.proofs.walks.raise_run.Goals as goal

pub walk-preserved : goal.walk-preserved
walk-preserved c =
    let turn = raise_goes_on c.units-units.result c.walk._turn c.args.slot c.depth-depth.result c.walk.board.bytes c.raise_one.new.board.bytes c.walk.here c.in-Some.next c.walk-test.true c.in-Some.ensures.value c.in-Some.ensures.bytes in
    let words =
    raise_counts c.units-units.result c.walk._turn c.args.slot c.depth-depth.result c.walk.board.bytes c.raise_one.new.board.bytes c.walk.here c.walk.board.touched c.raise_one.new.board.touched c.in-Some.next
    c.walk-test.true c.in-Some.ensures.value c.in-Some.ensures.bytes c.raise_one.ensures.touched in
    record { same = sym turn ∙ c.walk.invariant.same; count = omega (arith, words, c.walk.invariant.count) }

pub returns-after-walk : goal.returns-after-walk
returns-after-walk c =
    let e = sym (raise_all _ _ _ _ _ _ c.walk-test.false) ∙ c.walk.invariant.same ∙ raise_whole _ _ _ _ _ _ _ c.depth-depth.ensures.bytes c.next-here.ensures.bytes c.depth-depth.ensures.value c.next-here.ensures.value c.units-units.ensures in
    let all = length_whole _ _ _ _ _ _ _ c.depth-depth.ensures.bytes c.next-here.ensures.bytes c.depth-depth.ensures.value c.next-here.ensures.value c.units-units.ensures in
    record { bytes = e; touched = omega (arith, all, c.walk.invariant.count) }

pub returns-in_default : goal.returns-in_default
returns-in_default c =
    let e = sym (raise_ended _ _ _ _ _ _ _ c.walk-test.true c.in_default.ensures.value c.in_default.ensures.bytes) ∙ c.walk.invariant.same ∙ raise_whole _ _ _ _ _ _ _ c.depth-depth.ensures.bytes c.next-here.ensures.bytes c.depth-depth.ensures.value c.next-here.ensures.value c.units-units.ensures in
    let all = length_whole _ _ _ _ _ _ _ c.depth-depth.ensures.bytes c.next-here.ensures.bytes c.depth-depth.ensures.value c.next-here.ensures.value c.units-units.ensures in
    let last = end_counts 3 c.args.slot c.depth-depth.result c.walk.board.bytes c.walk.here c.walk.board.touched c.raise_one.new.board.touched c.in_default.ensures.value c.raise_one.ensures.touched in
    record { bytes = e; touched = omega (arith, all, last, c.walk.invariant.count) }
