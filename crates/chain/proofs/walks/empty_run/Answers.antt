use Rattle.std.proofs.Common.{List, ℕ, sym, ap, ◌∙◌, arith}
use Rattle.chain.proofs.Turns.{empty_goes_on, empty_ended, empty_all, empty_whole, length_whole, empty_counts, end_counts}
use Rattle.chain.proofs.walks.empty_run.Goals as goal

pub walk-preserved : goal.walk-preserved
walk-preserved c =
    let turn = empty_goes_on c.units-units.result c.walk._turn c.args.slot c.depth-depth.result c.walk.board.bytes c.empty_one.new.board.bytes c.walk.here c.in-Some.next c.walk-test.true c.in-Some.ensures.value c.in-Some.ensures.bytes in
    let words =
    empty_counts c.units-units.result c.walk._turn c.args.slot c.depth-depth.result c.walk.board.bytes c.empty_one.new.board.bytes c.walk.here c.walk.board.touched c.empty_one.new.board.touched c.in-Some.next
    c.walk-test.true c.in-Some.ensures.value c.in-Some.ensures.bytes c.empty_one.ensures.touched in
    record { same = sym turn ∙ c.walk.invariant.same; count = omega (arith, words, c.walk.invariant.count) }

pub returns-after-walk : goal.returns-after-walk
returns-after-walk c =
    let e = sym (empty_all _ _ _ _ _ _ c.walk-test.false) ∙ c.walk.invariant.same ∙ empty_whole _ _ _ _ _ _ _ c.depth-depth.ensures.bytes c.next-here.ensures.bytes c.depth-depth.ensures.value c.next-here.ensures.value c.units-units.ensures in
    let all = length_whole _ _ _ _ _ _ _ c.depth-depth.ensures.bytes c.next-here.ensures.bytes c.depth-depth.ensures.value c.next-here.ensures.value c.units-units.ensures in
    record { value = ap (λ (p : List ℕ × ℕ). p.1) e; bytes = ap (λ (p : List ℕ × ℕ). p.0) e; touched = omega (arith, all, c.walk.invariant.count) }

pub returns-in_default : goal.returns-in_default
returns-in_default c =
    let e = sym (empty_ended _ _ _ _ _ _ _ c.walk-test.true c.in_default.ensures.value c.in_default.ensures.bytes) ∙ c.walk.invariant.same ∙ empty_whole _ _ _ _ _ _ _ c.depth-depth.ensures.bytes c.next-here.ensures.bytes c.depth-depth.ensures.value c.next-here.ensures.value c.units-units.ensures in
    let all = length_whole _ _ _ _ _ _ _ c.depth-depth.ensures.bytes c.next-here.ensures.bytes c.depth-depth.ensures.value c.next-here.ensures.value c.units-units.ensures in
    let last = end_counts 10 c.args.slot c.depth-depth.result c.walk.board.bytes c.walk.here c.walk.board.touched c.empty_one.new.board.touched c.in_default.ensures.value c.empty_one.ensures.touched in
    record { value = ap (λ (p : List ℕ × ℕ). p.1) e; bytes = ap (λ (p : List ℕ × ℕ). p.0) e; touched = omega (arith, all, last, c.walk.invariant.count) }
