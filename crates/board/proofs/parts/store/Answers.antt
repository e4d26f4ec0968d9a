use Rattle.std.proofs.Common.{◌≡◌, ◌+◌, ◌-◌, ◌*◌, ◌∙◌, refl, length, arith}
use Rattle.std.proofs.lemmas.Bool.Decides.{nat_tests}
use Rattle.board.specs.Parts.{store}
use Rattle.board.proofs.Spans.{written_mid}
use Rattle.board.proofs.parts.store.Goals as goal

pub returns-then-in_page : goal.returns-then-in_page
unfolding store
returns-then-in_page c =
    let from = 64 * c.args.place - 64 + c.args.offset in
    let l : length c.copy_from_slice.new.self ≡ from + length c.args.bytes.now - from = rw c.copy_from_slice.ensures.after (omega arith) in
    written_mid from _ _ _ l ∙ rw (c.copy_from_slice.ensures.after, ← c.in_page.ensures, c.if-in_page.true) refl

pub returns-else-in_page : goal.returns-else-in_page
unfolding store
returns-else-in_page c = grind (arith, nat_tests)
