use Rattle.std.proofs.Common.{◌≡◌, ◌∙◌, Some, length, sym, ap, arith, rules}
use Rattle.space.proofs.Through.{unseen, read_4}
use Rattle.space.proofs.bytes.SpaceMemory.word.Goals as goal

pub returns-then-is_empty : goal.returns-then-is_empty
returns-then-is_empty c =
    let e : length c.page-page.result.now ≡ 0 = search rules in
    unseen c.args.self.now.board.now c.args.self.now.pages.now c.args.address 3 (omega arith) (ap length (sym c.page-page.ensures.bytes) ∙ e)

pub returns : goal.returns
returns c =
    let l : length c.page-page.result.now ≡ 4096 = search rules in
    ap Some (omega arith)
    ∙ read_4 c.args.self.now.board.now c.args.self.now.pages.now c.args.address c.page-page.result.now c.page-page.ensures.bytes l
    c.if-address-ne0.false (search rules) (search rules) (search rules) (search rules)
