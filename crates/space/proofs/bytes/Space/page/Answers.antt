use Rattle.std.proofs.Common.{sym, subst}
use Rattle.space.proofs.Through.{Whole, whole_page}
use Rattle.space.proofs.bytes.Space.page.Goals as goal

pub returns-in-Some-clause-whole : goal.returns-in-Some-clause-whole
returns-in-Some-clause-whole c = subst Whole (sym c.page.ensures) (whole_page c.args.self.now.board.now c.in-Some.mapping.place)
