use Rattle.std.proofs.Common.{◌≡◌, ◌+◌, ◌*◌, get_or, set, sym, subst, rules, arith}
use Rattle.std.proofs.lemmas.List.Edits.{fill_by_more}
use Rattle.model.specs.Plain.{unmapped}
use Rattle.replay.specs.Reading.{mapping}
use Rattle.replay.proofs.Turns.{spaces}
use Rattle.replay.proofs.threads.space.Goals as goal

pub loop-k-preserved : goal.loop-k-preserved
loop-k-preserved c = (
  search rules,
  λ i l.
      subst (λ x. get_or (set c.loop-k.page-items c.loop-k.k x) i unmapped ≡ mapping c.args.bytes.now (c.args.at + 3 * i)) (sym c.mapping.ensures)
      (fill_by_more (λ i. mapping c.args.bytes.now (c.args.at + 3 * i)) c.loop-k.page-items c.loop-k.k unmapped (omega (arith, c.loop-k-test.true, c.loop-k.invariant.0)) c.loop-k.invariant.1 i l),
)

pub returns-clause-pages : goal.returns-clause-pages
returns-clause-pages c = (spaces c.args.bytes.now c.args.at 64 c.loop-k.page-items (search rules) (search rules)).0

pub returns-clause-marks : goal.returns-clause-marks
returns-clause-marks c = (spaces c.args.bytes.now c.args.at 64 c.loop-k.page-items (search rules) (search rules)).1
