use Rattle.std.proofs.Common.{sym}
use Rattle.replay.proofs.runs.run.Goals as goal

pub returns-clause-runs : goal.returns-clause-runs
returns-clause-runs c = c.in_ok-carried_out.ensures c.args.frames c.in_ok-check_with.field-0 (sym c.in_ok-check_with.ensures)
