use Rattle.std.proofs.Common.{rules}
use Rattle.replay.proofs.Happening.{one_more, no_more}
use Rattle.replay.proofs.rows.append.Goals as goal

pub returns-in_ok-push : goal.returns-in_ok-push
returns-in_ok-push c = one_more c.args.said.now.items _ c.args.more c.in-Some.byte (search rules) c.in_ok-push.ensures.items

pub returns-in_default : goal.returns-in_default
returns-in_default c = no_more c.args.said.now.items c.args.more (search rules)
