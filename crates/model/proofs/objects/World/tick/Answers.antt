use Rattle.std.proofs.Common.{Some, None, ◌∙◌, rules}
use Rattle.model.specs.Plain.{plain}
use Rattle.model.proofs.Spoken.{says_agree}
use Rattle.model.proofs.objects.World.tick.Goals as goal

pub returns-in_default-clause-said : goal.returns-in_default-clause-said
returns-in_default-clause-said c = says_agree (plain c.args.self.now) c.args.p None (search rules)

pub returns-clause-said : goal.returns-clause-said
returns-clause-said c = c.says-said.ensures ∙ says_agree (plain c.args.self.now) c.args.p (Some c.in-Some.step) (search rules)
