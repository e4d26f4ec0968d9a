use Rattle.model.specs.Plain as the
use Rattle.model.proofs.Lists.{read_item}
use Rattle.model.proofs.objects.World.get.Goals as goal

pub returns : goal.returns
unfolding the.object
returns c = rw c.deref.ensures.value at (read_item (λ x. x.now) the.thing the.gone c.deref.result.now c.args.o c.get.result c.get.ensures.lookup)
