use Rattle.std.proofs.Common.{rules}
use Rattle.replay.specs.Reading.{seen}
use Rattle.replay.proofs.Made.{few_births}
use Rattle.replay.proofs.objects.object.Goals as goal

pub returns-clause-few : goal.returns-clause-few
returns-clause-few c =
    few_births c.args.bytes.now c.args.o c.size_at-size.result (seen c.args.places.now) _ c.size_at-size.ensures c.size_at-size.type_inv (search rules)
