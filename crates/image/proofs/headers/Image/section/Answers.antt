use Rattle.std.proofs.Common.{rules}
use Rattle.image.specs.Format.{part}
use Rattle.image.proofs.Turns.{folds}
use Rattle.image.proofs.headers.Image.section.Goals as goal

pub returns : goal.returns
returns c = folds _ _ (part c.args.self.now.bytes.now c.args.self.now.objects c.args.kind) (λ a i r q k. search rules) _ _ _ _ c.try_fold.ensures.ran
