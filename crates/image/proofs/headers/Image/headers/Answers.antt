use Rattle.std.proofs.Common.{rules}
use Rattle.image.specs.Format.{header}
use Rattle.image.proofs.Turns.{folds}
use Rattle.image.proofs.headers.Image.headers.Goals as goal

pub returns : goal.returns
returns c = folds _ _ (header c.args.kinds c.args.self.now.bytes.now) (λ a i r q k. search rules) _ _ _ _ c.try_fold.ensures.ran
