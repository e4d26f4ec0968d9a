use Rattle.std.proofs.Common.{rules}
use Rattle.image.specs.Format.{slot}
use Rattle.image.proofs.Turns.{folds}
use Rattle.image.proofs.headers.Image.slots.Goals as goal

pub returns : goal.returns
returns c = folds _ _ (λ _ a. slot c.args.self.now.bytes.now c.args.self.now.objects a) (λ a i r q k. search rules) _ _ _ _ c.try_fold.ensures.ran
