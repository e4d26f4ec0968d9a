use Rattle.std.proofs.Common.{◌≡◌, ℕ, zero, suc, List, ◌++◌, sym, ap, ◌∙◌, append-nil, append_assoc, add-one, arith}
use Rattle.std.specs.List.{repeat}
use Rattle.image_builder.specs.Written.{header}
use Rattle.image_tests.proofs.images.Objects.headers.Goals as goal

-- one more behind is one more in front
repeat_more : (n : ℕ) (xs : List ℕ) → repeat (suc n) xs ≡ repeat n xs ++ xs
repeat_more zero xs = append-nil xs
repeat_more (suc n) xs = ap (λ ys. xs ++ ys) (repeat_more n xs) ∙ sym (append_assoc xs (repeat n xs) xs)

pub loop-preserved : goal.loop-preserved
loop-preserved c = grind (arith, append_assoc, add-one, repeat_more c.loop.counter (header c.args.self.1 c.args.self.2))
