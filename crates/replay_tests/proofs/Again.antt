-- One more of the same.
use Rattle.std.proofs.Common.{◌≡◌, ℕ, zero, suc, List, ◌++◌, sym, ap, ◌∙◌, append-nil, append_assoc}
use Rattle.std.specs.List.{repeat}

-- one more behind is one more in front
pub repeat_more : (n : ℕ) (xs : List ℕ) → repeat (suc n) xs ≡ repeat n xs ++ xs
repeat_more zero xs = append-nil xs
repeat_more (suc n) xs = ap (λ ys. xs ++ ys) (repeat_more n xs) ∙ sym (append_assoc xs (repeat n xs) xs)
