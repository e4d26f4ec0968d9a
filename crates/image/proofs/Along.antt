-- Numbers that a function runs along, one place after the other.
use Rattle.std.proofs.Common.{◌≡◌, ℕ, zero, suc, ◌+◌, ◌<◌, ◌≤◌, List, [], ◌∷◌, ◌++◌, length, get_or, sym, refl, ◌∙◌, subst, arith}
use Rattle.image.specs.Fields.{one}
use Rattle.image.specs.Meaning.{bytes_from}
use Rattle.image.proofs.Stands.{At}

-- xs are what f gives from a on
abbrev pub Along : (ℕ → ℕ) → ℕ → List ℕ → Type 0
Along f a [] = Unit {0}
Along f a (x ∷ xs) = (x ≡ f a) × Along f (a + 1) xs

pub along_append : (f : ℕ → ℕ) (a : ℕ) (xs ys : List ℕ) → Along f a xs → Along f (a + length xs) ys → Along f a (xs ++ ys)
along_append f a [] ys h g = let e : a + 0 ≡ a = omega arith in subst (λ p. Along f p ys) e g
along_append f a (x ∷ xs) ys h g =
    let e : a + suc (length xs) ≡ (a + 1) + length xs = omega arith in
    (h.0, along_append f (a + 1) xs ys h.1 (subst (λ p. Along f p ys) e g))

pub along_at : (f : ℕ → ℕ) (a : ℕ) (xs : List ℕ) → Along f a xs → (k : ℕ) → k < length xs → get_or xs k 0 ≡ f (a + k)
along_at f a [] h k l = absurd (omega (arith, l))
along_at f a (x ∷ xs) h zero l = let e : a + 0 ≡ a = omega arith in rw (e, h.0)
along_at f a (x ∷ xs) h (suc k) l = let e : a + suc k ≡ (a + 1) + k = omega arith in rw e (along_at f (a + 1) xs h.1 k (omega (arith, l)))

-- two functions that are the same where xs are
pub along_same : (f g : ℕ → ℕ) (a : ℕ) (xs : List ℕ) → ((k : ℕ) → a ≤ k → k < a + length xs → f k ≡ g k) → Along f a xs → Along g a xs
along_same f g a [] e h = tt
along_same f g a (x ∷ xs) e h =
    (h.0 ∙ e a (omega arith) (omega arith), along_same f g (a + 1) xs (λ k l m. e k (omega (arith, l)) (omega (arith, m))) h.1)

-- bytes that stand at a place, and bytes that are read from it on
pub along_stands : (bs : List ℕ) (a : ℕ) (xs : List ℕ) → At bs a xs → Along (one bs) a xs
along_stands bs a [] h = tt
along_stands bs a (x ∷ xs) h = (sym h.0, along_stands bs (a + 1) xs h.1)

pub along_bytes : (bs : List ℕ) (k a : ℕ) → Along (one bs) a (bytes_from bs k a)
unfolding bytes_from
along_bytes bs zero a = tt
along_bytes bs (suc k) a = (refl, along_bytes bs k (a + 1))
