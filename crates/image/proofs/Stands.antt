-- Bytes that stand at a place.
use Rattle.std.proofs.Common.{◌≡◌, ℕ, zero, suc, ◌+◌, ◌<◌, ◌≤◌, List, [], ◌∷◌, ◌++◌, length, get_or, Ok, refl, ◌∙◌, ◌*◌, subst, add-zero, add_assoc, add-one, arith, length-append}
use Rattle.std.proofs.lemmas.Bool.{le-leb}
use Rattle.image.specs.Fields.{two, Read, past, each}
use Rattle.std.specs.List.{flat_map}
use Rattle.image.specs.Meaning.{four, two_bytes, four_bytes}

-- how long pieces of one length are together
pub pieces_length : {X : Type 0} (f : X → List ℕ) (n : ℕ) → ((x : X) → length (f x) ≡ n) → (xs : List X) → length (flat_map f xs) ≡ n * length xs
pieces_length f n e [] = omega arith
pieces_length f n e (x ∷ xs) = length-append (f x) (flat_map f xs) ∙ omega (arith, e x, pieces_length f n e xs)

-- xs stand at a in bs
abbrev pub At : List ℕ → ℕ → List ℕ → Type 0
At bs a [] = a ≤ length bs
At bs a (x ∷ xs) = (get_or bs a 0 ≡ x) × At bs (a + 1) xs

pub at_len : (bs : List ℕ) (a : ℕ) (xs : List ℕ) → At bs a xs → a + length xs ≤ length bs
at_len bs a [] h = omega (arith, h)
at_len bs a (x ∷ xs) h = omega (arith, at_len bs (a + 1) xs h.1)

at_shift : (y : ℕ) (bs : List ℕ) (a : ℕ) (xs : List ℕ) → At bs a xs → At (y ∷ bs) (a + 1) xs
at_shift y bs a [] h = omega (arith, h)
at_shift y bs a (x ∷ xs) h = (rw add-one h.0, at_shift y bs (a + 1) xs h.1)

pub at_whole : (bs : List ℕ) → At bs 0 bs
at_whole [] = omega arith
at_whole (x ∷ xs) = (refl, at_shift x xs 0 xs (at_whole xs))

pub at_split : (bs : List ℕ) (a : ℕ) (xs ys : List ℕ) → At bs a (xs ++ ys) → At bs a xs × At bs (a + length xs) ys
at_split bs a [] ys h = (omega (arith, at_len bs a ys h), rw add-zero h)
at_split bs a (x ∷ xs) ys h =
    let r = at_split bs (a + 1) xs ys h.1 in
    let e : (a + 1) + length xs ≡ a + suc (length xs) = omega arith in
    ((h.0, r.0), subst (λ p. At bs p ys) e r.1)

pub at_two : (bs : List ℕ) (a v : ℕ) → v < 65536 → At bs a (two_bytes v) → two bs a ≡ v
at_two bs a v l h = grind arith

pub at_four : (bs : List ℕ) (a v : ℕ) → v < 4294967296 → At bs a (four_bytes v) → four bs a ≡ v
at_four bs a v l h = grind arith

pub past_fine : (bs : List ℕ) (a n : ℕ) → a + n ≤ length bs → past bs a n ≡ Ok (a + n)
past_fine bs a n l = rw (le-leb (a + n) (length bs) l)

-- a predicate of the items with their numbers, from i on
abbrev pub Alls : {X : Type 0} → (ℕ → X → Type 0) → ℕ → List X → Type 0
Alls P i [] = Unit {0}
Alls P i (x ∷ xs) = P i x × Alls P (suc i) xs

pub alls_from : {X : Type 0} (P : ℕ → X → Type 0) (d : X) (xs : List X) (i : ℕ) → ((j : ℕ) → j < length xs → P (i + j) (get_or xs j d)) → Alls P i xs
alls_from P d [] i h = tt
alls_from P d (x ∷ xs) i h = (
  let e : i + 0 ≡ i = omega arith in subst (λ k. P k x) e (h 0 (omega arith)),
  alls_from P d xs (suc i) (λ j l. let e : i + suc j ≡ suc i + j = omega arith in subst (λ k. P k (get_or xs j d)) e (h (suc j) (omega (arith, l)))),
)

pub alls_at : {X : Type 0} (P : ℕ → X → Type 0) (d : X) (xs : List X) (i j : ℕ) → Alls P i xs → j < length xs → P (i + j) (get_or xs j d)
alls_at P d [] i j h l = absurd (omega (arith, l))
alls_at P d (x ∷ xs) i zero h l = let e : i ≡ i + 0 = omega arith in subst (λ k. P k x) e h.0
alls_at P d (x ∷ xs) i (suc j) h l =
    let e : suc i + j ≡ i + suc j = omega arith in subst (λ k. P k (get_or xs j d)) e (alls_at P d xs (suc i) j h.1 (omega (arith, l)))

-- a reader that gets over each item's bytes gets over all of them
pub each_all : {X : Type 0} (bs : List ℕ) (f : ℕ → ℕ → Read ℕ) (enc : X → List ℕ) (P : ℕ → X → Type 0)
    → ((i a : ℕ) (x : X) → P i x → At bs a (enc x) → f i a ≡ Ok (a + length (enc x)))
    → (xs : List X) (i a : ℕ) → Alls P i xs → At bs a (flat_map enc xs) → each f (length xs) i a ≡ Ok (a + length (flat_map enc xs))
unfolding each
each_all bs f enc P step [] i a p h = rw add-zero
each_all bs f enc P step (x ∷ xs) i a p h =
    let s = at_split bs a (enc x) (flat_map enc xs) h in
    rw (step i a x p.0 s.0, each_all bs f enc P step xs (suc i) (a + length (enc x)) p.1 s.1, length-append, add_assoc)
