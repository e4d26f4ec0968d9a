-- Reads and writes of a list under a map.
use Rattle.std.proofs.Common.{◌≡◌, ℕ, zero, suc, ◌+◌, ◌<◌, ◌≤◌, ◌⊎◌, List, [], ◌∷◌, ◌++◌, map, reverse, length, get_or, take, drop, set, IfNone, Some, None, Option, sym, refl, ap, ◌∙◌, inl, inr, add-one, arith, get_or-set_other, get_or-set_same}
use Rattle.std.specs.List.{ItemBy}
use Rattle.std.specs.Option.{option_map}
use Rattle.model.specs.Sweeps.{at_each}
use Rattle.std.proofs.lemmas.List.{get_or-map, get_or_past, length-map, map_push, reverse-append, set_past}
use Rattle.std.proofs.lemmas.Bool.{cases_lt, cases_eq}

pub read_map : {X Y : Type 0} (f : X → Y) (xs : List X) (i : ℕ) (x : X) (e : Y) → i < length xs → x ≡ get_or xs i x → f x ≡ get_or (map f xs) i e
read_map f xs i x e h r = ap f r ∙ sym (get_or-map f xs i x e h)

pub past_map : {X Y : Type 0} (f : X → Y) (xs : List X) (i : ℕ) (e : Y) → length xs ≤ i → e ≡ get_or (map f xs) i e
past_map f xs i e h = sym (get_or_past (map f xs) i e (rw length-map h))

-- an element after one was written
pub wrote : {X : Type 0} (xs : List X) (i k : ℕ) (x d : X) → (get_or (set xs i x) k d ≡ get_or xs k d) ⊎ ((k ≡ i) × (get_or (set xs i x) k d ≡ x))
wrote xs i k x d =
    elim (cases_eq k i) [
      | inl e ↦
          elim (cases_lt i (length xs)) [
            | inl l ↦ inr (e, rw e (get_or-set_same xs i x d l))
            | inr l ↦ inl (ap (λ ys. get_or ys k d) (set_past xs i x l))
          ]
      | inr n ↦ inl (get_or-set_other xs i k x d n)
    ]

pub push_reverse : {X Y : Type 0} (f : X → Y) (xs : List X) (x : X) → f x ∷ reverse (map f xs) ≡ reverse (map f (xs ++ x ∷ []))
push_reverse f xs x = sym (ap reverse (map_push f xs x) ∙ reverse-append (map f xs) (f x ∷ []))

-- what `get` gives, under a map
abbrev pub shown_as : {X Y : Type 0} → (X → Y) → Y → Option X → Y
shown_as f e None = e
shown_as f e (Some x) = f x

pub read_item : {B X Y : Type 0} (now : B → X) (f : X → Y) (e : Y) (xs : List X) (i : ℕ) (r : Option B) → ItemBy now xs i i r → shown_as f e (option_map now r) ≡ get_or (map f xs) i e
read_item now f e xs i None h = past_map f xs i e h.3
read_item now f e xs i (Some x) h = read_map f xs i (now x) e h.3.0 h.1

pub past_set : {X Y : Type 0} (f : X → Y) (xs : List X) (i : ℕ) (y : Y) → length xs ≤ i → set (map f xs) i y ≡ map f xs
past_set f xs i y h = set_past (map f xs) i y (rw length-map h)

pub past_item : {B X Y Z : Type 0} (now : B → X) (f : X → Y) (xs : List X) (i : ℕ) (r : Option B) → ItemBy now xs i i r → (g : List Y → Z) →
    IfNone r ((y : Y) → g (map f xs) ≡ g (set (map f xs) i y))
past_item now f xs i None h g = λ y. ap g (sym (past_set f xs i y h.3))
past_item now f xs i (Some x) h g = tt

-- a loop that writes f i x over the element x at place i
over_at : {X : Type 0} (f : ℕ → X → X) (n i : ℕ) (xs : List X) (d : X) → i < length xs →
    set (at_each f n (take i xs) ++ drop i xs) i (f (n + i) (get_or xs i d)) ≡ at_each f n (take (suc i) xs) ++ drop (suc i) xs
unfolding at_each
over_at f n i [] d h = absurd (omega arith)
over_at f n zero (x ∷ xs) d h = let e : n + 0 ≡ n = omega arith in rw e refl
over_at f n (suc i) (x ∷ xs) d h =
    let e : n + suc i ≡ suc n + i = omega arith in
    rw e (ap (λ ys. f n x ∷ ys) (over_at f (suc n) i xs d (omega arith)))

not_yet : {X : Type 0} (f : ℕ → X → X) (n i : ℕ) (xs : List X) (d : X) → get_or (at_each f n (take i xs) ++ drop i xs) i d ≡ get_or xs i d
unfolding at_each
not_yet f n zero [] d = refl
not_yet f n (suc i) [] d = refl
not_yet f n zero (x ∷ xs) d = refl
not_yet f n (suc i) (x ∷ xs) d = not_yet f (suc n) i xs d

pub each_more : {X : Type 0} (f : ℕ → X → X) (xs ys : List X) (i : ℕ) (x : X) → i < length xs → ys ≡ at_each f 0 (take i xs) ++ drop i xs → x ≡ get_or ys i x →
    set ys i (f i x) ≡ at_each f 0 (take (i + 1) xs) ++ drop (i + 1) xs
each_more f xs ys i x h e r =
    let q : x ≡ get_or xs i x = r ∙ ap (λ v. get_or v i x) e ∙ not_yet f 0 i xs x in
    let z : 0 + i ≡ i = omega arith in
    ap (λ v. set v i (f i x)) e ∙ ap (λ v. set (at_each f 0 (take i xs) ++ drop i xs) i (f i v)) q
    ∙ ap (λ k. set (at_each f 0 (take i xs) ++ drop i xs) i (f k (get_or xs i x))) (sym z) ∙ rw add-one (over_at f 0 i xs x h)
