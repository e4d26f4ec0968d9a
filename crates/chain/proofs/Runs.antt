-- Steps of the definitions of a run, and who comes from whom by cases.
use Rattle.std.proofs.Common.{◌≡◌, ℕ, suc, ◌≤◌, ◌<◌, ◌⊎◌, List, [], ◌∷◌, ◌++◌, map, refl, sym, ap, ap₂, append_assoc, ◌∙◌, inl, inr, arith, lt-ltb, le-ltb}
use Rattle.std.specs.List.{AllByRecursion}
use Rattle.std.proofs.lemmas.Bool.{cases_lt}
use Rattle.chain.specs.Entries.{Entry, places, births, run, beyond, risen, raised, Steps, NoneFrom, FromNone, AllKin}
use Rattle.chain.proofs.Lists.{Sub, none, skip, sub_self}

pub run_in : (d : ℕ) (y : Entry) (l : List Entry) → d < y.depth → run d (y ∷ l) ≡ y ∷ run d l
unfolding run
run_in d y l h = rw (lt-ltb d y.depth h) refl

pub run_out : (d : ℕ) (y : Entry) (l : List Entry) → y.depth ≤ d → run d (y ∷ l) ≡ []
unfolding run
run_out d y l h = rw (le-ltb d y.depth h) refl

pub beyond_in : (d : ℕ) (y : Entry) (l : List Entry) → d < y.depth → beyond d (y ∷ l) ≡ beyond d l
unfolding beyond
beyond_in d y l h = rw (lt-ltb d y.depth h) refl

pub beyond_out : (d : ℕ) (y : Entry) (l : List Entry) → y.depth ≤ d → beyond d (y ∷ l) ≡ y ∷ l
unfolding beyond
beyond_out d y l h = rw (le-ltb d y.depth h) refl

pub raised_in : (d : ℕ) (y : Entry) (l : List Entry) → d < y.depth → raised d (y ∷ l) ≡ risen y ∷ raised d l
raised_in d y l h = rw (run_in d y l h, beyond_in d y l h) refl

pub raised_out : (d : ℕ) (y : Entry) (l : List Entry) → y.depth ≤ d → raised d (y ∷ l) ≡ y ∷ l
raised_out d y l h = rw (run_out d y l h, beyond_out d y l h) refl

pub run_beyond : (d : ℕ) (l : List Entry) → run d l ++ beyond d l ≡ l
unfolding run beyond
run_beyond d [] = refl
run_beyond d (y ∷ l) =
    elim (cases_lt d y.depth) [
      | inl h ↦ rw (lt-ltb d y.depth h) (ap (λ m. y ∷ m) (run_beyond d l))
      | inr h ↦ rw (le-ltb d y.depth h) refl
    ]

pub births_raised : (d : ℕ) (l : List Entry) → births (raised d l) ≡ births l
unfolding run beyond
births_raised d [] = refl
births_raised d (y ∷ l) =
    elim (cases_lt d y.depth) [
      | inl h ↦ rw (raised_in d y l h) (ap (λ m. y.birth ∷ m) (births_raised d l))
      | inr h ↦ rw (raised_out d y l h) refl
    ]

pub places_raised : (d : ℕ) (l : List Entry) → places (raised d l) ≡ places l
unfolding run beyond
places_raised d [] = refl
places_raised d (y ∷ l) =
    elim (cases_lt d y.depth) [
      | inl h ↦ rw (raised_in d y l h) (ap (λ m. y.place ∷ m) (places_raised d l))
      | inr h ↦ rw (raised_out d y l h) refl
    ]

pub sub_beyond : (d : ℕ) (l : List Entry) → Sub (beyond d l) l
unfolding beyond
sub_beyond d [] = none
sub_beyond d (y ∷ l) =
    elim (cases_lt d y.depth) [
      | inl h ↦ rw (lt-ltb d y.depth h) (skip (sub_beyond d l))
      | inr h ↦ rw (le-ltb d y.depth h) (sub_self (y ∷ l))
    ]

pub steps_weaker : (k m : ℕ) (l : List Entry) → k ≤ m → Steps k l → Steps m l
steps_weaker k m [] h s = tt
steps_weaker k m (y ∷ l) h s = (omega arith, s.1)

pub steps_front : (k : ℕ) (a b : List Entry) → Steps k (a ++ b) → Steps k a
steps_front k [] b s = tt
steps_front k (x ∷ a) b s = (s.0, steps_front (suc x.depth) a b s.1)

-- what begins with a root adds nothing to a run
pub run_root : (d : ℕ) (l r : List Entry) → Steps 0 r → run d (l ++ r) ≡ run d l
unfolding run
run_root d [] [] s = refl
run_root d [] (e ∷ r) s = run_out d e r (omega arith)
run_root d (y ∷ l) r s =
    elim (cases_lt d y.depth) [
      | inl h ↦ rw (lt-ltb d y.depth h) (ap (λ m. y ∷ m) (run_root d l r s))
      | inr h ↦ rw (le-ltb d y.depth h) refl
    ]

pub beyond_root : (d : ℕ) (l r : List Entry) → Steps 0 r → beyond d (l ++ r) ≡ beyond d l ++ r
unfolding beyond
beyond_root d [] [] s = refl
beyond_root d [] (e ∷ r) s = beyond_out d e r (omega arith)
beyond_root d (y ∷ l) r s =
    elim (cases_lt d y.depth) [
      | inl h ↦ rw (lt-ltb d y.depth h) (beyond_root d l r s)
      | inr h ↦ rw (le-ltb d y.depth h) refl
    ]

pub raised_root : (d : ℕ) (l r : List Entry) → Steps 0 r → raised d (l ++ r) ≡ raised d l ++ r
raised_root d l r s = ap₂ (λ a b. map risen a ++ b) (run_root d l r s) (beyond_root d l r s) ∙ sym (append_assoc (map risen (run d l)) (beyond d l) r)

module _ (D : ℕ → ℕ → Type 0) where
  -- what follows x is first its run, which comes from x, and then what does not
  abbrev pub Under : Entry → List Entry → Type 0
  Under x [] = Unit {0}
  Under x (y ∷ l) = ((x.depth < y.depth) × D x.birth y.birth × Under x l) ⊎ ((y.depth ≤ x.depth) × NoneFrom D x.birth (births (y ∷ l)))

  abbrev pub Runs : List Entry → Type 0
  Runs [] = Unit {0}
  Runs (x ∷ l) = Under x l × FromNone D x.birth (births l) × Runs l

  pub under : (x : Entry) (l : List Entry) → AllByRecursion (D x.birth) (births (run x.depth l)) → NoneFrom D x.birth (births (beyond x.depth l)) → Under x l
  unfolding run beyond
  under x [] r b = tt
  under x (y ∷ l) r b =
      elim (cases_lt x.depth y.depth) [
        | inl h ↦
            (let r' : AllByRecursion (D x.birth) (births (y ∷ run x.depth l)) = rw (run_in x.depth y l h) at r in
            let b' : NoneFrom D x.birth (births (beyond x.depth l)) = rw (beyond_in x.depth y l h) at b in
            inl (h, r'.0, under x l r'.1 b'))
        | inr h ↦ (let b' : NoneFrom D x.birth (births (y ∷ l)) = rw (beyond_out x.depth y l h) at b in inr (h, b'))
      ]

  pub run_comes : (x : Entry) (l : List Entry) → Under x l → AllByRecursion (D x.birth) (births (run x.depth l))
  unfolding run
  run_comes x [] u = tt
  run_comes x (y ∷ l) (inl v) = rw (run_in x.depth y l v.0) (v.1, run_comes x l v.2)
  run_comes x (y ∷ l) (inr v) = rw (run_out x.depth y l v.0) tt

  pub beyond_apart : (x : Entry) (l : List Entry) → Under x l → NoneFrom D x.birth (births (beyond x.depth l))
  unfolding beyond
  beyond_apart x [] u = tt
  beyond_apart x (y ∷ l) (inl v) = rw (beyond_in x.depth y l v.0) (beyond_apart x l v.2)
  beyond_apart x (y ∷ l) (inr v) = rw (beyond_out x.depth y l v.0) v.1

  pub runs : (l : List Entry) → AllKin D l → Runs l
  runs [] k = tt
  runs (x ∷ l) k = (under x l k.0.0 k.0.1, k.0.2, runs l k.1)

  pub all_kin : (l : List Entry) → Runs l → AllKin D l
  all_kin [] r = tt
  all_kin (x ∷ l) r = ((run_comes x l r.0, beyond_apart x l r.0, r.1), all_kin l r.2)
