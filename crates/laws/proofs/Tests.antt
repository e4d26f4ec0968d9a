-- Change facts on tests and lists that all the others use.
use mathlib.Core.Path.{◌≡◌, refl, sym, ap, subst, ◌∙◌}
use mathlib.Core.Bool.{Bool, true, false, ◌&&◌, ◌||◌, not}
use mathlib.Core.List.{List, [], ◌∷◌, ◌++◌}
use mathlib.Core.Logic.{◌⊎◌, inl, inr}
use Prim.Native.Nat.{ℕ, zero, suc, ◌-◌, ◌≤◌, ◌<◌}
use native.Mathlib.Nat.{le_of_suc-le-suc, not-suc-le-zero}
use native.Mathlib.Omega.{arith}
use lib.Dec.{T, ltb, eqb, eqb-zero-suc, eqb-suc-zero, eqb-suc-suc}
use borrow.Author.Tests.{eqb-true, eqb-false, ltb-true, ltb-false}
use lib.ListN.{length, get_or, set, get_or-eq_default}
use Rattle.rights.specs.World.{pick, among}

pub yes_no {ℓ} : {A : Type ℓ} → true ≡ false → A
yes_no e = absurd (subst T e tt)

pub no_yes {ℓ} : {A : Type ℓ} → false ≡ true → A
no_yes e = absurd (subst T (sym e) tt)

pub both_ways {ℓ} : {A : Type ℓ} {c : Bool} → c ≡ true → c ≡ false → A
both_ways e f = yes_no (sym e ∙ f)

-- from two constructors that would be equal: `clash (cc)`
pub clash {ℓ} : {A : Type ℓ} → ◌≡◌ {A = ℕ} 0 1 → A
clash e = absurd (omega arith)

-- a test by cases, with what is known in each
pub either_way {ℓ} : {A : Type ℓ} (c : Bool) → (c ≡ true → A) → (c ≡ false → A) → A
either_way true p q = p refl
either_way false p q = q refl

pub below_or_not {ℓ} : {A : Type ℓ} (a b : ℕ) → (a < b → A) → (b ≤ a → A) → A
below_or_not a b p q = either_way (ltb a b) (λ e. p (ltb-true a b e)) (λ e. q (ltb-false a b e))

pub same_or_not {ℓ} : {A : Type ℓ} (a b : ℕ) → (a ≡ b → A) → ((a ≡ b → ⊥) → A) → A
same_or_not a b p q = either_way (eqb a b) (λ e. p (eqb-true a b e)) (λ e. q (eqb-false a b e))

pub not_true : (c : Bool) → (c ≡ true → ⊥) → c ≡ false
not_true true h = absurd (h refl)
not_true false h = refl

pub not_is : (c : Bool) → not c ≡ true → c ≡ false
not_is true g = no_yes g
not_is false g = refl

pub is_so : (c : Bool) → not c ≡ false → c ≡ true
is_so true g = refl
is_so false g = yes_no g

-- one of two, whichever the test says
pub pick_both {ℓ} : {A : Type 0} (P : A → Type ℓ) (c : Bool) {a b : A} → P a → P b → P (pick c a b)
pick_both P true p q = p
pick_both P false p q = q

pub pick_know {ℓ} : {A : Type 0} (P : A → Type ℓ) (c : Bool) {a b : A} → (c ≡ true → P a) → (c ≡ false → P b) → P (pick c a b)
pick_know P true p q = p refl
pick_know P false p q = q refl

-- the same in two worlds, where the tests agree
pub pick_two : {A B : Type 0} (P : A → B → Type 0) {c d : Bool} {a b : A} {x y : B} → c ≡ d → P a x → P b y → P (pick c a b) (pick d x y)
pick_two P {c = true} {d = true} e p q = p
pick_two P {c = true} {d = false} e p q = yes_no e
pick_two P {c = false} {d = true} e p q = no_yes e
pick_two P {c = false} {d = false} e p q = q

pub pick_else {ℓ} : {A B : Type 0} (P : A → B → Type ℓ) {c d : Bool} {a b : A} {x y : B} → c ≡ d → P a x → (c ≡ false → P b y) → P (pick c a b) (pick d x y)
pick_else P {c = true} {d = true} e p q = p
pick_else P {c = true} {d = false} e p q = yes_no e
pick_else P {c = false} {d = true} e p q = no_yes e
pick_else P {c = false} {d = false} e p q = q refl

pub pick_then {ℓ} : {A B : Type 0} (P : A → B → Type ℓ) {c d : Bool} {a b : A} {x y : B} → c ≡ d → (c ≡ true → P a x) → P b y → P (pick c a b) (pick d x y)
pick_then P {c = true} {d = true} e p q = p refl
pick_then P {c = true} {d = false} e p q = yes_no e
pick_then P {c = false} {d = true} e p q = no_yes e
pick_then P {c = false} {d = false} e p q = q

pub or_left : (a b : Bool) → (a || b) ≡ false → a ≡ false
or_left true b e = e
or_left false b e = refl

pub or_right : (a b : Bool) → (a || b) ≡ false → b ≡ false
or_right true b e = yes_no e
or_right false b e = e

pub or_cases : (a b : Bool) → (a || b) ≡ true → (a ≡ true) ⊎ (b ≡ true)
or_cases true b e = inl refl
or_cases false b e = inr e

pub and_left : (a b : Bool) → (a && b) ≡ true → a ≡ true
and_left true b e = refl
and_left false b e = e

pub and_right : (a b : Bool) → (a && b) ≡ true → b ≡ true
and_right true b e = e
and_right false b e = no_yes e

pub both_hold : (a b : Bool) → not (a && b) ≡ false → a ≡ true
both_hold true b e = refl
both_hold false b e = yes_no e

pub or_first : (a b : Bool) → a ≡ true → (a || b) ≡ true
or_first true b e = refl
or_first false b e = no_yes e

pub or_second : (a b : Bool) → b ≡ true → (a || b) ≡ true
or_second true b e = refl
or_second false b e = e

pub and_false : (b : Bool) → (b && false) ≡ false
and_false true = refl
and_false false = refl

pub or_two : {a b c d : Bool} → a ≡ b → c ≡ d → (a || c) ≡ (b || d)
or_two e f = cc

pub and_two : {a b c d : Bool} → a ≡ b → c ≡ d → (a && c) ≡ (b && d)
and_two e f = cc

pub not_two : {a b : Bool} → a ≡ b → not a ≡ not b
not_two e = ap not e

pub less_one : (n : ℕ) → suc n - 1 ≡ n
less_one n = omega arith

-- lists with one element changed, or one more
pub at_set : {A : Type 0} (xs : List A) (u k : ℕ) (x d : A) → u < length xs → get_or (set xs u x) k d ≡ pick (eqb u k) x (get_or xs k d)
at_set [] u k x d h = absurd (not-suc-le-zero h)
at_set (y ∷ ys) zero zero x d h = refl
at_set (y ∷ ys) zero (suc k) x d h = rw (eqb-zero-suc k)
at_set (y ∷ ys) (suc u) zero x d h = rw (eqb-suc-zero u)
at_set (y ∷ ys) (suc u) (suc k) x d h = rw (eqb-suc-suc u k) (at_set ys u k x d (le_of_suc-le-suc h))

pub set_here : {A : Type 0} (xs : List A) (u : ℕ) (x d : A) → u < length xs → get_or (set xs u x) u d ≡ x
set_here [] u x d h = absurd (not-suc-le-zero h)
set_here (y ∷ ys) zero x d h = refl
set_here (y ∷ ys) (suc u) x d h = set_here ys u x d (le_of_suc-le-suc h)

pub set_apart : {A : Type 0} (xs : List A) (u a : ℕ) (x d : A) → (u ≡ a → ⊥) → get_or (set xs u x) a d ≡ get_or xs a d
set_apart [] u a x d h = refl
set_apart (y ∷ ys) zero zero x d h = absurd (h refl)
set_apart (y ∷ ys) zero (suc a) x d h = refl
set_apart (y ∷ ys) (suc u) zero x d h = refl
set_apart (y ∷ ys) (suc u) (suc a) x d h = set_apart ys u a x d (λ e. h (ap suc e))

-- what holds of an element of a list with x in a place: of x, or of what was there
pub set_by {ℓ} : {A : Type 0} (P : A → Type ℓ) (xs : List A) (u a : ℕ) (x d : A) → (u ≡ a → P x) → P (get_or xs a d) → P (get_or (set xs u x) a d)
set_by P [] u a x d p q = q
set_by P (y ∷ ys) zero zero x d p q = p refl
set_by P (y ∷ ys) zero (suc a) x d p q = q
set_by P (y ∷ ys) (suc u) zero x d p q = q
set_by P (y ∷ ys) (suc u) (suc a) x d p q = set_by P ys u a x d (λ e. p (ap suc e)) q

pub at_end : {A : Type 0} (xs : List A) (x d : A) → get_or (xs ++ x ∷ []) (length xs) d ≡ x
at_end [] x d = refl
at_end (y ∷ ys) x d = at_end ys x d

pub longer : {A : Type 0} (xs : List A) (x : A) → length (xs ++ x ∷ []) ≡ suc (length xs)
longer [] x = refl
longer (y ∷ ys) x = ap suc (longer ys x)

-- what holds of an element of a list with one more at the end
pub push_by {ℓ} : {A : Type 0} (P : A → A → Type ℓ) (xs : List A) (a : ℕ) (x d : A) → (a ≡ length xs → P d x) → ((y : A) → P y y) → P (get_or xs a d) (get_or (xs ++ x ∷ []) a d)
push_by P [] zero x d p q = p refl
push_by P [] (suc a) x d p q = q d
push_by P (y ∷ ys) zero x d p q = q y
push_by P (y ∷ ys) (suc a) x d p q = push_by P ys a x d (λ e. p (ap suc e)) q

-- who is not the default is there
pub inside : {A : Type 0} (xs : List A) (a : ℕ) (d : A) → (get_or xs a d ≡ d → ⊥) → a < length xs
inside xs a d h = below_or_not a (length xs) (λ l. l) (λ l. absurd (h (get_or-eq_default xs d l)))

pub among-++ : (a : ℕ) (xs ys : List ℕ) → among a (xs ++ ys) ≡ (among a xs || among a ys)
unfolding among
among-++ a [] ys = refl
among-++ a (x ∷ xs) ys = go (eqb a x) (among-++ a xs ys)
  where
    go : (c : Bool) → among a (xs ++ ys) ≡ (among a xs || among a ys) → (c || among a (xs ++ ys)) ≡ ((c || among a xs) || among a ys)
    go true r = refl
    go false r = r
