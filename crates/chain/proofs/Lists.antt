-- Lists with some elements taken out, or one put in; numbers that are all different.
use Rattle.std.proofs.Common.{◌≡◌, ℕ, ◌≢◌, List, [], ◌∷◌, ◌++◌, refl, sym, ap, subst, append-nil}
use Rattle.std.specs.List.{AllByRecursion}
use Rattle.chain.specs.Entries.{Entry, places, births, Apart}

pub all_weaker : {A : Type 0} (P Q : A → Type 0) → ((x : A) → P x → Q x) → (l : List A) → AllByRecursion P l → AllByRecursion Q l
all_weaker P Q f [] h = tt
all_weaker P Q f (x ∷ l) h = (f x h.0, all_weaker P Q f l h.1)

pub all_join : {A : Type 0} (P : A → Type 0) (a b : List A) → AllByRecursion P a → AllByRecursion P b → AllByRecursion P (a ++ b)
all_join P [] b h k = k
all_join P (x ∷ a) b h k = (h.0, all_join P a b h.1 k)

pub all_front : {A : Type 0} (P : A → Type 0) (a b : List A) → AllByRecursion P (a ++ b) → AllByRecursion P a
all_front P [] b h = tt
all_front P (x ∷ a) b h = (h.0, all_front P a b h.1)

pub all_back : {A : Type 0} (P : A → Type 0) (a b : List A) → AllByRecursion P (a ++ b) → AllByRecursion P b
all_back P [] b h = h
all_back P (x ∷ a) b h = all_back P a b h.1

pub all_swap : {A : Type 0} (P : A → Type 0) (a b : List A) → AllByRecursion P (a ++ b) → AllByRecursion P (b ++ a)
all_swap P a b h = all_join P b a (all_back P a b h) (all_front P a b h)

-- the other way round
pub flipped : (a : ℕ) (l : List ℕ) → AllByRecursion (λ b. a ≢ b) l → AllByRecursion (λ b. b ≢ a) l
flipped a l h = all_weaker (λ b. a ≢ b) (λ b. b ≢ a) (λ b n e. n (sym e)) l h

pub births_append : (a b : List Entry) → births (a ++ b) ≡ births a ++ births b
births_append [] b = refl
births_append (x ∷ a) b = ap (λ l. x.birth ∷ l) (births_append a b)

pub places_append : (a b : List Entry) → places (a ++ b) ≡ places a ++ places b
places_append [] b = refl
places_append (x ∷ a) b = ap (λ l. x.place ∷ l) (places_append a b)

-- k is l without some of its elements
pub data Sub {A : Type 0} : List A → List A → Type 0 where
  none : Sub [] []
  keep : {x : A} {k l : List A} → Sub k l → Sub (x ∷ k) (x ∷ l)
  skip : {x : A} {k l : List A} → Sub k l → Sub k (x ∷ l)

pub sub_self : {A : Type 0} (l : List A) → Sub l l
sub_self [] = none
sub_self (x ∷ l) = keep (sub_self l)

pub sub_after : {A : Type 0} (a : List A) {k l : List A} → Sub k l → Sub (a ++ k) (a ++ l)
sub_after [] s = s
sub_after (x ∷ a) s = keep (sub_after a s)

pub sub_all : {A : Type 0} (P : A → Type 0) {k l : List A} → Sub k l → AllByRecursion P l → AllByRecursion P k
sub_all P none h = tt
sub_all P (keep s) h = (h.0, sub_all P s h.1)
sub_all P (skip s) h = sub_all P s h.1

pub sub_apart : {k l : List ℕ} → Sub k l → Apart l → Apart k
sub_apart none h = tt
sub_apart (keep {x = b} s) h = (sub_all (λ c. b ≢ c) s h.0, sub_apart s h.1)
sub_apart (skip s) h = sub_apart s h.1

pub sub_births : {k l : List Entry} → Sub k l → Sub (births k) (births l)
sub_births none = none
sub_births (keep s) = keep (sub_births s)
sub_births (skip s) = skip (sub_births s)

pub sub_places : {k l : List Entry} → Sub k l → Sub (places k) (places l)
sub_places none = none
sub_places (keep s) = keep (sub_places s)
sub_places (skip s) = skip (sub_places s)

-- l is k with b put in
pub data More {A : Type 0} (b : A) : List A → List A → Type 0 where
  here : {l : List A} → More b l (b ∷ l)
  on : {x : A} {k l : List A} → More b k l → More b (x ∷ k) (x ∷ l)

pub more_at : {A : Type 0} (a : List A) (x : A) (b : List A) → More x (a ++ b) (a ++ x ∷ b)
more_at [] x b = here
more_at (y ∷ a) x b = on (more_at a x b)

pub more_all : {A : Type 0} (P : A → Type 0) {b : A} {k l : List A} → More b k l → P b → AllByRecursion P k → AllByRecursion P l
more_all P here p h = (p, h)
more_all P (on i) p h = (h.0, more_all P i p h.1)

pub more_apart : {b : ℕ} {k l : List ℕ} → More b k l → AllByRecursion (λ c. b ≢ c) k → Apart k → Apart l
more_apart here f u = (f, u)
more_apart {b} (on {x = x} i) f u = (more_all (λ c. x ≢ c) i (λ e. f.0 (sym e)) u.0, more_apart i f.1 u.1)

pub apart_swap : (a b : List ℕ) → Apart (a ++ b) → Apart (b ++ a)
apart_swap [] b u = subst (λ l. Apart l) (sym (append-nil b)) u
apart_swap (x ∷ a) b u = more_apart (more_at b x a) (all_swap (λ c. x ≢ c) a b u.0) (apart_swap a b u.1)

-- the same for entries
pub more_births : (a : List Entry) (s n : Entry) (b : List Entry) → More n.birth (births (a ++ s ∷ b)) (births (a ++ s ∷ n ∷ b))
more_births [] s n b = on here
more_births (x ∷ a) s n b = on (more_births a s n b)

pub more_places : (a : List Entry) (s n : Entry) (b : List Entry) → More n.place (places (a ++ s ∷ b)) (places (a ++ s ∷ n ∷ b))
more_places [] s n b = on here
more_places (x ∷ a) s n b = on (more_places a s n b)

pub places_turned : (a b : List Entry) → Apart (places (a ++ b)) → Apart (places (b ++ a))
places_turned a b u = subst (λ l. Apart l) (sym (places_append b a)) (apart_swap (places a) (places b) (subst (λ l. Apart l) (places_append a b) u))

-- what holds of all births holds of one of them
pub at_birth : (P : ℕ → Type 0) (a : List Entry) (x : Entry) (b : List Entry) → AllByRecursion P (births (a ++ x ∷ b)) → P x.birth
at_birth P [] x b h = h.0
at_birth P (y ∷ a) x b h = at_birth P a x b h.1

pub at_place : (P : ℕ → Type 0) (a : List Entry) (x : Entry) (b : List Entry) → AllByRecursion P (places (a ++ x ∷ b)) → P x.place
at_place P [] x b h = h.0
at_place P (y ∷ a) x b h = at_place P a x b h.1
