-- Full slots in the order of their ring, each with its depth: what was made from what. Assumes nothing: these are definitions.
use Rattle.std.specs.Prelude.{ℕ, suc, ◌-◌, ◌≤◌, ◌≢◌, nat_lt, List, [], ◌∷◌, ◌++◌, map}
use Rattle.std.specs.List.{AllByRecursion}
use Rattle.rights.specs.World.{pick}

-- a full slot: its place, how deep it is, and the birth of what it holds
pub record Entry : Type 0 where
  pub place : ℕ
  pub depth : ℕ
  pub birth : ℕ

abbrev pub places : List Entry → List ℕ
places [] = []
places (x ∷ l) = x.place ∷ places l

abbrev pub births : List Entry → List ℕ
births [] = []
births (x ∷ l) = x.birth ∷ births l

-- the run of a slot of depth d: of what follows it, all that is deeper, up to the first that is not
unfoldable pub run : ℕ → List Entry → List Entry
run d [] = []
run d (y ∷ l) = pick (nat_lt d y.depth) (y ∷ run d l) []

-- what follows the run
unfoldable pub beyond : ℕ → List Entry → List Entry
beyond d [] = []
beyond d (y ∷ l) = pick (nat_lt d y.depth) (beyond d l) (y ∷ l)

-- one less deep
abbrev pub risen : Entry → Entry
risen y = record { place = y.place; depth = y.depth - 1; birth = y.birth }

-- what follows a slot of depth d, once that slot is gone: its run is one less deep
abbrev pub raised : ℕ → List Entry → List Entry
raised d l = map risen (run d l) ++ beyond d l

-- the same in another slot
abbrev pub moved : ℕ → Entry → Entry
moved d x = record { place = d; depth = x.depth; birth = x.birth }

-- what is made from x, in slot d, with birth b
abbrev pub child : Entry → ℕ → ℕ → Entry
child x d b = record { place = d; depth = suc x.depth; birth = b }

-- the first is at most k deep, and each at most one deeper than the one before it
abbrev pub Steps : ℕ → List Entry → Type 0
Steps k [] = Unit {0}
Steps k (y ∷ l) = (y.depth ≤ k) × Steps (suc y.depth) l

-- D a b: what was born as b comes from what was born as a.
-- none of bs comes from a
abbrev pub NoneFrom : (ℕ → ℕ → Type 0) → ℕ → List ℕ → Type 0
NoneFrom D a bs = AllByRecursion (λ b. D a b → ⊥) bs

-- a comes from none of bs
abbrev pub FromNone : (ℕ → ℕ → Type 0) → ℕ → List ℕ → Type 0
FromNone D a bs = AllByRecursion (λ b. D b a → ⊥) bs

-- of the slots l that follow x, those of its run come from x and no others do; and x comes from none of them
abbrev pub Kin : (ℕ → ℕ → Type 0) → Entry → List Entry → Type 0
Kin D x l = AllByRecursion (D x.birth) (births (run x.depth l)) × NoneFrom D x.birth (births (beyond x.depth l)) × FromNone D x.birth (births l)

-- and so for each slot
abbrev pub AllKin : (ℕ → ℕ → Type 0) → List Entry → Type 0
AllKin D [] = Unit {0}
AllKin D (x ∷ l) = Kin D x l × AllKin D l

-- no number is there twice
abbrev pub Apart : List ℕ → Type 0
Apart [] = Unit {0}
Apart (a ∷ l) = AllByRecursion (λ b. a ≢ b) l × Apart l

-- depths and births tell the same: births are given up to top, and D says who comes from whom
pub record Chain (D : ℕ → ℕ → Type 0) (top : ℕ) (l : List Entry) : Type 0 where
  pub steps : Steps 0 l
  pub kin : AllKin D l
  pub given : AllByRecursion (λ b. b ≤ top) (births l)
  pub once : Apart (births l)
  pub apart : Apart (places l)
