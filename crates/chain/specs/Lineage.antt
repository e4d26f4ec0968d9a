-- Who comes from whom, by the list of all that was made. Assumes nothing: these are definitions.
use Rattle.std.specs.Prelude.{◌≡◌, ℕ, ◌≤◌, ◌<◌, ◌⊎◌, List, [], ◌∷◌}
use Rattle.rights.specs.World.{Slot, empty, cap}

-- what was born as c was made from what was born as m
abbrev pub Made : List Slot → ℕ → ℕ → Type 0
Made [] m c = ⊥
Made (empty ∷ l) m c = Made l m c
Made (cap o r b i j ∷ l) m c = ((j ≡ m) × (i ≡ c)) ⊎ Made l m c

-- or through others
pub data Comes (lineage : List Slot) (a : ℕ) : ℕ → Type 0 where
  first : {c : ℕ} → Made lineage a c → Comes lineage a c
  later : {b c : ℕ} → Comes lineage a b → Made lineage b c → Comes lineage a c

-- births are given up to top, and what is made is born after what it was made from
abbrev pub Orderly : ℕ → List Slot → Type 0
Orderly top lineage = (m c : ℕ) → Made lineage m c → (m < c) × (c ≤ top)
