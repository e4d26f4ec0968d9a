-- What each call does to the ring, and what a run is. Assumes nothing: these are statements.
use Rattle.std.specs.Prelude.{◌≡◌, ℕ, suc, ◌≤◌, ◌≢◌, List, [], ◌∷◌, ◌++◌, length}
use Rattle.std.specs.List.{AllByRecursion}
use Rattle.rights.specs.World.{Slot, cap, Rights}
use Rattle.chain.specs.Entries.{Entry, places, births, run, beyond, raised, moved, child, Apart}
use Rattle.chain.specs.Lineage.{Comes}
use Rattle.board.specs.Links.{Cell}
use Rattle.chain.specs.Ring.{Circle, Stands, Only, inserted, shifted, taken_out, swept, passed}

-- a place is none of these
abbrev pub Outside : ℕ → List Entry → Type 0
Outside d l = AllByRecursion (λ p. d ≢ p) (places l)

-- where nothing was made from anything yet and all slots are roots, any ring of different slots with different births is right
abbrev pub RootsStand : Type 0
RootsStand =
    (top : ℕ) (mem : ℕ → Cell) (ring : List Entry) → AllByRecursion (λ e. e.depth ≡ 0) ring → AllByRecursion (λ b. b ≤ top) (births ring) →
    Apart (births ring) → Apart (places ring) → Circle mem ring → Stands [] top mem ring

-- copy and cut: the new slot goes right after the one that it was made from, one deeper; all others stay where they were
abbrev pub InsertKeeps : Type 0
InsertKeeps =
    (lineage : List Slot) (top : ℕ) (mem : ℕ → Cell) (before : List Entry) (s : Entry) (after : List Entry) (d object badge : ℕ) (rights : Rights) →
    Stands lineage top mem (before ++ s ∷ after) → Outside d (before ++ s ∷ after) →
    Stands (cap object rights badge (suc top) s.birth ∷ lineage) (suc top) (inserted mem s.place d) (before ++ s ∷ child s d (suc top) ∷ after) ×
    Only (d ∷ places (before ++ s ∷ after)) mem (inserted mem s.place d)

-- move and hand on: another slot takes the place
abbrev pub MoveKeeps : Type 0
MoveKeeps =
    (lineage : List Slot) (top : ℕ) (mem : ℕ → Cell) (before : List Entry) (s : Entry) (after : List Entry) (d : ℕ) →
    Stands lineage top mem (before ++ s ∷ after) → Outside d (before ++ s ∷ after) →
    Stands lineage top (shifted mem s.place d) (before ++ moved d s ∷ after) × Only (d ∷ places (before ++ s ∷ after)) mem (shifted mem s.place d)

-- drop: the slot leaves the ring, and its run rises by one; n turns are enough where the ring has no more slots
abbrev pub TakeOutKeeps : Type 0
TakeOutKeeps =
    (lineage : List Slot) (top n : ℕ) (mem : ℕ → Cell) (before : List Entry) (s : Entry) (after : List Entry) →
    Stands lineage top mem (before ++ s ∷ after) → length (before ++ s ∷ after) ≤ n →
    Stands lineage top (taken_out n mem s.place) (before ++ raised s.depth after) × Only (places (before ++ s ∷ after)) mem (taken_out n mem s.place)

-- revoke: the walk passes just the run, and the run leaves the ring
abbrev pub SweepKeeps : Type 0
SweepKeeps =
    (lineage : List Slot) (top n : ℕ) (mem : ℕ → Cell) (before : List Entry) (s : Entry) (after : List Entry) →
    Stands lineage top mem (before ++ s ∷ after) → length (before ++ s ∷ after) ≤ n →
    (passed n mem s.place (mem s.place).depth (mem s.place).next ≡ places (run s.depth after)) ×
    Stands lineage top (swept n mem s.place) (before ++ s ∷ beyond s.depth after) × Only (places (before ++ s ∷ after)) mem (swept n mem s.place)

-- what a slot's run holds was made from what it holds, and nothing else in the ring was, nor that itself
abbrev pub RunIsOffspring : Type 0
RunIsOffspring =
    (lineage : List Slot) (top : ℕ) (mem : ℕ → Cell) (before : List Entry) (s : Entry) (after : List Entry) → Stands lineage top mem (before ++ s ∷ after) →
    (run s.depth after ++ beyond s.depth after ≡ after) × AllByRecursion (Comes lineage s.birth) (births (run s.depth after)) ×
    AllByRecursion (λ b. Comes lineage s.birth b → ⊥) (births (before ++ s ∷ beyond s.depth after))

-- a slot is at most as deep as there are slots before it
abbrev pub DepthBound : Type 0
DepthBound =
    (lineage : List Slot) (top : ℕ) (mem : ℕ → Cell) (before : List Entry) (s : Entry) (after : List Entry) →
    Stands lineage top mem (before ++ s ∷ after) → s.depth ≤ length before
