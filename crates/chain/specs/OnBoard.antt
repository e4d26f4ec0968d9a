-- The laws of the ring over the board's bytes. Assumes nothing: these are definitions and statements.
use Rattle.std.specs.Prelude.{◌≡◌, ℕ, suc, ◌+◌, ◌/◌, ◌^◌, ◌<◌, ◌≤◌, ◌≢◌, true, List, [], ◌∷◌, ◌++◌, length, slice_index, None}
use Rattle.std.specs.List.{AllByRecursion}
use Rattle.rights.specs.World.{Slot, cap, Rights, pick, among}
use Rattle.board.specs.Words.{there}
use Rattle.board.specs.Slots.{slot_at}
use Rattle.board.specs.Links.{cell}
use Rattle.chain.specs.Entries.{Entry, places, run, beyond, raised, moved, child}
use Rattle.chain.specs.Ring.{Stands}
use Rattle.chain.specs.Laws.{Outside}
use Rattle.chain.specs.Bytes.{units, run_length, inserted, shifted, taken_out, swept}

abbrev pub AllThere : List ℕ → List ℕ → Type 0
AllThere m ps = AllByRecursion (λ p. there m p ≡ true) ps

-- the board's links are this ring, and its depths tell who was made from whom
pub record Carries (lineage : List Slot) (top : ℕ) (m : List ℕ) (ring : List Entry) : Type 0 where
  pub stands : Stands lineage top (cell m) ring
  pub lies : AllThere m (places ring)

-- n is m but for links and depths of the slots ps, and but for the slots es, which hold nothing; byte b is in the unit at place b / 64 + 1
pub record OnlyThese (ps es : List ℕ) (m n : List ℕ) : Type 0 where
  pub long : length n ≡ length m
  pub bytes : (b : ℕ) → AllByRecursion (λ p. b / 64 + 1 ≢ p) ps → slice_index n b ≡ slice_index m b
  pub slots : (p : ℕ) → slot_at n p ≡ pick (among p es) None (slot_at m p)
  pub ups : (p : ℕ) → (cell n p).up ≡ (cell m p).up

-- copy and cut, on a board whose units a word can count
abbrev pub InsertOnBoard : Type 0
InsertOnBoard =
    (lineage : List Slot) (top : ℕ) (m : List ℕ) (before : List Entry) (s : Entry) (after : List Entry) (d object badge : ℕ) (rights : Rights) →
    units m < 2 ^ 32 → Carries lineage top m (before ++ s ∷ after) → Outside d (before ++ s ∷ after) → there m d ≡ true →
    Carries (cap object rights badge (suc top) s.birth ∷ lineage) (suc top) (inserted m s.place d) (before ++ s ∷ child s d (suc top) ∷ after) ×
    OnlyThese (d ∷ places (before ++ s ∷ after)) [] m (inserted m s.place d)

-- move and hand on
abbrev pub MoveOnBoard : Type 0
MoveOnBoard =
    (lineage : List Slot) (top : ℕ) (m : List ℕ) (before : List Entry) (s : Entry) (after : List Entry) (d : ℕ) →
    Carries lineage top m (before ++ s ∷ after) → Outside d (before ++ s ∷ after) → there m d ≡ true →
    Carries lineage top (shifted m s.place d) (before ++ moved d s ∷ after) × OnlyThese (d ∷ places (before ++ s ∷ after)) [] m (shifted m s.place d)

-- drop
abbrev pub TakeOutOnBoard : Type 0
TakeOutOnBoard =
    (lineage : List Slot) (top : ℕ) (m : List ℕ) (before : List Entry) (s : Entry) (after : List Entry) →
    Carries lineage top m (before ++ s ∷ after) →
    Carries lineage top (taken_out m s.place) (before ++ raised s.depth after) × OnlyThese (places (before ++ s ∷ after)) [] m (taken_out m s.place)

-- revoke: just the slots of the run are emptied
abbrev pub SweepOnBoard : Type 0
SweepOnBoard =
    (lineage : List Slot) (top : ℕ) (m : List ℕ) (before : List Entry) (s : Entry) (after : List Entry) →
    Carries lineage top m (before ++ s ∷ after) →
    Carries lineage top (swept m s.place) (before ++ s ∷ beyond s.depth after) ×
    OnlyThese (places (before ++ s ∷ after)) (places (run s.depth after)) m (swept m s.place)

-- whatever leaves the links of its slots leaves the ring: what is written into slots, pages and cleared units
abbrev pub LinksDecide : Type 0
LinksDecide =
    (lineage : List Slot) (top : ℕ) (m n : List ℕ) (ring : List Entry) → Carries lineage top m ring →
    length n ≡ length m → AllByRecursion (λ p. cell n p ≡ cell m p) (places ring) → Carries lineage top n ring

-- how many slots a walk passes: in a ring those of the run, and never more than there are units
abbrev pub RunLengths : Type 0
RunLengths =
    ((lineage : List Slot) (top : ℕ) (m : List ℕ) (before : List Entry) (s : Entry) (after : List Entry) → Carries lineage top m (before ++ s ∷ after) → run_length m s.place ≡ length (run s.depth after)) ×
    ((m : List ℕ) (s : ℕ) → run_length m s ≤ units m)
