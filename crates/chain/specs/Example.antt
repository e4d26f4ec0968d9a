-- A ring that meets what the laws ask for, so that none of them is empty. Assumes nothing: these are definitions and a statement.
use Rattle.std.specs.Prelude.{◌≡◌, ℕ, ◌==◌, ◌^◌, ◌<◌, true, false, replicate, List, [], ◌∷◌}
use Rattle.rights.specs.World.{Slot, cap, Rights, pick}
use Rattle.chain.specs.Entries.{Entry, child, run, beyond}
use Rattle.board.specs.Links.{Cell}
use Rattle.chain.specs.Ring.{Stands, inserted}
use Rattle.chain.specs.Laws.{Outside}
use Rattle.chain.specs.Bytes as bytes
use Rattle.chain.specs.OnBoard.{Carries}
use Rattle.board.specs.Words.{there}

-- two roots, in slots 3 and 7
abbrev pub old : Entry
old = record { place = 3; depth = 0; birth = 1 }

abbrev pub other : Entry
other = record { place = 7; depth = 0; birth = 2 }

-- each is before and after the other
abbrev pub two : ℕ → Cell
two k =
    pick (k == 3) (record { next = 7; prev = 7; depth = 0; up = 0 }) (pick (k == 7) (record { next = 3; prev = 3; depth = 0; up = 0 }) (record { next = 0; prev = 0; depth = 0; up = 0 }))

abbrev pub none : Rights
none = record { reads = false; writes = false; hands = false }

-- a copy of the first in slot 5, and a copy of that in slot 4
abbrev pub young : Entry
young = child old 5 3

abbrev pub youngest : Entry
youngest = child young 4 4

abbrev pub lineage : List Slot
lineage = cap 0 none 0 4 3 ∷ cap 0 none 0 3 1 ∷ []

abbrev pub four : ℕ → Cell
four = inserted (inserted two 3 5) 5 4

-- it is a ring of four that is right; slot 9 is outside of it; and the first one's run is the two copies
abbrev pub ExampleStands : Type 0
ExampleStands =
    Stands lineage 4 four (old ∷ young ∷ youngest ∷ other ∷ []) × Outside 9 (old ∷ young ∷ youngest ∷ other ∷ []) ×
    (run 0 (young ∷ youngest ∷ other ∷ []) ≡ young ∷ youngest ∷ []) × (beyond 0 (young ∷ youngest ∷ other ∷ []) ≡ other ∷ [])

-- a board of nine units with the two roots, and after a copy of the first to slot 5
abbrev pub two_on_board : List ℕ
two_on_board = bytes.joined (bytes.joined (replicate 576 0) 3 7) 7 3

abbrev pub ExampleOnBoard : Type 0
ExampleOnBoard =
    Carries [] 2 two_on_board (old ∷ other ∷ []) × (bytes.units two_on_board < 2 ^ 32) × (there two_on_board 5 ≡ true) ×
    Carries (cap 0 none 0 3 1 ∷ []) 3 (bytes.inserted two_on_board 3 5) (old ∷ young ∷ other ∷ [])
