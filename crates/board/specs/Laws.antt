-- The laws of the board: what is written is read again, and nothing else changes. Assumes nothing: these are statements, proved in proofs/.
use Rattle.std.specs.Prelude.{◌≡◌, ◌⊎◌, ℕ, ◌+◌, ◌/◌, ◌<◌, ◌≤◌, true, false, List, length, replicate, slice_index, Option, Some, None}
use Rattle.rights.specs.World.{over}
use Rattle.rights.specs.Vocabulary.{all_three}
use Rattle.board.specs.Words.{there}
use Rattle.board.specs.Slots.{decoded, encoded, slot_at, put_slot, InRange, upd}
use Rattle.board.specs.Links.{cell, no_links, put_next, put_prev, put_depth, put_up, set_next, set_prev, set_depth, set_up}
use Rattle.board.specs.Parts.{within, cleared, page_at, in_page, store}
use Rattle.board.specs.Around.{SameBut}
use Rattle.board.specs.declared.slots.Capability.{Capability}
use Rattle.board.specs.declared.slots.Object.{Object}
use Rattle.board.specs.declared.slots.Object.TheVariants.{Pool, Table, Port, Page, Thread, Line}

-- the words that mean what a slot holds mean just that
abbrev pub Decodes : Type 0
Decodes = (x : Option Capability) → InRange x → decoded (encoded x) ≡ x

-- a slot that is written holds what was written; every other slot and every link is as it was
abbrev pub SlotsHold : Type 0
SlotsHold = (m : List ℕ) (p : ℕ) (x : Option Capability) → there m p ≡ true → InRange x →
    (slot_at (put_slot m p x) ≡ upd (slot_at m) p x) × (cell (put_slot m p x) ≡ cell m)

-- a link that is written is the new one; every other link is as it was
abbrev pub LinksHold : Type 0
LinksHold = (m : List ℕ) (p v : ℕ) → there m p ≡ true →
    (cell (put_next m p v) ≡ set_next (cell m) p v) × (cell (put_prev m p v) ≡ set_prev (cell m) p v)
    × (cell (put_depth m p v) ≡ set_depth (cell m) p v) × (cell (put_up m p v) ≡ set_up (cell m) p v)

-- and so is what each slot holds
abbrev pub LinksKeepSlots : Type 0
LinksKeepSlots = (m : List ℕ) (p v : ℕ) →
    (slot_at (put_next m p v) ≡ slot_at m) × (slot_at (put_prev m p v) ≡ slot_at m)
    × (slot_at (put_depth m p v) ≡ slot_at m) × (slot_at (put_up m p v) ≡ slot_at m)

-- where no unit is, nothing is read and nothing is written
abbrev pub NothingThere : Type 0
NothingThere = (m : List ℕ) (p : ℕ) → there m p ≡ false →
    (slot_at m p ≡ None) × (cell m p ≡ no_links) × ((x : Option Capability) → put_slot m p x ≡ m)
    × ((v : ℕ) → (put_next m p v ≡ m) × (put_prev m p v ≡ m) × (put_depth m p v ≡ m) × (put_up m p v ≡ m))

-- a slot or a link that is written changes bytes of its own unit and no others
abbrev pub OneUnit : Type 0
OneUnit = (m : List ℕ) (p : ℕ) →
    ((x : Option Capability) → SameBut m (put_slot m p x) p 1)
    × ((v : ℕ) → SameBut m (put_next m p v) p 1 × SameBut m (put_prev m p v) p 1 × SameBut m (put_depth m p v) p 1 × SameBut m (put_up m p v) p 1)

-- slots, links and pages that lie apart from what has changed are as they were
abbrev pub LiesApart : Type 0
LiesApart = (m n : List ℕ) (p k : ℕ) → SameBut m n p k → (q : ℕ) →
    ((q < p) ⊎ (p + k ≤ q) → (slot_at n q ≡ slot_at m q) × (cell n q ≡ cell m q))
    × ((q + 64 ≤ p) ⊎ (p + k ≤ q) → page_at n q ≡ page_at m q)

-- units lie within where the last of them is there
abbrev pub LastUnitThere : Type 0
LastUnitThere = (m : List ℕ) (p n : ℕ) → 0 < p → within m p (n + 1) ≡ there m (p + n)

-- units that are cleared are 0 throughout, slots there are empty and have no links, pages are 0; all else is as it was
abbrev pub Clears : Type 0
Clears = (m : List ℕ) (p n : ℕ) →
    SameBut m (cleared m p n) p n
    × (within m p n ≡ true →
    ((b : ℕ) → p ≤ b / 64 + 1 → b / 64 + 1 < p + n → slice_index (cleared m p n) b ≡ 0)
    × ((q : ℕ) → p ≤ q → q < p + n → (slot_at (cleared m p n) q ≡ None) × (cell (cleared m p n) q ≡ no_links))
    × ((q : ℕ) → p ≤ q → q + 64 ≤ p + n → page_at (cleared m p n) q ≡ replicate (length (page_at m q)) 0))
    × (within m p n ≡ false → cleared m p n ≡ m)

-- bytes that are stored stand in the page as the world writes them over; all other units are as they were
abbrev pub Stores : Type 0
Stores = (m : List ℕ) (p o : ℕ) (bs : List ℕ) →
    SameBut m (store m p o bs) p 64
    × (in_page m p o (length bs) ≡ true → page_at (store m p o bs) p ≡ over (page_at m p) o bs)
    × (in_page m p o (length bs) ≡ false → store m p o bs ≡ m)

-- an object held with all rights
abbrev pub held : Object → Capability
held o = record { object = o; rights = all_three; badge = 0 }

-- what these ask can be met: a board with one unit, one with one page, and a capability of each kind
abbrev pub CanBeMet : Type 0
CanBeMet =
    (there (replicate 64 0) 1 ≡ true) × (within (replicate 4096 0) 1 64 ≡ true) × (in_page (replicate 4096 0) 1 8 4 ≡ true)
    × InRange (Some (held (Pool 65 128 3 1))) × InRange (Some (held (Table 1 16))) × InRange (Some (held (Port 17)))
    × InRange (Some (held (Page 65))) × InRange (Some (held (Thread 0))) × InRange (Some (held (Line 0))) × InRange None
