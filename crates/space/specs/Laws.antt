-- What page tables, the bytes of a space and lines promise. Each statement is named by the contract of a function in src/theorems.rt.
-- Assumes nothing: these are definitions.
use Rattle.std.specs.Prelude.{◌≡◌, ◌≢◌, ◌⊎◌, ◌&&◌, ℕ, suc, ◌+◌, ◌-◌, ◌/◌, ◌%◌, ◌^◌, ◌<◌, ◌≤◌, Bool, true, false, cond, List, [], ◌++◌, ◌∷◌, length, map, All, Some, None, Option, IfSome, IsSomeAnd, MatchOption, is_some, replicate, nat_le, nat_lt, slice_index, slice_index_or, slice_set}
use Rattle.rights.specs.Vocabulary.{has}
use Rattle.rights.specs.World as world
use Rattle.rights.specs.World.{World, over}
use Rattle.rv32.specs.Examples.{sizes}
use Rattle.rv32.specs.Execute.{act}
use Rattle.rv32.specs.Registers.{fresh}
use Rattle.rv32.specs.declared.registers.Cpu.{Cpu}
use Rattle.board.specs.Around.{SameBut}
use Rattle.board.specs.Parts.{page_at}
use Rattle.board.specs.Slots.{upd}
use Rattle.space.specs.declared.entries.Mapping.{Mapping}
use Rattle.space.specs.declared.lines.Line.{Line}
use Rattle.space.specs.declared.side.Thread.{Thread}
use Rattle.space.specs.declared.tables.PageTables.{PageTables}
use Rattle.space.specs.Bytes.{seen, store_place, stored}
use Rattle.space.specs.Entries.{free, entry_word, is_valid, mapping}
use Rattle.space.specs.Lines as lines
use Rattle.space.specs.Lines.{waiting}
use Rattle.space.specs.Side.{without_range}
use Rattle.space.specs.Tables as tables
use Rattle.space.specs.Tables.{look_up}

-- a root of eight entries and eight leaves of eight, as the code's arrays are
pub record Shaped (t : PageTables) : Type 0 where
  pub root : length t.root ≡ 8
  pub leaves : length t.leaves ≡ 8
  pub leaf : (i : ℕ) → i < 8 → length (slice_index_or t.leaves i []) ≡ 8

-- An entry is a word of 32 bits with the read bit, and leads to the page that it was made for.
abbrev pub EntriesReadBack : Type 0
EntriesReadBack =
    (p : ℕ) (w : Bool) → p % 64 ≡ 1 → p < 2 ^ 28 →
    (entry_word p w < 2 ^ 32)
    × (has (entry_word p w) 2 ≡ true)
    × (mapping (record { word = entry_word p w }) ≡ Some (record { place = p; writes = w }))

-- A new space has no page.
abbrev pub NewIsFree : Type 0
NewIsFree = (a : ℕ) → look_up tables.fresh a ≡ None

-- A leaf that the root does not say is used has no page, whatever lies in it.
abbrev pub UnusedIsFree : Type 0
UnusedIsFree = (t : PageTables) (a : ℕ) → is_valid (slice_index_or t.root (a / 8) free) ≡ false → look_up t a ≡ None

-- After map the page is there, and every other page of the space is as it was.
abbrev pub Maps : Type 0
Maps =
    (t : PageTables) → Shaped t → (a p : ℕ) (w : Bool) → a < 64 → p % 64 ≡ 1 → p < 2 ^ 28 →
    look_up (tables.map_page t a p w) ≡ upd (look_up t) a (Some (record { place = p; writes = w }))

-- After unmap the page is free, and every other page of the space is as it was.
abbrev pub Unmaps : Type 0
Unmaps = (t : PageTables) → Shaped t → (a : ℕ) → a < 64 → look_up (tables.unmap t a) ≡ upd (look_up t) a None

-- whether a place is among n units from a place on
abbrev pub in_range : ℕ → ℕ → ℕ → Bool
in_range from n p = nat_le from p && nat_lt p (from + n)

-- a page of a space, unless it lies among n units of the board from a place on
abbrev pub without : ℕ → ℕ → Option Mapping → Option Mapping
without from n None = None
without from n (Some x) = cond (in_range from n x.place) None (Some x)

-- After unmap_range exactly the pages in the range are gone from the space.
abbrev pub RangeLeaves : Type 0
RangeLeaves = (from n : ℕ) (t : PageTables) → look_up (tables.unmap_range from n t) ≡ (λ a. without from n (look_up t a))

-- Beyond page 63, or where no page can be on the board, nothing is looked up, mapped or unmapped.
abbrev pub NothingBeyond : Type 0
NothingBeyond =
    (t : PageTables) (a p : ℕ) (w : Bool) →
    (Shaped t → 64 ≤ a → look_up t a ≡ None)
    × (64 ≤ a → tables.map_page t a p w ≡ t)
    × ((p % 64 ≢ 1) ⊎ (2 ^ 28 ≤ p) → tables.map_page t a p w ≡ t)
    × (64 ≤ a → tables.unmap t a ≡ t)

-- Page tables keep their shape, and new ones have it.
abbrev pub StaysShaped : Type 0
StaysShaped =
    Shaped tables.fresh
    × ((t : PageTables) → Shaped t → (a p : ℕ) (w : Bool) → Shaped (tables.map_page t a p w))
    × ((t : PageTables) → Shaped t → (a : ℕ) → Shaped (tables.unmap t a))
    × ((from n : ℕ) (t : PageTables) → Shaped t → Shaped (tables.unmap_range from n t))

-- a page of a space does not lie in the range
abbrev pub IsOutside : ℕ → ℕ → Option Mapping → Type 0
IsOutside from n o = without from n o ≡ o

-- After unmap_everywhere no thread has a page in the range, and all but their spaces is as it was.
abbrev pub RangeLeavesAll : Type 0
RangeLeavesAll =
    (from n : ℕ) (ts : List Thread) →
    All (λ (t : Thread). (a : ℕ) → IsOutside from n (look_up t.pages a)) (map (without_range from n) ts)
    × ((t : Thread) → record (without_range from n t) { pages = t.pages } ≡ t)

-- o is the world's number + 1 of a page whose bytes a page of a space has; 0 where the space has none
abbrev pub IsShown : List ℕ → World Cpu → ℕ → Option Mapping → Type 0
IsShown m w o None = o ≡ 0
IsShown m w o (Some x) =
    (o ≢ 0)
    × (length (page_at m x.place) ≡ 4096)
    × (world.bytes_of Cpu fresh act (world.object Cpu fresh act w (o - 1)) ≡ page_at m x.place)

-- a space shows what a thread of the world has: at each place the page with that number + 1, or 0, and whether it may be written
pub record Shows (m : List ℕ) (t : PageTables) (w : World Cpu) (ps : List ℕ) (rs : List Bool) : Type 0 where
  pub pages : length ps ≡ 64
  pub marks : length rs ≡ 64
  pub shown : (a : ℕ) → a < 64 → IsShown m w (slice_index ps a) (look_up t a)
  pub written : (a : ℕ) → a < 64 → IfSome (look_up t a) (λ x. slice_index_or rs a false ≡ x.writes)

-- Then a thread sees what it sees in the world.
abbrev pub SeenAsInWorld : Type 0
SeenAsInWorld =
    (m : List ℕ) (t : PageTables) → Shaped t → (w : World Cpu) (ps : List ℕ) (rs : List Bool) → Shows m t w ps rs →
    (a : ℕ) → world.seen Cpu fresh act sizes w ps a ≡ seen m t a

-- And it may store where it may in the world.
abbrev pub StoresAsInWorld : Type 0
StoresAsInWorld =
    (m : List ℕ) (t : PageTables) → Shaped t → (w : World Cpu) (ps : List ℕ) (rs : List Bool) → Shows m t w ps rs →
    (a : ℕ) (bs : List ℕ) → world.may_store Cpu fresh act sizes ps rs a bs ≡ is_some (store_place m t a (length bs))

-- A store that may not be done changes nothing. One that may be done writes over the page that is there, and changes no byte of any other.
abbrev pub StoresInOnePage : Type 0
StoresInOnePage =
    (m : List ℕ) (t : PageTables) (a : ℕ) (bs : List ℕ) →
    MatchOption (store_place m t a (length bs)) (stored m t a bs ≡ m)
    (λ p. IsSomeAnd (look_up t (a / 4096)) (λ x. (x.place ≡ p) × (x.writes ≡ true))
    × SameBut m (stored m t a bs) p 64
    × (page_at (stored m t a bs) p ≡ over (page_at m p) (a % 4096) bs))

-- A new space shows that of a thread with no pages; map and unmap change both alike.
abbrev pub GoesOnShowing : Type 0
GoesOnShowing =
    ((m : List ℕ) (w : World Cpu) → Shows m tables.fresh w (replicate 64 0) (replicate 64 false))
    × ((m : List ℕ) (t : PageTables) → Shaped t → (w : World Cpu) (ps : List ℕ) (rs : List Bool) → Shows m t w ps rs →
    (a p o : ℕ) (r : Bool) → a < 64 → p % 64 ≡ 1 → p < 2 ^ 28 → IsShown m w (suc o) (Some (record { place = p; writes = r })) →
    Shows m (tables.map_page t a p r) w (slice_set ps a (suc o)) (slice_set rs a r))
    × ((m : List ℕ) (t : PageTables) → Shaped t → (w : World Cpu) (ps : List ℕ) (rs : List Bool) → Shows m t w ps rs →
    (a : ℕ) → a < 64 → Shows m (tables.unmap t a) w (slice_set ps a 0) (slice_set rs a false))

-- A range that holds exactly the pages of some objects leaves the space as those objects leave it in the world when they are gone.
abbrev pub RangeLeavesInWorld : Type 0
RangeLeavesInWorld =
    (m : List ℕ) (t : PageTables) (w : World Cpu) (ps : List ℕ) (rs : List Bool) → Shows m t w ps rs →
    (from n : ℕ) (os : List ℕ) →
    ((a : ℕ) → a < 64 → IfSome (look_up t a) (λ x. in_range from n x.place ≡ world.among (slice_index ps a - 1) os)) →
    Shows m (tables.unmap_range from n t) w (world.unmapped Cpu fresh act os ps) rs

-- a page of a space is the page at place p, which is the world's with number o - 1, or another one that lies apart from it
abbrev pub SameOrApart : ℕ → ℕ → ℕ → Option Mapping → Type 0
SameOrApart p o q None = Unit {0}
SameOrApart p o q (Some x) = ((q ≡ o) × (x.place ≡ p)) ⊎ ((q ≢ o) × ((x.place + 64 ≤ p) ⊎ (p + 64 ≤ x.place)))

-- After a store of one thread every space shows what it has in the world after the same store, where pages lie apart.
abbrev pub StoresGoOnShowing : Type 0
StoresGoOnShowing =
    (m : List ℕ) (t : PageTables) → Shaped t → (w : World Cpu) (ps : List ℕ) (rs : List Bool) → Shows m t w ps rs →
    (a p : ℕ) (bs : List ℕ) → store_place m t a (length bs) ≡ Some p →
    (u : PageTables) (qs : List ℕ) (ss : List Bool) → Shows m u w qs ss →
    ((b : ℕ) → b < 64 → SameOrApart p (slice_index ps (a / 4096)) (slice_index qs b) (look_up u b)) →
    Shows (stored m t a bs) u (world.stores Cpu fresh act sizes w ps rs a bs) qs ss

-- a space with the page at place 1 as its page 0, and a world with that page as its only object
abbrev pub one_page : PageTables
one_page = tables.map_page tables.fresh 0 1 true

abbrev pub one_object : List ℕ → World Cpu
one_object bs = record { objects = world.page 0 bs ∷ []; births = 0; lineage = [] }

-- What these laws ask for can be met: on any board of a page.
abbrev pub CanBeShown : Type 0
CanBeShown =
    (m : List ℕ) → length m ≡ 4096 →
    Shows m one_page (one_object (page_at m 1)) (slice_set (replicate 64 0) 0 1) (slice_set (replicate 64 false) 0 true)
    × (store_place m one_page 0 1 ≡ Some 1)
    × ((b : ℕ) → b < 64 → SameOrApart 1 1 (slice_index (slice_set (replicate 64 0) 0 1) b) (look_up one_page b))

-- a line as it is kept: room for 1,024 bytes, of which some wait
pub record Kept (l : Line) : Type 0 where
  pub room : length l.bytes ≡ 1024
  pub count : l.count ≤ 1024

-- the bytes that wait once one comes in, and once one is heard
abbrev pub one_more : List ℕ → ℕ → List ℕ
one_more ys b = cond (nat_lt (length ys) 1024) (ys ++ b ∷ []) ys

abbrev pub first : List ℕ → Option ℕ
first [] = None
first (y ∷ ys) = Some y

abbrev pub rest : List ℕ → List ℕ
rest [] = []
rest (y ∷ ys) = ys

-- A byte that comes in waits last, or is lost where 1,024 wait; the first is heard, and the rest waits on. A new line has none.
abbrev pub LinesInOrder : Type 0
LinesInOrder =
    ((o : ℕ) → waiting (lines.fresh o) ≡ [])
    × ((l : Line) → Kept l → (b : ℕ) → waiting (lines.come_in l b) ≡ one_more (waiting l) b)
    × ((l : Line) → Kept l → lines.heard l ≡ first (waiting l))
    × ((l : Line) → Kept l → waiting (lines.hear l) ≡ rest (waiting l))

-- Lines stay as they are kept, with their object's number, and new ones are kept so.
abbrev pub StaysKept : Type 0
StaysKept =
    ((o : ℕ) → Kept (lines.fresh o))
    × ((l : Line) → Kept l → (b : ℕ) → Kept (lines.come_in l b) × ((lines.come_in l b).object ≡ l.object))
    × ((l : Line) → Kept l → Kept (lines.hear l) × ((lines.hear l).object ≡ l.object))
