-- The board's bytes through a space. Assumes nothing: these are definitions.
use Rattle.std.specs.Prelude.{ℕ, ◌+◌, ◌/◌, ◌%◌, cond, ◌&&◌, List, [], length, Some, None, Option, nat_le, nat_lt, slice_index}
use Rattle.board.specs.Parts as parts
use Rattle.space.specs.declared.entries.Mapping.{Mapping}
use Rattle.space.specs.declared.tables.PageTables.{PageTables}
use Rattle.space.specs.Tables.{look_up}

-- the bytes of a page of a space, none where no page is
abbrev pub page_of : List ℕ → Option Mapping → List ℕ
page_of m None = []
page_of m (Some x) = parts.page_at m x.place

-- the same of the page that an address leads to
abbrev pub page_seen : List ℕ → PageTables → ℕ → List ℕ
page_seen m t a = page_of m (look_up t (a / 4096))

-- a byte of them, 256 where there is none
abbrev pub byte_in : List ℕ → ℕ → ℕ
byte_in bs k = cond (nat_lt k (length bs)) (slice_index bs k) 256

-- what a thread sees at an address, 256 where there is nothing
abbrev pub seen : List ℕ → PageTables → ℕ → ℕ
seen m t a = byte_in (page_seen m t a) (a % 4096)

-- the place of a page of a space, if it may be written and n bytes from byte k on lie inside it
abbrev pub place_to : List ℕ → Option Mapping → ℕ → ℕ → Option ℕ
place_to m None k n = None
place_to m (Some x) k n = cond (x.writes && nat_le (k + n) (length (parts.page_at m x.place))) (Some x.place) None

-- the same at an address of a space
abbrev pub store_place : List ℕ → PageTables → ℕ → ℕ → Option ℕ
store_place m t a n = place_to m (look_up t (a / 4096)) (a % 4096) n

-- bytes stored in the page at a place from byte k on, if there is a place
abbrev pub put_to : List ℕ → Option ℕ → ℕ → List ℕ → List ℕ
put_to m None k bs = m
put_to m (Some p) k bs = parts.store m p k bs

-- bytes that are stored at an address of a space, if they may be
abbrev pub stored : List ℕ → PageTables → ℕ → List ℕ → List ℕ
stored m t a bs = put_to m (store_place m t a (length bs)) (a % 4096) bs
