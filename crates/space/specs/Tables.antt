-- A space of 64 pages, through two levels of page tables of 8 entries each. Assumes nothing: these are definitions.
use Rattle.std.specs.Prelude.{ℕ, ◌/◌, ◌%◌, Bool, cond, List, [], map, replicate, Some, None, Option, nat_lt, slice_index_or, slice_set}
use Rattle.space.specs.declared.entries.Entry.{Entry}
use Rattle.space.specs.declared.entries.Mapping.{Mapping}
use Rattle.space.specs.declared.tables.PageTables.{PageTables}
use Rattle.space.specs.Entries as entries

abbrev pub free_leaf : List Entry
free_leaf = replicate 8 entries.free

-- no page is there
abbrev pub fresh : PageTables
fresh = record { root = replicate 8 entries.free; leaves = replicate 8 free_leaf }

-- leaf i; one that was never used counts as free, whatever lies there
abbrev pub leaf : PageTables → ℕ → List Entry
leaf t i = cond (entries.is_valid (slice_index_or t.root i entries.free)) (slice_index_or t.leaves i []) free_leaf

-- page a is entry a % 8 of leaf a / 8
abbrev pub entry : PageTables → ℕ → Entry
entry t a = slice_index_or (leaf t (a / 8)) (a % 8) entries.free

-- the page with a number of the space, if it is there
abbrev pub look_up : PageTables → ℕ → Option Mapping
look_up t a = entries.mapping (entry t a)

-- an entry for page a; its leaf is used then. Nothing past the end
abbrev pub put : PageTables → ℕ → Entry → PageTables
put t a e =
    cond (nat_lt (a / 8) 8) (record {
      root = slice_set t.root (a / 8) entries.used;
      leaves = slice_set t.leaves (a / 8) (slice_set (leaf t (a / 8)) (a % 8) e);
    })
    t

-- an entry for page a, if there is one to put
abbrev pub put_if : PageTables → ℕ → Option Entry → PageTables
put_if t a None = t
put_if t a (Some e) = put t a e

-- page a of the space is the page at a place of the board; nothing where no page can be
abbrev pub map_page : PageTables → ℕ → ℕ → Bool → PageTables
map_page t a p w = put_if t a (entries.entry_of p w)

-- page a of the space is free
abbrev pub unmap : PageTables → ℕ → PageTables
unmap t a = put t a entries.free

-- a leaf without the pages that lie among n units from a place on
abbrev pub freed : ℕ → ℕ → List Entry → List Entry
freed from n = map (entries.outside from n)

-- each page that lies among n units from a place on leaves the space
abbrev pub unmap_range : ℕ → ℕ → PageTables → PageTables
unmap_range from n t = record { root = t.root; leaves = map (freed from n) t.leaves }
