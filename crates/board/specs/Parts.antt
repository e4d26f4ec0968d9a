-- Parts of the memory that belong to one object: units that are cleared, and the bytes of a page. Assumes nothing: these are definitions.
use Rattle.std.specs.Prelude.{ℕ, ◌+◌, ◌-◌, ◌*◌, Bool, ◌&&◌, cond, List, [], ◌++◌, length, take, drop, nat_le, nat_lt, replicate, slice_index, slice_range}
use Rattle.board.specs.Words.{four}

-- whether n units from place p on lie within m
abbrev pub within : List ℕ → ℕ → ℕ → Bool
within m p n = nat_lt 0 p && nat_le (64 * p - 64 + 64 * n) (length m)

-- ys over the bytes of m from byte a on
abbrev pub written : List ℕ → ℕ → List ℕ → List ℕ
written m a ys = take a m ++ (ys ++ drop (a + length ys) m)

-- n units from place p on are 0 throughout; nothing where they do not all lie within
unfoldable pub cleared : List ℕ → ℕ → ℕ → List ℕ
cleared m p n = cond (within m p n) (written m (64 * p - 64) (replicate (64 * n) 0)) m

-- the bytes of the page at place p, which has 64 units; no bytes where it does not lie within
unfoldable pub page_at : List ℕ → ℕ → List ℕ
page_at m p = cond (within m p 64) (slice_range m (64 * p - 64) (64 * p - 64 + 4096)) []

-- whether n bytes from byte o on lie in the page at place p
abbrev pub in_page : List ℕ → ℕ → ℕ → ℕ → Bool
in_page m p o n = within m p 64 && nat_le (o + n) 4096

-- bytes stored in the page at place p from byte o on; nothing where they do not all lie in it
unfoldable pub store : List ℕ → ℕ → ℕ → List ℕ → List ℕ
store m p o bs = cond (in_page m p o (length bs)) (written m (64 * p - 64 + o) bs) m

-- two bytes from byte a on as a number, low byte first
abbrev pub two : List ℕ → ℕ → ℕ
two m a = slice_index m a + 256 * slice_index m (a + 1)

-- a number of one, two or four bytes from byte o of the page at place p on; 0 where they do not all lie in it
abbrev pub page_byte : List ℕ → ℕ → ℕ → ℕ
page_byte m p o = slice_index (page_at m p) o

abbrev pub page_half : List ℕ → ℕ → ℕ → ℕ
page_half m p o = cond (nat_le (o + 2) (length (page_at m p))) (two (page_at m p) o) 0

abbrev pub page_word : List ℕ → ℕ → ℕ → ℕ
page_word m p o = cond (nat_le (o + 4) (length (page_at m p))) (four (page_at m p) o) 0
