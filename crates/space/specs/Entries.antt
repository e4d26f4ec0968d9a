-- One entry of a page table, a word in Sv32's order of bits: bit 0 valid, bit 1 read, bit 2 write, the frame number from bit 10 on.
-- Assumes nothing: these are definitions.
use Rattle.std.specs.Prelude.{ℕ, ◌+◌, ◌*◌, ◌/◌, ◌%◌, ◌^◌, Bool, cond, ◌&&◌, Some, None, Option, ◌==◌, nat_le, nat_lt}
use Rattle.rights.specs.Vocabulary.{has}
use Rattle.space.specs.declared.entries.Entry.{Entry}
use Rattle.space.specs.declared.entries.Mapping.{Mapping}

-- no page is there
abbrev pub free : Entry
free = record { word = 0 }

-- an entry of the root whose leaf is used: valid, neither read nor write
abbrev pub used : Entry
used = record { word = 1 }

-- whether a page can begin at a place: places count units of 64 bytes from 1, a page has 64 of them, and a frame's number has 22 bits
abbrev pub is_page_place : ℕ → Bool
is_page_place p = p % 64 == 1 && nat_lt p (2 ^ 28)

-- the frame's number, and the bits for a page that may be written or only read
abbrev pub entry_word : ℕ → Bool → ℕ
entry_word p w = p / 64 * 2 ^ 10 + cond w 7 3

-- the entry for the page at a place, none where no page can be
abbrev pub entry_of : ℕ → Bool → Option Entry
entry_of p w = cond (is_page_place p) (Some (record { word = entry_word p w })) None

abbrev pub is_valid : Entry → Bool
is_valid e = has e.word 1

abbrev pub writes : Entry → Bool
writes e = has e.word 4

-- the place of the page's first unit
abbrev pub place : Entry → ℕ
place e = e.word / 2 ^ 10 * 64 + 1

-- the page that it leads to, if it leads to one
abbrev pub mapping : Entry → Option Mapping
mapping e = cond (is_valid e) (Some (record { place = place e; writes = writes e })) None

-- whether a place is among n units from a place on
abbrev pub among : ℕ → ℕ → ℕ → Bool
among from n p = nat_le from p && nat_lt p (from + n)

-- free if its page lies among n units from a place on
abbrev pub outside : ℕ → ℕ → Entry → Entry
outside from n e = cond (among from n (place e)) free e
