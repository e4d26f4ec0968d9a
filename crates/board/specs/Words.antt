-- Little-endian words of units. A unit is 64 bytes, sixteen words; places count units from 1, so that 0 is none.
-- Assumes nothing: these are definitions.
use Rattle.std.specs.Prelude.{ℕ, ◌+◌, ◌-◌, ◌*◌, ◌/◌, ◌%◌, Bool, ◌&&◌, cond, List, [], ◌∷◌, length, nat_le, nat_lt, slice_index, slice_set}

-- whether the unit at place p lies within m
abbrev pub there : List ℕ → ℕ → Bool
there m p = nat_lt 0 p && nat_le (64 * p) (length m)

-- and has a word k, which is below 16
abbrev pub has_word : List ℕ → ℕ → ℕ → Bool
has_word m p k = there m p && nat_lt k 16

-- the first byte of word k of the unit at place p
abbrev pub byte_of : ℕ → ℕ → ℕ
byte_of p k = 64 * p - 64 + 4 * k

-- four bytes from byte a on as a number, low byte first
abbrev pub four : List ℕ → ℕ → ℕ
four m a = slice_index m a + 256 * slice_index m (a + 1) + 65536 * slice_index m (a + 2) + 16777216 * slice_index m (a + 3)

-- a number written over four bytes from byte a on
abbrev pub put_four : List ℕ → ℕ → ℕ → List ℕ
put_four m a v = slice_set (slice_set (slice_set (slice_set m a (v % 256)) (a + 1) (v / 256 % 256)) (a + 2) (v / 65536 % 256)) (a + 3) (v / 16777216)

-- word k of the unit at place p; 0 where there is none
unfoldable pub word : List ℕ → ℕ → ℕ → ℕ
word m p k = cond (has_word m p k) (four m (byte_of p k)) 0

-- v in its place; nothing where there is none
unfoldable pub put_word : List ℕ → ℕ → ℕ → ℕ → List ℕ
put_word m p k v = cond (has_word m p k) (put_four m (byte_of p k) v) m

-- words written one after the other from word k of a unit on
unfoldable pub put_words : List ℕ → ℕ → ℕ → List ℕ → List ℕ
put_words m p k [] = m
put_words m p k (v ∷ vs) = put_words (put_word m p k v) p (k + 1) vs
