-- The board as code above sees it: its bytes, and how many words were touched. Assumes nothing: these are definitions.
use Rattle.std.specs.Prelude.{ℕ, ◌+◌, ◌-◌, ◌^◌, List, min}

-- the bytes that are lent, and the count of words
pub record Lent : Type 0 where
  pub bytes : List ℕ
  pub touched : ℕ

-- n words more, up to the largest number that the count can be
abbrev pub more : ℕ → ℕ → ℕ
more touched n = min (touched + n) (2 ^ 64 - 1)

-- other bytes, and the same count
abbrev pub with_bytes : Lent → List ℕ → Lent
with_bytes b m = record b { bytes = m }
