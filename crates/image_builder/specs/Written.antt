-- The bytes of an image, field by field, low bytes first. Assumes nothing: these are definitions.
use Rattle.std.specs.Prelude.{ℕ, ◌-◌, List, [], ◌∷◌, ◌++◌, length, replicate, codes}
use Rattle.std.specs.Int.{w16, w32, to_le_bytes}
use Rattle.rights.specs.declared.kinds.Kind.{Kind}
use Rattle.rights.specs.Vocabulary.{kind_number}

-- some bytes of 0; a long row is not to be computed
unfoldable pub zeros : ℕ → List ℕ
zeros n = replicate n 0

-- "HOLD" and the number of objects
abbrev pub start : ℕ → List ℕ
start objects = codes "HOLD" ++ to_le_bytes w16 objects

-- a header: kind, size
abbrev pub header : Kind → ℕ → List ℕ
header kind size = kind_number kind ∷ to_le_bytes w16 size

-- a slot: object + 1, rights, badge
abbrev pub slot : ℕ → ℕ → ℕ → List ℕ
slot object rights badge = to_le_bytes w16 object ++ (rights ∷ to_le_bytes w32 badge)

-- a page that begins with some bytes
abbrev pub page : List ℕ → List ℕ
page bytes = bytes ++ zeros (4096 - length bytes)

-- a page of a space: page + 1, mark
abbrev pub mapping : ℕ → ℕ → List ℕ
mapping page mark = to_le_bytes w16 page ++ (mark ∷ [])

-- a thread begins with its table + 1, and ends, after the pages of its space, with its ready mark and its pc
abbrev pub table : ℕ → List ℕ
table number = to_le_bytes w16 number

abbrev pub begins : ℕ → ℕ → List ℕ
begins ready pc = ready ∷ to_le_bytes w32 pc
