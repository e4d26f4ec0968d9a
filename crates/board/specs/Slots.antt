-- What a slot holds, as a value. A slot is a unit of sixteen words; the first eight are its content.
-- Assumes nothing: these are definitions.
use Rattle.std.specs.Prelude.{ℕ, ◌+◌, ◌*◌, ◌/◌, ◌%◌, ◌≤◌, ◌==◌, cond, List, [], ◌∷◌, ◌++◌, slice_index, replicate, Option, Some, None}
use Rattle.std.specs.Option.{option_map, option_and_then}
use Rattle.rights.specs.World.{pick}
use Rattle.rights.specs.Vocabulary.{rights_from}
use Rattle.rights.specs.declared.bits.Rights.{Rights}
use Rattle.board.specs.Words.{word, put_words}
use Rattle.board.specs.declared.slots.Object.{Object}
use Rattle.board.specs.declared.slots.Object.TheVariants.{Pool, Table, Port, Page, Thread, Line}
use Rattle.board.specs.declared.slots.Capability.{Capability}

-- the object that six words mean: its kind's number and 1, place or index, size, used, and the low and high half of its level
abbrev pub object_of : List ℕ → Option Object
object_of ws =
    cond (slice_index ws 0 == 1) (Some (Pool (slice_index ws 1) (slice_index ws 2) (slice_index ws 3) (slice_index ws 4 + 4294967296 * slice_index ws 5)))
    (cond (slice_index ws 0 == 2) (Some (Table (slice_index ws 1) (slice_index ws 2)))
    (cond (slice_index ws 0 == 3) (Some (Port (slice_index ws 1)))
    (cond (slice_index ws 0 == 4) (Some (Page (slice_index ws 1)))
    (cond (slice_index ws 0 == 5) (Some (Thread (slice_index ws 1)))
    (cond (slice_index ws 0 == 6) (Some (Line (slice_index ws 1)))
    None)))))

-- the six words that mean an object
abbrev pub words_of : Object → List ℕ
words_of (Pool p n u l) = 1 ∷ p ∷ n ∷ u ∷ (l % 4294967296) ∷ (l / 4294967296) ∷ []
words_of (Table p n) = 2 ∷ p ∷ n ∷ 0 ∷ 0 ∷ 0 ∷ []
words_of (Port p) = 3 ∷ p ∷ 0 ∷ 0 ∷ 0 ∷ 0 ∷ []
words_of (Page p) = 4 ∷ p ∷ 0 ∷ 0 ∷ 0 ∷ 0 ∷ []
words_of (Thread i) = 5 ∷ i ∷ 0 ∷ 0 ∷ 0 ∷ 0 ∷ []
words_of (Line i) = 6 ∷ i ∷ 0 ∷ 0 ∷ 0 ∷ 0 ∷ []

-- what eight words mean: an object, rights and a badge; nothing where they name no kind or no rights
abbrev pub decoded : List ℕ → Option Capability
decoded ws =
    option_and_then (λ o. option_map (λ (r : Rights). record { object = o; rights = r; badge = slice_index ws 7 }) (rights_from (slice_index ws 6)))
    (object_of ws)

-- the eight words that mean what a slot holds
abbrev pub encoded : Option Capability → List ℕ
encoded None = replicate 8 0
encoded (Some c) = words_of c.object ++ (c.rights.bits ∷ c.badge ∷ [])

-- what the slot at place p holds
abbrev pub slot_at : List ℕ → ℕ → Option Capability
slot_at m p = decoded (word m p 0 ∷ word m p 1 ∷ word m p 2 ∷ word m p 3 ∷ word m p 4 ∷ word m p 5 ∷ word m p 6 ∷ word m p 7 ∷ [])

-- the slot at place p holds x; its links stay
abbrev pub put_slot : List ℕ → ℕ → Option Capability → List ℕ
put_slot m p x = put_words m p 0 (encoded x)

-- the three bits of rights are all that a slot can hold of them; its other numbers are held whatever they are
abbrev pub InRange : Option Capability → Type 0
InRange None = Unit {0}
InRange (Some c) = c.rights.bits ≤ 7

-- f, but x at p
abbrev pub upd : {A : Type 0} → (ℕ → A) → ℕ → A → ℕ → A
upd f p x q = pick (q == p) x (f q)
