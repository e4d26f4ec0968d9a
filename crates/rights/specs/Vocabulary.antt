-- The numbers of kinds, rights, refusals and answers. Assumes nothing: these are definitions.
use Rattle.std.specs.Prelude.{ℕ, Bool, true, cond, not, List, [], ◌∷◌, ◌++◌, length, Some, None, codes, decimal, Option, Result, ◌==◌, bit_and, nat_le, nat_lt, slice_index}
use Rattle.std.specs.Option.{ok_or}
use Rattle.rights.specs.declared.answers.Answer.{Answer}
use Rattle.rights.specs.declared.answers.Answer.TheVariants.{No, Done, Heard, Received}
use Rattle.rights.specs.declared.bits.Rights.{Rights}
use Rattle.rights.specs.declared.bits.UnknownRights.{UnknownRights}
use Rattle.rights.specs.declared.kinds.Kind.{Kind}
use Rattle.rights.specs.declared.kinds.UnknownKind.{UnknownKind}
use Rattle.rights.specs.declared.kinds.Kind.TheVariants.{Pool, Table, Port, Page, Thread, Line}
use Rattle.rights.specs.declared.refusals.Refusal.{Refusal}
use Rattle.rights.specs.declared.refusals.Refusal.TheVariants.{Length, Magic, Value, Name, Frames, Event}
use Rattle.rights.specs.World as world

-- a kind's number, in images and in calls
abbrev pub kind_number : Kind → ℕ
kind_number Pool = 0
kind_number Table = 1
kind_number Port = 2
kind_number Page = 3
kind_number Thread = 4
kind_number Line = 5

-- the kind with a number, if there is one
abbrev pub kind_from : ℕ → Option Kind
kind_from n =
    cond (n == 0) (Some Pool) (cond (n == 1) (Some Table) (cond (n == 2) (Some Port)
    (cond (n == 3) (Some Page) (cond (n == 4) (Some Thread) (cond (n == 5) (Some Line) None)))))

-- the same, or the number that is no kind's
abbrev pub kind_or : ℕ → Result Kind UnknownKind
kind_or n = ok_or (kind_from n) (record { number = n })

-- what is printed of it
abbrev pub unknown_kind_text : UnknownKind → List ℕ
unknown_kind_text e = codes "no kind of object has number " ++ decimal e.number

-- whether a bit is among some bits
abbrev pub has : ℕ → ℕ → Bool
has bits bit = not (bit_and bits bit == 0)

-- rights by their bits: 1 to read, 2 to write or send, 4 to hand on
abbrev pub rights_of_bits : ℕ → world.Rights
rights_of_bits n = record { reads = has n 1; writes = has n 2; hands = has n 4 }

-- what the code's rights mean in the world
abbrev pub rights_of : Rights → world.Rights
rights_of r = rights_of_bits r.bits

-- the rights with some bits; none above 7
abbrev pub rights_from : ℕ → Option Rights
rights_from n = cond (nat_le n 7) (Some (record { bits = n })) None

-- the same, or the bits that are no rights
abbrev pub rights_or : ℕ → Result Rights UnknownRights
rights_or n = ok_or (rights_from n) (record { bits = n })

-- what is printed of them
abbrev pub unknown_rights_text : UnknownRights → List ℕ
unknown_rights_text e = codes "there are no rights with bits " ++ decimal e.bits

-- the rights in both, and all three
abbrev pub met : Rights → Rights → Rights
met a b = record { bits = bit_and a.bits b.bits }

abbrev pub all_three : Rights
all_three = record { bits = 7 }

abbrev pub everything : world.Rights
everything = record { reads = true; writes = true; hands = true }

-- a refusal's number
abbrev pub refusal_number : Refusal → ℕ
refusal_number (Length p) = 1
refusal_number Magic = 2
refusal_number (Value p) = 3
refusal_number (Name p) = 4
refusal_number (Frames n) = 5
refusal_number (Event p) = 6

-- its place; for frames, how many would do
abbrev pub refusal_place : Refusal → ℕ
refusal_place (Length p) = p
refusal_place Magic = 0
refusal_place (Value p) = p
refusal_place (Name p) = p
refusal_place (Frames n) = n
refusal_place (Event p) = p

-- what is printed of it: "refused N at P"
abbrev pub refusal_text : Refusal → List ℕ
refusal_text r = codes "refused " ++ (decimal (refusal_number r) ++ (codes " at " ++ decimal (refusal_place r)))

-- the four words of a message
abbrev pub four : List ℕ → List ℕ
four ws = slice_index ws 0 ∷ slice_index ws 1 ∷ slice_index ws 2 ∷ slice_index ws 3 ∷ []

-- the words that come back
abbrev pub words : Answer → List ℕ
words No = world.no ∷ []
words Done = 0 ∷ []
words (Heard b) = 0 ∷ b ∷ []
words (Received b ws) = 0 ∷ b ∷ four ws

-- the word at a place, if there is one
abbrev pub word_at : List ℕ → ℕ → Option ℕ
word_at ws i = cond (nat_lt i (length ws)) (Some (slice_index ws i)) None
