-- Fields of bytes: what stands at a place, and how a reader goes on or refuses. Assumes nothing: these are definitions.
use Rattle.std.specs.Prelude.{ℕ, zero, suc, ◌+◌, ◌*◌, Bool, cond, List, length, Some, None, Ok, Err, Option, Result, nat_le, slice_index}
use Rattle.rights.specs.declared.refusals.Refusal.{Refusal}
use Rattle.rights.specs.declared.refusals.Refusal.TheVariants.{Length}

-- numbers of one and two bytes at a place, low byte first
abbrev pub one : List ℕ → ℕ → ℕ
one bs a = slice_index bs a

abbrev pub two : List ℕ → ℕ → ℕ
two bs a = slice_index bs a + slice_index bs (a + 1) * 256

-- what a reader answers: mostly the place where the next field begins
abbrev pub Read : Type 0 → Type 0
Read A = Result A Refusal

-- a reader that goes on from another's answer
infixr 20 ◌then◌
abbrev pub ◌then◌ : {A B : Type 0} → Read A → (A → Read B) → Read B
Ok a then f = f a
Err e then f = Err e

-- the place after n bytes, if they are there
abbrev pub end_of : List ℕ → ℕ → ℕ → Option ℕ
end_of bs at n = cond (nat_le (at + n) (length bs)) (Some (at + n)) None

-- the place after n bytes, which have to be there; else the image ends too early, at its length
abbrev pub past : List ℕ → ℕ → ℕ → Read ℕ
past bs at n = cond (nat_le (at + n) (length bs)) (Ok (at + n)) (Err (Length (length bs)))

-- a number of one or two bytes, which have to be there, and the place after them
abbrev pub read_one : List ℕ → ℕ → Read (ℕ × ℕ)
read_one bs at = past bs at 1 then λ next. Ok (one bs at, next)

abbrev pub read_two : List ℕ → ℕ → Read (ℕ × ℕ)
read_two bs at = past bs at 2 then λ next. Ok (two bs at, next)

-- a field that is judged: fine, or refused
abbrev pub judged : {A : Type 0} → Bool → Refusal → Read A → Read A
judged fine e r = cond fine r (Err e)

-- what has to be there
abbrev pub given : {A : Type 0} → Option A → Refusal → Read A
given (Some a) e = Ok a
given None e = Err e

-- a reader for each of k numbers from i on, one after the other
unfoldable pub each : {A : Type 0} → (ℕ → A → Read A) → ℕ → ℕ → A → Read A
each f zero i a = Ok a
each f (suc k) i a = f i a then each f k (suc i)
