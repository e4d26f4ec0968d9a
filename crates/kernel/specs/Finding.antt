-- How a thread or a line is found by the number of its object: by halves, among numbers that rise. Assumes nothing: these are definitions and a statement.
use Rattle.std.specs.Prelude.{◌≡◌, ℕ, ◌+◌, ◌<◌, ◌⊎◌, ◌∷◌, replicate, Option, Some, None, cond, ◌==◌, nat_le}
use Rattle.space.specs.declared.side.Side.{Side}
use Rattle.space.specs.Lines as lines
use Rattle.space.specs.Side.{fresh_thread}
use Rattle.calls.specs.Machine.{thread_at, line_at}

-- so many further on, if the number there is not above o
unfoldable pub further : (ℕ → ℕ) → ℕ → ℕ → ℕ → ℕ
further f o n at = cond (nat_le (f (at + n)) o) (at + n) at

-- the index, if the number there is o
abbrev pub exactly : (ℕ → ℕ) → ℕ → ℕ → Option ℕ
exactly f o at = cond (f at == o) (Some at) None

-- the number of the object that thread i is, and that line j is
abbrev pub thread_number : Side → ℕ → ℕ
thread_number side i = (thread_at side i).object

abbrev pub line_number : Side → ℕ → ℕ
line_number side j = (line_at side j).object

-- the last of 32, and of 64, whose number is not above o; the first, if all are above
abbrev pub last_of_32 : (ℕ → ℕ) → ℕ → ℕ → ℕ
last_of_32 f o at = further f o 1 (further f o 2 (further f o 4 (further f o 8 (further f o 16 at))))

abbrev pub last_of_64 : (ℕ → ℕ) → ℕ → ℕ
last_of_64 f o = last_of_32 f o (further f o 32 0)

-- the index of the thread, and of the line, that is object o
abbrev pub find_thread : Side → ℕ → Option ℕ
find_thread side o = exactly (thread_number side) o (last_of_64 (thread_number side) o)

abbrev pub find_line : Side → ℕ → Option ℕ
find_line side o = exactly (line_number side) o (last_of_32 (line_number side) o 0)

-- the first n numbers rise, but for those at the end that are all the same and above the others
abbrev pub Rising : (ℕ → ℕ) → ℕ → ℕ → Type 0
Rising f top n = (i j : ℕ) → i < j → j < n → (f i < f j) ⊎ (f j ≡ top)

-- in a side that is in order each thread and each line is found by its object's number, and nothing else is found
pub record Finds : Type 0 where
  pub threads : (side : Side) (o i : ℕ) → Rising (thread_number side) 4294967295 64 → i < 64 → o < 4294967295 → thread_number side i ≡ o → find_thread side o ≡ Some i
  pub lines : (side : Side) (o j : ℕ) → Rising (line_number side) 65535 32 → j < 32 → o < 65535 → line_number side j ≡ o → find_line side o ≡ Some j
  pub no_thread : (side : Side) (o i : ℕ) → find_thread side o ≡ Some i → (i < 64) × (thread_number side i ≡ o)
  pub no_line : (side : Side) (o j : ℕ) → find_line side o ≡ Some j → (j < 32) × (line_number side j ≡ o)

-- a side in which thread 0 is object 3, line 0 is object 5, and no more are used
abbrev pub small : Side
small = record { threads = fresh_thread 3 ∷ replicate 63 (fresh_thread 4294967295); lines = lines.fresh 5 ∷ replicate 31 (lines.fresh 65535) }

-- it is in order, so that both are found
pub record CanBeFound : Type 0 where
  pub threads : Rising (thread_number small) 4294967295 64
  pub lines : Rising (line_number small) 65535 32
  pub thread : find_thread small 3 ≡ Some 0
  pub line : find_line small 5 ≡ Some 0
