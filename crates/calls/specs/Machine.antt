-- What calls work on: the board's bytes, and threads and lines beside it. Assumes nothing: these are definitions.
use Rattle.std.specs.Prelude.{ℕ, List, Option, slice_index_or, slice_set}
use Rattle.space.specs.declared.lines.Line.{Line}
use Rattle.space.specs.declared.side.Side.{Side}
use Rattle.space.specs.declared.side.Table.{Table}
use Rattle.space.specs.declared.side.Thread.{Thread}
use Rattle.space.specs.Lines as lines
use Rattle.space.specs.Side.{fresh_thread}

pub record Machine : Type 0 where
  pub bytes : List ℕ
  pub side : Side

-- thread i, a new one where there is none
abbrev pub thread_at : Side → ℕ → Thread
thread_at side i = slice_index_or side.threads i (fresh_thread 4294967295)

-- another in its place; nothing where there is none
abbrev pub with_thread : Side → ℕ → Thread → Side
with_thread side i t = record side { threads = slice_set side.threads i t }

-- the same of line j
abbrev pub line_at : Side → ℕ → Line
line_at side j = slice_index_or side.lines j (lines.fresh 65535)

abbrev pub with_line : Side → ℕ → Line → Side
with_line side j l = record side { lines = slice_set side.lines j l }

-- the table that thread i has, none where there is no such thread
abbrev pub table_of : Side → ℕ → Option Table
table_of side i = (thread_at side i).table
