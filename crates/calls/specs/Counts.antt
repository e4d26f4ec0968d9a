-- How many words of the board, of threads and of lines a call touches at most. Assumes nothing: these are definitions.
use Rattle.std.specs.Prelude.{ℕ, ◌+◌, ◌*◌, List, Option}
use Rattle.std.specs.Option.{option_map_or}
use Rattle.rights.specs.declared.calls.Call.{Call}
use Rattle.rights.specs.declared.calls.Call.TheVariants.{Cut, Copy, Move, Drop, Revoke, Send, Receive, Map, Unmap, Bind, Go, Say, Hear}
use Rattle.chain.specs.Bytes.{run_length}
use Rattle.space.specs.declared.side.Table.{Table}
use Rattle.calls.specs.declared.slots.Held.{Held}
use Rattle.calls.specs.Machine.{Machine, table_of}
use Rattle.calls.specs.Slots.{held}

-- how many slots hold what was made from slot s
abbrev pub made_from : List ℕ → Option Table → ℕ → ℕ
made_from m t s = option_map_or (λ (h : Held). run_length m h.place) (held m t s) 0

-- drop and revoke touch as much as was made from their slot; all others touch a number of words that is always the same
abbrev pub most_of : List ℕ → Option Table → Call → ℕ
most_of m t (Cut s k d) = 0
most_of m t (Copy s d r b) = 31
most_of m t (Move s d) = 43
most_of m t (Drop s) = 25 + 3 * made_from m t s
most_of m t (Revoke s) = 22 + 10 * made_from m t s
most_of m t (Send s g ws) = 0
most_of m t (Receive s d) = 0
most_of m t (Map s o a) = 36
most_of m t (Unmap o a) = 26
most_of m t (Bind o s) = 20
most_of m t (Go o a) = 46
most_of m t (Say s b) = 9
most_of m t (Hear s) = 523

-- with the table of the thread that calls
abbrev pub most : Machine → ℕ → Call → ℕ
most m i c = 3 + most_of m.bytes (table_of m.side i) c
