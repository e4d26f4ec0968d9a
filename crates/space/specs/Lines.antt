-- A line's bytes that came in and are not yet heard. Assumes nothing: these are definitions.
use Rattle.std.specs.Prelude.{ℕ, ◌+◌, ◌-◌, Bool, cond, ◌||◌, List, take, replicate, Some, None, Option, ◌==◌, nat_lt, slice_index_or, slice_set}
use Rattle.std.specs.List.{copy_within}
use Rattle.space.specs.declared.lines.Line.{Line}

-- the bytes that wait, the oldest first
abbrev pub waiting : Line → List ℕ
waiting l = take l.count l.bytes

-- nothing waits
abbrev pub fresh : ℕ → Line
fresh o = record { bytes = replicate 1024 0; count = 0; object = o }

-- a byte comes in; it is lost where 1,024 wait already
abbrev pub come_in : Line → ℕ → Line
come_in l b = cond (nat_lt l.count 1024) (record { bytes = slice_set l.bytes l.count b; count = l.count + 1; object = l.object }) l

-- whether no byte can be heard: none waits
abbrev pub is_silent : Line → Bool
is_silent l = l.count == 0 || nat_lt 1024 l.count

-- the oldest byte
abbrev pub heard : Line → Option ℕ
heard l = cond (is_silent l) None (Some (slice_index_or l.bytes 0 0))

-- it is heard, and the rest moves down
abbrev pub hear : Line → Line
hear l = cond (is_silent l) l (record { bytes = copy_within l.bytes 1 l.count 0; count = l.count - 1; object = l.object })
