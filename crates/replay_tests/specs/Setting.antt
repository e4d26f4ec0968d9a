-- The image that the tests start from, byte by byte. Assumes nothing: these are definitions.
use Rattle.std.specs.Prelude.{ℕ, zero, suc, ◌+◌, ◌-◌, ◌*◌, Bool, false, cond, List, [], ◌++◌, length, map, min, slice_index_or}
use Rattle.std.specs.List.{flat_map, repeat}
use Rattle.std.specs.Int.{w32, to_le_bytes}
use Rattle.rights.specs.declared.kinds.Kind.TheVariants.{Pool, Table, Port, Page, Thread, Line}
use Rattle.assembler.specs.Lines.{bytes}
use Rattle.image_builder.specs.Written.{zeros, start, header, slot, page, mapping, table, begins}
use Rattle.replay_tests.specs.declared.setting.Program.{Program}

-- headers: a pool of some frames, a line, a port, a page, a table of twelve slots, and threads and pages for some programs
abbrev pub headers : ℕ → ℕ → List ℕ
headers frames n =
    header Pool frames ++ header Line 0 ++ header Port 0 ++ header Page 0 ++ header Table 12 ++ repeat n (header Thread 0) ++ repeat n (header Page 0)

-- the first n slots: they hold the objects of their numbers with all rights
abbrev pub held : ℕ → List ℕ
held zero = []
held (suc n) = held n ++ slot (suc n) 7 0

-- the twelve slots, of which the first n are full
abbrev pub slots : ℕ → List ℕ
slots n = held n ++ zeros (7 * (12 - n))

-- the page of a program: its code, and words of data behind it
abbrev pub words : List ℕ → List ℕ
words ws = flat_map (λ w. to_le_bytes w32 w) ws

abbrev pub code : Program → List ℕ
code p = page (flat_map bytes p.code.now ++ flat_map words p.data.now)

-- a thread with that page at the beginning of its space; one that isn't ready has no table
abbrev pub thread : Bool → ℕ → List ℕ
thread ready number = table (cond ready 5 0) ++ (mapping number 1 ++ (zeros 189 ++ begins (cond ready 1 0) 0))

-- whether a program's thread is ready
abbrev pub ready : Program → Bool
ready p = p.ready

-- the first k threads of some programs, with the pages that have the numbers from n on
abbrev pub threads : List Program → ℕ → ℕ → List ℕ
threads ps n zero = []
threads ps n (suc k) = threads ps n k ++ thread (slice_index_or (map ready ps) k false) (n + k)

-- an image with so many frames in its pool, and a thread for each of some programs, seven at most
abbrev pub image : ℕ → List Program → List ℕ
image frames ps =
    let n = min (length ps) 7 in start (5 + 2 * n) ++ headers frames n ++ slots (5 + n) ++ page [] ++ flat_map code ps ++ threads ps (6 + n) n
