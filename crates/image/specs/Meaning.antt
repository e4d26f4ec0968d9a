-- The world that an image means, the image of a world's objects, and the frames that they take. Assumes nothing: these are definitions.
use Rattle.std.specs.Prelude.{ℕ, zero, suc, ◌+◌, ◌-◌, ◌*◌, ◌/◌, ◌%◌, Bool, true, false, cond, List, [], ◌∷◌, ◌++◌, length, Some, None, Ok, Err, Option, ◌==◌, slice_index}
use Rattle.std.specs.List.{flat_map, zip}
use Rattle.rights.specs.declared.kinds.Kind.{Kind}
use Rattle.rights.specs.declared.kinds.Kind.TheVariants.{Pool, Table, Port, Page, Thread, Line}
use Rattle.rights.specs.Vocabulary.{kind_number, kind_from, rights_of_bits}
use Rattle.rights.specs.World.{World, Object, Slot, Rights, State, empty, cap, gone, pool, table, port, page, thread, line, stopped, ready, waits, slots_of}
use Rattle.rv32.specs.declared.registers.Cpu.{Cpu}
use Rattle.rv32.specs.Registers.{fresh}
use Rattle.rv32.specs.Execute.{act}
use Rattle.image.specs.Fields.{one, two, Read}
use Rattle.image.specs.Format.{head_at, size_at, part, section}
use Rattle.image.specs.Layout.{frame_up}

-- THE WORLD OF AN IMAGE. A number of four bytes at a place, low byte first
abbrev pub four : List ℕ → ℕ → ℕ
four bs a = slice_index bs a + slice_index bs (a + 1) * 256 + slice_index bs (a + 2) * 65536 + slice_index bs (a + 3) * 16777216

-- k slots from a place on, if b capabilities were born before them: births are counted in the order of slots, and none was made from another
unfoldable pub slots_from : List ℕ → ℕ → ℕ → ℕ → List Slot
slots_from bs zero a b = []
slots_from bs (suc k) a b =
    cond (two bs a == 0) (empty ∷ slots_from bs k (a + 7) b)
    (cap (two bs a - 1) (rights_of_bits (one bs (a + 2))) (four bs (a + 3)) (suc b) 0 ∷ slots_from bs k (a + 7) (suc b))

-- how many capabilities slots hold
unfoldable pub births_of : List Slot → ℕ
births_of [] = 0
births_of (empty ∷ ss) = births_of ss
births_of (cap o r b i m ∷ ss) = suc (births_of ss)

-- k bytes from a place on
unfoldable pub bytes_from : List ℕ → ℕ → ℕ → List ℕ
bytes_from bs zero a = []
bytes_from bs (suc k) a = one bs a ∷ bytes_from bs k (a + 1)

-- the pages of a space of k pages, and whether each may be written
unfoldable pub pages_from : List ℕ → ℕ → ℕ → List ℕ
pages_from bs zero a = []
pages_from bs (suc k) a = two bs a ∷ pages_from bs k (a + 3)

unfoldable pub marks_from : List ℕ → ℕ → ℕ → List Bool
marks_from bs zero a = []
marks_from bs (suc k) a = (one bs (a + 2) == 1) ∷ marks_from bs k (a + 3)

-- whether a thread is ready, by its mark
abbrev pub state_of : ℕ → State Cpu
state_of n = cond (n == 1) ready stopped

-- where the next table's slots, page's bytes and thread begin, and how many capabilities were born before
pub record Places : Type 0 where
  pub slots_at : ℕ
  pub bytes_at : ℕ
  pub thread_at : ℕ
  pub born : ℕ

-- object o, of a kind, if what it has begins at these places
abbrev pub read_as : List ℕ → ℕ → Places → Option Kind → Object Cpu
read_as bs o p None = gone
read_as bs o p (Some Pool) = pool 0 (size_at bs o * 4096) 0
read_as bs o p (Some Table) = table 0 (slots_from bs (size_at bs o) p.slots_at p.born)
read_as bs o p (Some Port) = port 0 []
read_as bs o p (Some Page) = page 0 (bytes_from bs 4096 p.bytes_at)
read_as bs o p (Some Thread) =
    thread 0 (state_of (one bs (p.thread_at + 194))) (fresh (four bs (p.thread_at + 195))) (two bs p.thread_at)
    (pages_from bs 64 (p.thread_at + 2)) (marks_from bs 64 (p.thread_at + 2))
read_as bs o p (Some Line) = line [] []

abbrev pub object_at : List ℕ → ℕ → Places → Object Cpu
object_at bs o p = read_as bs o p (kind_from (one bs (head_at o)))

-- where a reader stopped
abbrev pub stop : Read ℕ → ℕ
stop (Ok a) = a
stop (Err e) = 0

-- the places after object o of n
abbrev pub after : List ℕ → ℕ → ℕ → Places → Places
after bs n o p = record {
  slots_at = stop (part bs n Table o p.slots_at);
  bytes_at = stop (part bs n Page o p.bytes_at);
  thread_at = stop (part bs n Thread o p.thread_at);
  born = p.born + births_of (slots_of Cpu fresh act (object_at bs o p));
}

-- k objects of n, from object o on
unfoldable pub objects_from : List ℕ → ℕ → ℕ → ℕ → Places → List (Object Cpu)
objects_from bs n zero o p = []
objects_from bs n (suc k) o p = object_at bs o p ∷ objects_from bs n k (suc o) (after bs n o p)

-- tables' slots begin after the headers, pages' bytes after them, and threads after these
abbrev pub places_from : List ℕ → ℕ → ℕ → Places
places_from bs n pages = record { slots_at = head_at n; bytes_at = pages; thread_at = stop (section bs n Page pages); born = 0 }

abbrev pub first_places : List ℕ → ℕ → Places
first_places bs n = places_from bs n (stop (section bs n Table (head_at n)))

-- all objects of an image
abbrev pub objects_of : List ℕ → List (Object Cpu)
objects_of bs = objects_from bs (two bs 4) (two bs 4) 0 (first_places bs (two bs 4))

-- how many capabilities are in the slots of objects
unfoldable pub births_all : List (Object Cpu) → ℕ
births_all [] = 0
births_all (x ∷ xs) = births_of (slots_of Cpu fresh act x) + births_all xs

-- the world that an image's bytes mean
abbrev pub world_of : List ℕ → World Cpu
world_of bs = record { objects = objects_of bs; births = births_all (objects_of bs); lineage = [] }

-- THE IMAGE OF OBJECTS. Numbers of two and four bytes, low byte first
abbrev pub two_bytes : ℕ → List ℕ
two_bytes v = v % 256 ∷ v / 256 ∷ []

abbrev pub four_bytes : ℕ → List ℕ
four_bytes v = v % 256 ∷ v / 256 % 256 ∷ v / 65536 % 256 ∷ v / 16777216 ∷ []

-- a mark
abbrev pub bit : Bool → ℕ
bit true = 1
bit false = 0

-- the bits of rights
abbrev pub rights_bits : Rights → ℕ
rights_bits r = bit r.reads + 2 * bit r.writes + 4 * bit r.hands

-- a slot
abbrev pub slot_bytes : Slot → List ℕ
slot_bytes empty = two_bytes 0 ++ (0 ∷ four_bytes 0)
slot_bytes (cap o r b i m) = two_bytes (suc o) ++ (rights_bits r ∷ four_bytes b)

-- a page of a space
abbrev pub mapping_bytes : ℕ × Bool → List ℕ
mapping_bytes (p, r) = two_bytes p ++ (bit r ∷ [])

-- the mark of a thread
abbrev pub ready_mark : State Cpu → ℕ
ready_mark stopped = 0
ready_mark ready = 1
ready_mark (waits o k) = 0

-- the number of an object's kind; an image has no object that is gone
abbrev pub kind_of : Object Cpu → ℕ
kind_of gone = 6
kind_of (pool f n u) = kind_number Pool
kind_of (table f ss) = kind_number Table
kind_of (port f ws) = kind_number Port
kind_of (page f bs) = kind_number Page
kind_of (thread f s c t ps rs) = kind_number Thread
kind_of (line xs ys) = kind_number Line

-- its size, as its header has it
abbrev pub size_of : Object Cpu → ℕ
size_of gone = 0
size_of (pool f n u) = n / 4096
size_of (table f ss) = length ss
size_of (port f ws) = 0
size_of (page f bs) = 0
size_of (thread f s c t ps rs) = 0
size_of (line xs ys) = 0

abbrev pub header_bytes : Object Cpu → List ℕ
header_bytes x = kind_of x ∷ two_bytes (size_of x)

-- what an object has after the headers
abbrev pub content_bytes : Object Cpu → List ℕ
content_bytes gone = []
content_bytes (pool f n u) = []
content_bytes (table f ss) = flat_map slot_bytes ss
content_bytes (port f ws) = []
content_bytes (page f bs) = bs
content_bytes (thread f s c t ps rs) = two_bytes t ++ (flat_map mapping_bytes (zip ps rs) ++ (ready_mark s ∷ four_bytes c.pc))
content_bytes (line xs ys) = []

-- the same in the section of a kind: only objects of that kind have something there
abbrev pub part_bytes : Kind → Object Cpu → List ℕ
part_bytes k x = cond (kind_of x == kind_number k) (content_bytes x) []

-- the image of objects
abbrev pub encode : List (Object Cpu) → List ℕ
encode os =
    72 ∷ 79 ∷ 76 ∷ 68 ∷ (two_bytes (length os) ++ (flat_map header_bytes os ++ (flat_map (part_bytes Table) os ++ (flat_map (part_bytes Page) os ++ flat_map (part_bytes Thread) os))))

-- THE FRAMES THAT OBJECTS TAKE, in units of 64 bytes. Where an object begins if u units are used before it: a pool or a page at a frame
abbrev pub begins_at : Object Cpu → ℕ → ℕ
begins_at gone u = u
begins_at (pool f n v) u = frame_up u
begins_at (table f ss) u = u
begins_at (port f ws) u = u
begins_at (page f bs) u = frame_up u
begins_at (thread f s c t ps rs) u = u
begins_at (line xs ys) u = u

-- how many units it takes
abbrev pub takes_up : Object Cpu → ℕ
takes_up gone = 0
takes_up (pool f n u) = n / 64
takes_up (table f ss) = length ss
takes_up (port f ws) = 1
takes_up (page f bs) = 64
takes_up (thread f s c t ps rs) = 0
takes_up (line xs ys) = 0

-- how many units are used after objects, if u are used before
unfoldable pub filled_by : List (Object Cpu) → ℕ → ℕ
filled_by [] u = u
filled_by (x ∷ xs) u = filled_by xs (begins_at x u + takes_up x)

-- how many frames objects need
abbrev pub frames : List (Object Cpu) → ℕ
frames os = (filled_by os 0 + 63) / 64
