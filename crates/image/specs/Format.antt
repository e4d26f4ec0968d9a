-- The format of an image in the order of its bytes. Assumes nothing: these are definitions.
use Rattle.std.specs.Prelude.{ℕ, ◌+◌, ◌-◌, ◌*◌, Bool, true, cond, not, ◌&&◌, ◌||◌, List, length, Some, None, Ok, Option, ◌==◌, nat_le, nat_lt}
use Rattle.std.specs.Option.{option_map}
use Rattle.rights.specs.declared.kinds.Kind.{Kind}
use Rattle.rights.specs.declared.kinds.Kind.TheVariants.{Pool, Table, Port, Page, Thread, Line}
use Rattle.rights.specs.declared.refusals.Refusal.TheVariants.{Magic, Value, Name}
use Rattle.rights.specs.Vocabulary.{kind_number, kind_from}
use Rattle.image.specs.declared.census.Census.{Census}
use Rattle.image.specs.declared.census.Kinds.{Kinds}
use Rattle.image.specs.Fields.{one, two, Read, ◌then◌, past, judged, given, each}

-- which kinds of objects an image may have: tables, pages, threads and lines, and ports or pools where they are let in
abbrev pub lets_in : Kinds → Kind → Bool
lets_in ks Pool = ks.pools
lets_in ks Table = true
lets_in ks Port = ks.ports
lets_in ks Page = true
lets_in ks Thread = true
lets_in ks Line = true

-- "HOLD", compared as far as there are bytes
abbrev pub differs : List ℕ → ℕ → ℕ → Bool
differs bs a c = nat_lt a (length bs) && not (one bs a == c)

abbrev pub magic : List ℕ → Read ℕ
magic bs = judged (not (differs bs 0 72 || (differs bs 1 79 || (differs bs 2 76 || differs bs 3 68)))) Magic (past bs 0 4)

-- the number of objects, two bytes, at most 1,000
abbrev pub count : List ℕ → Read ℕ
count bs = past bs 4 2 then λ _. judged (nat_le (two bs 4) 1000) (Value 4) (Ok (two bs 4))

-- what an image begins with: the number of objects
abbrev pub opened : List ℕ → Read ℕ
opened bs = magic bs then λ _. count bs

-- HEADERS. The header of object o: its kind, one byte, and its size, two
abbrev pub head_at : ℕ → ℕ
head_at o = 6 + 3 * o

-- whether object o is of a kind, and its size
abbrev pub is_a : List ℕ → ℕ → Kind → Bool
is_a bs o k = one bs (head_at o) == kind_number k

abbrev pub size_at : List ℕ → ℕ → ℕ
size_at bs o = two bs (head_at o + 1)

-- the kind at a place, if it is let in
abbrev pub if_let_in : Kinds → Option Kind → Option Kind
if_let_in ks None = None
if_let_in ks (Some k) = cond (lets_in ks k) (Some k) None

abbrev pub kind_at : Kinds → List ℕ → ℕ → Option Kind
kind_at ks bs at = if_let_in ks (kind_from (one bs at))

-- one more than c, if that is at most m
abbrev pub one_more : ℕ → ℕ → Option ℕ
one_more c m = cond (nat_lt c m) (Some (c + 1)) None

-- a census with one more of a kind, if there may be one more: at most 64 threads and 32 lines
abbrev pub counted : Census → Kind → Option Census
counted c Pool = Some c
counted c Table = Some c
counted c Port = Some c
counted c Page = Some c
counted c Thread = option_map (λ t. record { objects = c.objects; threads = t; lines = c.lines }) (one_more c.threads 64)
counted c Line = option_map (λ l. record { objects = c.objects; threads = c.threads; lines = l }) (one_more c.lines 32)

-- pools and tables have a size of 1 to 4,096, the others 0
abbrev pub right_size : Kind → ℕ → Bool
right_size Pool s = nat_lt 0 s && nat_le s 4096
right_size Table s = nat_lt 0 s && nat_le s 4096
right_size Port s = s == 0
right_size Page s = s == 0
right_size Thread s = s == 0
right_size Line s = s == 0

-- a header, and all n of them
abbrev pub header : Kinds → List ℕ → ℕ → Census → Read Census
header ks bs o c =
    past bs (head_at o) 1 then λ size.
    given (kind_at ks bs (head_at o)) (Value (head_at o)) then λ k.
    given (counted c k) (Value (head_at o)) then λ d.
    past bs size 2 then λ _.
    judged (right_size k (two bs size)) (Value size) (Ok d)

abbrev pub headers : Kinds → List ℕ → ℕ → Read Census
headers ks bs n = each (header ks bs) n 0 (record { objects = n; threads = 0; lines = 0 })

-- whether object o is there, and of a kind
abbrev pub has : List ℕ → ℕ → ℕ → Kind → Bool
has bs n o k = nat_lt o n && is_a bs o k

-- CONTENT. A number v that names an object of a kind, plus 1, or is 0 for none
abbrev pub names : List ℕ → ℕ → ℕ → Kind → Bool
names bs n v k = v == 0 || (nat_le v n && is_a bs (v - 1) k)

-- a slot: object + 1 (two bytes, 0 for none), rights (one), badge (four)
abbrev pub slot : List ℕ → ℕ → ℕ → Read ℕ
slot bs n at =
    past bs at 2 then λ rights. judged (nat_le (two bs at) n) (Name at)
    (past bs rights 1 then λ badge. judged (nat_le (one bs rights) 7) (Value rights)
    (past bs badge 4))

-- a page of a space: page + 1 (two bytes, 0 for none), 1 if it may be written (one)
abbrev pub mapping : List ℕ → ℕ → ℕ → Read ℕ
mapping bs n at =
    past bs at 2 then λ mark. judged (names bs n (two bs at) Page) (Name at)
    (past bs mark 1 then λ next. judged (nat_le (one bs mark) 1) (Value mark)
    (Ok next))

-- slots or pages of a space, one after the other
abbrev pub entries : (ℕ → Read ℕ) → ℕ → ℕ → Read ℕ
entries entry count at = each (λ _ a. entry a) count 0 at

-- a thread: table + 1 (two bytes, 0 for none), 64 pages of its space, 1 for ready (one), pc (four)
abbrev pub state : List ℕ → ℕ → ℕ → Read ℕ
state bs n at =
    past bs at 2 then λ space. judged (names bs n (two bs at) Table) (Name at)
    (entries (mapping bs n) 64 space then λ ready. past bs ready 1 then λ pc. judged (nat_le (one bs ready) 1) (Value ready)
    (past bs pc 4))

-- what object o has if it is a table, a page or a thread
abbrev pub content : List ℕ → ℕ → Kind → ℕ → ℕ → Read ℕ
content bs n Pool o at = Ok at
content bs n Table o at = entries (slot bs n) (size_at bs o) at
content bs n Port o at = Ok at
content bs n Page o at = past bs at 4096
content bs n Thread o at = state bs n at
content bs n Line o at = Ok at

abbrev pub part : List ℕ → ℕ → Kind → ℕ → ℕ → Read ℕ
part bs n k o at = cond (is_a bs o k) (content bs n k o at) (Ok at)

-- what all objects of a kind have, in their order
abbrev pub section : List ℕ → ℕ → Kind → ℕ → Read ℕ
section bs n k at = each (part bs n k) n 0 at

-- first each table's slots, then each page's bytes, then each thread's state: the place after them
abbrev pub body : List ℕ → ℕ → Read ℕ
body bs n = section bs n Table (head_at n) then λ pages. section bs n Page pages then λ threads. section bs n Thread threads
