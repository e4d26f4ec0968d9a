-- The images that the tests start from, byte by byte. Assumes nothing: these are definitions.
use Rattle.std.specs.Prelude.{ℕ, ◌+◌, ◌*◌, List, [], ◌∷◌, ◌++◌, fold, min}
use Rattle.std.specs.List.{flat_map, repeat}
use Rattle.rights.specs.declared.kinds.Kind.{Kind}
use Rattle.rights.specs.declared.kinds.Kind.TheVariants.{Pool, Table, Port, Page, Thread, Line}
use Rattle.image_tests.specs.declared.images.Objects.{Objects}
use Rattle.image_builder.specs.Written.{zeros, start, header, slot, mapping, table, begins}

-- a page, with its first and its last byte
abbrev pub page : ℕ → ℕ → List ℕ
page first last = (first ∷ zeros 4094) ++ (last ∷ [])

-- a thread: table + 1, a page at the first and the last place of its space, ready, pc
abbrev pub thread : ℕ → ℕ → ℕ → List ℕ
thread number page pc = table number ++ (mapping page 1 ++ (zeros 186 ++ (mapping page 0 ++ begins 1 pc)))

-- the seven headers of the sample, and what follows them
abbrev pub headers : List ℕ
headers =
    header Table 2 ++ header Page 0 ++ header Thread 0 ++ header Line 0 ++ header Table 1 ++ header Page 0 ++ header Thread 0

abbrev pub contents : List ℕ
contents =
    slot 7 7 0xffffffff ++ slot 0 7 0xffffffff ++ slot 1 0 0 ++ page 1 255 ++ page 255 1 ++ thread 5 6 0xffffffff ++ thread 1 2 0

abbrev pub sample : List ℕ
sample = start 7 ++ headers ++ contents

-- how many bytes an object of a kind and a size has after the headers
abbrev pub each_content : Kind → ℕ → ℕ
each_content Table size = 7 * size
each_content Page size = 4096
each_content Thread size = 199
each_content Pool size = 0
each_content Port size = 0
each_content Line size = 0

-- the headers of some objects, and what follows the headers: only zeros
abbrev pub headers_of : Objects → List ℕ
headers_of o = repeat o.0 (header o.1 o.2)

abbrev pub content_of : Objects → List ℕ
content_of o = zeros (o.0 * each_content o.1 o.2)

-- how many objects there are
abbrev pub count_of : List Objects → ℕ
count_of rows = fold (λ n o. min (n + o.0) 65535) 0 rows

-- an image of some objects with nothing in them
abbrev pub blank : List Objects → List ℕ
blank rows = start (count_of rows) ++ flat_map headers_of rows ++ flat_map content_of rows
