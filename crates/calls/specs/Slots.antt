-- The slots of a caller, who names them by their numbers in its table. Assumes nothing: these are definitions.
use Rattle.std.specs.Prelude.{ℕ, ◌+◌, ◌^◌, Bool, cond, ◌&&◌, List, Some, None, Option, nat_lt}
use Rattle.std.specs.Option.{option_and_then, option_map}
use Rattle.rights.specs.Vocabulary.{rights_of}
use Rattle.board.specs.declared.slots.Capability.{Capability}
use Rattle.board.specs.declared.slots.Object.{Object}
use Rattle.board.specs.declared.slots.Object.TheVariants as object
use Rattle.board.specs.Slots.{slot_at}
use Rattle.space.specs.declared.side.Table.{Table}
use Rattle.calls.specs.declared.slots.Held.{Held}
use Rattle.calls.specs.declared.slots.Page.{Page}

-- the rights of what a slot holds
abbrev pub reads : Held → Bool
reads h = (rights_of h.capability.rights).reads

abbrev pub writes : Held → Bool
writes h = (rights_of h.capability.rights).writes

abbrev pub hands : Held → Bool
hands h = (rights_of h.capability.rights).hands

-- the place of slot s of a table, if the table has so many
abbrev pub place_in : Option Table → ℕ → Option ℕ
place_in None s = None
place_in (Some t) s = cond (nat_lt s t.slots && nat_lt (t.place + s) (2 ^ 32)) (Some (t.place + s)) None

-- what the slot at a place holds, with the place
abbrev pub held_at : List ℕ → ℕ → Option Held
held_at m p = option_map (λ (c : Capability). record { place = p; capability = c }) (slot_at m p)

-- what slot s holds
abbrev pub held : List ℕ → Option Table → ℕ → Option Held
held m t s = option_and_then (held_at m) (place_in t s)

-- the same, if its rights say so
abbrev pub only : (Held → Bool) → Option Held → Option Held
only f None = None
only f (Some h) = cond (f h) (Some h) None

abbrev pub readable : List ℕ → Option Table → ℕ → Option Held
readable m t s = only reads (held m t s)

abbrev pub writable : List ℕ → Option Table → ℕ → Option Held
writable m t s = only writes (held m t s)

abbrev pub grantable : List ℕ → Option Table → ℕ → Option Held
grantable m t s = only hands (held m t s)

-- a place, if the slot there is empty
abbrev pub if_empty : ℕ → Option Capability → Option ℕ
if_empty p None = Some p
if_empty p (Some c) = None

-- the place of slot d, if it is there and empty
abbrev pub free : List ℕ → Option Table → ℕ → Option ℕ
free m t d = option_and_then (λ p. if_empty p (slot_at m p)) (place_in t d)

-- the object as a page with whether it may be written, as a table, one of the 64 threads, one of the 32 lines; none if it is of another kind
abbrev pub page_of : Object → Bool → Option Page
page_of (object.Page p) w = Some (record { place = p; writes = w })
page_of _ w = None

abbrev pub table_of : Object → Option Table
table_of (object.Table p n) = Some (record { place = p; slots = n })
table_of _ = None

abbrev pub thread_of : Object → Option ℕ
thread_of (object.Thread i) = cond (nat_lt i 64) (Some i) None
thread_of _ = None

abbrev pub line_of : Object → Option ℕ
line_of (object.Line j) = cond (nat_lt j 32) (Some j) None
line_of _ = None

-- what it leads to: a page with whether it may be written, a table, a thread, a line; none if it is another kind of object
abbrev pub as_page : Held → Option Page
as_page h = page_of h.capability.object (writes h)

abbrev pub as_table : Held → Option Table
as_table h = table_of h.capability.object

abbrev pub as_thread : Held → Option ℕ
as_thread h = thread_of h.capability.object

abbrev pub as_line : Held → Option ℕ
as_line h = line_of h.capability.object

-- the same of slot s, if its rights say so
abbrev pub readable_page : List ℕ → Option Table → ℕ → Option Page
readable_page m t s = option_and_then as_page (readable m t s)

abbrev pub writable_table : List ℕ → Option Table → ℕ → Option Table
writable_table m t s = option_and_then as_table (writable m t s)

abbrev pub writable_thread : List ℕ → Option Table → ℕ → Option ℕ
writable_thread m t s = option_and_then as_thread (writable m t s)

abbrev pub writable_line : List ℕ → Option Table → ℕ → Option ℕ
writable_line m t s = option_and_then as_line (writable m t s)

abbrev pub readable_line : List ℕ → Option Table → ℕ → Option ℕ
readable_line m t s = option_and_then as_line (readable m t s)
