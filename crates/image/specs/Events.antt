-- The format of a row of events. Assumes nothing: these are definitions.
use Rattle.std.specs.Prelude.{ℕ, zero, suc, ◌+◌, cond, ◌&&◌, List, length, Ok, Err, Result, ◌==◌, nat_le, nat_lt}
use Rattle.rights.specs.declared.kinds.Kind.{Kind}
use Rattle.rights.specs.declared.kinds.Kind.TheVariants.{Thread, Line}
use Rattle.rights.specs.declared.refusals.Refusal.TheVariants.{Event}
use Rattle.image.specs.declared.rows.EventKind.{EventKind}
use Rattle.image.specs.declared.rows.EventKind.TheVariants.{Tick, Byte}
use Rattle.image.specs.declared.rows.UnknownEvent.{UnknownEvent}
use Rattle.image.specs.Fields.{one, two, Read, ◌then◌, judged}
use Rattle.image.specs.Format.{is_a}

-- the kind of an event by its first byte; how many bytes an event of a kind has, and which kind of object it names
abbrev pub event_kind : ℕ → Result EventKind UnknownEvent
event_kind n = cond (n == 0) (Ok Tick) (cond (n == 1) (Ok Byte) (Err (record { number = n })))

abbrev pub width : EventKind → ℕ
width Tick = 3
width Byte = 4

abbrev pub named : EventKind → Kind
named Tick = Thread
named Byte = Line

-- an event of a width that is there whole and names an object of a kind: the place after it
abbrev pub event_of : List ℕ → ℕ → List ℕ → ℕ → ℕ → Kind → Read ℕ
event_of bs n es at width k =
    judged (nat_le (at + width) (length es) && (nat_lt (two es (at + 1)) n && is_a bs (two es (at + 1)) k)) (Event at) (Ok (at + width))

-- an event of a kind: its number, thread (two bytes); or its number, line (two bytes), byte
abbrev pub event_as : List ℕ → ℕ → List ℕ → ℕ → Result EventKind UnknownEvent → Read ℕ
event_as bs n es at (Ok k) = event_of bs n es at (width k) (named k)
event_as bs n es at (Err e) = Err (Event at)

abbrev pub event : List ℕ → ℕ → List ℕ → ℕ → Read ℕ
event bs n es at = event_as bs n es at (event_kind (one es at))

-- events from a place on, at most k of them
unfoldable pub events_from : List ℕ → ℕ → List ℕ → ℕ → ℕ → Read ℕ
events_from bs n es zero at = Ok at
events_from bs n es (suc k) at = cond (nat_lt at (length es)) (event bs n es at then events_from bs n es k) (Ok at)

-- a row has at most as many events as bytes
abbrev pub all_events : List ℕ → ℕ → List ℕ → Read ℕ
all_events bs n es = events_from bs n es (length es) 0

-- a row of an image's events
abbrev pub events : List ℕ → List ℕ → Read (Unit {0})
events bs es = all_events bs (two bs 4) es then λ _. Ok tt
