-- Files of which only the first bytes were read: `more` says whether they go on beyond these. Assumes nothing: these are definitions.
use Rattle.std.specs.Prelude.{◌≡◌, ◌≤◌, ℕ, ◌+◌, Bool, true, false, vec_len, cond, not, List, length, Ok, Err, Result, ◌==◌, nat_le}
use Rattle.rights.specs.declared.refusals.Refusal.TheVariants.{Length, Event}
use Rattle.rights.specs.Vocabulary.{refusal_number, refusal_place}
use Rattle.image.specs.declared.census.Census.{Census}
use Rattle.image.specs.declared.census.Kinds.{Kinds}
use Rattle.image.specs.declared.files.Part.{Part}
use Rattle.image.specs.Fields.{one, Read, ◌then◌}
use Rattle.image.specs.Verdict.{verdict}
use Rattle.image.specs.declared.rows.EventKind.{EventKind}
use Rattle.image.specs.declared.rows.UnknownEvent.{UnknownEvent}
use Rattle.image.specs.Events.{events, event_kind, width}

-- a part of a file that was cut at a limit: no more bytes, and if the file goes on, as many
abbrev pub CutAt : ℕ → Part → Type 0
CutAt limit p = (vec_len p.bytes ≤ limit) × (p.more ≡ true → vec_len p.bytes ≡ limit)

-- an image that goes on: the faults in its first bytes, and if there is none, that it goes on
abbrev pub going_on : List ℕ → Read Census → Read Census
going_on bs (Ok c) = Err (Length (length bs))
going_on bs (Err e) = cond (refusal_number e == 5) (Err (Length (length bs))) (Err e)

abbrev pub part_verdict : Kinds → ℕ → Bool → List ℕ → Read Census
part_verdict ks frames more bs = cond more (going_on bs (verdict ks frames bs)) (verdict ks frames bs)

-- whether an event at a place is cut in two by the end of what was read
abbrev pub cut_as : List ℕ → ℕ → Result EventKind UnknownEvent → Bool
cut_as es at (Ok k) = not (nat_le (at + width k) (length es))
cut_as es at (Err e) = false

abbrev pub cut_in_two : List ℕ → ℕ → Bool
cut_in_two es at = cut_as es at (event_kind (one es at))

-- events that go on: the first that is wrong, and if there is none or the limit cuts it in two, that they go on
abbrev pub events_going_on : List ℕ → Read (Unit {0}) → Read (Unit {0})
events_going_on es (Ok u) = Err (Event (length es))
events_going_on es (Err e) = cond (cut_in_two es (refusal_place e)) (Err (Event (length es))) (Err e)

abbrev pub part_events : Bool → List ℕ → List ℕ → Read (Unit {0})
part_events more bs es = cond more (events_going_on es (events bs es)) (events bs es)

-- an image and its events: first what is wrong with the image, then with the events
abbrev pub both : Kinds → ℕ → Bool → List ℕ → Bool → List ℕ → Read Census
both ks frames more bs more_events es = part_verdict ks frames more bs then λ c. part_events more_events bs es then λ _. Ok c
