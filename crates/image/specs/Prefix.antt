-- What of an image decides about it. Assumes nothing: these are definitions and statements.
use Rattle.std.specs.Prelude.{◌≡◌, ℕ, zero, suc, ◌+◌, ◌*◌, ◌%◌, ◌<◌, ◌≤◌, cond, ◌&&◌, ◌⊎◌, List, length, take, Ok, Err, Result, ◌==◌, nat_lt, slice_index}
use Rattle.rights.specs.declared.kinds.Kind.TheVariants.{Table, Page, Thread}
use Rattle.rights.specs.declared.refusals.Refusal.{Refusal}
use Rattle.rights.specs.declared.refusals.Refusal.TheVariants.{Length, Magic, Value, Name, Frames, Event}
use Rattle.rights.specs.Vocabulary.{refusal_number}
use Rattle.image.specs.declared.census.Census.{Census}
use Rattle.image.specs.declared.census.Kinds.{Kinds}
use Rattle.image.specs.Fields.{one, two}
use Rattle.image.specs.Format.{head_at, is_a, size_at}
use Rattle.image.specs.Verdict.{verdict}
use Rattle.image.specs.declared.rows.EventKind.{EventKind}
use Rattle.image.specs.declared.rows.UnknownEvent.{UnknownEvent}
use Rattle.image.specs.Events.{events, event_kind, width}
use Rattle.image.specs.Limits.{part_verdict, part_events}

-- where the field ends that a refusal of an image of n objects speaks of: "HOLD" has four bytes, a name two;
-- of what is judged by its value, the number of objects and the sizes in the headers have two bytes, the others one.
-- Of bytes that are missing or too many it is their place; frames and events speak of no field of the image
abbrev pub field_end : ℕ → Refusal → ℕ
field_end n (Length p) = p
field_end n Magic = 4
field_end n (Value p) = cond (nat_lt p (head_at n) && p % 3 == 1) (p + 2) (p + 1)
field_end n (Name p) = p + 2
field_end n (Frames f) = 0
field_end n (Event p) = p

-- the bytes of bs below q are there in cs too, and the same
abbrev pub SameBelow : ℕ → List ℕ → List ℕ → Type 0
SameBelow q bs cs = (k : ℕ) → k < q → k < length bs → (k < length cs) × (slice_index cs k ≡ slice_index bs k)

-- a refusal with a number of 2 to 4 does not depend on the bytes after the field that it speaks of, nor on the frames
abbrev pub DecidedEarly : Type 0
DecidedEarly =
    (ks : Kinds) (frames others : ℕ) (bs cs : List ℕ) (e : Refusal) → verdict ks frames bs ≡ Err e → 2 ≤ refusal_number e → refusal_number e ≤ 4 →
    SameBelow (field_end (two bs 4) e) bs cs → verdict ks others cs ≡ Err e

-- and one that says that bytes go on, only on the bytes before the first too many and on that there is one
abbrev pub GoesOn : Type 0
GoesOn =
    (ks : Kinds) (frames others p : ℕ) (bs cs : List ℕ) → verdict ks frames bs ≡ Err (Length p) → p < length bs → p < length cs →
    SameBelow p bs cs → verdict ks others cs ≡ Err (Length p)

-- how many bytes object o has after the headers, and k objects from o on
abbrev pub content_length : List ℕ → ℕ → ℕ
content_length bs o = cond (is_a bs o Table) (7 * size_at bs o) (cond (is_a bs o Page) 4096 (cond (is_a bs o Thread) 199 0))

unfoldable pub content_lengths : List ℕ → ℕ → ℕ → ℕ
content_lengths bs zero o = 0
content_lengths bs (suc k) o = content_length bs o + content_lengths bs k (suc o)

-- the length of an image that is taken is what its headers say
abbrev pub LengthByHeaders : Type 0
LengthByHeaders =
    (ks : Kinds) (frames : ℕ) (bs : List ℕ) (c : Census) → verdict ks frames bs ≡ Ok c →
    length bs ≡ head_at (two bs 4) + content_lengths bs (two bs 4) 0

-- so two that have the same headers have the same length
abbrev pub OneLength : Type 0
OneLength =
    (ks js : Kinds) (frames others : ℕ) (bs cs : List ℕ) (c d : Census) → verdict ks frames bs ≡ Ok c → verdict js others cs ≡ Ok d →
    SameBelow (head_at (two bs 4)) bs cs → length bs ≡ length cs

-- LIMITS. The check of the first bytes of a file says what the check of the whole would say, or that the file goes on beyond the limit
abbrev pub LimitHolds : Type 0
LimitHolds =
    (ks : Kinds) (frames limit : ℕ) (file : List ℕ) →
    (part_verdict ks frames (nat_lt limit (length file)) (take limit file) ≡ verdict ks frames file)
    ⊎ ((limit < length file) × (part_verdict ks frames (nat_lt limit (length file)) (take limit file) ≡ Err (Length limit)))

-- a file that goes on beyond the limit is never taken
abbrev pub NeverTaken : Type 0
NeverTaken =
    (ks : Kinds) (frames limit : ℕ) (file : List ℕ) → limit < length file →
    (e : Refusal) × (part_verdict ks frames (nat_lt limit (length file)) (take limit file) ≡ Err e) × (refusal_number e ≤ 4)

-- and a fault of the whole file whose field lies before the limit is told
abbrev pub FaultsTold : Type 0
FaultsTold =
    (ks : Kinds) (frames limit : ℕ) (file : List ℕ) (e : Refusal) → verdict ks frames file ≡ Err e → refusal_number e ≤ 4 →
    field_end (two file 4) e ≤ limit →
    part_verdict ks frames (nat_lt limit (length file)) (take limit file) ≡ Err e

-- the same of events: where an event ends, by its kind; of one with no such kind only that byte counts
abbrev pub end_as : ℕ → Result EventKind UnknownEvent → ℕ
end_as at (Ok k) = at + width k
end_as at (Err e) = at + 1

abbrev pub event_end : List ℕ → ℕ → ℕ
event_end es at = end_as at (event_kind (one es at))

abbrev pub EventsLimitHolds : Type 0
EventsLimitHolds =
    (limit : ℕ) (bs file : List ℕ) →
    (part_events (nat_lt limit (length file)) bs (take limit file) ≡ events bs file)
    ⊎ ((limit < length file) × (part_events (nat_lt limit (length file)) bs (take limit file) ≡ Err (Event limit)))

abbrev pub EventFaultsTold : Type 0
EventFaultsTold =
    (limit p : ℕ) (bs file : List ℕ) → events bs file ≡ Err (Event p) → event_end file p ≤ limit →
    part_events (nat_lt limit (length file)) bs (take limit file) ≡ Err (Event p)
