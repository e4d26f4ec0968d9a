-- The world in the code's own parts: slots, threads, those who wait and answers are the code's types, and what holds many has a list.
-- Assumes nothing: these are definitions.
use Rattle.std.specs.Prelude.{◌≡◌, ℕ, Bool, false, ◌&&◌, ltb, List, map, length, Some, None, vec_items, Option, Result, Ok, Err, IfOk, IsErrOf, slice_index_or, slice_set}
use Rattle.std.specs.Option.{is_none}
use Rattle.rights.specs.declared.answers.Answer.{Answer}
use Rattle.rights.specs.declared.answers.Answer.TheVariants.{No, Done, Heard}
use Rattle.model.specs.declared.ends.CallError.{CallError}
use Rattle.model.specs.declared.ends.CallError.TheVariants as error
use Rattle.model.specs.declared.ends.Outcome.{Outcome}
use Rattle.model.specs.declared.ends.Outcome.TheVariants.{Answered, Waiting}
use Rattle.model.specs.declared.objects.Capability.{Capability}
use Rattle.model.specs.declared.objects.Mapping.{Mapping}
use Rattle.model.specs.declared.objects.Mapping.TheVariants.{Unmapped, Mapped}
use Rattle.model.specs.declared.objects.Thread.{Thread}
use Rattle.model.specs.declared.objects.Wait.{Wait}
use Rattle.model.specs.declared.objects.Object.{Object}
use Rattle.model.specs.declared.objects.Object.TheVariants as o
use Rattle.model.specs.declared.objects.World.{World}
use Rattle.model.specs.declared.ends.Refused.{Refused}

-- objects
pub data Thing : Type 0 where
  gone : Thing
  pool : Option ℕ → ℕ → ℕ → Thing
  table : Option ℕ → List (Option Capability) → Thing
  port : Option ℕ → List Wait → Thing
  page : Option ℕ → List ℕ → Thing
  thread : Thread → Thing
  line : List ℕ → List ℕ → Thing

-- the world; the lineage has the oldest first
pub record Whole : Type 0 where
  pub things : List Thing
  pub births : ℕ
  pub lineage : List (Option Capability)

-- what the program's values are
abbrev pub thing : Object → Thing
thing o.Gone = gone
thing (o.Pool f n u) = pool f n u
thing (o.Table f ss) = table f (vec_items ss)
thing (o.Port f q) = port f q.items
thing (o.Page f bs) = page f (vec_items bs)
thing (o.Thread t) = thread t
thing (o.Line a b) = line (vec_items a) b.items

abbrev pub plain : World → Whole
plain v = record { things = map thing (vec_items v.objects); births = v.births; lineage = vec_items v.lineage }

abbrev pub found : Option Object → Thing
found None = gone
found (Some x) = thing x

-- one eliminator for each kind
abbrev pub on_pool : {A : Type 0} → Thing → A → (Option ℕ → ℕ → ℕ → A) → A
on_pool (pool g n u) a f = f g n u
on_pool _ a f = a

abbrev pub on_table : {A : Type 0} → Thing → A → (Option ℕ → List (Option Capability) → A) → A
on_table (table g ss) a f = f g ss
on_table _ a f = a

abbrev pub on_port : {A : Type 0} → Thing → A → (Option ℕ → List Wait → A) → A
on_port (port g ws) a f = f g ws
on_port _ a f = a

abbrev pub on_page : {A : Type 0} → Thing → A → (Option ℕ → List ℕ → A) → A
on_page (page g bs) a f = f g bs
on_page _ a f = a

abbrev pub on_thread : {A : Type 0} → Thing → A → (Thread → A) → A
on_thread (thread t) a f = f t
on_thread _ a f = a

abbrev pub on_line : {A : Type 0} → Thing → A → (List ℕ → List ℕ → A) → A
on_line (line xs ys) a f = f xs ys
on_line _ a f = a

abbrev pub on_some : {X A : Type 0} → Option X → A → (X → A) → A
on_some None a f = a
on_some (Some x) a f = f x

-- an object by its number, and another in its place
unfoldable pub object : Whole → ℕ → Thing
object w n = slice_index_or w.things n gone

unfoldable pub with_object : Whole → ℕ → Thing → Whole
with_object w n x = record { things = slice_set w.things n x; births = w.births; lineage = w.lineage }

-- the pool that an object was cut from
abbrev pub from_of : Thing → Option ℕ
from_of (pool f n u) = f
from_of (table f ss) = f
from_of (port f ws) = f
from_of (page f bs) = f
from_of _ = None

-- a page of a space: its page, if any, and whether it may be written
abbrev pub page_in : Mapping → Option ℕ
page_in (Unmapped m) = None
page_in (Mapped m n) = Some n

abbrev pub mark_in : Mapping → Bool
mark_in (Unmapped m) = m
mark_in (Mapped m n) = m

-- the one that has these two
abbrev pub mapping_of : Option ℕ → Bool → Mapping
mapping_of None m = Unmapped m
mapping_of (Some n) m = Mapped m n

-- one that is none past the end
abbrev pub unmapped : Mapping
unmapped = mapping_of None false

abbrev pub mapping : List Mapping → ℕ → Mapping
mapping ps a = slice_index_or ps a unmapped

abbrev pub page_at : List Mapping → ℕ → Option ℕ
page_at ps a = page_in (mapping ps a)

-- slots of a table
abbrev pub table_of : Thing → Option ℕ
table_of x = on_thread x None (λ t. t.table)

abbrev pub slot_at : Thing → ℕ → Option Capability
slot_at x s = on_table x None (λ f ss. slice_index_or ss s None)

abbrev pub has_at : Thing → ℕ → Bool
has_at x s = on_table x false (λ f ss. ltb s (length ss))

abbrev pub put_at : Thing → ℕ → Option Capability → Thing
put_at x s c = on_table x x (λ f ss. table f (slice_set ss s c))

-- slots of a thread's table
abbrev pub slot_by : Whole → Option ℕ → ℕ → Option Capability
slot_by w None s = None
slot_by w (Some t) s = slot_at (object w t) s

abbrev pub has_by : Whole → Option ℕ → ℕ → Bool
has_by w None s = false
has_by w (Some t) s = has_at (object w t) s

abbrev pub put_in : Whole → ℕ → ℕ → Option Capability → Whole
put_in w t s c = with_object w t (put_at (object w t) s c)

abbrev pub put_by : Whole → Option ℕ → ℕ → Option Capability → Whole
put_by w None s c = w
put_by w (Some t) s c = put_in w t s c

abbrev pub slot : Whole → ℕ → ℕ → Option Capability
slot w p s = slot_by w (table_of (object w p)) s

-- a slot that is there and empty
abbrev pub free : Whole → ℕ → ℕ → Bool
free w p s = has_by w (table_of (object w p)) s && is_none (slot_by w (table_of (object w p)) s)

abbrev pub with_slot : Whole → ℕ → ℕ → Option Capability → Whole
with_slot w p s c = put_by w (table_of (object w p)) s c

-- what a call at one object leaves of it, and what comes back
pub record Left : Type 0 where
  pub it : Thing
  pub answer : Answer

abbrev pub left : Thing → Answer → Left
left x a = record { it = x; answer = a }

-- how a call ends: with an answer, or its thread waits at an object
pub data Ended : Type 0 where
  on : Whole → Answer → Ended
  wait : Whole → ℕ → Ended

abbrev pub ended : Whole → Outcome → Ended
ended w (Answered a) = on w a
ended w (Waiting n) = wait w n

abbrev pub refuse : Whole → Ended
refuse w = on w No

abbrev pub done : Whole → Ended
done w = on w Done

abbrev pub change : Whole → ℕ → Left → Ended
change w n l = on (with_object w n l.it) l.answer

-- what comes back from a call that is done, or refused
abbrev pub done_or_no : Result (Unit {0}) Refused → Answer
done_or_no (Ok u) = Done
done_or_no (Err e) = No

abbrev pub heard_or_no : Result ℕ Refused → Answer
heard_or_no (Ok b) = Heard b
heard_or_no (Err e) = No

-- f of what a call came to is x, and z is x where it was refused; of one that gave up nothing is said
abbrev pub Comes : {A X : Type 0} → Result A CallError → (A → X) → X → X → Type 0
Comes r f z x = IfOk r (λ a. f a ≡ x) × (IsErrOf r error.Refused → z ≡ x)
