-- Revoke over the world in the code's own parts: what was made from a capability is marked in one pass over the lineage, what was cut
-- from a pool in one pass over the objects, and both are taken out of every object. Assumes nothing: these are definitions.
use Rattle.std.specs.Prelude.{ℕ, suc, ◌-◌, Bool, false, cond, not, ◌&&◌, ◌||◌, List, [], ◌∷◌, ◌++◌, map, filter, length, Some, None, Option, ◌==◌, nat_lt, slice_index_or}
use Rattle.rights.specs.declared.answers.Answer.TheVariants.{No}
use Rattle.model.specs.declared.objects.Capability.{Capability}
use Rattle.model.specs.declared.objects.Mapping.{Mapping}
use Rattle.model.specs.declared.objects.State.{State}
use Rattle.model.specs.declared.objects.State.TheVariants.{Ready, Waits}
use Rattle.model.specs.declared.objects.Thread.{Thread}
use Rattle.model.specs.declared.objects.Wait.{Wait}
use Rattle.model.specs.declared.objects.Wait.TheVariants.{Sender, Receiver}
use Rattle.model.specs.Plain.{Thing, gone, pool, table, port, thread, Whole, on_pool, on_some, page_in, mark_in, mapping_of, from_of, object, with_object, slot, Ended, refuse, done}
use Rattle.model.specs.Calls.{writes, is_pool, then_of}

-- a mark for each element, by the marks before it
unfoldable pub scan : {X : Type 0} → (List Bool → X → Bool) → List Bool → List X → List Bool
scan f ms [] = ms
scan f ms (x ∷ xs) = scan f (ms ++ f ms x ∷ []) xs

-- marks for the births after base, in their order
abbrev pub marked : ℕ → List Bool → ℕ → Bool
marked base ms i = cond (nat_lt base i) (slice_index_or ms (i - suc base) false) false

-- a capability is marked if it was made from the root or from one that is marked
abbrev pub mark_of : ℕ → ℕ → List Bool → Option Capability → Bool
mark_of root base ms x = on_some x false (λ c. (c.mother == root) || marked base ms c.mother)

-- the births before the first of the lineage
abbrev pub base_of : Whole → ℕ
base_of w = w.births - length w.lineage

abbrev pub marks : Whole → ℕ → List Bool
marks w root = scan (mark_of root (base_of w)) [] w.lineage

-- objects that were cut from a pool, or from one that is marked
abbrev pub cut_mark : ℕ → List Bool → Thing → Bool
cut_mark o ms x = on_some (from_of x) false (λ f. (f == o) || slice_index_or ms f false)

abbrev pub cut_marks : Whole → ℕ → List Bool
cut_marks w o = cond (is_pool (object w o)) (scan (cut_mark o) [] w.things) []

-- what a revoke takes: births after a base, in their order, and objects
pub record Marks : Type 0 where
  pub base : ℕ
  pub births : List Bool
  pub objects : List Bool

-- those for a capability
abbrev pub marks_for : Whole → Capability → Marks
marks_for w c = record { base = base_of w; births = marks w c.birth; objects = cut_marks w c.object }

abbrev pub takes : Marks → ℕ → Bool
takes k o = slice_index_or k.objects o false

abbrev pub takes_birth : Marks → ℕ → Bool
takes_birth k i = marked k.base k.births i

-- WHAT IS LEFT once that is gone
abbrev pub kept_slot : Marks → Option Capability → Option Capability
kept_slot k x = on_some x None (λ c. cond (takes_birth k c.birth || takes k c.object) None (Some c))

abbrev pub kept_slots : Marks → List (Option Capability) → List (Option Capability)
kept_slots k ss = map (kept_slot k) ss

abbrev pub who : Wait → ℕ
who (Sender x) = x.thread
who (Receiver t s) = t

abbrev pub kept_waits : Marks → List Wait → List Wait
kept_waits k q = filter (λ x. not (takes k (who x))) q

abbrev pub kept_number : Marks → Option ℕ → Option ℕ
kept_number k n = on_some n None (λ o. cond (takes k o) None (Some o))

abbrev pub kept_page : Marks → Mapping → Mapping
kept_page k m = mapping_of (kept_number k (page_in m)) (mark_in m)

abbrev pub kept_pages : Marks → List Mapping → List Mapping
kept_pages k ps = map (kept_page k) ps

-- a thread that waits at a port that is gone goes on with no
abbrev pub at_marked : Marks → State → Bool
at_marked k (Waits o) = takes k o
at_marked k _ = false

abbrev pub kept_thread : Marks → Thread → Thread
kept_thread k t =
    record {
      state = cond (at_marked k t.state) Ready t.state;
      cpu = cond (at_marked k t.state) (then_of t.state t.cpu No) t.cpu;
      table = kept_number k t.table;
      pages = kept_pages k t.pages;
    }

abbrev pub kept : Marks → Thing → Thing
kept k (table f ss) = table f (kept_slots k ss)
kept k (port f ws) = port f (kept_waits k ws)
kept k (thread t) = thread (kept_thread k t)
kept k x = x

-- a function of the place and the element, for each element from place i on
unfoldable pub at_each : {X : Type 0} → (ℕ → X → X) → ℕ → List X → List X
at_each f i [] = []
at_each f i (x ∷ xs) = f i x ∷ at_each f (suc i) xs

abbrev pub kept_at : Marks → ℕ → Thing → Thing
kept_at k i x = cond (takes k i) gone (kept k x)

abbrev pub swept : Whole → Marks → Whole
swept w k = record { things = at_each (kept_at k) 0 w.things; births = w.births; lineage = w.lineage }

-- nothing of a pool is used
abbrev pub refilled : Thing → Thing
refilled x = on_pool x x (λ f n u. pool f n 0)

abbrev pub revoked : Whole → Capability → Whole
revoked w c = with_object (swept w (marks_for w c)) c.object (refilled (object (swept w (marks_for w c)) c.object))

abbrev pub revoke : Whole → ℕ → ℕ → Ended
revoke w p s =
    on_some (slot w p s) (refuse w) (λ c. cond (is_pool (object w c.object) && not (writes c)) (refuse w) (done (revoked w c)))
