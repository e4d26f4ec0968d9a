-- What is written in slots of tables leaves everything else of the board.
use mathlib.Core.Path.{◌≡◌, refl, ◌∙◌}
use mathlib.Core.Bool.{true}
use mathlib.Core.List.{List, [], ◌∷◌}
use mathlib.Core.Logic.{◌≢◌, ◌⊎◌, inl, inr}
use Prim.Native.Nat.{ℕ, ◌+◌, ◌/◌, ◌<◌, ◌≤◌}
use native.Mathlib.Omega.{arith}
use lib.ListN.{length}
use Rattle.std.specs.Prelude.{Option, Some, slice_index}
use Rattle.std.specs.List.{AllByRecursion}
use Rattle.std.proofs.lemmas.Bool.Decides.{nat_tests}
use Rattle.rights.specs.World as w
use Rattle.board.specs.declared.slots.Capability.{Capability}
use Rattle.board.specs.declared.slots.Object.{Object}
use Rattle.board.specs.declared.slots.Object.TheVariants as at
use Rattle.board.specs.Around.{SameBut}
use Rattle.board.specs.Links.{cell}
use Rattle.board.specs.Parts.{page_at}
use Rattle.board.specs.Slots.{slot_at, put_slot, upd}
use Rattle.board.specs.Words.{there}
use Rattle.kernel.proofs.Pages.{page_alike}
use Rattle.calls.specs.Machine.{Machine}
use Rattle.chain.specs.Entries.{Entry, places}
use Rattle.chain.specs.OnBoard.{OnlyThese}
use Rattle.chain.specs.Ring.{Stands}
use Rattle.laws.proofs.Tests.{below_or_not}
use Rattle.kernel.specs.Core as c
use Rattle.kernel.specs.Places.{Laid, SlotPlace}
use Rattle.kernel.specs.Relation.{Rep, Good, Known, shape, slot_mark, mark_at}
use Rattle.kernel.proofs.Lying.{slot_inside, page_clear}
use Rattle.kernel.proofs.Written.{write, put_good}

-- n is m but for units that are slots of tables
pub record InSlots (spot : ℕ → Option Object) (m n : List ℕ) : Type 0 where
  pub long : length n ≡ length m
  pub bytes : (b : ℕ) → ((q : ℕ) → SlotPlace spot q → b / 64 + 1 ≢ q) → slice_index n b ≡ slice_index m b

pub then_in_slots : (spot : ℕ → Option Object) (m n o : List ℕ) → InSlots spot m n → InSlots spot n o → InSlots spot m o
then_in_slots spot m n o a b = record { long = b.long ∙ a.long; bytes = λ k f. b.bytes k f ∙ a.bytes k f }

-- links of the ring's slots, and slots that are emptied
pub only_in_slots : (spot : ℕ → Option Object) (ps es m n : List ℕ) → AllByRecursion (SlotPlace spot) ps → OnlyThese ps es m n → InSlots spot m n
only_in_slots spot ps es m n s o = record { long = o.long; bytes = λ b f. o.bytes b (each ps b f s) }
  where
    each : (l : List ℕ) (b : ℕ) → ((q : ℕ) → SlotPlace spot q → b / 64 + 1 ≢ q) → AllByRecursion (SlotPlace spot) l → AllByRecursion (λ p. b / 64 + 1 ≢ p) l
    each [] b f h = tt
    each (p ∷ l) b f h = (f p h.0, each l b f h.1)

-- one slot
pub put_in_slots : (spot : ℕ → Option Object) (m : List ℕ) (p : ℕ) (x : Option Capability) → SlotPlace spot p → SameBut m (put_slot m p x) p 1 → InSlots spot m (put_slot m p x)
put_in_slots spot m p x s a = record { long = a.long; bytes = λ b f. a.bytes b (apart b (f p s)) }
  where
    apart : (b : ℕ) → b / 64 + 1 ≢ p → (b / 64 + 1 < p) ⊎ (p + 1 ≤ b / 64 + 1)
    apart b n = below_or_not (b / 64 + 1) p (λ l. inl l) (λ l. inr (omega arith))

-- pages stay
pub pages_stay : (room : ℕ) (spot : ℕ → Option Object) (m n : List ℕ) → Laid room spot → InSlots spot m n → (o p : ℕ) → spot o ≡ Some (at.Page p) → page_at n p ≡ page_at m p
pages_stay room spot m n laid s o p e =
    page_alike m n p s.long
    (λ b l r. s.bytes b (λ q t f. page_clear room spot laid o t.table p t.begin t.slots t.number e t.is t.small (omega (arith, f, l, t.place)) (omega (arith, f, r, t.place))))

-- a slot of a table is there
pub slot_there : (spot : ℕ → Option Object) (m : List ℕ) (p : ℕ) → Laid (length m / 64) spot → SlotPlace spot p → there m p ≡ true
slot_there spot m p laid s = let i = slot_inside (length m / 64) spot laid p s in grind (arith, nat_tests)

-- what is good is so of the objects alone
same_good : (spot : ℕ → Option Object) (held : ℕ → Option Capability) (mark : ℕ → ℕ) (k : Machine) (v v' : c.World) → v'.objects ≡ v.objects →
    ((o : ℕ) → Good spot held mark k o (c.object v o)) → (o : ℕ) → Good spot held mark k o (c.object v' o)
unfolding w.object
same_good spot held mark k v v' e g o = rw e (g o)

-- ONE SLOT of table u is written, after others perhaps, of which held, mark and good say what they left; the ring is another: what is left to show is of the ring alone
pub rep_from : (spot : ℕ → Option Object) (ring ring' : List Entry) (k : Machine) (v v' : c.World) (n : List ℕ) → Rep spot ring k v → InSlots spot k.bytes n →
    (held : ℕ → Option Capability) (mark : ℕ → ℕ) → ((o : ℕ) → Good spot held mark k o (c.object v' o)) →
    (u a s i : ℕ) (x : w.Slot) → spot u ≡ Some (at.Table a s) → i < s → Known spot x →
    ((q : ℕ) → slot_at n q ≡ upd held (a + i) (shape spot x) q) → ((q : ℕ) → mark_at ring' q ≡ upd mark (a + i) (slot_mark x) q) →
    Stands v'.lineage v'.births (cell n) ring' → AllByRecursion (SlotPlace spot) (places ring') → Rep spot ring' (record { bytes = n; side = k.side }) (write v' u i x)
unfolding w.with_object
rep_from spot ring ring' k v v' n r ins held mark good u a s i x e l kn eh em st sl =
    record {
      small = rw ins.long r.small;
      threads = r.threads;
      lines = r.lines;
      laid = rw ins.long r.laid;
      good =
          put_good (length k.bytes / 64) spot r.laid held mark k v' good
          (slot_at n) (mark_at ring') (record { bytes = n; side = k.side }) refl (pages_stay (length k.bytes / 64) spot k.bytes n r.laid ins) u a s i x e l kn eh em;
      stands = st;
      slots = sl;
    }

-- the same after none
pub rep_write : (spot : ℕ → Option Object) (ring ring' : List Entry) (k : Machine) (v v' : c.World) (n : List ℕ) → Rep spot ring k v → v'.objects ≡ v.objects → InSlots spot k.bytes n →
    (u a s i : ℕ) (x : w.Slot) → spot u ≡ Some (at.Table a s) → i < s → Known spot x →
    ((q : ℕ) → slot_at n q ≡ upd (slot_at k.bytes) (a + i) (shape spot x) q) → ((q : ℕ) → mark_at ring' q ≡ upd (mark_at ring) (a + i) (slot_mark x) q) →
    Stands v'.lineage v'.births (cell n) ring' → AllByRecursion (SlotPlace spot) (places ring') → Rep spot ring' (record { bytes = n; side = k.side }) (write v' u i x)
rep_write spot ring ring' k v v' n r same ins = rep_from spot ring ring' k v v' n r ins (slot_at k.bytes) (mark_at ring) (same_good spot (slot_at k.bytes) (mark_at ring) k v v' same r.good)
