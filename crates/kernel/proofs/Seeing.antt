-- What a thread sees through its space is what it sees in the world, and a page's bytes may be stored.
use mathlib.Core.Path.{◌≡◌, refl, sym, ◌∙◌}
use mathlib.Core.Bool.{Bool, true, false}
use mathlib.Core.List.{List, [], ◌∷◌}
use mathlib.Core.Logic.{◌≢◌, ◌⊎◌, inl, inr}
use Prim.Native.Nat.{ℕ, zero, suc, ◌+◌, ◌/◌, ◌<◌, ◌≤◌}
use native.Mathlib.Omega.{arith}
use lib.ListN.{length}
use Rattle.std.specs.Prelude.{Option, Some, IfSome, slice_index, slice_index_or}
use Rattle.std.specs.List.{AllByRecursion}
use Rattle.std.proofs.lemmas.Bool.Decides.{nat_tests}
use Rattle.rights.specs.World as w
use Rattle.rv32.specs.declared.registers.Cpu.{Cpu}
use Rattle.rv32.specs.Registers.{fresh}
use Rattle.rv32.specs.Execute.{act}
use Rattle.board.specs.declared.slots.Object.{Object}
use Rattle.board.specs.declared.slots.Object.TheVariants as at
use Rattle.board.specs.Around.{SameBut}
use Rattle.board.specs.Links.{Cell, cell}
use Rattle.board.specs.Parts.{page_at, within}
use Rattle.board.specs.Slots.{slot_at}
use Rattle.board.proofs.Held.{slot-around, cell-around}
use Rattle.board.proofs.Spans.{length-page, page-around}
use Rattle.space.specs.declared.entries.Mapping.{Mapping}
use Rattle.space.specs.Laws.{IsShown, Shows}
use Rattle.space.specs.Tables.{look_up}
use Rattle.calls.specs.Machine.{Machine, thread_at}
use Rattle.chain.specs.Entries.{Entry, places}
use Rattle.chain.specs.Ring.{Stands, Ring, Leads, Depths}
use Rattle.laws.proofs.Tests.{below_or_not, less_one}
use Rattle.kernel.specs.Core as c
use Rattle.kernel.specs.Places.{SlotPlace}
use Rattle.kernel.specs.Relation.{Rep, Good, Alike, Mapped, mark_at}
use Rattle.kernel.proofs.Lying.{page_clear, pages_beside}
use Rattle.kernel.proofs.Beside.{Met, pages, met_at, rep_change}

-- THE RING goes by the links of its own slots
leads_alike : (mem new : ℕ → Cell) (p : ℕ) (l : List ℕ) (q : ℕ) → new p ≡ mem p → AllByRecursion (λ a. new a ≡ mem a) l → new q ≡ mem q → Leads mem p l q → Leads new p l q
leads_alike mem new p [] q e f g (a, b) = (rw e a, rw g b)
leads_alike mem new p (x ∷ l) q e (f, fs) g ((a, b), h) = ((rw e a, rw f b), leads_alike mem new x l q f fs g h)

ring_alike : (mem new : ℕ → Cell) (l : List ℕ) → AllByRecursion (λ a. new a ≡ mem a) l → Ring mem l → Ring new l
ring_alike mem new [] f h = tt
ring_alike mem new (a ∷ l) (f, fs) h = leads_alike mem new a l a f fs f h

depths_alike : (mem new : ℕ → Cell) (l : List Entry) → AllByRecursion (λ a. new a ≡ mem a) (places l) → Depths mem l → Depths new l
depths_alike mem new [] f h = tt
depths_alike mem new (x ∷ l) (f, fs) (h, hs) = (rw f h, depths_alike mem new l fs hs)

pub stands_alike : (lineage : List w.Slot) (top : ℕ) (mem new : ℕ → Cell) (ring : List Entry) → AllByRecursion (λ a. new a ≡ mem a) (places ring) → Stands lineage top mem ring → Stands lineage top new ring
stands_alike lineage top mem new ring f s =
    record { orderly = s.orderly; chain = s.chain; circle = (ring_alike mem new (places ring) f s.circle.0, depths_alike mem new ring f s.circle.1) }

module _ (spot : ℕ → Option Object) (ring : List Entry) (k : Machine) (v : c.World) (rep : Rep spot ring k v) where
  -- a page is on the board
  page_within : (o p : ℕ) → spot o ≡ Some (at.Page p) → within k.bytes p 64 ≡ true
  page_within o p e = let i = rep.laid.inside o (at.Page p) e (omega arith) in grind (arith, nat_tests)

  -- what a space shows of the world
  shown_of : (o : ℕ) (x : Option Mapping) (m : Bool) → Mapped spot x o m → IsShown k.bytes v o x
  unfolding w.bytes_of
  shown_of zero x m h = rw h refl
  shown_of (suc o) x m (p, e, h) = rw (h, less_one o) (λ z. omega arith, length-page k.bytes p (page_within o p e), of (c.object v o) (met_at spot ring k v rep o (at.Page p) e))
    where
      of : (y : c.Object) → Met spot k o (at.Page p) y → w.bytes_of Cpu fresh act y ≡ page_at k.bytes p
      of _ (pages p f bs h) = sym h

  written_of : (o : ℕ) (x : Option Mapping) (m : Bool) → Mapped spot x o m → IfSome x (λ y. m ≡ y.writes)
  written_of zero x m h = rw h tt
  written_of (suc o) x m (p, e, h) = rw h refl

  pub shows : (o i : ℕ) (s : w.State Cpu) (d : Cpu) (b : ℕ) (ps : List ℕ) (rs : List Bool) → Alike spot (thread_at k.side i) o s d b ps rs → Shows k.bytes (thread_at k.side i).pages v ps rs
  shows o i s d b ps rs h =
      record {
        pages = h.wide;
        marks = h.marks;
        shown = λ a l. shown_of (slice_index ps a) (look_up (thread_at k.side i).pages a) (slice_index_or rs a false) (h.space a l);
        written = λ a l. written_of (slice_index ps a) (look_up (thread_at k.side i).pages a) (slice_index_or rs a false) (h.space a l);
      }

  -- a page's bytes are others
  pub rep_page : (o p f : ℕ) (n bs : List ℕ) → spot o ≡ Some (at.Page p) → SameBut k.bytes n p 64 → page_at n p ≡ bs → Rep spot ring (record { bytes = n; side = k.side }) (w.with_object Cpu fresh act v o (w.page f bs))
  rep_page o p f n bs e s h =
      rep_change spot ring k v rep (record { bytes = n; side = k.side }) o (at.Page p) (w.page f bs) e s.long rep.threads rep.lines (p, e, h) others
      (stands_alike v.lineage v.births (cell k.bytes) (cell n) ring (each (places ring) rep.slots) rep.stands)
    where
      -- slots of tables lie apart from it
      apart : (q : ℕ) → SlotPlace spot q → (q < p) ⊎ (p + 64 ≤ q)
      apart q t = below_or_not q p (λ l. inl l) (λ l. below_or_not q (p + 64)
          (λ g. absurd (page_clear (length k.bytes / 64) spot rep.laid o t.table p t.begin t.slots t.number e t.is t.small (omega (arith, t.place, l)) (omega (arith, t.place, g)))) (λ g. inr g))

      each : (l : List ℕ) → AllByRecursion (SlotPlace spot) l → AllByRecursion (λ a. cell n a ≡ cell k.bytes a) l
      each [] h = tt
      each (q ∷ l) h = (cell-around s q (apart q h.0), each l h.1)

      others : (q : ℕ) (z : c.Object) → q ≢ o → Good spot (slot_at k.bytes) (mark_at ring) k q z → Good spot (slot_at n) (mark_at ring) (record { bytes = n; side = k.side }) q z
      others q w.gone d g = g
      others q (w.pool f m u) d g = g
      others q (w.table f ss) d (a, g, h) = (
        a,
        g,
        λ i l. let y = h i l in
            (slot-around s (a + i) (apart (a + i) (record { table = q; begin = a; slots = length ss; number = i; is = g; small = l; place = refl })) ∙ y.0, y.1, y.2),
      )
      others q (w.port f ws) d g = g
      others q (w.page f bs) d (a, g, h) = (a, g, page-around s a (pages_beside (length k.bytes / 64) spot rep.laid q o a p g e d) ∙ h)
      others q (w.thread f s d b ps rs) n g = g
      others q (w.line xs ys) d g = g
