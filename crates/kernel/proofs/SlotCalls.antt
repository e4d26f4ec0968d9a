-- Calls on slots: drop, move, copy, and revoke of what is no pool.
use mathlib.Core.Path.{◌≡◌, refl, sym, ap, subst, ◌∙◌}
use mathlib.Core.Bool.{true}
use mathlib.Core.List.{List, [], ◌∷◌, ◌++◌}
use mathlib.Core.Logic.{◌≢◌}
use Prim.Native.Nat.{ℕ, suc, ◌+◌, ◌/◌, ◌≤◌}
use lib.ListN.{length}
use Rattle.std.specs.Prelude.{Option, Some, None}
use Rattle.std.specs.List.{AllByRecursion}
use Rattle.rights.specs.declared.calls.Call.TheVariants.{Move, Drop}
use Rattle.rights.specs.Said.{call_says}
use Rattle.rights.specs.World as w
use Rattle.rights.specs.World.{table_of, has_slot, is_empty, with_slot, refuse, does}
use Rattle.rv32.specs.declared.registers.Cpu.{Cpu}
use Rattle.rv32.specs.Registers.{fresh}
use Rattle.rv32.specs.Execute.{act}
use Rattle.board.specs.declared.slots.Object.{Object}
use Rattle.board.specs.declared.slots.Object.TheVariants as at
use Rattle.board.specs.Slots.{slot_at, put_slot, upd}
use Rattle.board.proofs.Held.{slots-put_slot, cells-put_slot}
use Rattle.board.proofs.Units.{around-put_words}
use Rattle.calls.specs.Calls.{call, refused}
use Rattle.calls.specs.Machine as m
use Rattle.calls.specs.Machine.{Machine}
use Rattle.chain.specs.Entries.{Entry, places, raised, moved}
use Rattle.chain.specs.OnBoard.{OnlyThese, Carries, AllThere}
use Rattle.chain.specs.Bytes.{taken_out, shifted}
use Rattle.chain.specs.Laws.{Outside}
use Rattle.board.specs.declared.slots.Capability.{Capability}
use Rattle.chain.proofs.Boarded.{take_out_on_board, move_on_board}
use Rattle.chain.proofs.Lists.{all_front, all_back, all_join, places_append}
use Rattle.chain.proofs.Runs.{places_raised}
use Rattle.chain.specs.Ring.{Stands}
use Rattle.board.specs.Words.{there}
use Rattle.rights.specs.World.{pick, among}
use lib.Dec.{eqb}
use Rattle.laws.proofs.Tests.{clash, less_one}
use Rattle.kernel.specs.Core as c
use Rattle.kernel.specs.Meets.{Meets}
use Rattle.kernel.specs.Places.{Laid, SlotPlace}
use Rattle.kernel.specs.Relation.{Rep, Good, mark_at, shape, bits_of}
use Rattle.kernel.proofs.Bits.{bits_small}
use Rattle.kernel.proofs.Marks.{Found, mark_drop, mark_move}
use Rattle.kernel.proofs.Written.{write, write_table, put_good, good_live}
use Rattle.kernel.proofs.Holding.{Lies, Holding, nothing, holds, Freedom, taken, frees, holding, freedom}
use Rattle.kernel.proofs.Kept.{rep_from, InSlots, then_in_slots, only_in_slots, put_in_slots, slot_there, rep_write}

-- a slot of a caller, as a place
pub its_place : (spot : ℕ → Option Object) (v : c.World) (p s u a n : ℕ) → Lies spot v p s u a n → SlotPlace spot (a + s)
its_place spot v p s u a n l = record { table = u; begin = a; slots = n; number = s; is = l.is; small = l.small; place = refl }

-- a caller's slot is a slot of its table
pub with_slot_is : (v : c.World) (p s u : ℕ) (x : w.Slot) → table_of Cpu fresh act (c.object v p) ≡ suc u → with_slot Cpu fresh act v p s x ≡ write v u s x
unfolding with_slot
with_slot_is v p s u x e = rw (e, less_one u) refl

-- the ring's slots are on the board
all_there : (spot : ℕ → Option Object) (b : List ℕ) (l : List ℕ) → Laid (length b / 64) spot → AllByRecursion (SlotPlace spot) l → AllThere b l
all_there spot b [] laid h = tt
all_there spot b (p ∷ l) laid h = (slot_there spot b p laid h.0, all_there spot b l laid h.1)

module _ (spot : ℕ → Option Object) (ring : List Entry) (k : Machine) (v : c.World) (rep : Rep spot ring k v) where
  pub carries : Carries v.lineage v.births k.bytes ring
  carries = record { stands = rep.stands; lies = all_there spot k.bytes (places ring) rep.laid rep.slots }

  -- a refused call
  pub meets_refused : Meets spot None (refused k) (refuse Cpu fresh act v)
  unfolding refuse
  meets_refused = (refl, refl, ring, rep)

  -- the ring, taken apart at an entry
  pub parted : (a i : ℕ) (f : Found ring a i) → Rep spot (f.before ++ f.here ∷ f.after) k v
  parted a i f = subst (λ l. Rep spot l k v) f.is rep

-- the places of a ring whose run has risen
raised_slots : (P : ℕ → Type 0) (before : List Entry) (x : Entry) (after : List Entry) → AllByRecursion P (places (before ++ x ∷ after)) → AllByRecursion P (places (before ++ raised x.depth after))
raised_slots P before x after h =
    subst (AllByRecursion P) (sym (places_append before (raised x.depth after)))
    (all_join P (places before) (places (raised x.depth after)) (all_front P (places before) (places (x ∷ after)) h')
    (subst (AllByRecursion P) (sym (places_raised x.depth after)) (all_back P (places before) (places (x ∷ after)) h').1))
  where
    h' : AllByRecursion P (places before ++ places (x ∷ after))
    h' = subst (AllByRecursion P) (places_append before (x ∷ after)) h

-- and of one in which an entry has moved
moved_slots : (P : ℕ → Type 0) (d : ℕ) (before : List Entry) (x : Entry) (after : List Entry) → P d → AllByRecursion P (places (before ++ x ∷ after)) → AllByRecursion P (places (before ++ moved d x ∷ after))
moved_slots P d [] x after g h = (g, h.1)
moved_slots P d (y ∷ before) x after g h = (h.0, moved_slots P d before x after g h.1)

-- no slot is emptied where only links change
pub same_slots : (ps m n : _) → OnlyThese ps [] m n → (q : ℕ) → slot_at n q ≡ slot_at m q
unfolding among
same_slots ps m n o q = o.slots q

module _ (spot : ℕ → Option Object) (ring : List Entry) (k : Machine) (v : c.World) (rep : Rep spot ring k v) (p i : ℕ) (e : spot p ≡ Some (at.Thread i)) where
  -- DROP
  dropping : (u a n s j : ℕ) → Lies spot v p s u a n → (f : Found ring (a + s) j) →
      (l : List Entry) × Rep spot l (record { bytes = put_slot (taken_out k.bytes (a + s)) (a + s) None; side = k.side }) (with_slot Cpu fresh act v p s w.empty)
  dropping u a n s j l f =
      let r = parted spot ring k v rep (a + s) j f in
      let x = f.here in
      let t : Carries v.lineage v.births (taken_out k.bytes x.place) (f.before ++ raised x.depth f.after)
      × OnlyThese (places (f.before ++ x ∷ f.after)) [] k.bytes (taken_out k.bytes x.place) =
      take_out_on_board v.lineage v.births k.bytes f.before x f.after (carries spot (f.before ++ x ∷ f.after) k v r) in
      let m : List ℕ = taken_out k.bytes (a + s) in
      let c1 : Carries v.lineage v.births m (f.before ++ raised x.depth f.after) = subst (λ q. Carries v.lineage v.births (taken_out k.bytes q) (f.before ++ raised x.depth f.after)) f.place t.0 in
      let o1 : OnlyThese (places (f.before ++ x ∷ f.after)) [] k.bytes m = subst (λ q. OnlyThese (places (f.before ++ x ∷ f.after)) [] k.bytes (taken_out k.bytes q)) f.place t.1 in
      let pl : SlotPlace spot (a + s) = its_place spot v p s u a n l in
      let th : there m (a + s) ≡ true = slot_there spot m (a + s) (rw o1.long r.laid) pl in (
        f.before ++ raised x.depth f.after,
        rw (with_slot_is v p s u w.empty l.bound)
            (rep_write spot (f.before ++ x ∷ f.after) (f.before ++ raised x.depth f.after) k v v (put_slot m (a + s) None) r refl
            (then_in_slots spot k.bytes m (put_slot m (a + s) None) (only_in_slots spot (places (f.before ++ x ∷ f.after)) [] k.bytes m r.slots o1) (put_in_slots spot m (a + s) None pl (around-put_words m (a + s) 0 _)))
            u a n s w.empty l.is l.small tt
            (λ q. ap (λ g. g q) (slots-put_slot m (a + s) None th tt) ∙ ap (λ y. pick (eqb q (a + s)) None y) (same_slots _ _ _ o1 q))
            (λ q. mark_drop f.before x f.after r.stands.chain.apart q ∙ ap (λ y. upd (mark_at (f.before ++ x ∷ f.after)) y 0 q) f.place)
            (subst (λ g. Stands v.lineage v.births g (f.before ++ raised x.depth f.after)) (sym (cells-put_slot m (a + s) None)) c1.stands)
            (raised_slots (SlotPlace spot) f.before x f.after r.slots)),
      )

  pub drop_meets : (s : ℕ) → Meets spot (call_says Cpu fresh act v p (w.drop_it s)) (call k i (Drop s)) (c.does v p (w.drop_it s))
  unfolding does is_empty call_says
  drop_meets s = of (holding spot ring k v rep p i e s)
    where
      of : Holding spot ring k v p (m.table_of k.side i) s → Meets spot (call_says Cpu fresh act v p (w.drop_it s)) (call k i (Drop s)) (c.does v p (w.drop_it s))
      of (nothing h g) = rw (h, g) (meets_refused spot ring k v rep)
      of (holds u a n o b j y r x l g z h t f) = let d = dropping u a n s j l f in rw (h, g) (refl, refl, d.0, d.1)

  -- MOVE, and what hands on: slot s of this thread to slot d of thread q
  pub moving : (q : ℕ) (u a n s o b j y : ℕ) (r : w.Rights) (x : Object) → Lies spot v p s u a n → (f : Found ring (a + s) j) → spot o ≡ Some x →
      slot_at k.bytes (a + s) ≡ Some (record { object = x; rights = bits_of r; badge = b }) →
      (u' a' n' d : ℕ) → Lies spot v q d u' a' n' → Outside (a' + d) ring →
      (l : List Entry) × Rep spot l
      (record { bytes = put_slot (put_slot (shifted k.bytes (a + s) (a' + d)) (a' + d) (Some (record { object = x; rights = bits_of r; badge = b }))) (a + s) None; side = k.side })
      (with_slot Cpu fresh act (with_slot Cpu fresh act v q d (w.cap o r b j y)) p s w.empty)
  unfolding w.with_object
  moving q u a n s o b j y r x l f ox at_s u' a' n' d l' out =
      let R = parted spot ring k v rep (a + s) j f in
      let h = f.here in
      let D : ℕ = a' + d in
      let cap : Capability = record { object = x; rights = bits_of r; badge = b } in
      let out' : Outside D (f.before ++ h ∷ f.after) = subst (Outside D) f.is out in
      let pl : SlotPlace spot (a + s) = its_place spot v p s u a n l in
      let pd : SlotPlace spot D = its_place spot v q d u' a' n' l' in
      let t : Carries v.lineage v.births (shifted k.bytes h.place D) (f.before ++ moved D h ∷ f.after)
      × OnlyThese (D ∷ places (f.before ++ h ∷ f.after)) [] k.bytes (shifted k.bytes h.place D) =
      move_on_board v.lineage v.births k.bytes f.before h f.after D (carries spot (f.before ++ h ∷ f.after) k v R) out' (slot_there spot k.bytes D R.laid pd) in
      let m : List ℕ = shifted k.bytes (a + s) D in
      let c1 : Carries v.lineage v.births m (f.before ++ moved D h ∷ f.after) = subst (λ z. Carries v.lineage v.births (shifted k.bytes z D) (f.before ++ moved D h ∷ f.after)) f.place t.0 in
      let o1 : OnlyThese (D ∷ places (f.before ++ h ∷ f.after)) [] k.bytes m = subst (λ z. OnlyThese (D ∷ places (f.before ++ h ∷ f.after)) [] k.bytes (shifted k.bytes z D)) f.place t.1 in
      let m2 : List ℕ = put_slot m D (Some cap) in
      let i1 : InSlots spot k.bytes m = only_in_slots spot (D ∷ places (f.before ++ h ∷ f.after)) [] k.bytes m (pd, R.slots) o1 in
      let i2 : InSlots spot k.bytes m2 = then_in_slots spot k.bytes m m2 i1 (put_in_slots spot m D (Some cap) pd (around-put_words m D 0 _)) in
      let i3 : InSlots spot k.bytes (put_slot m2 (a + s) None) = then_in_slots spot k.bytes m2 (put_slot m2 (a + s) None) i2 (put_in_slots spot m2 (a + s) None pl (around-put_words m2 (a + s) 0 _)) in
      let th1 : there m D ≡ true = slot_there spot m D (rw i1.long R.laid) pd in
      let th2 : there m2 (a + s) ≡ true = slot_there spot m2 (a + s) (rw i2.long R.laid) pl in
      let ring1 : List Entry = f.before ++ h ∷ f.after in
      let w1 : c.World = write v u' d (w.cap o r b j y) in
      let held1 : ℕ → Option Capability = upd (slot_at k.bytes) D (Some cap) in
      let mark1 : ℕ → ℕ = upd (mark_at ring1) D (suc j) in
      let small_bits : (bits_of r).bits ≤ 7 = bits_small r in
      let known : spot o ≢ None = λ z. let e : Some x ≡ None = sym ox ∙ z in clash (cc) in
      let shown : shape spot (w.cap o r b j y) ≡ Some cap = rw ox refl in
      let g1 : (z : ℕ) → Good spot held1 mark1 k z (c.object w1 z) =
      put_good (length k.bytes / 64) spot R.laid (slot_at k.bytes) (mark_at ring1) k v R.good held1 mark1 k refl (λ z g e. refl) u' a' n' d (w.cap o r b j y) l'.is l'.small known
      (λ z. ap (λ c. upd (slot_at k.bytes) D c z) (sym shown)) (λ z. refl) in
      let b1 : table_of Cpu fresh act (c.object w1 p) ≡ suc u =
      write_table v u' d (w.cap o r b j y) (good_live spot (slot_at k.bytes) (mark_at ring1) k u' (c.object v u') (at.Table a' n') (R.good u') l'.is) p ∙ l.bound in (
        f.before ++ moved D h ∷ f.after,
        rw (with_slot_is v q d u' (w.cap o r b j y) l'.bound, with_slot_is w1 p s u w.empty b1)
            (rep_from spot ring1 (f.before ++ moved D h ∷ f.after) k v w1 (put_slot m2 (a + s) None) R i3 held1 mark1 g1 u a n s w.empty l.is l.small tt
            (λ z. ap (λ g. g z) (slots-put_slot m2 (a + s) None th2 tt) ∙ ap (λ y. pick (eqb z (a + s)) None y)
            (ap (λ g. g z) (slots-put_slot m D (Some cap) th1 small_bits) ∙ ap (λ y. pick (eqb z D) (Some cap) y) (same_slots _ _ _ o1 z)))
            (λ z. mark_move f.before h f.after R.stands.chain.apart D out' z ∙ ap (λ y. upd (upd (mark_at ring1) D (suc h.birth)) y 0 z) f.place ∙ ap (λ y. upd (upd (mark_at ring1) D (suc y)) (a + s) 0 z) f.birth)
            (subst (λ g. Stands v.lineage v.births g (f.before ++ moved D h ∷ f.after)) (sym (cells-put_slot m2 (a + s) None ∙ cells-put_slot m D (Some cap))) c1.stands)
            (moved_slots (SlotPlace spot) D f.before h f.after pd R.slots)),
      )

  pub move_meets : (s d : ℕ) → Meets spot (call_says Cpu fresh act v p (w.move s d)) (call k i (Move s d)) (c.does v p (w.move s d))
  unfolding does is_empty call_says
  move_meets s d = of (holding spot ring k v rep p i e s) (freedom spot ring k v rep p i e d)
    where
      of : Holding spot ring k v p (m.table_of k.side i) s → Freedom spot ring k v p (m.table_of k.side i) d →
          Meets spot (call_says Cpu fresh act v p (w.move s d)) (call k i (Move s d)) (c.does v p (w.move s d))
      of (nothing h g) z = rw (h, g) (meets_refused spot ring k v rep)
      of (holds u a n o b j y r x l g ox h t f) (taken fr z) = rw (h, fr, g, z) (meets_refused spot ring k v rep)
      of (holds u a n o b j y r x l g ox h t f) (frees u' a' n' l' fr em th out) =
          let z = moving p u a n s o b j y r x l f ox t u' a' n' d l' out in
          rw (h, fr, g, em, th) (refl, refl, z.0, z.1)
