-- COPY, and what cut puts into a slot: one more entry in the ring.
use mathlib.Core.Path.{◌≡◌, refl, sym, ap, subst, ◌∙◌}
use mathlib.Core.Bool.{Bool, true, false}
use mathlib.Core.List.{List, [], ◌∷◌, ◌++◌}
use mathlib.Core.Logic.{◌≢◌}
use Prim.Native.Nat.{ℕ, suc, ◌+◌, ◌^◌, ◌<◌}
use native.Mathlib.Omega.{arith}
use lib.Dec.{eqb}
use Rattle.std.specs.Prelude.{Option, Some, None}
use Rattle.std.specs.List.{AllByRecursion}
use Rattle.rights.specs.declared.bits.Rights.{Rights}
use Rattle.rights.specs.declared.calls.Call.TheVariants.{Copy}
use Rattle.rights.specs.Said.{call_says}
use Rattle.rights.specs.Vocabulary.{rights_of}
use Rattle.rights.specs.World as w
use Rattle.rights.specs.World.{pick, meet, table_of, has_slot, is_empty, with_slot, slot_rights, refuse, does}
use Rattle.rv32.specs.declared.registers.Cpu.{Cpu}
use Rattle.rv32.specs.Registers.{fresh}
use Rattle.rv32.specs.Execute.{act}
use Rattle.board.specs.declared.slots.Capability.{Capability}
use Rattle.board.specs.declared.slots.Object.{Object}
use Rattle.board.specs.declared.slots.Object.TheVariants as at
use Rattle.board.specs.Links.{cell}
use Rattle.board.specs.Slots.{slot_at, put_slot, upd}
use Rattle.board.specs.Words.{there}
use Rattle.board.proofs.Held.{slots-put_slot, cells-put_slot}
use Rattle.board.proofs.Units.{around-put_words, there-around}
use Rattle.calls.specs.Calls.{call, copied}
use Rattle.calls.specs.Machine as m
use Rattle.calls.specs.Machine.{Machine}
use Rattle.chain.specs.Bytes.{inserted, units}
use Rattle.chain.specs.Entries.{Entry, places, child}
use Rattle.chain.specs.Laws.{Outside}
use Rattle.chain.specs.OnBoard.{OnlyThese, Carries, AllThere}
use Rattle.chain.specs.Ring.{Stands}
use Rattle.chain.proofs.Boarded.{insert_on_board}
use Rattle.laws.proofs.Tests.{clash}
use Rattle.kernel.specs.Core as c
use Rattle.kernel.specs.Meets.{Meets}
use Rattle.kernel.specs.Places.{SlotPlace}
use Rattle.kernel.specs.Relation.{Rep, shape, bits_of}
use Rattle.kernel.proofs.Bits.{bits_small, bits_met, hands_bits, pick_cond}
use Rattle.calls.specs.Slots.{held}
use Rattle.kernel.proofs.Holding.{held_as, Lies, Holding, nothing, holds, Freedom, taken, frees, holding, freedom}
use Rattle.kernel.proofs.Kept.{InSlots, then_in_slots, only_in_slots, put_in_slots, slot_there, rep_write}
use Rattle.kernel.proofs.Marks.{Found, mark_insert}
use Rattle.kernel.proofs.SlotCalls.{its_place, with_slot_is, carries, meets_refused, parted, same_slots}

-- places of a ring with one entry more
inserted_slots : (P : ℕ → Type 0) (before : List Entry) (x y : Entry) (after : List Entry) → P y.place → AllByRecursion P (places (before ++ x ∷ after)) → AllByRecursion P (places (before ++ x ∷ y ∷ after))
inserted_slots P [] x y after g h = (h.0, (g, h.1))
inserted_slots P (z ∷ before) x y after g h = (h.0, inserted_slots P before x y after g h.1)

-- places that are there are so once a slot is written
there_still : (b : List ℕ) (p : ℕ) (x : Option Capability) (l : List ℕ) → AllThere b l → AllThere (put_slot b p x) l
there_still b p x [] h = tt
there_still b p x (q ∷ l) h = (there-around (around-put_words b p 0 _) q ∙ h.0, there_still b p x l h.1)

-- the world with one more made: what c is made from j is
abbrev pub born : c.World → w.Slot → c.World
born v x = record { objects = v.objects; births = suc v.births; lineage = x ∷ v.lineage }

abbrev three_rights : Bool → Bool → Bool → w.Rights
three_rights a b c = record { reads = a; writes = b; hands = c }

module _ (spot : ℕ → Option Object) (ring : List Entry) (k : Machine) (v : c.World) (rep : Rep spot ring k v) (p i : ℕ) (e : spot p ≡ Some (at.Thread i)) where
  -- a capability to object o, made from the one in slot s with birth j, goes into slot d
  pub making : (u a n s j : ℕ) → Lies spot v p s u a n → (f : Found ring (a + s) j) → (o b : ℕ) (r : w.Rights) (x : Object) → spot o ≡ Some x →
      (u' a' n' d : ℕ) → Lies spot v p d u' a' n' → Outside (a' + d) ring →
      (l : List Entry) × Rep spot l
      (record { bytes = inserted (put_slot k.bytes (a' + d) (Some (record { object = x; rights = bits_of r; badge = b }))) (a + s) (a' + d); side = k.side })
      (with_slot Cpu fresh act (born v (w.cap o r b (suc v.births) j)) p d (w.cap o r b (suc v.births) j))
  unfolding w.object
  making u a n s j l f o b r x ox u' a' n' d l' out =
      let R = parted spot ring k v rep (a + s) j f in
      let h = f.here in
      let D : ℕ = a' + d in
      let ring1 : List Entry = f.before ++ h ∷ f.after in
      let y : Entry = child h D (suc v.births) in
      let C : w.Slot = w.cap o r b (suc v.births) j in
      let cap : Capability = record { object = x; rights = bits_of r; badge = b } in
      let out' : Outside D ring1 = subst (Outside D) f.is out in
      let pd : SlotPlace spot D = its_place spot v p d u' a' n' l' in
      let th : there k.bytes D ≡ true = slot_there spot k.bytes D R.laid pd in
      let m1 : List ℕ = put_slot k.bytes D (Some cap) in
      let i1 : InSlots spot k.bytes m1 = put_in_slots spot k.bytes D (Some cap) pd (around-put_words k.bytes D 0 _) in
      let c0 : Carries v.lineage v.births k.bytes ring1 = carries spot ring1 k v R in
      let c1 : Carries v.lineage v.births m1 ring1 = record {
        stands = subst (λ g. Stands v.lineage v.births g ring1) (sym (cells-put_slot k.bytes D (Some cap))) c0.stands;
        lies = there_still k.bytes D (Some cap) (places ring1) c0.lies;
      } in
      let few : units m1 < 2 ^ 32 = omega (arith, i1.long, R.small) in
      let th1 : there m1 D ≡ true = there-around (around-put_words k.bytes D 0 _) D ∙ th in
      let t : Carries (w.cap o r b (suc v.births) h.birth ∷ v.lineage) (suc v.births) (inserted m1 h.place D) (f.before ++ h ∷ y ∷ f.after)
      × OnlyThese (D ∷ places ring1) [] m1 (inserted m1 h.place D) =
      insert_on_board v.lineage v.births m1 f.before h f.after D o b r few c1 out' th1 in
      let n1 : List ℕ = inserted m1 (a + s) D in
      let s2 : Stands (C ∷ v.lineage) (suc v.births) (cell n1) (f.before ++ h ∷ y ∷ f.after) =
      subst (λ z. Stands (w.cap o r b (suc v.births) z ∷ v.lineage) (suc v.births) (cell n1) (f.before ++ h ∷ y ∷ f.after)) f.birth
      (subst (λ z. Stands (w.cap o r b (suc v.births) h.birth ∷ v.lineage) (suc v.births) (cell (inserted m1 z D)) (f.before ++ h ∷ y ∷ f.after)) f.place t.0.stands) in
      let o2 : OnlyThese (D ∷ places ring1) [] m1 n1 = subst (λ z. OnlyThese (D ∷ places ring1) [] m1 (inserted m1 z D)) f.place t.1 in
      let known : spot o ≢ None = λ z. let q : Some x ≡ None = sym ox ∙ z in clash (cc) in
      let shown : shape spot C ≡ Some cap = rw ox refl in (
        f.before ++ h ∷ y ∷ f.after,
        rw (with_slot_is (born v C) p d u' C l'.bound)
            (rep_write spot ring1 (f.before ++ h ∷ y ∷ f.after) k v (born v C) n1 R refl
            (then_in_slots spot k.bytes m1 n1 i1 (only_in_slots spot (D ∷ places ring1) [] m1 n1 (pd, R.slots) o2))
            u' a' n' d C l'.is l'.small known
            (λ q. same_slots _ _ _ o2 q ∙ ap (λ g. g q) (slots-put_slot k.bytes D (Some cap) th (bits_small r)) ∙ ap (λ z. upd (slot_at k.bytes) D z q) (sym shown))
            (mark_insert f.before h f.after R.stands.chain.apart y out')
            s2
            (inserted_slots (SlotPlace spot) f.before h y f.after pd R.slots)),
      )

  -- what a copy is, on both sides
  copy_of : (o : ℕ) (q : w.Rights) (b j y : ℕ) (r : Rights) (x : Object) (g : ℕ) →
      copied (record { object = x; rights = bits_of q; badge = b }) r g ≡ record { object = x; rights = bits_of (meet q (rights_of r)); badge = pick (eqb b 0) g b }
  copy_of o q b j y r x g = rw (bits_met q r, pick_cond (eqb b 0) g b) refl

  pub copy_meets : (s d : ℕ) (r : Rights) (g : ℕ) → Meets spot (call_says Cpu fresh act v p (w.copy s d (rights_of r) g)) (call k i (Copy s d r g)) (c.does v p (w.copy s d (rights_of r) g))
  unfolding does is_empty call_says slot_rights w.copied
  copy_meets s d r g = of (holding spot ring k v rep p i e s) (freedom spot ring k v rep p i e d)
    where
      by : (u a n o b j y : ℕ) (reads writes hands : Bool) (x : Object) → Lies spot v p s u a n → c.slot v p s ≡ w.cap o (three_rights reads writes hands) b j y → spot o ≡ Some x →
          Found ring (a + s) j → Freedom spot ring k v p (m.table_of k.side i) d →
          held k.bytes (m.table_of k.side i) s ≡ Some (held_as (a + s) x (three_rights reads writes hands) b) →
          Meets spot (call_says Cpu fresh act v p (w.copy s d (rights_of r) g)) (call k i (Copy s d r g)) (c.does v p (w.copy s d (rights_of r) g))
      by u a n o b j y reads writes false x l sl ox f fr h = rw (h, sl, hands_bits (three_rights reads writes false)) (meets_refused spot ring k v rep)
      by u a n o b j y reads writes true x l sl ox f (taken fr z) h = rw (h, sl, hands_bits (three_rights reads writes true), fr, z) (meets_refused spot ring k v rep)
      by u a n o b j y reads writes true x l sl ox f (frees u' a' n' l' fr em th out) h =
          let q : w.Rights = three_rights reads writes true in
          let z = making u a n s j l f o (pick (eqb b 0) g b) (meet q (rights_of r)) x ox u' a' n' d l' out in
          let C : w.Slot = w.cap o (meet q (rights_of r)) (pick (eqb b 0) g b) (suc v.births) j in
          rw (h, sl, hands_bits q, fr, em, th) (
            refl,
            refl,
            z.0,
            subst
                (λ c. Rep spot z.0 (record { bytes = inserted (put_slot k.bytes (a' + d) (Some c)) (a + s) (a' + d); side = k.side }) (with_slot Cpu fresh act (born v C) p d C))
                (sym (copy_of o q b j y r x g)) z.1,
          )

      of : Holding spot ring k v p (m.table_of k.side i) s → Freedom spot ring k v p (m.table_of k.side i) d →
          Meets spot (call_says Cpu fresh act v p (w.copy s d (rights_of r) g)) (call k i (Copy s d r g)) (c.does v p (w.copy s d (rights_of r) g))
      of (nothing h sl) z = rw (h, sl) (meets_refused spot ring k v rep)
      of (holds u a n o b j y q x l sl ox h t f) z = by u a n o b j y q.reads q.writes q.hands x l sl ox f z h
