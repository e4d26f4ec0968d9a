-- One slot of a table is written: every object is still what is kept of it.
use mathlib.Core.Path.{◌≡◌, ap, refl, sym, subst, ◌∙◌}
use mathlib.Core.List.{List, [], ◌∷◌}
use mathlib.Core.Logic.{◌≢◌}
use Prim.Native.Nat.{ℕ, zero, suc, ◌+◌, ◌<◌}
use native.Mathlib.Omega.{arith}
use lib.ListN.{length, get_or, set, length-set}
use Rattle.std.specs.Prelude.{Option, Some, None, slice_set, slice_index_or}
use Rattle.std.proofs.lemmas.List.{get_or-set_same, get_or-set_other}
use Rattle.rights.specs.World as w
use Rattle.rights.specs.World.{object, with_object, slots_of, with_slots}
use Rattle.rv32.specs.declared.registers.Cpu.{Cpu}
use Rattle.rv32.specs.Registers.{fresh}
use Rattle.rv32.specs.Execute.{act}
use Rattle.board.specs.declared.slots.Capability.{Capability}
use Rattle.board.specs.declared.slots.Object.{Object}
use Rattle.board.specs.declared.slots.Object.TheVariants as at
use Rattle.board.specs.Parts.{page_at}
use Rattle.board.specs.Slots.{upd}
use Rattle.calls.specs.Machine.{Machine}
use Rattle.laws.proofs.Tests.{same_or_not, clash}
use Rattle.kernel.specs.Core as c
use Rattle.kernel.specs.Places.{Laid}
use Rattle.kernel.specs.Relation.{Good, Slotted, Known, shape, slot_mark}
use Rattle.kernel.proofs.Lying.{slots_apart}
use Rattle.kernel.proofs.Marks.{pick_same, pick_other}

-- the world with x in slot i of table t
abbrev pub write : c.World → ℕ → ℕ → w.Slot → c.World
write v t i x = with_object Cpu fresh act v t (with_slots Cpu fresh act (c.object v t) (slice_set (c.slots_of (c.object v t)) i x))

-- an object that is put in the place of one that is there, and all others
pub put_same : (v : c.World) (o : ℕ) (x : c.Object) → o < length v.objects → c.object (with_object Cpu fresh act v o x) o ≡ x
unfolding object with_object
put_same v o x h = get_or-set_same v.objects o x w.gone h

pub put_other : (v : c.World) (o : ℕ) (x : c.Object) (q : ℕ) → q ≢ o → c.object (with_object Cpu fresh act v o x) q ≡ c.object v q
unfolding object with_object
put_other v o x q n = get_or-set_other v.objects o q x w.gone n

there_in : (xs : List c.Object) (o : ℕ) → get_or xs o w.gone ≢ w.gone → o < length xs
there_in [] o h = absurd (h refl)
there_in (x ∷ xs) zero h = omega arith
there_in (x ∷ xs) (suc o) h = let i = there_in xs o h in omega arith

-- what is not gone has a number below their count
pub live : (v : c.World) (o : ℕ) → c.object v o ≢ w.gone → o < length v.objects
unfolding object
live v o h = there_in v.objects o h

module _ (spot : ℕ → Option Object) (held : ℕ → Option Capability) (mark : ℕ → ℕ) (k : Machine) (o : ℕ) where
  -- an object that lies somewhere is there
  pub good_live : (x : c.Object) (y : Object) → Good spot held mark k o x → spot o ≡ Some y → x ≢ w.gone
  good_live x y g e h = let z : spot o ≡ None = subst (λ u. Good spot held mark k o u) h g in clash (cc)

  -- what lies as a table is one, and each of its slots is what is kept
  pub good_table : (x : c.Object) (p n : ℕ) → Good spot held mark k o x → spot o ≡ Some (at.Table p n) →
      (n ≡ length (c.slots_of x)) × ((i : ℕ) → i < n → Slotted spot held mark (p + i) (slice_index_or (c.slots_of x) i w.empty))
  unfolding slots_of
  good_table w.gone p n g e = clash (cc)
  good_table (w.pool f m u) p n g e = absurd g
  good_table (w.table f ss) p n (a, g, h) e =
      let s : a ≡ p = cc in
      let t : n ≡ length ss = cc in
      (t, λ i j. subst (λ q. Slotted spot held mark (q + i) (slice_index_or ss i w.empty)) s (h i (omega (arith, t, j))))
  good_table (w.port f ws) p n g e = absurd g
  good_table (w.page f bs) p n (a, g, _) e = clash (cc)
  good_table (w.thread f s d b ps rs) p n (a, g, _) e = clash (cc)
  good_table (w.line xs ys) p n (a, g, i, j, l) e = clash (cc)

  -- other slots, and the rest as it was
  pub good_slots : (held' : ℕ → Option Capability) (mark' : ℕ → ℕ) (k' : Machine) → k'.side ≡ k.side → ((p : ℕ) → spot o ≡ Some (at.Page p) → page_at k'.bytes p ≡ page_at k.bytes p) →
      (x : c.Object) (ss : List w.Slot) → length ss ≡ length (c.slots_of x) → Good spot held mark k o x →
      ((p n : ℕ) → spot o ≡ Some (at.Table p n) → (i : ℕ) → i < length ss → Slotted spot held' mark' (p + i) (slice_index_or ss i w.empty)) →
      Good spot held' mark' k' o (with_slots Cpu fresh act x ss)
  unfolding with_slots slots_of
  good_slots held' mark' k' a b w.gone ss e g h = g
  good_slots held' mark' k' a b (w.pool f n u) ss e g h = g
  good_slots held' mark' k' a b (w.table f old) ss e (p, g, _) h = (p, rw e g, h p (length old) g)
  good_slots held' mark' k' a b (w.port f ws) ss e g h = g
  good_slots held' mark' k' a b (w.page f bs) ss e (p, g, l) h = (p, g, b p g ∙ l)
  good_slots held' mark' k' a b (w.thread f s d t ps rs) ss e g h = rw a g
  good_slots held' mark' k' a b (w.line xs ys) ss e g h = rw a g

  pub with_same_slots : (x : c.Object) → with_slots Cpu fresh act x (c.slots_of x) ≡ x
  unfolding with_slots slots_of
  with_same_slots w.gone = refl
  with_same_slots (w.pool f n u) = refl
  with_same_slots (w.table f ss) = refl
  with_same_slots (w.port f ws) = refl
  with_same_slots (w.page f bs) = refl
  with_same_slots (w.thread f s d t ps rs) = refl
  with_same_slots (w.line xs ys) = refl

pub table_with_slots : (x : c.Object) (ss : List w.Slot) → w.table_of Cpu fresh act (with_slots Cpu fresh act x ss) ≡ w.table_of Cpu fresh act x
unfolding with_slots w.table_of
table_with_slots w.gone ss = refl
table_with_slots (w.pool f n u) ss = refl
table_with_slots (w.table f old) ss = refl
table_with_slots (w.port f ws) ss = refl
table_with_slots (w.page f bs) ss = refl
table_with_slots (w.thread f s d t ps rs) ss = refl
table_with_slots (w.line xs ys) ss = refl

-- a thread's table stays the same
pub write_table : (v : c.World) (t i : ℕ) (x : w.Slot) → c.object v t ≢ w.gone → (p : ℕ) → w.table_of Cpu fresh act (c.object (write v t i x) p) ≡ w.table_of Cpu fresh act (c.object v p)
write_table v t i x h p =
    same_or_not p t
    (λ e. rw (e, put_same v t (with_slots Cpu fresh act (c.object v t) (slice_set (c.slots_of (c.object v t)) i x)) (live v t h)) (table_with_slots (c.object v t) _))
    (λ n. ap (w.table_of Cpu fresh act) (put_other v t _ p n))

-- THE KEY LEMMA
module _ (room : ℕ) (spot : ℕ → Option Object) (laid : Laid room spot) (held : ℕ → Option Capability) (mark : ℕ → ℕ) (k : Machine) (v : c.World)
    (good : (o : ℕ) → Good spot held mark k o (c.object v o)) where
  pub put_good : (held' : ℕ → Option Capability) (mark' : ℕ → ℕ) (k' : Machine) → k'.side ≡ k.side → ((o p : ℕ) → spot o ≡ Some (at.Page p) → page_at k'.bytes p ≡ page_at k.bytes p) →
      (t p n i : ℕ) (x : w.Slot) → spot t ≡ Some (at.Table p n) → i < n → Known spot x →
      ((a : ℕ) → held' a ≡ upd held (p + i) (shape spot x) a) → ((a : ℕ) → mark' a ≡ upd mark (p + i) (slot_mark x) a) →
      (o : ℕ) → Good spot held' mark' k' o (c.object (write v t i x) o)
  put_good held' mark' k' a b t p n i x e h kn eh em o =
      let q = good_table spot held mark k t (c.object v t) p n (good t) e in
      same_or_not o t
      (λ z. subst (λ u. Good spot held' mark' k' u (c.object (write v t i x) u)) (sym z)
      (rw (put_same v t (with_slots Cpu fresh act (c.object v t) (slice_set (c.slots_of (c.object v t)) i x)) (live v t (good_live spot held mark k t (c.object v t) (at.Table p n) (good t) e)))
      (good_slots spot held mark k t held' mark' k' a (b t) (c.object v t) (slice_set (c.slots_of (c.object v t)) i x) (length-set (c.slots_of (c.object v t)) i x) (good t)
      (λ p' n' f j l. in_table p' n' f j (rw length-set at l)))))
      (λ z. rw (put_other v t (with_slots Cpu fresh act (c.object v t) (slice_set (c.slots_of (c.object v t)) i x)) o z)
      (subst (λ y. Good spot held' mark' k' o y) (with_same_slots spot held mark k o (c.object v o))
      (good_slots spot held mark k o held' mark' k' a (b o) (c.object v o) (c.slots_of (c.object v o)) refl (good o)
      (λ p' n' f j l. elsewhere z p' n' f j l))))
    where
      in_table : (p' n' : ℕ) → spot t ≡ Some (at.Table p' n') → (j : ℕ) → j < length (c.slots_of (c.object v t)) →
          Slotted spot held' mark' (p' + j) (slice_index_or (slice_set (c.slots_of (c.object v t)) i x) j w.empty)
      in_table p' n' f j l =
          let s : p ≡ p' = cc in
          let q = good_table spot held mark k t (c.object v t) p n (good t) e in
          same_or_not j i
          (λ y. rw (y, get_or-set_same (c.slots_of (c.object v t)) i x w.empty (omega (arith, q.0, h)), sym s)
          (eh (p + i) ∙ pick_same (p + i) (p + i) _ _ refl, em (p + i) ∙ pick_same (p + i) (p + i) _ _ refl, kn))
          (λ y. let far : p + j ≢ p + i = λ d. y (omega (arith, d)) in
          let r = q.1 j (omega (arith, q.0, l)) in
          rw (get_or-set_other (c.slots_of (c.object v t)) i j x w.empty y, sym s)
          (eh (p + j) ∙ pick_other (p + j) (p + i) _ _ far ∙ r.0, em (p + j) ∙ pick_other (p + j) (p + i) _ _ far ∙ r.1, r.2))

      elsewhere : o ≢ t → (p' n' : ℕ) → spot o ≡ Some (at.Table p' n') → (j : ℕ) → j < length (c.slots_of (c.object v o)) →
          Slotted spot held' mark' (p' + j) (slice_index_or (c.slots_of (c.object v o)) j w.empty)
      elsewhere z p' n' f j l =
          let q = good_table spot held mark k o (c.object v o) p' n' (good o) f in
          let j' : j < n' = omega (arith, q.0, l) in
          let r = q.1 j j' in
          let far : p' + j ≢ p + i = λ d. z (slots_apart room spot laid o t p' n' p n j i f e j' h d) in
          (eh (p' + j) ∙ pick_other (p' + j) (p + i) _ _ far ∙ r.0, em (p' + j) ∙ pick_other (p' + j) (p + i) _ _ far ∙ r.1, r.2)
