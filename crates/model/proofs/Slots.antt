-- Drop, move and copy: the world in the code's parts does what the abstract world does.
use Rattle.std.proofs.Common.{◌≡◌, ℕ, suc, Bool, true, false, cond, not, ◌&&◌, ◌||◌, eqb, ◌⊎◌, [], ◌∷◌, map, Some, None, Option, sym, refl, ap, ◌∙◌, inl, inr}
use Rattle.std.specs.Option.{is_none}
use Rattle.rights.specs.declared.bits.Rights.{Rights}
use Rattle.rights.specs.Vocabulary.{rights_of, met}
use Rattle.rights.specs.World as w
use Rattle.rights.proofs.Lowest.{has_both}
use Rattle.rv32.specs.declared.registers.Cpu.{Cpu}
use Rattle.model.specs.declared.objects.Capability.{Capability}
use Rattle.model.specs.Plain as p
use Rattle.model.specs.Calls as calls
use Rattle.model.specs.Meaning.{cap_of, slot_of, object_of, world_of, went_of}
use Rattle.model.proofs.Lists.{push_reverse, wrote}
use Rattle.model.proofs.Agree.{with_slot, Went, goes, slot_world, free_world, Tabled, with_world, full_has}
use Rattle.model.proofs.Same.{does}

-- an object after one was written
pub after_put : (v : p.Whole) (t q : ℕ) (y : p.Thing) → (p.object (p.with_object v t y) q ≡ p.object v q) ⊎ ((q ≡ t) × (p.object (p.with_object v t y) q ≡ y))
unfolding p.object p.with_object
after_put v t q y = wrote v.things t q y p.gone

table_kept : (x : p.Thing) (s : ℕ) (c : Option Capability) → p.table_of (p.put_at x s c) ≡ p.table_of x
table_kept (p.table f ss) s c = refl
table_kept _ s c = refl

tabled_by : (v : p.Whole) (m : Option ℕ) (q s : ℕ) (c : Option Capability) → p.table_of (p.object (p.put_by v m s c) q) ≡ p.table_of (p.object v q)
tabled_by v None q s c = refl
tabled_by v (Some t) q s c =
    elim (after_put v t q (p.put_at (p.object v t) s c)) [
      | inl e ↦ ap p.table_of e
      | inr e ↦ ap p.table_of e.1 ∙ table_kept (p.object v t) s c ∙ ap (λ k. p.table_of (p.object v k)) (sym e.0)
    ]

-- a write to a slot leaves threads their tables
pub tabled_after : (v : p.Whole) (r q s : ℕ) (c : Option Capability) → Tabled v q → Tabled (p.with_slot v r s c) q
tabled_after v r q s c (t, h) = (t, tabled_by v (p.table_of (p.object v r)) q s c ∙ h)

-- DROP
drop_with : (v : p.Whole) (q s : ℕ) (x : Option Capability) → x ≡ p.slot v q s →
    went_of (p.on_some x (p.refuse v) (λ c. p.done (p.with_slot v q s None))) ≡ does (world_of v) q (w.drop_it s)
unfolding w.does w.is_empty w.refuse
drop_with v q s None e = rw (sym (slot_world v q s), sym e) refl
drop_with v q s (Some c) e =
    rw (sym (slot_world v q s), sym e) (ap (λ u. goes u (0 ∷ [])) (with_world v q s None (full_has v q s (ap is_none (sym e)))))

pub drop_same : (v : p.Whole) (q s : ℕ) → went_of (calls.drop_it v q s) ≡ does (world_of v) q (w.drop_it s)
drop_same v q s = drop_with v q s (p.slot v q s) refl

-- a test that is the same on both sides
pub by_test : (t u : Bool) (x y : p.Ended) (k l : Went) → t ≡ u → (t ≡ true → went_of x ≡ k) → went_of y ≡ l → went_of (cond t x y) ≡ w.pick (not u) l k
by_test true u x y k l e good bad = rw (sym e) (good refl)
by_test false u x y k l e good bad = rw (sym e) bad

-- MOVE
moved : (v : p.Whole) (q s d : ℕ) (c : Capability) → Some c ≡ p.slot v q s → p.free v q d ≡ true →
    world_of (p.with_slot (p.with_slot v q d (Some c)) q s None) ≡ with_slot (with_slot (world_of v) q d (slot_of (Some c))) q s w.empty
moved v q s d c e h =
    let t = full_has v q s (ap is_none (sym e)) in
    with_world (p.with_slot v q d (Some c)) q s None (tabled_after v q q d (Some c) t) ∙ ap (λ u. with_slot u q s w.empty) (with_world v q d (Some c) t)

move_with : (v : p.Whole) (q s d : ℕ) (x : Option Capability) → x ≡ p.slot v q s →
    went_of (p.on_some x (p.refuse v) (λ c. cond (p.free v q d) (p.done (p.with_slot (p.with_slot v q d (Some c)) q s None)) (p.refuse v))) ≡ does (world_of v) q (w.move s d)
unfolding w.does w.is_empty w.refuse
move_with v q s d None e = rw (sym (slot_world v q s), sym e) refl
move_with v q s d (Some c) e =
    rw (sym (slot_world v q s), sym e)
    (by_test (p.free v q d) _ _ _ _ _ (free_world v q d) (λ h. ap (λ u. goes u (0 ∷ [])) (moved v q s d c e h)) refl)

pub move_same : (v : p.Whole) (q s d : ℕ) → went_of (calls.move v q s d) ≡ does (world_of v) q (w.move s d)
move_same v q s d = move_with v q s d (p.slot v q s) refl

-- COPY
pub cond_pick : {A : Type 0} (t : Bool) (x y : A) → cond t x y ≡ w.pick t x y
cond_pick true x y = refl
cond_pick false x y = refl

pub met_is : (a b : Rights) → rights_of (met a b) ≡ w.meet (rights_of a) (rights_of b)
unfolding w.meet
met_is a b = simp (has_both 0 a.bits b.bits, has_both 1 a.bits b.bits, has_both 2 a.bits b.bits)

copied_is : (c : Capability) (r : Rights) (b i : ℕ) → cap_of (calls.copied c r b i) ≡ w.copied (cap_of c) (rights_of r) b i
unfolding w.copied
copied_is c r b i =
    ap (λ g. w.cap c.object (rights_of (met c.rights r)) g i c.birth) (cond_pick (eqb c.badge 0) b c.badge)
    ∙ ap (λ m. w.cap c.object m (w.pick (eqb c.badge 0) b c.badge) i c.birth) (met_is c.rights r)

abbrev grown_lineage : w.World Cpu → w.Slot → w.World Cpu
grown_lineage v x = record { objects = v.objects; births = suc v.births; lineage = x ∷ v.lineage }

-- one more capability was made
pub born_world : (v : p.Whole) (x : Option Capability) → world_of (calls.born v x) ≡ grown_lineage (world_of v) (slot_of x)
born_world v x =
    ap (λ l. record { objects = map object_of v.things; births = suc v.births; lineage = l }) (sym (push_reverse slot_of v.lineage x))

pub born_tabled : (v : p.Whole) (x : Option Capability) (q : ℕ) → Tabled v q → Tabled (calls.born v x) q
unfolding p.object
born_tabled v x q h = h

copy_done : (v : p.Whole) (q d : ℕ) (x : Capability) → Tabled v q →
    world_of (p.with_slot (calls.born v (Some x)) q d (Some x)) ≡ with_slot (grown_lineage (world_of v) (cap_of x)) q d (cap_of x)
copy_done v q d x t = with_world (calls.born v (Some x)) q d (Some x) (born_tabled v (Some x) q t) ∙ ap (λ u. with_slot u q d (cap_of x)) (born_world v (Some x))

-- the same with a right before it
pub by_right : (a t u : Bool) (x y : p.Ended) (k l : Went) → t ≡ u → (t ≡ true → went_of x ≡ k) → went_of y ≡ l → went_of (cond (a && t) x y) ≡ w.pick (not a || not u) l k
by_right true t u x y k l e good bad = by_test t u x y k l e good bad
by_right false t u x y k l e good bad = bad

copy_with : (v : p.Whole) (q s d : ℕ) (r : Rights) (b : ℕ) (x : Option Capability) → x ≡ p.slot v q s →
    went_of (p.on_some x (p.refuse v)
    (λ c. cond (calls.hands c && p.free v q d) (p.done (p.with_slot (calls.born v (Some (calls.copied c r b (suc v.births)))) q d (Some (calls.copied c r b (suc v.births))))) (p.refuse v)))
    ≡ does (world_of v) q (w.copy s d (rights_of r) b)
unfolding w.does w.is_empty w.slot_rights w.refuse
copy_with v q s d r b None e = rw (sym (slot_world v q s), sym e) refl
copy_with v q s d r b (Some c) e =
    let t = full_has v q s (ap is_none (sym e)) in
    let k = copied_is c r b (suc v.births) in
    rw (sym (slot_world v q s), sym e)
    (by_right (calls.hands c) (p.free v q d) _ _ _ _ _ (free_world v q d)
    (λ h. ap (λ u. goes u (0 ∷ [])) (copy_done v q d (calls.copied c r b (suc v.births)) t ∙ ap (λ y. with_slot (grown_lineage (world_of v) y) q d y) k)) refl)

pub copy_same : (v : p.Whole) (q s d : ℕ) (r : Rights) (b : ℕ) → went_of (calls.copy v q s d r b) ≡ does (world_of v) q (w.copy s d (rights_of r) b)
copy_same v q s d r b = copy_with v q s d r b (p.slot v q s) refl
