-- Cut: the world in the code's parts does what the abstract world does.
use Rattle.std.proofs.Common.{◌≡◌, ℕ, zero, suc, ◌+◌, ◌-◌, ◌%◌, ◌<◌, Bool, true, false, cond, not, ◌&&◌, ◌||◌, eqb, ltb, leb, [], ◌∷◌, ◌++◌, map, length, set, replicate, Some, None, Option, sym, refl, ap, ◌∙◌, inl, inr, arith}
use Rattle.std.specs.Option.{is_none}
use lib.ListN.{get_or-append}
use Rattle.std.proofs.lemmas.List.{map-set, map_push, length-map, get_or_past}
use Rattle.std.proofs.lemmas.Bool.{cases_lt}
use Rattle.std.proofs.lemmas.Bool.Decides.{nat_tests}
use Rattle.rights.specs.declared.calls.NewObject.{NewObject}
use Rattle.rights.specs.declared.calls.NewObject.TheVariants as new
use Rattle.rights.specs.Request.{kind_of}
use Rattle.rights.specs.Vocabulary.{rights_of, all_three}
use Rattle.rights.specs.World as w
use Rattle.rv32.specs.declared.registers.Cpu.{Cpu}
use Rattle.rv32.specs.Registers.{fresh}
use Rattle.rv32.specs.Execute.{act}
use Rattle.model.specs.declared.objects.Capability.{Capability}
use Rattle.model.specs.Plain as p
use Rattle.model.specs.Calls as calls
use Rattle.model.specs.Cuts as cuts
use Rattle.model.specs.Meaning.{cap_of, sizes, slot_of, number_of, object_of, world_of, went_of}
use Rattle.model.proofs.Agree.{with_slot, goes, less_one, at_world, slot_world, free_world, Tabled, with_world, full_has}
use Rattle.model.proofs.Same.{does, refused, only_and}
use Rattle.model.proofs.Slots.{after_put, by_right, born_world, born_tabled, cond_pick}

-- sizes
cost_is : (k : NewObject) → calls.cost k ≡ w.cost sizes (kind_of k)
unfolding w.cost
cost_is (new.Pool n) = refl
cost_is (new.Table n) = refl
cost_is new.Port = refl
cost_is new.Page = refl

filling_is : (k : NewObject) → calls.filling k ≡ w.step_of sizes (kind_of k)
unfolding w.step_of
filling_is (new.Pool n) = refl
filling_is (new.Table n) = refl
filling_is new.Port = refl
filling_is new.Page = refl

up_is : (s n : ℕ) → calls.up_to s n ≡ w.up_to s n
unfolding w.up_to
up_is s n = cond_pick (eqb (n % s) 0) n (n + (s - n % s))

used_is : (k : NewObject) (u : ℕ) → calls.used_after k u ≡ w.up_to (w.step_of sizes (kind_of k)) u + w.cost sizes (kind_of k)
used_is k u = ap (λ c. calls.up_to (calls.filling k) u + c) (cost_is k) ∙ ap (λ m. m + w.cost sizes (kind_of k)) (up_is (calls.filling k) u ∙ ap (λ s. w.up_to s u) (filling_is k))

-- what is refused
refused_is : (k : NewObject) (m n : ℕ) → not (calls.right k && leb m n) ≡ (ltb n m || (eqb (w.cost sizes (kind_of k)) 0 || w.too_many (kind_of k)))
unfolding w.cost w.too_many
refused_is (new.Pool i) m n = grind (arith, nat_tests)
refused_is (new.Table i) m n = grind (arith, nat_tests)
refused_is new.Port m n = grind (arith, nat_tests)
refused_is new.Page m n = grind (arith, nat_tests)

-- what is made
made_is : (o : ℕ) (k : NewObject) → object_of (calls.new_thing o k) ≡ w.made Cpu fresh act sizes (suc o) (kind_of k)
unfolding w.made
made_is o (new.Pool n) = refl
made_is o (new.Table n) = ap (w.table (suc o)) (empties n)
  where
    empties : (n : ℕ) → map slot_of (replicate n None) ≡ replicate n w.empty
    empties zero = refl
    empties (suc n) = ap (λ xs. w.empty ∷ xs) (empties n)
made_is o new.Port = refl
made_is o new.Page = refl

-- a thread with a table is there, and stays as it is when another object changes or one is added
there : (v : p.Whole) (q : ℕ) → Tabled v q → q < length v.things
unfolding p.object
there v q (t, h) =
    elim (cases_lt q (length v.things)) [
      | inl l ↦ l
      | inr l ↦ (let e : p.table_of p.gone ≡ Some t = ap p.table_of (sym (get_or_past v.things q p.gone l)) ∙ h in cc)
    ]

grown_tabled : (v : p.Whole) (x : p.Thing) (q : ℕ) → Tabled v q → Tabled (calls.grown v x) q
unfolding p.object
grown_tabled v x q (t, h) = (t, ap p.table_of (get_or-append v.things (x ∷ []) p.gone q (there v q (t, h))) ∙ h)

pool_tabled : (v : p.Whole) (o q a : ℕ) (f : Option ℕ) (n u : ℕ) → p.pool f n u ≡ p.object v o → Tabled v q → Tabled (p.with_object v o (p.pool f n a)) q
pool_tabled v o q a f n u e (t, h) =
    elim (after_put v o q (p.pool f n a)) [
      | inl s ↦ (t, ap p.table_of s ∙ h)
      | inr s ↦ (let b : None ≡ Some t = ap p.table_of (e ∙ ap (p.object v) (sym s.0)) ∙ h in cc)
    ]

grown_world : (v : p.Whole) (o : ℕ) (y x : p.Thing) →
    world_of (calls.grown (p.with_object v o y) x)
    ≡ record { objects = set (world_of v).objects o (object_of y) ++ object_of x ∷ []; births = v.births; lineage = (world_of v).lineage }
unfolding p.with_object
grown_world v o y x =
    ap (λ xs. record { objects = xs; births = v.births; lineage = (world_of v).lineage })
    (map_push object_of (set v.things o y) x ∙ ap (λ xs. xs ++ object_of x ∷ []) (map-set object_of v.things o y))

newborn_is : (v : p.Whole) (m : ℕ) → cap_of (calls.newborn v m) ≡ w.cap (length (world_of v).objects) (w.all_rights Cpu fresh act) 0 (suc v.births) m
unfolding w.all_rights
newborn_is v m = ap (λ n. w.cap n (rights_of all_three) 0 (suc v.births) m) (sym (length-map v.things object_of))

-- the world once an object is cut
abbrev cut_world : w.World Cpu → ℕ → ℕ → ℕ → w.Kind → ℕ → ℕ → ℕ → ℕ → w.World Cpu
cut_world v q o m k d f n a =
    with_slot (record {
      objects = set v.objects o (w.pool f n a) ++ w.made Cpu fresh act sizes (suc o) k ∷ [];
      births = suc v.births;
      lineage = w.cap (length v.objects) (w.all_rights Cpu fresh act) 0 (suc v.births) m ∷ v.lineage;
    })
    q d (w.cap (length v.objects) (w.all_rights Cpu fresh act) 0 (suc v.births) m)

cut_done_is : (v : p.Whole) (q o m : ℕ) (k : NewObject) (d : ℕ) (f : Option ℕ) (n u a : ℕ) → p.pool f n u ≡ p.object v o → Tabled v q →
    world_of (p.with_slot (calls.born (calls.grown (p.with_object v o (p.pool f n a)) (calls.new_thing o k)) (Some (calls.newborn v m))) q d (Some (calls.newborn v m)))
    ≡ cut_world (world_of v) q o m (kind_of k) d (number_of f) n a
cut_done_is v q o m k d f n u a e t =
    let x = calls.newborn v m in
    let u₁ = calls.grown (p.with_object v o (p.pool f n a)) (calls.new_thing o k) in
    let t₁ = grown_tabled (p.with_object v o (p.pool f n a)) (calls.new_thing o k) q (pool_tabled v o q a f n u e t) in
    with_world (calls.born u₁ (Some x)) q d (Some x) (born_tabled u₁ (Some x) q t₁)
    ∙ ap (λ y. with_slot y q d (cap_of x)) (born_world u₁ (Some x) ∙ ap (λ y. record { objects = y.objects; births = suc y.births; lineage = cap_of x ∷ y.lineage }) (grown_world v o (p.pool f n a) (calls.new_thing o k)))
    ∙ ap (λ y. with_slot (record { objects = set (world_of v).objects o (w.pool (number_of f) n a) ++ y ∷ []; births = suc v.births; lineage = cap_of x ∷ (world_of v).lineage }) q d (cap_of x)) (made_is o k)
    ∙ ap (λ y. with_slot (record { objects = set (world_of v).objects o (w.pool (number_of f) n a) ++ w.made Cpu fresh act sizes (suc o) (kind_of k) ∷ []; births = suc v.births; lineage = y ∷ (world_of v).lineage }) q d y) (newborn_is v m)

-- a cut of what fits, and of what does not
room_by : (v : p.Whole) (q o m : ℕ) (k : NewObject) (d : ℕ) (f : Option ℕ) (n u : ℕ) (b : Bool) → p.pool f n u ≡ p.object v o → Tabled v q →
    went_of (p.on_some (cond b (Some (calls.used_after k u)) None) (p.refuse v) (λ a. p.done (cuts.cut_done v q o m k d a)))
    ≡ w.pick (not b) (refused (world_of v)) (goes (cut_world (world_of v) q o m (kind_of k) d (number_of f) n (calls.used_after k u)) (0 ∷ []))
room_by v q o m k d f n u true e t =
    ap (λ y. goes y (0 ∷ []))
    (ap (λ x. world_of (p.with_slot (calls.born (calls.grown (p.with_object v o (cuts.with_used (calls.used_after k u) x)) (calls.new_thing o k)) (Some (calls.newborn v m))) q d (Some (calls.newborn v m)))) (sym e)
    ∙ cut_done_is v q o m k d f n u (calls.used_after k u) e t)
room_by v q o m k d f n u false e t = refl

cut_at_is : (v : p.Whole) (q o : ℕ) (s : w.Slot) (k : NewObject) (d : ℕ) (x : p.Thing) → x ≡ p.object v o → Tabled v q →
    went_of (cuts.cut_by v q o (w.slot_birth s) k d (cuts.room_in k x)) ≡ w.cutting Cpu fresh act sizes (world_of v) q o s (kind_of k) d (object_of x)
unfolding w.cutting w.refuse
cut_at_is v q o s k d (p.pool f n u) e t =
    room_by v q o (w.slot_birth s) k d f n u (calls.right k && leb (calls.used_after k u) n) e t
    ∙ ap (λ b. w.pick b (refused (world_of v)) (goes (cut_world (world_of v) q o (w.slot_birth s) (kind_of k) d (number_of f) n (calls.used_after k u)) (0 ∷ []))) (refused_is k (calls.used_after k u) n)
    ∙ ap (λ a. w.pick (ltb n a || (eqb (w.cost sizes (kind_of k)) 0 || w.too_many (kind_of k))) (refused (world_of v)) (goes (cut_world (world_of v) q o (w.slot_birth s) (kind_of k) d (number_of f) n a) (0 ∷ []))) (used_is k u)
cut_at_is v q o s k d _ e t = refl

cut_with : (v : p.Whole) (q s : ℕ) (k : NewObject) (d : ℕ) (x : Option Capability) → x ≡ p.slot v q s →
    went_of (p.on_some x (p.refuse v) (λ c. cond (calls.writes c && p.free v q d) (cuts.cut_at v q c.object c.birth k d) (p.refuse v)))
    ≡ does (world_of v) q (w.cut s (kind_of k) d)
unfolding w.does w.is_empty w.slot_rights w.slot_object w.slot_birth w.refuse
cut_with v q s k d None e = rw (sym (slot_world v q s), sym e) refl
cut_with v q s k d (Some c) e =
    rw (sym (slot_world v q s), sym e, less_one c.object)
    (by_right (calls.writes c) (p.free v q d) _ _ _ _ _ (free_world v q d)
    (λ h. cut_at_is v q c.object (slot_of (Some c)) k d (p.object v c.object) refl (full_has v q s (ap is_none (sym e)))
    ∙ ap (w.cutting Cpu fresh act sizes (world_of v) q c.object (slot_of (Some c)) (kind_of k) d) (at_world v c.object)) refl)

pub cut_same : (v : p.Whole) (q s : ℕ) (k : NewObject) (d : ℕ) → went_of (cuts.cut v q s k d) ≡ does (world_of v) q (w.cut s (kind_of k) d)
cut_same v q s k d =
    ap went_of (only_and calls.writes (λ c. p.free v q d) (p.slot v q s) (p.refuse v) (λ c. cuts.cut_at v q c.object c.birth k d)) ∙ cut_with v q s k d (p.slot v q s) refl
