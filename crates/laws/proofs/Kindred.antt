-- What was made from what, and what was cut from what, in tied worlds.
use mathlib.Core.Path.{◌≡◌, refl, sym, ap, subst, ◌∙◌}
use mathlib.Core.Bool.{Bool, true, false, ◌&&◌, ◌||◌, not}
use mathlib.Core.List.{List, [], ◌∷◌, ◌++◌}
use Prim.Native.Nat.{ℕ, zero, suc, ◌+◌, ◌≤◌, zero-le}
use native.Mathlib.Omega.{arith}
use lib.Dec.{eqb}
use borrow.Author.Tests.{ne_eqb, eqb-true}
use native.Mathlib.Nat.{suc-add, add_comm, zero-add}
use Rattle.rights.specs.World.{pick, Slot, Act, Object, World, slot_birth, slot_mother, is_empty, among, object, from_of, made_from, offspring}
use Rattle.rights.specs.World.{cut_in, cuttings}
use Rattle.laws.proofs.Tests.{no_yes, pick_two, and_false, among-++}
use Rattle.laws.proofs.CutFrom.{test, at_cut}
use Rattle.laws.proofs.Steps.{one}
use Rattle.laws.proofs.Tied.{Ties, Ref, none, Each, nil, cons, From, Lin, lin_nil, lin_both, lin_left, lin_right, Up, up_nil, up_cons, Agree, ref_in}
use Rattle.laws.proofs.Tied.{ObjT, gone_t, pool_t, table_t, port_t, page_t, thread_t, line_t, Tied}

pub each_among : {P : ℕ → ℕ → Type 0} {ids jds : List ℕ} → ((a b u k : ℕ) → P a b → P u k → eqb a u ≡ eqb b k) → Each P ids jds → (a b : ℕ) → P a b → among a ids ≡ among b jds
unfolding among
each_among one nil a b h = refl
each_among one (cons {x} {y} p r) a b h = rw (one a b x y h p, each_among one r a b h)

each_none : {P : ℕ → ℕ → Type 0} {ids jds : List ℕ} → Each P ids jds → (a : ℕ) → ((i : ℕ) → P a i → ⊥) → among a ids ≡ false
unfolding among
each_none nil a h = refl
each_none {P} (cons {x} {y} p r) a h = rw (ne_eqb a x (λ e. h y (subst (λ (n : ℕ). P n y) (sym e) p)), each_none r a h)

each_none' : {P : ℕ → ℕ → Type 0} {ids jds : List ℕ} → Each P ids jds → (a : ℕ) → ((i : ℕ) → P i a → ⊥) → among a jds ≡ false
unfolding among
each_none' nil a h = refl
each_none' {P} (cons {x} {y} p r) a h = rw (ne_eqb a y (λ e. h x (subst (λ (n : ℕ). P x n) (sym e) p)), each_none' r a h)

-- one of a list that is tied is tied
pub each_in : {P : ℕ → ℕ → Type 0} {ids jds : List ℕ} → Each P ids jds → (Q : ℕ → Type 0) → ((a b : ℕ) → P a b → Q a) → (a : ℕ) → among a ids ≡ true → Q a
unfolding among
each_in nil Q f a e = no_yes e
each_in {P} (cons {x} {y} {xs} {ys} p r) Q f a e = go (λ q. each_in r Q f a q) (eqb a x) refl
  where
    go : (among a xs ≡ true → Q a) → (c : Bool) → eqb a x ≡ c → Q a
    go rec true g = subst Q (sym (eqb-true a x g)) (f x y p)
    go rec false g = rec (subst (λ (c : Bool). (c || among a xs) ≡ true) g e)

pub data Low (lo : ℕ) : List ℕ → Type 0 where
  low_nil : Low lo []
  low_cons : {x : ℕ} {xs : List ℕ} → lo ≤ x → Low lo xs → Low lo (x ∷ xs)

low_zero : (xs : List ℕ) → Low 0 xs
low_zero [] = low_nil
low_zero (x ∷ xs) = low_cons zero-le (low_zero xs)

low_in : {lo : ℕ} {xs : List ℕ} → Low lo xs → (a : ℕ) → among a xs ≡ true → lo ≤ a
unfolding among
low_in low_nil a e = no_yes e
low_in {lo} (low_cons {x} {xs} h r) a e = go (λ q. low_in r a q) (eqb a x) refl
  where
    go : (among a xs ≡ true → lo ≤ a) → (c : Bool) → eqb a x ≡ c → lo ≤ a
    go rec true g = let q = eqb-true a x g in omega arith
    go rec false g = rec (subst (λ (c : Bool). (c || among a xs) ≡ true) g e)

module _ (Cpu : Type 0) (fresh : ℕ → Cpu) (act : Cpu → (ℕ → ℕ) → Act Cpu) where
  -- children of tied births are tied
  e_made : {t : Ties} {b c : ℕ} {ids jds : List ℕ} {xs ys : List Slot} → ((a b u k : ℕ) → t.born a b → t.born u k → eqb a u ≡ eqb b k) → Lin t b c xs ys → Each t.born ids jds →
      Each t.born (made_from Cpu fresh act ids xs) (made_from Cpu fresh act jds ys)
  unfolding made_from
  e_made one lin_nil e = nil
  e_made {t} {ids} {jds} one (lin_both {x} {y} ex ey hb hm r) e =
      rw (ex, ey) (pick_two (Each t.born) (each_among one e (slot_mother x) (slot_mother y) hm) (cons hb (e_made one r e)) (e_made one r e))
  e_made one (lin_left {x} h n r) e = rw (each_none e (slot_mother x) n, and_false (not (is_empty x))) (e_made one r e)
  e_made one (lin_right {y} h n r) e = rw (each_none' e (slot_mother y) n, and_false (not (is_empty y))) (e_made one r e)

  each-++ : {P : ℕ → ℕ → Type 0} {xs ys cs bs : List ℕ} → Each P xs ys → Each P cs bs → Each P (xs ++ cs) (ys ++ bs)
  each-++ nil e = e
  each-++ (cons p r) e = cons p (each-++ r e)

  e_offspring : {d : Bool} {t : Ties} {v w : World Cpu} → Tied Cpu fresh act d t v w → (n : ℕ) {ids jds : List ℕ} → Each t.born ids jds → Each t.born (offspring Cpu fresh act v n ids) (offspring Cpu fresh act w n jds)
  unfolding offspring
  e_offspring r zero e = nil
  e_offspring r (suc n) e = let m = e_made (λ a b u k. r.first) r.lin e in each-++ m (e_offspring r n m)

  made_none : (xs : List Slot) → made_from Cpu fresh act [] xs ≡ []
  unfolding made_from among
  made_none [] = refl
  made_none (x ∷ xs) = rw (and_false (not (is_empty x))) (made_none xs)

  offspring_none : (w : World Cpu) (n : ℕ) → offspring Cpu fresh act w n [] ≡ []
  unfolding offspring
  offspring_none w zero = refl
  offspring_none w (suc n) = rw (made_none w.lineage) (offspring_none w n)

  made_low : {b lo : ℕ} {xs : List Slot} {ids : List ℕ} → Up b xs → Low lo ids → Low (suc lo) (made_from Cpu fresh act ids xs)
  unfolding made_from
  made_low up_nil l = low_nil
  made_low {b} {lo} {ids} (up_cons {x} {xs} h k r) l = go (not (is_empty x)) (among (slot_mother x) ids) refl (made_low r l)
    where
      go : (c e : Bool) → among (slot_mother x) ids ≡ e → Low (suc lo) (made_from Cpu fresh act ids xs) → Low (suc lo) (pick (c && e) (slot_birth x ∷ made_from Cpu fresh act ids xs) (made_from Cpu fresh act ids xs))
      go true true q m = let z = low_in l (slot_mother x) q in low_cons (omega arith) m
      go true false q m = m
      go false true q m = m
      go false false q m = m

  made_high : {b lo : ℕ} {xs : List Slot} {ids : List ℕ} → b ≤ lo → Up b xs → Low lo ids → made_from Cpu fresh act ids xs ≡ []
  unfolding made_from
  made_high g up_nil l = refl
  made_high {b} {lo} {ids} g (up_cons {x} {xs} h k r) l = go (not (is_empty x)) (among (slot_mother x) ids) refl (made_high g r l)
    where
      go : (c e : Bool) → among (slot_mother x) ids ≡ e → made_from Cpu fresh act ids xs ≡ [] → pick (c && e) (slot_birth x ∷ made_from Cpu fresh act ids xs) (made_from Cpu fresh act ids xs) ≡ []
      go true true q m = let z = low_in l (slot_mother x) q in absurd (omega arith)
      go true false q m = m
      go false true q m = m
      go false false q m = m

  offspring_stop : (w : World Cpu) (n m lo : ℕ) (ids : List ℕ) → w.births ≤ lo + n → Up w.births w.lineage → Low lo ids → offspring Cpu fresh act w (n + m) ids ≡ offspring Cpu fresh act w n ids
  unfolding offspring
  offspring_stop w zero m lo ids h u l = rw (zero-add m) (go m)
    where
      go : (k : ℕ) → offspring Cpu fresh act w k ids ≡ []
      go zero = refl
      go (suc k) = rw (made_high (omega arith) u l) (offspring_none w k)
  offspring_stop w (suc n) m lo ids h u l = rw (suc-add n m) (ap (λ (xs : List ℕ). made_from Cpu fresh act ids w.lineage ++ xs) (offspring_stop w n m (suc lo) (made_from Cpu fresh act ids w.lineage) (omega arith) u (made_low u l)))

  pub e_all_offspring : {d : Bool} {t : Ties} {v w : World Cpu} → Tied Cpu fresh act d t v w → {j i : ℕ} → t.born j i →
      Each t.born (offspring Cpu fresh act v v.births (j ∷ [])) (offspring Cpu fresh act w w.births (i ∷ []))
  e_all_offspring {d} {t} {v} {w} r {j} {i} h =
      rw (
        ← (offspring_stop v v.births w.births 0 (j ∷ []) (omega arith) r.up_v (low_zero _)),
        ← (offspring_stop w w.births v.births 0 (i ∷ []) (omega arith) r.up_w (low_zero _)),
        add_comm w.births v.births,
      ) (e_offspring r (v.births + w.births) (cons h nil))

  o_from : {t : Ties} {x y : Object Cpu} → ObjT Cpu false t x y → Ref t.objs (from_of Cpu fresh act x) (from_of Cpu fresh act y)
  unfolding from_of From
  o_from gone_t = none
  o_from (pool_t f) = f
  o_from (table_t f ss) = f
  o_from (port_t f ws) = f
  o_from (page_t f) = f
  o_from (thread_t f s a ps) = f
  o_from line_t = none

  a_cut_in : {t : Ties} {v w : World Cpu} → Tied Cpu fresh act false t v w → (os qs : List ℕ) → Agree t.objs os qs → Agree t.objs (cut_in Cpu fresh act os 0 v.objects) (cut_in Cpu fresh act qs 0 w.objects)
  unfolding test object
  a_cut_in {t} {v} {w} r os qs ag u k h =
      at_cut Cpu fresh act os 0 u u v.objects (omega arith) ∙ ref_in os qs ag (o_from (r.same h)) ∙ sym (at_cut Cpu fresh act qs 0 k k w.objects (omega arith))

  pub a_cuttings : {t : Ties} {v w : World Cpu} → Tied Cpu fresh act false t v w → (n : ℕ) (os qs : List ℕ) → Agree t.objs os qs → Agree t.objs (cuttings Cpu fresh act v n os) (cuttings Cpu fresh act w n qs)
  unfolding cuttings among
  a_cuttings r zero os qs ag u k h = refl
  a_cuttings {t} {v} {w} r (suc n) os qs ag u k h =
      let e = a_cut_in r os qs ag u k h in
      let g = a_cuttings r n (cut_in Cpu fresh act os 0 v.objects) (cut_in Cpu fresh act qs 0 w.objects) (a_cut_in r os qs ag) u k h in
      rw (among-++ u (cut_in Cpu fresh act os 0 v.objects) (cuttings Cpu fresh act v n (cut_in Cpu fresh act os 0 v.objects)), among-++ k (cut_in Cpu fresh act qs 0 w.objects) (cuttings Cpu fresh act w n (cut_in Cpu fresh act qs 0 w.objects)), e, g)

  cut_none : (i : ℕ) (xs : List (Object Cpu)) → cut_in Cpu fresh act [] i xs ≡ []
  unfolding cut_in among
  cut_none i [] = refl
  cut_none i (x ∷ xs) = rw (and_false (not (eqb (from_of Cpu fresh act x) 0))) (cut_none (suc i) xs)

  pub cuttings_none : (w : World Cpu) (n : ℕ) → cuttings Cpu fresh act w n [] ≡ []
  unfolding cuttings
  cuttings_none w zero = refl
  cuttings_none w (suc n) = rw (cut_none 0 w.objects) (cuttings_none w n)
