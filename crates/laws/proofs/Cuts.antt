-- What a cut does: it is a step, and it is refused exactly if the pool is too small.
use mathlib.Core.Path.{◌≡◌, refl, sym, ap, subst, ◌∙◌}
use mathlib.Core.Bool.{Bool, true, false, ◌||◌, not}
use mathlib.Core.List.{List, [], ◌∷◌, ◌++◌}
use mathlib.Core.Logic.{inr}
use Prim.Native.Nat.{ℕ, zero, suc, ◌+◌, ◌*◌, ◌-◌, ◌≤◌, ◌<◌}
use native.Mathlib.Omega.{arith}
use native.Mathlib.Nat.{not-suc-le-zero, mul-le-mul}
use lib.Dec.{ltb, eqb}
use borrow.Author.Tests.{ltb-true, lt-ltb, le-ltb, eq-eqb, ne_eqb}
use lib.ListN.{length, get_or, set, length-set, get_or-eq_default, get_or-append}
use Rattle.rights.specs.World.{pick, no, Rights, Slot, empty, cap, Kind, a_pool, a_table, a_port, a_page, cut, Act, Object, gone, pool, table, port}
use Rattle.rights.specs.World.{page, thread, line, Sizes, World, cost, step_of, up_to, slot_object, slot_rights, slot_birth, slot_mother, is_empty}
use Rattle.rights.specs.World.{too_many, object, with_object, slots_of, table_of, slot, has_slot, with_slots, with_slot, Went, on, refuse, made}
use Rattle.rights.specs.World.{all_rights, cutting, is_pool, does}
use Rattle.rights.specs.Promise.{Sized, filled, CutExactlyIn, CutExactly, row_of}
use Rattle.laws.proofs.Tests.{yes_no, below_or_not, and_left, and_right, less_one, set_here, set_apart, set_by, at_end, longer, push_by}
use Rattle.laws.proofs.Steps.{In, Turn, kept, drawn, cut_new, Change, one, waits_at, view, waiting_of, SameFace, SameFaces}
use Rattle.laws.proofs.Moves.{alike, turn_slots, alike_slots}

module _ (Cpu : Type 0) (fresh : ℕ → Cpu) (act : Cpu → (ℕ → ℕ) → Act Cpu) where
  abbrev obj : World Cpu → ℕ → Object Cpu
  obj = object Cpu fresh act

  alike_made : (z : Sizes) (f : ℕ) (k : Kind) → SameFace Cpu fresh act (made Cpu fresh act z f k) gone
  unfolding made row_of waits_at view waiting_of
  alike_made z f (a_pool n) = record { rows = refl; ports = refl; goes_on = refl }
  alike_made z f (a_table n) = record { rows = refl; ports = refl; goes_on = refl }
  alike_made z f a_port = record { rows = refl; ports = refl; goes_on = refl }
  alike_made z f a_page = record { rows = refl; ports = refl; goes_on = refl }

  made_there : (z : Sizes) (f : ℕ) (k : Kind) → made Cpu fresh act z f k ≡ gone → ⊥
  unfolding made
  made_there z f (a_pool n) e = let q : ◌≡◌ {A = ℕ} 0 1 = cc in omega arith
  made_there z f (a_table n) e = let q : ◌≡◌ {A = ℕ} 0 1 = cc in omega arith
  made_there z f a_port e = let q : ◌≡◌ {A = ℕ} 0 1 = cc in omega arith
  made_there z f a_page e = let q : ◌≡◌ {A = ℕ} 0 1 = cc in omega arith

  -- an object that is a pool has no slots and no table
  no_slots : (x : Object Cpu) (f n u : ℕ) → x ≡ pool f n u → (slots_of Cpu fresh act x ≡ []) × (table_of Cpu fresh act x ≡ 0)
  unfolding slots_of table_of
  no_slots x f n u e = (ap (slots_of Cpu fresh act) e, ap (table_of Cpu fresh act) e)

  pub table_kept : (x : Object Cpu) (ss : List Slot) → table_of Cpu fresh act (with_slots Cpu fresh act x ss) ≡ table_of Cpu fresh act x
  unfolding table_of with_slots
  table_kept gone ss = refl
  table_kept (pool f n u) ss = refl
  table_kept (table f qs) ss = refl
  table_kept (port f ws) ss = refl
  table_kept (page f bs) ss = refl
  table_kept (thread f s c t ps rs) ss = refl
  table_kept (line xs ys) ss = refl

  pub filled_in : (x : Object Cpu) (d : ℕ) (e : Slot) → d < length (slots_of Cpu fresh act x) → get_or (slots_of Cpu fresh act (with_slots Cpu fresh act x (set (slots_of Cpu fresh act x) d e))) d empty ≡ e
  unfolding slots_of with_slots
  filled_in gone d e l = absurd (not-suc-le-zero l)
  filled_in (pool f n u) d e l = absurd (not-suc-le-zero l)
  filled_in (table f ss) d e l = set_here ss d e empty l
  filled_in (port f ws) d e l = absurd (not-suc-le-zero l)
  filled_in (page f bs) d e l = absurd (not-suc-le-zero l)
  filled_in (thread f s c t ps rs) d e l = absurd (not-suc-le-zero l)
  filled_in (line xs ys) d e l = absurd (not-suc-le-zero l)

  -- thread p cuts kind k from pool o, of which c bytes are used then, into slot d; x is what it was cut with
  module _ (z : Sizes) (w : World Cpu) (p o d : ℕ) (x : Slot) (k : Kind) (f n u c : ℕ) where
    xs : List (Object Cpu)
    xs = w.objects

    zs : List (Object Cpu)
    zs = set xs o (pool f n c)

    m : Object Cpu
    m = made Cpu fresh act z (suc o) k

    e : Slot
    e = cap (length xs) (all_rights Cpu fresh act) 0 (suc w.births) (slot_birth x)

    T : ℕ
    T = table_of Cpu fresh act (get_or xs p gone) - 1

    unfoldable pub after_cut : World Cpu
    after_cut =
        with_slot Cpu fresh act (record {
          objects = set w.objects o (pool f n c) ++ made Cpu fresh act z (suc o) k ∷ [];
          births = suc w.births;
          lineage = cap (length w.objects) (all_rights Cpu fresh act) 0 (suc w.births) (slot_birth x) ∷ w.lineage;
        })
        p d (cap (length w.objects) (all_rights Cpu fresh act) 0 (suc w.births) (slot_birth x))

    module _ (has : has_slot Cpu fresh act w p d ≡ true) (is : obj w o ≡ pool f n u) where
      has_table : table_of Cpu fresh act (get_or xs p gone) ≡ 0 → ⊥
      unfolding has_slot object xs
      has_table q = yes_no (sym (and_left _ _ has) ∙ ap not (eq-eqb _ 0 q))

      has_room : d < length (slots_of Cpu fresh act (get_or xs T gone))
      unfolding has_slot object xs T
      has_room = ltb-true d _ (and_right (not (eqb (table_of Cpu fresh act (object Cpu fresh act w p)) 0)) _ has)

      room_there : (t : ℕ) → slots_of Cpu fresh act (get_or xs t gone) ≡ [] → T ≡ t → ⊥
      room_there t g q = not-suc-le-zero (subst (λ (ss : List Slot). d < length ss) (ap (λ (i : ℕ). slots_of Cpu fresh act (get_or xs i gone)) q ∙ g) has_room)

      T-other : T ≡ o → ⊥
      unfolding object xs
      T-other q = room_there o (no_slots _ f n u is).0 q

      there : (t : ℕ) → (get_or xs t gone ≡ gone → ⊥) → t < length xs
      there t h = below_or_not t (length xs) (λ l. l) (λ l. absurd (h (get_or-eq_default xs gone l)))

      T-in : T < length xs
      unfolding slots_of
      T-in = there T (λ g. room_there T (ap (slots_of Cpu fresh act) g) refl)

      p_other : p ≡ o → ⊥
      unfolding object xs
      p_other q = has_table (ap (λ (i : ℕ). table_of Cpu fresh act (get_or xs i gone)) q ∙ (no_slots _ f n u is).1)

      p_in : p < length xs
      unfolding table_of
      p_in = there p (λ g. has_table (ap (table_of Cpu fresh act) g))

      len : length zs ≡ length xs
      unfolding zs xs
      len = length-set w.objects o (pool f n c)

      others : (t : ℕ) → t < length xs → (t ≡ o → ⊥) → get_or (zs ++ m ∷ []) t gone ≡ get_or xs t gone
      unfolding zs xs
      others t l h = get_or-append zs (m ∷ []) gone t (subst (λ (i : ℕ). t < i) (sym len) l) ∙ set_apart xs o t (pool f n c) gone (λ q. h (sym q))

      -- what is in each place before the slot is filled
      place {ℓ} : (P : ℕ → Object Cpu → Type ℓ) (t : ℕ) → P t (get_or xs t gone) → (t ≡ o → P t (pool f n c)) → (t ≡ length xs → P t m) → P t (get_or (zs ++ m ∷ []) t gone)
      unfolding zs
      place P t h q g = push_by (λ a b. P t a → P t b) zs t m gone (λ l _. g (l ∙ len)) (λ y i. i) (set_by (P t) xs o t (pool f n c) gone (λ l. q (sym l)) h)

      -- and after
      objects_are : after_cut.objects ≡ set (zs ++ m ∷ []) T (with_slots Cpu fresh act (get_or xs T gone) (set (slots_of Cpu fresh act (get_or xs T gone)) d e))
      unfolding after_cut with_slot with_object object zs m e xs T
      objects_are = simp (others p p_in p_other, others T T-in T-other)

      put_place {ℓ} : (P : ℕ → Object Cpu → Type ℓ) (t : ℕ) → P t (get_or xs t gone) → (t ≡ o → P t (pool f n c)) → (t ≡ length xs → P t m) →
          (t ≡ T → P t (with_slots Cpu fresh act (get_or xs T gone) (set (slots_of Cpu fresh act (get_or xs T gone)) d e))) → P t (obj after_cut t)
      unfolding object
      put_place P t h q g r = subst (λ (ys : List (Object Cpu)). P t (get_or ys t gone)) (sym objects_are) (set_by (P t) (zs ++ m ∷ []) T t _ gone (λ l. r (sym l)) (place P t h q g))

      at_new : obj after_cut (length xs) ≡ m
      unfolding object zs
      at_new =
          subst (λ (ys : List (Object Cpu)). get_or ys (length xs) gone ≡ m) (sym objects_are)
          (set_apart (zs ++ m ∷ []) T (length xs) _ gone (λ q. let l = T-in in omega arith) ∙ subst (λ (i : ℕ). get_or (zs ++ m ∷ []) i gone ≡ m) len (at_end zs m gone))

      pub at_pool : obj after_cut o ≡ pool f n c
      unfolding object zs xs
      at_pool =
          subst (λ (ys : List (Object Cpu)). get_or ys o gone ≡ pool f n c) (sym objects_are)
          (set_apart (zs ++ m ∷ []) T o _ gone T-other ∙ get_or-append zs (m ∷ []) gone o (subst (λ (i : ℕ). o < i) (sym len) o_in) ∙ set_here xs o (pool f n c) gone o_in)
        where
          o_in : o < length xs
          o_in = there o (λ g. let q : ◌≡◌ {A = ℕ} 0 1 = cc in omega arith)

      at_slot_d : slot Cpu fresh act after_cut p d ≡ e
      unfolding slot object zs xs T
      at_slot_d = subst (λ (ys : List (Object Cpu)). pick (eqb (table_of Cpu fresh act (get_or ys p gone)) 0) empty (get_or (slots_of Cpu fresh act (get_or ys (table_of Cpu fresh act (get_or ys p gone) - 1) gone)) d empty) ≡ e) (sym objects_are) found
        where
          X : Object Cpu
          X = with_slots Cpu fresh act (get_or xs T gone) (set (slots_of Cpu fresh act (get_or xs T gone)) d e)

          ys : List (Object Cpu)
          ys = set (zs ++ m ∷ []) T X

          p_table : table_of Cpu fresh act (get_or ys p gone) ≡ table_of Cpu fresh act (get_or xs p gone)
          p_table = set_by (λ (y : Object Cpu). table_of Cpu fresh act y ≡ table_of Cpu fresh act (get_or xs p gone)) (zs ++ m ∷ []) T p X gone
              (λ q. table_kept (get_or xs T gone) (set (slots_of Cpu fresh act (get_or xs T gone)) d e) ∙ ap (λ (i : ℕ). table_of Cpu fresh act (get_or xs i gone)) q) (ap (table_of Cpu fresh act) (others p p_in p_other))

          T-slots : get_or (slots_of Cpu fresh act (get_or ys T gone)) d empty ≡ e
          T-slots = ap (λ (y : Object Cpu). get_or (slots_of Cpu fresh act y) d empty) (set_here (zs ++ m ∷ []) T X gone (subst (λ (i : ℕ). T < i) (sym (longer zs m ∙ ap suc len)) (let l = T-in in omega arith))) ∙ filled_in (get_or xs T gone) d e has_room

          found : pick (eqb (table_of Cpu fresh act (get_or ys p gone)) 0) empty (get_or (slots_of Cpu fresh act (get_or ys (table_of Cpu fresh act (get_or ys p gone) - 1) gone)) d empty) ≡ e
          found = rw (p_table, ne_eqb (table_of Cpu fresh act (get_or xs p gone)) 0 has_table) T-slots

      -- what is in each place after the cut: what was there, the pool with more used, the new object, or a table with another slot
      pub cut_places {ℓ} : (P : ℕ → Object Cpu → Type ℓ) (t : ℕ) → P t (obj w t) → (t ≡ o → P t (pool f n c)) → (t ≡ length w.objects → P t (made Cpu fresh act z (suc o) k)) →
          ((y : Slot) → table_of Cpu fresh act (obj w p) ≡ suc t → P t (with_slots Cpu fresh act (obj w t) (set (slots_of Cpu fresh act (obj w t)) d y))) → P t (obj after_cut t)
      unfolding object xs m T
      cut_places P t h q g r =
          put_place P t h q g (λ l. subst (λ (i : ℕ). P t (with_slots Cpu fresh act (get_or w.objects i gone) (set (slots_of Cpu fresh act (get_or w.objects i gone)) d e))) l
          (r e (its_table l)))
        where
          its_table : t ≡ table_of Cpu fresh act (get_or w.objects p gone) - 1 → table_of Cpu fresh act (get_or w.objects p gone) ≡ suc t
          its_table l = go (table_of Cpu fresh act (get_or w.objects p gone)) refl l
            where
              go : (a : ℕ) → table_of Cpu fresh act (get_or w.objects p gone) ≡ a → t ≡ a - 1 → a ≡ suc t
              go zero k m = absurd (has_table k)
              go (suc a) k m = omega arith

      -- the new capability is in its slot
      pub slot_after : slot Cpu fresh act after_cut p d ≡ cap (length w.objects) (all_rights Cpu fresh act) 0 (suc w.births) (slot_birth x)
      unfolding e xs
      slot_after = at_slot_d

      -- the new object is there
      pub new_after : obj after_cut (length w.objects) ≡ made Cpu fresh act z (suc o) k
      unfolding m xs
      new_after = at_new

      -- the table has the new capability
      pub table_after : (t : ℕ) → table_of Cpu fresh act (obj w p) ≡ suc t →
          obj after_cut t ≡ with_slots Cpu fresh act (obj w t) (set (slots_of Cpu fresh act (obj w t)) d (cap (length w.objects) (all_rights Cpu fresh act) 0 (suc w.births) (slot_birth x)))
      unfolding object zs xs T e
      table_after t q = subst (λ (i : ℕ). get_or after_cut.objects i gone ≡ X i) at_t (subst (λ (ys : List (Object Cpu)). get_or ys T gone ≡ X T) (sym objects_are)
          (set_here (zs ++ m ∷ []) T (X T) gone (subst (λ (i : ℕ). T < i) (sym (longer zs m ∙ ap suc len)) (let l = T-in in omega arith))))
        where
          at_t : T ≡ t
          at_t = ap (λ (i : ℕ). i - 1) q ∙ less_one t

          X : ℕ → Object Cpu
          X i = with_slots Cpu fresh act (get_or xs i gone) (set (slots_of Cpu fresh act (get_or xs i gone)) d e)

      pub small_cut : (c ≤ n) → In Cpu fresh act w x → slot_object x ≡ suc o → Change Cpu fresh act w after_cut
      unfolding object xs zs e m after_cut with_slot with_object slot_mother slot_birth slot_object is_pool is_empty
      small_cut le hx ox =
          record {
            new = e;
            turns = λ t. put_place (λ (i : ℕ) (y : Object Cpu). Turn Cpu fresh act w e i (get_or xs i gone) y) t kept
                (λ q. subst (λ (i : ℕ). Turn Cpu fresh act w e i (get_or xs i gone) (pool f n c)) (sym q) (subst (λ (y : Object Cpu). Turn Cpu fresh act w e o y (pool f n c)) (sym is) (drawn le)))
                (λ q. subst (λ (y : Object Cpu). Turn Cpu fresh act w e t y m) (sym (get_or-eq_default xs gone (omega arith))) (cut_new o z k (omega arith) (ap (is_pool Cpu fresh act) is)))
                (λ q. subst (λ (i : ℕ). Turn Cpu fresh act w e i (get_or xs i gone) (with_slots Cpu fresh act (get_or xs T gone) (set (slots_of Cpu fresh act (get_or xs T gone)) d e))) (sym q)
                (turn_slots Cpu fresh act w e T (get_or xs T gone) d e refl (λ _. inr refl)));
            birth = λ _. record {
              mother = x;
              here = hx;
              from_it = refl;
              now = refl;
              counted = omega arith;
              leads = inr ((λ g. made_there z (suc o) k (sym at_new ∙ subst (λ (i : ℕ). obj after_cut i ≡ gone) (less_one (length xs)) g)), let l = o_in in omega arith);
            };
            more = omega arith;
            grows = subst (λ (ys : List (Object Cpu)). length xs ≤ length ys) (sym objects_are) (simp (length-set, longer) (omega arith));
            lines = inr (refl, refl);
          }
        where
          o_in : o < length w.objects
          o_in = there o (λ g. let q : ◌≡◌ {A = ℕ} 0 1 = cc in omega arith)

      pub all_cut : SameFaces Cpu fresh act w after_cut
      unfolding object row_of waits_at view waiting_of xs m
      all_cut t =
          put_place (λ (i : ℕ) (y : Object Cpu). SameFace Cpu fresh act y (get_or xs i gone)) t (alike Cpu fresh act _)
          (λ q. subst (λ (y : Object Cpu). SameFace Cpu fresh act (pool f n c) y) (sym (ap (λ (i : ℕ). get_or xs i gone) q ∙ is)) (record { rows = refl; ports = refl; goes_on = refl }))
          (λ q. subst (λ (y : Object Cpu). SameFace Cpu fresh act m y) (sym (get_or-eq_default xs gone (omega arith))) (alike_made z (suc o) k))
          (λ q. subst (λ (i : ℕ). SameFace Cpu fresh act (with_slots Cpu fresh act (get_or xs T gone) (set (slots_of Cpu fresh act (get_or xs T gone)) d e)) (get_or xs i gone)) (sym q) (alike_slots Cpu fresh act _ _))

  -- a kind of a right size costs something, and is not too many
  pub costs : (z : Sizes) (k : Kind) → 1 ≤ z.bytes → Sized Cpu fresh act k → (eqb (cost z k) 0 || too_many k) ≡ false
  unfolding Sized cost too_many
  costs z (a_pool n) one h = rw (ne_eqb (n * z.bytes) 0 (positive n z.bytes h.0 one), le-ltb 4096 n h.1)
    where
      positive : (a b : ℕ) → 1 ≤ a → 1 ≤ b → a * b ≡ 0 → ⊥
      positive a b p q e = let r = mul-le-mul p q in omega arith
  costs z (a_table n) one h = let g = h.0 in rw (ne_eqb (n * 64) 0 (λ q. omega arith), le-ltb 4096 n h.1)
  costs z a_port one h = refl
  costs z a_page one h = rw (ne_eqb z.bytes 0 (λ q. omega arith))

  -- what a cut comes to
  cut_is : (z : Sizes) (w : World Cpu) (p s d o f n u b j m : ℕ) (r : Rights) (k : Kind) → 1 ≤ z.bytes → slot Cpu fresh act w p s ≡ cap o r b j m → r.writes ≡ true → obj w o ≡ pool f n u →
      has_slot Cpu fresh act w p d ≡ true → slot Cpu fresh act w p d ≡ empty → Sized Cpu fresh act k →
      does Cpu fresh act z w p (cut s k d) ≡
      pick (ltb n (filled Cpu fresh act z k u)) (on w (no ∷ [])) (on (after_cut z w p o d (cap o r b j m) k f n u (filled Cpu fresh act z k u)) (0 ∷ []))
  unfolding does cutting refuse filled after_cut is_empty slot_rights slot_object slot_birth
  cut_is z w p s d o f n u b j i r k one es er eo hd ed sk = rw (es, hd, ed, er, less_one o, eo, costs z k one sk) (ap (λ (q : Bool). pick q (on w (no ∷ [])) (on (after_cut z w p o d (cap o r b j i) k f n u (up_to (step_of z k) u + cost z k)) (0 ∷ []))) (or_no (ltb n (up_to (step_of z k) u + cost z k))))
    where
      or_no : (q : Bool) → (q || false) ≡ q
      or_no true = refl
      or_no false = refl

  pub cut_exactly : CutExactly Cpu fresh act
  unfolding CutExactly CutExactlyIn slot_birth xs m e
  cut_exactly z w p s d o f n u b j m r k one es er eo hd ed sk =
      record {
        refused = λ q. below_or_not n F (λ l. l) (λ l. absurd (clash (sym (rest l) ∙ q)));
        too_small = λ l. is ∙ ap (λ (c : Bool). pick c (on w (no ∷ [])) (on V (0 ∷ []))) (lt-ltb n F l);
        done = λ l. (V, rest l, at_pool z w p o d (cap o r b j m) k f n u F hd eo, at_new z w p o d (cap o r b j m) k f n u F hd eo, at_slot_d z w p o d (cap o r b j m) k f n u F hd eo);
      }
    where
      F : ℕ
      F = filled Cpu fresh act z k u

      V : World Cpu
      V = after_cut z w p o d (cap o r b j m) k f n u F

      is : does Cpu fresh act z w p (cut s k d) ≡ pick (ltb n F) (on w (no ∷ [])) (on V (0 ∷ []))
      is = cut_is z w p s d o f n u b j m r k one es er eo hd ed sk

      rest : F ≤ n → does Cpu fresh act z w p (cut s k d) ≡ on V (0 ∷ [])
      rest l = is ∙ ap (λ (c : Bool). pick c (on w (no ∷ [])) (on V (0 ∷ []))) (le-ltb n F l)

      clash : {v : World Cpu} → ◌≡◌ {A = Went Cpu fresh act} (on v (0 ∷ [])) (on w (no ∷ [])) → ⊥
      clash q = let g : ◌≡◌ {A = ℕ} 0 4294967295 = cc in omega arith
