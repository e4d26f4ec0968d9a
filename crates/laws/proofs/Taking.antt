-- A revoke takes what was made from what is revoked, and of a pool what was cut from it, and nothing else.
use mathlib.Core.Path.{◌≡◌, refl, sym, ap, subst, ◌∙◌}
use mathlib.Core.Bool.{Bool, true, false, ◌&&◌, ◌||◌, not}
use mathlib.Core.List.{List, [], ◌∷◌}
use mathlib.Core.Logic.{◌⊎◌, inl, inr}
use Prim.Native.Nat.{ℕ, zero, suc, ◌-◌}
use native.Mathlib.Omega.{arith}
use lib.Dec.{eqb}
use borrow.Author.Tests.{eqb-true}
use lib.ListN.{length, get_or}
use Rattle.rights.specs.World.{pick, Rights, Slot, empty, cap, revoke, Act, Object, gone, pool, table, port, page, thread, line, Sizes, World}
use Rattle.rights.specs.World.{slot_object, slot_rights, slot_birth, is_empty, among, object, with_object, slots_of, from_of, slot, offspring, emptied, cuttings, cleared, refilled, Went, on, refuse, is_pool, revoking, does, run}
use Rattle.rights.specs.Promise.{RecordIsExact, GoesWith, cut_from, cut_on, Taken, was_made, leads_to_gone, is_in_gone, RevokeTakes}
use Rattle.laws.proofs.Tests.{no_yes, clash, either_way, or_cases, and_right, less_one, set_by}
use Rattle.laws.proofs.CutFrom.{fr, dual}
use Rattle.laws.proofs.Steps.{to, Closed, AllGone}
use Rattle.laws.proofs.Sweeping.{AfterSweep, lost, untouched, slots_go, waits_go, goes_calm, goes_waiting, goes_woken, swept_at}
use Rattle.laws.proofs.Moves.{closed_cuttings, cut_among, gone_swept, gone_refilled}
use Rattle.laws.proofs.Caps.{lives_swept, on_same}
use Rattle.laws.proofs.Makings.{record_is_exact}

module _ (Cpu : Type 0) (fresh : ℕ → Cpu) (act : Cpu → (ℕ → ℕ) → Act Cpu) where
  abbrev obj : World Cpu → ℕ → Object Cpu
  obj = object Cpu fresh act

  abbrev at : World Cpu → ℕ → ℕ → Slot
  at w o i = get_or (slots_of Cpu fresh act (obj w o)) i empty

  -- what goes with a pool is among its cuttings, and the other way round
  goes_among : (w : World Cpu) (u t : ℕ) → GoesWith Cpu fresh act w u t → among t (cuttings Cpu fresh act w (length w.objects) (u ∷ [])) ≡ true
  unfolding Closed
  goes_among w u t (cut_from e) = cut_among Cpu fresh act w u t e
  goes_among w u t (cut_on {i} g e) = closed_cuttings Cpu fresh act w u t i e (goes_among w u i g)

  pub among_goes : (w : World Cpu) (u n t : ℕ) → among t (cuttings Cpu fresh act w n (u ∷ [])) ≡ true → GoesWith Cpu fresh act w u t
  unfolding cuttings among fr object
  among_goes w u zero t h = no_yes h
  among_goes w u (suc n) t h = go (from_of Cpu fresh act (get_or w.objects t gone)) refl (λ i. among_goes w u n i) (sym (dual Cpu fresh act w n (u ∷ []) t) ∙ h)
    where
      go : (f : ℕ) → from_of Cpu fresh act (get_or w.objects t gone) ≡ f → ((i : ℕ) → among i (cuttings Cpu fresh act w n (u ∷ [])) ≡ true → GoesWith Cpu fresh act w u i) →
          (not (eqb f 0) && ((eqb (f - 1) u || false) || among (f - 1) (cuttings Cpu fresh act w n (u ∷ [])))) ≡ true → GoesWith Cpu fresh act w u t
      go zero e rec q = no_yes q
      go (suc f) e rec q = by (or_cases _ _ (subst (λ (i : ℕ). ((eqb i u || false) || among i (cuttings Cpu fresh act w n (u ∷ []))) ≡ true) (less_one f) (and_right (not (eqb (suc f) 0)) _ q)))
        where
          it : (eqb f u || false) ≡ true → f ≡ u
          it h = one (or_cases (eqb f u) false h)
            where
              one : (eqb f u ≡ true) ⊎ (false ≡ true) → f ≡ u
              one (inl p) = eqb-true f u p
              one (inr p) = no_yes p

          by : ((eqb f u || false) ≡ true) ⊎ (among f (cuttings Cpu fresh act w n (u ∷ [])) ≡ true) → GoesWith Cpu fresh act w u t
          by (inl p) = cut_from (e ∙ ap suc (it p))
          by (inr p) = cut_on (rec f p) e

  -- a slot that was full before a sweep is so after it, unless it is one of the births or leads to one of the objects
  kept_slot : (ids os : List ℕ) (ss : List Slot) (i : ℕ) (y : Slot) → get_or ss i empty ≡ y →
      (get_or (emptied Cpu fresh act ids os ss) i empty ≡ y) ⊎ ((among (slot_birth y) ids ≡ true) ⊎ (among (to y) os ≡ true))
  unfolding emptied
  kept_slot ids os [] i y e = inl e
  kept_slot ids os (x ∷ ss) zero y e = subst (λ (s : Slot). (pick (among (slot_birth x) ids || (not (is_empty x) && among (slot_object x - 1) os)) empty x ≡ s) ⊎ ((among (slot_birth s) ids ≡ true) ⊎ (among (to s) os ≡ true))) e
      (go (among (slot_birth x) ids) (is_empty x) (among (slot_object x - 1) os) refl refl)
    where
      go : (a b c : Bool) → among (slot_birth x) ids ≡ a → among (slot_object x - 1) os ≡ c → (pick (a || (not b && c)) empty x ≡ x) ⊎ ((among (slot_birth x) ids ≡ true) ⊎ (among (slot_object x - 1) os ≡ true))
      go true b c h k = inr (inl h)
      go false true c h k = inl refl
      go false false true h k = inr (inr k)
      go false false false h k = inl refl
  kept_slot ids os (x ∷ ss) (suc i) y e = kept_slot ids os ss i y e

  -- a pool of which nothing is used: slots stay
  pub slots_refilled : (x : Object Cpu) → slots_of Cpu fresh act (refilled Cpu fresh act x) ≡ slots_of Cpu fresh act x
  unfolding slots_of refilled
  slots_refilled gone = refl
  slots_refilled (pool f n c) = refl
  slots_refilled (table f ss) = refl
  slots_refilled (port f ws) = refl
  slots_refilled (page f bs) = refl
  slots_refilled (thread f s c t ps rs) = refl
  slots_refilled (line xs ys) = refl

  module _ (z : Sizes) (w : World Cpu) (u j : ℕ) where
    unfoldable pub ids : List ℕ
    ids = offspring Cpu fresh act w w.births (j ∷ [])

    -- a slot after a sweep
    swept_slot : (os : List ℕ) (o i t c k n : ℕ) (q : Rights) → at w o i ≡ cap t q c k n →
        (at (cleared Cpu fresh act w ids os) o i ≡ cap t q c k n) ⊎ ((among k ids ≡ true) ⊎ ((among t os ≡ true) ⊎ (among o os ≡ true)))
    unfolding slots_of slot_birth slot_object
    swept_slot os o i t c k n q e = go (swept_at Cpu fresh act w ids os o) refl e
      where
        of_slot : {s : Slot} → (s ≡ cap t q c k n) ⊎ ((among (slot_birth (cap t q c k n)) ids ≡ true) ⊎ (among (to (cap t q c k n)) os ≡ true)) → (s ≡ cap t q c k n) ⊎ ((among k ids ≡ true) ⊎ ((among t os ≡ true) ⊎ (among o os ≡ true)))
        of_slot (inl h) = inl h
        of_slot (inr (inl h)) = inr (inl h)
        of_slot (inr (inr h)) = inr (inr (inl (subst (λ (l : ℕ). among l os ≡ true) (less_one t) h)))

        go : {x y : Object Cpu} → AfterSweep Cpu fresh act ids os o x y → obj w o ≡ x → get_or (slots_of Cpu fresh act x) i empty ≡ cap t q c k n →
            (get_or (slots_of Cpu fresh act y) i empty ≡ cap t q c k n) ⊎ ((among k ids ≡ true) ⊎ ((among t os ≡ true) ⊎ (among o os ≡ true)))
        go (lost h) l f = inr (inr (inr h))
        go (untouched h a b d) l f = inl f
        go (slots_go ss h) l f = of_slot (kept_slot ids os ss i (cap t q c k n) f)
        go (waits_go ws h) l f = clash (cc)
        go (goes_calm a ps h b) l f = clash (cc)
        go (goes_waiting a ps h b) l f = clash (cc)
        go (goes_woken a then b ps h d) l f = clash (cc)

    -- a pool of which nothing is used: nothing is gone by it
    refilled_gone : (x : Object Cpu) → refilled Cpu fresh act x ≡ gone → x ≡ gone
    unfolding refilled
    refilled_gone gone e = refl
    refilled_gone (pool f n c) e = clash (cc)
    refilled_gone (table f ss) e = clash (cc)
    refilled_gone (port f ws) e = clash (cc)
    refilled_gone (page f bs) e = clash (cc)
    refilled_gone (thread f s c t ps rs) e = clash (cc)
    refilled_gone (line xs ys) e = clash (cc)

    abbrev refill : World Cpu → World Cpu
    refill v = with_object Cpu fresh act v u (refilled Cpu fresh act (obj v u))

    slots_stay : (v : World Cpu) (o i : ℕ) → at (refill v) o i ≡ at v o i
    unfolding with_object object
    slots_stay v o i = set_by (λ (x : Object Cpu). get_or (slots_of Cpu fresh act x) i empty ≡ get_or (slots_of Cpu fresh act (get_or v.objects o gone)) i empty) v.objects u o _ gone
        (λ e. ap (λ (ss : List Slot). get_or ss i empty) (slots_refilled (get_or v.objects u gone) ∙ ap (λ (l : ℕ). slots_of Cpu fresh act (get_or v.objects l gone)) e)) refl

    gone_before : (v : World Cpu) (t : ℕ) → obj (refill v) t ≡ gone → obj v t ≡ gone
    unfolding with_object object
    gone_before v t = set_by (λ (x : Object Cpu). x ≡ gone → get_or v.objects t gone ≡ gone) v.objects u t _ gone
        (λ e g. ap (λ (l : ℕ). get_or v.objects l gone) (sym e) ∙ refilled_gone (get_or v.objects u gone) g) (λ g. g)

    -- what is said of the world that a revoke leaves, with os the objects that go
    pub record Leaves (os : List ℕ) (v : World Cpu) : Type 0 where
      pub all_go : (t : ℕ) → among t os ≡ true → obj v t ≡ gone
      pub no_more_go : (t : ℕ) → (obj w t ≡ gone → ⊥) → obj v t ≡ gone → among t os ≡ true
      pub slots : (o i t c k n : ℕ) (q : Rights) → at w o i ≡ cap t q c k n → (at v o i ≡ cap t q c k n) ⊎ ((among k ids ≡ true) ⊎ ((among t os ≡ true) ⊎ (among o os ≡ true)))

    leaves_swept : (os : List ℕ) → Leaves os (cleared Cpu fresh act w ids os)
    unfolding AllGone
    leaves_swept os =
        record {
          all_go = gone_swept Cpu fresh act w ids os;
          no_more_go = λ t h g. either_way (among t os) (λ e. e) (λ e. absurd (h (lives_swept Cpu fresh act w ids os t e g)));
          slots = swept_slot os;
        }

    leaves_refilled : (os : List ℕ) (v : World Cpu) → Leaves os v → Leaves os (refill v)
    unfolding AllGone
    leaves_refilled os v l =
        record {
          all_go = gone_refilled Cpu fresh act v u os l.all_go;
          no_more_go = λ t h g. l.no_more_go t h (gone_before v t g);
          slots = λ o i t c k n q e. subst (λ (y : Slot). (y ≡ cap t q c k n) ⊎ ((among k ids ≡ true) ⊎ ((among t os ≡ true) ⊎ (among o os ≡ true)))) (sym (slots_stay v o i)) (l.slots o i t c k n q e);
        }

    -- what goes: of a pool what was cut from it, of anything else nothing
    unfoldable pub taken : Bool → List ℕ
    taken c = pick c (cuttings Cpu fresh act w (length w.objects) (u ∷ [])) []

    pub leaves : (p s b m : ℕ) (r : Rights) (x : World Cpu) → slot Cpu fresh act w p s ≡ cap u r b j m → does Cpu fresh act z w p (revoke s) ≡ on x (0 ∷ []) → Leaves (taken (is_pool Cpu fresh act (obj w u))) x
    unfolding does revoking refuse taken slot_object slot_birth is_empty slot_rights ids
    leaves p s b m r x e d = go (is_pool Cpu fresh act (obj w u)) (is_pool Cpu fresh act (obj w u) && not r.writes) (sym as_is ∙ d)
      where
        W : Bool → Bool → Went Cpu fresh act
        W c n = pick n (on w (4294967295 ∷ [])) (pick c (on (refill (cleared Cpu fresh act w ids (cuttings Cpu fresh act w (length w.objects) (u ∷ [])))) (0 ∷ [])) (on (cleared Cpu fresh act w ids []) (0 ∷ [])))

        as_is : does Cpu fresh act z w p (revoke s) ≡ W (is_pool Cpu fresh act (obj w u)) (is_pool Cpu fresh act (obj w u) && not r.writes)
        as_is = rw (e, less_one u) refl

        go : (c n : Bool) → W c n ≡ on x (0 ∷ []) → Leaves (pick c (cuttings Cpu fresh act w (length w.objects) (u ∷ [])) []) x
        go c true h = let f : ◌≡◌ {A = ℕ} 4294967295 0 = cc in absurd (omega arith)
        go true false h = subst (Leaves (cuttings Cpu fresh act w (length w.objects) (u ∷ []))) (on_same Cpu fresh act _ x _ _ h) (leaves_refilled _ _ (leaves_swept _))
        go false false h = subst (Leaves []) (on_same Cpu fresh act _ x _ _ h) (leaves_swept [])

    -- in words of what was cut
    taken_goes : (t : ℕ) (c : Bool) → among t (taken c) ≡ true → (c ≡ true) × GoesWith Cpu fresh act w u t
    unfolding taken among
    taken_goes t true h = (refl, among_goes w u (length w.objects) t h)
    taken_goes t false h = no_yes h

    goes_taken : (t : ℕ) (c : Bool) → c ≡ true → GoesWith Cpu fresh act w u t → among t (taken c) ≡ true
    unfolding taken
    goes_taken t true e g = goes_among w u t g
    goes_taken t false e g = no_yes e

  pub revoke_takes : RevokeTakes Cpu fresh act
  unfolding RevokeTakes RecordIsExact ids
  revoke_takes z v x es p s u b j m r one start at_s d = (
    (λ t e g. l.all_go t (goes_taken z w u j t _ e g)),
    (λ t h g. taken_goes z w u j t _ (l.no_more_go t h g)),
    λ o i t c k n q e h. why o t k (l.slots o i t c k n q e) h,
  )
    where
      w : World Cpu
      w = run Cpu fresh act z v es

      l : Leaves z w u j (taken z w u j (is_pool Cpu fresh act (obj w u))) x
      l = leaves z w u j p s b m r x at_s d

      why : {A : Type 0} (o t k : ℕ) → A ⊎ ((among k (ids z w u j) ≡ true) ⊎ ((among t (taken z w u j (is_pool Cpu fresh act (obj w u))) ≡ true) ⊎ (among o (taken z w u j (is_pool Cpu fresh act (obj w u))) ≡ true))) → (A → ⊥) → Taken Cpu fresh act z v es x j k t o
      why o t k (inl a) h = absurd (h a)
      why o t k (inr (inl a)) h = was_made ((record_is_exact Cpu fresh act z v es j k one start).1 a)
      why o t k (inr (inr (inl a))) h = leads_to_gone (l.all_go t a)
      why o t k (inr (inr (inr a))) h = is_in_gone (l.all_go o a)
