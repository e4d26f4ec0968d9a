-- Each way in which a call changes the world is a step: an object in place of another, a slot filled or emptied, a capability copied, an object cut, a sweep.
use mathlib.Core.Path.{◌≡◌, refl, sym, ap, subst, ◌∙◌}
use mathlib.Core.Bool.{Bool, true, false, ◌&&◌, ◌||◌, not}
use mathlib.Core.List.{List, [], ◌∷◌}
use mathlib.Core.Logic.{◌⊎◌, inl, inr}
use Prim.Native.Nat.{ℕ, zero, suc, ◌-◌, zero-le}
use native.Mathlib.Omega.{arith}
use lib.Dec.{eqb, eqb-suc-zero}
use borrow.Author.Tests.{eq-eqb}
use lib.ListN.{length, get_or, set, length-set}
use Rattle.rights.specs.World.{Rights, meet, Slot, empty, cap, Act, State, Object, gone, pool, table, port, page, thread, line, World, slot_object}
use Rattle.rights.specs.World.{slot_rights, slot_birth, slot_mother, is_empty, copied, among, object, with_object, slots_of, from_of, table_of, slot}
use Rattle.rights.specs.World.{with_slots, with_slot, cuttings, cleared, refilled, set_state, handed}
use Rattle.rights.specs.Promise.{row_of}
use Rattle.laws.proofs.Tests.{yes_no, no_yes, both_ways, pick_both, pick_know, or_first, or_second, and_left, less_one, set_by}
use Rattle.laws.proofs.CutFrom.{fr, dual, sat}
use Rattle.laws.proofs.Steps.{NoWider, In, Turn, kept, ran, drawn, slotted, Change, Closed, AllCut, AllGone, small, Steps, none, after, one}
use Rattle.laws.proofs.Steps.{waits_at, view, waiting_of, SameFace, AllSeen, SameFaces}
use Rattle.laws.proofs.Sweeping.{AfterSweep, lost, untouched, slots_go, waits_go, goes_calm, goes_waiting, goes_woken, swept_at}

-- a slot of a list with x in a place
pub at_slot : (ss : List Slot) (d i : ℕ) (x y : Slot) → get_or (set ss d x) i empty ≡ y → (get_or ss i empty ≡ y) ⊎ (x ≡ y)
at_slot [] d i x y e = inl e
at_slot (s ∷ ss) zero zero x y e = inr e
at_slot (s ∷ ss) zero (suc i) x y e = inl e
at_slot (s ∷ ss) (suc d) zero x y e = inl e
at_slot (s ∷ ss) (suc d) (suc i) x y e = at_slot ss d i x y e

module _ (Cpu : Type 0) (fresh : ℕ → Cpu) (act : Cpu → (ℕ → ℕ) → Act Cpu) where
  abbrev obj : World Cpu → ℕ → Object Cpu
  obj = object Cpu fresh act

  pub alike : (x : Object Cpu) → SameFace Cpu fresh act x x
  alike x = record { rows = refl; ports = refl; goes_on = refl }

  alike_on : {x y z : Object Cpu} → SameFace Cpu fresh act x y → SameFace Cpu fresh act y z → SameFace Cpu fresh act x z
  alike_on p q = record { rows = p.rows ∙ q.rows; ports = p.ports ∙ q.ports; goes_on = p.goes_on ∙ q.goes_on }

  -- an object in place of another
  pub small_set : (w : World Cpu) (o : ℕ) (x y : Object Cpu) → obj w o ≡ x → Turn Cpu fresh act w empty o x y → Change Cpu fresh act w (with_object Cpu fresh act w o y)
  unfolding with_object object is_empty
  small_set w o x y e t =
      record {
        new = empty;
        turns = λ u. set_by (Turn Cpu fresh act w empty u (get_or w.objects u gone)) w.objects o u y gone
            (λ q. subst (λ (i : ℕ). Turn Cpu fresh act w empty i (get_or w.objects i gone) y) q (subst (λ (k : Object Cpu). Turn Cpu fresh act w empty o k y) (sym e) t)) kept;
        birth = λ n. yes_no n;
        more = omega arith;
        grows = simp length-set (omega arith);
        lines = inl refl;
      }

  pub alike_set : (w : World Cpu) (o : ℕ) (x y : Object Cpu) → obj w o ≡ x → SameFace Cpu fresh act y x → SameFaces Cpu fresh act w (with_object Cpu fresh act w o y)
  unfolding with_object object
  alike_set w o x y e a u =
      set_by (λ (k : Object Cpu). SameFace Cpu fresh act k (get_or w.objects u gone)) w.objects o u y gone
      (λ q. subst (λ (i : ℕ). SameFace Cpu fresh act y (get_or w.objects i gone)) q (subst (λ (k : Object Cpu). SameFace Cpu fresh act y k) (sym e) a)) (alike _)

  -- a thread in another state
  turn_state : (w : World Cpu) (u : ℕ) (x : Object Cpu) (s : State Cpu) (c : Cpu) → Turn Cpu fresh act w empty u x (set_state Cpu fresh act x s c)
  unfolding set_state
  turn_state w u gone s c = kept
  turn_state w u (pool f n k) s c = kept
  turn_state w u (table f ss) s c = kept
  turn_state w u (port f ws) s c = kept
  turn_state w u (page f bs) s c = kept
  turn_state w u (thread f q d t ps rs) s c = ran
  turn_state w u (line xs ys) s c = kept

  pub small_state : (w : World Cpu) (p : ℕ) (s : State Cpu) (c : Cpu) → Change Cpu fresh act w (with_object Cpu fresh act w p (set_state Cpu fresh act (obj w p) s c))
  small_state w p s c = small_set w p (obj w p) _ refl (turn_state w p (obj w p) s c)

  -- a pool of which nothing is used
  turn_refilled : (w : World Cpu) (u : ℕ) (x : Object Cpu) → Turn Cpu fresh act w empty u x (refilled Cpu fresh act x)
  unfolding refilled
  turn_refilled w u gone = kept
  turn_refilled w u (pool f n k) = drawn zero-le
  turn_refilled w u (table f ss) = kept
  turn_refilled w u (port f ws) = kept
  turn_refilled w u (page f bs) = kept
  turn_refilled w u (thread f q d t ps rs) = kept
  turn_refilled w u (line xs ys) = kept

  alike_refilled : (x : Object Cpu) → SameFace Cpu fresh act (refilled Cpu fresh act x) x
  unfolding refilled row_of waits_at view waiting_of
  alike_refilled gone = alike _
  alike_refilled (pool f n k) = record { rows = refl; ports = refl; goes_on = refl }
  alike_refilled (table f ss) = alike _
  alike_refilled (port f ws) = alike _
  alike_refilled (page f bs) = alike _
  alike_refilled (thread f q d t ps rs) = alike _
  alike_refilled (line xs ys) = alike _

  view_refilled : (x : Object Cpu) → view Cpu fresh act (refilled Cpu fresh act x) ≡ view Cpu fresh act x
  unfolding refilled view
  view_refilled gone = refl
  view_refilled (pool f n k) = refl
  view_refilled (table f ss) = refl
  view_refilled (port f ws) = refl
  view_refilled (page f bs) = refl
  view_refilled (thread f q d t ps rs) = refl
  view_refilled (line xs ys) = refl

  view_slots : (x : Object Cpu) (ss : List Slot) → view Cpu fresh act (with_slots Cpu fresh act x ss) ≡ view Cpu fresh act x
  unfolding with_slots view
  view_slots gone ss = refl
  view_slots (pool f n k) ss = refl
  view_slots (table f qs) ss = refl
  view_slots (port f ws) ss = refl
  view_slots (page f bs) ss = refl
  view_slots (thread f q d t ps rs) ss = refl
  view_slots (line xs ys) ss = refl

  seen_set : (w : World Cpu) (o : ℕ) (y : Object Cpu) → view Cpu fresh act y ≡ view Cpu fresh act (obj w o) → AllSeen Cpu fresh act w (with_object Cpu fresh act w o y)
  unfolding with_object object
  seen_set w o y a u =
      set_by (λ (k : Object Cpu). view Cpu fresh act k ≡ view Cpu fresh act (get_or w.objects u gone)) w.objects o u y gone (λ q. a ∙ ap (λ (i : ℕ). view Cpu fresh act (get_or w.objects i gone)) q) refl

  pub seen_refilled : (w : World Cpu) (o : ℕ) → AllSeen Cpu fresh act w (with_object Cpu fresh act w o (refilled Cpu fresh act (obj w o)))
  seen_refilled w o = seen_set w o _ (view_refilled (obj w o))

  seen_put : (w : World Cpu) (p d : ℕ) (s : Slot) → AllSeen Cpu fresh act w (with_slot Cpu fresh act w p d s)
  unfolding with_slot
  seen_put w p d s = seen_set w _ _ (view_slots _ _)

  pub small_refilled : (w : World Cpu) (o : ℕ) → Change Cpu fresh act w (with_object Cpu fresh act w o (refilled Cpu fresh act (obj w o)))
  small_refilled w o = small_set w o (obj w o) _ refl (turn_refilled w o (obj w o))

  pub all_refilled : (w : World Cpu) (o : ℕ) → SameFaces Cpu fresh act w (with_object Cpu fresh act w o (refilled Cpu fresh act (obj w o)))
  all_refilled w o = alike_set w o (obj w o) _ refl (alike_refilled (obj w o))

  -- a slot of a table filled or emptied
  pub turn_slots : (w : World Cpu) (new : Slot) (u : ℕ) (x : Object Cpu) (d : ℕ) (s : Slot) → obj w u ≡ x → (is_empty s ≡ false → In Cpu fresh act w s ⊎ (s ≡ new)) →
      Turn Cpu fresh act w new u x (with_slots Cpu fresh act x (set (slots_of Cpu fresh act x) d s))
  unfolding with_slots slots_of In
  turn_slots w new u gone d s e h = kept
  turn_slots w new u (pool f n k) d s e h = kept
  turn_slots w new u (table f ss) d s e h = slotted (length-set ss d s) (λ i y g n. go i y n (at_slot ss d i s y g))
    where
      in_it : (i : ℕ) (y : Slot) → get_or ss i empty ≡ y → is_empty y ≡ false → In Cpu fresh act w y
      in_it i y g n = (u, i, ap (λ (k : Object Cpu). get_or (slots_of Cpu fresh act k) i empty) e ∙ g, n)

      go : (i : ℕ) (y : Slot) → is_empty y ≡ false → (get_or ss i empty ≡ y) ⊎ (s ≡ y) → In Cpu fresh act w y ⊎ (y ≡ new)
      go i y n (inl g) = inl (in_it i y g n)
      go i y n (inr g) = subst (λ (k : Slot). In Cpu fresh act w k ⊎ (k ≡ new)) g (h (ap is_empty g ∙ n))
  turn_slots w new u (port f ws) d s e h = kept
  turn_slots w new u (page f bs) d s e h = kept
  turn_slots w new u (thread f q c t ps rs) d s e h = kept
  turn_slots w new u (line xs ys) d s e h = kept

  pub alike_slots : (x : Object Cpu) (ss : List Slot) → SameFace Cpu fresh act (with_slots Cpu fresh act x ss) x
  unfolding with_slots row_of waits_at view waiting_of
  alike_slots gone ss = alike _
  alike_slots (pool f n k) ss = alike _
  alike_slots (table f qs) ss = record { rows = refl; ports = refl; goes_on = refl }
  alike_slots (port f ws) ss = alike _
  alike_slots (page f bs) ss = alike _
  alike_slots (thread f q d t ps rs) ss = alike _
  alike_slots (line xs ys) ss = alike _

  small_put : (w : World Cpu) (p d : ℕ) (s : Slot) → (is_empty s ≡ false → In Cpu fresh act w s) → Change Cpu fresh act w (with_slot Cpu fresh act w p d s)
  unfolding with_slot
  small_put w p d s h = small_set w _ _ _ refl (turn_slots w empty _ _ d s refl (λ n. inl (h n)))

  pub all_put : (w : World Cpu) (p d : ℕ) (s : Slot) → SameFaces Cpu fresh act w (with_slot Cpu fresh act w p d s)
  unfolding with_slot
  all_put w p d s = alike_set w _ _ _ refl (alike_slots _ _)

  pub small_empty : (w : World Cpu) (p d : ℕ) → Change Cpu fresh act w (with_slot Cpu fresh act w p d empty)
  unfolding is_empty
  small_empty w p d = small_put w p d empty (λ n. yes_no n)

  -- what a slot of a thread holds is somewhere
  pub slot_in : (w : World Cpu) (p s : ℕ) → is_empty (slot Cpu fresh act w p s) ≡ false → In Cpu fresh act w (slot Cpu fresh act w p s)
  unfolding In slot is_empty
  slot_in w p s n =
      pick_know (λ (y : Slot). is_empty y ≡ false → (o : ℕ) × (i : ℕ) × (get_or (slots_of Cpu fresh act (obj w o)) i empty ≡ y) × (is_empty y ≡ false)) (eqb (table_of Cpu fresh act (obj w p)) 0)
      (λ _ g. yes_no g) (λ _ g. (table_of Cpu fresh act (obj w p) - 1, s, refl, g)) n

  -- from one slot to another
  pub moved : (w : World Cpu) (p s q d : ℕ) → Steps Cpu fresh act w (with_slot Cpu fresh act (with_slot Cpu fresh act w q d (slot Cpu fresh act w p s)) p s empty)
  moved w p s q d = after (one Cpu fresh act (small (small_put w q d (slot Cpu fresh act w p s) (slot_in w p s)))) (small (small_empty _ p s))

  pub all_moved : (w : World Cpu) (p s q d : ℕ) → SameFaces Cpu fresh act w (with_slot Cpu fresh act (with_slot Cpu fresh act w q d (slot Cpu fresh act w p s)) p s empty)
  all_moved w p s q d u = alike_on (all_put (with_slot Cpu fresh act w q d (slot Cpu fresh act w p s)) p s empty u) (all_put w q d _ u)

  -- steps one after the other
  pub steps_on : {w v u : World Cpu} → Steps Cpu fresh act w v → Steps Cpu fresh act v u → Steps Cpu fresh act w u
  steps_on a none = a
  steps_on a (after b s) = after (steps_on a b) s

  pub hands_over : (w : World Cpu) (h : Bool) (p s q d : ℕ) →
      Steps Cpu fresh act w (handed Cpu fresh act w h p s q d) × SameFaces Cpu fresh act w (handed Cpu fresh act w h p s q d) × AllSeen Cpu fresh act w (handed Cpu fresh act w h p s q d)
  unfolding handed
  hands_over w h p s q d =
      pick_both (λ (v : World Cpu). Steps Cpu fresh act w v × SameFaces Cpu fresh act w v × AllSeen Cpu fresh act w v) _
      (moved w p s q d, all_moved w p s q d, λ u. seen_put (with_slot Cpu fresh act w q d (slot Cpu fresh act w p s)) p s empty u ∙ seen_put w q d _ u) (none, (λ u. alike _), λ u. refl)

  -- a copy
  pub copied_is : (x : Slot) (r : Rights) (b i : ℕ) → is_empty x ≡ false →
      (slot_mother (copied x r b i) ≡ slot_birth x) × (slot_birth (copied x r b i) ≡ i) × (slot_object (copied x r b i) ≡ slot_object x) × NoWider (slot_rights (copied x r b i)) (slot_rights x)
  unfolding copied is_empty slot_mother slot_birth slot_object slot_rights NoWider meet
  copied_is empty r b i n = yes_no n
  copied_is (cap o q c j m) r b i n = (refl, refl, refl, (and_left q.reads r.reads, and_left q.writes r.writes, and_left q.hands r.hands))

  pub copied_full : (x : Slot) (r : Rights) (b i : ℕ) → is_empty x ≡ false → is_empty (copied x r b i) ≡ false
  unfolding copied is_empty
  copied_full empty r b i n = yes_no n
  copied_full (cap o q c j m) r b i n = refl

  pub small_copy : (w : World Cpu) (p s d : ℕ) (r : Rights) (b : ℕ) → is_empty (slot Cpu fresh act w p s) ≡ false →
      Change Cpu fresh act w (with_slot Cpu fresh act (record { objects = w.objects; births = suc w.births; lineage = copied (slot Cpu fresh act w p s) r b (suc w.births) ∷ w.lineage }) p d
      (copied (slot Cpu fresh act w p s) r b (suc w.births)))
  unfolding with_slot with_object object
  small_copy w p s d r b n =
      let e = copied (slot Cpu fresh act w p s) r b (suc w.births) in
      let f = copied_is (slot Cpu fresh act w p s) r b (suc w.births) n in
      let t = table_of Cpu fresh act (get_or w.objects p gone) - 1 in
      record {
        new = e;
        turns = λ u. set_by (Turn Cpu fresh act w e u (get_or w.objects u gone)) w.objects t u _ gone
            (λ q. subst (λ (i : ℕ). Turn Cpu fresh act w e i (get_or w.objects i gone) (with_slots Cpu fresh act (get_or w.objects t gone) (set (slots_of Cpu fresh act (get_or w.objects t gone)) d e))) q
            (turn_slots w e t (get_or w.objects t gone) d e refl (λ _. inr refl))) kept;
        birth = λ _. record { mother = slot Cpu fresh act w p s; here = slot_in w p s n; from_it = f.0; now = f.1; counted = omega arith; leads = inl (f.2, f.3) };
        more = omega arith;
        grows = simp length-set (omega arith);
        lines = inr (refl, copied_full (slot Cpu fresh act w p s) r b (suc w.births) n);
      }

  pub all_copy : (w : World Cpu) (p d : ℕ) (s e : Slot) → SameFaces Cpu fresh act w (with_slot Cpu fresh act (record { objects = w.objects; births = suc w.births; lineage = e ∷ w.lineage }) p d s)
  unfolding object
  all_copy w p d s e = all_put (record { objects = w.objects; births = suc w.births; lineage = e ∷ w.lineage }) p d s

  -- a sweep: of nothing, or of all that was cut from a pool
  pub closed_none : (w : World Cpu) → Closed Cpu fresh act w []
  unfolding Closed among
  closed_none w u t e h = no_yes h

  -- what was cut from one of them, or from the pool itself, is among a pool's cuttings
  from_cutting : (w : World Cpu) (o u t : ℕ) → from_of Cpu fresh act (obj w u) ≡ suc t → (among t (o ∷ []) || among t (cuttings Cpu fresh act w (length w.objects) (o ∷ []))) ≡ true → among u (cuttings Cpu fresh act w (length w.objects) (o ∷ [])) ≡ true
  unfolding object fr
  from_cutting w o u t e h = sym (sat Cpu fresh act w (o ∷ []) (suc (length w.objects)) u (omega arith)) ∙ dual Cpu fresh act w (length w.objects) (o ∷ []) u ∙ yes (from_of Cpu fresh act (get_or w.objects u gone)) e
    where
      yes : (f : ℕ) → f ≡ suc t → (not (eqb f 0) && (among (f - 1) (o ∷ []) || among (f - 1) (cuttings Cpu fresh act w (length w.objects) (o ∷ [])))) ≡ true
      yes f q = rw (q, eqb-suc-zero t, less_one t) h

  pub closed_cuttings : (w : World Cpu) (o : ℕ) → Closed Cpu fresh act w (cuttings Cpu fresh act w (length w.objects) (o ∷ []))
  unfolding Closed
  closed_cuttings w o u t e h = from_cutting w o u t e (or_second _ _ h)

  pub cut_among : (w : World Cpu) (o u : ℕ) → from_of Cpu fresh act (obj w u) ≡ suc o → among u (cuttings Cpu fresh act w (length w.objects) (o ∷ [])) ≡ true
  unfolding among
  cut_among w o u e = from_cutting w o u o e (or_first _ _ (or_first _ _ (eq-eqb o o refl)))

  pub cut_none : (w : World Cpu) → AllCut Cpu fresh act w []
  unfolding AllCut among
  cut_none w u h e = no_yes h

  pub cut_cuttings : (w : World Cpu) (o : ℕ) → AllCut Cpu fresh act w (cuttings Cpu fresh act w (length w.objects) (o ∷ []))
  unfolding AllCut object fr
  cut_cuttings w o u h e =
      no_yes (ap (λ (f : ℕ). not (eqb f 0) && (among (f - 1) (o ∷ []) || among (f - 1) (cuttings Cpu fresh act w (length w.objects) (o ∷ [])))) (sym e) ∙
      sym (dual Cpu fresh act w (length w.objects) (o ∷ []) u) ∙ sat Cpu fresh act w (o ∷ []) (suc (length w.objects)) u (omega arith) ∙ h)

  -- what a sweep takes is gone, also once the pool is refilled
  swept_gone : {ids os : List ℕ} {u : ℕ} {x y : Object Cpu} → AfterSweep Cpu fresh act ids os u x y → among u os ≡ true → y ≡ gone
  swept_gone (lost h) l = refl
  swept_gone (untouched h a b c) l = both_ways l h
  swept_gone (slots_go ss h) l = both_ways l h
  swept_gone (waits_go ws h) l = both_ways l h
  swept_gone (goes_calm t ps h n) l = both_ways l h
  swept_gone (goes_waiting t ps h n) l = both_ways l h
  swept_gone (goes_woken o then t ps h n) l = both_ways l h

  pub gone_swept : (w : World Cpu) (ids os : List ℕ) → AllGone Cpu fresh act (cleared Cpu fresh act w ids os) os
  unfolding AllGone
  gone_swept w ids os u h = swept_gone (swept_at Cpu fresh act w ids os u) h

  pub gone_refilled : (w : World Cpu) (o : ℕ) (os : List ℕ) → AllGone Cpu fresh act w os → AllGone Cpu fresh act (with_object Cpu fresh act w o (refilled Cpu fresh act (obj w o))) os
  unfolding AllGone with_object object refilled
  gone_refilled w o os g u h = set_by (λ (y : Object Cpu). y ≡ gone) w.objects o u _ gone (λ e. ap (refilled Cpu fresh act) (ap (λ (i : ℕ). get_or w.objects i gone) e ∙ g u h)) (g u h)
