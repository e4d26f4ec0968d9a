-- A revoke, whole: when it is refused, and what it leaves of every slot and every object.
use mathlib.Core.Path.{◌≡◌, refl, sym, ap, subst, ◌∙◌}
use mathlib.Core.Bool.{Bool, true, false, ◌&&◌, not}
use mathlib.Core.List.{List, [], ◌∷◌}
use mathlib.Core.Logic.{◌⊎◌, inl, inr}
use Prim.Native.Nat.{ℕ, zero, suc, ◌-◌, ◌<◌}
use native.Mathlib.Omega.{arith}
use lib.Dec.{eqb-suc-zero}
use lib.ListN.{length, get_or}
use Rattle.rights.specs.World.{pick, Rights, Slot, empty, cap, Kind, a_pool, a_table, a_port, a_page, revoke, Act, Wait, Object, gone, pool, table, port, page, thread, line, Sizes, World, Event}
use Rattle.rights.specs.World.{slot_object, slot_rights, slot_birth, is_empty, among, object, with_object, slots_of, from_of, from_page, slot, offspring, without_threads, waits_thread, unmapped, cuttings, cleared, refilled, made, Went, on, refuse, is_pool, revoking, does, run}
use Rattle.rights.specs.Promise.{RecordIsExact, GoesWith, cut_from, cut_on, Taken, was_made, leads_to_gone, is_in_gone}
use Rattle.rights.specs.Effects.{RevokeExactlyIn, Thinned, nobody, stays_in, is_left_out, led_to, Full, Writes, When, NoneBorn, Leaves, answered, UnlessGone, the_same, no_longer, as_before, told_no, Remains, is_gone, as_it_was, fewer_slots, fewer_wait, less_held, RevokeExactly, EmptyStays, CallsDo, CallsDoIn}
use Rattle.laws.proofs.Tests.{yes_no, no_yes, clash, both_ways, pick_know, less_one, inside}
use Rattle.laws.proofs.Steps.{In, Turn, kept, spoken, stored, mapped, bound, ran, rowed, drawn, slotted, cut_new, AllGone}
use Rattle.laws.proofs.Sweeping.{unbound, AfterSweep, lost, untouched, slots_go, waits_go, goes_calm, goes_waiting, goes_woken, swept_at}
use Rattle.laws.proofs.Moves.{gone_swept, gone_refilled, small_refilled}
use Rattle.laws.proofs.Pass.{run_keeps}
use Rattle.laws.proofs.Caps.{on_same, Good, good_first, good_run, good_small, good_sweep, after_revoke, Without}
use Rattle.laws.proofs.Makings.{record_is_exact}
use Rattle.laws.proofs.Rows.{put_here, put_else}
use Rattle.laws.proofs.Slots.{Less, less_same, less_on, same_set, less_cleared}
use Rattle.laws.proofs.Taking.{slots_refilled, among_goes, ids, taken, leaves}
use Rattle.laws.proofs.Shapes.{emptied_long}
use Rattle.laws.proofs.Doings.{calls_do}

module _ (Cpu : Type 0) (fresh : ℕ → Cpu) (act : Cpu → (ℕ → ℕ) → Act Cpu) where
  abbrev obj : World Cpu → ℕ → Object Cpu
  obj = object Cpu fresh act

  abbrev at : World Cpu → ℕ → ℕ → Slot
  at w o i = get_or (slots_of Cpu fresh act (obj w o)) i empty

  -- what was cut came after its pool
  record Later (w : World Cpu) : Type 0 where
    later : (t u : ℕ) → from_of Cpu fresh act (obj w t) ≡ suc u → u < t

  page_from : (x : Object Cpu) (u : ℕ) → from_page Cpu fresh act x ≡ suc u → from_of Cpu fresh act x ≡ suc u
  unfolding from_page from_of
  page_from gone u e = e
  page_from (pool f n k) u e = absurd (omega arith)
  page_from (table f ss) u e = absurd (omega arith)
  page_from (port f ws) u e = absurd (omega arith)
  page_from (page f bs) u e = e
  page_from (thread f s c t ps rs) u e = absurd (omega arith)
  page_from (line xs ys) u e = e

  made_from_it : (z : Sizes) (f : ℕ) (k : Kind) → from_of Cpu fresh act (made Cpu fresh act z f k) ≡ f
  unfolding from_of made
  made_from_it z f (a_pool n) = refl
  made_from_it z f (a_table n) = refl
  made_from_it z f a_port = refl
  made_from_it z f a_page = refl

  pool_there : (w : World Cpu) (o : ℕ) → is_pool Cpu fresh act (obj w o) ≡ true → o < length w.objects
  unfolding object is_pool
  pool_there w o e = inside w.objects o gone (λ g. no_yes (sym (ap (is_pool Cpu fresh act) g) ∙ e))

  turn_from : {w : World Cpu} {new : Slot} {t : ℕ} {x y : Object Cpu} → Turn Cpu fresh act w new t x y → (u : ℕ) → from_of Cpu fresh act y ≡ suc u → (from_of Cpu fresh act x ≡ suc u) ⊎ (u < t)
  unfolding from_of
  turn_from kept u e = inl e
  turn_from spoken u e = inl e
  turn_from (stored {x} p k f g) u e = inl (page_from x u e)
  turn_from (mapped g) u e = inl e
  turn_from (bound g) u e = inl e
  turn_from ran u e = inl e
  turn_from rowed u e = inl e
  turn_from (drawn g) u e = inl e
  turn_from (slotted l g) u e = inl e
  turn_from {w} (cut_new o z k l g) u e = let h = pool_there w o g in let i = made_from_it z (suc o) k in inr (omega arith)

  swept_from : {ids os : List ℕ} {t : ℕ} {x y : Object Cpu} → AfterSweep Cpu fresh act ids os t x y → (u : ℕ) → from_of Cpu fresh act y ≡ suc u → from_of Cpu fresh act x ≡ suc u
  unfolding from_of
  swept_from (lost h) u e = absurd (omega arith)
  swept_from (untouched h a b c) u e = e
  swept_from (slots_go ss h) u e = e
  swept_from (waits_go ws h) u e = e
  swept_from (goes_calm t ps h g) u e = e
  swept_from (goes_waiting t ps h g) u e = e
  swept_from (goes_woken o then t ps h g) u e = e

  later_run : (z : Sizes) (v : World Cpu) (es : List Event) → ((t : ℕ) → from_of Cpu fresh act (obj v t) ≡ 0) → Later (run Cpu fresh act z v es)
  later_run z v es h =
      run_keeps Cpu fresh act Later (λ w x c l. record { later = λ t u e. go l t u (turn_from (c.turns t) u e) }) (λ w ids os c l. record { later = λ t u e. l.later t u (swept_from (swept_at Cpu fresh act w ids os t) u e) }) z v es
      (record { later = λ t u e. let g = h t in absurd (omega arith) })
    where
      go : {w : World Cpu} → Later w → (t u : ℕ) → (from_of Cpu fresh act (obj w t) ≡ suc u) ⊎ (u < t) → u < t
      go l t u (inl e) = l.later t u e
      go l t u (inr e) = e

  goes_later : (w : World Cpu) → Later w → (u t : ℕ) → GoesWith Cpu fresh act w u t → u < t
  goes_later w l u t (cut_from e) = l.later t u e
  goes_later w l u t (cut_on {i} g e) = let a = goes_later w l u i g in let b = l.later t i e in omega arith

  -- WHAT A SWEEP LEAVES. A table and pages
  unbound_left : (v : World Cpu) (os : List ℕ) → AllGone Cpu fresh act v os → (a : ℕ) → UnlessGone Cpu fresh act v a (unbound Cpu fresh act os a)
  unfolding AllGone
  unbound_left v os g zero = the_same
  unbound_left v os g (suc a) = rw (eqb-suc-zero a, less_one a) (pick_know (UnlessGone Cpu fresh act v (suc a)) (among a os) (λ e. no_longer (g a e)) (λ _. the_same))

  unmapped_left : (v : World Cpu) (os : List ℕ) → AllGone Cpu fresh act v os → (ps : List ℕ) (k : ℕ) → UnlessGone Cpu fresh act v (get_or ps k 0) (get_or (unmapped Cpu fresh act os ps) k 0)
  unfolding unmapped
  unmapped_left v os g [] k = the_same
  unmapped_left v os g (a ∷ ps) zero = unbound_left v os g a
  unmapped_left v os g (a ∷ ps) (suc k) = unmapped_left v os g ps k

  -- a row
  thinned : (v : World Cpu) (os : List ℕ) → AllGone Cpu fresh act v os → (ws : List Wait) → Thinned Cpu fresh act v ws (without_threads Cpu fresh act os ws)
  unfolding without_threads AllGone
  thinned v os g [] = nobody
  thinned v os g (y ∷ ws) = pick_know (Thinned Cpu fresh act v (y ∷ ws)) (among (waits_thread Cpu fresh act y) os) (λ e. is_left_out (g (waits_thread Cpu fresh act y) e) (thinned v os g ws)) (λ _. stays_in (thinned v os g ws))

  remains : {ids os : List ℕ} {t : ℕ} {x y : Object Cpu} → AfterSweep Cpu fresh act ids os t x y → (v : World Cpu) → obj v t ≡ y → AllGone Cpu fresh act v os → Remains Cpu fresh act v t x
  unfolding AllGone
  remains (lost h) v e g = is_gone e
  remains (untouched h a b c) v e g = as_it_was e
  remains {ids} {os} (slots_go {f} ss h) v e g = fewer_slots f ss _ refl e (emptied_long Cpu fresh act ids os ss)
  remains {ids} {os} (waits_go {f} ws h) v e g = fewer_wait f ws _ refl e (thinned v os g ws)
  remains {ids} {os} (goes_calm {f} {s} {c} {rs} t ps h n) v e g = less_held f t _ s s c c ps _ rs refl e (unbound_left v os g t) (unmapped_left v os g ps) as_before
  remains {ids} {os} (goes_waiting {f} {o} {then} {c} {rs} t ps h n) v e g = less_held f t _ _ _ c c ps _ rs refl e (unbound_left v os g t) (unmapped_left v os g ps) as_before
  remains {ids} {os} (goes_woken {f} {c} {rs} o then t ps h n) v e g = less_held f t _ _ _ c _ ps _ rs refl e (unbound_left v os g t) (unmapped_left v os g ps) (told_no refl (g o n))

  -- THE CALL. What it leaves when it comes back with 0
  module _ (z : Sizes) (w : World Cpu) (p s u b j m : ℕ) (r : Rights) (at_s : slot Cpu fresh act w p s ≡ cap u r b j m) (x : World Cpu) (d : does Cpu fresh act z w p (revoke s) ≡ on x (0 ∷ [])) where
    all_ids : List ℕ
    all_ids = offspring Cpu fresh act w w.births (j ∷ [])

    all_cut : List ℕ
    all_cut = cuttings Cpu fresh act w (length w.objects) (u ∷ [])

    C : World Cpu
    C = cleared Cpu fresh act w all_ids all_cut

    -- a pool's: what was cut from it is gone, and nothing of it is used; else nothing is gone
    data Left : World Cpu → Type 0 where
      of_pool : is_pool Cpu fresh act (obj w u) ≡ true → Left (with_object Cpu fresh act C u (refilled Cpu fresh act (obj C u)))
      of_other : is_pool Cpu fresh act (obj w u) ≡ false → Left (cleared Cpu fresh act w all_ids [])

    left : Left x
    unfolding does revoking refuse slot_object slot_birth is_empty slot_rights C all_ids all_cut
    left = go (is_pool Cpu fresh act (obj w u)) (is_pool Cpu fresh act (obj w u) && not r.writes) refl (sym as_is ∙ d)
      where
        W : Bool → Bool → Went Cpu fresh act
        W c n = pick n (on w (4294967295 ∷ [])) (pick c (on (with_object Cpu fresh act C u (refilled Cpu fresh act (obj C u))) (0 ∷ [])) (on (cleared Cpu fresh act w all_ids []) (0 ∷ [])))

        as_is : does Cpu fresh act z w p (revoke s) ≡ W (is_pool Cpu fresh act (obj w u)) (is_pool Cpu fresh act (obj w u) && not r.writes)
        as_is = rw (at_s, less_one u) refl

        go : (c n : Bool) → is_pool Cpu fresh act (obj w u) ≡ c → W c n ≡ on x (0 ∷ []) → Left x
        go c true e h = let f : ◌≡◌ {A = ℕ} 4294967295 0 = cc in absurd (omega arith)
        go true false e h = subst Left (on_same Cpu fresh act _ x _ _ h) (of_pool e)
        go false false e h = subst Left (on_same Cpu fresh act _ x _ _ h) (of_other e)

    less : Less Cpu fresh act w x
    unfolding cleared C with_object
    less = go left
      where
        go : {y : World Cpu} → Left y → Less Cpu fresh act w y
        go (of_pool e) = less_on Cpu fresh act (less_cleared Cpu fresh act w all_ids all_cut) (less_same Cpu fresh act (same_set Cpu fresh act C u _ _ refl (slots_refilled Cpu fresh act _)))
        go (of_other e) = less_cleared Cpu fresh act w all_ids []

    good : Good Cpu fresh act w → Good Cpu fresh act x
    unfolding C cleared
    good g = go left
      where
        go : {y : World Cpu} → Left y → Good Cpu fresh act y
        go (of_pool e) = good_small Cpu fresh act (small_refilled Cpu fresh act C u) (good_sweep Cpu fresh act w all_ids all_cut g)
        go (of_other e) = good_sweep Cpu fresh act w all_ids [] g

    none_born : NoneBorn Cpu fresh act w x
    unfolding NoneBorn with_object cleared C
    none_born = go left
      where
        go : {y : World Cpu} → Left y → (y.births ≡ w.births) × (y.lineage ≡ w.lineage)
        go (of_pool e) = (refl, refl)
        go (of_other e) = (refl, refl)

    -- the pool itself is not among what was cut from it
    itself : Later w → among u all_cut ≡ true → ⊥
    unfolding all_cut
    itself l h = let a = goes_later w l u u (among_goes Cpu fresh act w u (length w.objects) u h) in omega arith

    pool_stays : {ids os : List ℕ} {t f n k : ℕ} {y q : Object Cpu} → AfterSweep Cpu fresh act ids os t y q → y ≡ pool f n k → (among t os ≡ true → ⊥) → q ≡ pool f n k
    pool_stays (lost h) e n = absurd (n h)
    pool_stays (untouched h a b c) e n = e
    pool_stays (slots_go ss h) e n = clash (cc)
    pool_stays (waits_go ws h) e n = clash (cc)
    pool_stays (goes_calm t ps h g) e n = clash (cc)
    pool_stays (goes_waiting t ps h g) e n = clash (cc)
    pool_stays (goes_woken o then t ps h g) e n = clash (cc)

    refills : Later w → (f n k : ℕ) → obj w u ≡ pool f n k → obj x u ≡ pool f n 0
    unfolding refilled is_pool C
    refills l f n k e = go left
      where
        there : obj C u ≡ pool f n k
        there = pool_stays (swept_at Cpu fresh act w all_ids all_cut u) e (itself l)

        go : {y : World Cpu} → Left y → obj y u ≡ pool f n 0
        go (of_pool h) = put_here Cpu fresh act C u _ (λ g. let a = there in clash (cc)) ∙ ap (refilled Cpu fresh act) there
        go (of_other h) = yes_no (sym (ap (is_pool Cpu fresh act) e) ∙ h)

    remains_of : (t : ℕ) → (t ≡ u → is_pool Cpu fresh act (obj w u) ≡ false) → Remains Cpu fresh act x t (obj w t)
    unfolding C
    remains_of t other = go left
      where
        go : {y : World Cpu} → Left y → Remains Cpu fresh act y t (obj w t)
        go (of_pool e) = remains (swept_at Cpu fresh act w all_ids all_cut t) _ (put_else Cpu fresh act C u t _ (λ h. both_ways e (other (sym h)))) (gone_refilled Cpu fresh act C u all_cut (gone_swept Cpu fresh act w all_ids all_cut))
        go (of_other e) = remains (swept_at Cpu fresh act w all_ids [] t) _ refl (gone_swept Cpu fresh act w all_ids [])

    -- a slot that has nothing has nothing
    stays_empty : (o i : ℕ) → at w o i ≡ empty → at x o i ≡ empty
    unfolding is_empty
    stays_empty o i e = go (at x o i) refl
      where
        go : (y : Slot) → at x o i ≡ y → y ≡ empty
        go empty h = refl
        go (cap t q c k n) h = yes_no (ap is_empty (sym e ∙ less.held o i (cap t q c k n) h refl))

    -- what is taken is taken
    gone_slot : (o i t c k n : ℕ) (q : Rights) → at w o i ≡ cap t q c k n → (at x o i ≡ cap t q c k n → ⊥) → at x o i ≡ empty
    unfolding is_empty
    gone_slot o i t c k n q e no_more = go (at x o i) refl
      where
        go : (y : Slot) → at x o i ≡ y → y ≡ empty
        go empty h = refl
        go (cap t' q' c' k' n') h = absurd (no_more (h ∙ (sym (less.held o i (cap t' q' c' k' n') h refl) ∙ e)))

  pub revoke_exactly : RevokeExactly Cpu fresh act
  unfolding RevokeExactly RevokeExactlyIn RecordIsExact CallsDo CallsDoIn When Leaves answered Full Writes is_empty slot_rights slot_object slots_of Without In slot_birth ids taken
  revoke_exactly z v es p s u b j m r one start none_cut at_s =
      record {
        refused = λ c e. (calls_do Cpu fresh act z w p (revoke s) one refl).1 (λ h. both_ways (sym (ap (λ (y : Slot). (slot_rights y).writes) at_s) ∙ h.1 (ap (λ (i : ℕ). is_pool Cpu fresh act (obj w i)) led ∙ c)) e);
        done = λ h. comes_back ((calls_do Cpu fresh act z w p (revoke s) one refl).0 (ap is_empty at_s, λ c. ap (λ (y : Slot). (slot_rights y).writes) at_s ∙ h (sym (ap (λ (i : ℕ). is_pool Cpu fresh act (obj w i)) led) ∙ c)));
        refills = λ x d. refills z w p s u b j m r at_s x d (later_run z v es none_cut);
        empties = λ x d o i t c k n q e. (
          (λ h. gone_slot z w p s u b j m r at_s x d o i t c k n q e (λ f. taken_away x d o i t c k n q f h)),
          (λ h. kept_if x o t k ((leaves Cpu fresh act z w u j p s b m r x at_s d).slots o i t c k n q e) (gone_among x d) h),
        );
        leaves_empty = λ x d. stays_empty z w p s u b j m r at_s x d;
        leaves = λ x d. remains_of z w p s u b j m r at_s x d;
        births = λ x d. none_born z w p s u b j m r at_s x d;
      }
    where
      w : World Cpu
      w = run Cpu fresh act z v es

      led : led_to Cpu fresh act w p s ≡ u
      led = ap (λ (y : Slot). slot_object y - 1) at_s ∙ less_one u

      comes_back : ((x : World Cpu) × (ws : List ℕ) × (does Cpu fresh act z w p (revoke s) ≡ on x (0 ∷ ws)) × Leaves Cpu fresh act z w p (revoke s) x ws) → (x : World Cpu) × (does Cpu fresh act z w p (revoke s) ≡ on x (0 ∷ []))
      comes_back (x, ws, d, l) = (x, d ∙ ap (λ (us : List ℕ). on x (0 ∷ us)) l.0)

      taken_away : (x : World Cpu) → does Cpu fresh act z w p (revoke s) ≡ on x (0 ∷ []) → (o i t c k n : ℕ) (q : Rights) → at x o i ≡ cap t q c k n → Taken Cpu fresh act z v es x j k t o → ⊥
      taken_away x d o i t c k n q f (was_made h) =
          (after_revoke Cpu fresh act z w x p s k (good_run Cpu fresh act z v es (good_first Cpu fresh act v start))
          (ap (λ (y : Slot). among k (offspring Cpu fresh act w w.births (slot_birth y ∷ []))) at_s ∙ (record_is_exact Cpu fresh act z v es j k one start).0 h) d).1 (cap t q c k n) (o, i, f, refl) refl
      taken_away x d o i t c k n q f (leads_to_gone e) =
          (good z w p s u b j m r at_s x d (good_run Cpu fresh act z v es (good_first Cpu fresh act v start))).alive (cap t q c k n) (o, i, f, refl) (ap (obj x) (less_one t) ∙ e)
      taken_away x d o i t c k n q f (is_in_gone e) = yes_no (ap is_empty (sym (ap (λ (y : Object Cpu). get_or (slots_of Cpu fresh act y) i empty) e) ∙ f))

      gone_among : (x : World Cpu) → does Cpu fresh act z w p (revoke s) ≡ on x (0 ∷ []) → (t : ℕ) → among t (taken Cpu fresh act z w u j (is_pool Cpu fresh act (obj w u))) ≡ true → obj x t ≡ gone
      gone_among x d = (leaves Cpu fresh act z w u j p s b m r x at_s d).all_go

      kept_if : {A : Type 0} (x : World Cpu) (o t k : ℕ) → A ⊎ ((among k (ids Cpu fresh act z w u j) ≡ true) ⊎ ((among t (taken Cpu fresh act z w u j (is_pool Cpu fresh act (obj w u))) ≡ true) ⊎ (among o (taken Cpu fresh act z w u j (is_pool Cpu fresh act (obj w u))) ≡ true))) →
          ((t : ℕ) → among t (taken Cpu fresh act z w u j (is_pool Cpu fresh act (obj w u))) ≡ true → obj x t ≡ gone) → (Taken Cpu fresh act z v es x j k t o → ⊥) → A
      kept_if x o t k (inl a) g h = a
      kept_if x o t k (inr (inl a)) g h = absurd (h (was_made ((record_is_exact Cpu fresh act z v es j k one start).1 a)))
      kept_if x o t k (inr (inr (inl a))) g h = absurd (h (leads_to_gone (g t a)))
      kept_if x o t k (inr (inr (inr a))) g h = absurd (h (is_in_gone (g o a)))

  pub empty_stays : EmptyStays Cpu fresh act
  unfolding EmptyStays does is_empty refuse
  empty_stays z w p s e = rw e refl
