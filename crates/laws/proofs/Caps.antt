-- Capabilities in every world that comes about: they lead to what is there, rights never grow, and what was revoked never comes back.
use mathlib.Core.Path.{◌≡◌, refl, sym, ap, subst, ◌∙◌}
use mathlib.Core.Bool.{Bool, true, false, ◌&&◌, ◌||◌, not}
use mathlib.Core.List.{List, [], ◌∷◌}
use mathlib.Core.Logic.{◌⊎◌, inl, inr}
use Prim.Native.Nat.{ℕ, zero, suc, ◌-◌, ◌≤◌, ◌<◌}
use native.Mathlib.Omega.{arith}
use lib.Dec.{eqb}
use borrow.Author.Tests.{eqb-true}
use lib.ListN.{length, get_or, replicate}
use Rattle.rights.specs.World.{pick, Rights, Slot, empty, cap, Kind, a_pool, a_table, a_port, a_page, revoke, Act, Object, gone, pool, table, port}
use Rattle.rights.specs.World.{page, thread, line, Sizes, World, Event, slot_object, slot_rights, slot_birth, slot_mother, is_empty, among, object}
use Rattle.rights.specs.World.{with_object, slots_of, slot, made_from, offspring, cuttings, cleared, refilled, Went, on, refuse, made, is_pool}
use Rattle.rights.specs.World.{revoking, set_state, State, does, event, run}
use Rattle.rights.specs.Promise.{ComesBy, HeldIsThereIn, NoMoreIn, Parted, Comes, Revoked, HeldIsThere, NoMore}
use Rattle.laws.proofs.Tests.{yes_no, no_yes, both_ways, clash, or_cases, less_one, among-++}
use Rattle.laws.proofs.Steps.{NoWider, to, In, Turn, kept, spoken, stored, mapped, bound, ran, rowed, drawn, slotted, cut_new, Born, Change, one}
use Rattle.laws.proofs.Sweeping.{AfterSweep, lost, untouched, slots_go, waits_go, goes_calm, goes_waiting, goes_woken, swept_at, emptied_at}
use Rattle.laws.proofs.Moves.{small_refilled, small_state}
use Rattle.laws.proofs.Pass.{event_keeps, run_keeps}

-- births that were given out
pub data Under (b : ℕ) : List Slot → Type 0 where
  under_nil : Under b []
  under_cons : {x : Slot} {xs : List Slot} → slot_birth x ≤ b → Under b xs → Under b (x ∷ xs)

under_more : {b c : ℕ} {xs : List Slot} → b ≤ c → Under b xs → Under c xs
under_more h under_nil = under_nil
under_more h (under_cons k r) = under_cons (omega arith) (under_more h r)

module _ (Cpu : Type 0) (fresh : ℕ → Cpu) (act : Cpu → (ℕ → ℕ) → Act Cpu) where
  -- what each step leaves in slots, and what it leaves at all
  pub made_empty : (z : Sizes) (f : ℕ) (k : Kind) (i : ℕ) → get_or (slots_of Cpu fresh act (made Cpu fresh act z f k)) i empty ≡ empty
  unfolding made slots_of
  made_empty z f (a_pool n) i = refl
  made_empty z f (a_table n) i = fill n i
    where
      fill : (n i : ℕ) → get_or (replicate n empty) i empty ≡ empty
      fill zero i = refl
      fill (suc n) zero = refl
      fill (suc n) (suc i) = fill n i
  made_empty z f a_port i = refl
  made_empty z f a_page i = refl

  turn_in : {w : World Cpu} {new : Slot} {u : ℕ} {x z : Object Cpu} → Turn Cpu fresh act w new u x z → object Cpu fresh act w u ≡ x → (i : ℕ) (y : Slot) → get_or (slots_of Cpu fresh act z) i empty ≡ y → is_empty y ≡ false →
      In Cpu fresh act w y ⊎ (y ≡ new)
  unfolding slots_of In is_empty
  turn_in {u} kept q i y e n = inl (u, i, ap (λ (k : Object Cpu). get_or (slots_of Cpu fresh act k) i empty) q ∙ e, n)
  turn_in spoken q i y e n = yes_no (ap is_empty e ∙ n)
  turn_in (stored p k f g) q i y e n = yes_no (ap is_empty e ∙ n)
  turn_in (mapped g) q i y e n = yes_no (ap is_empty e ∙ n)
  turn_in (bound g) q i y e n = yes_no (ap is_empty e ∙ n)
  turn_in ran q i y e n = yes_no (ap is_empty e ∙ n)
  turn_in rowed q i y e n = yes_no (ap is_empty e ∙ n)
  turn_in (drawn g) q i y e n = yes_no (ap is_empty e ∙ n)
  turn_in (slotted l g) q i y e n = g i y e n
  turn_in (cut_new o z k l g) q i y e n = yes_no (ap is_empty (sym (made_empty z (suc o) k i) ∙ e) ∙ n)

  turn_lives : {w : World Cpu} {new : Slot} {u : ℕ} {x z : Object Cpu} → Turn Cpu fresh act w new u x z → z ≡ gone → x ≡ gone
  turn_lives kept e = e
  turn_lives spoken e = clash (cc)
  turn_lives (stored p k f g) e = clash (cc)
  turn_lives (mapped g) e = clash (cc)
  turn_lives (bound g) e = clash (cc)
  turn_lives ran e = clash (cc)
  turn_lives rowed e = clash (cc)
  turn_lives (drawn g) e = clash (cc)
  turn_lives (slotted l g) e = clash (cc)
  turn_lives (cut_new o z k l g) e = refl

  pub swept_in : {ids os : List ℕ} {u : ℕ} {x z : Object Cpu} → AfterSweep Cpu fresh act ids os u x z → (i : ℕ) (y : Slot) → get_or (slots_of Cpu fresh act z) i empty ≡ y → is_empty y ≡ false →
      (get_or (slots_of Cpu fresh act x) i empty ≡ y) × (among (slot_birth y) ids ≡ false) × (among (to y) os ≡ false)
  unfolding slots_of is_empty
  swept_in (lost h) i y e n = yes_no (ap is_empty e ∙ n)
  swept_in (untouched {x} h a b c) i y e n = yes_no (sym (none_full x i a) ∙ ap is_empty e ∙ n)
    where
      none_full : (x : Object Cpu) (i : ℕ) → ((f : ℕ) (ss : List Slot) → x ≡ table f ss → ⊥) → is_empty (get_or (slots_of Cpu fresh act x) i empty) ≡ true
      none_full gone i a = refl
      none_full (pool f n u) i a = refl
      none_full (table f ss) i a = absurd (a f ss refl)
      none_full (port f ws) i a = refl
      none_full (page f bs) i a = refl
      none_full (thread f s c t ps rs) i a = refl
      none_full (line xs ys) i a = refl
  swept_in {ids} {os} (slots_go ss h) i y e n = emptied_at Cpu fresh act ids os ss i y e n
  swept_in (waits_go ws h) i y e n = yes_no (ap is_empty e ∙ n)
  swept_in (goes_calm t ps h g) i y e n = yes_no (ap is_empty e ∙ n)
  swept_in (goes_waiting t ps h g) i y e n = yes_no (ap is_empty e ∙ n)
  swept_in (goes_woken o then t ps h g) i y e n = yes_no (ap is_empty e ∙ n)

  swept_lives : {ids os : List ℕ} {u : ℕ} {x z : Object Cpu} → AfterSweep Cpu fresh act ids os u x z → among u os ≡ false → z ≡ gone → x ≡ gone
  swept_lives (lost h) l e = both_ways h l
  swept_lives (untouched h a b c) l e = e
  swept_lives (slots_go ss h) l e = clash (cc)
  swept_lives (waits_go ws h) l e = clash (cc)
  swept_lives (goes_calm t ps h g) l e = clash (cc)
  swept_lives (goes_waiting t ps h g) l e = clash (cc)
  swept_lives (goes_woken o then t ps h g) l e = clash (cc)

  pub in_small : {w v : World Cpu} (c : Change Cpu fresh act w v) (y : Slot) → In Cpu fresh act v y → In Cpu fresh act w y ⊎ (y ≡ c.new)
  unfolding In
  in_small c y (o, i, e, n) = turn_in (c.turns o) refl i y e n

  lives_small : {w v : World Cpu} (c : Change Cpu fresh act w v) (u : ℕ) → object Cpu fresh act v u ≡ gone → object Cpu fresh act w u ≡ gone
  lives_small c u e = turn_lives (c.turns u) e

  pub in_swept : (w : World Cpu) (ids os : List ℕ) (y : Slot) → In Cpu fresh act (cleared Cpu fresh act w ids os) y → In Cpu fresh act w y × (among (slot_birth y) ids ≡ false) × (among (to y) os ≡ false)
  unfolding In
  in_swept w ids os y (o, i, e, n) = let h = swept_in (swept_at Cpu fresh act w ids os o) i y e n in ((o, i, h.0, n), h.1, h.2)

  pub lives_swept : (w : World Cpu) (ids os : List ℕ) (u : ℕ) → among u os ≡ false → object Cpu fresh act (cleared Cpu fresh act w ids os) u ≡ gone → object Cpu fresh act w u ≡ gone
  lives_swept w ids os u l e = swept_lives (swept_at Cpu fresh act w ids os u) l e

  pub record Good (w : World Cpu) : Type 0 where
    pub alive : (y : Slot) → In Cpu fresh act w y → object Cpu fresh act w (to y) ≡ gone → ⊥
    pub low : (y : Slot) → In Cpu fresh act w y → (slot_birth y ≤ w.births) × (slot_mother y ≤ w.births)
    pub uniq : (x y : Slot) → In Cpu fresh act w x → In Cpu fresh act w y → slot_birth x ≡ slot_birth y → x ≡ y
    pub less : (x y : Slot) → In Cpu fresh act w x → In Cpu fresh act w y → slot_mother x ≡ slot_birth y → slot_object x ≡ slot_object y → NoWider (slot_rights x) (slot_rights y)
    pub under : Under w.births w.lineage

  pub full_in : (w : World Cpu) (y : Slot) → In Cpu fresh act w y → is_empty y ≡ false
  unfolding In
  full_in w y h = h.3

  -- a step keeps it
  pub good_small : {b w : World Cpu} → Change Cpu fresh act b w → Good b → Good w
  good_small {b} {w} c g =
      record {
        alive = λ y h e. alive' y h e (in_small c y h);
        low = λ y h. low' y h (in_small c y h);
        uniq = λ x y h k e. uniq' x y h k e (in_small c x h) (in_small c y k);
        less = λ x y h k e f. less' x y h k e f (in_small c x h) (in_small c y k);
        under = under' c.lines;
      }
    where
      at_new : (y : Slot) → In Cpu fresh act w y → y ≡ c.new → Born Cpu fresh act b w c.new
      at_new y h e = c.birth (subst (λ (s : Slot). is_empty s ≡ false) e (full_in w y h))

      alive' : (y : Slot) → In Cpu fresh act w y → object Cpu fresh act w (to y) ≡ gone → In Cpu fresh act b y ⊎ (y ≡ c.new) → ⊥
      alive' y h e (inl k) = g.alive y k (lives_small c (to y) e)
      alive' y h e (inr k) = go (at_new y h k).leads
        where
          n : Born Cpu fresh act b w c.new
          n = at_new y h k

          go : ((slot_object c.new ≡ slot_object n.mother) × NoWider (slot_rights c.new) (slot_rights n.mother)) ⊎ ((object Cpu fresh act w (to c.new) ≡ gone → ⊥) × (slot_object n.mother < slot_object c.new)) → ⊥
          go (inl q) = g.alive n.mother n.here (subst (λ (i : ℕ). object Cpu fresh act b (i - 1) ≡ gone) (ap slot_object k ∙ q.0) (lives_small c (to y) e))
          go (inr q) = q.0 (subst (λ (s : Slot). object Cpu fresh act w (to s) ≡ gone) k e)

      low' : (y : Slot) → In Cpu fresh act w y → In Cpu fresh act b y ⊎ (y ≡ c.new) → (slot_birth y ≤ w.births) × (slot_mother y ≤ w.births)
      low' y h (inl k) = let q = g.low y k in let m = c.more in omega arith
      low' y h (inr k) =
          let n = at_new y h k in
          let q = g.low n.mother n.here in
          let m = n.counted in
          let e : slot_birth y ≡ suc b.births = ap slot_birth k ∙ n.now in
          let f : slot_mother y ≡ slot_birth n.mother = ap slot_mother k ∙ n.from_it in omega arith

      uniq' : (x y : Slot) → In Cpu fresh act w x → In Cpu fresh act w y → slot_birth x ≡ slot_birth y → In Cpu fresh act b x ⊎ (x ≡ c.new) → In Cpu fresh act b y ⊎ (y ≡ c.new) → x ≡ y
      uniq' x y h k e (inl p) (inl q) = g.uniq x y p q e
      uniq' x y h k e (inl p) (inr q) = let a = g.low x p in let f : slot_birth y ≡ suc b.births = ap slot_birth q ∙ (at_new y k q).now in absurd (omega arith)
      uniq' x y h k e (inr p) (inl q) = let a = g.low y q in let f : slot_birth x ≡ suc b.births = ap slot_birth p ∙ (at_new x h p).now in absurd (omega arith)
      uniq' x y h k e (inr p) (inr q) = p ∙ sym q

      less' : (x y : Slot) → In Cpu fresh act w x → In Cpu fresh act w y → slot_mother x ≡ slot_birth y → slot_object x ≡ slot_object y → In Cpu fresh act b x ⊎ (x ≡ c.new) → In Cpu fresh act b y ⊎ (y ≡ c.new) → NoWider (slot_rights x) (slot_rights y)
      less' x y h k e f (inl p) (inl q) = g.less x y p q e f
      less' x y h k e f (inl p) (inr q) = let a = g.low x p in let d : slot_birth y ≡ suc b.births = ap slot_birth q ∙ (at_new y k q).now in absurd (omega arith)
      less' x y h k e f (inr p) (inl q) = go n.leads
        where
          n : Born Cpu fresh act b w c.new
          n = at_new x h p

          same : n.mother ≡ y
          same = g.uniq n.mother y n.here q (sym n.from_it ∙ sym (ap slot_mother p) ∙ e)

          go : ((slot_object c.new ≡ slot_object n.mother) × NoWider (slot_rights c.new) (slot_rights n.mother)) ⊎ ((object Cpu fresh act w (to c.new) ≡ gone → ⊥) × (slot_object n.mother < slot_object c.new)) →
              NoWider (slot_rights x) (slot_rights y)
          go (inl r) = subst (λ (s : Slot). NoWider (slot_rights s) (slot_rights y)) (sym p) (subst (λ (s : Slot). NoWider (slot_rights c.new) (slot_rights s)) same r.1)
          go (inr r) = let e : slot_object c.new ≡ slot_object n.mother = sym (ap slot_object p) ∙ f ∙ ap slot_object (sym same) in let l = r.1 in absurd (omega arith)
      less' x y h k e f (inr p) (inr q) =
          let n = at_new x h p in
          let a = g.low n.mother n.here in
          let d : slot_mother x ≡ slot_birth n.mother = ap slot_mother p ∙ n.from_it in
          let i : slot_birth y ≡ suc b.births = ap slot_birth q ∙ n.now in absurd (omega arith)

      under' : (w.lineage ≡ b.lineage) ⊎ ((w.lineage ≡ c.new ∷ b.lineage) × (is_empty c.new ≡ false)) → Under w.births w.lineage
      under' (inl e) = subst (Under w.births) (sym e) (under_more c.more g.under)
      under' (inr h) = let n = c.birth h.1 in let a = n.now in let d = n.counted in subst (Under w.births) (sym h.0) (under_cons (omega arith) (under_more c.more g.under))

  pub good_sweep : (w : World Cpu) (ids os : List ℕ) → Good w → Good (cleared Cpu fresh act w ids os)
  unfolding cleared
  good_sweep w ids os g =
      record {
        alive = λ y h e. let s = in_swept w ids os y h in g.alive y s.0 (lives_swept w ids os (to y) s.2 e);
        low = λ y h. g.low y (in_swept w ids os y h).0;
        uniq = λ x y h k e. g.uniq x y (in_swept w ids os x h).0 (in_swept w ids os y k).0 e;
        less = λ x y h k e f. g.less x y (in_swept w ids os x h).0 (in_swept w ids os y k).0 e f;
        under = g.under;
      }

  pub good_event : (z : Sizes) (w : World Cpu) (e : Event) → Good w → Good (event Cpu fresh act z w e)
  good_event = event_keeps Cpu fresh act Good (λ w v c g. good_small c g) (λ w ids os c g. good_sweep w ids os g)

  pub good_run : (z : Sizes) (w : World Cpu) (es : List Event) → Good w → Good (run Cpu fresh act z w es)
  good_run = run_keeps Cpu fresh act Good (λ w v c g. good_small c g) (λ w ids os c g. good_sweep w ids os g)

  -- at the start
  at_start : (v : World Cpu) (y : Slot) → Parted Cpu fresh act (λ o. true) v → In Cpu fresh act v y → (slot_mother y ≡ 0) × (0 < slot_birth y) × (slot_birth y ≤ v.births) × (object Cpu fresh act v (to y) ≡ gone → ⊥)
  unfolding In is_empty slot_mother slot_birth slot_object
  at_start v empty p (o, i, e, n) = yes_no n
  at_start v (cap u r b j m) p (o, i, e, n) =
      let h = p.held o i u b j m r e in
      let k = p.born o i u b j m r e in
      (h.1, k.0, k.1, λ g. h.2 (subst (λ (x : ℕ). object Cpu fresh act v x ≡ gone) (less_one u) g))

  first_uniq : (v : World Cpu) (x y : Slot) → Parted Cpu fresh act (λ o. true) v → In Cpu fresh act v x → In Cpu fresh act v y → slot_birth x ≡ slot_birth y → x ≡ y
  unfolding In is_empty slot_birth
  first_uniq v empty y p (o, i, e, n) h q = yes_no n
  first_uniq v (cap u r b j m) empty p h (o, i, e, n) q = yes_no n
  first_uniq v (cap u r b j m) (cap u' r' b' j' m') p (o, i, e, n) (o', i', e', n') q =
      let f : get_or (slots_of Cpu fresh act (object Cpu fresh act v o')) i' empty ≡ cap u' r' b' j m' = e' ∙ ap (λ (k : ℕ). cap u' r' b' k m') (sym q) in
      let h = p.once o i u b j m o' i' u' b' m' r r' e f in
      sym e ∙ ap (λ (k : ℕ). get_or (slots_of Cpu fresh act (object Cpu fresh act v k)) i empty) h.0 ∙ ap (λ (k : ℕ). get_or (slots_of Cpu fresh act (object Cpu fresh act v o')) k empty) h.1 ∙ e'

  pub good_first : (v : World Cpu) → Parted Cpu fresh act (λ o. true) v → Good v
  good_first v p =
      record {
        alive = λ y h. (at_start v y p h).3;
        low = λ y h. let q = at_start v y p h in (q.2, let a = q.0 in omega arith);
        uniq = λ x y h k e. first_uniq v x y p h k e;
        less = λ x y h k e f. let a = (at_start v x p h).0 in let b = (at_start v y p k).1 in absurd (omega arith);
        under = subst (Under v.births) (sym p.nothing_made) under_nil;
      }

  good_comes : (z : Sizes) (w : World Cpu) → Comes Cpu fresh act z w → Good w
  unfolding ComesBy
  good_comes z w (v, es, one, p, e) = subst Good e (good_run z v es (good_first v p))

  in_at : (w : World Cpu) (o i u b j m : ℕ) (r : Rights) → get_or (slots_of Cpu fresh act (object Cpu fresh act w o)) i empty ≡ cap u r b j m → In Cpu fresh act w (cap u r b j m)
  unfolding In is_empty
  in_at w o i u b j m r e = (o, i, e, refl)

  pub held_is_there : HeldIsThere Cpu fresh act
  unfolding HeldIsThere HeldIsThereIn slot_object
  held_is_there z w o i u b j m r c e g = (good_comes z w c).alive (cap u r b j m) (in_at w o i u b j m r e) (subst (λ (x : ℕ). object Cpu fresh act w x ≡ gone) (sym (less_one u)) g)

  pub no_more : NoMore Cpu fresh act
  unfolding NoMore NoMoreIn slot_object slot_mother slot_birth slot_rights NoWider
  no_more z w o i u b j m p k v c n r q co e f = (good_comes z w co).less (cap u r b j m) (cap u q c m n) (in_at w o i u b j m r e) (in_at w p k u c m n q f) refl refl

  -- revoked
  unfoldable pub Without : ℕ → World Cpu → Type 0
  Without k w = (k ≤ w.births) × ((y : Slot) → In Cpu fresh act w y → slot_birth y ≡ k → ⊥)

  without_small : (k : ℕ) {b w : World Cpu} → Change Cpu fresh act b w → Without k b → Without k w
  unfolding Without
  without_small k {b} {w} c (l, h) = ((let m = c.more in omega arith), λ y g e. go y g e (in_small c y g))
    where
      go : (y : Slot) → In Cpu fresh act w y → slot_birth y ≡ k → In Cpu fresh act b y ⊎ (y ≡ c.new) → ⊥
      go y g e (inl p) = h y p e
      go y g e (inr p) = let n = c.birth (subst (λ (s : Slot). is_empty s ≡ false) p (full_in w y g)) in let f : slot_birth y ≡ suc b.births = ap slot_birth p ∙ n.now in omega arith

  without_sweep : (k : ℕ) (w : World Cpu) (ids os : List ℕ) → Without k w → Without k (cleared Cpu fresh act w ids os)
  unfolding Without cleared
  without_sweep k w ids os (l, h) = (l, λ y g e. h y (in_swept w ids os y g).0 e)

  without_run : (z : Sizes) (k : ℕ) (w : World Cpu) (es : List Event) → Without k w → Without k (run Cpu fresh act z w es)
  without_run z k = run_keeps Cpu fresh act (Without k) (λ w v c g. without_small k c g) (λ w ids os c g. without_sweep k w ids os g) z

  made_under : {b : ℕ} {xs : List Slot} (ids : List ℕ) (k : ℕ) → Under b xs → among k (made_from Cpu fresh act ids xs) ≡ true → k ≤ b
  unfolding made_from among
  made_under ids k under_nil e = no_yes e
  made_under {b} ids k (under_cons {x} {xs} h r) e = go (not (is_empty x) && among (slot_mother x) ids) (λ q. made_under ids k r q) e
    where
      go : (c : Bool) → (among k (made_from Cpu fresh act ids xs) ≡ true → k ≤ b) → among k (pick c (slot_birth x ∷ made_from Cpu fresh act ids xs) (made_from Cpu fresh act ids xs)) ≡ true → k ≤ b
      go true rec q = at (or_cases (eqb k (slot_birth x)) (among k (made_from Cpu fresh act ids xs)) q)
        where
          at : (eqb k (slot_birth x) ≡ true) ⊎ (among k (made_from Cpu fresh act ids xs) ≡ true) → k ≤ b
          at (inl p) = let d = eqb-true k (slot_birth x) p in omega arith
          at (inr p) = rec p
      go false rec q = rec q

  offspring_under : (w : World Cpu) (n : ℕ) (ids : List ℕ) (k : ℕ) → Under w.births w.lineage → among k (offspring Cpu fresh act w n ids) ≡ true → k ≤ w.births
  unfolding offspring among
  offspring_under w zero ids k u e = no_yes e
  offspring_under w (suc n) ids k u e =
      go (λ q. offspring_under w n (made_from Cpu fresh act ids w.lineage) k u q) (or_cases _ _ (sym (among-++ k (made_from Cpu fresh act ids w.lineage) (offspring Cpu fresh act w n (made_from Cpu fresh act ids w.lineage))) ∙ e))
    where
      go : (among k (offspring Cpu fresh act w n (made_from Cpu fresh act ids w.lineage)) ≡ true → k ≤ w.births) → (among k (made_from Cpu fresh act ids w.lineage) ≡ true) ⊎ (among k (offspring Cpu fresh act w n (made_from Cpu fresh act ids w.lineage)) ≡ true) → k ≤ w.births
      go rec (inl p) = made_under ids k u p
      go rec (inr p) = rec p

  cleared_without : (w : World Cpu) (ids os : List ℕ) (k : ℕ) → k ≤ w.births → among k ids ≡ true → Without k (cleared Cpu fresh act w ids os)
  unfolding Without cleared
  cleared_without w ids os k l e = (l, λ y h q. yes_no (sym e ∙ ap (λ (i : ℕ). among i ids) (sym q) ∙ (in_swept w ids os y h).1))

  pub on_same : (v w : World Cpu) (ws vs : List ℕ) → ◌≡◌ {A = Went Cpu fresh act} (on v ws) (on w vs) → v ≡ w
  on_same v w ws vs e = cc

  pub after_revoke : (z : Sizes) (w v : World Cpu) (p s k : ℕ) → Good w → among k (offspring Cpu fresh act w w.births (slot_birth (slot Cpu fresh act w p s) ∷ [])) ≡ true → does Cpu fresh act z w p (revoke s) ≡ on v (0 ∷ []) → Without k v
  unfolding does revoking refuse
  after_revoke z w v p s k g a e = go (is_empty (slot Cpu fresh act w p s) || (is_pool Cpu fresh act (object Cpu fresh act w (to (slot Cpu fresh act w p s))) && not (slot_rights (slot Cpu fresh act w p s)).writes)) (is_pool Cpu fresh act (object Cpu fresh act w (to (slot Cpu fresh act w p s)))) e
    where
      ids : List ℕ
      ids = offspring Cpu fresh act w w.births (slot_birth (slot Cpu fresh act w p s) ∷ [])

      l : k ≤ w.births
      l = offspring_under w w.births (slot_birth (slot Cpu fresh act w p s) ∷ []) k g.under a

      o : ℕ
      o = to (slot Cpu fresh act w p s)

      os : List ℕ
      os = cuttings Cpu fresh act w (length w.objects) (o ∷ [])

      go : (c d : Bool) → ◌≡◌ {A = Went Cpu fresh act} (pick c (on w (4294967295 ∷ [])) (pick d (on (with_object Cpu fresh act (cleared Cpu fresh act w ids os) o (refilled Cpu fresh act (object Cpu fresh act (cleared Cpu fresh act w ids os) o))) (0 ∷ [])) (on (cleared Cpu fresh act w ids []) (0 ∷ [])))) (on v (0 ∷ [])) → Without k v
      go true d q = let f : ◌≡◌ {A = ℕ} 4294967295 0 = cc in absurd (omega arith)
      go false true q = subst (Without k) (on_same _ v _ _ q) (without_small k (small_refilled Cpu fresh act (cleared Cpu fresh act w ids os) o) (cleared_without w ids os k l a))
      go false false q = subst (Without k) (on_same _ v _ _ q) (cleared_without w ids [] k l a)

  -- also once the thread that revoked goes on
  pub revoked_then : (z : Sizes) (w v : World Cpu) (p s k : ℕ) → Good w → among k (offspring Cpu fresh act w w.births (slot_birth (slot Cpu fresh act w p s) ∷ [])) ≡ true → does Cpu fresh act z w p (revoke s) ≡ on v (0 ∷ []) →
      (a : State Cpu) (d : Cpu) (fs : List Event) (o i t c n : ℕ) (q : Rights) → get_or (slots_of Cpu fresh act (object Cpu fresh act (run Cpu fresh act z (with_object Cpu fresh act v p (set_state Cpu fresh act (object Cpu fresh act v p) a d)) fs) o)) i empty ≡ cap t q c k n → ⊥
  unfolding Without slot_birth
  revoked_then z w v p s k g h e a d fs o i t c n q l =
      (without_run z k _ fs (without_small k (small_state Cpu fresh act v p a d) (after_revoke z w v p s k g h e))).1 (cap t q c k n) (in_at (run Cpu fresh act z (with_object Cpu fresh act v p (set_state Cpu fresh act (object Cpu fresh act v p) a d)) fs) o i t c k n q l) refl

  pub revoked : Revoked Cpu fresh act
  unfolding Revoked Without slot_birth
  revoked z w v p s u b j m o i c k n t r q co es d a fs h =
      (without_run z k v fs (after_revoke z w v p s k (good_comes z w co) (subst (λ (x : Slot). among k (offspring Cpu fresh act w w.births (slot_birth x ∷ [])) ≡ true) (sym es) a) d)).1 (cap t q c k n)
      (in_at (run Cpu fresh act z v fs) o i t c k n q h) refl
