-- Numbers go on leading to objects of the right kind: a thread's table is a table, the pages of its space are pages, what was cut was cut from a pool.
use mathlib.Core.Path.{◌≡◌, refl, sym, ap, subst, ◌∙◌}
use mathlib.Core.Bool.{Bool, true, false, ◌&&◌, not}
use mathlib.Core.List.{List, [], ◌∷◌}
use mathlib.Core.Logic.{◌⊎◌, inl, inr}
use Prim.Native.Nat.{ℕ, zero, suc, ◌-◌}
use native.Mathlib.Omega.{arith}
use lib.Dec.{eqb-suc-zero}
use lib.ListN.{get_or}
use Rattle.rights.specs.World.{pick, Slot, Kind, a_pool, a_table, a_port, a_page, Act, State, waits, Object, gone, pool, table, port, page, thread}
use Rattle.rights.specs.World.{line, Sizes, World, Event, among, object, from_of, unmapped, cleared, made, is_pool, is_page, is_table, from_page}
use Rattle.rights.specs.World.{event, run}
use Rattle.rights.specs.Promise.{Kinds}
use Rattle.laws.proofs.Tests.{no_yes, both_ways, clash, not_true, less_one}
use Rattle.laws.proofs.Steps.{Turn, kept, spoken, stored, mapped, bound, ran, rowed, drawn, slotted, cut_new, Change, Closed}
use Rattle.laws.proofs.Sweeping.{unbound, AfterSweep, lost, untouched, slots_go, waits_go, goes_calm, goes_waiting, goes_woken, swept_at}
use Rattle.laws.proofs.Pass.{event_keeps, run_keeps}

module _ (Cpu : Type 0) (fresh : ℕ → Cpu) (act : Cpu → (ℕ → ℕ) → Act Cpu) where
  abbrev obj : World Cpu → ℕ → Object Cpu
  obj = object Cpu fresh act

  TableThere : Object Cpu → Type 0
  TableThere x = (g : ℕ) × (ss : List Slot) × (x ≡ table g ss)

  PageThere : Object Cpu → Type 0
  PageThere x = (g : ℕ) × (bs : List ℕ) × (x ≡ page g bs)

  PoolThere : Object Cpu → Type 0
  PoolThere x = (g : ℕ) × (n : ℕ) × (u : ℕ) × (x ≡ pool g n u)

  -- by the tests
  table_is : (x : Object Cpu) → is_table Cpu fresh act x ≡ true → TableThere x
  unfolding is_table TableThere
  table_is gone e = no_yes e
  table_is (pool f n u) e = no_yes e
  table_is (table f ss) e = (f, ss, refl)
  table_is (port f ws) e = no_yes e
  table_is (page f bs) e = no_yes e
  table_is (thread f s c t ps rs) e = no_yes e
  table_is (line xs ys) e = no_yes e

  page_is : (x : Object Cpu) → is_page Cpu fresh act x ≡ true → PageThere x
  unfolding is_page PageThere
  page_is gone e = no_yes e
  page_is (pool f n u) e = no_yes e
  page_is (table f ss) e = no_yes e
  page_is (port f ws) e = no_yes e
  page_is (page f bs) e = (f, bs, refl)
  page_is (thread f s c t ps rs) e = no_yes e
  page_is (line xs ys) e = no_yes e

  pool_is : (x : Object Cpu) → is_pool Cpu fresh act x ≡ true → PoolThere x
  unfolding is_pool PoolThere
  pool_is gone e = no_yes e
  pool_is (pool f n u) e = (f, n, u, refl)
  pool_is (table f ss) e = no_yes e
  pool_is (port f ws) e = no_yes e
  pool_is (page f bs) e = no_yes e
  pool_is (thread f s c t ps rs) e = no_yes e
  pool_is (line xs ys) e = no_yes e

  pub made_no_thread : (z : Sizes) (f : ℕ) (k : Kind) (g t : ℕ) (s : State Cpu) (c : Cpu) (ps : List ℕ) (rs : List Bool) → made Cpu fresh act z f k ≡ thread g s c t ps rs → ⊥
  unfolding made
  made_no_thread z f (a_pool n) g t s c ps rs e = clash (cc)
  made_no_thread z f (a_table n) g t s c ps rs e = clash (cc)
  made_no_thread z f a_port g t s c ps rs e = clash (cc)
  made_no_thread z f a_page g t s c ps rs e = clash (cc)

  made_from_it : (z : Sizes) (f : ℕ) (k : Kind) → from_of Cpu fresh act (made Cpu fresh act z f k) ≡ f
  unfolding made from_of
  made_from_it z f (a_pool n) = refl
  made_from_it z f (a_table n) = refl
  made_from_it z f a_port = refl
  made_from_it z f a_page = refl

  -- a step that is not a sweep
  module _ {w : World Cpu} (k : Kinds Cpu fresh act w) where
    stored_page : (u p i f a : ℕ) (s : State Cpu) (c : Cpu) (ps : List ℕ) (rs : List Bool) → obj w p ≡ thread f s c a ps rs → get_or ps i 0 ≡ suc u → PageThere (obj w u)
    unfolding PageThere
    stored_page u p i f a s c ps rs e g = k.its_pages p f a i u s c ps rs e g

    turn_table : {new : Slot} {u : ℕ} {x y : Object Cpu} → Turn Cpu fresh act w new u x y → obj w u ≡ x → TableThere x → TableThere y
    unfolding TableThere PageThere
    turn_table kept q h = h
    turn_table spoken q (g, ss, e) = clash (cc)
    turn_table {u} (stored p i {f} {a} {s} {c} {ps} {rs = rs} r n) q (g, ss, e) = let y = stored_page u p i f a s c ps rs r n in let m = y.2 in clash (cc)
    turn_table (mapped n) q (g, ss, e) = clash (cc)
    turn_table (bound n) q (g, ss, e) = clash (cc)
    turn_table ran q (g, ss, e) = clash (cc)
    turn_table rowed q (g, ss, e) = clash (cc)
    turn_table (drawn n) q (g, ss, e) = clash (cc)
    turn_table (slotted l n) q (g, ss, e) = (_, _, refl)
    turn_table (cut_new o z j l n) q (g, ss, e) = clash (cc)

    turn_page : {new : Slot} {u : ℕ} {x y : Object Cpu} → Turn Cpu fresh act w new u x y → PageThere x → PageThere y
    unfolding PageThere
    turn_page kept h = h
    turn_page spoken (g, bs, e) = clash (cc)
    turn_page (stored p i r n) h = (_, _, refl)
    turn_page (mapped n) (g, bs, e) = clash (cc)
    turn_page (bound n) (g, bs, e) = clash (cc)
    turn_page ran (g, bs, e) = clash (cc)
    turn_page rowed (g, bs, e) = clash (cc)
    turn_page (drawn n) (g, bs, e) = clash (cc)
    turn_page (slotted l n) (g, bs, e) = clash (cc)
    turn_page (cut_new o z j l n) (g, bs, e) = clash (cc)

    turn_pool : {new : Slot} {u : ℕ} {x y : Object Cpu} → Turn Cpu fresh act w new u x y → obj w u ≡ x → PoolThere x → PoolThere y
    unfolding PoolThere PageThere
    turn_pool kept q h = h
    turn_pool spoken q (g, m, v, e) = clash (cc)
    turn_pool {u} (stored p i {f} {a} {s} {c} {ps} {rs = rs} r n) q (g, m, v, e) = let y = stored_page u p i f a s c ps rs r n in let d = y.2 in clash (cc)
    turn_pool (mapped n) q (g, m, v, e) = clash (cc)
    turn_pool (bound n) q (g, m, v, e) = clash (cc)
    turn_pool ran q (g, m, v, e) = clash (cc)
    turn_pool rowed q (g, m, v, e) = clash (cc)
    turn_pool (drawn n) q h = (_, _, _, refl)
    turn_pool (slotted l n) q (g, m, v, e) = clash (cc)
    turn_pool (cut_new o z j l n) q (g, m, v, e) = clash (cc)

    -- what a thread's table number meant before the step
    old_table : {new : Slot} {u : ℕ} {x y : Object Cpu} → Turn Cpu fresh act w new u x y → obj w u ≡ x → (f t : ℕ) (s : State Cpu) (c : Cpu) (ps : List ℕ) (rs : List Bool) → y ≡ thread f s c (suc t) ps rs → TableThere (obj w t)
    unfolding TableThere
    old_table {u} kept q f t s c ps rs e = k.its_table u f t s c ps rs (q ∙ e)
    old_table spoken q f t s c ps rs e = clash (cc)
    old_table (stored p i r n) q f t s c ps rs e = clash (cc)
    old_table {u} (mapped {f = g} {a} {s = r} {c = d} {ps = ns} {rs = ms} n) q f t s c ps rs e = let h : a ≡ suc t = cc in k.its_table u g t r d ns ms (q ∙ ap (λ (i : ℕ). thread g r d i ns ms) h)
    old_table {u} (bound {o} n) q f t s c ps rs e = let h : suc o ≡ suc t = cc in let m : o ≡ t = omega arith in subst (λ (i : ℕ). TableThere (obj w i)) m (table_is (obj w o) n)
    old_table {u} (ran {f = g} {a} {s = r} {c = d} {ps = ns} {rs = ms}) q f t s c ps rs e = let h : a ≡ suc t = cc in k.its_table u g t r d ns ms (q ∙ ap (λ (i : ℕ). thread g r d i ns ms) h)
    old_table rowed q f t s c ps rs e = clash (cc)
    old_table (drawn n) q f t s c ps rs e = clash (cc)
    old_table (slotted l n) q f t s c ps rs e = clash (cc)
    old_table (cut_new o z j l n) q f t s c ps rs e = absurd (made_no_thread z (suc o) j f (suc t) s c ps rs e)

    old_page : {new : Slot} {u : ℕ} {x y : Object Cpu} → Turn Cpu fresh act w new u x y → obj w u ≡ x → (f t i v : ℕ) (s : State Cpu) (c : Cpu) (ps : List ℕ) (rs : List Bool) → y ≡ thread f s c t ps rs → get_or ps i 0 ≡ suc v → PageThere (obj w v)
    unfolding PageThere
    old_page {u} kept q f t i v s c ps rs e g = k.its_pages u f t i v s c ps rs (q ∙ e) g
    old_page spoken q f t i v s c ps rs e g = clash (cc)
    old_page (stored p j r n) q f t i v s c ps rs e g = clash (cc)
    old_page {u} (mapped {f = g₀} {a} {s = r} {c = d} {ps = ns} {qs} {rs = ms} n) q f t i v s c ps rs e g = let h : qs ≡ ps = cc in go (n i v (subst (λ (xs : List ℕ). get_or xs i 0 ≡ suc v) (sym h) g))
      where
        go : (get_or ns i 0 ≡ suc v) ⊎ (is_page Cpu fresh act (obj w v) ≡ true) → PageThere (obj w v)
        go (inl m) = k.its_pages u g₀ a i v r d ns ms q m
        go (inr m) = page_is (obj w v) m
    old_page {u} (bound {f = g₀} {a} {s = r} {c = d} {ps = ns} {rs = ms} n) q f t i v s c ps rs e g = let h : ns ≡ ps = cc in k.its_pages u g₀ a i v r d ns ms q (subst (λ (xs : List ℕ). get_or xs i 0 ≡ suc v) (sym h) g)
    old_page {u} (ran {f = g₀} {a} {s = r} {c = d} {ps = ns} {rs = ms}) q f t i v s c ps rs e g = let h : ns ≡ ps = cc in k.its_pages u g₀ a i v r d ns ms q (subst (λ (xs : List ℕ). get_or xs i 0 ≡ suc v) (sym h) g)
    old_page rowed q f t i v s c ps rs e g = clash (cc)
    old_page (drawn n) q f t i v s c ps rs e g = clash (cc)
    old_page (slotted l n) q f t i v s c ps rs e g = clash (cc)
    old_page (cut_new o z j l n) q f t i v s c ps rs e g = absurd (made_no_thread z (suc o) j f t s c ps rs e)

    old_pool : {new : Slot} {u : ℕ} {x y : Object Cpu} → Turn Cpu fresh act w new u x y → obj w u ≡ x → (v : ℕ) → from_of Cpu fresh act y ≡ suc v → PoolThere (obj w v)
    unfolding PoolThere PageThere from_of from_page
    old_pool {u} kept q v e = k.its_pool u v (ap (from_of Cpu fresh act) q ∙ e)
    old_pool spoken q v e = absurd (omega arith)
    old_pool {u} (stored p i {f} {a} {s} {c} {ps} {rs = rs} r n) q v e =
        let y = stored_page u p i f a s c ps rs r n in
        k.its_pool u v (ap (from_of Cpu fresh act) y.2 ∙ sym (ap (from_page Cpu fresh act) (sym q ∙ y.2)) ∙ e)
    old_pool {u} (mapped n) q v e = k.its_pool u v (ap (from_of Cpu fresh act) q ∙ e)
    old_pool {u} (bound n) q v e = k.its_pool u v (ap (from_of Cpu fresh act) q ∙ e)
    old_pool {u} ran q v e = k.its_pool u v (ap (from_of Cpu fresh act) q ∙ e)
    old_pool {u} rowed q v e = k.its_pool u v (ap (from_of Cpu fresh act) q ∙ e)
    old_pool {u} (drawn n) q v e = k.its_pool u v (ap (from_of Cpu fresh act) q ∙ e)
    old_pool {u} (slotted l n) q v e = k.its_pool u v (ap (from_of Cpu fresh act) q ∙ e)
    old_pool (cut_new o z j l n) q v e = let h : suc o ≡ suc v = sym (made_from_it z (suc o) j) ∙ e in let m : o ≡ v = omega arith in subst (λ (i : ℕ). PoolThere (obj w i)) m (pool_is (obj w o) n)

    pub kinds_small : {v : World Cpu} → Change Cpu fresh act w v → Kinds Cpu fresh act v
    unfolding TableThere PageThere PoolThere
    kinds_small {v} c =
        record {
          its_table = λ o f t s d ps rs e. turn_table (c.turns t) refl (old_table (c.turns o) refl f t s d ps rs e);
          its_pages = λ o f t i u s d ps rs e g. turn_page (c.turns u) (old_page (c.turns o) refl f t i u s d ps rs e g);
          its_pool = λ o u e. turn_pool (c.turns u) refl (old_pool (c.turns o) refl u e);
        }

  -- a sweep
  unbound_is : (os : List ℕ) (t v : ℕ) → unbound Cpu fresh act os t ≡ suc v → (t ≡ suc v) × (among v os ≡ false)
  unbound_is os zero v e = absurd (omega arith)
  unbound_is os (suc t) v e = go (among t os) refl (subst (λ (c : Bool). pick (not c && among (suc t - 1) os) 0 (suc t) ≡ suc v) (eqb-suc-zero t) e)
    where
      go : (c : Bool) → among t os ≡ c → pick (among (suc t - 1) os) 0 (suc t) ≡ suc v → (suc t ≡ suc v) × (among v os ≡ false)
      go true h q = absurd (zero_suc (subst (λ (c : Bool). pick c 0 (suc t) ≡ suc v) (ap (λ (i : ℕ). among i os) (less_one t) ∙ h) q))
        where
          zero_suc : ◌≡◌ {A = ℕ} 0 (suc v) → ⊥
          zero_suc m = omega arith
      go false h q =
          let r : suc t ≡ suc v = subst (λ (c : Bool). pick c 0 (suc t) ≡ suc v) (ap (λ (i : ℕ). among i os) (less_one t) ∙ h) q in
          let m : t ≡ v = omega arith in (r, subst (λ (i : ℕ). among i os ≡ false) m h)

  unmapped_is : (os ps : List ℕ) (i v : ℕ) → get_or (unmapped Cpu fresh act os ps) i 0 ≡ suc v → (get_or ps i 0 ≡ suc v) × (among v os ≡ false)
  unfolding unmapped
  unmapped_is os [] i v e = absurd (omega arith)
  unmapped_is os (p ∷ ps) zero v e = unbound_is os p v e
  unmapped_is os (p ∷ ps) (suc i) v e = unmapped_is os ps i v e

  module _ {w : World Cpu} (k : Kinds Cpu fresh act w) (ids os : List ℕ) (closed : Closed Cpu fresh act w os) where
    swept_table : {u : ℕ} {x y : Object Cpu} → AfterSweep Cpu fresh act ids os u x y → among u os ≡ false → TableThere x → TableThere y
    unfolding TableThere
    swept_table (lost h) l t = both_ways h l
    swept_table (untouched h a b c) l t = t
    swept_table (slots_go ss h) l (g, qs, e) = (_, _, refl)
    swept_table (waits_go ws h) l (g, qs, e) = clash (cc)
    swept_table (goes_calm t ps h n) l (g, qs, e) = clash (cc)
    swept_table (goes_waiting t ps h n) l (g, qs, e) = clash (cc)
    swept_table (goes_woken o then t ps h n) l (g, qs, e) = clash (cc)

    swept_same : {u : ℕ} {x y : Object Cpu} → AfterSweep Cpu fresh act ids os u x y → among u os ≡ false → PageThere x ⊎ PoolThere x → y ≡ x
    unfolding PageThere PoolThere
    swept_same (lost h) l t = both_ways h l
    swept_same (untouched h a b c) l t = refl
    swept_same (slots_go ss h) l (inl (g, bs, e)) = clash (cc)
    swept_same (slots_go ss h) l (inr (g, m, v, e)) = clash (cc)
    swept_same (waits_go ws h) l (inl (g, bs, e)) = clash (cc)
    swept_same (waits_go ws h) l (inr (g, m, v, e)) = clash (cc)
    swept_same (goes_calm t ps h n) l (inl (g, bs, e)) = clash (cc)
    swept_same (goes_calm t ps h n) l (inr (g, m, v, e)) = clash (cc)
    swept_same (goes_waiting t ps h n) l (inl (g, bs, e)) = clash (cc)
    swept_same (goes_waiting t ps h n) l (inr (g, m, v, e)) = clash (cc)
    swept_same (goes_woken o then t ps h n) l (inl (g, bs, e)) = clash (cc)
    swept_same (goes_woken o then t ps h n) l (inr (g, m, v, e)) = clash (cc)

    -- a thread after a sweep was a thread before, with the table and pages that are not gone
    record Before (u f t : ℕ) (ps : List ℕ) : Type 0 where
      s : State Cpu
      c : Cpu
      a : ℕ
      ns : List ℕ
      rs : List Bool
      is : obj w u ≡ thread f s c a ns rs
      table_left : t ≡ unbound Cpu fresh act os a
      pages_left : ps ≡ unmapped Cpu fresh act os ns

    was : {u : ℕ} {x y : Object Cpu} → AfterSweep Cpu fresh act ids os u x y → obj w u ≡ x → (f t : ℕ) (s : State Cpu) (c : Cpu) (ps : List ℕ) (rs : List Bool) → y ≡ thread f s c t ps rs → Before u f t ps
    was (lost h) q f t s c ps rs e = clash (cc)
    was (untouched h i j n) q f t s c ps rs e = absurd (n f t s c ps rs e)
    was (slots_go ss h) q f t s c ps rs e = clash (cc)
    was (waits_go ws h) q f t s c ps rs e = clash (cc)
    was (goes_calm {s} {c} {rs} t ns h n) q f b r d ps ms e = record { s = s; c = c; a = t; ns = ns; rs = rs; is = q ∙ cc; table_left = cc; pages_left = cc }
    was (goes_waiting {o} {then} {c} {rs} t ns h n) q f b r d ps ms e = record { s = waits o then; c = c; a = t; ns = ns; rs = rs; is = q ∙ cc; table_left = cc; pages_left = cc }
    was (goes_woken {c} {rs} o then t ns h n) q f b r d ps ms e = record { s = waits o then; c = c; a = t; ns = ns; rs = rs; is = q ∙ cc; table_left = cc; pages_left = cc }

    -- what was cut is still there, and was cut from the same
    swept_from : {u : ℕ} {x y : Object Cpu} → AfterSweep Cpu fresh act ids os u x y → (v : ℕ) → from_of Cpu fresh act y ≡ suc v → (from_of Cpu fresh act x ≡ suc v) × (among u os ≡ false)
    unfolding from_of
    swept_from (lost h) v e = absurd (omega arith)
    swept_from (untouched h a b c) v e = (e, h)
    swept_from (slots_go ss h) v e = (e, h)
    swept_from (waits_go ws h) v e = (e, h)
    swept_from (goes_calm t ps h n) v e = (e, h)
    swept_from (goes_waiting t ps h n) v e = (e, h)
    swept_from (goes_woken o then t ps h n) v e = (e, h)

    pub kinds_sweep : Kinds Cpu fresh act (cleared Cpu fresh act w ids os)
    unfolding TableThere PageThere PoolThere Closed
    kinds_sweep =
        record {
          its_table = λ o f t s c ps rs e.
              let y = was (swept_at Cpu fresh act w ids os o) refl f (suc t) s c ps rs e in
              let u = unbound_is os y.a t (sym y.table_left) in
              swept_table (swept_at Cpu fresh act w ids os t) u.1 (k.its_table o f t y.s y.c y.ns y.rs (y.is ∙ ap (λ (i : ℕ). thread f y.s y.c i y.ns y.rs) u.0));
          its_pages = λ o f t i v s c ps rs e g.
              let y = was (swept_at Cpu fresh act w ids os o) refl f t s c ps rs e in
              let u = unmapped_is os y.ns i v (ap (λ (xs : List ℕ). get_or xs i 0) (sym y.pages_left) ∙ g) in
              let p = k.its_pages o f y.a i v y.s y.c y.ns y.rs y.is u.0 in
              (p.0, p.1, swept_same (swept_at Cpu fresh act w ids os v) u.1 (inl p) ∙ p.2);
          its_pool = λ o v e.
              let y = swept_from (swept_at Cpu fresh act w ids os o) v e in
              let p = k.its_pool o v y.0 in
              (p.0, p.1, p.2, swept_same (swept_at Cpu fresh act w ids os v) (not_true _ (λ h. both_ways (closed o v y.0 h) y.1)) (inr p) ∙ p.3);
        }

  pub kinds_event : (z : Sizes) (w : World Cpu) (e : Event) → Kinds Cpu fresh act w → Kinds Cpu fresh act (event Cpu fresh act z w e)
  kinds_event = event_keeps Cpu fresh act (Kinds Cpu fresh act) (λ w v c k. kinds_small k c) (λ w ids os c k. kinds_sweep k ids os c)

  pub kinds_run : (z : Sizes) (w : World Cpu) (es : List Event) → Kinds Cpu fresh act w → Kinds Cpu fresh act (run Cpu fresh act z w es)
  kinds_run = run_keeps Cpu fresh act (Kinds Cpu fresh act) (λ w v c k. kinds_small k c) (λ w ids os c k. kinds_sweep k ids os c)
