-- What a revoke clears away is tied again.
use mathlib.Core.Path.{◌≡◌, refl, ap}
use mathlib.Core.Bool.{Bool, true, false, ◌&&◌, ◌||◌, not}
use mathlib.Core.List.{List, [], ◌∷◌}
use Prim.Native.Nat.{ℕ, suc, ◌-◌}
use native.Mathlib.Omega.{arith}
use lib.Dec.{eqb}
use Rattle.rights.specs.World.{pick, Slot, empty, Act, Wait, State, stopped, ready, waits, Object, gone, pool, table, port, page, thread, line, World}
use Rattle.rights.specs.World.{slot_object, slot_birth, is_empty, among, object, emptied, waits_thread, without_threads, unmapped, woken, cleaned}
use Rattle.rights.specs.World.{clean_all, cleared}
use Rattle.laws.proofs.Tests.{pick_two, or_two, less_one}
use Rattle.laws.proofs.Sweeping.{at_clean, len_clean}
use Rattle.laws.proofs.Tied.{Ties, Ref, none, Each, nil, cons, SlotT, empty_t, cap_t, WaitT, sender_t, receiver_t, From, Agree, ref_in, StateT}
use Rattle.laws.proofs.Tied.{stopped_t, ready_t, waits_t, ObjT, gone_t, pool_t, table_t, port_t, page_t, thread_t, line_t, Tied}

pick_any : {A B : Type 0} (P : A → B → Type 0) (c d : Bool) {a : A} {x : B} → P a x → P (pick c a a) (pick d x x)
pick_any P true true p = p
pick_any P true false p = p
pick_any P false true p = p
pick_any P false false p = p

pick_same : {A : Type 0} (c : Bool) (a : A) → a ≡ pick c a a
pick_same true a = refl
pick_same false a = refl

module _ (Cpu : Type 0) (fresh : ℕ → Cpu) (act : Cpu → (ℕ → ℕ) → Act Cpu) where
  module _ (t : Ties) (ids jds os qs : List ℕ) (ab : Agree t.born ids jds) (ao : Agree t.objs os qs) where
    e_emptied : {ss rs : List Slot} → Each (SlotT t) ss rs → Each (SlotT t) (emptied Cpu fresh act ids os ss) (emptied Cpu fresh act jds qs rs)
    unfolding emptied slot_birth slot_object is_empty
    e_emptied nil = nil
    e_emptied (cons empty_t r) = cons (pick_any (SlotT t) (among 0 ids || false) (among 0 jds || false) empty_t) (e_emptied r)
    e_emptied (cons (cap_t {u} {k} {j} {i} h b) r) =
        cons (pick_two (SlotT t) {c = among j ids || among (suc u - 1) os} {d = among i jds || among (suc k - 1) qs} (or_two (ab j i b) (rw (less_one u, less_one k) (ao u k h))) empty_t (cap_t h b)) (e_emptied r)

    e_unmapped : {ps ns : List ℕ} → Each (Ref t.objs) ps ns → Each (Ref t.objs) (unmapped Cpu fresh act os ps) (unmapped Cpu fresh act qs ns)
    unfolding unmapped
    e_unmapped nil = nil
    e_unmapped (cons h r) = cons (pick_two (Ref t.objs) (ref_in os qs ao h) none h) (e_unmapped r)

    e_without : {ws vs : List Wait} → Each (WaitT t) ws vs → Each (WaitT t) (without_threads Cpu fresh act os ws) (without_threads Cpu fresh act qs vs)
    unfolding without_threads waits_thread
    e_without nil = nil
    e_without (cons (sender_t h) r) = pick_two (Each (WaitT t)) (ao _ _ h) (e_without r) (cons (sender_t h) (e_without r))
    e_without (cons (receiver_t h) r) = pick_two (Each (WaitT t)) (ao _ _ h) (e_without r) (cons (receiver_t h) (e_without r))

    o_woken : (d : Bool) {s q : State Cpu} (c : Cpu) (f g : ℕ) {a b : ℕ} {ps ns : List ℕ} (rs : List Bool) → From d t f g → StateT Cpu t s q → Ref t.objs a b → Each (Ref t.objs) ps ns →
        ObjT Cpu d t (woken Cpu fresh act os s c (thread f s c a ps rs)) (woken Cpu fresh act qs q c (thread g q c b ns rs))
    unfolding woken
    o_woken d c f₀ g₀ rs f stopped_t a ps = thread_t f stopped_t a ps
    o_woken d c f₀ g₀ rs f ready_t a ps = thread_t f ready_t a ps
    o_woken d c f₀ g₀ rs f (waits_t h) a ps = pick_two (ObjT Cpu d t) (ao _ _ h) (thread_t f ready_t a ps) (thread_t f (waits_t h) a ps)

    o_cleaned : {d : Bool} {x y : Object Cpu} → ObjT Cpu d t x y → ObjT Cpu d t (cleaned Cpu fresh act ids os x) (cleaned Cpu fresh act jds qs y)
    unfolding cleaned
    o_cleaned gone_t = gone_t
    o_cleaned (pool_t f) = pool_t f
    o_cleaned (table_t f ss) = table_t f (e_emptied ss)
    o_cleaned (port_t f ws) = port_t f (e_without ws)
    o_cleaned (page_t f) = page_t f
    o_cleaned {d} (thread_t {f = f₀} {g = g₀} {c} {rs} f s a ps) = o_woken d c f₀ g₀ rs f s (pick_two (Ref t.objs) (ref_in os qs ao a) none a) (e_unmapped ps)
    o_cleaned line_t = line_t

  pub t_clear : {d : Bool} {t : Ties} {v w : World Cpu} → Tied Cpu fresh act d t v w → (ids jds os qs : List ℕ) → Agree t.born ids jds → Agree t.objs os qs →
      Tied Cpu fresh act d t (cleared Cpu fresh act v ids os) (cleared Cpu fresh act w jds qs)
  unfolding cleared object
  t_clear {d} {t} {v} {w} r ids jds os qs ab ao =
      record {
        same = λ {u} {k} g. rw (at_clean Cpu fresh act ids os 0 u u v.objects (omega arith), at_clean Cpu fresh act jds qs 0 k k w.objects (omega arith)) (pick_two (ObjT Cpu d t) (ao u k g) gone_t (o_cleaned t ids jds os qs ab ao (r.same g)));
        fit = λ g. simp (len_clean Cpu fresh act) (r.fit g);
        one = r.one;
        first = r.first;
        within = r.within;
        lin = r.lin;
        up_v = r.up_v;
        up_w = r.up_w;
      }

  -- clearing away nothing
  module _ (id : ℕ) where
    emptied_none : (ss : List Slot) → emptied Cpu fresh act [] [] ss ≡ ss
    unfolding emptied among
    emptied_none [] = refl
    emptied_none (x ∷ xs) = go (not (is_empty x)) (emptied_none xs)
      where
        go : (c : Bool) → emptied Cpu fresh act [] [] xs ≡ xs → pick (c && false) empty x ∷ emptied Cpu fresh act [] [] xs ≡ x ∷ xs
        go true r = ap {B = List Slot} (λ ys. x ∷ ys) r
        go false r = ap {B = List Slot} (λ ys. x ∷ ys) r

    unmapped_none : (ps : List ℕ) → unmapped Cpu fresh act [] ps ≡ ps
    unfolding unmapped among
    unmapped_none [] = refl
    unmapped_none (x ∷ xs) = go (not (eqb x 0)) (unmapped_none xs)
      where
        go : (c : Bool) → unmapped Cpu fresh act [] xs ≡ xs → pick (c && false) 0 x ∷ unmapped Cpu fresh act [] xs ≡ x ∷ xs
        go true r = ap {B = List ℕ} (λ ys. x ∷ ys) r
        go false r = ap {B = List ℕ} (λ ys. x ∷ ys) r

    without_none : (ws : List Wait) → without_threads Cpu fresh act [] ws ≡ ws
    unfolding without_threads among
    without_none [] = refl
    without_none (x ∷ xs) = ap {B = List Wait} (λ ys. x ∷ ys) (without_none xs)

    table_none : (t : ℕ) → pick (not (eqb t 0) && among (t - 1) []) 0 t ≡ t
    unfolding among
    table_none t = go (not (eqb t 0))
      where
        go : (c : Bool) → pick (c && false) 0 t ≡ t
        go true = refl
        go false = refl

    woken_none : (s : State Cpu) (c : Cpu) (f t : ℕ) (ps : List ℕ) (rs : List Bool) → woken Cpu fresh act [] s c (thread f s c t ps rs) ≡ thread f s c t ps rs
    unfolding woken among
    woken_none stopped c f t ps rs = refl
    woken_none ready c f t ps rs = refl
    woken_none (waits o then) c f t ps rs = refl

    cleaned_none : (x : Object Cpu) → cleaned Cpu fresh act [] [] x ≡ x
    unfolding cleaned
    cleaned_none gone = refl
    cleaned_none (pool f n u) = refl
    cleaned_none (table f ss) = ap {B = Object Cpu} (λ y. table f y) (emptied_none ss)
    cleaned_none (port f ws) = ap {B = Object Cpu} (λ y. port f y) (without_none ws)
    cleaned_none (page f bs) = refl
    cleaned_none (thread f s c t ps rs) = rw (table_none t, unmapped_none ps) (woken_none s c f t ps rs)
    cleaned_none (line xs ys) = refl

    clean_none : (i : ℕ) (xs : List (Object Cpu)) → clean_all Cpu fresh act [] [] i xs ≡ xs
    unfolding clean_all among
    clean_none i [] = refl
    clean_none i (x ∷ xs) = rw (cleaned_none x, clean_none (suc i) xs)

  pub clear_none : (w : World Cpu) → cleared Cpu fresh act w [] [] ≡ w
  unfolding cleared
  clear_none w = λ i. record { objects = clean_none 0 0 w.objects i; births = w.births; lineage = w.lineage }
