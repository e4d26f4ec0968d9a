-- Parted worlds are tied at the start: the set to itself alone, the others to themselves.
use mathlib.Core.Path.{◌≡◌, refl, sym, ap, subst, ◌∙◌}
use mathlib.Core.Bool.{Bool, true, false}
use mathlib.Core.List.{List, [], ◌∷◌}
use mathlib.Core.Logic.{◌≢◌}
use Prim.Native.Nat.{ℕ, zero, suc, ◌+◌, ◌≤◌, ◌<◌}
use native.Mathlib.Omega.{arith}
use lib.Dec.{ltb, eqb}
use borrow.Author.Tests.{ltb-true, ltb-false, eq-eqb, ne_eqb}
use lib.ListN.{length, get_or, get_or-eq_default}
use Rattle.rights.specs.World.{pick, Rights, Slot, empty, cap, Act, Wait, State, stopped, ready, waits, Object, gone, pool, table, port, page, thread}
use Rattle.rights.specs.World.{line, World, object, slots_of, from_of}
use Rattle.rights.specs.Promise.{Parted, SameSlot, both_empty, both_hold, SameButBirths, same_object, same_slots}
use Rattle.laws.proofs.Tests.{yes_no, same_or_not}
use Rattle.laws.proofs.Tied.{Ties, Ref, none, some, Each, nil, cons, SlotT, empty_t, cap_t, WaitT, From, lin_nil, up_nil, StateT, stopped_t, ready_t}
use Rattle.laws.proofs.Tied.{ObjT, gone_t, pool_t, table_t, port_t, page_t, thread_t, line_t, Tied}
use Rattle.laws.proofs.Frames.{Parts}

each_two : {A : Type 0} (P : A → A → Type 0) (xs ys : List A) (d : A) → length xs ≡ length ys → ((i : ℕ) → i < length xs → P (get_or xs i d) (get_or ys i d)) → Each P xs ys
each_two P [] [] d l h = nil
each_two P [] (y ∷ ys) d l h = absurd (omega arith)
each_two P (x ∷ xs) [] d l h = absurd (omega arith)
each_two P (x ∷ xs) (y ∷ ys) d l h = cons (h 0 (omega arith)) (each_two P xs ys d (omega arith) (λ i k. h (suc i) (omega arith)))

module _ (Cpu : Type 0) (fresh : ℕ → Cpu) (act : Cpu → (ℕ → ℕ) → Act Cpu) (A : ℕ → Bool) where
  -- birth j of world v and birth k of world w are in the same place, of an object of one colour, and hold the same
  unfoldable pub Own : Bool → World Cpu → World Cpu → ℕ → ℕ → Type 0
  Own c v w j k = (o : ℕ) × (i : ℕ) × (u : ℕ) × (b : ℕ) × (m : ℕ) × (n : ℕ) × (r : Rights) × (A o ≡ c) ×
      (get_or (slots_of Cpu fresh act (object Cpu fresh act v o)) i empty ≡ cap u r b j m) × (get_or (slots_of Cpu fresh act (object Cpu fresh act w o)) i empty ≡ cap u r b k n)

  unfoldable pub ties : Bool → World Cpu → World Cpu → Ties
  ties c v w = record { objs = λ u k. (u ≡ k) × (A u ≡ c) × (u < length v.objects); born = Own c v w }

  there : (v : World Cpu) (u : ℕ) → (object Cpu fresh act v u ≡ gone → ⊥) → u < length v.objects
  unfolding object
  there v u h = at (ltb u (length v.objects)) refl
    where
      at : (b : Bool) → ltb u (length v.objects) ≡ b → u < length v.objects
      at true e = ltb-true u (length v.objects) e
      at false e = absurd (h (get_or-eq_default v.objects gone (ltb-false u (length v.objects) e)))

  module _ (v w : World Cpu) (p : Parted Cpu fresh act A v) (c d : Bool) (from_ok : (o : ℕ) → A o ≡ c → From d (ties c v w) (from_of Cpu fresh act (object Cpu fresh act v o)) (from_of Cpu fresh act (object Cpu fresh act v o))) where
    -- a number that is held, or has a table or a page, of the same colour
    to : (o u : ℕ) → A o ≡ c → (A u ≡ A o) × (object Cpu fresh act v u ≢ gone) → (ties c v w).objs u u
    unfolding ties
    to o u e h = (refl, h.0 ∙ e, there v u h.1)

    slot_pair : (o i : ℕ) → A o ≡ c → {x y : Slot} → SameSlot Cpu fresh act x y → get_or (slots_of Cpu fresh act (object Cpu fresh act v o)) i empty ≡ x → get_or (slots_of Cpu fresh act (object Cpu fresh act w o)) i empty ≡ y → SlotT (ties c v w) x y
    unfolding ties Own
    slot_pair o i e both_empty g h = empty_t
    slot_pair o i e (both_hold {o = u} {b = b} {i = j} {j = k} {m = m} {n = n} {r = r}) g h = cap_t (let q = p.held o i u b j m r g in to o u e (q.0, q.2)) (o, i, u, b, m, n, r, e, g, h)

    ref_self : (o : ℕ) (x : ℕ) → A o ≡ c → ((u : ℕ) → x ≡ suc u → (A u ≡ A o) × (object Cpu fresh act v u ≢ gone)) → Ref (ties c v w).objs x x
    ref_self o zero e h = none
    ref_self o (suc u) e h = some (to o u e (h u refl))

    state_self : (o f t : ℕ) (s : State Cpu) (k : Cpu) (ps : List ℕ) (rs : List Bool) → object Cpu fresh act v o ≡ thread f s k t ps rs → StateT Cpu (ties c v w) s s
    state_self o f t stopped k ps rs g = stopped_t
    state_self o f t ready k ps rs g = ready_t
    state_self o f t (waits u then) k ps rs g = absurd (p.awake o f t u k ps rs then g)

    table_pair : (o : ℕ) → A o ≡ c → (f : ℕ) (ss qs : List Slot) → object Cpu fresh act v o ≡ table f ss → object Cpu fresh act w o ≡ table f qs → length ss ≡ length qs →
        ((i : ℕ) → SameSlot Cpu fresh act (get_or ss i empty) (get_or qs i empty)) → ObjT Cpu d (ties c v w) (table f ss) (table f qs)
    unfolding slots_of from_of
    table_pair o e f ss qs g h l s =
        table_t (subst (λ (y : Object Cpu). From d (ties c v w) (from_of Cpu fresh act y) (from_of Cpu fresh act y)) g (from_ok o e))
        (each_two (SlotT (ties c v w)) ss qs empty l (λ i _. slot_pair o i e (s i) (ap (λ (y : Object Cpu). get_or (slots_of Cpu fresh act y) i empty) g) (ap (λ (y : Object Cpu). get_or (slots_of Cpu fresh act y) i empty) h)))

    -- a slot is the same as itself
    slot_self : (x : Slot) → SameSlot Cpu fresh act x x
    slot_self empty = both_empty
    slot_self (cap u r b j m) = both_hold

    obj_self : (o : ℕ) → A o ≡ c → (x : Object Cpu) → object Cpu fresh act v o ≡ x → object Cpu fresh act w o ≡ x → ObjT Cpu d (ties c v w) x x
    unfolding slots_of from_of
    obj_self o e gone g h = gone_t
    obj_self o e (pool f n u) g h = pool_t (subst (λ (y : Object Cpu). From d (ties c v w) (from_of Cpu fresh act y) (from_of Cpu fresh act y)) g (from_ok o e))
    obj_self o e (table f ss) g h = table_pair o e f ss ss g h refl (λ i. slot_self (get_or ss i empty))
    obj_self o e (port f ws) g h =
        port_t (subst (λ (y : Object Cpu). From d (ties c v w) (from_of Cpu fresh act y) (from_of Cpu fresh act y)) g (from_ok o e)) (subst (λ (y : List Wait). Each (WaitT (ties c v w)) y y) (sym (p.calm o f ws g)) nil)
    obj_self o e (page f bs) g h = page_t (subst (λ (y : Object Cpu). From d (ties c v w) (from_of Cpu fresh act y) (from_of Cpu fresh act y)) g (from_ok o e))
    obj_self o e (thread f s k t ps rs) g h =
        thread_t (subst (λ (y : Object Cpu). From d (ties c v w) (from_of Cpu fresh act y) (from_of Cpu fresh act y)) g (from_ok o e)) (state_self o f t s k ps rs g)
        (ref_self o t e (λ u q. p.tables o f u s k ps rs (subst (λ (i : ℕ). object Cpu fresh act v o ≡ thread f s k i ps rs) q g)))
        (each_two (Ref (ties c v w).objs) ps ps 0 refl (λ i l. ref_self o (get_or ps i 0) e (λ u q. p.spaces o f t i u s k ps rs g q)))
    obj_self o e (line xs ys) g h = line_t

    obj_pair : (o : ℕ) → A o ≡ c → {x y : Object Cpu} → SameButBirths Cpu fresh act x y → object Cpu fresh act v o ≡ x → object Cpu fresh act w o ≡ y → ObjT Cpu d (ties c v w) x y
    obj_pair o e (same_object {x}) g h = obj_self o e x g h
    obj_pair o e (same_slots {f} {ss} {qs} l s) g h = table_pair o e f ss qs g h l s

  -- the set alone
  unfoldable pub masked : ℕ → List (Object Cpu) → List (Object Cpu)
  masked i [] = []
  masked i (x ∷ xs) = pick (A i) x gone ∷ masked (suc i) xs

  unfoldable pub alone : World Cpu → ℕ → World Cpu
  alone v b = record { objects = masked 0 v.objects; births = b; lineage = [] }

  at_masked : (i k m : ℕ) (xs : List (Object Cpu)) → m ≡ i + k → get_or (masked i xs) k gone ≡ pick (A m) (get_or xs k gone) gone
  unfolding masked
  at_masked i k m [] e = go (A m)
    where
      go : (b : Bool) → gone ≡ pick {A = Object Cpu} b gone gone
      go true = refl
      go false = refl
  at_masked i zero m (x ∷ xs) e = let h : m ≡ i = omega arith in rw h refl
  at_masked i (suc k) m (x ∷ xs) e = at_masked (suc i) k m xs (omega arith)

  len_masked : (i : ℕ) (xs : List (Object Cpu)) → length (masked i xs) ≡ length xs
  unfolding masked
  len_masked i [] = refl
  len_masked i (x ∷ xs) = ap suc (len_masked (suc i) xs)

  no_both : {B : Type 0} {b : Bool} → b ≡ true → b ≡ false → B
  no_both e f = yes_no (sym e ∙ f)

  eq_one : (a b u k : ℕ) → a ≡ b → u ≡ k → eqb a u ≡ eqb b k
  eq_one a b u k e f = rw (e, f)

  module _ (v w : World Cpu) (p : Parted Cpu fresh act A v) (q : Parted Cpu fresh act A w) (long : length v.objects ≡ length w.objects) (outside : (u : ℕ) → length v.objects ≤ u → A u ≡ false)
      (same : (u : ℕ) → u < length v.objects → A u ≡ true → SameButBirths Cpu fresh act (object Cpu fresh act v u) (object Cpu fresh act w u)) where
    inside : (u : ℕ) → A u ≡ true → u < length v.objects
    inside u e = at (ltb u (length v.objects)) refl
      where
        at : (b : Bool) → ltb u (length v.objects) ≡ b → u < length v.objects
        at true g = ltb-true u (length v.objects) g
        at false g = no_both e (outside u (ltb-false u (length v.objects) g))

    from_mine : (o : ℕ) → A o ≡ true → From false (ties true v w) (from_of Cpu fresh act (object Cpu fresh act v o)) (from_of Cpu fresh act (object Cpu fresh act v o))
    unfolding From ties
    from_mine o e = go (from_of Cpu fresh act (object Cpu fresh act v o)) refl
      where
        go : (f : ℕ) → from_of Cpu fresh act (object Cpu fresh act v o) ≡ f → Ref (ties true v w).objs f f
        go zero g = none
        go (suc u) g = let a = p.from o u g ∙ e in some (refl, a, inside u a)

    from_any : (o : ℕ) → A o ≡ false → From true (ties false v v) (from_of Cpu fresh act (object Cpu fresh act v o)) (from_of Cpu fresh act (object Cpu fresh act v o))
    unfolding From
    from_any o e = tt

    -- the same birth in the first world is the same place, and so the same birth in the second
    one_place : (x y : World Cpu) → Parted Cpu fresh act A x → (c : Bool) (a k b n : ℕ) → Own c x y a k → Own c x y b n → a ≡ b → k ≡ n
    unfolding Own
    one_place x y px c a k b n (o, i, u, d, m, l, r, e, g, h) (o', i', u', d', m', l', r', e', g', h') ab =
        let t = px.once o i u d a m o' i' u' d' m' r r' g (g' ∙ ap (λ (j : ℕ). cap u' r' d' j m') (sym ab)) in
        let s : cap u r d k l ≡ cap u' r' d' n l' =
        sym h ∙ ap (λ (j : ℕ). get_or (slots_of Cpu fresh act (object Cpu fresh act y j)) i empty) t.0 ∙ ap (λ (j : ℕ). get_or (slots_of Cpu fresh act (object Cpu fresh act y o')) j empty) t.1 ∙ h' in cc

    turned : (c : Bool) (x y : World Cpu) (a k : ℕ) → Own c x y a k → Own c y x k a
    unfolding Own
    turned c x y a k (o, i, u, d, m, l, r, e, g, h) = (o, i, u, d, l, m, r, e, h, g)

    same_birth : (x y : World Cpu) → Parted Cpu fresh act A x → Parted Cpu fresh act A y → (c : Bool) (a k b n : ℕ) → Own c x y a k → Own c x y b n → eqb a b ≡ eqb k n
    same_birth x y px py c a k b n g h =
        same_or_not a b (λ e. eq-eqb a b e ∙ sym (eq-eqb k n (one_place x y px c a k b n g h e)))
        (λ e. ne_eqb a b e ∙ sym (ne_eqb k n (λ f. e (one_place y x py c k a n b (turned c x y a k g) (turned c x y b n h) f))))

    born_in : (x y : World Cpu) → Parted Cpu fresh act A x → (c : Bool) (j k : ℕ) → Own c x y j k → j ≤ x.births
    unfolding Own
    born_in x y px c j k (o, i, u, b, m, n, r, e, g, h) = (px.born o i u b j m r g).1

    tied_mine : Tied Cpu fresh act false (ties true v w) v (alone w w.births)
    unfolding ties alone object
    tied_mine =
        record {
          same = λ {u} {k} g. at u k g.0 g.1;
          fit = λ {u} {k} g. (g.2, rw (len_masked 0 w.objects, ← g.0, ← long) g.2);
          one = λ {a} {b} {u} {k} g h. eq_one a b u k g.0 h.0;
          first = λ {a} {b} {u} {k} g h. same_birth v w p q true a b u k g h;
          within = λ {u} {k} g. (born_in v w p true u k g, born_in w v q true k u (turned true v w u k g));
          lin = rw p.nothing_made lin_nil;
          up_v = rw p.nothing_made up_nil;
          up_w = up_nil;
        }
      where
        at : (u k : ℕ) → u ≡ k → A u ≡ true → ObjT Cpu false (ties true v w) (get_or v.objects u gone) (get_or (masked 0 w.objects) k gone)
        at u k e a = rw (← e, at_masked 0 u u w.objects (omega arith), a) (obj_pair v w p true false from_mine u a (same u (inside u a) a) refl refl)

    tied_others : Tied Cpu fresh act true (ties false v v) v v
    unfolding ties
    tied_others =
        record {
          same = λ {u} {k} g. at u k g.0 g.1;
          fit = λ {u} {k} g. (g.2, subst (λ (i : ℕ). i < length v.objects) g.0 g.2);
          one = λ {a} {b} {u} {k} g h. eq_one a b u k g.0 h.0;
          first = λ {a} {b} {u} {k} g h. same_birth v v p p false a b u k g h;
          within = λ {u} {k} g. (born_in v v p false u k g, born_in v v p false k u (turned false v v u k g));
          lin = rw p.nothing_made lin_nil;
          up_v = rw p.nothing_made up_nil;
          up_w = rw p.nothing_made up_nil;
        }
      where
        at : (u k : ℕ) → u ≡ k → A u ≡ false → ObjT Cpu true (ties false v v) (object Cpu fresh act v u) (object Cpu fresh act v k)
        at u k e a = subst (λ (i : ℕ). ObjT Cpu true (ties false v v) (object Cpu fresh act v u) (object Cpu fresh act v i)) e (obj_self v v p false true from_any u a (object Cpu fresh act v u) refl refl)

    pub parts_first : Parts Cpu fresh act (ties true v w) (ties false v v) v (alone w w.births)
    unfolding ties Own
    parts_first =
        record { mine = tied_mine; other = tied_others; apart = λ g h. no_both g.1 h.1; bapart = λ {u} {k} {i} g h. clash u k i g h; dia = λ g. g.0; bdia = λ {u} {k} g. itself u k g }
      where
        clash : (j k n : ℕ) → Own true v w j k → Own false v v j n → ⊥
        clash j k n (o, i, u, b, m, l, r, e, g, h) (o', i', u', b', m', l', r', e', g', h') = no_both e (subst (λ (n : ℕ). A n ≡ false) (sym (p.once o i u b j m o' i' u' b' m' r r' g g').0) e')

        itself : (j k : ℕ) → Own false v v j k → j ≡ k
        itself j k (o, i, u, b, m, l, r, e, g, h) = let s : cap u r b j m ≡ cap u r b k l = sym g ∙ h in cc
