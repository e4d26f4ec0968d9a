-- What was cut from a pool: in as many steps as there are objects all of it is found.
use mathlib.Core.Path.{◌≡◌, refl, sym, ap, subst, ◌∙◌}
use mathlib.Core.Bool.{Bool, true, false, ◌&&◌, ◌||◌, not}
use mathlib.Core.List.{List, [], ◌∷◌}
use mathlib.Core.Logic.{◌⊎◌, inl, inr}
use Prim.Native.Nat.{ℕ, zero, suc, ◌+◌, ◌-◌, ◌≤◌, ◌<◌, zero-le}
use native.Mathlib.Nat.{not-suc-le-zero, add-zero, add-suc}
use native.Mathlib.Omega.{arith}
use lib.Dec.{ltb, eqb}
use borrow.Author.Tests.{eqb-true, eqb-false, ltb-true, ltb-false, ne_eqb, eq-eqb}
use lib.ListN.{length, get_or, get_or-eq_default}
use Rattle.rights.specs.World.{pick, Act, Object, gone, World, among, from_of, cut_in, cuttings}
use Rattle.laws.proofs.Tests.{yes_no, among-++}

-- how many below n pass
count : (ℕ → Bool) → ℕ → ℕ
count f zero = 0
count f (suc n) = pick (f n) (suc (count f n)) (count f n)

count_all : (f : ℕ → Bool) (n : ℕ) → count f n ≤ n
unfolding count
count_all f zero = zero-le
count_all f (suc n) = go (f n) (count_all f n)
  where
    go : (c : Bool) → count f n ≤ n → pick c (suc (count f n)) (count f n) ≤ suc n
    go true h = omega arith
    go false h = omega arith

count_full : (f : ℕ → Bool) (n : ℕ) → n ≤ count f n → (u : ℕ) → u < n → f u ≡ true
unfolding count
count_full f zero h u l = absurd (not-suc-le-zero l)
count_full f (suc n) h u l = go (f n) refl h (λ q. count_full f n q u)
  where
    go : (c : Bool) → f n ≡ c → suc n ≤ pick c (suc (count f n)) (count f n) → (n ≤ count f n → u < n → f u ≡ true) → f u ≡ true
    go true e g rec = at (eqb u n) refl
      where
        at : (b : Bool) → eqb u n ≡ b → f u ≡ true
        at true q = subst (λ (i : ℕ). f i ≡ true) (sym (eqb-true u n q)) e
        at false q = rec (omega arith) (let d = eqb-false u n q in omega arith)
    go false e g rec = let b = count_all f n in absurd (omega arith)

-- a test that passes more passes as much, or more are counted
count_more : (f g : ℕ → Bool) (n : ℕ) → ((u : ℕ) → f u ≡ true → g u ≡ true) → (((u : ℕ) → u < n → f u ≡ g u) ⊎ (count f n < count g n)) × (count f n ≤ count g n)
unfolding count
count_more f g zero m = (inl (λ u l. absurd (not-suc-le-zero l)), zero-le)
count_more f g (suc n) m = go (f n) (g n) refl refl (count_more f g n m)
  where
    same : ((u : ℕ) → u < n → f u ≡ g u) → f n ≡ g n → (u : ℕ) → u < suc n → f u ≡ g u
    same h e u l = at (eqb u n) refl
      where
        at : (b : Bool) → eqb u n ≡ b → f u ≡ g u
        at true q = subst (λ (i : ℕ). f i ≡ g i) (sym (eqb-true u n q)) e
        at false q = h u (let d = eqb-false u n q in omega arith)

    both : (c : Bool) → f n ≡ c → g n ≡ c → (((u : ℕ) → u < n → f u ≡ g u) ⊎ (count f n < count g n)) × (count f n ≤ count g n) →
        (((u : ℕ) → u < suc n → f u ≡ g u) ⊎ (pick c (suc (count f n)) (count f n) < pick c (suc (count g n)) (count g n))) × (pick c (suc (count f n)) (count f n) ≤ pick c (suc (count g n)) (count g n))
    both true e h (inl r, le) = (inl (same r (e ∙ sym h)), omega arith)
    both true e h (inr r, le) = (inr (omega arith), omega arith)
    both false e h (inl r, le) = (inl (same r (e ∙ sym h)), le)
    both false e h (inr r, le) = (inr r, le)

    go : (c d : Bool) → f n ≡ c → g n ≡ d → (((u : ℕ) → u < n → f u ≡ g u) ⊎ (count f n < count g n)) × (count f n ≤ count g n) →
        (((u : ℕ) → u < suc n → f u ≡ g u) ⊎ (pick c (suc (count f n)) (count f n) < pick d (suc (count g n)) (count g n))) × (pick c (suc (count f n)) (count f n) ≤ pick d (suc (count g n)) (count g n))
    go true true e h r = both true e h r
    go true false e h r = yes_no (sym (m n e) ∙ h)
    go false true e h r = let le = r.1 in (inr (omega arith), omega arith)
    go false false e h r = both false e h r

out_of : (a b c : Bool) → ((a && b) || (a && c)) ≡ (a && (b || c))
out_of true b c = refl
out_of false b c = refl

out_one : (a b : Bool) → ((a && b) || false) ≡ (a && (b || false))
out_one true true = refl
out_one true false = refl
out_one false b = refl

and_more : (a b c d : Bool) → (c ≡ true → d ≡ true) → (a && (b || c)) ≡ true → (a && (b || d)) ≡ true
and_more true true c d f e = refl
and_more true false c d f e = f e
and_more false b c d f e = e

module _ (Cpu : Type 0) (fresh : ℕ → Cpu) (act : Cpu → (ℕ → ℕ) → Act Cpu) where
  -- who is cut from whom: by each object's own number of the pool it was cut from
  unfoldable pub test : List ℕ → Object Cpu → Bool
  test os x = not (eqb (from_of Cpu fresh act x) 0) && among (from_of Cpu fresh act x - 1) os

  below_cut : (os : List ℕ) (i u : ℕ) (xs : List (Object Cpu)) → u < i → among u (cut_in Cpu fresh act os i xs) ≡ false
  unfolding cut_in among
  below_cut os i u [] h = refl
  below_cut os i u (x ∷ xs) h = go (not (eqb (from_of Cpu fresh act x) 0) && among (from_of Cpu fresh act x - 1) os) (below_cut os (suc i) u xs (omega arith))
    where
      go : (c : Bool) → among u (cut_in Cpu fresh act os (suc i) xs) ≡ false → among u (pick c (i ∷ cut_in Cpu fresh act os (suc i) xs) (cut_in Cpu fresh act os (suc i) xs)) ≡ false
      go true r = rw (ne_eqb u i (λ e. omega arith)) r
      go false r = r

  pub at_cut : (os : List ℕ) (i u m : ℕ) (xs : List (Object Cpu)) → m ≡ i + u → among m (cut_in Cpu fresh act os i xs) ≡ test os (get_or xs u gone)
  unfolding cut_in among test from_of
  at_cut os i u m [] e = refl
  at_cut os i zero m (x ∷ xs) e = go (not (eqb (from_of Cpu fresh act x) 0) && among (from_of Cpu fresh act x - 1) os) (below_cut os (suc i) m xs (omega arith))
    where
      go : (c : Bool) → among m (cut_in Cpu fresh act os (suc i) xs) ≡ false → among m (pick c (i ∷ cut_in Cpu fresh act os (suc i) xs) (cut_in Cpu fresh act os (suc i) xs)) ≡ c
      go true r = rw (eq-eqb m i (omega arith))
      go false r = r
  at_cut os i (suc u) m (x ∷ xs) e = go (not (eqb (from_of Cpu fresh act x) 0) && among (from_of Cpu fresh act x - 1) os) (at_cut os (suc i) u m xs (omega arith))
    where
      go : (c : Bool) → among m (cut_in Cpu fresh act os (suc i) xs) ≡ test os (get_or xs u gone) → among m (pick c (i ∷ cut_in Cpu fresh act os (suc i) xs) (cut_in Cpu fresh act os (suc i) xs)) ≡ test os (get_or xs u gone)
      go true r = rw (ne_eqb m i (λ q. omega arith)) r
      go false r = r

module _ (Cpu : Type 0) (fresh : ℕ → Cpu) (act : Cpu → (ℕ → ℕ) → Act Cpu) (w : World Cpu) where
  unfoldable pub fr : ℕ → ℕ
  fr u = from_of Cpu fresh act (get_or w.objects u gone)

  fr_far : (u : ℕ) → length w.objects ≤ u → fr u ≡ 0
  unfolding fr from_of
  fr_far u h = ap (from_of Cpu fresh act) (get_or-eq_default w.objects gone h)

  pub dual : (n : ℕ) (os : List ℕ) (u : ℕ) → among u (cuttings Cpu fresh act w (suc n) os) ≡ (not (eqb (fr u) 0) && (among (fr u - 1) os || among (fr u - 1) (cuttings Cpu fresh act w n os)))
  unfolding cuttings test fr among
  dual zero os u =
      among-++ u (cut_in Cpu fresh act os 0 w.objects) [] ∙ ap (λ (c : Bool). c || false) (at_cut Cpu fresh act os 0 u u w.objects (omega arith)) ∙ out_one (not (eqb (fr u) 0)) (among (fr u - 1) os)
  dual (suc n) os u =
      let xs = cut_in Cpu fresh act os 0 w.objects in
      let ys = cuttings Cpu fresh act w (suc n) xs in
      among-++ u xs ys ∙ ap (λ (c : Bool). c || among u ys) (at_cut Cpu fresh act os 0 u u w.objects (omega arith)) ∙
      ap (λ (c : Bool). (not (eqb (fr u) 0) && among (fr u - 1) os) || c) (dual n xs u) ∙ out_of (not (eqb (fr u) 0)) (among (fr u - 1) os) _ ∙
      ap (λ (c : Bool). not (eqb (fr u) 0) && (among (fr u - 1) os || c)) (sym (among-++ (fr u - 1) xs (cuttings Cpu fresh act w n xs)))

  module _ (os : List ℕ) where
    C : ℕ → ℕ → Bool
    C n u = among u (cuttings Cpu fresh act w n os)

    dual' : (n u : ℕ) → C (suc n) u ≡ (not (eqb (fr u) 0) && (among (fr u - 1) os || C n (fr u - 1)))
    unfolding C
    dual' n u = dual n os u

    C-none : (u : ℕ) → C 0 u ≡ false
    unfolding C cuttings among
    C-none u = refl

    C-more : (n u : ℕ) → C n u ≡ true → C (suc n) u ≡ true
    C-more zero u e = yes_no (sym e ∙ C-none u)
    C-more (suc n) u e = dual' (suc n) u ∙ and_more (not (eqb (fr u) 0)) (among (fr u - 1) os) (C n (fr u - 1)) (C (suc n) (fr u - 1)) (C-more n (fr u - 1)) (sym (dual' n u) ∙ e)

    C-beyond : (n u : ℕ) → length w.objects ≤ u → C n u ≡ false
    C-beyond zero u h = C-none u
    C-beyond (suc n) u h = dual' n u ∙ ap (λ (f : ℕ). not (eqb f 0) && (among (f - 1) os || C n (f - 1))) (fr_far u h)

    stable : (n : ℕ) → ((u : ℕ) → C n u ≡ C (suc n) u) → (k u : ℕ) → C n u ≡ C (n + k) u
    stable n h zero u = rw (add-zero n)
    stable n h (suc k) u = rw (add-suc n k) (h u ∙ dual' n u ∙ ap (λ (c : Bool). not (eqb (fr u) 0) && (among (fr u - 1) os || c)) (stable n h k (fr u - 1)) ∙ sym (dual' (n + k) u))

    everywhere : (n : ℕ) → ((u : ℕ) → u < length w.objects → C n u ≡ C (suc n) u) → (u : ℕ) → C n u ≡ C (suc n) u
    everywhere n h u = at (ltb u (length w.objects)) refl
      where
        at : (c : Bool) → ltb u (length w.objects) ≡ c → C n u ≡ C (suc n) u
        at true e = h u (ltb-true u (length w.objects) e)
        at false e = let g = ltb-false u (length w.objects) e in C-beyond n u (omega arith) ∙ sym (C-beyond (suc n) u (omega arith))

    Settled : ℕ → Type 0
    Settled n = (m : ℕ) × (m ≤ n) × ((u : ℕ) → C m u ≡ C (suc m) u)

    either : (n : ℕ) → Settled n ⊎ (n ≤ count (C n) (length w.objects))
    unfolding Settled
    either zero = inr zero-le
    either (suc n) = go (either n)
      where
        grown : (n ≤ count (C n) (length w.objects)) → (((u : ℕ) → u < length w.objects → C n u ≡ C (suc n) u) ⊎ (count (C n) (length w.objects) < count (C (suc n)) (length w.objects))) →
            Settled (suc n) ⊎ (suc n ≤ count (C (suc n)) (length w.objects))
        grown h (inl e) = inl (n, omega arith, everywhere n e)
        grown h (inr l) = inr (omega arith)

        go : Settled n ⊎ (n ≤ count (C n) (length w.objects)) → Settled (suc n) ⊎ (suc n ≤ count (C (suc n)) (length w.objects))
        go (inl s) = inl (s.0, (let h = s.1 in omega arith), s.2)
        go (inr h) = grown h (count_more (C n) (C (suc n)) (length w.objects) (C-more n)).0

    still : Settled (length w.objects)
    unfolding Settled
    still = go (either (length w.objects))
      where
        go : Settled (length w.objects) ⊎ (length w.objects ≤ count (C (length w.objects)) (length w.objects)) → Settled (length w.objects)
        go (inl s) = s
        go (inr h) = (length w.objects, omega arith, everywhere (length w.objects) (λ u l. let e = count_full (C (length w.objects)) (length w.objects) h u l in e ∙ sym (C-more (length w.objects) u e)))

    pub sat : (n u : ℕ) → length w.objects ≤ n → among u (cuttings Cpu fresh act w n os) ≡ among u (cuttings Cpu fresh act w (length w.objects) os)
    unfolding Settled C
    sat n u l =
        let s = still in
        let m = s.0 in
        let h : m ≤ length w.objects = s.1 in
        let a : m + (n - m) ≡ n = omega arith in
        let b : m + (length w.objects - m) ≡ length w.objects = omega arith in
        let p = stable m s.2 (n - m) u in
        let q = stable m s.2 (length w.objects - m) u in
        subst (λ (i : ℕ). among u (cuttings Cpu fresh act w i os) ≡ among u (cuttings Cpu fresh act w (length w.objects) os)) a (subst (λ (i : ℕ). among u (cuttings Cpu fresh act w (m + (n - m)) os) ≡ among u (cuttings Cpu fresh act w i os)) b (sym p ∙ q))
