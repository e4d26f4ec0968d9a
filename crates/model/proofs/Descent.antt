-- Who comes from whom, by a list of all that was made: the abstract world's words for it, and any test that goes up by mothers.
use Rattle.std.proofs.Common.{◌≡◌, ℕ, zero, suc, ◌+◌, ◌<◌, ◌≤◌, Bool, true, false, ◌||◌, eqb, ◌⊎◌, List, [], ◌∷◌, ◌++◌, Some, None, Option, sym, refl, ap, ◌∙◌, subst, inl, inr, arith}
use Rattle.std.proofs.lemmas.Bool.{cases_Bool, or_cases, or_left, or_right, eqb-true, eq-eqb, both_ways}
use Rattle.rights.specs.World.{Slot, empty, cap, World, Act, among, made_from, offspring, is_empty, slot_mother, slot_birth}

-- c was made from m
unfoldable pub Made : List Slot → ℕ → ℕ → Type 0
Made [] m c = ⊥
Made (empty ∷ l) m c = Made l m c
Made (cap o r b i j ∷ l) m c = ((j ≡ m) × (i ≡ c)) ⊎ Made l m c

-- and through any others
pub data Comes (lin : List Slot) (a : ℕ) : ℕ → Type 0 where
  first : {c : ℕ} → Made lin a c → Comes lin a c
  later : {b c : ℕ} → Comes lin a b → Made lin b c → Comes lin a c

-- what is made is born after what it was made from, up to top
abbrev pub Orderly : ℕ → List Slot → Type 0
Orderly top lin = (m c : ℕ) → Made lin m c → (m < c) × (c ≤ top)

comes_less : (top : ℕ) (lin : List Slot) → Orderly top lin → (a c : ℕ) → Comes lin a c → (a < c) × (c ≤ top)
comes_less top lin o a c (first h) = o a c h
comes_less top lin o a c (later {b = b} h k) = let p : (a < b) × (b ≤ top) = comes_less top lin o a b h in let q = o b c k in (omega arith, q.1)

before : (lin : List Slot) (a b c : ℕ) → Made lin a b → Comes lin b c → Comes lin a c
before lin a b c h (first k) = later (first h) k
before lin a b c h (later {b = x} k l) = later (before lin a b x h k) l

front : (lin : List Slot) (a c : ℕ) → Comes lin a c → (Made lin a c) ⊎ ((x : ℕ) × Made lin a x × Comes lin x c)
front lin a c (first h) = inl h
front lin a c (later {b = b} h k) =
    elim (front lin a b h) [
      | inl i ↦ inr (b, i, first k)
      | inr t ↦ inr (t.0, t.1, later t.2 k)
    ]

pub among_append : (k : ℕ) (xs ys : List ℕ) → among k (xs ++ ys) ≡ (among k xs || among k ys)
unfolding among
among_append k [] ys = refl
among_append k (x ∷ xs) ys = elim (eqb k x) as (λ t. (t || among k (xs ++ ys)) ≡ ((t || among k xs) || among k ys)) [ true ↦ refl | false ↦ among_append k xs ys ]

module _ (Cpu : Type 0) (fresh : ℕ → Cpu) (act : Cpu → (ℕ → ℕ) → Act Cpu) where
  among_made : (c : ℕ) (ids : List ℕ) (lin : List Slot) → among c (made_from Cpu fresh act ids lin) ≡ true → (m : ℕ) × (among m ids ≡ true) × Made lin m c
  unfolding among made_from is_empty slot_mother slot_birth Made
  among_made c ids [] h = absurd (both_ways false refl h)
  among_made c ids (empty ∷ l) h = among_made c ids l h
  among_made c ids (cap o r b i j ∷ l) h =
      elim (cases_Bool (among j ids)) [
        | inl e ↦
            elim (or_cases (eqb c i) (among c (made_from Cpu fresh act ids l)) (rw e at h)) [
              | inl f ↦ (j, e, inl (refl, sym (eqb-true c i f)))
              | inr f ↦ (let t = among_made c ids l f in (t.0, t.1, inr t.2))
            ]
        | inr e ↦ (let t = among_made c ids l (rw e at h) in (t.0, t.1, inr t.2))
      ]

  made_among : (c m : ℕ) (ids : List ℕ) (lin : List Slot) → among m ids ≡ true → Made lin m c → among c (made_from Cpu fresh act ids lin) ≡ true
  unfolding among made_from is_empty slot_mother slot_birth Made
  made_among c m ids [] a h = absurd h
  made_among c m ids (empty ∷ l) a h = made_among c m ids l a h
  made_among c m ids (cap o r b i j ∷ l) a (inl e) = rw (e.0, a, e.1, eq-eqb c c refl) refl
  made_among c m ids (cap o r b i j ∷ l) a (inr h) =
      elim (cases_Bool (among j ids)) [
        | inl e ↦ rw e (or_right (eqb c i) (among c (made_from Cpu fresh act ids l)) (made_among c m ids l a h))
        | inr e ↦ rw e (made_among c m ids l a h)
      ]

  -- offspring in n steps of a lineage, in the world's words
  module _ (w : World Cpu) where
    offspring_comes : (n k : ℕ) (ids : List ℕ) → among k (offspring Cpu fresh act w n ids) ≡ true → (a : ℕ) × (among a ids ≡ true) × Comes w.lineage a k
    unfolding offspring among
    offspring_comes zero k ids h = absurd (both_ways false refl h)
    offspring_comes (suc n) k ids h =
        let now : List ℕ = made_from Cpu fresh act ids w.lineage in
        elim (or_cases (among k now) (among k (offspring Cpu fresh act w n now)) (sym (among_append k now (offspring Cpu fresh act w n now)) ∙ h)) [
          | inl e ↦ (let t = among_made k ids w.lineage e in (t.0, t.1, first t.2))
          | inr e ↦
              (let t = offspring_comes n k now e in
              let s = among_made t.0 ids w.lineage t.1 in (s.0, s.1, before w.lineage s.0 t.0 k s.2 t.2))
        ]

    comes_offspring : (top : ℕ) → Orderly top w.lineage → (n a k : ℕ) (ids : List ℕ) → among a ids ≡ true → Comes w.lineage a k → k ≤ a + n → among k (offspring Cpu fresh act w n ids) ≡ true
    unfolding offspring among
    comes_offspring top o zero a k ids i h b = let q = comes_less top w.lineage o a k h in absurd (omega arith)
    comes_offspring top o (suc n) a k ids i h b =
        let now : List ℕ = made_from Cpu fresh act ids w.lineage in
        among_append k now (offspring Cpu fresh act w n now)
        ∙ elim (front w.lineage a k h) [
          | inl e ↦ or_left (among k now) (among k (offspring Cpu fresh act w n now)) (made_among k a ids w.lineage i e)
          | inr t ↦
              (let q = o a t.0 t.1 in
              or_right (among k now) (among k (offspring Cpu fresh act w n now))
              (comes_offspring top o n t.0 k now (made_among t.0 a ids w.lineage i t.1) t.2 (omega arith)))
        ]

    pub offspring_is : (top : ℕ) → Orderly top w.lineage → (j k : ℕ) →
        (among k (offspring Cpu fresh act w top (j ∷ [])) ≡ true → Comes w.lineage j k) × (Comes w.lineage j k → among k (offspring Cpu fresh act w top (j ∷ [])) ≡ true)
    unfolding among
    offspring_is top o j k = (
      λ h. let t = offspring_comes top k (j ∷ []) h in one t.0 (or_cases (eqb t.0 j) false t.1) t.2,
      λ h. let q = comes_less top w.lineage o j k h in comes_offspring top o top j k (j ∷ []) (or_left (eqb j j) false (eq-eqb j j refl)) h (omega arith),
    )
      where
        one : (a : ℕ) → (eqb a j ≡ true) ⊎ (false ≡ true) → Comes w.lineage a k → Comes w.lineage j k
        one a (inl e) h = subst (λ x. Comes w.lineage x k) (eqb-true a j e) h
        one a (inr e) h = absurd (both_ways false refl e)

-- A TEST THAT GOES UP BY MOTHERS: whether the mother is j, or passes the test herself
abbrev pub up_by : ℕ → (ℕ → Bool) → Option ℕ → Bool
up_by j g None = false
up_by j g (Some m) = eqb m j || g m

pub same_truth : (a b : Bool) → (a ≡ true → b ≡ true) → (b ≡ true → a ≡ true) → a ≡ b
same_truth true b f h = sym (f refl)
same_truth false true f h = h refl
same_truth false false f h = refl

module _ (top : ℕ) (lin : List Slot) (o : Orderly top lin) (mother : ℕ → Option ℕ) (j : ℕ) (g : ℕ → Bool)
    (fit : (m c : ℕ) → Made lin m c → mother c ≡ Some m) (back : (m c : ℕ) → mother c ≡ Some m → Made lin m c) (up : (c : ℕ) → g c ≡ up_by j g (mother c)) where
  comes_true : (c : ℕ) → Comes lin j c → g c ≡ true
  comes_true c (first h) = up c ∙ ap (up_by j g) (fit j c h) ∙ or_left (eqb j j) (g j) (eq-eqb j j refl)
  comes_true c (later {b = b} k h) = up c ∙ ap (up_by j g) (fit b c h) ∙ or_right (eqb b j) (g b) (comes_true b k)

  true_by : (n c : ℕ) → c < n → (m : Option ℕ) → mother c ≡ m → ((b : ℕ) → b < c → g b ≡ true → Comes lin j b) → up_by j g m ≡ true → Comes lin j c
  true_by n c l None e again h = absurd (both_ways false refl h)
  true_by n c l (Some m) e again h =
      let b = back m c e in
      elim (or_cases (eqb m j) (g m) h) [
        | inl q ↦ first (subst (λ x. Made lin x c) (eqb-true m j q) b)
        | inr q ↦ later (again m (o m c b).0 q) b
      ]

  true_comes : (n c : ℕ) → c < n → g c ≡ true → Comes lin j c
  true_comes zero c l h = absurd (omega arith)
  true_comes (suc n) c l h = true_by (suc n) c l (mother c) refl (λ b k q. true_comes n b (omega arith) q) (sym (up c) ∙ h)

  pub test_is : (Cpu : Type 0) (fresh : ℕ → Cpu) (act : Cpu → (ℕ → ℕ) → Act Cpu) (w : World Cpu) → w.lineage ≡ lin → (c : ℕ) → g c ≡ among c (offspring Cpu fresh act w top (j ∷ []))
  test_is Cpu fresh act w e c =
      let q = offspring_is Cpu fresh act w top (subst (Orderly top) (sym e) o) j c in
      same_truth (g c) (among c (offspring Cpu fresh act w top (j ∷ [])))
      (λ h. q.1 (subst (λ l. Comes l j c) (sym e) (true_comes (suc c) c (omega arith) h)))
      (λ h. comes_true c (subst (λ l. Comes l j c) e (q.0 h)))
