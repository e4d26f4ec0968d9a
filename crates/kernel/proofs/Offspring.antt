-- The world's offspring are those that come from it through the lineage.
use mathlib.Core.Path.{◌≡◌, refl, sym, subst, ◌∙◌}
use mathlib.Core.Logic.{◌⊎◌, inl, inr}
use mathlib.Core.Bool.{true, false, ◌||◌}
use mathlib.Core.List.{List, [], ◌∷◌, ◌++◌}
use Prim.Native.Nat.{ℕ, zero, suc, ◌+◌, ◌≤◌}
use native.Mathlib.Omega.{arith}
use lib.Dec.{eqb}
use borrow.Author.Tests.{eqb-true, eq-eqb}
use Rattle.std.proofs.lemmas.Bool.{cases_Bool}
use Rattle.rights.specs.World.{Slot, empty, cap, among, made_from, offspring, is_empty, slot_mother, slot_birth}
use Rattle.rv32.specs.declared.registers.Cpu.{Cpu}
use Rattle.rv32.specs.Registers.{fresh}
use Rattle.rv32.specs.Execute.{act}
use Rattle.chain.specs.Lineage.{Made, Comes, first, later, Orderly}
use Rattle.chain.proofs.Born.{comes_less}
use Rattle.laws.proofs.Tests.{or_cases, or_first, or_second, no_yes}
use Rattle.kernel.specs.Core.{World}

before : (lin : List Slot) (a b c : ℕ) → Made lin a b → Comes lin b c → Comes lin a c
before lin a b c h (first k) = later (first h) k
before lin a b c h (later {b = x} k l) = later (before lin a b x h k) l

front : (lin : List Slot) (a c : ℕ) → Comes lin a c → (Made lin a c) ⊎ ((x : ℕ) × Made lin a x × Comes lin x c)
front lin a c (first h) = inl h
front lin a c (later {b = b} h k) = elim (front lin a b h) [
  | inl i ↦ inr (b, i, first k)
  | inr t ↦ inr (t.0, t.1, later (t.2) k)
]

among_append : (k : ℕ) (xs ys : List ℕ) → among k (xs ++ ys) ≡ (among k xs || among k ys)
unfolding among
among_append k [] ys = refl
among_append k (x ∷ xs) ys = elim (eqb k x) as (λ t. (t || among k (xs ++ ys)) ≡ ((t || among k xs) || among k ys)) [ true ↦ refl | false ↦ among_append k xs ys ]

among_made : (c : ℕ) (ids : List ℕ) (lin : List Slot) → among c (made_from Cpu fresh act ids lin) ≡ true → (m : ℕ) × (among m ids ≡ true) × Made lin m c
unfolding among made_from is_empty slot_mother slot_birth
among_made c ids [] h = no_yes h
among_made c ids (empty ∷ l) h = among_made c ids l h
among_made c ids (cap o r b i j ∷ l) h = elim (cases_Bool (among j ids)) [
  | inl e ↦ elim (or_cases (eqb c i) (among c (made_from Cpu fresh act ids l)) (rw e at h)) [
    | inl f ↦ (j, e, inl (refl, sym (eqb-true c i f)))
    | inr f ↦ let t = among_made c ids l f in (t.0, t.1, inr (t.2))
  ]
  | inr e ↦ let t = among_made c ids l (rw e at h) in (t.0, t.1, inr (t.2))
]

made_among : (c m : ℕ) (ids : List ℕ) (lin : List Slot) → among m ids ≡ true → Made lin m c → among c (made_from Cpu fresh act ids lin) ≡ true
unfolding among made_from is_empty slot_mother slot_birth
made_among c m ids [] a h = absurd h
made_among c m ids (empty ∷ l) a h = made_among c m ids l a h
made_among c m ids (cap o r b i j ∷ l) a (inl e) = rw (e.0, a, e.1, eq-eqb c c refl) refl
made_among c m ids (cap o r b i j ∷ l) a (inr h) = elim (cases_Bool (among j ids)) [
  | inl e ↦ rw e (or_second (eqb c i) (among c (made_from Cpu fresh act ids l)) (made_among c m ids l a h))
  | inr e ↦ rw e (made_among c m ids l a h)
]

module _ (v : World) where
  offspring_comes : (n k : ℕ) (ids : List ℕ) → among k (offspring Cpu fresh act v n ids) ≡ true → (a : ℕ) × (among a ids ≡ true) × Comes (v.lineage) a k
  unfolding offspring among
  offspring_comes zero k ids h = no_yes h
  offspring_comes (suc n) k ids h =
      let now : List ℕ = made_from Cpu fresh act ids (v.lineage) in
      elim (or_cases (among k now) (among k (offspring Cpu fresh act v n now)) (sym (among_append k now (offspring Cpu fresh act v n now)) ∙ h)) [
        | inl e ↦ let t = among_made k ids (v.lineage) e in (t.0, t.1, first (t.2))
        | inr e ↦ let t = offspring_comes n k now e in let s = among_made (t.0) ids (v.lineage) (t.1) in (s.0, s.1, before (v.lineage) (s.0) (t.0) k (s.2) (t.2))
      ]

  comes_offspring : (top : ℕ) → Orderly top (v.lineage) → (n a k : ℕ) (ids : List ℕ) → among a ids ≡ true → Comes (v.lineage) a k → k ≤ a + n → among k (offspring Cpu fresh act v n ids) ≡ true
  unfolding offspring among
  comes_offspring top o zero a k ids i h b = let q = comes_less top (v.lineage) o a k h in absurd (omega arith)
  comes_offspring top o (suc n) a k ids i h b =
      let now : List ℕ = made_from Cpu fresh act ids (v.lineage) in
      among_append k now (offspring Cpu fresh act v n now) ∙ elim (front (v.lineage) a k h) [
        | inl e ↦ or_first (among k now) (among k (offspring Cpu fresh act v n now)) (made_among k a ids (v.lineage) i e)
        | inr t ↦ let q = o a (t.0) (t.1) in
            or_second (among k now) (among k (offspring Cpu fresh act v n now)) (comes_offspring top o n (t.0) k now (made_among (t.0) a ids (v.lineage) i (t.1)) (t.2) (omega arith))
      ]

  -- THE TIE: the world's offspring are what comes from it
  pub offspring_is : Orderly (v.births) (v.lineage) → (j k : ℕ) →
      (among k (offspring Cpu fresh act v (v.births) (j ∷ [])) ≡ true → Comes (v.lineage) j k) × (Comes (v.lineage) j k → among k (offspring Cpu fresh act v (v.births) (j ∷ [])) ≡ true)
  unfolding among
  offspring_is o j k = (
    λ h. let t = offspring_comes (v.births) k (j ∷ []) h in one (t.0) (or_cases (eqb (t.0) j) false (t.1)) (t.2),
    λ h. let q = comes_less (v.births) (v.lineage) o j k h in comes_offspring (v.births) o (v.births) j k (j ∷ []) (or_first (eqb j j) false (eq-eqb j j refl)) h (omega arith),
  )
    where
      one : (a : ℕ) → (eqb a j ≡ true) ⊎ (false ≡ true) → Comes (v.lineage) a k → Comes (v.lineage) j k
      one a (inl e) h = subst (λ x. Comes (v.lineage) x k) (eqb-true a j e) h
      one a (inr e) h = no_yes e
