-- What is found by halves among numbers that rise.
use Rattle.std.proofs.Common.{◌≡◌, inl, inr, ℕ, ◌+◌, ◌<◌, ◌≤◌, true, false, Some, None, refl, sym, ap, ◌∙◌, zero, suc, ◌∷◌, replicate, get_or, arith}
use Rattle.std.proofs.lemmas.List.{get_or-replicate}
use Rattle.std.proofs.lemmas.Bool.{cases_Bool, cases_eq, cases_lt, eq-eqb, ne_eqb}
use Rattle.std.proofs.lemmas.Bool.Decides.{nat_tests}
use Rattle.std.specs.Prelude.{nat_le}
use Rattle.kernel.specs.Finding.{further, exactly, last_of_32, last_of_64, Rising, Finds, thread_number, line_number, small, CanBeFound}
use Rattle.space.specs.declared.lines.Line.{Line}
use Rattle.space.specs.declared.side.Thread.{Thread}
use Rattle.space.specs.Lines.{fresh}
use Rattle.space.specs.Side.{fresh_thread}

-- i is among the n from at on, and these are among the first of all
abbrev Near : ℕ → ℕ → ℕ → ℕ → Type 0
Near all i n at = (at ≤ i) × (i < at + n) × (at + n ≤ all)

nearer : (f : ℕ → ℕ) (top all o : ℕ) → Rising f top all → o < top → (i : ℕ) → f i ≡ o → (n at : ℕ) → Near all i (n + n) at → Near all i n (further f o n at)
unfolding further
nearer f top all o r h i e n at (a, b, c) =
    elim (cases_Bool (nat_le (f (at + n)) o)) [
      | inl t ↦ rw t (low t)
      | inr t ↦ rw t (high t)
    ]
  where
    low : nat_le (f (at + n)) o ≡ true → Near all i n (at + n)
    low t =
        let k : f (at + n) ≤ o = grind (arith, nat_tests) in
        let up : at + n ≤ i = elim (cases_lt i (at + n)) [
          | inl d ↦ elim (r i (at + n) d (omega arith)) [ inl x ↦ omega arith | inr x ↦ omega arith ]
          | inr d ↦ omega arith
        ] in
        (up, omega arith, omega arith)

    high : nat_le (f (at + n)) o ≡ false → Near all i n at
    high t =
        let k : o < f (at + n) = grind (arith, nat_tests) in
        let down : i < at + n = elim (cases_lt i (at + n)) [
          | inl d ↦ d
          | inr d ↦ elim (cases_lt (at + n) i) [
            | inl x ↦ elim (r (at + n) i x (omega arith)) [ inl y ↦ omega arith | inr y ↦ omega arith ]
            | inr x ↦
                let s : at + n ≡ i = omega arith in
                let y : f (at + n) ≡ f i = ap f s in
                omega arith
          ]
        ] in
        (a, down, omega arith)

not_past : (f : ℕ → ℕ) (o n at : ℕ) → further f o n at ≤ at + n
unfolding further
not_past f o n at =
    elim (cases_Bool (nat_le (f (at + n)) o)) [
      | inl t ↦ rw t (omega arith)
      | inr t ↦ rw t (omega arith)
    ]

few : (f : ℕ → ℕ) (o at : ℕ) → last_of_32 f o at ≤ at + 31
few f o at =
    let a = not_past f o 16 at in
    let b = not_past f o 8 (further f o 16 at) in
    let c = not_past f o 4 (further f o 8 (further f o 16 at)) in
    let d = not_past f o 2 (further f o 4 (further f o 8 (further f o 16 at))) in
    let e = not_past f o 1 (further f o 2 (further f o 4 (further f o 8 (further f o 16 at)))) in
    omega (arith, a, b, c, d, e)

-- one that is among 32 is the last of them that is not above it
last : (f : ℕ → ℕ) (top all o : ℕ) → Rising f top all → o < top → (i : ℕ) → f i ≡ o → (at : ℕ) → Near all i 32 at → last_of_32 f o at ≡ i
last f top all o r h i e at n32 =
    let near = nearer f top all o r h i e in
    let n16 = near 16 at n32 in
    let n8 = near 8 (further f o 16 at) n16 in
    let n4 = near 4 (further f o 8 (further f o 16 at)) n8 in
    let n2 = near 2 (further f o 4 (further f o 8 (further f o 16 at))) n4 in
    let n1 = near 1 (further f o 2 (further f o 4 (further f o 8 (further f o 16 at)))) n2 in
    omega (arith, n1)

-- it is found where it is, and nothing else is found
there : (f : ℕ → ℕ) (o at i : ℕ) → at ≡ i → f i ≡ o → exactly f o at ≡ Some i
there f o at i s e = rw (s, e, eq-eqb o o refl) refl

found : (f : ℕ → ℕ) (o at i : ℕ) → exactly f o at ≡ Some i → (at ≡ i) × (f at ≡ o)
found f o at i e =
    elim (cases_eq (f at) o) [
      | inl k ↦
          let y : exactly f o at ≡ Some at = there f o at at refl k in
          (cc, k)
      | inr n ↦
          let y : exactly f o at ≡ None = rw (ne_eqb (f at) o n) refl in
          cc
    ]

-- what is found is among the first of all
held : (f : ℕ → ℕ) (o all at i : ℕ) → at < all → exactly f o at ≡ Some i → (i < all) × (f i ≡ o)
held f o all at i l e =
    let (s, k) = found f o at i e in
    (omega arith, ap f (sym s) ∙ k)

pub finds : Finds
finds = record {
  threads = λ side o i r l h e.
      let f = thread_number side in
      let near : Near 64 i 32 (further f o 32 0) = nearer f 4294967295 64 o r h i e 32 0 (omega arith, omega arith, omega arith) in
      there f o (last_of_64 f o) i (last f 4294967295 64 o r h i e (further f o 32 0) near) e;
  lines = λ side o i r l h e.
      let f = line_number side in
      there f o (last_of_32 f o 0) i (last f 65535 32 o r h i e 0 (omega arith, omega arith, omega arith)) e;
  no_thread = λ side o i e.
      let f = thread_number side in
      let a = not_past f o 32 0 in
      let b = few f o (further f o 32 0) in
      held f o 64 (last_of_64 f o) i (omega (arith, a, b)) e;
  no_line = λ side o i e.
      let f = line_number side in
      held f o 32 (last_of_32 f o 0) i (omega (arith, few f o 0)) e;
}

-- a list that goes on with d is d after its first, as far as one looks
after_first : {X : Type 0} (x d : X) (n j : ℕ) → 0 < j → j < n + 1 → get_or (x ∷ replicate n d) j d ≡ d
after_first x d n zero z l = absurd (omega arith)
after_first x d n (suc j) z l = get_or-replicate n j d d (omega arith)

pub can_be_found : CanBeFound
can_be_found =
    let t : Rising (thread_number small) 4294967295 64 =
    λ i j l m. inr (ap (λ (t : Thread). t.object) (after_first (fresh_thread 3) (fresh_thread 4294967295) 63 j (omega arith) (omega arith))) in
    let u : Rising (line_number small) 65535 32 =
    λ i j l m. inr (ap (λ (t : Line). t.object) (after_first (fresh 5) (fresh 65535) 31 j (omega arith) (omega arith))) in
    record {
      threads = t;
      lines = u;
      thread = finds.threads small 3 0 t (omega arith) (omega arith) refl;
      line = finds.lines small 5 0 u (omega arith) (omega arith) refl;
    }
