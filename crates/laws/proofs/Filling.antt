-- Filling up goes to the least multiple that is not below.
use mathlib.Core.Path.{◌≡◌, subst}
use mathlib.Core.Bool.{true, false}
use Prim.Native.Nat.{ℕ, suc, ◌+◌, ◌-◌, ◌*◌, ◌/◌, ◌%◌, ◌≤◌, ◌<◌}
use native.Mathlib.Omega.{arith}
use lib.Dec.{eqb}
use borrow.Author.Tests.{eqb-true, eqb-false}
use Rattle.std.proofs.Math.Nat.{mod-add-div', mod-lt, mul-le-mul_left, mul_comm, suc-mul}
use Rattle.rights.specs.World.{Kind, a_pool, a_table, a_port, a_page, Sizes, step_of, up_to}
use Rattle.rights.specs.Promise.{Multiple, FillsUpLeast}
use Rattle.laws.proofs.Tests.{pick_know, below_or_not}

module _ (s n : ℕ) (pos : 0 < s) where
  q : ℕ
  q = n / s

  r : ℕ
  r = n % s

  is : r + q * s ≡ n
  unfolding r q
  is = mod-add-div' n s

  low : r < s
  unfolding r
  low = mod-lt n pos

  -- what is not below n has as many turns, and one more if something is left
  turns : (k : ℕ) → n ≤ k * s → q ≤ k
  turns k h = below_or_not k q (λ l. let m = mul-le-mul_left s l in let a = mul_comm s (suc k) in let b = mul_comm s q in let c = suc-mul k s in let i = is in absurd (omega arith)) (λ l. l)

  turns_more : (k : ℕ) → n ≤ k * s → (r ≡ 0 → ⊥) → suc q ≤ k
  turns_more k h e = below_or_not q k (λ l. l) (λ l. let m = mul-le-mul_left s l in let a = mul_comm s k in let b = mul_comm s q in let i = is in absurd (omega arith))

  least : Multiple s (up_to s n) × (n ≤ up_to s n) × ((m : ℕ) → Multiple s m → n ≤ m → up_to s n ≤ m)
  unfolding up_to Multiple r q
  least = pick_know (λ (u : ℕ). Multiple s u × (n ≤ u) × ((m : ℕ) → Multiple s m → n ≤ m → u ≤ m)) (eqb (n % s) 0) full left
    where
      full : eqb (n % s) 0 ≡ true → Multiple s n × (n ≤ n) × ((m : ℕ) → Multiple s m → n ≤ m → n ≤ m)
      full e = let i = is in let z : n % s ≡ 0 = eqb-true (n % s) 0 e in ((n / s, omega arith), omega arith, λ m k h. h)

      left : eqb (n % s) 0 ≡ false → Multiple s (n + (s - n % s)) × (n ≤ n + (s - n % s)) × ((m : ℕ) → Multiple s m → n ≤ m → n + (s - n % s) ≤ m)
      left e = let i = is in let l = low in let c = suc-mul q s in (
        (suc (n / s), omega arith),
        omega arith,
        λ m k h.
            let t = turns_more k.0 (subst (λ (i : ℕ). n ≤ i) k.1 h) (eqb-false (n % s) 0 e) in
            let a = mul-le-mul_left s t in let b = mul_comm s (suc q) in let d = mul_comm s k.0 in let g = k.1 in omega arith,
      )

steps : (z : Sizes) (k : Kind) → 1 ≤ z.bytes → 0 < step_of z k
unfolding step_of
steps z (a_pool n) h = h
steps z (a_table n) h = omega arith
steps z a_port h = omega arith
steps z a_page h = h

pub fills_up_least : FillsUpLeast
unfolding FillsUpLeast
fills_up_least = (least, steps)
