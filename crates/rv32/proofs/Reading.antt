-- For what implements Memory: what is read where bytes are, and where one is not.
use Rattle.std.proofs.Common.{◌≡◌, ℕ, zero, suc, ◌+◌, ◌*◌, ◌%◌, ◌<◌, Bool, true, false, cond, not, ◌&&◌, eqb, Some, None, Option, sym, refl, ap, ◌∙◌, add-zero, arith}
use Rattle.std.proofs.lemmas.Bool.{ne_eqb, eq-eqb, and_left, and_right, cond_both, cond-true, cond-false}
use Rattle.rv32.specs.Execute.{number, there, little, read, aligned}

-- an address that is no multiple
pub aligned_off : (m : ℕ → ℕ) (a n : ℕ) → (a % n ≡ 0 → ⊥) → None ≡ aligned m a n
aligned_off m a n h = sym (cond-false (eqb (a % n) 0) (read m a n) None (ne_eqb (a % n) 0 h))

-- a byte that is not there
not_there : (m : ℕ → ℕ) (a n k : ℕ) → k < n → 256 ≡ m (a + k) → there m a n ≡ false
unfolding there
not_there m a zero k h e = absurd (omega arith)
not_there m a (suc n) zero h e =
    let z : m a ≡ 256 = ap m (sym (add-zero a)) ∙ sym e in
    and_left (not (eqb (m a) 256)) (there m (suc a) n) (rw (eq-eqb (m a) 256 z))
not_there m a (suc n) (suc k) h e =
    let f : a + suc k ≡ suc a + k = omega arith in
    and_right (not (eqb (m a) 256)) (there m (suc a) n) (not_there m (suc a) n k (omega arith) (rw f at e))

pub aligned_none : (m : ℕ → ℕ) (a n k : ℕ) → k < n → 256 ≡ m (a + k) → None ≡ aligned m a n
unfolding read
aligned_none m a n k h e =
    cond_both (eqb (a % n) 0) (read m a n) None (λ o. None ≡ o) (λ t. sym (cond-false (there m a n) (Some (little m a n)) None (not_there m a n k h e))) (λ t. refl)

pub aligned_first : (m : ℕ → ℕ) (a n : ℕ) → 256 ≡ m a → None ≡ aligned m a (suc n)
aligned_first m a n e = aligned_none m a (suc n) 0 (omega arith) (e ∙ ap m (sym (add-zero a)))

-- bytes that are there
byte_there : (b v : ℕ) → b ≡ v → b < 256 → eqb v 256 ≡ false
byte_there b v e h = ne_eqb v 256 (λ f. omega arith)

whole : (m : ℕ → ℕ) (a n v : ℕ) → a % n ≡ 0 → read m a n ≡ Some v → Some v ≡ aligned m a n
whole m a n v h e = sym (cond-true (eqb (a % n) 0) (read m a n) None (eq-eqb (a % n) 0 h) ∙ e)

pub aligned_1 : (m : ℕ → ℕ) (a b : ℕ) → b ≡ m a → b < 256 → Some b ≡ aligned m a 1
unfolding there little read
aligned_1 m a b e h = whole m a 1 b (omega arith) (simp (byte_there b (m a) e h) (ap Some (omega arith)))

pub aligned_2 : (m : ℕ → ℕ) (a b c : ℕ) → a % 2 ≡ 0 → b ≡ m a → c ≡ m (a + 1) → b < 256 → c < 256 → Some (b + 256 * c) ≡ aligned m a 2
unfolding there little read
aligned_2 m a b c z e f h k =
    let f' : c ≡ m (suc a) = f ∙ ap m (omega arith) in
    whole m a 2 (b + 256 * c) z (simp (byte_there b (m a) e h, byte_there c (m (suc a)) f' k) (ap Some (omega arith)))

-- a word is two half words
abbrev pub both : Option ℕ → Option ℕ → Option ℕ
both None y = None
both (Some a) None = None
both (Some a) (Some b) = Some (a + 65536 * b)

both_there : (p q r s : Bool) (a b : ℕ) →
    cond (p && (q && (r && (s && true)))) (Some (a + 65536 * b)) None ≡ both (cond (p && (q && true)) (Some a) None) (cond (r && (s && true)) (Some b) None)
both_there false q r s a b = refl
both_there true false r s a b = refl
both_there true true false s a b = refl
both_there true true true false a b = refl
both_there true true true true a b = refl

halves_from : (m : ℕ → ℕ) (a : ℕ) → a % 4 ≡ 0 → both (aligned m a 2) (aligned m (suc (suc a)) 2) ≡ aligned m a 4
unfolding there little read
halves_from m a z =
    let there : ℕ → Bool = λ k. not (eqb (m k) 256) in
    let p = there a in
    let q = there (suc a) in
    let r = there (suc (suc a)) in
    let s = there (suc (suc (suc a))) in
    simp (eq-eqb (a % 4) 0 z, eq-eqb (a % 2) 0 (omega arith), eq-eqb (suc (suc a) % 2) 0 (omega arith))
    (sym (both_there p q r s (m a + 256 * (m (suc a) + 0)) (m (suc (suc a)) + 256 * (m (suc (suc (suc a))) + 0)))
    ∙ ap (λ (v : ℕ). cond (p && (q && (r && (s && true)))) (Some v) None) (omega arith))

pub halves : (m : ℕ → ℕ) (a : ℕ) → a % 4 ≡ 0 → both (aligned m a 2) (aligned m (a + 2) 2) ≡ aligned m a 4
halves m a z = let e : a + 2 ≡ suc (suc a) = omega arith in rw e (halves_from m a z)

-- one byte, as `byte` answers it
abbrev pub Small : Option ℕ → Type 0
Small None = Unit {0}
Small (Some b) = b < 256

pub aligned_byte : (m : ℕ → ℕ) (a : ℕ) (r : Option ℕ) → Small r → number r ≡ m a → r ≡ aligned m a 1
aligned_byte m a None h e = aligned_first m a 0 e
aligned_byte m a (Some b) h e = aligned_1 m a b e h
