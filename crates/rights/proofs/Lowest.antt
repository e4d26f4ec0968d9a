-- A bit is in the `&` of two numbers where it is in both.
use Rattle.std.proofs.Common.{◌≡◌, ℕ, zero, suc, ◌*◌, ◌^◌, ◌<◌, ◌&&◌, min, eqb, not, arith}
use Rattle.std.proofs.lemmas.Nat.{pow_pos}
use Rattle.std.proofs.lemmas.Nat.Bits.{and_pow, bit_at_and, bit_at-lt}
use Rattle.std.proofs.lemmas.Bool.Decides.{nat_tests}
use Rattle.std.specs.Int.{bit_at}
use Rattle.std.specs.Int.Bits.{bit_and}
use Rattle.rights.specs.Vocabulary.{has}

is_one : (x p : ℕ) → x < 2 → 0 < p → not (eqb (x * p) 0) ≡ eqb x 1
is_one zero p h q = grind (arith, nat_tests)
is_one (suc zero) p h q = grind (arith, nat_tests)
is_one (suc (suc x)) p h q = absurd (omega arith)

one_of_both : (x y : ℕ) → x < 2 → y < 2 → eqb (min x y) 1 ≡ eqb x 1 && eqb y 1
one_of_both zero y h k = grind (arith, nat_tests)
one_of_both (suc x) zero h k = grind (arith, nat_tests)
one_of_both (suc x) (suc y) h k = grind (arith, nat_tests)

-- a bit by its place
has_at : (n k : ℕ) → has n (2 ^ k) ≡ eqb (bit_at n k) 1
has_at n k = rw (and_pow n k) (is_one (bit_at n k) (2 ^ k) (bit_at-lt n k) (pow_pos k))

pub has_both : (k a b : ℕ) → has (bit_and a b) (2 ^ k) ≡ has a (2 ^ k) && has b (2 ^ k)
has_both k a b = rw (has_at (bit_and a b) k, has_at a k, has_at b k, bit_at_and a b k) (one_of_both (bit_at a k) (bit_at b k) (bit_at-lt a k) (bit_at-lt b k))
