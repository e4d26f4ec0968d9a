-- The three lowest bits of a byte mean the rights that the byte means.
use Rattle.std.proofs.Common.{◌≡◌, ℕ, ◌∙◌, Ok, bit_and, ap, arith}
use Rattle.std.proofs.Math.Bool.{and-true}
use Rattle.std.proofs.lemmas.Bool.Decides.{nat_tests}
use Rattle.rights.specs.declared.bits.Rights.{Rights}
use Rattle.rights.specs.Vocabulary.{has, rights_or, rights_of, rights_of_bits}
use Rattle.rights.proofs.Lowest.{has_both}

bits_are : (n : ℕ) (r : Rights) → Ok r ≡ rights_or n → r.bits ≡ n
bits_are n r e = grind (arith, nat_tests)

masked : (n : ℕ) → rights_of_bits (bit_and n 7) ≡ rights_of_bits n
masked n =
    rw (has_both 0 n 7, has_both 1 n 7, has_both 2 n 7, and-true (has n 1), and-true (has n 2), and-true (has n 4))

pub lowest : (n : ℕ) (r : Rights) → Ok r ≡ rights_or (bit_and n 7) → rights_of r ≡ rights_of_bits n
lowest n r e = ap rights_of_bits (bits_are (bit_and n 7) r e) ∙ masked n
