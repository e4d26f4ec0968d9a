-- How long what is written is.
use Rattle.std.proofs.Common.{◌≡◌, ℕ, length, length-append, arith}
use Rattle.std.proofs.lemmas.List.{length-replicate}
use Rattle.image_builder.specs.Written.{zeros}
use Rattle.image_tests.specs.Images.{sample}

pub length_zeros : (n : ℕ) → length (zeros n) ≡ n
unfolding zeros
length_zeros n = length-replicate {A = ℕ} n 0

pub length_sample : length sample ≡ 8638
length_sample = simp (length-append, length_zeros) (omega arith)
