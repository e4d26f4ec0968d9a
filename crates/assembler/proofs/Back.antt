-- What was encoded is read back.
use Rattle.std.proofs.Common.{◌≡◌, ℕ, ◌<◌, ◌%◌, ◌^◌, subst, arith}
use Rattle.rv32.specs.declared.forms.Instruction.{Instruction}
use Rattle.rv32.specs.Decode.{decode}
use Rattle.rv32.specs.Encode.{encode, ReadsBack}
use Rattle.assembler.specs.Lines.{ReadBack}

-- a number below another is what is left of it
small : (n m : ℕ) → n < 2 ^ 32 → m ≡ n % 2 ^ 32 → n ≡ m
small n m l e = omega arith

pub read_back : ReadsBack → (i : Instruction) (r : ℕ) → r ≡ encode i % 2 ^ 32 → ReadBack i r
unfolding ReadBack
read_back back i r e l = let h = back i l in subst (λ (n : ℕ). decode n ≡ i) (small (encode i) r h.0 e) h.1
