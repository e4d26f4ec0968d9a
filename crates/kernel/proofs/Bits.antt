-- Rights as bits and as three marks.
use mathlib.Core.Path.{◌≡◌, refl, sym, ap, ◌∙◌}
use mathlib.Core.Bool.{Bool, true, false, ◌&&◌, cond}
use Prim.Native.Nat.{ℕ, zero, suc, ◌+◌, ◌≤◌}
use native.Mathlib.Omega.{arith}
use Rattle.std.proofs.lemmas.Nat.{and_le_l}
use Rattle.std.specs.Int.Bits.{bit_and}
use Rattle.rights.specs.declared.bits.Rights.{Rights}
use Rattle.rights.specs.Vocabulary.{has, rights_of, met}
use Rattle.rights.specs.World as w
use Rattle.rights.specs.World.{pick, meet}
use Rattle.rights.proofs.Lowest.{has_both}
use Rattle.kernel.specs.Relation.{bits_of}

pub bits_small : (r : w.Rights) → (bits_of r).bits ≤ 7
bits_small r = all r.reads r.writes r.hands
  where
    all : (a b c : Bool) → pick a 1 0 + (pick b 2 0 + pick c 4 0) ≤ 7
    all true true true = omega arith
    all true true false = omega arith
    all true false true = omega arith
    all true false false = omega arith
    all false true true = omega arith
    all false true false = omega arith
    all false false true = omega arith
    all false false false = omega arith

-- the three bits say the three rights
three : (a b c : Bool) → (has (pick a 1 0 + (pick b 2 0 + pick c 4 0)) 1 ≡ a) × (has (pick a 1 0 + (pick b 2 0 + pick c 4 0)) 2 ≡ b) × (has (pick a 1 0 + (pick b 2 0 + pick c 4 0)) 4 ≡ c)
three true true true = (refl, refl, refl)
three true true false = (refl, refl, refl)
three true false true = (refl, refl, refl)
three true false false = (refl, refl, refl)
three false true true = (refl, refl, refl)
three false true false = (refl, refl, refl)
three false false true = (refl, refl, refl)
three false false false = (refl, refl, refl)

pub reads_bits : (r : w.Rights) → (rights_of (bits_of r)).reads ≡ r.reads
reads_bits r = (three r.reads r.writes r.hands).0

pub writes_bits : (r : w.Rights) → (rights_of (bits_of r)).writes ≡ r.writes
writes_bits r = (three r.reads r.writes r.hands).1

pub hands_bits : (r : w.Rights) → (rights_of (bits_of r)).hands ≡ r.hands
hands_bits r = (three r.reads r.writes r.hands).2

-- a number below 8 is its three bits
summed : (n : ℕ) → n ≤ 7 → n ≡ pick (has n 1) 1 0 + (pick (has n 2) 2 0 + pick (has n 4) 4 0)
summed zero h = refl
summed (suc zero) h = refl
summed (suc (suc zero)) h = refl
summed (suc (suc (suc zero))) h = refl
summed (suc (suc (suc (suc zero)))) h = refl
summed (suc (suc (suc (suc (suc zero))))) h = refl
summed (suc (suc (suc (suc (suc (suc zero)))))) h = refl
summed (suc (suc (suc (suc (suc (suc (suc zero))))))) h = refl
summed (suc (suc (suc (suc (suc (suc (suc (suc n)))))))) h = absurd (omega arith)

-- the rights in both, by bits
pub bits_met : (q : w.Rights) (r : Rights) → bits_of (meet q (rights_of r)) ≡ met (bits_of q) r
unfolding meet
bits_met q r =
    let n : ℕ = bit_and (bits_of q).bits r.bits in
    let small : n ≤ 7 = omega (arith, and_le_l (bits_of q).bits r.bits, bits_small q) in
    let a : has n 1 ≡ q.reads && has r.bits 1 = has_both 0 (bits_of q).bits r.bits ∙ ap (λ b. b && has r.bits 1) (reads_bits q) in
    let b : has n 2 ≡ q.writes && has r.bits 2 = has_both 1 (bits_of q).bits r.bits ∙ ap (λ b. b && has r.bits 2) (writes_bits q) in
    let c : has n 4 ≡ q.hands && has r.bits 4 = has_both 2 (bits_of q).bits r.bits ∙ ap (λ b. b && has r.bits 4) (hands_bits q) in
    let e : n ≡ pick (q.reads && has r.bits 1) 1 0 + (pick (q.writes && has r.bits 2) 2 0 + pick (q.hands && has r.bits 4) 4 0) =
    summed n small ∙ ap (λ z. pick z 1 0 + (pick (has n 2) 2 0 + pick (has n 4) 4 0)) a ∙ ap (λ z. pick (q.reads && has r.bits 1) 1 0 + (pick z 2 0 + pick (has n 4) 4 0)) b
    ∙ ap (λ z. pick (q.reads && has r.bits 1) 1 0 + (pick (q.writes && has r.bits 2) 2 0 + pick z 4 0)) c in
    ap (λ z. record { bits = z }) (sym e)

pub pick_cond : {A : Type 0} → (b : Bool) (x y : A) → pick b x y ≡ cond b x y
pick_cond true x y = refl
pick_cond false x y = refl
