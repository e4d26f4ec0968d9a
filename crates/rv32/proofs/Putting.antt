-- Words that go into registers one after the other.
use Rattle.std.proofs.Common.{◌≡◌, ℕ, suc, ◌+◌, ◌-◌, ◌<◌, List, ◌∷◌, ap, arith}
use Rattle.rv32.specs.declared.registers.Cpu.{Cpu}
use Rattle.rv32.specs.Registers.{put, puts}

pub puts_one : (c : Cpu) (n e w : ℕ) (ws : List ℕ) → n < e → puts c n (e - n) (w ∷ ws) ≡ puts (put c n w) (n + 1) (e - (n + 1)) ws
puts_one c n e w ws l =
    let k : e - n ≡ suc (e - (n + 1)) = omega (arith, l) in
    let s : suc n ≡ n + 1 = omega arith in
    rw k (ap (λ m. puts (put c n w) m (e - (n + 1)) ws) s)
