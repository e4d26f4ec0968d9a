-- The registers of RV32I and the pc. Assumes nothing: these are definitions.
use Rattle.std.specs.Prelude.{ℕ, zero, suc, ◌+◌, ◌%◌, ◌^◌, cond, ◌&&◌, List, [], ◌∷◌, replicate, nat_lt, slice_index, slice_set}
use Rattle.rv32.specs.declared.registers.Cpu.{Cpu}

-- a new core: all registers are 0
abbrev pub fresh : ℕ → Cpu
fresh a = record { pc = a; registers = replicate 32 0 }

-- the value of register n; that of x0 is 0
abbrev pub x : Cpu → ℕ → ℕ
x c n = cond (nat_lt 0 n && nat_lt n 32) (slice_index c.registers n) 0

-- a write to register n; one to x0 changes nothing
abbrev pub put : Cpu → ℕ → ℕ → Cpu
put c n v = record { pc = c.pc; registers = cond (nat_lt 0 n && nat_lt n 32) (slice_set c.registers n v) c.registers }

-- the next instruction is at a
abbrev pub at : Cpu → ℕ → Cpu
at c a = record { pc = a; registers = c.registers }

-- the next instruction is the one after this
abbrev pub next : Cpu → Cpu
next c = at c ((c.pc + 4) % 2 ^ 32)

-- register n gets v, and the next instruction is at a
abbrev pub gone_on : Cpu → ℕ → ℕ → ℕ → Cpu
gone_on c n v a = at (put c n v) a

-- up to k words into the registers from n on; the others stay
abbrev pub puts : Cpu → ℕ → ℕ → List ℕ → Cpu
puts c n zero ws = c
puts c n (suc k) [] = c
puts c n (suc k) (w ∷ ws) = puts (put c n w) (suc n) k ws

-- after a call: up to six words into x10 to x15, and on to the next instruction
abbrev pub returned : Cpu → List ℕ → Cpu
returned c ws = next (puts c 10 6 ws)
