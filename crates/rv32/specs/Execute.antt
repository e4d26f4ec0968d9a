-- What each instruction of RV32I does, after the RISC-V unprivileged specification. Assumes nothing: these are definitions.
use Rattle.std.specs.Prelude.{ℕ, zero, suc, ◌+◌, ◌-◌, ◌*◌, ◌/◌, ◌%◌, ◌^◌, Bool, true, false, cond, not, ◌&&◌, List, [], ◌∷◌, ℤ, Some, None, Option, ◌==◌, bit_and, bit_or, bit_xor, int_lt, nat_lt}
use Rattle.std.specs.Int.Signed.{shr_z}
use Rattle.rights.specs.declared.calls.Call.{Call}
use Rattle.rights.specs.Request.{asked, call_of}
use Rattle.rights.specs.World as world
use Rattle.rv32.specs.declared.registers.Cpu.{Cpu}
use Rattle.rv32.specs.declared.forms.Operation.{Operation}
use Rattle.rv32.specs.declared.forms.Operation.TheVariants.{Add, Sub, Sll, Slt, Sltu, Xor, Srl, Sra, Or, And}
use Rattle.rv32.specs.declared.forms.Comparison.{Comparison}
use Rattle.rv32.specs.declared.forms.Comparison.TheVariants.{Eq, Ne, Lt, Ge, Ltu, Geu}
use Rattle.rv32.specs.declared.forms.Width.{Width}
use Rattle.rv32.specs.declared.forms.Width.TheVariants.{Byte, Half, Word}
use Rattle.rv32.specs.declared.forms.Loading.{Loading}
use Rattle.rv32.specs.declared.forms.Loading.TheVariants.{Lb, Lh, Lw, Lbu, Lhu}
use Rattle.rv32.specs.declared.forms.Instruction.{Instruction}
use Rattle.rv32.specs.declared.forms.Instruction.TheVariants.{Lui, Auipc, Jal, Jalr, Branch, Load, Store, OpImm, Op, Fence, Ecall, Ebreak, Illegal}
use Rattle.rv32.specs.declared.steps.Step.{Step}
use Rattle.rv32.specs.declared.steps.Step.TheVariants as step
use Rattle.rv32.specs.Formats.{signed, signed_8, signed_16, unsigned}
use Rattle.rv32.specs.Decode.{decode}
use Rattle.rv32.specs.Registers.{x, put, at, next, gone_on, returned}

-- a test as a number
abbrev pub flag : Bool → ℕ
flag true = 1
flag false = 0

-- what OP makes of rs1 and rs2, and OP-IMM of rs1 and the immediate
abbrev pub result : Operation → ℕ → ℕ → ℕ
-- ADD, ADDI: the sum; overflow is ignored, the low 32 bits are kept
result Add a b = (a + b) % 2 ^ 32
-- SUB: rs2 is taken from rs1; overflow is ignored too
result Sub a b = (a + (2 ^ 32 - b)) % 2 ^ 32
-- SLL, SLLI: to the left, zeros come in, by the lowest 5 bits of the second
result Sll a b = (a * 2 ^ (b % 32)) % 2 ^ 32
-- SLT, SLTI: 1 if the first is less, both as signed numbers, else 0
result Slt a b = flag (int_lt (signed a) (signed b))
-- SLTU, SLTIU: the same of unsigned numbers; the immediate is sign-extended first
result Sltu a b = flag (nat_lt a b)
-- XOR, XORI
result Xor a b = bit_xor a b
-- SRL, SRLI: to the right, zeros come in
result Srl a b = a / 2 ^ (b % 32)
-- SRA, SRAI: to the right, copies of the sign bit come in: the signed number divided, rounded down
result Sra a b = unsigned (shr_z (signed a) (2 ^ (b % 32)))
-- OR, ORI
result Or a b = bit_or a b
-- AND, ANDI
result And a b = bit_and a b

-- whether a branch is taken, by rs1 and rs2
abbrev pub taken : Comparison → ℕ → ℕ → Bool
-- BEQ, BNE: equal, unequal
taken Eq a b = a == b
taken Ne a b = not (a == b)
-- BLT, BGE: less, greater or equal, as signed numbers
taken Lt a b = int_lt (signed a) (signed b)
taken Ge a b = not (int_lt (signed a) (signed b))
-- BLTU, BGEU: the same of unsigned numbers
taken Ltu a b = nat_lt a b
taken Geu a b = not (nat_lt a b)

-- a byte that may not be there, as memory shows it: 256 where there is none
abbrev pub number : Option ℕ → ℕ
number None = 256
number (Some b) = b

-- whether n bytes are there, from address a on
unfoldable pub there : (ℕ → ℕ) → ℕ → ℕ → Bool
there m a zero = true
there m a (suc n) = not (m a == 256) && there m (suc a) n

-- their number, low byte first
unfoldable pub little : (ℕ → ℕ) → ℕ → ℕ → ℕ
little m a zero = 0
little m a (suc n) = m a + 256 * little m (suc a) n

-- the number of n bytes, if they are there
unfoldable pub read : (ℕ → ℕ) → ℕ → ℕ → Option ℕ
read m a n = cond (there m a n) (Some (little m a n)) None

-- and if a is a multiple of n
abbrev pub aligned : (ℕ → ℕ) → ℕ → ℕ → Option ℕ
aligned m a n = cond (a % n == 0) (read m a n) None

-- how many bytes a load reads
abbrev pub load_size : Loading → ℕ
load_size Lb = 1
load_size Lh = 2
load_size Lw = 4
load_size Lbu = 1
load_size Lhu = 2

-- what is read, at 32 bits
abbrev pub widened : Loading → ℕ → ℕ
-- LB, LH: sign-extended
widened Lb v = unsigned (signed_8 v)
widened Lh v = unsigned (signed_16 v)
-- LW: as it is
widened Lw v = v
-- LBU, LHU: zero-extended
widened Lbu v = v
widened Lhu v = v

-- the same, if anything was read
abbrev pub widened_if : Loading → Option ℕ → Option ℕ
widened_if t None = None
widened_if t (Some v) = Some (widened t v)

-- what a load reads at an address, if all of it is there
abbrev pub loaded : (ℕ → ℕ) → Loading → ℕ → Option ℕ
loaded m t a = widened_if t (aligned m a (load_size t))

-- how many bytes a store writes
abbrev pub size : Width → ℕ
size Byte = 1
size Half = 2
size Word = 4

-- the low bytes of a word, as SB, SH and SW write them
abbrev pub bytes : Width → ℕ → List ℕ
bytes Byte v = v % 256 ∷ []
bytes Half v = v % 256 ∷ v / 256 % 256 ∷ []
bytes Word v = v % 256 ∷ v / 256 % 256 ∷ v / 65536 % 256 ∷ v / 16777216 % 256 ∷ []

-- rd gets a value, and the next instruction is the one after
abbrev pub write : Cpu → ℕ → ℕ → world.Act Cpu
write c rd v = world.quiet (next (put c rd v))

-- on to a target, which has to be a multiple of 4
abbrev pub go_to : Cpu → ℕ → world.Act Cpu
go_to c target = cond (target % 4 == 0) (world.quiet (at c target)) world.wrong

-- rd gets the address of the instruction after, and on to a target
abbrev pub jump : Cpu → ℕ → ℕ → world.Act Cpu
jump c rd target = go_to (put c rd ((c.pc + 4) % 2 ^ 32)) target

-- on to pc + offset if the branch is taken, else to the instruction after
abbrev pub branch : Cpu → Comparison → ℕ → ℕ → ℤ → world.Act Cpu
branch c when rs1 rs2 offset =
    cond (taken when (x c rs1) (x c rs2)) (go_to c ((c.pc + unsigned offset) % 2 ^ 32)) (world.quiet (next c))

-- rd gets what a load has read
abbrev pub load : Cpu → ℕ → Option ℕ → world.Act Cpu
load c rd None = world.wrong
load c rd (Some v) = write c rd v

-- the low bytes of rs2 go to an address, which has to be a multiple of their number
abbrev pub store : Cpu → Width → ℕ → ℕ → world.Act Cpu
store c w rs2 a = cond (a % size w == 0) (world.store a (bytes w (x c rs2)) (next c)) world.wrong

-- the call that the registers ask for: its number in x17, its arguments in x10 to x15
abbrev pub requested : Cpu → Option Call
requested c = asked (x c 17) (x c 10 ∷ x c 11 ∷ x c 12 ∷ x c 13 ∷ x c 14 ∷ x c 15 ∷ [])

-- a call goes on once words come back; where there is no such call, x10 gets the word no
abbrev pub called : Cpu → Option Call → world.Act Cpu
called c None = write c 10 world.no
called c (Some k) = world.call (call_of k) (returned c)

-- ECALL
abbrev pub ecall : Cpu → world.Act Cpu
ecall c = called c (requested c)

-- what an instruction does
abbrev pub execute : Cpu → (ℕ → ℕ) → Instruction → world.Act Cpu
-- LUI: rd gets the U-immediate
execute c m (Lui rd i) = write c rd (unsigned i)
-- AUIPC: rd gets the pc and the U-immediate, added
execute c m (Auipc rd i) = write c rd ((c.pc + unsigned i) % 2 ^ 32)
-- JAL: to the pc and the J-immediate, added; rd gets pc + 4
execute c m (Jal rd i) = jump c rd ((c.pc + unsigned i) % 2 ^ 32)
-- JALR: to rs1 and the I-immediate, added, the lowest bit set to 0; rd gets pc + 4
execute c m (Jalr rd rs1 i) = jump c rd ((x c rs1 + unsigned i) % 2 ^ 32 / 2 * 2)
-- BEQ, BNE, BLT, BGE, BLTU, BGEU: to the pc and the B-immediate, added, if rs1 and rs2 compare so
execute c m (Branch when rs1 rs2 i) = branch c when rs1 rs2 i
-- LB, LH, LW, LBU, LHU: rd gets what is at rs1 and the I-immediate, added
execute c m (Load what rd rs1 i) = load c rd (loaded m what ((x c rs1 + unsigned i) % 2 ^ 32))
-- SB, SH, SW: the low bytes of rs2 go to rs1 and the S-immediate, added
execute c m (Store w rs1 rs2 i) = store c w rs2 ((x c rs1 + unsigned i) % 2 ^ 32)
-- ADDI, SLTI, SLTIU, XORI, ORI, ANDI, SLLI, SRLI, SRAI: rd gets what is made of rs1 and the I-immediate
execute c m (OpImm o rd rs1 i) = write c rd (result o (x c rs1) (unsigned i))
-- ADD, SUB, SLL, SLT, SLTU, XOR, SRL, SRA, OR, AND: rd gets what is made of rs1 and rs2
execute c m (Op o rd rs1 rs2) = write c rd (result o (x c rs1) (x c rs2))
-- FENCE: nothing; memory is in order already
execute c m (Fence rd rs1 ordering) = world.quiet (next c)
-- ECALL: a call of the kernel
execute c m Ecall = ecall c
-- EBREAK and what is no instruction: wrong
execute c m Ebreak = world.wrong
execute c m Illegal = world.wrong

-- the word that was fetched is executed; where there is none it is wrong
abbrev pub fetched : Cpu → (ℕ → ℕ) → Option ℕ → world.Act Cpu
fetched c m None = world.wrong
fetched c m (Some w) = execute c m (decode w)

-- what a core does next, given the byte at each address, 256 where there is none
abbrev pub act : Cpu → (ℕ → ℕ) → world.Act Cpu
act c m = fetched c m (aligned m c.pc 4)

-- what the code's steps mean in the world
abbrev pub told : Cpu → Step → world.Act Cpu
told c (step.Next n v a) = world.quiet (gone_on c n v a)
told c (step.Store a w v) = world.store a (bytes w v) (next c)
told c (step.Call k) = world.call (call_of k) (returned c)
told c step.Stop = world.wrong
