-- How the specification writes each instruction into a word, and that words and instructions go with each other.
-- Assumes nothing: these are definitions and statements.
use Rattle.std.specs.Prelude.{◌≡◌, ℕ, ◌+◌, ◌*◌, ◌/◌, ◌%◌, ◌^◌, ◌<◌, ◌⊎◌, ℤ, pos, negsuc, ◌≢◌}
use Rattle.rv32.specs.declared.forms.Operation.{Operation}
use Rattle.rv32.specs.declared.forms.Operation.TheVariants.{Add, Sub, Sll, Slt, Sltu, Xor, Srl, Sra, Or, And}
use Rattle.rv32.specs.declared.forms.Comparison.{Comparison}
use Rattle.rv32.specs.declared.forms.Comparison.TheVariants.{Eq, Ne, Lt, Ge, Ltu, Geu}
use Rattle.rv32.specs.declared.forms.Width.{Width}
use Rattle.rv32.specs.declared.forms.Width.TheVariants.{Byte, Half, Word}
use Rattle.rv32.specs.declared.forms.Loading.{Loading}
use Rattle.rv32.specs.declared.forms.Loading.TheVariants.{Lb, Lh, Lw, Lbu, Lhu}
use Rattle.rv32.specs.declared.forms.Instruction.{Instruction}
use Rattle.rv32.specs.declared.forms.Instruction.TheVariants.{Lui, Auipc, Jal, Jalr, Branch, Load, Store, OpImm, Op, Fence, Ecall, Ebreak, Illegal}
use Rattle.rv32.specs.Formats.{unsigned, bits}
use Rattle.rv32.specs.Decode.{decode}

-- a word from its six fields, the highest first: the R format
abbrev pub word : ℕ → ℕ → ℕ → ℕ → ℕ → ℕ → ℕ
word f7 rs2 rs1 f3 rd op = f7 * 2 ^ 25 + rs2 * 2 ^ 20 + rs1 * 2 ^ 15 + f3 * 2 ^ 12 + rd * 2 ^ 7 + op

-- the other formats have parts of the immediate, v as 32 bits, in the place of some fields.
-- I: imm[11:0] for funct7 and rs2
abbrev pub word_i : ℕ → ℕ → ℕ → ℕ → ℕ → ℕ
word_i v rs1 f3 rd op = word (bits v 11 5) (bits v 4 0) rs1 f3 rd op

-- S: imm[11:5] for funct7, imm[4:0] for rd
abbrev pub word_s : ℕ → ℕ → ℕ → ℕ → ℕ → ℕ
word_s v rs2 rs1 f3 op = word (bits v 11 5) rs2 rs1 f3 (bits v 4 0) op

-- B: imm[12] and imm[10:5] for funct7, imm[4:1] and imm[11] for rd
abbrev pub word_b : ℕ → ℕ → ℕ → ℕ → ℕ → ℕ
word_b v rs2 rs1 f3 op = word (bits v 12 12 * 2 ^ 6 + bits v 10 5) rs2 rs1 f3 (bits v 4 1 * 2 + bits v 11 11) op

-- U: imm[31:12] for funct7, rs2, rs1 and funct3
abbrev pub word_u : ℕ → ℕ → ℕ → ℕ
word_u v rd op = word (bits v 31 25) (bits v 24 20) (bits v 19 15) (bits v 14 12) rd op

-- J: imm[20], imm[10:1], imm[11] and imm[19:12] for funct7, rs2, rs1 and funct3
abbrev pub word_j : ℕ → ℕ → ℕ → ℕ
word_j v rd op = word (bits v 20 20 * 2 ^ 6 + bits v 10 5) (bits v 4 1 * 2 + bits v 11 11) (bits v 19 15) (bits v 14 12) rd op

-- funct7 of OP and of shifts by an immediate
abbrev pub funct7_of : Operation → ℕ
funct7_of Add = 0x00
funct7_of Sub = 0x20
funct7_of Sll = 0x00
funct7_of Slt = 0x00
funct7_of Sltu = 0x00
funct7_of Xor = 0x00
funct7_of Srl = 0x00
funct7_of Sra = 0x20
funct7_of Or = 0x00
funct7_of And = 0x00

-- funct3 of OP and OP-IMM
abbrev pub funct3_of : Operation → ℕ
funct3_of Add = 0
funct3_of Sub = 0
funct3_of Sll = 1
funct3_of Slt = 2
funct3_of Sltu = 3
funct3_of Xor = 4
funct3_of Srl = 5
funct3_of Sra = 5
funct3_of Or = 6
funct3_of And = 7

-- funct3 of BRANCH
abbrev pub when_code : Comparison → ℕ
when_code Eq = 0
when_code Ne = 1
when_code Lt = 4
when_code Ge = 5
when_code Ltu = 6
when_code Geu = 7

-- funct3 of LOAD
abbrev pub load_code : Loading → ℕ
load_code Lb = 0
load_code Lh = 1
load_code Lw = 2
load_code Lbu = 4
load_code Lhu = 5

-- funct3 of STORE
abbrev pub width_code : Width → ℕ
width_code Byte = 0
width_code Half = 1
width_code Word = 2

-- the word of an instruction
abbrev pub encode : Instruction → ℕ
encode (Lui rd i) = word_u (unsigned i) rd 0x37
encode (Auipc rd i) = word_u (unsigned i) rd 0x17
encode (Jal rd i) = word_j (unsigned i) rd 0x6f
encode (Jalr rd rs1 i) = word_i (unsigned i) rs1 0 rd 0x67
encode (Branch t rs1 rs2 i) = word_b (unsigned i) rs2 rs1 (when_code t) 0x63
encode (Load t rd rs1 i) = word_i (unsigned i) rs1 (load_code t) rd 0x03
encode (Store t rs1 rs2 i) = word_s (unsigned i) rs2 rs1 (width_code t) 0x23
encode (OpImm o rd rs1 i) = word_i (unsigned i) rs1 (funct3_of o) rd 0x13
encode (Op o rd rs1 rs2) = word (funct7_of o) rs2 rs1 (funct3_of o) rd 0x33
encode (Fence rd rs1 o) = word_i o rs1 0 rd 0x0f
encode Ecall = 0x00000073
encode Ebreak = 0x00100073
encode Illegal = 0

-- an immediate from -s to s - 1
abbrev pub Fits : ℕ → ℤ → Type 0
Fits s (pos n) = n < s
Fits s (negsuc n) = n < s

-- one that is a multiple of n
abbrev pub Multiple : ℕ → ℤ → Type 0
Multiple n i = unsigned i % n ≡ 0

-- immediates of OP-IMM: those of shifts are below 32, with 0x400 more for SRAI; there is no SUBI
abbrev pub Allowed : Operation → ℤ → Type 0
Allowed Add i = Unit {0}
Allowed Sub i = ⊥
Allowed Sll i = unsigned i < 32
Allowed Slt i = Unit {0}
Allowed Sltu i = Unit {0}
Allowed Xor i = Unit {0}
Allowed Srl i = unsigned i < 32
Allowed Sra i = unsigned i / 32 ≡ 32
Allowed Or i = Unit {0}
Allowed And i = Unit {0}

-- instructions with their fields in range
abbrev pub Legal : Instruction → Type 0
Legal (Lui rd i) = (rd < 32) × Fits (2 ^ 31) i × Multiple (2 ^ 12) i
Legal (Auipc rd i) = (rd < 32) × Fits (2 ^ 31) i × Multiple (2 ^ 12) i
Legal (Jal rd i) = (rd < 32) × Fits (2 ^ 20) i × Multiple 2 i
Legal (Jalr rd rs1 i) = (rd < 32) × (rs1 < 32) × Fits (2 ^ 11) i
Legal (Branch t rs1 rs2 i) = (rs1 < 32) × (rs2 < 32) × Fits (2 ^ 12) i × Multiple 2 i
Legal (Load t rd rs1 i) = (rd < 32) × (rs1 < 32) × Fits (2 ^ 11) i
Legal (Store t rs1 rs2 i) = (rs1 < 32) × (rs2 < 32) × Fits (2 ^ 11) i
Legal (OpImm o rd rs1 i) = (rd < 32) × (rs1 < 32) × Fits (2 ^ 11) i × Allowed o i
Legal (Op o rd rs1 rs2) = (rd < 32) × (rs1 < 32) × (rs2 < 32)
Legal (Fence rd rs1 o) = (rd < 32) × (rs1 < 32) × (o < 2 ^ 12)
Legal Ecall = Unit {0}
Legal Ebreak = Unit {0}
Legal Illegal = ⊥

-- an instruction's word is a word, and is read as that instruction
abbrev pub ReadsBack : Type 0
ReadsBack = (i : Instruction) → Legal i → (encode i < 2 ^ 32) × (decode (encode i) ≡ i)

-- each word is the word of the instruction that it is read as, or is no instruction's word
abbrev pub Accounts : Type 0
Accounts =
    (w : ℕ) → w < 2 ^ 32 →
    (Legal (decode w) × (encode (decode w) ≡ w)) ⊎ ((decode w ≡ Illegal) × ((i : Instruction) → Legal i → encode i ≢ w))
