-- The formats of RV32I words: fields and immediates, after the RISC-V unprivileged specification.
-- Assumes nothing: these are definitions.
use Rattle.std.specs.Prelude.{ℕ, ◌+◌, ◌-◌, ◌*◌, ◌/◌, ◌%◌, ◌^◌, cond, ℤ, pos, ◌-ℤ◌, nat_lt}
use Rattle.std.specs.Int.{w8, w16, w32}
use Rattle.std.proofs.Common.{to_z, of_z}

-- a word of 32 bits as a signed number, two's complement
abbrev pub signed : ℕ → ℤ
signed a = to_z w32 a

-- a byte and a half word likewise
abbrev pub signed_8 : ℕ → ℤ
signed_8 a = to_z w8 a

abbrev pub signed_16 : ℕ → ℤ
signed_16 a = to_z w16 a

-- a signed number as a word of 32 bits
abbrev pub unsigned : ℤ → ℕ
unsigned z = of_z w32 z

-- bits high to low of a word
abbrev pub bits : ℕ → ℕ → ℕ → ℕ
bits w high low = w / 2 ^ low % 2 ^ (high + 1 - low)

-- a number below 2 * sign as a signed one: its highest bit is its sign
abbrev pub extend : ℕ → ℕ → ℤ
extend sign a = cond (nat_lt a sign) (pos a) (pos a -ℤ pos (2 * sign))

-- the fields, which have their places in every format that has them
abbrev pub opcode : ℕ → ℕ
opcode w = bits w 6 0

-- the register that is written: R, I, U, J
abbrev pub rd : ℕ → ℕ
rd w = bits w 11 7

-- R, I, S, B
abbrev pub funct3 : ℕ → ℕ
funct3 w = bits w 14 12

-- the first register that is read: R, I, S, B
abbrev pub rs1 : ℕ → ℕ
rs1 w = bits w 19 15

-- the second register that is read: R, S, B
abbrev pub rs2 : ℕ → ℕ
rs2 w = bits w 24 20

-- R
abbrev pub funct7 : ℕ → ℕ
funct7 w = bits w 31 25

-- the I-immediate: imm[11:0] in bits 31 to 20
abbrev pub imm_i : ℕ → ℤ
imm_i w = extend (2 ^ 11) (bits w 31 20)

-- the S-immediate: imm[11:5] in bits 31 to 25, imm[4:0] in bits 11 to 7
abbrev pub imm_s : ℕ → ℤ
imm_s w = extend (2 ^ 11) (bits w 31 25 * 2 ^ 5 + bits w 11 7)

-- the B-immediate: imm[12] in bit 31, imm[11] in bit 7, imm[10:5] in bits 30 to 25, imm[4:1] in bits 11 to 8; it is even
abbrev pub imm_b : ℕ → ℤ
imm_b w = extend (2 ^ 12) (bits w 31 31 * 2 ^ 12 + bits w 7 7 * 2 ^ 11 + bits w 30 25 * 2 ^ 5 + bits w 11 8 * 2)

-- the U-immediate: imm[31:12] in bits 31 to 12; its lowest 12 bits are 0
abbrev pub imm_u : ℕ → ℤ
imm_u w = signed (bits w 31 12 * 2 ^ 12)

-- the J-immediate: imm[20] in bit 31, imm[19:12] in bits 19 to 12, imm[11] in bit 20, imm[10:1] in bits 30 to 21; it is even
abbrev pub imm_j : ℕ → ℤ
imm_j w = extend (2 ^ 20) (bits w 31 31 * 2 ^ 20 + bits w 19 12 * 2 ^ 12 + bits w 20 20 * 2 ^ 11 + bits w 30 21 * 2)
