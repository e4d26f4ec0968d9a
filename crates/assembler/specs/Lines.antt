-- What a line of a program means: the instruction that its mnemonic names, and its bytes. Assumes nothing: these are definitions.
use Rattle.std.specs.Prelude.{◌≡◌, ℕ, ◌%◌, ◌^◌, List, ℤ, pos, ◌*ℤ◌}
use Rattle.std.specs.Int.{w32, to_le_bytes}
use Rattle.rv32.specs.declared.forms.Operation.{Operation}
use Rattle.rv32.specs.declared.forms.Operation.TheVariants as on
use Rattle.rv32.specs.declared.forms.Comparison.{Comparison}
use Rattle.rv32.specs.declared.forms.Comparison.TheVariants as is
use Rattle.rv32.specs.declared.forms.Width.{Width}
use Rattle.rv32.specs.declared.forms.Width.TheVariants as wide
use Rattle.rv32.specs.declared.forms.Loading.{Loading}
use Rattle.rv32.specs.declared.forms.Loading.TheVariants as read
use Rattle.rv32.specs.declared.forms.Instruction.{Instruction}
use Rattle.rv32.specs.declared.forms.Instruction.TheVariants as rv
use Rattle.rv32.specs.Decode.{decode}
use Rattle.rv32.specs.Encode.{encode, Legal}
use Rattle.assembler.specs.declared.lines.Line.{Line}
use Rattle.assembler.specs.declared.lines.Line.TheVariants.{Li, Lui, Addi, Andi, Slli, Srli, Jalr, Add, Sub, Lw, Lb, Lbu, Sw, Sh, Sb, Beq, Bne, Blt, Bge, Jal, Ecall, Ebreak, Word}

-- an instruction with its fields in range is read back from its word
unfoldable pub ReadBack : Instruction → ℕ → Type 0
ReadBack i w = Legal i → decode w ≡ i

-- the word of an instruction; of one with its fields in range all of it
abbrev pub encoded : Instruction → ℕ
encoded i = encode i % 2 ^ 32

-- an operation with an immediate, and one of two registers
abbrev pub immediate : Operation → ℕ → ℕ → ℤ → ℕ
immediate o rd rs1 i = encoded (rv.OpImm o rd rs1 i)

abbrev pub operation : Operation → ℕ → ℕ → ℕ → ℕ
operation o rd rs1 rs2 = encoded (rv.Op o rd rs1 rs2)

-- a load and a store, with the offset before the base
abbrev pub load : Loading → ℕ → ℤ → ℕ → ℕ
load what rd i rs1 = encoded (rv.Load what rd rs1 i)

abbrev pub store : Width → ℕ → ℤ → ℕ → ℕ
store width rs2 i rs1 = encoded (rv.Store width rs1 rs2 i)

-- how many bytes so many lines are apart
unfoldable pub apart : ℤ → ℤ
apart n = pos 4 *ℤ n

-- a branch by so many lines
abbrev pub branch : Comparison → ℕ → ℕ → ℤ → ℕ
branch t rs1 rs2 n = encoded (rv.Branch t rs1 rs2 (apart n))

-- the word of a line
abbrev pub word : Line → ℕ
word (Li rd i) = immediate on.Add rd 0 i
word (Lui rd i) = encoded (rv.Lui rd i)
word (Addi rd rs1 i) = immediate on.Add rd rs1 i
word (Andi rd rs1 i) = immediate on.And rd rs1 i
word (Slli rd rs1 i) = immediate on.Sll rd rs1 i
word (Srli rd rs1 i) = immediate on.Srl rd rs1 i
word (Jalr rd rs1 i) = encoded (rv.Jalr rd rs1 i)
word (Add rd rs1 rs2) = operation on.Add rd rs1 rs2
word (Sub rd rs1 rs2) = operation on.Sub rd rs1 rs2
word (Lw rd i rs1) = load read.Lw rd i rs1
word (Lb rd i rs1) = load read.Lb rd i rs1
word (Lbu rd i rs1) = load read.Lbu rd i rs1
word (Sw rs2 i rs1) = store wide.Word rs2 i rs1
word (Sh rs2 i rs1) = store wide.Half rs2 i rs1
word (Sb rs2 i rs1) = store wide.Byte rs2 i rs1
word (Beq rs1 rs2 n) = branch is.Eq rs1 rs2 n
word (Bne rs1 rs2 n) = branch is.Ne rs1 rs2 n
word (Blt rs1 rs2 n) = branch is.Lt rs1 rs2 n
word (Bge rs1 rs2 n) = branch is.Ge rs1 rs2 n
word (Jal rd n) = encoded (rv.Jal rd (apart n))
word Ecall = encoded rv.Ecall
word Ebreak = encoded rv.Ebreak
word (Word w) = w

-- its bytes, low bytes first
abbrev pub bytes : Line → List ℕ
bytes l = to_le_bytes w32 (word l)
