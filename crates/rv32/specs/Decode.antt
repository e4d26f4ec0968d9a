-- Which instruction a word is: the tables of the RISC-V unprivileged specification. Assumes nothing: these are definitions.
use Rattle.std.specs.Prelude.{ℕ, List, [], ◌∷◌, Some, None, Option}
use Rattle.rights.specs.Request.{choose}
use Rattle.rv32.specs.declared.forms.Operation.{Operation}
use Rattle.rv32.specs.declared.forms.Operation.TheVariants.{Add, Sub, Sll, Slt, Sltu, Xor, Srl, Sra, Or, And}
use Rattle.rv32.specs.declared.forms.Comparison.{Comparison}
use Rattle.rv32.specs.declared.forms.Comparison.TheVariants.{Eq, Ne, Lt, Ge, Ltu, Geu}
use Rattle.rv32.specs.declared.forms.Width.{Width}
use Rattle.rv32.specs.declared.forms.Width.TheVariants.{Byte, Half, Word}
use Rattle.rv32.specs.declared.forms.Loading.{Loading}
use Rattle.rv32.specs.declared.forms.Loading.TheVariants.{Lb, Lh, Lw, Lbu, Lhu}
use Rattle.rv32.specs.declared.forms.Instruction.{Instruction}
use Rattle.rv32.specs.declared.forms.Instruction.TheVariants.{Lui, Auipc, Jal, Jalr, Branch, Load, Store, OpImm, Op, Fence, Ecall, Ebreak, Illegal}
use Rattle.rv32.specs.Formats.{bits, opcode, rd, funct3, rs1, rs2, funct7, imm_i, imm_s, imm_b, imm_u, imm_j}

-- BRANCH, by funct3: BEQ, BNE, BLT, BGE, BLTU, BGEU
abbrev pub comparisons : List (ℕ × Option Comparison)
comparisons = (0, Some Eq) ∷ (1, Some Ne) ∷ (4, Some Lt) ∷ (5, Some Ge) ∷ (6, Some Ltu) ∷ (7, Some Geu) ∷ []

-- the comparison with a code, if there is one
abbrev pub comparison : ℕ → Option Comparison
comparison f3 = choose f3 comparisons None

-- LOAD, by funct3: LB, LH, LW, LBU, LHU
abbrev pub loadings : List (ℕ × Option Loading)
loadings = (0, Some Lb) ∷ (1, Some Lh) ∷ (2, Some Lw) ∷ (4, Some Lbu) ∷ (5, Some Lhu) ∷ []

-- the load with a code
abbrev pub loading : ℕ → Option Loading
loading f3 = choose f3 loadings None

-- STORE, by funct3: SB, SH, SW
abbrev pub widths : List (ℕ × Option Width)
widths = (0, Some Byte) ∷ (1, Some Half) ∷ (2, Some Word) ∷ []

-- the store with a code
abbrev pub width_of : ℕ → Option Width
width_of f3 = choose f3 widths None

-- OP-IMM, by funct3: ADDI, SLLI, SLTI, SLTIU, XORI, SRLI or SRAI, ORI, ANDI.
-- A shift has its amount in the lowest 5 bits of the immediate, and bits 31 to 25 as funct7
abbrev pub immediate_operations : ℕ → List (ℕ × Option Operation)
immediate_operations f7 =
    (0, Some Add)
    ∷ (1, choose f7 ((0x00, Some Sll) ∷ []) None)
    ∷ (2, Some Slt)
    ∷ (3, Some Sltu)
    ∷ (4, Some Xor)
    ∷ (5, choose f7 ((0x00, Some Srl) ∷ (0x20, Some Sra) ∷ []) None)
    ∷ (6, Some Or)
    ∷ (7, Some And)
    ∷ []

-- the operation of OP-IMM with two codes
abbrev pub immediate_operation : ℕ → ℕ → Option Operation
immediate_operation f7 f3 = choose f3 (immediate_operations f7) None

-- OP with funct7 0x00, by funct3: ADD, SLL, SLT, SLTU, XOR, SRL, OR, AND
abbrev pub operations_00 : List (ℕ × Option Operation)
operations_00 = (0, Some Add) ∷ (1, Some Sll) ∷ (2, Some Slt) ∷ (3, Some Sltu) ∷ (4, Some Xor) ∷ (5, Some Srl) ∷ (6, Some Or) ∷ (7, Some And) ∷ []

-- OP with funct7 0x20, by funct3: SUB, SRA
abbrev pub operations_20 : List (ℕ × Option Operation)
operations_20 = (0, Some Sub) ∷ (5, Some Sra) ∷ []

-- OP, by funct7
abbrev pub operations : ℕ → List (ℕ × Option Operation)
operations f3 = (0x00, choose f3 operations_00 None) ∷ (0x20, choose f3 operations_20 None) ∷ []

-- the operation of OP with two codes
abbrev pub operation : ℕ → ℕ → Option Operation
operation f7 f3 = choose f7 (operations f3) None

-- an instruction with a part that a table has to have
abbrev pub legal : {X : Type 0} → Option X → (X → Instruction) → Instruction
legal None f = Illegal
legal (Some x) f = f x

-- SYSTEM: ECALL and EBREAK are one word each
abbrev pub system : ℕ → Instruction
system w = choose w ((0x00000073, Ecall) ∷ (0x00100073, Ebreak) ∷ []) Illegal

-- by opcode: LUI, AUIPC, JAL, JALR, BRANCH, LOAD, STORE, OP-IMM, OP, MISC-MEM with FENCE alone, SYSTEM
abbrev pub opcodes : ℕ → List (ℕ × Instruction)
opcodes w =
    (0x37, Lui (rd w) (imm_u w))
    ∷ (0x17, Auipc (rd w) (imm_u w))
    ∷ (0x6f, Jal (rd w) (imm_j w))
    ∷ (0x67, choose (funct3 w) ((0, Jalr (rd w) (rs1 w) (imm_i w)) ∷ []) Illegal)
    ∷ (0x63, legal (comparison (funct3 w)) (λ t. Branch t (rs1 w) (rs2 w) (imm_b w)))
    ∷ (0x03, legal (loading (funct3 w)) (λ t. Load t (rd w) (rs1 w) (imm_i w)))
    ∷ (0x23, legal (width_of (funct3 w)) (λ t. Store t (rs1 w) (rs2 w) (imm_s w)))
    ∷ (0x13, legal (immediate_operation (funct7 w) (funct3 w)) (λ o. OpImm o (rd w) (rs1 w) (imm_i w)))
    ∷ (0x33, legal (operation (funct7 w) (funct3 w)) (λ o. Op o (rd w) (rs1 w) (rs2 w)))
    ∷ (0x0f, choose (funct3 w) ((0, Fence (rd w) (rs1 w) (bits w 31 20)) ∷ []) Illegal)
    ∷ (0x73, system w)
    ∷ []

-- the instruction that a word is
abbrev pub decode : ℕ → Instruction
decode w = choose (opcode w) (opcodes w) Illegal
