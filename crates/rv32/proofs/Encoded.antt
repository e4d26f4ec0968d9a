-- The fields of an encoded word are those that went in.
use Rattle.std.proofs.Common.{◌≡◌, ℕ, suc, ◌+◌, ◌-◌, ◌*◌, ◌/◌, ◌%◌, ◌^◌, ◌<◌, ◌≤◌, ℤ, pos, negsuc, Some, refl, ap, ◌∙◌, arith, lit<, lit≤, w32}
use Rattle.std.proofs.lemmas.Int.{ints, to_z-of_z}
use Rattle.std.proofs.lemmas.Bool.{lt-ltb, le-ltb}
use Rattle.rv32.specs.declared.forms.Operation.{Operation}
use Rattle.rv32.specs.declared.forms.Operation.TheVariants.{Add, Sub, Sll, Slt, Sltu, Xor, Srl, Sra, Or, And}
use Rattle.rv32.specs.declared.forms.Instruction.TheVariants.{Lui, Auipc, Jal, Jalr, Branch, Load, Store, OpImm, Op, Fence, Ecall, Ebreak, Illegal}
use Rattle.rv32.specs.declared.forms.Comparison.{Comparison}
use Rattle.rv32.specs.declared.forms.Comparison.TheVariants.{Eq, Ne, Lt, Ge, Ltu, Geu}
use Rattle.rv32.specs.declared.forms.Width.{Width}
use Rattle.rv32.specs.declared.forms.Width.TheVariants.{Byte, Half, Word}
use Rattle.rv32.specs.declared.forms.Loading.{Loading}
use Rattle.rv32.specs.declared.forms.Loading.TheVariants.{Lb, Lh, Lw, Lbu, Lhu}
use Rattle.rv32.specs.Formats.{bits, unsigned, signed, opcode, rd, funct3, rs1, rs2, funct7, extend, imm_i, imm_s, imm_b, imm_u, imm_j}
use Rattle.rv32.specs.Decode.{operation, immediate_operation, comparison, loading, width_of, legal, decode}
use Rattle.rv32.specs.Encode.{word, funct7_of, funct3_of, when_code, width_code, load_code, Fits, Multiple, Allowed, ReadsBack}

pub record Made (w f7 s2 s1 f3 d op : ℕ) : Type 0 where
  pub fits : w < 2 ^ 32
  pub f7_is : funct7 w ≡ f7
  pub s2_is : rs2 w ≡ s2
  pub s1_is : rs1 w ≡ s1
  pub f3_is : funct3 w ≡ f3
  pub d_is : rd w ≡ d
  pub op_is : opcode w ≡ op

pub made : (f7 s2 s1 f3 d op : ℕ) → f7 < 128 → s2 < 32 → s1 < 32 → f3 < 8 → d < 32 → op < 128 → Made (word f7 s2 s1 f3 d op) f7 s2 s1 f3 d op
made f7 s2 s1 f3 d op h7 h2 h1 h3 hd ho =
    record { fits = omega arith; f7_is = omega arith; s2_is = omega arith; s1_is = omega arith; f3_is = omega arith; d_is = omega arith; op_is = omega arith }

pub extend_pos : (s n v : ℕ) → v ≡ n → n < s → extend s v ≡ pos n
extend_pos s n v e h = let l : v < s = omega arith in simp (lt-ltb v s l) (ap pos e)

pub extend_neg : (s n v : ℕ) → v + suc n ≡ 2 * s → n < s → extend s v ≡ negsuc n
extend_neg s n v e h = let l : s ≤ v = omega arith in simp (le-ltb v s l) (omega (arith, ints))

-- the immediates come back
imm_i_back : (w : ℕ) (i : ℤ) → funct7 w ≡ bits (unsigned i) 11 5 → rs2 w ≡ bits (unsigned i) 4 0 → Fits (2 ^ 11) i → imm_i w ≡ i
imm_i_back w (pos n) e f h = extend_pos (2 ^ 11) n (bits w 31 20) (omega arith) h
imm_i_back w (negsuc n) e f h = extend_neg (2 ^ 11) n (bits w 31 20) (omega arith) h

imm_s_back : (w : ℕ) (i : ℤ) → funct7 w ≡ bits (unsigned i) 11 5 → rd w ≡ bits (unsigned i) 4 0 → Fits (2 ^ 11) i → imm_s w ≡ i
imm_s_back w (pos n) e f h = extend_pos (2 ^ 11) n (bits w 31 25 * 2 ^ 5 + bits w 11 7) (omega arith) h
imm_s_back w (negsuc n) e f h = extend_neg (2 ^ 11) n (bits w 31 25 * 2 ^ 5 + bits w 11 7) (omega arith) h

-- the parts of B and of J make up the number
whole_b : (v : ℕ) → v % 2 ≡ 0 → bits v 12 12 * 2 ^ 12 + bits v 11 11 * 2 ^ 11 + bits v 10 5 * 2 ^ 5 + bits v 4 1 * 2 ≡ v % 2 ^ 13
whole_b v z =
    let a : v % 2 ^ 13 ≡ bits v 12 12 * 2 ^ 12 + v % 2 ^ 12 = omega arith in
    let b : v % 2 ^ 12 ≡ bits v 11 11 * 2 ^ 11 + v % 2 ^ 11 = omega arith in
    let c : v % 2 ^ 11 ≡ bits v 10 5 * 2 ^ 5 + v % 2 ^ 5 = omega arith in
    let d : v % 2 ^ 5 ≡ bits v 4 1 * 2 + v % 2 = omega arith in
    omega (arith, z)

whole_j : (v : ℕ) → v % 2 ≡ 0 → bits v 20 20 * 2 ^ 20 + bits v 19 12 * 2 ^ 12 + bits v 11 11 * 2 ^ 11 + bits v 10 1 * 2 ≡ v % 2 ^ 21
whole_j v z =
    let a : v % 2 ^ 21 ≡ bits v 20 20 * 2 ^ 20 + v % 2 ^ 20 = omega arith in
    let b : v % 2 ^ 20 ≡ bits v 19 12 * 2 ^ 12 + v % 2 ^ 12 = omega arith in
    let c : v % 2 ^ 12 ≡ bits v 11 11 * 2 ^ 11 + v % 2 ^ 11 = omega arith in
    let d : v % 2 ^ 11 ≡ bits v 10 1 * 2 + v % 2 = omega arith in
    omega (arith, z)

-- a field of two parts
top_parts : (w a b : ℕ) → w / 2 ^ 25 % 2 ^ 7 ≡ a * 2 ^ 6 + b → a < 2 → b < 64 → (w / 2 ^ 31 % 2 ≡ a) × (w / 2 ^ 25 % 64 ≡ b)
top_parts w a b e h k = (omega arith, omega arith)

rd_parts : (w a b : ℕ) → w / 2 ^ 7 % 2 ^ 5 ≡ a * 2 + b → a < 16 → b < 2 → (w / 2 ^ 8 % 16 ≡ a) × (w / 2 ^ 7 % 2 ≡ b)
rd_parts w a b e h k = (omega arith, omega arith)

rs2_parts : (w a b : ℕ) → w / 2 ^ 20 % 2 ^ 5 ≡ a * 2 + b → a < 16 → b < 2 → (w / 2 ^ 21 % 16 ≡ a) × (w / 2 ^ 20 % 2 ≡ b)
rs2_parts w a b e h k = (omega arith, omega arith)

sum_b : (a b c d a' b' c' d' : ℕ) → a ≡ a' → b ≡ b' → c ≡ c' → d ≡ d' → a * 2 ^ 12 + b * 2 ^ 11 + c * 2 ^ 5 + d * 2 ≡ a' * 2 ^ 12 + b' * 2 ^ 11 + c' * 2 ^ 5 + d' * 2
sum_b a b c d a' b' c' d' p q r s = cc

sum_j : (a b c d a' b' c' d' : ℕ) → a ≡ a' → b ≡ b' → c ≡ c' → d ≡ d' → a * 2 ^ 20 + b * 2 ^ 12 + c * 2 ^ 11 + d * 2 ≡ a' * 2 ^ 20 + b' * 2 ^ 12 + c' * 2 ^ 11 + d' * 2
sum_j a b c d a' b' c' d' p q r s = cc

read_b : (w v : ℕ) → funct7 w ≡ bits v 12 12 * 2 ^ 6 + bits v 10 5 → rd w ≡ bits v 4 1 * 2 + bits v 11 11 → v % 2 ≡ 0 →
    bits w 31 31 * 2 ^ 12 + bits w 7 7 * 2 ^ 11 + bits w 30 25 * 2 ^ 5 + bits w 11 8 * 2 ≡ v % 2 ^ 13
read_b w v e f z =
    let t = top_parts w (bits v 12 12) (bits v 10 5) e (omega arith) (omega arith) in
    let u = rd_parts w (bits v 4 1) (bits v 11 11) f (omega arith) (omega arith) in
    sum_b (bits w 31 31) (bits w 7 7) (bits w 30 25) (bits w 11 8) (bits v 12 12) (bits v 11 11) (bits v 10 5) (bits v 4 1) t.0 u.1 t.1 u.0 ∙ whole_b v z

middle_j : (w v : ℕ) → w / 2 ^ 15 % 2 ^ 5 ≡ bits v 19 15 → w / 2 ^ 12 % 2 ^ 3 ≡ bits v 14 12 → bits w 19 12 ≡ bits v 19 12
middle_j w v e f = omega arith

low_j : (w v : ℕ) → w / 2 ^ 25 % 64 ≡ bits v 10 5 → w / 2 ^ 21 % 16 ≡ bits v 4 1 → bits w 30 21 ≡ bits v 10 1
low_j w v e f = omega arith

read_j : (w v : ℕ) → funct7 w ≡ bits v 20 20 * 2 ^ 6 + bits v 10 5 → rs2 w ≡ bits v 4 1 * 2 + bits v 11 11 → rs1 w ≡ bits v 19 15 → funct3 w ≡ bits v 14 12 → v % 2 ≡ 0 →
    bits w 31 31 * 2 ^ 20 + bits w 19 12 * 2 ^ 12 + bits w 20 20 * 2 ^ 11 + bits w 30 21 * 2 ≡ v % 2 ^ 21
read_j w v e f g h z =
    let t = top_parts w (bits v 20 20) (bits v 10 5) e (omega arith) (omega arith) in
    let u = rs2_parts w (bits v 4 1) (bits v 11 11) f (omega arith) (omega arith) in
    sum_j (bits w 31 31) (bits w 19 12) (bits w 20 20) (bits w 30 21) (bits v 20 20) (bits v 19 12) (bits v 11 11) (bits v 10 1) t.0 (middle_j w v g h) u.1 (low_j w v t.1 u.0)
    ∙ whole_j v z

imm_b_back : (w : ℕ) (i : ℤ) → funct7 w ≡ bits (unsigned i) 12 12 * 2 ^ 6 + bits (unsigned i) 10 5 → rd w ≡ bits (unsigned i) 4 1 * 2 + bits (unsigned i) 11 11 → Fits (2 ^ 12) i → Multiple 2 i → imm_b w ≡ i
imm_b_back w (pos n) e f h v = extend_pos (2 ^ 12) n _ (read_b w n e f v ∙ omega arith) h
imm_b_back w (negsuc n) e f h v = let r = read_b w (2 ^ 32 - suc n) e f v in extend_neg (2 ^ 12) n (bits w 31 31 * 2 ^ 12 + bits w 7 7 * 2 ^ 11 + bits w 30 25 * 2 ^ 5 + bits w 11 8 * 2) (rw r (omega arith)) h

imm_j_back : (w : ℕ) (i : ℤ) → funct7 w ≡ bits (unsigned i) 20 20 * 2 ^ 6 + bits (unsigned i) 10 5 → rs2 w ≡ bits (unsigned i) 4 1 * 2 + bits (unsigned i) 11 11 →
    rs1 w ≡ bits (unsigned i) 19 15 → funct3 w ≡ bits (unsigned i) 14 12 → Fits (2 ^ 20) i → Multiple 2 i → imm_j w ≡ i
imm_j_back w (pos n) e f a b h v = extend_pos (2 ^ 20) n _ (read_j w n e f a b v ∙ omega arith) h
imm_j_back w (negsuc n) e f a b h v = let r = read_j w (2 ^ 32 - suc n) e f a b v in extend_neg (2 ^ 20) n (bits w 31 31 * 2 ^ 20 + bits w 19 12 * 2 ^ 12 + bits w 20 20 * 2 ^ 11 + bits w 30 21 * 2) (rw r (omega arith)) h

signed_back : (i : ℤ) → Fits (2 ^ 31) i → signed (unsigned i) ≡ i
signed_back (pos n) h = to_z-of_z w32 (pos n) (record { sfits = h })
signed_back (negsuc n) h = to_z-of_z w32 (negsuc n) (record { sfits = h })

read_u : (w v : ℕ) → funct7 w ≡ bits v 31 25 → rs2 w ≡ bits v 24 20 → rs1 w ≡ bits v 19 15 → funct3 w ≡ bits v 14 12 → v < 2 ^ 32 → v % 2 ^ 12 ≡ 0 → bits w 31 12 * 2 ^ 12 ≡ v
read_u w v e f a b h z = omega arith

pub unsigned_word : (s : ℕ) (i : ℤ) → s ≤ 2 ^ 31 → Fits s i → unsigned i < 2 ^ 32
unsigned_word s (pos n) k h = omega arith
unsigned_word s (negsuc n) k h = omega arith

imm_u_back : (w : ℕ) (i : ℤ) → funct7 w ≡ bits (unsigned i) 31 25 → rs2 w ≡ bits (unsigned i) 24 20 → rs1 w ≡ bits (unsigned i) 19 15 → funct3 w ≡ bits (unsigned i) 14 12 →
    Fits (2 ^ 31) i → Multiple (2 ^ 12) i → imm_u w ≡ i
imm_u_back w i e f a b h z = ap signed (read_u w (unsigned i) e f a b (unsigned_word (2 ^ 31) i (lit≤ tt) h) z) ∙ signed_back i h

-- the tables come back
operation_back : (o : Operation) → operation (funct7_of o) (funct3_of o) ≡ Some o
operation_back o = elim o as (λ o. operation (funct7_of o) (funct3_of o) ≡ Some o) [ Add ↦ refl | Sub ↦ refl | Sll ↦ refl | Slt ↦ refl | Sltu ↦ refl | Xor ↦ refl | Srl ↦ refl | Sra ↦ refl | Or ↦ refl | And ↦ refl ]

comparison_back : (t : Comparison) → comparison (when_code t) ≡ Some t
comparison_back t = elim t as (λ t. comparison (when_code t) ≡ Some t) [ Eq ↦ refl | Ne ↦ refl | Lt ↦ refl | Ge ↦ refl | Ltu ↦ refl | Geu ↦ refl ]

loading_back : (t : Loading) → loading (load_code t) ≡ Some t
loading_back t = elim t as (λ t. loading (load_code t) ≡ Some t) [ Lb ↦ refl | Lh ↦ refl | Lw ↦ refl | Lbu ↦ refl | Lhu ↦ refl ]

width_back : (t : Width) → width_of (width_code t) ≡ Some t
width_back t = elim t as (λ t. width_of (width_code t) ≡ Some t) [ Byte ↦ refl | Half ↦ refl | Word ↦ refl ]

-- each instruction comes back
back_r : (w : ℕ) (o : Operation) (d s1 s2 : ℕ) → Made w (funct7_of o) s2 s1 (funct3_of o) d 0x33 → decode w ≡ Op o d s1 s2
back_r w o d s1 s2 m =
    let r : decode w ≡ legal (operation (funct7 w) (funct3 w)) (λ o. Op o (rd w) (rs1 w) (rs2 w)) = simp m.op_is in
    let f : operation (funct7 w) (funct3 w) ≡ Some o = ap (λ a. operation a (funct3 w)) m.f7_is ∙ ap (operation (funct7_of o)) m.f3_is ∙ operation_back o in
    let g : Op o (rd w) (rs1 w) (rs2 w) ≡ Op o d s1 s2 = cc in
    r ∙ ap (λ z. legal z (λ o. Op o (rd w) (rs1 w) (rs2 w))) f ∙ g

back_s : (w : ℕ) (t : Width) (s1 s2 : ℕ) (i : ℤ) → Made w (bits (unsigned i) 11 5) s2 s1 (width_code t) (bits (unsigned i) 4 0) 0x23 → Fits (2 ^ 11) i → decode w ≡ Store t s1 s2 i
back_s w t s1 s2 i m h =
    let r : decode w ≡ legal (width_of (funct3 w)) (λ t. Store t (rs1 w) (rs2 w) (imm_s w)) = simp m.op_is in
    let f : width_of (funct3 w) ≡ Some t = ap width_of m.f3_is ∙ width_back t in
    let j : imm_s w ≡ i = imm_s_back w i m.f7_is m.d_is h in
    let g : Store t (rs1 w) (rs2 w) (imm_s w) ≡ Store t s1 s2 i = cc in
    r ∙ ap (λ z. legal z (λ t. Store t (rs1 w) (rs2 w) (imm_s w))) f ∙ g

back_b : (w : ℕ) (t : Comparison) (s1 s2 : ℕ) (i : ℤ) → Made w (bits (unsigned i) 12 12 * 2 ^ 6 + bits (unsigned i) 10 5) s2 s1 (when_code t) (bits (unsigned i) 4 1 * 2 + bits (unsigned i) 11 11) 0x63 →
    Fits (2 ^ 12) i → Multiple 2 i → decode w ≡ Branch t s1 s2 i
back_b w t s1 s2 i m h v =
    let r : decode w ≡ legal (comparison (funct3 w)) (λ t. Branch t (rs1 w) (rs2 w) (imm_b w)) = simp m.op_is in
    let f : comparison (funct3 w) ≡ Some t = ap comparison m.f3_is ∙ comparison_back t in
    let j : imm_b w ≡ i = imm_b_back w i m.f7_is m.d_is h v in
    let g : Branch t (rs1 w) (rs2 w) (imm_b w) ≡ Branch t s1 s2 i = cc in
    r ∙ ap (λ z. legal z (λ t. Branch t (rs1 w) (rs2 w) (imm_b w))) f ∙ g

back_l : (w : ℕ) (t : Loading) (d s1 : ℕ) (i : ℤ) → Made w (bits (unsigned i) 11 5) (bits (unsigned i) 4 0) s1 (load_code t) d 0x03 → Fits (2 ^ 11) i → decode w ≡ Load t d s1 i
back_l w t d s1 i m h =
    let r : decode w ≡ legal (loading (funct3 w)) (λ t. Load t (rd w) (rs1 w) (imm_i w)) = simp m.op_is in
    let f : loading (funct3 w) ≡ Some t = ap loading m.f3_is ∙ loading_back t in
    let j : imm_i w ≡ i = imm_i_back w i m.f7_is m.s2_is h in
    let g : Load t (rd w) (rs1 w) (imm_i w) ≡ Load t d s1 i = cc in
    r ∙ ap (λ z. legal z (λ t. Load t (rd w) (rs1 w) (imm_i w))) f ∙ g

back_jalr : (w : ℕ) (d s1 : ℕ) (i : ℤ) → Made w (bits (unsigned i) 11 5) (bits (unsigned i) 4 0) s1 0 d 0x67 → Fits (2 ^ 11) i → decode w ≡ Jalr d s1 i
back_jalr w d s1 i m h =
    let r : decode w ≡ Jalr (rd w) (rs1 w) (imm_i w) = simp (m.op_is, m.f3_is) in
    let j : imm_i w ≡ i = imm_i_back w i m.f7_is m.s2_is h in
    let g : Jalr (rd w) (rs1 w) (imm_i w) ≡ Jalr d s1 i = cc in
    r ∙ g

back_jal : (w : ℕ) (d : ℕ) (i : ℤ) → Made w (bits (unsigned i) 20 20 * 2 ^ 6 + bits (unsigned i) 10 5) (bits (unsigned i) 4 1 * 2 + bits (unsigned i) 11 11) (bits (unsigned i) 19 15) (bits (unsigned i) 14 12) d 0x6f →
    Fits (2 ^ 20) i → Multiple 2 i → decode w ≡ Jal d i
back_jal w d i m h v =
    let r : decode w ≡ Jal (rd w) (imm_j w) = simp m.op_is in
    let j : imm_j w ≡ i = imm_j_back w i m.f7_is m.s2_is m.s1_is m.f3_is h v in
    let g : Jal (rd w) (imm_j w) ≡ Jal d i = cc in
    r ∙ g

back_lui : (w d : ℕ) (i : ℤ) → Made w (bits (unsigned i) 31 25) (bits (unsigned i) 24 20) (bits (unsigned i) 19 15) (bits (unsigned i) 14 12) d 0x37 →
    Fits (2 ^ 31) i → Multiple (2 ^ 12) i → decode w ≡ Lui d i
back_lui w d i m h z =
    let r : decode w ≡ Lui (rd w) (imm_u w) = simp m.op_is in
    let j : imm_u w ≡ i = imm_u_back w i m.f7_is m.s2_is m.s1_is m.f3_is h z in
    let g : Lui (rd w) (imm_u w) ≡ Lui d i = cc in
    r ∙ g

back_auipc : (w d : ℕ) (i : ℤ) → Made w (bits (unsigned i) 31 25) (bits (unsigned i) 24 20) (bits (unsigned i) 19 15) (bits (unsigned i) 14 12) d 0x17 →
    Fits (2 ^ 31) i → Multiple (2 ^ 12) i → decode w ≡ Auipc d i
back_auipc w d i m h z =
    let r : decode w ≡ Auipc (rd w) (imm_u w) = simp m.op_is in
    let j : imm_u w ≡ i = imm_u_back w i m.f7_is m.s2_is m.s1_is m.f3_is h z in
    let g : Auipc (rd w) (imm_u w) ≡ Auipc d i = cc in
    r ∙ g

back_fence : (w d s1 o : ℕ) → Made w (bits o 11 5) (bits o 4 0) s1 0 d 0x0f → o < 2 ^ 12 → decode w ≡ Fence d s1 o
back_fence w d s1 o m h =
    let r : decode w ≡ Fence (rd w) (rs1 w) (bits w 31 20) = simp (m.op_is, m.f3_is) in
    let k = m.f7_is in
    let l = m.s2_is in
    let j : bits w 31 20 ≡ o = omega arith in
    let g : Fence (rd w) (rs1 w) (bits w 31 20) ≡ Fence d s1 o = cc in
    r ∙ g

-- of OP-IMM: funct7 counts for shifts alone, and is what the immediate has there
immediate_back : (f7 : ℕ) (o : Operation) (i : ℤ) → f7 ≡ bits (unsigned i) 11 5 → Allowed o i → immediate_operation f7 (funct3_of o) ≡ Some o
immediate_back f7 Add i e h = refl
immediate_back f7 Sub i e h = absurd h
immediate_back f7 Sll i e h = let z : f7 ≡ 0 = omega arith in simp z
immediate_back f7 Slt i e h = refl
immediate_back f7 Sltu i e h = refl
immediate_back f7 Xor i e h = refl
immediate_back f7 Srl i e h = let z : f7 ≡ 0 = omega arith in simp z
immediate_back f7 Sra i e h = let z : f7 ≡ 0x20 = omega arith in simp z
immediate_back f7 Or i e h = refl
immediate_back f7 And i e h = refl

back_imm : (w : ℕ) (o : Operation) (d s1 : ℕ) (i : ℤ) → Made w (bits (unsigned i) 11 5) (bits (unsigned i) 4 0) s1 (funct3_of o) d 0x13 → Fits (2 ^ 11) i → Allowed o i →
    decode w ≡ OpImm o d s1 i
back_imm w o d s1 i m h a =
    let r : decode w ≡ legal (immediate_operation (funct7 w) (funct3 w)) (λ o. OpImm o (rd w) (rs1 w) (imm_i w)) = simp m.op_is in
    let f : immediate_operation (funct7 w) (funct3 w) ≡ Some o = ap (immediate_operation (funct7 w)) m.f3_is ∙ immediate_back (funct7 w) o i m.f7_is a in
    let j : imm_i w ≡ i = imm_i_back w i m.f7_is m.s2_is h in
    let g : OpImm o (rd w) (rs1 w) (imm_i w) ≡ OpImm o d s1 i = cc in
    r ∙ ap (λ z. legal z (λ o. OpImm o (rd w) (rs1 w) (imm_i w))) f ∙ g

-- codes are small
f7_small : (o : Operation) → funct7_of o < 128
f7_small o = elim o as (λ o. funct7_of o < 128) [ Add ↦ lit< tt | Sub ↦ lit< tt | Sll ↦ lit< tt | Slt ↦ lit< tt | Sltu ↦ lit< tt | Xor ↦ lit< tt | Srl ↦ lit< tt | Sra ↦ lit< tt | Or ↦ lit< tt | And ↦ lit< tt ]

f3_small : (o : Operation) → funct3_of o < 8
f3_small o = elim o as (λ o. funct3_of o < 8) [ Add ↦ lit< tt | Sub ↦ lit< tt | Sll ↦ lit< tt | Slt ↦ lit< tt | Sltu ↦ lit< tt | Xor ↦ lit< tt | Srl ↦ lit< tt | Sra ↦ lit< tt | Or ↦ lit< tt | And ↦ lit< tt ]

when_small : (t : Comparison) → when_code t < 8
when_small t = elim t as (λ t. when_code t < 8) [ Eq ↦ lit< tt | Ne ↦ lit< tt | Lt ↦ lit< tt | Ge ↦ lit< tt | Ltu ↦ lit< tt | Geu ↦ lit< tt ]

what_small : (t : Loading) → load_code t < 8
what_small t = elim t as (λ t. load_code t < 8) [ Lb ↦ lit< tt | Lh ↦ lit< tt | Lw ↦ lit< tt | Lbu ↦ lit< tt | Lhu ↦ lit< tt ]

width_small : (t : Width) → width_code t < 8
width_small t = elim t as (λ t. width_code t < 8) [ Byte ↦ lit< tt | Half ↦ lit< tt | Word ↦ lit< tt ]

pub reads_back : ReadsBack
reads_back (Lui d i) h =
    let v = unsigned i in
    let m = made (bits v 31 25) (bits v 24 20) (bits v 19 15) (bits v 14 12) d 0x37 (omega arith) (omega arith) (omega arith) (omega arith) h.0 (lit< tt) in
    (m.fits, back_lui _ d i m h.1 h.2)
reads_back (Auipc d i) h =
    let v = unsigned i in
    let m = made (bits v 31 25) (bits v 24 20) (bits v 19 15) (bits v 14 12) d 0x17 (omega arith) (omega arith) (omega arith) (omega arith) h.0 (lit< tt) in
    (m.fits, back_auipc _ d i m h.1 h.2)
reads_back (Jal d i) h =
    let v = unsigned i in
    let m = made (bits v 20 20 * 2 ^ 6 + bits v 10 5) (bits v 4 1 * 2 + bits v 11 11) (bits v 19 15) (bits v 14 12) d 0x6f (omega arith) (omega arith) (omega arith) (omega arith) h.0 (lit< tt) in
    (m.fits, back_jal _ d i m h.1 h.2)
reads_back (Jalr d s1 i) h =
    let v = unsigned i in
    let m = made (bits v 11 5) (bits v 4 0) s1 0 d 0x67 (omega arith) (omega arith) h.1 (lit< tt) h.0 (lit< tt) in
    (m.fits, back_jalr _ d s1 i m h.2)
reads_back (Branch t s1 s2 i) h =
    let v = unsigned i in
    let m = made (bits v 12 12 * 2 ^ 6 + bits v 10 5) s2 s1 (when_code t) (bits v 4 1 * 2 + bits v 11 11) 0x63 (omega arith) h.1 h.0 (when_small t) (omega arith) (lit< tt) in
    (m.fits, back_b _ t s1 s2 i m h.2 h.3)
reads_back (Load t d s1 i) h =
    let v = unsigned i in
    let m = made (bits v 11 5) (bits v 4 0) s1 (load_code t) d 0x03 (omega arith) (omega arith) h.1 (what_small t) h.0 (lit< tt) in
    (m.fits, back_l _ t d s1 i m h.2)
reads_back (Store t s1 s2 i) h =
    let v = unsigned i in
    let m = made (bits v 11 5) s2 s1 (width_code t) (bits v 4 0) 0x23 (omega arith) h.1 h.0 (width_small t) (omega arith) (lit< tt) in
    (m.fits, back_s _ t s1 s2 i m h.2)
reads_back (OpImm o d s1 i) h =
    let v = unsigned i in
    let m = made (bits v 11 5) (bits v 4 0) s1 (funct3_of o) d 0x13 (omega arith) (omega arith) h.1 (f3_small o) h.0 (lit< tt) in
    (m.fits, back_imm _ o d s1 i m h.2 h.3)
reads_back (Op o d s1 s2) h =
    let m = made (funct7_of o) s2 s1 (funct3_of o) d 0x33 (f7_small o) h.2 h.1 (f3_small o) h.0 (lit< tt) in
    (m.fits, back_r _ o d s1 s2 m)
reads_back (Fence d s1 o) h =
    let m = made (bits o 11 5) (bits o 4 0) s1 0 d 0x0f (omega arith) (omega arith) h.1 (lit< tt) h.0 (lit< tt) in
    (m.fits, back_fence _ d s1 o m h.2)
reads_back Ecall h = (lit< tt, refl)
reads_back Ebreak h = (lit< tt, refl)
reads_back Illegal h = absurd h
