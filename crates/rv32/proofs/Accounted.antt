-- Each word is the word of the instruction that it is read as, or of none.
use Rattle.std.proofs.Common.{◌≡◌, ℕ, suc, ◌+◌, ◌-◌, ◌*◌, ◌/◌, ◌%◌, ◌^◌, ◌<◌, ◌≤◌, eqb, ltb, ◌⊎◌, List, [], ◌∷◌, ℤ, pos, negsuc, ◌-ℤ◌, Some, None, Option, sym, refl, ap, ◌∙◌, subst, inl, inr, arith, lit<, w32}
use Rattle.std.proofs.lemmas.Nat.{mod-mul-add}
use Rattle.std.proofs.lemmas.Int.{ints, of_z-to_z}
use Rattle.std.proofs.lemmas.Bool.{cond_both, eqb-true, ltb-true, ltb-false}
use Rattle.std.specs.List.{AllByRecursion}
use Rattle.rights.specs.Request.{choose}
use Rattle.rv32.specs.declared.forms.Operation.{Operation}
use Rattle.rv32.specs.declared.forms.Operation.TheVariants.{Add, Sub, Sll, Slt, Sltu, Xor, Srl, Sra, Or, And}
use Rattle.rv32.specs.declared.forms.Comparison.{Comparison}
use Rattle.rv32.specs.declared.forms.Comparison.TheVariants.{Eq, Ne, Lt, Ge, Ltu, Geu}
use Rattle.rv32.specs.declared.forms.Width.{Width}
use Rattle.rv32.specs.declared.forms.Width.TheVariants.{Byte, Half, Word}
use Rattle.rv32.specs.declared.forms.Loading.{Loading}
use Rattle.rv32.specs.declared.forms.Loading.TheVariants.{Lb, Lh, Lw, Lbu, Lhu}
use Rattle.rv32.specs.declared.forms.Instruction.{Instruction}
use Rattle.rv32.specs.declared.forms.Instruction.TheVariants.{Lui, Auipc, Jal, Jalr, Branch, Load, Store, OpImm, Op, Fence, Ecall, Ebreak, Illegal}
use Rattle.rv32.specs.Formats.{bits, unsigned, signed, opcode, rd, funct3, rs1, rs2, funct7, extend, imm_i, imm_s, imm_b, imm_u, imm_j}
use Rattle.rv32.specs.Decode.{comparisons, comparison, loadings, loading, widths, width_of, immediate_operations, immediate_operation, operations_00, operations_20, operations, operation, legal, system, opcodes, decode}
use Rattle.rv32.specs.Encode.{word, funct7_of, funct3_of, when_code, width_code, load_code, Fits, Multiple, Allowed, Legal, encode, Accounts}
use Rattle.rv32.proofs.Encoded.{reads_back}

-- what holds of each row that fits, and of the default, holds of what is chosen
pub choose_each : {X : Type 0} (P : X → Type 0) (n : ℕ) (rows : List (ℕ × X)) (d : X) → AllByRecursion (λ r. n ≡ r.0 → P r.1) rows → P d → P (choose n rows d)
choose_each P n [] d h k = k
choose_each P n (r ∷ rs) d h k = cond_both (eqb n r.0) r.1 (choose n rs d) P (λ e. h.0 (eqb-true n r.0 e)) (λ e. choose_each P n rs d h.1 k)

-- a word is what its fields make
whole : (w : ℕ) → w < 2 ^ 32 → word (funct7 w) (rs2 w) (rs1 w) (funct3 w) (rd w) (opcode w) ≡ w
whole w h = omega arith

made_of : (w f7 s2 s1 f3 d op : ℕ) → w < 2 ^ 32 → f7 ≡ funct7 w → s2 ≡ rs2 w → s1 ≡ rs1 w → f3 ≡ funct3 w → d ≡ rd w → op ≡ opcode w → word f7 s2 s1 f3 d op ≡ w
made_of w f7 s2 s1 f3 d op h a b c e f g =
    let k : word f7 s2 s1 f3 d op ≡ word (funct7 w) (rs2 w) (rs1 w) (funct3 w) (rd w) (opcode w) = cc in
    k ∙ whole w h

-- an extended number fits, and has the bits that it had
pub record Extended (s v : ℕ) (z : ℤ) : Type 0 where
  pub fits : Fits s z
  pub same : (unsigned z ≡ v) ⊎ (unsigned z + 2 * s ≡ v + 2 ^ 32)
  pub low : v < s → unsigned z ≡ v

extended : (s v : ℕ) → v < 2 * s → s < 2 ^ 31 → Extended s v (extend s v)
extended s v h q =
    cond_both (ltb v s) (pos v) (pos v -ℤ pos (2 * s)) (Extended s v)
    (λ e. record { fits = ltb-true v s e; same = inl refl; low = λ l. refl })
    (λ e.
    let n : s ≤ v = ltb-false v s e in
    let k : pos v -ℤ pos (2 * s) ≡ negsuc (2 * s - v - 1) = omega (arith, ints) in
    rw k record { fits = omega arith; same = inr (omega arith); low = λ l. absurd (omega arith) })

-- a number of k bits, or that less 2 ^ k as a word of 32
mod_bits : (k r u v : ℕ) → v < 2 ^ k → 2 ^ 32 ≡ (r + 1) * 2 ^ k → ((u ≡ v) ⊎ (u + 2 ^ k ≡ v + 2 ^ 32)) → u % 2 ^ k ≡ v
mod_bits k r u v h q (inl e) = let f : u ≡ 0 * 2 ^ k + v = omega arith in rw f (mod-mul-add 0 (2 ^ k) v h)
mod_bits k r u v h q (inr e) = let f : u ≡ r * 2 ^ k + v = omega arith in rw f (mod-mul-add r (2 ^ k) v h)

-- either the word of a legal instruction, or none
abbrev pub Told : ℕ → Instruction → Type 0
Told w i = (Legal i × (encode i ≡ w)) ⊎ (i ≡ Illegal)

-- I
record IsI (w : ℕ) : Type 0 where
  fits : Fits (2 ^ 11) (imm_i w)
  high : bits (unsigned (imm_i w)) 11 5 ≡ funct7 w
  low : bits (unsigned (imm_i w)) 4 0 ≡ rs2 w

is_i : (w : ℕ) → IsI w
is_i w =
    let x = extended (2 ^ 11) (bits w 31 20) (omega arith) (lit< tt) in
    let m : unsigned (imm_i w) % 2 ^ 12 ≡ bits w 31 20 = mod_bits 12 (2 ^ 20 - 1) (unsigned (imm_i w)) (bits w 31 20) (omega arith) refl x.same in
    record { fits = x.fits; high = omega arith; low = omega arith }

told_jalr : (w : ℕ) → w < 2 ^ 32 → opcode w ≡ 0x67 → funct3 w ≡ 0 → Told w (Jalr (rd w) (rs1 w) (imm_i w))
told_jalr w h op f3 =
    let k = is_i w in
    inl ((omega arith, omega arith, k.fits), made_of w _ _ _ _ _ _ h k.high k.low refl (sym f3) refl (sym op))

told_load : (w : ℕ) (t : Loading) → w < 2 ^ 32 → opcode w ≡ 0x03 → funct3 w ≡ load_code t → Told w (Load t (rd w) (rs1 w) (imm_i w))
told_load w t h op f3 =
    let k = is_i w in
    inl ((omega arith, omega arith, k.fits), made_of w _ _ _ _ _ _ h k.high k.low refl (sym f3) refl (sym op))

told_imm : (w : ℕ) (o : Operation) → w < 2 ^ 32 → opcode w ≡ 0x13 → funct3 w ≡ funct3_of o → Allowed o (imm_i w) → Told w (OpImm o (rd w) (rs1 w) (imm_i w))
told_imm w o h op f3 a =
    let k = is_i w in
    inl ((omega arith, omega arith, k.fits, a), made_of w _ _ _ _ _ _ h k.high k.low refl (sym f3) refl (sym op))

-- an immediate whose bits 11 to 5 are those of a shift
shift : (w f7 : ℕ) → funct7 w ≡ f7 → f7 < 64 → unsigned (imm_i w) ≡ f7 * 32 + rs2 w
shift w f7 e h =
    let x = extended (2 ^ 11) (bits w 31 20) (omega arith) (lit< tt) in
    let b : bits w 31 20 < 2 ^ 11 = omega arith in
    x.low b ∙ omega arith

told_sll : (w : ℕ) → w < 2 ^ 32 → opcode w ≡ 0x13 → funct3 w ≡ 1 → funct7 w ≡ 0 → Told w (OpImm Sll (rd w) (rs1 w) (imm_i w))
told_sll w h op f3 f7 = let s = shift w 0 f7 (lit< tt) in told_imm w Sll h op f3 (omega arith)

told_srl : (w : ℕ) → w < 2 ^ 32 → opcode w ≡ 0x13 → funct3 w ≡ 5 → funct7 w ≡ 0 → Told w (OpImm Srl (rd w) (rs1 w) (imm_i w))
told_srl w h op f3 f7 = let s = shift w 0 f7 (lit< tt) in told_imm w Srl h op f3 (omega arith)

told_sra : (w : ℕ) → w < 2 ^ 32 → opcode w ≡ 0x13 → funct3 w ≡ 5 → funct7 w ≡ 0x20 → Told w (OpImm Sra (rd w) (rs1 w) (imm_i w))
told_sra w h op f3 f7 = let s = shift w 0x20 f7 (lit< tt) in told_imm w Sra h op f3 (omega arith)

told_fence : (w : ℕ) → w < 2 ^ 32 → opcode w ≡ 0x0f → funct3 w ≡ 0 → Told w (Fence (rd w) (rs1 w) (bits w 31 20))
told_fence w h op f3 = inl ((omega arith, omega arith, omega arith), made_of w _ _ _ _ _ _ h (omega arith) (omega arith) refl (sym f3) refl (sym op))

-- S
told_store : (w : ℕ) (t : Width) → w < 2 ^ 32 → opcode w ≡ 0x23 → funct3 w ≡ width_code t → Told w (Store t (rs1 w) (rs2 w) (imm_s w))
told_store w t h op f3 =
    let v = bits w 31 25 * 2 ^ 5 + bits w 11 7 in
    let x = extended (2 ^ 11) v (omega arith) (lit< tt) in
    let m : unsigned (imm_s w) % 2 ^ 12 ≡ v = mod_bits 12 (2 ^ 20 - 1) (unsigned (imm_s w)) v (omega arith) refl x.same in
    let p : bits (unsigned (imm_s w)) 11 5 ≡ funct7 w = omega arith in
    let q : bits (unsigned (imm_s w)) 4 0 ≡ rd w = omega arith in
    inl ((omega arith, omega arith, x.fits), made_of w _ _ _ _ _ _ h p refl refl (sym f3) q (sym op))

-- B
record PartsB (u a b c d : ℕ) : Type 0 where
  a_is : bits u 12 12 ≡ a
  b_is : bits u 11 11 ≡ b
  c_is : bits u 10 5 ≡ c
  d_is : bits u 4 1 ≡ d
  even : u % 2 ≡ 0

parts_b : (u a b c d : ℕ) → a < 2 → b < 2 → c < 64 → d < 16 → u % 2 ^ 13 ≡ a * 2 ^ 12 + b * 2 ^ 11 + c * 2 ^ 5 + d * 2 → PartsB u a b c d
parts_b u a b c d ha hb hc hd e = record { a_is = omega arith; b_is = omega arith; c_is = omega arith; d_is = omega arith; even = omega arith }

sum_b_small : (a b c d : ℕ) → a < 2 → b < 2 → c < 64 → d < 16 → a * 2 ^ 12 + b * 2 ^ 11 + c * 2 ^ 5 + d * 2 < 2 ^ 13
sum_b_small a b c d ha hb hc hd = omega arith

-- fields of two parts
top_whole : (w : ℕ) → bits w 31 31 * 2 ^ 6 + bits w 30 25 ≡ funct7 w
top_whole w = omega arith

rd_whole : (w : ℕ) → bits w 11 8 * 2 + bits w 7 7 ≡ rd w
rd_whole w = omega arith

top_whole_j : (w : ℕ) → bits w 31 31 * 2 ^ 6 + bits w 30 21 / 16 ≡ funct7 w
top_whole_j w = omega arith

rs2_whole : (w : ℕ) → bits w 30 21 % 16 * 2 + bits w 20 20 ≡ rs2 w
rs2_whole w = omega arith

told_branch : (w : ℕ) (t : Comparison) → w < 2 ^ 32 → opcode w ≡ 0x63 → funct3 w ≡ when_code t → Told w (Branch t (rs1 w) (rs2 w) (imm_b w))
told_branch w t h op f3 =
    let v = bits w 31 31 * 2 ^ 12 + bits w 7 7 * 2 ^ 11 + bits w 30 25 * 2 ^ 5 + bits w 11 8 * 2 in
    let b : v < 2 ^ 13 = sum_b_small (bits w 31 31) (bits w 7 7) (bits w 30 25) (bits w 11 8) (omega arith) (omega arith) (omega arith) (omega arith) in
    let x = extended (2 ^ 12) v b (lit< tt) in
    let u = unsigned (imm_b w) in
    let k = parts_b u (bits w 31 31) (bits w 7 7) (bits w 30 25) (bits w 11 8) (omega arith) (omega arith) (omega arith) (omega arith) (mod_bits 13 (2 ^ 19 - 1) u v b refl x.same) in
    let p : bits u 12 12 * 2 ^ 6 + bits u 10 5 ≡ funct7 w = simp (k.a_is, k.c_is) (top_whole w) in
    let q : bits u 4 1 * 2 + bits u 11 11 ≡ rd w = simp (k.d_is, k.b_is) (rd_whole w) in
    inl ((omega arith, omega arith, x.fits, k.even), made_of w _ _ _ _ _ _ h p refl refl (sym f3) q (sym op))

-- J
record PartsJ (u a b c d : ℕ) : Type 0 where
  a_is : bits u 20 20 ≡ a
  high_is : bits u 19 15 ≡ b / 8
  low_is : bits u 14 12 ≡ b % 8
  c_is : bits u 11 11 ≡ c
  top_is : bits u 10 5 ≡ d / 16
  rest_is : bits u 4 1 ≡ d % 16
  even : u % 2 ≡ 0

parts_j : (u a b c d : ℕ) → a < 2 → b < 256 → c < 2 → d < 1024 → u % 2 ^ 21 ≡ a * 2 ^ 20 + b * 2 ^ 12 + c * 2 ^ 11 + d * 2 → PartsJ u a b c d
parts_j u a b c d ha hb hc hd e =
    record {
      a_is = omega arith;
      high_is = omega arith;
      low_is = omega arith;
      c_is = omega arith;
      top_is = omega arith;
      rest_is = omega arith;
      even = omega arith;
    }

sum_j_small : (a b c d : ℕ) → a < 2 → b < 256 → c < 2 → d < 1024 → a * 2 ^ 20 + b * 2 ^ 12 + c * 2 ^ 11 + d * 2 < 2 ^ 21
sum_j_small a b c d ha hb hc hd = omega arith

told_jal : (w : ℕ) → w < 2 ^ 32 → opcode w ≡ 0x6f → Told w (Jal (rd w) (imm_j w))
told_jal w h op =
    let v = bits w 31 31 * 2 ^ 20 + bits w 19 12 * 2 ^ 12 + bits w 20 20 * 2 ^ 11 + bits w 30 21 * 2 in
    let b : v < 2 ^ 21 = sum_j_small (bits w 31 31) (bits w 19 12) (bits w 20 20) (bits w 30 21) (omega arith) (omega arith) (omega arith) (omega arith) in
    let x = extended (2 ^ 20) v b (lit< tt) in
    let u = unsigned (imm_j w) in
    let k = parts_j u (bits w 31 31) (bits w 19 12) (bits w 20 20) (bits w 30 21) (omega arith) (omega arith) (omega arith) (omega arith) (mod_bits 21 (2 ^ 11 - 1) u v b refl x.same) in
    let p : bits u 20 20 * 2 ^ 6 + bits u 10 5 ≡ funct7 w = simp (k.a_is, k.top_is) (top_whole_j w) in
    let q : bits u 4 1 * 2 + bits u 11 11 ≡ rs2 w = simp (k.rest_is, k.c_is) (rs2_whole w) in
    let r : bits u 19 15 ≡ rs1 w = k.high_is ∙ omega arith in
    let s : bits u 14 12 ≡ funct3 w = k.low_is ∙ omega arith in
    inl ((omega arith, x.fits, k.even), made_of w _ _ _ _ _ _ h p q r s refl (sym op))

-- U
signed_fits : (v : ℕ) → v < 2 ^ 32 → Fits (2 ^ 31) (signed v)
signed_fits v h =
    cond_both (ltb v (2 ^ 31)) (pos v) (negsuc (2 ^ 32 - suc v)) (Fits (2 ^ 31)) (λ e. ltb-true v (2 ^ 31) e)
    (λ e. let n : 2 ^ 31 ≤ v = ltb-false v (2 ^ 31) e in omega arith)

record IsU (w : ℕ) : Type 0 where
  fits : Fits (2 ^ 31) (imm_u w)
  round : Multiple (2 ^ 12) (imm_u w)
  is_31 : bits (unsigned (imm_u w)) 31 25 ≡ funct7 w
  is_24 : bits (unsigned (imm_u w)) 24 20 ≡ rs2 w
  is_19 : bits (unsigned (imm_u w)) 19 15 ≡ rs1 w
  is_14 : bits (unsigned (imm_u w)) 14 12 ≡ funct3 w

is_u : (w : ℕ) → IsU w
is_u w =
    let v = bits w 31 12 * 2 ^ 12 in
    let b : v < 2 ^ 32 = omega arith in
    let u : unsigned (imm_u w) ≡ v = of_z-to_z w32 v b in
    record {
      fits = signed_fits v b;
      round = simp u (omega arith);
      is_31 = simp u (omega arith);
      is_24 = simp u (omega arith);
      is_19 = simp u (omega arith);
      is_14 = simp u (omega arith);
    }

told_lui : (w : ℕ) → w < 2 ^ 32 → opcode w ≡ 0x37 → Told w (Lui (rd w) (imm_u w))
told_lui w h op =
    let k = is_u w in
    inl ((omega arith, k.fits, k.round), made_of w _ _ _ _ _ _ h k.is_31 k.is_24 k.is_19 k.is_14 refl (sym op))

told_auipc : (w : ℕ) → w < 2 ^ 32 → opcode w ≡ 0x17 → Told w (Auipc (rd w) (imm_u w))
told_auipc w h op =
    let k = is_u w in
    inl ((omega arith, k.fits, k.round), made_of w _ _ _ _ _ _ h k.is_31 k.is_24 k.is_19 k.is_14 refl (sym op))

-- R
told_op : (w : ℕ) (o : Operation) → w < 2 ^ 32 → opcode w ≡ 0x33 → funct7 w ≡ funct7_of o → funct3 w ≡ funct3_of o → Told w (Op o (rd w) (rs1 w) (rs2 w))
told_op w o h op f7 f3 = inl ((omega arith, omega arith, omega arith), made_of w _ _ _ _ _ _ h (sym f7) refl refl (sym f3) refl (sym op))

-- row by row of the tables
told_comparison : (w : ℕ) → w < 2 ^ 32 → opcode w ≡ 0x63 → Told w (legal (comparison (funct3 w)) (λ t. Branch t (rs1 w) (rs2 w) (imm_b w)))
told_comparison w h op =
    choose_each (λ o. Told w (legal o (λ t. Branch t (rs1 w) (rs2 w) (imm_b w)))) (funct3 w) comparisons None
    (told_branch w Eq h op, (told_branch w Ne h op, (told_branch w Lt h op, (told_branch w Ge h op, (told_branch w Ltu h op, (told_branch w Geu h op, tt))))))
    (inr refl)

told_loading : (w : ℕ) → w < 2 ^ 32 → opcode w ≡ 0x03 → Told w (legal (loading (funct3 w)) (λ t. Load t (rd w) (rs1 w) (imm_i w)))
told_loading w h op =
    choose_each (λ o. Told w (legal o (λ t. Load t (rd w) (rs1 w) (imm_i w)))) (funct3 w) loadings None
    (told_load w Lb h op, (told_load w Lh h op, (told_load w Lw h op, (told_load w Lbu h op, (told_load w Lhu h op, tt)))))
    (inr refl)

told_width : (w : ℕ) → w < 2 ^ 32 → opcode w ≡ 0x23 → Told w (legal (width_of (funct3 w)) (λ t. Store t (rs1 w) (rs2 w) (imm_s w)))
told_width w h op =
    choose_each (λ o. Told w (legal o (λ t. Store t (rs1 w) (rs2 w) (imm_s w)))) (funct3 w) widths None
    (told_store w Byte h op, (told_store w Half h op, (told_store w Word h op, tt)))
    (inr refl)

told_immediates : (w : ℕ) → w < 2 ^ 32 → opcode w ≡ 0x13 → Told w (legal (immediate_operation (funct7 w) (funct3 w)) (λ o. OpImm o (rd w) (rs1 w) (imm_i w)))
told_immediates w h op =
    let P : Option Operation → Type 0 = λ o. Told w (legal o (λ o. OpImm o (rd w) (rs1 w) (imm_i w))) in
    choose_each P (funct3 w) (immediate_operations (funct7 w)) None (
      λ e. told_imm w Add h op e tt,
      (
        λ e. choose_each P (funct7 w) ((0x00, Some Sll) ∷ []) None (told_sll w h op e, tt) (inr refl),
        (
          λ e. told_imm w Slt h op e tt,
          (
            λ e. told_imm w Sltu h op e tt,
            (
              λ e. told_imm w Xor h op e tt,
              (
                λ e. choose_each P (funct7 w) ((0x00, Some Srl) ∷ (0x20, Some Sra) ∷ []) None (told_srl w h op e, (told_sra w h op e, tt)) (inr refl),
                (
                  λ e. told_imm w Or h op e tt,
                  (λ e. told_imm w And h op e tt, tt),
                ),
              ),
            ),
          ),
        ),
      ),
    )
    (inr refl)

told_operations : (w : ℕ) → w < 2 ^ 32 → opcode w ≡ 0x33 → Told w (legal (operation (funct7 w) (funct3 w)) (λ o. Op o (rd w) (rs1 w) (rs2 w)))
told_operations w h op =
    let P : Option Operation → Type 0 = λ o. Told w (legal o (λ o. Op o (rd w) (rs1 w) (rs2 w))) in
    choose_each P (funct7 w) (operations (funct3 w)) None (
      λ e.
          choose_each P (funct3 w) operations_00 None
          (told_op w Add h op e, (told_op w Sll h op e, (told_op w Slt h op e, (told_op w Sltu h op e, (told_op w Xor h op e, (told_op w Srl h op e, (told_op w Or h op e, (told_op w And h op e, tt))))))))
          (inr refl),
      (λ e. choose_each P (funct3 w) operations_20 None (told_op w Sub h op e, (told_op w Sra h op e, tt)) (inr refl), tt),
    )
    (inr refl)

told_system : (w : ℕ) → Told w (system w)
told_system w = choose_each (Told w) w ((0x00000073, Ecall) ∷ (0x00100073, Ebreak) ∷ []) Illegal (λ e. inl (tt, sym e), (λ e. inl (tt, sym e), tt)) (inr refl)

pub told_word : (w : ℕ) → w < 2 ^ 32 → Told w (decode w)
told_word w h =
    choose_each (Told w) (opcode w) (opcodes w) Illegal (
      told_lui w h,
      (
        told_auipc w h,
        (
          told_jal w h,
          (
            λ op. choose_each (Told w) (funct3 w) ((0, Jalr (rd w) (rs1 w) (imm_i w)) ∷ []) Illegal (told_jalr w h op, tt) (inr refl),
            (
              told_comparison w h,
              (
                told_loading w h,
                (
                  told_width w h,
                  (
                    told_immediates w h,
                    (
                      told_operations w h,
                      (
                        λ op. choose_each (Told w) (funct3 w) ((0, Fence (rd w) (rs1 w) (bits w 31 20)) ∷ []) Illegal (told_fence w h op, tt) (inr refl),
                        (λ op. told_system w, tt),
                      ),
                    ),
                  ),
                ),
              ),
            ),
          ),
        ),
      ),
    )
    (inr refl)

-- what is read as nothing is no instruction's word
none_such : (w : ℕ) (i : Instruction) → decode w ≡ Illegal → Legal i → encode i ≡ w → ⊥
none_such w i e h f =
    let r : decode (encode i) ≡ i = (reads_back i h).1 in
    let k : i ≡ Illegal = sym r ∙ ap decode f ∙ e in
    subst Legal k h

pub accounts : Accounts
accounts w h = elim (told_word w h) [ inl k ↦ inl k | inr e ↦ inr (e, λ i l f. none_such w i e l f) ]
