-- Every instruction keeps the registers sound.
use Rattle.std.proofs.Common.{◌≡◌, ℕ, zero, suc, ◌+◌, ◌*◌, ◌/◌, ◌%◌, ◌^◌, ◌<◌, ◌≤◌, Bool, true, false, not, ◌&&◌, eqb, ltb, ◌≢◌, List, [], ◌∷◌, length, get_or, set, replicate, Some, None, Option, sym, refl, ap, ◌∙◌, subst, inl, inr, ⊎_elim, arith, lit<, lit≤, length-set, get_or-set_other, get_or-set_same, w8, w16, w32, to_z}
use lib.Signed.{lt_z, shr_z, mag_shr}
use mir.ValLaws.{of_z_fits, to_z-Fits, sfits_le}
use Rattle.std.proofs.lemmas.Nat.{mod_below, xor_lt, or_lt, and_le_l, shr_le}
use Rattle.std.proofs.lemmas.Bool.{cond_both, and_parts, ltb-true, cases_eq, not-true, eqb-false}
use Rattle.std.specs.List.{AllByRecursion}
use Rattle.rights.specs.World as world
use Rattle.rv32.specs.declared.registers.Cpu.{Cpu}
use Rattle.rights.specs.declared.calls.Call.{Call}
use Rattle.rights.specs.declared.calls.Call.TheVariants.{Cut, Copy, Move, Drop, Revoke, Send, Receive, Map, Unmap, Bind, Go, Say, Hear}
use Rattle.rights.specs.Request.{with_part, new_object, call_of}
use Rattle.rights.specs.Vocabulary.{rights_from}
use Rattle.rv32.specs.declared.forms.Width.{Width}
use Rattle.rv32.specs.declared.forms.Width.TheVariants.{Byte, Half, Word}
use Rattle.rv32.specs.declared.forms.Operation.{Operation}
use Rattle.rv32.specs.declared.forms.Operation.TheVariants.{Add, Sub, Sll, Slt, Sltu, Xor, Srl, Sra, Or, And}
use Rattle.rv32.specs.declared.forms.Loading.{Loading}
use Rattle.rv32.specs.declared.forms.Loading.TheVariants.{Lb, Lh, Lw, Lbu, Lhu}
use Rattle.rv32.specs.declared.forms.Instruction.{Instruction}
use Rattle.rv32.specs.declared.forms.Instruction.TheVariants.{Lui, Auipc, Jal, Jalr, Branch, Load, Store, OpImm, Op, Fence, Ecall, Ebreak, Illegal}
use Rattle.rv32.specs.Formats.{signed, unsigned}
use Rattle.rv32.specs.Decode.{decode}
use Rattle.rv32.specs.Registers.{x, put, at, next, puts, returned}
use Rattle.rv32.specs.Execute.{flag, result, taken, there, little, read, aligned, load_size, widened, widened_if, size, bytes, go_to, load, requested, called, execute, fetched}
use Rattle.rv32.specs.Encode.{Legal}
use Rattle.rv32.specs.Sound.{ZeroRegister, Sound, Words, Carries, After, StaysSound, StartsSound}
use Rattle.rv32.proofs.Encoded.{unsigned_word}
use Rattle.rv32.proofs.Accounted.{choose_each, told_word}

pub zero_register : ZeroRegister
zero_register c v = (refl, refl)

x_fits : (c : Cpu) (n : ℕ) → Sound c → x c n < 2 ^ 32
x_fits c n s = cond_both (ltb 0 n && ltb n 32) (get_or c.registers n 0) 0 (λ v. v < 2 ^ 32) (λ e. s.fit n) (λ e. lit< tt)

set_fits : (l : List ℕ) (n v k : ℕ) → n < length l → v < 2 ^ 32 → get_or l k 0 < 2 ^ 32 → get_or (set l n v) k 0 < 2 ^ 32
set_fits l n v k h b f =
    ⊎_elim (λ e. let p : get_or (set l n v) n 0 ≡ v = get_or-set_same l n v 0 h in let q : get_or (set l n v) k 0 ≡ get_or (set l n v) n 0 = ap (λ j. get_or (set l n v) j 0) e in omega arith)
    (λ e. let p : get_or (set l n v) k 0 ≡ get_or l k 0 = get_or-set_other l n k v 0 e in omega arith) (cases_eq k n)

sound_put : (c : Cpu) (n v : ℕ) → v < 2 ^ 32 → Sound c → Sound (put c n v)
sound_put c n v h s =
    record {
      pc_fits = s.pc_fits;
      count = cond_both (ltb 0 n && ltb n 32) (set c.registers n v) c.registers (λ l. length l ≡ 32) (λ e. length-set c.registers n v ∙ s.count) (λ e. s.count);
      zero = cond_both (ltb 0 n && ltb n 32) (set c.registers n v) c.registers (λ l. get_or l 0 0 ≡ 0)
          (λ e. let p : 0 < n = ltb-true 0 n (and_parts (ltb 0 n) (ltb n 32) e).0 in let q : 0 ≢ n = λ z. omega arith in get_or-set_other c.registers n 0 v 0 q ∙ s.zero)
          (λ e. s.zero);
      fit = λ k. cond_both (ltb 0 n && ltb n 32) (set c.registers n v) c.registers (λ l. get_or l k 0 < 2 ^ 32)
          (λ e. let p : n < 32 = ltb-true n 32 (and_parts (ltb 0 n) (ltb n 32) e).1 in let len = s.count in set_fits c.registers n v k (omega arith) h (s.fit k))
          (λ e. s.fit k);
    }

sound_at : (c : Cpu) (a : ℕ) → a < 2 ^ 32 → Sound c → Sound (at c a)
sound_at c a h s = record { pc_fits = h; count = s.count; zero = s.zero; fit = s.fit }

sound_next : (c : Cpu) → Sound c → Sound (next c)
sound_next c s = sound_at c ((c.pc + 4) % 2 ^ 32) (omega arith) s

flag_fits : (b : Bool) → flag b < 2 ^ 32
flag_fits true = lit< tt
flag_fits false = lit< tt

result_fits : (o : Operation) (a b : ℕ) → a < 2 ^ 32 → b < 2 ^ 32 → result o a b < 2 ^ 32
result_fits Add a b h k = omega arith
result_fits Sub a b h k = omega arith
result_fits Sll a b h k = mod_below (a * 2 ^ (b % 32)) (2 ^ 32) (lit< tt)
result_fits Slt a b h k = flag_fits (lt_z (signed a) (signed b))
result_fits Sltu a b h k = flag_fits (ltb a b)
result_fits Xor a b h k = xor_lt 32 a b h k
result_fits Srl a b h k = omega (arith, shr_le a (b % 32))
result_fits Sra a b h k = (of_z_fits w32 (shr_z (signed a) (2 ^ (b % 32))) (sfits_le (mag_shr (signed a) (2 ^ (b % 32))) (to_z-Fits w32 a (record { fits = h })))).fits
result_fits Or a b h k = or_lt 32 a b h k
result_fits And a b h k = omega (arith, and_le_l a b)

after_go : (c : Cpu) (a : ℕ) → a < 2 ^ 32 → Sound c → After (go_to c a)
after_go c a h s = cond_both (eqb (a % 4) 0) (world.quiet (at c a)) world.wrong After (λ e. sound_at c a h s) (λ e. tt)

-- what is read fits
pw : ℕ → ℕ
pw zero = 1
pw (suc n) = 256 * pw n

byte_small : (v : ℕ) → v ≤ 256 → not (eqb v 256) ≡ true → v < 256
byte_small v h e = let n : v ≡ 256 → ⊥ = eqb-false v 256 (not-true (eqb v 256) e) in omega arith

little_fits : (m : ℕ → ℕ) (a n : ℕ) → ((k : ℕ) → m k ≤ 256) → there m a n ≡ true → little m a n < pw n
unfolding there little pw
little_fits m a zero h e = lit< tt
little_fits m a (suc n) h e =
    let p = and_parts (not (eqb (m a) 256)) (there m (suc a) n) e in
    let b : m a < 256 = byte_small (m a) (h a) p.0 in
    let l : little m (suc a) n < pw n = little_fits m (suc a) n h p.1 in
    omega arith

abbrev Below : Option ℕ → ℕ → Type 0
Below None b = Unit {0}
Below (Some v) b = v < b

read_below : (m : ℕ → ℕ) (a n : ℕ) → ((k : ℕ) → m k ≤ 256) → Below (read m a n) (pw n)
unfolding read
read_below m a n h = cond_both (there m a n) (Some (little m a n)) None (λ o. Below o (pw n)) (λ e. little_fits m a n h e) (λ e. tt)

aligned_below : (m : ℕ → ℕ) (a n : ℕ) → ((k : ℕ) → m k ≤ 256) → Below (aligned m a n) (pw n)
aligned_below m a n h = cond_both (eqb (a % n) 0) (read m a n) None (λ o. Below o (pw n)) (λ e. read_below m a n h) (λ e. tt)

-- what is read, at 32 bits
widened_below : (m : ℕ → ℕ) (t : Loading) (v : ℕ) → v < pw (load_size t) → widened t v < 2 ^ 32
unfolding pw
widened_below m Lb v h = (of_z_fits w32 (to_z w8 v) (record { sfits = omega (arith, (to_z-Fits w8 v (record { fits = h })).sfits) })).fits
widened_below m Lh v h = (of_z_fits w32 (to_z w16 v) (record { sfits = omega (arith, (to_z-Fits w16 v (record { fits = h })).sfits) })).fits
widened_below m Lw v h = h
widened_below m Lbu v h = omega arith
widened_below m Lhu v h = omega arith

after_load : (c : Cpu) (m : ℕ → ℕ) (t : Loading) (d : ℕ) (o : Option ℕ) → Below o (pw (load_size t)) → Sound c → After (load c d (widened_if t o))
after_load c m t d None h s = tt
after_load c m t d (Some v) h s = sound_next (put c d (widened t v)) (sound_put c d (widened t v) (widened_below m t v h) s)

bytes_small : (w : Width) (v : ℕ) → AllByRecursion (λ b. b < 256) (bytes w v)
bytes_small Byte v = (omega arith, tt)
bytes_small Half v = (omega arith, (omega arith, tt))
bytes_small Word v = (omega arith, (omega arith, (omega arith, (omega arith, tt))))

sound_puts : (c : Cpu) (n k : ℕ) (ws : List ℕ) → Words ws → Sound c → Sound (puts c n k ws)
sound_puts c n zero ws h s = s
sound_puts c n (suc k) [] h s = s
sound_puts c n (suc k) (w ∷ ws) h s = sound_puts (put c n w) (suc n) k ws h.1 (sound_put c n w h.0 s)

sound_returned : (c : Cpu) (ws : List ℕ) → Words ws → Sound c → Sound (returned c ws)
sound_returned c ws h s = sound_next (puts c 10 6 ws) (sound_puts c 10 6 ws h s)

-- calls: what they hand on comes from registers
after_no : (c : Cpu) → Sound c → After (called c None)
after_no c s = sound_next (put c 10 4294967295) (sound_put c 10 4294967295 (lit< tt) s)

after_part : {X : Type 0} (c : Cpu) (o : Option X) (f : X → Call) → Sound c → ((v : X) → Carries (call_of (f v))) → After (called c (with_part o f))
after_part c None f s h = after_no c s
after_part c (Some v) f s h = (h v, λ ws b. sound_returned c ws b s)

after_ecall : (c : Cpu) → Sound c → After (called c (requested c))
after_ecall c s =
    let a = x c 10 in
    let b = x c 11 in
    let d = x c 12 in
    let e = x c 13 in
    let f = x c 14 in
    let g = x c 15 in
    let back : (ws : List ℕ) → Words ws → Sound (returned c ws) = λ ws h. sound_returned c ws h s in
    choose_each (λ o. After (called c o)) (x c 17)
    ((0, with_part (new_object b d) (λ what. Cut a what e))
    ∷ (1, with_part (rights_from d) (λ r. Copy a b r e))
    ∷ (2, Some (Move a b))
    ∷ (3, Some (Drop a))
    ∷ (4, Some (Revoke a))
    ∷ (5, Some (Send a b (d ∷ e ∷ f ∷ g ∷ [])))
    ∷ (6, Some (Receive a b))
    ∷ (7, Some (Map a b d))
    ∷ (8, Some (Unmap a b))
    ∷ (9, Some (Bind a b))
    ∷ (10, Some (Go a b))
    ∷ (11, Some (Say a b))
    ∷ (12, Some (Hear a)) ∷ [])
    None (
      λ n. after_part c (new_object b d) _ s (λ what. tt),
      (
        λ n. after_part c (rights_from d) _ s (λ r. x_fits c 13 s),
        (
          λ n. (tt, back),
          (
            λ n. (tt, back),
            (
              λ n. (tt, back),
              (
                λ n. ((x_fits c 12 s, (x_fits c 13 s, (x_fits c 14 s, (x_fits c 15 s, tt)))), back),
                (
                  λ n. (tt, back),
                  (
                    λ n. (tt, back),
                    (
                      λ n. (tt, back),
                      (
                        λ n. (tt, back),
                        (
                          λ n. (x_fits c 11 s, back),
                          (
                            λ n. (tt, back),
                            (λ n. (tt, back), tt),
                          ),
                        ),
                      ),
                    ),
                  ),
                ),
              ),
            ),
          ),
        ),
      ),
    )
    (after_no c s)

-- an instruction with its fields in range
after_execute : (c : Cpu) (m : ℕ → ℕ) (i : Instruction) → Legal i → ((k : ℕ) → m k ≤ 256) → Sound c → After (execute c m i)
after_execute c m (Lui d i) l h s = sound_next (put c d (unsigned i)) (sound_put c d (unsigned i) (unsigned_word (2 ^ 31) i (lit≤ tt) l.1) s)
after_execute c m (Auipc d i) l h s = sound_next (put c d _) (sound_put c d ((c.pc + unsigned i) % 2 ^ 32) (omega arith) s)
after_execute c m (Jal d i) l h s = after_go (put c d ((c.pc + 4) % 2 ^ 32)) ((c.pc + unsigned i) % 2 ^ 32) (omega arith) (sound_put c d ((c.pc + 4) % 2 ^ 32) (omega arith) s)
after_execute c m (Jalr d a i) l h s =
    after_go (put c d ((c.pc + 4) % 2 ^ 32)) ((x c a + unsigned i) % 2 ^ 32 / 2 * 2) (omega arith) (sound_put c d ((c.pc + 4) % 2 ^ 32) (omega arith) s)
after_execute c m (Branch t a b i) l h s =
    cond_both (taken t (x c a) (x c b)) (go_to c ((c.pc + unsigned i) % 2 ^ 32)) (world.quiet (next c)) After
    (λ e. after_go c ((c.pc + unsigned i) % 2 ^ 32) (omega arith) s) (λ e. sound_next c s)
after_execute c m (Load t d a i) l h s =
    after_load c m t d (aligned m ((x c a + unsigned i) % 2 ^ 32) (load_size t)) (aligned_below m ((x c a + unsigned i) % 2 ^ 32) (load_size t) h) s
after_execute c m (Store t a b i) l h s =
    cond_both (eqb ((x c a + unsigned i) % 2 ^ 32 % size t) 0) (world.store ((x c a + unsigned i) % 2 ^ 32) (bytes t (x c b)) (next c)) world.wrong After
    (λ e. (omega arith, bytes_small t (x c b), sound_next c s)) (λ e. tt)
after_execute c m (OpImm o d a i) l h s =
    sound_next (put c d _)
    (sound_put c d (result o (x c a) (unsigned i)) (result_fits o (x c a) (unsigned i) (x_fits c a s) (unsigned_word (2 ^ 11) i (lit≤ tt) l.2)) s)
after_execute c m (Op o d a b) l h s =
    sound_next (put c d _) (sound_put c d (result o (x c a) (x c b)) (result_fits o (x c a) (x c b) (x_fits c a s) (x_fits c b s)) s)
after_execute c m (Fence d a o) l h s = sound_next c s
after_execute c m Ecall l h s = after_ecall c s
after_execute c m Ebreak l h s = tt
after_execute c m Illegal l h s = tt

after_word : (c : Cpu) (m : ℕ → ℕ) (w : ℕ) → w < 2 ^ 32 → ((k : ℕ) → m k ≤ 256) → Sound c → After (execute c m (decode w))
after_word c m w b h s =
    elim (told_word w b) [
      | inl k ↦ after_execute c m (decode w) k.0 h s
      | inr e ↦ subst (λ i. After (execute c m i)) (sym e) tt
    ]

after_fetch : (c : Cpu) (m : ℕ → ℕ) (o : Option ℕ) → Below o (2 ^ 32) → ((k : ℕ) → m k ≤ 256) → Sound c → After (fetched c m o)
after_fetch c m None b h s = tt
after_fetch c m (Some w) b h s = after_word c m w b h s

pub stays_sound : StaysSound
unfolding pw
stays_sound c m h s = after_fetch c m (aligned m c.pc 4) (aligned_below m c.pc 4 h) h s

zeros_fit : (k n : ℕ) → get_or (replicate k 0) n 0 < 2 ^ 32
zeros_fit zero n = lit< tt
zeros_fit (suc k) zero = lit< tt
zeros_fit (suc k) (suc n) = zeros_fit k n

pub starts_sound : StartsSound
starts_sound a h = record { pc_fits = h; count = refl; zero = refl; fit = zeros_fit 32 }
