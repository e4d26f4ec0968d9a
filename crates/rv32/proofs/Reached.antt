-- What an instruction reaches of memory, and what is left of a thread that stops.
use Rattle.std.proofs.Common.{◌≡◌, ℕ, zero, suc, ◌+◌, ◌%◌, ◌^◌, ◌<◌, ◌≤◌, Bool, eqb, List, [], ◌∷◌, length, get_or, Some, None, Option, refl, ap, ◌∙◌, add-zero, arith, get_or-set_other, get_or-set_same}
use Rattle.std.proofs.lemmas.Bool.{cond_both, eqb-true}
use Rattle.rights.specs.declared.calls.Call.{Call}
use Rattle.rights.specs.World as world
use Rattle.rv32.specs.declared.registers.Cpu.{Cpu}
use Rattle.rv32.specs.declared.forms.Width.{Width}
use Rattle.rv32.specs.declared.forms.Width.TheVariants.{Byte, Half, Word}
use Rattle.rv32.specs.declared.forms.Instruction.{Instruction}
use Rattle.rv32.specs.declared.forms.Instruction.TheVariants.{Lui, Auipc, Jal, Jalr, Branch, Load, Store, OpImm, Op, Fence, Ecall, Ebreak, Illegal}
use Rattle.rv32.specs.Formats.{unsigned}
use Rattle.rv32.specs.Decode.{decode}
use Rattle.rv32.specs.Registers.{fresh, x, put, at, next}
use Rattle.rv32.specs.Execute.{taken, there, little, read, aligned, load_size, widened_if, loaded, size, bytes, go_to, load, requested, called, execute, fetched, act}
use Rattle.rv32.specs.Reach.{OnePage, Inside, StoresInside, instruction_of, named, Agree, ReadsNamed, Stops, StopsAsNew}

pub one_page : OnePage
one_page Byte a k h l = omega arith
one_page Half a k h l = omega arith
one_page Word a k h l = omega arith

-- stores
inside_bytes : (t : Width) (a v : ℕ) → a % size t ≡ 0 → a % 4096 + length (bytes t v) ≤ 4096
inside_bytes Byte a v h = omega arith
inside_bytes Half a v h = omega arith
inside_bytes Word a v h = omega arith

inside_go : (c : Cpu) (a : ℕ) → Inside (go_to c a)
inside_go c a = cond_both (eqb (a % 4) 0) (world.quiet (at c a)) world.wrong Inside (λ e. tt) (λ e. tt)

inside_load : (c : Cpu) (d : ℕ) (o : Option ℕ) → Inside (load c d o)
inside_load c d None = tt
inside_load c d (Some v) = tt

inside_call : (c : Cpu) (o : Option Call) → Inside (called c o)
inside_call c None = tt
inside_call c (Some k) = tt

inside_execute : (c : Cpu) (m : ℕ → ℕ) (i : Instruction) → Inside (execute c m i)
inside_execute c m (Lui d i) = tt
inside_execute c m (Auipc d i) = tt
inside_execute c m (Jal d i) = inside_go (put c d ((c.pc + 4) % 2 ^ 32)) _
inside_execute c m (Jalr d a i) = inside_go (put c d ((c.pc + 4) % 2 ^ 32)) _
inside_execute c m (Branch t a b i) =
    cond_both (taken t (x c a) (x c b)) (go_to c ((c.pc + unsigned i) % 2 ^ 32)) (world.quiet (next c)) Inside (λ e. inside_go c _) (λ e. tt)
inside_execute c m (Load t d a i) = inside_load c d (loaded m t ((x c a + unsigned i) % 2 ^ 32))
inside_execute c m (Store t a b i) =
    let p = (x c a + unsigned i) % 2 ^ 32 in
    cond_both (eqb (p % size t) 0) (world.store p (bytes t (x c b)) (next c)) world.wrong Inside (λ e. inside_bytes t p (x c b) (eqb-true (p % size t) 0 e)) (λ e. tt)
inside_execute c m (OpImm o d a i) = tt
inside_execute c m (Op o d a b) = tt
inside_execute c m (Fence d a o) = tt
inside_execute c m Ecall = inside_call c (requested c)
inside_execute c m Ebreak = tt
inside_execute c m Illegal = tt

inside_fetched : (c : Cpu) (m : ℕ → ℕ) (o : Option ℕ) → Inside (fetched c m o)
inside_fetched c m None = tt
inside_fetched c m (Some w) = inside_execute c m (decode w)

pub stores_inside : StoresInside
stores_inside c m = inside_fetched c m (aligned m c.pc 4)

-- reads
first : (m m' : ℕ → ℕ) (a n : ℕ) → Agree m m' a (suc n) → m a ≡ m' a
first m m' a n h = rw (add-zero a) at (h 0 (omega arith))

later : (m m' : ℕ → ℕ) (a n : ℕ) → Agree m m' a (suc n) → Agree m m' (suc a) n
later m m' a n h k l = let e : a + suc k ≡ suc a + k = omega arith in rw e at (h (suc k) (omega arith))

same_there : (m m' : ℕ → ℕ) (a n : ℕ) → Agree m m' a n → there m a n ≡ there m' a n
unfolding there
same_there m m' a zero h = refl
same_there m m' a (suc n) h = rw (first m m' a n h, same_there m m' (suc a) n (later m m' a n h))

same_little : (m m' : ℕ → ℕ) (a n : ℕ) → Agree m m' a n → little m a n ≡ little m' a n
unfolding little
same_little m m' a zero h = refl
same_little m m' a (suc n) h = rw (first m m' a n h, same_little m m' (suc a) n (later m m' a n h))

same_aligned : (m m' : ℕ → ℕ) (a n : ℕ) → Agree m m' a n → aligned m a n ≡ aligned m' a n
unfolding read
same_aligned m m' a n h = rw (same_there m m' a n h, same_little m m' a n h)

same_execute : (c : Cpu) (m m' : ℕ → ℕ) (i : Instruction) → Agree m m' (named c i).0 (named c i).1 → execute c m i ≡ execute c m' i
same_execute c m m' (Lui d i) h = refl
same_execute c m m' (Auipc d i) h = refl
same_execute c m m' (Jal d i) h = refl
same_execute c m m' (Jalr d a i) h = refl
same_execute c m m' (Branch t a b i) h = refl
same_execute c m m' (Load t d a i) h = ap (λ o. load c d (widened_if t o)) (same_aligned m m' ((x c a + unsigned i) % 2 ^ 32) (load_size t) h)
same_execute c m m' (Store t a b i) h = refl
same_execute c m m' (OpImm o d a i) h = refl
same_execute c m m' (Op o d a b) h = refl
same_execute c m m' (Fence d a o) h = refl
same_execute c m m' Ecall h = refl
same_execute c m m' Ebreak h = refl
same_execute c m m' Illegal h = refl

same_fetched : (c : Cpu) (m m' : ℕ → ℕ) (o : Option ℕ) → Agree m m' (named c (instruction_of o)).0 (named c (instruction_of o)).1 → fetched c m o ≡ fetched c m' o
same_fetched c m m' None h = refl
same_fetched c m m' (Some w) h = same_execute c m m' (decode w) h

pub reads_named : ReadsNamed
reads_named c m m' p h =
    same_fetched c m m' (aligned m c.pc 4) h ∙ ap (fetched c m') (same_aligned m m' c.pc 4 p)

-- a thread that stops
abbrev World : Type 0
World = world.World Cpu

abbrev object : World → ℕ → world.Object Cpu
object = world.object Cpu fresh act

there_is : (xs : List (world.Object Cpu)) (p f t : ℕ) (s : world.State Cpu) (c : Cpu) (ps : List ℕ) (rs : List Bool) → get_or xs p world.gone ≡ world.thread f s c t ps rs → p < length xs
there_is [] p f t s c ps rs e = let z : ◌≡◌ {A = ℕ} 0 1 = cc in absurd (omega arith)
there_is (y ∷ xs) zero f t s c ps rs e = omega arith
there_is (y ∷ xs) (suc p) f t s c ps rs e = let h = there_is xs p f t s c ps rs e in omega arith

-- the world with a thread stopped
abbrev left : World → ℕ → World
left w p = world.with_object Cpu fresh act w p (world.set_state Cpu fresh act (object w p) world.stopped (fresh 0))

left_stopped : (w : World) (p f t : ℕ) (s : world.State Cpu) (c : Cpu) (ps : List ℕ) (rs : List Bool) → object w p ≡ world.thread f s c t ps rs →
    (object (left w p) p ≡ world.thread f world.stopped (fresh 0) t ps rs) × ((o : ℕ) → (o ≡ p → ⊥) → object (left w p) o ≡ object w o)
unfolding world.object world.with_object world.set_state
left_stopped w p f t s c ps rs e = (
  get_or-set_same w.objects p _ world.gone (there_is w.objects p f t s c ps rs e) ∙ ap (λ y. world.set_state Cpu fresh act y world.stopped (fresh 0)) e,
  λ o n. get_or-set_other w.objects p o _ world.gone n,
)

acts_left : (z : world.Sizes) (w : World) (p : ℕ) (ps : List ℕ) (rs : List Bool) (a : world.Act Cpu) → Stops z ps rs a → world.acts Cpu fresh act z w p ps rs a ≡ left w p
unfolding world.acts
acts_left z w p ps rs (world.quiet d) h = absurd h
acts_left z w p ps rs (world.store a bs d) h = simp h
acts_left z w p ps rs (world.call k then) h = absurd h
acts_left z w p ps rs world.wrong h = refl

event_left : (z : world.Sizes) (w : World) (p f t : ℕ) (c : Cpu) (ps : List ℕ) (rs : List Bool) → object w p ≡ world.thread f world.ready c t ps rs →
    Stops z ps rs (act c (world.seen Cpu fresh act z w ps)) → world.event Cpu fresh act z w (world.tick p) ≡ left w p
unfolding world.event world.ticked
event_left z w p f t c ps rs e h =
    ap (world.ticked Cpu fresh act z w p) e ∙ acts_left z w p ps rs (act c (world.seen Cpu fresh act z w ps)) h

pub stops_as_new : StopsAsNew
stops_as_new z w p f t c ps rs e h =
    let k = left_stopped w p f t world.ready c ps rs e in
    let g = event_left z w p f t c ps rs e h in
    (ap (λ v. object v p) g ∙ k.0, λ o n. ap (λ v. object v o) g ∙ k.1 o n)
