-- There always is something left: every act of the core is told by a step.
use Rattle.std.proofs.Common.{◌≡◌, ℕ, ◌+◌, ◌%◌, ◌^◌, Bool, true, false, cond, ◌==◌, List, [], ◌∷◌, Some, None, Option, refl, ap}
use Rattle.rights.specs.declared.calls.Call.{Call}
use Rattle.rights.specs.World as w
use Rattle.rv32.specs.declared.registers.Cpu.{Cpu}
use Rattle.rv32.specs.declared.forms.Comparison.{Comparison}
use Rattle.rv32.specs.declared.forms.Width.{Width}
use Rattle.rv32.specs.declared.forms.Instruction.{Instruction}
use Rattle.rv32.specs.declared.forms.Instruction.TheVariants.{Lui, Auipc, Jal, Jalr, Branch, Load, Store, OpImm, Op, Fence, Ecall, Ebreak, Illegal}
use Rattle.rv32.specs.declared.steps.Step.{Step}
use Rattle.rv32.specs.declared.steps.Step.TheVariants as step
use Rattle.rv32.specs.Formats.{unsigned}
use Rattle.rv32.specs.Decode.{decode}
use Rattle.rv32.specs.Registers.{x, next}
use Rattle.rv32.specs.Execute as core
use Rattle.rv32.specs.Execute.{act, told}
use Rattle.model.specs.declared.objects.State.{State}
use Rattle.model.specs.declared.objects.State.TheVariants.{Stopped, Ready, Waits}
use Rattle.model.specs.declared.objects.Thread.{Thread}
use Rattle.model.specs.Calls.{comes_in}
use Rattle.model.specs.Plain.{Thing, thread, Whole, object, with_object}
use Rattle.model.specs.Turns.{is_ready, seen, next_act, told_of, stepped, Ticked}
use Rattle.model.specs.Same.{Ran, AlwaysLeft}

-- a step that tells an act of core c
abbrev ByStep : Cpu → w.Act Cpu → Type 0
ByStep c a = (s : Step) × (told c s ≡ a)

by_write : (c : Cpu) (n v : ℕ) → ByStep c (core.write c n v)
by_write c n v = (step.Next n v ((c.pc + 4) % 2 ^ 32), refl)

by_test : (c : Cpu) (a b : w.Act Cpu) (t : Bool) → ByStep c a → ByStep c b → ByStep c (cond t a b)
by_test c a b true p q = p
by_test c a b false p q = q

by_stop : (c : Cpu) → ByStep c w.wrong
by_stop c = (step.Stop, refl)

by_jump : (c : Cpu) (n a : ℕ) → ByStep c (core.jump c n a)
by_jump c n a = by_test c _ _ (a % 4 == 0) (step.Next n ((c.pc + 4) % 2 ^ 32) a, refl) (by_stop c)

by_branch : (c : Cpu) (k : Comparison) (m n a : ℕ) → ByStep c (cond (core.taken k m n) (core.go_to c a) (w.quiet (next c)))
by_branch c k m n a = by_test c _ _ (core.taken k m n) (by_test c _ _ (a % 4 == 0) (step.Next 0 0 a, refl) (by_stop c)) (step.Next 0 0 ((c.pc + 4) % 2 ^ 32), refl)

by_load : (c : Cpu) (n : ℕ) (v : Option ℕ) → ByStep c (core.load c n v)
by_load c n None = by_stop c
by_load c n (Some v) = by_write c n v

by_store : (c : Cpu) (k : Width) (n a : ℕ) → ByStep c (core.store c k n a)
by_store c k n a = by_test c _ _ (a % core.size k == 0) (step.Store a k (x c n), refl) (by_stop c)

by_call : (c : Cpu) (k : Option Call) → ByStep c (core.called c k)
by_call c None = by_write c 10 w.no
by_call c (Some k) = (step.Call k, refl)

by_step : (c : Cpu) (m : ℕ → ℕ) (i : Instruction) → ByStep c (core.execute c m i)
by_step c m (Lui n i) = by_write c n _
by_step c m (Auipc n i) = by_write c n _
by_step c m (Jal n i) = by_jump c n _
by_step c m (Jalr n k i) = by_jump c n _
by_step c m (Branch k a b i) = by_branch c k (x c a) (x c b) ((c.pc + unsigned i) % 2 ^ 32)
by_step c m (Load k n a i) = by_load c n _
by_step c m (Store k a b i) = by_store c k b _
by_step c m (OpImm o n a i) = by_write c n _
by_step c m (Op o n a b) = by_write c n _
by_step c m (Fence n a o) = (step.Next 0 0 ((c.pc + 4) % 2 ^ 32), refl)
by_step c m Ecall = by_call c (core.requested c)
by_step c m Ebreak = by_stop c
by_step c m Illegal = by_stop c

fetched : (c : Cpu) (m : ℕ → ℕ) (f : Option ℕ) → ByStep c (core.fetched c m f)
fetched c m None = by_stop c
fetched c m (Some a) = by_step c m (decode a)

acts : (c : Cpu) (m : ℕ → ℕ) → ByStep c (act c m)
acts c m = fetched c m (core.aligned m c.pc 4)

-- what a thread does next
thread_next : (v : Whole) (t : Thread) (s : State) → (r : Option Step) × (told_of (thread t) r ≡ cond (is_ready s) (Some (act t.cpu (seen v t.pages))) None)
thread_next v t Stopped = (None, refl)
thread_next v t Ready = let k = acts t.cpu (seen v t.pages) in (Some k.0, ap Some k.1)
thread_next v t (Waits o) = (None, refl)

object_next : (v : Whole) (x : Thing) → (r : Option Step) × (told_of x r ≡ next_act v x)
object_next v (thread t) = thread_next v t t.state
object_next v _ = (None, refl)

ticks : (v : Whole) (p : ℕ) → (u : Whole) × Ticked v p u
ticks v p = let k = object_next v (object v p) in (stepped v p k.0, (k.0, k.1, refl))

runs : (v : Whole) (es : List w.Event) → (u : Whole) × Ran v es u
unfolding Ran
runs v [] = (v, refl)
runs v (w.tick p ∷ es) = let k = ticks v p in let r = runs k.0 es in (r.0, (k.0, k.1, r.1))
runs v (w.byte o b ∷ es) = runs (with_object v o (comes_in b (object v o))) es

pub always_left : AlwaysLeft
always_left = (ticks, runs)
