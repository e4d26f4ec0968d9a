-- One event over the world in the code's own parts. Assumes nothing: these are definitions.
use Rattle.std.specs.Prelude.{◌≡◌, ℕ, ◌+◌, ◌/◌, ◌%◌, Bool, true, false, cond, ◌&&◌, List, ◌++◌, length, take, drop, Some, None, Option, nat_le, slice_index_or}
use Rattle.rights.specs.declared.calls.Call.{Call}
use Rattle.rights.specs.declared.calls.Call.TheVariants as call
use Rattle.rights.specs.Vocabulary.{words}
use Rattle.rv32.specs.declared.registers.Cpu.{Cpu}
use Rattle.rv32.specs.declared.steps.Step.{Step}
use Rattle.rv32.specs.declared.steps.Step.TheVariants as step
use Rattle.rv32.specs.Registers.{fresh, next, gone_on, returned}
use Rattle.rv32.specs.Execute.{bytes, act, told}
use Rattle.rights.specs.World.{Act}
use Rattle.model.specs.declared.objects.Mapping.{Mapping}
use Rattle.model.specs.declared.objects.State.{State}
use Rattle.model.specs.declared.objects.State.TheVariants.{Stopped, Ready, Waits}
use Rattle.model.specs.Plain.{Thing, page, thread, Whole, on_page, on_thread, on_some, mark_in, mapping, page_at, object, with_object, Ended, on, wait}
use Rattle.model.specs.Calls as calls
use Rattle.model.specs.Calls.{with_state}
use Rattle.model.specs.Cuts.{cut}
use Rattle.model.specs.Sweeps.{revoke}

-- what a call of thread p does
abbrev pub does : Whole → ℕ → Call → Ended
does w p (call.Cut s k d) = cut w p s k d
does w p (call.Copy s d r b) = calls.copy w p s d r b
does w p (call.Move s d) = calls.move w p s d
does w p (call.Drop s) = calls.drop_it w p s
does w p (call.Revoke s) = revoke w p s
does w p (call.Send s g ws) = calls.send w p s g ws
does w p (call.Receive s d) = calls.receive w p s d
does w p (call.Map s t a) = calls.map w p s t a
does w p (call.Unmap t a) = calls.unmap w p t a
does w p (call.Bind t s) = calls.bind w p t s
does w p (call.Go t a) = calls.go w p t a
does w p (call.Say s b) = calls.say w p s b
does w p (call.Hear s) = calls.hear w p s

-- a state and a core for a thread
abbrev pub set_state : State → Cpu → Thing → Thing
set_state s c x = on_thread x x (λ t. thread (with_state t s c))

abbrev pub with_thread : Whole → ℕ → State → Cpu → Whole
with_thread w p s c = with_object w p (set_state s c (object w p))

-- the core of a thread
abbrev pub cpu_of : Thing → Cpu
cpu_of x = on_thread x (fresh 0) (λ t. t.cpu)

-- the byte at a place of a page, and at an address of a space, 256 where there is none
abbrev pub byte_in : Thing → ℕ → ℕ
byte_in x k = on_page x 0 (λ f bs. slice_index_or bs k 0)

abbrev pub seen : Whole → List Mapping → ℕ → ℕ
seen w ps a = on_some (page_at ps (a / 4096)) 256 (λ o. byte_in (object w o) (a % 4096))

-- what thread p does next, if it is ready
abbrev pub is_ready : State → Bool
is_ready Ready = true
is_ready _ = false

abbrev pub next_act : Whole → Thing → Option (Act Cpu)
next_act w x = on_thread x None (λ t. cond (is_ready t.state) (Some (act t.cpu (seen w t.pages))) None)

-- what a step of the code means for it
abbrev pub told_of : Thing → Option Step → Option (Act Cpu)
told_of x None = None
told_of x (Some s) = Some (told (cpu_of x) s)

-- bytes that are stored into a page, from place k on, if they lie inside
abbrev pub over : ℕ → List ℕ → List ℕ → List ℕ
over k bs old = take k old ++ (bs ++ drop (k + length bs) old)

abbrev pub stored : ℕ → List ℕ → Thing → Thing
stored k bs x = on_page x x (λ f old. cond (nat_le (k + length bs) (length old)) (page f (over k bs old)) x)

-- the page that n bytes may be stored to, at an address of a thread's space
abbrev pub may_store : Thing → ℕ → ℕ → Option ℕ
may_store x a n = on_thread x None (λ t. cond (mark_in (mapping t.pages (a / 4096)) && nat_le (a % 4096 + n) 4096) (page_at t.pages (a / 4096)) None)

abbrev pub stores_to : Whole → ℕ → ℕ → ℕ → List ℕ → Whole
stores_to w p o k bs = with_thread (with_object w o (stored k bs (object w o))) p Ready (next (cpu_of (object w p)))

abbrev pub stores : Whole → ℕ → ℕ → List ℕ → Whole
stores w p a bs = on_some (may_store (object w p) a (length bs)) (with_thread w p Stopped (fresh 0)) (λ o. stores_to w p o (a % 4096) bs)

-- after a call
abbrev pub went : ℕ → Cpu → Ended → Whole
went p c (on v a) = with_thread v p Ready (returned c (words a))
went p c (wait v o) = with_thread v p (Waits o) c

-- a step of thread p
abbrev pub carried : Whole → ℕ → Step → Whole
carried w p (step.Next n v a) = with_thread w p Ready (gone_on (cpu_of (object w p)) n v a)
carried w p (step.Store a k v) = stores w p a (bytes k v)
carried w p (step.Call c) = went p (cpu_of (object w p)) (does w p c)
carried w p step.Stop = with_thread w p Stopped (fresh 0)

-- what is left once what a thread does next is done, if it does anything
abbrev pub stepped : Whole → ℕ → Option Step → Whole
stepped w p None = w
stepped w p (Some s) = carried w p s

-- v is what is left of w once thread p had an instruction's time
abbrev pub Ticked : Whole → ℕ → Whole → Type 0
Ticked w p v = (s : Option Step) × (told_of (object w p) s ≡ next_act w (object w p)) × (v ≡ stepped w p s)
