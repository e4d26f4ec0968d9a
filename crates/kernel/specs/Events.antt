-- One event over what is kept, and rows of events. Assumes nothing: these are definitions and statements.
use Rattle.std.specs.Prelude.{◌≡◌, ℕ, List, [], ◌∷◌, length, Option, Some, None}
use Rattle.rights.specs.declared.said.Said.{Said}
use Rattle.rights.specs.Said.{event_says, said, with_first}
use Rattle.rights.specs.Vocabulary.{words}
use Rattle.rights.specs.World as w
use Rattle.rv32.specs.declared.registers.Cpu.{Cpu}
use Rattle.rv32.specs.declared.steps.Step.{Step}
use Rattle.rv32.specs.declared.steps.Step.TheVariants as step
use Rattle.rv32.specs.Registers.{fresh, next, gone_on, returned}
use Rattle.rv32.specs.Execute.{act, bytes, told}
use Rattle.board.specs.declared.slots.Object.{Object}
use Rattle.board.specs.declared.slots.Object.TheVariants as at
use Rattle.space.specs.declared.side.State.{State}
use Rattle.space.specs.declared.side.State.TheVariants.{Stopped, Ready}
use Rattle.space.specs.Bytes.{seen, store_place, stored}
use Rattle.space.specs.Lines.{come_in}
use Rattle.calls.specs.Calls.{Ended, call}
use Rattle.calls.specs.Machine.{Machine, thread_at, with_thread, line_at, with_line}
use Rattle.chain.specs.Entries.{Entry}
use Rattle.kernel.specs.Core.{World, sizes}
use Rattle.kernel.specs.Meets.{answer_of, said_of}
use Rattle.kernel.specs.Relation.{Rep}

-- what is kept after an event, and what it said
pub record Passed : Type 0 where
  pub machine : Machine
  pub said : Option Said

-- nothing is said
abbrev pub silent : Machine → Passed
silent k = record { machine = k; said = None }

-- the core of thread i
abbrev pub cpu_at : Machine → ℕ → Cpu
cpu_at k i = (thread_at k.side i).cpu

-- thread i in a state, with a core
abbrev pub put_core : Machine → ℕ → State → Cpu → Machine
put_core k i s c = record { bytes = k.bytes; side = with_thread k.side i (record (thread_at k.side i) { state = s; cpu = c }) }

-- what is wrong stops the thread, and it is as new
abbrev pub stop : Machine → ℕ → Machine
stop k i = put_core k i Stopped (fresh 0)

-- bytes go to an address of the space of thread i, by the place of the page there if they may be stored
abbrev pub store_at : Machine → ℕ → ℕ → List ℕ → Option ℕ → Machine
store_at k i a bs None = stop k i
store_at k i a bs (Some p) = put_core (record { bytes = stored k.bytes (thread_at k.side i).pages a bs; side = k.side }) i Ready (next (cpu_at k i))

abbrev pub store : Machine → ℕ → ℕ → List ℕ → Machine
store k i a bs = store_at k i a bs (store_place k.bytes (thread_at k.side i).pages a (length bs))

-- after a call thread i, whose core was c, goes on with the words that come back
abbrev pub resume : ℕ → Cpu → Ended → Passed
resume i c e = record { machine = put_core e.machine i Ready (returned c (words (answer_of e.outcome))); said = said_of e.outcome }

-- a step of thread i
abbrev pub carried : Machine → ℕ → Step → Passed
carried k i (step.Next n v a) = silent (put_core k i Ready (gone_on (cpu_at k i) n v a))
carried k i (step.Store a width v) = silent (store k i a (bytes width v))
carried k i (step.Call c) = resume i (cpu_at k i) (call k i c)
carried k i step.Stop = silent (stop k i)

-- what thread i does next, by the bytes that it sees through its space
abbrev pub next_act : Machine → ℕ → w.Act Cpu
next_act k i = act (cpu_at k i) (seen k.bytes (thread_at k.side i).pages)

-- e is what passed when thread i had an instruction's time: a step that means what the core does next, if it was ready, and nothing otherwise
abbrev pub TickedIn : State → Machine → ℕ → Passed → Type 0
TickedIn Ready k i e = (s : Step) × (told (cpu_at k i) s ≡ next_act k i) × (e ≡ carried k i s)
TickedIn _ k i e = e ≡ silent k

abbrev pub Ticked : Machine → ℕ → Passed → Type 0
Ticked k i e = TickedIn (thread_at k.side i).state k i e

-- a byte comes in at line j
abbrev pub byte : Machine → ℕ → ℕ → Machine
byte k j b = record { bytes = k.bytes; side = with_line k.side j (come_in (line_at k.side j) b) }

-- e is what passed in an event, whose object lies where spot says
abbrev pub Happened : (ℕ → Option Object) → Machine → w.Event → Passed → Type 0
Happened spot k (w.tick p) e = (i : ℕ) × (spot p ≡ Some (at.Thread i)) × Ticked k i e
Happened spot k (w.byte o b) e = (j : ℕ) × (spot o ≡ Some (at.Line j)) × (e ≡ silent (byte k j b))

-- n is kept after a row of events, and xs is what was said, in order
abbrev pub Ran : (ℕ → Option Object) → Machine → List w.Event → Machine → List Said → Type 0
Ran spot k [] n xs = (n ≡ k) × (xs ≡ [])
Ran spot k (x ∷ es) n xs = (e : Passed) × (ys : List Said) × Happened spot k x e × Ran spot e.machine es n ys × (xs ≡ with_first e.said ys)

-- every event does what it does in the world, and says the same
abbrev pub EventsMeet : Type 0
EventsMeet =
    (spot : ℕ → Option Object) (ring : List Entry) (k : Machine) (v : World) → Rep spot ring k v → (x : w.Event) (e : Passed) → Happened spot k x e →
    (e.said ≡ event_says Cpu fresh act sizes v x) × (l : List Entry) × Rep spot l e.machine (w.event Cpu fresh act sizes v x)

-- so does every row of events: what was said is what the world says, in order
abbrev pub RowsMeet : Type 0
RowsMeet =
    (spot : ℕ → Option Object) (ring : List Entry) (k : Machine) (v : World) → Rep spot ring k v → (es : List w.Event) (n : Machine) (xs : List Said) → Ran spot k es n xs →
    (xs ≡ said Cpu fresh act sizes v es) × (l : List Entry) × Rep spot l n (w.run Cpu fresh act sizes v es)
