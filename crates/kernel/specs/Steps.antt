-- What an event does to what the kernel keeps, as the code goes, and what is said in it. Assumes nothing: these are definitions and a statement.
use Rattle.std.specs.Prelude.{◌≡◌, ℕ, ◌<◌, Bool, true, false, cond, List, Option, Some, None, nat_lt}
use Rattle.std.specs.Option.{is_some}
use Rattle.rights.specs.Vocabulary.{words}
use Rattle.rights.specs.World.{Act}
use Rattle.rv32.specs.declared.forms.Width.{Width}
use Rattle.rv32.specs.declared.registers.Cpu.{Cpu}
use Rattle.rv32.specs.declared.steps.Step.{Step}
use Rattle.rv32.specs.declared.steps.Step.TheVariants as step
use Rattle.rv32.specs.Execute.{act, told, size, bytes}
use Rattle.rv32.specs.Registers.{fresh, gone_on, next, returned}
use Rattle.board.specs.Counted.{Lent}
use Rattle.space.specs.declared.side.Side.{Side}
use Rattle.space.specs.declared.side.State.{State}
use Rattle.space.specs.declared.side.State.TheVariants.{Stopped, Ready}
use Rattle.space.specs.declared.side.Thread.{Thread}
use Rattle.space.specs.Bytes.{seen, store_place, stored}
use Rattle.space.specs.Lines as lines
use Rattle.calls.specs.Calls.{Ended, call}
use Rattle.calls.specs.Counts.{most}
use Rattle.calls.specs.Machine.{Machine, thread_at, with_thread, line_at, with_line}
use Rattle.kernel.specs.declared.steps.Event.{Event}
use Rattle.kernel.specs.declared.steps.Event.TheVariants.{Tick, Byte}
use Rattle.kernel.specs.Events as events
use Rattle.kernel.specs.Events.{Passed, silent}
use Rattle.kernel.specs.Finding.{find_thread, find_line}
use Rattle.kernel.specs.Meets.{answer_of, said_of}

-- the machine that a board and a side are
abbrev pub kept : Lent → Side → Machine
kept board side = record { bytes = board.bytes; side = side }

-- THREADS. A thread with another core, and one that has stopped and is as new
abbrev pub with_core : Cpu → Thread → Thread
with_core c t = record t { cpu = c }

abbrev pub as_new : Thread → Thread
as_new t = record t { state = Stopped; cpu = fresh 0 }

-- a thread after a store: it goes on, or stops where it may not store
abbrev pub after_store : List ℕ → Thread → ℕ → Width → Thread
after_store m t a w = cond (is_some (store_place m t.pages a (size w))) (with_core (next t.cpu) t) (as_new t)

-- the machine with another thread i
abbrev pub turned : Machine → ℕ → Thread → Machine
turned m i t = record { bytes = m.bytes; side = with_thread m.side i t }

-- thread i goes on with the answer of a call, and a byte may be said in it
abbrev pub answered : ℕ → Ended → Passed
answered i e = record {
  machine = turned e.machine i (with_core (returned (thread_at e.machine.side i).cpu (words (answer_of e.outcome))) (thread_at e.machine.side i));
  said = said_of e.outcome;
}

-- STEPS. What thread i asks for is done
abbrev pub carried_out : Machine → ℕ → Thread → Step → Passed
carried_out m i t (step.Next n v a) = silent (turned m i (with_core (gone_on t.cpu n v a) t))
carried_out m i t (step.Store a w v) =
    silent (record { bytes = stored m.bytes t.pages a (bytes w v); side = with_thread m.side i (after_store m.bytes t a w) })
carried_out m i t (step.Call c) = answered i (call m i c)
carried_out m i t step.Stop = silent (turned m i (as_new t))

-- the same, if there is such a thread
abbrev pub carried : Machine → ℕ → Step → Passed
carried m i s = cond (nat_lt i 64) (carried_out m i (thread_at m.side i) s) (silent m)

-- how many words it touches at most
abbrev pub most_in : Machine → ℕ → Step → ℕ
most_in m i (step.Call c) = most m i c
most_in m i _ = 0

abbrev pub is_ready : State → Bool
is_ready Ready = true
is_ready _ = false

-- what a thread does next, if it is ready
abbrev pub next_act : List ℕ → Thread → Option (Act Cpu)
next_act m t = cond (is_ready t.state) (Some (act t.cpu (seen m t.pages))) None

-- what a step of the code means for its core
abbrev pub told_of : Cpu → Option Step → Option (Act Cpu)
told_of c None = None
told_of c (Some s) = Some (told c s)

-- what is left once it is done, if there is anything to do
abbrev pub after : Machine → ℕ → Option Step → Passed
after m i None = silent m
after m i (Some s) = carried m i s

-- r is what is left of m, and what is said, once thread i had an instruction's time
abbrev pub Ticked : Machine → ℕ → Passed → Type 0
Ticked m i r = (s : Option Step) × (told_of (thread_at m.side i).cpu s ≡ next_act m.bytes (thread_at m.side i)) × (r ≡ after m i s)

-- EVENTS. A byte comes in at line j
abbrev pub with_byte : Side → Option ℕ → ℕ → Side
with_byte side None b = side
with_byte side (Some j) b = with_line side j (lines.come_in (line_at side j) b)

-- at the line that is object o
abbrev pub come_in : Side → ℕ → ℕ → Side
come_in side o b = with_byte side (find_line side o) b

-- the same of the thread that is found, if one is
abbrev pub TickedIf : Machine → Option ℕ → Passed → Type 0
TickedIf m None r = r ≡ silent m
TickedIf m (Some i) r = Ticked m i r

-- r is what is left of m, and what is said, once an event has happened
abbrev pub Stepped : Machine → Event → Passed → Type 0
Stepped m (Tick o) r = TickedIf m (find_thread m.side o) r
Stepped m (Byte o b) r = r ≡ silent (record { bytes = m.bytes; side = come_in m.side o b })

-- what is left of a thread's time is what passes in it
abbrev pub TicksPass : Type 0
TicksPass = (m : Machine) (i : ℕ) (r : Passed) → i < 64 → Ticked m i r → events.Ticked m i r
