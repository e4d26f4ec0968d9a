-- What a call of the machine and one of the world have in common. Assumes nothing: these are definitions and a statement.
use Rattle.std.specs.Prelude.{◌≡◌, ℕ, List, Option, Some, None}
use Rattle.rights.specs.declared.answers.Answer.{Answer}
use Rattle.rights.specs.declared.answers.Answer.TheVariants.{Done}
use Rattle.rights.specs.declared.calls.Call.{Call}
use Rattle.rights.specs.declared.said.Said.{Said}
use Rattle.rights.specs.Request.{call_of}
use Rattle.rights.specs.Said.{call_says}
use Rattle.rights.specs.Vocabulary.{words}
use Rattle.rights.specs.World.{on, wait}
use Rattle.rv32.specs.declared.registers.Cpu.{Cpu}
use Rattle.rv32.specs.Registers.{fresh}
use Rattle.rv32.specs.Execute.{act}
use Rattle.board.specs.declared.slots.Object.{Object}
use Rattle.board.specs.declared.slots.Object.TheVariants as at
use Rattle.calls.specs.declared.outcomes.Outcome.{Outcome}
use Rattle.calls.specs.declared.outcomes.Outcome.TheVariants.{Answered, Said as SaidOn}
use Rattle.calls.specs.Calls.{Ended, call}
use Rattle.calls.specs.Machine.{Machine}
use Rattle.chain.specs.Entries.{Entry}
use Rattle.kernel.specs.Core.{World, Went, does}
use Rattle.kernel.specs.Relation.{Rep}

-- the answer that comes back, and the byte that is said
abbrev pub answer_of : Outcome → Answer
answer_of (Answered a) = a
answer_of (SaidOn x) = Done

abbrev pub said_of : Outcome → Option Said
said_of (Answered a) = None
said_of (SaidOn x) = Some x

-- the same words come back, the same is said, and what is kept then is the world then; no call waits yet
abbrev pub Meets : (ℕ → Option Object) → Option Said → Ended → Went → Type 0
Meets spot said e (on v ws) = (words (answer_of e.outcome) ≡ ws) × (said_of e.outcome ≡ said) × (ring : List Entry) × Rep spot ring e.machine v
Meets spot said e (wait v o) = ⊥

-- every call of a thread does what the world does
abbrev pub CallsMeet : Type 0
CallsMeet =
    (spot : ℕ → Option Object) (ring : List Entry) (k : Machine) (v : World) → Rep spot ring k v → (p i : ℕ) → spot p ≡ Some (at.Thread i) →
    (c : Call) → Meets spot (call_says Cpu fresh act v p (call_of c)) (call k i c) (does v p (call_of c))
