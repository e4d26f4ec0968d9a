-- The program's world and the abstract world go step by step alike. Assumes nothing: these are statements.
use Rattle.std.specs.Prelude.{◌≡◌, ℕ, List, [], ◌∷◌, Option}
use Rattle.rights.specs.declared.calls.Call.{Call}
use Rattle.rights.specs.Request.{call_of}
use Rattle.rights.specs.World as w
use Rattle.rights.specs.Said.{event_says}
use Rattle.rv32.specs.declared.registers.Cpu.{Cpu}
use Rattle.rv32.specs.Registers.{fresh}
use Rattle.rv32.specs.declared.steps.Step.{Step}
use Rattle.rv32.specs.Execute.{act}
use Rattle.model.specs.Plain.{Whole, object, with_object, Ended, on, wait}
use Rattle.model.specs.Calls.{comes_in}
use Rattle.model.specs.Turns.{does, carried, told_of, next_act, Ticked}
use Rattle.model.specs.Says.{says_next}
use Rattle.model.specs.Sound.{Sound, LineageFull}
use Rattle.model.specs.Meaning.{sizes, world_of, went_of}

-- every call does what the abstract world does
abbrev pub CallsAgree : Type 0
CallsAgree = (v : Whole) → Sound v → (p : ℕ) (c : Call) → went_of (does v p c) ≡ w.does Cpu fresh act sizes (world_of v) p (call_of c)

-- so does an instruction's time for a thread, and a byte that comes in at a line
abbrev pub EventsAgree : Type 0
EventsAgree =
    ((v u : Whole) → Sound v → (p : ℕ) → Ticked v p u → world_of u ≡ w.event Cpu fresh act sizes (world_of v) (w.tick p))
    × ((v : Whole) (o b : ℕ) → world_of (with_object v o (comes_in b (object v o))) ≡ w.event Cpu fresh act sizes (world_of v) (w.byte o b))

-- and a sound world stays sound, whatever happens
abbrev pub StaysSound : Type 0
StaysSound =
    ((v u : Whole) → Sound v → (p : ℕ) → Ticked v p u → Sound u)
    × ((v : Whole) (o b : ℕ) → Sound v → Sound (with_object v o (comes_in b (object v o))))

-- u is what is left of v once a row of events has happened
unfoldable pub Ran : Whole → List w.Event → Whole → Type 0
Ran v [] u = u ≡ v
Ran v (w.tick p ∷ es) u = (m : Whole) × Ticked v p m × Ran m es u
Ran v (w.byte o b ∷ es) u = Ran (with_object v o (comes_in b (object v o))) es u

-- so whole rows do what the abstract world does
abbrev pub RowsAgree : Type 0
RowsAgree =
    (v u : Whole) → Sound v → (es : List w.Event) → Ran v es u → (world_of u ≡ w.run Cpu fresh act sizes (world_of v) es) × Sound u

-- what a thread says with what it does next is what the abstract world says in its time
abbrev pub SaysAgree : Type 0
SaysAgree =
    (v : Whole) (p : ℕ) (s : Option Step) → told_of (object v p) s ≡ next_act v (object v p) → says_next v p s ≡ event_says Cpu fresh act sizes (world_of v) (w.tick p)

-- and there always is something left, of an instruction's time and of a whole row
abbrev pub AlwaysLeft : Type 0
AlwaysLeft = ((v : Whole) (p : ℕ) → (u : Whole) × Ticked v p u) × ((v : Whole) (es : List w.Event) → (u : Whole) × Ran v es u)

-- the world that a call leaves
abbrev pub left_by : Ended → Whole
left_by (on v a) = v
left_by (wait v o) = v

-- a sound world's lineage has no empty entry; and in a world that has none, sound or not, no call, no step and no row brings one about
abbrev pub StaysFull : Type 0
StaysFull =
    ((v : Whole) → Sound v → LineageFull v)
    × ((v : Whole) → LineageFull v → (p : ℕ) (c : Call) → LineageFull (left_by (does v p c)))
    × ((v : Whole) → LineageFull v → (p : ℕ) (s : Step) → LineageFull (carried v p s))
    × ((v u : Whole) → LineageFull v → (es : List w.Event) → Ran v es u → LineageFull u)
