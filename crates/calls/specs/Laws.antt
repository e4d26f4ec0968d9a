-- What holds of every call, by its definition. Assumes nothing: these are statements.
use Rattle.std.specs.Prelude.{◌≡◌, ◌⊎◌, ℕ, None}
use Rattle.rights.specs.declared.answers.Answer.TheVariants.{No}
use Rattle.rights.specs.declared.calls.Call.{Call}
use Rattle.calls.specs.declared.outcomes.Outcome.TheVariants.{Answered}
use Rattle.calls.specs.Machine.{Machine, table_of}
use Rattle.calls.specs.Calls.{call, refused}

-- a call that is refused leaves everything as it was
abbrev pub RefusedLeaves : Type 0
RefusedLeaves = (m : Machine) (i : ℕ) (c : Call) → (call m i c).outcome ≡ Answered No → (call m i c).machine ≡ m

-- no call changes both the board and what lies beside it
abbrev pub OneAlone : Type 0
OneAlone = (m : Machine) (i : ℕ) (c : Call) → ((call m i c).machine.bytes ≡ m.bytes) ⊎ ((call m i c).machine.side ≡ m.side)

-- a thread that has no table is refused every call
abbrev pub NoTableNoCall : Type 0
NoTableNoCall = (m : Machine) (i : ℕ) (c : Call) → table_of m.side i ≡ None → call m i c ≡ refused m
