-- What a step of a thread says, over the world in the code's own parts. Assumes nothing: these are definitions.
use Rattle.std.specs.Prelude.{ℕ, ◌%◌, Bool, true, false, cond, Some, None, Option}
use Rattle.rights.specs.declared.calls.Call.TheVariants as call
use Rattle.rights.specs.declared.said.Said.{Said}
use Rattle.rv32.specs.declared.steps.Step.{Step}
use Rattle.rv32.specs.declared.steps.Step.TheVariants as step
use Rattle.model.specs.Calls.{writable}
use Rattle.model.specs.Plain.{Thing, Whole, on_line, on_some, object}

-- whether it is a line
abbrev pub is_line : Thing → Bool
is_line x = on_line x false (λ xs ys. true)

-- with the call say one byte on the line that the slot leads to, if it may be written; nothing with any other step
abbrev pub says : Whole → ℕ → Step → Option Said
says w p (step.Call (call.Say s b)) =
    on_some (writable w p s) None (λ c. cond (is_line (object w c.object)) (Some (record { line = c.object; byte = b % 256 })) None)
says w p _ = None

-- the same of what a thread does next, if it does anything
abbrev pub says_next : Whole → ℕ → Option Step → Option Said
says_next w p None = None
says_next w p (Some s) = says w p s
