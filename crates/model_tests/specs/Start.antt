-- Parts of the world that the rows start from, and what is looked at. Assumes nothing: these are definitions.
use Rattle.std.specs.Prelude.{ℕ, ◌+◌, replicate, Some, None, Option}
use Rattle.rights.specs.Vocabulary.{all_three}
use Rattle.rv32.specs.Registers.{fresh}
use Rattle.model.specs.declared.objects.Capability.{Capability}
use Rattle.model.specs.declared.objects.State.{State}
use Rattle.model.specs.declared.objects.State.TheVariants.{Ready}
use Rattle.model.specs.declared.objects.Thread.{Thread}
use Rattle.model.specs.Plain.{Thing, unmapped, on_pool, on_thread}

-- all rights to an object, born as the next of the slots
abbrev pub holds : ℕ → Option Capability
holds o = Some (record { object = o; rights = all_three; badge = 0; birth = o + 1; mother = 0 })

-- a thread that is ready, with table 4 and an empty space
abbrev pub new_thread : ℕ → Thread
new_thread pc = record { state = Ready; cpu = fresh pc; table = Some 4; pages = replicate 64 unmapped }

-- how much of a pool is used, and the state of a thread
abbrev pub used : Thing → Option ℕ
used x = on_pool x None (λ f n u. Some u)

abbrev pub state : Thing → Option State
state x = on_thread x None (λ t. Some t.state)
