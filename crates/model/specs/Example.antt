-- A small world of which all that is asked of a world holds. Assumes nothing: these are definitions and a statement.
use Rattle.std.specs.Prelude.{ℕ, [], ◌∷◌, replicate, Some, None, Option}
use Rattle.rights.specs.Vocabulary.{all_three}
use Rattle.rv32.specs.Registers.{fresh}
use Rattle.model.specs.declared.objects.Capability.{Capability}
use Rattle.model.specs.declared.objects.State.TheVariants.{Ready}
use Rattle.model.specs.Plain.{Whole, pool, table, thread, line, unmapped}
use Rattle.model.specs.Sound.{Sound}

-- a capability with all rights, born as the k-th
abbrev holds : ℕ → ℕ → Option Capability
holds o k = Some (record { object = o; rights = all_three; badge = 0; birth = k; mother = 0 })

-- a pool, a line, a table that holds both and has two empty slots, and a thread with that table
abbrev pub small : Whole
small =
    record {
      things = pool None 12288 0 ∷ line [] [] ∷ table None (holds 0 1 ∷ holds 1 2 ∷ None ∷ None ∷ [])
          ∷ thread (record { state = Ready; cpu = fresh 0; table = Some 2; pages = replicate 64 unmapped }) ∷ [];
      births = 2;
      lineage = [];
    }

-- what was asked of a world can be met
abbrev pub SmallIsSound : Type 0
SmallIsSound = Sound small
