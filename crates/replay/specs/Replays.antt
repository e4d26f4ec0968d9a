-- What a run of a row of events hands back, in the signed world. Assumes nothing: these are definitions.
use Rattle.std.specs.Prelude.{◌≡◌, ℕ, List, vec_items, Ok, Err}
use Rattle.rights.specs.declared.said.Said.{Said}
use Rattle.rights.specs.World.{Event, object, shown_by}
use Rattle.rights.specs.World as w
use Rattle.rights.specs.Said.{said, said_on}
use Rattle.rv32.specs.declared.registers.Cpu.{Cpu}
use Rattle.rv32.specs.Registers.{fresh}
use Rattle.rv32.specs.Execute.{act}
use Rattle.image.specs.Fields.{Read}
use Rattle.image.specs.Meaning as meaning
use Rattle.image.specs.Rows.{row}
use Rattle.model.specs.Meaning.{sizes, world_of, meant}
use Rattle.model.specs.Plain.{Whole, plain}
use Rattle.model.specs.Sound.{Sound}
use Rattle.replay.specs.declared.errors.StartError.{StartError}
use Rattle.replay.specs.declared.errors.StartError.TheVariants as error
use Rattle.replay.specs.declared.runs.Replayed.{Replayed}

-- what a row of events says, from a world in the code's own parts on
abbrev pub said_from : Whole → List Event → List Said
said_from v es = said Cpu fresh act sizes (world_of v) es

-- of image bs and row es: the world that is left is what the row leaves of the world that the image means; what was said is what that row says there, in order;
-- and each line shows just what was said on it
pub record Replays (bs es : List ℕ) (r : Replayed) : Type 0 where
  pub left : meant r.world ≡ w.run Cpu fresh act sizes (meaning.world_of bs) (row es)
  pub told : vec_items r.said ≡ said Cpu fresh act sizes (meaning.world_of bs) (row es)
  pub shown : (o : ℕ) → shown_by Cpu fresh act (object Cpu fresh act (meant r.world) o) ≡ said_on o (vec_items r.said)
  pub sound : Sound (plain r.world)

-- why no world is handed back, by the answer of the check: a refusal is the check's own; and where the check takes both, memory or numbers are used up
abbrev pub Told : {A : Type 0} → Read A → StartError → Type 0
Told r (error.Refused e) = r ≡ Err e
Told {A} r (error.Fault f) = (a : A) × (r ≡ Ok a)
