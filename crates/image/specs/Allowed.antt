-- Images and allowed worlds, both ways: every allowed world has an image, and every image means an allowed world. Assumes nothing: these are statements.
use Rattle.std.specs.Prelude.{◌≡◌, ℕ, ◌<◌, ◌≤◌, true, List, [], length, Ok, ◌≢◌, slice_index}
use Rattle.rights.specs.World.{World, Sizes, Wait, pool, port, object}
use Rattle.rights.specs.Promise.{HoldsAll, Parted, New, Fits, threads, lines}
use Rattle.rv32.specs.declared.registers.Cpu.{Cpu}
use Rattle.rv32.specs.Registers.{fresh}
use Rattle.rv32.specs.Execute.{act}
use Rattle.image.specs.declared.census.Census.{Census}
use Rattle.image.specs.declared.census.Kinds.{Kinds}
use Rattle.image.specs.Meaning.{world_of, frames}
use Rattle.image.specs.Verdict.{verdict, built, all_kinds}

-- numbers that are bytes
abbrev pub Bytes : List ℕ → Type 0
Bytes bs = (k : ℕ) → slice_index bs k < 256

-- bytes that are taken, if enough frames are lent
abbrev pub Taken : Kinds → List ℕ → Type 0
Taken ks bs = Bytes bs × ((c : Census) × (verdict ks 4096 bs ≡ Ok c))

-- a world of new objects, parted, that fits
pub record Allowed (z : Sizes) (w : World Cpu) : Type 0 where
  pub parted : Parted Cpu fresh act (λ o. true) w
  pub new : (o : ℕ) → o < length w.objects → New Cpu fresh act z (object Cpu fresh act w o)
  pub few : length w.objects ≤ 1000
  pub fits : Fits Cpu fresh act frames w

-- a world that has neither pools nor ports
abbrev pub ThinWorld : World Cpu → Type 0
ThinWorld w =
    ((o f n u : ℕ) → object Cpu fresh act w o ≢ pool f n u) × ((o f : ℕ) (ws : List Wait) → object Cpu fresh act w o ≢ port f ws)

-- every allowed world has an image that is taken and means it; if it has neither pools nor ports, one that is taken without these kinds.
-- What a kernel makes of the image plays no part here
abbrev pub Holds : Type 0
Holds =
    HoldsAll Cpu fresh act (List ℕ) ℕ (λ z bs. Taken all_kinds bs) (λ z bs. world_of bs) (λ z bs. 0) (λ z s e. s) (λ s o. []) frames
    × ((z : Sizes) (w : World Cpu) → z.bytes ≡ 4096 → z.pages ≡ 64 → Allowed z w → ThinWorld w → (bs : List ℕ) × Taken built bs × (world_of bs ≡ w))

-- and every image that is taken means an allowed world, with as many objects, threads and lines as its census says
abbrev pub MeansAllowed : Type 0
MeansAllowed =
    (ks : Kinds) (lent : ℕ) (z : Sizes) (bs : List ℕ) (c : Census) → z.bytes ≡ 4096 → z.pages ≡ 64 → Bytes bs → verdict ks lent bs ≡ Ok c →
    Allowed z (world_of bs) × (length (world_of bs).objects ≡ c.objects)
    × (threads Cpu fresh act (world_of bs).objects ≡ c.threads) × (lines Cpu fresh act (world_of bs).objects ≡ c.lines)
