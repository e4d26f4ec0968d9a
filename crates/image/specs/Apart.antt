-- Objects in the lent frames: in their order, apart, at a frame where they want one, and within the frames that are asked for.
-- Assumes nothing: these are statements.
use Rattle.std.specs.Prelude.{◌≡◌, ℕ, zero, suc, ◌+◌, ◌*◌, ◌/◌, ◌%◌, ◌<◌, ◌≤◌, true, ◌||◌, List, Some, None, Option}
use Rattle.rights.specs.declared.kinds.Kind.{Kind}
use Rattle.rights.specs.declared.kinds.Kind.TheVariants.{Pool, Table, Port, Page, Thread, Line}
use Rattle.rights.specs.World as world
use Rattle.image.specs.Format.{is_a, size_at}
use Rattle.image.specs.Layout.{begins, place, takes, frames_for}

-- how many frames k objects from o on would need if each had frames of its own
unfoldable pub own_frames : List ℕ → ℕ → ℕ → ℕ
own_frames bs zero o = 0
own_frames bs (suc k) o = (takes bs o + 63) / 64 + own_frames bs k (suc o)

-- the layout of any bytes, whether they are taken or not
pub record LaidOut (bs : List ℕ) : Type 0 where
  -- an object ends before the next begins, so two share no byte
  pub apart : (o p : ℕ) → o < p → place bs o + takes bs o ≤ place bs p
  -- objects lie within the frames that are asked for
  pub within : (n o : ℕ) → o < n → place bs o + takes bs o ≤ frames_for bs n * 64
  -- pools and pages begin at a frame
  pub at_a_frame : (o : ℕ) → (is_a bs o Pool || is_a bs o Page) ≡ true → place bs o % 64 ≡ 0
  -- no more frames are asked for than the sizes say
  pub few : (n : ℕ) → frames_for bs n ≤ own_frames bs n 0

-- pages of 4,096 bytes; the other two sizes do not count here
abbrev pub board_sizes : world.Sizes
board_sizes = record { bytes = 4096; pages = 64; heard = 1024 }

-- what would be cut from a pool for an object of a kind and size
abbrev pub as_cut : Kind → ℕ → Option world.Kind
as_cut Pool n = Some (world.a_pool n)
as_cut Table n = Some (world.a_table n)
as_cut Port n = Some world.a_port
as_cut Page n = Some world.a_page
as_cut Thread n = None
as_cut Line n = None

-- each object takes as much, counted in bytes, and begins at the next multiple that it would be filled up to, as if it were cut from one pool
abbrev pub AsCut : Type 0
AsCut =
    (bs : List ℕ) (o u : ℕ) (k : Kind) (w : world.Kind) → is_a bs o k ≡ true → as_cut k (size_at bs o) ≡ Some w →
    (64 * takes bs o ≡ world.cost board_sizes w) × (64 * begins bs o u ≡ world.up_to (world.step_of board_sizes w) (64 * u))

abbrev pub LiesApart : Type 0
LiesApart = ((bs : List ℕ) → LaidOut bs) × AsCut
