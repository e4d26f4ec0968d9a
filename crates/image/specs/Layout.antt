-- Where the objects of an image lie in the lent frames. Places are counted in units of 64 bytes, 64 to a frame of 4,096.
-- Assumes nothing: these are definitions.
use Rattle.std.specs.Prelude.{ℕ, zero, suc, ◌+◌, ◌*◌, ◌/◌, cond, ◌||◌, List}
use Rattle.rights.specs.declared.kinds.Kind.TheVariants.{Pool, Table, Port, Page}
use Rattle.image.specs.Format.{is_a, size_at}

-- the next frame's first unit from u on
abbrev pub frame_up : ℕ → ℕ
frame_up u = (u + 63) / 64 * 64

-- where object o begins if u units are used before it: a pool or a page at a frame, the others at once
abbrev pub begins : List ℕ → ℕ → ℕ → ℕ
begins bs o u = cond (is_a bs o Pool || is_a bs o Page) (frame_up u) u

-- how many units it takes: a pool its frames, a table one for each slot, a port one, a page a frame; threads and lines lie elsewhere
abbrev pub takes : List ℕ → ℕ → ℕ
takes bs o =
    cond (is_a bs o Pool) (size_at bs o * 64) (cond (is_a bs o Table) (size_at bs o) (cond (is_a bs o Port) 1 (cond (is_a bs o Page) 64 0)))

-- how many units are used after k objects from o on, if u are used before
unfoldable pub filled : List ℕ → ℕ → ℕ → ℕ → ℕ
filled bs zero o u = u
filled bs (suc k) o u = filled bs k (suc o) (begins bs o u + takes bs o)

-- where object o begins
abbrev pub place : List ℕ → ℕ → ℕ
place bs o = begins bs o (filled bs o 0 0)

-- how many frames n objects need
abbrev pub frames_for : List ℕ → ℕ → ℕ
frames_for bs n = (filled bs n 0 0 + 63) / 64
