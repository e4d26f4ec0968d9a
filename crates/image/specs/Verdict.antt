-- Whether an image is taken. Assumes nothing: these are definitions.
use Rattle.std.specs.Prelude.{ℕ, min, true, false, List, length, Ok, nat_le}
use Rattle.rights.specs.declared.refusals.Refusal.TheVariants.{Length, Frames}
use Rattle.image.specs.declared.census.Census.{Census}
use Rattle.image.specs.declared.census.Kinds.{Kinds}
use Rattle.image.specs.Fields.{Read, ◌then◌, judged}
use Rattle.image.specs.Format.{magic, count, headers, body}
use Rattle.image.specs.Layout.{frames_for}

-- THE LIMIT ON KINDS: those that the kernel has so far
abbrev pub built : Kinds
built = record { ports = false; pools = false }

-- and all that there are
abbrev pub all_kinds : Kinds
all_kinds = record { ports = true; pools = true }

-- the bytes in their order, then that they end there, then that the objects fit into the lent frames, of which at most 4,096 are used
abbrev pub verdict : Kinds → ℕ → List ℕ → Read Census
verdict ks frames bs =
    magic bs then λ _. count bs then λ n. headers ks bs n then λ c. body bs n then λ end.
    judged (nat_le (length bs) end) (Length end)
    (judged (nat_le (frames_for bs n) (min frames 4096)) (Frames (frames_for bs n)) (Ok c))
