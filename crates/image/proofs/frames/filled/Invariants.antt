use Rattle.std.proofs.Common.{◌≡◌, ◌-◌, ◌*◌, ◌^◌, ◌≤◌}
use Rattle.image.specs.Layout.{filled}
use Rattle.image.proofs.frames.filled.Given as goal

abbrev pub invariant-loop-o : goal.invariant-loop-o
invariant-loop-o l = (filled l.image (l.count - l.o) l.o l.used ≡ filled l.image l.count 0 0) × (l.used ≤ l.o * 2 ^ 23)
