use Rattle.std.proofs.Common.{◌≡◌, ◌+◌, ◌-◌, ◌++◌, vec_items}
use Rattle.image.specs.Meaning.{bytes_from}
use Rattle.replay.proofs.objects.page.Given as goal

abbrev pub invariant-loop-k : goal.invariant-loop-k
invariant-loop-k l = vec_items l.page ++ bytes_from l.bytes (l.count - l.k) (l.at + l.k) ≡ bytes_from l.bytes l.count l.at
