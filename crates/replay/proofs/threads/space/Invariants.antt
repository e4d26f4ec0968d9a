use Rattle.std.proofs.Common.{◌≡◌, ℕ, ◌+◌, ◌*◌, ◌<◌, length, get_or}
use Rattle.model.specs.Plain.{unmapped}
use Rattle.replay.specs.Reading.{mapping}
use Rattle.replay.proofs.threads.space.Given as goal

abbrev pub invariant-loop-k : goal.invariant-loop-k
invariant-loop-k l =
    (length l.page-items ≡ 64) × ((i : ℕ) → i < l.k → get_or l.page-items i unmapped ≡ mapping l.bytes (l.at + 3 * i))
