use Rattle.std.proofs.Common.{◌≡◌, ℕ, ◌+◌, ◌-◌, ◌≤◌, length}
use Rattle.image.specs.Events.{events_from}
use Rattle.image.proofs.headers.Image.all_events.Given as goal

abbrev pub invariant-loop-at : goal.invariant-loop-at
invariant-loop-at l =
    (k : ℕ) × (length l.events ≤ l.at + k)
    × (events_from l.self.bytes.now l.self.objects l.events k l.at ≡ events_from l.self.bytes.now l.self.objects l.events (length l.events) 0)

abbrev pub decreases-loop-at : goal.decreases-loop-at
decreases-loop-at l = length l.events - l.at
