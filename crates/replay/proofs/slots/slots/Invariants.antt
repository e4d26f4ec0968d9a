use Rattle.std.proofs.Common.{◌≡◌, ◌+◌, ◌-◌, ◌*◌, ◌≤◌, ◌++◌, map, vec_items}
use Rattle.image.specs.Meaning.{slots_from}
use Rattle.model.specs.Meaning.{slot_of}
use Rattle.replay.proofs.slots.slots.Given as goal

abbrev pub invariant-loop-k : goal.invariant-loop-k
invariant-loop-k l =
    (map slot_of (vec_items l.slots) ++ slots_from l.bytes (l.count - l.k) (l.at + 7 * l.k) l.births ≡ slots_from l.bytes l.count l.at l.born)
    × (l.births ≤ l.born + l.k)
