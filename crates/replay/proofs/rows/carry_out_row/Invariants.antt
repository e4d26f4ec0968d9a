use Rattle.std.proofs.Common.{◌-◌, length, vec_items}
use Rattle.model.specs.Plain.{plain}
use Rattle.replay.proofs.Happening.{Leads}
use Rattle.replay.proofs.rows.carry_out_row.Given as goal

abbrev pub invariant-loop-at : goal.invariant-loop-at
invariant-loop-at l = Leads l.events (plain l.fn.world) (vec_items l.said) (plain l.world) l.at

abbrev pub decreases-loop-at : goal.decreases-loop-at
decreases-loop-at l = length l.events - l.at
