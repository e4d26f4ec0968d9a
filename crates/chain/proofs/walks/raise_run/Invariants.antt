use Rattle.std.proofs.Common.{◌+◌, ◌*◌, ◌≡◌, ◌≤◌, ◌-◌, length}
use Rattle.board.specs.Links.{cell}
use Rattle.chain.specs.Ring as ring
use Rattle.chain.specs.Bytes as spec
use Rattle.chain.proofs.walks.raise_run.Given as goal

abbrev pub invariant-walk : goal.invariant-walk
invariant-walk l =
    record {
      same : spec.raise (l.units - l._turn) l.board.bytes l.slot l.depth l.here ≡ spec.raise l.units l.initial.board.bytes l.slot l.depth l.initial.here;
      count :
          l.board.touched + 3 * length (ring.passed (l.units - l._turn) (cell l.board.bytes) l.slot l.depth l.here) ≤
          l.initial.board.touched + 3 * length (ring.passed l.units (cell l.initial.board.bytes) l.slot l.depth l.initial.here);
    }
