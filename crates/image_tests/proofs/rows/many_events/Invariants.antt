use Rattle.std.proofs.Common.{◌≡◌, ◌*◌, vec_len}
use Rattle.image_tests.proofs.rows.many_events.Given as goal

abbrev pub invariant-loop : goal.invariant-loop
invariant-loop l = vec_len l.row ≡ 7 * l.counter
