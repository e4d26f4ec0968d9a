use Rattle.std.proofs.Common.{◌≡◌, ◌+◌, drop}
use Rattle.rv32_tests.specs.Ticked as spec
use Rattle.rv32_tests.proofs.ram.Ram.store.Given as goal

abbrev pub invariant-loop-i : goal.invariant-loop-i
invariant-loop-i l =
    spec.put_bytes l.self (l.address + l.i) (drop l.i l.low) ≡ spec.put_bytes l.initial.self l.address l.low
