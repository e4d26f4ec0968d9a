use Rattle.std.proofs.Common.{◌≡◌, ◌-◌, ◌≤◌}
use Rattle.rv32.specs.Registers as spec
use Rattle.rv32.proofs.registers.Cpu.put_words.Given as goal

abbrev pub invariant-loop-register : goal.invariant-loop-register
invariant-loop-register l =
    (l.register-iterator.a.end ≡ 16) × (l.register-iterator.a.start ≤ 16)
    × (spec.puts l.self l.register-iterator.a.start (16 - l.register-iterator.a.start) l.register-iterator.b.rest.now ≡ spec.puts l.fn.self 10 6 l.fn.words)
