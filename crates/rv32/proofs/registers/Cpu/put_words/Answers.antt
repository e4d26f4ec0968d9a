use Rattle.std.proofs.Common.{sym, ◌∙◌, arith, ◌<◌}
use Rattle.rv32.proofs.Putting.{puts_one}
use Rattle.rv32.proofs.registers.Cpu.put_words.Goals as goal

-- src/registers.rt:63:9
pub loop-register-preserved : goal.loop-register-preserved
loop-register-preserved c =
    let s = c.in-Some.ensures.steps in
    let i = c.loop-register.invariant in
    let l : c.loop-register.register-iterator.a.start < 16 = omega (arith, s.0.1.0, i.0) in
    let p = puts_one c.loop-register.self c.loop-register.register-iterator.a.start 16 c.in-Some.word.now c.next.new.self.b.rest.now l in (
      omega (arith, s.0.0, i.0),
      omega (arith, s.0.1.2, l),
      rw c.put.ensures (rw s.0.1.1 (rw s.0.1.2 (sym p ∙ (rw (sym s.1) i.2)))),
    )
