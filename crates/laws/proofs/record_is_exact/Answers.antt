use Rattle.rv32.specs.declared.registers.Cpu.{Cpu}
use Rattle.laws.proofs.Makings.{record_is_exact}
use Rattle.laws.proofs.record_is_exact.Goals as goal

pub returns : goal.returns
returns c = record_is_exact Cpu
