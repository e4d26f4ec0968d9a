use Rattle.rv32.specs.declared.registers.Cpu.{Cpu}
use Rattle.laws.proofs.Cuts.{cut_exactly}
use Rattle.laws.proofs.cut_refused_if_too_small.Goals as goal

pub returns : goal.returns
returns c = cut_exactly Cpu
