use Rattle.rv32.specs.declared.registers.Cpu.{Cpu}
use Rattle.laws.proofs.Dangles.{nothing_dangles}
use Rattle.laws.proofs.nothing_leads_to_the_gone.Goals as goal

pub returns : goal.returns
returns c = nothing_dangles Cpu
