use Rattle.rv32.specs.declared.registers.Cpu.{Cpu}
use Rattle.laws.proofs.Meetings.{met_go_on}
use Rattle.laws.proofs.met_go_on.Goals as goal

pub returns : goal.returns
returns c = met_go_on Cpu
