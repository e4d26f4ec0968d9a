use Rattle.rv32.specs.declared.registers.Cpu.{Cpu}
use Rattle.laws.proofs.Shapes.{stays}
use Rattle.laws.proofs.objects_stay.Goals as goal

pub returns : goal.returns
returns c = stays Cpu
