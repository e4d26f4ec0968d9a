use Rattle.rv32.specs.declared.registers.Cpu.{Cpu}
use Rattle.laws.proofs.Images.{image_starts}
use Rattle.laws.proofs.images_are_starts.Goals as goal

pub returns : goal.returns
returns c = image_starts Cpu
