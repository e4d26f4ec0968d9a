use Rattle.rv32.specs.declared.registers.Cpu.{Cpu}
use Rattle.laws.proofs.Narrower.{no_more_by_calls}
use Rattle.laws.proofs.rights_never_grow_by_calls.Goals as goal

pub returns : goal.returns
returns c = no_more_by_calls Cpu
