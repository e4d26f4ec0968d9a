use Rattle.rv32.specs.declared.registers.Cpu.{Cpu}
use Rattle.laws.proofs.Answered.{comes_back}
use Rattle.laws.proofs.comes_back_by_meeting.Goals as goal

pub returns : goal.returns
returns c = comes_back Cpu
