use Rattle.rv32.specs.declared.registers.Cpu.{Cpu}
use Rattle.laws.proofs.Sending.{sent_once}
use Rattle.laws.proofs.sent_once.Goals as goal

pub returns : goal.returns
returns c = sent_once Cpu
