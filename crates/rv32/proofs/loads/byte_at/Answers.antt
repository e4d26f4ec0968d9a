use Rattle.std.proofs.Common.{rules}
use Rattle.rv32.proofs.Reading.{Small, aligned_byte}
use Rattle.rv32.proofs.loads.byte_at.Goals as goal

pub returns : goal.returns
returns g c =
    let s : Small c.byte.result = search rules in
    aligned_byte (g.M.Memory.seen c.args.memory.now) c.args.address c.byte.result s c.byte.ensures
