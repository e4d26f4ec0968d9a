use Rattle.std.proofs.Common.{◌≡◌, take}
use Rattle.std.specs.List.{flat_map}
use Rattle.assembler.specs.Lines.{bytes as bytes_of}
use Rattle.assembler.proofs.lines.assemble.Given as goal

abbrev pub invariant-loop-line : goal.invariant-loop-line
invariant-loop-line l = l.bytes.items ≡ flat_map bytes_of (take l.line-index l.lines)
