use Rattle.std.proofs.Common.{rules, [], ◌∙◌}
use Rattle.model.specs.Plain.{thing}
use Rattle.model.specs.Sweeps.{cut_mark}
use Rattle.model.proofs.Scans.{scan_map}
use Rattle.model.proofs.marks.cuts_of.Goals as goal

pub returns : goal.returns
returns c = c.in_ok-marks.ensures (λ ms x. cut_mark c.args.o ms (thing x)) (λ ms x b p. search rules) ∙ scan_map (cut_mark c.args.o) thing [] c.args.objects.now
