use Rattle.std.proofs.Common.{Some, sym, ap, ◌∙◌}
use Rattle.model.specs.Calls.{new_thing}
use Rattle.model.specs.Plain.{page}
use Rattle.model.proofs.objects.Object.made.Goals as goal

pub returns-in_ok-bytes-in-Page : goal.returns-in_ok-bytes-in-Page
returns-in_ok-bytes-in-Page c =
    ap (λ bs. page (Some c.args.o) bs) c.in_ok-bytes-in-Page.ensures ∙ sym (ap (new_thing c.args.o) c.in-Page.is)
