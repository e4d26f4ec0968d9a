use Rattle.std.proofs.Common.{sym, ap, ◌∙◌, subst}
use Rattle.image.specs.Verdict.{verdict, all_kinds}
use Rattle.replay.specs.Replays.{Replays}
use Rattle.replay.proofs.Ran.{both_taken}
use Rattle.replay.proofs.runs.run_inputs.Goals as goal

pub returns-clause-runs : goal.returns-clause-runs
returns-clause-runs c =
    let k = both_taken 1024 c.args.inputs.now.image.more c.args.inputs.now.events.more c.args.inputs.now.image.bytes.items c.args.inputs.now.events.bytes.items c.in_ok-check_with.field-0 (sym c.in_ok-check_with.ensures) in
    let h = c.in_ok-carried_out.ensures 1024 k.0 (ap (verdict all_kinds 1024) c.deref.ensures.value ∙ k.1) in
    subst (λ es. Replays c.args.inputs.now.image.bytes.items es c.in_ok-carried_out.field-0) c.deref-2.ensures.value
    (subst (λ bs. Replays bs c.deref-2.result.now c.in_ok-carried_out.field-0) c.deref.ensures.value h)
