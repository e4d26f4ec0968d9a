use Rattle.std.proofs.Common.{length, refl, arith}
use Rattle.std.proofs.lemmas.Grind.{common_steps}
use Rattle.image.proofs.Turns.{event_on, event_stops, events_end, event_grows}
use Rattle.image.proofs.headers.Image.all_events.Goals as goal

pub loop-at-init : goal.loop-at-init
loop-at-init c = (length c.args.events.now, omega arith, refl)

pub loop-at-preserved : goal.loop-at-preserved
loop-at-preserved c =
    let q = event_on c.args.self.now.bytes.now c.args.events.now c.args.self.now.objects c.loop-at.invariant.0 c.loop-at.at c.in_ok-at.at
    c.loop-at.invariant.1 c.loop-at-test.true c.in_ok-at.ensures in
    let g = event_grows c.args.self.now.bytes.now c.args.events.now c.args.self.now.objects c.loop-at.at c.in_ok-at.at c.in_ok-at.ensures in
    (q.0, omega (arith, q.1, c.loop-at.invariant.1, g), cc)

pub returns-in_err-at : goal.returns-in_err-at
returns-in_err-at c = grind (arith, common_steps, event_stops c.args.self.now.bytes.now c.args.events.now c.args.self.now.objects c.loop-at.invariant.0 c.loop-at.at)

pub returns : goal.returns
returns c = grind (arith, common_steps, events_end)
