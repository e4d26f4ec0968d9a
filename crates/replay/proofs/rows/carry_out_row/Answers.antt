use Rattle.std.proofs.Common.{◌≡◌, sym, ◌∙◌}
use Rattle.image.specs.Fields.{one}
use Rattle.model.specs.Plain.{plain}
use Rattle.replay.proofs.Happening.{ticks, comes, begins, ends}
use Rattle.replay.proofs.rows.carry_out_row.Goals as goal

pub loop-at-init : goal.loop-at-init
loop-at-init c = begins c.args.events.now (plain c.args.world.now) _ c.new-said.ensures.items

pub loop-at-preserved-then-one-eq0 : goal.loop-at-preserved-then-one-eq0
loop-at-preserved-then-one-eq0 c =
    let tick : one c.args.events.now c.loop-at.at ≡ 0 = sym c.one.ensures ∙ c.if-one-eq0.true in
    ticks c.args.events.now (plain c.args.world.now) (plain c.loop-at.world) (plain c.tick.new.self) _ _ _ c.loop-at.at _ c.loop-at.invariant c.loop-at-test.true
    tick (c.from-o.ensures ∙ c.two.ensures) c.in_ok-tick.ensures.ticked c.in_ok-tick.ensures.said c.in_ok-append.ensures

pub loop-at-preserved : goal.loop-at-preserved
loop-at-preserved c =
    comes c.args.events.now (plain c.args.world.now) (plain c.loop-at.world) (plain c.come_in.new.self) _ c.loop-at.at _ _ c.loop-at.invariant c.loop-at-test.true
    (λ e. c.if-one-eq0.false (c.one.ensures ∙ e)) (c.from-o.ensures ∙ c.two.ensures) c.one-else-one-eq0.ensures c.in_ok-come_in.ensures

pub returns-clause-ran : goal.returns-clause-ran
returns-clause-ran c = (ends c.args.events.now (plain c.args.world.now) (plain c.loop-at.world) _ c.loop-at.at c.loop-at.invariant c.loop-at-test.false).0

pub returns-clause-said : goal.returns-clause-said
returns-clause-said c = (ends c.args.events.now (plain c.args.world.now) (plain c.loop-at.world) _ c.loop-at.at c.loop-at.invariant c.loop-at-test.false).1
