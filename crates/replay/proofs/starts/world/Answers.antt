use Rattle.std.proofs.Common.{◌≡◌, sym, ap, ◌∙◌, arith}
use Rattle.image.specs.Meaning as m
use Rattle.replay.specs.Reading.{seen, after}
use Rattle.replay.proofs.Made.{objects_begin, births_begin, objects_on, births_on, objects_end, made}
use Rattle.replay.proofs.starts.world.Goals as goal

pub loop-o-init : goal.loop-o-init
loop-o-init c =
    let born : c.first-places.result.born ≡ 0 = ap (λ (p : m.Places). p.born) c.first-places.ensures.same in
    record {
      made = objects_begin c.args.bytes.now c.two.result _ _ _ c.new-objects.ensures.items c.first-places.ensures.same;
      births = births_begin _ c.new-objects.ensures.items ∙ sym born;
      few = omega (arith, born);
      low = c.first-places.ensures.low;
    }

pub loop-o-preserved : goal.loop-o-preserved
loop-o-preserved c =
    let next = c.after-places.ensures.same ∙ ap (after c.args.bytes.now c.two.result c.loop-o.o (seen c.loop-o.places)) c.births.ensures in
    let more = ap (λ (p : m.Places). p.born) next in
    record {
      made = objects_on _ _ _ _ _ _ _ _ c.loop-o-test.true c.in_ok-push.ensures.items c.in_ok-object.ensures.same next ∙ c.loop-o.invariant.made;
      births = births_on _ _ _ _ _ c.in_ok-push.ensures.items c.loop-o.invariant.births more;
      few = omega (arith, more, c.in_ok-object.ensures.few, c.loop-o.invariant.few);
      low = c.after-places.ensures.low;
    }

pub returns : goal.returns
returns c =
    made c.args.bytes.now _ c.loop-o.places.born _
    (sym (objects_end _ _ _ _ _ c.loop-o-test.false) ∙ c.loop-o.invariant.made ∙ ap (λ n. m.objects_from c.args.bytes.now n n 0 (m.first_places c.args.bytes.now n)) c.two.ensures)
    c.loop-o.invariant.births c.new.ensures.items
