use Rattle.std.proofs.Common.{◌<◌, map, length, set, get_or, sym, refl, ap, ◌∙◌, arith}
use Rattle.std.proofs.lemmas.List.{length-map, map-set, get_or-map}
use Rattle.model.specs.Plain.{thing}
use Rattle.model.specs.Sweeps.{at_each, kept_at}
use Rattle.model.proofs.Lists.{each_more}
use Rattle.model.proofs.revokes.sweep_all.Goals as goal

pub loop-i-init : goal.loop-i-init
unfolding at_each
loop-i-init c = refl

pub loop-i-preserved : goal.loop-i-preserved
loop-i-preserved c =
    let now = c.loop-i.x-items in
    let it = thing (get_or now c.loop-i.i c.x-item.result) in
    let j : c.loop-i.i < length now = omega arith in
    let h : c.loop-i.i < length (map thing c.deref_mut-x-items.result.now) = rw length-map (omega arith) in
    map-set thing now c.loop-i.i c.sweep_at.new.self ∙ ap (set (map thing now) c.loop-i.i) c.sweep_at.ensures
    ∙ each_more (kept_at c.args.marks.now) (map thing c.deref_mut-x-items.result.now) (map thing now) c.loop-i.i it h c.loop-i.invariant
    (sym (get_or-map thing now c.loop-i.i c.x-item.result it j))
