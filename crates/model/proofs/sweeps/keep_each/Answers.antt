use Rattle.std.proofs.Common.{set, sym, ap, ◌∙◌}
use Rattle.std.proofs.lemmas.List.Edits.{map_over_more}
use Rattle.model.proofs.sweeps.keep_each.Goals as goal

pub loop-x-preserved : goal.loop-x-preserved
loop-x-preserved g c = λ f h.
    ap (set c.loop-x.items c.loop-x.x-index) (h _ _ c.keep.ensures ∙ ap f (sym c.x-item.is))
    ∙ map_over_more f c.args.items.now c.loop-x.items c.loop-x.x-index c.x-item.result c.loop-x-test.true (c.loop-x.invariant f h) c.x-item.is
