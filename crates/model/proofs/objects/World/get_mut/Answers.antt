use Rattle.std.proofs.Common.{List, vec_items, refl, ap}
use Rattle.std.proofs.lemmas.List.{map-set}
use Rattle.model.specs.Plain as the
use Rattle.model.proofs.Lists.{read_item, past_item}
use Rattle.model.proofs.objects.World.get_mut.Goals as goal

pub returns : goal.returns
unfolding the.object the.with_object
returns c =
    let v = c.args.self.now in
    let put : List the.Thing → the.Whole = λ xs. record { things = xs; births = v.births; lineage = vec_items v.lineage } in (
      (refl, λ w. ap put (map-set the.thing (vec_items v.objects) c.args.o w), refl),
      record {
        follows = tt;
        finds = read_item (λ x. x.now) the.thing the.gone (vec_items v.objects) c.args.o c.get_mut.result c.get_mut.ensures.item;
        past = past_item (λ x. x.now) the.thing (vec_items v.objects) c.args.o c.get_mut.result c.get_mut.ensures.item put;
      },
    )
