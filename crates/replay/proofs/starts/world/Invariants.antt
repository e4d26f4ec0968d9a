use Rattle.std.proofs.Common.{◌≡◌, ◌-◌, ◌*◌, ◌≤◌, ◌++◌, vec_items}
use Rattle.image.specs.Meaning.{objects_from, first_places, births_all}
use Rattle.replay.specs.Reading.{seen, Low}
use Rattle.replay.proofs.Made.{shown}
use Rattle.replay.proofs.starts.world.Given as goal

abbrev pub invariant-loop-o : goal.invariant-loop-o
invariant-loop-o l = record {
  made : shown (vec_items l.objects) ++ objects_from l.bytes l.image.objects (l.image.objects - l.o) l.o (seen l.places) ≡ objects_from l.bytes l.image.objects l.image.objects 0 (first_places l.bytes l.image.objects);
  births : births_all (shown (vec_items l.objects)) ≡ l.places.born;
  few : l.places.born ≤ l.o * 65536;
  low : Low l.places;
}
