-- What holds of every world that comes about: the program's ways of finding things rest on it. Assumes nothing: these are definitions.
use Rattle.std.specs.Prelude.{◌≡◌, ℕ, suc, ◌+◌, ◌<◌, ◌≤◌, true, List, [], ◌∷◌, map, length, Some, None, Option}
use Rattle.model.specs.declared.objects.Capability.{Capability}
use Rattle.model.specs.declared.objects.Thread.{Thread}
use Rattle.model.specs.Plain.{page, thread, Whole, page_at, object, from_of, slot_at}
use Rattle.model.specs.Calls.{is_page}
use Rattle.model.specs.Sweeps.{base_of}

-- capabilities with births one after the other from top on, each made from one that was born before
unfoldable pub Dense : ℕ → List (Option Capability) → Type 0
Dense top [] = Unit {0}
Dense top (None ∷ xs) = ⊥
Dense top (Some c ∷ xs) = (c.birth ≡ suc top) × (c.mother ≤ top) × Dense (suc top) xs

pub record Sound (v : Whole) : Type 0 where
  -- the lineage has the last births, one after the other
  pub dense : Dense (base_of v) v.lineage
  pub counted : base_of v + length v.lineage ≡ v.births
  -- what is in a slot was born
  pub born : (o s : ℕ) (c : Capability) → slot_at (object v o) s ≡ Some c → c.birth ≤ v.births
  -- what was cut came after its pool
  pub after : (o f : ℕ) → from_of (object v o) ≡ Some f → f < o
  -- pages have 4,096 bytes, and the pages of spaces are pages
  pub full : (o : ℕ) (f : Option ℕ) (bs : List ℕ) → object v o ≡ page f bs → length bs ≡ 4096
  pub paged : (q k o : ℕ) (t : Thread) → object v q ≡ thread t → page_at t.pages k ≡ Some o → is_page (object v o) ≡ true

-- no entry of the lineage is empty
abbrev pub LineageFull : Whole → Type 0
LineageFull v = (cs : List Capability) × (v.lineage ≡ map Some cs)
