-- What a slot holds, and whether one is free, on both sides.
use mathlib.Core.Path.{◌≡◌, refl}
use mathlib.Core.Bool.{true, false, ◌&&◌}
use mathlib.Core.List.{List}
use mathlib.Core.Logic.{◌≢◌}
use Prim.Native.Nat.{ℕ, suc, ◌+◌, ◌<◌}
use Rattle.std.specs.Prelude.{Option, Some, None}
use Rattle.rights.specs.World as w
use Rattle.rights.specs.World.{table_of, has_slot, is_empty}
use Rattle.rv32.specs.declared.registers.Cpu.{Cpu}
use Rattle.rv32.specs.Registers.{fresh}
use Rattle.rv32.specs.Execute.{act}
use Rattle.board.specs.declared.slots.Object.{Object}
use Rattle.board.specs.declared.slots.Object.TheVariants as at
use Rattle.board.specs.Slots.{slot_at}
use Rattle.space.specs.declared.side.Table.{Table}
use Rattle.calls.specs.declared.slots.Held.{Held}
use Rattle.calls.specs.Machine as m
use Rattle.calls.specs.Machine.{Machine}
use Rattle.calls.specs.Slots.{held, free, place_in}
use Rattle.chain.specs.Entries.{Entry}
use Rattle.chain.specs.Laws.{Outside}
use Rattle.kernel.specs.Core as c
use Rattle.kernel.specs.Relation.{Rep, Slotted, bits_of, mark_at}
use Rattle.kernel.proofs.Marks.{Found, mark_found, unmarked}
use Rattle.kernel.proofs.Callers.{Sight, absent, present, sight}

-- slot s of thread p is slot s of table u, which is at place a
pub record Lies (spot : ℕ → Option Object) (v : c.World) (p s u a n : ℕ) : Type 0 where
  pub is : spot u ≡ Some (at.Table a n)
  pub small : s < n
  pub bound : table_of Cpu fresh act (c.object v p) ≡ suc u

-- what is held at a place
abbrev pub held_as : ℕ → Object → w.Rights → ℕ → Held
held_as a x r b = record { place = a; capability = record { object = x; rights = bits_of r; badge = b } }

-- what slot s of thread p holds, on both sides
pub data Holding (spot : ℕ → Option Object) (ring : List Entry) (k : Machine) (v : c.World) (p : ℕ) (t : Option Table) (s : ℕ) : Type 0 where
  nothing : held k.bytes t s ≡ None → c.slot v p s ≡ w.empty → Holding spot ring k v p t s
  holds : (u a n o b i j : ℕ) (r : w.Rights) (x : Object) → Lies spot v p s u a n → c.slot v p s ≡ w.cap o r b i j → spot o ≡ Some x →
      held k.bytes t s ≡ Some (held_as (a + s) x r b) → slot_at k.bytes (a + s) ≡ Some (record { object = x; rights = bits_of r; badge = b }) →
      Found ring (a + s) i → Holding spot ring k v p t s

-- whether slot d of thread p is there and empty, on both sides
pub data Freedom (spot : ℕ → Option Object) (ring : List Entry) (k : Machine) (v : c.World) (p : ℕ) (t : Option Table) (d : ℕ) : Type 0 where
  taken : free k.bytes t d ≡ None → has_slot Cpu fresh act v p d && is_empty (c.slot v p d) ≡ false → Freedom spot ring k v p t d
  frees : (u a n : ℕ) → Lies spot v p d u a n → free k.bytes t d ≡ Some (a + d) → c.slot v p d ≡ w.empty → has_slot Cpu fresh act v p d ≡ true →
      Outside (a + d) ring → Freedom spot ring k v p t d

some_of : (o : Option Object) → o ≢ None → (x : Object) × (o ≡ Some x)
some_of None h = absurd (h refl)
some_of (Some x) h = (x, refl)

module _ (spot : ℕ → Option Object) (ring : List Entry) (k : Machine) (v : c.World) (rep : Rep spot ring k v) (p i : ℕ) (e : spot p ≡ Some (at.Thread i)) where
  abbrev t : Option Table
  t = m.table_of k.side i

  holding_by : (s u a n : ℕ) → Lies spot v p s u a n → place_in t s ≡ Some (a + s) → (x : w.Slot) → c.slot v p s ≡ x →
      Slotted spot (slot_at k.bytes) (mark_at ring) (a + s) x → Holding spot ring k v p t s
  holding_by s u a n l f w.empty g (h, _, _) = nothing (rw (f, h) refl) g
  holding_by s u a n l f (w.cap o r b j y) g (h, q, z) =
      let x = some_of (spot o) z in
      let y' : slot_at k.bytes (a + s) ≡ Some (record { object = x.0; rights = bits_of r; badge = b }) = rw x.1 at h in
      holds u a n o b j y r x.0 l g x.1 (rw (f, y') refl) y' (mark_found ring (a + s) j q)

  pub holding : (s : ℕ) → Holding spot ring k v p t s
  holding s = of (sight spot ring k v rep p i e s)
    where
      of : Sight spot ring k v p t s → Holding spot ring k v p t s
      of (absent f g h) = nothing (rw f refl) g
      of (present u a n g l b f h z) = holding_by s u a n (record { is = g; small = l; bound = b }) f (c.slot v p s) refl z

  freedom_by : (d u a n : ℕ) → Lies spot v p d u a n → place_in t d ≡ Some (a + d) → has_slot Cpu fresh act v p d ≡ true → (x : w.Slot) → c.slot v p d ≡ x →
      Slotted spot (slot_at k.bytes) (mark_at ring) (a + d) x → Freedom spot ring k v p t d
  unfolding is_empty
  freedom_by d u a n l f th w.empty g (h, q, _) = frees u a n l (rw (f, h) refl) g th (unmarked ring (a + d) q)
  freedom_by d u a n l f th (w.cap o r b j y) g (h, q, z) =
      let x = some_of (spot o) z in
      let y' : slot_at k.bytes (a + d) ≡ Some (record { object = x.0; rights = bits_of r; badge = b }) = rw x.1 at h in
      taken (rw (f, y') refl) (rw (th, g) refl)

  pub freedom : (d : ℕ) → Freedom spot ring k v p t d
  freedom d = of (sight spot ring k v rep p i e d)
    where
      of : Sight spot ring k v p t d → Freedom spot ring k v p t d
      of (absent f g h) = taken (rw f refl) (rw h refl)
      of (present u a n g l b f h z) = freedom_by d u a n (record { is = g; small = l; bound = b }) f h (c.slot v p d) refl z
