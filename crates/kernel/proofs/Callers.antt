-- What a caller's slots are on both sides.
use mathlib.Core.Path.{◌≡◌, refl, subst, ◌∙◌}
use mathlib.Core.Bool.{true, false}
use mathlib.Core.List.{List}
use Prim.Native.Nat.{ℕ, zero, suc, ◌+◌, ◌<◌}
use native.Mathlib.Omega.{arith}
use lib.Dec.{eqb-suc-zero}
use lib.ListN.{length, get_or, get_or-eq_default}
use borrow.Author.Tests.{lt-ltb, le-ltb}
use Rattle.std.specs.Prelude.{Option, Some, None, slice_index_or}
use Rattle.rights.specs.World as w
use Rattle.rights.specs.World.{slots_of, table_of, slot, has_slot, is_empty}
use Rattle.rv32.specs.declared.registers.Cpu.{Cpu}
use Rattle.rv32.specs.Registers.{fresh}
use Rattle.rv32.specs.Execute.{act}
use Rattle.board.specs.declared.slots.Object.{Object}
use Rattle.board.specs.declared.slots.Object.TheVariants as at
use Rattle.board.specs.Slots.{slot_at}
use Rattle.space.specs.declared.side.Table.{Table}
use Rattle.calls.specs.Machine as m
use Rattle.calls.specs.Machine.{Machine}
use Rattle.calls.specs.Slots.{place_in}
use Rattle.chain.specs.Entries.{Entry}
use Rattle.laws.proofs.Tests.{below_or_not, clash, less_one}
use Rattle.kernel.specs.Core as c
use Rattle.kernel.specs.Relation.{Rep, Good, Bound, Slotted, mark_at}
use Rattle.kernel.proofs.Written.{good_table}

-- slot s of thread p, whose table is t here: it is there on both sides, and is the same, or on neither
pub data Sight (spot : ℕ → Option Object) (ring : List Entry) (k : Machine) (v : c.World) (p : ℕ) (t : Option Table) (s : ℕ) : Type 0 where
  absent : place_in t s ≡ None → c.slot v p s ≡ w.empty → has_slot Cpu fresh act v p s ≡ false → Sight spot ring k v p t s
  present : (u a n : ℕ) → spot u ≡ Some (at.Table a n) → s < n → table_of Cpu fresh act (c.object v p) ≡ suc u → place_in t s ≡ Some (a + s) →
      has_slot Cpu fresh act v p s ≡ true → Slotted spot (slot_at k.bytes) (mark_at ring) (a + s) (c.slot v p s) → Sight spot ring k v p t s

module _ (spot : ℕ → Option Object) (ring : List Entry) (k : Machine) (v : c.World) (rep : Rep spot ring k v) where
  -- the table of a thread of the world is the one here
  pub bound : (p i : ℕ) → spot p ≡ Some (at.Thread i) → Bound spot (m.table_of k.side i) (table_of Cpu fresh act (c.object v p))
  unfolding table_of
  bound p i e = of (c.object v p) (rep.good p)
    where
      of : (x : c.Object) → Good spot (slot_at k.bytes) (mark_at ring) k p x → Bound spot (m.table_of k.side i) (table_of Cpu fresh act x)
      of w.gone g = clash (cc)
      of (w.pool f n u) g = absurd g
      of (w.table f ss) (a, g, _) = clash (cc)
      of (w.port f ws) g = absurd g
      of (w.page f bs) (a, g, _) = clash (cc)
      of (w.thread f s d b ps rs) (j, g, h) = let z : j ≡ i = cc in subst (λ n. Bound spot (m.table_of k.side n) b) z h.table
      of (w.line xs ys) (a, g, _, _, _) = clash (cc)

  -- the number + 1 of a thread's table, by whether it is none
  sight_by : (p i s b : ℕ) → spot p ≡ Some (at.Thread i) → table_of Cpu fresh act (c.object v p) ≡ b → Bound spot (m.table_of k.side i) b →
      Sight spot ring k v p (m.table_of k.side i) s
  unfolding slot has_slot
  sight_by p i s zero e f h = absent (rw h refl) (rw f refl) (rw f refl)
  sight_by p i s (suc u) e f (a, n, g, h) =
      let q = good_table spot (slot_at k.bytes) (mark_at ring) k u (c.object v u) a n (rep.good u) g in
      let inside = rep.laid.inside u (at.Table a n) g (rep.laid.tables u a n g) in
      let value : c.slot v p s ≡ slice_index_or (c.slots_of (c.object v u)) s w.empty = rw (f, eqb-suc-zero u, less_one u) refl in
      below_or_not s n
      (λ l. present u a n g l f
      (rw (h, lt-ltb s n l, lt-ltb (a + s) 4294967296 (omega (arith, inside, rep.small, l))) refl)
      (rw (f, eqb-suc-zero u, less_one u, lt-ltb s (length (c.slots_of (c.object v u))) (omega (arith, q.0, l))) refl)
      (rw value (q.1 s l)))
      (λ l. absent
      (rw (h, le-ltb s n l) refl)
      (value ∙ get_or-eq_default (c.slots_of (c.object v u)) w.empty {n = s} (omega (arith, q.0, l)))
      (rw (f, eqb-suc-zero u, less_one u, le-ltb s (length (c.slots_of (c.object v u))) (omega (arith, q.0, l))) refl))

  pub sight : (p i : ℕ) → spot p ≡ Some (at.Thread i) → (s : ℕ) → Sight spot ring k v p (m.table_of k.side i) s
  sight p i e s = sight_by p i s (table_of Cpu fresh act (c.object v p)) e refl (bound p i e)
