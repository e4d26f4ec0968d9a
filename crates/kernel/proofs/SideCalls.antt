-- Calls on threads and lines: map, unmap, bind, go, say, hear.
use mathlib.Core.Path.{◌≡◌, refl, sym, ap, subst, ◌∙◌}
use mathlib.Core.Bool.{Bool, false}
use mathlib.Core.List.{List, [], ◌∷◌, ◌++◌}
use Prim.Native.Nat.{ℕ, zero, suc, ◌+◌, ◌/◌, ◌%◌, ◌<◌, ◌≤◌}
use native.Mathlib.Omega.{arith}
use lib.Dec.{ltb, eqb-suc-zero}
use lib.ListN.{length, length-set}
use borrow.Author.Tests.{lt-ltb, le-ltb}
use Rattle.std.specs.Prelude.{Option, Some, None, slice_index, slice_index_or, slice_set}
use Rattle.std.specs.Option.{option_and_then, option_map}
use Rattle.std.proofs.lemmas.List.{get_or-set_same, get_or-set_other}
use Rattle.rights.specs.Said.{at_line}
use Rattle.rights.specs.World as w
use Rattle.rights.specs.World.{refuse}
use Rattle.rv32.specs.declared.registers.Cpu.{Cpu}
use Rattle.rv32.specs.Registers.{fresh}
use Rattle.rv32.specs.Execute.{act}
use Rattle.board.specs.declared.slots.Object.{Object}
use Rattle.board.specs.declared.slots.Object.TheVariants as at
use Rattle.space.specs.declared.entries.Mapping.{Mapping}
use Rattle.space.specs.declared.lines.Line.{Line}
use Rattle.space.specs.declared.side.State.{State}
use Rattle.space.specs.declared.side.State.TheVariants.{Stopped, Ready}
use Rattle.space.specs.declared.side.Table.{Table}
use Rattle.space.specs.declared.side.Thread.{Thread}
use Rattle.space.specs.Laws.{first, rest}
use Rattle.space.specs.Lines as lines
use Rattle.space.specs.Lines.{waiting}
use Rattle.space.specs.Tables.{look_up, map_page, unmap as unmap_page}
use Rattle.space.proofs.Spaces.{maps, unmaps, stays_shaped}
use Rattle.space.proofs.Waits.{lines_in_order, stays_kept}
use Rattle.calls.specs.Calls.{refused, changed, started, bound, mapped, unmapped, heard, shown, on_side, on_saying, on_hearing}
use Rattle.calls.specs.declared.slots.Page.{Page}
use Rattle.calls.specs.Machine as m
use Rattle.calls.specs.Machine.{Machine, thread_at, line_at}
use Rattle.calls.specs.Slots.{thread_of, line_of, page_of, table_of}
use Rattle.chain.specs.Entries.{Entry}
use Rattle.laws.proofs.Tests.{same_or_not, below_or_not, and_false}
use Rattle.kernel.specs.Core as c
use Rattle.kernel.specs.Meets.{Meets}
use Rattle.kernel.specs.Relation.{Rep, Alike, Mapped}
use Rattle.kernel.proofs.Marks.{pick_same, pick_other}
use Rattle.kernel.proofs.SlotCalls.{meets_refused}
use Rattle.kernel.proofs.Beside.{SameState, both_stopped, both_ready, same_state, Met, tables, pages, threads, lines_met, rep_thread, rep_line, rep_shown}

-- nothing comes of anything that gives nothing
pub then_none : {A B : Type 0} (o : Option A) → ◌≡◌ {A = Option B} (option_and_then (λ (x : A). None) o) None
then_none None = refl
then_none (Some x) = refl

module _ (spot : ℕ → Option Object) (ring : List Entry) (k : Machine) (v : c.World) (rep : Rep spot ring k v) where
  no_call : Meets spot None (refused k) (refuse Cpu fresh act v)
  no_call = meets_refused spot ring k v rep

  -- GO: what becomes of object o, which lies as x and is y
  pub going : (o a : ℕ) (x : Object) (y : c.Object) → spot o ≡ Some x → Met spot k o x y →
      Meets spot None (on_side k (option_and_then (λ i. changed k.side i (started a)) (thread_of x))) (w.going Cpu fresh act v o a y)
  unfolding w.going
  going o a _ _ e (tables p n f ss) = no_call
  going o a _ _ e (pages p f bs h) = no_call
  going o a _ _ e (lines_met j xs ys n h q) = no_call
  going o a _ _ e (threads i f s d b ps rs h) = rw (lt-ltb i 64 (rep.laid.few o i e)) (by (thread_at k.side i).state s refl (same_state (thread_at k.side i).state s h.state) h)
    where
      by : (q : State) (s : w.State Cpu) → (thread_at k.side i).state ≡ q → SameState q s → Alike spot (thread_at k.side i) o s d b ps rs →
          Meets spot None (on_side k (changed k.side i (started a))) (w.going Cpu fresh act v o a (w.thread f s d b ps rs))
      by _ _ g both_ready h = rw g no_call
      by _ _ g both_stopped h =
          rw g (
            refl,
            refl,
            ring,
            rep_thread spot ring k v rep o i e (record (thread_at k.side i) { state = Ready; cpu = fresh a }) f w.ready (fresh a) b ps rs
                (record { number = h.number; state = tt; core = refl; table = h.table; shaped = h.shaped; wide = h.wide; marks = h.marks; space = h.space }),
          )

  -- UNMAP
  pub freeing : (o a : ℕ) (x : Object) (y : c.Object) → spot o ≡ Some x → Met spot k o x y →
      Meets spot None (on_side k (option_and_then (λ i. changed k.side i (unmapped a)) (thread_of x))) (w.unmapping Cpu fresh act c.sizes v o a y)
  unfolding w.unmapping
  freeing o a _ _ e (tables p n f ss) = no_call
  freeing o a _ _ e (pages p f bs h) = no_call
  freeing o a _ _ e (lines_met j xs ys n h q) = no_call
  freeing o a _ _ e (threads i f s d b ps rs h) =
      rw (lt-ltb i 64 (rep.laid.few o i e))
      (below_or_not a 64
      (λ l. rw (lt-ltb a 64 l) (
        refl,
        refl,
        ring,
        rep_thread spot ring k v rep o i e (record (thread_at k.side i) { pages = unmap_page (thread_at k.side i).pages a }) f s d b (slice_set ps a 0) (slice_set rs a false)
            (record {
              number = h.number;
              state = h.state;
              core = h.core;
              table = h.table;
              shaped = stays_shaped.2 (thread_at k.side i).pages h.shaped a;
              wide = length-set ps a 0 ∙ h.wide;
              marks = length-set rs a false ∙ h.marks;
              space = λ z g. subst (λ f. Mapped spot (f z) (slice_index (slice_set ps a 0) z) (slice_index_or (slice_set rs a false) z false)) (sym (unmaps (thread_at k.side i).pages h.shaped a l))
                  (same_or_not z a
                  (λ y. rw (y, get_or-set_same ps a 0 0 (omega (arith, h.wide, l)), pick_same {A = Option Mapping} a a None (look_up (thread_at k.side i).pages a) refl) refl)
                  (λ y. rw (get_or-set_other ps a z 0 0 y, get_or-set_other rs a z false false y, pick_other {A = Option Mapping} z a None (look_up (thread_at k.side i).pages z) y) (h.space z g)));
            }),
      ))
      (λ l. rw (le-ltb a 64 l) no_call))

  -- MAP: object u, which lies as x' and is y', to page a of object o
  pub putting : (u o a : ℕ) (m : Bool) (x' x : Object) (y' y : c.Object) → spot u ≡ Some x' → Met spot k u x' y' → spot o ≡ Some x → Met spot k o x y → c.object v u ≡ y' →
      Meets spot None (on_side k (option_and_then (λ (p : Page). option_and_then (λ i. changed k.side i (mapped a p)) (thread_of x)) (page_of x' m))) (w.mapping Cpu fresh act c.sizes v u m o a y)
  unfolding w.mapping w.is_page
  putting u o a m x' _ y' _ e' g e (tables p n f ss) q = rw (then_none (page_of x' m)) no_call
  putting u o a m x' _ y' _ e' g e (pages p f bs h) q = rw (then_none (page_of x' m)) no_call
  putting u o a m x' _ y' _ e' g e (lines_met j xs ys n h z) q = rw (then_none (page_of x' m)) no_call
  putting u o a m _ _ _ _ e' (tables p n f' ss) e (threads i f s d b ps rs h) q = rw (q, and_false (ltb a 64)) no_call
  putting u o a m _ _ _ _ e' (threads j f' s' d' b' ps' rs' h') e (threads i f s d b ps rs h) q = rw (q, and_false (ltb a 64)) no_call
  putting u o a m _ _ _ _ e' (lines_met j xs ys n h' z) e (threads i f s d b ps rs h) q = rw (q, and_false (ltb a 64)) no_call
  putting u o a m _ _ _ _ e' (pages p f' bs h') e (threads i f s d b ps rs h) q =
      rw (lt-ltb i 64 (rep.laid.few o i e)) (below_or_not a 64 (λ l. by l (slice_index ps a) refl (h.space a l)) (λ l. rw (q, le-ltb a 64 l) no_call))
    where
      t : Thread
      t = thread_at k.side i

      by : a < 64 → (n : ℕ) → slice_index ps a ≡ n → Mapped spot (look_up t.pages a) n (slice_index_or rs a false) →
          Meets spot None (on_side k (changed k.side i (mapped a (record { place = p; writes = m }))))
          (w.mapping Cpu fresh act c.sizes v u m o a (w.thread f s d b ps rs))
      by l zero z g = rw (q, lt-ltb a 64 l, g, z)
          (refl, refl, ring, rep_thread spot ring k v rep o i e (record t { pages = map_page t.pages a p m }) f s d b (slice_set ps a (suc u)) (slice_set rs a m) alike)
        where
          room : (1 ≤ p) × (p + 64 ≤ length k.bytes / 64 + 1)
          room = rep.laid.inside u (at.Page p) e' (omega arith)

          alike : Alike spot (record t { pages = map_page t.pages a p m }) o s d b (slice_set ps a (suc u)) (slice_set rs a m)
          alike = record {
            number = h.number;
            state = h.state;
            core = h.core;
            table = h.table;
            shaped = stays_shaped.1 t.pages h.shaped a p m;
            wide = length-set ps a (suc u) ∙ h.wide;
            marks = length-set rs a m ∙ h.marks;
            space = λ z g. subst (λ f. Mapped spot (f z) (slice_index (slice_set ps a (suc u)) z) (slice_index_or (slice_set rs a m) z false)) (sym (maps t.pages h.shaped a p m l (rep.laid.frames u p e') (omega (arith, room, rep.small))))
                (same_or_not z a
                (λ y. rw (y, get_or-set_same ps a (suc u) 0 (omega (arith, h.wide, l)), get_or-set_same rs a m false (omega (arith, h.marks, l)), pick_same a a (Some (record { place = p; writes = m })) (look_up t.pages a) refl)
                (p, e', refl))
                (λ y. rw (get_or-set_other ps a z (suc u) 0 y, get_or-set_other rs a z m false y, pick_other z a (Some (record { place = p; writes = m })) (look_up t.pages z) y) (h.space z g)));
          }
      by l (suc n) z (r, j, g) = rw (q, lt-ltb a 64 l, g, z, eqb-suc-zero n) no_call

  -- BIND: the slots of object o are those of object u
  pub binding : (u o : ℕ) (x' x : Object) (y' y : c.Object) → spot u ≡ Some x' → Met spot k u x' y' → spot o ≡ Some x → Met spot k o x y → c.object v u ≡ y' →
      Meets spot None (on_side k (option_and_then (λ (t : Table). option_and_then (λ i. changed k.side i (bound t)) (thread_of x)) (table_of x'))) (w.binding Cpu fresh act v o u y)
  unfolding w.binding w.is_table
  binding u o x' _ y' _ e' g e (tables p n f ss) q = rw (then_none (table_of x')) no_call
  binding u o x' _ y' _ e' g e (pages p f bs h) q = rw (then_none (table_of x')) no_call
  binding u o x' _ y' _ e' g e (lines_met j xs ys n h z) q = rw (then_none (table_of x')) no_call
  binding u o x' x y' y e' g e (threads i f s d b ps rs h) q = by (thread_at k.side i).state s refl (same_state (thread_at k.side i).state s h.state) h x' y' e' g q
    where
      by : (n : State) (s : w.State Cpu) → (thread_at k.side i).state ≡ n → SameState n s → Alike spot (thread_at k.side i) o s d b ps rs →
          (x' : Object) (y' : c.Object) → spot u ≡ Some x' → Met spot k u x' y' → c.object v u ≡ y' →
          Meets spot None (on_side k (option_and_then (λ (t : Table). option_and_then (λ i. changed k.side i (bound t)) (thread_of (at.Thread i))) (table_of x'))) (w.binding Cpu fresh act v o u (w.thread f s d b ps rs))
      by _ _ n both_ready h _ _ e' (tables p m f' ss) q = rw (lt-ltb i 64 (rep.laid.few o i e), n) no_call
      by _ _ n both_ready h _ _ e' (pages p f' bs h') q = no_call
      by _ _ n both_ready h _ _ e' (threads j f' s' d' b' ps' rs' h') q = no_call
      by _ _ n both_ready h _ _ e' (lines_met j xs ys a b z) q = no_call
      by _ _ n both_stopped h _ _ e' (pages p f' bs h') q = rw q no_call
      by _ _ n both_stopped h _ _ e' (threads j f' s' d' b' ps' rs' h') q = rw q no_call
      by _ _ n both_stopped h _ _ e' (lines_met j xs ys a b z) q = rw q no_call
      by _ _ n both_stopped h _ _ e' (tables p m f' ss) q =
          rw (q, lt-ltb i 64 (rep.laid.few o i e), n) (
            refl,
            refl,
            ring,
            rep_thread spot ring k v rep o i e (record (thread_at k.side i) { state = Stopped; table = Some (record { place = p; slots = m }) }) f w.stopped d (suc u) ps rs
                (record { number = h.number; state = tt; core = h.core; table = (p, m, e', refl); shaped = h.shaped; wide = h.wide; marks = h.marks; space = h.space }),
          )

  -- SAY
  pub saying : (o b : ℕ) (x : Object) (y : c.Object) → spot o ≡ Some x → Met spot k o x y →
      Meets spot (at_line Cpu fresh act o (b % 256) y) (on_saying k (option_map (λ j. shown (line_at k.side j) b) (line_of x))) (w.saying Cpu fresh act v o (b % 256) y)
  unfolding w.saying at_line
  saying o b _ _ e (tables p n f ss) = no_call
  saying o b _ _ e (pages p f bs h) = no_call
  saying o b _ _ e (threads i f s d t ps rs h) = no_call
  saying o b _ _ e (lines_met j xs ys n h q) =
      rw (lt-ltb j 32 (rep.laid.fewer o j e)) (refl, ap (λ z. Some (record { line = z; byte = b % 256 })) n, ring, rep_shown spot ring k v rep o j e (xs ++ (b % 256) ∷ []) ys n h q)

  -- HEAR
  pub hearing : (o : ℕ) (x : Object) (y : c.Object) → spot o ≡ Some x → Met spot k o x y →
      Meets spot None (on_hearing k (option_and_then (heard k.side) (line_of x))) (w.hearing Cpu fresh act v o y)
  unfolding w.hearing
  hearing o _ _ e (tables p n f ss) = no_call
  hearing o _ _ e (pages p f bs h) = no_call
  hearing o _ _ e (threads i f s d t ps rs h) = no_call
  hearing o _ _ e (lines_met j xs ys n h q) = rw (lt-ltb j 32 (rep.laid.fewer o j e), lines_in_order.2 (line_at k.side j) h) (by ys q)
    where
      l : Line
      l = line_at k.side j

      by : (ys : List ℕ) → waiting l ≡ ys →
          Meets spot None (on_hearing k (option_map (λ b. (b, m.with_line k.side j (lines.hear l))) (first (waiting l)))) (w.hearing Cpu fresh act v o (w.line xs ys))
      by [] q = rw q no_call
      by (y ∷ ys) q =
          rw q (refl, refl, ring, rep_line spot ring k v rep o j e (lines.hear l) xs ys ((stays_kept.2 l h).1 ∙ n) (stays_kept.2 l h).0 (lines_in_order.3 l h ∙ ap rest q))
