-- REVOKE of what is no pool: the run leaves the ring, and just the slots that hold the world's offspring are emptied.
use mathlib.Core.Path.{◌≡◌, refl, sym, ap, subst, ◌∙◌}
use mathlib.Core.Bool.{Bool, true, false, ◌||◌, not}
use mathlib.Core.List.{List, [], ◌∷◌, ◌++◌}
use Prim.Native.Nat.{ℕ, zero, suc, ◌+◌, ◌-◌, ◌/◌}
use native.Mathlib.Omega.{arith}
use lib.Dec.{eqb}
use lib.ListN.{length, get_or}
use borrow.Author.Tests.{eq-eqb, ne_eqb}
use Rattle.std.proofs.Common.{append_assoc}
use Rattle.std.specs.Prelude.{Option, Some, None, slice_index_or}
use Rattle.std.specs.List.{AllByRecursion}
use Rattle.rights.specs.World as w
use Rattle.rights.specs.World.{pick, among, cleared, cleaned, emptied, unmapped, woken, slots_of, with_slots, slot_birth, is_empty, offspring}
use Rattle.rv32.specs.declared.registers.Cpu.{Cpu}
use Rattle.rv32.specs.Registers.{fresh}
use Rattle.rv32.specs.Execute.{act}
use Rattle.board.specs.declared.slots.Object.{Object}
use Rattle.board.specs.declared.slots.Object.TheVariants as at
use Rattle.board.specs.declared.slots.Capability.{Capability}
use Rattle.board.specs.Slots.{slot_at}
use Rattle.calls.specs.Machine.{Machine}
use Rattle.chain.specs.Entries.{Entry, places, births, run, beyond, Apart}
use Rattle.chain.proofs.Lists.{at_birth}
use Rattle.laws.proofs.Sweeping.{at_clean}
use Rattle.laws.proofs.Tests.{same_or_not, either_way, clash, and_false, no_yes, not_true}
use Rattle.kernel.specs.Core as c
use Rattle.space.specs.declared.side.State.{State}
use Rattle.space.specs.declared.side.State.TheVariants.{Stopped, Ready, Sends, Receives}
use Rattle.kernel.specs.Relation.{Like, Rep, Good, Slotted, Known, shape, slot_mark, mark_at}
use Rattle.rights.specs.declared.calls.Call.TheVariants.{Revoke}
use Rattle.rights.specs.Said.{call_says}
use Rattle.rights.specs.World.{is_pool, does}
use Rattle.calls.specs.Calls.{call}
use Rattle.calls.specs.Machine as m
use Rattle.calls.specs.Slots.{held}
use Rattle.chain.specs.Bytes.{swept}
use Rattle.chain.specs.OnBoard.{OnlyThese, Carries}
use Rattle.chain.proofs.Boarded.{sweep_on_board}
use Rattle.chain.proofs.Lists.{sub_all, sub_places}
use Rattle.chain.proofs.Runs.{sub_beyond}
use Rattle.kernel.specs.Meets.{Meets}
use Rattle.kernel.proofs.Holding.{held_as, Lies, Holding, nothing, holds, holding}
use Rattle.kernel.proofs.Kept.{only_in_slots}
use Rattle.kernel.proofs.SlotCalls.{carries, meets_refused, parted}
use Rattle.kernel.proofs.Marks.{Found}
use Rattle.kernel.proofs.Marks.{mark_found, mark_sweep, mark_past, gone_of, outside_front}
use Rattle.chain.specs.Ring.{Stands}
use Rattle.kernel.specs.Places.{SlotPlace}
use Rattle.kernel.proofs.Kept.{InSlots, pages_stay}
use Rattle.kernel.proofs.Written.{good_slots, good_table}
use Rattle.kernel.proofs.Offspring.{offspring_is}
use Rattle.chain.proofs.Kept.{run_is_offspring}
use Rattle.chain.specs.Laws.{Outside}
use Rattle.chain.specs.Lineage.{Comes}
use Rattle.board.specs.Links.{cell}

-- what holds of all births of a ring holds of the one at a place
of_mark : (P : ℕ → Type 0) (l : List Entry) (q j : ℕ) → AllByRecursion P (births l) → mark_at l q ≡ suc j → P j
of_mark P l q j h e =
    let f = mark_found l q j e in
    let g : AllByRecursion P (births (f.before ++ f.here ∷ f.after)) = subst (λ k. AllByRecursion P (births k)) f.is h in
    subst P f.birth (at_birth P f.before f.here f.after g)

-- the entries after do not matter where there is one before
mark_in : (a b : List Entry) (q : ℕ) → among q (places a) ≡ true → mark_at (a ++ b) q ≡ mark_at a q
unfolding among mark_at
mark_in [] b q h = no_yes h
mark_in (x ∷ a) b q h =
    same_or_not q x.place
    (λ e. rw (eq-eqb q x.place e) refl)
    (λ n. let k : among q (places a) ≡ true = rw (ne_eqb q x.place n) at h in rw (ne_eqb q x.place n) (mark_in a b q k))

-- no births, no objects
unmapped_none : (ps : List ℕ) → unmapped Cpu fresh act [] ps ≡ ps
unfolding unmapped among
unmapped_none [] = refl
unmapped_none (p ∷ ps) = rw (and_false (not (eqb p 0)), unmapped_none ps) refl

-- where nothing is gone but births, an object keeps all but its slots
cleaned_slots : (spot : ℕ → Option Object) (held : _) (mark : ℕ → ℕ) (k : Machine) (o : ℕ) (ids : List ℕ) (x : c.Object) → Good spot held mark k o x →
    cleaned Cpu fresh act ids [] x ≡ with_slots Cpu fresh act x (emptied Cpu fresh act ids [] (c.slots_of x))
unfolding cleaned with_slots slots_of woken among
cleaned_slots spot held mark k o ids w.gone g = refl
cleaned_slots spot held mark k o ids (w.pool f n u) g = absurd g
cleaned_slots spot held mark k o ids (w.table f ss) g = refl
cleaned_slots spot held mark k o ids (w.port f ws) g = absurd g
cleaned_slots spot held mark k o ids (w.page f bs) g = refl
cleaned_slots spot held mark k o ids (w.thread f w.stopped d t ps rs) g = rw (and_false (not (eqb t 0)), unmapped_none ps) refl
cleaned_slots spot held mark k o ids (w.thread f w.ready d t ps rs) g = rw (and_false (not (eqb t 0)), unmapped_none ps) refl
cleaned_slots spot held mark k o ids (w.thread f (w.waits u then) d t ps rs) (i, e, h) = absurd (never _ h.state)
  where
    never : (s : State) → Like s (w.waits u then) → ⊥
    never Stopped h = h
    never Ready h = h
    never (Sends a b g) h = h
    never (Receives a) h = h
cleaned_slots spot held mark k o ids (w.line xs ys) g = refl

-- a slot once births are gone
emptied_slot : (ids : List ℕ) (ss : List w.Slot) (i : ℕ) →
    slice_index_or (emptied Cpu fresh act ids [] ss) i w.empty ≡ pick (among (slot_birth (slice_index_or ss i w.empty)) ids) w.empty (slice_index_or ss i w.empty)
unfolding emptied among
emptied_slot ids [] i = by (among (slot_birth w.empty) ids)
  where
    by : (b : Bool) → w.empty ≡ pick b w.empty w.empty
    by true = refl
    by false = refl
emptied_slot ids (x ∷ ss) zero = rw and_false (by (among (slot_birth x) ids))
  where
    by : (b : Bool) → pick (b || false) w.empty x ≡ pick b w.empty x
    by true = refl
    by false = refl
emptied_slot ids (x ∷ ss) (suc i) = emptied_slot ids ss i

emptied_length : (ids : List ℕ) (ss : List w.Slot) → length (emptied Cpu fresh act ids [] ss) ≡ length ss
unfolding emptied
emptied_length ids [] = refl
emptied_length ids (x ∷ ss) = ap suc (emptied_length ids ss)

cleared_object : (v : c.World) (ids : List ℕ) (o : ℕ) → c.object (cleared Cpu fresh act v ids []) o ≡ cleaned Cpu fresh act ids [] (c.object v o)
unfolding cleared w.object among
cleared_object v ids o = at_clean Cpu fresh act ids [] 0 o o v.objects (omega arith)

module _ (spot : ℕ → Option Object) (k : Machine) (v : c.World) (before : List Entry) (h : Entry) (after : List Entry) (rep : Rep spot (before ++ h ∷ after) k v) where
  abbrev ids : List ℕ
  ids = offspring Cpu fresh act v v.births (h.birth ∷ [])

  abbrev gone : List ℕ
  gone = places (run h.depth after)

  abbrev left : List Entry
  left = before ++ h ∷ beyond h.depth after

  kin : (run h.depth after ++ beyond h.depth after ≡ after) × AllByRecursion (Comes v.lineage h.birth) (births (run h.depth after)) ×
      AllByRecursion (λ b. Comes v.lineage h.birth b → ⊥) (births left)
  kin = run_is_offspring v.lineage v.births (cell k.bytes) before h after rep.stands

  -- the ring, with its run set apart
  whole : (before ++ h ∷ []) ++ (run h.depth after ++ beyond h.depth after) ≡ before ++ h ∷ after
  whole = append_assoc before (h ∷ []) (run h.depth after ++ beyond h.depth after) ∙ ap (λ l. before ++ h ∷ l) kin.0

  rest : (before ++ h ∷ []) ++ beyond h.depth after ≡ left
  rest = append_assoc before (h ∷ []) (beyond h.depth after)

  apart : Apart (places ((before ++ h ∷ []) ++ (run h.depth after ++ beyond h.depth after)))
  apart = subst (λ l. Apart (places l)) (sym whole) rep.stands.chain.apart

  -- the marks of what is left
  mark_left : (q : ℕ) → mark_at left q ≡ pick (among q gone) 0 (mark_at (before ++ h ∷ after) q)
  mark_left q =
      ap (λ l. mark_at l q) (sym rest) ∙ mark_sweep (before ++ h ∷ []) (run h.depth after) (beyond h.depth after) apart q
      ∙ ap (λ l. pick (among q gone) 0 (mark_at l q)) whole

  -- a full slot is among the emptied ones exactly if its birth is among the world's offspring
  same_gone : (q j : ℕ) → mark_at (before ++ h ∷ after) q ≡ suc j → among q gone ≡ among j ids
  same_gone q j e =
      either_way (among q gone)
      (λ g. g ∙ sym ((offspring_is v rep.stands.orderly h.birth j).1 (comes g)))
      (λ g. g ∙ sym (not_true (among j ids) (λ y. away g ((offspring_is v rep.stands.orderly h.birth j).0 y))))
    where
      comes : among q gone ≡ true → Comes v.lineage h.birth j
      comes g =
          of_mark (Comes v.lineage h.birth) (run h.depth after) q j kin.1
          (sym (mark_in (run h.depth after) (beyond h.depth after) q g) ∙ sym (mark_past (before ++ h ∷ []) (run h.depth after ++ beyond h.depth after) q (not_before g)) ∙ ap (λ l. mark_at l q) whole ∙ e)
        where
          not_before : among q gone ≡ true → Outside q (before ++ h ∷ [])
          not_before g = outside_front (before ++ h ∷ []) (beyond h.depth after) q (gone_of (before ++ h ∷ []) (run h.depth after) (beyond h.depth after) q apart g)

      away : among q gone ≡ false → Comes v.lineage h.birth j → ⊥
      away g = of_mark (λ b. Comes v.lineage h.birth b → ⊥) left q j kin.2 (mark_left q ∙ ap (λ b. pick b 0 (mark_at (before ++ h ∷ after) q)) g ∙ e)

  -- a slot stays good
  slot_left : (n : List ℕ) → ((q : ℕ) → slot_at n q ≡ pick (among q gone) None (slot_at k.bytes q)) → (q : ℕ) (x : w.Slot) →
      Slotted spot (slot_at k.bytes) (mark_at (before ++ h ∷ after)) q x → Slotted spot (slot_at n) (mark_at left) q (pick (among (slot_birth x) ids) w.empty x)
  unfolding slot_birth
  slot_left n f q w.empty (a, b, d) = (
    f q ∙ ap (pick (among q gone) None) a ∙ none (among q gone) ∙ ap (shape spot) (sym (both (among 0 ids))),
    mark_left q ∙ ap (pick (among q gone) 0) b ∙ zero_of (among q gone) ∙ ap slot_mark (sym (both (among 0 ids))),
    subst (Known spot) (sym (both (among 0 ids))) tt,
  )
    where
      none : (b : Bool) → ◌≡◌ {A = Option Capability} (pick b None None) None
      none true = refl
      none false = refl

      zero_of : (b : Bool) → ◌≡◌ {A = ℕ} (pick b 0 0) 0
      zero_of true = refl
      zero_of false = refl

      both : (b : Bool) → pick b w.empty w.empty ≡ w.empty
      both true = refl
      both false = refl
  slot_left n f q (w.cap o r b j y) (a, m, d) = by (among j ids) (same_gone q j m)
    where
      by : (z : Bool) → among q gone ≡ z → Slotted spot (slot_at n) (mark_at left) q (pick z w.empty (w.cap o r b j y))
      by true g = (f q ∙ ap (λ u. pick u None (slot_at k.bytes q)) g, mark_left q ∙ ap (λ u. pick u 0 (mark_at (before ++ h ∷ after) q)) g, tt)
      by false g = (f q ∙ ap (λ u. pick u None (slot_at k.bytes q)) g ∙ a, mark_left q ∙ ap (λ u. pick u 0 (mark_at (before ++ h ∷ after) q)) g ∙ m, d)

  -- the machine and the world once the run is gone
  pub swept_rep : (n : List ℕ) → InSlots spot k.bytes n → ((q : ℕ) → slot_at n q ≡ pick (among q gone) None (slot_at k.bytes q)) → Stands v.lineage v.births (cell n) left →
      AllByRecursion (SlotPlace spot) (places left) → Rep spot left (record { bytes = n; side = k.side }) (cleared Cpu fresh act v ids [])
  unfolding cleared
  swept_rep n ins f st sl =
      record {
        small = rw ins.long rep.small;
        threads = rep.threads;
        lines = rep.lines;
        laid = rw ins.long rep.laid;
        good = λ o. subst (Good spot (slot_at n) (mark_at left) (record { bytes = n; side = k.side }) o) (sym (now o))
            (good_slots spot (slot_at k.bytes) (mark_at (before ++ h ∷ after)) k o (slot_at n) (mark_at left) (record { bytes = n; side = k.side }) refl
            (pages_stay (length k.bytes / 64) spot k.bytes n rep.laid ins o)
            (c.object v o) (emptied Cpu fresh act ids [] (c.slots_of (c.object v o))) (emptied_length ids (c.slots_of (c.object v o))) (rep.good o)
            (λ a s e i l. subst (Slotted spot (slot_at n) (mark_at left) (a + i)) (sym (emptied_slot ids (c.slots_of (c.object v o)) i))
            (slot_left n f (a + i) (slice_index_or (c.slots_of (c.object v o)) i w.empty)
            (let g = good_table spot (slot_at k.bytes) (mark_at (before ++ h ∷ after)) k o (c.object v o) a s (rep.good o) e in
            g.1 i (omega (arith, g.0, l, emptied_length ids (c.slots_of (c.object v o))))))));
        stands = st;
        slots = sl;
      }
    where
      now : (o : ℕ) → c.object (cleared Cpu fresh act v ids []) o ≡ with_slots Cpu fresh act (c.object v o) (emptied Cpu fresh act ids [] (c.slots_of (c.object v o)))
      now o = cleared_object v ids o ∙ cleaned_slots spot (slot_at k.bytes) (mark_at (before ++ h ∷ after)) k o ids (c.object v o) (rep.good o)

-- no pool is there yet
pub no_pool : (spot : ℕ → Option Object) (ring : List Entry) (k : Machine) (v : c.World) → Rep spot ring k v → (o : ℕ) → is_pool Cpu fresh act (c.object v o) ≡ false
unfolding is_pool
no_pool spot ring k v rep o = of (c.object v o) (rep.good o)
  where
    of : (x : c.Object) → Good spot (slot_at k.bytes) (mark_at ring) k o x → is_pool Cpu fresh act x ≡ false
    of w.gone g = refl
    of (w.pool f n u) g = absurd g
    of (w.table f ss) g = refl
    of (w.port f ws) g = refl
    of (w.page f bs) g = refl
    of (w.thread f s d t ps rs) g = refl
    of (w.line xs ys) g = refl

pub no_pool_spot : (spot : ℕ → Option Object) (ring : List Entry) (k : Machine) (v : c.World) → Rep spot ring k v → (o a n u l : ℕ) → spot o ≡ Some (at.Pool a n u l) → ⊥
no_pool_spot spot ring k v rep o a n u l e = of (c.object v o) (rep.good o)
  where
    of : (x : c.Object) → Good spot (slot_at k.bytes) (mark_at ring) k o x → ⊥
    of w.gone g = clash (cc)
    of (w.pool f m b) g = g
    of (w.table f ss) (p, g, _) = clash (cc)
    of (w.port f ws) g = g
    of (w.page f bs) (p, g, _) = clash (cc)
    of (w.thread f s d t ps rs) (p, g, _) = clash (cc)
    of (w.line xs ys) (p, g, _, _, _) = clash (cc)

-- places of a ring whose run is gone
left_slots : (P : ℕ → Type 0) (before : List Entry) (h : Entry) (after : List Entry) → AllByRecursion P (places (before ++ h ∷ after)) → AllByRecursion P (places (before ++ h ∷ beyond h.depth after))
left_slots P [] h after (g, l) = (g, sub_all P (sub_places (sub_beyond h.depth after)) l)
left_slots P (x ∷ before) h after (g, l) = (g, left_slots P before h after l)

module _ (spot : ℕ → Option Object) (ring : List Entry) (k : Machine) (v : c.World) (rep : Rep spot ring k v) (p i : ℕ) (e : spot p ≡ Some (at.Thread i)) where
  revoking : (u a n s j : ℕ) → Lies spot v p s u a n → (f : Found ring (a + s) j) →
      (l : List Entry) × Rep spot l (record { bytes = swept k.bytes (a + s); side = k.side }) (cleared Cpu fresh act v (offspring Cpu fresh act v v.births (j ∷ [])) [])
  revoking u a n s j l f =
      let r = parted spot ring k v rep (a + s) j f in
      let h = f.here in
      let ring1 : List Entry = f.before ++ h ∷ f.after in
      let t : Carries v.lineage v.births (swept k.bytes h.place) (f.before ++ h ∷ beyond h.depth f.after)
      × OnlyThese (places ring1) (places (run h.depth f.after)) k.bytes (swept k.bytes h.place) =
      sweep_on_board v.lineage v.births k.bytes f.before h f.after (carries spot ring1 k v r) in
      let z : Rep spot (f.before ++ h ∷ beyond h.depth f.after) (record { bytes = swept k.bytes h.place; side = k.side }) (cleared Cpu fresh act v (offspring Cpu fresh act v v.births (h.birth ∷ [])) []) =
      swept_rep spot k v f.before h f.after r (swept k.bytes h.place) (only_in_slots spot (places ring1) (places (run h.depth f.after)) k.bytes (swept k.bytes h.place) r.slots t.1)
      t.1.slots t.0.stands (left_slots (SlotPlace spot) f.before h f.after r.slots) in (
        f.before ++ h ∷ beyond h.depth f.after,
        subst (λ y. Rep spot (f.before ++ h ∷ beyond h.depth f.after) (record { bytes = swept k.bytes (a + s); side = k.side }) (cleared Cpu fresh act v (offspring Cpu fresh act v v.births (y ∷ [])) [])) f.birth
            (subst (λ y. Rep spot (f.before ++ h ∷ beyond h.depth f.after) (record { bytes = swept k.bytes y; side = k.side }) (cleared Cpu fresh act v (offspring Cpu fresh act v v.births (h.birth ∷ [])) [])) f.place z),
      )

  pub revoke_meets : (s : ℕ) → Meets spot (call_says Cpu fresh act v p (w.revoke s)) (call k i (Revoke s)) (c.does v p (w.revoke s))
  unfolding does is_empty call_says w.revoking slot_birth
  revoke_meets s = of (holding spot ring k v rep p i e s)
    where
      by : (u a n o b j y : ℕ) (q : w.Rights) (x : Object) → Lies spot v p s u a n → c.slot v p s ≡ w.cap o q b j y → spot o ≡ Some x → Found ring (a + s) j →
          held k.bytes (m.table_of k.side i) s ≡ Some (held_as (a + s) x q b) →
          Meets spot (call_says Cpu fresh act v p (w.revoke s)) (call k i (Revoke s)) (c.does v p (w.revoke s))
      by u a n o b j y q (at.Pool a' n' u' l') l sl ox f h = absurd (no_pool_spot spot ring k v rep o a' n' u' l' ox)
      by u a n o b j y q (at.Table a' n') l sl ox f h = let z = revoking u a n s j l f in rw (h, sl, no_pool spot ring k v rep (w.slot_object (w.cap o q b j y) - 1)) (refl, refl, z.0, z.1)
      by u a n o b j y q (at.Port a') l sl ox f h = let z = revoking u a n s j l f in rw (h, sl, no_pool spot ring k v rep (w.slot_object (w.cap o q b j y) - 1)) (refl, refl, z.0, z.1)
      by u a n o b j y q (at.Page a') l sl ox f h = let z = revoking u a n s j l f in rw (h, sl, no_pool spot ring k v rep (w.slot_object (w.cap o q b j y) - 1)) (refl, refl, z.0, z.1)
      by u a n o b j y q (at.Thread i') l sl ox f h = let z = revoking u a n s j l f in rw (h, sl, no_pool spot ring k v rep (w.slot_object (w.cap o q b j y) - 1)) (refl, refl, z.0, z.1)
      by u a n o b j y q (at.Line j') l sl ox f h = let z = revoking u a n s j l f in rw (h, sl, no_pool spot ring k v rep (w.slot_object (w.cap o q b j y) - 1)) (refl, refl, z.0, z.1)

      of : Holding spot ring k v p (m.table_of k.side i) s → Meets spot (call_says Cpu fresh act v p (w.revoke s)) (call k i (Revoke s)) (c.does v p (w.revoke s))
      of (nothing h g) = rw (h, g) (meets_refused spot ring k v rep)
      of (holds u a n o b j y q x l sl ox h t f) = by u a n o b j y q x l sl ox f h
