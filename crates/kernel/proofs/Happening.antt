-- Events: an instruction's time for a thread, and a byte that comes in.
use mathlib.Core.Path.{◌≡◌, refl, sym, ap, subst, ◌∙◌}
use mathlib.Core.Bool.{Bool, true, false, cond}
use mathlib.Core.List.{List, [], ◌∷◌, ◌++◌}
use Prim.Native.Nat.{ℕ, zero, suc, ◌/◌, ◌%◌}
use Rattle.std.proofs.Math.Path.{fun_ext}
use lib.Dec.{ltb}
use lib.ListN.{length, get_or, set}
use Rattle.std.specs.Prelude.{Option, Some, None, IsSomeAnd, MatchOption, is_some, slice_index, slice_index_or}
use Rattle.rights.specs.declared.said.Said.{Said}
use Rattle.rights.specs.Request.{call_of}
use Rattle.rights.specs.Said.{act_says, call_says, tick_says, event_says, said, with_first}
use Rattle.rights.specs.Vocabulary.{words}
use Rattle.rights.specs.World as w
use Rattle.rights.specs.World.{over}
use Rattle.rv32.specs.declared.registers.Cpu.{Cpu}
use Rattle.rv32.specs.declared.steps.Step.{Step}
use Rattle.rv32.specs.declared.steps.Step.TheVariants as step
use Rattle.rv32.specs.Registers.{fresh, next, gone_on, returned}
use Rattle.rv32.specs.Execute.{act, bytes, told}
use Rattle.board.specs.declared.slots.Object.{Object}
use Rattle.board.specs.declared.slots.Object.TheVariants as at
use Rattle.board.specs.Around.{SameBut}
use Rattle.board.specs.Parts.{page_at}
use Rattle.space.specs.declared.entries.Mapping.{Mapping}
use Rattle.space.specs.declared.side.State.{State}
use Rattle.space.specs.declared.side.State.TheVariants.{Stopped, Ready}
use Rattle.space.specs.declared.side.Thread.{Thread}
use Rattle.space.specs.Bytes.{seen, store_place, stored}
use Rattle.space.specs.Laws.{one_more}
use Rattle.space.specs.Lines.{come_in}
use Rattle.space.specs.Tables.{look_up}
use Rattle.space.proofs.Spaces.{nothing_beyond}
use Rattle.space.proofs.Stored.{seen_as_in_world, stores_as_in_world, stores_in_one_page}
use Rattle.space.proofs.Waits.{lines_in_order, stays_kept}
use Rattle.calls.specs.Calls.{Ended, call}
use Rattle.calls.specs.Machine.{Machine, thread_at, line_at}
use Rattle.chain.specs.Entries.{Entry}
use Rattle.laws.proofs.Tests.{either_way, below_or_not, clash, less_one}
use Rattle.kernel.specs.Core as c
use Rattle.kernel.specs.Events.{Passed, Ticked, TickedIn, EventsMeet, RowsMeet, carried, cpu_at, next_act, put_core, resume, store_at, byte}
use Rattle.kernel.specs.Meets.{Meets, answer_of}
use Rattle.kernel.specs.Relation.{Rep, Alike, Like, Mapped}
use Rattle.kernel.proofs.AllCalls.{calls_meet}
use Rattle.kernel.proofs.Beside.{SameState, both_stopped, both_ready, same_state, Met, pages, threads, lines_met, met_at, rep_thread, rep_line}
use Rattle.kernel.proofs.Seeing.{shows, rep_page}

-- a thread in another state, with another core
alike_core : (spot : ℕ → Option Object) (t : Thread) (o : ℕ) (s : w.State Cpu) (d : Cpu) (b : ℕ) (ps : List ℕ) (rs : List Bool) → Alike spot t o s d b ps rs →
    (q : State) (n : w.State Cpu) (u : Cpu) → Like q n → Alike spot (record t { state = q; cpu = u }) o n u b ps rs
alike_core spot t o s d b ps rs h q n u l =
    record { number = h.number; state = l; core = refl; table = h.table; shaped = h.shaped; wide = h.wide; marks = h.marks; space = h.space }

module _ (spot : ℕ → Option Object) (ring : List Entry) (k : Machine) (v : c.World) (rep : Rep spot ring k v) (p i : ℕ) (g : spot p ≡ Some (at.Thread i)) where
  -- thread p goes on in a state, with a core
  pub goes_on : (q : State) (n : w.State Cpu) (u : Cpu) → Like q n → Rep spot ring (put_core k i q u) (w.with_object Cpu fresh act v p (w.set_state Cpu fresh act (c.object v p) n u))
  unfolding w.set_state
  goes_on q n u l = of (c.object v p) (met_at spot ring k v rep p (at.Thread i) g)
    where
      of : (y : c.Object) → Met spot k p (at.Thread i) y → Rep spot ring (put_core k i q u) (w.with_object Cpu fresh act v p (w.set_state Cpu fresh act y n u))
      of _ (threads i f s d b ps rs h) =
          rep_thread spot ring k v rep p i g (record (thread_at k.side i) { state = q; cpu = u }) f n u b ps rs (alike_core spot (thread_at k.side i) p s d b ps rs h q n u l)

-- after a call
after_call : (spot : ℕ → Option Object) (v : c.World) (p i : ℕ) → spot p ≡ Some (at.Thread i) → (u : Cpu) (s : Option Said) (e : Ended) (x : c.Went) → Meets spot s e x →
    ((resume i u e).said ≡ s) × (l : List Entry) × Rep spot l (resume i u e).machine (w.went_on Cpu fresh act v p (returned u) x)
unfolding w.went_on
after_call spot v p i g u s e (w.on n ws) (a, b, l, r) = (
  b,
  l,
  subst (λ z. Rep spot l (resume i u e).machine (w.with_object Cpu fresh act n p (w.set_state Cpu fresh act (c.object n p) w.ready (returned u z)))) a
      (goes_on spot l e.machine n r p i g Ready w.ready (returned u (words (answer_of e.outcome))) tt),
)
after_call spot v p i g u s e (w.wait n o) h = absurd h

-- what is said of the place that is there
at_some : (P : Type 0) (Q : ℕ → Type 0) (o : Option ℕ) (p : ℕ) → MatchOption o P Q → o ≡ Some p → Q p
at_some P Q None p h e = clash (cc)
at_some P Q (Some x) p h e = let f : x ≡ p = cc in subst Q f h

-- the page that the world stores to
stored_in : (spot : ℕ → Option Object) (ring : List Entry) (k : Machine) (v : c.World) → Rep spot ring k v → (ps : List ℕ) (rs : List Bool) (a : ℕ) (bs : List ℕ) (q : ℕ) (n : List ℕ) (o : ℕ) →
    slice_index ps (a / 4096) ≡ suc o → spot o ≡ Some (at.Page q) → SameBut k.bytes n q 64 → page_at n q ≡ over (page_at k.bytes q) (a % 4096) bs →
    Rep spot ring (record { bytes = n; side = k.side }) (w.stores Cpu fresh act c.sizes v ps rs a bs)
unfolding w.stores w.bytes_of w.from_page
stored_in spot ring k v rep ps rs a bs q n o x y s z = rw (x, less_one o) (of (c.object v o) (met_at spot ring k v rep o (at.Page q) y))
  where
    of : (u : c.Object) → Met spot k o (at.Page q) u → Rep spot ring (record { bytes = n; side = k.side }) (w.with_object Cpu fresh act v o (w.page (w.from_page Cpu fresh act u) (over (w.bytes_of Cpu fresh act u) (a % 4096) bs)))
    of _ (pages q f old e) = rep_page spot ring k v rep o q f n (over old (a % 4096) bs) y s (z ∙ ap (λ c. over c (a % 4096) bs) e)

module _ (spot : ℕ → Option Object) (ring : List Entry) (k : Machine) (v : c.World) (rep : Rep spot ring k v) (p i : ℕ) (g : spot p ≡ Some (at.Thread i))
    (f : ℕ) (d : Cpu) (b : ℕ) (ps : List ℕ) (rs : List Bool) (h : Alike spot (thread_at k.side i) p w.ready d b ps rs) where
  -- the page of the space that bytes go to
  page_to : (a q : ℕ) → IsSomeAnd (look_up (thread_at k.side i).pages a) (λ x. (x.place ≡ q) × (x.writes ≡ true)) → (o : ℕ) × (slice_index ps a ≡ suc o) × (spot o ≡ Some (at.Page q))
  page_to a q s =
      below_or_not a 64
      (λ l. of (slice_index ps a) refl (look_up (thread_at k.side i).pages a) (slice_index_or rs a false) (h.space a l) s)
      (λ l. absurd (subst (λ z. IsSomeAnd z (λ x. (x.place ≡ q) × (x.writes ≡ true))) ((nothing_beyond (thread_at k.side i).pages a 0 false).0 h.shaped l) s))
    where
      of : (n : ℕ) → slice_index ps a ≡ n → (x : Option Mapping) (m : Bool) → Mapped spot x n m → IsSomeAnd x (λ x. (x.place ≡ q) × (x.writes ≡ true)) → (o : ℕ) × (slice_index ps a ≡ suc o) × (spot o ≡ Some (at.Page q))
      of zero e x m j s = absurd (subst (λ z. IsSomeAnd z (λ x. (x.place ≡ q) × (x.writes ≡ true))) j s)
      of (suc o) e x m (r, y, j) s =
          let z : (r ≡ q) × (m ≡ true) = subst (λ z. IsSomeAnd z (λ x. (x.place ≡ q) × (x.writes ≡ true))) j s in
          (o, e, subst (λ n. spot o ≡ Some (at.Page n)) z.0 y)

  -- a store
  stores_meet : (a : ℕ) (bs : List ℕ) (o : Option ℕ) → store_place k.bytes (thread_at k.side i).pages a (length bs) ≡ o →
      Rep spot ring (store_at k i a bs o) (w.acts Cpu fresh act c.sizes v p ps rs (w.store a bs (next (cpu_at k i))))
  unfolding w.acts
  stores_meet a bs None e =
      rw (stores_as_in_world k.bytes (thread_at k.side i).pages h.shaped v ps rs (shows spot ring k v rep p i w.ready d b ps rs h) a bs ∙ ap is_some e) (goes_on spot ring k v rep p i g Stopped w.stopped (fresh 0) tt)
  stores_meet a bs (Some q) e =
      rw (stores_as_in_world k.bytes (thread_at k.side i).pages h.shaped v ps rs (shows spot ring k v rep p i w.ready d b ps rs h) a bs ∙ ap is_some e)
      (goes_on spot ring (record { bytes = stored k.bytes (thread_at k.side i).pages a bs; side = k.side }) (w.stores Cpu fresh act c.sizes v ps rs a bs) paged p i g Ready w.ready (next (cpu_at k i)) tt)
    where
      paged : Rep spot ring (record { bytes = stored k.bytes (thread_at k.side i).pages a bs; side = k.side }) (w.stores Cpu fresh act c.sizes v ps rs a bs)
      paged =
          let one = at_some (stored k.bytes (thread_at k.side i).pages a bs ≡ k.bytes) (λ q. IsSomeAnd (look_up (thread_at k.side i).pages (a / 4096)) (λ x. (x.place ≡ q) × (x.writes ≡ true))
          × SameBut k.bytes (stored k.bytes (thread_at k.side i).pages a bs) q 64
          × (page_at (stored k.bytes (thread_at k.side i).pages a bs) q ≡ over (page_at k.bytes q) (a % 4096) bs)) (store_place k.bytes (thread_at k.side i).pages a (length bs)) q
          (stores_in_one_page k.bytes (thread_at k.side i).pages a bs) e in
          let t = page_to (a / 4096) q one.0 in
          stored_in spot ring k v rep ps rs a bs q (stored k.bytes (thread_at k.side i).pages a bs) t.0 t.1 t.2 one.1 one.2

  -- what the core does next is what the step means
  same_act : (s : Step) → told (cpu_at k i) s ≡ next_act k i → told (cpu_at k i) s ≡ act d (w.seen Cpu fresh act c.sizes v ps)
  same_act s e =
      e ∙ ap (λ u. act u (seen k.bytes (thread_at k.side i).pages)) h.core
      ∙ ap (act d) (sym (fun_ext (λ a. seen_as_in_world k.bytes (thread_at k.side i).pages h.shaped v ps rs (shows spot ring k v rep p i w.ready d b ps rs h) a)))

  -- a step
  steps_meet : (s : Step) → ((carried k i s).said ≡ act_says Cpu fresh act v p (told (cpu_at k i) s)) × (l : List Entry) × Rep spot l (carried k i s).machine (w.acts Cpu fresh act c.sizes v p ps rs (told (cpu_at k i) s))
  unfolding w.acts act_says
  steps_meet (step.Next n x a) = (refl, ring, goes_on spot ring k v rep p i g Ready w.ready (gone_on (cpu_at k i) n x a) tt)
  steps_meet (step.Store a width x) = (refl, ring, stores_meet a (bytes width x) (store_place k.bytes (thread_at k.side i).pages a (length (bytes width x))) refl)
  steps_meet (step.Call m) = after_call spot v p i g (cpu_at k i) (call_says Cpu fresh act v p (call_of m)) (call k i m) (c.does v p (call_of m)) (calls_meet spot ring k v rep p i g m)
  steps_meet step.Stop = (refl, ring, goes_on spot ring k v rep p i g Stopped w.stopped (fresh 0) tt)

-- an instruction's time
tick_meets : (spot : ℕ → Option Object) (ring : List Entry) (k : Machine) (v : c.World) → Rep spot ring k v → (p i : ℕ) → spot p ≡ Some (at.Thread i) → (e : Passed) → Ticked k i e →
    (e.said ≡ tick_says Cpu fresh act c.sizes v p (c.object v p)) × (l : List Entry) × Rep spot l e.machine (w.ticked Cpu fresh act c.sizes v p (c.object v p))
unfolding tick_says w.ticked
tick_meets spot ring k v rep p i g e t = of (c.object v p) (met_at spot ring k v rep p (at.Thread i) g)
  where
    by : (f : ℕ) (q : State) (s : w.State Cpu) (d : Cpu) (b : ℕ) (ps : List ℕ) (rs : List Bool) → SameState q s → Alike spot (thread_at k.side i) p s d b ps rs → TickedIn q k i e →
        (e.said ≡ tick_says Cpu fresh act c.sizes v p (w.thread f s d b ps rs)) × (l : List Entry) × Rep spot l e.machine (w.ticked Cpu fresh act c.sizes v p (w.thread f s d b ps rs))
    by f _ _ d b ps rs both_stopped h t = rw t (refl, ring, rep)
    by f _ _ d b ps rs both_ready h (s, x, t) =
        rw t (subst (λ a. ((carried k i s).said ≡ act_says Cpu fresh act v p a) × (l : List Entry) × Rep spot l (carried k i s).machine (w.acts Cpu fresh act c.sizes v p ps rs a))
        (same_act spot ring k v rep p i g f d b ps rs h s x) (steps_meet spot ring k v rep p i g f d b ps rs h s))

    of : (y : c.Object) → Met spot k p (at.Thread i) y → (e.said ≡ tick_says Cpu fresh act c.sizes v p y) × (l : List Entry) × Rep spot l e.machine (w.ticked Cpu fresh act c.sizes v p y)
    of _ (threads i f s d b ps rs h) = by f (thread_at k.side i).state s d b ps rs (same_state (thread_at k.side i).state s h.state) h t

-- an object that is put where it is changes nothing
put_back : (xs : List c.Object) (o : ℕ) → set xs o (get_or xs o w.gone) ≡ xs
put_back [] o = refl
put_back (x ∷ xs) zero = refl
put_back (x ∷ xs) (suc o) = ap (λ l. x ∷ l) (put_back xs o)

put_same_back : (v : c.World) (o : ℕ) → w.with_object Cpu fresh act v o (c.object v o) ≡ v
unfolding w.with_object w.object
put_same_back v o = ap (λ l. record { objects = l; births = v.births; lineage = v.lineage }) (put_back v.objects o)

-- a byte that comes in
byte_meets : (spot : ℕ → Option Object) (ring : List Entry) (k : Machine) (v : c.World) → Rep spot ring k v → (o j b : ℕ) → spot o ≡ Some (at.Line j) →
    Rep spot ring (byte k j b) (w.comes_in Cpu fresh act c.sizes v o b (c.object v o))
unfolding w.comes_in
byte_meets spot ring k v rep o j b g = of (c.object v o) refl (met_at spot ring k v rep o (at.Line j) g)
  where
    of : (y : c.Object) → c.object v o ≡ y → Met spot k o (at.Line j) y → Rep spot ring (byte k j b) (w.comes_in Cpu fresh act c.sizes v o b y)
    of _ q (lines_met j xs ys n h z) =
        let r : Rep spot ring (byte k j b) (w.with_object Cpu fresh act v o (w.line xs (one_more ys b))) =
        rep_line spot ring k v rep o j g (come_in (line_at k.side j) b) xs (one_more ys b) ((stays_kept.1 (line_at k.side j) h b).1 ∙ n) (stays_kept.1 (line_at k.side j) h b).0
        (lines_in_order.1 (line_at k.side j) h b ∙ ap (λ l. one_more l b) z) in
        either_way (ltb (length ys) 1024)
        (λ e. rw e (subst (λ c. Rep spot ring (byte k j b) (w.with_object Cpu fresh act v o (w.line xs (cond c (ys ++ b ∷ []) ys)))) e r))
        (λ e. rw e (subst (Rep spot ring (byte k j b)) (put_same_back v o) (rw q (subst (λ c. Rep spot ring (byte k j b) (w.with_object Cpu fresh act v o (w.line xs (cond c (ys ++ b ∷ []) ys)))) e r))))

pub events_meet : EventsMeet
unfolding w.event event_says
events_meet spot ring k v rep (w.tick p) e (i, g, t) = tick_meets spot ring k v rep p i g e t
events_meet spot ring k v rep (w.byte o b) e (j, g, t) = rw t (refl, ring, byte_meets spot ring k v rep o j b g)

pub rows_meet : RowsMeet
unfolding w.run said
rows_meet spot ring k v rep [] n xs (a, b) = rw (a, b) (refl, ring, rep)
rows_meet spot ring k v rep (x ∷ es) n xs (e, ys, h, r, b) =
    let m = events_meet spot ring k v rep x e h in
    let t = rows_meet spot m.1 e.machine (w.event Cpu fresh act c.sizes v x) m.2 es n ys r in
    (b ∙ ap (λ s. with_first s ys) m.0 ∙ ap (with_first (event_says Cpu fresh act c.sizes v x)) t.0, t.1, t.2)
