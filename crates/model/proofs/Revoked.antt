-- Revoke: the world in the code's parts does what the abstract world does.
use Rattle.std.proofs.Common.{◌≡◌, ℕ, zero, suc, ◌+◌, ◌-◌, Bool, true, false, cond, not, ◌&&◌, ◌||◌, eqb, List, [], ◌∷◌, map, reverse, length, get_or, Some, None, Option, sym, refl, ap, ◌∙◌, arith}
use Rattle.rights.specs.declared.answers.Answer.TheVariants.{No}
use Rattle.rights.specs.World as w
use Rattle.rv32.specs.declared.registers.Cpu.{Cpu}
use Rattle.rv32.specs.Registers.{fresh}
use Rattle.rv32.specs.Execute.{act}
use Rattle.model.specs.declared.objects.Capability.{Capability}
use Rattle.model.specs.declared.objects.Mapping.{Mapping}
use Rattle.model.specs.declared.objects.State.{State}
use Rattle.model.specs.declared.objects.State.TheVariants.{Stopped, Ready, Waits}
use Rattle.model.specs.declared.objects.Thread.{Thread}
use Rattle.model.specs.declared.objects.Wait.{Wait}
use Rattle.model.specs.declared.objects.Wait.TheVariants.{Sender, Receiver}
use Rattle.model.specs.Plain as p
use Rattle.model.specs.Calls as calls
use Rattle.model.specs.Sound.{Sound}
use Rattle.model.specs.Sweeps.{Marks, takes, takes_birth, marks_for, scan, cut_mark, cut_marks, kept_slot, kept_slots, who, kept_waits, kept_number, kept_pages, at_marked, kept, at_each, kept_at, swept, refilled, revoked, revoke}
use Rattle.model.specs.Meaning.{page_of, may_write, slot_of, number_of, state_of, core_of, wait_of, object_of, world_of, went_of}
use Rattle.model.proofs.Agree.{object, with_object, slot, Went, goes, less_one, not_zero, at_world, put_world, slot_world}
use Rattle.model.proofs.Same.{does, refused, unchanged}
use Rattle.model.proofs.Kin.{births_is, cuts_is}

-- what is put into a mapping stands in it
pub page_in_of : (n : Option ℕ) (m : Bool) → p.page_in (p.mapping_of n m) ≡ n
page_in_of None m = refl
page_in_of (Some n) m = refl

mark_in_of : (n : Option ℕ) (m : Bool) → p.mark_in (p.mapping_of n m) ≡ m
mark_in_of None m = refl
mark_in_of (Some n) m = refl

cons_both : {X : Type 0} (x y : X) (xs ys : List X) → x ≡ y → xs ≡ ys → x ∷ xs ≡ y ∷ ys
cons_both x y xs ys e f = ap (λ z. z ∷ xs) e ∙ ap (λ zs. y ∷ zs) f

-- marks that say what lists say
module _ (k : Marks) (ids gone : List ℕ) (b : (c : ℕ) → takes_birth k c ≡ w.among c ids) (g : (o : ℕ) → takes k o ≡ w.among o gone) where
  slot_is : (x : Option Capability) → slot_of (kept_slot k x)
      ≡ w.pick (w.among (w.slot_birth (slot_of x)) ids || (not (w.is_empty (slot_of x)) && w.among (w.slot_object (slot_of x) - 1) gone)) w.empty (slot_of x)
  unfolding w.slot_birth w.is_empty w.slot_object
  slot_is None = same (w.among 0 ids || false)
    where
      same : (t : Bool) → w.empty ≡ w.pick t w.empty w.empty
      same true = refl
      same false = refl
  slot_is (Some c) =
      rw (less_one c.object, sym (b c.birth), sym (g c.object)) (by (takes_birth k c.birth || takes k c.object))
    where
      by : (t : Bool) → slot_of (cond t None (Some c)) ≡ w.pick t w.empty (slot_of (Some c))
      by true = refl
      by false = refl

  slots_are : (ss : List (Option Capability)) → map slot_of (kept_slots k ss) ≡ w.emptied Cpu fresh act ids gone (map slot_of ss)
  unfolding w.emptied
  slots_are [] = refl
  slots_are (x ∷ xs) = cons_both _ _ _ _ (slot_is x) (slots_are xs)

  who_is : (x : Wait) → who x ≡ w.waits_thread Cpu fresh act (wait_of x)
  unfolding w.waits_thread
  who_is (Sender y) = refl
  who_is (Receiver t s) = refl

  waits_are : (q : List Wait) → map wait_of (kept_waits k q) ≡ w.without_threads Cpu fresh act gone (map wait_of q)
  unfolding w.without_threads
  waits_are [] = refl
  waits_are (x ∷ q) = rw (sym (who_is x), sym (g (who x))) (by (takes k (who x)) (waits_are q))
    where
      by : (t : Bool) → map wait_of (kept_waits k q) ≡ w.without_threads Cpu fresh act gone (map wait_of q) → map wait_of (cond (not t) (x ∷ kept_waits k q) (kept_waits k q)) ≡ w.pick t (w.without_threads Cpu fresh act gone (map wait_of q)) (wait_of x ∷ w.without_threads Cpu fresh act gone (map wait_of q))
      by true e = e
      by false e = ap (λ r. wait_of x ∷ r) e

  number_is : (n : Option ℕ) → number_of (kept_number k n) ≡ w.pick (not (eqb (number_of n) 0) && w.among (number_of n - 1) gone) 0 (number_of n)
  number_is None = refl
  number_is (Some n) = rw (not_zero n, less_one n, sym (g n)) (by (takes k n))
    where
      by : (t : Bool) → number_of (cond t None (Some n)) ≡ w.pick t 0 (suc n)
      by true = refl
      by false = refl

  pages_are : (ps : List Mapping) → map page_of (kept_pages k ps) ≡ w.unmapped Cpu fresh act gone (map page_of ps)
  unfolding w.unmapped
  pages_are [] = refl
  pages_are (x ∷ xs) = cons_both _ _ _ _ (ap number_of (page_in_of (kept_number k (p.page_in x)) (p.mark_in x)) ∙ number_is (p.page_in x)) (pages_are xs)

  marks_stay : (ps : List Mapping) → map may_write (kept_pages k ps) ≡ map may_write ps
  marks_stay [] = refl
  marks_stay (x ∷ xs) = cons_both _ _ _ _ (mark_in_of (kept_number k (p.page_in x)) (p.mark_in x)) (marks_stay xs)

  -- a thread, by its state
  abbrev with_parts : Thread → State → Cpu → w.Object Cpu
  with_parts t s c =
      w.thread 0 (state_of s c) (core_of s c) (w.pick (not (eqb (number_of t.table) 0) && w.among (number_of t.table - 1) gone) 0 (number_of t.table)) (w.unmapped Cpu fresh act gone (map page_of t.pages)) (map may_write t.pages)

  parts_are : (t : Thread) (s : State) (c : Cpu) →
      object_of (p.thread (record { state = s; cpu = c; table = kept_number k t.table; pages = kept_pages k t.pages })) ≡ with_parts t s c
  parts_are t s c =
      ap (λ n. w.thread 0 (state_of s c) (core_of s c) n (map page_of (kept_pages k t.pages)) (map may_write (kept_pages k t.pages))) (number_is t.table)
      ∙ ap (λ ps. w.thread 0 (state_of s c) (core_of s c) (w.pick (not (eqb (number_of t.table) 0) && w.among (number_of t.table - 1) gone) 0 (number_of t.table)) ps (map may_write (kept_pages k t.pages))) (pages_are t.pages)
      ∙ ap (λ ms. w.thread 0 (state_of s c) (core_of s c) (w.pick (not (eqb (number_of t.table) 0) && w.among (number_of t.table - 1) gone) 0 (number_of t.table)) (w.unmapped Cpu fresh act gone (map page_of t.pages)) ms) (marks_stay t.pages)

  thread_is : (t : Thread) (s : State) →
      object_of (p.thread (record { state = cond (at_marked k s) Ready s; cpu = cond (at_marked k s) (calls.then_of s t.cpu No) t.cpu; table = kept_number k t.table; pages = kept_pages k t.pages }))
      ≡ w.woken Cpu fresh act gone (state_of s t.cpu) (core_of s t.cpu) (with_parts t s t.cpu)
  unfolding w.woken
  thread_is t Stopped = parts_are t Stopped t.cpu
  thread_is t Ready = parts_are t Ready t.cpu
  thread_is t (Waits o) = rw (sym (g o)) (by (takes k o))
    where
      by : (m : Bool) → object_of (p.thread (record { state = cond m Ready (Waits o); cpu = cond m (calls.then_of (Waits o) t.cpu No) t.cpu; table = kept_number k t.table; pages = kept_pages k t.pages }))
          ≡ w.pick m (with_parts t Ready (calls.then_of (Waits o) t.cpu No)) (with_parts t (Waits o) t.cpu)
      by true = parts_are t Ready (calls.then_of (Waits o) t.cpu No)
      by false = parts_are t (Waits o) t.cpu

  kept_is : (x : p.Thing) → object_of (kept k x) ≡ w.cleaned Cpu fresh act ids gone (object_of x)
  unfolding w.cleaned
  kept_is (p.table f ss) = ap (w.table (number_of f)) (slots_are ss)
  kept_is (p.port f q) = ap (w.port (number_of f)) (waits_are q)
  kept_is (p.thread t) = thread_is t t.state
  kept_is _ = refl

  all_are : (i : ℕ) (xs : List p.Thing) → map object_of (at_each (kept_at k) i xs) ≡ w.clean_all Cpu fresh act ids gone i (map object_of xs)
  unfolding at_each w.clean_all
  all_are i [] = refl
  all_are i (x ∷ xs) =
      rw (sym (g i)) (cons_both _ _ _ _ (by (takes k i)) (all_are (suc i) xs))
    where
      by : (t : Bool) → object_of (cond t p.gone (kept k x)) ≡ w.pick t w.gone (w.cleaned Cpu fresh act ids gone (object_of x))
      by true = refl
      by false = kept_is x

  pub swept_is : (v : p.Whole) → world_of (swept v k) ≡ w.cleared Cpu fresh act (world_of v) ids gone
  unfolding w.cleared
  swept_is v = ap (λ xs. record { objects = xs; births = v.births; lineage = reverse (map slot_of v.lineage) }) (all_are 0 v.things)

-- a pool of which nothing is used; anything else stays
refilled_is : (x : p.Thing) → object_of (refilled x) ≡ w.refilled Cpu fresh act (object_of x)
unfolding w.refilled
refilled_is p.gone = refl
refilled_is _ = refl

is_pool_is : (x : p.Thing) → calls.is_pool x ≡ w.is_pool Cpu fresh act (object_of x)
unfolding w.is_pool
is_pool_is p.gone = refl
is_pool_is _ = refl

-- what is no pool is not refilled
no_refill : (x : p.Thing) → calls.is_pool x ≡ false → refilled x ≡ x
no_refill (p.pool f n u) h = cc
no_refill _ h = refl

-- a sweep makes no pool
kept_pool : (k : Marks) (x : p.Thing) → calls.is_pool (kept k x) ≡ calls.is_pool x
kept_pool k p.gone = refl
kept_pool k _ = refl

at_each_at : {X : Type 0} (f : ℕ → X → X) (i : ℕ) (xs : List X) (k : ℕ) (d : X) → ((j : ℕ) → f j d ≡ d) → get_or (at_each f i xs) k d ≡ f (i + k) (get_or xs k d)
unfolding at_each
at_each_at f i [] k d h = sym (h (i + k))
at_each_at f i (x ∷ xs) zero d h = let e : i + 0 ≡ i = omega arith in rw e refl
at_each_at f i (x ∷ xs) (suc k) d h = let e : i + suc k ≡ suc i + k = omega arith in rw e (at_each_at f (suc i) xs k d h)

gone_stays : (k : Marks) (j : ℕ) → kept_at k j p.gone ≡ p.gone
gone_stays k j = by (takes k j)
  where
    by : (t : Bool) → cond t p.gone p.gone ≡ p.gone
    by true = refl
    by false = refl

-- an object after a sweep
pub swept_at : (v : p.Whole) (k : Marks) (o : ℕ) → p.object (swept v k) o ≡ kept_at k o (p.object v o)
unfolding p.object
swept_at v k o =
    at_each_at (kept_at k) 0 v.things o p.gone (gone_stays k)
    ∙ (let e : 0 + o ≡ o = omega arith in ap (λ n. kept_at k n (get_or v.things o p.gone)) e)

no_pool_after : (v : p.Whole) (k : Marks) (o : ℕ) → calls.is_pool (p.object v o) ≡ false → calls.is_pool (p.object (swept v k) o) ≡ false
no_pool_after v k o h = ap calls.is_pool (swept_at v k o) ∙ by (takes k o)
  where
    by : (t : Bool) → calls.is_pool (cond t p.gone (kept k (p.object v o))) ≡ false
    by true = refl
    by false = kept_pool k (p.object v o) ∙ h

-- REVOKE
module _ (v : p.Whole) (s : Sound v) (c : Capability) where
  abbrev W : w.World Cpu
  W = world_of v

  abbrev ids : List ℕ
  ids = w.offspring Cpu fresh act W v.births (c.birth ∷ [])

  abbrev kin : List ℕ
  kin = w.cuttings Cpu fresh act W (length W.objects) (c.object ∷ [])

  pool_marks : calls.is_pool (p.object v c.object) ≡ true → (o : ℕ) → get_or (cut_marks v c.object) o false ≡ w.among o kin
  pool_marks h o = ap (λ t. get_or (cond t (scan (cut_mark c.object) [] v.things) []) o false) h ∙ cuts_is v s c.object o

  other_marks : calls.is_pool (p.object v c.object) ≡ false → (o : ℕ) → get_or (cut_marks v c.object) o false ≡ w.among o []
  unfolding w.among
  other_marks h o = ap (λ t. get_or (cond t (scan (cut_mark c.object) [] v.things) []) o false) h

  abbrev after : p.Whole
  after = swept v (marks_for v c)

  pool_revoked : calls.is_pool (p.object v c.object) ≡ true →
      world_of (revoked v c) ≡ with_object (w.cleared Cpu fresh act W ids kin) c.object (w.refilled Cpu fresh act (object (w.cleared Cpu fresh act W ids kin) c.object))
  pool_revoked h =
      let e = swept_is (marks_for v c) ids kin (births_is v s c.birth) (pool_marks h) v in
      put_world after c.object (refilled (p.object after c.object))
      ∙ ap (with_object (world_of after) c.object) (refilled_is (p.object after c.object) ∙ ap (w.refilled Cpu fresh act) (at_world after c.object))
      ∙ ap (λ u. with_object u c.object (w.refilled Cpu fresh act (object u c.object))) e

  other_revoked : calls.is_pool (p.object v c.object) ≡ false → world_of (revoked v c) ≡ w.cleared Cpu fresh act W ids []
  other_revoked h =
      let e = swept_is (marks_for v c) ids [] (births_is v s c.birth) (other_marks h) v in
      let n = no_refill (p.object after c.object) (no_pool_after v (marks_for v c) c.object h) in
      unchanged after c.object (refilled (p.object after c.object)) n ∙ e

  revoked_is : (t : Bool) → calls.is_pool (p.object v c.object) ≡ t →
      goes (world_of (revoked v c)) (0 ∷ [])
      ≡ w.pick t (goes (with_object (w.cleared Cpu fresh act W ids kin) c.object (w.refilled Cpu fresh act (object (w.cleared Cpu fresh act W ids kin) c.object))) (0 ∷ []))
      (goes (w.cleared Cpu fresh act W ids []) (0 ∷ []))
  revoked_is true h = ap (λ u. goes u (0 ∷ [])) (pool_revoked h)
  revoked_is false h = ap (λ u. goes u (0 ∷ [])) (other_revoked h)

revoke_with : (v : p.Whole) → Sound v → (q s : ℕ) (x : Option Capability) → slot_of x ≡ slot (world_of v) q s →
    went_of (p.on_some x (p.refuse v) (λ c. cond (calls.is_pool (p.object v c.object) && not (calls.writes c)) (p.refuse v) (p.done (revoked v c))))
    ≡ does (world_of v) q (w.revoke s)
unfolding w.does w.is_empty w.slot_rights w.slot_object w.slot_birth w.refuse w.revoking
revoke_with v so q s None e = rw (sym e) refl
revoke_with v so q s (Some c) e =
    let pl : calls.is_pool (p.object v c.object) ≡ w.is_pool Cpu fresh act (object (world_of v) c.object) = is_pool_is (p.object v c.object) ∙ ap (w.is_pool Cpu fresh act) (at_world v c.object) in
    rw (sym e, less_one c.object, sym pl)
    (by (calls.is_pool (p.object v c.object)) (calls.writes c) _ (revoked_is v so c (calls.is_pool (p.object v c.object)) refl))
  where
    by : (a b : Bool) (k : Went) → goes (world_of (revoked v c)) (0 ∷ []) ≡ k → went_of (cond (a && not b) (p.refuse v) (p.done (revoked v c))) ≡ w.pick (a && not b) (refused (world_of v)) k
    by true true k h = h
    by true false k h = refl
    by false b k h = h

pub revoke_same : (v : p.Whole) → Sound v → (q s : ℕ) → went_of (revoke v q s) ≡ does (world_of v) q (w.revoke s)
revoke_same v so q s = revoke_with v so q s (p.slot v q s) (slot_world v q s)
