-- One step of a thread: the world in the code's parts does what the abstract world does.
use Rattle.std.proofs.Common.{◌≡◌, ℕ, zero, suc, ◌+◌, ◌-◌, ◌/◌, ◌%◌, ◌≤◌, Bool, true, false, cond, not, ◌&&◌, eqb, List, [], ◌∷◌, ◌++◌, map, length, get_or, drop, Some, None, Option, sym, refl, ap, ◌∙◌, arith}
use Rattle.std.proofs.lemmas.Bool.{le-leb}
use Rattle.rights.specs.Vocabulary.{words}
use Rattle.rights.specs.World as w
use Rattle.rv32.specs.declared.registers.Cpu.{Cpu}
use Rattle.rv32.specs.Registers.{fresh, returned}
use Rattle.rv32.specs.Execute.{act}
use Rattle.model.specs.declared.objects.Mapping.{Mapping}
use Rattle.model.specs.declared.objects.State.{State}
use Rattle.model.specs.declared.objects.State.TheVariants.{Stopped, Ready, Waits}
use Rattle.model.specs.Plain as p
use Rattle.model.specs.Turns as turns
use Rattle.model.specs.Meaning.{page_of, sizes, number_of, state_of, core_of, object_of, world_of, went_of}
use Rattle.model.proofs.Agree.{object, with_object, less_one, not_zero, read_any, at_world, put_world}

-- a thread in another state
state_world : (s : State) (c : Cpu) (x : p.Thing) → object_of (turns.set_state s c x) ≡ w.set_state Cpu fresh act (object_of x) (state_of s c) (core_of s c)
unfolding w.set_state
state_world s c p.gone = refl
state_world s c _ = refl

pub thread_world : (v : p.Whole) (q : ℕ) (s : State) (c : Cpu) →
    world_of (turns.with_thread v q s c) ≡ with_object (world_of v) q (w.set_state Cpu fresh act (object (world_of v) q) (state_of s c) (core_of s c))
thread_world v q s c =
    put_world v q _ ∙ ap (with_object (world_of v) q) (state_world s c (p.object v q) ∙ ap (λ x. w.set_state Cpu fresh act x (state_of s c) (core_of s c)) (at_world v q))

-- after a call
pub went_world : (v : p.Whole) (q : ℕ) (c : Cpu) (e : p.Ended) → world_of (turns.went q c e) ≡ w.went_on Cpu fresh act (world_of v) q (returned c) (went_of e)
unfolding w.went_on
went_world v q c (p.on u a) = thread_world u q Ready (returned c (words a))
went_world v q c (p.wait u o) = thread_world u q (Waits o) c

-- what a thread sees
byte_world : (x : p.Thing) (k : ℕ) → turns.byte_in x k ≡ get_or (w.bytes_of Cpu fresh act (object_of x)) k 0
unfolding w.bytes_of
byte_world (p.page f bs) k = refl
byte_world _ k = refl

seen_by : (v : p.Whole) (m : Option ℕ) (n k : ℕ) → number_of m ≡ n →
    p.on_some m 256 (λ o. turns.byte_in (p.object v o) k) ≡ w.pick (eqb n 0) 256 (get_or (w.bytes_of Cpu fresh act (object (world_of v) (n - 1))) k 0)
seen_by v None n k e = rw (sym e) refl
seen_by v (Some o) n k e = rw (sym e, not_zero o, less_one o) (byte_world (p.object v o) k ∙ ap (λ x. get_or (w.bytes_of Cpu fresh act x) k 0) (at_world v o))

pub seen_world : (v : p.Whole) (ps : List Mapping) (a : ℕ) → turns.seen v ps a ≡ w.seen Cpu fresh act sizes (world_of v) (map page_of ps) a
unfolding w.seen
seen_world v ps a = seen_by v (p.page_at ps (a / 4096)) (get_or (map page_of ps) (a / 4096) 0) (a % 4096) (read_any page_of ps (a / 4096) p.unmapped)

-- STORES. Bytes written over others
drops_are : {A : Type 0} (n : ℕ) (xs : List A) → drop n xs ≡ w.drop n xs
unfolding w.drop
drops_are zero xs = refl
drops_are (suc n) [] = refl
drops_are (suc n) (x ∷ xs) = drops_are n xs

over_is : (bs old : List ℕ) (k : ℕ) → k ≤ length old → turns.over k bs old ≡ w.over old k bs
unfolding w.over
over_is bs old zero h = let e : 0 + length bs ≡ length bs = omega arith in rw e (ap (λ ys. bs ++ ys) (drops_are (length bs) old))
over_is bs [] (suc k) h = absurd (omega arith)
over_is bs (x ∷ xs) (suc k) h = let e : suc k + length bs ≡ suc (k + length bs) = omega arith in rw e (ap (λ ys. x ∷ ys) (over_is bs xs k (omega arith)))

-- a page of the abstract world with bytes written over
abbrev stored_world : w.World Cpu → ℕ → ℕ → List ℕ → w.World Cpu
stored_world v o k bs = with_object v o (w.page (w.from_page Cpu fresh act (object v o)) (w.over (w.bytes_of Cpu fresh act (object v o)) k bs))

stored_is : (v : p.Whole) (o k : ℕ) (bs : List ℕ) (f : Option ℕ) (old : List ℕ) → p.object v o ≡ p.page f old → k + length bs ≤ length old →
    world_of (p.with_object v o (turns.stored k bs (p.object v o))) ≡ stored_world (world_of v) o k bs
unfolding w.bytes_of w.from_page
stored_is v o k bs f old e h =
    put_world v o _ ∙ ap (λ x. with_object (world_of v) o (object_of (turns.stored k bs x))) e
    ∙ rw (le-leb (k + length bs) (length old) h)
    (ap (λ ys. with_object (world_of v) o (w.page (number_of f) ys)) (over_is bs old k (omega arith))
    ∙ ap (λ x. with_object (world_of v) o (w.page (w.from_page Cpu fresh act x) (w.over (w.bytes_of Cpu fresh act x) k bs))) (sym (ap object_of e) ∙ at_world v o))

-- a thread that stops
stopped_is : (v : p.Whole) (q : ℕ) → world_of (turns.with_thread v q Stopped (fresh 0)) ≡ with_object (world_of v) q (w.set_state Cpu fresh act (object (world_of v) q) w.stopped (fresh 0))
stopped_is v q = thread_world v q Stopped (fresh 0)

-- what a store leaves, by the page and the test
abbrev store_done : w.World Cpu → ℕ → Cpu → ℕ → ℕ → List ℕ → w.World Cpu
store_done v q c o k bs = with_object (stored_world v o k bs) q (w.set_state Cpu fresh act (object (stored_world v o k bs) q) w.ready c)

pub store_by : (v : p.Whole) (q a : ℕ) (bs : List ℕ) (c : Cpu) (m : Option ℕ) (n : ℕ) (r l : Bool) → number_of m ≡ n →
    (l ≡ true → a % 4096 + length bs ≤ 4096) → ((o : ℕ) → m ≡ Some o → (f : Option ℕ) × (old : List ℕ) × (p.object v o ≡ p.page f old) × (length old ≡ 4096)) →
    world_of (p.on_some (cond (r && l) m None) (turns.with_thread v q Stopped (fresh 0))
    (λ o. turns.with_thread (p.with_object v o (turns.stored (a % 4096) bs (p.object v o))) q Ready c))
    ≡ w.pick (not (eqb n 0) && (r && l)) (store_done (world_of v) q c (n - 1) (a % 4096) bs)
    (with_object (world_of v) q (w.set_state Cpu fresh act (object (world_of v) q) w.stopped (fresh 0)))
store_by v q a bs c None n r l e h pg = rw (sym e) (both (r && l))
  where
    both : (b : Bool) → world_of (p.on_some (cond b None None) (turns.with_thread v q Stopped (fresh 0)) (λ o. turns.with_thread (p.with_object v o (turns.stored (a % 4096) bs (p.object v o))) q Ready c))
        ≡ with_object (world_of v) q (w.set_state Cpu fresh act (object (world_of v) q) w.stopped (fresh 0))
    both true = stopped_is v q
    both false = stopped_is v q
store_by v q a bs c (Some o) n true true e h pg =
    let g = pg o refl in
    rw (sym e, not_zero o, less_one o)
    (thread_world (p.with_object v o (turns.stored (a % 4096) bs (p.object v o))) q Ready c
    ∙ ap (λ u. with_object u q (w.set_state Cpu fresh act (object u q) w.ready c)) (stored_is v o (a % 4096) bs g.0 g.1 g.2 (let i = h refl in omega (arith, i, g.3))))
store_by v q a bs c (Some o) n true false e h pg = rw (sym e, not_zero o) (stopped_is v q)
store_by v q a bs c (Some o) n false l e h pg = rw (sym e, not_zero o) (stopped_is v q)
