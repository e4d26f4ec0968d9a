-- Calls on slots, lines and threads: the world in the code's parts does what the abstract world does.
use Rattle.std.proofs.Common.{◌≡◌, ℕ, suc, ◌%◌, Bool, true, false, cond, not, ◌&&◌, ◌||◌, eqb, ltb, [], ◌∷◌, map, set, Some, None, Option, sym, refl, ap, ◌∙◌, arith}
use Rattle.std.specs.Option.{is_none}
use Rattle.std.proofs.lemmas.List.{map-set}
use Rattle.std.proofs.lemmas.Bool.{ne_eqb}
use Rattle.rights.specs.declared.answers.Answer.TheVariants.{No, Done}
use Rattle.rights.specs.World as w
use Rattle.rv32.specs.declared.registers.Cpu.{Cpu}
use Rattle.rv32.specs.Registers.{fresh}
use Rattle.rv32.specs.Execute.{act}
use Rattle.model.specs.declared.objects.Capability.{Capability}
use Rattle.model.specs.declared.objects.Mapping.{Mapping}
use Rattle.model.specs.declared.objects.State.{State}
use Rattle.model.specs.declared.objects.State.TheVariants.{Stopped, Ready, Waits}
use Rattle.model.specs.declared.objects.Thread.{Thread}
use Rattle.model.specs.Plain as p
use Rattle.model.specs.Calls as calls
use Rattle.model.specs.Meaning.{page_of, may_write, sizes, slot_of, number_of, state_of, core_of, object_of, world_of, went_of}
use Rattle.model.proofs.Agree.{object, with_object, slot, Went, goes, less_one, read_any, at_world, put_world, same_object, slot_world}

abbrev pub does : w.World Cpu → ℕ → w.Call → Went
does = w.does Cpu fresh act sizes

abbrev pub refused : w.World Cpu → Went
refused v = goes v (w.no ∷ [])

-- a test, and its other side
pub flip : (t : Bool) (x y : p.Ended) → went_of (cond t x y) ≡ w.pick (not t) (went_of y) (went_of x)
flip true x y = refl
flip false x y = refl

-- a capability that a test lets through, alone or with one more test, and two of them
pub only_is : (f : Capability → Bool) (x : Option Capability) (a : p.Ended) (k : Capability → p.Ended) → p.on_some (calls.only f x) a k ≡ p.on_some x a (λ c. cond (f c) (k c) a)
only_is f None a k = refl
only_is f (Some c) a k = by (f c)
  where
    by : (b : Bool) → p.on_some (cond b (Some c) None) a k ≡ cond b (k c) a
    by true = refl
    by false = refl

pub only_and : (f t : Capability → Bool) (x : Option Capability) (a : p.Ended) (k : Capability → p.Ended) →
    p.on_some (calls.only f x) a (λ c. cond (t c) (k c) a) ≡ p.on_some x a (λ c. cond (f c && t c) (k c) a)
only_and f t None a k = refl
only_and f t (Some c) a k = by (f c)
  where
    by : (b : Bool) → p.on_some (cond b (Some c) None) a (λ c. cond (t c) (k c) a) ≡ cond (b && t c) (k c) a
    by true = refl
    by false = refl

only_two : (f g : Capability → Bool) (t : Capability → Bool) (x y : Option Capability) (a : p.Ended) (k : Capability → Capability → p.Ended) →
    p.on_some (calls.only f x) a (λ c. p.on_some (calls.only g y) a (λ d. cond (t c) (k c d) a))
    ≡ p.on_some x a (λ c. p.on_some y a (λ d. cond (f c && (g d && t c)) (k c d) a))
only_two f g t None y a k = refl
only_two f g t (Some c) None a k = by (f c)
  where
    by : (b : Bool) → p.on_some (cond b (Some c) None) a (λ c. a) ≡ a
    by true = refl
    by false = refl
only_two f g t (Some c) (Some d) a k = by (f c) (g d)
  where
    by : (b e : Bool) → p.on_some (cond b (Some c) None) a (λ c. p.on_some (cond e (Some d) None) a (λ d. cond (t c) (k c d) a)) ≡ cond (b && (e && t c)) (k c d) a
    by true true = refl
    by true false = refl
    by false true = refl
    by false false = refl

-- an object with itself in its place
pub unchanged : (v : p.Whole) (o : ℕ) (x : p.Thing) → x ≡ p.object v o → world_of (p.with_object v o x) ≡ world_of v
unchanged v o x e = put_world v o x ∙ ap (λ y. with_object (world_of v) o (object_of y)) e ∙ ap (with_object (world_of v) o) (at_world v o) ∙ same_object (world_of v) o

-- a refusal at an object leaves it
pub kept_no : (v : p.Whole) (o : ℕ) (x : p.Thing) → x ≡ p.object v o → went_of (p.change v o (p.left x No)) ≡ refused (world_of v)
kept_no v o x e = ap (λ u. refused u) (unchanged v o x e)

-- LINES
says_at : (v : p.Whole) (o b : ℕ) (x : p.Thing) → x ≡ p.object v o → went_of (p.change v o (calls.says b x)) ≡ w.saying Cpu fresh act (world_of v) o b (object_of x)
unfolding w.saying w.refuse
says_at v o b (p.line xs ys) e = ap (λ u. goes u (0 ∷ [])) (put_world v o _)
says_at v o b _ e = kept_no v o _ e

hears_at : (v : p.Whole) (o : ℕ) (x : p.Thing) → x ≡ p.object v o → went_of (p.change v o (calls.hears x)) ≡ w.hearing Cpu fresh act (world_of v) o (object_of x)
unfolding w.hearing w.refuse
hears_at v o (p.line xs (y ∷ ys)) e = ap (λ u. goes u (0 ∷ y ∷ [])) (put_world v o _)
hears_at v o _ e = kept_no v o _ e

say_with : (v : p.Whole) (q s b : ℕ) (x : Option Capability) → slot_of x ≡ slot (world_of v) q s →
    went_of (p.on_some x (p.refuse v) (λ c. cond (calls.writes c) (p.change v c.object (calls.says (b % 256) (p.object v c.object))) (p.refuse v)))
    ≡ does (world_of v) q (w.say s b)
unfolding w.does w.is_empty w.slot_rights w.slot_object w.refuse
say_with v q s b None e = rw (sym e) refl
say_with v q s b (Some c) e =
    rw (sym e, less_one c.object)
    (flip (calls.writes c) _ _ ∙ ap (w.pick (not (calls.writes c)) (refused (world_of v)))
    (says_at v c.object (b % 256) (p.object v c.object) refl ∙ ap (w.saying Cpu fresh act (world_of v) c.object (b % 256)) (at_world v c.object)))

pub say_same : (v : p.Whole) (q s b : ℕ) → went_of (calls.say v q s b) ≡ does (world_of v) q (w.say s b)
say_same v q s b = ap went_of (only_is calls.writes (p.slot v q s) (p.refuse v) (λ c. p.change v c.object (calls.says (b % 256) (p.object v c.object)))) ∙ say_with v q s b (p.slot v q s) (slot_world v q s)

hear_with : (v : p.Whole) (q s : ℕ) (x : Option Capability) → slot_of x ≡ slot (world_of v) q s →
    went_of (p.on_some x (p.refuse v) (λ c. cond (calls.reads c) (p.change v c.object (calls.hears (p.object v c.object))) (p.refuse v)))
    ≡ does (world_of v) q (w.hear s)
unfolding w.does w.is_empty w.slot_rights w.slot_object w.refuse
hear_with v q s None e = rw (sym e) refl
hear_with v q s (Some c) e =
    rw (sym e, less_one c.object)
    (flip (calls.reads c) _ _ ∙ ap (w.pick (not (calls.reads c)) (refused (world_of v)))
    (hears_at v c.object (p.object v c.object) refl ∙ ap (w.hearing Cpu fresh act (world_of v) c.object) (at_world v c.object)))

pub hear_same : (v : p.Whole) (q s : ℕ) → went_of (calls.hear v q s) ≡ does (world_of v) q (w.hear s)
hear_same v q s = ap went_of (only_is calls.reads (p.slot v q s) (p.refuse v) (λ c. p.change v c.object (calls.hears (p.object v c.object)))) ∙ hear_with v q s (p.slot v q s) (slot_world v q s)

-- THREADS
starts_by : (v : p.Whole) (o a : ℕ) (t : Thread) (s : State) → p.thread t ≡ p.object v o →
    went_of (p.change v o (cond (calls.is_stopped s) (p.left (p.thread (calls.with_state t Ready (fresh a))) Done) (p.left (p.thread t) No)))
    ≡ w.going Cpu fresh act (world_of v) o a (w.thread 0 (state_of s t.cpu) (core_of s t.cpu) (number_of t.table) (map page_of t.pages) (map may_write t.pages))
unfolding w.going w.refuse
starts_by v o a t Stopped e = ap (λ u. goes u (0 ∷ [])) (put_world v o _)
starts_by v o a t Ready e = kept_no v o _ e
starts_by v o a t (Waits n) e = kept_no v o _ e

starts_at : (v : p.Whole) (o a : ℕ) (x : p.Thing) → x ≡ p.object v o → went_of (p.change v o (calls.starts a x)) ≡ w.going Cpu fresh act (world_of v) o a (object_of x)
unfolding w.going w.refuse
starts_at v o a (p.thread t) e = starts_by v o a t t.state e
starts_at v o a _ e = kept_no v o _ e

go_with : (v : p.Whole) (q t a : ℕ) (x : Option Capability) → slot_of x ≡ slot (world_of v) q t →
    went_of (p.on_some x (p.refuse v) (λ c. cond (calls.writes c) (p.change v c.object (calls.starts a (p.object v c.object))) (p.refuse v)))
    ≡ does (world_of v) q (w.go t a)
unfolding w.does w.is_empty w.slot_rights w.slot_object w.refuse
go_with v q t a None e = rw (sym e) refl
go_with v q t a (Some c) e =
    rw (sym e, less_one c.object)
    (flip (calls.writes c) _ _ ∙ ap (w.pick (not (calls.writes c)) (refused (world_of v)))
    (starts_at v c.object a (p.object v c.object) refl ∙ ap (w.going Cpu fresh act (world_of v) c.object a) (at_world v c.object)))

pub go_same : (v : p.Whole) (q t a : ℕ) → went_of (calls.go v q t a) ≡ does (world_of v) q (w.go t a)
go_same v q t a = ap went_of (only_is calls.writes (p.slot v q t) (p.refuse v) (λ c. p.change v c.object (calls.starts a (p.object v c.object)))) ∙ go_with v q t a (p.slot v q t) (slot_world v q t)

-- a thread with another page
paged_is : (v : p.Whole) (o a : ℕ) (t : Thread) (m : Mapping) →
    with_object (world_of v) o (object_of (p.thread (calls.with_page t a m)))
    ≡ with_object (world_of v) o (w.thread 0 (state_of t.state t.cpu) (core_of t.state t.cpu) (number_of t.table) (set (map page_of t.pages) a (page_of m)) (set (map may_write t.pages) a (p.mark_in m)))
paged_is v o a t m =
    ap (λ ps. with_object (world_of v) o (w.thread 0 (state_of t.state t.cpu) (core_of t.state t.cpu) (number_of t.table) ps (map may_write (set t.pages a m)))) (map-set page_of t.pages a m)
    ∙ ap (λ ms. with_object (world_of v) o (w.thread 0 (state_of t.state t.cpu) (core_of t.state t.cpu) (number_of t.table) (set (map page_of t.pages) a (page_of m)) ms)) (map-set may_write t.pages a m)

unmaps_by : (v : p.Whole) (o a : ℕ) (t : Thread) (b : Bool) → p.thread t ≡ p.object v o →
    went_of (p.change v o (cond b (p.left (p.thread (calls.with_page t a p.unmapped)) Done) (p.left (p.thread t) No)))
    ≡ w.pick b (goes (with_object (world_of v) o (w.thread 0 (state_of t.state t.cpu) (core_of t.state t.cpu) (number_of t.table) (set (map page_of t.pages) a 0) (set (map may_write t.pages) a false))) (0 ∷ []))
    (refused (world_of v))
unmaps_by v o a t true e = ap (λ u. goes u (0 ∷ [])) (put_world v o _ ∙ paged_is v o a t p.unmapped)
unmaps_by v o a t false e = kept_no v o _ e

unmaps_at : (v : p.Whole) (o a : ℕ) (x : p.Thing) → x ≡ p.object v o → went_of (p.change v o (calls.unmaps a x)) ≡ w.unmapping Cpu fresh act sizes (world_of v) o a (object_of x)
unfolding w.unmapping w.refuse
unmaps_at v o a (p.thread t) e = unmaps_by v o a t (ltb a 64) e
unmaps_at v o a _ e = kept_no v o _ e

unmap_with : (v : p.Whole) (q t a : ℕ) (x : Option Capability) → slot_of x ≡ slot (world_of v) q t →
    went_of (p.on_some x (p.refuse v) (λ c. cond (calls.writes c) (p.change v c.object (calls.unmaps a (p.object v c.object))) (p.refuse v)))
    ≡ does (world_of v) q (w.unmap t a)
unfolding w.does w.is_empty w.slot_rights w.slot_object w.refuse
unmap_with v q t a None e = rw (sym e) refl
unmap_with v q t a (Some c) e =
    rw (sym e, less_one c.object)
    (flip (calls.writes c) _ _ ∙ ap (w.pick (not (calls.writes c)) (refused (world_of v)))
    (unmaps_at v c.object a (p.object v c.object) refl ∙ ap (w.unmapping Cpu fresh act sizes (world_of v) c.object a) (at_world v c.object)))

pub unmap_same : (v : p.Whole) (q t a : ℕ) → went_of (calls.unmap v q t a) ≡ does (world_of v) q (w.unmap t a)
unmap_same v q t a = ap went_of (only_is calls.writes (p.slot v q t) (p.refuse v) (λ c. p.change v c.object (calls.unmaps a (p.object v c.object)))) ∙ unmap_with v q t a (p.slot v q t) (slot_world v q t)

-- two rights and one more test
both_tests : (v : p.Whole) (a b t : Bool) (x : p.Ended) (k : Went) → (t ≡ true → went_of x ≡ k) → (t ≡ false → refused (world_of v) ≡ k) →
    went_of (cond (a && (b && t)) x (p.refuse v)) ≡ w.pick (not a || not b) (refused (world_of v)) k
both_tests v true true true x k good bad = good refl
both_tests v true true false x k good bad = bad refl
both_tests v true false t x k good bad = refl
both_tests v false b t x k good bad = refl

is_table_world : (x : p.Thing) → calls.is_table x ≡ w.is_table Cpu fresh act (object_of x)
unfolding w.is_table
is_table_world p.gone = refl
is_table_world _ = refl

is_page_world : (x : p.Thing) → calls.is_page x ≡ w.is_page Cpu fresh act (object_of x)
unfolding w.is_page
is_page_world p.gone = refl
is_page_world _ = refl

-- bind
binds_by : (v : p.Whole) (o n : ℕ) (t : Thread) (s : State) → p.thread t ≡ p.object v o → w.is_table Cpu fresh act (object (world_of v) n) ≡ true →
    went_of (p.change v o (cond (calls.is_stopped s) (p.left (p.thread (record { state = s; cpu = t.cpu; table = Some n; pages = t.pages })) Done) (p.left (p.thread t) No)))
    ≡ w.binding Cpu fresh act (world_of v) o n (w.thread 0 (state_of s t.cpu) (core_of s t.cpu) (number_of t.table) (map page_of t.pages) (map may_write t.pages))
unfolding w.binding w.refuse
binds_by v o n t Stopped e h = rw h (ap (λ u. goes u (0 ∷ [])) (put_world v o _))
binds_by v o n t Ready e h = kept_no v o _ e
binds_by v o n t (Waits m) e h = kept_no v o _ e

binds_at : (v : p.Whole) (o n : ℕ) (x : p.Thing) → x ≡ p.object v o → w.is_table Cpu fresh act (object (world_of v) n) ≡ true →
    went_of (p.change v o (calls.binds n x)) ≡ w.binding Cpu fresh act (world_of v) o n (object_of x)
unfolding w.binding w.refuse
binds_at v o n (p.thread t) e h = binds_by v o n t t.state e h
binds_at v o n _ e h = kept_no v o _ e

-- a bind to what is no table is refused
no_bind_by : (v : w.World Cpu) (o n : ℕ) (t : Thread) (s : State) → w.is_table Cpu fresh act (object v n) ≡ false →
    refused v ≡ w.binding Cpu fresh act v o n (w.thread 0 (state_of s t.cpu) (core_of s t.cpu) (number_of t.table) (map page_of t.pages) (map may_write t.pages))
unfolding w.binding w.refuse
no_bind_by v o n t Stopped h = rw h refl
no_bind_by v o n t Ready h = refl
no_bind_by v o n t (Waits m) h = refl

no_bind : (v : w.World Cpu) (o n : ℕ) (x : p.Thing) → w.is_table Cpu fresh act (object v n) ≡ false → refused v ≡ w.binding Cpu fresh act v o n (object_of x)
unfolding w.binding w.refuse
no_bind v o n (p.thread t) h = no_bind_by v o n t t.state h
no_bind v o n _ h = refl

bind_with : (v : p.Whole) (q t s : ℕ) (x y : Option Capability) → slot_of x ≡ slot (world_of v) q t → slot_of y ≡ slot (world_of v) q s →
    went_of (p.on_some y (p.refuse v) (λ d. p.on_some x (p.refuse v)
    (λ c. cond (calls.writes d && (calls.writes c && calls.is_table (p.object v d.object))) (p.change v c.object (calls.binds d.object (p.object v c.object))) (p.refuse v))))
    ≡ does (world_of v) q (w.bind t s)
unfolding w.does w.is_empty w.slot_rights w.slot_object w.refuse
bind_with v q t s None None e f = rw (sym e) refl
bind_with v q t s None (Some d) e f = rw (sym e) refl
bind_with v q t s (Some c) None e f = rw (sym e, sym f) refl
bind_with v q t s (Some c) (Some d) e f =
    let tab : calls.is_table (p.object v d.object) ≡ w.is_table Cpu fresh act (object (world_of v) d.object) = is_table_world (p.object v d.object) ∙ ap (w.is_table Cpu fresh act) (at_world v d.object) in
    let here = at_world v c.object in
    rw (sym e, sym f, less_one c.object, less_one d.object)
    (both_tests v (calls.writes d) (calls.writes c) (calls.is_table (p.object v d.object)) _ _
    (λ h. binds_at v c.object d.object (p.object v c.object) refl (sym tab ∙ h) ∙ ap (w.binding Cpu fresh act (world_of v) c.object d.object) here)
    (λ h. no_bind (world_of v) c.object d.object (p.object v c.object) (sym tab ∙ h) ∙ ap (w.binding Cpu fresh act (world_of v) c.object d.object) here))

pub bind_same : (v : p.Whole) (q t s : ℕ) → went_of (calls.bind v q t s) ≡ does (world_of v) q (w.bind t s)
bind_same v q t s =
    ap went_of (only_two calls.writes calls.writes (λ d. calls.is_table (p.object v d.object)) (p.slot v q s) (p.slot v q t) (p.refuse v) (λ d c. p.change v c.object (calls.binds d.object (p.object v c.object))))
    ∙ bind_with v q t s (p.slot v q t) (p.slot v q s) (slot_world v q t) (slot_world v q s)

-- map
none_zero : (m : Option ℕ) → is_none m ≡ eqb (number_of m) 0
none_zero None = refl
none_zero (Some n) = sym (ne_eqb (suc n) 0 (omega arith))

abbrev mapped : p.Whole → ℕ → ℕ → ℕ → Bool → Thread → Went
mapped v o a n m t =
    goes (with_object (world_of v) o (w.thread 0 (state_of t.state t.cpu) (core_of t.state t.cpu) (number_of t.table) (set (map page_of t.pages) a (suc n)) (set (map may_write t.pages) a m))) (0 ∷ [])

maps_by : (v : p.Whole) (o a n : ℕ) (m : Bool) (t : Thread) (b : Bool) → p.thread t ≡ p.object v o →
    went_of (p.change v o (cond b (p.left (p.thread (calls.with_page t a (p.mapping_of (Some n) m))) Done) (p.left (p.thread t) No))) ≡ w.pick b (mapped v o a n m t) (refused (world_of v))
maps_by v o a n m t true e = ap (λ u. goes u (0 ∷ [])) (put_world v o _ ∙ paged_is v o a t (p.mapping_of (Some n) m))
maps_by v o a n m t false e = kept_no v o _ e

maps_at : (v : p.Whole) (o a n : ℕ) (m : Bool) (x : p.Thing) → x ≡ p.object v o → w.is_page Cpu fresh act (object (world_of v) n) ≡ true →
    went_of (p.change v o (calls.maps a n m x)) ≡ w.mapping Cpu fresh act sizes (world_of v) n m o a (object_of x)
unfolding w.mapping w.refuse
maps_at v o a n m (p.thread t) e h =
    rw h
    (maps_by v o a n m t (ltb a 64 && is_none (p.page_at t.pages a)) e
    ∙ ap (λ b. w.pick (ltb a 64 && b) (mapped v o a n m t) (refused (world_of v))) (none_zero (p.page_at t.pages a) ∙ ap (λ k. eqb k 0) (read_any page_of t.pages a p.unmapped)))
maps_at v o a n m _ e h = kept_no v o _ e

and_false : (b : Bool) → b && false ≡ false
and_false true = refl
and_false false = refl

no_map : (v : w.World Cpu) (o a n : ℕ) (m : Bool) (x : p.Thing) → w.is_page Cpu fresh act (object v n) ≡ false → refused v ≡ w.mapping Cpu fresh act sizes v n m o a (object_of x)
unfolding w.mapping w.refuse
no_map v o a n m (p.thread t) h = rw (h, and_false (ltb a 64)) refl
no_map v o a n m _ h = refl

map_with : (v : p.Whole) (q s t a : ℕ) (x y : Option Capability) → slot_of x ≡ slot (world_of v) q s → slot_of y ≡ slot (world_of v) q t →
    went_of (p.on_some x (p.refuse v) (λ c. p.on_some y (p.refuse v)
    (λ d. cond (calls.reads c && (calls.writes d && calls.is_page (p.object v c.object))) (p.change v d.object (calls.maps a c.object (calls.writes c) (p.object v d.object))) (p.refuse v))))
    ≡ does (world_of v) q (w.map s t a)
unfolding w.does w.is_empty w.slot_rights w.slot_object w.refuse
map_with v q s t a None y e f = rw (sym e) refl
map_with v q s t a (Some c) None e f = rw (sym e, sym f) refl
map_with v q s t a (Some c) (Some d) e f =
    let pag : calls.is_page (p.object v c.object) ≡ w.is_page Cpu fresh act (object (world_of v) c.object) = is_page_world (p.object v c.object) ∙ ap (w.is_page Cpu fresh act) (at_world v c.object) in
    let here = at_world v d.object in
    rw (sym e, sym f, less_one c.object, less_one d.object)
    (both_tests v (calls.reads c) (calls.writes d) (calls.is_page (p.object v c.object)) _ _
    (λ h. maps_at v d.object a c.object (calls.writes c) (p.object v d.object) refl (sym pag ∙ h) ∙ ap (w.mapping Cpu fresh act sizes (world_of v) c.object (calls.writes c) d.object a) here)
    (λ h. no_map (world_of v) d.object a c.object (calls.writes c) (p.object v d.object) (sym pag ∙ h) ∙ ap (w.mapping Cpu fresh act sizes (world_of v) c.object (calls.writes c) d.object a) here))

pub map_same : (v : p.Whole) (q s t a : ℕ) → went_of (calls.map v q s t a) ≡ does (world_of v) q (w.map s t a)
map_same v q s t a =
    ap went_of (only_two calls.reads calls.writes (λ c. calls.is_page (p.object v c.object)) (p.slot v q s) (p.slot v q t) (p.refuse v) (λ c d. p.change v d.object (calls.maps a c.object (calls.writes c) (p.object v d.object))))
    ∙ map_with v q s t a (p.slot v q s) (p.slot v q t) (slot_world v q s) (slot_world v q t)
