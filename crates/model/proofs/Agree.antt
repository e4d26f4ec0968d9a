-- Reading and writing the world in the code's parts is reading and writing the abstract world.
use Rattle.std.proofs.Common.{◌≡◌, ℕ, zero, suc, ◌-◌, Bool, true, false, ◌&&◌, eqb, ltb, List, [], ◌∷◌, map, reverse, length, get_or, set, Some, None, Option, sym, refl, ap, ◌∙◌, arith, le-ltb, ne_eqb}
use Rattle.std.specs.Option.{is_none}
use Rattle.std.proofs.lemmas.List.{map-set, length-map, set-get_or}
use Rattle.rights.specs.World as w
use Rattle.rv32.specs.declared.registers.Cpu.{Cpu}
use Rattle.rv32.specs.Registers.{fresh}
use Rattle.rv32.specs.Execute.{act}
use Rattle.model.specs.declared.objects.Capability.{Capability}
use Rattle.model.specs.Plain as p
use Rattle.model.specs.Meaning.{slot_of, number_of, object_of, world_of}

-- the abstract world's functions, at the core
abbrev pub object : w.World Cpu → ℕ → w.Object Cpu
object = w.object Cpu fresh act

abbrev pub with_object : w.World Cpu → ℕ → w.Object Cpu → w.World Cpu
with_object = w.with_object Cpu fresh act

abbrev pub table_of : w.Object Cpu → ℕ
table_of = w.table_of Cpu fresh act

abbrev pub slots_of : w.Object Cpu → List w.Slot
slots_of = w.slots_of Cpu fresh act

abbrev pub with_slots : w.Object Cpu → List w.Slot → w.Object Cpu
with_slots = w.with_slots Cpu fresh act

abbrev pub slot : w.World Cpu → ℕ → ℕ → w.Slot
slot = w.slot Cpu fresh act

abbrev pub with_slot : w.World Cpu → ℕ → ℕ → w.Slot → w.World Cpu
with_slot = w.with_slot Cpu fresh act

abbrev pub has_slot : w.World Cpu → ℕ → ℕ → Bool
has_slot = w.has_slot Cpu fresh act

abbrev pub Went : Type 0
Went = w.Went Cpu fresh act

abbrev pub goes : w.World Cpu → List ℕ → Went
goes v ws = w.on v ws

abbrev pub waits : w.World Cpu → ℕ → Went
waits v o = w.wait v o

pub less_one : (n : ℕ) → suc n - 1 ≡ n
less_one n = omega arith

pub not_zero : (n : ℕ) → eqb (suc n) 0 ≡ false
not_zero n = ne_eqb (suc n) 0 (omega arith)

pub read_any : {X Y : Type 0} (f : X → Y) (xs : List X) (n : ℕ) (d : X) → f (get_or xs n d) ≡ get_or (map f xs) n (f d)
read_any f [] n d = refl
read_any f (x ∷ xs) zero d = refl
read_any f (x ∷ xs) (suc n) d = read_any f xs n d

-- objects
pub at_world : (v : p.Whole) (n : ℕ) → object_of (p.object v n) ≡ object (world_of v) n
unfolding p.object w.object
at_world v n = read_any object_of v.things n p.gone

pub put_world : (v : p.Whole) (n : ℕ) (x : p.Thing) → world_of (p.with_object v n x) ≡ with_object (world_of v) n (object_of x)
unfolding p.with_object w.with_object
put_world v n x = ap (λ xs. record { objects = xs; births = v.births; lineage = reverse (map slot_of v.lineage) }) (map-set object_of v.things n x)

pub same_object : (v : w.World Cpu) (o : ℕ) → with_object v o (object v o) ≡ v
unfolding w.object w.with_object
same_object v o = ap (λ xs. record { objects = xs; births = v.births; lineage = v.lineage }) (set-get_or v.objects o w.gone)

-- tables
table_world : (x : p.Thing) → number_of (p.table_of x) ≡ table_of (object_of x)
unfolding w.table_of
table_world p.gone = refl
table_world _ = refl

pub tables : (v : p.Whole) (q : ℕ) → number_of (p.table_of (p.object v q)) ≡ table_of (object (world_of v) q)
tables v q = table_world (p.object v q) ∙ ap table_of (at_world v q)

pub slot_at_world : (x : p.Thing) (s : ℕ) → slot_of (p.slot_at x s) ≡ get_or (slots_of (object_of x)) s w.empty
unfolding w.slots_of
slot_at_world (p.table f ss) s = read_any slot_of ss s None
slot_at_world _ s = refl

has_at_world : (x : p.Thing) (s : ℕ) → p.has_at x s ≡ ltb s (length (slots_of (object_of x)))
unfolding w.slots_of
has_at_world (p.table f ss) s = rw length-map refl
has_at_world _ s = sym (le-ltb s 0 (omega arith))

put_at_world : (x : p.Thing) (s : ℕ) (c : Option Capability) → object_of (p.put_at x s c) ≡ with_slots (object_of x) (set (slots_of (object_of x)) s (slot_of c))
unfolding w.slots_of w.with_slots
put_at_world (p.table f ss) s c = ap (w.table (number_of f)) (map-set slot_of ss s c)
put_at_world _ s c = refl

pub empty_world : (c : Option Capability) → is_none c ≡ w.is_empty (slot_of c)
unfolding w.is_empty
empty_world None = refl
empty_world (Some c) = refl

-- slots of a thread's table
slot_none : (v : w.World Cpu) (q s : ℕ) → 0 ≡ table_of (object v q) → w.empty ≡ slot v q s
unfolding w.slot
slot_none v q s e = rw (sym e) refl

slot_some : (v : w.World Cpu) (q s t : ℕ) → suc t ≡ table_of (object v q) → get_or (slots_of (object v t)) s w.empty ≡ slot v q s
unfolding w.slot
slot_some v q s t e = rw (sym e, not_zero t, less_one t) refl

has_none : (v : w.World Cpu) (q s : ℕ) → 0 ≡ table_of (object v q) → false ≡ has_slot v q s
unfolding w.has_slot
has_none v q s e = rw (sym e) refl

has_some : (v : w.World Cpu) (q s t : ℕ) → suc t ≡ table_of (object v q) → ltb s (length (slots_of (object v t))) ≡ has_slot v q s
unfolding w.has_slot
has_some v q s t e = rw (sym e, not_zero t, less_one t) refl

put_some : (v : w.World Cpu) (q s t : ℕ) (x : w.Slot) → suc t ≡ table_of (object v q) →
    with_object v t (with_slots (object v t) (set (slots_of (object v t)) s x)) ≡ with_slot v q s x
unfolding w.with_slot
put_some v q s t x e = rw (sym e, less_one t) refl

slot_by_world : (v : p.Whole) (q s : ℕ) (m : Option ℕ) → number_of m ≡ table_of (object (world_of v) q) → slot_of (p.slot_by v m s) ≡ slot (world_of v) q s
slot_by_world v q s None e = slot_none (world_of v) q s e
slot_by_world v q s (Some t) e =
    slot_at_world (p.object v t) s ∙ ap (λ x. get_or (slots_of x) s w.empty) (at_world v t) ∙ slot_some (world_of v) q s t e

pub slot_world : (v : p.Whole) (q s : ℕ) → slot_of (p.slot v q s) ≡ slot (world_of v) q s
slot_world v q s = slot_by_world v q s (p.table_of (p.object v q)) (tables v q)

has_by_world : (v : p.Whole) (q s : ℕ) (m : Option ℕ) → number_of m ≡ table_of (object (world_of v) q) → p.has_by v m s ≡ has_slot (world_of v) q s
has_by_world v q s None e = has_none (world_of v) q s e
has_by_world v q s (Some t) e = has_at_world (p.object v t) s ∙ ap (λ x. ltb s (length (slots_of x))) (at_world v t) ∙ has_some (world_of v) q s t e

-- a slot that is there and empty
pub free_world : (v : p.Whole) (q s : ℕ) → p.free v q s ≡ (has_slot (world_of v) q s && w.is_empty (slot (world_of v) q s))
free_world v q s =
    ap (λ t. t && is_none (p.slot v q s)) (has_by_world v q s (p.table_of (p.object v q)) (tables v q))
    ∙ ap (λ t. has_slot (world_of v) q s && t) (empty_world (p.slot v q s) ∙ ap w.is_empty (slot_world v q s))

-- WRITES. A thread with a table
abbrev pub Tabled : p.Whole → ℕ → Type 0
Tabled v q = (t : ℕ) × (p.table_of (p.object v q) ≡ Some t)

put_by_world : (v : p.Whole) (q s : ℕ) (c : Option Capability) (t : ℕ) (m : Option ℕ) → m ≡ Some t → number_of m ≡ table_of (object (world_of v) q) →
    world_of (p.put_by v m s c) ≡ with_slot (world_of v) q s (slot_of c)
put_by_world v q s c t None h e = cc
put_by_world v q s c t (Some u) h e =
    put_world v u (p.put_at (p.object v u) s c)
    ∙ ap (with_object (world_of v) u) (put_at_world (p.object v u) s c ∙ ap (λ x. with_slots x (set (slots_of x) s (slot_of c))) (at_world v u))
    ∙ put_some (world_of v) q s u (slot_of c) e

pub with_world : (v : p.Whole) (q s : ℕ) (c : Option Capability) → Tabled v q → world_of (p.with_slot v q s c) ≡ with_slot (world_of v) q s (slot_of c)
with_world v q s c (t, h) = put_by_world v q s c t (p.table_of (p.object v q)) h (tables v q)

-- who has a table
full_tabled : (v : p.Whole) (s : ℕ) (m : Option ℕ) → is_none (p.slot_by v m s) ≡ false → (t : ℕ) × (m ≡ Some t)
full_tabled v s None e = cc
full_tabled v s (Some t) e = (t, refl)

pub full_has : (v : p.Whole) (q s : ℕ) → is_none (p.slot v q s) ≡ false → Tabled v q
full_has v q s e = full_tabled v s (p.table_of (p.object v q)) e

free_tabled : (v : p.Whole) (s : ℕ) (m : Option ℕ) (b : Bool) → (p.has_by v m s && b) ≡ true → (t : ℕ) × (m ≡ Some t)
free_tabled v s None b e = cc
free_tabled v s (Some t) b e = (t, refl)

pub free_has : (v : p.Whole) (q s : ℕ) → p.free v q s ≡ true → Tabled v q
free_has v q s e = free_tabled v s (p.table_of (p.object v q)) (is_none (p.slot v q s)) e
