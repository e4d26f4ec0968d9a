-- One turn of the loop that makes objects, how many capabilities they hold, and the world that they make.
use Rattle.std.proofs.Common.{◌≡◌, ℕ, zero, suc, ◌+◌, ◌-◌, ◌<◌, ◌≤◌, true, false, cond, List, [], ◌∷◌, ◌++◌, map, Some, None, Option, refl, sym, ap, ◌∙◌, count_by, subst, ◌==◌, arith}
use Rattle.std.specs.Option.{is_some}
use Rattle.std.proofs.lemmas.List.{map_push, append-nil}
use Rattle.std.proofs.lemmas.List.Recursion.{is_count_by}
use Rattle.rights.specs.declared.kinds.Kind.{Kind}
use Rattle.rights.specs.declared.kinds.Kind.TheVariants.{Pool, Table, Port, Page, Thread, Line}
use Rattle.rights.specs.Vocabulary.{kind_from, rights_of_bits}
use Rattle.rights.specs.World as w
use Rattle.rv32.specs.declared.registers.Cpu.{Cpu}
use Rattle.image.specs.Fields.{one, two}
use Rattle.image.specs.Format.{head_at, size_at}
use Rattle.image.specs.Meaning.{four, slots_from, births_of}
use Rattle.image.specs.Meaning as m
use Rattle.model.specs.declared.objects.Capability.{Capability}
use Rattle.model.specs.declared.objects.Object.{Object}
use Rattle.model.specs.Meaning.{slot_of, object_of, world_of}
use Rattle.model.specs.Plain.{thing}
use Rattle.replay.specs.Reading as reading
use Rattle.replay.proofs.Turns.{pushed}

-- how many slots hold something
pub counted : (xs : List (Option Capability)) → count_by is_some xs ≡ births_of (map slot_of xs)
unfolding births_of
counted xs = sym (is_count_by (λ ys. births_of (map slot_of ys)) is_some refl one_more xs)
  where
    one_more : (x : Option Capability) (ys : List (Option Capability)) → births_of (map slot_of (x ∷ ys)) ≡ cond (is_some x) (1 + births_of (map slot_of ys)) (births_of (map slot_of ys))
    one_more None ys = refl
    one_more (Some c) ys = omega arith

few_slots : (bs : List ℕ) (k a b : ℕ) → births_of (slots_from bs k a b) ≤ k
unfolding births_of slots_from
few_slots bs zero a b = omega arith
few_slots bs (suc k) a b =
    elim (two bs a == 0) as (λ t. births_of (cond t (w.empty ∷ slots_from bs k (a + 7) b) (w.cap (two bs a - 1) (rights_of_bits (one bs (a + 2))) (four bs (a + 3)) (suc b) 0 ∷ slots_from bs k (a + 7) (suc b))) ≤ suc k) [
      | true ↦ omega (arith, few_slots bs k (a + 7) b)
      | false ↦ omega (arith, few_slots bs k (a + 7) (suc b))
    ]

few_read : (bs : List ℕ) (o : ℕ) (p : m.Places) (k : Option Kind) → reading.births (m.read_as bs o p k) ≤ size_at bs o
unfolding w.slots_of births_of
few_read bs o p None = omega arith
few_read bs o p (Some Pool) = omega arith
few_read bs o p (Some Table) = few_slots bs (size_at bs o) p.slots_at p.born
few_read bs o p (Some Port) = omega arith
few_read bs o p (Some Page) = omega arith
few_read bs o p (Some Thread) = omega arith
few_read bs o p (Some Line) = omega arith

pub few_births : (bs : List ℕ) (o s : ℕ) (p : m.Places) (x : w.Object Cpu) → s ≡ size_at bs o → s < 65536 → x ≡ m.object_at bs o p → reading.births x < 65536
few_births bs o s p x e l h = let f = few_read bs o p (kind_from (one bs (head_at o))) in subst (λ y. reading.births y < 65536) (sym h) (omega (arith, e, l, f))

-- objects, as the abstract world has them
abbrev pub shown : List Object → List (w.Object Cpu)
shown xs = map object_of (map thing xs)

pub objects_on : (bs : List ℕ) (n o : ℕ) (p q : m.Places) (xs ys : List Object) (x : Object) → o < n → ys ≡ xs ++ x ∷ [] → object_of (thing x) ≡ m.object_at bs o p
    → q ≡ reading.after bs n o p (reading.births (object_of (thing x))) → shown ys ++ m.objects_from bs n (n - (o + 1)) (o + 1) q ≡ shown xs ++ m.objects_from bs n (n - o) o p
unfolding m.objects_from
objects_on bs n o p q xs ys x l e h s =
    let i : n - o ≡ suc (n - (o + 1)) = omega arith in
    let j : o + 1 ≡ suc o = omega arith in
    let k : map thing ys ≡ map thing xs ++ thing x ∷ [] = ap (map thing) e ∙ map_push thing xs x in
    rw (i, j, s, ← h) (pushed object_of (map thing xs) (map thing ys) (thing x) _ k)

pub objects_end : (bs : List ℕ) (n o : ℕ) (p : m.Places) (xs : List Object) → n ≤ o → shown xs ++ m.objects_from bs n (n - o) o p ≡ shown xs
unfolding m.objects_from
objects_end bs n o p xs l = let e : n - o ≡ 0 = omega arith in rw e (append-nil (shown xs))

births_pushed : (xs : List (w.Object Cpu)) (x : w.Object Cpu) → m.births_all (xs ++ x ∷ []) ≡ m.births_all xs + reading.births x
unfolding m.births_all
births_pushed [] x = omega arith
births_pushed (y ∷ xs) x = rw (births_pushed xs x) (omega arith)

pub births_on : (xs ys : List Object) (x : Object) (b c : ℕ) → ys ≡ xs ++ x ∷ [] → m.births_all (shown xs) ≡ b → c ≡ b + reading.births (object_of (thing x)) → m.births_all (shown ys) ≡ c
births_on xs ys x b c e h q =
    let k : shown ys ≡ shown xs ++ object_of (thing x) ∷ [] = ap shown e ∙ ap (map object_of) (map_push thing xs x) ∙ map_push object_of (map thing xs) (thing x) in
    ap m.births_all k ∙ births_pushed (shown xs) (object_of (thing x)) ∙ omega (arith, h, q)

-- the start and the end of the loop over objects
pub objects_begin : (bs : List ℕ) (n : ℕ) (xs : List Object) (p q : m.Places) → xs ≡ [] → p ≡ q → shown xs ++ m.objects_from bs n (n - 0) 0 p ≡ m.objects_from bs n n 0 q
objects_begin bs n xs p q e h = let z : n - 0 ≡ n = omega arith in rw (e, h, z) refl

pub births_begin : (xs : List Object) → xs ≡ [] → m.births_all (shown xs) ≡ 0
unfolding m.births_all
births_begin xs e = rw e refl

pub made : (bs : List ℕ) (xs : List Object) (b : ℕ) (l : List (Option Capability)) → shown xs ≡ m.objects_of bs → m.births_all (shown xs) ≡ b → l ≡ [] →
    world_of (record { things = map thing xs; births = b; lineage = l }) ≡ m.world_of bs
made bs xs b l e h n =
    let k : b ≡ m.births_all (m.objects_of bs) = sym h ∙ ap m.births_all e in
    rw (e, k, n) refl
