-- An image that is taken means objects that an image can carry.
use Rattle.std.proofs.Common.{◌≡◌, ℕ, zero, suc, ◌+◌, ◌*◌, ◌/◌, ◌<◌, ◌≤◌, true, ◌&&◌, ltb, leb, List, [], ◌∷◌, length, get_or, Some, Ok, sym, refl, ap, ◌∙◌, subst, arith}
use Rattle.std.proofs.lemmas.Bool.{eqb-true}
use Rattle.std.proofs.lemmas.Bool.Decides.{nat_tests}
use Rattle.rights.specs.declared.kinds.Kind.{Kind}
use Rattle.rights.specs.declared.kinds.Kind.TheVariants.{Pool, Table, Port, Page, Thread, Line}
use Rattle.rights.specs.Vocabulary.{kind_number}
use Rattle.rights.specs.World.{Object, slots_of}
use Rattle.rights.specs.Promise.{threads, lines}
use Rattle.rv32.specs.declared.registers.Cpu.{Cpu}
use Rattle.rv32.specs.Registers.{fresh}
use Rattle.rv32.specs.Execute.{act}
use Rattle.image.specs.declared.census.Census.{Census}
use Rattle.image.specs.declared.census.Kinds.{Kinds}
use Rattle.image.specs.Fields.{one, two, each}
use Rattle.image.specs.Format.{head_at, size_at, counted, right_size, header, slot, entries, state, part}
use Rattle.image.specs.Meaning.{two_bytes, Places, state_of, read_as, after, object_at, objects_from, stop, ready_mark, kind_of, slots_from}
use Rattle.image.proofs.Sized.{then_back}
use Rattle.image.proofs.Stands.{At, Alls}
use Rattle.image.proofs.Slots.{Orderly}
use Rattle.image.proofs.Births.{Orders}
use Rattle.image.proofs.Objects.{LetIn, let_as, Placed}
use Rattle.image.proofs.Back.{head_back, thread_count, line_count, two_low, four_low, slots_read, bytes_long, bytes_low, state_read}

-- a census after an object
record Tally (c d : Census) (x : Object Cpu) : Type 0 where
  threads_to : (ys : List (Object Cpu)) → c.threads + threads Cpu fresh act (x ∷ ys) ≡ d.threads + threads Cpu fresh act ys
  lines_to : (ys : List (Object Cpu)) → c.lines + lines Cpu fresh act (x ∷ ys) ≡ d.lines + lines Cpu fresh act ys
  few : (c.threads ≤ 64 → d.threads ≤ 64) × (c.lines ≤ 32 → d.lines ≤ 32)
  objects_to : d.objects ≡ c.objects

same_tally : (c d : Census) (x : Object Cpu) → c ≡ d → ((ys : List (Object Cpu)) → threads Cpu fresh act (x ∷ ys) ≡ threads Cpu fresh act ys)
    → ((ys : List (Object Cpu)) → lines Cpu fresh act (x ∷ ys) ≡ lines Cpu fresh act ys) → Tally c d x
same_tally c d x m t l = grind arith

tally : (bs : List ℕ) (o : ℕ) (q : Places) (c d : Census) (K : Kind) → counted c K ≡ Some d → Tally c d (read_as bs o q (Some K))
unfolding threads lines
tally bs o q c d K e = grind (arith, thread_count c d, line_count c d, same_tally c d)

sizes : (s : ℕ) → (ltb 0 s && leb s 4096) ≡ true → (1 ≤ s) × (s ≤ 4096)
sizes s e = grind (arith, nat_tests)

kind_read_as : (bs : List ℕ) (o : ℕ) (q : Places) (k : Kind) → kind_of (read_as bs o q (Some k)) ≡ kind_number k
kind_read_as bs o q k = grind arith

state_fine : (m : ℕ) → state_of (ready_mark (state_of m)) ≡ state_of m
state_fine m = grind (arith, nat_tests)

module _ (bs : List ℕ) (low : (k : ℕ) → get_or bs k 0 < 256) (n : ℕ) where
  head_stands : (o k s : ℕ) → head_at o + 3 ≤ length bs → one bs (head_at o) ≡ k → size_at bs o ≡ s → At bs (head_at o) (k ∷ two_bytes s)
  head_stands o k s l e f =
      let a : ℕ = head_at o + 1 in
      let t : At bs a (two_bytes (two bs a)) = (omega (arith, low a), (omega (arith, low a, low (a + 1)), omega (arith, l))) in
      (e, subst (λ v. At bs a (two_bytes v)) f t)

  -- what was read of one object
  object_read : (o : ℕ) (q : Places) (a h : ℕ) (K : Kind) → one bs (head_at o) ≡ kind_number K → right_size K (size_at bs o) ≡ true → head_at o + 3 ≤ length bs
      → part bs n Table o q.slots_at ≡ Ok a → part bs n Thread o q.thread_at ≡ Ok h
      → Placed bs n o (read_as bs o q (Some K)) × Orderly q.born (slots_of Cpu fresh act (read_as bs o q (Some K)))
  unfolding slots_of
  object_read o q a h Pool k s l ta th =
      let z = sizes (size_at bs o) s in
      let v : (size_at bs o * 4096) / 4096 ≡ size_at bs o = omega arith in
      ((head_stands o 0 ((size_at bs o * 4096) / 4096) l k (sym v), (refl, refl, rw v, omega (arith, z.0), omega (arith, z.1))), tt)
  object_read o q a h Table k s l ta th =
      let z = sizes (size_at bs o) s in
      let g : entries (slot bs n) (size_at bs o) q.slots_at ≡ Ok a = sym (let y : part bs n Table o q.slots_at ≡ entries (slot bs n) (size_at bs o) q.slots_at = rw k in y) ∙ ta in
      let r = slots_read bs low n (size_at bs o) 0 q.slots_at q.born a g in
      ((head_stands o 1 (length (slots_from bs (size_at bs o) q.slots_at q.born)) l k (sym r.long), (refl, omega (arith, z.0, r.long), omega (arith, z.1, r.long), r.good)), r.order)
  object_read o q a h Port k s l ta th = ((head_stands o 2 0 l k (eqb-true (size_at bs o) 0 s), (refl, refl)), tt)
  object_read o q a h Page k s l ta th =
      ((head_stands o 3 0 l k (eqb-true (size_at bs o) 0 s), (refl, bytes_long bs low 4096 q.bytes_at, bytes_low bs low 4096 q.bytes_at)), tt)
  object_read o q a h Thread k s l ta th =
      let g : state bs n q.thread_at ≡ Ok h = sym (let y : part bs n Thread o q.thread_at ≡ state bs n q.thread_at = rw k in y) ∙ th in
      let r = state_read bs low n q.thread_at h g in (
        (
          head_stands o 4 0 l k (eqb-true (size_at bs o) 0 s),
          (
            refl,
            state_fine (one bs (q.thread_at + 194)),
            refl,
            four_low bs low (q.thread_at + 195),
            two_low bs low q.thread_at,
            r.0,
            r.1.long,
            r.1.wide,
            r.1.good,
          ),
        ),
        tt,
      )
  object_read o q a h Line k s l ta th = ((head_stands o 5 0 l k (eqb-true (size_at bs o) 0 s), (refl, refl)), tt)

  -- and of all
  pub record ObjectsRead (ks : Kinds) (k o : ℕ) (q : Places) (c d : Census) (xs : List (Object Cpu)) : Type 0 where
    pub long : length xs ≡ k
    pub placed : Alls (Placed bs n) o xs
    pub order : Orders q.born xs
    pub threads_are : c.threads + threads Cpu fresh act xs ≡ d.threads
    pub lines_are : c.lines + lines Cpu fresh act xs ≡ d.lines
    pub few : (c.threads ≤ 64 → d.threads ≤ 64) × (c.lines ≤ 32 → d.lines ≤ 32)
    pub objects_are : d.objects ≡ c.objects
    pub let_in : Alls (λ _ x. LetIn ks x) o xs

  none_read : (ks : Kinds) (o : ℕ) (q : Places) (c : Census) → ObjectsRead ks 0 o q c c []
  unfolding threads lines
  none_read ks o q c = record { long = refl; placed = tt; order = tt; threads_are = omega arith; lines_are = omega arith; few = ((λ h. h), (λ h. h)); objects_are = refl; let_in = tt }

  pub objects_read : (ks : Kinds) (k o : ℕ) (q : Places) (c d : Census) (a b h : ℕ) → each (header ks bs) k o c ≡ Ok d → each (part bs n Table) k o q.slots_at ≡ Ok a
      → each (part bs n Page) k o q.bytes_at ≡ Ok b → each (part bs n Thread) k o q.thread_at ≡ Ok h → ObjectsRead ks k o q c d (objects_from bs n k o q)
  unfolding each objects_from
  objects_read ks zero o q c d a b h e f g i = let m : c ≡ d = cc in subst (λ (g : Census). ObjectsRead ks 0 o q c g []) m (none_read ks o q c)
  objects_read ks (suc k) o q c d a b h e f g i =
      let t = then_back (header ks bs o c) (each (header ks bs) k (suc o)) d e in
      let u = then_back (part bs n Table o q.slots_at) (each (part bs n Table) k (suc o)) a f in
      let v = then_back (part bs n Page o q.bytes_at) (each (part bs n Page) k (suc o)) b g in
      let w = then_back (part bs n Thread o q.thread_at) (each (part bs n Thread) k (suc o)) h i in
      let y = head_back ks bs o c t.0 t.1 in
      let x : Object Cpu = object_at bs o q in
      let m = subst (λ m. Placed bs n o (read_as bs o q m) × Orderly q.born (slots_of Cpu fresh act (read_as bs o q m))) (sym y.kind_read)
      (object_read o q u.0 w.0 y.kind y.number_is y.size_fine y.room u.1 w.1) in
      let r : Tally c t.0 x = subst (λ m. Tally c t.0 (read_as bs o q m)) (sym y.kind_read) (tally bs o q c t.0 y.kind y.count_is) in
      let q2 : Places = after bs n o q in
      let s = objects_read ks k (suc o) q2 t.0 d a b h t.2 (subst (λ p. each (part bs n Table) k (suc o) p ≡ Ok a) (sym (ap stop u.1)) u.2)
      (subst (λ p. each (part bs n Page) k (suc o) p ≡ Ok b) (sym (ap stop v.1)) v.2) (subst (λ p. each (part bs n Thread) k (suc o) p ≡ Ok h) (sym (ap stop w.1)) w.2) in
      record {
        long = ap suc s.long;
        placed = (m.0, s.placed);
        order = (m.1, s.order);
        threads_are = r.threads_to (objects_from bs n k (suc o) q2) ∙ s.threads_are;
        lines_are = r.lines_to (objects_from bs n k (suc o) q2) ∙ s.lines_are;
        few = ((λ j. s.few.0 (r.few.0 j)), (λ j. s.few.1 (r.few.1 j)));
        objects_are = s.objects_are ∙ r.objects_to;
        let_in = (subst (λ m. LetIn ks (read_as bs o q m)) (sym y.kind_read) (let_as ks (read_as bs o q (Some y.kind)) y.kind (kind_read_as bs o q y.kind) y.let_in), s.let_in);
      }
