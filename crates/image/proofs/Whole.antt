-- The image of objects that it can carry is taken, and its objects come back.
use Rattle.std.proofs.Common.{◌≡◌, ℕ, suc, ◌+◌, ◌*◌, ◌/◌, ◌<◌, ◌≤◌, min, true, false, ◌&&◌, ltb, leb, List, [], ◌∷◌, ◌++◌, length, Some, Ok, sym, refl, ap, ◌∙◌, subst, arith, length-append}
use Rattle.std.proofs.lemmas.Bool.{lt-ltb, le-leb}
use Rattle.std.proofs.lemmas.Bool.Decides.{nat_tests}
use Rattle.rights.specs.declared.kinds.Kind.{Kind}
use Rattle.rights.specs.declared.kinds.Kind.TheVariants.{Pool, Table, Port, Page, Thread, Line}
use Rattle.rights.specs.Vocabulary.{kind_from}
use Rattle.rights.specs.World.{Object, gone, pool, table, port, page, thread, line, slots_of}
use Rattle.rights.specs.Promise.{threads, lines}
use Rattle.rv32.specs.declared.registers.Cpu.{Cpu}
use Rattle.rv32.specs.Registers.{fresh}
use Rattle.rv32.specs.Execute.{act}
use Rattle.image.specs.declared.census.Census.{Census}
use Rattle.image.specs.declared.census.Kinds.{Kinds}
use Rattle.image.specs.Fields.{one, two, each}
use Rattle.image.specs.Format.{lets_in, head_at, counted, right_size, differs, magic, count, header, part, section, body}
use Rattle.image.specs.Layout.{frames_for}
use Rattle.std.specs.List.{flat_map}
use Rattle.image.specs.Meaning.{two_bytes, births_of, Places, object_at, after, objects_from, stop, objects_of, header_bytes, part_bytes, encode, frames}
use Rattle.image.specs.Verdict.{verdict}
use Rattle.image.proofs.Stands.{At, Alls, pieces_length, at_len, at_split, at_two, each_all}
use Rattle.image.proofs.Births.{Orders}
use Rattle.image.proofs.Objects.{LetIn, HeadAt, Placed, its_header, fills, part_step, build_step}

same : (bs : List ℕ) (a c : ℕ) → one bs a ≡ c → differs bs a c ≡ false
same bs a c e = grind (arith, nat_tests)

magic_fine : (bs : List ℕ) → 4 ≤ length bs → one bs 0 ≡ 72 → one bs 1 ≡ 79 → one bs 2 ≡ 76 → one bs 3 ≡ 68 → magic bs ≡ Ok 4
magic_fine bs l a b c d = grind (arith, nat_tests)

size_fine : (s : ℕ) → 1 ≤ s → s ≤ 4096 → (ltb 0 s && leb s 4096) ≡ true
size_fine s h k = grind (arith, nat_tests)

header_fine : (ks : Kinds) (bs : List ℕ) (o k s : ℕ) (c d : Census) (K : Kind) → HeadAt bs o k s → kind_from k ≡ Some K → lets_in ks K ≡ true → counted c K ≡ Some d → right_size K s ≡ true
    → header ks bs o c ≡ Ok d
header_fine ks bs o k s c d K h e l f g = grind (arith, nat_tests, h.room, h.kind_is, h.size_is)

module _ (ks : Kinds) (bs : List ℕ) (n : ℕ) where
  abbrev P : ℕ → Object Cpu → Type 0
  P = Placed bs n

  -- the headers are taken
  then_headers : (k o : ℕ) (c d : Census) → header ks bs o c ≡ Ok d → ((e : Census) × (each (header ks bs) k (suc o) d ≡ Ok e)) → (e : Census) × (each (header ks bs) (suc k) o c ≡ Ok e)
  unfolding each
  then_headers k o c d h (e, r) = (e, rw h r)

  pub headers_fine : (xs : List (Object Cpu)) (o : ℕ) (c : Census) → Alls P o xs → Alls (λ _ x. LetIn ks x) o xs → c.threads + threads Cpu fresh act xs ≤ 64 → c.lines + lines Cpu fresh act xs ≤ 32
      → (d : Census) × (each (header ks bs) (length xs) o c ≡ Ok d)
  unfolding each threads lines
  headers_fine [] o c p i t l = (c, refl)
  headers_fine (gone ∷ xs) o c p i t l = absurd p.0.1
  headers_fine (pool f k u ∷ xs) o c p i t l =
      let g = p.0.1 in
      let h = its_header bs n o (pool f k u) p.0 in
      then_headers (length xs) o c c (header_fine ks bs o 0 (k / 4096) c c Pool h refl (i.0 Pool refl) refl (size_fine (k / 4096) g.3 g.4)) (headers_fine xs (suc o) c p.1 i.1 t l)
  headers_fine (table f ss ∷ xs) o c p i t l =
      let g = p.0.1 in
      let h = its_header bs n o (table f ss) p.0 in
      then_headers (length xs) o c c (header_fine ks bs o 1 (length ss) c c Table h refl (i.0 Table refl) refl (size_fine (length ss) g.1 g.2)) (headers_fine xs (suc o) c p.1 i.1 t l)
  headers_fine (port f ws ∷ xs) o c p i t l =
      then_headers (length xs) o c c (header_fine ks bs o 2 0 c c Port (its_header bs n o (port f ws) p.0) refl (i.0 Port refl) refl refl) (headers_fine xs (suc o) c p.1 i.1 t l)
  headers_fine (page f ys ∷ xs) o c p i t l =
      then_headers (length xs) o c c (header_fine ks bs o 3 0 c c Page (its_header bs n o (page f ys) p.0) refl (i.0 Page refl) refl refl) (headers_fine xs (suc o) c p.1 i.1 t l)
  headers_fine (thread f s r a ps rs ∷ xs) o c p i t l =
      let h = its_header bs n o (thread f s r a ps rs) p.0 in
      let d : Census = record { objects = c.objects; threads = c.threads + 1; lines = c.lines } in
      let q : c.threads < 64 = omega (arith, t) in
      then_headers (length xs) o c d (header_fine ks bs o 4 0 c d Thread h refl (i.0 Thread refl) (rw (lt-ltb c.threads 64 q)) refl) (headers_fine xs (suc o) d p.1 i.1 (omega (arith, t)) l)
  headers_fine (line ys zs ∷ xs) o c p i t l =
      let h = its_header bs n o (line ys zs) p.0 in
      let d : Census = record { objects = c.objects; threads = c.threads; lines = c.lines + 1 } in
      let q : c.lines < 32 = omega (arith, l) in
      then_headers (length xs) o c d (header_fine ks bs o 5 0 c d Line h refl (i.0 Line refl) (rw (lt-ltb c.lines 32 q)) refl) (headers_fine xs (suc o) d p.1 i.1 t (omega (arith, l)))

-- where the parts of objects stand
record Laid (bs : List ℕ) (q : Places) (xs : List (Object Cpu)) : Type 0 where
  at_slots : At bs q.slots_at (flat_map (part_bytes Table) xs)
  at_bytes : At bs q.bytes_at (flat_map (part_bytes Page) xs)
  at_thread : At bs q.thread_at (flat_map (part_bytes Thread) xs)
  order : Orders q.born xs

module _ (bs : List ℕ) (n : ℕ) (few : n ≤ 1000) where
  -- what stands there for the first, and behind it for the others
  first : (k : Kind) (a : ℕ) (x : Object Cpu) (xs : List (Object Cpu)) → At bs a (flat_map (part_bytes k) (x ∷ xs)) → At bs a (part_bytes k x)
  first k a x xs h = (at_split bs a (part_bytes k x) (flat_map (part_bytes k) xs) h).0

  behind : (k : Kind) (o a : ℕ) (x : Object Cpu) (xs : List (Object Cpu)) → Placed bs n o x → At bs a (flat_map (part_bytes k) (x ∷ xs)) → At bs (stop (part bs n k o a)) (flat_map (part_bytes k) xs)
  behind k o a x xs p h =
      let s = at_split bs a (part_bytes k x) (flat_map (part_bytes k) xs) h in
      subst (λ b. At bs b (flat_map (part_bytes k) xs)) (sym (ap stop (part_step bs n few k o a x p s.0))) s.1

  laid_back : (o : ℕ) (x : Object Cpu) (xs : List (Object Cpu)) (q : Places) → Placed bs n o x → Laid bs q (x ∷ xs) → object_at bs o q ≡ x
  laid_back o x xs q p l =
      build_step bs n few o x q p l.order.0 (first Table q.slots_at x xs l.at_slots) (first Page q.bytes_at x xs l.at_bytes) (first Thread q.thread_at x xs l.at_thread)

  laid_on : (o : ℕ) (x : Object Cpu) (xs : List (Object Cpu)) (q : Places) → Placed bs n o x → Laid bs q (x ∷ xs) → Laid bs (after bs n o q) xs
  laid_on o x xs q p l = record {
    at_slots = behind Table o q.slots_at x xs p l.at_slots;
    at_bytes = behind Page o q.bytes_at x xs p l.at_bytes;
    at_thread = behind Thread o q.thread_at x xs p l.at_thread;
    order = subst (λ (y : Object Cpu). Orders (q.born + births_of (slots_of Cpu fresh act y)) xs) (sym (laid_back o x xs q p l)) l.order.1;
  }

  -- all objects come back
  objects_back : (xs : List (Object Cpu)) (o : ℕ) (q : Places) → Alls (Placed bs n) o xs → Laid bs q xs → objects_from bs n (length xs) o q ≡ xs
  unfolding objects_from
  objects_back [] o q p l = refl
  objects_back (x ∷ xs) o q p l =
      let a = laid_back o x xs q p.0 l in
      let b = objects_back xs (suc o) (after bs n o q) p.1 (laid_on o x xs q p.0 l) in
      ap (λ y. y ∷ objects_from bs n (length xs) (suc o) (after bs n o q)) a ∙ ap (λ ys. x ∷ ys) b

pub headers_length : (xs : List (Object Cpu)) → length (flat_map header_bytes xs) ≡ 3 * length xs
headers_length os = pieces_length header_bytes 3 (λ x. refl) os

-- where the parts of an image stand
pub record Parts (bs : List ℕ) (os : List (Object Cpu)) (t p h : ℕ) : Type 0 where
  pub h0 : one bs 0 ≡ 72
  pub h1 : one bs 1 ≡ 79
  pub h2 : one bs 2 ≡ 76
  pub h3 : one bs 3 ≡ 68
  pub number_at : At bs 4 (two_bytes (length os))
  pub headers_at : At bs 6 (flat_map header_bytes os)
  pub tables_at : At bs t (flat_map (part_bytes Table) os)
  pub pages_at : At bs p (flat_map (part_bytes Page) os)
  pub threads_at : At bs h (flat_map (part_bytes Thread) os)
  pub t_is : t ≡ head_at (length os)
  pub p_is : p ≡ t + length (flat_map (part_bytes Table) os)
  pub h_is : h ≡ p + length (flat_map (part_bytes Page) os)

pub parts : (bs : List ℕ) (os : List (Object Cpu)) → At bs 0 (encode os) → (t : ℕ) × (p : ℕ) × (h : ℕ) × Parts bs os t p h
parts bs os w =
    let hs : List ℕ = flat_map header_bytes os in
    let ts : List ℕ = flat_map (part_bytes Table) os in
    let ps : List ℕ = flat_map (part_bytes Page) os in
    let rs : List ℕ = flat_map (part_bytes Thread) os in
    let a = at_split bs 4 (two_bytes (length os)) (hs ++ (ts ++ (ps ++ rs))) w.1.1.1.1 in
    let b = at_split bs 6 hs (ts ++ (ps ++ rs)) a.1 in
    let c = at_split bs (6 + length hs) ts (ps ++ rs) b.1 in
    let d = at_split bs ((6 + length hs) + length ts) ps rs c.1 in (
      6 + length hs,
      (6 + length hs) + length ts,
      ((6 + length hs) + length ts) + length ps,
      record {
        h0 = w.0;
        h1 = w.1.0;
        h2 = w.1.1.0;
        h3 = w.1.1.1.0;
        number_at = a.0;
        headers_at = b.0;
        tables_at = c.0;
        pages_at = d.0;
        threads_at = d.1;
        t_is = ap (λ k. 6 + k) (headers_length os);
        p_is = refl;
        h_is = refl;
      },
    )

pub encode_length : (os : List (Object Cpu)) → length (encode os) ≡
    head_at (length os) + length (flat_map (part_bytes Table) os) + length (flat_map (part_bytes Page) os) + length (flat_map (part_bytes Thread) os)
encode_length os = grind (arith, length-append, headers_length)

module _ (bs : List ℕ) (os : List (Object Cpu)) (few : length os ≤ 1000) (t p h : ℕ) (at : Parts bs os t p h) (placed : Alls (Placed bs (length os)) 0 os) where
  n_is : two bs 4 ≡ length os
  n_is = at_two bs 4 (length os) (omega (arith, few)) at.number_at

  section_goes : (k : Kind) (a : ℕ) → At bs a (flat_map (part_bytes k) os) → section bs (length os) k a ≡ Ok (a + length (flat_map (part_bytes k) os))
  section_goes k a s = each_all bs (part bs (length os) k) (part_bytes k) (Placed bs (length os)) (part_step bs (length os) few k) os 0 a placed s

  tables_go : section bs (length os) Table (head_at (length os)) ≡ Ok p
  tables_go = grind (arith, section_goes Table t at.tables_at, at.t_is, at.p_is)

  pages_go : section bs (length os) Page p ≡ Ok h
  pages_go = grind (arith, section_goes Page p at.pages_at, at.h_is)

  body_goes : body bs (length os) ≡ Ok (h + length (flat_map (part_bytes Thread) os))
  body_goes = rw (tables_go, pages_go, section_goes Thread h at.threads_at)

  count_goes : count bs ≡ Ok (length os)
  count_goes = grind (arith, nat_tests, at_len bs 4 (two_bytes (length os)) at.number_at, n_is)

  frames_are : frames_for bs (length os) ≡ frames os
  frames_are = ap (λ k. (k + 63) / 64) (fills bs (length os) os 0 0 placed)

  pub is_taken : (ks : Kinds) (lent : ℕ) → Alls (λ _ x. LetIn ks x) 0 os → bs ≡ encode os → threads Cpu fresh act os ≤ 64 → lines Cpu fresh act os ≤ 32 → frames os ≤ min lent 4096
      → (c : Census) × (verdict ks lent bs ≡ Ok c)
  is_taken ks lent i e a b f =
      let l = at_len bs 4 (two_bytes (length os)) at.number_at in
      let k : 4 ≤ length bs = omega (arith, l) in
      let z = headers_fine ks bs (length os) os 0 (record { objects = length os; threads = 0; lines = 0 }) placed i (omega (arith, a)) (omega (arith, b)) in
      let j : length bs ≤ h + length (flat_map (part_bytes Thread) os) = omega (arith, ap length e, encode_length os, at.t_is, at.p_is, at.h_is) in
      (z.0, rw (magic_fine bs k at.h0 at.h1 at.h2 at.h3, count_goes, z.1, body_goes, le-leb (length bs) (h + length (flat_map (part_bytes Thread) os)) j, frames_are, le-leb (frames os) (min lent 4096) f))

  pub objects_come : Orders 0 os → objects_of bs ≡ os
  objects_come o =
      let q : Places = record { slots_at = head_at (length os); bytes_at = p; thread_at = h; born = 0 } in
      let l : Laid bs q os = record { at_slots = subst (λ k. At bs k (flat_map (part_bytes Table) os)) at.t_is at.tables_at; at_bytes = at.pages_at; at_thread = at.threads_at; order = o } in
      rw (n_is, tables_go, pages_go) (objects_back bs (length os) few os 0 q placed l)
