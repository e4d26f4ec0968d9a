-- The numbers in an image are bytes.
use Rattle.std.proofs.Common.{ℕ, zero, suc, ◌/◌, ◌%◌, ◌<◌, ◌≤◌, Bool, eqb, List, [], ◌∷◌, ◌++◌, length, arith}
use Rattle.std.proofs.lemmas.Bool.{cond_both}
use Rattle.rights.specs.declared.kinds.Kind.{Kind}
use Rattle.rights.specs.declared.kinds.Kind.TheVariants.{Table, Page, Thread}
use Rattle.rights.specs.Vocabulary.{kind_number}
use Rattle.rights.specs.World.{Object, Slot, State, empty, cap, gone, pool, table, port, page, thread, line}
use Rattle.rv32.specs.declared.registers.Cpu.{Cpu}
use Rattle.std.specs.List.{flat_map, zip}
use Rattle.image.specs.Meaning.{two_bytes, four_bytes, bit, rights_bits, slot_bytes, mapping_bytes, ready_mark, kind_of, size_of, header_bytes, content_bytes, part_bytes, encode}
use Rattle.image.specs.Allowed.{Bytes}
use Rattle.image.proofs.Stands.{Alls}
use Rattle.image.proofs.Slots.{bit_low, rights_low, GoodSlot}
use Rattle.image.proofs.Spaces.{GoodMap}
use Rattle.image.proofs.Objects.{Good, size_low}

low_nil : Bytes []
low_nil k = omega arith

low_cons : (x : ℕ) (xs : List ℕ) → x < 256 → Bytes xs → Bytes (x ∷ xs)
low_cons x xs h l zero = h
low_cons x xs h l (suc k) = l k

low_append : (xs ys : List ℕ) → Bytes xs → Bytes ys → Bytes (xs ++ ys)
low_append [] ys h l = l
low_append (x ∷ xs) ys h l = low_cons x (xs ++ ys) (h 0) (low_append xs ys (λ k. h (suc k)) l)

low_two : (v : ℕ) → v < 65536 → Bytes (two_bytes v)
low_two v l = low_cons (v % 256) (v / 256 ∷ []) (omega arith) (low_cons (v / 256) [] (omega arith) low_nil)

low_four : (v : ℕ) → v < 4294967296 → Bytes (four_bytes v)
low_four v l =
    low_cons (v % 256) (v / 256 % 256 ∷ v / 65536 % 256 ∷ v / 16777216 ∷ []) (omega arith)
    (low_cons (v / 256 % 256) (v / 65536 % 256 ∷ v / 16777216 ∷ []) (omega arith)
    (low_cons (v / 65536 % 256) (v / 16777216 ∷ []) (omega arith) (low_cons (v / 16777216) [] (omega arith) low_nil)))

low_all : {X : Type 0} (f : X → List ℕ) (P : ℕ → X → Type 0) → ((i : ℕ) (x : X) → P i x → Bytes (f x)) → (xs : List X) (i : ℕ) → Alls P i xs → Bytes (flat_map f xs)
low_all f P h [] i p = low_nil
low_all f P h (x ∷ xs) i p = low_append (f x) (flat_map f xs) (h i x p.0) (low_all f P h xs (suc i) p.1)

low_slot : (n : ℕ) → n ≤ 1000 → (i : ℕ) (s : Slot) → GoodSlot n i s → Bytes (slot_bytes s)
low_slot n few i empty g = low_append (two_bytes 0) (0 ∷ four_bytes 0) (low_two 0 (omega arith)) (low_cons 0 (four_bytes 0) (omega arith) (low_four 0 (omega arith)))
low_slot n few i (cap o r b j m) g =
    low_append (two_bytes (suc o)) (rights_bits r ∷ four_bytes b) (low_two (suc o) (omega (arith, g.0, few)))
    (low_cons (rights_bits r) (four_bytes b) (omega (arith, rights_low r)) (low_four b g.1))

low_map : (bs : List ℕ) (n i : ℕ) (x : ℕ × Bool) → GoodMap bs n i x → Bytes (mapping_bytes x)
low_map bs n i (p, r) g = low_append (two_bytes p) (bit r ∷ []) (low_two p g.0) (low_cons (bit r) [] (omega (arith, bit_low r)) low_nil)

low_mark : (s : State Cpu) → ready_mark s < 256
low_mark s = grind arith

low_kind : (x : Object Cpu) → kind_of x < 256
low_kind x = grind arith

module _ (bs : List ℕ) (n : ℕ) (few : n ≤ 1000) where
  low_header : (i : ℕ) (x : Object Cpu) → Good bs n x → Bytes (header_bytes x)
  low_header i x g = low_cons (kind_of x) (two_bytes (size_of x)) (low_kind x) (low_two (size_of x) (omega (arith, size_low bs n x g)))

  low_content : (x : Object Cpu) → Good bs n x → Bytes (content_bytes x)
  low_content gone g = absurd g
  low_content (pool f k u) g = low_nil
  low_content (table f ss) g = low_all slot_bytes (GoodSlot n) (low_slot n few) ss 0 g.3
  low_content (port f ws) g = low_nil
  low_content (page f ys) g = g.2
  low_content (thread f s c t ps rs) g =
      low_append (two_bytes t) (flat_map mapping_bytes (zip ps rs) ++ (ready_mark s ∷ four_bytes c.pc)) (low_two t g.4)
      (low_append (flat_map mapping_bytes (zip ps rs)) (ready_mark s ∷ four_bytes c.pc) (low_all mapping_bytes (GoodMap bs n) (low_map bs n) (zip ps rs) 0 g.8)
      (low_cons (ready_mark s) (four_bytes c.pc) (low_mark s) (low_four c.pc g.3)))
  low_content (line ys zs) g = low_nil

  low_part : (k : Kind) (i : ℕ) (x : Object Cpu) → Good bs n x → Bytes (part_bytes k x)
  low_part k i x g = cond_both (eqb (kind_of x) (kind_number k)) (content_bytes x) [] (λ xs. Bytes xs) (λ _. low_content x g) (λ _. low_nil)

  pub low_image : (os : List (Object Cpu)) → length os ≤ 1000 → Alls (λ _ x. Good bs n x) 0 os → Bytes (encode os)
  low_image os l g =
      let G : ℕ → Object Cpu → Type 0 = λ _ x. Good bs n x in
      let hs : List ℕ = flat_map header_bytes os in
      let ts : List ℕ = flat_map (part_bytes Table) os in
      let ps : List ℕ = flat_map (part_bytes Page) os in
      let rs : List ℕ = flat_map (part_bytes Thread) os in
      low_append (72 ∷ 79 ∷ 76 ∷ 68 ∷ []) (two_bytes (length os) ++ (hs ++ (ts ++ (ps ++ rs))))
      (low_cons 72 (79 ∷ 76 ∷ 68 ∷ []) (omega arith) (low_cons 79 (76 ∷ 68 ∷ []) (omega arith) (low_cons 76 (68 ∷ []) (omega arith) (low_cons 68 [] (omega arith) low_nil))))
      (low_append (two_bytes (length os)) (hs ++ (ts ++ (ps ++ rs))) (low_two (length os) (omega (arith, l)))
      (low_append hs (ts ++ (ps ++ rs)) (low_all header_bytes G low_header os 0 g)
      (low_append ts (ps ++ rs) (low_all (part_bytes Table) G (low_part Table) os 0 g)
      (low_append ps rs (low_all (part_bytes Page) G (low_part Page) os 0 g) (low_all (part_bytes Thread) G (low_part Thread) os 0 g)))))
