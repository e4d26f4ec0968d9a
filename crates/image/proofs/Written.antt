-- The image of the objects that an image means has the image's own bytes, but for what is passed over.
use Rattle.std.proofs.Common.{◌≡◌, ℕ, zero, suc, ◌+◌, ◌-◌, ◌*◌, ◌%◌, ◌/◌, ◌<◌, ◌≤◌, min, Bool, eqb, ◌≢◌, List, [], ◌∷◌, ◌++◌, length, get_or, Ok, sym, refl, ap, ◌∙◌, subst, inl, inr, arith, length-append}
use Rattle.std.proofs.lemmas.Bool.{eq-eqb, ne_eqb, cases_eq, cases_lt}
use Rattle.std.proofs.lemmas.Bool.Decides.{nat_tests}
use Rattle.std.proofs.lemmas.List.{get_or_past, ext_get_or}
use Rattle.std.specs.List.{flat_map, zip}
use Rattle.rights.specs.declared.kinds.Kind.{Kind}
use Rattle.rights.specs.declared.kinds.Kind.TheVariants.{Table, Page, Thread}
use Rattle.rights.specs.Vocabulary.{kind_number, rights_of_bits}
use Rattle.rights.specs.World.{World, Sizes, Object, Slot, empty, cap}
use Rattle.rights.specs.Promise.{threads, lines}
use Rattle.rv32.specs.Registers.{fresh}
use Rattle.rv32.specs.Execute.{act}
use Rattle.rv32.specs.declared.registers.Cpu.{Cpu}
use Rattle.image.specs.Fields.{one, two, past, each}
use Rattle.image.specs.Format.{head_at, is_a, size_at, slot, mapping, entries, state, part, magic}
use Rattle.image.specs.Meaning.{four, two_bytes, four_bytes, bit, rights_bits, slot_bytes, mapping_bytes, state_of, ready_mark, kind_of, part_bytes, slots_from, pages_from, marks_from, Places, object_at, after, objects_from, stop, header_bytes, objects_of, world_of, encode, frames}
use Rattle.image.specs.declared.census.Census.{Census}
use Rattle.image.specs.declared.census.Kinds.{Kinds}
use Rattle.image.specs.Verdict.{verdict}
use Rattle.image.specs.Allowed.{Bytes}
use Rattle.image.specs.Layout.{frames_for}
use Rattle.image.specs.Written.{slots_end, kept_byte, WritesBack, OneWorld}
use Rattle.image.proofs.Early.{ready_pc}
use Rattle.image.proofs.Sized.{then_back, past_back, slot_back, mapping_back, entries_add, state_adds, parts_grow}
use Rattle.image.proofs.Stands.{Alls}
use Rattle.image.proofs.Spaces.{maps_length, pairs_length, thread_length}
use Rattle.image.proofs.Back.{bytes_long, state_read}
use Rattle.image.proofs.Objects.{LetIn, Placed, fills}
use Rattle.image.proofs.Sound.{objects_read}
use Rattle.image.proofs.Means.{read_through, means_allowed}
use Rattle.image.proofs.Holding.{holds_in}
use Rattle.image.proofs.Whole.{headers_length, encode_length}
use Rattle.image.proofs.Along.{Along, along_append, along_same, along_bytes, along_stands, along_at}

-- rights are their bits
bits_back : (n : ℕ) → n ≤ 7 → rights_bits (rights_of_bits n) ≡ n
bits_back zero l = refl
bits_back (suc zero) l = refl
bits_back (suc (suc zero)) l = refl
bits_back (suc (suc (suc zero))) l = refl
bits_back (suc (suc (suc (suc zero)))) l = refl
bits_back (suc (suc (suc (suc (suc zero))))) l = refl
bits_back (suc (suc (suc (suc (suc (suc zero)))))) l = refl
bits_back (suc (suc (suc (suc (suc (suc (suc zero))))))) l = refl
bits_back (suc (suc (suc (suc (suc (suc (suc (suc n)))))))) l = absurd (omega (arith, l))

mark_back : (n : ℕ) → n ≤ 1 → bit (eqb n 1) ≡ n
mark_back n l = grind (arith, nat_tests)

ready_back : (n : ℕ) → n ≤ 1 → ready_mark (state_of n) ≡ n
ready_back n l = grind (arith, nat_tests)

slot_rights : (bs : List ℕ) (n a b : ℕ) → slot bs n a ≡ Ok b → one bs (a + 2) ≤ 7
slot_rights bs n a b e = grind (arith, nat_tests)

mapping_mark : (bs : List ℕ) (n a b : ℕ) → mapping bs n a ≡ Ok b → one bs (a + 2) ≤ 1
mapping_mark bs n a b e = grind (arith, nat_tests)

ready_low : (bs : List ℕ) (a b : ℕ) → ready_pc bs a ≡ Ok b → one bs a ≤ 1
ready_low bs a b e = grind (arith, nat_tests)

-- what was read of a thread
state_back : (bs : List ℕ) (n a b : ℕ) → state bs n a ≡ Ok b → (entries (mapping bs n) 64 (a + 2) ≡ Ok (a + 194)) × (one bs (a + 194) ≤ 1)
state_back bs n a b e = grind (arith, nat_tests, entries_add (mapping bs n) 3 (λ p q f. (mapping_back bs n p q f).1) 64, ready_low bs)

kind_same : (bs : List ℕ) (o : ℕ) (q : Places) (k : Kind) → eqb (kind_of (object_at bs o q)) (kind_number k) ≡ is_a bs o k
kind_same bs o q k = grind (arith, nat_tests)

module _ (bs : List ℕ) (low : (k : ℕ) → get_or bs k 0 < 256) (n : ℕ) where
  two_along : (a : ℕ) → Along (one bs) a (two_bytes (two bs a))
  two_along a = (omega (arith, low a), (omega (arith, low a), tt))

  four_along : (a : ℕ) → Along (one bs) a (four_bytes (four bs a))
  four_along a =
      let x = low a in let y = low (a + 1) in let z = low (a + 2) in
      let e : (a + 1) + 1 ≡ a + 2 = omega arith in
      let f : ((a + 1) + 1) + 1 ≡ a + 3 = omega arith in
      (omega (arith, x), (omega (arith, x, y), (rw e (omega (arith, x, y, z)), (rw f (omega (arith, x, y, z)), tt))))

  -- seven bytes of a slot
  seven : (f : ℕ → ℕ) (a x0 x1 x2 x3 x4 x5 x6 : ℕ) → x0 ≡ f a → x1 ≡ f (a + 1) → x2 ≡ f (a + 2) → x3 ≡ f (a + 3) → x4 ≡ f (a + 4) → x5 ≡ f (a + 5) → x6 ≡ f (a + 6)
      → Along f a (x0 ∷ x1 ∷ x2 ∷ x3 ∷ x4 ∷ x5 ∷ x6 ∷ [])
  seven f a x0 x1 x2 x3 x4 x5 x6 h0 h1 h2 h3 h4 h5 h6 = grind arith

  abbrev head : ℕ
  head = head_at (two bs 4)

  -- a place in a slot is the slot's first and less than seven more
  begins : (a i j : ℕ) → a ≡ head + 7 * i → j < 7 → (a + j) - ((a + j) - head) % 7 ≡ a
  begins a i j e l = omega (arith, e, l)

  kept_empty : (a i j : ℕ) → a ≡ head + 7 * i → j < 7 → a + 7 ≤ slots_end bs → two bs a ≡ 0 → kept_byte bs (a + j) ≡ 0
  kept_empty a i j e l m z = grind (arith, nat_tests, begins a i j)

  kept_full : (a i j : ℕ) → a ≡ head + 7 * i → j < 7 → two bs a ≢ 0 → kept_byte bs (a + j) ≡ one bs (a + j)
  kept_full a i j e l z = grind (arith, nat_tests, begins a i j)

  slot_empty : (a i : ℕ) → a ≡ head + 7 * i → a + 7 ≤ slots_end bs → two bs a ≡ 0 → Along (kept_byte bs) a (slot_bytes empty)
  slot_empty a i e m z =
      let k : (j : ℕ) → j < 7 → 0 ≡ kept_byte bs (a + j) = λ j l. sym (kept_empty a i j e l m z) in
      let f : a + 0 ≡ a = omega arith in
      seven (kept_byte bs) a 0 0 0 0 0 0 0 (subst (λ p. 0 ≡ kept_byte bs p) f (k 0 (omega arith))) (k 1 (omega arith)) (k 2 (omega arith)) (k 3 (omega arith)) (k 4 (omega arith)) (k 5 (omega arith)) (k 6 (omega arith))

  slot_full : (a i b m : ℕ) → a ≡ head + 7 * i → two bs a ≢ 0 → one bs (a + 2) ≤ 7 →
      Along (kept_byte bs) a (slot_bytes (cap (two bs a - 1) (rights_of_bits (one bs (a + 2))) (four bs (a + 3)) b m))
  slot_full a i b m e z l =
      let s : suc (two bs a - 1) ≡ two bs a = omega (arith, z) in
      along_same (one bs) (kept_byte bs) a (slot_bytes (cap (two bs a - 1) (rights_of_bits (one bs (a + 2))) (four bs (a + 3)) b m)) (λ k p q. let d : a + (k - a) ≡ k = omega (arith, p) in subst (λ x. one bs x ≡ kept_byte bs x) d (sym (kept_full a i (k - a) e (omega (arith, q, p)) z)))
      (rw (s, bits_back (one bs (a + 2)) l)
      (along_append (one bs) a (two_bytes (two bs a)) (one bs (a + 2) ∷ four_bytes (four bs (a + 3))) (two_along a)
      (refl, let d : (a + 2) + 1 ≡ a + 3 = omega arith in subst (λ p. Along (one bs) p (four_bytes (four bs (a + 3)))) (sym d) (four_along (a + 3)))))

  record SlotsAlong (k a b : ℕ) (ss : List Slot) : Type 0 where
    along : Along (kept_byte bs) a (flat_map slot_bytes ss)
    wide : length (flat_map slot_bytes ss) ≡ 7 * k
    ends : b ≡ a + 7 * k

  slots_more : (k a b : ℕ) (s : Slot) (ss : List Slot) → length (slot_bytes s) ≡ 7 → Along (kept_byte bs) a (slot_bytes s) → SlotsAlong k (a + 7) b ss → SlotsAlong (suc k) a b (s ∷ ss)
  slots_more k a b s ss e h g = record {
    along = along_append (kept_byte bs) a (slot_bytes s) (flat_map slot_bytes ss) h (subst (λ m. Along (kept_byte bs) (a + m) (flat_map slot_bytes ss)) (sym e) g.along);
    wide = length-append (slot_bytes s) (flat_map slot_bytes ss) ∙ omega (arith, e, g.wide);
    ends = omega (arith, g.ends);
  }

  slots_along : (k i j a b born : ℕ) → a ≡ head + 7 * j → each (λ _ a. slot bs n a) k i a ≡ Ok b → b ≤ slots_end bs → SlotsAlong k a b (slots_from bs k a born)
  unfolding each slots_from
  slots_along zero i j a b born e r l = let z : a ≡ b = cc in record { along = tt; wide = omega arith; ends = omega (arith, z) }
  slots_along (suc k) i j a b born e r l =
      let t = then_back (slot bs n a) (each (λ _ a. slot bs n a) k (suc i)) b r in
      let s = slot_back bs n a t.0 t.1 in
      let u : each (λ _ a. slot bs n a) k (suc i) (a + 7) ≡ Ok b = subst (λ p. each (λ _ a. slot bs n a) k (suc i) p ≡ Ok b) s.1 t.2 in
      let f : a + 7 ≡ head + 7 * suc j = omega (arith, e) in
      elim (cases_eq (two bs a) 0) [
        | inl z ↦
            (let g = slots_along k (suc i) (suc j) (a + 7) b born f u l in
            rw (eq-eqb (two bs a) 0 z) (slots_more k a b empty (slots_from bs k (a + 7) born) refl (slot_empty a j e (omega (arith, g.ends, l)) z) g))
        | inr z ↦
            (let g = slots_along k (suc i) (suc j) (a + 7) b (suc born) f u l in
            rw (ne_eqb (two bs a) 0 z)
            (slots_more k a b (cap (two bs a - 1) (rights_of_bits (one bs (a + 2))) (four bs (a + 3)) (suc born) 0) (slots_from bs k (a + 7) (suc born)) refl
            (slot_full a j (suc born) 0 e z (slot_rights bs n a t.0 t.1)) g))
      ]

  -- spaces and threads
  maps_along : (k i a b : ℕ) → each (λ _ a. mapping bs n a) k i a ≡ Ok b → Along (one bs) a (flat_map mapping_bytes (zip (pages_from bs k a) (marks_from bs k a)))
  unfolding each pages_from marks_from
  maps_along zero i a b e = tt
  maps_along (suc k) i a b e =
      let t = then_back (mapping bs n a) (each (λ _ a. mapping bs n a) k (suc i)) b e in
      let s = mapping_back bs n a t.0 t.1 in
      let g = maps_along k (suc i) (a + 3) b (subst (λ p. each (λ _ a. mapping bs n a) k (suc i) p ≡ Ok b) s.1 t.2) in
      along_append (one bs) a (mapping_bytes (two bs a, eqb (one bs (a + 2)) 1)) (flat_map mapping_bytes (zip (pages_from bs k (a + 3)) (marks_from bs k (a + 3))))
      (along_append (one bs) a (two_bytes (two bs a)) (bit (eqb (one bs (a + 2)) 1) ∷ []) (two_along a) (mark_back (one bs (a + 2)) (mapping_mark bs n a t.0 t.1), tt)) g

  -- bytes that stand from a place up to another
  record Stood (f : ℕ → ℕ) (a b : ℕ) (xs : List ℕ) : Type 0 where
    along : Along f a xs
    ends : b ≡ a + length xs

  nothing_stood : (f : ℕ → ℕ) (a b : ℕ) (xs : List ℕ) → b ≡ a → xs ≡ [] → Stood f a b xs
  nothing_stood f a b xs e h = rw h (record { along = tt; ends = omega (arith, e) })

  none_of : (o : ℕ) (q : Places) (k : Kind) → one bs (head_at o) ≢ kind_number k → part_bytes k (object_at bs o q) ≡ []
  none_of o q k h = rw (kind_same bs o q k, ne_eqb (one bs (head_at o)) (kind_number k) h)

  none_read : (o a b : ℕ) (k : Kind) → one bs (head_at o) ≢ kind_number k → part bs n k o a ≡ Ok b → b ≡ a
  none_read o a b k h e = grind (arith, nat_tests)

  -- one object in the section of its kind
  abbrev Sevens : ℕ → Type 0
  Sevens a = (j : ℕ) × (a ≡ head + 7 * j)

  table_step : (o b : ℕ) (q : Places) → Sevens q.slots_at → part bs n Table o q.slots_at ≡ Ok b → b ≤ slots_end bs
      → Stood (kept_byte bs) q.slots_at b (part_bytes Table (object_at bs o q)) × Sevens b
  table_step o b q (j, s) e l =
      elim (cases_eq (one bs (head_at o)) 1) [
        | inl z ↦
            (let y : part bs n Table o q.slots_at ≡ entries (slot bs n) (size_at bs o) q.slots_at = rw z in
            let g = slots_along (size_at bs o) 0 j q.slots_at b q.born s (sym y ∙ e) l in
            (rw z (record { along = g.along; ends = omega (arith, g.ends, g.wide) }), (j + size_at bs o, omega (arith, g.ends, s))))
        | inr z ↦
            (let m = none_read o q.slots_at b Table z e in
            (nothing_stood (kept_byte bs) q.slots_at b (part_bytes Table (object_at bs o q)) m (none_of o q Table z), (j, omega (arith, m, s))))
      ]

  page_step : (o b : ℕ) (q : Places) → part bs n Page o q.bytes_at ≡ Ok b → Stood (one bs) q.bytes_at b (part_bytes Page (object_at bs o q))
  page_step o b q e =
      elim (cases_eq (one bs (head_at o)) 3) [
        | inl z ↦
            (let y : part bs n Page o q.bytes_at ≡ past bs q.bytes_at 4096 = rw z in
            let g = past_back bs q.bytes_at 4096 b (sym y ∙ e) in
            rw z (record { along = along_bytes bs 4096 q.bytes_at; ends = omega (arith, g.1, bytes_long bs low 4096 q.bytes_at) }))
        | inr z ↦ nothing_stood (one bs) q.bytes_at b (part_bytes Page (object_at bs o q)) (none_read o q.bytes_at b Page z e) (none_of o q Page z)
      ]

  -- a thread
  thread_along : (a b : ℕ) → state bs n a ≡ Ok b
      → Along (one bs) a (two_bytes (two bs a) ++ (flat_map mapping_bytes (zip (pages_from bs 64 (a + 2)) (marks_from bs 64 (a + 2))) ++ (ready_mark (state_of (one bs (a + 194))) ∷ four_bytes (four bs (a + 195)))))
  thread_along a b e =
      let t = state_back bs n a b e in
      let maps = maps_along 64 0 (a + 2) (a + 194) t.0 in
      let r = state_read bs low n a b e in
      let xs : List (ℕ × Bool) = zip (pages_from bs 64 (a + 2)) (marks_from bs 64 (a + 2)) in
      let w : length (flat_map mapping_bytes xs) ≡ 192 = omega (arith, maps_length xs, pairs_length (pages_from bs 64 (a + 2)) (marks_from bs 64 (a + 2)) 64 r.1.long r.1.wide) in
      let f : (a + 2) + length (flat_map mapping_bytes xs) ≡ a + 194 = omega (arith, w) in
      let d : (a + 194) + 1 ≡ a + 195 = omega arith in
      along_append (one bs) a (two_bytes (two bs a)) (flat_map mapping_bytes xs ++ (ready_mark (state_of (one bs (a + 194))) ∷ four_bytes (four bs (a + 195)))) (two_along a)
      (along_append (one bs) (a + 2) (flat_map mapping_bytes xs) (ready_mark (state_of (one bs (a + 194))) ∷ four_bytes (four bs (a + 195))) maps
      (subst (λ s. Along (one bs) s (ready_mark (state_of (one bs (a + 194))) ∷ four_bytes (four bs (a + 195)))) (sym f)
      (ready_back (one bs (a + 194)) (t.1), subst (λ s. Along (one bs) s (four_bytes (four bs (a + 195)))) (sym d) (four_along (a + 195)))))

  thread_step : (o b : ℕ) (q : Places) → part bs n Thread o q.thread_at ≡ Ok b → Stood (one bs) q.thread_at b (part_bytes Thread (object_at bs o q))
  thread_step o b q e =
      elim (cases_eq (one bs (head_at o)) 4) [
        | inl z ↦
            (let y : part bs n Thread o q.thread_at ≡ state bs n q.thread_at = rw z in
            let a : ℕ = q.thread_at in
            let g = state_adds bs n a b (sym y ∙ e) in
            let r = state_read bs low n a b (sym y ∙ e) in
            let l = thread_length (two bs a) (ready_mark (state_of (one bs (a + 194)))) (four bs (a + 195)) (zip (pages_from bs 64 (a + 2)) (marks_from bs 64 (a + 2)))
            (pairs_length (pages_from bs 64 (a + 2)) (marks_from bs 64 (a + 2)) 64 r.1.long r.1.wide) in
            rw z (record { along = thread_along a b (sym y ∙ e); ends = omega (arith, g, l) }))
        | inr z ↦ nothing_stood (one bs) q.thread_at b (part_bytes Thread (object_at bs o q)) (none_read o q.thread_at b Thread z e) (none_of o q Thread z)
      ]

  -- a whole section
  section_stood : (k : Kind) (place : Places → ℕ) (f : ℕ → ℕ) (F : ℕ → Type 0) (end : ℕ) → ((o : ℕ) (q : Places) → place (after bs n o q) ≡ stop (part bs n k o (place q)))
      → ((o b : ℕ) (q : Places) → F (place q) → part bs n k o (place q) ≡ Ok b → b ≤ end → Stood f (place q) b (part_bytes k (object_at bs o q)) × F b)
      → (m o : ℕ) (q : Places) → F (place q) → each (part bs n k) m o (place q) ≡ Ok end → Stood f (place q) end (flat_map (part_bytes k) (objects_from bs n m o q))
  unfolding each objects_from
  section_stood k place f F end follows step zero o q p e = let z : place q ≡ end = cc in record { along = tt; ends = omega (arith, z) }
  section_stood k place f F end follows step (suc m) o q p e =
      let t = then_back (part bs n k o (place q)) (each (part bs n k) m (suc o)) end e in
      let l = parts_grow bs n k m (suc o) t.0 end t.2 in
      let s = step o t.0 q p t.1 l in
      let q2 : Places = after bs n o q in
      let h : t.0 ≡ place q2 = sym (follows o q ∙ ap stop t.1) in
      let g = section_stood k place f F end follows step m (suc o) q2 (subst F h s.1) (subst (λ a. each (part bs n k) m (suc o) a ≡ Ok end) h t.2) in
      let xs : List ℕ = part_bytes k (object_at bs o q) in
      let ys : List ℕ = flat_map (part_bytes k) (objects_from bs n m (suc o) q2) in
      let d : place q2 ≡ place q + length xs = sym h ∙ s.0.ends in
      record {
        along = along_append f (place q) xs ys s.0.along (subst (λ a. Along f a ys) d g.along);
        ends = omega (arith, g.ends, d, length-append xs ys);
      }

  headers_along : (xs : List (Object Cpu)) (o : ℕ) → Alls (Placed bs n) o xs → Along (one bs) (head_at o) (flat_map header_bytes xs)
  headers_along [] o p = tt
  headers_along (x ∷ xs) o p =
      let e : head_at (suc o) ≡ head_at o + 3 = omega arith in
      along_append (one bs) (head_at o) (header_bytes x) (flat_map header_bytes xs) (along_stands bs (head_at o) (header_bytes x) p.0.0)
      (subst (λ a. Along (one bs) a (flat_map header_bytes xs)) e (headers_along xs (suc o) p.1))

-- HOLD and the places before and behind the slots
magic_back : (bs : List ℕ) → magic bs ≡ Ok 4 → (one bs 0 ≡ 72) × (one bs 1 ≡ 79) × (one bs 2 ≡ 76) × (one bs 3 ≡ 68)
magic_back bs e = grind (arith, nat_tests)

kept_before : (bs : List ℕ) (a : ℕ) → a < head_at (two bs 4) → kept_byte bs a ≡ one bs a
kept_before bs a l = grind (arith, nat_tests)

kept_behind : (bs : List ℕ) (a : ℕ) → slots_end bs ≤ a → kept_byte bs a ≡ one bs a
kept_behind bs a l = grind (arith, nat_tests)

kept_past : (bs : List ℕ) (a : ℕ) → length bs ≤ a → kept_byte bs a ≡ 0
kept_past bs a l = grind (arith, nat_tests, get_or_past bs a 0)

-- the whole image
written : (ks : Kinds) (lent : ℕ) (bs : List ℕ) (c : Census) → Bytes bs → verdict ks lent bs ≡ Ok c → Along (kept_byte bs) 0 (encode (objects_of bs)) × (length (encode (objects_of bs)) ≡ length bs)
written ks lent bs c low v =
    let rt = read_through ks lent bs c v in
    let n : ℕ = rt.0 in
    let p : ℕ = rt.1 in
    let h : ℕ = rt.2 in
    let end : ℕ = rt.3 in
    let r = rt.4 in
    let q : Places = record { slots_at = head_at n; bytes_at = p; thread_at = h; born = 0 } in
    let first : Census = record { objects = n; threads = 0; lines = 0 } in
    let os : List (Object Cpu) = objects_from bs n n 0 q in
    let e : objects_of bs ≡ os = rw (r.number_is, r.tables_are, r.pages_are) in
    let x = objects_read bs low n ks n 0 q first c p h end r.headers_are r.tables_are r.pages_are r.threads_are in
    let kept : ℕ → ℕ = kept_byte bs in
    let head : head_at (two bs 4) ≡ head_at n = ap head_at r.number_is in
    let tables : slots_end bs ≡ p = rw (r.number_is, r.tables_are) in
    let ts = section_stood bs low n Table (λ q. q.slots_at) kept (Sevens bs low n) p (λ o q. refl) (λ o b q s e l. table_step bs low n o b q s e (omega (arith, l, tables))) n 0 q (0, omega (arith, head)) r.tables_are in
    let ps = section_stood bs low n Page (λ q. q.bytes_at) (one bs) (λ _. Unit {0}) h (λ o q. refl) (λ o b q s e l. (page_step bs low n o b q e, tt)) n 0 q tt r.pages_are in
    let rs = section_stood bs low n Thread (λ q. q.thread_at) (one bs) (λ _. Unit {0}) end (λ o q. refl) (λ o b q s e l. (thread_step bs low n o b q e, tt)) n 0 q tt r.threads_are in
    let hs = headers_along bs low n os 0 x.placed in
    let hl = headers_length os in
    let el = encode_length os in
    let m = magic_back bs r.magic_is in
    let low_places : (k : ℕ) → k < head_at n → one bs k ≡ kept k = λ k l. sym (kept_before bs k (omega (arith, l, head))) in
    let high_places : (k : ℕ) → p ≤ k → one bs k ≡ kept k = λ k l. sym (kept_behind bs k (omega (arith, l, tables))) in
    let H : List ℕ = flat_map header_bytes os in
    let T : List ℕ = flat_map (part_bytes Table) os in
    let P : List ℕ = flat_map (part_bytes Page) os in
    let R : List ℕ = flat_map (part_bytes Thread) os in
    let number : Along (one bs) 4 (two_bytes (length os)) = subst (λ k. Along (one bs) 4 (two_bytes k)) (r.number_is ∙ sym x.long) (two_along bs low n 4) in
    let tail : Along kept h R = along_same (one bs) kept h R (λ k a b. high_places k (omega (arith, a, ps.ends))) rs.along in
    let pages : Along kept p (P ++ R) =
    along_append kept p P R (along_same (one bs) kept p P (λ k a b. high_places k a) ps.along) (subst (λ a. Along kept a R) ps.ends tail) in
    let slots : Along kept (head_at n) (T ++ (P ++ R)) = along_append kept (head_at n) T (P ++ R) ts.along (subst (λ a. Along kept a (P ++ R)) ts.ends pages) in
    let heads : Along kept 6 (H ++ (T ++ (P ++ R))) =
    along_append kept 6 H (T ++ (P ++ R)) (along_same (one bs) kept 6 H (λ k a b. low_places k (omega (arith, b, hl, x.long))) hs)
    (let d : head_at n ≡ 6 + length H = omega (arith, hl, x.long) in subst (λ a. Along kept a (T ++ (P ++ R))) d slots) in
    let all : Along kept 4 (two_bytes (length os) ++ (H ++ (T ++ (P ++ R)))) =
    along_append kept 4 (two_bytes (length os)) (H ++ (T ++ (P ++ R))) (along_same (one bs) kept 4 (two_bytes (length os)) (λ k a b. low_places k (omega (arith, b))) number) heads in
    let long : length (encode os) ≡ length bs = omega (arith, el, x.long, ts.ends, ps.ends, rs.ends, r.ends) in
    subst (λ (xs : List (Object Cpu)). Along kept 0 (encode xs) × (length (encode xs) ≡ length bs)) (sym e)
    ((sym m.0 ∙ low_places 0 (omega arith), (sym m.1 ∙ low_places 1 (omega arith), (sym m.2 ∙ low_places 2 (omega arith), (sym m.3 ∙ low_places 3 (omega arith), all)))), long)

-- what its objects are let in as, and the frames that they take
its_kinds : (ks : Kinds) (lent : ℕ) (bs : List ℕ) (c : Census) → Bytes bs → verdict ks lent bs ≡ Ok c → Alls (λ _ x. LetIn ks x) 0 (objects_of bs) × (frames (objects_of bs) ≤ min lent 4096)
its_kinds ks lent bs c low v =
    let rt = read_through ks lent bs c v in
    let n : ℕ = rt.0 in
    let r = rt.4 in
    let q : Places = record { slots_at = head_at n; bytes_at = rt.1; thread_at = rt.2; born = 0 } in
    let os : List (Object Cpu) = objects_from bs n n 0 q in
    let e : objects_of bs ≡ os = rw (r.number_is, r.tables_are, r.pages_are) in
    let x = objects_read bs low n ks n 0 q (record { objects = n; threads = 0; lines = 0 }) c rt.1 rt.2 rt.3 r.headers_are r.tables_are r.pages_are r.threads_are in
    let f : frames_for bs n ≡ frames os = subst (λ k. frames_for bs k ≡ frames os) x.long (ap (λ k. (k + 63) / 64) (fills bs n os 0 0 x.placed)) in
    subst (λ (xs : List (Object Cpu)). Alls (λ _ x. LetIn ks x) 0 xs × (frames xs ≤ min lent 4096)) (sym e) (x.let_in, omega (arith, f, r.fits))

written_byte : (ks : Kinds) (lent : ℕ) (bs : List ℕ) (c : Census) → Bytes bs → verdict ks lent bs ≡ Ok c → (a : ℕ) → get_or (encode (objects_of bs)) a 0 ≡ kept_byte bs a
written_byte ks lent bs c low v a =
    let w = written ks lent bs c low v in
    elim (cases_lt a (length (encode (objects_of bs)))) [
      | inl l ↦ let e : 0 + a ≡ a = omega arith in subst (λ p. get_or (encode (objects_of bs)) a 0 ≡ kept_byte bs p) e (along_at (kept_byte bs) 0 (encode (objects_of bs)) w.0 a l)
      | inr l ↦ get_or_past (encode (objects_of bs)) a 0 l ∙ sym (kept_past bs a (omega (arith, l, w.1)))
    ]

-- 4,096 bytes to a page, 64 pages to a space
abbrev sizes : Sizes
sizes = record { bytes = 4096; pages = 64; heard = 1024 }

same_census : (c d : Census) → c.objects ≡ d.objects → c.threads ≡ d.threads → c.lines ≡ d.lines → c ≡ d
same_census c d o t l = λ i. record { objects = o i; threads = t i; lines = l i }

pub writes_back : WritesBack
writes_back ks lent bs c low v =
    let w : World Cpu = world_of bs in
    let m = means_allowed ks lent sizes bs c refl refl low v in
    let r = its_kinds ks lent bs c low v in
    let h = holds_in ks lent sizes w refl refl m.0 r.0 r.1 in
    let d : Census = h.1.0 in
    let k = means_allowed ks lent sizes (encode (objects_of bs)) d refl refl h.0 h.1.1 in
    let os : List (Object Cpu) = objects_of bs in
    let e : objects_of (encode os) ≡ os = ap (λ (u : World Cpu). u.objects) h.2 in
    let s : d ≡ c = same_census d c (sym k.1 ∙ (ap length e ∙ m.1)) (sym k.2 ∙ (ap (λ xs. threads Cpu fresh act xs) e ∙ m.2)) (sym k.3 ∙ (ap (λ xs. lines Cpu fresh act xs) e ∙ m.3)) in
    (h.0, h.1.1 ∙ ap Ok s, h.2, (written ks lent bs c low v).1, written_byte ks lent bs c low v)

pub one_world : OneWorld
one_world ks js lent others bs cs c d low small v u =
    let x = writes_back ks lent bs c low v in
    let y = writes_back js others cs d small u in (
      λ e.
          (let k : encode (objects_of bs) ≡ encode (objects_of cs) = ap (λ (w : World Cpu). encode w.objects) e in
          (sym x.3 ∙ (ap length k ∙ y.3), λ a. sym (x.4 a) ∙ (ap (λ xs. get_or xs a 0) k ∙ y.4 a))),
      λ g.
          (let k : encode (objects_of bs) ≡ encode (objects_of cs) =
          ext_get_or 0 (encode (objects_of bs)) (encode (objects_of cs)) (x.3 ∙ (g.0 ∙ sym y.3)) (λ a l. x.4 a ∙ (g.1 a ∙ sym (y.4 a))) in
          sym x.2 ∙ (ap (λ xs. world_of xs) k ∙ y.2)),
    )
