-- Objects that an image can carry, and where they stand in it.
use Rattle.std.proofs.Common.{◌≡◌, ℕ, suc, ◌+◌, ◌*◌, ◌/◌, ◌<◌, ◌≤◌, true, List, [], ◌∷◌, length, get_or, Some, Ok, sym, refl, ap, ◌∙◌, subst, add-zero, arith}
use Rattle.rights.specs.declared.kinds.Kind.{Kind}
use Rattle.rights.specs.declared.kinds.Kind.TheVariants.{Pool, Table, Port, Page, Thread, Line}
use Rattle.rights.specs.Vocabulary.{kind_number, kind_from}
use Rattle.rights.specs.World.{Object, State, gone, pool, table, port, page, thread, line, slots_of}
use Rattle.rv32.specs.declared.registers.Cpu.{Cpu}
use Rattle.rv32.specs.Registers.{fresh}
use Rattle.rv32.specs.Execute.{act}
use Rattle.std.proofs.lemmas.Bool.Decides.{nat_tests}
use Rattle.image.specs.declared.census.Kinds.{Kinds}
use Rattle.image.specs.Fields.{one, two}
use Rattle.image.specs.Format.{lets_in, head_at, size_at, names, content, part}
use Rattle.image.specs.Layout.{begins, takes, filled}
use Rattle.std.specs.List.{zip}
use Rattle.image.specs.Meaning.{two_bytes, Places, state_of, object_at, ready_mark, kind_of, size_of, header_bytes, content_bytes, part_bytes, begins_at, takes_up, filled_by}
use Rattle.image.proofs.Stands.{At, Alls, at_len, at_two, past_fine}
use Rattle.image.proofs.Slots.{GoodSlot, Orderly, slots_fine, slots_back}
use Rattle.image.proofs.Spaces.{GoodMap, thread_read, thread_length, space_fine, pairs_length, maps_back, bytes_back, state_ok}

-- kinds and their numbers
pub kind_known : (k : Kind) → kind_from (kind_number k) ≡ Some k
kind_known k = grind arith

kind_same : (j k : Kind) → kind_number j ≡ kind_number k → j ≡ k
kind_same j k e = let q : Some j ≡ Some k = sym (kind_known j) ∙ (ap kind_from e ∙ kind_known k) in cc

-- an object whose kind is let in
abbrev pub LetIn : Kinds → Object Cpu → Type 0
LetIn ks x = (k : Kind) → kind_of x ≡ kind_number k → lets_in ks k ≡ true

pub let_as : (ks : Kinds) (x : Object Cpu) (j : Kind) → kind_of x ≡ kind_number j → lets_in ks j ≡ true → LetIn ks x
let_as ks x j e l k f = subst (λ i. lets_in ks i ≡ true) (kind_same j k (sym e ∙ f)) l

-- a header
pub record HeadAt (bs : List ℕ) (o k s : ℕ) : Type 0 where
  pub kind_is : one bs (head_at o) ≡ k
  pub size_is : size_at bs o ≡ s
  pub room : head_at o + 3 ≤ length bs

head_read : (bs : List ℕ) (o k s : ℕ) → s < 65536 → At bs (head_at o) (k ∷ two_bytes s) → HeadAt bs o k s
head_read bs o k s l h =
    let e = at_len bs (head_at o) (k ∷ two_bytes s) h in
    record { kind_is = h.0; size_is = at_two bs (head_at o + 1) s l h.1; room = omega (arith, e) }

mark_low : (s : State Cpu) → ready_mark s ≤ 1
mark_low s = grind arith

module _ (bs : List ℕ) (n : ℕ) where
  -- what an image of n objects can carry of an object
  abbrev pub Good : Object Cpu → Type 0
  Good gone = ⊥
  Good (pool f k u) = (f ≡ 0) × (u ≡ 0) × ((k / 4096) * 4096 ≡ k) × (1 ≤ k / 4096) × (k / 4096 ≤ 4096)
  Good (table f ss) = (f ≡ 0) × (1 ≤ length ss) × (length ss ≤ 4096) × Alls (GoodSlot n) 0 ss
  Good (port f ws) = (f ≡ 0) × (ws ≡ [])
  Good (page f xs) = (f ≡ 0) × (length xs ≡ 4096) × ((k : ℕ) → get_or xs k 0 < 256)
  Good (thread f s c t ps rs) =
      (f ≡ 0) × (state_of (ready_mark s) ≡ s) × (fresh c.pc ≡ c) × (c.pc < 4294967296) × (t < 65536) × (names bs n t Table ≡ true)
      × (length ps ≡ 64) × (length rs ≡ 64) × Alls (GoodMap bs n) 0 (zip ps rs)
  Good (line xs ys) = (xs ≡ []) × (ys ≡ [])

  -- and its header stands where it should
  abbrev pub Placed : ℕ → Object Cpu → Type 0
  Placed i x = At bs (head_at i) (header_bytes x) × Good x

  pub size_low : (x : Object Cpu) → Good x → size_of x ≤ 4096
  size_low x g = grind arith

  pub its_header : (i : ℕ) (x : Object Cpu) → Placed i x → HeadAt bs i (kind_of x) (size_of x)
  its_header i x p = head_read bs i (kind_of x) (size_of x) (omega (arith, size_low x p.1)) p.0

  -- the frames that the image asks for are those that the objects take
  one_fills : (o u : ℕ) (x : Object Cpu) → Placed o x → begins bs o u + takes bs o ≡ begins_at x u + takes_up x
  one_fills o u x p = grind (arith, nat_tests, its_header o x p)

  pub fills : (xs : List (Object Cpu)) (o u : ℕ) → Alls Placed o xs → filled bs (length xs) o u ≡ filled_by xs u
  unfolding filled filled_by
  fills [] o u p = refl
  fills (x ∷ xs) o u p = rw (← one_fills o u x p.0) (fills xs (suc o) (begins bs o u + takes bs o) p.1)

  -- in the section of a kind an object has its content, or nothing
  part_of : (k K : Kind) (i a : ℕ) (x : Object Cpu) → one bs (head_at i) ≡ kind_number K → kind_of x ≡ kind_number K →
      (At bs a (content_bytes x) → content bs n K i a ≡ Ok (a + length (content_bytes x))) → At bs a (part_bytes k x) → part bs n k i a ≡ Ok (a + length (part_bytes k x))
  part_of k K i a x h e c st = grind (arith, nat_tests, c)

module _ (bs : List ℕ) (n : ℕ) (few : n ≤ 1000) where
  -- readers get over what objects have
  pub part_step : (k : Kind) (i a : ℕ) (x : Object Cpu) → Placed bs n i x → At bs a (part_bytes k x) → part bs n k i a ≡ Ok (a + length (part_bytes k x))
  part_step k i a gone p h = absurd p.1
  part_step k i a (pool f m u) p h = part_of bs n k Pool i a (pool f m u) p.0.0 refl (λ _. rw add-zero) h
  part_step k i a (table f ss) p h =
      part_of bs n k Table i a (table f ss) p.0.0 refl (λ s. rw (its_header bs n i (table f ss) p).size_is (slots_fine bs n few ss a p.1.3 s)) h
  part_step k i a (port f ws) p h = part_of bs n k Port i a (port f ws) p.0.0 refl (λ _. rw add-zero) h
  part_step k i a (page f xs) p h =
      part_of bs n k Page i a (page f xs) p.0.0 refl
      (λ s. let l : a + 4096 ≤ length bs = omega (arith, at_len bs a xs s, p.1.1) in past_fine bs a 4096 l ∙ ap (λ m. Ok (a + m)) (sym p.1.1)) h
  part_step k i a (thread f s c t ps rs) p h =
      part_of bs n k Thread i a (thread f s c t ps rs) p.0.0 refl (λ y. thread_step y) h
    where
      thread_step : At bs a (content_bytes (thread f s c t ps rs)) → content bs n Thread i a ≡ Ok (a + length (content_bytes (thread f s c t ps rs)))
      thread_step y =
          let e = pairs_length ps rs 64 p.1.6 p.1.7 in
          let q = thread_read bs a t (ready_mark s) c.pc ps rs p.1.4 p.1.3 e y in
          let w : names bs n (two bs a) Table ≡ true = rw q.table_is p.1.5 in
          let r : (a + 2) + 192 ≡ a + 194 = omega arith in
          let v = space_fine bs n (a + 2) (zip ps rs) e p.1.8 q.space_at in
          state_ok bs n a q.room w (v ∙ ap Ok r) (omega (arith, q.mark_is, mark_low s)) ∙ ap (λ m. Ok (a + m)) (sym (thread_length t (ready_mark s) c.pc (zip ps rs) e))
  part_step k i a (line xs ys) p h = part_of bs n k Line i a (line xs ys) p.0.0 refl (λ _. rw add-zero) h

  -- each object is read as what it was
  pub build_step : (o : ℕ) (x : Object Cpu) (q : Places) → Placed bs n o x → Orderly q.born (slots_of Cpu fresh act x) → At bs q.slots_at (part_bytes Table x)
      → At bs q.bytes_at (part_bytes Page x) → At bs q.thread_at (part_bytes Thread x) → object_at bs o q ≡ x
  unfolding slots_of
  build_step o gone q p r a b c = absurd p.1
  build_step o (pool f k u) q p r a b c =
      let g = p.1 in let h = its_header bs n o (pool f k u) p in rw (h.kind_is, h.size_is, g.2, g.0, g.1)
  build_step o (table f ss) q p r a b c =
      let g = p.1 in let h = its_header bs n o (table f ss) p in
      rw (h.kind_is, h.size_is, slots_back bs n few ss 0 q.slots_at q.born g.3 r a, g.0)
  build_step o (port f ws) q p r a b c = rw (p.0.0, p.1.0, p.1.1)
  build_step o (page f ys) q p r a b c = rw (p.0.0, bytes_back bs ys 4096 q.bytes_at p.1.1 b, p.1.0)
  build_step o (thread f s d t ps rs) q p r a b c =
      let g = p.1 in
      let e = pairs_length ps rs 64 g.6 g.7 in
      let h = thread_read bs q.thread_at t (ready_mark s) d.pc ps rs g.4 g.3 e c in
      let m = maps_back bs n ps rs 64 0 (q.thread_at + 2) g.6 g.7 g.8 h.space_at in
      rw (p.0.0, h.mark_is, g.1, h.pc_is, g.2, h.table_is, m.0, m.1, g.0)
  build_step o (line ys zs) q p r a b c = rw (p.0.0, p.1.0, p.1.1)
