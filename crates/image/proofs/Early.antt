-- The readers of an image look at no byte beyond the field at hand.
use Rattle.std.proofs.Common.{◌≡◌, ℕ, suc, ◌+◌, ◌-◌, ◌%◌, ◌<◌, ◌≤◌, Bool, true, false, eqb, leb, List, length, refl, ap, ◌∙◌, subst, arith}
use Rattle.std.proofs.lemmas.Bool.{lt-ltb, le-ltb, eq-eqb, ne_eqb}
use Rattle.rights.specs.declared.kinds.Kind.{Kind}
use Rattle.rights.specs.declared.kinds.Kind.TheVariants.{Table, Page, Thread}
use Rattle.rights.specs.declared.refusals.Refusal.TheVariants.{Value, Name}
use Rattle.rights.specs.Vocabulary.{kind_number, kind_from}
use Rattle.std.proofs.lemmas.Bool.Decides.{nat_tests}
use Rattle.image.specs.declared.census.Census.{Census}
use Rattle.image.specs.declared.census.Kinds.{Kinds}
use Rattle.image.specs.Fields.{one, two, Read, ◌then◌, past, judged}
use Rattle.image.specs.Format.{head_at, is_a, size_at, names, slot, mapping, entries, state, content, part, section, body, header, headers, kind_at, if_let_in, counted, right_size}
use Rattle.image.specs.Prefix.{SameBelow, field_end}
use Rattle.image.proofs.Told.{Told, longer, told_same, told_then, told_past, told_test, told_given, told_ok, told_each}

-- the end of a thread: ready, pc
abbrev pub ready_pc : List ℕ → ℕ → Read ℕ
ready_pc bs ready = past bs ready 1 then λ pc. judged (leb (one bs ready) 1) (Value ready) (past bs pc 4)

module _ (bs cs : List ℕ) (n : ℕ) where
  -- the field of a value among the contents has one byte
  single : (p : ℕ) → head_at n ≤ p → field_end n (Value p) ≡ p + 1
  single p l = rw (le-ltb p (head_at n) l)

  -- bytes and fields that are the same
  pub same_one : (q a : ℕ) → a < q → q ≤ length bs → SameBelow q bs cs → one cs a ≡ one bs a
  same_one q a l h g = (g a l (omega arith)).1

  pub same_two : (q a : ℕ) → a + 1 < q → q ≤ length bs → SameBelow q bs cs → two cs a ≡ two bs a
  same_two q a l h g =
      let x : one cs a ≡ one bs a = same_one q a (omega arith) h g in
      let y : one cs (a + 1) ≡ one bs (a + 1) = same_one q (a + 1) l h g in
      omega (arith, x, y)

  same_kind : (q o : ℕ) (k : Kind) → head_at o < q → q ≤ length bs → SameBelow q bs cs → is_a cs o k ≡ is_a bs o k
  same_kind q o k l h g = ap (λ v. eqb v (kind_number k)) (same_one q (head_at o) l h g)

  same_name : (q v : ℕ) (k : Kind) → head_at n ≤ q → q ≤ length bs → SameBelow q bs cs → names cs n v k ≡ names bs n v k
  same_name q v k l h g = grind (arith, nat_tests, same_kind q (v - 1) k)

  -- what one reader of places says of bs, and another of cs
  abbrev pub Placed : ℕ → Read ℕ → Read ℕ → Type 0
  Placed a r s = Told bs cs (field_end n) (λ p. p) a r s

  passes : (p w : ℕ) (r s : ℕ → Read ℕ) → (p + w ≤ length bs → Placed (p + w) (r (p + w)) (s (p + w))) → Placed p (past bs p w then r) (past cs p w then s)
  passes p w r s more = told_past bs cs (field_end n) (λ p. p) p w r s more

  last_past : (p w : ℕ) → Placed p (past bs p w) (past cs p w)
  last_past p w = grind (arith, nat_tests, longer bs cs (field_end n) (p + w))

  name_judged : (p : ℕ) (t u : Bool) (r s : Read ℕ) → (SameBelow (p + 2) bs cs → u ≡ t) → Placed (p + 2) r s → Placed (p + 2) (judged t (Name p) r) (judged u (Name p) s)
  name_judged p t u r s q h = told_test bs cs (field_end n) (λ p. p) (p + 2) t u (Name p) r s (λ a s x. x) refl q h

  value_judged : (p : ℕ) (t u : Bool) (r s : Read ℕ) → head_at n ≤ p → (SameBelow (p + 1) bs cs → u ≡ t) → Placed (p + 1) r s →
      Placed (p + 1) (judged t (Value p) r) (judged u (Value p) s)
  value_judged p t u r s l q h = told_test bs cs (field_end n) (λ p. p) (p + 1) t u (Value p) r s (λ a s x. x) (single p l) q h

  -- slots, and pages of a space
  slot_told : (a : ℕ) → head_at n ≤ a → Placed a (slot bs n a) (slot cs n a)
  slot_told a l =
      passes a 2 _ _ (λ h. name_judged a _ _ _ _ (λ g. ap (λ v. leb v n) (same_two (a + 2) a (omega arith) h g))
      (passes (a + 2) 1 _ _ (λ k. value_judged (a + 2) _ _ _ _ (omega arith) (λ g. ap (λ v. leb v 7) (same_one (a + 2 + 1) (a + 2) (omega arith) k g))
      (last_past (a + 2 + 1) 4))))

  mapping_told : (a : ℕ) → head_at n ≤ a → Placed a (mapping bs n a) (mapping cs n a)
  mapping_told a l =
      passes a 2 _ _ (λ h. name_judged a _ _ _ _
      (λ g. same_name (a + 2) (two cs a) Page (omega arith) h g ∙ ap (λ v. names bs n v Page) (same_two (a + 2) a (omega arith) h g))
      (passes (a + 2) 1 _ _ (λ k. value_judged (a + 2) _ _ _ _ (omega arith) (λ g. ap (λ v. leb v 1) (same_one (a + 2 + 1) (a + 2) (omega arith) k g))
      (told_ok bs cs (field_end n) (λ p. p) (a + 2 + 1) (a + 2 + 1) (omega arith) k))))

  entries_told : (entry other : ℕ → Read ℕ) → ((a : ℕ) → head_at n ≤ a → Placed a (entry a) (other a)) → (count a : ℕ) → head_at n ≤ a → a ≤ length bs → Placed a (entries entry count a) (entries other count a)
  entries_told entry other told count a l h =
      told_each bs cs (field_end n) (λ i p. p) (head_at n) count (λ _ b. entry b) (λ _ b. other b) (λ i b _ m _. told b m)
      count 0 a (omega arith) l h

  ready_told : (b : ℕ) → head_at n ≤ b → Placed b (ready_pc bs b) (ready_pc cs b)
  ready_told b m = passes b 1 _ _ (λ k. value_judged b _ _ _ _ m (λ g. ap (λ v. leb v 1) (same_one (b + 1) b (omega arith) k g)) (last_past (b + 1) 4))

  state_told : (a : ℕ) → head_at n ≤ a → Placed a (state bs n a) (state cs n a)
  state_told a l =
      passes a 2 _ _ (λ h. name_judged a _ _ _ _
      (λ g. same_name (a + 2) (two cs a) Table (omega arith) h g ∙ ap (λ v. names bs n v Table) (same_two (a + 2) a (omega arith) h g))
      (told_then bs cs (field_end n) (λ p. p) (λ p. p) (a + 2) (entries (mapping bs n) 64 (a + 2)) (entries (mapping cs n) 64 (a + 2)) (ready_pc bs) (ready_pc cs)
      (entries_told (mapping bs n) (mapping cs n) mapping_told 64 (a + 2) (omega arith) h) (λ b low _ _. ready_told b (omega arith))))

  -- what object o has
  content_told : (k : Kind) (o a : ℕ) → o < n → head_at n ≤ a → a ≤ length bs → Placed a (content bs n k o a) (content cs n k o a)
  content_told k o a m l h = grind (arith, told_ok bs cs (field_end n) (λ p. p) a a, last_past a 4096, state_told a, told_same bs cs (field_end n) (λ p. p) a, entries_told (slot bs n) (slot cs n) slot_told (size_at bs o) a, same_two a (head_at o + 1))

  part_told : (k : Kind) (o a : ℕ) → o < n → head_at n ≤ a → a ≤ length bs → Placed a (part bs n k o a) (part cs n k o a)
  part_told k o a m l h = grind (arith, nat_tests, content_told k o a m l h, same_kind a o k)

  section_told : (k : Kind) (a : ℕ) → head_at n ≤ a → a ≤ length bs → Placed a (section bs n k a) (section cs n k a)
  section_told k a l h =
      told_each bs cs (field_end n) (λ i p. p) (head_at n) n (part bs n k) (part cs n k) (λ o b m low high. part_told k o b m low high) n 0 a (omega arith) l h

  pub body_told : head_at n ≤ length bs → Placed (head_at n) (body bs n) (body cs n)
  body_told h =
      told_then bs cs (field_end n) (λ p. p) (λ p. p) (head_at n) (section bs n Table (head_at n)) (section cs n Table (head_at n))
      (λ a. section bs n Page a then λ b. section bs n Thread b) (λ a. section cs n Page a then λ b. section cs n Thread b)
      (section_told Table (head_at n) (omega arith) h)
      (λ a low high _. told_then bs cs (field_end n) (λ p. p) (λ p. p) a (section bs n Page a) (section cs n Page a) (section bs n Thread) (section cs n Thread)
      (section_told Page a low high) (λ b lower higher _. section_told Thread b (omega arith) higher))

  -- headers: a kind's field has one byte, a size's two
  kind_field : (o : ℕ) → o < n → field_end n (Value (head_at o)) ≡ head_at o + 1
  kind_field o l = let z : eqb (head_at o % 3) 1 ≡ false = ne_eqb (head_at o % 3) 1 (omega arith) in rw (lt-ltb (head_at o) (head_at n) (omega arith), z)

  size_field : (o : ℕ) → o < n → field_end n (Value (head_at o + 1)) ≡ head_at o + 1 + 2
  size_field o l =
      let z : eqb ((head_at o + 1) % 3) 1 ≡ true = eq-eqb ((head_at o + 1) % 3) 1 (omega arith) in rw (lt-ltb (head_at o + 1) (head_at n) (omega arith), z)

  header_told : (ks : Kinds) (o : ℕ) (c : Census) → o < n → Told bs cs (field_end n) (λ _. head_at (suc o)) (head_at o) (header ks bs o c) (header ks cs o c)
  header_told ks o c l =
      told_past bs cs (field_end n) (λ _. head_at (suc o)) (head_at o) 1 _ _
      (λ h. told_given bs cs (field_end n) (λ _. head_at (suc o)) (head_at o + 1) (kind_at ks bs (head_at o)) (kind_at ks cs (head_at o)) (Value (head_at o)) _ _ (λ a s x. x)
      (kind_field o l) (λ g. ap (λ v. if_let_in ks (kind_from v)) (same_one (head_at o + 1) (head_at o) (omega arith) h g))
      (λ k _. told_given bs cs (field_end n) (λ _. head_at (suc o)) (head_at o + 1) (counted c k) (counted c k) (Value (head_at o)) _ _ (λ a s x. x)
      (kind_field o l) (λ _. refl)
      (λ d _. told_past bs cs (field_end n) (λ _. head_at (suc o)) (head_at o + 1) 2 _ _
      (λ m. told_test bs cs (field_end n) (λ _. head_at (suc o)) (head_at o + 1 + 2) _ _ (Value (head_at o + 1)) _ _ (λ a s x. x) (size_field o l)
      (λ g. ap (right_size k) (same_two (head_at o + 1 + 2) (head_at o + 1) (omega arith) m g))
      (told_ok bs cs (field_end n) (λ _. head_at (suc o)) (head_at o + 1 + 2) d (omega arith) (omega arith))))))

  pub headers_told : (ks : Kinds) → 6 ≤ length bs → Told bs cs (field_end n) (λ _. head_at n) 6 (headers ks bs n) (headers ks cs n)
  headers_told ks h =
      let e : 0 + n ≡ n = omega arith in
      subst (λ m. Told bs cs (field_end n) (λ _. head_at m) 6 (headers ks bs n) (headers ks cs n)) e
      (told_each bs cs (field_end n) (λ i _. head_at i) 0 n (header ks bs) (header ks cs) (λ o c l _ _. header_told ks o c l) n 0
      (record { objects = n; threads = 0; lines = 0 }) (omega arith) (omega arith) h)
