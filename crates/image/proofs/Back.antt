-- From a reader's answer back to what was read.
use Rattle.std.proofs.Common.{◌≡◌, ℕ, zero, suc, ◌+◌, ◌-◌, ◌<◌, ◌≤◌, Bool, true, List, length, get_or, Some, Ok, Option, refl, ap, ◌∙◌, subst, inl, inr, arith}
use Rattle.std.proofs.lemmas.Bool.{eq-eqb, ne_eqb, cases_eq}
use Rattle.std.proofs.lemmas.Bool.Decides.{nat_tests}
use Rattle.rights.specs.declared.kinds.Kind.{Kind}
use Rattle.rights.specs.declared.kinds.Kind.TheVariants.{Table, Thread, Line}
use Rattle.rights.specs.declared.refusals.Refusal.{Refusal}
use Rattle.rights.specs.Vocabulary.{kind_number, kind_from}
use Rattle.rights.specs.World.{Slot}
use Rattle.image.specs.declared.census.Census.{Census}
use Rattle.image.specs.declared.census.Kinds.{Kinds}
use Rattle.image.specs.Fields.{one, two, past, given, each}
use Rattle.image.specs.Format.{head_at, size_at, lets_in, if_let_in, kind_at, counted, right_size, header, slot, mapping, entries, state, names}
use Rattle.std.specs.List.{zip}
use Rattle.image.specs.Meaning.{four, slots_from, pages_from, marks_from, bytes_from}
use Rattle.image.proofs.Sized.{then_back, judged_back, past_back, slot_back, mapping_back}
use Rattle.image.proofs.Stands.{Alls}
use Rattle.image.proofs.Slots.{GoodSlot, Orderly}
use Rattle.image.proofs.Spaces.{GoodMap}

-- headers
given_back : {A : Type 0} (o : Option A) (x : Refusal) (b : A) → given o x ≡ Ok b → o ≡ Some b
given_back o x b e = grind arith

kind_back : (k : ℕ) (K : Kind) → kind_from k ≡ Some K → k ≡ kind_number K
kind_back k K e = grind (arith, nat_tests)

let_in_back : (ks : Kinds) (m : Option Kind) (K : Kind) → if_let_in ks m ≡ Some K → (m ≡ Some K) × (lets_in ks K ≡ true)
let_in_back ks m K e = grind (arith, nat_tests)

-- what was read of a header
pub record HeadRead (ks : Kinds) (bs : List ℕ) (o : ℕ) (c d : Census) : Type 0 where
  pub kind : Kind
  pub kind_read : kind_from (one bs (head_at o)) ≡ Some kind
  pub number_is : one bs (head_at o) ≡ kind_number kind
  pub let_in : lets_in ks kind ≡ true
  pub count_is : counted c kind ≡ Some d
  pub size_fine : right_size kind (size_at bs o) ≡ true
  pub room : head_at o + 3 ≤ length bs

pub head_back : (ks : Kinds) (bs : List ℕ) (o : ℕ) (c d : Census) → header ks bs o c ≡ Ok d → HeadRead ks bs o c d
head_back ks bs o c d e =
    let t = then_back (past bs (head_at o) 1) _ d e in
    let p = past_back bs (head_at o) 1 t.0 t.1 in
    let u = then_back (given (kind_at ks bs (head_at o)) _) _ d t.2 in
    let v = then_back (given (counted c u.0) _) _ d u.2 in
    let w = then_back (past bs t.0 2) _ d v.2 in
    let q = past_back bs t.0 2 w.0 w.1 in
    let j = judged_back (right_size u.0 (two bs t.0)) _ _ d w.2 in
    let k = let_in_back ks (kind_from (one bs (head_at o))) u.0 (given_back _ _ u.0 u.1) in
    let m : v.0 ≡ d = cc in
    record {
      kind = u.0;
      kind_read = k.0;
      number_is = kind_back (one bs (head_at o)) u.0 k.0;
      let_in = k.1;
      count_is = given_back _ _ v.0 v.1 ∙ ap Some m;
      size_fine = subst (λ a. right_size u.0 (two bs a) ≡ true) p.1 j.0;
      room = omega (arith, p.1, q.0);
    }

pub thread_count : (c d : Census) → counted c Thread ≡ Some d → (d.threads ≡ c.threads + 1) × (d.threads ≤ 64) × (d.lines ≡ c.lines) × (d.objects ≡ c.objects)
thread_count c d e = grind (arith, nat_tests)

pub line_count : (c d : Census) → counted c Line ≡ Some d → (d.lines ≡ c.lines + 1) × (d.lines ≤ 32) × (d.threads ≡ c.threads) × (d.objects ≡ c.objects)
line_count c d e = grind (arith, nat_tests)

-- slots, spaces, threads
module _ (bs : List ℕ) (low : (k : ℕ) → get_or bs k 0 < 256) where
  pub two_low : (a : ℕ) → two bs a < 65536
  two_low a = omega (arith, low a, low (a + 1))

  pub four_low : (a : ℕ) → four bs a < 4294967296
  four_low a = omega (arith, low a, low (a + 1), low (a + 2), low (a + 3))

  pub record SlotsRead (n k i b : ℕ) (ss : List Slot) : Type 0 where
    pub long : length ss ≡ k
    pub good : Alls (GoodSlot n) i ss
    pub order : Orderly b ss

  pub slots_read : (n k i a b c : ℕ) → each (λ _ a. slot bs n a) k i a ≡ Ok c → SlotsRead n k i b (slots_from bs k a b)
  unfolding each slots_from
  slots_read n zero i a b c e = record { long = refl; good = tt; order = tt }
  slots_read n (suc k) i a b c e =
      let t = then_back (slot bs n a) (each (λ _ a. slot bs n a) k (suc i)) c e in
      let s = slot_back bs n a t.0 t.1 in
      let r : each (λ _ a. slot bs n a) k (suc i) (a + 7) ≡ Ok c = subst (λ p. each (λ _ a. slot bs n a) k (suc i) p ≡ Ok c) s.1 t.2 in
      elim (cases_eq (two bs a) 0) [
        | inl z ↦
            (let g = slots_read n k (suc i) (a + 7) b c r in
            rw (eq-eqb (two bs a) 0 z) (record { long = ap suc g.long; good = (tt, g.good); order = g.order }))
        | inr z ↦
            (let g = slots_read n k (suc i) (a + 7) (suc b) c r in
            let p : two bs a - 1 < n = omega (arith, s.0, z) in
            rw (ne_eqb (two bs a) 0 z) (record { long = ap suc g.long; good = ((p, four_low (a + 3), refl), g.good); order = (refl, g.order) }))
      ]

  pub record MapsRead (n k i : ℕ) (ps : List ℕ) (rs : List Bool) : Type 0 where
    pub long : length ps ≡ k
    pub wide : length rs ≡ k
    pub good : Alls (GoodMap bs n) i (zip ps rs)

  pub maps_read : (n k i a c : ℕ) → each (λ _ a. mapping bs n a) k i a ≡ Ok c → MapsRead n k i (pages_from bs k a) (marks_from bs k a)
  unfolding each pages_from marks_from
  maps_read n zero i a c e = record { long = refl; wide = refl; good = tt }
  maps_read n (suc k) i a c e =
      let t = then_back (mapping bs n a) (each (λ _ a. mapping bs n a) k (suc i)) c e in
      let s = mapping_back bs n a t.0 t.1 in
      let r : each (λ _ a. mapping bs n a) k (suc i) (a + 3) ≡ Ok c = subst (λ p. each (λ _ a. mapping bs n a) k (suc i) p ≡ Ok c) s.1 t.2 in
      let g = maps_read n k (suc i) (a + 3) c r in
      record { long = ap suc g.long; wide = ap suc g.wide; good = ((two_low a, s.0), g.good) }

  pub bytes_long : (k a : ℕ) → length (bytes_from bs k a) ≡ k
  unfolding bytes_from
  bytes_long zero a = refl
  bytes_long (suc k) a = ap suc (bytes_long k (a + 1))

  pub bytes_low : (k a j : ℕ) → get_or (bytes_from bs k a) j 0 < 256
  unfolding bytes_from
  bytes_low zero a j = omega arith
  bytes_low (suc k) a zero = low a
  bytes_low (suc k) a (suc j) = bytes_low k (a + 1) j

  pub state_read : (n a b : ℕ) → state bs n a ≡ Ok b → (names bs n (two bs a) Table ≡ true) × MapsRead n 64 0 (pages_from bs 64 (a + 2)) (marks_from bs 64 (a + 2))
  state_read n a b e =
      let t = then_back (past bs a 2) _ b e in
      let p = past_back bs a 2 t.0 t.1 in
      let j = judged_back _ _ _ b t.2 in
      let u = then_back (entries (mapping bs n) 64 t.0) _ b j.1 in
      (j.0, subst (λ s. MapsRead n 64 0 (pages_from bs 64 s) (marks_from bs 64 s)) p.1 (maps_read n 64 0 t.0 u.0 u.1))
