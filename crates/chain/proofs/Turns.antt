-- One turn of a walk over the board, by what the turn answered and left.
use Rattle.std.proofs.Common.{◌≡◌, ℕ, zero, suc, ◌+◌, ◌-◌, ◌*◌, ◌≤◌, ◌<◌, Bool, true, false, List, length, eqb, leb, Some, None, refl, sym, ap, subst, inl, inr, arith, eq-eqb, ne_eqb, le-leb, leb-true}
use Rattle.std.proofs.lemmas.Bool.{cases_Bool, cases_eq, or_cases, or_left, or_right}
use Rattle.rights.specs.World.{pick}
use Rattle.board.specs.Slots.{put_slot}
use Rattle.board.specs.Links.{Cell, cell, put_depth}
use Rattle.board.specs.Words.{there}
use Rattle.board.specs.Counted.{more}
use Rattle.board.proofs.Units.{put_word_past}
use Rattle.board.proofs.Held.{cells-put_depth, cells-put_slot}
use Rattle.chain.specs.Ring as ring
use Rattle.chain.specs.Bytes.{ends, onward, units, run_length, raise_one, raise, run_raised, empty_one, empty, run_emptied}

-- a turn after which the walk goes on, and one at which it ends
pub went_on : {A : Type 0} (b : Bool) (m w t : A) (n x : ℕ) → Some x ≡ pick b None (Some n) → w ≡ pick b m t → (b ≡ false) × (x ≡ n) × (w ≡ t)
went_on true m w t n x e f = cc
went_on false m w t n x e f = (refl, cc, f)

at_end : (b : Bool) (n : ℕ) → None ≡ pick b None (Some n) → b ≡ true
at_end true n e = refl
at_end false n e = cc

one_less : (n i : ℕ) → i < n → n - i ≡ suc (n - (i + 1))
one_less n i h = omega arith

module _ (n i s d : ℕ) (m w : List ℕ) (c : ℕ) where
  pub raise_goes_on : (x : ℕ) → i < n → Some x ≡ onward m s d c → w ≡ raise_one m s d c → raise (n - i) m s d c ≡ raise (n - (i + 1)) w s d x
  unfolding raise
  raise_goes_on x h e f =
      let t = went_on (ends m s d c) m w (put_depth m c ((cell m c).depth - 1)) (cell m c).next x e f in
      rw (one_less n i h, t.0, t.1, t.2) refl

  pub raise_ended : i < n → None ≡ onward m s d c → w ≡ raise_one m s d c → raise (n - i) m s d c ≡ w
  unfolding raise
  raise_ended h e f = let t = at_end (ends m s d c) (cell m c).next e in let same : w ≡ m = rw t at f in rw (one_less n i h, t) (sym same)

  pub empty_goes_on : (x : ℕ) → i < n → Some x ≡ onward m s d c → w ≡ empty_one m s d c → empty (n - i) m s d c ≡ empty (n - (i + 1)) w s d x
  unfolding empty
  empty_goes_on x h e f =
      let t = went_on (ends m s d c) m w (put_slot m c None) (cell m c).next x e f in
      rw (one_less n i h, t.0, t.1, t.2) refl

  pub empty_ended : i < n → None ≡ onward m s d c → w ≡ empty_one m s d c → empty (n - i) m s d c ≡ (w, c)
  unfolding empty
  empty_ended h e f = let t = at_end (ends m s d c) (cell m c).next e in let same : w ≡ m = rw t at f in rw (one_less n i h, t) (ap (λ k. (k, c)) (sym same))

-- no turns are left
pub raise_all : (n i s d : ℕ) (m : List ℕ) (c : ℕ) → n ≤ i → raise (n - i) m s d c ≡ m
unfolding raise
raise_all n i s d m c h = let e : n - i ≡ 0 = omega arith in rw e refl

pub empty_all : (n i s d : ℕ) (m : List ℕ) (c : ℕ) → n ≤ i → empty (n - i) m s d c ≡ (m, c)
unfolding empty
empty_all n i s d m c h = let e : n - i ≡ 0 = omega arith in rw e refl

-- the whole walk, by what was read before it
module _ (m k l : List ℕ) (s u d c : ℕ) (e : k ≡ m) (f : l ≡ k) (depth : d ≡ (cell m s).depth) (next : c ≡ (cell k s).next) (all : u ≡ units l) where
  pub raise_whole : raise u l s d c ≡ run_raised m s
  raise_whole = rw (all, next, depth, f, e) refl

  pub length_whole : length (ring.passed u (cell l) s d c) ≡ run_length m s
  length_whole = rw (all, next, depth, f, e) refl

  pub empty_whole : empty u l s d c ≡ run_emptied m s
  empty_whole = rw (all, next, depth, f, e) refl

-- how long walks are
pub passed_most : (n : ℕ) (mem : ℕ → Cell) (s d c : ℕ) → length (ring.passed n mem s d c) ≤ n
unfolding ring.passed
passed_most zero mem s d c = omega arith
passed_most (suc n) mem s d c =
    elim (cases_Bool (ring.ends mem s d c)) [
      | inl e ↦ rw e (omega arith)
      | inr e ↦ rw e (let h = passed_most n mem s d (mem c).next in omega arith)
    ]

-- where no slot is deeper than it was, no walk is longer
no_later : (mem new : ℕ → Cell) (s d c : ℕ) → (new c).depth ≤ (mem c).depth → ring.ends mem s d c ≡ true → ring.ends new s d c ≡ true
no_later mem new s d c h e =
    elim (or_cases (eqb c s) (leb (mem c).depth d) e) [
      | inl i ↦ or_left (eqb c s) (leb (new c).depth d) i
      | inr i ↦ or_right (eqb c s) (leb (new c).depth d) (le-leb (new c).depth d (let k = leb-true (mem c).depth d i in omega arith))
    ]

no_longer : (n : ℕ) (mem new : ℕ → Cell) (s d c : ℕ) → ((k : ℕ) → (new k).next ≡ (mem k).next) → ((k : ℕ) → (new k).depth ≤ (mem k).depth) → length (ring.passed n new s d c) ≤ length (ring.passed n mem s d c)
unfolding ring.passed
no_longer zero mem new s d c f g = omega arith
no_longer (suc n) mem new s d c f g =
    elim (cases_Bool (ring.ends mem s d c)) [
      | inl e ↦ (let i = no_later mem new s d c (g c) e in rw (e, i) (omega arith))
      | inr e ↦
          elim (cases_Bool (ring.ends new s d c)) [
            | inl i ↦ rw (e, i) (omega arith)
            | inr i ↦ rw (e, i, f c) (let h = no_longer n mem new s d (mem c).next f g in omega arith)
          ]
    ]

-- a depth written that is no more than it was
lowered : (m : List ℕ) (c v : ℕ) → v ≤ (cell m c).depth → ((k : ℕ) → (cell (put_depth m c v) k).next ≡ (cell m k).next) × ((k : ℕ) → (cell (put_depth m c v) k).depth ≤ (cell m k).depth)
lowered m c v h =
    elim (cases_Bool (there m c)) [
      | inl t ↦
          (let e = cells-put_depth m c v t in (
            λ k. ap (λ f. (f k).next) e,
            λ k. subst (λ f. (f k).depth ≤ (cell m k).depth) (sym e) (elim (cases_eq k c) [ inl i ↦ rw (i, eq-eqb c c refl) h | inr i ↦ rw (ne_eqb k c i) (omega arith) ]),
          ))
      | inr t ↦
          (let e : put_depth m c v ≡ m = put_word_past m c 8 v (rw t refl) in
          (λ k. ap (λ n. (cell n k).next) e, λ k. subst (λ n. (cell n k).depth ≤ (cell m k).depth) (sym e) (omega arith)))
    ]

module _ (n i s d : ℕ) (m w : List ℕ) (c old new : ℕ) where
  -- what a turn touched and what is left to touch
  pub raise_counts : (x : ℕ) → i < n → Some x ≡ onward m s d c → w ≡ raise_one m s d c → new ≡ more old (pick (ends m s d c) 1 3) →
      new + 3 * length (ring.passed (n - (i + 1)) (cell w) s d x) ≤ old + 3 * length (ring.passed (n - i) (cell m) s d c)
  unfolding ring.passed
  raise_counts x h e f k =
      let t = went_on (ends m s d c) m w (put_depth m c ((cell m c).depth - 1)) (cell m c).next x e f in
      let l = lowered m c ((cell m c).depth - 1) (omega arith) in
      let few = no_longer (n - (i + 1)) (cell m) (cell (put_depth m c ((cell m c).depth - 1))) s d (cell m c).next l.0 l.1 in
      let k' : new ≡ more old 3 = rw t.0 at k in
      rw (one_less n i h, t.0, t.1, t.2) (omega arith)

  pub empty_counts : (x : ℕ) → i < n → Some x ≡ onward m s d c → w ≡ empty_one m s d c → new ≡ more old (pick (ends m s d c) 1 10) →
      new + 10 * length (ring.passed (n - (i + 1)) (cell w) s d x) ≤ old + 10 * length (ring.passed (n - i) (cell m) s d c)
  unfolding ring.passed
  empty_counts x h e f k =
      let t = went_on (ends m s d c) m w (put_slot m c None) (cell m c).next x e f in
      let same : cell (put_slot m c None) ≡ cell m = cells-put_slot m c None in
      let k' : new ≡ more old 10 = rw t.0 at k in
      rw (one_less n i h, t.0, t.1, t.2, same) (omega arith)

-- and at the end of the walk
pub end_counts : (most s d : ℕ) (m : List ℕ) (c old new : ℕ) → None ≡ onward m s d c → new ≡ more old (pick (ends m s d c) 1 most) → new ≤ old + 1
end_counts most s d m c old new e k = let t = at_end (ends m s d c) (cell m c).next e in let k' : new ≡ more old 1 = rw t at k in omega arith
