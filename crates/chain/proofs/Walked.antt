-- A walk along the links passes the run and no more.
use Rattle.std.proofs.Common.{◌≡◌, ℕ, zero, suc, ◌-◌, ◌≤◌, ◌<◌, ◌≢◌, true, false, List, [], ◌∷◌, length, refl, sym, ap, ◌∙◌, inl, inr, arith, eq-eqb, ne_eqb, le-leb}
use Rattle.std.specs.List.{AllByRecursion}
use Rattle.std.proofs.lemmas.Bool.{cases_lt, cases_Bool, lt-leb}
use Rattle.chain.specs.Entries.{Entry, places, run, beyond, raised, Apart}
use Rattle.board.specs.Links.{Cell, set_depth}
use Rattle.chain.specs.Ring.{Leads, Depths, ends, passed, stop, raise}
use Rattle.chain.proofs.Runs.{run_in, run_out, beyond_in, beyond_out, raised_in, raised_out}
use Rattle.chain.proofs.Linked.{at_same, at_other, first_or, leads_like}

-- whether a walk ends at a slot of the ring other than the one that it began after
goes_on : (mem : ℕ → Cell) (s d : ℕ) (y : Entry) → s ≢ y.place → (mem y.place).depth ≡ y.depth → d < y.depth → ends mem s d y.place ≡ false
goes_on mem s d y n k i = rw (ne_eqb y.place s (λ e. n (sym e)), k, lt-leb y.depth d i) refl

ends_low : (mem : ℕ → Cell) (s d : ℕ) (y : Entry) → s ≢ y.place → (mem y.place).depth ≡ y.depth → y.depth ≤ d → ends mem s d y.place ≡ true
ends_low mem s d y n k i = rw (ne_eqb y.place s (λ e. n (sym e)), k, le-leb y.depth d i) refl

pub ends_back : (mem : ℕ → Cell) (s d c : ℕ) → c ≡ s → ends mem s d c ≡ true
ends_back mem s d c e = rw (eq-eqb c s e) refl

pub depths_else : (mem : ℕ → Cell) (a v : ℕ) (l : List Entry) → AllByRecursion (λ c. a ≢ c) (places l) → Depths mem l → Depths (set_depth mem a v) l
depths_else mem a v [] f k = tt
depths_else mem a v (e ∷ l) f k = (at_other e.place a v _ (λ i. f.0 (sym i)) ∙ k.0, depths_else mem a v l f.1 k.1)

module _ (s d : ℕ) where
  pub walk_passes : (mem : ℕ → Cell) (n p : ℕ) (l : List Entry) → Leads mem p (places l) s → Depths mem l → AllByRecursion (λ c. s ≢ c) (places l) → length l ≤ n →
      (passed n mem s d (mem p).next ≡ places (run d l)) × (stop n mem s d (mem p).next ≡ first_or (places (beyond d l)) s)
  unfolding passed stop run beyond
  walk_passes mem zero p [] g k f h = (refl, g.0)
  walk_passes mem zero p (y ∷ l) g k f h = absurd (omega arith)
  walk_passes mem (suc n) p [] g k f h = rw (g.0, ends_back mem s d s refl) (refl, refl)
  walk_passes mem (suc n) p (y ∷ l) g k f h =
      elim (cases_lt d y.depth) [
        | inl i ↦
            (let t = walk_passes mem n y.place l g.1 k.1 f.1 (omega arith) in
            rw (g.0.0, goes_on mem s d y f.0 k.0 i, run_in d y l i, beyond_in d y l i) (ap (λ m. y.place ∷ m) t.0, t.1))
        | inr i ↦ rw (g.0.0, ends_low mem s d y f.0 k.0 i, run_out d y l i, beyond_out d y l i) (refl, refl)
      ]

  -- of a cell only the depth is changed
  pub raise_like : (n : ℕ) (mem : ℕ → Cell) (c k : ℕ) → ((raise n mem s d c k).next ≡ (mem k).next) × ((raise n mem s d c k).prev ≡ (mem k).prev) × ((raise n mem s d c k).up ≡ (mem k).up)
  unfolding raise
  raise_like zero mem c k = (refl, refl, refl)
  raise_like (suc n) mem c k =
      elim (cases_Bool (ends mem s d c)) [
        | inl e ↦ rw e (refl, refl, refl)
        | inr e ↦ rw e (raise_like n (set_depth mem c ((mem c).depth - 1)) (mem c).next k)
      ]

  -- and only where the walk passes
  pub raise_else : (n : ℕ) (mem : ℕ → Cell) (p a : ℕ) (l : List ℕ) → Leads mem p l s → AllByRecursion (λ c. a ≢ c) l → raise n mem s d (mem p).next a ≡ mem a
  unfolding raise
  raise_else zero mem p a l g f = refl
  raise_else (suc n) mem p a [] g f = rw (g.0, ends_back mem s d s refl) refl
  raise_else (suc n) mem p a (y ∷ l) g f =
      elim (cases_Bool (ends mem s d y)) [
        | inl e ↦ rw (g.0.0, e) refl
        | inr e ↦
            rw (g.0.0, e)
            (raise_else n (set_depth mem y ((mem y).depth - 1)) y a l (leads_like mem (set_depth mem y ((mem y).depth - 1)) (λ k. refl) (λ k. refl) y l s g.1) f.1 ∙
            rw (ne_eqb a y f.0) refl)
      ]

  pub raise_depths : (n : ℕ) (mem : ℕ → Cell) (p : ℕ) (l : List Entry) → Leads mem p (places l) s → Depths mem l → AllByRecursion (λ c. s ≢ c) (places l) → Apart (places l) → length l ≤ n →
      Depths (raise n mem s d (mem p).next) (raised d l)
  unfolding raise run beyond
  raise_depths n mem p [] g k f u h = tt
  raise_depths zero mem p (y ∷ l) g k f u h = absurd (omega arith)
  raise_depths (suc n) mem p (y ∷ l) g k f u h =
      elim (cases_lt d y.depth) [
        | inl i ↦
            (let new : ℕ → Cell = set_depth mem y.place ((mem y.place).depth - 1) in
            let g' : Leads new y.place (places l) s = leads_like mem new (λ x. refl) (λ x. refl) y.place (places l) s g.1 in
            rw (g.0.0, goes_on mem s d y f.0 k.0 i, raised_in d y l i) (
              ap (λ x. x.depth) (raise_else n new y.place y.place (places l) g' u.0) ∙ at_same y.place y.place _ _ refl ∙ ap (λ x. x - 1) k.0,
              raise_depths n new y.place l g' (depths_else mem y.place ((mem y.place).depth - 1) l u.0 k.1) f.1 u.1 (omega arith),
            ))
        | inr i ↦ rw (g.0.0, ends_low mem s d y f.0 k.0 i, raised_out d y l i) k
      ]
