-- One more entry goes right after what it was made from: depths and births tell the same still.
use Rattle.std.proofs.Common.{◌≡◌, ℕ, suc, ◌≤◌, ◌≢◌, ◌⊎◌, List, [], ◌∷◌, ◌++◌, sym, inl, inr, arith}
use Rattle.std.specs.List.{AllByRecursion}
use Rattle.chain.specs.Entries.{Entry, places, births, Steps, NoneFrom, FromNone, Apart, Chain}
use Rattle.chain.proofs.Lists.{all_weaker, more_all, more_apart, more_births, more_places, at_birth}
use Rattle.chain.proofs.Runs.{steps_weaker, Under, Runs, runs, all_kin}

-- E is D with b made from m, where b is new
pub record Grown (D E : ℕ → ℕ → Type 0) (m b : ℕ) : Type 0 where
  pub up : (a c : ℕ) → D a c → E a c
  pub down : (a c : ℕ) → c ≢ b → E a c → D a c
  pub here : E m b
  pub above : (a : ℕ) → D a m → E a b
  pub only : (a : ℕ) → E a b → (a ≡ m) ⊎ D a m
  pub last : (c : ℕ) → E b c → ⊥

steps_inserted : (k : ℕ) (a : List Entry) (x n : Entry) (b : List Entry) → n.depth ≡ suc x.depth → Steps k (a ++ x ∷ b) → Steps k (a ++ x ∷ n ∷ b)
steps_inserted k [] x n b e s = (s.0, (omega arith, steps_weaker (suc x.depth) (suc n.depth) b (omega arith) s.1))
steps_inserted k (y ∷ a) x n b e s = (s.0, steps_inserted (suc y.depth) a x n b e s.1)

module _ (D E : ℕ → ℕ → Type 0) (x n : Entry) (g : Grown D E x.birth n.birth) (deeper : n.depth ≡ suc x.depth) where
  none_from : (a : ℕ) (bs : List ℕ) → AllByRecursion (λ c. c ≢ n.birth) bs → NoneFrom D a bs → NoneFrom E a bs
  none_from a [] f h = tt
  none_from a (c ∷ bs) f h = (λ e. h.0 (g.down a c f.0 e), none_from a bs f.1 h.1)

  from_none : (c : ℕ) (bs : List ℕ) → c ≢ n.birth → FromNone D c bs → FromNone E c bs
  from_none c bs f h = all_weaker (λ a. D a c → ⊥) (λ a. E a c → ⊥) (λ a k e. k (g.down a c f e)) bs h

  under_kept : (p : Entry) (l : List Entry) → AllByRecursion (λ c. c ≢ n.birth) (births l) → Under D p l → Under E p l
  under_kept p [] f u = tt
  under_kept p (y ∷ l) f u =
      elim u [
        | inl v ↦ inl (v.0, g.up p.birth y.birth v.1, under_kept p l f.1 v.2)
        | inr v ↦ inr (v.0, none_from p.birth (births (y ∷ l)) f v.1)
      ]

  runs_kept : (l : List Entry) → AllByRecursion (λ c. c ≢ n.birth) (births l) → Runs D l → Runs E l
  runs_kept [] f r = tt
  runs_kept (y ∷ l) f r = (under_kept y l f.1 r.0, from_none y.birth (births l) f.0 r.1, runs_kept l f.1 r.2)

  -- what does not lead to x does not lead to n
  not_new : (a : ℕ) → a ≢ x.birth → (D a x.birth → ⊥) → E a n.birth → ⊥
  not_new a h k e = elim (g.only a e) [ inl i ↦ h i | inr i ↦ k i ]

  under_inserted : (p : Entry) (a b : List Entry) → p.birth ≢ x.birth → AllByRecursion (λ c. c ≢ n.birth) (births (a ++ x ∷ b)) → Under D p (a ++ x ∷ b) → Under E p (a ++ x ∷ n ∷ b)
  under_inserted p [] b h f u =
      elim u [
        | inl v ↦ inl (v.0, g.up p.birth x.birth v.1, inl (omega arith, g.above p.birth v.1, under_kept p b f.1 v.2))
        | inr v ↦ (let k = none_from p.birth (births (x ∷ b)) f v.1 in inr (v.0, (k.0, (not_new p.birth h v.1.0, k.1))))
      ]
  under_inserted p (y ∷ a) b h f u =
      elim u [
        | inl v ↦ inl (v.0, g.up p.birth y.birth v.1, under_inserted p a b h f.1 v.2)
        | inr v ↦
            inr (
              v.0,
              more_all (λ c. E p.birth c → ⊥) (more_births (y ∷ a) x n b)
                  (not_new p.birth h (at_birth (λ c. D p.birth c → ⊥) (y ∷ a) x b v.1)) (none_from p.birth (births (y ∷ a ++ x ∷ b)) f v.1),
            )
      ]

  under_new : (b : List Entry) → Steps (suc x.depth) b → Under E n b
  under_new [] s = tt
  under_new (y ∷ b) s = inr (omega arith, all_weaker (λ c. Unit {0}) (λ c. E n.birth c → ⊥) (λ c i. g.last c) (births (y ∷ b)) (any (births (y ∷ b))))
    where
      any : (bs : List ℕ) → AllByRecursion (λ c. Unit {0}) bs
      any [] = tt
      any (c ∷ bs) = (tt, any bs)

  new_from : (bs : List ℕ) → AllByRecursion (λ c. x.birth ≢ c) bs → FromNone D x.birth bs → FromNone E n.birth bs
  new_from [] u h = tt
  new_from (a ∷ bs) u h = (not_new a (λ e. u.0 (sym e)) h.0, new_from bs u.1 h.1)

  runs_inserted : (k : ℕ) (a b : List Entry) → Steps k (a ++ x ∷ b) → Apart (births (a ++ x ∷ b)) → AllByRecursion (λ c. c ≢ n.birth) (births (a ++ x ∷ b)) → Runs D (a ++ x ∷ b) → Runs E (a ++ x ∷ n ∷ b)
  runs_inserted k [] b s u f r = (
    inl (omega arith, g.here, under_kept x b f.1 r.0),
    (g.last x.birth, from_none x.birth (births b) f.0 r.1),
    (under_new b s.1, new_from (births b) u.0 r.1, runs_kept b f.1 r.2),
  )
  runs_inserted k (y ∷ a) b s u f r = (
    under_inserted y a b (at_birth (λ c. y.birth ≢ c) a x b u.0) f.1 r.0,
    more_all (λ c. E c y.birth → ⊥) (more_births a x n b) (g.last y.birth) (from_none y.birth (births (a ++ x ∷ b)) f.0 r.1),
    runs_inserted (suc y.depth) a b s.1 u.1 f.1 r.2,
  )

  -- copy and cut
  pub chain_inserted : (top : ℕ) (a b : List Entry) → n.birth ≡ suc top → AllByRecursion (λ p. n.place ≢ p) (places (a ++ x ∷ b)) → Chain D top (a ++ x ∷ b) → Chain E (suc top) (a ++ x ∷ n ∷ b)
  chain_inserted top a b e free c =
      let new = all_weaker (λ c. c ≤ top) (λ c. n.birth ≢ c) (λ c h i. omega arith) (births (a ++ x ∷ b)) c.given in
      let old = all_weaker (λ c. n.birth ≢ c) (λ c. c ≢ n.birth) (λ c h i. h (sym i)) (births (a ++ x ∷ b)) new in
      record {
        steps = steps_inserted 0 a x n b deeper c.steps;
        kin = all_kin E (a ++ x ∷ n ∷ b) (runs_inserted 0 a b c.steps c.once old (runs D (a ++ x ∷ b) c.kin));
        given = more_all (λ c. c ≤ suc top) (more_births a x n b) (omega arith) (all_weaker (λ c. c ≤ top) (λ c. c ≤ suc top) (λ c h. omega arith) (births (a ++ x ∷ b)) c.given);
        once = more_apart (more_births a x n b) new c.once;
        apart = more_apart (more_places a x n b) free c.apart;
      }
