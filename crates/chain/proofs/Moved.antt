-- The same entry in another slot; a ring of roots; how deep an entry can be.
use Rattle.std.proofs.Common.{◌≡◌, ℕ, suc, ◌+◌, ◌≤◌, ◌≢◌, List, [], ◌∷◌, ◌++◌, length, refl, ap, inl, inr, arith}
use Rattle.std.specs.List.{AllByRecursion}
use Rattle.chain.specs.Entries.{Entry, places, births, moved, Steps, NoneFrom, FromNone, Apart, Chain}
use Rattle.chain.proofs.Lists.{flipped}
use Rattle.chain.proofs.Runs.{Under, Runs, runs, all_kin}

births_moved : (d : ℕ) (a : List Entry) (x : Entry) (b : List Entry) → births (a ++ moved d x ∷ b) ≡ births (a ++ x ∷ b)
births_moved d [] x b = refl
births_moved d (y ∷ a) x b = ap (λ l. y.birth ∷ l) (births_moved d a x b)

steps_moved : (k d : ℕ) (a : List Entry) (x : Entry) (b : List Entry) → Steps k (a ++ x ∷ b) → Steps k (a ++ moved d x ∷ b)
steps_moved k d [] x b s = s
steps_moved k d (y ∷ a) x b s = (s.0, steps_moved (suc y.depth) d a x b s.1)

pub all_moved : (P : ℕ → Type 0) (d : ℕ) (a : List Entry) (x : Entry) (b : List Entry) → P d → AllByRecursion P (places (a ++ x ∷ b)) → AllByRecursion P (places (a ++ moved d x ∷ b))
all_moved P d [] x b n h = (n, h.1)
all_moved P d (y ∷ a) x b n h = (h.0, all_moved P d a x b n h.1)

apart_moved : (d : ℕ) (a : List Entry) (x : Entry) (b : List Entry) → AllByRecursion (λ c. d ≢ c) (places (a ++ x ∷ b)) → Apart (places (a ++ x ∷ b)) → Apart (places (a ++ moved d x ∷ b))
apart_moved d [] x b f u = (f.1, u.1)
apart_moved d (y ∷ a) x b f u = (all_moved (λ c. y.place ≢ c) d a x b (flipped d (places (y ∷ a ++ x ∷ b)) f).0 u.0, apart_moved d a x b f.1 u.1)

module _ (D : ℕ → ℕ → Type 0) (d : ℕ) where
  under_moved : (p : Entry) (a : List Entry) (x : Entry) (b : List Entry) → Under D p (a ++ x ∷ b) → Under D p (a ++ moved d x ∷ b)
  under_moved p [] x b u = u
  under_moved p (y ∷ a) x b u =
      elim u [
        | inl v ↦ inl (v.0, v.1, under_moved p a x b v.2)
        | inr v ↦ inr (v.0, (v.1.0, rw (births_moved d a x b) v.1.1))
      ]

  runs_moved : (a : List Entry) (x : Entry) (b : List Entry) → Runs D (a ++ x ∷ b) → Runs D (a ++ moved d x ∷ b)
  runs_moved [] x b r = r
  runs_moved (y ∷ a) x b r = (under_moved y a x b r.0, rw (births_moved d a x b) r.1, runs_moved a x b r.2)

  -- move, and handing on
  pub chain_moved : (top : ℕ) (a : List Entry) (x : Entry) (b : List Entry) → AllByRecursion (λ c. d ≢ c) (places (a ++ x ∷ b)) → Chain D top (a ++ x ∷ b) → Chain D top (a ++ moved d x ∷ b)
  chain_moved top a x b f c =
      record {
        steps = steps_moved 0 d a x b c.steps;
        kin = all_kin D (a ++ moved d x ∷ b) (runs_moved a x b (runs D (a ++ x ∷ b) c.kin));
        given = rw (births_moved d a x b) c.given;
        once = rw (births_moved d a x b) c.once;
        apart = apart_moved d a x b f c.apart;
      }

-- an entry is at most as deep as there are entries before it
pub depth_most : (k : ℕ) (a : List Entry) (x : Entry) (b : List Entry) → Steps k (a ++ x ∷ b) → x.depth ≤ k + length a
depth_most k [] x b s = omega arith
depth_most k (y ∷ a) x b s = let h = depth_most (suc y.depth) a x b s.1 in let t = s.0 in omega arith

-- where D says that nothing comes from anything, roots tell so
module _ (D : ℕ → ℕ → Type 0) (none : (a c : ℕ) → D a c → ⊥) where
  none_from : (a : ℕ) (bs : List ℕ) → NoneFrom D a bs
  none_from a [] = tt
  none_from a (b ∷ bs) = (none a b, none_from a bs)

  from_none : (a : ℕ) (bs : List ℕ) → FromNone D a bs
  from_none a [] = tt
  from_none a (b ∷ bs) = (none b a, from_none a bs)

  runs_roots : (l : List Entry) → AllByRecursion (λ e. e.depth ≡ 0) l → Runs D l
  runs_roots [] h = tt
  runs_roots (x ∷ []) h = (tt, tt, tt)
  runs_roots (x ∷ y ∷ l) h = (inr (omega arith, none_from x.birth (births (y ∷ l))), from_none x.birth (births (y ∷ l)), runs_roots (y ∷ l) h.1)

  steps_roots : (k : ℕ) (l : List Entry) → AllByRecursion (λ e. e.depth ≡ 0) l → Steps k l
  steps_roots k [] h = tt
  steps_roots k (x ∷ l) h = (omega arith, steps_roots (suc x.depth) l h.1)

  pub chain_roots : (top : ℕ) (l : List Entry) → AllByRecursion (λ e. e.depth ≡ 0) l → AllByRecursion (λ b. b ≤ top) (births l) → Apart (births l) → Apart (places l) → Chain D top l
  chain_roots top l h g u v = record { steps = steps_roots 0 l h; kin = all_kin D l (runs_roots l h); given = g; once = u; apart = v }
