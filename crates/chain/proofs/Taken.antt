-- One entry goes and its run rises, or its run goes: depths and births tell the same still.
use Rattle.std.proofs.Common.{◌≡◌, ℕ, suc, ◌-◌, ◌≤◌, ◌<◌, List, [], ◌∷◌, ◌++◌, inl, inr, arith}
use Rattle.std.specs.List.{AllByRecursion}
use Rattle.std.proofs.lemmas.Bool.{cases_lt}
use Rattle.chain.specs.Entries.{Entry, places, births, run, beyond, risen, raised, Steps, NoneFrom, Chain}
use Rattle.chain.proofs.Lists.{Sub, keep, skip, sub_self, sub_after, sub_all, sub_apart, sub_births, sub_places, all_join, births_append, at_birth}
use Rattle.chain.proofs.Runs.{beyond_in, beyond_out, raised_in, raised_out, births_raised, places_raised, sub_beyond, steps_weaker, Under, Runs, runs, all_kin, run_comes, beyond_apart, run_beyond}

births_taken : (a : List Entry) (x : Entry) (b : List Entry) → Sub (births (a ++ raised x.depth b)) (births (a ++ x ∷ b))
births_taken [] x b = rw (births_raised x.depth b) (skip (sub_self (births b)))
births_taken (y ∷ a) x b = keep (births_taken a x b)

pub places_taken : (a : List Entry) (x : Entry) (b : List Entry) → Sub (places (a ++ raised x.depth b)) (places (a ++ x ∷ b))
places_taken [] x b = rw (places_raised x.depth b) (skip (sub_self (places b)))
places_taken (y ∷ a) x b = keep (places_taken a x b)

pub swept_sub : (a : List Entry) (x : Entry) (b : List Entry) → Sub (a ++ x ∷ beyond x.depth b) (a ++ x ∷ b)
swept_sub a x b = sub_after a (keep (sub_beyond x.depth b))

steps_raised : (d k : ℕ) (l : List Entry) → d ≤ k → Steps (suc k) l → Steps k (raised d l)
unfolding run beyond
steps_raised d k [] h s = tt
steps_raised d k (y ∷ l) h s =
    elim (cases_lt d y.depth) [
      | inl i ↦ rw (raised_in d y l i) (omega arith, steps_weaker y.depth (suc (y.depth - 1)) (raised d l) (omega arith) (steps_raised d y.depth l (omega arith) s.1))
      | inr i ↦ rw (raised_out d y l i) (omega arith, s.1)
    ]

steps_taken : (k : ℕ) (a : List Entry) (x : Entry) (b : List Entry) → Steps k (a ++ x ∷ b) → Steps k (a ++ raised x.depth b)
steps_taken k [] x b s = steps_weaker x.depth k (raised x.depth b) s.0 (steps_raised x.depth x.depth b (omega arith) s.1)
steps_taken k (y ∷ a) x b s = (s.0, steps_taken (suc y.depth) a x b s.1)

steps_beyond : (d k : ℕ) (l : List Entry) → Steps k l → Steps d (beyond d l)
unfolding beyond
steps_beyond d k [] s = tt
steps_beyond d k (y ∷ l) s =
    elim (cases_lt d y.depth) [
      | inl i ↦ rw (beyond_in d y l i) (steps_beyond d (suc y.depth) l s.1)
      | inr i ↦ rw (beyond_out d y l i) (i, s.1)
    ]

steps_swept : (k : ℕ) (a : List Entry) (x : Entry) (b : List Entry) → Steps k (a ++ x ∷ b) → Steps k (a ++ x ∷ beyond x.depth b)
steps_swept k [] x b s = (s.0, steps_weaker x.depth (suc x.depth) (beyond x.depth b) (omega arith) (steps_beyond x.depth (suc x.depth) b s.1))
steps_swept k (y ∷ a) x b s = (s.0, steps_swept (suc y.depth) a x b s.1)

module _ (D : ℕ → ℕ → Type 0) where
  -- the one that goes was in the run of p
  under_within : (p : Entry) (d : ℕ) → p.depth < d → (l : List Entry) → Under D p l → Under D p (raised d l)
  unfolding run beyond
  under_within p d h [] u = tt
  under_within p d h (y ∷ l) u =
      elim (cases_lt d y.depth) [
        | inl i ↦ rw (raised_in d y l i) (elim u [ inl v ↦ inl (omega arith, v.1, under_within p d h l v.2) | inr v ↦ absurd (omega arith) ])
        | inr i ↦ rw (raised_out d y l i) u
      ]

  -- it was not
  under_without : (p : Entry) (d : ℕ) → d ≤ p.depth → (l : List Entry) → Steps (suc d) l → NoneFrom D p.birth (births l) → Under D p (raised d l)
  unfolding run beyond
  under_without p d h [] s n = tt
  under_without p d h (y ∷ l) s n =
      elim (cases_lt d y.depth) [
        | inl i ↦ rw (raised_in d y l i) (inr (omega arith, (n.0, rw (births_raised d l) n.1)))
        | inr i ↦ rw (raised_out d y l i) (inr (omega arith, n))
      ]

  -- y is in the run of the one that goes
  under_among : (y : Entry) (d : ℕ) → d < y.depth → (l : List Entry) → Under D y l → Under D (risen y) (raised d l)
  unfolding run beyond
  under_among y d h [] u = tt
  under_among y d h (z ∷ l) u =
      elim (cases_lt d z.depth) [
        | inl i ↦
            rw (raised_in d z l i) (elim u [
              | inl v ↦ inl (omega arith, v.1, under_among y d h l v.2)
              | inr v ↦ inr (omega arith, (v.1.0, rw (births_raised d l) v.1.1))
            ])
        | inr i ↦ rw (raised_out d z l i) (elim u [ inl v ↦ absurd (omega arith) | inr v ↦ inr (omega arith, v.1) ])
      ]

  runs_raised : (d : ℕ) (l : List Entry) → Runs D l → Runs D (raised d l)
  unfolding run beyond
  runs_raised d [] r = tt
  runs_raised d (y ∷ l) r =
      elim (cases_lt d y.depth) [
        | inl i ↦ rw (raised_in d y l i) (under_among y d i l r.0, rw (births_raised d l) r.1, runs_raised d l r.2)
        | inr i ↦ rw (raised_out d y l i) r
      ]

  under_taken : (p : Entry) (k : ℕ) (a : List Entry) (x : Entry) (b : List Entry) → Steps k (a ++ x ∷ b) → Under D p (a ++ x ∷ b) → Under D p (a ++ raised x.depth b)
  under_taken p k [] x b s u =
      elim u [
        | inl v ↦ under_within p x.depth v.0 b v.2
        | inr v ↦ under_without p x.depth v.0 b s.1 v.1.1
      ]
  under_taken p k (y ∷ a) x b s u =
      elim u [
        | inl v ↦ inl (v.0, v.1, under_taken p (suc y.depth) a x b s.1 v.2)
        | inr v ↦ inr (v.0, (v.1.0, sub_all (λ c. D p.birth c → ⊥) (births_taken a x b) v.1.1))
      ]

  runs_taken : (k : ℕ) (a : List Entry) (x : Entry) (b : List Entry) → Steps k (a ++ x ∷ b) → Runs D (a ++ x ∷ b) → Runs D (a ++ raised x.depth b)
  runs_taken k [] x b s r = runs_raised x.depth b r.2
  runs_taken k (y ∷ a) x b s r =
      (under_taken y (suc y.depth) a x b s.1 r.0, sub_all (λ c. D c y.birth → ⊥) (births_taken a x b) r.1, runs_taken (suc y.depth) a x b s.1 r.2)

  -- drop
  pub chain_taken : (top : ℕ) (a : List Entry) (x : Entry) (b : List Entry) → Chain D top (a ++ x ∷ b) → Chain D top (a ++ raised x.depth b)
  chain_taken top a x b c =
      record {
        steps = steps_taken 0 a x b c.steps;
        kin = all_kin D (a ++ raised x.depth b) (runs_taken 0 a x b c.steps (runs D (a ++ x ∷ b) c.kin));
        given = sub_all (λ c. c ≤ top) (births_taken a x b) c.given;
        once = sub_apart (births_taken a x b) c.once;
        apart = sub_apart (places_taken a x b) c.apart;
      }

  under_beyond : (p : Entry) (d : ℕ) → p.depth ≤ d → (l : List Entry) → Under D p l → Under D p (beyond d l)
  unfolding beyond
  under_beyond p d h [] u = tt
  under_beyond p d h (y ∷ l) u =
      elim (cases_lt d y.depth) [
        | inl i ↦ rw (beyond_in d y l i) (elim u [ inl v ↦ under_beyond p d h l v.2 | inr v ↦ absurd (omega arith) ])
        | inr i ↦ rw (beyond_out d y l i) u
      ]

  runs_beyond : (d : ℕ) (l : List Entry) → Runs D l → Runs D (beyond d l)
  unfolding beyond
  runs_beyond d [] r = tt
  runs_beyond d (y ∷ l) r =
      elim (cases_lt d y.depth) [
        | inl i ↦ rw (beyond_in d y l i) (runs_beyond d l r.2)
        | inr i ↦ rw (beyond_out d y l i) r
      ]

  under_swept : (p : Entry) (a : List Entry) (x : Entry) (b : List Entry) → Under D p (a ++ x ∷ b) → Under D p (a ++ x ∷ beyond x.depth b)
  under_swept p [] x b u =
      elim u [
        | inl v ↦ inl (v.0, v.1, under_beyond p x.depth (omega arith) b v.2)
        | inr v ↦ inr (v.0, sub_all (λ c. D p.birth c → ⊥) (sub_births (swept_sub [] x b)) v.1)
      ]
  under_swept p (y ∷ a) x b u =
      elim u [
        | inl v ↦ inl (v.0, v.1, under_swept p a x b v.2)
        | inr v ↦ inr (v.0, sub_all (λ c. D p.birth c → ⊥) (sub_births (swept_sub (y ∷ a) x b)) v.1)
      ]

  runs_swept : (a : List Entry) (x : Entry) (b : List Entry) → Runs D (a ++ x ∷ b) → Runs D (a ++ x ∷ beyond x.depth b)
  runs_swept [] x b r =
      (under_beyond x x.depth (omega arith) b r.0, sub_all (λ c. D c x.birth → ⊥) (sub_births (sub_beyond x.depth b)) r.1, runs_beyond x.depth b r.2)
  runs_swept (y ∷ a) x b r =
      (under_swept y a x b r.0, sub_all (λ c. D c y.birth → ⊥) (sub_births (swept_sub a x b)) r.1, runs_swept a x b r.2)

  -- revoke
  pub chain_swept : (top : ℕ) (a : List Entry) (x : Entry) (b : List Entry) → Chain D top (a ++ x ∷ b) → Chain D top (a ++ x ∷ beyond x.depth b)
  chain_swept top a x b c =
      record {
        steps = steps_swept 0 a x b c.steps;
        kin = all_kin D (a ++ x ∷ beyond x.depth b) (runs_swept a x b (runs D (a ++ x ∷ b) c.kin));
        given = sub_all (λ c. c ≤ top) (sub_births (swept_sub a x b)) c.given;
        once = sub_apart (sub_births (swept_sub a x b)) c.once;
        apart = sub_apart (sub_places (swept_sub a x b)) c.apart;
      }

  runs_at : (a : List Entry) (x : Entry) (b : List Entry) → Runs D (a ++ x ∷ b) → Runs D (x ∷ b)
  runs_at [] x b r = r
  runs_at (y ∷ a) x b r = runs_at a x b r.2

  before_apart : (a : List Entry) (x : Entry) (b : List Entry) → Runs D (a ++ x ∷ b) → NoneFrom D x.birth (births a)
  before_apart [] x b r = tt
  before_apart (y ∷ a) x b r = (at_birth (λ c. D c y.birth → ⊥) a x b r.1, before_apart a x b r.2)

  -- what the invariant says of one of the ring's slots, of which nothing comes from itself
  pub offspring : (top : ℕ) (a : List Entry) (x : Entry) (b : List Entry) → Chain D top (a ++ x ∷ b) → (D x.birth x.birth → ⊥) →
      (run x.depth b ++ beyond x.depth b ≡ b) × AllByRecursion (D x.birth) (births (run x.depth b)) × NoneFrom D x.birth (births (a ++ x ∷ beyond x.depth b))
  offspring top a x b c n =
      let r = runs D (a ++ x ∷ b) c.kin in
      let u = runs_at a x b r in (
        run_beyond x.depth b,
        run_comes D x b u.0,
        rw (births_append a (x ∷ beyond x.depth b)) (all_join (λ c. D x.birth c → ⊥) (births a) (births (x ∷ beyond x.depth b)) (before_apart a x b r) (n, beyond_apart D x b u.0)),
      )
