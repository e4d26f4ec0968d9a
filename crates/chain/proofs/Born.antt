-- The list of all that was made, and one more made.
use Rattle.std.proofs.Common.{◌≡◌, ℕ, suc, ◌≤◌, ◌<◌, ◌≢◌, ◌⊎◌, List, [], ◌∷◌, refl, sym, subst, inl, inr, arith}
use Rattle.rights.specs.World.{Slot, cap, Rights}
use Rattle.chain.specs.Lineage.{Comes, first, later, Orderly}
use Rattle.chain.proofs.Inserted.{Grown}

pub comes_less : (top : ℕ) (lin : List Slot) → Orderly top lin → (a c : ℕ) → Comes lin a c → (a < c) × (c ≤ top)
comes_less top lin o a c (first h) = o a c h
comes_less top lin o a c (later {b = b} h k) = let p : (a < b) × (b ≤ top) = comes_less top lin o a b h in let q = o b c k in (omega arith, q.1)

-- nothing comes from itself
pub comes_other : (top : ℕ) (lin : List Slot) → Orderly top lin → (a : ℕ) → Comes lin a a → ⊥
comes_other top lin o a h = let q = comes_less top lin o a a h in let less = q.0 in omega arith

pub comes_none : (a c : ℕ) → Comes [] a c → ⊥
comes_none a c (first h) = h
comes_none a c (later h k) = k

module _ (top : ℕ) (lin : List Slot) (o : Orderly top lin) (m u g : ℕ) (r : Rights) (known : m ≤ top) where
  pub orderly_more : Orderly (suc top) (cap u r g (suc top) m ∷ lin)
  orderly_more x c (inl e) = (omega (arith, e.0, e.1), omega (arith, e.0, e.1))
  orderly_more x c (inr h) = let q = o x c h in (q.0, omega arith)

  more_up : (a c : ℕ) → Comes lin a c → Comes (cap u r g (suc top) m ∷ lin) a c
  more_up a c (first h) = first (inr h)
  more_up a c (later {b = b} h k) = later (more_up a b h) (inr k)

  more_down : (a c : ℕ) → c ≢ suc top → Comes (cap u r g (suc top) m ∷ lin) a c → Comes lin a c
  more_down a c n (first (inl e)) = absurd (n (sym e.1))
  more_down a c n (first (inr h)) = first h
  more_down a c n (later h (inl e)) = absurd (n (sym e.1))
  more_down a c n (later {b = b} h (inr k)) = let q = o b c k in later (more_down a b (λ i. omega arith) h) k

  more_only : (a c : ℕ) → c ≡ suc top → Comes (cap u r g (suc top) m ∷ lin) a c → (a ≡ m) ⊎ Comes lin a m
  more_only a c e (first (inl f)) = inl (sym f.0)
  more_only a c e (first (inr h)) = let q = o a c h in absurd (omega arith)
  more_only a c e (later {b = b} h (inl f)) = inr (more_down a m (λ i. omega arith) (subst (λ x. Comes (cap u r g (suc top) m ∷ lin) a x) (sym f.0) h))
  more_only a c e (later {b = b} h (inr k)) = let q = o b c k in absurd (omega arith)

  more_last : (c : ℕ) → Comes (cap u r g (suc top) m ∷ lin) (suc top) c → ⊥
  more_last c h = let q = comes_less (suc top) (cap u r g (suc top) m ∷ lin) orderly_more (suc top) c h in omega arith

  pub grown : Grown (Comes lin) (Comes (cap u r g (suc top) m ∷ lin)) m (suc top)
  grown =
      record {
        up = more_up;
        down = more_down;
        here = first (inl (refl, refl));
        above = λ a h. later (more_up a m h) (inl (refl, refl));
        only = λ a h. more_only a (suc top) refl h;
        last = more_last;
      }
