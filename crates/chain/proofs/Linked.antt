-- The ring of places alone: read from another of its places, one put in, some taken out.
use Rattle.std.proofs.Common.{◌≡◌, ℕ, ◌≢◌, ◌⊎◌, List, [], ◌∷◌, ◌++◌, eqb, refl, sym, ap, subst, subst₂, ◌∙◌, inl, inr, eq-eqb, ne_eqb, append-nil}
use Rattle.std.specs.List.{AllByRecursion}
use Rattle.rights.specs.World.{pick}
use Rattle.chain.specs.Entries.{Apart}
use Rattle.board.specs.Links.{Cell}
use Rattle.chain.specs.Ring.{Tied, Leads, Ring, joined, bypassed}
use Rattle.chain.proofs.Lists.{all_join, all_swap, flipped, apart_swap}

pub at_same : (k a v w : ℕ) → k ≡ a → pick (eqb k a) v w ≡ v
at_same k a v w e = rw (eq-eqb k a e) refl

pub at_other : (k a v w : ℕ) → k ≢ a → pick (eqb k a) v w ≡ w
at_other k a v w n = rw (ne_eqb k a n) refl

module _ (mem : ℕ → Cell) where
  pub leads_split : (p : ℕ) (l : List ℕ) (s : ℕ) (r : List ℕ) (q : ℕ) → Leads mem p (l ++ s ∷ r) q → Leads mem p l s × Leads mem s r q
  leads_split p [] s r q g = g
  leads_split p (e ∷ l) s r q g = let t = leads_split e l s r q g.1 in ((g.0, t.0), t.1)

  leads_join : (p : ℕ) (l : List ℕ) (s : ℕ) (r : List ℕ) (q : ℕ) → Leads mem p l s → Leads mem s r q → Leads mem p (l ++ s ∷ r) q
  leads_join p [] s r q a b = (a, b)
  leads_join p (e ∷ l) s r q a b = (a.0, leads_join e l s r q a.1 b)

  -- a ring can be read from any of its places
  pub ring_turn : (a b : List ℕ) → Ring mem (a ++ b) → Ring mem (b ++ a)
  ring_turn a [] c = rw (append-nil a) at c
  ring_turn [] (s ∷ b) c = rw (append-nil b) c
  ring_turn (e ∷ a) (s ∷ b) c = let t = leads_split e a s b e c in leads_join s b e a s t.1 t.0

-- the first of l, or else s
abbrev pub first_or : List ℕ → ℕ → ℕ
first_or [] s = s
first_or (e ∷ l) s = e

pub leads_first : (mem : ℕ → Cell) (p : ℕ) (l : List ℕ) (q : ℕ) → Leads mem p l q → (mem p).next ≡ first_or l q
leads_first mem p [] q g = g.0
leads_first mem p (e ∷ l) q g = g.0.0

-- a list is empty or has a last element
pub from_end : (l : List ℕ) → (l ≡ []) ⊎ ((k : List ℕ) × (z : ℕ) × (l ≡ k ++ z ∷ []))
from_end [] = inl refl
from_end (x ∷ l) = elim (from_end l) [ inl e ↦ inr ([], x, ap (λ m. x ∷ m) e) | inr t ↦ inr (x ∷ t.0, t.1, ap (λ m. x ∷ m) t.2) ]

-- links alone matter
pub leads_like : (mem new : ℕ → Cell) → ((k : ℕ) → (new k).next ≡ (mem k).next) → ((k : ℕ) → (new k).prev ≡ (mem k).prev) → (p : ℕ) (l : List ℕ) (q : ℕ) → Leads mem p l q → Leads new p l q
leads_like mem new a b p [] q g = (a p ∙ g.0, b q ∙ g.1)
leads_like mem new a b p (e ∷ l) q g = ((a p ∙ g.0.0, b e ∙ g.0.1), leads_like mem new a b e l q g.1)

module _ (mem : ℕ → Cell) (p q : ℕ) where
  tied_joined : Tied (joined mem p q) p q
  tied_joined = (at_same p p q _ refl, at_same q q p _ refl)

  tied_kept : (a b : ℕ) → a ≢ p → b ≢ q → Tied mem a b → Tied (joined mem p q) a b
  tied_kept a b h k g = (at_other a p q _ h ∙ g.0, at_other b q p _ k ∙ g.1)

  leads_kept : (a : ℕ) (l : List ℕ) (b : ℕ) → AllByRecursion (λ c. c ≢ p) (a ∷ l) → AllByRecursion (λ c. c ≢ q) (l ++ b ∷ []) → Leads mem a l b → Leads (joined mem p q) a l b
  leads_kept a [] b h k g = tied_kept a b h.0 k.0 g
  leads_kept a (e ∷ l) b h k g = (tied_kept a e h.0 k.0 g.0, leads_kept e l b h.1 k.1 g.1)

  pub joined_else : (k : ℕ) → k ≢ p → k ≢ q → joined mem p q k ≡ mem k
  joined_else k h n = rw (ne_eqb k p h, ne_eqb k q n) refl

-- d is put in after s
pub ring_placed : (mem : ℕ → Cell) (s d : ℕ) (l : List ℕ) → Apart (s ∷ l) → AllByRecursion (λ c. d ≢ c) (s ∷ l) → Ring mem (s ∷ l) → Ring (joined (joined mem d (mem s).next) s d) (s ∷ d ∷ l)
ring_placed mem s d [] u f g =
    subst (λ q. Ring (joined (joined mem d q) s d) (s ∷ d ∷ [])) (sym g.0)
    (tied_joined (joined mem d s) s d, tied_kept (joined mem d s) s d d s f.0 (λ e. f.0 (sym e)) (tied_joined mem d s))
ring_placed mem s d (e ∷ l) u f g =
    let after : AllByRecursion (λ c. c ≢ d) (s ∷ e ∷ l) = flipped d (s ∷ e ∷ l) f in
    let apart : AllByRecursion (λ c. c ≢ s) (e ∷ l) = flipped s (e ∷ l) u.0 in
    let kept = leads_kept mem d e e l s after.1 (all_join (λ c. c ≢ e) l (s ∷ []) (flipped e l u.1.0) (u.0.0, tt)) g.1 in
    subst (λ q. Ring (joined (joined mem d q) s d) (s ∷ d ∷ e ∷ l)) (sym g.0.0) (
      tied_joined (joined mem d e) s d,
      (
        tied_kept (joined mem d e) s d d e f.0 (after.1.0) (tied_joined mem d e),
        leads_kept (joined mem d e) s d e l s apart (all_join (λ c. c ≢ d) l (s ∷ []) after.1.1 (after.0, tt)) kept,
      ),
    )

-- what stands between s and b is taken out
pub ring_cut : (mem : ℕ → Cell) (s : ℕ) (a b : List ℕ) → Apart (s ∷ b) → Ring mem (s ∷ a ++ b) → Ring (joined mem s (first_or b s)) (s ∷ b)
ring_cut mem s a [] u g = tied_joined mem s s
ring_cut mem s a (e ∷ l) u g = (
  tied_joined mem s e,
  leads_kept mem s e e l s (flipped s (e ∷ l) u.0) (all_join (λ c. c ≢ e) l (s ∷ []) (flipped e l u.1.0) (u.0.0, tt)) (leads_split mem s a e l s g).1,
)

-- x is taken out
pub ring_bypassed : (mem : ℕ → Cell) (x : ℕ) (l : List ℕ) → Apart (x ∷ l) → Ring mem (x ∷ l) → Ring (bypassed mem x) l
ring_bypassed mem x l u g =
    elim (from_end l) [
      | inl e ↦ subst (λ m. Ring (bypassed mem x) m) (sym e) tt
      | inr t ↦
          (let k = t.0 in
          let z = t.1 in
          let r : Ring mem (z ∷ x ∷ k) = ring_turn mem (x ∷ k) (z ∷ []) (subst (λ m. Ring mem (x ∷ m)) t.2 g) in
          let v : Apart (z ∷ x ∷ k) = apart_swap (x ∷ k) (z ∷ []) (subst (λ m. Apart (x ∷ m)) t.2 u) in
          let cut : Ring (joined mem z (first_or k z)) (z ∷ k) = ring_cut mem z (x ∷ []) k (v.0.1, v.1.1) r in
          let out : Ring (bypassed mem x) (z ∷ k) = subst₂ (λ p q. Ring (joined mem p q) (z ∷ k)) (sym r.0.1) (sym (leads_first mem x k z r.1)) cut in
          subst (λ m. Ring (bypassed mem x) m) (sym t.2) (ring_turn (bypassed mem x) (z ∷ []) k out))
    ]

-- what holds of the places of a ring holds of those beside x
pub all_beside : (P : ℕ → Type 0) (mem : ℕ → Cell) (x : ℕ) (l : List ℕ) → Ring mem (x ∷ l) → AllByRecursion P (x ∷ l) → P (mem x).next × P (mem x).prev
all_beside P mem x l g h =
    elim (from_end l) [
      | inl e ↦ (let r : Ring mem (x ∷ []) = subst (λ m. Ring mem (x ∷ m)) e g in (subst P (sym r.0) h.0, subst P (sym r.1) h.0))
      | inr t ↦
          (let r : Ring mem (t.1 ∷ x ∷ t.0) = ring_turn mem (x ∷ t.0) (t.1 ∷ []) (subst (λ m. Ring mem (x ∷ m)) t.2 g) in
          let k : AllByRecursion P (t.1 ∷ x ∷ t.0) = all_swap P (x ∷ t.0) (t.1 ∷ []) (subst (λ m. AllByRecursion P (x ∷ m)) t.2 h) in
          (subst P (sym (leads_first mem x t.0 t.1 r.1)) (all_first P t.0 t.1 k), subst P (sym r.0.1) k.0))
    ]
  where
    all_first : (P : ℕ → Type 0) (l : List ℕ) (z : ℕ) → AllByRecursion P (z ∷ x ∷ l) → P (first_or l z)
    all_first P [] z h = h.0
    all_first P (e ∷ l) z h = h.1.1.0
