-- What follows of how objects lie.
use mathlib.Core.Path.{◌≡◌, sym, ap, ◌∙◌}
use mathlib.Core.Logic.{◌⊎◌, inl, inr, ◌≢◌}
use Prim.Native.Nat.{ℕ, ◌+◌, ◌≤◌, ◌<◌}
use native.Mathlib.Omega.{arith}
use Rattle.std.specs.Prelude.{Option, Some}
use Rattle.board.specs.declared.slots.Object.{Object}
use Rattle.board.specs.declared.slots.Object.TheVariants.{Table, Page}
use Rattle.laws.proofs.Tests.{same_or_not, clash}
use Rattle.kernel.specs.Places.{begins, units, OnBoard, Inside, Apart, before, after, around, within, Laid, SlotPlace}

-- p is the place of a unit of x
abbrev pub Has : Object → ℕ → Type 0
Has x p = (begins x ≤ p) × (p < begins x + units x)

-- nothing lies in it: it is no pool
abbrev pub Plain : Object → Type 0
Plain x = (y : Object) → Inside x y → ⊥

-- objects that are no pools share no unit
share : (x y : Object) (p : ℕ) → Apart x y → Plain x → Plain y → Has x p → Has y p → ⊥
share x y p (before h) a b c d = omega arith
share x y p (after h) a b c d = omega arith
share x y p (around h) a b c d = a y h
share x y p (within h) a b c d = b x h

module _ (room : ℕ) (spot : ℕ → Option Object) (laid : Laid room spot) where
  -- of two objects that are no pools and have a unit in common, each is the other
  pub one : (o q : ℕ) (x y : Object) (p : ℕ) → spot o ≡ Some x → spot q ≡ Some y → OnBoard x → OnBoard y → Plain x → Plain y → Has x p → Has y p → o ≡ q
  one o q x y p e f a b c d h k = same_or_not o q (λ i. i) (λ n. absurd (share x y p (laid.apart o q x y e f a b n) c d h k))

  -- a slot's place is on the board
  pub slot_inside : (p : ℕ) → SlotPlace spot p → (1 ≤ p) × (p ≤ room)
  slot_inside p s =
      let t = laid.tables s.table s.begin s.slots s.is in
      let i = laid.inside s.table (Table s.begin s.slots) s.is t in
      (omega (arith, i, s.small, s.place), omega (arith, i, s.small, s.place))

  -- slots of tables at one place are one slot of one table
  pub slots_apart : (o q p n a m i k : ℕ) → spot o ≡ Some (Table p n) → spot q ≡ Some (Table a m) → i < n → k < m → p + i ≡ a + k → o ≡ q
  slots_apart o q p n a m i k e f h l s =
      one o q (Table p n) (Table a m) (p + i) e f (laid.tables o p n e) (laid.tables q a m f) (λ y z. z) (λ y z. z)
      (omega arith, omega arith) (omega arith, omega arith)

  -- a page has no slot of a table
  pub page_clear : (o q p a m k : ℕ) → spot o ≡ Some (Page p) → spot q ≡ Some (Table a m) → k < m → p ≤ a + k → a + k < p + 64 → ⊥
  page_clear o q p a m k e f l h g =
      let z : o ≡ q = one o q (Page p) (Table a m) (a + k) e f (omega arith) (laid.tables q a m f) (λ y z. z) (λ y z. z) (h, g) (omega arith, omega arith) in
      let y : Some (Page p) ≡ Some (Table a m) = sym e ∙ ap spot z ∙ f in
      clash cc

  -- two pages at one place are one
  pub pages_apart : (o q p : ℕ) → spot o ≡ Some (Page p) → spot q ≡ Some (Page p) → o ≡ q
  pages_apart o q p e f = one o q (Page p) (Page p) p e f (omega arith) (omega arith) (λ y z. z) (λ y z. z) (omega arith, omega arith) (omega arith, omega arith)

  -- and two pages that lie at different places share no unit
  pub pages_beside : (o q p a : ℕ) → spot o ≡ Some (Page p) → spot q ≡ Some (Page a) → o ≢ q → (p + 64 ≤ a) ⊎ (a + 64 ≤ p)
  pages_beside o q p a e f n = sides (laid.apart o q (Page p) (Page a) e f (omega arith) (omega arith) n)
    where
      sides : Apart (Page p) (Page a) → (p + 64 ≤ a) ⊎ (a + 64 ≤ p)
      sides (before h) = inl h
      sides (after h) = inr h
      sides (around h) = absurd h
      sides (within h) = absurd h
