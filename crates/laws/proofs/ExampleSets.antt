-- Two sets that hold nothing of each other are parted.
use mathlib.Core.Path.{◌≡◌, refl, sym, ap, subst, ◌∙◌}
use mathlib.Core.Bool.{Bool, true}
use mathlib.Core.List.{List, [], ◌∷◌}
use lib.Dec.{lit≤}
use mathlib.Core.Logic.{◌≢◌, ◌⊎◌, inl, inr}
use Prim.Native.Nat.{ℕ, zero, suc, ◌≤◌, ◌<◌}
use native.Mathlib.Omega.{arith}
use borrow.Author.Tests.{le-ltb}
use lib.ListN.{get_or}
use Rattle.rv32.specs.declared.registers.Cpu.{Cpu}
use Rattle.rights.specs.World.{Rights, empty, cap, Act, Wait, State, ready, waits, Object, gone, port, thread, slot_birth, object, slots_of}
use Rattle.rights.specs.World.{from_of}
use Rattle.rights.specs.Promise.{Parted, SameSlot, both_empty, both_hold, SameButBirths, same_object, same_slots, mine, only}
use Rattle.laws.specs.Examples.{all, no_write, two, ours, Parts}
use Rattle.laws.proofs.Tests.{both_ways, clash}

module _ (fresh : ℕ → Cpu) (act : Cpu → (ℕ → ℕ) → Act Cpu) (r : Rights) (n mine theirs : ℕ) where
  abbrev obj : ℕ → Object Cpu
  obj o = object Cpu fresh act (two r n mine theirs) o

  -- a table's number and what its only slot holds, in object 1 and in object 4
  Place : ℕ → ℕ → ℕ → Type 0
  Place o u j = ((o ≡ 1) × (u ≡ 0) × (j ≡ mine)) ⊎ ((o ≡ 4) × (u ≡ 3) × (j ≡ theirs))

  full : (o i u b j m : ℕ) (q : Rights) → get_or (slots_of Cpu fresh act (obj o)) i empty ≡ cap u q b j m → (i ≡ 0) × (m ≡ 0) × Place o u j
  unfolding slots_of object Place
  full zero i u b j m q e = clash (cc)
  full (suc zero) zero u b j m q e = (refl, cc, inl (refl, cc, cc))
  full (suc zero) (suc i) u b j m q e = clash (cc)
  full (suc (suc zero)) i u b j m q e = clash (cc)
  full (suc (suc (suc zero))) i u b j m q e = clash (cc)
  full (suc (suc (suc (suc zero)))) zero u b j m q e = (refl, cc, inr (refl, cc, cc))
  full (suc (suc (suc (suc zero)))) (suc i) u b j m q e = clash (cc)
  full (suc (suc (suc (suc (suc zero))))) i u b j m q e = clash (cc)
  full (suc (suc (suc (suc (suc (suc o)))))) i u b j m q e = clash (cc)

  thread_at : (o f t : ℕ) (s : State Cpu) (c : Cpu) (ps : List ℕ) (rs : List Bool) → obj o ≡ thread f s c t ps rs → (s ≡ ready) × (ps ≡ []) × (((o ≡ 2) × (t ≡ 2)) ⊎ ((o ≡ 5) × (t ≡ 5)))
  unfolding object
  thread_at zero f t s c ps rs e = clash (cc)
  thread_at (suc zero) f t s c ps rs e = clash (cc)
  thread_at (suc (suc zero)) f t s c ps rs e = (cc, cc, inl (refl, cc))
  thread_at (suc (suc (suc zero))) f t s c ps rs e = clash (cc)
  thread_at (suc (suc (suc (suc zero)))) f t s c ps rs e = clash (cc)
  thread_at (suc (suc (suc (suc (suc zero))))) f t s c ps rs e = (cc, cc, inr (refl, cc))
  thread_at (suc (suc (suc (suc (suc (suc o)))))) f t s c ps rs e = clash (cc)

  no_port : (o f : ℕ) (ws : List Wait) → obj o ≡ port f ws → ws ≡ []
  unfolding object
  no_port zero f ws e = clash (cc)
  no_port (suc zero) f ws e = clash (cc)
  no_port (suc (suc zero)) f ws e = clash (cc)
  no_port (suc (suc (suc zero))) f ws e = clash (cc)
  no_port (suc (suc (suc (suc zero)))) f ws e = clash (cc)
  no_port (suc (suc (suc (suc (suc zero))))) f ws e = clash (cc)
  no_port (suc (suc (suc (suc (suc (suc o)))))) f ws e = clash (cc)

  uncut_all : (o : ℕ) → from_of Cpu fresh act (obj o) ≡ 0
  unfolding object from_of
  uncut_all zero = refl
  uncut_all (suc zero) = refl
  uncut_all (suc (suc zero)) = refl
  uncut_all (suc (suc (suc zero))) = refl
  uncut_all (suc (suc (suc (suc zero)))) = refl
  uncut_all (suc (suc (suc (suc (suc zero))))) = refl
  uncut_all (suc (suc (suc (suc (suc (suc o)))))) = refl

  there : (u : ℕ) → u < 6 → obj u ≡ gone → ⊥
  unfolding object
  there zero h e = clash (cc)
  there (suc zero) h e = clash (cc)
  there (suc (suc zero)) h e = clash (cc)
  there (suc (suc (suc zero))) h e = clash (cc)
  there (suc (suc (suc (suc zero)))) h e = clash (cc)
  there (suc (suc (suc (suc (suc zero))))) h e = clash (cc)
  there (suc (suc (suc (suc (suc (suc u)))))) h e = absurd (omega arith)

  nothing_at : (k u : ℕ) → get_or {A = ℕ} [] k 0 ≡ suc u → ⊥
  nothing_at k u e = omega arith

  -- same colour: both below 3, or both not
  same_side : (a b c d : ℕ) → a ≡ c → b ≡ d → ours c ≡ ours d → ours a ≡ ours b
  same_side a b c d e f h = ap ours e ∙ h ∙ sym (ap ours f)

  pub two_parted : (0 < mine) → (mine ≤ 2) → (0 < theirs) → (theirs ≤ 2) → (mine ≡ theirs → ⊥) → Parted Cpu fresh act ours (two r n mine theirs)
  unfolding Place
  two_parted m1 m2 t1 t2 differ =
      record {
        held = λ o i u b j m q e. let f = full o i u b j m q e in (colour o u j f.2, f.1, there u (low o u j f.2));
        tables = λ o f t s c ps rs e. let h = thread_at o f (suc t) s c ps rs e in at_table o t h.2;
        spaces = λ o f t k u s c ps rs e g. let h = thread_at o f t s c ps rs e in absurd (nothing_at k u (subst (λ (xs : List ℕ). get_or xs k 0 ≡ suc u) h.1 g));
        from = λ o u e. let h = uncut_all o in absurd (omega arith);
        once = λ o i u b j m p k v c l q s e g. let f = full o i u b j m q e in let h = full p k v c j l s g in (apart o u p v j f.2 h.2, f.0 ∙ sym h.0);
        born = λ o i u b j m q e. birth o u j (full o i u b j m q e).2;
        nothing_made = refl;
        calm = no_port;
        awake = λ o f t u c ps rs then e. let h = thread_at o f t (waits u then) c ps rs e in asleep u then h.0;
      }
    where
      asleep : (u : ℕ) (then : List ℕ → Cpu) → ◌≡◌ {A = State Cpu} (waits u then) ready → ⊥
      asleep u then e = clash (cc)

      colour : (o u j : ℕ) → ((o ≡ 1) × (u ≡ 0) × (j ≡ mine)) ⊎ ((o ≡ 4) × (u ≡ 3) × (j ≡ theirs)) → ours u ≡ ours o
      colour o u j (inl h) = same_side u o 0 1 h.1 h.0 refl
      colour o u j (inr h) = same_side u o 3 4 h.1 h.0 refl

      low : (o u j : ℕ) → ((o ≡ 1) × (u ≡ 0) × (j ≡ mine)) ⊎ ((o ≡ 4) × (u ≡ 3) × (j ≡ theirs)) → u < 6
      low o u j (inl h) = let g = h.1 in omega arith
      low o u j (inr h) = let g = h.1 in omega arith

      birth : (o u j : ℕ) → ((o ≡ 1) × (u ≡ 0) × (j ≡ mine)) ⊎ ((o ≡ 4) × (u ≡ 3) × (j ≡ theirs)) → (0 < j) × (j ≤ 2)
      birth o u j (inl h) = let g = h.2 in (omega arith, omega arith)
      birth o u j (inr h) = let g = h.2 in (omega arith, omega arith)

      apart : (o u p v j : ℕ) → ((o ≡ 1) × (u ≡ 0) × (j ≡ mine)) ⊎ ((o ≡ 4) × (u ≡ 3) × (j ≡ theirs)) → ((p ≡ 1) × (v ≡ 0) × (j ≡ mine)) ⊎ ((p ≡ 4) × (v ≡ 3) × (j ≡ theirs)) → o ≡ p
      apart o u p v j (inl h) (inl g) = h.0 ∙ sym g.0
      apart o u p v j (inl h) (inr g) = absurd (differ (sym h.2 ∙ g.2))
      apart o u p v j (inr h) (inl g) = absurd (differ (sym g.2 ∙ h.2))
      apart o u p v j (inr h) (inr g) = h.0 ∙ sym g.0

      at_table : (o t : ℕ) → ((o ≡ 2) × (suc t ≡ 2)) ⊎ ((o ≡ 5) × (suc t ≡ 5)) → (ours t ≡ ours o) × (obj t ≢ gone)
      at_table o t (inl h) = let g = h.1 in (same_side t o 1 2 (omega arith) h.0 refl, there t (omega arith))
      at_table o t (inr h) = let g = h.1 in (same_side t o 4 5 (omega arith) h.0 refl, there t (omega arith))

pub parts : Parts
unfolding object only mine slots_of slot_birth
parts f a = (
  two_parted f a all 1 1 2 (lit≤ tt) (lit≤ tt) (lit≤ tt) (lit≤ tt) (λ e. omega arith),
  two_parted f a no_write 2 2 1 (lit≤ tt) (lit≤ tt) (lit≤ tt) (lit≤ tt) (λ e. omega arith),
  (λ e. let h : ◌≡◌ {A = ℕ} 1 2 = ap slot_birth e in omega arith),
  (λ e. let h : ◌≡◌ {A = ℕ} 2 1 = ap slot_birth e in omega arith),
  same,
  refl,
  λ u h. le-ltb u 3 (omega arith),
)
  where
    slots : (i : ℕ) → SameSlot Cpu f a (get_or (cap 0 all 0 1 0 ∷ []) i empty) (get_or (cap 0 all 0 2 0 ∷ []) i empty)
    slots zero = both_hold
    slots (suc i) = both_empty

    same : (u : ℕ) → u < 6 → ours u ≡ true → SameButBirths Cpu f a (object Cpu f a (two all 1 1 2) u) (object Cpu f a (two no_write 2 2 1) u)
    same zero l h = same_object
    same (suc zero) l h = same_slots refl slots
    same (suc (suc zero)) l h = same_object
    same (suc (suc (suc u))) l h = both_ways h (le-ltb (suc (suc (suc u))) 3 (omega arith))
