-- Rights never grow by calls: what was made through others, of which some are in no slot any more, has no right that the first lacks, as long as both hold the same object.
use mathlib.Core.Path.{◌≡◌, refl, sym, ap, subst, ◌∙◌}
use mathlib.Core.Bool.{true, false}
use mathlib.Core.List.{List, ◌∷◌}
use mathlib.Core.Logic.{◌⊎◌, inl, inr}
use Prim.Native.Nat.{ℕ, ◌≤◌, ◌<◌}
use native.Mathlib.Omega.{arith}
use Rattle.rights.specs.World.{Rights, Slot, cap, Act, gone, object, Sizes, World, Event, slot_object, slot_rights, slot_birth, slot_mother, is_empty, cleared, run}
use Rattle.rights.specs.Promise.{Parted}
use Rattle.rights.specs.Effects.{NoMoreByCallsIn, NoMoreByCalls}
use Rattle.laws.proofs.Steps.{NoWider, to, In, Born, Change}
use Rattle.laws.proofs.Pass.{run_keeps}
use Rattle.laws.proofs.Caps.{in_small, in_swept, full_in, Good, good_first}
use Rattle.laws.proofs.Makings.{Entry, here, beyond, Chain, single, further, made_chain}

-- a slot is in a list
data Listed (y : Slot) : List Slot → Type 0 where
  first : {x : Slot} {xs : List Slot} → y ≡ x → Listed y (x ∷ xs)
  later : {x : Slot} {xs : List Slot} → Listed y xs → Listed y (x ∷ xs)

module _ (Cpu : Type 0) (fresh : ℕ → Cpu) (act : Cpu → (ℕ → ℕ) → Act Cpu) where
  -- a capability that is in a slot, or that is recorded
  Known : World Cpu → Slot → Type 0
  Known w y = In Cpu fresh act w y ⊎ Listed y w.lineage

  -- what is recorded is to the object of the one it was made from, with no more rights, or to a later object
  record Narrow (w : World Cpu) : Type 0 where
    low : (y : Slot) → Known w y → slot_birth y ≤ w.births
    mothers : (y : Slot) → Listed y w.lineage → slot_mother y ≤ w.births
    same : (x y : Slot) → Known w x → Known w y → slot_birth x ≡ slot_birth y → x ≡ y
    less : (x y : Slot) → Listed x w.lineage → Known w y → slot_mother x ≡ slot_birth y → (slot_object y ≤ slot_object x) × (slot_object x ≡ slot_object y → NoWider (slot_rights x) (slot_rights y))

  narrow_small : {b w : World Cpu} → Change Cpu fresh act b w → Narrow b → Narrow w
  unfolding Known
  narrow_small {b} {w} c g =
      record {
        low = λ y h. low' y (old_or_new y h);
        mothers = λ y h. mothers' y (listed y h);
        same = λ x y h k e. same' x y e (old_or_new x h) (old_or_new y k);
        less = λ x y h k e. less' x y e (listed x h) (old_or_new y k);
      }
    where
      New : Slot → Type 0
      New y = (y ≡ c.new) × (is_empty c.new ≡ false)

      listed : (y : Slot) → Listed y w.lineage → Listed y b.lineage ⊎ New y
      listed y h = go c.lines
        where
          top : Listed y (c.new ∷ b.lineage) → is_empty c.new ≡ false → Listed y b.lineage ⊎ New y
          top (first e) n = inr (e, n)
          top (later r) n = inl r

          go : (w.lineage ≡ b.lineage) ⊎ ((w.lineage ≡ c.new ∷ b.lineage) × (is_empty c.new ≡ false)) → Listed y b.lineage ⊎ New y
          go (inl e) = inl (subst (Listed y) e h)
          go (inr e) = top (subst (Listed y) e.0 h) e.1

      old_or_new : (y : Slot) → Known w y → Known b y ⊎ New y
      old_or_new y (inl h) = go (in_small Cpu fresh act c y h)
        where
          go : In Cpu fresh act b y ⊎ (y ≡ c.new) → Known b y ⊎ New y
          go (inl k) = inl (inl k)
          go (inr e) = inr (e, subst (λ (s : Slot). is_empty s ≡ false) e (full_in Cpu fresh act w y h))
      old_or_new y (inr h) = go (listed y h)
        where
          go : Listed y b.lineage ⊎ New y → Known b y ⊎ New y
          go (inl k) = inl (inr k)
          go (inr e) = inr e

      low' : (y : Slot) → Known b y ⊎ New y → slot_birth y ≤ w.births
      low' y (inl k) = let a = g.low y k in let m = c.more in omega arith
      low' y (inr (e, n)) = let q = c.birth n in let a = q.now in let m = q.counted in let d = ap slot_birth e in omega arith

      mothers' : (y : Slot) → Listed y b.lineage ⊎ New y → slot_mother y ≤ w.births
      mothers' y (inl k) = let a = g.mothers y k in let m = c.more in omega arith
      mothers' y (inr (e, n)) = let q = c.birth n in let a = g.low q.mother (inl q.here) in let m = c.more in let d = ap slot_mother e in let f = q.from_it in omega arith

      same' : (x y : Slot) → slot_birth x ≡ slot_birth y → Known b x ⊎ New x → Known b y ⊎ New y → x ≡ y
      same' x y e (inl h) (inl k) = g.same x y h k e
      same' x y e (inl h) (inr (k, n)) = let a = g.low x h in let q = (c.birth n).now in let d = ap slot_birth k in absurd (omega arith)
      same' x y e (inr (h, n)) (inl k) = let a = g.low y k in let q = (c.birth n).now in let d = ap slot_birth h in absurd (omega arith)
      same' x y e (inr (h, n)) (inr (k, m)) = h ∙ sym k

      less' : (x y : Slot) → slot_mother x ≡ slot_birth y → Listed x b.lineage ⊎ New x → Known b y ⊎ New y → (slot_object y ≤ slot_object x) × (slot_object x ≡ slot_object y → NoWider (slot_rights x) (slot_rights y))
      less' x y e (inl h) (inl k) = g.less x y h k e
      less' x y e (inl h) (inr (k, n)) = let a = g.mothers x h in let q = (c.birth n).now in let d = ap slot_birth k in absurd (omega arith)
      less' x y e (inr (h, n)) (inr (k, m)) =
          let q = c.birth n in let a = g.low q.mother (inl q.here) in let f = q.from_it in let i = q.now in let d = ap slot_mother h in let l = ap slot_birth k in absurd (omega arith)
      less' x y e (inr (h, n)) (inl k) = subst (λ (s : Slot). (slot_object y ≤ slot_object s) × (slot_object s ≡ slot_object y → NoWider (slot_rights s) (slot_rights y))) (sym h) (go q.leads)
        where
          q : Born Cpu fresh act b w c.new
          q = c.birth n

          it : q.mother ≡ y
          it = g.same q.mother y (inl q.here) k (sym q.from_it ∙ sym (ap slot_mother h) ∙ e)

          go : ((slot_object c.new ≡ slot_object q.mother) × NoWider (slot_rights c.new) (slot_rights q.mother)) ⊎ ((object Cpu fresh act w (to c.new) ≡ gone → ⊥) × (slot_object q.mother < slot_object c.new)) →
              (slot_object y ≤ slot_object c.new) × (slot_object c.new ≡ slot_object y → NoWider (slot_rights c.new) (slot_rights y))
          go (inl r) = (let a = r.0 in let d = ap slot_object it in omega arith, λ _. subst (λ (s : Slot). NoWider (slot_rights c.new) (slot_rights s)) it r.1)
          go (inr r) = (let a = r.1 in let d = ap slot_object it in omega arith, λ l. let a = r.1 in let d = ap slot_object it in absurd (omega arith))

  narrow_sweep : (w : World Cpu) (ids os : List ℕ) → Narrow w → Narrow (cleared Cpu fresh act w ids os)
  unfolding Known cleared
  narrow_sweep w ids os g = record { low = λ y h. g.low y (before y h); mothers = g.mothers; same = λ x y h k e. g.same x y (before x h) (before y k) e; less = λ x y h k e. g.less x y h (before y k) e }
    where
      before : (y : Slot) → Known (cleared Cpu fresh act w ids os) y → Known w y
      before y (inl h) = inl (in_swept Cpu fresh act w ids os y h).0
      before y (inr h) = inr h

  narrow_first : (v : World Cpu) → Parted Cpu fresh act (λ o. true) v → Narrow v
  unfolding Known
  narrow_first v p =
      record { low = λ y h. (good.low y (in_slot y h)).0; mothers = λ y h. none y h; same = λ x y h k e. good.uniq x y (in_slot x h) (in_slot y k) e; less = λ x y h k e. none x h }
    where
      good : Good Cpu fresh act v
      good = good_first Cpu fresh act v p

      none : {A : Type 0} (y : Slot) → Listed y v.lineage → A
      none y h = elim (subst (Listed y) p.nothing_made h) [ ]

      in_slot : (y : Slot) → Known v y → In Cpu fresh act v y
      in_slot y (inl h) = h
      in_slot y (inr h) = none y h

  narrow_run : (z : Sizes) (w : World Cpu) (es : List Event) → Narrow w → Narrow (run Cpu fresh act z w es)
  narrow_run z w es = run_keeps Cpu fresh act Narrow (λ w v c g. narrow_small c g) (λ w ids os c g. narrow_sweep w ids os g) z w es

  entry_listed : {j k : ℕ} {xs : List Slot} → Entry Cpu fresh act j k xs → (x : Slot) × Listed x xs × (slot_mother x ≡ j) × (slot_birth x ≡ k)
  entry_listed (here {y} n m b) = (y, first refl, m, b)
  entry_listed (beyond e) = let h = entry_listed e in (h.0, later h.1, h.2, h.3)

  -- through any others
  narrow_chain : (w : World Cpu) → Narrow w → {j k : ℕ} → Chain Cpu fresh act w.lineage j k → (y : Slot) → Known w y → slot_birth y ≡ j →
      (x : Slot) × Listed x w.lineage × (slot_birth x ≡ k) × (slot_object y ≤ slot_object x) × (slot_object x ≡ slot_object y → NoWider (slot_rights x) (slot_rights y))
  unfolding Known NoWider
  narrow_chain w g (single e) y h b = let l = entry_listed e in let r = g.less l.0 y l.1 h (l.2 ∙ sym b) in (l.0, l.1, l.3, r.0, r.1)
  narrow_chain w g (further c e) y h b =
      let i = narrow_chain w g c y h b in
      let l = entry_listed e in
      let r = g.less l.0 i.0 l.1 (inr i.1) (l.2 ∙ sym i.2) in
      (l.0, l.1, l.3, (let a = i.3 in let d = r.0 in omega arith), λ q. wider (r.1 (let a = i.3 in let d = r.0 in omega arith)) (i.4 (let a = i.3 in let d = r.0 in omega arith)))
    where
      wider : {r q s : Rights} → NoWider r q → NoWider q s → NoWider r s
      wider a b = ((λ h. b.0 (a.0 h)), (λ h. b.1 (a.1 h)), λ h. b.2 (a.2 h))

  pub no_more_by_calls : NoMoreByCalls Cpu fresh act
  unfolding NoMoreByCalls NoMoreByCallsIn Known In NoWider is_empty slot_birth slot_object slot_rights
  no_more_by_calls z v es j k o i u b m p l c n r q start made a d =
      let w = run Cpu fresh act z v es in
      let g = narrow_run z v es (narrow_first v start) in
      let h = narrow_chain w g (made_chain Cpu fresh act z v es j k made) (cap u r b j m) (inl (o, i, a, refl)) refl in
      let s = g.same h.0 (cap u q c k n) (inr h.1) (inl (p, l, d, refl)) h.2 in
      subst (λ (x : Slot). NoWider (slot_rights x) r) s (h.4 (ap slot_object s))
