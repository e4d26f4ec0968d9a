-- Readers that look at no byte beyond the field at hand: what a reader says of bs it says of every cs with the same bytes so far.
use Rattle.std.proofs.Common.{◌≡◌, ℕ, zero, suc, ◌+◌, ◌-◌, ◌<◌, ◌≤◌, Bool, List, length, Some, None, Ok, Err, Option, refl, ap, subst, arith}
use Rattle.rights.specs.declared.refusals.Refusal.{Refusal}
use Rattle.rights.specs.declared.refusals.Refusal.TheVariants.{Length, Magic, Value, Name, Frames, Event}
use Rattle.std.proofs.lemmas.Bool.Decides.{nat_tests}
use Rattle.image.specs.Fields.{Read, ◌then◌, past, judged, given, each}
use Rattle.image.specs.Prefix.{SameBelow}

module _ (bs cs : List ℕ) (W : Refusal → ℕ) where
  -- a refusal whose field ends at W: it is the same for cs
  abbrev pub Halt : {A : Type 0} → Refusal → ℕ → Read A → Type 0
  Halt (Length p) a s = p ≡ length bs
  Halt Magic a s = (a ≤ W Magic) × (SameBelow (W Magic) bs cs → s ≡ Err Magic)
  Halt (Value p) a s = (a ≤ W (Value p)) × (SameBelow (W (Value p)) bs cs → s ≡ Err (Value p))
  Halt (Name p) a s = (a ≤ W (Name p)) × (SameBelow (W (Name p)) bs cs → s ≡ Err (Name p))
  Halt (Frames f) a s = ⊥
  Halt (Event p) a s = ⊥

  -- a reader that began at a: r is what it says of bs, s what it says of cs, and `end` where it has come
  abbrev pub Told : {A : Type 0} → (A → ℕ) → ℕ → Read A → Read A → Type 0
  Told end a (Ok x) s = (a ≤ end x) × (end x ≤ length bs) × (SameBelow (end x) bs cs → s ≡ Ok x)
  Told end a (Err e) s = Halt e a s

  pub lower : (p q : ℕ) → p ≤ q → SameBelow q bs cs → SameBelow p bs cs
  lower p q l g k h t = g k (omega arith) t

  pub longer : (q : ℕ) → q ≤ length bs → SameBelow q bs cs → q ≤ length cs
  longer q l g = grind (arith, g (q - 1))

  weaken : {A : Type 0} (end : A → ℕ) (a b : ℕ) (r s t : Read A) → a ≤ b → (SameBelow b bs cs → t ≡ s) → Told end b r s → Told end a r t
  weaken end a b r s t l e h = grind (arith, lower)

  -- what a reader says of cs may be put otherwise where the bytes so far are the same
  pub told_same : {A : Type 0} (end : A → ℕ) (a : ℕ) (r s t : Read A) → (SameBelow a bs cs → t ≡ s) → Told end a r s → Told end a r t
  told_same end a r s t e h = weaken end a a r s t (omega arith) e h

  pub told_then : {A B : Type 0} (front : A → ℕ) (end : B → ℕ) (a : ℕ) (r s : Read A) (f g : A → Read B) → Told front a r s →
      ((x : A) → a ≤ front x → front x ≤ length bs → r ≡ Ok x → Told end (front x) (f x) (g x)) → Told end a (r then f) (s then g)
  told_then front end a (Ok x) s f g h more = weaken end a (front x) (f x) (g x) (s then g) h.0 (λ w. ap (λ v. v then g) (h.2 w)) (more x h.0 h.1 refl)
  told_then front end a (Err (Length p)) s f g h more = h
  told_then front end a (Err Magic) s f g h more = (h.0, λ w. ap (λ v. v then g) (h.1 w))
  told_then front end a (Err (Value p)) s f g h more = (h.0, λ w. ap (λ v. v then g) (h.1 w))
  told_then front end a (Err (Name p)) s f g h more = (h.0, λ w. ap (λ v. v then g) (h.1 w))
  told_then front end a (Err (Frames f)) s p g h more = h
  told_then front end a (Err (Event p)) s f g h more = h

  -- bytes that have to be there
  pub told_past : {A : Type 0} (end : A → ℕ) (p w : ℕ) (r s : ℕ → Read A) → (p + w ≤ length bs → Told end (p + w) (r (p + w)) (s (p + w))) →
      Told end p (past bs p w then r) (past cs p w then s)
  told_past end p w r s more = grind (arith, nat_tests, longer (p + w), weaken end p (p + w) (r (p + w)) (s (p + w)) (past cs p w then s), more)

  -- refusals of a field that was judged
  abbrev pub Judging : Type 0 → Refusal → Type 0
  Judging A e = (a : ℕ) (s : Read A) → (a ≤ W e) × (SameBelow (W e) bs cs → s ≡ Err e) → Halt e a s

  -- a test on the field that ends here
  pub told_test : {A : Type 0} (end : A → ℕ) (b : ℕ) (t u : Bool) (e : Refusal) (r s : Read A) → Judging A e → W e ≡ b → (SameBelow b bs cs → u ≡ t) →
      Told end b r s → Told end b (judged t e r) (judged u e s)
  told_test end b t u e r s j w q h = grind (arith, told_same end b r s (judged u e s), j b (judged u e s), q)

  -- something that the field that ends here has to name
  pub told_given : {A X : Type 0} (end : A → ℕ) (b : ℕ) (t u : Option X) (e : Refusal) (r s : X → Read A) → Judging A e → W e ≡ b → (SameBelow b bs cs → u ≡ t) →
      ((x : X) → t ≡ Some x → Told end b (r x) (s x)) → Told end b (given t e then r) (given u e then s)
  told_given end b (Some x) u e r s j w q h = told_same end b (r x) (s x) (given u e then s) (λ g. ap (λ v. given v e then s) (q g)) (h x refl)
  told_given end b None u e r s j w q h =
      j b (given u e then s) (omega (arith, w), λ g. ap (λ v. given v e then s) (q (subst (λ x. SameBelow x bs cs) w g)))

  pub told_ok : {A : Type 0} (end : A → ℕ) (a : ℕ) (x : A) → a ≤ end x → end x ≤ length bs → Told end a (Ok x) (Ok x)
  told_ok end a x l h = (l, h, λ _. refl)

  -- readers one after the other, up to the one with number m, from a place lo on; `end i` is where reader i begins
  pub told_each : {A : Type 0} (end : ℕ → A → ℕ) (lo m : ℕ) (f g : ℕ → A → Read A) →
      ((i : ℕ) (a : A) → i < m → lo ≤ end i a → end i a ≤ length bs → Told (end (suc i)) (end i a) (f i a) (g i a)) →
      (k i : ℕ) (a : A) → i + k ≤ m → lo ≤ end i a → end i a ≤ length bs → Told (end (i + k)) (end i a) (each f k i a) (each g k i a)
  unfolding each
  told_each end lo m f g turn zero i a n l h = let e : i + 0 ≡ i = omega arith in rw e (omega arith, h, λ _. refl)
  told_each end lo m f g turn (suc k) i a n l h =
      let e : i + suc k ≡ suc i + k = omega arith in
      rw e
      (told_then (end (suc i)) (end (suc i + k)) (end i a) (f i a) (g i a) (each f k (suc i)) (each g k (suc i)) (turn i a (omega arith) l h)
      (λ b low high q. told_each end lo m f g turn k (suc i) b (omega arith) (omega arith) high))
