-- Folds and loops that read: what is left to read from here is what was to be read from the start.
use Rattle.std.proofs.Common.{◌≡◌, ℕ, zero, suc, ◌+◌, ◌-◌, ◌<◌, ◌≤◌, List, [], ◌∷◌, length, Option, Some, None, Ok, Err, refl, sym, ap, subst, ◌∙◌, add-one, arith}
use denote.Param.Members.{Mut, Called}
use Rattle.std.specs.declared.ops.Range.{Range}
use Rattle.std.specs.declared.ops.ControlFlow.{ControlFlow}
use Rattle.std.specs.declared.ops.ControlFlow.TheVariants.{Continue, Break}
use Rattle.std.proofs.lemmas.Result.{err_from_is_err_and}
use Rattle.std.below.core.specs.declared.result.ErrResidual.{ErrResidual}
use Rattle.std.specs.Option.{MatchOption}
use Rattle.std.specs.Result.{IsErr, IsErrAnd, result_from_control_flow}
use Rattle.std.specs.List.{FoldsTo}
use Rattle.std.specs.Iterator.{Yields, TryFoldTurn, TryFoldsItems}
use Rattle.std.proofs.lemmas.Bool.{lt-ltb, le-ltb}
use Rattle.std.proofs.lemmas.Bool.Decides.{nat_tests}
use Rattle.rights.specs.declared.refusals.Refusal.{Refusal}
use Rattle.image.specs.Fields.{Read, each}
use Rattle.image.specs.Layout.{begins, takes, filled}
use Rattle.image.specs.Events.{event, events_from}

pub goes_on : {A : Type 0} (f : ℕ → A → Read A) (n i : ℕ) (a b : A) → i < n → Ok b ≡ f i a → each f (n - i) i a ≡ each f (n - (i + 1)) (i + 1) b
unfolding each
goes_on f n i a b l e = let k : n - i ≡ suc (n - (i + 1)) = omega arith in rw (k, ← e, add-one)

pub stops : {A : Type 0} (f : ℕ → A → Read A) (n i : ℕ) (a : A) (e : Refusal) → i < n → Err e ≡ f i a → each f (n - i) i a ≡ Err e
unfolding each
stops f n i a e l h = let k : n - i ≡ suc (n - (i + 1)) = omega arith in rw (k, ← h)

pub ends : {A : Type 0} (f : ℕ → A → Read A) (n i : ℕ) (a : A) → n ≤ i → each f (n - i) i a ≡ Ok a
unfolding each
ends f n i a l = let e : n - i ≡ 0 = omega arith in rw e

-- the same of the frames
pub fills_on : (bs : List ℕ) (n i u v : ℕ) → i < n → v ≡ begins bs i u + takes bs i → filled bs (n - i) i u ≡ filled bs (n - (i + 1)) (i + 1) v
unfolding filled
fills_on bs n i u v l e = let k : n - i ≡ suc (n - (i + 1)) = omega arith in rw (k, e, add-one)

pub filled_up : (bs : List ℕ) (n i u : ℕ) → n ≤ i → filled bs (n - i) i u ≡ u
unfolding filled
filled_up bs n i u l = let e : n - i ≡ 0 = omega arith in rw e

-- and of events
pub event_on : (bs es : List ℕ) (n k a b : ℕ) → length es ≤ a + k → a < length es → Ok b ≡ event bs n es a → (j : ℕ) × (k ≡ suc j) × (events_from bs n es k a ≡ events_from bs n es j b)
unfolding events_from
event_on bs es n zero a b h l e = absurd (omega arith)
event_on bs es n (suc k) a b h l e = (k, refl, rw (lt-ltb a (length es) l, ← e))

pub event_stops : (bs es : List ℕ) (n k a : ℕ) (e : Refusal) → length es ≤ a + k → a < length es → Err e ≡ event bs n es a → events_from bs n es k a ≡ Err e
unfolding events_from
event_stops bs es n zero a e h l q = absurd (omega arith)
event_stops bs es n (suc k) a e h l q = rw (lt-ltb a (length es) l, ← q)

pub events_end : (bs es : List ℕ) (n k a : ℕ) → length es ≤ a → events_from bs n es k a ≡ Ok a
unfolding events_from
events_end bs es n zero a l = refl
events_end bs es n (suc k) a l = rw (le-ltb a (length es) l)

pub event_grows : (bs es : List ℕ) (n a b : ℕ) → Ok b ≡ event bs n es a → a < b
event_grows bs es n a b e = grind (arith, nat_tests)

-- `try_fold` over the numbers from a start to an end, by a step that answers what f does and stays as it was, reads as `each` does
module _ {F A : Type 0} (g : Mut F (A × (ℕ × Unit {0})) (Read A)) (step : F) (f : ℕ → A → Read A) (answers : (a : A) (i : ℕ) (r : Read A) (q : F) → Called g step (a, (i, tt)) r q → (q ≡ step) × (r ≡ f i a)) where
  abbrev counts : Range ℕ → Option ℕ → Range ℕ → Type 0
  counts s o t = (t.end ≡ s.end) × MatchOption o ((s.end - s.start ≡ 0) × (t.start ≡ s.start)) (λ x. (0 < s.end - s.start) × (x ≡ s.start) × (t.start ≡ s.start + 1))

  abbrev branches : Read A → ControlFlow (ErrResidual Refusal) A → Type 0
  branches r c = r ≡ result_from_control_flow c

  abbrev resumes : ErrResidual Refusal → Read A → Type 0
  resumes e r = IsErr r × IsErrAnd r (λ x. x ≡ e.0)

  abbrev rest : Range ℕ → A → Read A
  rest s a = each f (s.end - s.start) s.start a

  turn : (s t : Range ℕ) (x : ℕ) (a b : A) → counts s (Some x) t → Ok b ≡ f x a → rest s a ≡ rest t b
  turn s t x a b h e = rw (h.0, h.1.2) (goes_on f s.end s.start a b (omega arith) (subst (λ i. Ok b ≡ f i a) h.1.1 e))

  turns : (xs : List ℕ) (s t : Range ℕ) (q : F) (a b : A) → Yields counts s xs t → FoldsTo {P = F × A} (TryFoldTurn g branches) (step, a) xs (q, b) → (rest s a ≡ rest t b) × (q ≡ step)
  turns [] s t q a b y d = (subst (λ (k : Range ℕ). rest s a ≡ rest k b) y (ap (rest s) (ap (λ (v : F × A). v.1) d)), ap (λ (v : F × A). v.0) (sym d))
  turns (x ∷ xs) s t q a b y d =
      let k = answers a x d.1.0 d.0.0 d.1.1 in
      let more = turns xs y.0 t q d.0.1 b y.2 (subst (λ (z : F). FoldsTo {P = F × A} (TryFoldTurn g branches) (z, d.0.1) xs (q, b)) k.0 d.2) in
      (turn s y.0 x a d.0.1 y.1 (sym d.1.2 ∙ k.1) ∙ more.0, more.1)

  last : (o : Option ℕ) (t u : Range ℕ) (q : F) (b : A) (r : Read A) → q ≡ step → counts t o u →
      MatchOption o (branches r (Continue b)) (λ x. (v : Read A) × (h : F) × (e : ErrResidual Refusal) × Called g q (b, (x, tt)) v h × branches v (Break e) × resumes e r) →
      r ≡ rest t b
  last None t u q b r j y m = m ∙ sym (ends f t.end t.start b (omega arith))
  last (Some x) t u q b r j y m =
      let k = err_from_is_err_and r m.5.1 in
      let c = answers b x m.0 m.1 (subst (λ (z : F). Called g z (b, (x, tt)) m.0 m.1) j m.3) in
      let e : Err m.2.0 ≡ f t.start b = sym m.4 ∙ subst (λ i. m.0 ≡ f i b) y.1.1 c.1 in
      k.1 ∙ ap Err k.2 ∙ sym (stops f t.end t.start b m.2.0 (omega arith) e)

  pub folds : (n : ℕ) (u : Range ℕ) (a : A) (r : Read A) → TryFoldsItems counts g branches resumes (record { start = 0; end = n }) step a r u → r ≡ each f n 0 a
  folds n u a r d =
      let k = turns d.0 (record { start = 0; end = n }) d.4.0 d.2 a d.3 d.4.1 d.5 in
      let z : n - 0 ≡ n = omega arith in
      last d.1 d.4.0 u d.2 d.3 r k.1 d.4.2 d.6 ∙ sym k.0 ∙ ap (λ m. each f m 0 a) z
