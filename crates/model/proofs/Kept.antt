-- A sound world stays sound: what calls do to one object.
use Rattle.std.proofs.Common.{◌≡◌, ℕ, Bool, true, false, cond, ◌&&◌, ltb, List, [], ◌∷◌, ◌++◌, length, Some, sym, refl, ap, ◌∙◌, subst, inl, inr}
use Rattle.std.specs.Option.{is_none}
use Rattle.rights.specs.declared.answers.Answer.{Answer}
use Rattle.rights.specs.declared.answers.Answer.TheVariants.{No, Done}
use Rattle.rv32.specs.declared.registers.Cpu.{Cpu}
use Rattle.model.specs.declared.objects.Mapping.{Mapping}
use Rattle.model.specs.declared.objects.State.{State}
use Rattle.model.specs.declared.objects.Thread.{Thread}
use Rattle.model.specs.Plain as p
use Rattle.model.specs.Calls as calls
use Rattle.model.specs.Turns as turns
use Rattle.model.specs.Sound.{Sound}
use Rattle.model.proofs.Lists.{wrote}
use Rattle.model.proofs.Keeping.{Fit, by_thread, by_line, same_fit, line_fit, thread_fit}

pub by_cond : {A : Type 0} (P : A → Type 0) (b : Bool) (x y : A) → P x → P y → P (cond b x y)
by_cond P true x y h k = h
by_cond P false x y h k = k

module _ (v : p.Whole) (so : Sound v) (o : ℕ) where
  abbrev x : p.Thing
  x = p.object v o

  as_left : p.Left → Type 0
  as_left l = Fit v (p.object v o) l.it

  -- lines
  pub says_fit : (b : ℕ) → Fit v (p.object v o) (calls.says b (p.object v o)).it
  says_fit b =
      by_line (λ l. Fit v (p.object v o) l.it) (p.object v o) (p.left (p.object v o) No) (λ xs ys. p.left (p.line (xs ++ b ∷ []) ys) Done) (same_fit v so o)
      (λ xs ys e. subst (λ z. Fit v z (p.line (xs ++ b ∷ []) ys)) (sym e) (line_fit v xs ys (xs ++ b ∷ []) ys))

  heard_line : (xs ys : List ℕ) → (zs : List ℕ) × ((calls.heard_by xs ys).it ≡ p.line xs zs)
  heard_line xs [] = ([], refl)
  heard_line xs (y ∷ ys) = (ys, refl)

  pub hears_fit : Fit v (p.object v o) (calls.hears (p.object v o)).it
  hears_fit =
      by_line (λ l. Fit v (p.object v o) l.it) (p.object v o) (p.left (p.object v o) No) calls.heard_by (same_fit v so o)
      (λ xs ys e. let h = heard_line xs ys in subst (λ z. Fit v z (calls.heard_by xs ys).it) (sym e) (subst (λ z. Fit v (p.line xs ys) z) (sym h.1) (line_fit v xs ys xs h.0)))

  pub comes_fit : (b : ℕ) → Fit v (p.object v o) (calls.comes_in b (p.object v o))
  comes_fit b =
      by_line (λ l. Fit v (p.object v o) l) (p.object v o) (p.object v o) (λ xs ys. p.line xs (cond (ltb (length ys) 1024) (ys ++ b ∷ []) ys)) (same_fit v so o)
      (λ xs ys e. subst (λ z. Fit v z (p.line xs (cond (ltb (length ys) 1024) (ys ++ b ∷ []) ys))) (sym e) (line_fit v xs ys xs (cond (ltb (length ys) 1024) (ys ++ b ∷ []) ys)))

  -- threads: pages stay, or are added or taken away
  same_pages : (t s : Thread) → p.object v o ≡ p.thread t → s.pages ≡ t.pages → Fit v (p.object v o) (p.thread s)
  same_pages t s e h =
      subst (λ z. Fit v z (p.thread s)) (sym e) (thread_fit v t s (λ k n g. so.paged o k n t e (ap (λ ps. p.page_at ps k) (sym h) ∙ g)))

  pub starts_fit : (c : Cpu) (s : State) (a : Answer) → ((t : Thread) → Bool) → Fit v (p.object v o) (turns.set_state s c (p.object v o))
  starts_fit c s a b =
      by_thread (λ l. Fit v (p.object v o) l) (p.object v o) (p.object v o) (λ t. p.thread (calls.with_state t s c)) (same_fit v so o)
      (λ t e. same_pages t (calls.with_state t s c) e refl)

  pub state_fit : (s : State) (c : Cpu) → Fit v (p.object v o) (turns.set_state s c (p.object v o))
  state_fit s c = starts_fit c s No (λ t. true)

  pub starts_left_fit : (a : ℕ) → Fit v (p.object v o) (calls.starts a (p.object v o)).it
  starts_left_fit a =
      by_thread (λ l. Fit v (p.object v o) l.it) (p.object v o) (p.left (p.object v o) No) _ (same_fit v so o)
      (λ t e. by_cond {A = p.Left} (λ l. Fit v (p.object v o) l.it) (calls.is_stopped t.state) _ _ (same_pages t _ e refl) (same_fit v so o))

  pub binds_fit : (n : ℕ) → Fit v (p.object v o) (calls.binds n (p.object v o)).it
  binds_fit n =
      by_thread (λ l. Fit v (p.object v o) l.it) (p.object v o) (p.left (p.object v o) No) _ (same_fit v so o)
      (λ t e. by_cond {A = p.Left} (λ l. Fit v (p.object v o) l.it) (calls.is_stopped t.state) _ _ (same_pages t (calls.with_table t n) e refl) (same_fit v so o))

  pub resumed_fit : (a : Answer) → Fit v (p.object v o) (calls.resumed_one (p.object v o) a)
  resumed_fit a =
      by_thread (λ l. Fit v (p.object v o) l) (p.object v o) (p.object v o) _ (same_fit v so o) (λ t e. same_pages t _ e refl)

  paged_with : (t : Thread) (a : ℕ) (m : Mapping) → p.object v o ≡ p.thread t → ((n : ℕ) → p.page_in m ≡ Some n → calls.is_page (p.object v n) ≡ true) →
      Fit v (p.object v o) (p.thread (calls.with_page t a m))
  paged_with t a m e h =
      subst (λ z. Fit v z (p.thread (calls.with_page t a m))) (sym e)
      (thread_fit v t (calls.with_page t a m)
      (λ k n g. elim (wrote t.pages a k m p.unmapped) [ inl q ↦ so.paged o k n t e (sym (paged q) ∙ g) | inr q ↦ h n (sym (paged q.1) ∙ g) ]))
    where
      paged : {x y : Mapping} → x ≡ y → p.page_in x ≡ p.page_in y
      paged q = ap p.page_in q

  pub maps_fit : (a n : ℕ) (m : Bool) → calls.is_page (p.object v n) ≡ true → Fit v (p.object v o) (calls.maps a n m (p.object v o)).it
  maps_fit a n m h =
      by_thread (λ l. Fit v (p.object v o) l.it) (p.object v o) (p.left (p.object v o) No) _ (same_fit v so o)
      (λ t e. by_cond {A = p.Left} (λ l. Fit v (p.object v o) l.it) (ltb a 64 && is_none (p.page_at t.pages a)) _ _
      (paged_with t a (p.mapping_of (Some n) m) e (λ i q. let r : n ≡ i = cc in subst (λ k. calls.is_page (p.object v k) ≡ true) r h)) (same_fit v so o))

  pub unmaps_fit : (a : ℕ) → Fit v (p.object v o) (calls.unmaps a (p.object v o)).it
  unmaps_fit a =
      by_thread (λ l. Fit v (p.object v o) l.it) (p.object v o) (p.left (p.object v o) No) _ (same_fit v so o)
      (λ t e. by_cond {A = p.Left} (λ l. Fit v (p.object v o) l.it) (ltb a 64) _ _
      (paged_with t a p.unmapped e (λ i q. cc)) (same_fit v so o))
