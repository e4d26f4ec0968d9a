-- A sound world stays sound: one object in the place of another.
use Rattle.std.proofs.Common.{◌≡◌, ℕ, ◌<◌, ◌≤◌, true, List, length, Some, Option, sym, refl, ap, ◌∙◌, inl, inr, arith}
use Rattle.model.specs.declared.objects.Capability.{Capability}
use Rattle.model.specs.declared.objects.Thread.{Thread}
use Rattle.model.specs.declared.objects.Wait.{Wait}
use Rattle.model.specs.Plain as p
use Rattle.model.specs.Calls as calls
use Rattle.model.specs.Sound.{Sound}
use Rattle.model.proofs.Slots.{after_put}

-- y may stand in the place of x
pub record Fit (v : p.Whole) (x y : p.Thing) : Type 0 where
  pub from : p.from_of y ≡ p.from_of x
  pub slots : (s : ℕ) (c : Capability) → p.slot_at y s ≡ Some c → c.birth ≤ v.births
  pub page : calls.is_page x ≡ true → calls.is_page y ≡ true
  pub full : (f : Option ℕ) (bs : List ℕ) → y ≡ p.page f bs → length bs ≡ 4096
  pub space : (t : Thread) (k n : ℕ) → y ≡ p.thread t → p.page_at t.pages k ≡ Some n → calls.is_page (p.object v n) ≡ true

pub put_sound : (v : p.Whole) → Sound v → (o : ℕ) (y : p.Thing) → Fit v (p.object v o) y → Sound (p.with_object v o y)
unfolding p.with_object
put_sound v so o y f =
    record {
      dense = so.dense;
      counted = so.counted;
      born = λ n s c h. born' n s c h;
      after = λ n g h. after' n g h;
      full = λ n g bs h. full' n g bs h;
      paged = λ q k n t e h. still n (space' q k n t e h);
    }
  where
    u : p.Whole
    u = p.with_object v o y

    born' : (n s : ℕ) (c : Capability) → p.slot_at (p.object (p.with_object v o y) n) s ≡ Some c → c.birth ≤ v.births
    born' n s c h =
        elim (after_put v o n y) [
          | inl e ↦ so.born n s c (ap (λ x. p.slot_at x s) (sym e) ∙ h)
          | inr e ↦ f.slots s c (ap (λ x. p.slot_at x s) (sym e.1) ∙ h)
        ]

    after' : (n g : ℕ) → p.from_of (p.object (p.with_object v o y) n) ≡ Some g → g < n
    after' n g h =
        elim (after_put v o n y) [
          | inl e ↦ so.after n g (ap p.from_of (sym e) ∙ h)
          | inr e ↦ (let k = so.after o g (sym f.from ∙ ap p.from_of (sym e.1) ∙ h) in omega (arith, k, e.0))
        ]

    full' : (n : ℕ) (g : Option ℕ) (bs : List ℕ) → p.object (p.with_object v o y) n ≡ p.page g bs → length bs ≡ 4096
    full' n g bs h = elim (after_put v o n y) [ inl e ↦ so.full n g bs (sym e ∙ h) | inr e ↦ f.full g bs (sym e.1 ∙ h) ]

    space' : (q k n : ℕ) (t : Thread) → p.object (p.with_object v o y) q ≡ p.thread t → p.page_at t.pages k ≡ Some n → calls.is_page (p.object v n) ≡ true
    space' q k n t e h = elim (after_put v o q y) [ inl g ↦ so.paged q k n t (sym g ∙ e) h | inr g ↦ f.space t k n (sym g.1 ∙ e) h ]

    still : (n : ℕ) → calls.is_page (p.object v n) ≡ true → calls.is_page (p.object (p.with_object v o y) n) ≡ true
    still n h =
        elim (after_put v o n y) [
          | inl e ↦ ap calls.is_page e ∙ h
          | inr e ↦ ap calls.is_page e.1 ∙ f.page (ap (λ k. calls.is_page (p.object v k)) (sym e.0) ∙ h)
        ]

-- by kinds: what holds of the default, and of what is made of an object of the kind, holds of either
pub by_pool : {A : Type 0} (P : A → Type 0) (x : p.Thing) (a : A) (f : Option ℕ → ℕ → ℕ → A) → P a → ((h : Option ℕ) (n u : ℕ) → x ≡ p.pool h n u → P (f h n u)) → P (p.on_pool x a f)
by_pool P (p.pool g n u) a f base one = one g n u refl
by_pool P _ a f base one = base

pub by_table : {A : Type 0} (P : A → Type 0) (x : p.Thing) (a : A) (f : Option ℕ → List (Option Capability) → A) → P a → ((h : Option ℕ) (ss : List (Option Capability)) → x ≡ p.table h ss → P (f h ss)) → P (p.on_table x a f)
by_table P (p.table g ss) a f base one = one g ss refl
by_table P _ a f base one = base

pub by_port : {A : Type 0} (P : A → Type 0) (x : p.Thing) (a : A) (f : Option ℕ → List Wait → A) → P a → ((h : Option ℕ) (ws : List Wait) → x ≡ p.port h ws → P (f h ws)) → P (p.on_port x a f)
by_port P (p.port g ws) a f base one = one g ws refl
by_port P _ a f base one = base

pub by_page : {A : Type 0} (P : A → Type 0) (x : p.Thing) (a : A) (f : Option ℕ → List ℕ → A) → P a → ((h : Option ℕ) (bs : List ℕ) → x ≡ p.page h bs → P (f h bs)) → P (p.on_page x a f)
by_page P (p.page g bs) a f base one = one g bs refl
by_page P _ a f base one = base

pub by_thread : {A : Type 0} (P : A → Type 0) (x : p.Thing) (a : A) (f : Thread → A) → P a → ((t : Thread) → x ≡ p.thread t → P (f t)) → P (p.on_thread x a f)
by_thread P (p.thread t) a f base one = one t refl
by_thread P _ a f base one = base

pub by_line : {A : Type 0} (P : A → Type 0) (x : p.Thing) (a : A) (f : List ℕ → List ℕ → A) → P a → ((xs ys : List ℕ) → x ≡ p.line xs ys → P (f xs ys)) → P (p.on_line x a f)
by_line P (p.line xs ys) a f base one = one xs ys refl
by_line P _ a f base one = base

-- FITS of one kind
module _ (v : p.Whole) where
  pub same_fit : Sound v → (o : ℕ) → Fit v (p.object v o) (p.object v o)
  same_fit so o =
      record { from = refl; slots = λ s c h. so.born o s c h; page = λ h. h; full = λ f bs e. so.full o f bs e; space = λ t k n e h. so.paged o k n t e h }

  pub line_fit : (a b c d : List ℕ) → Fit v (p.line a b) (p.line c d)
  line_fit a b c d =
      record {
        from = refl;
        slots = λ s c h. cc;
        page = λ h. h;
        full = λ f bs e. cc;
        space = λ t k n e h. cc;
      }

  pub port_fit : (f : Option ℕ) (q r : List Wait) → Fit v (p.port f q) (p.port f r)
  port_fit f q r =
      record {
        from = refl;
        slots = λ s c h. cc;
        page = λ h. h;
        full = λ f bs e. cc;
        space = λ t k n e h. cc;
      }

  pub pool_fit : (f : Option ℕ) (n u m w : ℕ) → Fit v (p.pool f n u) (p.pool f m w)
  pool_fit f n u m w =
      record {
        from = refl;
        slots = λ s c h. cc;
        page = λ h. h;
        full = λ f bs e. cc;
        space = λ t k n e h. cc;
      }

  pub page_fit : (f : Option ℕ) (bs cs : List ℕ) → length cs ≡ 4096 → Fit v (p.page f bs) (p.page f cs)
  page_fit f bs cs l =
      record {
        from = refl;
        slots = λ s c h. cc;
        page = λ h. h;
        full = λ g ds e. (let q : cs ≡ ds = cc in ap length (sym q) ∙ l);
        space = λ t k n e h. cc;
      }

  pub table_fit : (f : Option ℕ) (ss rs : List (Option Capability)) → ((s : ℕ) (c : Capability) → p.slot_at (p.table f rs) s ≡ Some c → c.birth ≤ v.births) → Fit v (p.table f ss) (p.table f rs)
  table_fit f ss rs h =
      record {
        from = refl;
        slots = h;
        page = λ h. h;
        full = λ g ds e. cc;
        space = λ t k n e h. cc;
      }

  pub thread_fit : (t s : Thread) → ((k n : ℕ) → p.page_at s.pages k ≡ Some n → calls.is_page (p.object v n) ≡ true) → Fit v (p.thread t) (p.thread s)
  thread_fit t s h =
      record {
        from = refl;
        slots = λ s c h. cc;
        page = λ h. h;
        full = λ g ds e. cc;
        space = λ r k n e g. (let q : s ≡ r = cc in h k n (ap (λ x. p.page_at x.pages k) q ∙ g));
      }
