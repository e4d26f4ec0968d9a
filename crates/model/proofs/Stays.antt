-- A sound world stays sound: slots, births, what is cut, what is swept.
use Rattle.std.proofs.Common.{◌≡◌, ℕ, zero, suc, ◌+◌, ◌<◌, ◌≤◌, Bool, true, false, cond, ◌||◌, true≢false, ◌⊎◌, List, [], ◌∷◌, ◌++◌, length, replicate, get_or, set, Some, None, Option, sym, refl, ap, ◌∙◌, subst, inl, inr, arith}
use Rattle.std.proofs.lemmas.List.{get_or_past, length-append, length-replicate}
use Rattle.rights.specs.declared.calls.NewObject.{NewObject}
use Rattle.rights.specs.declared.calls.NewObject.TheVariants as new
use Rattle.model.specs.declared.objects.Capability.{Capability}
use Rattle.model.specs.declared.objects.Mapping.{Mapping}
use Rattle.model.specs.declared.objects.Thread.{Thread}
use Rattle.model.specs.Plain as p
use Rattle.model.specs.Calls as calls
use Rattle.model.specs.Sweeps.{base_of, Marks, takes, takes_birth, kept_slots, kept_number, kept_pages, kept_thread, kept, kept_at, swept}
use Rattle.model.specs.Sound.{Dense, Sound}
use Rattle.model.proofs.Revoked.{page_in_of, swept_at}
use Rattle.model.proofs.Keeping.{Fit, put_sound, by_table, same_fit, table_fit}
use Rattle.model.proofs.Lists.{wrote}

pub by_some : {X A : Type 0} (P : A → Type 0) (x : Option X) (a : A) (f : X → A) → P a → ((y : X) → x ≡ Some y → P (f y)) → P (p.on_some x a f)
by_some P None a f base one = base
by_some P (Some y) a f base one = one y refl

pub by_true : {A : Type 0} (P : A → Type 0) (b : Bool) (x y : A) → (b ≡ true → P x) → P y → P (cond b x y)
by_true P true x y h k = h refl
by_true P false x y h k = k

none_some : {X : Type 0} (x : X) → ◌≡◌ {A = Option X} None (Some x) → ⊥
none_some x e = cc

-- SLOTS. What may be put into one was born
abbrev pub Low : p.Whole → Option Capability → Type 0
Low v x = (c : Capability) → x ≡ Some c → c.birth ≤ v.births

slot_fit : (v : p.Whole) → Sound v → (o s : ℕ) (x : Option Capability) → Low v x → Fit v (p.object v o) (p.put_at (p.object v o) s x)
slot_fit v so o s x low =
    by_table (Fit v (p.object v o)) (p.object v o) (p.object v o) _ (same_fit v so o)
    (λ f ss e. subst (λ y. Fit v y (p.table f (set ss s x))) (sym e) (table_fit v f ss (set ss s x) (λ k c h. low_slot f ss k c e h)))
  where
    low_slot : (f : Option ℕ) (ss : List (Option Capability)) (k : ℕ) (c : Capability) → p.object v o ≡ p.table f ss → get_or (set ss s x) k None ≡ Some c → c.birth ≤ v.births
    low_slot f ss k c e h =
        elim (wrote ss s k x None) [
          | inl q ↦ so.born o k c (ap (λ y. p.slot_at y k) e ∙ (sym q ∙ h))
          | inr q ↦ low c (sym q.1 ∙ h)
        ]

pub slot_sound : (v : p.Whole) (q s : ℕ) (x : Option Capability) → Sound v → Low v x → Sound (p.with_slot v q s x)
slot_sound v q s x so low = by (p.table_of (p.object v q))
  where
    by : (t : Option ℕ) → Sound (p.put_by v t s x)
    by None = so
    by (Some t) = put_sound v so t (p.put_at (p.object v t) s x) (slot_fit v so t s x low)

-- what a slot holds was born
pub slot_low : (v : p.Whole) (q s : ℕ) → Sound v → Low v (p.slot v q s)
slot_low v q s so c e = by (p.table_of (p.object v q)) e
  where
    by : (t : Option ℕ) → p.slot_by v t s ≡ Some c → c.birth ≤ v.births
    by None h = absurd (none_some c h)
    by (Some t) h = so.born t s c h

pub none_low : (v : p.Whole) → Low v None
none_low v c e = absurd (none_some c e)

-- BIRTHS. One more capability, born now
dense_more : (top : ℕ) (xs : List (Option Capability)) (c : Capability) → Dense top xs → c.birth ≡ suc (top + length xs) → c.mother ≤ top + length xs → Dense top (xs ++ Some c ∷ [])
unfolding Dense
dense_more top [] c d b m = (omega (arith, b), omega (arith, m), tt)
dense_more top (None ∷ xs) c d b m = absurd d
dense_more top (Some x ∷ xs) c d b m = (d.0, d.1, dense_more (suc top) xs c d.2 (omega (arith, b)) (omega (arith, m)))

pub born_sound : (v : p.Whole) (c : Capability) → Sound v → c.birth ≡ suc v.births → c.mother ≤ v.births → Sound (calls.born v (Some c))
unfolding p.object
born_sound v c so b m =
    let n = so.counted in
    let len : length (v.lineage ++ Some c ∷ []) ≡ length v.lineage + 1 = length-append v.lineage (Some c ∷ []) in
    let base : base_of (calls.born v (Some c)) ≡ base_of v = omega (arith, len) in
    record {
      dense = rw base (dense_more (base_of v) v.lineage c so.dense (omega (arith, b, n)) (omega (arith, m, n)));
      counted = omega (arith, len, n);
      born = λ o s d h. (let k = so.born o s d h in omega (arith, k));
      after = so.after;
      full = so.full;
      paged = so.paged;
    }

-- GROWTH. An object that is new: cut from one that is there, with nothing in its slots, a page of 4,096 bytes, no thread
pub record New (v : p.Whole) (x : p.Thing) : Type 0 where
  pub from : (f : ℕ) → p.from_of x ≡ Some f → f < length v.things
  pub slots : (s : ℕ) (c : Capability) → p.slot_at x s ≡ Some c → ⊥
  pub full : (f : Option ℕ) (bs : List ℕ) → x ≡ p.page f bs → length bs ≡ 4096
  pub space : (t : Thread) → x ≡ p.thread t → ⊥

grow_at : (xs : List p.Thing) (x : p.Thing) (n : ℕ) →
    (get_or (xs ++ x ∷ []) n p.gone ≡ get_or xs n p.gone) ⊎ ((n ≡ length xs) × (get_or (xs ++ x ∷ []) n p.gone ≡ x))
grow_at [] x zero = inr (refl, refl)
grow_at [] x (suc n) = inl refl
grow_at (y ∷ ys) x zero = inl refl
grow_at (y ∷ ys) x (suc n) = elim (grow_at ys x n) [ inl e ↦ inl e | inr e ↦ inr (ap suc e.0, e.1) ]

no_page : (v : p.Whole) (n : ℕ) → n ≡ length v.things → calls.is_page (p.object v n) ≡ true → ⊥
unfolding p.object
no_page v n e h = let z : ◌≡◌ {A = Bool} false true = ap calls.is_page (sym (get_or_past v.things n p.gone (omega (arith, e)))) ∙ h in true≢false (sym z)

pub grown_sound : (v : p.Whole) (x : p.Thing) → Sound v → New v x → Sound (calls.grown v x)
unfolding p.object
grown_sound v x so new =
    record {
      dense = so.dense;
      counted = so.counted;
      born = λ o s c h. elim (grow_at v.things x o) [ inl e ↦ so.born o s c (ap (λ y. p.slot_at y s) (sym e) ∙ h) | inr e ↦ absurd (new.slots s c (ap (λ y. p.slot_at y s) (sym e.1) ∙ h)) ];
      after = λ o f h. elim (grow_at v.things x o) [ inl e ↦ so.after o f (ap p.from_of (sym e) ∙ h) | inr e ↦ (let k = new.from f (ap p.from_of (sym e.1) ∙ h) in omega (arith, k, e.0)) ];
      full = λ o f bs h. elim (grow_at v.things x o) [ inl e ↦ so.full o f bs (sym e ∙ h) | inr e ↦ new.full f bs (sym e.1 ∙ h) ];
      paged = λ q k o t e h. elim (grow_at v.things x q) [ inl g ↦ still o (so.paged q k o t (sym g ∙ e) h) | inr g ↦ absurd (new.space t (sym g.1 ∙ e)) ];
    }
  where
    still : (n : ℕ) → calls.is_page (p.object v n) ≡ true → calls.is_page (p.object (calls.grown v x) n) ≡ true
    still n h = elim (grow_at v.things x n) [ inl e ↦ ap calls.is_page e ∙ h | inr e ↦ absurd (no_page v n e.0 h) ]

nothing_in : (n k : ℕ) → ◌≡◌ {A = Option Capability} (get_or (replicate n None) k None) None
nothing_in zero k = refl
nothing_in (suc n) zero = refl
nothing_in (suc n) (suc k) = nothing_in n k

pub new_is_new : (v : p.Whole) (o : ℕ) (k : NewObject) → o < length v.things → New v (calls.new_thing o k)
new_is_new v o (new.Pool n) l =
    record { from = λ f e. (let q : o ≡ f = cc in omega arith); slots = λ s c e. none_some c e; full = λ f bs e. (cc); space = λ t e. (cc) }
new_is_new v o (new.Table n) l =
    record {
      from = λ f e. (let q : o ≡ f = cc in omega arith);
      slots = λ s c e. none_some c (sym (nothing_in n s) ∙ e);
      full = λ f bs e. (cc);
      space = λ t e. (cc);
    }
new_is_new v o new.Port l =
    record { from = λ f e. (let q : o ≡ f = cc in omega arith); slots = λ s c e. none_some c e; full = λ f bs e. (cc); space = λ t e. (cc) }
new_is_new v o new.Page l =
    record {
      from = λ f e. (let q : o ≡ f = cc in omega arith);
      slots = λ s c e. none_some c e;
      full = λ f bs e. (let q : replicate 4096 0 ≡ bs = cc in ap length (sym q) ∙ length-replicate {A = ℕ} 4096 0);
      space = λ t e. (cc);
    }

-- SWEEPING
kept_at_back : {A : Type 0} (k : Marks) (n : ℕ) (x : p.Thing) (P : p.Thing → Type 0) → (P p.gone → A) → (takes k n ≡ false → P (kept k x) → A) → P (kept_at k n x) → A
kept_at_back {A} k n x P base one h = by (takes k n) one h
  where
    by : (b : Bool) → (b ≡ false → P (kept k x) → A) → P (cond b p.gone (kept k x)) → A
    by true f h = base h
    by false f h = f refl h

slot_back : (k : Marks) (ss : List (Option Capability)) (s : ℕ) (c : Capability) → get_or (kept_slots k ss) s None ≡ Some c → get_or ss s None ≡ Some c
slot_back k [] s c e = e
slot_back k (None ∷ ss) zero c e = absurd (none_some c e)
slot_back k (Some d ∷ ss) zero c e = by (takes_birth k d.birth || takes k d.object) e
  where
    by : (b : Bool) → cond b None (Some d) ≡ Some c → Some d ≡ Some c
    by true h = absurd (none_some c h)
    by false h = h
slot_back k (x ∷ ss) (suc s) c e = slot_back k ss s c e

slots_back : (k : Marks) (x : p.Thing) (s : ℕ) (c : Capability) → p.slot_at (kept k x) s ≡ Some c → p.slot_at x s ≡ Some c
slots_back k p.gone s c e = e
slots_back k (p.pool f n u) s c e = e
slots_back k (p.table f ss) s c e = slot_back k ss s c e
slots_back k (p.port f q) s c e = e
slots_back k (p.page f bs) s c e = e
slots_back k (p.thread t) s c e = e
slots_back k (p.line xs ys) s c e = e

from_kept : (k : Marks) (x : p.Thing) → p.from_of (kept k x) ≡ p.from_of x
from_kept k p.gone = refl
from_kept k (p.pool f n u) = refl
from_kept k (p.table f ss) = refl
from_kept k (p.port f q) = refl
from_kept k (p.page f bs) = refl
from_kept k (p.thread t) = refl
from_kept k (p.line xs ys) = refl

page_kept : (k : Marks) (x : p.Thing) → calls.is_page (kept k x) ≡ calls.is_page x
page_kept k p.gone = refl
page_kept k (p.pool f n u) = refl
page_kept k (p.table f ss) = refl
page_kept k (p.port f q) = refl
page_kept k (p.page f bs) = refl
page_kept k (p.thread t) = refl
page_kept k (p.line xs ys) = refl

page_back : (k : Marks) (x : p.Thing) (f : Option ℕ) (bs : List ℕ) → kept k x ≡ p.page f bs → x ≡ p.page f bs
page_back k p.gone f bs e = e
page_back k (p.pool g n u) f bs e = e
page_back k (p.table g ss) f bs e = (cc)
page_back k (p.port g q) f bs e = (cc)
page_back k (p.page g cs) f bs e = e
page_back k (p.thread t) f bs e = (cc)
page_back k (p.line xs ys) f bs e = e

thread_back : (k : Marks) (x : p.Thing) (t : Thread) → kept k x ≡ p.thread t → (u : Thread) × (x ≡ p.thread u) × (kept_thread k u ≡ t)
thread_back k p.gone t e = (cc)
thread_back k (p.pool g n u) t e = (cc)
thread_back k (p.table g ss) t e = (cc)
thread_back k (p.port g q) t e = (cc)
thread_back k (p.page g cs) t e = (cc)
thread_back k (p.thread u) t e = (u, refl, (cc))
thread_back k (p.line xs ys) t e = (cc)

number_back : (k : Marks) (m : Option ℕ) (n : ℕ) → kept_number k m ≡ Some n → (m ≡ Some n) × (takes k n ≡ false)
number_back k None n e = absurd (none_some n e)
number_back k (Some m) n e = by (takes k m) refl e
  where
    by : (b : Bool) → takes k m ≡ b → cond b None (Some m) ≡ Some n → (Some m ≡ Some n) × (takes k n ≡ false)
    by true q h = absurd (none_some n h)
    by false q h = (h, let z : m ≡ n = cc in subst (λ i. takes k i ≡ false) z q)

page_read : (k : Marks) (ps : List Mapping) (i n : ℕ) → p.page_at (kept_pages k ps) i ≡ Some n → (p.page_at ps i ≡ Some n) × (takes k n ≡ false)
page_read k [] i n e = absurd (none_some n e)
page_read k (m ∷ ps) zero n e = number_back k (p.page_in m) n (sym (page_in_of (kept_number k (p.page_in m)) (p.mark_in m)) ∙ e)
page_read k (m ∷ ps) (suc i) n e = page_read k ps i n e

pub swept_sound : (v : p.Whole) (k : Marks) → Sound v → Sound (swept v k)
swept_sound v k so =
    record {
      dense = so.dense;
      counted = so.counted;
      born = λ o s c h. kept_at_back k o (p.object v o) (λ y. p.slot_at y s ≡ Some c) (λ e. absurd (none_some c e)) (λ f e. so.born o s c (slots_back k (p.object v o) s c e))
          (ap (λ y. p.slot_at y s) (sym (swept_at v k o)) ∙ h);
      after = λ o f h. kept_at_back k o (p.object v o) (λ y. p.from_of y ≡ Some f) (λ e. absurd (none_some f e)) (λ g e. so.after o f (sym (from_kept k (p.object v o)) ∙ e))
          (ap p.from_of (sym (swept_at v k o)) ∙ h);
      full = λ o f bs h. kept_at_back k o (p.object v o) (λ y. y ≡ p.page f bs) (λ e. (cc)) (λ g e. so.full o f bs (page_back k (p.object v o) f bs e)) (sym (swept_at v k o) ∙ h);
      paged = λ q j o t e h. kept_at_back k q (p.object v q) (λ y. y ≡ p.thread t) (λ e. (cc)) (λ g e. by q j o t (thread_back k (p.object v q) t e) h) (sym (swept_at v k q) ∙ e);
    }
  where
    still : (o : ℕ) → takes k o ≡ false → calls.is_page (p.object v o) ≡ true → calls.is_page (p.object (swept v k) o) ≡ true
    still o f h = ap calls.is_page (swept_at v k o) ∙ ap (λ b. calls.is_page (cond b p.gone (kept k (p.object v o)))) f ∙ page_kept k (p.object v o) ∙ h

    by : (q j o : ℕ) (t : Thread) → (u : Thread) × (p.object v q ≡ p.thread u) × (kept_thread k u ≡ t) → p.page_at t.pages j ≡ Some o → calls.is_page (p.object (swept v k) o) ≡ true
    by q j o t (u, e, r) h =
        let n = page_read k u.pages j o (ap (λ x. p.page_at x.pages j) r ∙ h) in
        still o n.1 (so.paged q j o u e n.0)
