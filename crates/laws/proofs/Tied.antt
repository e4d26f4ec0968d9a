-- Two worlds tied by pairs of numbers: what is tied is the same but for its numbers.
use mathlib.Core.Path.{◌≡◌, refl, sym, ap, subst, ◌∙◌}
use mathlib.Core.Bool.{Bool, true, false, ◌&&◌, not}
use mathlib.Core.List.{List, [], ◌∷◌, ◌++◌}
use mathlib.Core.Logic.{◌⊎◌, inl, inr}
use Prim.Native.Nat.{ℕ, zero, suc, ◌-◌, ◌≤◌, ◌<◌}
use native.Mathlib.Omega.{arith}
use lib.Dec.{eqb, eqb-suc-zero}
use borrow.Author.Tests.{eq-eqb, ne_eqb}
use lib.ListN.{length, get_or, set, replicate, length-set, get_or-append}
use Rattle.rights.specs.World.{Rights, Slot, empty, cap, Act, Wait, sender, receiver, State, stopped, ready, waits, Object, gone, pool, table, port}
use Rattle.rights.specs.World.{page, thread, line, World, slot_birth, slot_mother, is_empty, among, object, with_object}
use Rattle.laws.proofs.Tests.{pick_two, less_one, at_set, set_apart, at_end, longer}

-- numbers tied, and births tied
pub record Ties : Type 1 where
  pub objs : ℕ → ℕ → Type 0
  pub born : ℕ → ℕ → Type 0

pub record More (t q : Ties) : Type 0 where
  pub more : {u k : ℕ} → t.objs u k → q.objs u k
  pub kids : {u k : ℕ} → t.born u k → q.born u k

pub more_refl : (t : Ties) → More t t
more_refl t = record { more = λ h. h; kids = λ h. h }

-- a number + 1, or 0 for none
pub data Ref (P : ℕ → ℕ → Type 0) : ℕ → ℕ → Type 0 where
  none : Ref P zero zero
  some : {u k : ℕ} → P u k → Ref P (suc u) (suc k)

pub data Each {A : Type 0} (P : A → A → Type 0) : List A → List A → Type 0 where
  nil : Each P [] []
  cons : {x y : A} {xs ys : List A} → P x y → Each P xs ys → Each P (x ∷ xs) (y ∷ ys)

pub data SlotT (t : Ties) : Slot → Slot → Type 0 where
  empty_t : SlotT t empty empty
  cap_t : {u k j i m n b : ℕ} {r : Rights} → t.objs u k → t.born j i → SlotT t (cap u r b j m) (cap k r b i n)

pub data WaitT (t : Ties) : Wait → Wait → Type 0 where
  sender_t : {p q b s : ℕ} {ws : List ℕ} {h g : Bool} → t.objs p q → WaitT t (sender p b ws h g s) (sender q b ws h g s)
  receiver_t : {p q s : ℕ} → t.objs p q → WaitT t (receiver p s) (receiver q s)

-- where an object was cut from: told apart only if the flag is off
unfoldable pub From : Bool → Ties → ℕ → ℕ → Type 0
From true t f g = Unit {0}
From false t f g = Ref t.objs f g

pub from_none : (d : Bool) (t : Ties) → From d t 0 0
unfolding From
from_none true t = tt
from_none false t = none

pub from_some : (d : Bool) (t : Ties) (u k : ℕ) → t.objs u k → From d t (suc u) (suc k)
unfolding From
from_some true t u k h = tt
from_some false t u k h = some h

-- lineages: entries of both sides are tied, entries of others have mothers that aren't
pub data Lin (t : Ties) (b c : ℕ) : List Slot → List Slot → Type 0 where
  lin_nil : Lin t b c [] []
  lin_both : {x y : Slot} {xs ys : List Slot} → is_empty x ≡ false → is_empty y ≡ false → t.born (slot_birth x) (slot_birth y) → t.born (slot_mother x) (slot_mother y) → Lin t b c xs ys → Lin t b c (x ∷ xs) (y ∷ ys)
  lin_left : {x : Slot} {xs ys : List Slot} → slot_mother x ≤ b → ((i : ℕ) → t.born (slot_mother x) i → ⊥) → Lin t b c xs ys → Lin t b c (x ∷ xs) ys
  lin_right : {y : Slot} {xs ys : List Slot} → slot_mother y ≤ c → ((j : ℕ) → t.born j (slot_mother y) → ⊥) → Lin t b c xs ys → Lin t b c xs (y ∷ ys)

-- births come after the births of what they are made from
pub data Up (b : ℕ) : List Slot → Type 0 where
  up_nil : Up b []
  up_cons : {x : Slot} {xs : List Slot} → slot_mother x < slot_birth x → slot_birth x ≤ b → Up b xs → Up b (x ∷ xs)

pub up_more : {b : ℕ} {xs : List Slot} → Up b xs → Up (suc b) xs
up_more up_nil = up_nil
up_more (up_cons h k r) = up_cons h (omega arith) (up_more r)

-- tests
pub each_length : {A : Type 0} {P : A → A → Type 0} {xs ys : List A} → Each P xs ys → length xs ≡ length ys
each_length nil = refl
each_length (cons p r) = ap suc (each_length r)

pub each_at : {A : Type 0} {P : A → A → Type 0} {xs ys : List A} (k : ℕ) (a b : A) → P a b → Each P xs ys → P (get_or xs k a) (get_or ys k b)
each_at k a b h nil = h
each_at zero a b h (cons p r) = p
each_at (suc k) a b h (cons p r) = each_at k a b h r

pub each_set : {A : Type 0} (P : A → A → Type 0) {xs ys : List A} (k : ℕ) {a b : A} → P a b → Each P xs ys → Each P (set xs k a) (set ys k b)
each_set P k h nil = nil
each_set P zero h (cons p r) = cons h r
each_set P (suc k) h (cons p r) = cons p (each_set P k h r)

pub each_push : {A : Type 0} (P : A → A → Type 0) {xs ys : List A} {a b : A} → P a b → Each P xs ys → Each P (xs ++ a ∷ []) (ys ++ b ∷ [])
each_push P h nil = cons h nil
each_push P h (cons p r) = cons p (each_push P h r)

each_map : {A : Type 0} {P Q : A → A → Type 0} {xs ys : List A} → ((a b : A) → P a b → Q a b) → Each P xs ys → Each Q xs ys
each_map f nil = nil
each_map f (cons p r) = cons (f _ _ p) (each_map f r)

pub each_fill : {A : Type 0} (P : A → A → Type 0) {a b : A} (n : ℕ) → P a b → Each P (replicate n a) (replicate n b)
each_fill P zero h = nil
each_fill P (suc n) h = cons h (each_fill P n h)

-- more ties
ref_more : {P Q : ℕ → ℕ → Type 0} {a b : ℕ} → ((u k : ℕ) → P u k → Q u k) → Ref P a b → Ref Q a b
ref_more f none = none
ref_more f (some h) = some (f _ _ h)

slot_more : {t q : Ties} {x y : Slot} → More t q → SlotT t x y → SlotT q x y
slot_more e empty_t = empty_t
slot_more e (cap_t h b) = cap_t (e.more h) (e.kids b)

wait_more : {t q : Ties} {x y : Wait} → More t q → WaitT t x y → WaitT q x y
wait_more e (sender_t h) = sender_t (e.more h)
wait_more e (receiver_t h) = receiver_t (e.more h)

from_more : {t q : Ties} (d : Bool) (f g : ℕ) → More t q → From d t f g → From d q f g
unfolding From
from_more true f g e h = tt
from_more false f g e h = ref_more (λ u k. e.more) h

set_two : {A : Type 0} (P : A → A → Type 0) (xs ys : List A) (u k a b : ℕ) (x y d : A) → u < length xs → k < length ys → eqb u a ≡ eqb k b → P x y → P (get_or xs a d) (get_or ys b d) →
    P (get_or (set xs u x) a d) (get_or (set ys k y) b d)
set_two P xs ys u k a b x y d h g e p q = rw (at_set xs u a x d h, at_set ys k b y d g) (pick_two P e p q)

grow_one : (P : ℕ → ℕ → Type 0) (n m : ℕ) → ((a b u k : ℕ) → P a b → P u k → eqb a u ≡ eqb b k) → ((a b : ℕ) → P a b → (a < n) × (b < m)) →
    (a b u k : ℕ) → ((a ≡ n) × (b ≡ m)) ⊎ P a b → ((u ≡ n) × (k ≡ m)) ⊎ P u k → eqb a u ≡ eqb b k
grow_one P n m one fit a b u k (inl h) (inl g) = eq-eqb a u (h.0 ∙ sym g.0) ∙ sym (eq-eqb b k (h.1 ∙ sym g.1))
grow_one P n m one fit a b u k (inl h) (inr g) = let f = fit u k g in let x = h.0 in let y = h.1 in ne_eqb a u (λ e. omega arith) ∙ sym (ne_eqb b k (λ e. omega arith))
grow_one P n m one fit a b u k (inr h) (inl g) = let f = fit a b h in let x = g.0 in let y = g.1 in ne_eqb a u (λ e. omega arith) ∙ sym (ne_eqb b k (λ e. omega arith))
grow_one P n m one fit a b u k (inr h) (inr g) = one a b u k h g

abbrev pub Agree : (ℕ → ℕ → Type 0) → List ℕ → List ℕ → Type 0
Agree P xs ys = (a b : ℕ) → P a b → among a xs ≡ among b ys

pub ref_in : {P : ℕ → ℕ → Type 0} {a b : ℕ} (os qs : List ℕ) → Agree P os qs → Ref P a b → (not (eqb a 0) && among (a - 1) os) ≡ (not (eqb b 0) && among (b - 1) qs)
ref_in os qs ag none = refl
ref_in os qs ag (some {u} {k} h) = rw (eqb-suc-zero u, eqb-suc-zero k, less_one u, less_one k) (ag u k h)

lin_more : {t q : Ties} {b c : ℕ} {xs ys : List Slot} → More t q → ((j i : ℕ) → j ≤ b → q.born j i → t.born j i) → ((j i : ℕ) → i ≤ c → q.born j i → t.born j i) →
    Lin t b c xs ys → Lin q (suc b) (suc c) xs ys
lin_more e f g lin_nil = lin_nil
lin_more e f g (lin_both x y h k r) = lin_both x y (e.kids h) (e.kids k) (lin_more e f g r)
lin_more e f g (lin_left h k r) = lin_left (omega arith) (λ i m. k i (f _ i h m)) (lin_more e f g r)
lin_more e f g (lin_right h k r) = lin_right (omega arith) (λ j m. k j (g j _ h m)) (lin_more e f g r)

module _ (Cpu : Type 0) where
  pub data StateT (t : Ties) : State Cpu → State Cpu → Type 0 where
    stopped_t : StateT t stopped stopped
    ready_t : StateT t ready ready
    waits_t : {o k : ℕ} {then : List ℕ → Cpu} → t.objs o k → StateT t (waits o then) (waits k then)

  pub data ObjT (d : Bool) (t : Ties) : Object Cpu → Object Cpu → Type 0 where
    gone_t : ObjT d t gone gone
    pool_t : {f g n u : ℕ} → From d t f g → ObjT d t (pool f n u) (pool g n u)
    table_t : {f g : ℕ} {ss qs : List Slot} → From d t f g → Each (SlotT t) ss qs → ObjT d t (table f ss) (table g qs)
    port_t : {f g : ℕ} {ws vs : List Wait} → From d t f g → Each (WaitT t) ws vs → ObjT d t (port f ws) (port g vs)
    page_t : {f g : ℕ} {bs : List ℕ} → From d t f g → ObjT d t (page f bs) (page g bs)
    thread_t : {f g : ℕ} {s q : State Cpu} {c : Cpu} {a b : ℕ} {ps ns : List ℕ} {rs : List Bool} → From d t f g → StateT t s q → Ref t.objs a b → Each (Ref t.objs) ps ns →
        ObjT d t (thread f s c a ps rs) (thread g q c b ns rs)
    line_t : {xs ys : List ℕ} → ObjT d t (line xs ys) (line xs ys)

  state_more : {t q : Ties} {x y : State Cpu} → More t q → StateT t x y → StateT q x y
  state_more e stopped_t = stopped_t
  state_more e ready_t = ready_t
  state_more e (waits_t h) = waits_t (e.more h)

  obj_more : {d : Bool} {t q : Ties} {x y : Object Cpu} → More t q → ObjT d t x y → ObjT d q x y
  obj_more e gone_t = gone_t
  obj_more {d} e (pool_t f) = pool_t (from_more d _ _ e f)
  obj_more {d} e (table_t f ss) = table_t (from_more d _ _ e f) (each_map (λ a b. slot_more e) ss)
  obj_more {d} e (port_t f ws) = port_t (from_more d _ _ e f) (each_map (λ a b. wait_more e) ws)
  obj_more {d} e (page_t f) = page_t (from_more d _ _ e f)
  obj_more {d} e (thread_t f s a ps) = thread_t (from_more d _ _ e f) (state_more e s) (ref_more (λ u k. e.more) a) (each_map (λ a b. ref_more (λ u k. e.more)) ps)
  obj_more e line_t = line_t

  unfoldable pub noted : World Cpu → Slot → World Cpu
  noted w e = record { objects = w.objects; births = suc w.births; lineage = e ∷ w.lineage }

  unfoldable pub pushed : World Cpu → Object Cpu → World Cpu
  pushed w x = record { objects = w.objects ++ x ∷ []; births = w.births; lineage = w.lineage }

  unfoldable pub with_born : Ties → ℕ → ℕ → Ties
  with_born t b c = record { objs = t.objs; born = λ j i. ((j ≡ b) × (i ≡ c)) ⊎ t.born j i }

  unfoldable pub with_objs : Ties → ℕ → ℕ → Ties
  with_objs t b c = record { objs = λ j i. ((j ≡ b) × (i ≡ c)) ⊎ t.objs j i; born = t.born }

  pub more_born : (t : Ties) (b c : ℕ) → More t (with_born t b c)
  unfolding with_born
  more_born t b c = record { more = λ h. h; kids = λ h. inr h }

  pub more_objs : (t : Ties) (b c : ℕ) → More t (with_objs t b c)
  unfolding with_objs
  more_objs t b c = record { more = λ h. inr h; kids = λ h. h }

module _ (Cpu : Type 0) (fresh : ℕ → Cpu) (act : Cpu → (ℕ → ℕ) → Act Cpu) where
  pub record Tied (d : Bool) (t : Ties) (v w : World Cpu) : Type 0 where
    pub same : {u k : ℕ} → t.objs u k → ObjT Cpu d t (object Cpu fresh act v u) (object Cpu fresh act w k)
    pub fit : {u k : ℕ} → t.objs u k → (u < length v.objects) × (k < length w.objects)
    pub one : {a b u k : ℕ} → t.objs a b → t.objs u k → eqb a u ≡ eqb b k
    pub first : {a b u k : ℕ} → t.born a b → t.born u k → eqb a u ≡ eqb b k
    pub within : {u k : ℕ} → t.born u k → (u ≤ v.births) × (k ≤ w.births)
    pub lin : Lin t v.births w.births v.lineage w.lineage
    pub up_v : Up v.births v.lineage
    pub up_w : Up w.births w.lineage

  pub t_set : {d : Bool} {t : Ties} {v w : World Cpu} {u k : ℕ} {x y : Object Cpu} → Tied d t v w → t.objs u k → ObjT Cpu d t x y → Tied d t (with_object Cpu fresh act v u x) (with_object Cpu fresh act w k y)
  unfolding with_object object
  t_set {d} {t} {v} {w} {u} {k} {x} {y} r h e =
      record {
        same = λ {u = a} {k = b} g. set_two (ObjT Cpu d t) v.objects w.objects u k a b x y gone (r.fit h).0 (r.fit h).1 (r.one h g) e (r.same g);
        fit = λ g. (simp length-set (r.fit g).0, simp length-set (r.fit g).1);
        one = r.one;
        first = r.first;
        within = r.within;
        lin = r.lin;
        up_v = r.up_v;
        up_w = r.up_w;
      }

  pub left_set : {d : Bool} {t : Ties} {v w : World Cpu} → Tied d t v w → (u : ℕ) (x : Object Cpu) → ((k : ℕ) → t.objs u k → ⊥) → Tied d t (with_object Cpu fresh act v u x) w
  unfolding with_object object
  left_set {d} {t} {v} {w} r u x nt =
      record {
        same = λ {u = a} {k = b} g. subst (λ (y : Object Cpu). ObjT Cpu d t y (object Cpu fresh act w b)) (sym (set_apart v.objects u a x gone (λ e. nt b (subst (λ (n : ℕ). t.objs n b) (sym e) g)))) (r.same g);
        fit = λ g. (simp length-set (r.fit g).0, (r.fit g).1);
        one = r.one;
        first = r.first;
        within = r.within;
        lin = r.lin;
        up_v = r.up_v;
        up_w = r.up_w;
      }

  pub right_set : {d : Bool} {t : Ties} {v w : World Cpu} → Tied d t v w → (k : ℕ) (x : Object Cpu) → ((u : ℕ) → t.objs u k → ⊥) → Tied d t v (with_object Cpu fresh act w k x)
  unfolding with_object object
  right_set {d} {t} {v} {w} r k x nt =
      record {
        same = λ {u = a} {k = b} g. subst (λ (y : Object Cpu). ObjT Cpu d t (object Cpu fresh act v a) y) (sym (set_apart w.objects k b x gone (λ e. nt a (subst (λ (n : ℕ). t.objs a n) (sym e) g)))) (r.same g);
        fit = λ g. ((r.fit g).0, simp length-set (r.fit g).1);
        one = r.one;
        first = r.first;
        within = r.within;
        lin = r.lin;
        up_v = r.up_v;
        up_w = r.up_w;
      }

  pub t_note : {d : Bool} {t : Ties} {v w : World Cpu} → Tied d t v w → (x y : Slot) → is_empty x ≡ false → is_empty y ≡ false → slot_birth x ≡ suc v.births → slot_birth y ≡ suc w.births →
      t.born (slot_mother x) (slot_mother y) → Tied d (with_born Cpu t (suc v.births) (suc w.births)) (noted Cpu v x) (noted Cpu w y)
  unfolding noted object with_born
  t_note {d} {t} {v} {w} r x y ex ey bx by m =
      record {
        same = λ g. obj_more Cpu (more_born Cpu t (suc v.births) (suc w.births)) (r.same g);
        fit = r.fit;
        one = r.one;
        first = λ {a} {b} {u} {k} g h. grow_one t.born (suc v.births) (suc w.births) (λ a b u k. r.first) (λ a b n. let q = r.within n in omega arith) a b u k g h;
        within = λ {u} {k} g. in_born u k g;
        lin = lin_both ex ey (inl (bx, by)) (inr m) (lin_more (more_born Cpu t (suc v.births) (suc w.births)) old_left old_right r.lin);
        up_v = up_cons (let q = r.within m in omega arith) (omega arith) (up_more r.up_v);
        up_w = up_cons (let q = r.within m in omega arith) (omega arith) (up_more r.up_w);
      }
    where
      in_born : (u k : ℕ) → ((u ≡ suc v.births) × (k ≡ suc w.births)) ⊎ t.born u k → (u ≤ suc v.births) × (k ≤ suc w.births)
      in_born u k (inl h) = omega arith
      in_born u k (inr h) = let q = r.within h in omega arith

      old_left : (j i : ℕ) → j ≤ v.births → ((j ≡ suc v.births) × (i ≡ suc w.births)) ⊎ t.born j i → t.born j i
      old_left j i h (inl g) = absurd (omega arith)
      old_left j i h (inr g) = g

      old_right : (j i : ℕ) → i ≤ w.births → ((j ≡ suc v.births) × (i ≡ suc w.births)) ⊎ t.born j i → t.born j i
      old_right j i h (inl g) = absurd (omega arith)
      old_right j i h (inr g) = g

  pub t_push : {d : Bool} {t : Ties} {v w : World Cpu} → Tied d t v w → (x y : Object Cpu) → ObjT Cpu d t x y →
      Tied d (with_objs Cpu t (length v.objects) (length w.objects)) (pushed Cpu v x) (pushed Cpu w y)
  unfolding pushed object with_objs
  t_push {d} {t} {v} {w} r x y e =
      record {
        same = λ {u} {k} g. at u k g;
        fit = λ {u} {k} g. fits u k g;
        one = λ {a} {b} {u} {k} g h. grow_one t.objs (length v.objects) (length w.objects) (λ a b u k. r.one) (λ a b n. r.fit n) a b u k g h;
        first = r.first;
        within = r.within;
        lin = lin_objs r.lin;
        up_v = r.up_v;
        up_w = r.up_w;
      }
    where
      q : Ties
      q = with_objs Cpu t (length v.objects) (length w.objects)

      fits : (u k : ℕ) → ((u ≡ length v.objects) × (k ≡ length w.objects)) ⊎ t.objs u k → (u < length (v.objects ++ x ∷ [])) × (k < length (w.objects ++ y ∷ []))
      fits u k (inl h) = simp longer (omega arith)
      fits u k (inr h) = let f = r.fit h in simp longer (omega arith)

      at : (u k : ℕ) → ((u ≡ length v.objects) × (k ≡ length w.objects)) ⊎ t.objs u k → ObjT Cpu d q (get_or (v.objects ++ x ∷ []) u gone) (get_or (w.objects ++ y ∷ []) k gone)
      at u k (inl h) = rw (h.0, h.1, at_end v.objects x gone, at_end w.objects y gone) (obj_more Cpu (more_objs Cpu t (length v.objects) (length w.objects)) e)
      at u k (inr h) = rw (get_or-append v.objects (x ∷ []) gone u (r.fit h).0, get_or-append w.objects (y ∷ []) gone k (r.fit h).1) (obj_more Cpu (more_objs Cpu t (length v.objects) (length w.objects)) (r.same h))

      lin_objs : {xs ys : List Slot} → Lin t v.births w.births xs ys → Lin q v.births w.births xs ys
      lin_objs lin_nil = lin_nil
      lin_objs (lin_both x y h k r) = lin_both x y h k (lin_objs r)
      lin_objs (lin_left h k r) = lin_left h k (lin_objs r)
      lin_objs (lin_right h k r) = lin_right h k (lin_objs r)
