-- What is done to one's own leaves the others tied as they were.
use mathlib.Core.Path.{◌≡◌, refl, sym, ap, subst, ◌∙◌}
use mathlib.Core.Bool.{Bool, true, false}
use mathlib.Core.List.{List, [], ◌∷◌}
use mathlib.Core.Logic.{◌⊎◌, inl, inr}
use Prim.Native.Nat.{ℕ, suc, ◌≤◌}
use native.Mathlib.Omega.{arith}
use borrow.Author.Tests.{ne_eqb}
use lib.ListN.{length, get_or-append}
use Rattle.rights.specs.World.{Slot, Act, Object, gone, Sizes, World, tick, byte, slot_birth, slot_mother, among, object, cuttings, cleared, event}
use Rattle.laws.proofs.Tests.{not_true, longer}
use Rattle.laws.proofs.Tied.{Ties, More, Lin, lin_nil, lin_both, lin_left, lin_right, up_cons, up_more, Agree, noted, pushed, Tied, left_set}
use Rattle.laws.proofs.Tied.{right_set}
use Rattle.laws.proofs.Clear.{t_clear, clear_none}
use Rattle.laws.proofs.Kindred.{a_cuttings, cuttings_none}
use Rattle.laws.proofs.Lockstep.{Frame, Held, Start, Next, n_tick, n_byte}

lin_wide : {t : Ties} {a b c e : ℕ} {xs ys : List Slot} → a ≤ c → b ≤ e → Lin t a b xs ys → Lin t c e xs ys
lin_wide h k lin_nil = lin_nil
lin_wide h k (lin_both x y p q r) = lin_both x y p q (lin_wide h k r)
lin_wide h k (lin_left p q r) = lin_left (omega arith) q (lin_wide h k r)
lin_wide h k (lin_right p q r) = lin_right (omega arith) q (lin_wide h k r)

module _ (Cpu : Type 0) (fresh : ℕ → Cpu) (act : Cpu → (ℕ → ℕ) → Act Cpu) where
  left_note : {d : Bool} {t : Ties} {v w : World Cpu} → Tied Cpu fresh act d t v w → (e : Slot) → slot_mother e ≤ v.births → slot_birth e ≡ suc v.births → ((i : ℕ) → t.born (slot_mother e) i → ⊥) → Tied Cpu fresh act d t (noted Cpu v e) w
  unfolding noted object
  left_note {d} {t} {v} {w} r e le eq nt =
      record {
        same = r.same;
        fit = r.fit;
        one = r.one;
        first = r.first;
        within = λ g. let q = r.within g in omega arith;
        lin = lin_left (omega arith) nt (lin_wide (omega arith) (omega arith) r.lin);
        up_v = up_cons (omega arith) (omega arith) (up_more r.up_v);
        up_w = r.up_w;
      }

  right_note : {d : Bool} {t : Ties} {v w : World Cpu} → Tied Cpu fresh act d t v w → (e : Slot) → slot_mother e ≤ w.births → slot_birth e ≡ suc w.births → ((i : ℕ) → t.born i (slot_mother e) → ⊥) → Tied Cpu fresh act d t v (noted Cpu w e)
  unfolding noted object
  right_note {d} {t} {v} {w} r e le eq nt =
      record {
        same = r.same;
        fit = r.fit;
        one = r.one;
        first = r.first;
        within = λ g. let q = r.within g in omega arith;
        lin = lin_right (omega arith) nt (lin_wide (omega arith) (omega arith) r.lin);
        up_w = up_cons (omega arith) (omega arith) (up_more r.up_w);
        up_v = r.up_v;
      }

  left_push : {d : Bool} {t : Ties} {v w : World Cpu} → Tied Cpu fresh act d t v w → (x : Object Cpu) → Tied Cpu fresh act d t (pushed Cpu v x) w
  unfolding pushed object
  left_push {d} {t} {v} {w} r x =
      record {
        same = λ {u} {k} g. rw (get_or-append v.objects (x ∷ []) gone u (r.fit g).0) (r.same g);
        fit = λ g. let f = r.fit g in simp longer (omega arith);
        one = r.one;
        first = r.first;
        within = r.within;
        lin = r.lin;
        up_v = r.up_v;
        up_w = r.up_w;
      }

  right_push : {d : Bool} {t : Ties} {v w : World Cpu} → Tied Cpu fresh act d t v w → (x : Object Cpu) → Tied Cpu fresh act d t v (pushed Cpu w x)
  unfolding pushed object
  right_push {d} {t} {v} {w} r x =
      record {
        same = λ {u} {k} g. rw (get_or-append w.objects (x ∷ []) gone k (r.fit g).1) (r.same g);
        fit = λ g. let f = r.fit g in simp longer (omega arith);
        one = r.one;
        first = r.first;
        within = r.within;
        lin = r.lin;
        up_v = r.up_v;
        up_w = r.up_w;
      }

  -- an event of the set's own: the others, tied to themselves, stay so
  their_frame : (q : Ties) → ((u k : ℕ) → q.objs u k → u ≡ k) → ((u k : ℕ) → q.born u k → u ≡ k) → Frame Cpu fresh act
  their_frame q dia bdia =
      record {
        Fr = λ v. Tied Cpu fresh act true q v v;
        Mine = λ u. (k : ℕ) → q.objs u k → ⊥;
        Bmine = λ u. (k : ℕ) → q.born u k → ⊥;
        on_set = λ v u x m f. right_set Cpu fresh act (left_set Cpu fresh act f u x m) u x (λ k h. m k (turn q.objs dia k u h));
        on_note = λ v e m le eq f. right_note (left_note f e le eq m) e le eq (λ k h. m k (turn q.born bdia k (slot_mother e) h));
        on_push = λ v x f. right_push (left_push f x) x;
        on_clear = λ v ids os o bm mo form f. t_clear Cpu fresh act f ids ids os os (λ a b h. ap (λ (n : ℕ). among n ids) (bdia a b h)) (λ a b h. ap (λ (n : ℕ). among n os) (dia a b h));
      }
    where
      turn : (P : ℕ → ℕ → Type 0) → ((u k : ℕ) → P u k → u ≡ k) → (k u : ℕ) → P k u → P u k
      turn P di k u h = subst (λ (n : ℕ). P u n) (sym (di k u h)) (subst (λ (n : ℕ). P n u) (di k u h) h)

  none_of : (t : Ties) (a v : World Cpu) (os : List ℕ) (o : ℕ) → ((k : ℕ) → t.objs o k → ⊥) → (os ≡ []) ⊎ (os ≡ cuttings Cpu fresh act v (length v.objects) (o ∷ [])) → Tied Cpu fresh act false t v a → Agree t.objs os []
  unfolding among
  none_of t a v os o mo (inl e) f u k h = ap (λ (xs : List ℕ). among u xs) e
  none_of t a v os o mo (inr e) f u k h =
      ap (λ (xs : List ℕ). among u xs) e ∙ a_cuttings Cpu fresh act f (length v.objects) (o ∷ []) [] (λ i j g. rw (ne_eqb i o (λ c. mo j (subst (λ (n : ℕ). t.objs n j) c g)))) u k h ∙
      ap (λ (xs : List ℕ). among k xs) (cuttings_none Cpu fresh act a (length v.objects))

  clear_left : (t : Ties) (a v : World Cpu) (ids os : List ℕ) (o : ℕ) → ((i : ℕ) → among i ids ≡ true → (k : ℕ) → t.born i k → ⊥) → ((k : ℕ) → t.objs o k → ⊥) →
      (os ≡ []) ⊎ (os ≡ cuttings Cpu fresh act v (length v.objects) (o ∷ [])) → Tied Cpu fresh act false t v a → Tied Cpu fresh act false t (cleared Cpu fresh act v ids os) a
  unfolding among
  clear_left t a v ids os o bm mo form f =
      subst (λ (x : World Cpu). Tied Cpu fresh act false t (cleared Cpu fresh act v ids os) x) (clear_none Cpu fresh act a)
      (t_clear Cpu fresh act f ids [] os [] (λ j i h. not_true (among j ids) (λ e. bm j e i h)) (none_of t a v os o mo form f))

  -- an event of the others: the set, tied to its own world, stays so
  pub our_frame : (t : Ties) (a : World Cpu) → Frame Cpu fresh act
  our_frame t a =
      record {
        Fr = λ v. Tied Cpu fresh act false t v a;
        Mine = λ u. (k : ℕ) → t.objs u k → ⊥;
        Bmine = λ u. (k : ℕ) → t.born u k → ⊥;
        on_set = λ v u x m f. left_set Cpu fresh act f u x m;
        on_note = λ v e m le eq f. left_note f e le eq m;
        on_push = λ v x f. left_push f x;
        on_clear = λ v ids os o bm mo form f. clear_left t a v ids os o bm mo form f;
      }

  -- the whole: the set's objects are tied to a world of their own, the others to themselves
  pub record Parts (t q : Ties) (v a : World Cpu) : Type 0 where
    pub mine : Tied Cpu fresh act false t v a
    pub other : Tied Cpu fresh act true q v v
    pub apart : {u k i : ℕ} → t.objs u k → q.objs u i → ⊥
    pub bapart : {u k i : ℕ} → t.born u k → q.born u i → ⊥
    pub dia : {u k : ℕ} → q.objs u k → u ≡ k
    pub bdia : {u k : ℕ} → q.born u k → u ≡ k

  abbrev Kin : Ties → World Cpu → World Cpu → Type 0
  Kin t v w = (o k : ℕ) → t.objs o k → Agree t.objs (cuttings Cpu fresh act v (length v.objects) (o ∷ [])) (cuttings Cpu fresh act w (length w.objects) (k ∷ []))

  -- an event of the set's own
  frame_q : {t q : Ties} {v a : World Cpu} → Parts t q v a → Frame Cpu fresh act
  frame_q {t} {q} r = their_frame q (λ u k. r.dia) (λ u k. r.bdia)

  our_held : {t q : Ties} {v a : World Cpu} (r : Parts t q v a) → Held Cpu fresh act (frame_q r) false t v a
  unfolding their_frame frame_q
  our_held r = record { tied = r.mine; fr = r.other; mine = λ g k m. r.apart g m; bmine = λ g k m. r.bapart g m; dia = λ c g. absurd c; bdia = λ c g. absurd c }

  our_start : {t q : Ties} {v a : World Cpu} (r : Parts t q v a) → Kin t v a → Start Cpu fresh act (frame_q r) false t v a
  unfolding their_frame frame_q
  our_start r kin =
      record { bnew = λ k m. let w = r.other.within m in absurd (omega arith); onew = λ k m. let w = r.other.fit m in absurd (omega arith); alike = λ c. absurd c; kin = λ {o} {k} g. kin o k g }

  our_parts : {t q s : Ties} {v a w b : World Cpu} (r : Parts t q v a) → Held Cpu fresh act (frame_q r) false s w b → Parts s q w b
  unfolding their_frame frame_q
  our_parts r h = record { mine = h.tied; other = h.fr; apart = λ {i} g m. h.mine g i m; bapart = λ {i} g m. h.bmine g i m; dia = r.dia; bdia = r.bdia }

  unfoldable pub Ours : Ties → Ties → World Cpu → World Cpu → Type 1
  Ours t q v a = (s : Ties) × More t s × Parts s q v a

  our_next : {t q : Ties} {v a : World Cpu} (w b : World Cpu) (r : Parts t q v a) → Next Cpu fresh act (frame_q r) false t w b → Ours t q w b
  unfolding Ours Next
  our_next w b r n = (n.0, n.1, our_parts r n.2)

  pub our_tick : {t q : Ties} {v a : World Cpu} {p : ℕ} (z : Sizes) → Parts t q v a → Kin t v a → t.objs p p → Ours t q (event Cpu fresh act z v (tick p)) (event Cpu fresh act z a (tick p))
  our_tick {t} {q} {v} {a} {p} z r kin hp = our_next (event Cpu fresh act z v (tick p)) (event Cpu fresh act z a (tick p)) r (n_tick Cpu fresh act (frame_q r) false z (our_held r) (our_start r kin) hp)

  pub our_byte : {t q : Ties} {v a : World Cpu} {p : ℕ} (z : Sizes) (b : ℕ) → Parts t q v a → t.objs p p → Ours t q (event Cpu fresh act z v (byte p b)) (event Cpu fresh act z a (byte p b))
  our_byte {t} {q} {v} {a} {p} z b r hp = our_next (event Cpu fresh act z v (byte p b)) (event Cpu fresh act z a (byte p b)) r (n_byte Cpu fresh act (frame_q r) false z b (our_held r) hp)

  -- an event of the others
  their_held : {t q : Ties} {v a : World Cpu} (r : Parts t q v a) → Held Cpu fresh act (our_frame t a) true q v v
  unfolding our_frame
  their_held r = record { tied = r.other; fr = r.mine; mine = λ g k m. r.apart m g; bmine = λ g k m. r.bapart m g; dia = λ c g. r.dia g; bdia = λ c g. r.bdia g }

  their_start : {t q : Ties} {v a : World Cpu} (r : Parts t q v a) → Start Cpu fresh act (our_frame t a) true q v v
  unfolding our_frame
  their_start {t} {q} {v} r =
      record {
        bnew = λ k m. let w = r.mine.within m in absurd (omega arith);
        onew = λ k m. let w = r.mine.fit m in absurd (omega arith);
        alike = λ c. refl;
        kin = λ {o} {k} g i j h. ap (λ (n : ℕ). among n (cuttings Cpu fresh act v (length v.objects) (o ∷ []))) (r.dia h) ∙ ap (λ (n : ℕ). among j (cuttings Cpu fresh act v (length v.objects) (n ∷ []))) (r.dia g);
      }

  their_parts : {t s : Ties} {w a : World Cpu} → Held Cpu fresh act (our_frame t a) true s w w → Parts t s w a
  unfolding our_frame
  their_parts h = record { mine = h.fr; other = h.tied; apart = λ {k} g m. h.mine m k g; bapart = λ {k} g m. h.bmine m k g; dia = λ g. h.dia tt g; bdia = λ g. h.bdia tt g }

  unfoldable pub Theirs : Ties → Ties → World Cpu → World Cpu → Type 1
  Theirs t q v a = (s : Ties) × More q s × Parts t s v a

  their_next : (t q : Ties) (a w : World Cpu) → Next Cpu fresh act (our_frame t a) true q w w → Theirs t q w a
  unfolding Theirs Next
  their_next t q a w n = (n.0, n.1, their_parts n.2)

  pub their_tick : {t q : Ties} {v a : World Cpu} {p : ℕ} (z : Sizes) → Parts t q v a → q.objs p p → Theirs t q (event Cpu fresh act z v (tick p)) a
  their_tick {t} {q} {v} {a} {p} z r hp = their_next t q a (event Cpu fresh act z v (tick p)) (n_tick Cpu fresh act (our_frame t a) true z (their_held r) (their_start r) hp)

  pub their_byte : {t q : Ties} {v a : World Cpu} {p : ℕ} (z : Sizes) (b : ℕ) → Parts t q v a → q.objs p p → Theirs t q (event Cpu fresh act z v (byte p b)) a
  their_byte {t} {q} {v} {a} {p} z b r hp = their_next t q a (event Cpu fresh act z v (byte p b)) (n_byte Cpu fresh act (our_frame t a) true z b (their_held r) hp)
