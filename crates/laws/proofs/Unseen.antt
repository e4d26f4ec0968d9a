-- The second sentence: who isn't reached isn't seen.
use mathlib.Core.Path.{◌≡◌, refl, sym, ap, ◌∙◌}
use mathlib.Core.Bool.{Bool, true, false, ◌||◌}
use mathlib.Core.List.{List, [], ◌∷◌}
use Prim.Native.Nat.{ℕ, ◌+◌, ◌≤◌, ◌<◌}
use native.Mathlib.Omega.{arith}
use lib.Dec.{ltb}
use borrow.Author.Tests.{ltb-true, ltb-false}
use lib.ListN.{length}
use Rattle.rights.specs.World.{pick, Act, Object, Sizes, World, Event, tick, byte, among, object, cuttings, event, run}
use Rattle.rights.specs.World.{shown_by}
use Rattle.rights.specs.Promise.{SameButBirths, same_object, UnreachedIn, Parted, mine, only, Unreached}
use Rattle.laws.proofs.Tests.{yes_no}
use Rattle.laws.proofs.CutFrom.{sat}
use Rattle.laws.proofs.Steps.{one}
use Rattle.laws.proofs.Pools.{DullFrom, dull_event, dull_first, idle_t, idle_b}
use Rattle.laws.proofs.Tied.{Ties, Agree, ObjT, gone_t, pool_t, table_t, port_t, page_t, thread_t, line_t}
use Rattle.laws.proofs.Kindred.{a_cuttings}
use Rattle.laws.proofs.Frames.{Parts, Ours, our_tick, our_byte, Theirs, their_tick, their_byte}
use Rattle.laws.proofs.Beginning.{ties, alone, parts_first}

module _ (Cpu : Type 0) (fresh : ℕ → Cpu) (act : Cpu → (ℕ → ℕ) → Act Cpu) where
  o_shown : {d : Bool} {t : Ties} {x y : Object Cpu} → ObjT Cpu d t x y → shown_by Cpu fresh act x ≡ shown_by Cpu fresh act y
  unfolding shown_by
  o_shown gone_t = refl
  o_shown (pool_t f) = refl
  o_shown (table_t f ss) = refl
  o_shown (port_t f ws) = refl
  o_shown (page_t f) = refl
  o_shown (thread_t f s a ps) = refl
  o_shown line_t = refl

  kin_of : {t q : Ties} {v a : World Cpu} → Parts Cpu fresh act t q v a → (o k : ℕ) → t.objs o k → Agree t.objs (cuttings Cpu fresh act v (length v.objects) (o ∷ [])) (cuttings Cpu fresh act a (length a.objects) (k ∷ []))
  unfolding among
  kin_of {t} {q} {v} {a} r o k g u j h =
      let n = length v.objects + length a.objects in
      sym (sat Cpu fresh act v (o ∷ []) n u (omega arith)) ∙
      a_cuttings Cpu fresh act r.mine n (o ∷ []) (k ∷ []) (λ b c m. ap (λ (x : Bool). x || false) (r.mine.one m g)) u j h ∙
      sat Cpu fresh act a (k ∷ []) n j (omega arith)

  module _ (A : ℕ → Bool) (l : ℕ) (outside : (u : ℕ) → l ≤ u → A u ≡ false) where
    record Whole (v a : World Cpu) : Type 1 where
      t : Ties
      q : Ties
      parts : Parts Cpu fresh act t q v a
      home : (u : ℕ) → u < l → A u ≡ true → t.objs u u
      away : (u : ℕ) → u < l → A u ≡ false → q.objs u u
      dulls : DullFrom Cpu fresh act l v

    no_both : {B : Type 1} {b : Bool} → b ≡ true → b ≡ false → B
    no_both e f = yes_no (sym e ∙ f)

    by_ours : {v a : World Cpu} (w b : World Cpu) (r : Whole v a) → Ours Cpu fresh act r.t r.q w b → DullFrom Cpu fresh act l w → Whole w b
    unfolding Ours
    by_ours w b r n k = record { t = n.0; q = r.q; parts = n.2; home = λ u h e. n.1.more (r.home u h e); away = r.away; dulls = k }

    by_theirs : {v a : World Cpu} (w : World Cpu) (r : Whole v a) → Theirs Cpu fresh act r.t r.q w a → DullFrom Cpu fresh act l w → Whole w a
    unfolding Theirs
    by_theirs w r n k = record { t = r.t; q = n.0; parts = n.2; home = r.home; away = λ u h e. n.1.more (r.away u h e); dulls = k }

    our_event : {v a : World Cpu} (z : Sizes) (e : Event) → Whole v a → mine Cpu fresh act A e ≡ true → Whole (event Cpu fresh act z v e) (event Cpu fresh act z a e)
    unfolding mine
    our_event {v} {a} z (tick p) r g = go (ltb p l) refl
      where
        go : (c : Bool) → ltb p l ≡ c → Whole (event Cpu fresh act z v (tick p)) (event Cpu fresh act z a (tick p))
        go true h = by_ours (event Cpu fresh act z v (tick p)) (event Cpu fresh act z a (tick p)) r (our_tick Cpu fresh act z r.parts (kin_of r.parts) (r.home p (ltb-true p l h) g)) (dull_event Cpu fresh act l z v (tick p) r.dulls)
        go false h = no_both g (outside p (ltb-false p l h))
    our_event {v} {a} z (byte p b) r g = go (ltb p l) refl
      where
        go : (c : Bool) → ltb p l ≡ c → Whole (event Cpu fresh act z v (byte p b)) (event Cpu fresh act z a (byte p b))
        go true h = by_ours (event Cpu fresh act z v (byte p b)) (event Cpu fresh act z a (byte p b)) r (our_byte Cpu fresh act z b r.parts (r.home p (ltb-true p l h) g)) (dull_event Cpu fresh act l z v (byte p b) r.dulls)
        go false h = no_both g (outside p (ltb-false p l h))

    their_event : {v a : World Cpu} (z : Sizes) (e : Event) → Whole v a → mine Cpu fresh act A e ≡ false → Whole (event Cpu fresh act z v e) a
    unfolding mine
    their_event {v} {a} z (tick p) r g = go (ltb p l) refl
      where
        go : (c : Bool) → ltb p l ≡ c → Whole (event Cpu fresh act z v (tick p)) a
        go true h = by_theirs (event Cpu fresh act z v (tick p)) r (their_tick Cpu fresh act z r.parts (r.away p (ltb-true p l h) g)) (dull_event Cpu fresh act l z v (tick p) r.dulls)
        go false h = rw (idle_t Cpu fresh act l z v p r.dulls (ltb-false p l h)) r
    their_event {v} {a} z (byte p b) r g = go (ltb p l) refl
      where
        go : (c : Bool) → ltb p l ≡ c → Whole (event Cpu fresh act z v (byte p b)) a
        go true h = by_theirs (event Cpu fresh act z v (byte p b)) r (their_byte Cpu fresh act z b r.parts (r.away p (ltb-true p l h) g)) (dull_event Cpu fresh act l z v (byte p b) r.dulls)
        go false h = rw (idle_b Cpu fresh act l z v p b r.dulls (ltb-false p l h)) r

    whole_run : (z : Sizes) (v a : World Cpu) (es : List Event) → Whole v a → Whole (run Cpu fresh act z v es) (run Cpu fresh act z a (only Cpu fresh act A es))
    unfolding run only
    whole_run z v a [] r = r
    whole_run z v a (e ∷ es) r = go (mine Cpu fresh act A e) refl (λ b. whole_run z (event Cpu fresh act z v e) b es)
      where
        go : (c : Bool) → mine Cpu fresh act A e ≡ c → ((b : World Cpu) → Whole (event Cpu fresh act z v e) b → Whole (run Cpu fresh act z (event Cpu fresh act z v e) es) (run Cpu fresh act z b (only Cpu fresh act A es))) →
            Whole (run Cpu fresh act z (event Cpu fresh act z v e) es) (run Cpu fresh act z a (pick c (e ∷ only Cpu fresh act A es) (only Cpu fresh act A es)))
        go true g rec = rec (event Cpu fresh act z a e) (our_event z e r g)
        go false g rec = rec a (their_event z e r g)

  whole_first : (A : ℕ → Bool) (l : ℕ) (outside : (u : ℕ) → l ≤ u → A u ≡ false) (v w : World Cpu) → l ≡ length v.objects → length v.objects ≡ length w.objects → Parted Cpu fresh act A v → Parted Cpu fresh act A w →
      ((u : ℕ) → u < length v.objects → A u ≡ true → SameButBirths Cpu fresh act (object Cpu fresh act v u) (object Cpu fresh act w u)) → Whole A l outside v (alone Cpu fresh act A w w.births)
  unfolding ties
  whole_first A l outside v w e long p q same =
      record {
        t = ties Cpu fresh act A true v w;
        q = ties Cpu fresh act A false v v;
        parts = parts_first Cpu fresh act A v w p q long (λ u h. outside u (omega arith)) same;
        home = λ u h a. (refl, a, omega arith);
        away = λ u h a. (refl, a, omega arith);
        dulls = dull_first Cpu fresh act l v (omega arith);
      }

  shown_same : (A : ℕ → Bool) (l : ℕ) (outside : (u : ℕ) → l ≤ u → A u ≡ false) (v a : World Cpu) → Whole A l outside v a → (o : ℕ) → o < l → A o ≡ true → shown_by Cpu fresh act (object Cpu fresh act v o) ≡ shown_by Cpu fresh act (object Cpu fresh act a o)
  shown_same A l outside v a r o h e = o_shown (r.parts.mine.same (r.home o h e))

  pub unreached : Unreached Cpu fresh act
  unfolding Unreached UnreachedIn
  unreached z A v w es fs o one pv pw same len onlys ao ol outside =
      let l = length v.objects in
      let a = alone Cpu fresh act A w w.births in
      shown_same A l outside (run Cpu fresh act z v es) (run Cpu fresh act z a (only Cpu fresh act A es)) (whole_run A l outside z v a es (whole_first A l outside v w refl len pv pw same)) o ol ao ∙
      ap (λ (xs : List Event). shown_by Cpu fresh act (object Cpu fresh act (run Cpu fresh act z a xs) o)) onlys ∙
      sym (shown_same A l outside (run Cpu fresh act z w fs) (run Cpu fresh act z a (only Cpu fresh act A fs)) (whole_run A l outside z w a fs (whole_first A l outside w w len refl pw pw (λ u h e. same_object))) o ol ao)
