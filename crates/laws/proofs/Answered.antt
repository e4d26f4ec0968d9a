-- Who waited comes back with 0 only by a meeting that is noted, with the words of that meeting; and with no only if the port is gone.
use mathlib.Core.Path.{◌≡◌, refl, sym, ap, subst, ◌∙◌}
use mathlib.Core.Bool.{Bool, true, not}
use mathlib.Core.List.{List, [], ◌∷◌}
use mathlib.Core.Logic.{◌⊎◌, inl, inr}
use Prim.Native.Nat.{ℕ, suc}
use native.Mathlib.Omega.{arith}
use borrow.Author.Tests.{eq-eqb}
use Rattle.rights.specs.World.{no, Act, Wait, sender, receiver, State, stopped, ready, waits, Object, gone, pool, table, port, page, thread, line}
use Rattle.rights.specs.World.{World, among, object, with_object, from_of, waits_thread, cleared, set_state, then_of, resumed, handed, went_on, run}
use Rattle.rights.specs.Promise.{Kinds, Uncut, IsIn, is_first, Note, message, got_by, met_at, row_of, Back, waits_on, was_heard, was_told, was_ended, ComesBack}
use Rattle.laws.proofs.Tests.{yes_no, no_yes, clash, same_or_not}
use Rattle.laws.proofs.Steps.{is_sender, came, met, told, Sight, seen_as, waiting_at, AllCut, AllGone, one, waits_at, view, waiting_of}
use Rattle.laws.proofs.Steps.{waiting, goes, sweeps, rests, joins, Outcome, nothing, heard, stops, calls}
use Rattle.laws.proofs.Sweeping.{AfterSweep, lost, untouched, slots_go, waits_go, goes_calm, goes_waiting, goes_woken, swept_at}
use Rattle.laws.proofs.Moves.{alike_set, hands_over}
use Rattle.laws.proofs.Pass.{happens}
use Rattle.laws.proofs.Places.{kinds_run}
use Rattle.laws.proofs.Rows.{where_at, Orderly, all_ready, all_stopped, put_here, put_else, first_waits, at_ready_thread}
use Rattle.laws.proofs.Dangles.{orderly_first, orderly_run}
use Rattle.laws.proofs.Order.{uncut_run, gone_state}

module _ (Cpu : Type 0) (fresh : ℕ → Cpu) (act : Cpu → (ℕ → ℕ) → Act Cpu) where
  abbrev obj : World Cpu → ℕ → Object Cpu
  obj = object Cpu fresh act

  abbrev look : Object Cpu → Sight Cpu
  look = view Cpu fresh act

  -- the object, from what is seen of it
  pub from_look : (x : Object Cpu) (f : ℕ) (s : State Cpu) (c : Cpu) → look x ≡ seen_as f s c → (a : ℕ) × (ps : List ℕ) × (rs : List Bool) × (x ≡ thread f s c a ps rs)
  unfolding view
  from_look gone f s c e = clash (cc)
  from_look (pool g n u) f s c e = clash (cc)
  from_look (table g ss) f s c e = clash (cc)
  from_look (port g ws) f s c e = clash (cc)
  from_look (page g bs) f s c e = clash (cc)
  from_look (thread g q d a ps rs) f s c e = (a, ps, rs, cc)
  from_look (line xs ys) f s c e = clash (cc)

  from_waiting : (x : Object Cpu) (f o : ℕ) (then : List ℕ → Cpu) → waiting Cpu fresh act x ≡ waiting_at f o then → (c : Cpu) × (a : ℕ) × (ps : List ℕ) × (rs : List Bool) × (x ≡ thread f (waits o then) c a ps rs)
  unfolding view waiting_of
  from_waiting gone f o then e = clash (cc)
  from_waiting (pool g n u) f o then e = clash (cc)
  from_waiting (table g ss) f o then e = clash (cc)
  from_waiting (port g ws) f o then e = clash (cc)
  from_waiting (page g bs) f o then e = clash (cc)
  from_waiting (thread g stopped d a ps rs) f o then e = clash (cc)
  from_waiting (thread g ready d a ps rs) f o then e = clash (cc)
  from_waiting (thread g (waits u k) d a ps rs) f o then e = (d, a, ps, rs, cc)
  from_waiting (line xs ys) f o then e = clash (cc)

  -- a sweep takes a waiting thread, leaves it waiting, or wakes it with no
  swept_back : {ids os : List ℕ} {u : ℕ} {x y : Object Cpu} → AfterSweep Cpu fresh act ids os u x y → (f o a : ℕ) (c : Cpu) (ps : List ℕ) (rs : List Bool) (then : List ℕ → Cpu) → x ≡ thread f (waits o then) c a ps rs →
      (among u os ≡ true) ⊎ ((look y ≡ seen_as f (waits o then) c) ⊎ ((look y ≡ seen_as f ready (then (no ∷ []))) × (among o os ≡ true)))
  unfolding view
  swept_back (lost h) f o a c ps rs then e = inl h
  swept_back (untouched h i j n) f o a c ps rs then e = absurd (n f a (waits o then) c ps rs e)
  swept_back (slots_go ss h) f o a c ps rs then e = clash (cc)
  swept_back (waits_go ws h) f o a c ps rs then e = clash (cc)
  swept_back (goes_calm {s} t ns h n) f o a c ps rs then e = absurd (n o then (cc))
  swept_back (goes_waiting t ns h n) f o a c ps rs then e = inr (inl (cc))
  swept_back {os} (goes_woken {f = g} u k t ns h n) f o a c ps rs then e =
      let q : k ≡ then = cc in let m : u ≡ o = cc in let l : g ≡ f = cc in
      inr (inr (ap (λ (i : ℕ). seen_as i ready (k (no ∷ []))) l ∙ ap (λ (i : List ℕ → Cpu). seen_as f ready (i (no ∷ []))) q, subst (λ (i : ℕ). among i os ≡ true) m n))

  -- who waits and is told words goes on with them
  pub resumed_at : (w : World Cpu) (t f o a : ℕ) (ws ps : List ℕ) (c : Cpu) (rs : List Bool) (then : List ℕ → Cpu) → obj w t ≡ thread f (waits o then) c a ps rs → obj (resumed Cpu fresh act w t ws) t ≡ thread f ready (then ws) a ps rs
  unfolding resumed set_state then_of
  resumed_at w t f o a ws ps c rs then e = put_here Cpu fresh act w t _ (λ g. clash (cc)) ∙ ap (λ (x : Object Cpu). set_state Cpu fresh act x ready (then_of Cpu fresh act x ws (fresh 0))) e

  module _ {w : World Cpu} (k : Kinds Cpu fresh act w) (i : Orderly Cpu fresh act w) (un : Uncut Cpu fresh act w) (t f o a : ℕ) (c : Cpu) (ps : List ℕ) (rs : List Bool) (then : List ℕ → Cpu)
      (e : obj w t ≡ thread f (waits o then) c a ps rs) where
    -- the row that it waits in
    abbrev R : List Wait
    R = row_of Cpu fresh act (obj w o)

    -- it is seen as it was
    as_before : {ns : List Note} (v : World Cpu) → look (obj v t) ≡ look (obj w t) → Back Cpu fresh act R ns v t f o then
    unfolding view
    as_before v h = let y = from_look (obj v t) f (waits o then) c (h ∙ ap look e) in waits_on c y.0 y.1 y.2 y.3

    goes_waiting_on : {ns : List Note} (v : World Cpu) → waiting Cpu fresh act (obj v t) ≡ waiting Cpu fresh act (obj w t) → Back Cpu fresh act R ns v t f o then
    unfolding view waiting_of
    goes_waiting_on v h = let y = from_waiting (obj v t) f o then (h ∙ ap (waiting Cpu fresh act) e) in waits_on y.0 y.1 y.2 y.3 y.4

    -- a ready thread is another
    not_it : (p g b : ℕ) (d : Cpu) (ns : List ℕ) (ms : List Bool) → obj w p ≡ thread g ready d b ns ms → p ≡ t → ⊥
    not_it p g b d ns ms r q = let h : obj w t ≡ thread g ready d b ns ms = ap (obj w) (sym q) ∙ r in clash (cc)

    not_port : (u g : ℕ) (q : List Wait) → obj w u ≡ port g q → u ≡ t → ⊥
    not_port u g q r m = let h : obj w t ≡ port g q = ap (obj w) (sym m) ∙ r in clash (cc)

    it_waits : where_at Cpu fresh act w t ≡ suc o
    unfolding waits_at
    it_waits = ap (waits_at Cpu fresh act) e

    -- what is noted of its meeting
    noted_heard : (x y : Wait) → IsIn y R → is_sender x ≡ not (is_sender y) → (a' : ℕ) (ps' : List ℕ) (rs' : List Bool) (v : World Cpu) → waits_thread Cpu fresh act y ≡ t → obj v t ≡ thread f ready (then (told y x)) a' ps' rs' →
        Back Cpu fresh act R (came o x ∷ met o x y) v t f o then
    unfolding told came met met_at is_sender waits_thread
    noted_heard (sender p b ws h g s) (sender u d vs j l r) i n a' ps' rs' v m q = yes_no n
    noted_heard (receiver p d) (sender u b ws h g s) i n a' ps' rs' v m q =
        was_heard p b a' s h g ws ps' rs' (subst (λ (j : ℕ). IsIn (sender j b ws h g s) R) m i) (rw (eq-eqb o o refl) (ap {B = List _} (λ (j : ℕ). got_by (message j b ws) p ∷ []) m)) q
    noted_heard (sender p b ws h g s) (receiver u d) i n a' ps' rs' v m q =
        was_told p b a' d ws ps' rs' (subst (λ (j : ℕ). IsIn (receiver j d) R) m i) (rw (eq-eqb o o refl) (ap {B = List _} (λ (j : ℕ). got_by (message p b ws) j ∷ []) m)) q
    noted_heard (receiver p d) (receiver u l) i n a' ps' rs' v m q = no_yes n

    -- every event
    pub back : {v : World Cpu} {ns : List Note} → Outcome Cpu fresh act w ns v → Back Cpu fresh act R ns v t f o then
    unfolding went_on resumed row_of waits_at view waiting_of AllCut AllGone Uncut from_of
    back nothing = waits_on c a ps rs e
    back (heard u {xs} {ys} zs r) = goes_waiting_on _ (alike_set Cpu fresh act w u (line xs ys) (line xs zs) r (record { rows = refl; ports = refl; goes_on = refl }) t).goes_on
    back (stops p {f = g} {a = b} {c = d} {ps = ns} {rs = ms} r) = goes_waiting_on _ (all_stopped Cpu fresh act w p (fresh 0) (at_ready_thread Cpu fresh act w p g b d ns ms r) t).goes_on
    back (calls p {f = g} {a = b} {c = d} {ps = ns} {rs = ms} next r (goes {v} ws s al)) =
        goes_waiting_on _ ((all_ready Cpu fresh act v p (next ws) ((al k p).ports ∙ at_ready_thread Cpu fresh act w p g b d ns ms r) t).goes_on ∙ (al k t).goes_on)
    back (calls p {f = g} {a = b} {c = d} {ps = ns} {rs = ms} next r (sweeps {v} ws ids os s al se ac ag)) = go (swept_back (swept_at Cpu fresh act w ids os t) f o a c ps rs then e)
      where
        V : World Cpu
        V = with_object Cpu fresh act v p (set_state Cpu fresh act (obj v p) ready (next ws))

        seen_now : look (obj V t) ≡ look (obj (cleared Cpu fresh act w ids os) t)
        seen_now = ap look (put_else Cpu fresh act v p t _ (not_it p g b d ns ms r)) ∙ se t

        go : (among t os ≡ true) ⊎ ((look (obj (cleared Cpu fresh act w ids os) t) ≡ seen_as f (waits o then) c) ⊎ ((look (obj (cleared Cpu fresh act w ids os) t) ≡ seen_as f ready (then (no ∷ []))) × (among o os ≡ true))) →
            Back Cpu fresh act R [] V t f o then
        go (inl h) = absurd (ac t h (ap (from_of Cpu fresh act) e ∙ un t f a (waits o then) c ps rs e))
        go (inr (inl h)) = as_before V (seen_now ∙ h ∙ sym (ap look e))
        go (inr (inr (h, m))) = let y = from_look (obj V t) f ready (then (no ∷ [])) (seen_now ∙ h) in was_ended y.0 y.1 y.2 (gone_state Cpu fresh act v p o ready (next ws) (ag o m)) y.3
    back (calls p {f = g} {a = b} {c = d} {ps = ns} {rs = ms} next r (rests {o = u} {f = l} {ws} x s at q h)) =
        as_before _ (ap look (put_else Cpu fresh act _ p t _ (not_it p g b d ns ms r) ∙ put_else Cpu fresh act w u t _ (not_port u l ws at)))
    back (calls p {f = g} {a = b} {c = d} {ps = ns} {rs = ms} next r (joins u {f = l} {q} x y h b1 b2 b3 b4 s at m n)) =
        same_or_not (waits_thread Cpu fresh act y) t met_it
        (λ other. as_before V (ap look (put_else Cpu fresh act C p t _ (not_it p g b d ns ms r)) ∙ ap look (put_else Cpu fresh act B (waits_thread Cpu fresh act y) t _ other) ∙ same_b))
      where
        A : World Cpu
        A = with_object Cpu fresh act w u (port l q)

        B : World Cpu
        B = handed Cpu fresh act A h b1 b2 b3 b4

        C : World Cpu
        C = resumed Cpu fresh act B (waits_thread Cpu fresh act y) (told y x)

        V : World Cpu
        V = with_object Cpu fresh act C p (set_state Cpu fresh act (obj C p) ready (next (told x y)))

        same_b : look (obj B t) ≡ look (obj w t)
        same_b = (hands_over Cpu fresh act A h b1 b2 b3 b4).2 t ∙ ap look (put_else Cpu fresh act w u t _ (not_port u l (y ∷ q) at))

        met_it : waits_thread Cpu fresh act y ≡ t → Back Cpu fresh act R (came u x ∷ met u x y) V t f o then
        met_it j =
            subst (λ (i : ℕ). Back Cpu fresh act R (came i x ∷ met i x y) V t f o then) (sym here) (noted_heard x y in_row n z.0 z.1 z.2 V j
            (put_else Cpu fresh act C p t _ (not_it p g b d ns ms r) ∙ at_c))
          where
            here : u ≡ o
            here = let a1 = first_waits Cpu fresh act i u l y q at in let a2 : where_at Cpu fresh act w t ≡ suc u = ap (where_at Cpu fresh act w) (sym j) ∙ a1 in let a3 = it_waits in omega arith

            in_row : IsIn y R
            in_row = subst (λ (vs : List Wait). IsIn y vs) (sym (ap (row_of Cpu fresh act) (ap (obj w) (sym here) ∙ at))) is_first

            z : (a : ℕ) × (ps : List ℕ) × (rs : List Bool) × (obj B t ≡ thread f (waits o then) c a ps rs)
            z = from_look (obj B t) f (waits o then) c (same_b ∙ ap look e)

            at_c : obj C t ≡ thread f ready (then (told y x)) z.0 z.1 z.2
            at_c = subst (λ (j₀ : ℕ). obj (resumed Cpu fresh act B j₀ (told y x)) t ≡ thread f ready (then (told y x)) z.0 z.1 z.2) (sym j) (resumed_at B t f o z.0 (told y x) z.1 c z.2 then z.3)

  pub comes_back : ComesBack Cpu fresh act
  unfolding ComesBack
  comes_back z v es e t f o a c ps rs then one p k un q =
      back (kinds_run Cpu fresh act z v es k) (orderly_run Cpu fresh act z v es k (orderly_first Cpu fresh act v p)) (uncut_run Cpu fresh act z v es un) t f o a c ps rs then q (happens Cpu fresh act z (run Cpu fresh act z v es) e)
