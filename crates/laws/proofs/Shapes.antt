-- An object has the same kind, size and pool until it is gone, and what is gone stays gone.
use mathlib.Core.Path.{◌≡◌, refl, sym, ap, subst, ◌∙◌}
use mathlib.Core.Bool.{Bool, true, false, ◌||◌, not}
use mathlib.Core.List.{List, [], ◌∷◌, ◌++◌}
use mathlib.Core.Logic.{◌⊎◌, inl, inr}
use Prim.Native.Nat.{ℕ, zero, suc, ◌+◌, ◌*◌, ◌-◌, ◌/◌, ◌%◌, ◌≤◌}
use native.Mathlib.Omega.{arith}
use lib.Dec.{ltb, eqb}
use borrow.Author.Tests.{leb-true}
use lib.ListN.{length, get_or, replicate, length-replicate}
use Rattle.rights.specs.World.{over, drop, Rights, Slot, Kind, a_pool, a_table, a_port, a_page, Call, cut, copy, move, drop_it, revoke, send, receive, map, unmap, bind, go, say, hear}
use Rattle.rights.specs.World.{Act, quiet, store, call, wrong, State, stopped, ready, waits, Object, gone, pool, table, port, page, thread, line, Sizes, World, Event, tick, byte}
use Rattle.rights.specs.World.{cost, step_of, up_to, is_empty, copied, too_many, among, from_of, emptied, object, with_object, slot, has_slot, cleared, refilled, made}
use Rattle.rights.specs.World.{Went, on, wait, refuse, cutting, is_pool, revoking, set_state, bytes_of, from_page, seen, stores, may_store, does, went_on, acts, ticked, comes_in, event, run}
use Rattle.rights.specs.Promise.{Kinds, Paged, cost_of}
use Rattle.rights.specs.Effects.{Shape, no_shape, table_shape, page_shape, shape, StaysIn, Stays}
use Rattle.laws.proofs.Tests.{no_yes, clash, pick_both, pick_know, both_hold, or_right, and_left, and_right, less_one, set_by}
use Rattle.laws.proofs.Forms.{by_pool, by_line, no_cut, no_copy, no_revoke, cutting_is, comes_in_is}
use Rattle.laws.proofs.Steps.{to}
use Rattle.laws.proofs.Sweeping.{AfterSweep, lost, untouched, slots_go, waits_go, goes_calm, goes_waiting, goes_woken, len_clean, swept_at}
use Rattle.laws.proofs.Cuts.{after_cut, cut_places}
use Rattle.laws.proofs.Pass.{event_keeps}
use Rattle.laws.proofs.Places.{kinds_event, kinds_run}
use Rattle.laws.proofs.Quiet.{Paper, written, used_in, paper, plain, left, quiet_set, quiet_state, quiet_slot, quiet_call, paper_slots}

-- bytes written over a list inside it leave its length
front_long : (xs ys : List ℕ) → length ys ≤ length xs → length (ys ++ drop (length ys) xs) ≡ length xs
unfolding drop
front_long xs [] h = refl
front_long [] (y ∷ ys) h = absurd (omega arith)
front_long (x ∷ xs) (y ∷ ys) h = ap suc (front_long xs ys (omega arith))

over_long : (xs : List ℕ) (a : ℕ) (ys : List ℕ) → a + length ys ≤ length xs → length (over xs a ys) ≡ length xs
unfolding over
over_long xs zero ys h = front_long xs ys (omega arith)
over_long [] (suc a) ys h = absurd (omega arith)
over_long (x ∷ xs) (suc a) ys h = ap suc (over_long xs a ys (omega arith))

module _ (Cpu : Type 0) (fresh : ℕ → Cpu) (act : Cpu → (ℕ → ℕ) → Act Cpu) where
  abbrev obj : World Cpu → ℕ → Object Cpu
  obj = object Cpu fresh act

  abbrev shape_at : World Cpu → ℕ → Shape
  shape_at w u = shape Cpu fresh act (obj w u)

  -- a sweep: an object is gone, or has the same papers
  pub emptied_long : (ids os : List ℕ) (ss : List Slot) → length (emptied Cpu fresh act ids os ss) ≡ length ss
  unfolding emptied
  emptied_long ids os [] = refl
  emptied_long ids os (x ∷ ss) = ap suc (emptied_long ids os ss)

  pub swept_paper : {ids os : List ℕ} {u : ℕ} {x y : Object Cpu} → AfterSweep Cpu fresh act ids os u x y → (y ≡ gone) ⊎ ((among u os ≡ false) × (paper Cpu fresh act y ≡ paper Cpu fresh act x))
  unfolding paper from_of cost_of used_in shape
  swept_paper (lost h) = inl refl
  swept_paper (untouched h a b c) = inr (h, refl)
  swept_paper {ids} {os} (slots_go {f} ss h) = inr (h, ap (λ (n : ℕ). written f (n * 64) 0 (table_shape f n)) (emptied_long ids os ss))
  swept_paper (waits_go ws h) = inr (h, refl)
  swept_paper (goes_calm t ps h n) = inr (h, refl)
  swept_paper (goes_waiting t ps h n) = inr (h, refl)
  swept_paper (goes_woken o then t ps h n) = inr (h, refl)

  -- a store: where a page is, a page of as many bytes
  pub stored_same : (z : Sizes) (w : World Cpu) → Kinds Cpu fresh act w → Paged Cpu fresh act z w → (p f a : ℕ) (c : Cpu) (ps : List ℕ) (rs : List Bool) (i : ℕ) (bs : List ℕ) → obj w p ≡ thread f ready c a ps rs → may_store Cpu fresh act z ps rs i bs ≡ true →
      (t : ℕ) → paper Cpu fresh act (obj (stores Cpu fresh act z w ps rs i bs) t) ≡ paper Cpu fresh act (obj w t)
  unfolding stores may_store paper from_of from_page bytes_of cost_of used_in shape Paged
  stored_same z w k pw p f a c ps rs i bs e g = go (get_or ps (i / z.bytes) 0) refl (and_left _ _ g)
    where
      inside : i % z.bytes + length bs ≤ z.bytes
      inside = leb-true _ _ (and_right (get_or rs (i / z.bytes) false) _ (and_right (not (eqb (get_or ps (i / z.bytes) 0) 0)) _ g))

      go : (u : ℕ) → get_or ps (i / z.bytes) 0 ≡ u → not (eqb u 0) ≡ true → (t : ℕ) →
          paper Cpu fresh act (obj (with_object Cpu fresh act w (u - 1) (page (from_page Cpu fresh act (obj w (u - 1))) (over (bytes_of Cpu fresh act (obj w (u - 1))) (i % z.bytes) bs))) t) ≡ paper Cpu fresh act (obj w t)
      go zero q h t = no_yes h
      go (suc u) q h t =
          subst (λ (j : ℕ). paper Cpu fresh act (obj (with_object Cpu fresh act w j (page (from_page Cpu fresh act (obj w j)) (over (bytes_of Cpu fresh act (obj w j)) (i % z.bytes) bs))) t) ≡ paper Cpu fresh act (obj w t)) (sym (less_one u))
          (let y = k.its_pages p f a (i / z.bytes) u ready c ps rs e q in
          (quiet_set Cpu fresh act z w u (obj w u) _ refl (ap (λ (x : Object Cpu). paper Cpu fresh act (page (from_page Cpu fresh act x) (over (bytes_of Cpu fresh act x) (i % z.bytes) bs))) y.2 ∙
          ap (λ (n : ℕ). written y.0 n 0 (page_shape y.0 n)) (over_long y.1 (i % z.bytes) bs (let l = pw u y.0 y.1 y.2 in let m = inside in omega arith)) ∙ ap (paper Cpu fresh act) (sym y.2))).same_papers t)

  of_paper : Paper → Shape
  of_paper (written f c u s) = s

  module _ (z : Sizes) where
    -- a page of as many bytes as pages have
    Fine : Shape → Type 0
    Fine s = (f n : ℕ) → s ≡ page_shape f n → n ≡ z.bytes

    -- what became of object u: it is gone, or has the same shape, or is new
    data Keeps (w v : World Cpu) (u : ℕ) : Type 0 where
      went : obj v u ≡ gone → Keeps w v u
      same : shape_at v u ≡ shape_at w u → Keeps w v u
      is_new : length w.objects ≤ u → Fine (shape_at v u) → Keeps w v u

    record Kept (w v : World Cpu) : Type 0 where
      keeps : (u : ℕ) → Keeps w v u

    kept_same : (w v : World Cpu) → ((u : ℕ) → paper Cpu fresh act (obj v u) ≡ paper Cpu fresh act (obj w u)) → Kept w v
    unfolding paper of_paper
    kept_same w v h = record { keeps = λ u. same (ap of_paper (h u)) }

    shape_gone : (x : Object Cpu) → shape Cpu fresh act x ≡ no_shape → x ≡ gone
    unfolding shape
    shape_gone gone e = refl
    shape_gone (pool f n u) e = clash (cc)
    shape_gone (table f ss) e = clash (cc)
    shape_gone (port f ws) e = clash (cc)
    shape_gone (page f bs) e = clash (cc)
    shape_gone (thread f s c t ps rs) e = clash (cc)
    shape_gone (line xs ys) e = clash (cc)

    kept_on : (w v x : World Cpu) → length w.objects ≤ length v.objects → Kept w v → Kept v x → Kept w x
    unfolding shape
    kept_on w v x l a b = record { keeps = λ u. go u (a.keeps u) (b.keeps u) }
      where
        go : (u : ℕ) → Keeps w v u → Keeps v x u → Keeps w x u
        go u p (went e) = went e
        go u p (is_new h f) = is_new (omega arith) f
        go u (went e) (same q) = went (shape_gone (obj x u) (q ∙ ap (shape Cpu fresh act) e))
        go u (same e) (same q) = same (q ∙ e)
        go u (is_new h f) (same q) = is_new h (subst Fine (sym q) f)

    paged_kept : (w v : World Cpu) → Kept w v → Paged Cpu fresh act z w → Paged Cpu fresh act z v
    unfolding Paged shape Fine
    paged_kept w v k p o f bs e = go (k.keeps o)
      where
        page_there : (x : Object Cpu) (g n : ℕ) → shape Cpu fresh act x ≡ page_shape g n → (h : ℕ) × (cs : List ℕ) × (x ≡ page h cs) × (length cs ≡ n)
        page_there gone g n e = clash (cc)
        page_there (pool f m u) g n e = clash (cc)
        page_there (table f ss) g n e = clash (cc)
        page_there (port f ws) g n e = clash (cc)
        page_there (page f cs) g n e = (f, cs, refl, cc)
        page_there (thread f s c t ps rs) g n e = clash (cc)
        page_there (line xs ys) g n e = clash (cc)

        is_page : shape_at v o ≡ page_shape f (length bs)
        is_page = ap (shape Cpu fresh act) e

        go : Keeps w v o → length bs ≡ z.bytes
        go (went h) = clash (cc)
        go (same h) = let q = page_there (obj w o) f (length bs) (sym h ∙ is_page) in sym q.3 ∙ p o q.0 q.1 q.2
        go (is_new h g) = g f (length bs) is_page

    paper_shape : (x y : Object Cpu) → paper Cpu fresh act x ≡ paper Cpu fresh act y → shape Cpu fresh act x ≡ shape Cpu fresh act y
    unfolding paper of_paper
    paper_shape x y e = ap of_paper e

    kept_swept : (w : World Cpu) (ids os : List ℕ) → Kept w (cleared Cpu fresh act w ids os)
    kept_swept w ids os = record { keeps = λ u. go u (swept_paper (swept_at Cpu fresh act w ids os u)) }
      where
        go : (u : ℕ) → (obj (cleared Cpu fresh act w ids os) u ≡ gone) ⊎ ((among u os ≡ false) × (paper Cpu fresh act (obj (cleared Cpu fresh act w ids os) u) ≡ paper Cpu fresh act (obj w u))) → Keeps w (cleared Cpu fresh act w ids os) u
        go u (inl e) = went e
        go u (inr e) = same (paper_shape _ _ e.1)

    shape_refilled : (x : Object Cpu) → shape Cpu fresh act (refilled Cpu fresh act x) ≡ shape Cpu fresh act x
    unfolding shape refilled
    shape_refilled gone = refl
    shape_refilled (pool f n u) = refl
    shape_refilled (table f ss) = refl
    shape_refilled (port f ws) = refl
    shape_refilled (page f bs) = refl
    shape_refilled (thread f s c t ps rs) = refl
    shape_refilled (line xs ys) = refl

    kept_refilled : (w : World Cpu) (o : ℕ) → Kept w (with_object Cpu fresh act w o (refilled Cpu fresh act (obj w o)))
    unfolding with_object object
    kept_refilled w o = record {
      keeps = λ u. same (set_by (λ (x : Object Cpu). shape Cpu fresh act x ≡ shape Cpu fresh act (get_or w.objects u gone)) w.objects o u _ gone
          (λ e. shape_refilled (get_or w.objects o gone) ∙ ap (λ (i : ℕ). shape Cpu fresh act (get_or w.objects i gone)) e) refl);
    }

    -- what is cut is as large as it is to be
    made_fine : (f : ℕ) (k : Kind) → Fine (shape Cpu fresh act (made Cpu fresh act z f k))
    unfolding Fine shape made
    made_fine f (a_pool n) g m e = clash (cc)
    made_fine f (a_table n) g m e = clash (cc)
    made_fine f a_port g m e = clash (cc)
    made_fine f a_page g m e = let h : length (replicate {A = ℕ} z.bytes 0) ≡ m = cc in sym h ∙ length-replicate z.bytes 0

    kept_cut : (w : World Cpu) (p o d : ℕ) (x : Slot) (k : Kind) (f n u c : ℕ) → has_slot Cpu fresh act w p d ≡ true → obj w o ≡ pool f n u → Kept w (after_cut Cpu fresh act z w p o d x k f n u c)
    unfolding shape
    kept_cut w p o d x k f n u c h e =
        record {
          keeps = λ t. turn t (cut_places Cpu fresh act z w p o d x k f n u c h e (λ i X. (shape Cpu fresh act X ≡ shape_at w i) ⊎ ((length w.objects ≤ i) × Fine (shape Cpu fresh act X))) t (inl refl)
              (λ q. inl (sym (ap (λ (i : ℕ). shape_at w i) q ∙ ap (shape Cpu fresh act) e))) (λ q. inr (omega arith, made_fine (suc o) k)) (λ y _. inl (paper_shape _ _ (paper_slots Cpu fresh act z (obj w t) d y))));
        }
      where
        turn : (t : ℕ) → (shape_at (after_cut Cpu fresh act z w p o d x k f n u c) t ≡ shape_at w t) ⊎ ((length w.objects ≤ t) × Fine (shape_at (after_cut Cpu fresh act z w p o d x k f n u c) t)) → Keeps w (after_cut Cpu fresh act z w p o d x k f n u c) t
        turn t (inl q) = same q
        turn t (inr q) = is_new q.0 q.1

    len_swept : (w : World Cpu) (ids os : List ℕ) → length w.objects ≤ length (cleared Cpu fresh act w ids os).objects
    unfolding cleared
    len_swept w ids os = let h = len_clean Cpu fresh act ids os 0 w.objects in omega arith

    -- what every call leaves
    module _ (w : World Cpu) (k : Kinds Cpu fresh act w) (pw : Paged Cpu fresh act z w) (p : ℕ) where
      After : Went Cpu fresh act → Type 0
      After g = Kept w (left Cpu fresh act g)

      idle : Kept w w
      idle = record { keeps = λ u. same refl }

      refused : After (refuse Cpu fresh act w)
      unfolding After left refuse
      refused = idle

      k_plain : (c : Call) → plain c ≡ true → After (does Cpu fresh act z w p c)
      unfolding After
      k_plain c n = kept_same w _ (quiet_call Cpu fresh act z w p c n).same_papers

      k_copy : (s d b : ℕ) (r : Rights) → After (does Cpu fresh act z w p (copy s d r b))
      unfolding After left does object
      k_copy s d b r = pick_both After (no_copy Cpu fresh act w p s d) refused
          (kept_same w _ (quiet_slot Cpu fresh act z (record { objects = w.objects; births = suc w.births; lineage = copied (slot Cpu fresh act w p s) r b (suc w.births) ∷ w.lineage }) p d _).same_papers)

      k_cut : (s d : ℕ) (kd : Kind) → After (does Cpu fresh act z w p (cut s kd d))
      unfolding After left does cutting after_cut
      k_cut s d kd =
          pick_know After (no_cut Cpu fresh act w p s d) (λ _. refused) (λ g.
          let x = slot Cpu fresh act w p s in
          rw (cutting_is Cpu fresh act z w p (to x) x kd d (obj w (to x))) (by_pool After (obj w (to x)) refused (λ f n u e.
          pick_both After (ltb n (up_to (step_of z kd) u + cost z kd) || (eqb (cost z kd) 0 || too_many kd)) refused
          (kept_cut w p (to x) d x kd f n u (up_to (step_of z kd) u + cost z kd) (both_hold _ _ (or_right _ _ (or_right (is_empty x) _ g))) e))))

      k_revoke : (s : ℕ) → After (does Cpu fresh act z w p (revoke s))
      unfolding After left does revoking
      k_revoke s =
          pick_both After (no_revoke Cpu fresh act w p s) refused (pick_both After (is_pool Cpu fresh act (obj w (to (slot Cpu fresh act w p s))))
          (kept_on w _ _ (len_swept w _ _) (kept_swept w _ _) (kept_refilled _ _)) (kept_swept w _ []))

      k_call : (c : Call) → After (does Cpu fresh act z w p c)
      unfolding plain
      k_call (cut s kd d) = k_cut s d kd
      k_call (copy s d r b) = k_copy s d b r
      k_call (move s d) = k_plain (move s d) refl
      k_call (drop_it s) = k_plain (drop_it s) refl
      k_call (revoke s) = k_revoke s
      k_call (send s ws g h) = k_plain (send s ws g h) refl
      k_call (receive s d) = k_plain (receive s d) refl
      k_call (map s t a) = k_plain (map s t a) refl
      k_call (unmap t a) = k_plain (unmap t a) refl
      k_call (bind t s) = k_plain (bind t s) refl
      k_call (go t a) = k_plain (go t a) refl
      k_call (say s b) = k_plain (say s b) refl
      k_call (hear s) = k_plain (hear s) refl

      -- a thread in another state after it
      kept_state : (v : World Cpu) (s : State Cpu) (c : Cpu) → Kept w v → Kept w (with_object Cpu fresh act v p (set_state Cpu fresh act (obj v p) s c))
      unfolding shape
      kept_state v s c h = record { keeps = λ u. turn u (paper_shape _ _ ((quiet_state Cpu fresh act z v p s c).same_papers u)) (h.keeps u) }
        where
          V : World Cpu
          V = with_object Cpu fresh act v p (set_state Cpu fresh act (obj v p) s c)

          turn : (u : ℕ) → shape_at V u ≡ shape_at v u → Keeps w v u → Keeps w V u
          turn u e (went q) = went (shape_gone (obj V u) (e ∙ ap (shape Cpu fresh act) q))
          turn u e (same q) = same (e ∙ q)
          turn u e (is_new l f) = is_new l (subst Fine (sym e) f)

      k_went : (then : List ℕ → Cpu) (g : Went Cpu fresh act) → After g → Kept w (went_on Cpu fresh act w p then g)
      unfolding After left went_on
      k_went then (on v ws) h = kept_state v ready (then ws) h
      k_went then (wait v o) h = kept_state v (waits o then) (fresh 0) h

      k_acts : (f a : ℕ) (c : Cpu) (ps : List ℕ) (rs : List Bool) (x : Act Cpu) → obj w p ≡ thread f ready c a ps rs → Kept w (acts Cpu fresh act z w p ps rs x)
      unfolding acts
      k_acts f a c ps rs (quiet d) e = kept_state w ready d idle
      k_acts f a c ps rs (store i bs d) e =
          pick_know (Kept w) (may_store Cpu fresh act z ps rs i bs) (λ g. kept_state _ ready d (kept_same w _ (stored_same z w k pw p f a c ps rs i bs e g))) (λ _. kept_state w stopped (fresh 0) idle)
      k_acts f a c ps rs (call x then) e = k_went then (does Cpu fresh act z w p x) (k_call x)
      k_acts f a c ps rs wrong e = kept_state w stopped (fresh 0) idle

      k_ticked : (x : Object Cpu) → obj w p ≡ x → Kept w (ticked Cpu fresh act z w p x)
      unfolding ticked
      k_ticked gone e = idle
      k_ticked (pool f n u) e = idle
      k_ticked (table f ss) e = idle
      k_ticked (port f ws) e = idle
      k_ticked (page f bs) e = idle
      k_ticked (thread f stopped c t ps rs) e = idle
      k_ticked (thread f ready c t ps rs) e = k_acts f t c ps rs (act c (seen Cpu fresh act z w ps)) e
      k_ticked (thread f (waits o then) c t ps rs) e = idle
      k_ticked (line xs ys) e = idle

      k_comes : (b : ℕ) → Kept w (comes_in Cpu fresh act z w p b (obj w p))
      unfolding comes_in paper from_of cost_of used_in shape
      k_comes b =
          rw (comes_in_is Cpu fresh act z w p b (obj w p)) (by_line (Kept w) (obj w p) idle (λ xs ys e.
          pick_both (Kept w) (ltb (length ys) z.heard) (kept_same w _ (quiet_set Cpu fresh act z w p (line xs ys) (line xs (ys ++ b ∷ [])) e refl).same_papers) idle))

    kept_event : (w : World Cpu) (e : Event) → Kinds Cpu fresh act w → Paged Cpu fresh act z w → Kept w (event Cpu fresh act z w e)
    unfolding event
    kept_event w (tick p) k g = k_ticked w k g p (obj w p) refl
    kept_event w (byte o b) k g = k_comes w k g o b

    pub paged_event : (w : World Cpu) (e : Event) → Kinds Cpu fresh act w → Paged Cpu fresh act z w → Paged Cpu fresh act z (event Cpu fresh act z w e)
    paged_event w e k g = paged_kept w (event Cpu fresh act z w e) (kept_event w e k g) g

    paged_run : (w : World Cpu) (es : List Event) → Kinds Cpu fresh act w → Paged Cpu fresh act z w → Paged Cpu fresh act z (run Cpu fresh act z w es)
    unfolding run
    paged_run w [] k g = g
    paged_run w (e ∷ es) k g = paged_run (event Cpu fresh act z w e) es (kinds_event Cpu fresh act z w e k) (paged_event w e k g)

    -- no object's place goes
    longer_event : (w : World Cpu) (e : Event) → length w.objects ≤ length (event Cpu fresh act z w e).objects
    unfolding cleared
    longer_event w e = event_keeps Cpu fresh act (λ v. length w.objects ≤ length v.objects) (λ a b c h. let m = c.grows in omega arith) (λ a ids os c h. let m = len_clean Cpu fresh act ids os 0 a.objects in omega arith) z w e (omega arith)

    kept_run : (w : World Cpu) (es : List Event) → Kinds Cpu fresh act w → Paged Cpu fresh act z w → Kept w (run Cpu fresh act z w es)
    unfolding run
    kept_run w [] k g = record { keeps = λ u. same refl }
    kept_run w (e ∷ es) k g =
        kept_on w (event Cpu fresh act z w e) _ (longer_event w e) (kept_event w e k g) (kept_run (event Cpu fresh act z w e) es (kinds_event Cpu fresh act z w e k) (paged_event w e k g))

  pub stays : Stays Cpu fresh act
  unfolding Stays StaysIn
  stays z v es fs o k g l h = go ((kept_run z (run Cpu fresh act z v es) fs (kinds_run Cpu fresh act z v es k) (paged_run z v es k g)).keeps o)
    where
      go : Keeps z (run Cpu fresh act z v es) (run Cpu fresh act z (run Cpu fresh act z v es) fs) o → shape_at (run Cpu fresh act z (run Cpu fresh act z v es) fs) o ≡ shape_at (run Cpu fresh act z v es) o
      go (went e) = absurd (h e)
      go (same e) = e
      go (is_new m f) = absurd (omega arith)
