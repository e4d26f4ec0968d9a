-- What is used of a pool covers what stands cut from it.
use mathlib.Core.Path.{◌≡◌, refl, sym, ap, subst, ◌∙◌}
use mathlib.Core.Bool.{Bool, true, false, ◌||◌}
use mathlib.Core.List.{List, [], ◌∷◌, ◌++◌}
use mathlib.Core.Logic.{◌⊎◌, inl, inr}
use Prim.Native.Nat.{ℕ, suc, ◌+◌, ◌*◌, ◌%◌, ◌≤◌, zero-le}
use native.Mathlib.Omega.{arith}
use lib.Dec.{ltb, eqb}
use borrow.Author.Tests.{eq-eqb, ne_eqb}
use lib.ListN.{length, get_or, get_or-eq_default, set, replicate, length-replicate}
use Rattle.rights.specs.World.{pick, Rights, Slot, empty, Kind, a_pool, a_table, a_port, a_page, Call, cut, copy, move, drop_it, revoke, send, receive, map, unmap, bind, go, say, hear}
use Rattle.rights.specs.World.{Act, quiet, store, call, wrong, State, stopped, ready, waits, Object, gone, pool, table, port, page, thread, line, Sizes, World, Event, tick, byte}
use Rattle.rights.specs.World.{cost, step_of, up_to, slot_birth, is_empty, copied, too_many, among, object, with_object, slot, has_slot, from_of, offspring, cuttings, cleared, refilled, made}
use Rattle.rights.specs.World.{Went, on, wait, refuse, cutting, is_pool, revoking, set_state, seen, may_store, does, went_on, acts, ticked, comes_in, event, run}
use Rattle.rights.specs.Effects.{table_shape, page_shape, shape}
use Rattle.rights.specs.Promise.{Kinds, Paged, cost_of, standing, UsedCoversIn, UsedCovers}
use Rattle.laws.proofs.Tests.{clash, pick_both, pick_know, same_or_not, both_ways, or_right, both_hold, set_apart, set_by, at_end, push_by}
use Rattle.laws.proofs.Forms.{by_pool, by_line, no_cut, no_copy, no_revoke, cutting_is, comes_in_is}
use Rattle.laws.proofs.Steps.{to}
use Rattle.laws.proofs.Places.{kinds_event}
use Rattle.laws.proofs.Sweeping.{swept_at}
use Rattle.laws.proofs.Moves.{cut_among}
use Rattle.laws.proofs.Cuts.{after_cut, cut_places, at_pool}
use Rattle.laws.proofs.Shapes.{swept_paper, stored_same, paged_event}
use Rattle.laws.proofs.Quiet.{Paper, written, used_in, paper, paper_slots, plain, left, quiet_set, quiet_state, quiet_slot, quiet_call}

-- what of it is cut from f, and how much is used
unfoldable part : ℕ → Paper → ℕ
part f (written g c u s) = pick (eqb g f) c 0

unfoldable used : Paper → ℕ
used (written g c u s) = u

unfoldable from_note : Paper → ℕ
from_note (written g c u s) = g

pick_zero : (c : Bool) → ◌≡◌ {A = ℕ} (pick c 0 0) 0
pick_zero true = refl
pick_zero false = refl

module _ (Cpu : Type 0) (fresh : ℕ → Cpu) (act : Cpu → (ℕ → ℕ) → Act Cpu) where
  abbrev obj : World Cpu → ℕ → Object Cpu
  obj = object Cpu fresh act

  module _ (z : Sizes) where
    abbrev note : Object Cpu → Paper
    note = paper Cpu fresh act

    stands : ℕ → List (Object Cpu) → ℕ
    stands f xs = standing Cpu fresh act f xs

    part_gone : (f : ℕ) → part f (note gone) ≡ 0
    unfolding part paper from_of cost_of used_in shape
    part_gone f = pick_zero (eqb 0 f)

    -- what is cut from another pool is no part
    no_part : (f : ℕ) (x : Object Cpu) → (from_of Cpu fresh act x ≡ f → ⊥) → part f (note x) ≡ 0
    unfolding part paper
    no_part f x h = ap (λ (c : Bool). pick c (cost_of Cpu fresh act x) 0) (ne_eqb (from_of Cpu fresh act x) f h)

    -- place by place no more is no more together
    stands_less : (f : ℕ) (xs ys : List (Object Cpu)) → ((u : ℕ) → part f (note (get_or xs u gone)) ≤ part f (note (get_or ys u gone))) → stands f xs ≤ stands f ys
    unfolding stands standing part paper
    stands_less f [] ys h = zero-le
    stands_less f (x ∷ xs) [] h = let r = stands_less f xs [] (λ u. h (suc u)) in let a = h 0 in let b = part_gone f in omega arith
    stands_less f (x ∷ xs) (y ∷ ys) h = let r = stands_less f xs ys (λ u. h (suc u)) in let a = h 0 in omega arith

    stands_none : (f : ℕ) (xs : List (Object Cpu)) → ((u : ℕ) → from_of Cpu fresh act (get_or xs u gone) ≡ f → ⊥) → stands f xs ≤ 0
    unfolding stands standing
    stands_none f xs h = stands_less f xs [] (λ u. let a = no_part f (get_or xs u gone) (h u) in let b = part_gone f in omega arith)

    stands_push : (f : ℕ) (xs : List (Object Cpu)) (m : Object Cpu) → stands f (xs ++ m ∷ []) ≡ stands f xs + part f (note m)
    unfolding stands standing part paper
    stands_push f [] m = omega arith
    stands_push f (x ∷ xs) m = let r = stands_push f xs m in omega arith

    Covers : World Cpu → Type 0
    Covers w = (o u : ℕ) → used (note (obj w o)) ≡ suc u → stands (suc o) w.objects ≤ u

    -- the same papers
    covers_same : (w v : World Cpu) → ((u : ℕ) → note (obj v u) ≡ note (obj w u)) → Covers w → Covers v
    unfolding Covers object
    covers_same w v h c o u e =
        let a = c o u (ap used (sym (h o)) ∙ e) in
        let b = stands_less (suc o) v.objects w.objects (λ t. let q = ap (part (suc o)) (h t) in omega arith) in omega arith

    -- a cut
    made_note : (f : ℕ) (k : Kind) → note (made Cpu fresh act z f k) ≡ written f (cost z k) (used (note (made Cpu fresh act z f k))) (shape Cpu fresh act (made Cpu fresh act z f k))
    unfolding paper from_of cost_of used_in shape made cost used
    made_note f (a_pool n) = refl
    made_note f (a_table n) = ap (λ (i : ℕ). written f (i * 64) 0 (table_shape f (length (replicate n empty)))) (length-replicate n empty)
    made_note f a_port = refl
    made_note f a_page = ap (λ (i : ℕ). written f i 0 (page_shape f (length (replicate {A = ℕ} z.bytes 0)))) (length-replicate z.bytes 0)

    made_used : (f : ℕ) (k : Kind) (u : ℕ) → used (note (made Cpu fresh act z f k)) ≡ suc u → u ≡ 0
    unfolding paper used_in made used
    made_used f (a_pool n) u e = omega arith
    made_used f (a_table n) u e = absurd (omega arith)
    made_used f a_port u e = absurd (omega arith)
    made_used f a_page u e = absurd (omega arith)

    up_to_more : (s n : ℕ) → n ≤ up_to s n
    unfolding up_to
    up_to_more s n = pick_both (λ (u : ℕ). n ≤ u) (eqb (n % s) 0) (omega arith) (omega arith)

    module _ (w : World Cpu) (k : Kinds Cpu fresh act w) (cw : Covers w) (p o d : ℕ) (x : Slot) (kd : Kind) (f n u c : ℕ) (has : has_slot Cpu fresh act w p d ≡ true) (is : obj w o ≡ pool f n u) (enough : u + cost z kd ≤ c) where
      V : World Cpu
      V = after_cut Cpu fresh act z w p o d x kd f n u c

      m : Object Cpu
      m = made Cpu fresh act z (suc o) kd

      pool_part : (g : ℕ) → part g (note (pool f n c)) ≡ part g (note (obj w o))
      unfolding part paper from_of cost_of used_in shape
      pool_part g = sym (ap (λ (y : Object Cpu). part g (note y)) is)

      made_part : part (suc o) (note m) ≡ cost z kd
      unfolding part m
      made_part = ap (part (suc o)) (made_note (suc o) kd) ∙ ap (λ (b : Bool). pick b (cost z kd) 0) (eq-eqb (suc o) (suc o) refl)

      made_else : (q : ℕ) → (q ≡ o → ⊥) → part (suc q) (note m) ≡ 0
      unfolding part m
      made_else q h = ap (part (suc q)) (made_note (suc o) kd) ∙ ap (λ (b : Bool). pick b (cost z kd) 0) (ne_eqb (suc o) (suc q) (λ e. h (omega arith)))

      -- each place, against what was there and one more at the end
      grows : (g t : ℕ) → part g (note (get_or w.objects t gone)) ≤ part g (note (get_or (w.objects ++ m ∷ []) t gone))
      grows g t = push_by (λ a b. part g (note a) ≤ part g (note b)) w.objects t m gone (λ l. let a = part_gone g in omega arith) (λ y. omega arith)

      parts : (g t : ℕ) → part g (note (obj V t)) ≤ part g (note (get_or (w.objects ++ m ∷ []) t gone))
      unfolding object V m
      parts g t =
          cut_places Cpu fresh act z w p o d x kd f n u c has is (λ t y. part g (note y) ≤ part g (note (get_or (w.objects ++ m ∷ []) t gone))) t (grows g t)
          (λ q. let a = pool_part g in let b = grows g t in subst (λ (i : ℕ). part g (note (pool f n c)) ≤ part g (note (get_or (w.objects ++ m ∷ []) i gone))) (sym q) (let h = grows g o in omega arith))
          (λ q. subst (λ (i : ℕ). part g (note m) ≤ part g (note (get_or (w.objects ++ m ∷ []) i gone))) (sym q) (let h = ap (λ (y : Object Cpu). part g (note y)) (at_end w.objects m gone) in omega arith))
          (λ y _. let a = ap (part g) (paper_slots Cpu fresh act z (get_or w.objects t gone) d y) in let h = grows g t in omega arith)

      together : (g : ℕ) → stands g V.objects ≤ stands g w.objects + part g (note m)
      unfolding object
      together g = let a = stands_less g V.objects (w.objects ++ m ∷ []) (parts g) in let b = stands_push g w.objects m in omega arith

      at_it : (v : ℕ) → used (note (obj V o)) ≡ suc v → stands (suc o) V.objects ≤ v
      unfolding V Covers used paper used_in
      at_it v e =
          let a = together (suc o) in
          let b = made_part in
          let g = cw o u (ap (λ (y : Object Cpu). used (note y)) is) in
          let h : suc c ≡ suc v = sym (ap (λ (y : Object Cpu). used (note y)) (at_pool Cpu fresh act z w p o d x kd f n u c has is)) ∙ e in omega arith

      at_other : (q v : ℕ) → (q ≡ o → ⊥) → used (note (obj V q)) ≡ suc v → stands (suc q) V.objects ≤ v
      unfolding V Covers object
      at_other q v other =
          let a = together (suc q) in
          let b = made_else q other in
          let old : (used (note (obj w q)) ≡ suc v → stands (suc q) V.objects ≤ v) = (λ e. let g = cw q v e in omega arith) in
          cut_places Cpu fresh act z w p o d x kd f n u c has is (λ t y. used (note y) ≡ suc v → stands (suc q) V.objects ≤ v) q old (λ e _. absurd (other e))
          (λ e h. let g = made_used (suc o) kd v h in let l = newest q e in omega arith)
          (λ y _ e. old (ap used (sym (paper_slots Cpu fresh act z (obj w q) d y)) ∙ e))
        where
          -- nothing was cut from a pool that wasn't there yet
          newest : (q : ℕ) → q ≡ length w.objects → stands (suc q) w.objects ≤ 0
          newest q e = stands_none (suc q) w.objects (λ t h. let y = k.its_pool t q h in let l : obj w q ≡ gone = get_or-eq_default w.objects gone (omega arith) in let i = y.3 in clash (cc))

      covers_cut : Covers V
      unfolding Covers
      covers_cut q v e = same_or_not q o (λ h. subst (λ (i : ℕ). used (note (obj V i)) ≡ suc v → stands (suc i) V.objects ≤ v) (sym h) (at_it v) e) (λ h. at_other q v h e)

    -- a sweep: an object is gone, or costs the same
    module _ (w : World Cpu) (cw : Covers w) (ids os : List ℕ) where
      C : World Cpu
      C = cleared Cpu fresh act w ids os

      swept_part : (f u : ℕ) → part f (note (obj C u)) ≤ part f (note (obj w u))
      unfolding C
      swept_part f u = go (swept_paper Cpu fresh act (swept_at Cpu fresh act w ids os u))
        where
          go : (obj C u ≡ gone) ⊎ ((among u os ≡ false) × (note (obj C u) ≡ note (obj w u))) → part f (note (obj C u)) ≤ part f (note (obj w u))
          go (inl h) = let a = ap (λ (y : Object Cpu). part f (note y)) h in let b = part_gone f in omega arith
          go (inr h) = let a = ap (part f) h.1 in omega arith

      covers_sweep : Covers C
      unfolding C Covers used paper used_in object
      covers_sweep q v e = go (swept_paper Cpu fresh act (swept_at Cpu fresh act w ids os q))
        where
          less : stands (suc q) C.objects ≤ stands (suc q) w.objects
          less = stands_less (suc q) C.objects w.objects (swept_part (suc q))

          go : (obj C q ≡ gone) ⊎ ((among q os ≡ false) × (note (obj C q) ≡ note (obj w q))) → stands (suc q) C.objects ≤ v
          go (inl h) = let a : 0 ≡ suc v = sym (ap (λ (y : Object Cpu). used (note y)) h) ∙ e in absurd (omega arith)
          go (inr h) = let a = cw q v (sym (ap used h.1) ∙ e) in let b = less in omega arith

    -- a pool of which nothing is used, when nothing stands cut from it
    refilled_part : (f : ℕ) (x : Object Cpu) → part f (note (refilled Cpu fresh act x)) ≡ part f (note x)
    unfolding part paper from_of cost_of used_in shape refilled
    refilled_part f gone = refl
    refilled_part f (pool g n u) = refl
    refilled_part f (table g ss) = refl
    refilled_part f (port g ws) = refl
    refilled_part f (page g bs) = refl
    refilled_part f (thread g s c t ps rs) = refl
    refilled_part f (line xs ys) = refl

    covers_refilled : (w : World Cpu) (o : ℕ) → Covers w → stands (suc o) w.objects ≤ 0 → Covers (with_object Cpu fresh act w o (refilled Cpu fresh act (obj w o)))
    unfolding Covers with_object object
    covers_refilled w o c none q v e = same_or_not o q at_it at_other
      where
        xs : List (Object Cpu)
        xs = set w.objects o (refilled Cpu fresh act (get_or w.objects o gone))

        parts : (f u : ℕ) → part f (note (get_or xs u gone)) ≡ part f (note (get_or w.objects u gone))
        parts f u = set_by (λ (y : Object Cpu). part f (note y) ≡ part f (note (get_or w.objects u gone))) w.objects o u _ gone (λ l. refilled_part f (get_or w.objects o gone) ∙ ap (λ (i : ℕ). part f (note (get_or w.objects i gone))) l) refl

        less : (f : ℕ) → stands f xs ≤ stands f w.objects
        less f = stands_less f xs w.objects (λ u. let a = parts f u in omega arith)

        at_it : o ≡ q → stands (suc q) xs ≤ v
        at_it l = let a = less (suc o) in subst (λ (i : ℕ). stands (suc i) xs ≤ v) l (omega arith)

        at_other : (o ≡ q → ⊥) → stands (suc q) xs ≤ v
        at_other l = let a = less (suc q) in let b = c q v (sym (ap (λ (y : Object Cpu). used (note y)) (set_apart w.objects o q _ gone l)) ∙ e) in omega arith

    none_left : (w : World Cpu) (ids : List ℕ) (o : ℕ) → stands (suc o) (cleared Cpu fresh act w ids (cuttings Cpu fresh act w (length w.objects) (o ∷ []))).objects ≤ 0
    unfolding object from_of from_note paper
    none_left w ids o = stands_none (suc o) _ (λ u h. go u h (swept_paper Cpu fresh act (swept_at Cpu fresh act w ids (cuttings Cpu fresh act w (length w.objects) (o ∷ [])) u)))
      where
        os : List ℕ
        os = cuttings Cpu fresh act w (length w.objects) (o ∷ [])

        C : World Cpu
        C = cleared Cpu fresh act w ids os

        go : (u : ℕ) → from_of Cpu fresh act (obj C u) ≡ suc o → (obj C u ≡ gone) ⊎ ((among u os ≡ false) × (note (obj C u) ≡ note (obj w u))) → ⊥
        go u h (inl g) = zero_suc (sym (ap (from_of Cpu fresh act) g) ∙ h)
          where
            zero_suc : from_of Cpu fresh act gone ≡ suc o → ⊥
            zero_suc i = omega arith
        go u h (inr g) = both_ways (cut_among Cpu fresh act w o u (sym (ap from_note g.1) ∙ h)) g.0

    -- what every call leaves
    module _ (w : World Cpu) (k : Kinds Cpu fresh act w) (pw : Paged Cpu fresh act z w) (cw : Covers w) (p : ℕ) where
      data Covered : Went Cpu fresh act → Type 0 where
        covered_on : {v : World Cpu} {ws : List ℕ} → Covers v → Covered (on v ws)
        covered_wait : {v : World Cpu} {o : ℕ} → Covers v → Covered (wait v o)

      from_left : (r : Went Cpu fresh act) → Covers (left Cpu fresh act r) → Covered r
      unfolding left
      from_left (on v ws) c = covered_on c
      from_left (wait v o) c = covered_wait c

      refused : Covered (refuse Cpu fresh act w)
      unfolding refuse
      refused = covered_on cw

      c_plain : (c : Call) → plain c ≡ true → Covered (does Cpu fresh act z w p c)
      c_plain c n = from_left (does Cpu fresh act z w p c) (covers_same w _ (quiet_call Cpu fresh act z w p c n).same_papers cw)

      c_copy : (s d b : ℕ) (r : Rights) → Covered (does Cpu fresh act z w p (copy s d r b))
      unfolding does object
      c_copy s d b r =
          pick_both Covered (no_copy Cpu fresh act w p s d) refused
          (covered_on (covers_same w _ (quiet_slot Cpu fresh act z (record { objects = w.objects; births = suc w.births; lineage = copied (slot Cpu fresh act w p s) r b (suc w.births) ∷ w.lineage }) p d _).same_papers cw))

      c_cut : (s d : ℕ) (kd : Kind) → Covered (does Cpu fresh act z w p (cut s kd d))
      unfolding does cutting after_cut V
      c_cut s d kd =
          pick_know Covered (no_cut Cpu fresh act w p s d) (λ _. refused) (λ g.
          let x = slot Cpu fresh act w p s in
          rw (cutting_is Cpu fresh act z w p (to x) x kd d (obj w (to x))) (by_pool Covered (obj w (to x)) refused (λ f n u e.
          pick_both Covered (ltb n (up_to (step_of z kd) u + cost z kd) || (eqb (cost z kd) 0 || too_many kd)) refused
          (covered_on (covers_cut w k cw p (to x) d x kd f n u (up_to (step_of z kd) u + cost z kd) (both_hold _ _ (or_right _ _ (or_right (is_empty x) _ g))) e (let h = up_to_more (step_of z kd) u in omega arith))))))

      c_revoke : (s : ℕ) → Covered (does Cpu fresh act z w p (revoke s))
      unfolding does revoking C
      c_revoke s =
          let x = slot Cpu fresh act w p s in
          let ids = offspring Cpu fresh act w w.births (slot_birth x ∷ []) in
          let os = cuttings Cpu fresh act w (length w.objects) (to x ∷ []) in
          pick_both Covered (no_revoke Cpu fresh act w p s) refused (pick_both Covered (is_pool Cpu fresh act (obj w (to x)))
          (covered_on (covers_refilled (cleared Cpu fresh act w ids os) (to x) (covers_sweep w cw ids os) (none_left w ids (to x)))) (covered_on (covers_sweep w cw ids [])))

      c_call : (c : Call) → Covered (does Cpu fresh act z w p c)
      unfolding plain
      c_call (cut s kd d) = c_cut s d kd
      c_call (copy s d r b) = c_copy s d b r
      c_call (move s d) = c_plain (move s d) refl
      c_call (drop_it s) = c_plain (drop_it s) refl
      c_call (revoke s) = c_revoke s
      c_call (send s ws g h) = c_plain (send s ws g h) refl
      c_call (receive s d) = c_plain (receive s d) refl
      c_call (map s t a) = c_plain (map s t a) refl
      c_call (unmap t a) = c_plain (unmap t a) refl
      c_call (bind t s) = c_plain (bind t s) refl
      c_call (go t a) = c_plain (go t a) refl
      c_call (say s b) = c_plain (say s b) refl
      c_call (hear s) = c_plain (hear s) refl

      set_covers : (v : World Cpu) (s : State Cpu) (c : Cpu) → Covers v → Covers (with_object Cpu fresh act v p (set_state Cpu fresh act (obj v p) s c))
      set_covers v s c h = covers_same v _ (quiet_state Cpu fresh act z v p s c).same_papers h

      c_went : (then : List ℕ → Cpu) (r : Went Cpu fresh act) → Covered r → Covers (went_on Cpu fresh act w p then r)
      unfolding went_on
      c_went then r (covered_on {v} {ws} c) = set_covers v ready (then ws) c
      c_went then r (covered_wait {v} {o} c) = set_covers v (waits o then) (fresh 0) c

      c_acts : (f a : ℕ) (c : Cpu) (ps : List ℕ) (rs : List Bool) (x : Act Cpu) → obj w p ≡ thread f ready c a ps rs → Covers (acts Cpu fresh act z w p ps rs x)
      unfolding acts
      c_acts f a c ps rs (quiet d) e = set_covers w ready d cw
      c_acts f a c ps rs (store i bs d) e = pick_know Covers (may_store Cpu fresh act z ps rs i bs) (λ g. set_covers _ ready d (covers_same w _ (stored_same Cpu fresh act z w k pw p f a c ps rs i bs e g) cw)) (λ _. set_covers w stopped (fresh 0) cw)
      c_acts f a c ps rs (call x then) e = c_went then (does Cpu fresh act z w p x) (c_call x)
      c_acts f a c ps rs wrong e = set_covers w stopped (fresh 0) cw

      c_ticked : (x : Object Cpu) → obj w p ≡ x → Covers (ticked Cpu fresh act z w p x)
      unfolding ticked
      c_ticked gone e = cw
      c_ticked (pool f n u) e = cw
      c_ticked (table f ss) e = cw
      c_ticked (port f ws) e = cw
      c_ticked (page f bs) e = cw
      c_ticked (thread f stopped c t ps rs) e = cw
      c_ticked (thread f ready c t ps rs) e = c_acts f t c ps rs (act c (seen Cpu fresh act z w ps)) e
      c_ticked (thread f (waits o then) c t ps rs) e = cw
      c_ticked (line xs ys) e = cw

      c_comes : (b : ℕ) → Covers (comes_in Cpu fresh act z w p b (obj w p))
      unfolding comes_in paper from_of cost_of used_in shape
      c_comes b =
          rw (comes_in_is Cpu fresh act z w p b (obj w p)) (by_line Covers (obj w p) cw (λ xs ys e.
          pick_both Covers (ltb (length ys) z.heard) (covers_same w _ (quiet_set Cpu fresh act z w p (line xs ys) (line xs (ys ++ b ∷ [])) e refl).same_papers cw) cw))

    covers_event : (w : World Cpu) (e : Event) → Kinds Cpu fresh act w → Paged Cpu fresh act z w → Covers w → Covers (event Cpu fresh act z w e)
    unfolding event
    covers_event w (tick p) k g c = c_ticked w k g c p (obj w p) refl
    covers_event w (byte o b) k g c = c_comes w k g c o b

    covers_run : (w : World Cpu) (es : List Event) → Kinds Cpu fresh act w → Paged Cpu fresh act z w → Covers w → Covers (run Cpu fresh act z w es)
    unfolding run
    covers_run w [] k g c = c
    covers_run w (e ∷ es) k g c = covers_run (event Cpu fresh act z w e) es (kinds_event Cpu fresh act z w e k) (paged_event Cpu fresh act z w e k g) (covers_event w e k g c)

    covers_first : (v : World Cpu) → ((t : ℕ) → from_of Cpu fresh act (obj v t) ≡ 0) → Covers v
    unfolding Covers object
    covers_first v h o u e = let a = stands_none (suc o) v.objects (λ t q. let b = h t in omega arith) in omega arith

    covered : (v : World Cpu) (es : List Event) (o f n u : ℕ) → Kinds Cpu fresh act v → Paged Cpu fresh act z v → ((t : ℕ) → from_of Cpu fresh act (obj v t) ≡ 0) → obj (run Cpu fresh act z v es) o ≡ pool f n u → stands (suc o) (run Cpu fresh act z v es).objects ≤ u
    unfolding Covers used paper used_in
    covered v es o f n u k g h e = covers_run v es k g (covers_first v h) o u (ap (λ (x : Object Cpu). used (note x)) e)

    cost_made : (f : ℕ) (k : Kind) → cost_of Cpu fresh act (made Cpu fresh act z f k) ≡ cost z k
    unfolding cost_of made cost
    cost_made f (a_pool n) = refl
    cost_made f (a_table n) = ap (λ (i : ℕ). i * 64) (length-replicate n empty)
    cost_made f a_port = refl
    cost_made f a_page = length-replicate z.bytes 0

  pub used_covers : UsedCovers Cpu fresh act
  unfolding UsedCovers UsedCoversIn stands
  used_covers = ((λ z v es o f n u one k g h e. covered z v es o f n u k g h e), cost_made)
