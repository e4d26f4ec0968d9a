-- The one pass over the calls: what each does, in steps, and what is noted of it.
use mathlib.Core.Path.{◌≡◌, refl, sym, ap, subst}
use mathlib.Core.Bool.{Bool, true, false, ◌&&◌, ◌||◌, not}
use mathlib.Core.List.{List, [], ◌∷◌, ◌++◌}
use mathlib.Core.Logic.{◌⊎◌, inl, inr}
use Prim.Native.Nat.{ℕ, zero, suc, ◌+◌, ◌-◌, ◌/◌, ◌%◌}
use native.Mathlib.Omega.{arith}
use lib.Dec.{ltb, eqb}
use borrow.Author.Tests.{ltb-false}
use lib.ListN.{length, get_or, set, take}
use Rattle.rights.specs.World.{no, over, Slot, empty, cap, Kind, Call, cut, copy, move, drop_it, revoke, send, receive, map, unmap, bind, go, say}
use Rattle.rights.specs.World.{hear, Act, quiet, store, call, wrong, Wait, sender, receiver, State, stopped, ready, waits, Object, gone, pool, table}
use Rattle.rights.specs.World.{port, page, thread, line, Sizes, World, Event, tick, byte, cost, step_of, up_to, slot_object, slot_rights, slot_badge}
use Rattle.rights.specs.World.{slot_birth, is_empty, too_many, object, with_object, slot, has_slot, offspring, cuttings, waits_thread, cleared, Went}
use Rattle.rights.specs.World.{on, refuse, cutting, is_pool, revoking, resumed, sending, receiving, is_page, is_table, mapping, unmapping, binding}
use Rattle.rights.specs.World.{going, saying, hearing, does, bytes_of, from_page, seen, stores, may_store, went_on, acts, ticked, comes_in, event}
use Rattle.rights.specs.World.{run}
use Rattle.rights.specs.Promise.{Note, row_of, first_of, send_noted, receive_noted, port_at, first_at, call_noted, act_noted, tick_noted, event_noted}
use Rattle.laws.proofs.Tests.{yes_no, no_yes, both_hold, pick_both, pick_know, or_left, or_right, and_left, and_right, less_one}
use Rattle.laws.proofs.Forms.{by_pool, by_port, by_thread, by_line, no_cut, no_copy, cutting_is, sending_is, receiving_is, mapping_is, unmapping_is}
use Rattle.laws.proofs.Forms.{binding_is, going_is, saying_is, hearing_is, comes_in_is}
use Rattle.laws.proofs.Steps.{to, is_sender, came, met, told, Turn, spoken, stored, mapped, bound, ran, rowed, Change, Closed, small, swept, Steps}
use Rattle.laws.proofs.Steps.{none, after, one, waits_at, view, waiting_of, SameFace, Behind, Doing, goes, sweeps, rests, joins, Coming, turned_away}
use Rattle.laws.proofs.Steps.{comes_last, meets_first, Outcome, nothing, heard, stops, calls}
use Rattle.laws.proofs.Moves.{alike, small_set, alike_set, small_state, seen_refilled, small_refilled, all_refilled, all_put, small_empty, slot_in}
use Rattle.laws.proofs.Moves.{moved, all_moved, steps_on, hands_over, small_copy, all_copy, closed_none, closed_cuttings, cut_none, cut_cuttings}
use Rattle.laws.proofs.Moves.{gone_swept, gone_refilled}
use Rattle.laws.proofs.Cuts.{after_cut, small_cut, all_cut}

-- a page put into a space, or taken out
set_page : (ps : List ℕ) (a k o u : ℕ) → get_or (set ps a o) k 0 ≡ suc u → (get_or ps k 0 ≡ suc u) ⊎ (o ≡ suc u)
set_page [] a k o u e = inl e
set_page (x ∷ ps) zero zero o u e = inr e
set_page (x ∷ ps) zero (suc k) o u e = inl e
set_page (x ∷ ps) (suc a) zero o u e = inl e
set_page (x ∷ ps) (suc a) (suc k) o u e = set_page ps a k o u e

module _ (Cpu : Type 0) (fresh : ℕ → Cpu) (act : Cpu → (ℕ → ℕ) → Act Cpu) where
  abbrev obj : World Cpu → ℕ → Object Cpu
  obj = object Cpu fresh act

  -- a thread in the same state waits at the same port
  alike_thread : (f : ℕ) (s : State Cpu) {c d : Cpu} {a b : ℕ} {ps qs : List ℕ} {rs ms : List Bool} → SameFace Cpu fresh act (thread f s c a ps rs) (thread f s d b qs ms)
  unfolding row_of waits_at view waiting_of
  alike_thread f stopped = record { rows = refl; ports = refl; goes_on = refl }
  alike_thread f ready = record { rows = refl; ports = refl; goes_on = refl }
  alike_thread f (waits k then) = record { rows = refl; ports = refl; goes_on = refl }

  module _ (p : ℕ) where
    -- a call that can't be done
    refused : (w : World Cpu) → Doing Cpu fresh act w p [] (refuse Cpu fresh act w)
    unfolding refuse
    refused w = goes (no ∷ []) none (λ _ u. alike Cpu fresh act _)

    -- one object in place of another, and no row or waiting thread changes
    sets : (w : World Cpu) (o : ℕ) (x y : Object Cpu) (ws : List ℕ) → obj w o ≡ x → Turn Cpu fresh act w empty o x y → SameFace Cpu fresh act y x → Doing Cpu fresh act w p [] (on (with_object Cpu fresh act w o y) ws)
    sets w o x y ws e t a = goes ws (one Cpu fresh act (small (small_set Cpu fresh act w o x y e t))) (λ _. alike_set Cpu fresh act w o x y e a)

    d_cutting : (z : Sizes) (w : World Cpu) (k : Kind) (s d : ℕ) → is_empty (slot Cpu fresh act w p s) ≡ false → has_slot Cpu fresh act w p d ≡ true → slot_object (slot Cpu fresh act w p s) ≡ suc (to (slot Cpu fresh act w p s)) →
        Doing Cpu fresh act w p [] (cutting Cpu fresh act z w p (to (slot Cpu fresh act w p s)) (slot Cpu fresh act w p s) k d (obj w (to (slot Cpu fresh act w p s))))
    unfolding cutting after_cut
    d_cutting z w k s d ne hd os =
        let x = slot Cpu fresh act w p s in
        rw (cutting_is Cpu fresh act z w p (to x) x k d (obj w (to x))) (by_pool (Doing Cpu fresh act w p []) (obj w (to x)) (refused w) (λ f n u e.
        pick_know (Doing Cpu fresh act w p []) (ltb n (up_to (step_of z k) u + cost z k) || (eqb (cost z k) 0 || too_many k)) (λ _. refused w) (λ g.
        goes (0 ∷ []) (one Cpu fresh act (small (small_cut Cpu fresh act z w p (to x) d x k f n u (up_to (step_of z k) u + cost z k) hd e (ltb-false n _ (or_left _ _ g)) (slot_in Cpu fresh act w p s ne) os)))
        (λ _. all_cut Cpu fresh act z w p (to x) d x k f n u (up_to (step_of z k) u + cost z k) hd e))))

    d_revoking : (w : World Cpu) (o : ℕ) (x : Slot) → Doing Cpu fresh act w p [] (revoking Cpu fresh act w o x)
    unfolding revoking
    d_revoking w o x =
        let ids = offspring Cpu fresh act w w.births (slot_birth x ∷ []) in
        let os = cuttings Cpu fresh act w (length w.objects) (o ∷ []) in
        pick_both (Doing Cpu fresh act w p []) (is_pool Cpu fresh act (obj w o))
        (sweeps (0 ∷ []) ids os (after (one Cpu fresh act (swept ids os (closed_cuttings Cpu fresh act w o))) (small (small_refilled Cpu fresh act (cleared Cpu fresh act w ids os) o)))
        (all_refilled Cpu fresh act (cleared Cpu fresh act w ids os) o) (seen_refilled Cpu fresh act (cleared Cpu fresh act w ids os) o) (cut_cuttings Cpu fresh act w o) (gone_refilled Cpu fresh act (cleared Cpu fresh act w ids os) o os (gone_swept Cpu fresh act w ids os)))
        (sweeps (0 ∷ []) ids [] (one Cpu fresh act (swept ids [] (closed_none Cpu fresh act w))) (λ u. alike Cpu fresh act _) (λ u. refl) (cut_none Cpu fresh act w) (gone_swept Cpu fresh act w ids []))

    -- whoever comes to a port
    d_coming : (w : World Cpu) (o : ℕ) (x : Wait) {ns : List Note} {g : Went Cpu fresh act} → waits_thread Cpu fresh act x ≡ p → Coming Cpu fresh act w o x ns g → Doing Cpu fresh act w p ns g
    unfolding resumed
    d_coming w o x t turned_away = refused w
    d_coming w o x t (comes_last {f} {ws} e h) = rests x (one Cpu fresh act (small (small_set Cpu fresh act w o (port f ws) (port f (ws ++ x ∷ [])) e rowed))) e t h
    d_coming w o x t (meets_first {f} {q} y h a s b d e n) =
        joins o x y h a s b d
        (after (steps_on Cpu fresh act (one Cpu fresh act (small (small_set Cpu fresh act w o (port f (y ∷ q)) (port f q) e rowed))) (hands_over Cpu fresh act (with_object Cpu fresh act w o (port f q)) h a s b d).0)
        (small (small_state Cpu fresh act _ (waits_thread Cpu fresh act y) _ _)))
        e t n

    at_send : (w : World Cpu) (o b : ℕ) (ws : List ℕ) (h g : Bool) (s : ℕ) →
        Coming Cpu fresh act w o (sender p b ws h g s) (send_noted Cpu fresh act o p (first_at Cpu fresh act w o) b ws (sending Cpu fresh act w p o b ws h g s (obj w o))) (sending Cpu fresh act w p o b ws h g s (obj w o))
    unfolding told send_noted refuse first_at waits_thread Behind sending came is_sender met first_of row_of
    at_send w o b ws h g s =
        rw (sending_is Cpu fresh act w p o b ws h g s (obj w o)) (by_port (λ (r : Went Cpu fresh act). Coming Cpu fresh act w o (sender p b ws h g s) (send_noted Cpu fresh act o p (first_of Cpu fresh act (row_of Cpu fresh act (obj w o))) b ws r) r) (obj w o) turned_away at_row)
      where
        at_row : (f : ℕ) (q : List Wait) → obj w o ≡ port f q →
            Coming Cpu fresh act w o (sender p b ws h g s) (send_noted Cpu fresh act o p (first_of Cpu fresh act (row_of Cpu fresh act (obj w o))) b ws (sending Cpu fresh act w p o b ws h g s (port f q))) (sending Cpu fresh act w p o b ws h g s (port f q))
        at_row f [] e = comes_last e tt
        at_row f (sender t c vs i j r ∷ q) e = comes_last e refl
        at_row f (receiver t d ∷ q) e =
            subst (λ (x : Object Cpu). Coming Cpu fresh act w o (sender p b ws h g s) (send_noted Cpu fresh act o p (first_of Cpu fresh act (row_of Cpu fresh act x)) b ws (sending Cpu fresh act w p o b ws h g s (port f (receiver t d ∷ q)))) (sending Cpu fresh act w p o b ws h g s (port f (receiver t d ∷ q)))) (sym e)
            (meets_first (receiver t d) (h && g) p s t d e refl)

    at_receive : (w : World Cpu) (o d : ℕ) → Coming Cpu fresh act w o (receiver p d) (receive_noted Cpu fresh act o p (first_at Cpu fresh act w o) (receiving Cpu fresh act w p o d (obj w o))) (receiving Cpu fresh act w p o d (obj w o))
    unfolding told receive_noted refuse first_at waits_thread Behind receiving came is_sender met first_of row_of
    at_receive w o d =
        rw (receiving_is Cpu fresh act w p o d (obj w o)) (by_port (λ (r : Went Cpu fresh act). Coming Cpu fresh act w o (receiver p d) (receive_noted Cpu fresh act o p (first_of Cpu fresh act (row_of Cpu fresh act (obj w o))) r) r) (obj w o) turned_away at_row)
      where
        at_row : (f : ℕ) (q : List Wait) → obj w o ≡ port f q →
            Coming Cpu fresh act w o (receiver p d) (receive_noted Cpu fresh act o p (first_of Cpu fresh act (row_of Cpu fresh act (obj w o))) (receiving Cpu fresh act w p o d (port f q))) (receiving Cpu fresh act w p o d (port f q))
        at_row f [] e = comes_last e tt
        at_row f (receiver t c ∷ q) e = comes_last e refl
        at_row f (sender t b ws h g s ∷ q) e =
            subst (λ (x : Object Cpu). Coming Cpu fresh act w o (receiver p d) (receive_noted Cpu fresh act o p (first_of Cpu fresh act (row_of Cpu fresh act x)) (receiving Cpu fresh act w p o d (port f (sender t b ws h g s ∷ q)))) (receiving Cpu fresh act w p o d (port f (sender t b ws h g s ∷ q)))) (sym e)
            (meets_first (sender t b ws h g s) (h && g) t s p d e refl)

    -- the two calls whole
    pub c_send : (z : Sizes) (w : World Cpu) (s : ℕ) (ws : List ℕ) (g : Bool) (h : ℕ) →
        Coming Cpu fresh act w (port_at Cpu fresh act w p s) (sender p (slot_badge (slot Cpu fresh act w p s)) (take 4 ws) (slot_rights (slot Cpu fresh act w p s)).hands g h)
        (call_noted Cpu fresh act (does Cpu fresh act) z w p (send s ws g h)) (does Cpu fresh act z w p (send s ws g h))
    unfolding does call_noted send_noted refuse port_at
    c_send z w s ws g h =
        pick_both (λ (r : Went Cpu fresh act). Coming Cpu fresh act w (port_at Cpu fresh act w p s) (sender p (slot_badge (slot Cpu fresh act w p s)) (take 4 ws) (slot_rights (slot Cpu fresh act w p s)).hands g h)
        (send_noted Cpu fresh act (port_at Cpu fresh act w p s) p (first_at Cpu fresh act w (port_at Cpu fresh act w p s)) (slot_badge (slot Cpu fresh act w p s)) (take 4 ws) r) r) _ turned_away (at_send w _ _ _ _ g h)

    pub c_receive : (z : Sizes) (w : World Cpu) (s d : ℕ) →
        Coming Cpu fresh act w (port_at Cpu fresh act w p s) (receiver p d) (call_noted Cpu fresh act (does Cpu fresh act) z w p (receive s d)) (does Cpu fresh act z w p (receive s d))
    unfolding does call_noted receive_noted refuse port_at
    c_receive z w s d =
        pick_both (λ (r : Went Cpu fresh act). Coming Cpu fresh act w (port_at Cpu fresh act w p s) (receiver p d)
        (receive_noted Cpu fresh act (port_at Cpu fresh act w p s) p (first_at Cpu fresh act w (port_at Cpu fresh act w p s)) r) r) _ turned_away (at_receive w _ d)

    d_mapping : (z : Sizes) (w : World Cpu) (o : ℕ) (m : Bool) (t a : ℕ) → Doing Cpu fresh act w p [] (mapping Cpu fresh act z w o m t a (obj w t))
    unfolding mapping
    d_mapping z w o m t a =
        rw (mapping_is Cpu fresh act z w o m t a (obj w t)) (by_thread (Doing Cpu fresh act w p []) (obj w t) (refused w) (λ f s c b ps rs e.
        pick_know (Doing Cpu fresh act w p []) (ltb a z.pages && (is_page Cpu fresh act (obj w o) && eqb (get_or ps a 0) 0))
        (λ g. sets w t (thread f s c b ps rs) (thread f s c b (set ps a (suc o)) (set rs a m)) (0 ∷ []) e (mapped (λ k u h. page_there (and_left _ _ (and_right (ltb a z.pages) _ g)) u (set_page ps a k (suc o) u h))) (alike_thread f s))
        (λ _. refused w)))
      where
        page_there : {A : Type 0} → is_page Cpu fresh act (obj w o) ≡ true → (u : ℕ) → A ⊎ (suc o ≡ suc u) → A ⊎ (is_page Cpu fresh act (obj w u) ≡ true)
        page_there g u (inl h) = inl h
        page_there g u (inr h) = let q : o ≡ u = omega arith in inr (subst (λ (i : ℕ). is_page Cpu fresh act (obj w i) ≡ true) q g)

    d_unmapping : (z : Sizes) (w : World Cpu) (t a : ℕ) → Doing Cpu fresh act w p [] (unmapping Cpu fresh act z w t a (obj w t))
    unfolding unmapping
    d_unmapping z w t a =
        rw (unmapping_is Cpu fresh act z w t a (obj w t)) (by_thread (Doing Cpu fresh act w p []) (obj w t) (refused w) (λ f s c b ps rs e.
        pick_both (Doing Cpu fresh act w p []) (ltb a z.pages)
        (sets w t (thread f s c b ps rs) (thread f s c b (set ps a 0) (set rs a false)) (0 ∷ []) e (mapped (λ k u h. inl (fewer ps k u (set_page ps a k 0 u h)))) (alike_thread f s)) (refused w)))
      where
        fewer : (ps : List ℕ) (k u : ℕ) → (get_or ps k 0 ≡ suc u) ⊎ (0 ≡ suc u) → get_or ps k 0 ≡ suc u
        fewer ps k u (inl h) = h
        fewer ps k u (inr h) = absurd (omega arith)

    d_binding : (w : World Cpu) (t o : ℕ) → Doing Cpu fresh act w p [] (binding Cpu fresh act w t o (obj w t))
    unfolding binding
    d_binding w t o = rw (binding_is Cpu fresh act w t o (obj w t)) (by_thread (Doing Cpu fresh act w p []) (obj w t) (refused w) at_state)
      where
        at_state : (f : ℕ) (s : State Cpu) (c : Cpu) (b : ℕ) (ps : List ℕ) (rs : List Bool) → obj w t ≡ thread f s c b ps rs → Doing Cpu fresh act w p [] (binding Cpu fresh act w t o (thread f s c b ps rs))
        at_state f stopped c b ps rs e =
            pick_know (Doing Cpu fresh act w p []) (is_table Cpu fresh act (obj w o)) (λ g. sets w t (thread f stopped c b ps rs) (thread f stopped c (suc o) ps rs) (0 ∷ []) e (bound g) (alike_thread f stopped)) (λ _. refused w)
        at_state f ready c b ps rs e = refused w
        at_state f (waits u then) c b ps rs e = refused w

    d_going : (w : World Cpu) (t a : ℕ) → Doing Cpu fresh act w p [] (going Cpu fresh act w t a (obj w t))
    unfolding going row_of waits_at view waiting_of
    d_going w t a = rw (going_is Cpu fresh act w t a (obj w t)) (by_thread (Doing Cpu fresh act w p []) (obj w t) (refused w) at_state)
      where
        at_state : (f : ℕ) (s : State Cpu) (c : Cpu) (b : ℕ) (ps : List ℕ) (rs : List Bool) → obj w t ≡ thread f s c b ps rs → Doing Cpu fresh act w p [] (going Cpu fresh act w t a (thread f s c b ps rs))
        at_state f stopped c b ps rs e = sets w t (thread f stopped c b ps rs) (thread f ready (fresh a) b ps rs) (0 ∷ []) e ran (record { rows = refl; ports = refl; goes_on = refl })
        at_state f ready c b ps rs e = refused w
        at_state f (waits u then) c b ps rs e = refused w

    d_saying : (w : World Cpu) (o b : ℕ) → Doing Cpu fresh act w p [] (saying Cpu fresh act w o b (obj w o))
    unfolding saying row_of waits_at view waiting_of
    d_saying w o b =
        rw (saying_is Cpu fresh act w o b (obj w o)) (by_line (Doing Cpu fresh act w p []) (obj w o) (refused w) (λ xs ys e. sets w o (line xs ys) (line (xs ++ b ∷ []) ys) (0 ∷ []) e spoken (record { rows = refl; ports = refl; goes_on = refl })))

    d_hearing : (w : World Cpu) (o : ℕ) → Doing Cpu fresh act w p [] (hearing Cpu fresh act w o (obj w o))
    unfolding hearing row_of waits_at view waiting_of
    d_hearing w o = rw (hearing_is Cpu fresh act w o (obj w o)) (by_line (Doing Cpu fresh act w p []) (obj w o) (refused w) at_bytes)
      where
        at_bytes : (xs ys : List ℕ) → obj w o ≡ line xs ys → Doing Cpu fresh act w p [] (hearing Cpu fresh act w o (line xs ys))
        at_bytes xs [] e = refused w
        at_bytes xs (y ∷ ys) e = sets w o (line xs (y ∷ ys)) (line xs ys) (0 ∷ y ∷ []) e spoken (record { rows = refl; ports = refl; goes_on = refl })

    -- a full slot leads to some object
    leads_to : (x : Slot) → is_empty x ≡ false → slot_object x ≡ suc (to x)
    unfolding is_empty slot_object
    leads_to empty n = yes_no n
    leads_to (cap o r b j m) n = ap suc (sym (less_one o))

    -- THE CALLS
    d_does : (z : Sizes) (w : World Cpu) (c : Call) → Doing Cpu fresh act w p (call_noted Cpu fresh act (does Cpu fresh act) z w p c) (does Cpu fresh act z w p c)
    unfolding does call_noted waits_thread
    d_does z w (cut s k d) =
        pick_know (Doing Cpu fresh act w p []) (no_cut Cpu fresh act w p s d) (λ _. refused w)
        (λ g. let ne = or_left _ _ g in d_cutting z w k s d ne (both_hold _ _ (or_right _ _ (or_right (is_empty (slot Cpu fresh act w p s)) _ g))) (leads_to _ ne))
    d_does z w (copy s d r b) =
        pick_know (Doing Cpu fresh act w p []) (no_copy Cpu fresh act w p s d) (λ _. refused w)
        (λ g. goes (0 ∷ []) (one Cpu fresh act (small (small_copy Cpu fresh act w p s d r b (or_left _ _ g)))) (λ _. all_copy Cpu fresh act w p d _ _))
    d_does z w (move s d) = pick_both (Doing Cpu fresh act w p []) _ (refused w) (goes (0 ∷ []) (moved Cpu fresh act w p s p d) (λ _. all_moved Cpu fresh act w p s p d))
    d_does z w (drop_it s) = pick_both (Doing Cpu fresh act w p []) _ (refused w) (goes (0 ∷ []) (one Cpu fresh act (small (small_empty Cpu fresh act w p s))) (λ _. all_put Cpu fresh act w p s empty))
    d_does z w (revoke s) = pick_both (Doing Cpu fresh act w p []) _ (refused w) (d_revoking w _ _)
    d_does z w (send s ws g h) = d_coming w _ _ refl (c_send z w s ws g h)
    d_does z w (receive s d) = d_coming w _ _ refl (c_receive z w s d)
    d_does z w (map s t a) = pick_both (Doing Cpu fresh act w p []) _ (refused w) (d_mapping z w _ _ _ a)
    d_does z w (unmap t a) = pick_both (Doing Cpu fresh act w p []) _ (refused w) (d_unmapping z w _ a)
    d_does z w (bind t s) = pick_both (Doing Cpu fresh act w p []) _ (refused w) (d_binding w _ _)
    d_does z w (go t a) = pick_both (Doing Cpu fresh act w p []) _ (refused w) (d_going w _ a)
    d_does z w (say s b) = pick_both (Doing Cpu fresh act w p []) _ (refused w) (d_saying w _ _)
    d_does z w (hear s) = pick_both (Doing Cpu fresh act w p []) _ (refused w) (d_hearing w _)

  -- a store: where a page is, if spaces have pages only
  stores_alike : (x : Object Cpu) (g f : ℕ) (bs vs : List ℕ) → x ≡ page g vs → SameFace Cpu fresh act (page f bs) x
  unfolding row_of waits_at view waiting_of
  stores_alike x g f bs vs e = subst (SameFace Cpu fresh act (page f bs)) (sym e) (record { rows = refl; ports = refl; goes_on = refl })

  d_store : (z : Sizes) (w : World Cpu) (p f a : ℕ) (c : Cpu) (ps : List ℕ) (rs : List Bool) (i : ℕ) (bs : List ℕ) → obj w p ≡ thread f ready c a ps rs → may_store Cpu fresh act z ps rs i bs ≡ true →
      Doing Cpu fresh act w p [] (on (stores Cpu fresh act z w ps rs i bs) [])
  unfolding stores may_store
  d_store z w p f a c ps rs i bs e g = go (get_or ps (i / z.bytes) 0) refl (and_left _ _ g)
    where
      go : (u : ℕ) → get_or ps (i / z.bytes) 0 ≡ u → not (eqb u 0) ≡ true →
          Doing Cpu fresh act w p [] (on (with_object Cpu fresh act w (u - 1) (page (from_page Cpu fresh act (obj w (u - 1))) (over (bytes_of Cpu fresh act (obj w (u - 1))) (i % z.bytes) bs))) [])
      go zero q h = no_yes h
      go (suc u) q h =
          subst (λ (k : ℕ). Doing Cpu fresh act w p [] (on (with_object Cpu fresh act w k (page (from_page Cpu fresh act (obj w k)) (over (bytes_of Cpu fresh act (obj w k)) (i % z.bytes) bs))) [])) (sym (less_one u))
          (goes [] (one Cpu fresh act (small (small_set Cpu fresh act w u (obj w u) _ refl (stored p (i / z.bytes) e q))))
          (λ k. let y = k.its_pages p f a (i / z.bytes) u ready c ps rs e q in alike_set Cpu fresh act w u (obj w u) _ refl (stores_alike (obj w u) y.0 _ _ y.1 y.2)))

  d_acts : (z : Sizes) (w : World Cpu) (p f a : ℕ) (c : Cpu) (ps : List ℕ) (rs : List Bool) (x : Act Cpu) → obj w p ≡ thread f ready c a ps rs → Outcome Cpu fresh act w (act_noted Cpu fresh act (does Cpu fresh act) z w p x) (acts Cpu fresh act z w p ps rs x)
  unfolding acts act_noted went_on
  d_acts z w p f a c ps rs (quiet d) e = calls p (λ _. d) e (goes [] none (λ _ u. alike Cpu fresh act _))
  d_acts z w p f a c ps rs (store i bs d) e =
      pick_know (Outcome Cpu fresh act w []) (may_store Cpu fresh act z ps rs i bs) (λ g. calls p (λ _. d) e (d_store z w p f a c ps rs i bs e g)) (λ _. stops p e)
  d_acts z w p f a c ps rs (call d then) e = calls p then e (d_does p z w d)
  d_acts z w p f a c ps rs wrong e = stops p e

  d_ticked : (z : Sizes) (w : World Cpu) (p : ℕ) (x : Object Cpu) → obj w p ≡ x → Outcome Cpu fresh act w (tick_noted Cpu fresh act (does Cpu fresh act) z w p x) (ticked Cpu fresh act z w p x)
  unfolding ticked tick_noted
  d_ticked z w p gone e = nothing
  d_ticked z w p (pool f n u) e = nothing
  d_ticked z w p (table f ss) e = nothing
  d_ticked z w p (port f ws) e = nothing
  d_ticked z w p (page f bs) e = nothing
  d_ticked z w p (thread f stopped c t ps rs) e = nothing
  d_ticked z w p (thread f ready c t ps rs) e = d_acts z w p f t c ps rs (act c (seen Cpu fresh act z w ps)) e
  d_ticked z w p (thread f (waits o then) c t ps rs) e = nothing
  d_ticked z w p (line xs ys) e = nothing

  d_comes : (z : Sizes) (w : World Cpu) (o b : ℕ) → Outcome Cpu fresh act w [] (comes_in Cpu fresh act z w o b (obj w o))
  unfolding comes_in
  d_comes z w o b =
      rw (comes_in_is Cpu fresh act z w o b (obj w o)) (by_line (Outcome Cpu fresh act w []) (obj w o) nothing (λ xs ys e. pick_both (Outcome Cpu fresh act w []) (ltb (length ys) z.heard) (heard o (ys ++ b ∷ []) e) nothing))

  -- every event
  pub happens : (z : Sizes) (w : World Cpu) (e : Event) → Outcome Cpu fresh act w (event_noted Cpu fresh act (does Cpu fresh act) z w e) (event Cpu fresh act z w e)
  unfolding event event_noted
  happens z w (tick p) = d_ticked z w p (obj w p) refl
  happens z w (byte o b) = d_comes z w o b

  -- an event is a row of steps
  pub steps_of : {w v : World Cpu} {ns : List Note} → Outcome Cpu fresh act w ns v → Steps Cpu fresh act w v
  unfolding went_on
  steps_of nothing = none
  steps_of {w} (heard o {xs} {ys} zs e) = one Cpu fresh act (small (small_set Cpu fresh act w o (line xs ys) (line xs zs) e spoken))
  steps_of {w} (stops p e) = one Cpu fresh act (small (small_state Cpu fresh act w p stopped (fresh 0)))
  steps_of (calls p then e (goes {v} ws s a)) = after s (small (small_state Cpu fresh act v p ready (then ws)))
  steps_of (calls p then e (sweeps {v} ws ids os s a b d g)) = after s (small (small_state Cpu fresh act v p ready (then ws)))
  steps_of (calls p then e (rests x s a t b)) = after s (small (small_state Cpu fresh act _ p _ (fresh 0)))
  steps_of (calls p then e (joins o x y h a i b d s f t n)) = after s (small (small_state Cpu fresh act _ p ready (then (told x y))))

  -- what every step keeps, every row of events keeps
  module _ (I : World Cpu → Type 0) (by_small : (w v : World Cpu) → Change Cpu fresh act w v → I w → I v)
      (by_sweep : (w : World Cpu) (ids os : List ℕ) → Closed Cpu fresh act w os → I w → I (cleared Cpu fresh act w ids os)) where
    pub steps_keep : {w v : World Cpu} → Steps Cpu fresh act w v → I w → I v
    steps_keep none i = i
    steps_keep (after s (small c)) i = by_small _ _ c (steps_keep s i)
    steps_keep (after {v} s (swept ids os c)) i = by_sweep v ids os c (steps_keep s i)

    pub event_keeps : (z : Sizes) (w : World Cpu) (e : Event) → I w → I (event Cpu fresh act z w e)
    event_keeps z w e = steps_keep (steps_of (happens z w e))

    pub run_keeps : (z : Sizes) (w : World Cpu) (es : List Event) → I w → I (run Cpu fresh act z w es)
    unfolding run
    run_keeps z w [] i = i
    run_keeps z w (e ∷ es) i = run_keeps z (event Cpu fresh act z w e) es (event_keeps z w e i)
