-- What each call does: when it is done and what it leaves; else it is refused, and the world is as it was.
use mathlib.Core.Path.{◌≡◌, refl, sym, ap, ◌∙◌}
use mathlib.Core.Bool.{Bool, true, false, ◌&&◌, ◌||◌, not}
use mathlib.Core.List.{List, [], ◌∷◌, ◌++◌}
use mathlib.Core.Logic.{◌⊎◌, inl, inr, ◌≢◌}
use Prim.Native.Nat.{ℕ, zero, suc, ◌+◌, ◌*◌, ◌-◌, ◌%◌, ◌≤◌}
use native.Mathlib.Omega.{arith}
use lib.Dec.{ltb, eqb}
use borrow.Author.Tests.{ltb-true, ltb-false, lt-ltb, le-ltb, eq-eqb, eqb-true}
use lib.ListN.{length, get_or, set}
use Rattle.rights.specs.World.{pick, no, Rights, meet, Slot, empty, cap, Kind, a_pool, a_table, a_port, a_page, Call, cut, copy, move, drop_it, revoke, send, receive, map, unmap, bind, go, say, hear}
use Rattle.rights.specs.World.{Act, Wait, sender, receiver, State, stopped, ready, waits, Object, gone, pool, table, port, page, thread, line, Sizes, World, Event}
use Rattle.rights.specs.World.{cost, step_of, up_to, slot_object, slot_rights, slot_badge, slot_birth, is_empty, copied, too_many, object, with_object, slots_of, table_of, slot, has_slot, with_slots, with_slot, all_rights}
use Rattle.rights.specs.World.{cleared, Went, on, refuse, cutting, is_pool, is_page, is_table, revoking, sending, receiving, mapping, unmapping, binding, going, saying, hearing, does, went_on, event}
use Rattle.rights.specs.Promise.{Sized, filled}
use Rattle.rights.specs.Effects.{led_to, Calls, it_calls, Full, Free, Reads, Writes, Hands, HasRoom, IsThread, IsLine, When, NoneBorn, OneBorn, Only, SlotsTo, the_copy, the_cut, CutTo, Emptier, ThreadTo, Leaves, answered, CallsDoIn, CallsDo, Answer, says_no, says_yes, says_nothing, RefusedLeavesIn, RefusedLeaves}
use Rattle.laws.proofs.Tests.{yes_no, no_yes, clash, is_so, both_hold, pick_both, pick_know, or_left, or_right, and_left, and_right, less_one}
use Rattle.laws.proofs.Forms.{by_pool, by_port, by_thread, by_line, no_cut, no_copy, no_move, no_revoke, no_writing, no_reading, no_map, no_bind, cutting_is, sending_is, receiving_is, mapping_is, unmapping_is, binding_is, going_is, saying_is, hearing_is}
use Rattle.laws.proofs.Cuts.{after_cut, costs, at_pool, new_after, table_after, cut_places}
use Rattle.laws.proofs.Rows.{put_here, put_else}
use Rattle.laws.proofs.Asked.{is_call}
use Rattle.laws.proofs.Slots.{slot_is, has_one, tables_put, less_same, less_on, same_set, less_cleared}
use Rattle.laws.proofs.Taking.{slots_refilled}

module _ (Cpu : Type 0) (fresh : ℕ → Cpu) (act : Cpu → (ℕ → ℕ) → Act Cpu) where
  abbrev obj : World Cpu → ℕ → Object Cpu
  obj = object Cpu fresh act

  -- WHAT COMES BACK
  module _ (z : Sizes) (w : World Cpu) (p : ℕ) where
    abbrev Answered : Went Cpu fresh act → Type 0
    Answered = Answer Cpu fresh act w

    refused : Answered (refuse Cpu fresh act w)
    unfolding refuse
    refused = says_no

    r_sending : (o b : ℕ) (ws : List ℕ) (h g : Bool) (s : ℕ) → Answered (sending Cpu fresh act w p o b ws h g s (obj w o))
    unfolding sending
    r_sending o b ws h g s = rw (sending_is Cpu fresh act w p o b ws h g s (obj w o)) (by_port Answered (obj w o) refused at_row)
      where
        at_row : (f : ℕ) (q : List Wait) → obj w o ≡ port f q → Answered (sending Cpu fresh act w p o b ws h g s (port f q))
        at_row f [] e = says_nothing _ _
        at_row f (sender t c vs i j r ∷ q) e = says_nothing _ _
        at_row f (receiver t d ∷ q) e = says_yes _ _

    r_receiving : (o d : ℕ) → Answered (receiving Cpu fresh act w p o d (obj w o))
    unfolding receiving
    r_receiving o d = rw (receiving_is Cpu fresh act w p o d (obj w o)) (by_port Answered (obj w o) refused at_row)
      where
        at_row : (f : ℕ) (q : List Wait) → obj w o ≡ port f q → Answered (receiving Cpu fresh act w p o d (port f q))
        at_row f [] e = says_nothing _ _
        at_row f (receiver t c ∷ q) e = says_nothing _ _
        at_row f (sender t b ws h g s ∷ q) e = says_yes _ _

    r_binding : (t o : ℕ) → Answered (binding Cpu fresh act w t o (obj w t))
    unfolding binding
    r_binding t o = rw (binding_is Cpu fresh act w t o (obj w t)) (by_thread Answered (obj w t) refused at_state)
      where
        at_state : (f : ℕ) (s : State Cpu) (c : Cpu) (b : ℕ) (ps : List ℕ) (rs : List Bool) → obj w t ≡ thread f s c b ps rs → Answered (binding Cpu fresh act w t o (thread f s c b ps rs))
        at_state f stopped c b ps rs e = pick_both Answered _ (says_yes _ _) refused
        at_state f ready c b ps rs e = refused
        at_state f (waits u then) c b ps rs e = refused

    r_going : (t a : ℕ) → Answered (going Cpu fresh act w t a (obj w t))
    unfolding going
    r_going t a = rw (going_is Cpu fresh act w t a (obj w t)) (by_thread Answered (obj w t) refused at_state)
      where
        at_state : (f : ℕ) (s : State Cpu) (c : Cpu) (b : ℕ) (ps : List ℕ) (rs : List Bool) → obj w t ≡ thread f s c b ps rs → Answered (going Cpu fresh act w t a (thread f s c b ps rs))
        at_state f stopped c b ps rs e = says_yes _ _
        at_state f ready c b ps rs e = refused
        at_state f (waits u then) c b ps rs e = refused

    r_hearing : (o : ℕ) → Answered (hearing Cpu fresh act w o (obj w o))
    unfolding hearing
    r_hearing o = rw (hearing_is Cpu fresh act w o (obj w o)) (by_line Answered (obj w o) refused at_bytes)
      where
        at_bytes : (xs ys : List ℕ) → obj w o ≡ line xs ys → Answered (hearing Cpu fresh act w o (line xs ys))
        at_bytes xs [] e = refused
        at_bytes xs (y ∷ ys) e = says_yes _ _

    r_cutting : (o : ℕ) (x : Slot) (k : Kind) (d : ℕ) → Answered (cutting Cpu fresh act z w p o x k d (obj w o))
    unfolding cutting
    r_cutting o x k d = rw (cutting_is Cpu fresh act z w p o x k d (obj w o)) (by_pool Answered (obj w o) refused (λ f n u e. pick_both Answered _ refused (says_yes _ _)))

    r_mapping : (o : ℕ) (m : Bool) (t a : ℕ) → Answered (mapping Cpu fresh act z w o m t a (obj w t))
    unfolding mapping
    r_mapping o m t a = rw (mapping_is Cpu fresh act z w o m t a (obj w t)) (by_thread Answered (obj w t) refused (λ f s c b ps rs e. pick_both Answered _ (says_yes _ _) refused))

    r_unmapping : (t a : ℕ) → Answered (unmapping Cpu fresh act z w t a (obj w t))
    unfolding unmapping
    r_unmapping t a = rw (unmapping_is Cpu fresh act z w t a (obj w t)) (by_thread Answered (obj w t) refused (λ f s c b ps rs e. pick_both Answered _ (says_yes _ _) refused))

    r_saying : (o b : ℕ) → Answered (saying Cpu fresh act w o b (obj w o))
    unfolding saying
    r_saying o b = rw (saying_is Cpu fresh act w o b (obj w o)) (by_line Answered (obj w o) refused (λ xs ys e. says_yes _ _))

    answer_of : (x : Call) → Answered (does Cpu fresh act z w p x)
    unfolding does revoking
    answer_of (cut s k d) = pick_both Answered _ refused (r_cutting _ _ k d)
    answer_of (copy s d r b) = pick_both Answered _ refused (says_yes _ _)
    answer_of (move s d) = pick_both Answered _ refused (says_yes _ _)
    answer_of (drop_it s) = pick_both Answered _ refused (says_yes _ _)
    answer_of (revoke s) = pick_both Answered _ refused (pick_both Answered _ (says_yes _ _) (says_yes _ _))
    answer_of (send s ws g h) = pick_both Answered _ refused (r_sending _ _ _ _ g h)
    answer_of (receive s d) = pick_both Answered _ refused (r_receiving _ d)
    answer_of (map s t a) = pick_both Answered _ refused (r_mapping _ _ _ a)
    answer_of (unmap t a) = pick_both Answered _ refused (r_unmapping _ a)
    answer_of (bind t s) = pick_both Answered _ refused (r_binding _ _)
    answer_of (go t a) = pick_both Answered _ refused (r_going _ a)
    answer_of (say s b) = pick_both Answered _ refused (r_saying _ _)
    answer_of (hear s) = pick_both Answered _ refused (r_hearing _)

    -- who says no has changed nothing
    unchanged : (g : Went Cpu fresh act) (v : World Cpu) (ws : List ℕ) → Answered g → g ≡ on v (no ∷ ws) → (v ≡ w) × (ws ≡ [])
    unchanged g v ws says_no e = (cc, cc)
    unchanged g v ws (says_yes u vs) e = let f : ◌≡◌ {A = ℕ} 0 4294967295 = cc in absurd (omega arith)
    unchanged g v ws (says_nothing u o) e = clash (cc)

  -- the event of such a call
  event_unchanged : (z : Sizes) (w v : World Cpu) (e : Event) (p u : ℕ) (x : Call) (ws : List ℕ) → Calls Cpu fresh act z w e p x → does Cpu fresh act z w p x ≡ on v (no ∷ ws) → u ≢ p → obj (event Cpu fresh act z w e) u ≡ obj w u
  unfolding went_on
  event_unchanged z w v e p u x ws (it_calls f a c ps rs then h i m) g l =
      ap (λ (k : Event). obj (event Cpu fresh act z w k) u) h ∙ ap (λ (k : World Cpu). obj k u) ((is_call Cpu fresh act z w p f a c ps rs x then i m).0 ∙ ap (went_on Cpu fresh act w p then) g) ∙ put_else Cpu fresh act v p u _ (λ q. l (sym q)) ∙
      ap (λ (k : World Cpu). obj k u) (unchanged z w p (does Cpu fresh act z w p x) v ws (answer_of z w p x) g).0

  pub refused_leaves : RefusedLeaves Cpu fresh act
  unfolding RefusedLeaves RefusedLeavesIn
  refused_leaves = (answer_of, (λ z w v p x ws e. unchanged z w p (does Cpu fresh act z w p x) v ws (answer_of z w p x) e), event_unchanged)

  -- WHEN A CALL IS DONE. It is refused, or it can be done
  module _ (z : Sizes) (w : World Cpu) (p : ℕ) where
    abbrev Or : Type 0 → Went Cpu fresh act → Type 0
    Or W g = (g ≡ refuse Cpu fresh act w) ⊎ W

    -- the slot that a call would fill is there and empty
    room : (d : ℕ) → not (has_slot Cpu fresh act w p d && is_empty (slot Cpu fresh act w p d)) ≡ false → Free Cpu fresh act w p d
    unfolding Free
    room d g = (both_hold _ _ g, and_right (has_slot Cpu fresh act w p d) _ (is_so _ g))

    positive : (n m : ℕ) → eqb (n * m) 0 ≡ false → 1 ≤ n
    positive zero m e = yes_no (sym (eq-eqb (zero * m) 0 (omega arith)) ∙ e)
    positive (suc n) m e = omega arith

    sized : (k : Kind) → (eqb (cost z k) 0 || too_many k) ≡ false → Sized Cpu fresh act k
    unfolding Sized cost too_many
    sized (a_pool n) e = (positive n z.bytes (or_left _ _ e), ltb-false 4096 n (or_right (eqb (n * z.bytes) 0) _ e))
    sized (a_table n) e = (positive n 64 (or_left _ _ e), ltb-false 4096 n (or_right (eqb (n * 64) 0) _ e))
    sized a_port e = tt
    sized a_page e = tt

    when_cut : (s d : ℕ) (k : Kind) → Or (When Cpu fresh act z w p (cut s k d)) (does Cpu fresh act z w p (cut s k d))
    unfolding does When Full Writes HasRoom cutting filled
    when_cut s d k =
        pick_know (Or W) (no_cut Cpu fresh act w p s d) (λ _. inl refl) (λ g.
        rw (cutting_is Cpu fresh act z w p o x k d (obj w o)) (by_pool (Or W) (obj w o) (inl refl) (λ f n u e.
        pick_know (Or W) (ltb n (up_to (step_of z k) u + cost z k) || (eqb (cost z k) 0 || too_many k)) (λ _. inl refl) (λ h.
        let r = or_right (is_empty x) _ g in
        inr (or_left _ _ g, is_so _ (or_left _ _ r), room d (or_right _ _ r), sized k (or_right _ _ h), (f, n, u, e, ltb-false n _ (or_left _ _ h)))))))
      where
        x : Slot
        x = slot Cpu fresh act w p s

        o : ℕ
        o = led_to Cpu fresh act w p s

        W : Type 0
        W = When Cpu fresh act z w p (cut s k d)

    when_copy : (s d b : ℕ) (r : Rights) → Or (When Cpu fresh act z w p (copy s d r b)) (does Cpu fresh act z w p (copy s d r b))
    unfolding does When Full Hands
    when_copy s d b r =
        pick_know (Or _) (no_copy Cpu fresh act w p s d) (λ _. inl refl) (λ g. let h = or_right (is_empty (slot Cpu fresh act w p s)) _ g in inr (or_left _ _ g, is_so _ (or_left _ _ h), room d (or_right _ _ h)))

    when_move : (s d : ℕ) → Or (When Cpu fresh act z w p (move s d)) (does Cpu fresh act z w p (move s d))
    unfolding does When Full
    when_move s d = pick_know (Or _) (no_move Cpu fresh act w p s d) (λ _. inl refl) (λ g. inr (or_left _ _ g, room d (or_right (is_empty (slot Cpu fresh act w p s)) _ g)))

    when_drop : (s : ℕ) → Or (When Cpu fresh act z w p (drop_it s)) (does Cpu fresh act z w p (drop_it s))
    unfolding does When Full
    when_drop s = pick_know (Or _) (is_empty (slot Cpu fresh act w p s)) (λ _. inl refl) (λ g. inr g)

    when_revoke : (s : ℕ) → Or (When Cpu fresh act z w p (revoke s)) (does Cpu fresh act z w p (revoke s))
    unfolding does When Full Writes
    when_revoke s = pick_know (Or _) (no_revoke Cpu fresh act w p s) (λ _. inl refl) (λ g. inr (or_left _ _ g, λ e. writes (is_pool Cpu fresh act (obj w (led_to Cpu fresh act w p s))) _ e (or_right (is_empty (slot Cpu fresh act w p s)) _ g)))
      where
        writes : (c d : Bool) → c ≡ true → (c && not d) ≡ false → d ≡ true
        writes true d e h = is_so d h
        writes false d e h = no_yes e

    when_map : (s t a : ℕ) → Or (When Cpu fresh act z w p (map s t a)) (does Cpu fresh act z w p (map s t a))
    unfolding does When Full Reads Writes IsThread mapping
    when_map s t a =
        pick_know (Or W) (no_map Cpu fresh act w p s t) (λ _. inl refl) (λ g.
        rw (mapping_is Cpu fresh act z w o (slot_rights (slot Cpu fresh act w p s)).writes v a (obj w v)) (by_thread (Or W) (obj w v) (inl refl) (λ f q c b ps rs e.
        pick_know (Or W) (ltb a z.pages && (is_page Cpu fresh act (obj w o) && eqb (get_or ps a 0) 0)) (λ h.
        let i = or_right (is_empty (slot Cpu fresh act w p s)) _ g in
        let j = or_right (is_empty (slot Cpu fresh act w p t)) _ i in
        let m = and_right (ltb a z.pages) _ h in
        inr (or_left _ _ g, or_left _ _ i, is_so _ (or_left _ _ j), is_so _ (or_right _ _ j), ltb-true a z.pages (and_left _ _ h), and_left _ _ m, (f, q, c, b, ps, rs, e, eqb-true (get_or ps a 0) 0 (and_right (is_page Cpu fresh act (obj w o)) _ m))))
        (λ _. inl refl))))
      where
        o : ℕ
        o = led_to Cpu fresh act w p s

        v : ℕ
        v = led_to Cpu fresh act w p t

        W : Type 0
        W = When Cpu fresh act z w p (map s t a)

    when_unmap : (t a : ℕ) → Or (When Cpu fresh act z w p (unmap t a)) (does Cpu fresh act z w p (unmap t a))
    unfolding does When Full Writes IsThread unmapping
    when_unmap t a =
        pick_know (Or W) (no_writing Cpu fresh act w p t) (λ _. inl refl) (λ g.
        rw (unmapping_is Cpu fresh act z w (led_to Cpu fresh act w p t) a (obj w (led_to Cpu fresh act w p t))) (by_thread (Or W) (obj w (led_to Cpu fresh act w p t)) (inl refl) (λ f q c b ps rs e.
        pick_know (Or W) (ltb a z.pages) (λ h. inr (or_left _ _ g, is_so _ (or_right (is_empty (slot Cpu fresh act w p t)) _ g), ltb-true a z.pages h, (f, q, c, b, ps, rs, e, tt))) (λ _. inl refl))))
      where
        W : Type 0
        W = When Cpu fresh act z w p (unmap t a)

    when_bind : (t s : ℕ) → Or (When Cpu fresh act z w p (bind t s)) (does Cpu fresh act z w p (bind t s))
    unfolding does When Full Writes IsThread binding
    when_bind t s =
        pick_know (Or W) (no_bind Cpu fresh act w p t s) (λ _. inl refl) (λ g.
        rw (binding_is Cpu fresh act w (led_to Cpu fresh act w p t) (led_to Cpu fresh act w p s) (obj w (led_to Cpu fresh act w p t))) (by_thread (Or W) (obj w (led_to Cpu fresh act w p t)) (inl refl) (at_state g)))
      where
        W : Type 0
        W = When Cpu fresh act z w p (bind t s)

        at_state : no_bind Cpu fresh act w p t s ≡ false → (f : ℕ) (q : State Cpu) (c : Cpu) (b : ℕ) (ps : List ℕ) (rs : List Bool) → obj w (led_to Cpu fresh act w p t) ≡ thread f q c b ps rs →
            Or W (binding Cpu fresh act w (led_to Cpu fresh act w p t) (led_to Cpu fresh act w p s) (thread f q c b ps rs))
        at_state g f stopped c b ps rs e =
            let i = or_right (is_empty (slot Cpu fresh act w p t)) _ g in
            let j = or_right (is_empty (slot Cpu fresh act w p s)) _ i in
            pick_know (Or W) (is_table Cpu fresh act (obj w (led_to Cpu fresh act w p s))) (λ h. inr (or_left _ _ g, or_left _ _ i, is_so _ (or_right _ _ j), is_so _ (or_left _ _ j), h, (f, stopped, c, b, ps, rs, e, refl))) (λ _. inl refl)
        at_state g f ready c b ps rs e = inl refl
        at_state g f (waits u then) c b ps rs e = inl refl

    when_go : (t a : ℕ) → Or (When Cpu fresh act z w p (go t a)) (does Cpu fresh act z w p (go t a))
    unfolding does When Full Writes IsThread going
    when_go t a =
        pick_know (Or W) (no_writing Cpu fresh act w p t) (λ _. inl refl) (λ g. rw (going_is Cpu fresh act w (led_to Cpu fresh act w p t) a (obj w (led_to Cpu fresh act w p t))) (by_thread (Or W) (obj w (led_to Cpu fresh act w p t)) (inl refl) (at_state g)))
      where
        W : Type 0
        W = When Cpu fresh act z w p (go t a)

        at_state : no_writing Cpu fresh act w p t ≡ false → (f : ℕ) (q : State Cpu) (c : Cpu) (b : ℕ) (ps : List ℕ) (rs : List Bool) → obj w (led_to Cpu fresh act w p t) ≡ thread f q c b ps rs → Or W (going Cpu fresh act w (led_to Cpu fresh act w p t) a (thread f q c b ps rs))
        at_state g f stopped c b ps rs e = inr (or_left _ _ g, is_so _ (or_right (is_empty (slot Cpu fresh act w p t)) _ g), (f, stopped, c, b, ps, rs, e, refl))
        at_state g f ready c b ps rs e = inl refl
        at_state g f (waits u then) c b ps rs e = inl refl

    when_say : (s b : ℕ) → Or (When Cpu fresh act z w p (say s b)) (does Cpu fresh act z w p (say s b))
    unfolding does When Full Writes IsLine saying
    when_say s b =
        pick_know (Or _) (no_writing Cpu fresh act w p s) (λ _. inl refl) (λ g.
        rw (saying_is Cpu fresh act w (led_to Cpu fresh act w p s) (b % 256) (obj w (led_to Cpu fresh act w p s))) (by_line (Or (When Cpu fresh act z w p (say s b))) (obj w (led_to Cpu fresh act w p s)) (inl refl) (λ xs ys e.
        inr (or_left _ _ g, is_so _ (or_right (is_empty (slot Cpu fresh act w p s)) _ g), (xs, ys, e, tt)))))

    when_hear : (s : ℕ) → Or (When Cpu fresh act z w p (hear s)) (does Cpu fresh act z w p (hear s))
    unfolding does When Full Reads IsLine hearing
    when_hear s =
        pick_know (Or W) (no_reading Cpu fresh act w p s) (λ _. inl refl) (λ g. rw (hearing_is Cpu fresh act w (led_to Cpu fresh act w p s) (obj w (led_to Cpu fresh act w p s))) (by_line (Or W) (obj w (led_to Cpu fresh act w p s)) (inl refl) (at_bytes g)))
      where
        W : Type 0
        W = When Cpu fresh act z w p (hear s)

        at_bytes : no_reading Cpu fresh act w p s ≡ false → (xs ys : List ℕ) → obj w (led_to Cpu fresh act w p s) ≡ line xs ys → Or W (hearing Cpu fresh act w (led_to Cpu fresh act w p s) (line xs ys))
        at_bytes g xs [] e = inl refl
        at_bytes g xs (y ∷ ys) e = inr (or_left _ _ g, is_so _ (or_right (is_empty (slot Cpu fresh act w p s)) _ g), (xs, y ∷ ys, e, λ h. clash (cc)))

    when_done : (x : Call) → answered Cpu fresh act x ≡ true → Or (When Cpu fresh act z w p x) (does Cpu fresh act z w p x)
    unfolding answered
    when_done (cut s k d) n = when_cut s d k
    when_done (copy s d r b) n = when_copy s d b r
    when_done (move s d) n = when_move s d
    when_done (drop_it s) n = when_drop s
    when_done (revoke s) n = when_revoke s
    when_done (send s ws g h) n = no_yes n
    when_done (receive s d) n = no_yes n
    when_done (map s t a) n = when_map s t a
    when_done (unmap t a) n = when_unmap t a
    when_done (bind t s) n = when_bind t s
    when_done (go t a) n = when_go t a
    when_done (say s b) n = when_say s b
    when_done (hear s) n = when_hear s

  -- WHAT IT LEAVES. An object in place of one that is there
  only_set : (w : World Cpu) (o : ℕ) (x : Object Cpu) → (obj w o ≡ gone → ⊥) → Only Cpu fresh act w (with_object Cpu fresh act w o x) o x
  unfolding Only
  only_set w o x h = (put_here Cpu fresh act w o x h, λ u l. put_else Cpu fresh act w o u x (λ e. l (sym e)))

  only_on : (w v u : World Cpu) (o : ℕ) (x y : Object Cpu) → Only Cpu fresh act w v o x → Only Cpu fresh act v u o y → Only Cpu fresh act w u o y
  unfolding Only
  only_on w v u o x y a b = (b.0, λ k l. b.1 k l ∙ a.1 k l)

  -- a thread with a full slot has a table with slots
  Its : World Cpu → ℕ → ℕ → ℕ → List Slot → Type 0
  Its w p t f ss = (table_of Cpu fresh act (obj w p) ≡ suc t) × (obj w t ≡ table f ss)

  its_slots : (w : World Cpu) (p s : ℕ) → Full Cpu fresh act w p s → (t : ℕ) × (f : ℕ) × (ss : List Slot) × Its w p t f ss
  unfolding Full slots_of is_empty Its
  its_slots w p s n = let h = has_one Cpu fresh act w p s n in go h.0 h.1 (obj w h.0) refl (ap is_empty (sym (slot_is Cpu fresh act w p h.0 s h.1)) ∙ n)
    where
      go : (t : ℕ) → table_of Cpu fresh act (obj w p) ≡ suc t → (x : Object Cpu) → obj w t ≡ x → is_empty (get_or (slots_of Cpu fresh act x) s empty) ≡ false → (t : ℕ) × (f : ℕ) × (ss : List Slot) × Its w p t f ss
      go t e gone q m = yes_no m
      go t e (pool f k u) q m = yes_no m
      go t e (table f ss) q m = (t, f, ss, (e, q))
      go t e (port f ws) q m = yes_no m
      go t e (page f bs) q m = yes_no m
      go t e (thread f q c b ps rs) r m = yes_no m
      go t e (line xs ys) q m = yes_no m

  put_only : (w : World Cpu) (p t f d : ℕ) (ss : List Slot) (y : Slot) → Its w p t f ss → Only Cpu fresh act w (with_slot Cpu fresh act w p d y) t (table f (set ss d y))
  unfolding with_slot Its with_slots slots_of
  put_only w p t f d ss y h = rw (h.0, less_one t, h.1) (only_set w t (table f (set ss d y)) (λ e. clash (let g = h.1 in cc)))

  put_its : (w : World Cpu) (p t f d : ℕ) (ss : List Slot) (y : Slot) → Its w p t f ss → Its (with_slot Cpu fresh act w p d y) p t f (set ss d y)
  unfolding Its Only
  put_its w p t f d ss y h = ((tables_put Cpu fresh act w p d y).bound_to p ∙ h.0, (put_only w p t f d ss y h).0)

  module _ (z : Sizes) (w : World Cpu) (p : ℕ) where
    abbrev Done : Call → Type 0
    Done x = (v : World Cpu) × (ws : List ℕ) × (does Cpu fresh act z w p x ≡ on v (0 ∷ ws)) × Leaves Cpu fresh act z w p x v ws

    -- what a copy is, in the world's words
    copied_as : (s b : ℕ) (r : Rights) → Full Cpu fresh act w p s → copied (slot Cpu fresh act w p s) r b (suc w.births) ≡ the_copy Cpu fresh act w p s r b
    unfolding Full the_copy is_empty copied slot_object meet slot_badge slot_birth slot_rights
    copied_as s b r n = go (slot Cpu fresh act w p s) n
      where
        go : (x : Slot) → is_empty x ≡ false → copied x r b (suc w.births) ≡ cap (slot_object x - 1) (meet (slot_rights x) r) (pick (eqb (slot_badge x) 0) b (slot_badge x)) (suc w.births) (slot_birth x)
        go empty m = yes_no m
        go (cap o q c j k) m = rw (less_one o) refl

    done_copy : (s d b : ℕ) (r : Rights) → When Cpu fresh act z w p (copy s d r b) → Done (copy s d r b)
    unfolding does When Full Hands Free Leaves OneBorn SlotsTo Only Its object with_slot with_object
    done_copy s d b r (n, h, l) =
        let y = the_copy Cpu fresh act w p s r b in
        let e = copied_as s b r n in
        let i = its_slots w p s n in
        let W : World Cpu = record { objects = w.objects; births = suc w.births; lineage = y ∷ w.lineage } in
        (with_slot Cpu fresh act W p d y, [], rw (n, h, l.0, l.1, e) refl, (refl, (refl, refl), (i.0, i.1, i.2, i.3.0, i.3.1, put_only W p i.0 i.1 d i.2 y i.3)))

    done_move : (s d : ℕ) → When Cpu fresh act z w p (move s d) → Done (move s d)
    unfolding does When Full Free Leaves NoneBorn SlotsTo Its with_slot with_object
    done_move s d (n, l) =
        let x = slot Cpu fresh act w p s in
        let i = its_slots w p s n in
        let V = with_slot Cpu fresh act w p d x in (
          with_slot Cpu fresh act V p s empty,
          [],
          rw (n, l.0, l.1) refl,
          (refl, (refl, refl), (i.0, i.1, i.2, i.3.0, i.3.1, only_on w V _ i.0 _ _ (put_only w p i.0 i.1 d i.2 x i.3) (put_only V p i.0 i.1 s (set i.2 d x) empty (put_its w p i.0 i.1 d i.2 x i.3)))),
        )

    done_drop : (s : ℕ) → When Cpu fresh act z w p (drop_it s) → Done (drop_it s)
    unfolding does When Full Leaves NoneBorn SlotsTo Its with_slot with_object
    done_drop s n = let i = its_slots w p s n in (with_slot Cpu fresh act w p s empty, [], rw n refl, (refl, (refl, refl), (i.0, i.1, i.2, i.3.0, i.3.1, put_only w p i.0 i.1 s i.2 empty i.3)))

    done_cut : (s d : ℕ) (k : Kind) → 1 ≤ z.bytes → When Cpu fresh act z w p (cut s k d) → Done (cut s k d)
    unfolding does cutting When Full Writes Free HasRoom filled Leaves OneBorn CutTo the_cut Its after_cut with_slot with_object with_slots slots_of
    done_cut s d k one (n, h, l, m, (f, j, u, e, le)) =
        let o = led_to Cpu fresh act w p s in
        let x = slot Cpu fresh act w p s in
        let c = up_to (step_of z k) u + cost z k in
        let i = its_slots w p s n in (
          after_cut Cpu fresh act z w p o d x k f j u c,
          [],
          rw (n, l.0, l.1, h, e, le-ltb j c le, costs Cpu fresh act z k one m) refl,
          (
            refl,
            (refl, refl),
            (
              f,
              j,
              u,
              i.0,
              i.1,
              i.2,
              e,
              i.3.0,
              i.3.1,
              at_pool Cpu fresh act z w p o d x k f j u c l.0 e,
              new_after Cpu fresh act z w p o d x k f j u c l.0 e,
              table_after Cpu fresh act z w p o d x k f j u c l.0 e i.0 i.3.0 ∙ slots_in i.1 i.2 (cap (length w.objects) (all_rights Cpu fresh act) 0 (suc w.births) (slot_birth x)) (obj w i.0) i.3.1,
              λ v a b t. cut_places Cpu fresh act z w p o d x k f j u c l.0 e (λ v X. X ≡ obj w v) v refl (λ q. absurd (a q)) (λ q. absurd (b q)) (λ y q. absurd (t (let r = i.3.0 in omega arith))),
            ),
          ),
        )
      where
        slots_in : (g : ℕ) (ss : List Slot) (y : Slot) (X : Object Cpu) → X ≡ table g ss → with_slots Cpu fresh act X (set (slots_of Cpu fresh act X) d y) ≡ table g (set ss d y)
        slots_in g ss y X q = ap (λ (Y : Object Cpu). with_slots Cpu fresh act Y (set (slots_of Cpu fresh act Y) d y)) q

    done_revoke : (s : ℕ) → When Cpu fresh act z w p (revoke s) → Done (revoke s)
    unfolding does revoking When Full Writes Leaves NoneBorn Emptier cleared with_object
    done_revoke s (n, h) = rw (n, may (is_pool Cpu fresh act (obj w (led_to Cpu fresh act w p s))) _ h) (pick_both (λ (g : Went Cpu fresh act). (v : World Cpu) × (ws : List ℕ) × (g ≡ on v (0 ∷ ws)) × Leaves Cpu fresh act z w p (revoke s) v ws) (is_pool Cpu fresh act (obj w (led_to Cpu fresh act w p s)))
        (_, [], refl, (refl, (refl, refl), (less_on Cpu fresh act (less_cleared Cpu fresh act w _ _) (less_same Cpu fresh act (same_set Cpu fresh act _ (led_to Cpu fresh act w p s) _ _ refl (slots_refilled Cpu fresh act _)))).held))
        (_, [], refl, (refl, (refl, refl), (less_cleared Cpu fresh act w _ _).held)))
      where
        may : (c d : Bool) → (c ≡ true → d ≡ true) → (c && not d) ≡ false
        may true d q = ap not (q refl)
        may false d q = refl

    done_map : (s t a : ℕ) → When Cpu fresh act z w p (map s t a) → Done (map s t a)
    unfolding does mapping When Full Reads Writes IsThread Leaves NoneBorn ThreadTo with_object
    done_map s t a (n, m, r, h, l, g, (f, q, c, b, ps, rs, e, i)) =
        let y = thread f q c b (set ps a (suc (led_to Cpu fresh act w p s))) (set rs a (slot_rights (slot Cpu fresh act w p s)).writes) in (
          with_object Cpu fresh act w (led_to Cpu fresh act w p t) y,
          [],
          rw (n, m, r, h, e, lt-ltb a z.pages l, g, eq-eqb (get_or ps a 0) 0 i) refl,
          (refl, (refl, refl), (f, q, c, b, ps, rs, e, only_set w (led_to Cpu fresh act w p t) y (λ j. clash (cc)))),
        )

    done_unmap : (t a : ℕ) → When Cpu fresh act z w p (unmap t a) → Done (unmap t a)
    unfolding does unmapping When Full Writes IsThread Leaves NoneBorn ThreadTo with_object
    done_unmap t a (n, h, l, (f, q, c, b, ps, rs, e, i)) =
        let y = thread f q c b (set ps a 0) (set rs a false) in
        (with_object Cpu fresh act w (led_to Cpu fresh act w p t) y, [], rw (n, h, e, lt-ltb a z.pages l) refl, (refl, (refl, refl), (f, q, c, b, ps, rs, e, only_set w (led_to Cpu fresh act w p t) y (λ j. clash (cc)))))

    done_bind : (t s : ℕ) → When Cpu fresh act z w p (bind t s) → Done (bind t s)
    unfolding does binding When Full Writes IsThread Leaves NoneBorn ThreadTo with_object
    done_bind t s (n, m, h, l, g, (f, q, c, b, ps, rs, e, i)) =
        let y = thread f stopped c (suc (led_to Cpu fresh act w p s)) ps rs in
        let r : obj w (led_to Cpu fresh act w p t) ≡ thread f stopped c b ps rs = cc in
        (with_object Cpu fresh act w (led_to Cpu fresh act w p t) y, [], rw (n, m, l, h, r, g) refl, (refl, (refl, refl), (f, stopped, c, b, ps, rs, r, only_set w (led_to Cpu fresh act w p t) y (λ j. clash (cc)))))

    done_go : (t a : ℕ) → When Cpu fresh act z w p (go t a) → Done (go t a)
    unfolding does going When Full Writes IsThread Leaves NoneBorn ThreadTo with_object
    done_go t a (n, h, (f, q, c, b, ps, rs, e, i)) =
        let y = thread f ready (fresh a) b ps rs in
        let r : obj w (led_to Cpu fresh act w p t) ≡ thread f stopped c b ps rs = cc in
        (with_object Cpu fresh act w (led_to Cpu fresh act w p t) y, [], rw (n, h, r) refl, (refl, (refl, refl), (f, stopped, c, b, ps, rs, r, only_set w (led_to Cpu fresh act w p t) y (λ j. clash (cc)))))

    done_say : (s b : ℕ) → When Cpu fresh act z w p (say s b) → Done (say s b)
    unfolding does saying When Full Writes IsLine Leaves NoneBorn with_object
    done_say s b (n, h, (xs, ys, e, i)) =
        let y = line (xs ++ b % 256 ∷ []) ys in
        (with_object Cpu fresh act w (led_to Cpu fresh act w p s) y, [], rw (n, h, e) refl, (refl, (refl, refl), (xs, ys, e, only_set w (led_to Cpu fresh act w p s) y (λ j. clash (cc)))))

    done_hear : (s : ℕ) → When Cpu fresh act z w p (hear s) → Done (hear s)
    unfolding When Full Reads IsLine does with_object hearing Leaves NoneBorn
    done_hear s (n, h, (xs, ys, e, i)) = go ys e i
      where
        go : (ys : List ℕ) → obj w (led_to Cpu fresh act w p s) ≡ line xs ys → (ys ≡ [] → ⊥) → Done (hear s)
        go [] e i = absurd (i refl)
        go (b ∷ ys) e i =
            let y = line xs ys in
            (with_object Cpu fresh act w (led_to Cpu fresh act w p s) y, b ∷ [], rw (n, h, e) refl, ((refl, refl), (xs, b, ys, refl, e, only_set w (led_to Cpu fresh act w p s) y (λ j. clash (cc)))))

    what_is_done : (x : Call) → 1 ≤ z.bytes → answered Cpu fresh act x ≡ true → When Cpu fresh act z w p x → Done x
    unfolding answered
    what_is_done (cut s k d) one n h = done_cut s d k one h
    what_is_done (copy s d r b) one n h = done_copy s d b r h
    what_is_done (move s d) one n h = done_move s d h
    what_is_done (drop_it s) one n h = done_drop s h
    what_is_done (revoke s) one n h = done_revoke s h
    what_is_done (send s ws g l) one n h = no_yes n
    what_is_done (receive s d) one n h = no_yes n
    what_is_done (map s t a) one n h = done_map s t a h
    what_is_done (unmap t a) one n h = done_unmap t a h
    what_is_done (bind t s) one n h = done_bind t s h
    what_is_done (go t a) one n h = done_go t a h
    what_is_done (say s b) one n h = done_say s b h
    what_is_done (hear s) one n h = done_hear s h

  pub calls_do : CallsDo Cpu fresh act
  unfolding CallsDo CallsDoIn refuse
  calls_do z w p x one n = (what_is_done z w p x one n, else_refused (when_done z w p x n))
    where
      else_refused : {W : Type 0} {g : Went Cpu fresh act} → (g ≡ on w (no ∷ [])) ⊎ W → (W → ⊥) → g ≡ on w (no ∷ [])
      else_refused (inl e) h = e
      else_refused (inr c) h = absurd (h c)
