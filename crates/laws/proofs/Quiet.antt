-- A call other than a cut, a copy or a revoke leaves the record of what was made, and what each object costs, where it was cut from and how much of a pool is used.
use mathlib.Core.Path.{◌≡◌, refl, sym, ap, ◌∙◌}
use mathlib.Core.Bool.{Bool, true, false, ◌&&◌}
use mathlib.Core.List.{List, [], ◌∷◌, ◌++◌}
use Prim.Native.Nat.{ℕ, suc, ◌*◌}
use lib.Dec.{ltb, eqb}
use lib.ListN.{get_or, set, length-set}
use Rattle.rights.specs.World.{Slot, empty, Call, cut, copy, move, drop_it, revoke, send, receive, map, unmap, bind, go, say, hear, Act, Wait, sender, receiver}
use Rattle.rights.specs.World.{State, stopped, ready, waits, Object, gone, pool, table, port, page, thread, line, Sizes, World}
use Rattle.rights.specs.World.{object, with_object, slots_of, from_of, with_slots, with_slot, Went, on, wait, refuse, is_page, is_table, set_state, resumed, handed, sending, receiving}
use Rattle.rights.specs.World.{mapping, unmapping, binding, going, saying, hearing, does}
use Rattle.rights.specs.Promise.{cost_of}
use Rattle.rights.specs.Effects.{Shape, table_shape, shape}
use Rattle.laws.proofs.Tests.{no_yes, pick_both, set_by}
use Rattle.laws.proofs.Forms.{by_port, by_thread, by_line, sending_is, receiving_is, mapping_is, unmapping_is, binding_is, going_is, saying_is, hearing_is}

-- where an object was cut from and what it costs, how much of a pool is used, and one more, 0 for what is no pool; and what stays of it
pub data Paper : Type 0 where
  written : ℕ → ℕ → ℕ → Shape → Paper

-- neither a cut nor a copy nor a revoke
unfoldable pub plain : Call → Bool
plain (cut s k d) = false
plain (copy s d r b) = false
plain (move s d) = true
plain (drop_it s) = true
plain (revoke s) = false
plain (send s ws g h) = true
plain (receive s d) = true
plain (map s t a) = true
plain (unmap t a) = true
plain (bind t s) = true
plain (go t a) = true
plain (say s b) = true
plain (hear s) = true

module _ (Cpu : Type 0) (fresh : ℕ → Cpu) (act : Cpu → (ℕ → ℕ) → Act Cpu) where
  abbrev obj : World Cpu → ℕ → Object Cpu
  obj = object Cpu fresh act

  unfoldable pub used_in : Object Cpu → ℕ
  used_in gone = 0
  used_in (pool f n u) = suc u
  used_in (table f ss) = 0
  used_in (port f ws) = 0
  used_in (page f bs) = 0
  used_in (thread f s c t ps rs) = 0
  used_in (line xs ys) = 0

  unfoldable pub paper : Object Cpu → Paper
  paper x = written (from_of Cpu fresh act x) (cost_of Cpu fresh act x) (used_in x) (shape Cpu fresh act x)

  -- the world that a call leaves
  unfoldable pub left : Went Cpu fresh act → World Cpu
  left (on v ws) = v
  left (wait v o) = v

  pub record Quiet (z : Sizes) (w v : World Cpu) : Type 0 where
    pub same_record : v.lineage ≡ w.lineage
    pub same_papers : (u : ℕ) → paper (obj v u) ≡ paper (obj w u)

  module _ (z : Sizes) where
    pub quiet_same : (w : World Cpu) → Quiet z w w
    quiet_same w = record { same_record = refl; same_papers = λ u. refl }

    pub quiet_on : {w v u : World Cpu} → Quiet z w v → Quiet z v u → Quiet z w u
    quiet_on a b = record { same_record = b.same_record ∙ a.same_record; same_papers = λ u. b.same_papers u ∙ a.same_papers u }

    -- an object in place of another
    pub quiet_set : (w : World Cpu) (o : ℕ) (x y : Object Cpu) → obj w o ≡ x → paper y ≡ paper x → Quiet z w (with_object Cpu fresh act w o y)
    unfolding with_object object
    quiet_set w o x y e h =
        record {
          same_record = refl;
          same_papers = λ u. set_by (λ (k : Object Cpu). paper k ≡ paper (get_or w.objects u gone)) w.objects o u y gone (λ q. h ∙ ap paper (sym e ∙ ap (λ (i : ℕ). get_or w.objects i gone) q)) refl;
        }

    paper_state : (x : Object Cpu) (s : State Cpu) (c : Cpu) → paper (set_state Cpu fresh act x s c) ≡ paper x
    unfolding paper set_state from_of cost_of used_in shape
    paper_state gone s c = refl
    paper_state (pool f n u) s c = refl
    paper_state (table f ss) s c = refl
    paper_state (port f ws) s c = refl
    paper_state (page f bs) s c = refl
    paper_state (thread f q d t ps rs) s c = refl
    paper_state (line xs ys) s c = refl

    pub paper_slots : (x : Object Cpu) (d : ℕ) (y : Slot) → paper (with_slots Cpu fresh act x (set (slots_of Cpu fresh act x) d y)) ≡ paper x
    unfolding paper with_slots slots_of from_of cost_of used_in shape
    paper_slots gone d y = refl
    paper_slots (pool f n u) d y = refl
    paper_slots (table f ss) d y = ap (λ (n : ℕ). written f (n * 64) 0 (table_shape f n)) (length-set ss d y)
    paper_slots (port f ws) d y = refl
    paper_slots (page f bs) d y = refl
    paper_slots (thread f q c t ps rs) d y = refl
    paper_slots (line xs ys) d y = refl

    pub quiet_state : (w : World Cpu) (p : ℕ) (s : State Cpu) (c : Cpu) → Quiet z w (with_object Cpu fresh act w p (set_state Cpu fresh act (obj w p) s c))
    quiet_state w p s c = quiet_set w p (obj w p) _ refl (paper_state (obj w p) s c)

    pub quiet_slot : (w : World Cpu) (p d : ℕ) (y : Slot) → Quiet z w (with_slot Cpu fresh act w p d y)
    unfolding with_slot
    quiet_slot w p d y = quiet_set w _ _ _ refl (paper_slots _ d y)

    quiet_handed : (w : World Cpu) (h : Bool) (p s q d : ℕ) → Quiet z w (handed Cpu fresh act w h p s q d)
    unfolding handed
    quiet_handed w h p s q d = pick_both (Quiet z w) _ (quiet_on (quiet_slot w q d _) (quiet_slot _ p s empty)) (quiet_same w)

    -- who meets: the row is shorter, a slot may go over, the one who waited goes on
    quiet_met : (w : World Cpu) (o f : ℕ) (ws q : List Wait) (h : Bool) (a s b d t : ℕ) (us : List ℕ) → obj w o ≡ port f ws →
        Quiet z w (resumed Cpu fresh act (handed Cpu fresh act (with_object Cpu fresh act w o (port f q)) h a s b d) t us)
    unfolding resumed paper from_of cost_of used_in shape
    quiet_met w o f ws q h a s b d t us e = quiet_on (quiet_on (quiet_set w o (port f ws) (port f q) e refl) (quiet_handed _ h a s b d)) (quiet_state _ t ready _)

    module _ (w : World Cpu) (p : ℕ) where
      data Calm : Went Cpu fresh act → Type 0 where
        calm_on : {v : World Cpu} {ws : List ℕ} → Quiet z w v → Calm (on v ws)
        calm_wait : {v : World Cpu} {o : ℕ} → Quiet z w v → Calm (wait v o)

      from_calm : (r : Went Cpu fresh act) → Calm r → Quiet z w (left r)
      unfolding left
      from_calm (on v ws) (calm_on q) = q
      from_calm (wait v o) (calm_wait q) = q

      refused : Calm (refuse Cpu fresh act w)
      unfolding refuse
      refused = calm_on (quiet_same w)

      -- an object in place of another, by which the call goes on
      sets : (o : ℕ) (x y : Object Cpu) {ws : List ℕ} → obj w o ≡ x → paper y ≡ paper x → Calm (on (with_object Cpu fresh act w o y) ws)
      sets o x y e h = calm_on (quiet_set w o x y e h)

      q_sending : (o b : ℕ) (ws : List ℕ) (h g : Bool) (s : ℕ) → Calm (sending Cpu fresh act w p o b ws h g s (obj w o))
      unfolding sending paper from_of cost_of used_in shape
      q_sending o b ws h g s = rw (sending_is Cpu fresh act w p o b ws h g s (obj w o)) (by_port Calm (obj w o) refused at_row)
        where
          at_row : (f : ℕ) (q : List Wait) → obj w o ≡ port f q → Calm (sending Cpu fresh act w p o b ws h g s (port f q))
          at_row f [] e = calm_wait (quiet_set w o (port f []) _ e refl)
          at_row f (sender t c vs i j r ∷ q) e = calm_wait (quiet_set w o (port f (sender t c vs i j r ∷ q)) _ e refl)
          at_row f (receiver t d ∷ q) e = calm_on (quiet_met w o f (receiver t d ∷ q) q (h && g) p s t d t (0 ∷ b ∷ ws) e)

      q_receiving : (o d : ℕ) → Calm (receiving Cpu fresh act w p o d (obj w o))
      unfolding receiving paper from_of cost_of used_in shape
      q_receiving o d = rw (receiving_is Cpu fresh act w p o d (obj w o)) (by_port Calm (obj w o) refused at_row)
        where
          at_row : (f : ℕ) (q : List Wait) → obj w o ≡ port f q → Calm (receiving Cpu fresh act w p o d (port f q))
          at_row f [] e = calm_wait (quiet_set w o (port f []) _ e refl)
          at_row f (receiver t c ∷ q) e = calm_wait (quiet_set w o (port f (receiver t c ∷ q)) _ e refl)
          at_row f (sender t b ws h g s ∷ q) e = calm_on (quiet_met w o f (sender t b ws h g s ∷ q) q (h && g) t s p d t (0 ∷ []) e)

      q_mapping : (o : ℕ) (m : Bool) (t a : ℕ) → Calm (mapping Cpu fresh act z w o m t a (obj w t))
      unfolding mapping paper from_of cost_of used_in shape
      q_mapping o m t a = rw (mapping_is Cpu fresh act z w o m t a (obj w t)) (by_thread Calm (obj w t) refused (λ f s c b ps rs e.
          pick_both Calm (ltb a z.pages && (is_page Cpu fresh act (obj w o) && eqb (get_or ps a 0) 0)) (sets t (thread f s c b ps rs) (thread f s c b (set ps a (suc o)) (set rs a m)) e refl) refused))

      q_unmapping : (t a : ℕ) → Calm (unmapping Cpu fresh act z w t a (obj w t))
      unfolding unmapping paper from_of cost_of used_in shape
      q_unmapping t a = rw (unmapping_is Cpu fresh act z w t a (obj w t)) (by_thread Calm (obj w t) refused (λ f s c b ps rs e. pick_both Calm (ltb a z.pages) (sets t (thread f s c b ps rs) (thread f s c b (set ps a 0) (set rs a false)) e refl) refused))

      q_binding : (t o : ℕ) → Calm (binding Cpu fresh act w t o (obj w t))
      unfolding binding paper from_of cost_of used_in shape
      q_binding t o = rw (binding_is Cpu fresh act w t o (obj w t)) (by_thread Calm (obj w t) refused at_state)
        where
          at_state : (f : ℕ) (s : State Cpu) (c : Cpu) (b : ℕ) (ps : List ℕ) (rs : List Bool) → obj w t ≡ thread f s c b ps rs → Calm (binding Cpu fresh act w t o (thread f s c b ps rs))
          at_state f stopped c b ps rs e = pick_both Calm (is_table Cpu fresh act (obj w o)) (sets t (thread f stopped c b ps rs) (thread f stopped c (suc o) ps rs) e refl) refused
          at_state f ready c b ps rs e = refused
          at_state f (waits u then) c b ps rs e = refused

      q_going : (t a : ℕ) → Calm (going Cpu fresh act w t a (obj w t))
      unfolding going paper from_of cost_of used_in shape
      q_going t a = rw (going_is Cpu fresh act w t a (obj w t)) (by_thread Calm (obj w t) refused at_state)
        where
          at_state : (f : ℕ) (s : State Cpu) (c : Cpu) (b : ℕ) (ps : List ℕ) (rs : List Bool) → obj w t ≡ thread f s c b ps rs → Calm (going Cpu fresh act w t a (thread f s c b ps rs))
          at_state f stopped c b ps rs e = sets t (thread f stopped c b ps rs) (thread f ready (fresh a) b ps rs) e refl
          at_state f ready c b ps rs e = refused
          at_state f (waits u then) c b ps rs e = refused

      q_saying : (o b : ℕ) → Calm (saying Cpu fresh act w o b (obj w o))
      unfolding saying paper from_of cost_of used_in shape
      q_saying o b = rw (saying_is Cpu fresh act w o b (obj w o)) (by_line Calm (obj w o) refused (λ xs ys e. sets o (line xs ys) (line (xs ++ b ∷ []) ys) e refl))

      q_hearing : (o : ℕ) → Calm (hearing Cpu fresh act w o (obj w o))
      unfolding hearing paper from_of cost_of used_in shape
      q_hearing o = rw (hearing_is Cpu fresh act w o (obj w o)) (by_line Calm (obj w o) refused at_bytes)
        where
          at_bytes : (xs ys : List ℕ) → obj w o ≡ line xs ys → Calm (hearing Cpu fresh act w o (line xs ys))
          at_bytes xs [] e = refused
          at_bytes xs (y ∷ ys) e = sets o (line xs (y ∷ ys)) (line xs ys) e refl

      calm_call : (c : Call) → plain c ≡ true → Calm (does Cpu fresh act z w p c)
      unfolding plain does
      calm_call (cut s k d) n = no_yes n
      calm_call (copy s d r b) n = no_yes n
      calm_call (move s d) n = pick_both Calm _ refused (calm_on (quiet_on (quiet_slot w p d _) (quiet_slot _ p s empty)))
      calm_call (drop_it s) n = pick_both Calm _ refused (calm_on (quiet_slot w p s empty))
      calm_call (revoke s) n = no_yes n
      calm_call (send s ws g h) n = pick_both Calm _ refused (q_sending _ _ _ _ g h)
      calm_call (receive s d) n = pick_both Calm _ refused (q_receiving _ d)
      calm_call (map s t a) n = pick_both Calm _ refused (q_mapping _ _ _ a)
      calm_call (unmap t a) n = pick_both Calm _ refused (q_unmapping _ a)
      calm_call (bind t s) n = pick_both Calm _ refused (q_binding _ _)
      calm_call (go t a) n = pick_both Calm _ refused (q_going _ a)
      calm_call (say s b) n = pick_both Calm _ refused (q_saying _ _)
      calm_call (hear s) n = pick_both Calm _ refused (q_hearing _)

      pub quiet_call : (c : Call) → plain c ≡ true → Quiet z w (left (does Cpu fresh act z w p c))
      quiet_call c n = from_calm (does Cpu fresh act z w p c) (calm_call c n)
