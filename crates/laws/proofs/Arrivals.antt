-- What a capability in a slot came from, event by event, and that no birth is ever in two slots.
use mathlib.Core.Path.{◌≡◌, refl, sym, ap, subst, ◌∙◌}
use mathlib.Core.Bool.{Bool, true, false, ◌&&◌, ◌||◌, not}
use mathlib.Core.List.{List, [], ◌∷◌, ◌++◌}
use Prim.Native.Nat.{ℕ, zero, suc, ◌+◌, ◌-◌}
use native.Mathlib.Omega.{arith}
use lib.Dec.{ltb, eqb}
use lib.ListN.{length, get_or, get_or-eq_default}
use Rattle.rights.specs.World.{Rights, Slot, empty, cap, Kind, a_pool, a_table, a_port, a_page, Call, cut, copy, move, drop_it, revoke, send, receive, map, unmap, bind, go, say, hear}
use Rattle.rights.specs.World.{Act, quiet, store, call, wrong, Wait, sender, receiver, State, stopped, ready, waits, Object, gone, pool, table, port, page, thread, line, Sizes, World, Event, tick, byte}
use Rattle.rights.specs.World.{cost, step_of, up_to, slot_rights, slot_birth, is_empty, copied, too_many, object, with_object, slots_of, table_of, slot, has_slot, with_slot, made, all_rights}
use Rattle.rights.specs.World.{Went, on, wait, refuse, cutting, is_pool, revoking, set_state, resumed, handed, sending, receiving, mapping, unmapping, binding, going, saying, hearing, seen, stores, may_store, does, went_on, acts, ticked, comes_in, event, run}
use Rattle.rights.specs.Promise.{Parted}
use Rattle.rights.specs.Effects.{led_to, Calls, it_calls, HandsOn, to_who_waits, from_who_waits, WasFree, Whence, stayed, by_move, by_hand_on, by_copying, by_cutting, WhenceIn, ComesFrom, OnceStaysIn, OnceStays}
use Rattle.laws.proofs.Tests.{yes_no, no_yes, not_is, is_so, pick_both, pick_know, both_hold, or_left, or_right, and_left, and_right, same_or_not}
use Rattle.laws.proofs.Forms.{by_pool, by_port, by_thread, by_line, no_cut, no_copy, no_move, cutting_is, sending_is, receiving_is, mapping_is, unmapping_is, binding_is, going_is, saying_is, hearing_is, comes_in_is}
use Rattle.laws.proofs.Steps.{In}
use Rattle.laws.proofs.Moves.{copied_is}
use Rattle.laws.proofs.Cuts.{table_kept, after_cut, cut_places, slot_after}
use Rattle.laws.proofs.Caps.{made_empty, Good, good_first, good_event}
use Rattle.laws.proofs.Quiet.{left}
use Rattle.laws.proofs.Makings.{slot_put, slots_state, table_state}
use Rattle.laws.proofs.Taking.{slots_refilled}
use Rattle.laws.proofs.Slots.{slot_is, has_one, other_slot, Less, SameSlots, SameTables, less_same, less_on, tables_on, same_set, tables_set, less_bare, put_apart, tables_put, less_empty, empty_at, less_cleared}

module _ (Cpu : Type 0) (fresh : ℕ → Cpu) (act : Cpu → (ℕ → ℕ) → Act Cpu) where
  abbrev obj : World Cpu → ℕ → Object Cpu
  obj = object Cpu fresh act

  abbrev at : World Cpu → ℕ → ℕ → Slot
  at w o i = get_or (slots_of Cpu fresh act (obj w o)) i empty

  -- slot i of thread p, of object o, was empty, and holds y; every other slot that is full was so before
  record Fills (w v : World Cpu) (p i : ℕ) (y : Slot) : Type 0 where
    home : ℕ
    free : WasFree Cpu fresh act w p home i
    filled : at v home i ≡ y
    others : (o k : ℕ) (x : Slot) → (home ≡ o → i ≡ k → ⊥) → at v o k ≡ x → is_empty x ≡ false → at w o k ≡ x

  -- what an event does to slots
  data Arrival (z : Sizes) (w : World Cpu) (e : Event) (v : World Cpu) : Type 0 where
    none_new : Less Cpu fresh act w v → Arrival z w e v
    moves : (p s d : ℕ) → Calls Cpu fresh act z w e p (move s d) → Fills w v p d (slot Cpu fresh act w p s) → is_empty (slot Cpu fresh act w p s) ≡ false → slot Cpu fresh act v p s ≡ empty → SameTables Cpu fresh act w v → Arrival z w e v
    hands : (p s q d : ℕ) → HandsOn Cpu fresh act z w e p s q d → Fills w v q d (slot Cpu fresh act w p s) → is_empty (slot Cpu fresh act w p s) ≡ false → slot Cpu fresh act v p s ≡ empty → SameTables Cpu fresh act w v → Arrival z w e v
    copies : (p s d b : ℕ) (r : Rights) → Calls Cpu fresh act z w e p (copy s d r b) → is_empty (slot Cpu fresh act w p s) ≡ false → Fills w v p d (copied (slot Cpu fresh act w p s) r b (suc w.births)) → Arrival z w e v
    cuts : (p s d : ℕ) (k : Kind) → Calls Cpu fresh act z w e p (cut s k d) → is_empty (slot Cpu fresh act w p s) ≡ false →
        Fills w v p d (cap (length w.objects) (all_rights Cpu fresh act) 0 (suc w.births) (slot_birth (slot Cpu fresh act w p s))) → Arrival z w e v

  -- a thread in another state changes no slot
  same_state : (w : World Cpu) (p : ℕ) (s : State Cpu) (c : Cpu) → SameSlots Cpu fresh act w (with_object Cpu fresh act w p (set_state Cpu fresh act (obj w p) s c))
  same_state w p s c = same_set Cpu fresh act w p (obj w p) _ refl (slots_state Cpu fresh act (obj w p) s c)

  tables_state : (w : World Cpu) (p : ℕ) (s : State Cpu) (c : Cpu) → SameTables Cpu fresh act w (with_object Cpu fresh act w p (set_state Cpu fresh act (obj w p) s c))
  tables_state w p s c = tables_set Cpu fresh act w p (obj w p) _ refl (table_state Cpu fresh act (obj w p) s c)

  -- the same slots and tables: slots of threads are as they were
  slot_same : (w v : World Cpu) (p s : ℕ) → SameTables Cpu fresh act w v → SameSlots Cpu fresh act w v → slot Cpu fresh act v p s ≡ slot Cpu fresh act w p s
  unfolding slot
  slot_same w v p s t h = rw (t.bound_to p, h.same (table_of Cpu fresh act (obj w p) - 1) s) refl

  fills_then : {w v u : World Cpu} {p i : ℕ} {y : Slot} → SameSlots Cpu fresh act v u → Fills w v p i y → Fills w u p i y
  fills_then {i = i} h f = record { home = f.home; free = f.free; filled = h.same f.home i ∙ f.filled; others = λ o k x n e m. f.others o k x n (sym (h.same o k) ∙ e) m }

  fills_after : {w v u : World Cpu} {p i : ℕ} {y : Slot} → SameSlots Cpu fresh act w v → SameTables Cpu fresh act w v → Fills v u p i y → Fills w u p i y
  unfolding WasFree
  fills_after {p = p} {i = i} h t f = record { home = f.home; free = (sym (t.bound_to p) ∙ f.free.0, sym (h.same f.home i) ∙ f.free.1); filled = f.filled; others = λ o k x n e m. sym (h.same o k) ∙ f.others o k x n e m }

  -- a slot of a thread that is there and empty
  free_slot : (w : World Cpu) (p d : ℕ) → has_slot Cpu fresh act w p d ≡ true → is_empty (slot Cpu fresh act w p d) ≡ true → (t : ℕ) × WasFree Cpu fresh act w p t d
  unfolding WasFree has_slot is_empty
  free_slot w p d h n = go (table_of Cpu fresh act (obj w p)) refl
    where
      is_it : (x : Slot) → is_empty x ≡ true → x ≡ empty
      is_it empty m = refl
      is_it (cap o r b i j) m = no_yes m

      go : (t : ℕ) → table_of Cpu fresh act (obj w p) ≡ t → (t : ℕ) × WasFree Cpu fresh act w p t d
      go zero e = no_yes (sym (ap (λ (k : ℕ). not (eqb k 0) && ltb d (length (slots_of Cpu fresh act (obj w (table_of Cpu fresh act (obj w p) - 1))))) e) ∙ h)
      go (suc t) e = (t, (e, sym (slot_is Cpu fresh act w p t d e) ∙ is_it _ n))

  put_fills : (w : World Cpu) (p d : ℕ) (y : Slot) → has_slot Cpu fresh act w p d ≡ true → is_empty (slot Cpu fresh act w p d) ≡ true → Fills w (with_slot Cpu fresh act w p d y) p d y
  unfolding WasFree
  put_fills w p d y h n =
      let f = free_slot w p d h n in
      record {
        home = f.0;
        free = f.1;
        filled = sym (slot_is Cpu fresh act (with_slot Cpu fresh act w p d y) p f.0 d ((tables_put Cpu fresh act w p d y).bound_to p ∙ f.1.0)) ∙ slot_put Cpu fresh act w p d y h;
        others = λ o k x m q l. sym (put_apart Cpu fresh act w p f.0 d o k y f.1.0 m) ∙ q;
      }

  -- a slot moved, where the other is there and empty
  move_fills : (w : World Cpu) (p s q d : ℕ) → has_slot Cpu fresh act w q d ≡ true → is_empty (slot Cpu fresh act w q d) ≡ true → is_empty (slot Cpu fresh act w p s) ≡ false →
      Fills w (with_slot Cpu fresh act (with_slot Cpu fresh act w q d (slot Cpu fresh act w p s)) p s empty) q d (slot Cpu fresh act w p s)
  unfolding WasFree
  move_fills w p s q d h n m = record { home = f.home; free = f.free; filled = kept (has_one Cpu fresh act w p s m); others = λ o k x a e l. f.others o k x a ((less_empty Cpu fresh act V p s).held o k x e l) l }
    where
      V : World Cpu
      V = with_slot Cpu fresh act w q d (slot Cpu fresh act w p s)

      f : Fills w V q d (slot Cpu fresh act w p s)
      f = put_fills w q d (slot Cpu fresh act w p s) h n

      -- the two slots are not the same, since one was full and one empty
      kept : (t : ℕ) × (table_of Cpu fresh act (obj w p) ≡ suc t) → at (with_slot Cpu fresh act V p s empty) f.home d ≡ slot Cpu fresh act w p s
      kept (t, e) = put_apart Cpu fresh act V p t s f.home d empty ((tables_put Cpu fresh act w q d _).bound_to p ∙ e) (λ a b. differ a b) ∙ f.filled
        where
          differ : t ≡ f.home → s ≡ d → ⊥
          differ a b = yes_no (sym n ∙ ap is_empty (slot_is Cpu fresh act w q f.home d f.free.0 ∙ ap (λ (i : ℕ). at w i d) (sym a) ∙ ap (λ (i : ℕ). at w t i) (sym b) ∙ sym (slot_is Cpu fresh act w p t s e)) ∙ m)

  -- what is cut has no table and no slot that is full
  made_table : (z : Sizes) (f : ℕ) (k : Kind) → table_of Cpu fresh act (made Cpu fresh act z f k) ≡ 0
  unfolding made table_of
  made_table z f (a_pool n) = refl
  made_table z f (a_table n) = refl
  made_table z f a_port = refl
  made_table z f a_page = refl

  -- a cut fills its slot with the new capability
  cut_fills : (z : Sizes) (w : World Cpu) (p o d : ℕ) (x : Slot) (k : Kind) (f n u c : ℕ) → has_slot Cpu fresh act w p d ≡ true → is_empty (slot Cpu fresh act w p d) ≡ true → obj w o ≡ pool f n u →
      Fills w (after_cut Cpu fresh act z w p o d x k f n u c) p d (cap (length w.objects) (all_rights Cpu fresh act) 0 (suc w.births) (slot_birth x))
  unfolding slots_of table_of is_empty WasFree object
  cut_fills z w p o d x k f n u c h m is =
      let g = free_slot w p d h m in
      record {
        home = g.0;
        free = g.1;
        filled = sym (slot_is Cpu fresh act V p g.0 d (tables p ∙ g.1.0)) ∙ slot_after Cpu fresh act z w p o d x k f n u c h is;
        others = λ t i y a. cut_places Cpu fresh act z w p o d x k f n u c h is (λ s X. get_or (slots_of Cpu fresh act X) i empty ≡ y → is_empty y ≡ false → at w s i ≡ y) t (λ e _. e)
            (λ _ e l. yes_no (ap is_empty e ∙ l)) (λ _ e l. yes_no (ap is_empty (sym (made_empty Cpu fresh act z (suc o) k i) ∙ e) ∙ l))
            (λ q b e l. sym (other_slot Cpu fresh act (obj w t) d i q (let v = g.1.0 in a (omega arith))) ∙ e);
      }
    where
      V : World Cpu
      V = after_cut Cpu fresh act z w p o d x k f n u c

      tables : (t : ℕ) → table_of Cpu fresh act (obj V t) ≡ table_of Cpu fresh act (obj w t)
      tables t = cut_places Cpu fresh act z w p o d x k f n u c h is (λ t X. table_of Cpu fresh act X ≡ table_of Cpu fresh act (obj w t)) t refl
          (λ e. sym (ap (λ (i : ℕ). table_of Cpu fresh act (obj w i)) e ∙ ap (table_of Cpu fresh act) is))
          (λ e. made_table z (suc o) k ∙ sym (ap (table_of Cpu fresh act) (get_or-eq_default w.objects gone (omega arith)))) (λ y _. table_kept Cpu fresh act _ _)

  -- the same slots and tables, or more
  arrival_then : (z : Sizes) (w : World Cpu) (e : Event) (v u : World Cpu) → SameSlots Cpu fresh act v u → SameTables Cpu fresh act v u → Arrival z w e v → Arrival z w e u
  arrival_then z w e v u h t (none_new l) = none_new (less_on Cpu fresh act l (less_same Cpu fresh act h))
  arrival_then z w e v u h t (moves p s d k f n m b) = moves p s d k (fills_then h f) n (slot_same v u p s t h ∙ m) (tables_on Cpu fresh act b t)
  arrival_then z w e v u h t (hands p s q d k f n m b) = hands p s q d k (fills_then h f) n (slot_same v u p s t h ∙ m) (tables_on Cpu fresh act b t)
  arrival_then z w e v u h t (copies p s d b r k n f) = copies p s d b r k n (fills_then h f)
  arrival_then z w e v u h t (cuts p s d k c n f) = cuts p s d k c n (fills_then h f)

  arrival_state : (z : Sizes) (w : World Cpu) (e : Event) (v : World Cpu) (p : ℕ) (s : State Cpu) (c : Cpu) → Arrival z w e v → Arrival z w e (with_object Cpu fresh act v p (set_state Cpu fresh act (obj v p) s c))
  arrival_state z w e v p s c = arrival_then z w e v _ (same_state v p s c) (tables_state v p s c)

  -- after a call, by the world that it leaves
  module _ (z : Sizes) (w : World Cpu) (p : ℕ) where
    After : Went Cpu fresh act → Type 0
    After g = Arrival z w (tick p) (left Cpu fresh act g)

    idle : Arrival z w (tick p) w
    idle = none_new (record { held = λ o i y e n. e })

    refused : After (refuse Cpu fresh act w)
    unfolding After left refuse
    refused = idle

    -- an object without slots in place of another
    sets : (o : ℕ) (y : Object Cpu) (ws : List ℕ) → slots_of Cpu fresh act y ≡ [] → After (on (with_object Cpu fresh act w o y) ws)
    unfolding After left
    sets o y ws e = none_new (less_bare Cpu fresh act w o y e)

    rests : (o : ℕ) (y : Object Cpu) → slots_of Cpu fresh act y ≡ [] → After (wait (with_object Cpu fresh act w o y) o)
    unfolding After left
    rests o y e = none_new (less_bare Cpu fresh act w o y e)

    -- a meeting
    met : (o f : ℕ) (ws q : List Wait) (h : Bool) (a s b d t : ℕ) (us vs : List ℕ) → obj w o ≡ port f ws → (h ≡ true → HandsOn Cpu fresh act z w (tick p) a s b d) →
        After (on (resumed Cpu fresh act (handed Cpu fresh act (with_object Cpu fresh act w o (port f q)) h a s b d) t us) vs)
    unfolding After left resumed handed slots_of table_of
    met o f ws q h a s b d t us vs e k =
        arrival_state z w (tick p) _ t ready _
        (pick_know (Arrival z w (tick p)) (h && (not (is_empty (slot Cpu fresh act A a s)) && (has_slot Cpu fresh act A b d && is_empty (slot Cpu fresh act A b d))))
        (λ g. let m = and_right h _ g in let n = and_right (not (is_empty (slot Cpu fresh act A a s))) _ m in goes (k (and_left h _ g)) (not_is _ (and_left _ _ m)) (and_left _ _ n) (and_right (has_slot Cpu fresh act A b d) _ n))
        (λ _. none_new (less_same Cpu fresh act same)))
      where
        A : World Cpu
        A = with_object Cpu fresh act w o (port f q)

        same : SameSlots Cpu fresh act w A
        same = same_set Cpu fresh act w o (port f ws) (port f q) e refl

        tables : SameTables Cpu fresh act w A
        tables = tables_set Cpu fresh act w o (port f ws) (port f q) e refl

        goes : HandsOn Cpu fresh act z w (tick p) a s b d → is_empty (slot Cpu fresh act A a s) ≡ false → has_slot Cpu fresh act A b d ≡ true → is_empty (slot Cpu fresh act A b d) ≡ true →
            Arrival z w (tick p) (with_slot Cpu fresh act (with_slot Cpu fresh act A b d (slot Cpu fresh act A a s)) a s empty)
        goes hand n has free =
            let is = slot_same w A a s tables same in
            hands a s b d hand (subst (λ (y : Slot). Fills w (with_slot Cpu fresh act (with_slot Cpu fresh act A b d (slot Cpu fresh act A a s)) a s empty) b d y) is (fills_after same tables (move_fills A a s b d has free n)))
            (ap is_empty (sym is) ∙ n) (empty_at Cpu fresh act (with_slot Cpu fresh act A b d (slot Cpu fresh act A a s)) a s)
            (tables_on Cpu fresh act tables (tables_on Cpu fresh act (tables_put Cpu fresh act A b d _) (tables_put Cpu fresh act _ a s empty)))

    -- the flag of a send by which it hands on
    flagged : (n s : ℕ) (ws : List ℕ) (g : Bool) → g ≡ true → Calls Cpu fresh act z w (tick p) p (send n ws g s) → Calls Cpu fresh act z w (tick p) p (send n ws true s)
    flagged n s ws g e k = subst (λ (b : Bool). Calls Cpu fresh act z w (tick p) p (send n ws b s)) e k

    a_sending : (n s : ℕ) (ws : List ℕ) (g : Bool) → Calls Cpu fresh act z w (tick p) p (send n ws g s) → (b : ℕ) (vs : List ℕ) →
        After (sending Cpu fresh act w p (led_to Cpu fresh act w p n) b vs (slot_rights (slot Cpu fresh act w p n)).hands g s (obj w (led_to Cpu fresh act w p n)))
    unfolding sending After left slots_of
    a_sending n s ws g k b vs =
        let o = led_to Cpu fresh act w p n in
        let h = (slot_rights (slot Cpu fresh act w p n)).hands in
        rw (sending_is Cpu fresh act w p o b vs h g s (obj w o)) (by_port After (obj w o) refused at_row)
      where
        at_row : (f : ℕ) (q : List Wait) → obj w (led_to Cpu fresh act w p n) ≡ port f q → After (sending Cpu fresh act w p (led_to Cpu fresh act w p n) b vs (slot_rights (slot Cpu fresh act w p n)).hands g s (port f q))
        at_row f [] e = rests (led_to Cpu fresh act w p n) (port f (sender p b vs (slot_rights (slot Cpu fresh act w p n)).hands g s ∷ [])) refl
        at_row f (sender t c us i j r ∷ q) e = rests (led_to Cpu fresh act w p n) (port f (sender t c us i j r ∷ q ++ sender p b vs (slot_rights (slot Cpu fresh act w p n)).hands g s ∷ [])) refl
        at_row f (receiver t d ∷ q) e =
            met (led_to Cpu fresh act w p n) f (receiver t d ∷ q) q ((slot_rights (slot Cpu fresh act w p n)).hands && g) p s t d t (0 ∷ b ∷ vs) (0 ∷ []) e
            (λ m. to_who_waits n f ws q (flagged n s ws g (and_right (slot_rights (slot Cpu fresh act w p n)).hands g m) k) (and_left _ g m) e)

    a_receiving : (n d : ℕ) → Calls Cpu fresh act z w (tick p) p (receive n d) → After (receiving Cpu fresh act w p (led_to Cpu fresh act w p n) d (obj w (led_to Cpu fresh act w p n)))
    unfolding receiving After left slots_of
    a_receiving n d k =
        let o = led_to Cpu fresh act w p n in rw (receiving_is Cpu fresh act w p o d (obj w o)) (by_port After (obj w o) refused at_row)
      where
        at_row : (f : ℕ) (q : List Wait) → obj w (led_to Cpu fresh act w p n) ≡ port f q → After (receiving Cpu fresh act w p (led_to Cpu fresh act w p n) d (port f q))
        at_row f [] e = rests (led_to Cpu fresh act w p n) (port f (receiver p d ∷ [])) refl
        at_row f (receiver t c ∷ q) e = rests (led_to Cpu fresh act w p n) (port f (receiver t c ∷ q ++ receiver p d ∷ [])) refl
        at_row f (sender t b ws h g s ∷ q) e =
            met (led_to Cpu fresh act w p n) f (sender t b ws h g s ∷ q) q (h && g) t s p d t (0 ∷ []) (0 ∷ b ∷ ws) e
            (λ m. from_who_waits n b f ws q k (e ∙ agreed (and_left h g m) (and_right h g m)))
          where
            agreed : h ≡ true → g ≡ true → ◌≡◌ {A = Object Cpu} (port f (sender t b ws h g s ∷ q)) (port f (sender t b ws true true s ∷ q))
            agreed i j = cc

    a_mapping : (o : ℕ) (m : Bool) (t a : ℕ) → After (mapping Cpu fresh act z w o m t a (obj w t))
    unfolding mapping slots_of
    a_mapping o m t a = rw (mapping_is Cpu fresh act z w o m t a (obj w t)) (by_thread After (obj w t) refused (λ f s c b ps rs e. pick_both After _ (sets t _ _ refl) refused))

    a_unmapping : (t a : ℕ) → After (unmapping Cpu fresh act z w t a (obj w t))
    unfolding unmapping slots_of
    a_unmapping t a = rw (unmapping_is Cpu fresh act z w t a (obj w t)) (by_thread After (obj w t) refused (λ f s c b ps rs e. pick_both After _ (sets t _ _ refl) refused))

    a_binding : (t o : ℕ) → After (binding Cpu fresh act w t o (obj w t))
    unfolding binding slots_of
    a_binding t o = rw (binding_is Cpu fresh act w t o (obj w t)) (by_thread After (obj w t) refused at_state)
      where
        at_state : (f : ℕ) (s : State Cpu) (c : Cpu) (b : ℕ) (ps : List ℕ) (rs : List Bool) → obj w t ≡ thread f s c b ps rs → After (binding Cpu fresh act w t o (thread f s c b ps rs))
        at_state f stopped c b ps rs e = pick_both After _ (sets t _ _ refl) refused
        at_state f ready c b ps rs e = refused
        at_state f (waits u then) c b ps rs e = refused

    a_going : (t a : ℕ) → After (going Cpu fresh act w t a (obj w t))
    unfolding going slots_of
    a_going t a = rw (going_is Cpu fresh act w t a (obj w t)) (by_thread After (obj w t) refused at_state)
      where
        at_state : (f : ℕ) (s : State Cpu) (c : Cpu) (b : ℕ) (ps : List ℕ) (rs : List Bool) → obj w t ≡ thread f s c b ps rs → After (going Cpu fresh act w t a (thread f s c b ps rs))
        at_state f stopped c b ps rs e = sets t _ _ refl
        at_state f ready c b ps rs e = refused
        at_state f (waits u then) c b ps rs e = refused

    a_saying : (o b : ℕ) → After (saying Cpu fresh act w o b (obj w o))
    unfolding saying slots_of
    a_saying o b = rw (saying_is Cpu fresh act w o b (obj w o)) (by_line After (obj w o) refused (λ xs ys e. sets o _ _ refl))

    a_hearing : (o : ℕ) → After (hearing Cpu fresh act w o (obj w o))
    unfolding hearing slots_of
    a_hearing o = rw (hearing_is Cpu fresh act w o (obj w o)) (by_line After (obj w o) refused at_bytes)
      where
        at_bytes : (xs ys : List ℕ) → obj w o ≡ line xs ys → After (hearing Cpu fresh act w o (line xs ys))
        at_bytes xs [] e = refused
        at_bytes xs (y ∷ ys) e = sets o _ _ refl

    a_revoking : (o : ℕ) (x : Slot) → After (revoking Cpu fresh act w o x)
    unfolding revoking After left
    a_revoking o x =
        pick_both After (is_pool Cpu fresh act (obj w o)) (none_new (less_on Cpu fresh act (less_cleared Cpu fresh act w _ _) (less_same Cpu fresh act (same_set Cpu fresh act _ o _ _ refl (slots_refilled Cpu fresh act _)))))
        (none_new (less_cleared Cpu fresh act w _ _))

    a_cutting : (s d : ℕ) (k : Kind) → Calls Cpu fresh act z w (tick p) p (cut s k d) → is_empty (slot Cpu fresh act w p s) ≡ false → has_slot Cpu fresh act w p d ≡ true → is_empty (slot Cpu fresh act w p d) ≡ true →
        After (cutting Cpu fresh act z w p (led_to Cpu fresh act w p s) (slot Cpu fresh act w p s) k d (obj w (led_to Cpu fresh act w p s)))
    unfolding cutting after_cut After left
    a_cutting s d k c n h m =
        let x = slot Cpu fresh act w p s in
        let o = led_to Cpu fresh act w p s in
        rw (cutting_is Cpu fresh act z w p o x k d (obj w o)) (by_pool After (obj w o) refused (λ f j u e.
        pick_both After (ltb j (up_to (step_of z k) u + cost z k) || (eqb (cost z k) 0 || too_many k)) refused
        (cuts p s d k c n (cut_fills z w p o d x k f j u (up_to (step_of z k) u + cost z k) h m e))))

    a_copy : (s d b : ℕ) (r : Rights) → Calls Cpu fresh act z w (tick p) p (copy s d r b) → is_empty (slot Cpu fresh act w p s) ≡ false → has_slot Cpu fresh act w p d ≡ true → is_empty (slot Cpu fresh act w p d) ≡ true →
        After (on (with_slot Cpu fresh act (record { objects = w.objects; births = suc w.births; lineage = copied (slot Cpu fresh act w p s) r b (suc w.births) ∷ w.lineage }) p d (copied (slot Cpu fresh act w p s) r b (suc w.births))) (0 ∷ []))
    unfolding After left slot has_slot WasFree object
    a_copy s d b r c n h m =
        let x = slot Cpu fresh act w p s in
        let f = put_fills (record { objects = w.objects; births = suc w.births; lineage = copied x r b (suc w.births) ∷ w.lineage }) p d (copied x r b (suc w.births)) h m in
        copies p s d b r c n (record { home = f.home; free = f.free; filled = f.filled; others = f.others })

    a_move : (s d : ℕ) → Calls Cpu fresh act z w (tick p) p (move s d) → is_empty (slot Cpu fresh act w p s) ≡ false → has_slot Cpu fresh act w p d ≡ true → is_empty (slot Cpu fresh act w p d) ≡ true →
        After (on (with_slot Cpu fresh act (with_slot Cpu fresh act w p d (slot Cpu fresh act w p s)) p s empty) (0 ∷ []))
    unfolding After left
    a_move s d c n h m =
        moves p s d c (move_fills w p s p d h m n) n (empty_at Cpu fresh act _ p s) (tables_on Cpu fresh act (tables_put Cpu fresh act w p d _) (tables_put Cpu fresh act _ p s empty))

    a_drop : (s : ℕ) → After (on (with_slot Cpu fresh act w p s empty) (0 ∷ []))
    unfolding After left
    a_drop s = none_new (less_empty Cpu fresh act w p s)

    -- the slot that a call would fill is there and empty
    room : (d : ℕ) → not (has_slot Cpu fresh act w p d && is_empty (slot Cpu fresh act w p d)) ≡ false → (has_slot Cpu fresh act w p d ≡ true) × (is_empty (slot Cpu fresh act w p d) ≡ true)
    room d g = (both_hold _ _ g, and_right (has_slot Cpu fresh act w p d) _ (is_so _ g))

    a_call : (x : Call) → Calls Cpu fresh act z w (tick p) p x → After (does Cpu fresh act z w p x)
    unfolding does
    a_call (cut s k d) c =
        pick_know After (no_cut Cpu fresh act w p s d) (λ _. refused) (λ g. let h = room d (or_right _ _ (or_right (is_empty (slot Cpu fresh act w p s)) _ g)) in a_cutting s d k c (or_left _ _ g) h.0 h.1)
    a_call (copy s d r b) c =
        pick_know After (no_copy Cpu fresh act w p s d) (λ _. refused) (λ g. let h = room d (or_right _ _ (or_right (is_empty (slot Cpu fresh act w p s)) _ g)) in a_copy s d b r c (or_left _ _ g) h.0 h.1)
    a_call (move s d) c = pick_know After (no_move Cpu fresh act w p s d) (λ _. refused) (λ g. let h = room d (or_right (is_empty (slot Cpu fresh act w p s)) _ g) in a_move s d c (or_left _ _ g) h.0 h.1)
    a_call (drop_it s) c = pick_both After _ refused (a_drop s)
    a_call (revoke s) c = pick_both After _ refused (a_revoking _ _)
    a_call (send s ws g h) c = pick_both After _ refused (a_sending s h ws g c _ _)
    a_call (receive s d) c = pick_both After _ refused (a_receiving s d c)
    a_call (map s t a) c = pick_both After _ refused (a_mapping _ _ _ a)
    a_call (unmap t a) c = pick_both After _ refused (a_unmapping _ a)
    a_call (bind t s) c = pick_both After _ refused (a_binding _ _)
    a_call (go t a) c = pick_both After _ refused (a_going _ a)
    a_call (say s b) c = pick_both After _ refused (a_saying _ _)
    a_call (hear s) c = pick_both After _ refused (a_hearing _)

  -- every event
  a_acts : (z : Sizes) (w : World Cpu) (p f a : ℕ) (c : Cpu) (ps : List ℕ) (rs : List Bool) → obj w p ≡ thread f ready c a ps rs → (x : Act Cpu) → act c (seen Cpu fresh act z w ps) ≡ x → Arrival z w (tick p) (acts Cpu fresh act z w p ps rs x)
  unfolding acts stores slots_of left went_on with_object After
  a_acts z w p f a c ps rs r (quiet d) m = arrival_state z w (tick p) w p ready d (idle z w p)
  a_acts z w p f a c ps rs r (store i bs d) m =
      pick_both (Arrival z w (tick p)) (may_store Cpu fresh act z ps rs i bs) (arrival_state z w (tick p) _ p ready d (none_new (less_bare Cpu fresh act w _ _ refl))) (arrival_state z w (tick p) w p stopped (fresh 0) (idle z w p))
  a_acts z w p f a c ps rs r (call x then) m = goes (does Cpu fresh act z w p x) (a_call z w p x (it_calls f a c ps rs then refl r m))
    where
      goes : (g : Went Cpu fresh act) → Arrival z w (tick p) (left Cpu fresh act g) → Arrival z w (tick p) (went_on Cpu fresh act w p then g)
      goes (on v ws) h = arrival_state z w (tick p) v p ready (then ws) h
      goes (wait v o) h = arrival_state z w (tick p) v p (waits o then) (fresh 0) h
  a_acts z w p f a c ps rs r wrong m = arrival_state z w (tick p) w p stopped (fresh 0) (idle z w p)

  a_ticked : (z : Sizes) (w : World Cpu) (p : ℕ) (x : Object Cpu) → obj w p ≡ x → Arrival z w (tick p) (ticked Cpu fresh act z w p x)
  unfolding ticked
  a_ticked z w p gone e = idle z w p
  a_ticked z w p (pool f n u) e = idle z w p
  a_ticked z w p (table f ss) e = idle z w p
  a_ticked z w p (port f ws) e = idle z w p
  a_ticked z w p (page f bs) e = idle z w p
  a_ticked z w p (thread f stopped c t ps rs) e = idle z w p
  a_ticked z w p (thread f ready c t ps rs) e = a_acts z w p f t c ps rs e (act c (seen Cpu fresh act z w ps)) refl
  a_ticked z w p (thread f (waits o then) c t ps rs) e = idle z w p
  a_ticked z w p (line xs ys) e = idle z w p

  arrives : (z : Sizes) (w : World Cpu) (e : Event) → Arrival z w e (event Cpu fresh act z w e)
  unfolding event comes_in slots_of
  arrives z w (tick p) = a_ticked z w p (obj w p) refl
  arrives z w (byte o b) =
      rw (comes_in_is Cpu fresh act z w o b (obj w o)) (by_line (Arrival z w (byte o b)) (obj w o) unchanged (λ xs ys e. pick_both (Arrival z w (byte o b)) (ltb (length ys) z.heard) (none_new (less_bare Cpu fresh act w o _ refl)) unchanged))
    where
      unchanged : Arrival z w (byte o b) w
      unchanged = none_new (record { held = λ u i y e n. e })

  -- a slot that is full was filled, or was full before
  module _ {A : Type 0} {w v : World Cpu} {p d : ℕ} {x : Slot} (f : Fills w v p d x) (o i : ℕ) (y : Slot) (e : at v o i ≡ y) (n : is_empty y ≡ false) where
    placed : (f.home ≡ o → d ≡ i → x ≡ y → A) → (at w o i ≡ y → A) → A
    placed new old =
        same_or_not f.home o
        (λ h. same_or_not d i (λ k. new h k (sym f.filled ∙ ap (λ (j : ℕ). at v f.home j) k ∙ ap (λ (j : ℕ). at v j i) h ∙ e)) (λ k. old (f.others o i y (λ a b. k b) e n)))
        (λ h. old (f.others o i y (λ a b. h a) e n))

  at_home : (w : World Cpu) (p d t o i : ℕ) → t ≡ o → d ≡ i → WasFree Cpu fresh act w p t d → WasFree Cpu fresh act w p o i
  at_home w p d t o i h k f = subst (λ (u : ℕ). WasFree Cpu fresh act w p u i) h (subst (λ (j : ℕ). WasFree Cpu fresh act w p t j) k f)

  pub comes_from : ComesFrom Cpu fresh act
  unfolding ComesFrom WhenceIn copied slot_birth is_empty
  comes_from z w e o i y at_y n = go (arrives z w e)
    where
      v : World Cpu
      v = event Cpu fresh act z w e

      From : Type 0
      From = Whence Cpu fresh act (event Cpu fresh act) z w e o i y

      copy_of : (x : Slot) (p s b : ℕ) (r : Rights) → slot Cpu fresh act w p s ≡ x → is_empty x ≡ false → WasFree Cpu fresh act w p o i → Calls Cpu fresh act z w e p (copy s i r b) → y ≡ copied x r b (suc w.births) → From
      copy_of empty p s b r l m f k q = yes_no m
      copy_of (cap u a c j h) p s b r l m f k q = by_copying p s u c b j h a r f k l q

      cut_of : (x : Slot) (p s : ℕ) (c : Kind) → slot Cpu fresh act w p s ≡ x → is_empty x ≡ false → WasFree Cpu fresh act w p o i → Calls Cpu fresh act z w e p (cut s c i) →
          y ≡ cap (length w.objects) (all_rights Cpu fresh act) 0 (suc w.births) (slot_birth x) → From
      cut_of empty p s c l m f k q = yes_no m
      cut_of (cap u a b j h) p s c l m f k q = by_cutting p s u b j h a c f k l q

      go : Arrival z w e v → From
      go (none_new l) = stayed (l.held o i y at_y n)
      go (moves p s d k f m b t) = placed f o i y at_y n (λ h q x. by_move p s (at_home w p d f.home o i h q f.free) (subst (λ (j : ℕ). Calls Cpu fresh act z w e p (move s j)) q k) x b) (λ l. stayed l)
      go (hands p s q d k f m b t) = placed f o i y at_y n (λ h j x. by_hand_on p s q (at_home w q d f.home o i h j f.free) (subst (λ (l : ℕ). HandsOn Cpu fresh act z w e p s q l) j k) x b) (λ l. stayed l)
      go (copies p s d b r k m f) =
          placed f o i y at_y n (λ h q x. copy_of (slot Cpu fresh act w p s) p s b r refl m (at_home w p d f.home o i h q f.free) (subst (λ (j : ℕ). Calls Cpu fresh act z w e p (copy s j r b)) q k) (sym x)) (λ l. stayed l)
      go (cuts p s d c k m f) =
          placed f o i y at_y n (λ h q x. cut_of (slot Cpu fresh act w p s) p s c refl m (at_home w p d f.home o i h q f.free) (subst (λ (j : ℕ). Calls Cpu fresh act z w e p (cut s c j)) q k) (sym x)) (λ l. stayed l)

  -- no birth is in two slots
  record Once (w : World Cpu) : Type 0 where
    once : (o i t k : ℕ) (x y : Slot) → at w o i ≡ x → at w t k ≡ y → is_empty x ≡ false → is_empty y ≡ false → slot_birth x ≡ slot_birth y → (o ≡ t) × (i ≡ k)

  once_less : {w v : World Cpu} → Less Cpu fresh act w v → Once w → Once v
  once_less l q = record { once = λ o i t k x y a b n m e. q.once o i t k x y (l.held o i x a n) (l.held t k y b m) n m e }

  -- one goes from a slot that is empty then to another
  once_moved : {w v : World Cpu} {q d : ℕ} (p s : ℕ) → Fills w v q d (slot Cpu fresh act w p s) → is_empty (slot Cpu fresh act w p s) ≡ false → slot Cpu fresh act v p s ≡ empty → SameTables Cpu fresh act w v → Once w → Once v
  unfolding is_empty
  once_moved {w} {v} {q} {d} p s f full left_it tables h =
      record {
        once = λ o i t k x y a b n m e. placed f o i x a n
            (λ l g c. placed f t k y b m (λ l2 g2 c2. (sym l ∙ l2, sym g ∙ g2)) (λ old. absurd (not_old t k y b m old (ap slot_birth c ∙ e))))
            (λ old. placed f t k y b m (λ l g c. absurd (not_old o i x a n old (ap slot_birth c ∙ sym e))) (λ old2. h.once o i t k x y old old2 n m e));
      }
    where
      T : (t : ℕ) × (table_of Cpu fresh act (obj w p) ≡ suc t)
      T = has_one Cpu fresh act w p s full

      -- who has this birth was where it came from, and that slot is empty
      not_old : (t k : ℕ) (y : Slot) → at v t k ≡ y → is_empty y ≡ false → at w t k ≡ y → slot_birth (slot Cpu fresh act w p s) ≡ slot_birth y → ⊥
      not_old t k y b m old e =
          let g = h.once T.0 s t k (slot Cpu fresh act w p s) y (sym (slot_is Cpu fresh act w p T.0 s T.1)) old full m e in
          yes_no (ap is_empty (sym left_it ∙ slot_is Cpu fresh act v p T.0 s (tables.bound_to p ∙ T.1) ∙ ap (λ (j : ℕ). at v j s) g.0 ∙ ap (λ (j : ℕ). at v t j) g.1 ∙ b) ∙ m)

  -- one is new
  once_new : {w v : World Cpu} {p d : ℕ} {x : Slot} → Fills w v p d x → slot_birth x ≡ suc w.births → Good Cpu fresh act w → Once w → Once v
  unfolding In
  once_new {w} {v} {x = z} f new g h =
      record {
        once = λ o i t k x y a b n m e. placed f o i x a n
            (λ l q c. placed f t k y b m (λ l2 q2 c2. (sym l ∙ l2, sym q ∙ q2)) (λ old. absurd (not_old t k y m old (ap slot_birth c ∙ e))))
            (λ old. placed f t k y b m (λ l q c. absurd (not_old o i x n old (ap slot_birth c ∙ sym e))) (λ old2. h.once o i t k x y old old2 n m e));
      }
    where
      not_old : (t k : ℕ) (y : Slot) → is_empty y ≡ false → at w t k ≡ y → slot_birth z ≡ slot_birth y → ⊥
      not_old t k y m old e = let l = (g.low y (t, k, old, m)).0 in let c = new in omega arith

  once_event : (z : Sizes) (w : World Cpu) (e : Event) → Good Cpu fresh act w → Once w → Once (event Cpu fresh act z w e)
  unfolding slot_birth
  once_event z w e g h = go (arrives z w e)
    where
      go : Arrival z w e (event Cpu fresh act z w e) → Once (event Cpu fresh act z w e)
      go (none_new l) = once_less l h
      go (moves p s d k f m b t) = once_moved p s f m b t h
      go (hands p s q d k f m b t) = once_moved p s f m b t h
      go (copies p s d b r k m f) = once_new f (copied_is Cpu fresh act (slot Cpu fresh act w p s) r b (suc w.births) m).1 g h
      go (cuts p s d c k m f) = once_new f refl g h

  once_run : (z : Sizes) (w : World Cpu) (es : List Event) → Good Cpu fresh act w → Once w → Once (run Cpu fresh act z w es)
  unfolding run
  once_run z w [] g h = h
  once_run z w (e ∷ es) g h = once_run z (event Cpu fresh act z w e) es (good_event Cpu fresh act z w e g) (once_event z w e g h)

  once_first : (v : World Cpu) → Parted Cpu fresh act (λ o. true) v → Once v
  unfolding is_empty slot_birth
  once_first v p = record { once = at_start }
    where
      at_start : (o i t k : ℕ) (x y : Slot) → at v o i ≡ x → at v t k ≡ y → is_empty x ≡ false → is_empty y ≡ false → slot_birth x ≡ slot_birth y → (o ≡ t) × (i ≡ k)
      at_start o i t k empty y a b n m e = yes_no n
      at_start o i t k (cap u r c j h) empty a b n m e = yes_no m
      at_start o i t k (cap u r c j h) (cap u' r' c' j' h') a b n m e = p.once o i u c j h t k u' c' h' r r' a (b ∙ ap (λ (l : ℕ). cap u' r' c' l h') (sym e))

  pub once_stays : OnceStays Cpu fresh act
  unfolding OnceStays OnceStaysIn is_empty slot_birth
  once_stays z v es o i u b j m p k t c n r q start a e = (once_run z v es (good_first Cpu fresh act v start) (once_first v start)).once o i p k (cap u r b j m) (cap t q c j n) a e refl refl refl
