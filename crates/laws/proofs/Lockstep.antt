-- Two tied worlds go in step: each call, instruction and event keeps them tied, and keeps whatever a frame says of the others.
use mathlib.Core.Path.{◌≡◌, refl, sym, ap, subst, ◌∙◌, fun_ext}
use mathlib.Core.Bool.{Bool, true, false, ◌&&◌, ◌||◌, not}
use mathlib.Core.List.{List, [], ◌∷◌, ◌++◌}
use mathlib.Core.Logic.{◌⊎◌, inl, inr}
use Prim.Native.Nat.{ℕ, zero, suc, ◌+◌, ◌-◌, ◌≤◌, ◌<◌, ◌/◌, ◌%◌}
use lib.Dec.{T, ltb, leb, eqb, eqb-suc-zero}
use borrow.Author.Tests.{eqb-true}
use lib.ListN.{length, get_or, set, take, length-set, get_or-append}
use Rattle.rights.specs.World.{pick, over, Rights, Slot, empty, cap, Kind, a_pool, a_table, a_port, a_page, Call, cut, copy, move, drop_it, revoke}
use Rattle.rights.specs.World.{send, receive, map, unmap, bind, go, say, hear, Act, quiet, store, call, wrong, Wait, State, Object, gone, pool, port}
use Rattle.rights.specs.World.{page, thread, line, Sizes, World, tick, byte, cost, step_of, up_to, slot_object, slot_rights, slot_badge, slot_birth}
use Rattle.rights.specs.World.{slot_mother, is_empty, copied, too_many, among, object, with_object, slots_of, table_of, slot, has_slot, with_slots}
use Rattle.rights.specs.World.{with_slot, offspring, cuttings, cleared, refilled, Went, on, wait, refuse, made, all_rights, cutting, is_pool}
use Rattle.rights.specs.World.{revoking, set_state, then_of, resumed, handed, sending, receiving, is_page, is_table, mapping, unmapping, binding}
use Rattle.rights.specs.World.{going, saying, hearing, does, bytes_of, from_page, seen, stores, may_store, went_on, acts, ticked, comes_in, event}
use Rattle.laws.proofs.Tests.{yes_no, no_yes, pick_else, pick_then, or_left, or_right, and_left, and_right, or_two, and_two, not_two, less_one}
use Rattle.laws.proofs.Tests.{at_set}
use Rattle.laws.proofs.Forms.{on_pool, on_port, on_thread, on_line, no_cut, no_copy, no_move, no_revoke, no_writing, no_reading, no_map, no_bind}
use Rattle.laws.proofs.Forms.{cutting_is, sending_is, receiving_is, mapping_is, unmapping_is, binding_is, going_is, saying_is, hearing_is}
use Rattle.laws.proofs.Forms.{comes_in_is, ticked_is}
use Rattle.laws.proofs.Cuts.{table_kept}
use Rattle.laws.proofs.Tied.{Ties, More, more_refl, Ref, none, some, Each, nil, cons, SlotT, empty_t, cap_t, WaitT, sender_t, receiver_t, From}
use Rattle.laws.proofs.Tied.{from_none, from_some, each_length, each_at, each_set, each_push, each_fill, Agree, StateT, stopped_t, ready_t, waits_t}
use Rattle.laws.proofs.Tied.{ObjT, gone_t, pool_t, table_t, port_t, page_t, thread_t, line_t, noted, pushed, with_born, with_objs, more_born}
use Rattle.laws.proofs.Tied.{more_objs, Tied, t_set, t_note, t_push}
use Rattle.laws.proofs.Clear.{t_clear}
use Rattle.laws.proofs.Kindred.{each_among, each_in, e_all_offspring}

module _ (Cpu : Type 0) (fresh : ℕ → Cpu) (act : Cpu → (ℕ → ℕ) → Act Cpu) where
  -- tied objects are of the same kind: the eliminators of each kind, for two worlds at once
  two_pool {ℓ} : {B C : Type 0} (P : B → C → Type ℓ) {d : Bool} {t : Ties} {x y : Object Cpu} {b : B} {c : C} {g : ℕ → ℕ → ℕ → B} {h : ℕ → ℕ → ℕ → C} → ObjT Cpu d t x y → P b c →
      ((f k n u : ℕ) → x ≡ pool f n u → From d t f k → P (g f n u) (h k n u)) → P (on_pool b g x) (on_pool c h y)
  unfolding on_pool
  two_pool P gone_t p q = p
  two_pool P (pool_t f) p q = q _ _ _ _ refl f
  two_pool P (table_t f ss) p q = p
  two_pool P (port_t f ws) p q = p
  two_pool P (page_t f) p q = p
  two_pool P (thread_t f s a ps) p q = p
  two_pool P line_t p q = p

  two_port {ℓ} : {B C : Type 0} (P : B → C → Type ℓ) {d : Bool} {t : Ties} {x y : Object Cpu} {b : B} {c : C} {g : ℕ → List Wait → B} {h : ℕ → List Wait → C} → ObjT Cpu d t x y → P b c →
      ((f k : ℕ) (ws vs : List Wait) → From d t f k → Each (WaitT t) ws vs → P (g f ws) (h k vs)) → P (on_port b g x) (on_port c h y)
  unfolding on_port
  two_port P gone_t p q = p
  two_port P (pool_t f) p q = p
  two_port P (table_t f ss) p q = p
  two_port P (port_t f ws) p q = q _ _ _ _ f ws
  two_port P (page_t f) p q = p
  two_port P (thread_t f s a ps) p q = p
  two_port P line_t p q = p

  two_thread {ℓ} : {B C : Type 0} (P : B → C → Type ℓ) {d : Bool} {t : Ties} {x y : Object Cpu} {b : B} {c : C} {g : ℕ → State Cpu → Cpu → ℕ → List ℕ → List Bool → B} {h : ℕ → State Cpu → Cpu → ℕ → List ℕ → List Bool → C} →
      ObjT Cpu d t x y → P b c →
      ((f k : ℕ) (s r : State Cpu) (e : Cpu) (a i : ℕ) (ps ns : List ℕ) (rs : List Bool) → From d t f k → StateT Cpu t s r → Ref t.objs a i → Each (Ref t.objs) ps ns → P (g f s e a ps rs) (h k r e i ns rs)) →
      P (on_thread b g x) (on_thread c h y)
  unfolding on_thread
  two_thread P gone_t p q = p
  two_thread P (pool_t f) p q = p
  two_thread P (table_t f ss) p q = p
  two_thread P (port_t f ws) p q = p
  two_thread P (page_t f) p q = p
  two_thread P (thread_t f s a ps) p q = q _ _ _ _ _ _ _ _ _ _ f s a ps
  two_thread P line_t p q = p

  two_line {ℓ} : {B C : Type 0} (P : B → C → Type ℓ) {d : Bool} {t : Ties} {x y : Object Cpu} {b : B} {c : C} {g : List ℕ → List ℕ → B} {h : List ℕ → List ℕ → C} → ObjT Cpu d t x y → P b c →
      ((xs ys : List ℕ) → P (g xs ys) (h xs ys)) → P (on_line b g x) (on_line c h y)
  unfolding on_line
  two_line P gone_t p q = p
  two_line P (pool_t f) p q = p
  two_line P (table_t f ss) p q = p
  two_line P (port_t f ws) p q = p
  two_line P (page_t f) p q = p
  two_line P (thread_t f s a ps) p q = p
  two_line P line_t p q = q _ _

  -- what is said of the others, and how it lasts through what is done to one's own
  pub record Frame : Type 1 where
    pub Fr : World Cpu → Type 0
    pub Mine : ℕ → Type 0
    pub Bmine : ℕ → Type 0
    pub on_set : (v : World Cpu) (u : ℕ) (x : Object Cpu) → Mine u → Fr v → Fr (with_object Cpu fresh act v u x)
    pub on_note : (v : World Cpu) (e : Slot) → Bmine (slot_mother e) → slot_mother e ≤ v.births → slot_birth e ≡ suc v.births → Fr v → Fr (noted Cpu v e)
    pub on_push : (v : World Cpu) (x : Object Cpu) → Fr v → Fr (pushed Cpu v x)
    pub on_clear : (v : World Cpu) (ids os : List ℕ) (o : ℕ) → ((i : ℕ) → among i ids ≡ true → Bmine i) → Mine o →
        (os ≡ []) ⊎ (os ≡ cuttings Cpu fresh act v (length v.objects) (o ∷ [])) → Fr v → Fr (cleared Cpu fresh act v ids os)

  module _ (F : Frame) (d : Bool) where
    pub record Held (t : Ties) (v w : World Cpu) : Type 0 where
      pub tied : Tied Cpu fresh act d t v w
      pub fr : F.Fr v
      pub mine : {u k : ℕ} → t.objs u k → F.Mine u
      pub bmine : {u k : ℕ} → t.born u k → F.Bmine u
      pub dia : {u k : ℕ} → T d → t.objs u k → u ≡ k
      pub bdia : {u k : ℕ} → T d → t.born u k → u ≡ k

    -- what a call may use of the worlds that it begins with
    pub record Start (t : Ties) (v w : World Cpu) : Type 0 where
      pub bnew : F.Bmine (suc v.births)
      pub onew : F.Mine (length v.objects)
      pub alike : T d → v ≡ w
      pub kin : {o k : ℕ} → t.objs o k → Agree t.objs (cuttings Cpu fresh act v (length v.objects) (o ∷ [])) (cuttings Cpu fresh act w (length w.objects) (k ∷ []))

    pub data WentT (t : Ties) : Went Cpu fresh act → Went Cpu fresh act → Type 0 where
      on_t : {v w : World Cpu} {ws : List ℕ} → Held t v w → WentT t (on v ws) (on w ws)
      wait_t : {v w : World Cpu} {o k : ℕ} → t.objs o k → Held t v w → WentT t (wait v o) (wait w k)

    -- tied after a call, perhaps by more ties
    Out : Ties → Went Cpu fresh act → Went Cpu fresh act → Type 1
    Out t x y = (q : Ties) × More t q × WentT q x y

    abbrev ob : World Cpu → ℕ → Object Cpu
    ob = object Cpu fresh act

    h_set : {t : Ties} {v w : World Cpu} {u k : ℕ} {x y : Object Cpu} → Held t v w → t.objs u k → ObjT Cpu d t x y → Held t (with_object Cpu fresh act v u x) (with_object Cpu fresh act w k y)
    h_set {t} {v} {w} {u} {k} {x} {y} r h e =
        record { tied = t_set Cpu fresh act r.tied h e; fr = F.on_set v u x (r.mine h) r.fr; mine = r.mine; bmine = r.bmine; dia = r.dia; bdia = r.bdia }

    still : {t : Ties} {x y : Went Cpu fresh act} → WentT t x y → Out t x y
    unfolding Out
    still {t} h = (t, more_refl t, h)

    out_refuse : {t : Ties} {v w : World Cpu} → Held t v w → Out t (refuse Cpu fresh act v) (refuse Cpu fresh act w)
    unfolding refuse
    out_refuse r = still (on_t r)

    o_slots : {t : Ties} {x y : Object Cpu} → ObjT Cpu d t x y → Each (SlotT t) (slots_of Cpu fresh act x) (slots_of Cpu fresh act y)
    unfolding slots_of
    o_slots gone_t = nil
    o_slots (pool_t f) = nil
    o_slots (table_t f ss) = ss
    o_slots (port_t f ws) = nil
    o_slots (page_t f) = nil
    o_slots (thread_t f s a ps) = nil
    o_slots line_t = nil

    o_table : {t : Ties} {x y : Object Cpu} → ObjT Cpu d t x y → Ref t.objs (table_of Cpu fresh act x) (table_of Cpu fresh act y)
    unfolding table_of
    o_table gone_t = none
    o_table (pool_t f) = none
    o_table (table_t f ss) = none
    o_table (port_t f ws) = none
    o_table (page_t f) = none
    o_table (thread_t f s a ps) = a
    o_table line_t = none

    o_with_slots : {t : Ties} {x y : Object Cpu} {ss qs : List Slot} → ObjT Cpu d t x y → Each (SlotT t) ss qs → ObjT Cpu d t (with_slots Cpu fresh act x ss) (with_slots Cpu fresh act y qs)
    unfolding with_slots
    o_with_slots gone_t e = gone_t
    o_with_slots (pool_t f) e = pool_t f
    o_with_slots (table_t f ss) e = table_t f e
    o_with_slots (port_t f ws) e = port_t f ws
    o_with_slots (page_t f) e = page_t f
    o_with_slots (thread_t f s a ps) e = thread_t f s a ps
    o_with_slots line_t e = line_t

    -- the table that two tied threads have: none, or a tied one
    at_table : {t : Ties} {v w : World Cpu} {a b : ℕ} → Held t v w → Ref t.objs a b → (s : ℕ) →
        SlotT t (pick (eqb a 0) empty (get_or (slots_of Cpu fresh act (ob v (a - 1))) s empty)) (pick (eqb b 0) empty (get_or (slots_of Cpu fresh act (ob w (b - 1))) s empty))
    at_table r none s = empty_t
    at_table r (some {u} {k} h) s = rw (eqb-suc-zero u, eqb-suc-zero k, less_one u, less_one k) (each_at s empty empty empty_t (o_slots (r.tied.same h)))

    s_slot : {t : Ties} {v w : World Cpu} {p q : ℕ} → Held t v w → t.objs p q → (s : ℕ) → SlotT t (slot Cpu fresh act v p s) (slot Cpu fresh act w q s)
    unfolding slot
    s_slot r h s = at_table r (o_table (r.tied.same h)) s

    has_table : {t : Ties} {v w : World Cpu} {a b : ℕ} → Held t v w → Ref t.objs a b → (s : ℕ) →
        (not (eqb a 0) && ltb s (length (slots_of Cpu fresh act (ob v (a - 1))))) ≡ (not (eqb b 0) && ltb s (length (slots_of Cpu fresh act (ob w (b - 1)))))
    has_table r none s = refl
    has_table r (some {u} {k} h) s = rw (eqb-suc-zero u, eqb-suc-zero k, less_one u, less_one k) (ap (λ (n : ℕ). ltb s n) (each_length (o_slots (r.tied.same h))))

    s_has : {t : Ties} {v w : World Cpu} {p q : ℕ} → Held t v w → t.objs p q → (s : ℕ) → has_slot Cpu fresh act v p s ≡ has_slot Cpu fresh act w q s
    unfolding has_slot
    s_has r h s = has_table r (o_table (r.tied.same h)) s

    s_empty : {t : Ties} {x y : Slot} → SlotT t x y → is_empty x ≡ is_empty y
    unfolding is_empty
    s_empty empty_t = refl
    s_empty (cap_t h b) = refl

    s_rights : {t : Ties} {x y : Slot} → SlotT t x y → slot_rights x ≡ slot_rights y
    unfolding slot_rights
    s_rights empty_t = refl
    s_rights (cap_t h b) = refl

    s_badge : {t : Ties} {x y : Slot} → SlotT t x y → slot_badge x ≡ slot_badge y
    unfolding slot_badge
    s_badge empty_t = refl
    s_badge (cap_t h b) = refl

    -- writing a slot of a thread that has it
    put_table : {t : Ties} {v w : World Cpu} {a b : ℕ} {x y : Slot} → Held t v w → Ref t.objs a b → (s : ℕ) → SlotT t x y → (not (eqb a 0) ≡ true) →
        Held t (with_object Cpu fresh act v (a - 1) (with_slots Cpu fresh act (ob v (a - 1)) (set (slots_of Cpu fresh act (ob v (a - 1))) s x)))
        (with_object Cpu fresh act w (b - 1) (with_slots Cpu fresh act (ob w (b - 1)) (set (slots_of Cpu fresh act (ob w (b - 1))) s y)))
    put_table r none s e n = no_yes n
    put_table {t} r (some {u} {k} h) s e n =
        rw (less_one u, less_one k) (h_set r h (o_with_slots (r.tied.same h) (each_set (SlotT t) s e (o_slots (r.tied.same h)))))

    -- a thread with a table
    Has : World Cpu → ℕ → Type 0
    Has v p = not (eqb (table_of Cpu fresh act (ob v p)) 0) ≡ true

    slot_has : (v : World Cpu) (p s : ℕ) → is_empty (slot Cpu fresh act v p s) ≡ false → Has v p
    unfolding Has slot is_empty
    slot_has v p s e = go (eqb (table_of Cpu fresh act (ob v p)) 0) refl
      where
        go : (c : Bool) → eqb (table_of Cpu fresh act (ob v p)) 0 ≡ c → not (eqb (table_of Cpu fresh act (ob v p)) 0) ≡ true
        go true g = yes_no (subst (λ (c : Bool). is_empty (pick c empty (get_or (slots_of Cpu fresh act (ob v (table_of Cpu fresh act (ob v p) - 1))) s empty)) ≡ false) g e)
        go false g = ap not g

    h_put : {t : Ties} {v w : World Cpu} {p q : ℕ} {x y : Slot} → Held t v w → t.objs p q → (s : ℕ) → SlotT t x y → Has v p → Held t (with_slot Cpu fresh act v p s x) (with_slot Cpu fresh act w q s y)
    unfolding with_slot Has
    h_put r h s e n = put_table r (o_table (r.tied.same h)) s e n

    kept_at : (xs : List (Object Cpu)) (o p : ℕ) (ss : List Slot) → table_of Cpu fresh act (get_or (set xs o (with_slots Cpu fresh act (get_or xs o gone) ss)) p gone) ≡ table_of Cpu fresh act (get_or xs p gone)
    kept_at [] o p ss = refl
    kept_at (x ∷ xs) zero zero ss = table_kept Cpu fresh act x ss
    kept_at (x ∷ xs) zero (suc p) ss = refl
    kept_at (x ∷ xs) (suc o) zero ss = refl
    kept_at (x ∷ xs) (suc o) (suc p) ss = kept_at xs o p ss

    has_put : (v : World Cpu) (q s p : ℕ) (x : Slot) → Has v p → Has (with_slot Cpu fresh act v q s x) p
    unfolding Has with_slot with_object object
    has_put v q s p x h = rw (kept_at v.objects (table_of Cpu fresh act (get_or v.objects q gone) - 1) p (set (slots_of Cpu fresh act (get_or v.objects (table_of Cpu fresh act (get_or v.objects q gone) - 1) gone)) s x)) h

    o_state : {t : Ties} {x y : Object Cpu} {s q : State Cpu} (c : Cpu) → ObjT Cpu d t x y → StateT Cpu t s q → ObjT Cpu d t (set_state Cpu fresh act x s c) (set_state Cpu fresh act y q c)
    unfolding set_state
    o_state c gone_t e = gone_t
    o_state c (pool_t f) e = pool_t f
    o_state c (table_t f ss) e = table_t f ss
    o_state c (port_t f ws) e = port_t f ws
    o_state c (page_t f) e = page_t f
    o_state c (thread_t f s a ps) e = thread_t f e a ps
    o_state c line_t e = line_t

    o_then : {t : Ties} {x y : Object Cpu} → ObjT Cpu d t x y → (ws : List ℕ) (c : Cpu) → then_of Cpu fresh act x ws c ≡ then_of Cpu fresh act y ws c
    unfolding then_of
    o_then gone_t ws c = refl
    o_then (pool_t f) ws c = refl
    o_then (table_t f ss) ws c = refl
    o_then (port_t f qs) ws c = refl
    o_then (page_t f) ws c = refl
    o_then (thread_t f stopped_t a ps) ws c = refl
    o_then (thread_t f ready_t a ps) ws c = refl
    o_then (thread_t f (waits_t h) a ps) ws c = refl
    o_then line_t ws c = refl

    h_state : {t : Ties} {v w : World Cpu} {p q : ℕ} {s r : State Cpu} (c : Cpu) → Held t v w → t.objs p q → StateT Cpu t s r →
        Held t (with_object Cpu fresh act v p (set_state Cpu fresh act (ob v p) s c)) (with_object Cpu fresh act w q (set_state Cpu fresh act (ob w q) r c))
    h_state c r h e = h_set r h (o_state c (r.tied.same h) e)

    h_resumed : {t : Ties} {v w : World Cpu} {p q : ℕ} → Held t v w → t.objs p q → (ws : List ℕ) → Held t (resumed Cpu fresh act v p ws) (resumed Cpu fresh act w q ws)
    unfolding resumed
    h_resumed {t} {v} {w} {p} {q} r h ws = rw (o_then (r.tied.same h) ws (fresh 0)) (h_state (then_of Cpu fresh act (ob w q) ws (fresh 0)) r h ready_t)

    has_has : (v : World Cpu) (q e : ℕ) → has_slot Cpu fresh act v q e ≡ true → Has v q
    unfolding has_slot Has
    has_has v q e g = and_left _ _ g

    h_handed : {t : Ties} {v w : World Cpu} {p a q b : ℕ} → Held t v w → (h : Bool) → t.objs p a → t.objs q b → (s e : ℕ) → Held t (handed Cpu fresh act v h p s q e) (handed Cpu fresh act w h a s b e)
    unfolding handed
    h_handed {t} {v} {w} {p} {a} {q} {b} r h hp hq s e =
        pick_then (Held t) {c = h && (not (is_empty (slot Cpu fresh act v p s)) && (has_slot Cpu fresh act v q e && is_empty (slot Cpu fresh act v q e)))}
        (ap (λ (c : Bool). h && c) (and_two (not_two (s_empty (s_slot r hp s))) (and_two (s_has r hq e) (s_empty (s_slot r hq e)))))
        (λ g. let n : is_empty (slot Cpu fresh act v p s) ≡ false = not_true _ (and_left _ _ (and_right h _ g)) in
        h_put (h_put r hq e (s_slot r hp s) (has_has v q e (and_left _ _ (and_right _ _ (and_right h _ g))))) hp s empty_t (has_put v q e p (slot Cpu fresh act v p s) (slot_has v p s n)))
        r
      where
        not_true : (c : Bool) → not c ≡ true → c ≡ false
        not_true true g = no_yes g
        not_true false g = refl

    -- calls, once their slots are looked up
    o_sending : {t : Ties} {v w : World Cpu} {p q o k : ℕ} {x y : Object Cpu} → Held t v w → t.objs p q → t.objs o k → (b : ℕ) (ws : List ℕ) (h g : Bool) (s : ℕ) → ObjT Cpu d t x y →
        Out t (sending Cpu fresh act v p o b ws h g s x) (sending Cpu fresh act w q k b ws h g s y)
    unfolding sending
    o_sending {t} {v} {w} {p} {q} {o} {k} {x} {y} r hp ho b ws h g s e =
        rw (sending_is Cpu fresh act v p o b ws h g s x, sending_is Cpu fresh act w q k b ws h g s y) (two_port (Out t) e (out_refuse r) at_row)
      where
        at_row : (f i : ℕ) (us vs : List Wait) → From d t f i → Each (WaitT t) us vs → Out t (sending Cpu fresh act v p o b ws h g s (port f us)) (sending Cpu fresh act w q k b ws h g s (port i vs))
        at_row f i us vs fr nil = still (wait_t ho (h_set r ho (port_t fr (cons (sender_t hp) nil))))
        at_row f i us vs fr (cons (sender_t ht) m) = still (wait_t ho (h_set r ho (port_t fr (cons (sender_t ht) (each_push (WaitT t) (sender_t hp) m)))))
        at_row f i us vs fr (cons (receiver_t {s = c} ht) m) = still (on_t (h_resumed (h_handed (h_set r ho (port_t fr m)) (h && g) hp ht s c) ht (0 ∷ b ∷ ws)))

    o_receiving : {t : Ties} {v w : World Cpu} {p q o k : ℕ} {x y : Object Cpu} → Held t v w → t.objs p q → t.objs o k → (s : ℕ) → ObjT Cpu d t x y →
        Out t (receiving Cpu fresh act v p o s x) (receiving Cpu fresh act w q k s y)
    unfolding receiving
    o_receiving {t} {v} {w} {p} {q} {o} {k} {x} {y} r hp ho s e =
        rw (receiving_is Cpu fresh act v p o s x, receiving_is Cpu fresh act w q k s y) (two_port (Out t) e (out_refuse r) at_row)
      where
        at_row : (f i : ℕ) (us vs : List Wait) → From d t f i → Each (WaitT t) us vs → Out t (receiving Cpu fresh act v p o s (port f us)) (receiving Cpu fresh act w q k s (port i vs))
        at_row f i us vs fr nil = still (wait_t ho (h_set r ho (port_t fr (cons (receiver_t hp) nil))))
        at_row f i us vs fr (cons (receiver_t ht) m) = still (wait_t ho (h_set r ho (port_t fr (cons (receiver_t ht) (each_push (WaitT t) (receiver_t hp) m)))))
        at_row f i us vs fr (cons (sender_t {s = c} {h} {g} ht) m) = still (on_t (h_resumed (h_handed (h_set r ho (port_t fr m)) (h && g) ht hp c s) ht (0 ∷ [])))

    o_is_page : {t : Ties} {x y : Object Cpu} → ObjT Cpu d t x y → is_page Cpu fresh act x ≡ is_page Cpu fresh act y
    unfolding is_page
    o_is_page gone_t = refl
    o_is_page (pool_t f) = refl
    o_is_page (table_t f ss) = refl
    o_is_page (port_t f ws) = refl
    o_is_page (page_t f) = refl
    o_is_page (thread_t f s a ps) = refl
    o_is_page line_t = refl

    o_is_table : {t : Ties} {x y : Object Cpu} → ObjT Cpu d t x y → is_table Cpu fresh act x ≡ is_table Cpu fresh act y
    unfolding is_table
    o_is_table gone_t = refl
    o_is_table (pool_t f) = refl
    o_is_table (table_t f ss) = refl
    o_is_table (port_t f ws) = refl
    o_is_table (page_t f) = refl
    o_is_table (thread_t f s a ps) = refl
    o_is_table line_t = refl

    o_is_pool : {t : Ties} {x y : Object Cpu} → ObjT Cpu d t x y → is_pool Cpu fresh act x ≡ is_pool Cpu fresh act y
    unfolding is_pool
    o_is_pool gone_t = refl
    o_is_pool (pool_t f) = refl
    o_is_pool (table_t f ss) = refl
    o_is_pool (port_t f ws) = refl
    o_is_pool (page_t f) = refl
    o_is_pool (thread_t f s a ps) = refl
    o_is_pool line_t = refl

    ref_zero : {P : ℕ → ℕ → Type 0} {a b : ℕ} → Ref P a b → eqb a 0 ≡ eqb b 0
    ref_zero none = refl
    ref_zero (some {u} {k} h) = eqb-suc-zero u ∙ sym (eqb-suc-zero k)

    o_mapping : {t : Ties} {v w : World Cpu} {o k u i : ℕ} {x y : Object Cpu} (z : Sizes) → Held t v w → t.objs o k → t.objs u i → (m : Bool) (a : ℕ) → ObjT Cpu d t x y →
        Out t (mapping Cpu fresh act z v o m u a x) (mapping Cpu fresh act z w k m i a y)
    unfolding mapping
    o_mapping {t} {v} {w} {o} {k} {u} {i} {x} {y} z r ho hu m a e =
        rw (mapping_is Cpu fresh act z v o m u a x, mapping_is Cpu fresh act z w k m i a y) (two_thread (Out t) e (out_refuse r) (λ f g s q c b j ps ns rs fr st tb en.
        pick_else (Out t) {c = ltb a z.pages && (is_page Cpu fresh act (ob v o) && eqb (get_or ps a 0) 0)} {d = ltb a z.pages && (is_page Cpu fresh act (ob w k) && eqb (get_or ns a 0) 0)}
        (ap (λ (c : Bool). ltb a z.pages && c) (and_two (o_is_page (r.tied.same ho)) (ref_zero (each_at a 0 0 none en))))
        (still (on_t (h_set r hu (thread_t fr st tb (each_set (Ref t.objs) a (some ho) en))))) (λ _. out_refuse r)))

    o_unmapping : {t : Ties} {v w : World Cpu} {u i : ℕ} {x y : Object Cpu} (z : Sizes) → Held t v w → t.objs u i → (a : ℕ) → ObjT Cpu d t x y →
        Out t (unmapping Cpu fresh act z v u a x) (unmapping Cpu fresh act z w i a y)
    unfolding unmapping
    o_unmapping {t} {v} {w} {u} {i} {x} {y} z r hu a e =
        rw (unmapping_is Cpu fresh act z v u a x, unmapping_is Cpu fresh act z w i a y) (two_thread (Out t) e (out_refuse r) (λ f g s q c b j ps ns rs fr st tb en.
        pick_else (Out t) {c = ltb a z.pages} {d = ltb a z.pages} refl (still (on_t (h_set r hu (thread_t fr st tb (each_set (Ref t.objs) a none en))))) (λ _. out_refuse r)))

    o_binding : {t : Ties} {v w : World Cpu} {u i o k : ℕ} {x y : Object Cpu} → Held t v w → t.objs u i → t.objs o k → ObjT Cpu d t x y → Out t (binding Cpu fresh act v u o x) (binding Cpu fresh act w i k y)
    unfolding binding
    o_binding {t} {v} {w} {u} {i} {o} {k} {x} {y} r hu ho e = rw (binding_is Cpu fresh act v u o x, binding_is Cpu fresh act w i k y) (two_thread (Out t) e (out_refuse r) at_state)
      where
        at_state : (f g : ℕ) (s q : State Cpu) (c : Cpu) (a b : ℕ) (ps ns : List ℕ) (rs : List Bool) → From d t f g → StateT Cpu t s q → Ref t.objs a b → Each (Ref t.objs) ps ns →
            Out t (binding Cpu fresh act v u o (thread f s c a ps rs)) (binding Cpu fresh act w i k (thread g q c b ns rs))
        at_state f g s q c a b ps ns rs fr stopped_t tb en = pick_else (Out t) (o_is_table (r.tied.same ho)) (still (on_t (h_set r hu (thread_t fr stopped_t (some ho) en)))) (λ _. out_refuse r)
        at_state f g s q c a b ps ns rs fr ready_t tb en = out_refuse r
        at_state f g s q c a b ps ns rs fr (waits_t h) tb en = out_refuse r

    o_going : {t : Ties} {v w : World Cpu} {u i : ℕ} {x y : Object Cpu} → Held t v w → t.objs u i → (a : ℕ) → ObjT Cpu d t x y → Out t (going Cpu fresh act v u a x) (going Cpu fresh act w i a y)
    unfolding going
    o_going {t} {v} {w} {u} {i} {x} {y} r hu a e = rw (going_is Cpu fresh act v u a x, going_is Cpu fresh act w i a y) (two_thread (Out t) e (out_refuse r) at_state)
      where
        at_state : (f g : ℕ) (s q : State Cpu) (c : Cpu) (l b : ℕ) (ps ns : List ℕ) (rs : List Bool) → From d t f g → StateT Cpu t s q → Ref t.objs l b → Each (Ref t.objs) ps ns →
            Out t (going Cpu fresh act v u a (thread f s c l ps rs)) (going Cpu fresh act w i a (thread g q c b ns rs))
        at_state f g s q c l b ps ns rs fr stopped_t tb en = still (on_t (h_set r hu (thread_t fr ready_t tb en)))
        at_state f g s q c l b ps ns rs fr ready_t tb en = out_refuse r
        at_state f g s q c l b ps ns rs fr (waits_t h) tb en = out_refuse r

    o_saying : {t : Ties} {v w : World Cpu} {o k : ℕ} {x y : Object Cpu} → Held t v w → t.objs o k → (b : ℕ) → ObjT Cpu d t x y → Out t (saying Cpu fresh act v o b x) (saying Cpu fresh act w k b y)
    unfolding saying
    o_saying {t} {v} {w} {o} {k} {x} {y} r ho b e = rw (saying_is Cpu fresh act v o b x, saying_is Cpu fresh act w k b y) (two_line (Out t) e (out_refuse r) (λ xs ys. still (on_t (h_set r ho line_t))))

    o_hearing : {t : Ties} {v w : World Cpu} {o k : ℕ} {x y : Object Cpu} → Held t v w → t.objs o k → ObjT Cpu d t x y → Out t (hearing Cpu fresh act v o x) (hearing Cpu fresh act w k y)
    unfolding hearing
    o_hearing {t} {v} {w} {o} {k} {x} {y} r ho e = rw (hearing_is Cpu fresh act v o x, hearing_is Cpu fresh act w k y) (two_line (Out t) e (out_refuse r) at_bytes)
      where
        at_bytes : (xs ys : List ℕ) → Out t (hearing Cpu fresh act v o (line xs ys)) (hearing Cpu fresh act w k (line xs ys))
        at_bytes xs [] = out_refuse r
        at_bytes xs (b ∷ ys) = still (on_t (h_set r ho line_t))

    -- a new capability is noted
    h_note : {t : Ties} {v w : World Cpu} → Held t v w → F.Bmine (suc v.births) → (T d → v.births ≡ w.births) → (x y : Slot) → is_empty x ≡ false → is_empty y ≡ false →
        slot_birth x ≡ suc v.births → slot_birth y ≡ suc w.births → t.born (slot_mother x) (slot_mother y) →
        Held (with_born Cpu t (suc v.births) (suc w.births)) (noted Cpu v x) (noted Cpu w y)
    unfolding with_born
    h_note {t} {v} {w} r bn al x y ex ey bx by m =
        record {
          tied = t_note Cpu fresh act r.tied x y ex ey bx by m;
          fr = F.on_note v x (r.bmine m) (r.tied.within m).0 bx r.fr;
          mine = r.mine;
          bmine = λ {u} {k} g. own u k g;
          dia = r.dia;
          bdia = λ {u} {k} td g. eq u k td g;
        }
      where
        own : (u k : ℕ) → ((u ≡ suc v.births) × (k ≡ suc w.births)) ⊎ t.born u k → F.Bmine u
        own u k (inl h) = subst F.Bmine (sym h.0) bn
        own u k (inr h) = r.bmine h

        eq : (u k : ℕ) → T d → ((u ≡ suc v.births) × (k ≡ suc w.births)) ⊎ t.born u k → u ≡ k
        eq u k td (inl h) = h.0 ∙ ap suc (al td) ∙ sym h.1
        eq u k td (inr h) = r.bdia td h

    h_push : {t : Ties} {v w : World Cpu} → Held t v w → F.Mine (length v.objects) → (T d → length v.objects ≡ length w.objects) → (x y : Object Cpu) → ObjT Cpu d t x y →
        Held (with_objs Cpu t (length v.objects) (length w.objects)) (pushed Cpu v x) (pushed Cpu w y)
    unfolding with_objs
    h_push {t} {v} {w} r bn al x y e =
        record {
          tied = t_push Cpu fresh act r.tied x y e;
          fr = F.on_push v x r.fr;
          mine = λ {u} {k} g. own u k g;
          bmine = r.bmine;
          dia = λ {u} {k} td g. eq u k td g;
          bdia = r.bdia;
        }
      where
        own : (u k : ℕ) → ((u ≡ length v.objects) × (k ≡ length w.objects)) ⊎ t.objs u k → F.Mine u
        own u k (inl h) = subst F.Mine (sym h.0) bn
        own u k (inr h) = r.mine h

        eq : (u k : ℕ) → T d → ((u ≡ length v.objects) × (k ≡ length w.objects)) ⊎ t.objs u k → u ≡ k
        eq u k td (inl h) = h.0 ∙ al td ∙ sym h.1
        eq u k td (inr h) = r.dia td h

    born_of : {t : Ties} {x y : Slot} → SlotT t x y → is_empty x ≡ false → t.born (slot_birth x) (slot_birth y)
    unfolding slot_birth is_empty
    born_of empty_t e = yes_no e
    born_of (cap_t h b) e = b

    object_of : {t : Ties} {x y : Slot} → SlotT t x y → is_empty x ≡ false → t.objs (slot_object x - 1) (slot_object y - 1)
    unfolding slot_object is_empty
    object_of empty_t e = yes_no e
    object_of (cap_t {u} {k} h b) e = rw (less_one u, less_one k) h

    full_too : {t : Ties} {x y : Slot} → SlotT t x y → is_empty x ≡ false → is_empty y ≡ false
    full_too h e = sym (s_empty h) ∙ e

    copied_full : (x : Slot) (r : Rights) (b i : ℕ) → is_empty x ≡ false → (is_empty (copied x r b i) ≡ false) × (slot_birth (copied x r b i) ≡ i) × (slot_mother (copied x r b i) ≡ slot_birth x)
    unfolding copied is_empty slot_birth slot_mother
    copied_full empty r b i e = yes_no e
    copied_full (cap o q c j m) r b i e = (refl, refl, refl)

    s_copied : {t q : Ties} {x y : Slot} (r : Rights) (b i j : ℕ) → More t q → SlotT t x y → q.born i j → SlotT q (copied x r b i) (copied y r b j)
    unfolding copied
    s_copied r b i j m empty_t n = empty_t
    s_copied r b i j m (cap_t h k) n = cap_t (m.more h) n

    new_born : (t : Ties) (b c : ℕ) → (with_born Cpu t b c).born b c
    unfolding with_born
    new_born t b c = inl (refl, refl)

    has_noted : (v : World Cpu) (e : Slot) (p : ℕ) → Has v p → Has (noted Cpu v e) p
    unfolding Has noted object
    has_noted v e p h = h

    o_copy : {t : Ties} {v w : World Cpu} {p q : ℕ} → Held t v w → Start t v w → t.objs p q → (s e : ℕ) (r : Rights) (b : ℕ) → is_empty (slot Cpu fresh act v p s) ≡ false →
        Out t (on (with_slot Cpu fresh act (record { objects = v.objects; births = suc v.births; lineage = copied (slot Cpu fresh act v p s) r b (suc v.births) ∷ v.lineage }) p e (copied (slot Cpu fresh act v p s) r b (suc v.births))) (0 ∷ []))
        (on (with_slot Cpu fresh act (record { objects = w.objects; births = suc w.births; lineage = copied (slot Cpu fresh act w q s) r b (suc w.births) ∷ w.lineage }) q e (copied (slot Cpu fresh act w q s) r b (suc w.births))) (0 ∷ []))
    unfolding Out noted
    o_copy {t} {v} {w} {p} {q} h st hp s e r b n =
        let x = s_slot h hp s in
        let i = suc v.births in
        let j = suc w.births in
        let cx = copied_full (slot Cpu fresh act v p s) r b i n in
        let cy = copied_full (slot Cpu fresh act w q s) r b j (full_too x n) in
        let m : t.born (slot_mother (copied (slot Cpu fresh act v p s) r b i)) (slot_mother (copied (slot Cpu fresh act w q s) r b j)) = rw (cx.2, cy.2) (born_of x n) in
        let g = h_note h st.bnew (λ td. ap (λ (u : World Cpu). u.births) (st.alike td)) (copied (slot Cpu fresh act v p s) r b i) (copied (slot Cpu fresh act w q s) r b j) cx.0 cy.0 cx.1 cy.1 m in (
          with_born Cpu t i j,
          more_born Cpu t i j,
          on_t (h_put g ((more_born Cpu t i j).more hp) e (s_copied r b i j (more_born Cpu t i j) x (new_born t i j)) (has_noted v (copied (slot Cpu fresh act v p s) r b i) p (slot_has v p s n))),
        )

    o_made : (t : Ties) (o k : ℕ) (z : Sizes) (n : Kind) → t.objs o k → ObjT Cpu d t (made Cpu fresh act z (suc o) n) (made Cpu fresh act z (suc k) n)
    unfolding made
    o_made t o k z (a_pool n) h = pool_t (from_some d t o k h)
    o_made t o k z (a_table n) h = table_t (from_some d t o k h) (each_fill (SlotT t) n empty_t)
    o_made t o k z a_port h = port_t (from_some d t o k h) nil
    o_made t o k z a_page h = page_t (from_some d t o k h)

    has_pushed : (v : World Cpu) (x : Object Cpu) (p : ℕ) → p < length v.objects → Has v p → Has (pushed Cpu v x) p
    unfolding Has pushed object
    has_pushed v x p l h = rw (get_or-append v.objects (x ∷ []) gone p l) h

    has_pool : (v : World Cpu) (o p f m u n : ℕ) → o < length v.objects → ob v o ≡ pool f m u → Has v p → Has (with_object Cpu fresh act v o (pool f m n)) p
    unfolding Has with_object object table_of
    has_pool v o p f m u n l e h = rw (at_set v.objects o p (pool f m n) gone l) (go (eqb o p) refl)
      where
        go : (c : Bool) → eqb o p ≡ c → not (eqb (table_of Cpu fresh act (pick c (pool f m n) (get_or v.objects p gone))) 0) ≡ true
        go true g = no_yes (subst (λ (y : Object Cpu). not (eqb (table_of Cpu fresh act y) 0) ≡ true) (subst (λ (i : ℕ). get_or v.objects i gone ≡ pool f m u) (eqb-true o p g) e) h)
        go false g = h

    o_cut_pool : {t : Ties} {v w : World Cpu} {p q o k : ℕ} {a b : Slot} (z : Sizes) → Held t v w → Start t v w → t.objs p q → t.objs o k → SlotT t a b → is_empty a ≡ false →
        (n : Kind) (e : ℕ) → Has v p → (f g m u c : ℕ) → ob v o ≡ pool f m u → From d t f g →
        Out t (on (with_slot Cpu fresh act (record {
          objects = set v.objects o (pool f m c) ++ made Cpu fresh act z (suc o) n ∷ [];
          births = suc v.births;
          lineage = cap (length v.objects) (all_rights Cpu fresh act) 0 (suc v.births) (slot_birth a) ∷ v.lineage;
        }) p e (cap (length v.objects) (all_rights Cpu fresh act) 0 (suc v.births) (slot_birth a))) (0 ∷ []))
        (on (with_slot Cpu fresh act (record {
          objects = set w.objects k (pool g m c) ++ made Cpu fresh act z (suc k) n ∷ [];
          births = suc w.births;
          lineage = cap (length w.objects) (all_rights Cpu fresh act) 0 (suc w.births) (slot_birth b) ∷ w.lineage;
        }) q e (cap (length w.objects) (all_rights Cpu fresh act) 0 (suc w.births) (slot_birth b))) (0 ∷ []))
    unfolding Out noted pushed with_object with_objs with_born is_empty slot_birth slot_mother
    o_cut_pool {t} {v} {w} {p} {q} {o} {k} {a} {b} z r st hp ho ab ne n e ha f g m u c ex fr =
        let x : Object Cpu = pool f m c in
        let y : Object Cpu = pool g m c in
        let lv = length-set v.objects o x in
        let lw = length-set w.objects k y in
        let i = suc v.births in
        let j = suc w.births in
        let g1 : Held t (with_object Cpu fresh act v o x) (with_object Cpu fresh act w k y) = h_set r ho (pool_t fr) in
        let t2 : Ties = with_objs Cpu t (length (set v.objects o x)) (length (set w.objects k y)) in
        let m2 : More t t2 = more_objs Cpu t (length (set v.objects o x)) (length (set w.objects k y)) in
        let g2 : Held t2 (pushed Cpu (with_object Cpu fresh act v o x) (made Cpu fresh act z (suc o) n)) (pushed Cpu (with_object Cpu fresh act w k y) (made Cpu fresh act z (suc k) n)) =
        h_push g1 (rw lv st.onew) (λ td. lv ∙ ap (λ (u : World Cpu). length u.objects) (st.alike td) ∙ sym lw) (made Cpu fresh act z (suc o) n) (made Cpu fresh act z (suc k) n) (o_made t o k z n ho) in
        let t3 : Ties = with_born Cpu t2 i j in
        let m3 : More t2 t3 = more_born Cpu t2 i j in
        let g3 = h_note g2 st.bnew (λ td. ap (λ (u : World Cpu). u.births) (st.alike td)) (cap (length v.objects) (all_rights Cpu fresh act) 0 i (slot_birth a)) (cap (length w.objects) (all_rights Cpu fresh act) 0 j (slot_birth b)) refl refl refl refl (born_of ab ne) in (
          t3,
          record { more = λ h. m3.more (m2.more h); kids = λ h. m3.kids (m2.kids h) },
          on_t (h_put g3 (m3.more (m2.more hp)) e (cap_t (inl (sym lv, sym lw)) (inl (refl, refl)))
              (has_noted (pushed Cpu (with_object Cpu fresh act v o x) (made Cpu fresh act z (suc o) n)) (cap (length v.objects) (all_rights Cpu fresh act) 0 i (slot_birth a)) p
              (has_pushed (with_object Cpu fresh act v o x) (made Cpu fresh act z (suc o) n) p (rw lv (r.tied.fit hp).0) (has_pool v o p f m u c (r.tied.fit ho).0 ex ha)))),
        )

    o_cutting : {t : Ties} {v w : World Cpu} {p q o k : ℕ} {a b : Slot} {x y : Object Cpu} (z : Sizes) → Held t v w → Start t v w → t.objs p q → t.objs o k → SlotT t a b → is_empty a ≡ false →
        (n : Kind) (e : ℕ) → Has v p → ob v o ≡ x → ObjT Cpu d t x y → Out t (cutting Cpu fresh act z v p o a n e x) (cutting Cpu fresh act z w q k b n e y)
    unfolding cutting
    o_cutting {t} {v} {w} {p} {q} {o} {k} {a} {b} {x} {y} z r st hp ho ab ne n e ha ex xy =
        rw (cutting_is Cpu fresh act z v p o a n e x, cutting_is Cpu fresh act z w q k b n e y) (two_pool (Out t) xy (out_refuse r) (λ f g m u is fr.
        pick_else (Out t) {c = ltb m (up_to (step_of z n) u + cost z n) || (eqb (cost z n) 0 || too_many n)} refl (out_refuse r)
        (λ _. o_cut_pool z r st hp ho ab ne n e ha f g m u (up_to (step_of z n) u + cost z n) (ex ∙ is) fr)))

    o_refilled : {t : Ties} {x y : Object Cpu} → ObjT Cpu d t x y → ObjT Cpu d t (refilled Cpu fresh act x) (refilled Cpu fresh act y)
    unfolding refilled
    o_refilled gone_t = gone_t
    o_refilled (pool_t f) = pool_t f
    o_refilled (table_t f ss) = table_t f ss
    o_refilled (port_t f ws) = port_t f ws
    o_refilled (page_t f) = page_t f
    o_refilled (thread_t f s a ps) = thread_t f s a ps
    o_refilled line_t = line_t

    h_clear : {t : Ties} {v w : World Cpu} → Held t v w → (ids jds os qs : List ℕ) (o : ℕ) → Each t.born ids jds → Agree t.objs os qs → F.Mine o →
        (os ≡ []) ⊎ (os ≡ cuttings Cpu fresh act v (length v.objects) (o ∷ [])) → Held t (cleared Cpu fresh act v ids os) (cleared Cpu fresh act w jds qs)
    h_clear {t} {v} {w} r ids jds os qs o eb ao mo form =
        record {
          tied = t_clear Cpu fresh act r.tied ids jds os qs (each_among (λ a b u k. r.tied.first) eb) ao;
          fr = F.on_clear v ids os o (each_in eb F.Bmine (λ a b. r.bmine)) mo form r.fr;
          mine = r.mine;
          bmine = r.bmine;
          dia = r.dia;
          bdia = r.bdia;
        }

    o_revoking : {t : Ties} {v w : World Cpu} {o k : ℕ} {x y : Slot} → Held t v w → Start t v w → t.objs o k → SlotT t x y → is_empty x ≡ false → Out t (revoking Cpu fresh act v o x) (revoking Cpu fresh act w k y)
    unfolding revoking among
    o_revoking {t} {v} {w} {o} {k} {x} {y} r st ho xy ne =
        let eb = e_all_offspring Cpu fresh act r.tied (born_of xy ne) in
        let g = h_clear r (offspring Cpu fresh act v v.births (slot_birth x ∷ [])) (offspring Cpu fresh act w w.births (slot_birth y ∷ [])) (cuttings Cpu fresh act v (length v.objects) (o ∷ [])) (cuttings Cpu fresh act w (length w.objects) (k ∷ [])) o eb (st.kin ho) (r.mine ho) (inr refl) in
        pick_else (Out t) (o_is_pool (r.tied.same ho))
        (still (on_t (h_set g ho (o_refilled (g.tied.same ho)))))
        (λ _. still (on_t (h_clear r (offspring Cpu fresh act v v.births (slot_birth x ∷ [])) (offspring Cpu fresh act w w.births (slot_birth y ∷ [])) [] [] o eb (λ a b _. refl) (r.mine ho) (inl refl))))

    w_rights : {t : Ties} {x y : Slot} → SlotT t x y → not (slot_rights x).writes ≡ not (slot_rights y).writes
    w_rights h = ap (λ (r : Rights). not r.writes) (s_rights h)

    r_rights : {t : Ties} {x y : Slot} → SlotT t x y → not (slot_rights x).reads ≡ not (slot_rights y).reads
    r_rights h = ap (λ (r : Rights). not r.reads) (s_rights h)

    h_rights : {t : Ties} {x y : Slot} → SlotT t x y → not (slot_rights x).hands ≡ not (slot_rights y).hands
    h_rights h = ap (λ (r : Rights). not r.hands) (s_rights h)

    free : {t : Ties} {v w : World Cpu} {p q : ℕ} → Held t v w → t.objs p q → (s : ℕ) → not (has_slot Cpu fresh act v p s && is_empty (slot Cpu fresh act v p s)) ≡ not (has_slot Cpu fresh act w q s && is_empty (slot Cpu fresh act w q s))
    free r hp s = not_two (and_two (s_has r hp s) (s_empty (s_slot r hp s)))

    o_does : {t : Ties} {v w : World Cpu} {p q : ℕ} (z : Sizes) → Held t v w → Start t v w → t.objs p q → (c : Call) → Out t (does Cpu fresh act z v p c) (does Cpu fresh act z w q c)
    unfolding does
    o_does {t} {v} {w} {p} {q} z r st hp (cut s n e) =
        let x = s_slot r hp s in
        pick_else (Out t) {c = no_cut Cpu fresh act v p s e} (or_two (s_empty x) (or_two (w_rights x) (free r hp e))) (out_refuse r)
        (λ g. let ne = or_left _ _ g in let ho = object_of x ne in o_cutting z r st hp ho x ne n e (slot_has v p s ne) refl (r.tied.same ho))
    o_does {t} {v} {w} {p} {q} z r st hp (copy s e rs b) =
        let x = s_slot r hp s in
        pick_else (Out t) {c = no_copy Cpu fresh act v p s e} (or_two (s_empty x) (or_two (h_rights x) (free r hp e))) (out_refuse r)
        (λ g. o_copy r st hp s e rs b (or_left _ _ g))
    o_does {t} {v} {w} {p} {q} z r st hp (move s e) =
        let x = s_slot r hp s in
        pick_else (Out t) {c = no_move Cpu fresh act v p s e} (or_two (s_empty x) (free r hp e)) (out_refuse r)
        (λ g. let ha = slot_has v p s (or_left _ _ g) in still (on_t (h_put (h_put r hp e x ha) hp s empty_t (has_put v p e p (slot Cpu fresh act v p s) ha))))
    o_does {t} {v} {w} {p} {q} z r st hp (drop_it s) =
        let x = s_slot r hp s in
        pick_else (Out t) (s_empty x) (out_refuse r) (λ g. still (on_t (h_put r hp s empty_t (slot_has v p s g))))
    o_does {t} {v} {w} {p} {q} z r st hp (revoke s) =
        let x = s_slot r hp s in
        pick_else (Out t) {c = no_revoke Cpu fresh act v p s}
        (maybe (is_empty (slot Cpu fresh act v p s)) refl x) (out_refuse r) (λ g. let ne = or_left _ _ g in o_revoking r st (object_of x ne) x ne)
      where
        maybe : (c : Bool) → is_empty (slot Cpu fresh act v p s) ≡ c → SlotT t (slot Cpu fresh act v p s) (slot Cpu fresh act w q s) →
            (no_revoke Cpu fresh act v p s) ≡
            no_revoke Cpu fresh act w q s
        maybe true g x = rw (g, sym (s_empty x) ∙ g)
        maybe false g x = or_two (s_empty x) (and_two (o_is_pool (r.tied.same (object_of x g))) (w_rights x))
    o_does {t} {v} {w} {p} {q} z r st hp (send s ws g h) =
        let x = s_slot r hp s in
        pick_else (Out t) {c = no_writing Cpu fresh act v p s} (or_two (s_empty x) (w_rights x)) (out_refuse r)
        (λ e. let ho = object_of x (or_left _ _ e) in rw (s_badge x, s_rights x) (o_sending r hp ho (slot_badge (slot Cpu fresh act w q s)) (take 4 ws) (slot_rights (slot Cpu fresh act w q s)).hands g h (r.tied.same ho)))
    o_does {t} {v} {w} {p} {q} z r st hp (receive s e) =
        let x = s_slot r hp s in
        pick_else (Out t) {c = no_reading Cpu fresh act v p s} (or_two (s_empty x) (r_rights x)) (out_refuse r)
        (λ g. let ho = object_of x (or_left _ _ g) in o_receiving r hp ho e (r.tied.same ho))
    o_does {t} {v} {w} {p} {q} z r st hp (map s e a) =
        let x = s_slot r hp s in
        let y = s_slot r hp e in
        pick_else (Out t) {c = no_map Cpu fresh act v p s e}
        (or_two (s_empty x) (or_two (s_empty y) (or_two (r_rights x) (w_rights y)))) (out_refuse r)
        (λ g. let ho = object_of x (or_left _ _ g) in let hu = object_of y (or_left _ _ (or_right _ _ g)) in
        rw (s_rights x) (o_mapping z r ho hu (slot_rights (slot Cpu fresh act w q s)).writes a (r.tied.same hu)))
    o_does {t} {v} {w} {p} {q} z r st hp (unmap e a) =
        let y = s_slot r hp e in
        pick_else (Out t) {c = no_writing Cpu fresh act v p e} (or_two (s_empty y) (w_rights y)) (out_refuse r)
        (λ g. let hu = object_of y (or_left _ _ g) in o_unmapping z r hu a (r.tied.same hu))
    o_does {t} {v} {w} {p} {q} z r st hp (bind e s) =
        let x = s_slot r hp s in
        let y = s_slot r hp e in
        pick_else (Out t) {c = no_bind Cpu fresh act v p e s}
        (or_two (s_empty y) (or_two (s_empty x) (or_two (w_rights x) (w_rights y)))) (out_refuse r)
        (λ g. let hu = object_of y (or_left _ _ g) in let ho = object_of x (or_left _ _ (or_right _ _ g)) in o_binding r hu ho (r.tied.same hu))
    o_does {t} {v} {w} {p} {q} z r st hp (go e a) =
        let y = s_slot r hp e in
        pick_else (Out t) {c = no_writing Cpu fresh act v p e} (or_two (s_empty y) (w_rights y)) (out_refuse r)
        (λ g. let hu = object_of y (or_left _ _ g) in o_going r hu a (r.tied.same hu))
    o_does {t} {v} {w} {p} {q} z r st hp (say s b) =
        let x = s_slot r hp s in
        pick_else (Out t) {c = no_writing Cpu fresh act v p s} (or_two (s_empty x) (w_rights x)) (out_refuse r)
        (λ g. let ho = object_of x (or_left _ _ g) in o_saying r ho (b % 256) (r.tied.same ho))
    o_does {t} {v} {w} {p} {q} z r st hp (hear s) =
        let x = s_slot r hp s in
        pick_else (Out t) {c = no_reading Cpu fresh act v p s} (or_two (s_empty x) (r_rights x)) (out_refuse r)
        (λ g. let ho = object_of x (or_left _ _ g) in o_hearing r ho (r.tied.same ho))

    -- instructions and events
    unfoldable pub Next : Ties → World Cpu → World Cpu → Type 1
    Next t v w = (q : Ties) × More t q × Held q v w

    stays : {t : Ties} {v w : World Cpu} → Held t v w → Next t v w
    unfolding Next
    stays {t} h = (t, more_refl t, h)

    h_went : {t : Ties} {p q : ℕ} {x y : Went Cpu fresh act} (v w : World Cpu) (then : List ℕ → Cpu) → WentT t x y → t.objs p q → Held t (went_on Cpu fresh act v p then x) (went_on Cpu fresh act w q then y)
    unfolding went_on
    h_went v w then (on_t {ws} r) hp = h_state (then ws) r hp ready_t
    h_went v w then (wait_t ho r) hp = h_state (fresh 0) r hp (waits_t ho)

    n_went : (t : Ties) (x y : Went Cpu fresh act) (p q : ℕ) (v w : World Cpu) (then : List ℕ → Cpu) → t.objs p q → Out t x y → Next t (went_on Cpu fresh act v p then x) (went_on Cpu fresh act w q then y)
    unfolding Next Out
    n_went t x y p q v w then hp e = (e.0, e.1, h_went v w then e.2 (e.1.more hp))

    o_bytes : {t : Ties} {x y : Object Cpu} → ObjT Cpu d t x y → bytes_of Cpu fresh act x ≡ bytes_of Cpu fresh act y
    unfolding bytes_of
    o_bytes gone_t = refl
    o_bytes (pool_t f) = refl
    o_bytes (table_t f ss) = refl
    o_bytes (port_t f ws) = refl
    o_bytes (page_t f) = refl
    o_bytes (thread_t f s a ps) = refl
    o_bytes line_t = refl

    o_from_page : {t : Ties} {x y : Object Cpu} → ObjT Cpu d t x y → From d t (from_page Cpu fresh act x) (from_page Cpu fresh act y)
    unfolding from_page
    o_from_page {t} gone_t = from_none d t
    o_from_page {t} (pool_t f) = from_none d t
    o_from_page {t} (table_t f ss) = from_none d t
    o_from_page {t} (port_t f ws) = from_none d t
    o_from_page {t} (page_t f) = f
    o_from_page {t} (thread_t f s a ps) = from_none d t
    o_from_page {t} line_t = from_none d t

    at_seen : {t : Ties} {v w : World Cpu} {a b : ℕ} → Held t v w → Ref t.objs a b → (i : ℕ) →
        pick (eqb a 0) 256 (get_or (bytes_of Cpu fresh act (ob v (a - 1))) i 0) ≡ pick (eqb b 0) 256 (get_or (bytes_of Cpu fresh act (ob w (b - 1))) i 0)
    at_seen r none i = refl
    at_seen r (some {u} {k} h) i = rw (eqb-suc-zero u, eqb-suc-zero k, less_one u, less_one k, o_bytes (r.tied.same h))

    s_seen : {t : Ties} {v w : World Cpu} {ps ns : List ℕ} (z : Sizes) → Held t v w → Each (Ref t.objs) ps ns → seen Cpu fresh act z v ps ≡ seen Cpu fresh act z w ns
    unfolding seen
    s_seen z r e = fun_ext (λ a. at_seen r (each_at (a / z.bytes) 0 0 none e) (a % z.bytes))

    -- storing where a page is
    h_store : {t : Ties} {v w : World Cpu} {a b : ℕ} → Held t v w → Ref t.objs a b → not (eqb a 0) ≡ true → (i : ℕ) (bs : List ℕ) →
        Held t (with_object Cpu fresh act v (a - 1) (page (from_page Cpu fresh act (ob v (a - 1))) (over (bytes_of Cpu fresh act (ob v (a - 1))) i bs)))
        (with_object Cpu fresh act w (b - 1) (page (from_page Cpu fresh act (ob w (b - 1))) (over (bytes_of Cpu fresh act (ob w (b - 1))) i bs)))
    h_store r none n i bs = no_yes n
    h_store r (some {u} {k} h) n i bs = rw (less_one u, less_one k, o_bytes (r.tied.same h)) (h_set r h (page_t (o_from_page (r.tied.same h))))

    h_stores : {t : Ties} {v w : World Cpu} {ps ns : List ℕ} (z : Sizes) (rs : List Bool) (a : ℕ) (bs : List ℕ) → Held t v w → Each (Ref t.objs) ps ns → may_store Cpu fresh act z ps rs a bs ≡ true →
        Held t (stores Cpu fresh act z v ps rs a bs) (stores Cpu fresh act z w ns rs a bs)
    unfolding stores may_store
    h_stores z rs a bs r e g = h_store r (each_at (a / z.bytes) 0 0 none e) (and_left _ _ g) (a % z.bytes) bs

    s_may : {P : ℕ → ℕ → Type 0} {ps ns : List ℕ} (z : Sizes) (rs : List Bool) (a : ℕ) (bs : List ℕ) → Each (Ref P) ps ns → may_store Cpu fresh act z ps rs a bs ≡ may_store Cpu fresh act z ns rs a bs
    unfolding may_store
    s_may z rs a bs e = ap (λ (c : Bool). not c && (get_or rs (a / z.bytes) false && leb (a % z.bytes + length bs) z.bytes)) (ref_zero (each_at (a / z.bytes) 0 0 none e))

    n_acts : {t : Ties} {v w : World Cpu} {p q : ℕ} {ps ns : List ℕ} (z : Sizes) (rs : List Bool) → Held t v w → Start t v w → t.objs p q → Each (Ref t.objs) ps ns → (x : Act Cpu) →
        Next t (acts Cpu fresh act z v p ps rs x) (acts Cpu fresh act z w q ns rs x)
    unfolding acts
    n_acts z rs r st hp e (quiet c) = stays (h_state c r hp ready_t)
    n_acts {t} {v} {w} {p} {q} {ps} {ns} z rs r st hp e (store a bs c) =
        pick_then (Next t) (s_may z rs a bs e) (λ g. stays (h_state c (h_stores z rs a bs r e g) hp ready_t)) (stays (h_state (fresh 0) r hp stopped_t))
    n_acts {t} {v} {w} {p} {q} z rs r st hp e (call c then) = n_went t (does Cpu fresh act z v p c) (does Cpu fresh act z w q c) p q v w then hp (o_does z r st hp c)
    n_acts z rs r st hp e wrong = stays (h_state (fresh 0) r hp stopped_t)

    n_ticked : {t : Ties} {v w : World Cpu} {p q : ℕ} {x y : Object Cpu} (z : Sizes) → Held t v w → Start t v w → t.objs p q → ObjT Cpu d t x y → Next t (ticked Cpu fresh act z v p x) (ticked Cpu fresh act z w q y)
    unfolding ticked
    n_ticked {t} {v} {w} {p} {q} {x} {y} z r st hp e = rw (ticked_is Cpu fresh act z v p x, ticked_is Cpu fresh act z w q y) (two_thread (Next t) e (stays r) at_state)
      where
        at_state : (f g : ℕ) (s u : State Cpu) (c : Cpu) (a b : ℕ) (ps ns : List ℕ) (rs : List Bool) → From d t f g → StateT Cpu t s u → Ref t.objs a b → Each (Ref t.objs) ps ns →
            Next t (ticked Cpu fresh act z v p (thread f s c a ps rs)) (ticked Cpu fresh act z w q (thread g u c b ns rs))
        at_state f g s u c a b ps ns rs fr stopped_t tb en = stays r
        at_state f g s u c a b ps ns rs fr ready_t tb en = rw (s_seen z r en) (n_acts z rs r st hp en (act c (seen Cpu fresh act z w ns)))
        at_state f g s u c a b ps ns rs fr (waits_t h) tb en = stays r

    n_comes : {t : Ties} {v w : World Cpu} {o k : ℕ} {x y : Object Cpu} (z : Sizes) (b : ℕ) → Held t v w → t.objs o k → ObjT Cpu d t x y → Next t (comes_in Cpu fresh act z v o b x) (comes_in Cpu fresh act z w k b y)
    unfolding comes_in
    n_comes {t} {v} {w} {o} {k} {x} {y} z b r ho e =
        rw (comes_in_is Cpu fresh act z v o b x, comes_in_is Cpu fresh act z w k b y) (two_line (Next t) e (stays r) (λ xs ys. pick_then (Next t) {c = ltb (length ys) z.heard} refl (λ _. stays (h_set r ho line_t)) (stays r)))

    pub n_tick : {t : Ties} {v w : World Cpu} {p q : ℕ} (z : Sizes) → Held t v w → Start t v w → t.objs p q → Next t (event Cpu fresh act z v (tick p)) (event Cpu fresh act z w (tick q))
    unfolding event
    n_tick z r st hp = n_ticked z r st hp (r.tied.same hp)

    pub n_byte : {t : Ties} {v w : World Cpu} {o k : ℕ} (z : Sizes) (b : ℕ) → Held t v w → t.objs o k → Next t (event Cpu fresh act z v (byte o b)) (event Cpu fresh act z w (byte k b))
    unfolding event
    n_byte z b r ho = n_comes z b r ho (r.tied.same ho)
