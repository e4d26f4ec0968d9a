-- Whoever meets goes on in that very event: who waited with what it is told, who made the call with what comes back.
use mathlib.Core.Path.{◌≡◌, refl, sym, ap, subst, ◌∙◌}
use mathlib.Core.Bool.{Bool}
use mathlib.Core.List.{List, [], ◌∷◌, ◌++◌}
use mathlib.Core.Logic.{◌⊎◌, inl, inr}
use Prim.Native.Nat.{ℕ}
use Rattle.rights.specs.World.{Call, cut, copy, move, drop_it, revoke, send, receive, map, unmap, bind, go, say, hear}
use Rattle.rights.specs.World.{Act, quiet, store, call, wrong, Wait, sender, receiver, stopped, ready, waits, Object, gone, pool, table, port, page, thread, line}
use Rattle.rights.specs.World.{Sizes, World, Event, tick, byte, object, with_object, waits_thread, Went, on, resumed, handed, does, seen, went_on, acts, ticked, event, run}
use Rattle.rights.specs.Promise.{Note, sends, receives, meets, call_noted, act_noted, tick_noted, event_noted, Woken, Replied, BothGoOn, sender_waited, receiver_waited, MetGoOnIn, MetGoOn}
use Rattle.laws.proofs.Tests.{yes_no, no_yes, clash}
use Rattle.laws.proofs.Steps.{is_sender, came, met, told, view, Coming, turned_away, comes_last, meets_first}
use Rattle.laws.proofs.Moves.{hands_over}
use Rattle.laws.proofs.Pass.{c_send, c_receive}
use Rattle.laws.proofs.Rows.{Orderly, put_else, first_waits}
use Rattle.laws.proofs.Dangles.{orderly_first, orderly_run, thread_of}
use Rattle.laws.proofs.Answered.{from_look, resumed_at}
use Rattle.laws.proofs.Asked.{at_meeting}

-- a note that is in a list of none, of one, of two
in_none : {A : Type 0} (ns ms : List Note) (k : Note) → ◌≡◌ {A = List Note} [] (ns ++ k ∷ ms) → A
in_none [] ms k e = clash (cc)
in_none (n ∷ ns) ms k e = clash (cc)

in_one : (n : Note) (ns ms : List Note) (k : Note) → n ∷ [] ≡ ns ++ k ∷ ms → n ≡ k
in_one n [] ms k e = cc
in_one n (m ∷ ns) ms k e = let h : ◌≡◌ {A = List Note} [] (ns ++ k ∷ ms) = cc in in_none ns ms k h

in_two : (n m : Note) (ns ms : List Note) (k : Note) → n ∷ m ∷ [] ≡ ns ++ k ∷ ms → (n ≡ k) ⊎ (m ≡ k)
in_two n m [] ms k e = inl (cc)
in_two n m (l ∷ ns) ms k e = let h : m ∷ [] ≡ ns ++ k ∷ ms = cc in inr (in_one m ns ms k h)

module _ (Cpu : Type 0) (fresh : ℕ → Cpu) (act : Cpu → (ℕ → ℕ) → Act Cpu) where
  abbrev obj : World Cpu → ℕ → Object Cpu
  obj = object Cpu fresh act

  -- what is said of a note: of a meeting, that both go on
  unfoldable pub Said : Sizes → World Cpu → World Cpu → Event → Note → Type 0
  Said z w v e (sends o t b ws) = Unit {0}
  Said z w v e (receives o t) = Unit {0}
  Said z w v e (meets o t q b ws) = BothGoOn Cpu fresh act z w v e o t q b ws

  said_came : (z : Sizes) (w v : World Cpu) (e : Event) (o : ℕ) (x : Wait) → Said z w v e (came o x)
  unfolding Said came
  said_came z w v e o (sender t b ws h g s) = tt
  said_came z w v e o (receiver t d) = tt

  module _ (z : Sizes) {w : World Cpu} (i : Orderly Cpu fresh act w) (p f a : ℕ) (c : Cpu) (ps : List ℕ) (rs : List Bool) (r : obj w p ≡ thread f ready c a ps rs) where
    -- who waited goes on
    pub woken : (then : List ℕ → Cpu) (o g : ℕ) (q : List Wait) (y : Wait) (h : Bool) (j s b d : ℕ) (us vs : List ℕ) → obj w o ≡ port g (y ∷ q) →
        Woken Cpu fresh act w (went_on Cpu fresh act w p then (on (resumed Cpu fresh act (handed Cpu fresh act (with_object Cpu fresh act w o (port g q)) h j s b d) (waits_thread Cpu fresh act y) us) vs)) o (waits_thread Cpu fresh act y) us
    unfolding Woken went_on view
    woken then o g q y h j s b d us vs e =
        let t = waits_thread Cpu fresh act y in
        let n = thread_of Cpu fresh act (obj w t) o (first_waits Cpu fresh act i o g y q e) in
        let A = with_object Cpu fresh act w o (port g q) in
        let B = handed Cpu fresh act A h j s b d in
        let C = resumed Cpu fresh act B t us in
        let no_port : (o ≡ t → ⊥) = (λ k. let m : obj w t ≡ port g (y ∷ q) = ap (obj w) (sym k) ∙ e in let l = n.6 in clash (cc)) in
        let not_it : (p ≡ t → ⊥) = (λ k. let m : obj w t ≡ thread f ready c a ps rs = ap (obj w) (sym k) ∙ r in let l = n.6 in clash (cc)) in
        let k = from_look Cpu fresh act (obj B t) n.0 (waits o n.5) n.2 ((hands_over Cpu fresh act A h j s b d).2 t ∙ ap (view Cpu fresh act) (put_else Cpu fresh act w o t _ no_port ∙ n.6)) in
        (n.0, n.1, k.0, n.2, n.3, k.1, n.4, k.2, n.5, n.6, put_else Cpu fresh act C p t _ not_it ∙ resumed_at Cpu fresh act B t n.0 o k.0 us k.1 n.2 k.2 n.5 k.3)

    -- who made the call goes on
    replied : (d : Call) (then : List ℕ → Cpu) → act c (seen Cpu fresh act z w ps) ≡ call d then → (o g : ℕ) (q : List Wait) (y : Wait) (h : Bool) (j s b l : ℕ) (us vs : List ℕ) → obj w o ≡ port g (y ∷ q) →
        Replied Cpu fresh act z w (went_on Cpu fresh act w p then (on (resumed Cpu fresh act (handed Cpu fresh act (with_object Cpu fresh act w o (port g q)) h j s b l) (waits_thread Cpu fresh act y) us) vs)) (tick p) p vs
    unfolding Replied
    replied d then m o g q y h j s b l us vs e =
        let n = at_meeting Cpu fresh act w p f a c ps rs then r o g q y h j s b l us vs e in (f, a, n.0, c, d, ps, n.1, rs, n.2, then, refl, r, m, n.3)

    -- whoever comes to a port
    said_coming : (d : Call) (then : List ℕ → Cpu) → act c (seen Cpu fresh act z w ps) ≡ call d then → (o : ℕ) (x : Wait) → waits_thread Cpu fresh act x ≡ p → (ls : List Note) (g : Went Cpu fresh act) → Coming Cpu fresh act w o x ls g →
        (ns ms : List Note) (k : Note) → ls ≡ ns ++ k ∷ ms → Said z w (went_on Cpu fresh act w p then g) (tick p) k
    unfolding Said came met told is_sender waits_thread
    said_coming d then m o x t ls g turned_away ns ms k e = in_none ns ms k e
    said_coming d then m o x t ls g (comes_last q b) ns ms k e = subst (Said z w _ (tick p)) (in_one (came o x) ns ms k e) (said_came z w _ (tick p) o x)
    said_coming d then m o (sender t b ws hh gg ss) tp ls g (meets_first (sender u c1 vs i1 j1 r1) h j s b1 d1 q n) ns ms k e = yes_no n
    said_coming d then m o (receiver t l) tp ls g (meets_first (receiver u l1) h j s b1 d1 q n) ns ms k e = no_yes n
    said_coming d then m o (sender t b ws hh gg ss) tp ls g (meets_first {f = n1} {q = q1} (receiver u l) h j s b1 d1 q n) ns ms k e =
        at (in_two (sends o t b ws) (meets o t u b ws) ns ms k e)
      where
        V : World Cpu
        V = went_on Cpu fresh act w p then (on (resumed Cpu fresh act (handed Cpu fresh act (with_object Cpu fresh act w o (port n1 q1)) h j s b1 d1) u (0 ∷ b ∷ ws)) (0 ∷ []))

        at : (sends o t b ws ≡ k) ⊎ (meets o t u b ws ≡ k) → Said z w V (tick p) k
        at (inl y) = subst (Said z w V (tick p)) y tt
        at (inr y) = subst (Said z w V (tick p)) y (subst (λ (i : ℕ). BothGoOn Cpu fresh act z w V (tick p) o i u b ws) (sym tp)
            (receiver_waited (replied d then m o n1 q1 (receiver u l) h j s b1 d1 (0 ∷ b ∷ ws) (0 ∷ []) q) (woken then o n1 q1 (receiver u l) h j s b1 d1 (0 ∷ b ∷ ws) (0 ∷ []) q)))
    said_coming d then m o (receiver t l) tp ls g (meets_first {f = n1} {q = q1} (sender u b ws hh gg ss) h j s b1 d1 q n) ns ms k e =
        at (in_two (receives o t) (meets o u t b ws) ns ms k e)
      where
        V : World Cpu
        V = went_on Cpu fresh act w p then (on (resumed Cpu fresh act (handed Cpu fresh act (with_object Cpu fresh act w o (port n1 q1)) h j s b1 d1) u (0 ∷ [])) (0 ∷ b ∷ ws))

        at : (receives o t ≡ k) ⊎ (meets o u t b ws ≡ k) → Said z w V (tick p) k
        at (inl y) = subst (Said z w V (tick p)) y tt
        at (inr y) = subst (Said z w V (tick p)) y (subst (λ (i : ℕ). BothGoOn Cpu fresh act z w V (tick p) o u i b ws) (sym tp)
            (sender_waited (woken then o n1 q1 (sender u b ws hh gg ss) h j s b1 d1 (0 ∷ []) (0 ∷ b ∷ ws) q) (replied d then m o n1 q1 (sender u b ws hh gg ss) h j s b1 d1 (0 ∷ []) (0 ∷ b ∷ ws) q)))

    said_call : (d : Call) (then : List ℕ → Cpu) → act c (seen Cpu fresh act z w ps) ≡ call d then → (ns ms : List Note) (k : Note) → call_noted Cpu fresh act (does Cpu fresh act) z w p d ≡ ns ++ k ∷ ms →
        Said z w (went_on Cpu fresh act w p then (does Cpu fresh act z w p d)) (tick p) k
    unfolding call_noted waits_thread
    said_call (cut s k d) then m ns ms n e = in_none ns ms n e
    said_call (copy s d q b) then m ns ms n e = in_none ns ms n e
    said_call (move s d) then m ns ms n e = in_none ns ms n e
    said_call (drop_it s) then m ns ms n e = in_none ns ms n e
    said_call (revoke s) then m ns ms n e = in_none ns ms n e
    said_call (send s ws g h) then m ns ms n e = said_coming (send s ws g h) then m _ _ refl _ _ (c_send Cpu fresh act p z w s ws g h) ns ms n e
    said_call (receive s d) then m ns ms n e = said_coming (receive s d) then m _ _ refl _ _ (c_receive Cpu fresh act p z w s d) ns ms n e
    said_call (map s t b) then m ns ms n e = in_none ns ms n e
    said_call (unmap t b) then m ns ms n e = in_none ns ms n e
    said_call (bind t s) then m ns ms n e = in_none ns ms n e
    said_call (go t b) then m ns ms n e = in_none ns ms n e
    said_call (say s b) then m ns ms n e = in_none ns ms n e
    said_call (hear s) then m ns ms n e = in_none ns ms n e

    said_act : (x : Act Cpu) → act c (seen Cpu fresh act z w ps) ≡ x → (ns ms : List Note) (k : Note) → act_noted Cpu fresh act (does Cpu fresh act) z w p x ≡ ns ++ k ∷ ms → Said z w (acts Cpu fresh act z w p ps rs x) (tick p) k
    unfolding act_noted acts
    said_act (quiet d) m ns ms n e = in_none ns ms n e
    said_act (store b bs d) m ns ms n e = in_none ns ms n e
    said_act (call d then) m ns ms n e = said_call d then m ns ms n e
    said_act wrong m ns ms n e = in_none ns ms n e

  said_tick : (z : Sizes) (w : World Cpu) (i : Orderly Cpu fresh act w) (p : ℕ) (x : Object Cpu) → obj w p ≡ x → (ns ms : List Note) (k : Note) → tick_noted Cpu fresh act (does Cpu fresh act) z w p x ≡ ns ++ k ∷ ms →
      Said z w (ticked Cpu fresh act z w p x) (tick p) k
  unfolding tick_noted ticked
  said_tick z w i p gone r ns ms k e = in_none ns ms k e
  said_tick z w i p (pool f n u) r ns ms k e = in_none ns ms k e
  said_tick z w i p (table f ss) r ns ms k e = in_none ns ms k e
  said_tick z w i p (port f ws) r ns ms k e = in_none ns ms k e
  said_tick z w i p (page f bs) r ns ms k e = in_none ns ms k e
  said_tick z w i p (thread f stopped c t ps rs) r ns ms k e = in_none ns ms k e
  said_tick z w i p (thread f ready c t ps rs) r ns ms k e = said_act z i p f t c ps rs r (act c (seen Cpu fresh act z w ps)) refl ns ms k e
  said_tick z w i p (thread f (waits o then) c t ps rs) r ns ms k e = in_none ns ms k e
  said_tick z w i p (line xs ys) r ns ms k e = in_none ns ms k e

  said_event : (z : Sizes) (w : World Cpu) (i : Orderly Cpu fresh act w) (x : Event) (ns ms : List Note) (k : Note) → event_noted Cpu fresh act (does Cpu fresh act) z w x ≡ ns ++ k ∷ ms → Said z w (event Cpu fresh act z w x) x k
  unfolding event_noted event
  said_event z w i (tick p) ns ms k e = said_tick z w i p (obj w p) refl ns ms k e
  said_event z w i (byte o b) ns ms k e = in_none ns ms k e

  pub met_go_on : MetGoOn Cpu fresh act
  unfolding MetGoOn MetGoOnIn Said
  met_go_on z v es x o t q b ws ns ms one p k e = said_event z (run Cpu fresh act z v es) (orderly_run Cpu fresh act z v es k (orderly_first Cpu fresh act v p)) x ns ms (meets o t q b ws) e
