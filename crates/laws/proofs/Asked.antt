-- A send or a receive is refused, waits, or comes back at once with 0 by a meeting that is noted.
use mathlib.Core.Path.{◌≡◌, refl, sym, ap, subst, ◌∙◌}
use mathlib.Core.Bool.{Bool}
use mathlib.Core.List.{List, [], ◌∷◌, take}
use Prim.Native.Nat.{ℕ}
use Rattle.rights.specs.World.{Call, send, receive, Act, call, Wait, sender, receiver, State, ready, waits, Object, port, thread, Sizes, World, tick}
use Rattle.rights.specs.World.{slot_badge, object, with_object, slot, waits_thread, Went, on, wait, refuse, set_state, then_of, resumed, handed, does}
use Rattle.rights.specs.World.{seen, went_on, acts, ticked, event}
use Rattle.rights.specs.Promise.{Note, port_at, call_noted, act_noted, tick_noted, event_noted, SendBack, send_refused, send_waits, send_done}
use Rattle.rights.specs.Promise.{ReceiveBack, receive_refused, receive_waits, receive_done, AtOnce}
use Rattle.laws.proofs.Tests.{yes_no, no_yes, clash, same_or_not}
use Rattle.laws.proofs.Steps.{is_sender, came, met, told, view, Coming, turned_away, comes_last, meets_first}
use Rattle.laws.proofs.Moves.{hands_over}
use Rattle.laws.proofs.Pass.{c_send, c_receive}
use Rattle.laws.proofs.Rows.{put_here, put_else}
use Rattle.laws.proofs.Answered.{from_look}

module _ (Cpu : Type 0) (fresh : ℕ → Cpu) (act : Cpu → (ℕ → ℕ) → Act Cpu) where
  abbrev obj : World Cpu → ℕ → Object Cpu
  obj = object Cpu fresh act

  -- a thread put into a state is in it
  put_state : (w : World Cpu) (p f a : ℕ) (s q : State Cpu) (c d : Cpu) (ps : List ℕ) (rs : List Bool) → obj w p ≡ thread f s c a ps rs →
      obj (with_object Cpu fresh act w p (set_state Cpu fresh act (obj w p) q d)) p ≡ thread f q d a ps rs
  unfolding set_state
  put_state w p f a s q c d ps rs e = put_here Cpu fresh act w p _ (λ g. clash (cc)) ∙ ap (λ (x : Object Cpu). set_state Cpu fresh act x q d) e

  -- a thread stays a thread when somebody is woken
  wakes : (w : World Cpu) (t p f a : ℕ) (s : State Cpu) (c : Cpu) (ws ps : List ℕ) (rs : List Bool) → obj w p ≡ thread f s c a ps rs →
      (q : State Cpu) × (d : Cpu) × (obj (resumed Cpu fresh act w t ws) p ≡ thread f q d a ps rs)
  unfolding resumed
  wakes w t p f a s c ws ps rs e =
      same_or_not t p
      (λ h. (
        ready,
        then_of Cpu fresh act (obj w t) ws (fresh 0),
        subst (λ (i : ℕ). obj (with_object Cpu fresh act w i (set_state Cpu fresh act (obj w i) ready (then_of Cpu fresh act (obj w t) ws (fresh 0)))) p ≡ thread f ready (then_of Cpu fresh act (obj w t) ws (fresh 0)) a ps rs) (sym h)
            (put_state w p f a s ready c _ ps rs e),
      ))
      (λ h. (s, c, put_else Cpu fresh act w t p _ h ∙ e))

  module _ (w : World Cpu) (p f a : ℕ) (c : Cpu) (ps : List ℕ) (rs : List Bool) (then : List ℕ → Cpu) (e : obj w p ≡ thread f ready c a ps rs) where
    other : (o g : ℕ) (q : List Wait) → obj w o ≡ port g q → o ≡ p → ⊥
    other o g q r h = let m : obj w p ≡ port g q = ap (obj w) (sym h) ∙ r in clash (cc)

    at_rest : (o g : ℕ) (ws vs : List Wait) → obj w o ≡ port g ws → obj (went_on Cpu fresh act w p then (wait (with_object Cpu fresh act w o (port g vs)) o)) p ≡ thread f (waits o then) (fresh 0) a ps rs
    unfolding went_on
    at_rest o g ws vs r = put_state _ p f a ready (waits o then) c (fresh 0) ps rs (put_else Cpu fresh act w o p _ (other o g ws r) ∙ e)

    pub at_meeting : (o g : ℕ) (q : List Wait) (y : Wait) (h : Bool) (i s b d : ℕ) (us vs : List ℕ) → obj w o ≡ port g (y ∷ q) →
        (a' : ℕ) × (ps' : List ℕ) × (rs' : List Bool) × (obj (went_on Cpu fresh act w p then (on (resumed Cpu fresh act (handed Cpu fresh act (with_object Cpu fresh act w o (port g q)) h i s b d) (waits_thread Cpu fresh act y) us) vs)) p ≡ thread f ready (then vs) a' ps' rs')
    unfolding went_on view
    at_meeting o g q y h i s b d us vs r =
        let A = with_object Cpu fresh act w o (port g q) in
        let B = handed Cpu fresh act A h i s b d in
        let l = from_look Cpu fresh act (obj B p) f ready c ((hands_over Cpu fresh act A h i s b d).2 p ∙ ap (view Cpu fresh act) (put_else Cpu fresh act w o p _ (other o g (y ∷ q) r) ∙ e)) in
        let m = wakes B (waits_thread Cpu fresh act y) p f l.0 ready c us l.1 l.2 l.3 in
        (l.0, l.1, l.2, put_state _ p f l.0 m.0 ready m.1 (then vs) l.1 l.2 m.2)

    sent : (o b : ℕ) (ws : List ℕ) (h g : Bool) (s : ℕ) (ns : List Note) (r : Went Cpu fresh act) → Coming Cpu fresh act w o (sender p b ws h g s) ns r → SendBack Cpu fresh act ns (went_on Cpu fresh act w p then r) p f o b ws then
    unfolding went_on refuse came met told is_sender
    sent o b ws h g s ns r turned_away = send_refused a ps rs refl (put_state w p f a ready ready c _ ps rs e)
    sent o b ws h g s ns r (comes_last {f = k} {ws = vs} q n) = send_waits (fresh 0) a ps rs refl (at_rest o k vs _ q)
    sent o b ws h g s ns r (meets_first (sender t i us j k m) h' a' s' b' d' q n) = yes_no n
    sent o b ws h g s ns r (meets_first {f = k} {q = vs} (receiver t d) h' a' s' b' d' q n) =
        let y = at_meeting o k vs (receiver t d) h' a' s' b' d' (0 ∷ b ∷ ws) (0 ∷ []) q in send_done t y.0 y.1 y.2 refl y.3

    received : (o d : ℕ) (ns : List Note) (r : Went Cpu fresh act) → Coming Cpu fresh act w o (receiver p d) ns r → ReceiveBack Cpu fresh act ns (went_on Cpu fresh act w p then r) p f o then
    unfolding went_on refuse came met told is_sender
    received o d ns r turned_away = receive_refused a ps rs refl (put_state w p f a ready ready c _ ps rs e)
    received o d ns r (comes_last {f = k} {ws = vs} q n) = receive_waits (fresh 0) a ps rs refl (at_rest o k vs _ q)
    received o d ns r (meets_first (receiver t i) h' a' s' b' d' q n) = no_yes n
    received o d ns r (meets_first {f = k} {q = vs} (sender t b ws i j m) h' a' s' b' d' q n) =
        let y = at_meeting o k vs (sender t b ws i j m) h' a' s' b' d' (0 ∷ []) (0 ∷ b ∷ ws) q in receive_done t b y.0 ws y.1 y.2 refl y.3

  -- an event of a ready thread whose instruction is a call
  pub is_call : (z : Sizes) (w : World Cpu) (p f a : ℕ) (c : Cpu) (ps : List ℕ) (rs : List Bool) (d : Call) (then : List ℕ → Cpu) → obj w p ≡ thread f ready c a ps rs → act c (seen Cpu fresh act z w ps) ≡ call d then →
      (event Cpu fresh act z w (tick p) ≡ went_on Cpu fresh act w p then (does Cpu fresh act z w p d)) × (event_noted Cpu fresh act (does Cpu fresh act) z w (tick p) ≡ call_noted Cpu fresh act (does Cpu fresh act) z w p d)
  unfolding event event_noted ticked tick_noted acts act_noted
  is_call z w p f a c ps rs d then e g =
      (ap (ticked Cpu fresh act z w p) e ∙ ap (acts Cpu fresh act z w p ps rs) g, ap (tick_noted Cpu fresh act (does Cpu fresh act) z w p) e ∙ ap (act_noted Cpu fresh act (does Cpu fresh act) z w p) g)

  pub at_once : AtOnce Cpu fresh act
  unfolding AtOnce
  at_once = (
    (λ z w p f a s h g c ws ps rs then e i.
        let j = is_call z w p f a c ps rs (send s ws g h) then e i in
        subst (λ (v : World Cpu). SendBack Cpu fresh act (event_noted Cpu fresh act (does Cpu fresh act) z w (tick p)) v p f (port_at Cpu fresh act w p s) (slot_badge (slot Cpu fresh act w p s)) (take 4 ws) then) (sym j.0)
        (subst (λ (ns : List Note). SendBack Cpu fresh act ns (went_on Cpu fresh act w p then (does Cpu fresh act z w p (send s ws g h))) p f (port_at Cpu fresh act w p s) (slot_badge (slot Cpu fresh act w p s)) (take 4 ws) then) (sym j.1)
        (sent w p f a c ps rs then e _ _ _ _ g h _ _ (c_send Cpu fresh act p z w s ws g h)))),
    λ z w p f a s d c ps rs then e i.
        let j = is_call z w p f a c ps rs (receive s d) then e i in
        subst (λ (v : World Cpu). ReceiveBack Cpu fresh act (event_noted Cpu fresh act (does Cpu fresh act) z w (tick p)) v p f (port_at Cpu fresh act w p s) then) (sym j.0)
        (subst (λ (ns : List Note). ReceiveBack Cpu fresh act ns (went_on Cpu fresh act w p then (does Cpu fresh act z w p (receive s d))) p f (port_at Cpu fresh act w p s) then) (sym j.1)
        (received w p f a c ps rs then e _ d _ _ (c_receive Cpu fresh act p z w s d))),
  )
