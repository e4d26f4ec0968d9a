-- What is sent is received once: the messages that are answered with 0 at a port are those of its meetings, one for one and in the same order.
use mathlib.Core.Path.{◌≡◌, refl, sym, ap, subst, ◌∙◌}
use mathlib.Core.Bool.{Bool, true, ◌&&◌, ◌||◌, not}
use mathlib.Core.List.{List, [], ◌∷◌, ◌++◌, take}
use Prim.Native.Nat.{ℕ}
use native.Mathlib.Omega.{arith}
use borrow.Author.Tests.{eqb-true, eq-eqb, ne_eqb}
use lib.ListN.{get_or}
use Rattle.rights.specs.World.{pick, Slot, empty, Call, cut, copy, move, drop_it, revoke, send, receive, map, unmap, bind, go, say, hear, Act, quiet, store, call, wrong, Wait, sender, receiver, State, stopped, ready, waits, Object, gone, pool, table, port, page, thread, line}
use Rattle.rights.specs.World.{Sizes, World, Event, tick, byte, slot_badge, among, object, with_object, slot, with_slots, with_slot, is_empty, waits_thread, Went, on, refuse, set_state, resumed, handed, has_slot, does, seen, went_on, event}
use Rattle.rights.specs.Promise.{Kinds, Uncut, waiters, NoTwice, IsIn, is_first, is_later, Note, meets, Sent, message, Meeting, got_by, met_at, row_of, port_at, call_noted, act_noted, tick_noted, event_noted, log, Back, waits_on, was_heard, was_told, was_ended, Woken}
use Rattle.rights.specs.Effects.{it_calls, messages, AnsweredNow, at_once, after_waiting, Answers, no_more, one_now, none_now, SentOnceIn, SentOnce}
use Rattle.laws.proofs.Tests.{yes_no, no_yes, clash, both_ways, same_or_not, pick_both, or_second, set_by}
use Rattle.laws.proofs.Steps.{is_sender, came, met, told, Coming, turned_away, comes_last, meets_first}
use Rattle.laws.proofs.Pass.{c_send, c_receive, happens}
use Rattle.laws.proofs.Places.{kinds_event}
use Rattle.laws.proofs.Rows.{names, Orderly, orderly_event, put_here}
use Rattle.laws.proofs.Dangles.{orderly_first, thread_of}
use Rattle.laws.proofs.Order.{met-++, uncut_event}
use Rattle.laws.proofs.Answered.{back}
use Rattle.laws.proofs.Asked.{is_call}
use Rattle.laws.proofs.Meetings.{woken}

module _ (Cpu : Type 0) (fresh : ℕ → Cpu) (act : Cpu → (ℕ → ℕ) → Act Cpu) where
  abbrev obj : World Cpu → ℕ → Object Cpu
  obj = object Cpu fresh act

  abbrev Now : Sizes → World Cpu → Event → ℕ → Sent → Type 0
  Now = AnsweredNow Cpu fresh act (does Cpu fresh act) (event Cpu fresh act)

  abbrev noted : Sizes → World Cpu → Event → List Note
  noted = event_noted Cpu fresh act (does Cpu fresh act)

  -- who is in a row is in it once
  in_names : (x : Wait) (ws : List Wait) → IsIn x ws → among (waits_thread Cpu fresh act x) (names Cpu fresh act ws) ≡ true
  unfolding among waiters
  in_names x ws (is_first {ws = vs}) = ap (λ (c : Bool). c || among (waits_thread Cpu fresh act x) (names Cpu fresh act vs)) (eq-eqb (waits_thread Cpu fresh act x) _ refl)
  in_names x ws (is_later i) = or_second _ _ (in_names x _ i)

  once_in : (x y : Wait) (ws : List Wait) → NoTwice Cpu fresh act (names Cpu fresh act ws) → IsIn x ws → IsIn y ws → waits_thread Cpu fresh act x ≡ waits_thread Cpu fresh act y → x ≡ y
  unfolding NoTwice waiters
  once_in x y ws n is_first is_first e = refl
  once_in x y ws n (is_first {ws = vs}) (is_later j) e = both_ways (in_names y vs j) (ap (λ (t : ℕ). among t (names Cpu fresh act vs)) (sym e) ∙ n.0)
  once_in x y ws n (is_later {ws = vs} i) is_first e = both_ways (in_names x vs i) (ap (λ (t : ℕ). among t (names Cpu fresh act vs)) e ∙ n.0)
  once_in x y ws n (is_later {ws = vs} i) (is_later j) e = once_in x y vs n.1 i j e

  -- a slot put or a thread woken takes no object away
  slots_live : (x : Object Cpu) (ss : List Slot) → with_slots Cpu fresh act x ss ≡ gone → x ≡ gone
  unfolding with_slots
  slots_live gone ss e = refl
  slots_live (pool f n u) ss e = clash (cc)
  slots_live (table f qs) ss e = clash (cc)
  slots_live (port f ws) ss e = clash (cc)
  slots_live (page f bs) ss e = clash (cc)
  slots_live (thread f s c t ps rs) ss e = clash (cc)
  slots_live (line xs ys) ss e = clash (cc)

  state_lives : (x : Object Cpu) (s : State Cpu) (c : Cpu) → set_state Cpu fresh act x s c ≡ gone → x ≡ gone
  unfolding set_state
  state_lives gone s c e = refl
  state_lives (pool f n u) s c e = clash (cc)
  state_lives (table f qs) s c e = clash (cc)
  state_lives (port f ws) s c e = clash (cc)
  state_lives (page f bs) s c e = clash (cc)
  state_lives (thread f q d t ps rs) s c e = clash (cc)
  state_lives (line xs ys) s c e = clash (cc)

  put_lives : (w : World Cpu) (p : ℕ) (y : Object Cpu) → (y ≡ gone → obj w p ≡ gone) → (o : ℕ) → obj (with_object Cpu fresh act w p y) o ≡ gone → obj w o ≡ gone
  unfolding with_object object
  put_lives w p y h o = set_by (λ (x : Object Cpu). x ≡ gone → get_or w.objects o gone ≡ gone) w.objects p o y gone (λ e g. ap (λ (i : ℕ). get_or w.objects i gone) (sym e) ∙ h g) (λ g. g)

  slot_lives : (w : World Cpu) (p d : ℕ) (y : Slot) (o : ℕ) → obj (with_slot Cpu fresh act w p d y) o ≡ gone → obj w o ≡ gone
  unfolding with_slot
  slot_lives w p d y o = put_lives w _ _ (slots_live _ _) o

  meeting_lives : (w : World Cpu) (h : Bool) (a s b d t : ℕ) (us : List ℕ) (o : ℕ) → obj (resumed Cpu fresh act (handed Cpu fresh act w h a s b d) t us) o ≡ gone → obj w o ≡ gone
  unfolding resumed handed
  meeting_lives w h a s b d t us o g =
      pick_both (λ (v : World Cpu). obj v o ≡ gone → obj w o ≡ gone) (h && (not (is_empty (slot Cpu fresh act w a s)) && (has_slot Cpu fresh act w b d && is_empty (slot Cpu fresh act w b d))))
      (λ e. slot_lives w b d _ o (slot_lives _ a s empty o e)) (λ e. e) (put_lives _ t _ (state_lives _ _ _) o g)

  -- WHAT IS NOTED OF AN EVENT is of no meeting at port o, or of one, of a message that is answered
  data Met (z : Sizes) (w : World Cpu) (e : Event) (o : ℕ) (ns : List Note) : Type 0 where
    nobody : met_at o ns ≡ [] → Met z w e o ns
    somebody : (x : Sent) (q : ℕ) → met_at o ns ≡ got_by x q ∷ [] → Now z w e o x → Met z w e o ns

  module _ (z : Sizes) {w : World Cpu} (i : Orderly Cpu fresh act w) (o p f a : ℕ) (c : Cpu) (ps : List ℕ) (rs : List Bool) (r : obj w p ≡ thread f ready c a ps rs) where
    -- the note of a meeting
    one_meeting : (k t q b : ℕ) (ws : List ℕ) (n : Note) → met_at o (n ∷ []) ≡ [] → met_at o (n ∷ meets k t q b ws ∷ []) ≡ met_at o (meets k t q b ws ∷ []) → (k ≡ o → Now z w (tick p) o (message t b ws)) → Met z w (tick p) o (n ∷ meets k t q b ws ∷ [])
    unfolding met_at
    one_meeting k t q b ws n e g now =
        same_or_not k o
        (λ h. somebody (message t b ws) q (g ∙ ap (λ (x : Bool). pick x (got_by (message t b ws) q ∷ []) []) (eq-eqb k o h)) (now h))
        (λ h. nobody (g ∙ ap (λ (x : Bool). pick x (got_by (message t b ws) q ∷ []) []) (ne_eqb k o h)))

    by_send : (hh : Bool) (s h : ℕ) (g : Bool) (us : List ℕ) (then : List ℕ → Cpu) → act c (seen Cpu fresh act z w ps) ≡ call (send s us g h) then → (ns : List Note) (G : Went Cpu fresh act) → does Cpu fresh act z w p (send s us g h) ≡ G →
        Coming Cpu fresh act w (port_at Cpu fresh act w p s) (sender p (slot_badge (slot Cpu fresh act w p s)) (take 4 us) hh g h) ns G → Met z w (tick p) o ns
    unfolding came met told is_sender met_at waits_thread port_at
    by_send hh s h g us then m ns G eq turned_away = nobody refl
    by_send hh s h g us then m ns G eq (comes_last e b) = nobody refl
    by_send hh s h g us then m ns G eq (meets_first (sender u b vs i1 j1 k1) h1 a1 s1 b1 d1 e n) = yes_no n
    by_send hh s h g us then m ns G eq (meets_first (receiver u l) h1 a1 s1 b1 d1 e n) =
        one_meeting (port_at Cpu fresh act w p s) p u _ _ _ refl refl (λ k. at_once p s h g us [] _ (it_calls f a c ps rs then refl r m) eq k)

    by_receive : (s d : ℕ) (then : List ℕ → Cpu) → act c (seen Cpu fresh act z w ps) ≡ call (receive s d) then → (ns : List Note) (G : Went Cpu fresh act) → does Cpu fresh act z w p (receive s d) ≡ G →
        Coming Cpu fresh act w (port_at Cpu fresh act w p s) (receiver p d) ns G → Met z w (tick p) o ns
    unfolding came met told is_sender met_at Woken waits_thread with_object went_on
    by_receive s d then m ns G eq turned_away = nobody refl
    by_receive s d then m ns G eq (comes_last e b) = nobody refl
    by_receive s d then m ns G eq (meets_first (receiver u l) h1 a1 s1 b1 d1 e n) = no_yes n
    by_receive s d then m ns G eq (meets_first {f = f1} {q = q1} (sender u b vs h2 g2 s2) h1 a1 s1 b1 d1 e n) =
        one_meeting K u p b vs _ refl refl (λ k.
        let y = woken Cpu fresh act z i p f a c ps rs r then K f1 q1 (sender u b vs h2 g2 s2) h1 a1 s1 b1 d1 (0 ∷ []) (0 ∷ b ∷ vs) e in
        after_waiting u b s2 f1 y.0 y.2 h2 g2 vs y.5 y.7 (sender u b vs h2 g2 s2 ∷ q1) _ (ap (obj w) (sym k) ∙ e) is_first (ap (λ (v : World Cpu). obj v u) at_event ∙ y.10)
        (λ g. there k (ap (λ (v : World Cpu). obj v o) (sym at_event) ∙ g)))
      where
        K : ℕ
        K = port_at Cpu fresh act w p s

        V : World Cpu
        V = went_on Cpu fresh act w p then (on (resumed Cpu fresh act (handed Cpu fresh act (with_object Cpu fresh act w K (port f1 q1)) h1 a1 s1 b1 d1) u (0 ∷ [])) (0 ∷ b ∷ vs))

        at_event : event Cpu fresh act z w (tick p) ≡ V
        at_event = (is_call Cpu fresh act z w p f a c ps rs (receive s d) then r m).0 ∙ ap (went_on Cpu fresh act w p then) eq

        there : K ≡ o → obj V o ≡ gone → ⊥
        there k g = port_there (subst (λ (j : ℕ). obj (with_object Cpu fresh act w K (port f1 q1)) j ≡ gone) (sym k) (meeting_lives _ h1 a1 s1 b1 d1 u (0 ∷ []) o (put_lives _ p _ (state_lives _ _ _) o g)))
          where
            port_there : obj (with_object Cpu fresh act w K (port f1 q1)) K ≡ gone → ⊥
            port_there g = clash (let l = put_here Cpu fresh act w K (port f1 q1) (λ j. clash (cc)) in cc)

    met_call : (d : Call) (then : List ℕ → Cpu) → act c (seen Cpu fresh act z w ps) ≡ call d then → Met z w (tick p) o (call_noted Cpu fresh act (does Cpu fresh act) z w p d)
    unfolding call_noted met_at
    met_call (cut s k d) then m = nobody refl
    met_call (copy s d q b) then m = nobody refl
    met_call (move s d) then m = nobody refl
    met_call (drop_it s) then m = nobody refl
    met_call (revoke s) then m = nobody refl
    met_call (send s us g h) then m = by_send _ s h g us then m _ _ refl (c_send Cpu fresh act p z w s us g h)
    met_call (receive s d) then m = by_receive s d then m _ _ refl (c_receive Cpu fresh act p z w s d)
    met_call (map s t b) then m = nobody refl
    met_call (unmap t b) then m = nobody refl
    met_call (bind t s) then m = nobody refl
    met_call (go t b) then m = nobody refl
    met_call (say s b) then m = nobody refl
    met_call (hear s) then m = nobody refl

    met_act : (x : Act Cpu) → act c (seen Cpu fresh act z w ps) ≡ x → Met z w (tick p) o (act_noted Cpu fresh act (does Cpu fresh act) z w p x)
    unfolding act_noted met_at
    met_act (quiet d) m = nobody refl
    met_act (store b bs d) m = nobody refl
    met_act (call d then) m = met_call d then m
    met_act wrong m = nobody refl

  met_tick : (z : Sizes) (w : World Cpu) → Orderly Cpu fresh act w → (o p : ℕ) (x : Object Cpu) → obj w p ≡ x → Met z w (tick p) o (tick_noted Cpu fresh act (does Cpu fresh act) z w p x)
  unfolding tick_noted met_at
  met_tick z w i o p gone r = nobody refl
  met_tick z w i o p (pool f n u) r = nobody refl
  met_tick z w i o p (table f ss) r = nobody refl
  met_tick z w i o p (port f ws) r = nobody refl
  met_tick z w i o p (page f bs) r = nobody refl
  met_tick z w i o p (thread f stopped c t ps rs) r = nobody refl
  met_tick z w i o p (thread f ready c t ps rs) r = met_act z i o p f t c ps rs r (act c (seen Cpu fresh act z w ps)) refl
  met_tick z w i o p (thread f (waits k then) c t ps rs) r = nobody refl
  met_tick z w i o p (line xs ys) r = nobody refl

  met_event : (z : Sizes) (w : World Cpu) → Orderly Cpu fresh act w → (e : Event) (o : ℕ) → Met z w e o (noted z w e)
  unfolding event_noted met_at
  met_event z w i (tick p) o = met_tick z w i o p (obj w p) refl
  met_event z w i (byte k b) o = nobody refl

  -- WHAT IS ANSWERED is noted as a meeting
  at_once_met : (z : Sizes) (w v : World Cpu) (p s h : ℕ) (g hh : Bool) (us vs : List ℕ) (ns : List Note) (G : Went Cpu fresh act) → Coming Cpu fresh act w (port_at Cpu fresh act w p s) (sender p (slot_badge (slot Cpu fresh act w p s)) (take 4 us) hh g h) ns G → G ≡ on v (0 ∷ vs) →
      (q : ℕ) × (met_at (port_at Cpu fresh act w p s) ns ≡ got_by (message p (slot_badge (slot Cpu fresh act w p s)) (take 4 us)) q ∷ [])
  unfolding came met told is_sender met_at refuse
  at_once_met z w v p s h g hh us vs ns G turned_away e = let l : ◌≡◌ {A = ℕ} 4294967295 0 = cc in absurd (omega arith)
  at_once_met z w v p s h g hh us vs ns G (comes_last q b) e = clash (cc)
  at_once_met z w v p s h g hh us vs ns G (meets_first (sender u b ws i1 j1 k1) h1 a1 s1 b1 d1 q n) e = yes_no n
  at_once_met z w v p s h g hh us vs ns G (meets_first (receiver u l) h1 a1 s1 b1 d1 q n) e =
      (u, ap (λ (x : Bool). pick x (got_by (message p (slot_badge (slot Cpu fresh act w p s)) (take 4 us)) u ∷ []) []) (eq-eqb (port_at Cpu fresh act w p s) _ refl))

  answered_met : (z : Sizes) (w : World Cpu) → Kinds Cpu fresh act w → Orderly Cpu fresh act w → Uncut Cpu fresh act w → (e : Event) (o : ℕ) (x : Sent) → Now z w e o x → (q : ℕ) × (met_at o (noted z w e) ≡ got_by x q ∷ [])
  unfolding call_noted port_at waits_thread row_of
  answered_met z w k i un e o x (at_once t s h g us vs v (it_calls f a c ps rs then ev r m) back_is port_is) =
      subst (λ (j : ℕ). (q : ℕ) × (met_at j (noted z w e) ≡ got_by (message t (slot_badge (slot Cpu fresh act w t s)) (take 4 us)) q ∷ [])) port_is
      (subst (λ (ns : List Note). (q : ℕ) × (met_at (port_at Cpu fresh act w t s) ns ≡ got_by (message t (slot_badge (slot Cpu fresh act w t s)) (take 4 us)) q ∷ []))
      (sym (ap (noted z w) ev ∙ (is_call Cpu fresh act z w t f a c ps rs (send s us g h) then r m).1))
      (at_once_met z w v t s h g _ us vs _ _ (c_send Cpu fresh act t z w s us g h) back_is))
  answered_met z w k i un e o x (after_waiting t b s f n a h g ws ps rs rw_ c port_is in_row goes there) = by_back (back Cpu fresh act k i un t y.0 o y.1 y.2 y.3 y.4 y.5 y.6 (happens Cpu fresh act z w e))
    where
      R : List Wait
      R = row_of Cpu fresh act (obj w o)

      in_it : IsIn (sender t b ws h g s) R
      in_it = subst (λ (vs : List Wait). IsIn (sender t b ws h g s) vs) (sym (ap (row_of Cpu fresh act) port_is)) in_row

      y : (f : ℕ) × (a : ℕ) × (c : Cpu) × (ps : List ℕ) × (rs : List Bool) × (then : List ℕ → Cpu) × (obj w t ≡ thread f (waits o then) c a ps rs)
      y = thread_of Cpu fresh act (obj w t) o (eqb-true _ _ (sym (i.tells o t) ∙ in_names (sender t b ws h g s) R in_it))

      by_back : Back Cpu fresh act R (noted z w e) (event Cpu fresh act z w e) t y.0 o y.5 → (q : ℕ) × (met_at o (noted z w e) ≡ got_by (message t b ws) q ∷ [])
      by_back (waits_on d l qs ms j) = clash (let q = sym j ∙ goes in cc)
      by_back (was_heard q d l u j m vs qs ms here noted_it at) = (q, noted_it ∙ ap {B = List Meeting} (λ (x : Sent). got_by x q ∷ []) (same (once_in (sender t d vs j m u) (sender t b ws h g s) R (i.once o) here in_it refl)))
        where
          same : sender t d vs j m u ≡ sender t b ws h g s → message t d vs ≡ message t b ws
          same q = cc
      by_back (was_told q d l u vs qs ms here noted_it at) = clash (let q = once_in (receiver t u) (sender t b ws h g s) R (i.once o) here in_it refl in cc)
      by_back (was_ended l qs ms g at) = absurd (there g)

  -- A WHOLE ROW OF EVENTS
  module _ (z : Sizes) (o : ℕ) where
    abbrev All : World Cpu → List Event → List Sent → Type 0
    All = Answers Cpu fresh act (does Cpu fresh act) (event Cpu fresh act) z o

    abbrev logged : World Cpu → List Event → List Note
    logged = log Cpu fresh act (does Cpu fresh act) (event Cpu fresh act) z

    -- the messages of two rows of notes
    messages_on : (ns ms : List Note) → messages (met_at o (ns ++ ms)) ≡ messages (met_at o ns ++ met_at o ms)
    messages_on ns ms = ap messages (met-++ o ns ms)

    answers_are : (w : World Cpu) (es : List Event) → Kinds Cpu fresh act w → Orderly Cpu fresh act w → Uncut Cpu fresh act w → All w es (messages (met_at o (logged w es)))
    unfolding log met_at messages
    answers_are w [] k i u = no_more
    answers_are w (e ∷ es) k i u = subst (All w (e ∷ es)) (sym (messages_on (noted z w e) (logged (event Cpu fresh act z w e) es)))
        (go (met_event z w i e o) (answers_are (event Cpu fresh act z w e) es (kinds_event Cpu fresh act z w e k) (orderly_event Cpu fresh act k (happens Cpu fresh act z w e) i) (uncut_event Cpu fresh act z w e u)))
      where
        rest : List Meeting
        rest = met_at o (logged (event Cpu fresh act z w e) es)

        go : Met z w e o (noted z w e) → All (event Cpu fresh act z w e) es (messages rest) → All w (e ∷ es) (messages (met_at o (noted z w e) ++ rest))
        go (nobody h) a = subst (λ (ms : List Meeting). All w (e ∷ es) (messages (ms ++ rest))) (sym h) (none_now (λ x n. let m = answered_met z w k i u e o x n in clash (let q = sym h ∙ m.1 in cc)) a)
        go (somebody x q h n) a = subst (λ (ms : List Meeting). All w (e ∷ es) (messages (ms ++ rest))) (sym h) (one_now n a)

    answers_only : (w : World Cpu) (es : List Event) (xs : List Sent) → Kinds Cpu fresh act w → Orderly Cpu fresh act w → Uncut Cpu fresh act w → All w es xs → xs ≡ messages (met_at o (logged w es))
    unfolding log met_at messages
    answers_only w [] xs k i u no_more = refl
    answers_only w (e ∷ es) xs k i u (one_now {x = x} {xs = ys} n a) =
        let m = answered_met z w k i u e o x n in
        ap {B = List Sent} (λ (zs : List Sent). x ∷ zs) (answers_only (event Cpu fresh act z w e) es ys (kinds_event Cpu fresh act z w e k) (orderly_event Cpu fresh act k (happens Cpu fresh act z w e) i) (uncut_event Cpu fresh act z w e u) a) ∙
        ap (λ (ms : List Meeting). messages (ms ++ met_at o (logged (event Cpu fresh act z w e) es))) (sym m.1) ∙ sym (messages_on (noted z w e) (logged (event Cpu fresh act z w e) es))
    answers_only w (e ∷ es) xs k i u (none_now n a) =
        answers_only (event Cpu fresh act z w e) es xs (kinds_event Cpu fresh act z w e k) (orderly_event Cpu fresh act k (happens Cpu fresh act z w e) i) (uncut_event Cpu fresh act z w e u) a ∙ go (met_event z w i e o) ∙
        sym (messages_on (noted z w e) (logged (event Cpu fresh act z w e) es))
      where
        rest : List Meeting
        rest = met_at o (logged (event Cpu fresh act z w e) es)

        go : Met z w e o (noted z w e) → messages rest ≡ messages (met_at o (noted z w e) ++ rest)
        go (nobody h) = ap (λ (ms : List Meeting). messages (ms ++ rest)) (sym h)
        go (somebody x q h m) = absurd (n x m)

  pub sent_once : SentOnce Cpu fresh act
  unfolding SentOnce SentOnceIn
  sent_once z v es o one start k u = (
    answers_are z o v es k (orderly_first Cpu fresh act v start) u,
    λ xs a. answers_only z o v es xs k (orderly_first Cpu fresh act v start) u a,
  )
