-- First come, first met: the first who came to send at a port met the first who came to receive there, and so on, each getting what was sent.
use mathlib.Core.Path.{◌≡◌, refl, sym, ap, subst, ◌∙◌}
use mathlib.Core.Bool.{Bool, true, false, ◌||◌, not}
use mathlib.Core.List.{List, [], ◌∷◌, ◌++◌, append_assoc}
use mathlib.Core.Logic.{◌⊎◌, inl, inr}
use Prim.Native.Nat.{ℕ, suc, ◌<◌}
use native.Mathlib.Omega.{arith}
use lib.Dec.{eqb}
use borrow.Author.Tests.{eqb-true, eq-eqb, ne_eqb}
use lib.ListN.{length, get_or}
use Rattle.rights.specs.World.{does, pick, Slot, Act, Wait, sender, receiver, State, stopped, ready, waits, Object, gone, thread, line, Sizes, World, Event}
use Rattle.rights.specs.World.{among, object, with_object, from_of, waits_thread, without_threads, cleared, set_state, went_on, event, run}
use Rattle.rights.specs.Promise.{FirstComeIn, waiters, Kinds, Uncut, Note, sends, receives, meets, Sent, message, Meeting, got_by, sent_at, asked_at, met_at}
use Rattle.rights.specs.Promise.{paired, row_of, event_noted, log, FirstCome}
use Rattle.laws.proofs.Tests.{yes_no, no_yes, clash, either_way, same_or_not, not_true, set_by, inside}
use Rattle.laws.proofs.Steps.{is_sender, came, met, Turn, kept, spoken, stored, mapped, bound, ran, rowed, drawn, slotted, cut_new, AllCut}
use Rattle.laws.proofs.Steps.{AllGone, one, waits_at, view, waiting_of, goes, sweeps, rests, joins, Outcome, nothing, heard, stops, calls}
use Rattle.laws.proofs.Sweeping.{AfterSweep, lost, untouched, slots_go, waits_go, goes_calm, goes_waiting, goes_woken, len_clean, swept_at}
use Rattle.laws.proofs.Moves.{alike_set}
use Rattle.laws.proofs.Pass.{happens, steps_of, steps_keep, event_keeps}
use Rattle.laws.proofs.Places.{made_no_thread, kinds_small, kinds_sweep, kinds_event}
use Rattle.laws.proofs.Rows.{AllAs, OneSide, row, names, Orderly, swept_row, rows_stay, changed_rests, changed_joins, first_waits, orderly_event}
use Rattle.laws.proofs.Dangles.{calm_row, orderly_first, thread_of}

-- what those in a row came to send, and who of them came to receive
msgs : List Wait → List Sent
msgs [] = []
msgs (sender t b ws h g s ∷ q) = message t b ws ∷ msgs q
msgs (receiver t d ∷ q) = msgs q

asks : List Wait → List ℕ
asks [] = []
asks (sender t b ws h g s ∷ q) = asks q
asks (receiver t d ∷ q) = t ∷ asks q

-- notes one after the other
sent-++ : (o : ℕ) (ns ls : List Note) → sent_at o (ns ++ ls) ≡ sent_at o ns ++ sent_at o ls
unfolding sent_at
sent-++ o [] ls = refl
sent-++ o (sends k t b ws ∷ ns) ls = go (eqb k o) (sent-++ o ns ls)
  where
    go : (c : Bool) → sent_at o (ns ++ ls) ≡ sent_at o ns ++ sent_at o ls → pick c (message t b ws ∷ sent_at o (ns ++ ls)) (sent_at o (ns ++ ls)) ≡ pick c (message t b ws ∷ sent_at o ns) (sent_at o ns) ++ sent_at o ls
    go true r = ap {B = List Sent} (λ xs. message t b ws ∷ xs) r
    go false r = r
sent-++ o (receives k t ∷ ns) ls = sent-++ o ns ls
sent-++ o (meets k t q b ws ∷ ns) ls = sent-++ o ns ls

asked-++ : (o : ℕ) (ns ls : List Note) → asked_at o (ns ++ ls) ≡ asked_at o ns ++ asked_at o ls
unfolding asked_at
asked-++ o [] ls = refl
asked-++ o (sends k t b ws ∷ ns) ls = asked-++ o ns ls
asked-++ o (receives k t ∷ ns) ls = go (eqb k o) (asked-++ o ns ls)
  where
    go : (c : Bool) → asked_at o (ns ++ ls) ≡ asked_at o ns ++ asked_at o ls → pick c (t ∷ asked_at o (ns ++ ls)) (asked_at o (ns ++ ls)) ≡ pick c (t ∷ asked_at o ns) (asked_at o ns) ++ asked_at o ls
    go true r = ap {B = List ℕ} (λ xs. t ∷ xs) r
    go false r = r
asked-++ o (meets k t q b ws ∷ ns) ls = asked-++ o ns ls

pub met-++ : (o : ℕ) (ns ls : List Note) → met_at o (ns ++ ls) ≡ met_at o ns ++ met_at o ls
unfolding met_at
met-++ o [] ls = refl
met-++ o (sends k t b ws ∷ ns) ls = met-++ o ns ls
met-++ o (receives k t ∷ ns) ls = met-++ o ns ls
met-++ o (meets k t q b ws ∷ ns) ls = go (eqb k o) (met-++ o ns ls)
  where
    go : (c : Bool) → met_at o (ns ++ ls) ≡ met_at o ns ++ met_at o ls → pick c (got_by (message t b ws) q ∷ met_at o (ns ++ ls)) (met_at o (ns ++ ls)) ≡ pick c (got_by (message t b ws) q ∷ met_at o ns) (met_at o ns) ++ met_at o ls
    go true r = ap {B = List Meeting} (λ xs. got_by (message t b ws) q ∷ xs) r
    go false r = r

-- nothing of it is at port o
record Elsewhere (o : ℕ) (ns : List Note) : Type 0 where
  no_sent : sent_at o ns ≡ []
  no_asked : asked_at o ns ≡ []
  no_met : met_at o ns ≡ []

-- the notes of an event, with the row before and the row after
data At (o : ℕ) : List Note → List Wait → List Wait → Type 0 where
  apart : {ns : List Note} {q : List Wait} → Elsewhere o ns → At o ns q q
  last : {q : List Wait} (x : Wait) → At o (came o x ∷ []) q (q ++ x ∷ [])
  first : {q : List Wait} (x y : Wait) → is_sender x ≡ not (is_sender y) → At o (came o x ∷ met o x y) (y ∷ q) q

-- what was noted so far and who waits give what is met from here on
Fits : ℕ → List Wait → List Note → Type 0
Fits o q ls = met_at o ls ≡ paired (msgs q ++ sent_at o ls) (asks q ++ asked_at o ls)

-- a row of one side has senders or receivers only
senders_only : (x : Wait) (q : List Wait) → is_sender x ≡ true → AllAs x q → asks q ≡ []
unfolding AllAs asks is_sender
senders_only x [] e h = refl
senders_only x (sender t b ws i g s ∷ q) e (h, r) = senders_only x q e r
senders_only x (receiver t d ∷ q) e (h, r) = no_yes (h ∙ e)

receivers_only : (x : Wait) (q : List Wait) → is_sender x ≡ false → AllAs x q → msgs q ≡ []
unfolding AllAs msgs is_sender
receivers_only x [] e h = refl
receivers_only x (sender t b ws i g s ∷ q) e (h, r) = yes_no (h ∙ e)
receivers_only x (receiver t d ∷ q) e (h, r) = receivers_only x q e r

msgs-++ : (q : List Wait) (x : Wait) → msgs (q ++ x ∷ []) ≡ msgs q ++ msgs (x ∷ [])
unfolding msgs
msgs-++ [] x = refl
msgs-++ (sender t b ws h g s ∷ q) x = ap {B = List Sent} (λ xs. message t b ws ∷ xs) (msgs-++ q x)
msgs-++ (receiver t d ∷ q) x = msgs-++ q x

asks-++ : (q : List Wait) (x : Wait) → asks (q ++ x ∷ []) ≡ asks q ++ asks (x ∷ [])
unfolding asks
asks-++ [] x = refl
asks-++ (sender t b ws h g s ∷ q) x = asks-++ q x
asks-++ (receiver t d ∷ q) x = ap {B = List ℕ} (λ xs. t ∷ xs) (asks-++ q x)

regroup : {A : Type 0} (xs ys : List A) (x : A) → (xs ++ x ∷ []) ++ ys ≡ xs ++ x ∷ ys
regroup xs ys x = append_assoc xs (x ∷ []) ys

drop_none : {A : Type 0} (xs ys : List A) → (xs ++ []) ++ ys ≡ xs ++ ys
drop_none xs ys = append_assoc xs [] ys

-- an event's notes put before the rest
fits_on : (o : ℕ) {ns : List Note} {q r : List Wait} (ls : List Note) → At o ns q r → OneSide q → Fits o r ls → Fits o q (ns ++ ls)
unfolding Fits is_sender came met sent_at asked_at met_at msgs asks OneSide paired
fits_on o {ns} {q} ls (apart e) a h = rw (sent-++ o ns ls, asked-++ o ns ls, met-++ o ns ls, e.no_sent, e.no_asked, e.no_met) h
fits_on o {q = q} ls (last (sender t b ws i g s)) a h =
    rw (eq-eqb o o refl) (
    let e : msgs (q ++ sender t b ws i g s ∷ []) ++ sent_at o ls ≡ msgs q ++ message t b ws ∷ sent_at o ls = ap (λ (xs : List Sent). xs ++ sent_at o ls) (msgs-++ q (sender t b ws i g s)) ∙ regroup (msgs q) (sent_at o ls) (message t b ws) in
    let f : asks (q ++ sender t b ws i g s ∷ []) ++ asked_at o ls ≡ asks q ++ asked_at o ls = ap (λ (xs : List ℕ). xs ++ asked_at o ls) (asks-++ q (sender t b ws i g s)) ∙ drop_none (asks q) (asked_at o ls) in
    h ∙ ap (λ (xs : List Sent). paired xs (asks (q ++ sender t b ws i g s ∷ []) ++ asked_at o ls)) e ∙ ap (λ (xs : List ℕ). paired (msgs q ++ message t b ws ∷ sent_at o ls) xs) f)
fits_on o {q = q} ls (last (receiver t d)) a h =
    rw (eq-eqb o o refl) (
    let e : msgs (q ++ receiver t d ∷ []) ++ sent_at o ls ≡ msgs q ++ sent_at o ls = ap (λ (xs : List Sent). xs ++ sent_at o ls) (msgs-++ q (receiver t d)) ∙ drop_none (msgs q) (sent_at o ls) in
    let f : asks (q ++ receiver t d ∷ []) ++ asked_at o ls ≡ asks q ++ t ∷ asked_at o ls = ap (λ (xs : List ℕ). xs ++ asked_at o ls) (asks-++ q (receiver t d)) ∙ regroup (asks q) (asked_at o ls) t in
    h ∙ ap (λ (xs : List Sent). paired xs (asks (q ++ receiver t d ∷ []) ++ asked_at o ls)) e ∙ ap (λ (xs : List ℕ). paired (msgs q ++ sent_at o ls) xs) f)
fits_on o ls (first (sender t b ws i g s) (sender u c vs j k r) e) a h = yes_no e
fits_on o {r = q} ls (first (sender t b ws i g s) (receiver u d) e) a h =
    let n = receivers_only (receiver u d) q refl a in
    rw (eq-eqb o o refl, n) (ap {B = List Meeting} (λ xs. got_by (message t b ws) u ∷ xs) (h ∙ ap (λ (xs : List Sent). paired (xs ++ sent_at o ls) (asks q ++ asked_at o ls)) n))
fits_on o {r = q} ls (first (receiver u d) (sender t b ws i g s) e) a h =
    let n = senders_only (sender t b ws i g s) q refl a in
    rw (eq-eqb o o refl, n) (ap {B = List Meeting} (λ xs. got_by (message t b ws) u ∷ xs) (h ∙ ap (λ (xs : List ℕ). paired (msgs q ++ sent_at o ls) (xs ++ asked_at o ls)) n))
fits_on o ls (first (receiver t d) (receiver u c) e) a h = no_yes e

-- where nothing is noted any more, nobody is met any more
fits_end : (o : ℕ) (q : List Wait) (ls : List Note) → OneSide q → Elsewhere o ls → Fits o q ls
unfolding Fits OneSide msgs asks paired is_sender
fits_end o [] ls a e = rw (e.no_sent, e.no_met) refl
fits_end o (sender t b ws i g s ∷ q) ls a e = rw (e.no_met, senders_only (sender t b ws i g s) q refl a, e.no_asked) refl
fits_end o (receiver t d ∷ q) ls a e = rw (e.no_met, receivers_only (receiver t d) q refl a, e.no_sent) refl

-- notes of another port
elsewhere_none : (o : ℕ) → Elsewhere o []
unfolding sent_at asked_at met_at
elsewhere_none o = record { no_sent = refl; no_asked = refl; no_met = refl }

elsewhere-++ : (o : ℕ) (ns ls : List Note) → Elsewhere o ns → Elsewhere o ls → Elsewhere o (ns ++ ls)
elsewhere-++ o ns ls a b =
    record { no_sent = rw (sent-++ o ns ls, a.no_sent, b.no_sent) refl; no_asked = rw (asked-++ o ns ls, a.no_asked, b.no_asked) refl; no_met = rw (met-++ o ns ls, a.no_met, b.no_met) refl }

elsewhere_came : (o k : ℕ) (x : Wait) → (k ≡ o → ⊥) → Elsewhere o (came k x ∷ [])
unfolding came sent_at asked_at met_at
elsewhere_came o k (sender t b ws h g s) n = record { no_sent = rw (ne_eqb k o n) refl; no_asked = refl; no_met = refl }
elsewhere_came o k (receiver t d) n = record { no_sent = refl; no_asked = rw (ne_eqb k o n) refl; no_met = refl }

elsewhere_met : (o k : ℕ) (x y : Wait) → (k ≡ o → ⊥) → Elsewhere o (met k x y)
unfolding met sent_at asked_at met_at
elsewhere_met o k (sender t b ws h g s) (sender u c vs i j r) n = record { no_sent = refl; no_asked = refl; no_met = refl }
elsewhere_met o k (sender t b ws h g s) (receiver u d) n = record { no_sent = refl; no_asked = refl; no_met = rw (ne_eqb k o n) refl }
elsewhere_met o k (receiver u d) (sender t b ws h g s) n = record { no_sent = refl; no_asked = refl; no_met = rw (ne_eqb k o n) refl }
elsewhere_met o k (receiver t d) (receiver u c) n = record { no_sent = refl; no_asked = refl; no_met = refl }

module _ (Cpu : Type 0) (fresh : ℕ → Cpu) (act : Cpu → (ℕ → ℕ) → Act Cpu) where
  abbrev obj : World Cpu → ℕ → Object Cpu
  obj = object Cpu fresh act

  -- threads stay uncut
  turn_uncut : {w : World Cpu} {new : Slot} {u : ℕ} {x y : Object Cpu} → Turn Cpu fresh act w new u x y →
      ((f t : ℕ) (s : State Cpu) (c : Cpu) (ps : List ℕ) (rs : List Bool) → x ≡ thread f s c t ps rs → f ≡ 0) → (f t : ℕ) (s : State Cpu) (c : Cpu) (ps : List ℕ) (rs : List Bool) → y ≡ thread f s c t ps rs → f ≡ 0
  turn_uncut kept h f t s c ps rs e = h f t s c ps rs e
  turn_uncut spoken h f t s c ps rs e = clash (cc)
  turn_uncut (stored p k i g) h f t s c ps rs e = clash (cc)
  turn_uncut (mapped g) h f t s c ps rs e = let i = h _ _ _ _ _ _ refl in cc
  turn_uncut (bound g) h f t s c ps rs e = let i = h _ _ _ _ _ _ refl in cc
  turn_uncut ran h f t s c ps rs e = let i = h _ _ _ _ _ _ refl in cc
  turn_uncut rowed h f t s c ps rs e = clash (cc)
  turn_uncut (drawn g) h f t s c ps rs e = clash (cc)
  turn_uncut (slotted l g) h f t s c ps rs e = clash (cc)
  turn_uncut (cut_new o z k l g) h f t s c ps rs e = absurd (made_no_thread Cpu fresh act z (suc o) k f t s c ps rs e)

  swept_uncut : {ids os : List ℕ} {u : ℕ} {x y : Object Cpu} → AfterSweep Cpu fresh act ids os u x y →
      ((f t : ℕ) (s : State Cpu) (c : Cpu) (ps : List ℕ) (rs : List Bool) → x ≡ thread f s c t ps rs → f ≡ 0) → (f t : ℕ) (s : State Cpu) (c : Cpu) (ps : List ℕ) (rs : List Bool) → y ≡ thread f s c t ps rs → f ≡ 0
  swept_uncut (lost l) h f t s c ps rs e = clash (cc)
  swept_uncut (untouched l a b d) h f t s c ps rs e = h f t s c ps rs e
  swept_uncut (slots_go ss l) h f t s c ps rs e = clash (cc)
  swept_uncut (waits_go ws l) h f t s c ps rs e = clash (cc)
  swept_uncut (goes_calm k ns l g) h f t s c ps rs e = let i = h _ _ _ _ _ _ refl in cc
  swept_uncut (goes_waiting k ns l g) h f t s c ps rs e = let i = h _ _ _ _ _ _ refl in cc
  swept_uncut (goes_woken o then k ns l g) h f t s c ps rs e = let i = h _ _ _ _ _ _ refl in cc

  pub uncut_event : (z : Sizes) (w : World Cpu) (e : Event) → Uncut Cpu fresh act w → Uncut Cpu fresh act (event Cpu fresh act z w e)
  unfolding Uncut
  uncut_event = event_keeps Cpu fresh act (Uncut Cpu fresh act) (λ w v c h o. turn_uncut (c.turns o) (h o)) (λ w ids os c h o. swept_uncut (swept_at Cpu fresh act w ids os o) (h o))

  pub uncut_run : (z : Sizes) (w : World Cpu) (es : List Event) → Uncut Cpu fresh act w → Uncut Cpu fresh act (run Cpu fresh act z w es)
  unfolding run
  uncut_run z w [] h = h
  uncut_run z w (e ∷ es) h = uncut_run z (event Cpu fresh act z w e) es (uncut_event z w e h)

  -- a port that is gone stays so, and nothing is noted of it
  Dead : ℕ → World Cpu → Type 0
  Dead o w = Kinds Cpu fresh act w × (o < length w.objects) × (obj w o ≡ gone)

  turn_dead : {w : World Cpu} {new : Slot} {u : ℕ} {x y : Object Cpu} → Kinds Cpu fresh act w → u < length w.objects → Turn Cpu fresh act w new u x y → obj w u ≡ x → x ≡ gone → y ≡ gone
  turn_dead k l kept q e = e
  turn_dead k l spoken q e = clash (cc)
  turn_dead {u} k l (stored p i {f} {a} {s} {c} {ps} {rs = rs} r n) q e = let y = k.its_pages p f a i u s c ps rs r n in let m = y.2 in clash (cc)
  turn_dead k l (mapped g) q e = clash (cc)
  turn_dead k l (bound g) q e = clash (cc)
  turn_dead k l ran q e = clash (cc)
  turn_dead k l rowed q e = clash (cc)
  turn_dead k l (drawn g) q e = clash (cc)
  turn_dead k l (slotted m g) q e = clash (cc)
  turn_dead k l (cut_new o z j i g) q e = absurd (omega arith)

  swept_dead : {ids os : List ℕ} {u : ℕ} {x y : Object Cpu} → AfterSweep Cpu fresh act ids os u x y → x ≡ gone → y ≡ gone
  swept_dead (lost l) e = refl
  swept_dead (untouched l a b d) e = e
  swept_dead (slots_go ss l) e = clash (cc)
  swept_dead (waits_go ws l) e = clash (cc)
  swept_dead (goes_calm k ns l g) e = clash (cc)
  swept_dead (goes_waiting k ns l g) e = clash (cc)
  swept_dead (goes_woken o then k ns l g) e = clash (cc)

  dead_event : (o : ℕ) (z : Sizes) (w : World Cpu) (e : Event) → Dead o w → Dead o (event Cpu fresh act z w e)
  unfolding Dead cleared
  dead_event o =
      event_keeps Cpu fresh act (Dead o)
      (λ w v c h. (kinds_small Cpu fresh act h.0 c, (let g = c.grows in let l = h.1 in omega arith), turn_dead h.0 h.1 (c.turns o) refl h.2))
      (λ w ids os c h. (kinds_sweep Cpu fresh act h.0 ids os c, subst (λ (n : ℕ). o < n) (sym (len_clean Cpu fresh act ids os 0 w.objects)) h.1, swept_dead (swept_at Cpu fresh act w ids os o) h.2))

  dead_noted : (o : ℕ) {w v : World Cpu} {ns : List Note} → Outcome Cpu fresh act w ns v → obj w o ≡ gone → Elsewhere o ns
  dead_noted o nothing d = elsewhere_none o
  dead_noted o (heard k zs e) d = elsewhere_none o
  dead_noted o (stops p e) d = elsewhere_none o
  dead_noted o (calls p then e (goes ws s al)) d = elsewhere_none o
  dead_noted o (calls p then e (sweeps ws ids os s al se ac ag)) d = elsewhere_none o
  dead_noted o {w} (calls p then e (rests {o = k} {f} {ws} x s at t b)) d = elsewhere_came o k x (λ q. let h : obj w k ≡ gone = ap (λ (i : ℕ). obj w i) q ∙ d in clash (cc))
  dead_noted o {w} (calls p then e (joins k {f} {q} x y h u l b c s at t n)) d =
      let other : (k ≡ o → ⊥) = (λ r. let m : obj w k ≡ gone = ap (λ (i : ℕ). obj w i) r ∙ d in clash (cc)) in elsewhere-++ o (came k x ∷ []) (met k x y) (elsewhere_came o k x other) (elsewhere_met o k x y other)

  dead_log : (o : ℕ) (z : Sizes) (w : World Cpu) (es : List Event) → Dead o w → Elsewhere o (log Cpu fresh act (does Cpu fresh act) (event Cpu fresh act) z w es)
  unfolding log Dead
  dead_log o z w [] d = elsewhere_none o
  dead_log o z w (e ∷ es) d = elsewhere-++ o _ _ (dead_noted o (happens Cpu fresh act z w e) d.2) (dead_log o z (event Cpu fresh act z w e) es (dead_event o z w e d))

  -- a row loses nobody in a sweep, if threads were not cut
  keeps_all : (os : List ℕ) (ws : List Wait) → ((t : ℕ) → among t (names Cpu fresh act ws) ≡ true → among t os ≡ false) → without_threads Cpu fresh act os ws ≡ ws
  unfolding without_threads waiters among
  keeps_all os [] h = refl
  keeps_all os (x ∷ ws) h =
      let t = waits_thread Cpu fresh act x in
      rw (h t (ap (λ (c : Bool). c || among t (names Cpu fresh act ws)) (eq-eqb t t refl))) (ap {B = List Wait} (λ q. x ∷ q) (keeps_all os ws (λ u g. h u (or_yes (eqb u t) _ g))))
    where
      or_yes : (a b : Bool) → b ≡ true → (a || b) ≡ true
      or_yes true b e = refl
      or_yes false b e = e

  row_uncut : {w : World Cpu} → Orderly Cpu fresh act w → Uncut Cpu fresh act w → (os : List ℕ) → AllCut Cpu fresh act w os → (o : ℕ) → without_threads Cpu fresh act os (row Cpu fresh act w o) ≡ row Cpu fresh act w o
  unfolding Uncut AllCut from_of
  row_uncut {w} i h os c o = keeps_all os (row Cpu fresh act w o) safe
    where
      safe : (t : ℕ) → among t (names Cpu fresh act (row Cpu fresh act w o)) ≡ true → among t os ≡ false
      safe t g =
          let y = thread_of Cpu fresh act (obj w t) o (eqb-true _ _ (sym (i.tells o t) ∙ g)) in
          not_true (among t os) (λ m. c t m (ap (from_of Cpu fresh act) y.6 ∙ h t y.0 y.1 (waits o y.5) y.2 y.3 y.4 y.6))

  -- what was there stays in range
  ranged : (o : ℕ) {w v : World Cpu} {ns : List Note} → Outcome Cpu fresh act w ns v → o < length w.objects → o < length v.objects
  unfolding cleared
  ranged o h l =
      steps_keep Cpu fresh act (λ w. o < length w.objects) (λ w v c k. let g = c.grows in omega arith) (λ w ids os c k. subst (λ (n : ℕ). o < n) (sym (len_clean Cpu fresh act ids os 0 w.objects)) k) (steps_of Cpu fresh act h) l

  pub gone_state : (w : World Cpu) (p o : ℕ) (s : State Cpu) (c : Cpu) → obj w o ≡ gone → obj (with_object Cpu fresh act w p (set_state Cpu fresh act (obj w p) s c)) o ≡ gone
  unfolding with_object object set_state
  gone_state w p o s c g =
      set_by (λ (y : Object Cpu). y ≡ gone) w.objects p o _ gone (λ e. ap (λ (y : Object Cpu). set_state Cpu fresh act y s c) (ap (λ (i : ℕ). get_or w.objects i gone) e ∙ g)) g

  -- what an event is for port o: it comes to a row before and a row after, or the port is gone
  module _ (o : ℕ) {w : World Cpu} (k : Kinds Cpu fresh act w) (i : Orderly Cpu fresh act w) (u : Uncut Cpu fresh act w) where
    SeenAt : World Cpu → List Note → Type 0
    SeenAt v ns = At o ns (row Cpu fresh act w o) (row Cpu fresh act v o) ⊎ (Dead o v × Elsewhere o ns)

    sees_same : (v : World Cpu) → row Cpu fresh act v o ≡ row Cpu fresh act w o → SeenAt v []
    unfolding SeenAt
    sees_same v e = inl (subst (λ (q : List Wait). At o [] (row Cpu fresh act w o) q) (sym e) (apart (elsewhere_none o)))

    sees : {v : World Cpu} {ns : List Note} → Kinds Cpu fresh act v → Outcome Cpu fresh act w ns v → SeenAt v ns
    unfolding SeenAt Dead went_on row_of waits_at view waiting_of from_of object AllCut AllGone
    sees kv nothing = sees_same w refl
    sees {v} kv (heard a {xs} {ys} zs e) = sees_same v (alike_set Cpu fresh act w a (line xs ys) (line xs zs) e (record { rows = refl; ports = refl; goes_on = refl }) o).rows
    sees {v} kv (stops p e) = sees_same v (rows_stay Cpu fresh act w p o stopped (fresh 0))
    sees {v} kv (calls p then e (goes {v = x} ws s al)) = sees_same v (rows_stay Cpu fresh act x p o ready (then ws) ∙ (al k o).rows)
    sees {v} kv (calls p then e (sweeps {v = x} ws ids os s al se ac ag)) = either_way (among o os)
        (λ h. inr ((kv, ranged o (calls p then e (sweeps {v = x} ws ids os s al se ac ag)) (inside w.objects o gone (λ g. ac o h (ap (from_of Cpu fresh act) g))), gone_state x p o ready (then ws) (ag o h)), elsewhere_none o))
        (λ h. sees_same v (rows_stay Cpu fresh act x p o ready (then ws) ∙ (al o).rows ∙ swept_row Cpu fresh act (swept_at Cpu fresh act w ids os o) ∙
        ap (λ (c : Bool). pick c [] (without_threads Cpu fresh act os (row Cpu fresh act w o))) h ∙ row_uncut i u os ac o))
    sees {v} kv (calls p {f} {a} {c} {ps} {rs} then e (rests {o = n} {f = g} {ws} x s at t b)) =
        let ch = changed_rests Cpu fresh act w n g p f a ws x c ps rs then at e in
        same_or_not n o
        (λ q. inl (subst (λ (m : ℕ). At o (came m x ∷ []) (row Cpu fresh act w o) (row Cpu fresh act v o)) (sym q)
        (subst (λ (r : List Wait). At o (came o x ∷ []) (row Cpu fresh act w o) r) (sym (ap (λ (m : ℕ). row Cpu fresh act v m) (sym q) ∙ ch.here ∙ ap (λ (m : ℕ). row Cpu fresh act w m ++ x ∷ []) q)) (last x))))
        (λ d. inl (subst (λ (r : List Wait). At o (came n x ∷ []) (row Cpu fresh act w o) r) (sym (ch.elsewhere o (λ q. d (sym q)))) (apart (elsewhere_came o n x d))))
    sees {v} kv (calls p {f} {a} {c} {ps} {rs} then e (joins n {f = g} {q = r} x y h b1 b2 b3 b4 s at t op)) =
        let ch = changed_joins Cpu fresh act w n g p f a r x y h b1 b2 b3 b4 c ps rs then at e (first_waits Cpu fresh act i n g y r at) in
        same_or_not n o
        (λ q. inl (subst (λ (m : ℕ). At o (came m x ∷ met m x y) (row Cpu fresh act w o) (row Cpu fresh act v o)) (sym q)
        (subst (λ (l : List Wait). At o (came o x ∷ met o x y) l (row Cpu fresh act v o)) (sym (ap (λ (m : ℕ). row Cpu fresh act w m) (sym q) ∙ ap (row_of Cpu fresh act) at))
        (subst (λ (l : List Wait). At o (came o x ∷ met o x y) (y ∷ r) l) (sym (ap (λ (m : ℕ). row Cpu fresh act v m) (sym q) ∙ ch.here)) (first x y op)))))
        (λ d. inl (subst (λ (l : List Wait). At o (came n x ∷ met n x y) (row Cpu fresh act w o) l) (sym (ch.elsewhere o (λ q. d (sym q)))) (apart (elsewhere-++ o (came n x ∷ []) (met n x y) (elsewhere_came o n x d) (elsewhere_met o n x y d)))))

  fits_all : (o : ℕ) (z : Sizes) (w : World Cpu) (es : List Event) → Kinds Cpu fresh act w → Orderly Cpu fresh act w → Uncut Cpu fresh act w → Fits o (row Cpu fresh act w o) (log Cpu fresh act (does Cpu fresh act) (event Cpu fresh act) z w es)
  unfolding log SeenAt
  fits_all o z w [] k i u = fits_end o (row Cpu fresh act w o) [] (i.sides o) (elsewhere_none o)
  fits_all o z w (e ∷ es) k i u = go (sees o k i u k' (happens Cpu fresh act z w e)) (fits_all o z (event Cpu fresh act z w e) es k' (orderly_event Cpu fresh act k (happens Cpu fresh act z w e) i) (uncut_event z w e u))
    where
      k' : Kinds Cpu fresh act (event Cpu fresh act z w e)
      k' = kinds_event Cpu fresh act z w e k

      rest : List Note
      rest = log Cpu fresh act (does Cpu fresh act) (event Cpu fresh act) z (event Cpu fresh act z w e) es

      go : At o (event_noted Cpu fresh act (does Cpu fresh act) z w e) (row Cpu fresh act w o) (row Cpu fresh act (event Cpu fresh act z w e) o) ⊎ (Dead o (event Cpu fresh act z w e) × Elsewhere o (event_noted Cpu fresh act (does Cpu fresh act) z w e)) →
          Fits o (row Cpu fresh act (event Cpu fresh act z w e) o) rest → Fits o (row Cpu fresh act w o) (event_noted Cpu fresh act (does Cpu fresh act) z w e ++ rest)
      go (inl a) h = fits_on o rest a (i.sides o) h
      go (inr d) h = fits_end o (row Cpu fresh act w o) _ (i.sides o) (elsewhere-++ o _ rest d.1 (dead_log o z (event Cpu fresh act z w e) es d.0))

  pub first_come : FirstCome Cpu fresh act
  unfolding FirstCome FirstComeIn Fits msgs asks
  first_come z v es o one p k u =
      subst (λ (q : List Wait). Fits o q (log Cpu fresh act (does Cpu fresh act) (event Cpu fresh act) z v es)) (calm_row Cpu fresh act v p o (obj v o) refl) (fits_all o z v es k (orderly_first Cpu fresh act v p) u)
