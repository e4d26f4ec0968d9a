-- A call leaves the state and the core of a thread that is ready; so what the code leaves of its time is what passes in it.
use mathlib.Core.Path.{◌≡◌, refl, sym, ap, subst, ◌∙◌}
use mathlib.Core.Bool.{Bool, true, false}
use mathlib.Core.List.{List}
use mathlib.Core.Logic.{inl, inr}
use Prim.Native.Nat.{ℕ}
use lib.ListN.{length}
use Rattle.std.specs.Prelude.{Option, Some, None, cond, ◌%◌}
use Rattle.std.specs.Option.{option_and_then, option_map}
use Rattle.std.proofs.lemmas.Bool.{cases_eq, cases_lt, lt-ltb}
use Rattle.std.proofs.lemmas.List.{get_or-set_same, get_or-set_other, get_or_past}
use Rattle.rights.specs.declared.calls.Call.{Call}
use Rattle.rights.specs.declared.calls.Call.TheVariants.{Cut, Copy, Move, Drop, Revoke, Send, Receive, Map, Unmap, Bind, Go, Say, Hear}
use Rattle.rights.specs.declared.said.Said.{Said}
use Rattle.rights.specs.Vocabulary.{words}
use Rattle.rights.specs.World.{Act}
use Rattle.rv32.specs.declared.forms.Width.{Width}
use Rattle.rv32.specs.declared.forms.Width.TheVariants.{Byte, Half, Word}
use Rattle.rv32.specs.declared.registers.Cpu.{Cpu}
use Rattle.rv32.specs.declared.steps.Step.{Step}
use Rattle.rv32.specs.declared.steps.Step.TheVariants as step
use Rattle.rv32.specs.Execute.{told, bytes, size}
use Rattle.rv32.specs.Registers.{returned, gone_on, next}
use Rattle.space.specs.declared.side.Side.{Side}
use Rattle.space.specs.declared.side.State.{State}
use Rattle.space.specs.declared.side.State.TheVariants.{Stopped, Ready, Sends, Receives}
use Rattle.space.specs.declared.side.Thread.{Thread}
use Rattle.space.specs.Bytes.{store_place, put_to}
use Rattle.space.specs.Lines as lines
use Rattle.space.specs.Side.{fresh_thread}
use Rattle.calls.specs.Calls.{Ended, call, mapped, unmapped, bound, started, is_stopped, on_board, on_side, on_saying, on_hearing, heard, copy, move, drop_it, revoke, map, unmap, bind, go, say, hear}
use Rattle.calls.specs.Machine.{Machine, thread_at, with_thread, line_at, with_line, table_of}
use Rattle.calls.specs.Slots.{readable_page, readable_line, writable_table, writable_thread}
use Rattle.laws.proofs.Tests.{clash}
use Rattle.kernel.specs.Events as events
use Rattle.kernel.specs.Events.{Passed, silent, put_core, store_at}
use Rattle.kernel.specs.Meets.{answer_of, said_of}
use Rattle.kernel.specs.Steps.{TicksPass, told_of, after, carried, carried_out, is_ready}

-- u is ready, with the core of t
abbrev Keeps : Thread → Thread → Type 0
Keeps t u = (u.state ≡ Ready) × (u.cpu ≡ t.cpu)

-- it holds of what there is
abbrev Each : {A : Type 0} → (A → Type 0) → Option A → Type 0
Each P None = Unit {0}
Each P (Some x) = P x

then_each : {A B : Type 0} (P : B → Type 0) (f : A → Option B) (x : Option A) → ((a : A) → Each P (f a)) → Each P (option_and_then f x)
then_each P f None h = tt
then_each P f (Some a) h = h a

module _ (m : Machine) (i : ℕ) (ready : (thread_at m.side i).state ≡ Ready) where
  abbrev Stays : Side → Type 0
  Stays v = Keeps (thread_at m.side i) (thread_at v i)

  -- another thread j, which is ready with the same core if it was ready
  put : (j : ℕ) (u : Thread) → ((thread_at m.side j).state ≡ Ready → Keeps (thread_at m.side j) u) → Stays (with_thread m.side j u)
  put j u h = elim (cases_eq i j) [
    | inl e ↦ subst (λ n. Stays (with_thread m.side n u)) e
        (elim (cases_lt i (length m.side.threads)) [
          | inl l ↦ subst (Keeps (thread_at m.side i)) (sym (get_or-set_same m.side.threads i u (fresh_thread 4294967295) l))
              (subst (λ n. (thread_at m.side n).state ≡ Ready → Keeps (thread_at m.side n) u) (sym e) h ready)
          | inr l ↦
              let p : Stopped ≡ Ready = sym (ap (λ (t : Thread). t.state) (get_or_past m.side.threads i (fresh_thread 4294967295) l)) ∙ ready in
              clash (cc)
        ])
    | inr n ↦ subst (Keeps (thread_at m.side i)) (sym (get_or-set_other m.side.threads j i u (fresh_thread 4294967295) n)) (ready, refl)
  ]

  put_each : (j : ℕ) (x : Option Thread) → Each (λ u. (thread_at m.side j).state ≡ Ready → Keeps (thread_at m.side j) u) x → Each Stays (option_map (with_thread m.side j) x)
  put_each j None h = tt
  put_each j (Some u) h = put j u h

  -- what may be done to a thread that has to be stopped is not done to one that is ready
  idle : (t u : Thread) → Each (λ v. t.state ≡ Ready → Keeps t v) (cond (is_stopped t.state) (Some u) None)
  idle t u = of t.state refl
    where
      of : (s : State) → t.state ≡ s → Each (λ v. t.state ≡ Ready → Keeps t v) (cond (is_stopped s) (Some u) None)
      of Stopped e = λ r. clash (cc)
      of Ready e = tt
      of (Sends a b g) e = tt
      of (Receives a) e = tt

  -- what keeps state and core may be done to all
  plain : (t u : Thread) (b : Bool) → u.state ≡ t.state → u.cpu ≡ t.cpu → Each (λ v. t.state ≡ Ready → Keeps t v) (cond b (Some u) None)
  plain t u true s c = λ r. (s ∙ r, c)
  plain t u false s c = tt

  on_side_stays : (x : Option Side) → Each Stays x → Stays (on_side m x).machine.side
  on_side_stays None h = (ready, refl)
  on_side_stays (Some v) h = h

  on_board_stays : (x : Option (List ℕ)) → Stays (on_board m x).machine.side
  on_board_stays None = (ready, refl)
  on_board_stays (Some v) = (ready, refl)

  on_saying_stays : (x : Option Said) → Stays (on_saying m x).machine.side
  on_saying_stays None = (ready, refl)
  on_saying_stays (Some v) = (ready, refl)

  on_hearing_stays : (x : Option (ℕ × Side)) → Each (λ (v : ℕ × Side). Stays v.1) x → Stays (on_hearing m x).machine.side
  on_hearing_stays None h = (ready, refl)
  on_hearing_stays (Some v) h = h

  heard_stays : (j : ℕ) → Each (λ (v : ℕ × Side). Stays v.1) (heard m.side j)
  heard_stays j = of (lines.heard (line_at m.side j))
    where
      of : (x : Option ℕ) → Each (λ (v : ℕ × Side). Stays v.1) (option_map (λ b. (b, with_line m.side j (lines.hear (line_at m.side j)))) x)
      of None = tt
      of (Some b) = (ready, refl)

  call_stays : (p : ℕ) (c : Call) → Stays (call m p c).machine.side
  call_stays p (Cut s k d) = (ready, refl)
  call_stays p (Copy s d r b) = on_board_stays (copy m.bytes (table_of m.side p) s d r b)
  call_stays p (Move s d) = on_board_stays (move m.bytes (table_of m.side p) s d)
  call_stays p (Drop s) = on_board_stays (drop_it m.bytes (table_of m.side p) s)
  call_stays p (Revoke s) = on_board_stays (revoke m.bytes (table_of m.side p) s)
  call_stays p (Send s g ws) = (ready, refl)
  call_stays p (Receive s d) = (ready, refl)
  call_stays p (Map s o a) =
      on_side_stays (map m.bytes m.side (table_of m.side p) s o a)
      (then_each Stays _ (readable_page m.bytes (table_of m.side p) s) (λ x. then_each Stays _ (writable_thread m.bytes (table_of m.side p) o) (λ j.
      put_each j (mapped a x (thread_at m.side j)) (plain (thread_at m.side j) _ _ refl refl))))
  call_stays p (Unmap o a) =
      on_side_stays (unmap m.bytes m.side (table_of m.side p) o a)
      (then_each Stays _ (writable_thread m.bytes (table_of m.side p) o) (λ j. put_each j (unmapped a (thread_at m.side j)) (plain (thread_at m.side j) _ _ refl refl)))
  call_stays p (Bind o s) =
      on_side_stays (bind m.bytes m.side (table_of m.side p) o s)
      (then_each Stays _ (writable_table m.bytes (table_of m.side p) s) (λ x. then_each Stays _ (writable_thread m.bytes (table_of m.side p) o) (λ j.
      put_each j (bound x (thread_at m.side j)) (idle (thread_at m.side j) _))))
  call_stays p (Go o a) =
      on_side_stays (go m.bytes m.side (table_of m.side p) o a)
      (then_each Stays _ (writable_thread m.bytes (table_of m.side p) o) (λ j. put_each j (started a (thread_at m.side j)) (idle (thread_at m.side j) _)))
  call_stays p (Say s b) = on_saying_stays (say m.bytes m.side (table_of m.side p) s b)
  call_stays p (Hear s) =
      on_hearing_stays (hear m.bytes m.side (table_of m.side p) s)
      (then_each (λ (v : ℕ × Side). Stays v.1) (heard m.side) (readable_line m.bytes (table_of m.side p) s) heard_stays)

  -- a store at a place
  stored_at : (a p : ℕ) (bs : List ℕ) →
      silent (put_core (record { bytes = put_to m.bytes (Some p) (a % 4096) bs; side = m.side }) i (thread_at m.side i).state (next (thread_at m.side i).cpu))
      ≡ silent (put_core (record { bytes = put_to m.bytes (Some p) (a % 4096) bs; side = m.side }) i Ready (next (thread_at m.side i).cpu))
  stored_at a p bs = ap (λ x. silent (put_core (record { bytes = put_to m.bytes (Some p) (a % 4096) bs; side = m.side }) i x (next (thread_at m.side i).cpu))) ready

  -- the same, by the place that it goes to
  stored_as : (a : ℕ) (w : Width) (v : ℕ) (x : Option ℕ) → store_place m.bytes (thread_at m.side i).pages a (size w) ≡ x →
      carried_out m i (thread_at m.side i) (step.Store a w v) ≡ silent (store_at m i a (bytes w v) x)
  stored_as a Byte v None e = rw e refl
  stored_as a Byte v (Some p) e = rw e (stored_at a p (bytes Byte v))
  stored_as a Half v None e = rw e refl
  stored_as a Half v (Some p) e = rw e (stored_at a p (bytes Half v))
  stored_as a Word v None e = rw e refl
  stored_as a Word v (Some p) e = rw e (stored_at a p (bytes Word v))

  step_same : (s : Step) → carried_out m i (thread_at m.side i) s ≡ events.carried m i s
  step_same (step.Next n v a) = ap (λ x. silent (put_core m i x (gone_on (thread_at m.side i).cpu n v a))) ready
  step_same (step.Store a Byte v) = stored_as a Byte v _ refl
  step_same (step.Store a Half v) = stored_as a Half v _ refl
  step_same (step.Store a Word v) = stored_as a Word v _ refl
  step_same (step.Call c) =
      let e : Ended = call m i c in
      let (s, d) = call_stays i c in
      let ws = words (answer_of e.outcome) in
      ap (λ x. record { machine = put_core e.machine i x (returned (thread_at e.machine.side i).cpu ws); said = said_of e.outcome }) s
      ∙ ap (λ x. record { machine = put_core e.machine i Ready (returned x ws); said = said_of e.outcome }) d
  step_same step.Stop = refl

-- nothing is done
silent_one : (m : Machine) (i : ℕ) (r : Passed) (c : Cpu) (s : Option Step) → told_of c s ≡ None → r ≡ after m i s → r ≡ silent m
silent_one m i r c None e d = d
silent_one m i r c (Some s) e d = clash (cc)

-- a step is done
one_step : (m : Machine) (i : ℕ) (r : Passed) (c : Cpu) (a : Act Cpu) → ((s : Step) → carried m i s ≡ events.carried m i s) →
    (s : Option Step) → told_of c s ≡ Some a → r ≡ after m i s → (s' : Step) × (told c s' ≡ a) × (r ≡ events.carried m i s')
one_step m i r c a h None e d = clash (cc)
one_step m i r c a h (Some s) e d = (s, cc, d ∙ h s)

pub ticks_pass : TicksPass
ticks_pass m i r l (s, e, d) = of (thread_at m.side i).state refl
  where
    of : (x : State) → (thread_at m.side i).state ≡ x → events.TickedIn x m i r
    of Ready y =
        one_step m i r (thread_at m.side i).cpu (events.next_act m i) (λ s. rw (lt-ltb i 64 l) (step_same m i y s)) s (e ∙ ap (λ x. cond (is_ready x) (Some (events.next_act m i)) None) y) d
    of Stopped y = silent_one m i r (thread_at m.side i).cpu s (e ∙ ap (λ x. cond (is_ready x) (Some (events.next_act m i)) None) y) d
    of (Sends a b g) y = silent_one m i r (thread_at m.side i).cpu s (e ∙ ap (λ x. cond (is_ready x) (Some (events.next_act m i)) None) y) d
    of (Receives a) y = silent_one m i r (thread_at m.side i).cpu s (e ∙ ap (λ x. cond (is_ready x) (Some (events.next_act m i)) None) y) d
