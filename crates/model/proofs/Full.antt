-- A lineage with no empty entry stays so, whatever happens.
use Rattle.std.proofs.Common.{◌≡◌, ℕ, suc, Bool, cond, not, ◌&&◌, List, [], ◌∷◌, ◌++◌, map, length, Some, None, Option, sym, refl, ap, ◌∙◌, subst}
use Rattle.std.specs.Option.{is_none}
use Rattle.std.proofs.lemmas.List.{map-append}
use Rattle.rights.specs.declared.answers.Answer.{Answer}
use Rattle.rights.specs.declared.answers.Answer.TheVariants.{Done, Received}
use Rattle.rights.specs.declared.calls.Call.{Call}
use Rattle.rights.specs.declared.calls.Call.TheVariants as call
use Rattle.rights.specs.declared.calls.NewObject.{NewObject}
use Rattle.rights.specs.World as w
use Rattle.rv32.specs.declared.registers.Cpu.{Cpu}
use Rattle.rv32.specs.declared.steps.Step.{Step}
use Rattle.rv32.specs.declared.steps.Step.TheVariants as step
use Rattle.rv32.specs.Execute.{bytes}
use Rattle.rv32.specs.Registers.{fresh}
use Rattle.model.specs.declared.objects.Capability.{Capability}
use Rattle.model.specs.declared.objects.Letter.{Letter}
use Rattle.model.specs.declared.objects.State.TheVariants.{Stopped}
use Rattle.model.specs.declared.objects.Wait.{Wait}
use Rattle.model.specs.declared.objects.Wait.TheVariants.{Sender, Receiver}
use Rattle.model.specs.Plain as p
use Rattle.model.specs.Calls as calls
use Rattle.model.specs.Cuts as cuts
use Rattle.model.specs.Sweeps.{base_of, swept, marks_for, revoke}
use Rattle.model.specs.Turns as turns
use Rattle.model.specs.Sound.{Dense, Sound, LineageFull}
use Rattle.model.specs.Same.{Ran, left_by, StaysFull}
use Rattle.model.proofs.Kept.{by_cond}
use Rattle.model.proofs.Stays.{by_some}

-- however a call ends, no entry is empty
abbrev EndsFull : p.Ended → Type 0
EndsFull e = LineageFull (left_by e)

-- what has births one after the other has no empty entry
dense_full : (top : ℕ) (xs : List (Option Capability)) → Dense top xs → (cs : List Capability) × (xs ≡ map Some cs)
unfolding Dense
dense_full top [] d = ([], refl)
dense_full top (None ∷ xs) d = absurd d
dense_full top (Some c ∷ xs) d = let r = dense_full (suc top) xs d.2 in (c ∷ r.0, ap (λ ys. Some c ∷ ys) r.1)

-- another object, another slot, one more capability
put : (v : p.Whole) (n : ℕ) (x : p.Thing) → LineageFull v → LineageFull (p.with_object v n x)
unfolding p.with_object
put v n x f = f

slot_put : (v : p.Whole) (q s : ℕ) (c : Option Capability) → LineageFull v → LineageFull (p.with_slot v q s c)
slot_put v q s c f = by (p.table_of (p.object v q))
  where
    by : (t : Option ℕ) → LineageFull (p.put_by v t s c)
    by None = f
    by (Some t) = put v t (p.put_at (p.object v t) s c) f

born : (v : p.Whole) (c : Capability) → LineageFull v → LineageFull (calls.born v (Some c))
born v c f = (f.0 ++ c ∷ [], ap (λ l. l ++ Some c ∷ []) f.1 ∙ sym (map-append Some f.0 (c ∷ [])))

-- MEETINGS
handed : (v : p.Whole) → LineageFull v → (h : Bool) (q s r d : ℕ) → LineageFull (calls.handed v h q s r d)
handed v f h q s r d =
    by_cond LineageFull (h && (not (is_none (p.slot v q s)) && p.free v r d)) _ v
    (slot_put (p.with_slot v r d (p.slot v q s)) q s None (slot_put v r d (p.slot v q s) f)) f

met : (v : p.Whole) → LineageFull v → (o : ℕ) (x : Letter) (q d t : ℕ) (a : Answer) →
    LineageFull (calls.resumed (calls.handed (p.with_object v o (calls.served (p.object v o))) (calls.may_hand_on x) x.thread x.slot q d) t a)
met v f o x q d t a = put _ t _ (handed _ (put v o _ f) (calls.may_hand_on x) x.thread x.slot q d)

send_by : (v : p.Whole) → LineageFull v → (o : ℕ) (x : Letter) (w : Option (Option Wait)) → EndsFull (calls.send_by v o x w)
send_by v f o x None = f
send_by v f o x (Some None) = put v o _ f
send_by v f o x (Some (Some (Sender y))) = put v o _ f
send_by v f o x (Some (Some (Receiver t d))) = met v f o x t d t (Received x.badge x.words)

receive_by : (v : p.Whole) → LineageFull v → (q o d : ℕ) (w : Option (Option Wait)) → EndsFull (calls.receive_by v q o d w)
receive_by v f q o d None = f
receive_by v f q o d (Some None) = put v o _ f
receive_by v f q o d (Some (Some (Receiver t e))) = put v o _ f
receive_by v f q o d (Some (Some (Sender x))) = met v f o x q d x.thread Done

cut_done : (v : p.Whole) → LineageFull v → (q o m : ℕ) (k : NewObject) (d a : ℕ) → LineageFull (cuts.cut_done v q o m k d a)
cut_done v f q o m k d a =
    let u = p.with_object v o (cuts.with_used a (p.object v o)) in
    slot_put _ q d (Some (calls.newborn v m)) (born (calls.grown u (calls.new_thing o k)) (calls.newborn v m) (put v o (cuts.with_used a (p.object v o)) f))

-- EVERY CALL: one that is refused leaves the world, others put objects or slots, and copy and cut record what they made
module _ (v : p.Whole) (f : LineageFull v) where
  with : {X : Type 0} (x : Option X) (g : X → p.Ended) → ((c : X) → EndsFull (g c)) → EndsFull (p.on_some x (p.refuse v) g)
  with x g h = by_some EndsFull x (p.refuse v) g f (λ c e. h c)

  if : (b : Bool) (e : p.Ended) → EndsFull e → EndsFull (cond b e (p.refuse v))
  if b e h = by_cond EndsFull b e (p.refuse v) h f

  does : (q : ℕ) (c : Call) → EndsFull (turns.does v q c)
  does q (call.Cut s k d) = with (calls.writable v q s) _ (λ c. if (p.free v q d) _ (with (cuts.room_in k (p.object v c.object)) _ (λ a. cut_done v f q c.object c.birth k d a)))
  does q (call.Copy s d r b) = with (p.slot v q s) _ (λ c. let k = calls.copied c r b (suc v.births) in if (calls.hands c && p.free v q d) _ (slot_put (calls.born v (Some k)) q d (Some k) (born v k f)))
  does q (call.Move s d) = with (p.slot v q s) _ (λ c. if (p.free v q d) _ (slot_put (p.with_slot v q d (Some c)) q s None (slot_put v q d (Some c) f)))
  does q (call.Drop s) = with (p.slot v q s) _ (λ c. slot_put v q s None f)
  does q (call.Revoke s) =
      with (p.slot v q s) _ (λ c. by_cond EndsFull (calls.is_pool (p.object v c.object) && not (calls.writes c)) _ _ f (put (swept v (marks_for v c)) c.object _ f))
  does q (call.Send s g ws) = with (calls.writable v q s) _ (λ c. send_by v f c.object (calls.letter q c ws g) (calls.first (p.object v c.object)))
  does q (call.Receive s d) = with (calls.readable v q s) _ (λ c. receive_by v f q c.object d (calls.first (p.object v c.object)))
  does q (call.Map s t a) =
      with (calls.readable v q s) _ (λ c. with (calls.writable v q t) _ (λ d. if (calls.is_page (p.object v c.object)) _ (put v d.object _ f)))
  does q (call.Unmap t a) = with (calls.writable v q t) _ (λ c. put v c.object _ f)
  does q (call.Bind t s) =
      with (calls.writable v q s) _ (λ d. with (calls.writable v q t) _ (λ c. if (calls.is_table (p.object v d.object)) _ (put v c.object _ f)))
  does q (call.Go t a) = with (calls.writable v q t) _ (λ c. put v c.object _ f)
  does q (call.Say s b) = with (calls.writable v q s) _ (λ c. put v c.object _ f)
  does q (call.Hear s) = with (calls.readable v q s) _ (λ c. put v c.object _ f)

-- EVERY STEP
went : (q : ℕ) (c : Cpu) (e : p.Ended) → EndsFull e → LineageFull (turns.went q c e)
went q c (p.on v a) f = put v q _ f
went q c (p.wait v o) f = put v q _ f

carried : (v : p.Whole) → LineageFull v → (q : ℕ) (s : Step) → LineageFull (turns.carried v q s)
carried v f q (step.Next n b a) = put v q _ f
carried v f q (step.Store a k b) =
    by_some LineageFull (turns.may_store (p.object v q) a (length (bytes k b))) (turns.with_thread v q Stopped (fresh 0)) _ (put v q _ f) (λ o e. put _ q _ (put v o _ f))
carried v f q (step.Call c) = went q _ (turns.does v q c) (does v f q c)
carried v f q step.Stop = put v q _ f

stepped : (v : p.Whole) → LineageFull v → (q : ℕ) (s : Option Step) → LineageFull (turns.stepped v q s)
stepped v f q None = f
stepped v f q (Some s) = carried v f q s

-- EVERY ROW
ran : (v u : p.Whole) → LineageFull v → (es : List w.Event) → Ran v es u → LineageFull u
unfolding Ran
ran v u f [] r = subst LineageFull (sym r) f
ran v u f (w.tick q ∷ es) r = ran r.0 u (subst LineageFull (sym r.1.2) (stepped v f q r.1.0)) es r.2
ran v u f (w.byte o b ∷ es) r = ran _ u (put v o (calls.comes_in b (p.object v o)) f) es r

pub stays_full : StaysFull
stays_full = (λ v so. dense_full (base_of v) v.lineage so.dense, does, carried, ran)
