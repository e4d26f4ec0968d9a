-- A sound world stays sound: every call, every step of a thread, every byte that comes in.
use Rattle.std.proofs.Common.{◌≡◌, ℕ, suc, ◌+◌, ◌%◌, ◌<◌, ◌≤◌, Bool, true, false, cond, not, ◌&&◌, leb, List, [], ◌∷◌, ◌++◌, length, take, drop, Some, None, Option, sym, refl, ap, ◌∙◌, subst, inl, inr, arith}
use Rattle.std.specs.Option.{is_none}
use Rattle.std.proofs.lemmas.List.{get_or_past, length-set, length-append, length-take, length-drop}
use Rattle.std.proofs.lemmas.Bool.{cases_lt, leb-true}
use Rattle.rights.specs.declared.answers.Answer.{Answer}
use Rattle.rights.specs.declared.answers.Answer.TheVariants.{Done, Received}
use Rattle.rights.specs.declared.bits.Rights.{Rights}
use Rattle.rights.specs.declared.calls.Call.{Call}
use Rattle.rights.specs.declared.calls.Call.TheVariants as call
use Rattle.rights.specs.declared.calls.NewObject.{NewObject}
use Rattle.rights.specs.Vocabulary.{words}
use Rattle.rights.specs.World as w
use Rattle.rv32.specs.declared.registers.Cpu.{Cpu}
use Rattle.rv32.specs.declared.steps.Step.{Step}
use Rattle.rv32.specs.declared.steps.Step.TheVariants as step
use Rattle.rv32.specs.Execute.{act, bytes}
use Rattle.rv32.specs.Registers.{fresh, returned, gone_on}
use Rattle.model.specs.declared.objects.Capability.{Capability}
use Rattle.model.specs.declared.objects.Letter.{Letter}
use Rattle.model.specs.declared.objects.State.{State}
use Rattle.model.specs.declared.objects.State.TheVariants.{Stopped, Ready, Waits}
use Rattle.model.specs.declared.objects.Wait.{Wait}
use Rattle.model.specs.declared.objects.Wait.TheVariants.{Sender, Receiver}
use Rattle.model.specs.Plain as p
use Rattle.model.specs.Calls as calls
use Rattle.model.specs.Cuts as cuts
use Rattle.model.specs.Sweeps.{swept, marks_for, refilled, revoke}
use Rattle.model.specs.Turns as turns
use Rattle.model.specs.Sound.{Sound}
use Rattle.model.specs.Same.{StaysSound, Ran, RowsAgree, left_by}
use Rattle.model.specs.Meaning.{sizes, world_of}
use Rattle.model.proofs.Happens.{events_agree}
use Rattle.model.proofs.Keeping.{Fit, put_sound, by_pool, by_port, by_page, same_fit, pool_fit, port_fit, page_fit}
use Rattle.model.proofs.Kept.{by_cond, says_fit, hears_fit, comes_fit, state_fit, starts_left_fit, binds_fit, maps_fit, unmaps_fit, resumed_fit}
use Rattle.model.proofs.Stays.{by_some, by_true, Low, slot_sound, slot_low, none_low, born_sound, grown_sound, new_is_new, swept_sound}

-- however a call ends, the world is sound
abbrev pub EndsSound : p.Ended → Type 0
EndsSound e = Sound (left_by e)

-- bytes that are stored leave a page as long as it was
length_over : (k : ℕ) (bs old : List ℕ) → k + length bs ≤ length old → length (turns.over k bs old) ≡ length old
length_over k bs old h =
    let a = length-append (take k old) (bs ++ drop (k + length bs) old) in
    let b = length-append bs (drop (k + length bs) old) in
    let c = length-take k old in
    let d = length-drop (k + length bs) old in
    omega (arith, a, b, c, d, h)

-- FITS that are left
module _ (v : p.Whole) (so : Sound v) (o : ℕ) where
  used_fit : (a : ℕ) → Fit v (p.object v o) (cuts.with_used a (p.object v o))
  used_fit a = by_pool (Fit v (p.object v o)) (p.object v o) (p.object v o) _ (same_fit v so o) (λ f n u e. subst (λ x. Fit v x (p.pool f n a)) (sym e) (pool_fit v f n u n a))

  refill_fit : Fit v (p.object v o) (refilled (p.object v o))
  refill_fit = by_pool (Fit v (p.object v o)) (p.object v o) (p.object v o) _ (same_fit v so o) (λ f n u e. subst (λ x. Fit v x (p.pool f n 0)) (sym e) (pool_fit v f n u n 0))

  join_fit : (u : Wait) → Fit v (p.object v o) (calls.joined (p.object v o) u)
  join_fit u = by_port (Fit v (p.object v o)) (p.object v o) (p.object v o) _ (same_fit v so o) (λ f q e. subst (λ x. Fit v x (p.port f (q ++ u ∷ []))) (sym e) (port_fit v f q (q ++ u ∷ [])))

  serve_fit : Fit v (p.object v o) (calls.served (p.object v o))
  serve_fit = by_port (Fit v (p.object v o)) (p.object v o) (p.object v o) _ (same_fit v so o) (λ f q e. subst (λ x. Fit v x (p.port f (calls.rest q))) (sym e) (port_fit v f q (calls.rest q)))

  store_fit : (k : ℕ) (bs : List ℕ) → Fit v (p.object v o) (turns.stored k bs (p.object v o))
  store_fit k bs =
      by_page (Fit v (p.object v o)) (p.object v o) (p.object v o) _ (same_fit v so o)
      (λ f old e. by_true (Fit v (p.object v o)) (leb (k + length bs) (length old)) (p.page f (turns.over k bs old)) (p.object v o)
      (λ h. subst (λ x. Fit v x (p.page f (turns.over k bs old))) (sym e) (page_fit v f old (turns.over k bs old) (length_over k bs old (leb-true _ _ h) ∙ so.full o f old e)))
      (same_fit v so o))

-- CALLS at one object
only_some : (f : Capability → Bool) (x : Option Capability) (c : Capability) → calls.only f x ≡ Some c → x ≡ Some c
only_some f None c e = e
only_some f (Some d) c e = by (f d) e
  where
    by : (b : Bool) → cond b (Some d) None ≡ Some c → Some d ≡ Some c
    by true h = h
    by false h = (cc)

say_sound : (v : p.Whole) → Sound v → (q s b : ℕ) → EndsSound (calls.say v q s b)
say_sound v so q s b = by_some EndsSound (calls.writable v q s) (p.refuse v) _ so (λ c e. put_sound v so c.object _ (says_fit v so c.object (b % 256)))

hear_sound : (v : p.Whole) → Sound v → (q s : ℕ) → EndsSound (calls.hear v q s)
hear_sound v so q s = by_some EndsSound (calls.readable v q s) (p.refuse v) _ so (λ c e. put_sound v so c.object _ (hears_fit v so c.object))

go_sound : (v : p.Whole) → Sound v → (q t a : ℕ) → EndsSound (calls.go v q t a)
go_sound v so q t a = by_some EndsSound (calls.writable v q t) (p.refuse v) _ so (λ c e. put_sound v so c.object _ (starts_left_fit v so c.object a))

unmap_sound : (v : p.Whole) → Sound v → (q t a : ℕ) → EndsSound (calls.unmap v q t a)
unmap_sound v so q t a = by_some EndsSound (calls.writable v q t) (p.refuse v) _ so (λ c e. put_sound v so c.object _ (unmaps_fit v so c.object a))

bind_sound : (v : p.Whole) → Sound v → (q t s : ℕ) → EndsSound (calls.bind v q t s)
bind_sound v so q t s =
    by_some EndsSound (calls.writable v q s) (p.refuse v) _ so (λ d e. by_some EndsSound (calls.writable v q t) (p.refuse v) _ so
    (λ c g. by_cond EndsSound (calls.is_table (p.object v d.object)) _ _ (put_sound v so c.object _ (binds_fit v so c.object d.object)) so))

map_sound : (v : p.Whole) → Sound v → (q s t a : ℕ) → EndsSound (calls.map v q s t a)
map_sound v so q s t a =
    by_some EndsSound (calls.readable v q s) (p.refuse v) _ so (λ c e. by_some EndsSound (calls.writable v q t) (p.refuse v) _ so
    (λ d g. by_true EndsSound (calls.is_page (p.object v c.object)) _ _ (λ h. put_sound v so d.object _ (maps_fit v so d.object a c.object (calls.writes c) h)) so))

-- CALLS at slots
held_low : (v : p.Whole) → Sound v → (q s : ℕ) (c : Capability) → p.slot v q s ≡ Some c → Low v (Some c)
held_low v so q s c e d h = slot_low v q s so d (e ∙ h)

drop_sound : (v : p.Whole) → Sound v → (q s : ℕ) → EndsSound (calls.drop_it v q s)
drop_sound v so q s = by_some EndsSound (p.slot v q s) (p.refuse v) _ so (λ c e. slot_sound v q s None so (none_low v))

move_sound : (v : p.Whole) → Sound v → (q s d : ℕ) → EndsSound (calls.move v q s d)
move_sound v so q s d =
    by_some EndsSound (p.slot v q s) (p.refuse v) _ so
    (λ c e. by_cond EndsSound (p.free v q d) _ _
    (slot_sound (p.with_slot v q d (Some c)) q s None (slot_sound v q d (Some c) so (held_low v so q s c e)) (none_low (p.with_slot v q d (Some c)))) so)

child_low : (v : p.Whole) (c : Capability) → c.birth ≡ suc v.births → Low (calls.born v (Some c)) (Some c)
child_low v c b d e = let z : c ≡ d = cc in let k : d.birth ≡ suc v.births = ap (λ x. x.birth) (sym z) ∙ b in omega (arith, k)

copy_sound : (v : p.Whole) → Sound v → (q s d : ℕ) (r : Rights) (b : ℕ) → EndsSound (calls.copy v q s d r b)
copy_sound v so q s d r b =
    by_some EndsSound (p.slot v q s) (p.refuse v) _ so
    (λ c e. by_cond EndsSound (calls.hands c && p.free v q d) _ _
    (let k = calls.copied c r b (suc v.births) in
    slot_sound (calls.born v (Some k)) q d (Some k) (born_sound v k so refl (held_low v so q s c e c refl)) (child_low v k refl)) so)

-- PORTS
resumed_sound : (v : p.Whole) → Sound v → (t : ℕ) (a : Answer) → Sound (calls.resumed v t a)
resumed_sound v so t a = put_sound v so t _ (resumed_fit v so t a)

handed_sound : (v : p.Whole) → Sound v → (h : Bool) (q s r d : ℕ) → Sound (calls.handed v h q s r d)
handed_sound v so h q s r d =
    by_cond Sound (h && (not (is_none (p.slot v q s)) && p.free v r d)) _ v
    (slot_sound (p.with_slot v r d (p.slot v q s)) q s None (slot_sound v r d (p.slot v q s) so (slot_low v q s so)) (none_low (p.with_slot v r d (p.slot v q s)))) so

met_sound : (v : p.Whole) → Sound v → (o : ℕ) (x : Letter) (q d t : ℕ) (a : Answer) →
    Sound (calls.resumed (calls.handed (p.with_object v o (calls.served (p.object v o))) (calls.may_hand_on x) x.thread x.slot q d) t a)
met_sound v so o x q d t a = resumed_sound _ (handed_sound _ (put_sound v so o _ (serve_fit v so o)) (calls.may_hand_on x) x.thread x.slot q d) t a

waits_sound : (v : p.Whole) → Sound v → (o : ℕ) (u : Wait) → EndsSound (calls.waiting v o u)
waits_sound v so o u = put_sound v so o _ (join_fit v so o u)

send_by_sound : (v : p.Whole) → Sound v → (o : ℕ) (x : Letter) (f : Option (Option Wait)) → EndsSound (calls.send_by v o x f)
send_by_sound v so o x None = so
send_by_sound v so o x (Some None) = waits_sound v so o (Sender x)
send_by_sound v so o x (Some (Some (Sender y))) = waits_sound v so o (Sender x)
send_by_sound v so o x (Some (Some (Receiver t d))) = met_sound v so o x t d t (Received x.badge x.words)

send_sound : (v : p.Whole) → Sound v → (q s g : ℕ) (ws : List ℕ) → EndsSound (calls.send v q s g ws)
send_sound v so q s g ws =
    by_some EndsSound (calls.writable v q s) (p.refuse v) _ so (λ c e. send_by_sound v so c.object (calls.letter q c ws g) (calls.first (p.object v c.object)))

receive_by_sound : (v : p.Whole) → Sound v → (q o d : ℕ) (f : Option (Option Wait)) → EndsSound (calls.receive_by v q o d f)
receive_by_sound v so q o d None = so
receive_by_sound v so q o d (Some None) = waits_sound v so o (Receiver q d)
receive_by_sound v so q o d (Some (Some (Receiver t e))) = waits_sound v so o (Receiver q d)
receive_by_sound v so q o d (Some (Some (Sender x))) = met_sound v so o x q d x.thread Done

receive_sound : (v : p.Whole) → Sound v → (q s d : ℕ) → EndsSound (calls.receive v q s d)
receive_sound v so q s d =
    by_some EndsSound (calls.readable v q s) (p.refuse v) _ so (λ c e. receive_by_sound v so q c.object d (calls.first (p.object v c.object)))

-- POOLS
room_pool : (k : NewObject) (x : p.Thing) (a : ℕ) → cuts.room_in k x ≡ Some a → x ≡ p.gone → ⊥
room_pool k p.gone a e h = (cc)
room_pool k (p.pool f n u) a e h = (cc)
room_pool k (p.table f ss) a e h = (cc)
room_pool k (p.port f q) a e h = (cc)
room_pool k (p.page f bs) a e h = (cc)
room_pool k (p.thread t) a e h = (cc)
room_pool k (p.line xs ys) a e h = (cc)

is_there : (v : p.Whole) (o : ℕ) → (p.object v o ≡ p.gone → ⊥) → o < length v.things
unfolding p.object
is_there v o h = elim (cases_lt o (length v.things)) [ inl l ↦ l | inr l ↦ absurd (h (get_or_past v.things o p.gone l)) ]

cut_done_sound : (v : p.Whole) → Sound v → (q o m : ℕ) (k : NewObject) (d a : ℕ) → o < length v.things → m ≤ v.births → Sound (cuts.cut_done v q o m k d a)
unfolding p.with_object
cut_done_sound v so q o m k d a l b =
    let u = p.with_object v o (cuts.with_used a (p.object v o)) in
    let x = calls.newborn v m in
    let in_u : o < length u.things = rw (length-set v.things o (cuts.with_used a (p.object v o))) l in
    let grown = grown_sound u (calls.new_thing o k) (put_sound v so o _ (used_fit v so o a)) (new_is_new u o k in_u) in
    slot_sound _ q d (Some x) (born_sound (calls.grown u (calls.new_thing o k)) x grown refl b) (child_low (calls.grown u (calls.new_thing o k)) x refl)

cut_sound : (v : p.Whole) → Sound v → (q s : ℕ) (k : NewObject) (d : ℕ) → EndsSound (cuts.cut v q s k d)
cut_sound v so q s k d =
    by_some EndsSound (calls.writable v q s) (p.refuse v) _ so
    (λ c e. by_cond EndsSound (p.free v q d) _ _
    (by_some EndsSound (cuts.room_in k (p.object v c.object)) (p.refuse v) _ so
    (λ a h. cut_done_sound v so q c.object c.birth k d a (is_there v c.object (room_pool k (p.object v c.object) a h))
    (held_low v so q s c (only_some calls.writes (p.slot v q s) c e) c refl))) so)

-- REVOKE
revoke_sound : (v : p.Whole) → Sound v → (q s : ℕ) → EndsSound (revoke v q s)
revoke_sound v so q s =
    by_some EndsSound (p.slot v q s) (p.refuse v) _ so
    (λ c e. by_cond EndsSound (calls.is_pool (p.object v c.object) && not (calls.writes c)) _ _ so
    (let w = swept v (marks_for v c) in let sw = swept_sound v (marks_for v c) so in put_sound w sw c.object _ (refill_fit w sw c.object)))

-- EVERY CALL
does_sound : (v : p.Whole) → Sound v → (q : ℕ) (c : Call) → EndsSound (turns.does v q c)
does_sound v so q (call.Cut s k d) = cut_sound v so q s k d
does_sound v so q (call.Copy s d r b) = copy_sound v so q s d r b
does_sound v so q (call.Move s d) = move_sound v so q s d
does_sound v so q (call.Drop s) = drop_sound v so q s
does_sound v so q (call.Revoke s) = revoke_sound v so q s
does_sound v so q (call.Send s g ws) = send_sound v so q s g ws
does_sound v so q (call.Receive s d) = receive_sound v so q s d
does_sound v so q (call.Map s t a) = map_sound v so q s t a
does_sound v so q (call.Unmap t a) = unmap_sound v so q t a
does_sound v so q (call.Bind t s) = bind_sound v so q t s
does_sound v so q (call.Go t a) = go_sound v so q t a
does_sound v so q (call.Say s b) = say_sound v so q s b
does_sound v so q (call.Hear s) = hear_sound v so q s

-- A STEP of a thread
thread_sound : (v : p.Whole) → Sound v → (q : ℕ) (s : State) (c : Cpu) → Sound (turns.with_thread v q s c)
thread_sound v so q s c = put_sound v so q _ (state_fit v so q s c)

went_sound : (q : ℕ) (c : Cpu) (e : p.Ended) → EndsSound e → Sound (turns.went q c e)
went_sound q c (p.on v a) so = thread_sound v so q Ready (returned c (words a))
went_sound q c (p.wait v o) so = thread_sound v so q (Waits o) c

stores_sound : (v : p.Whole) → Sound v → (q a : ℕ) (bs : List ℕ) → Sound (turns.stores v q a bs)
stores_sound v so q a bs =
    by_some Sound (turns.may_store (p.object v q) a (length bs)) (turns.with_thread v q Stopped (fresh 0)) _ (thread_sound v so q Stopped (fresh 0))
    (λ o e. thread_sound _ (put_sound v so o _ (store_fit v so o (a % 4096) bs)) q Ready _)

carried_sound : (v : p.Whole) → Sound v → (q : ℕ) (s : Step) → Sound (turns.carried v q s)
carried_sound v so q (step.Next n b a) = thread_sound v so q Ready (gone_on (turns.cpu_of (p.object v q)) n b a)
carried_sound v so q (step.Store a k b) = stores_sound v so q a (bytes k b)
carried_sound v so q (step.Call c) = went_sound q (turns.cpu_of (p.object v q)) (turns.does v q c) (does_sound v so q c)
carried_sound v so q step.Stop = thread_sound v so q Stopped (fresh 0)

stepped_sound : (v : p.Whole) → Sound v → (q : ℕ) (s : Option Step) → Sound (turns.stepped v q s)
stepped_sound v so q None = so
stepped_sound v so q (Some s) = carried_sound v so q s

pub stays_sound : StaysSound
stays_sound = (λ v u so q t. subst Sound (sym t.2) (stepped_sound v so q t.0), λ v o b so. put_sound v so o _ (comes_fit v so o b))

-- ROWS
pub rows_agree : RowsAgree
unfolding Ran w.run
rows_agree v u so [] r = (ap world_of r, subst Sound (sym r) so)
rows_agree v u so (w.tick q ∷ es) (m, t, r) =
    let k = rows_agree m u (stays_sound.0 v m so q t) es r in
    (k.0 ∙ ap (λ x. w.run Cpu fresh act sizes x es) (events_agree.0 v m so q t), k.1)
rows_agree v u so (w.byte o b ∷ es) r =
    let k = rows_agree (p.with_object v o (calls.comes_in b (p.object v o))) u (stays_sound.1 v o b so) es r in
    (k.0 ∙ ap (λ x. w.run Cpu fresh act sizes x es) (events_agree.1 v o b), k.1)
