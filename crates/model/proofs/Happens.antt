-- One event: the world in the code's parts does what the abstract world does.
use Rattle.std.proofs.Common.{◌≡◌, ℕ, ◌+◌, ◌/◌, ◌%◌, Bool, true, false, cond, ◌&&◌, ltb, leb, List, [], ◌∷◌, ◌++◌, map, length, get_or, Some, None, Option, refl, ap, ◌∙◌}
use mathlib.Core.Path.{fun_ext}
use Rattle.std.proofs.lemmas.Bool.{leb-true}
use Rattle.rights.specs.declared.calls.Call.{Call}
use Rattle.rights.specs.declared.calls.Call.TheVariants as call
use Rattle.rights.specs.Request.{call_of}
use Rattle.rights.specs.World as w
use Rattle.rv32.specs.declared.registers.Cpu.{Cpu}
use Rattle.rv32.specs.declared.steps.Step.{Step}
use Rattle.rv32.specs.declared.steps.Step.TheVariants as step
use Rattle.rv32.specs.Registers.{fresh, next, gone_on, returned}
use Rattle.rv32.specs.Execute.{act, told, bytes}
use Rattle.model.specs.declared.objects.State.{State}
use Rattle.model.specs.declared.objects.State.TheVariants.{Stopped, Ready, Waits}
use Rattle.model.specs.declared.objects.Thread.{Thread}
use Rattle.model.specs.Plain as p
use Rattle.model.specs.Calls as calls
use Rattle.model.specs.Same.{CallsAgree, EventsAgree}
use Rattle.model.specs.Sound.{Sound}
use Rattle.model.specs.Turns as turns
use Rattle.model.specs.Meaning.{page_of, may_write, sizes, number_of, state_of, core_of, object_of, world_of, went_of}
use Rattle.model.proofs.Agree.{with_object, read_any, at_world, put_world}
use Rattle.model.proofs.Same.{does, unchanged, say_same, hear_same, go_same, unmap_same, bind_same, map_same}
use Rattle.model.proofs.Slots.{drop_same, move_same, copy_same}
use Rattle.model.proofs.Ports.{send_same, receive_same}
use Rattle.model.proofs.Pools.{cut_same}
use Rattle.model.proofs.Revoked.{revoke_same}
use Rattle.model.proofs.Turned.{thread_world, went_world, seen_world, store_by}

-- EVERY CALL
pub does_same : (v : p.Whole) → Sound v → (q : ℕ) (c : Call) → went_of (turns.does v q c) ≡ does (world_of v) q (call_of c)
does_same v so q (call.Cut s k d) = cut_same v q s k d
does_same v so q (call.Copy s d r b) = copy_same v q s d r b
does_same v so q (call.Move s d) = move_same v q s d
does_same v so q (call.Drop s) = drop_same v q s
does_same v so q (call.Revoke s) = revoke_same v so q s
does_same v so q (call.Send s g ws) = send_same v q s g ws
does_same v so q (call.Receive s d) = receive_same v q s d
does_same v so q (call.Map s t a) = map_same v q s t a
does_same v so q (call.Unmap t a) = unmap_same v q t a
does_same v so q (call.Bind t s) = bind_same v q t s
does_same v so q (call.Go t a) = go_same v q t a
does_same v so q (call.Say s b) = say_same v q s b
does_same v so q (call.Hear s) = hear_same v q s

-- what is a page, with its bytes
a_page : (x : p.Thing) → ((f : Option ℕ) (bs : List ℕ) → x ≡ p.page f bs → length bs ≡ 4096) → calls.is_page x ≡ true → (f : Option ℕ) × (bs : List ℕ) × (x ≡ p.page f bs) × (length bs ≡ 4096)
a_page (p.page f bs) h e = (f, bs, refl, h f bs refl)
a_page _ h e = cc

-- A STEP of thread q, which is t
module _ (v : p.Whole) (so : Sound v) (q : ℕ) (t : Thread) (e : p.object v q ≡ p.thread t) where
  abbrev acts : w.Act Cpu → w.World Cpu
  acts a = w.acts Cpu fresh act sizes (world_of v) q (map page_of t.pages) (map may_write t.pages) a

  stores_same : (a : ℕ) (bs : List ℕ) → world_of (turns.stores v q a bs) ≡ acts (w.store a bs (next t.cpu))
  unfolding w.acts w.may_store w.stores
  stores_same a bs =
      ap (λ x. world_of (p.on_some (turns.may_store x a (length bs)) (turns.with_thread v q Stopped (fresh 0))
      (λ o. turns.with_thread (p.with_object v o (turns.stored (a % 4096) bs (p.object v o))) q Ready (next (turns.cpu_of x))))) e
      ∙ ap (λ r. world_of (p.on_some (cond (r && leb (a % 4096 + length bs) 4096) (p.page_at t.pages (a / 4096)) None) (turns.with_thread v q Stopped (fresh 0))
      (λ o. turns.with_thread (p.with_object v o (turns.stored (a % 4096) bs (p.object v o))) q Ready (next t.cpu)))) (read_any may_write t.pages (a / 4096) p.unmapped)
      ∙ store_by v q a bs (next t.cpu) (p.page_at t.pages (a / 4096)) (get_or (map page_of t.pages) (a / 4096) 0) (get_or (map may_write t.pages) (a / 4096) false) (leb (a % 4096 + length bs) 4096)
      (read_any page_of t.pages (a / 4096) p.unmapped) (λ h. leb-true _ _ h) (λ o h. a_page (p.object v o) (so.full o) (so.paged q (a / 4096) o t e h))

  cpu_is : turns.cpu_of (p.object v q) ≡ t.cpu
  cpu_is = ap turns.cpu_of e

  carried_same : (s : Step) → world_of (turns.carried v q s) ≡ acts (told t.cpu s)
  unfolding w.acts
  carried_same (step.Next n b a) = ap (λ c. world_of (turns.with_thread v q Ready (gone_on c n b a))) cpu_is ∙ thread_world v q Ready (gone_on t.cpu n b a)
  carried_same (step.Store a k b) = stores_same a (bytes k b)
  carried_same (step.Call c) =
      ap (λ k. world_of (turns.went q k (turns.does v q c))) cpu_is ∙ went_world v q t.cpu (turns.does v q c)
      ∙ ap (w.went_on Cpu fresh act (world_of v) q (returned t.cpu)) (does_same v so q c)
  carried_same step.Stop = thread_world v q Stopped (fresh 0)

-- AN INSTRUCTION'S TIME, by what the code says that the thread does next
no_step : (x : p.Thing) (r : Option Step) → turns.told_of x r ≡ None → r ≡ None
no_step x None e = refl
no_step x (Some s) e = cc

-- nothing is done
rests : (v : p.Whole) (q : ℕ) (x : p.Thing) (r : Option Step) → turns.told_of x r ≡ None → world_of (turns.stepped v q r) ≡ world_of v
rests v q x r e = ap (λ k. world_of (turns.stepped v q k)) (no_step x r e)

moves : (v : p.Whole) → Sound v → (q : ℕ) (t : Thread) → p.object v q ≡ p.thread t → (r : Option Step) →
    turns.told_of (p.thread t) r ≡ Some (act t.cpu (turns.seen v t.pages)) →
    world_of (turns.stepped v q r)
    ≡ w.acts Cpu fresh act sizes (world_of v) q (map page_of t.pages) (map may_write t.pages) (act t.cpu (w.seen Cpu fresh act sizes (world_of v) (map page_of t.pages)))
moves v so q t e None h = cc
moves v so q t e (Some s) h =
    let k : told t.cpu s ≡ act t.cpu (turns.seen v t.pages) = cc in
    carried_same v so q t e s
    ∙ ap (w.acts Cpu fresh act sizes (world_of v) q (map page_of t.pages) (map may_write t.pages)) (k ∙ ap (act t.cpu) (fun_ext (seen_world v t.pages)))

ticks_by : (v : p.Whole) → Sound v → (q : ℕ) (t : Thread) (s : State) (r : Option Step) → p.object v q ≡ p.thread t →
    turns.told_of (p.thread t) r ≡ cond (turns.is_ready s) (Some (act t.cpu (turns.seen v t.pages))) None →
    world_of (turns.stepped v q r)
    ≡ w.ticked Cpu fresh act sizes (world_of v) q (w.thread 0 (state_of s t.cpu) (core_of s t.cpu) (number_of t.table) (map page_of t.pages) (map may_write t.pages))
unfolding w.ticked
ticks_by v so q t Stopped r e h = rests v q (p.thread t) r h
ticks_by v so q t Ready r e h = moves v so q t e r h
ticks_by v so q t (Waits o) r e h = rests v q (p.thread t) r h

ticks : (v : p.Whole) → Sound v → (q : ℕ) (x : p.Thing) (r : Option Step) → p.object v q ≡ x → turns.told_of x r ≡ turns.next_act v x →
    world_of (turns.stepped v q r) ≡ w.ticked Cpu fresh act sizes (world_of v) q (object_of x)
unfolding w.ticked
ticks v so q (p.thread t) r e h = ticks_by v so q t t.state r e h
ticks v so q x r e h = rests v q x r h

pub tick_same : (v : p.Whole) → Sound v → (q : ℕ) (r : Option Step) → turns.told_of (p.object v q) r ≡ turns.next_act v (p.object v q) →
    world_of (turns.stepped v q r) ≡ w.event Cpu fresh act sizes (world_of v) (w.tick q)
unfolding w.event
tick_same v so q r h = ticks v so q (p.object v q) r refl h ∙ ap (w.ticked Cpu fresh act sizes (world_of v) q) (at_world v q)

-- A BYTE COMES IN
came_by : (v : p.Whole) (o b : ℕ) (xs ys : List ℕ) (t : Bool) → p.line xs ys ≡ p.object v o →
    world_of (p.with_object v o (p.line xs (cond t (ys ++ b ∷ []) ys))) ≡ w.pick t (with_object (world_of v) o (w.line xs (ys ++ b ∷ []))) (world_of v)
came_by v o b xs ys true e = put_world v o _
came_by v o b xs ys false e = unchanged v o _ e

came : (v : p.Whole) (o b : ℕ) (x : p.Thing) → x ≡ p.object v o → world_of (p.with_object v o (calls.comes_in b x)) ≡ w.comes_in Cpu fresh act sizes (world_of v) o b (object_of x)
unfolding w.comes_in
came v o b (p.line xs ys) e = came_by v o b xs ys (ltb (length ys) 1024) e
came v o b _ e = unchanged v o _ e

pub byte_same : (v : p.Whole) (o b : ℕ) → world_of (p.with_object v o (calls.comes_in b (p.object v o))) ≡ w.event Cpu fresh act sizes (world_of v) (w.byte o b)
unfolding w.event
byte_same v o b = came v o b (p.object v o) refl ∙ ap (w.comes_in Cpu fresh act sizes (world_of v) o b) (at_world v o)

pub calls_agree : CallsAgree
calls_agree v so q c = does_same v so q c

pub events_agree : EventsAgree
events_agree = (λ v u so q t. ap world_of t.2 ∙ tick_same v so q t.0 t.1, λ v o b. byte_same v o b)
