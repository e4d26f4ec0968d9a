-- What a thread says with what it does next is what the abstract world says in its time.
use Rattle.std.proofs.Common.{◌≡◌, ℕ, ◌%◌, Bool, true, false, cond, not, map, Some, None, Option, sym, refl, ap, ◌∙◌}
use mathlib.Core.Path.{fun_ext}
use Rattle.rights.specs.declared.calls.Call.{Call}
use Rattle.rights.specs.declared.calls.Call.TheVariants as call
use Rattle.rights.specs.declared.said.Said.{Said}
use Rattle.rights.specs.Request.{call_of}
use Rattle.rights.specs.World as w
use Rattle.rights.specs.Said as said
use Rattle.rv32.specs.declared.registers.Cpu.{Cpu}
use Rattle.rv32.specs.declared.steps.Step.{Step}
use Rattle.rv32.specs.declared.steps.Step.TheVariants as step
use Rattle.rv32.specs.Registers.{fresh}
use Rattle.rv32.specs.Execute.{act, told}
use Rattle.model.specs.declared.objects.Capability.{Capability}
use Rattle.model.specs.declared.objects.State.{State}
use Rattle.model.specs.declared.objects.State.TheVariants.{Stopped, Ready, Waits}
use Rattle.model.specs.declared.objects.Thread.{Thread}
use Rattle.model.specs.Plain as p
use Rattle.model.specs.Calls as calls
use Rattle.model.specs.Turns as turns
use Rattle.model.specs.Says.{is_line, says, says_next}
use Rattle.model.specs.Same.{SaysAgree}
use Rattle.model.specs.Meaning.{page_of, may_write, sizes, slot_of, number_of, state_of, core_of, object_of, world_of}
use Rattle.model.proofs.Agree.{slot, less_one, at_world, slot_world}
use Rattle.model.proofs.Turned.{seen_world}

abbrev on_line : ℕ → ℕ → Option Said
on_line o b = Some (record { line = o; byte = b })

abbrev call_says : w.World Cpu → ℕ → w.Call → Option Said
call_says = said.call_says Cpu fresh act

abbrev act_says : w.World Cpu → ℕ → w.Act Cpu → Option Said
act_says = said.act_says Cpu fresh act

line_by : (o b : ℕ) (x : p.Thing) → cond (is_line x) (on_line o b) None ≡ said.at_line Cpu fresh act o b (object_of x)
unfolding said.at_line
line_by o b (p.line xs ys) = refl
line_by o b _ = refl

line_at : (v : p.Whole) (o b : ℕ) → cond (is_line (p.object v o)) (on_line o b) None ≡ said.at_line Cpu fresh act o b (w.object Cpu fresh act (world_of v) o)
line_at v o b = line_by o b (p.object v o) ∙ ap (said.at_line Cpu fresh act o b) (at_world v o)

-- a call say, with what its slot holds
says_with : (v : p.Whole) (q s b : ℕ) (x : Option Capability) → slot_of x ≡ slot (world_of v) q s →
    p.on_some (calls.only calls.writes x) None (λ c. cond (is_line (p.object v c.object)) (on_line c.object (b % 256)) None) ≡ call_says (world_of v) q (w.say s b)
unfolding said.call_says w.is_empty w.slot_rights w.slot_object
says_with v q s b None e = rw (sym e) refl
says_with v q s b (Some c) e = rw (sym e, less_one c.object) (by (calls.writes c))
  where
    by : (t : Bool) → p.on_some (cond t (Some c) None) None (λ c. cond (is_line (p.object v c.object)) (on_line c.object (b % 256)) None)
        ≡ w.pick (not t) None (said.at_line Cpu fresh act c.object (b % 256) (w.object Cpu fresh act (world_of v) c.object))
    by true = line_at v c.object (b % 256)
    by false = refl

call_same : (v : p.Whole) (q : ℕ) (c : Call) → says v q (step.Call c) ≡ call_says (world_of v) q (call_of c)
unfolding said.call_says
call_same v q (call.Say s b) = says_with v q s b (p.slot v q s) (slot_world v q s)
call_same v q _ = refl

-- a step of thread q, whose core is k
step_same : (v : p.Whole) (q : ℕ) (k : Cpu) (s : Step) → says v q s ≡ act_says (world_of v) q (told k s)
unfolding said.act_says
step_same v q k (step.Call c) = call_same v q c
step_same v q k _ = refl

none_next : (v : p.Whole) (q : ℕ) (x : p.Thing) (r : Option Step) → turns.told_of x r ≡ None → says_next v q r ≡ None
none_next v q x None e = refl
none_next v q x (Some s) e = cc

ready_says : (v : p.Whole) (q : ℕ) (t : Thread) (r : Option Step) → turns.told_of (p.thread t) r ≡ Some (act t.cpu (turns.seen v t.pages)) →
    says_next v q r ≡ act_says (world_of v) q (act t.cpu (w.seen Cpu fresh act sizes (world_of v) (map page_of t.pages)))
ready_says v q t None h = cc
ready_says v q t (Some s) h =
    let k : told t.cpu s ≡ act t.cpu (turns.seen v t.pages) = cc in
    step_same v q t.cpu s ∙ ap (act_says (world_of v) q) (k ∙ ap (act t.cpu) (fun_ext (seen_world v t.pages)))

thread_says : (v : p.Whole) (q : ℕ) (t : Thread) (s : State) (r : Option Step) → turns.told_of (p.thread t) r ≡ cond (turns.is_ready s) (Some (act t.cpu (turns.seen v t.pages))) None →
    says_next v q r
    ≡ said.tick_says Cpu fresh act sizes (world_of v) q (w.thread 0 (state_of s t.cpu) (core_of s t.cpu) (number_of t.table) (map page_of t.pages) (map may_write t.pages))
unfolding said.tick_says
thread_says v q t Stopped r h = none_next v q (p.thread t) r h
thread_says v q t Ready r h = ready_says v q t r h
thread_says v q t (Waits o) r h = none_next v q (p.thread t) r h

object_says : (v : p.Whole) (q : ℕ) (x : p.Thing) (r : Option Step) → turns.told_of x r ≡ turns.next_act v x → says_next v q r ≡ said.tick_says Cpu fresh act sizes (world_of v) q (object_of x)
unfolding said.tick_says
object_says v q (p.thread t) r h = thread_says v q t t.state r h
object_says v q x r h = none_next v q x r h

pub says_agree : SaysAgree
unfolding said.event_says
says_agree v q r h = object_says v q (p.object v q) r h ∙ ap (said.tick_says Cpu fresh act sizes (world_of v) q) (at_world v q)
