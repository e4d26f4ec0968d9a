-- All calls meet: those on threads and lines by the slots that they name, and cut, send and receive, which are refused on both sides.
use mathlib.Core.Bool.{true, not}
use mathlib.Core.Path.{◌≡◌, refl, ◌∙◌}
use mathlib.Core.List.{List}
use Prim.Native.Nat.{ℕ, ◌-◌}
use Rattle.std.specs.Prelude.{Option, Some, None, take, nat_le}
use Rattle.rights.specs.Vocabulary.{four}
use Rattle.rights.specs.declared.calls.NewObject.{NewObject}
use Rattle.rights.specs.declared.calls.Call.TheVariants.{Cut, Copy, Move, Drop, Revoke, Send, Receive, Map, Unmap, Bind, Go, Say, Hear}
use Rattle.rights.specs.Request.{call_of, kind_of}
use Rattle.rights.specs.Said.{call_says}
use Rattle.rights.specs.World as w
use Rattle.rights.specs.World.{is_empty, slot_rights, slot_object, does}
use Rattle.rv32.specs.declared.registers.Cpu.{Cpu}
use Rattle.rv32.specs.Registers.{fresh}
use Rattle.rv32.specs.Execute.{act}
use Rattle.board.specs.declared.slots.Object.{Object}
use Rattle.board.specs.declared.slots.Object.TheVariants as at
use Rattle.board.specs.Slots.{slot_at}
use Rattle.space.specs.declared.side.Side.{Side}
use Rattle.space.specs.declared.side.Table.{Table}
use Rattle.calls.specs.Calls.{call, refused}
use Rattle.calls.specs.Machine as m
use Rattle.calls.specs.Machine.{Machine}
use Rattle.calls.specs.Slots.{readable_page, writable_table}
use Rattle.chain.specs.Entries.{Entry}
use Rattle.laws.proofs.Tests.{either_way, pick_both, less_one, or_second}
use Rattle.kernel.specs.Core as c
use Rattle.kernel.specs.Meets.{Meets, CallsMeet}
use Rattle.kernel.specs.Relation.{Rep, Good, mark_at}
use Rattle.kernel.proofs.Bits.{reads_bits, writes_bits}
use Rattle.kernel.proofs.Holding.{Holding, nothing, holds, holding}
use Rattle.kernel.proofs.SlotCalls.{meets_refused, drop_meets, move_meets}
use Rattle.kernel.proofs.Copying.{copy_meets}
use Rattle.kernel.proofs.Revoking.{revoke_meets}
use Rattle.kernel.proofs.Beside.{met_at}
use Rattle.kernel.proofs.SideCalls.{then_none, going, freeing, putting, binding, saying, hearing}

module _ (spot : ℕ → Option Object) (ring : List Entry) (k : Machine) (v : c.World) (rep : Rep spot ring k v) (p i : ℕ) (e : spot p ≡ Some (at.Thread i)) where
  abbrev t : Option Table
  t = m.table_of k.side i

  no_call : Meets spot None (refused k) (w.refuse Cpu fresh act v)
  no_call = meets_refused spot ring k v rep

  go_meets : (s a : ℕ) → Meets spot (call_says Cpu fresh act v p (w.go s a)) (call k i (Go s a)) (c.does v p (w.go s a))
  unfolding does is_empty call_says slot_rights slot_object
  go_meets s a = of (holding spot ring k v rep p i e s)
    where
      of : Holding spot ring k v p t s → Meets spot (call_says Cpu fresh act v p (w.go s a)) (call k i (Go s a)) (c.does v p (w.go s a))
      of (nothing h g) = rw (h, g) no_call
      of (holds u b n o d j y r x l sl ox h q f) =
          either_way r.writes
          (λ g. rw (h, sl, writes_bits r, g, less_one o) (going spot ring k v rep o a x (c.object v o) ox (met_at spot ring k v rep o x ox)))
          (λ g. rw (h, sl, writes_bits r, g) no_call)

  unmap_meets : (s a : ℕ) → Meets spot (call_says Cpu fresh act v p (w.unmap s a)) (call k i (Unmap s a)) (c.does v p (w.unmap s a))
  unfolding does is_empty call_says slot_rights slot_object
  unmap_meets s a = of (holding spot ring k v rep p i e s)
    where
      of : Holding spot ring k v p t s → Meets spot (call_says Cpu fresh act v p (w.unmap s a)) (call k i (Unmap s a)) (c.does v p (w.unmap s a))
      of (nothing h g) = rw (h, g) no_call
      of (holds u b n o d j y r x l sl ox h q f) =
          either_way r.writes
          (λ g. rw (h, sl, writes_bits r, g, less_one o) (freeing spot ring k v rep o a x (c.object v o) ox (met_at spot ring k v rep o x ox)))
          (λ g. rw (h, sl, writes_bits r, g) no_call)

  say_meets : (s b : ℕ) → Meets spot (call_says Cpu fresh act v p (w.say s b)) (call k i (Say s b)) (c.does v p (w.say s b))
  unfolding does is_empty call_says slot_rights slot_object
  say_meets s b = of (holding spot ring k v rep p i e s)
    where
      of : Holding spot ring k v p t s → Meets spot (call_says Cpu fresh act v p (w.say s b)) (call k i (Say s b)) (c.does v p (w.say s b))
      of (nothing h g) = rw (h, g) no_call
      of (holds u a n o d j y r x l sl ox h q f) =
          either_way r.writes
          (λ g. rw (h, sl, writes_bits r, g, less_one o) (saying spot ring k v rep o b x (c.object v o) ox (met_at spot ring k v rep o x ox)))
          (λ g. rw (h, sl, writes_bits r, g) no_call)

  hear_meets : (s : ℕ) → Meets spot (call_says Cpu fresh act v p (w.hear s)) (call k i (Hear s)) (c.does v p (w.hear s))
  unfolding does is_empty call_says slot_rights slot_object
  hear_meets s = of (holding spot ring k v rep p i e s)
    where
      of : Holding spot ring k v p t s → Meets spot (call_says Cpu fresh act v p (w.hear s)) (call k i (Hear s)) (c.does v p (w.hear s))
      of (nothing h g) = rw (h, g) no_call
      of (holds u a n o d j y r x l sl ox h q f) =
          either_way r.reads
          (λ g. rw (h, sl, reads_bits r, g, less_one o) (hearing spot ring k v rep o x (c.object v o) ox (met_at spot ring k v rep o x ox)))
          (λ g. rw (h, sl, reads_bits r, g) no_call)

  -- map and bind name two slots
  map_meets : (s z a : ℕ) → Meets spot (call_says Cpu fresh act v p (w.map s z a)) (call k i (Map s z a)) (c.does v p (w.map s z a))
  unfolding does is_empty call_says slot_rights slot_object
  map_meets s z a = of (holding spot ring k v rep p i e s) (holding spot ring k v rep p i e z)
    where
      of : Holding spot ring k v p t s → Holding spot ring k v p t z → Meets spot (call_says Cpu fresh act v p (w.map s z a)) (call k i (Map s z a)) (c.does v p (w.map s z a))
      of (nothing h g) y = rw (h, g) no_call
      of (holds u b n o d j y r x l sl ox h q f) (nothing h' g') = rw (h', sl, g', then_none {B = Side} (readable_page k.bytes t s)) no_call
      of (holds u b n o d j y r x l sl ox h q f) (holds u' b' n' o' d' j' y' r' x' l' sl' ox' h' q' f') =
          either_way r'.writes
          (λ g'. either_way r.reads
          (λ g. rw (h, h', sl, sl', reads_bits r ∙ g, writes_bits r, writes_bits r' ∙ g', g, g', less_one o, less_one o')
          (putting spot ring k v rep o o' a r.writes x x' (c.object v o) (c.object v o') ox (met_at spot ring k v rep o x ox) ox' (met_at spot ring k v rep o' x' ox') refl))
          (λ g. rw (h, sl, sl', reads_bits r, g) no_call))
          (λ g'. rw (h', sl, sl', writes_bits r', g', then_none {B = Side} (readable_page k.bytes t s), or_second (not r.reads) true refl) no_call)

  bind_meets : (z s : ℕ) → Meets spot (call_says Cpu fresh act v p (w.bind z s)) (call k i (Bind z s)) (c.does v p (w.bind z s))
  unfolding does is_empty call_says slot_rights slot_object
  bind_meets z s = of (holding spot ring k v rep p i e s) (holding spot ring k v rep p i e z)
    where
      of : Holding spot ring k v p t s → Holding spot ring k v p t z → Meets spot (call_says Cpu fresh act v p (w.bind z s)) (call k i (Bind z s)) (c.does v p (w.bind z s))
      of (nothing h g) y = rw (h, g, or_second (is_empty (c.slot v p z)) true refl) no_call
      of (holds u b n o d j y r x l sl ox h q f) (nothing h' g') = rw (h', g', then_none {B = Side} (writable_table k.bytes t s)) no_call
      of (holds u b n o d j y r x l sl ox h q f) (holds u' b' n' o' d' j' y' r' x' l' sl' ox' h' q' f') =
          either_way r'.writes
          (λ g'. either_way r.writes
          (λ g. rw (h, h', sl, sl', writes_bits r ∙ g, writes_bits r' ∙ g', g, g', less_one o, less_one o')
          (binding spot ring k v rep o o' x x' (c.object v o) (c.object v o') ox (met_at spot ring k v rep o x ox) ox' (met_at spot ring k v rep o' x' ox') refl))
          (λ g. rw (h, sl, sl', writes_bits r, g) no_call))
          (λ g'. rw (h', sl, sl', writes_bits r', g', then_none {B = Side} (writable_table k.bytes t s), or_second (not r.writes) true refl) no_call)

  -- there is no pool to cut from, and no port to send to or to receive at
  cut_meets : (s d : ℕ) (n : NewObject) → Meets spot (call_says Cpu fresh act v p (call_of (Cut s n d))) (call k i (Cut s n d)) (c.does v p (call_of (Cut s n d)))
  unfolding does call_says w.cutting
  cut_meets s d n = pick_both (Meets spot None (refused k)) _ no_call (of (c.object v (slot_object (c.slot v p s) - 1)) (rep.good (slot_object (c.slot v p s) - 1)))
    where
      of : (x : c.Object) → Good spot (slot_at k.bytes) (mark_at ring) k (slot_object (c.slot v p s) - 1) x →
          Meets spot None (refused k) (w.cutting Cpu fresh act c.sizes v p (slot_object (c.slot v p s) - 1) (c.slot v p s) (kind_of n) d x)
      of w.gone g = no_call
      of (w.pool f m u) g = absurd g
      of (w.table f ss) g = no_call
      of (w.port f ws) g = no_call
      of (w.page f bs) g = no_call
      of (w.thread f q c t ps rs) g = no_call
      of (w.line xs ys) g = no_call

  send_meets : (s g : ℕ) (ws : List ℕ) → Meets spot (call_says Cpu fresh act v p (call_of (Send s g ws))) (call k i (Send s g ws)) (c.does v p (call_of (Send s g ws)))
  unfolding does call_says w.sending
  send_meets s g ws = pick_both (Meets spot None (refused k)) _ no_call (of (c.object v (slot_object (c.slot v p s) - 1)) (rep.good (slot_object (c.slot v p s) - 1)))
    where
      of : (x : c.Object) → Good spot (slot_at k.bytes) (mark_at ring) k (slot_object (c.slot v p s) - 1) x →
          Meets spot None (refused k) (w.sending Cpu fresh act v p (slot_object (c.slot v p s) - 1) (w.slot_badge (c.slot v p s)) (take 4 (four ws)) (slot_rights (c.slot v p s)).hands (nat_le g 4095) g x)
      of w.gone h = no_call
      of (w.pool f m u) h = no_call
      of (w.table f ss) h = no_call
      of (w.port f ws) h = absurd h
      of (w.page f bs) h = no_call
      of (w.thread f q c t ps rs) h = no_call
      of (w.line xs ys) h = no_call

  receive_meets : (s d : ℕ) → Meets spot (call_says Cpu fresh act v p (w.receive s d)) (call k i (Receive s d)) (c.does v p (w.receive s d))
  unfolding does call_says w.receiving
  receive_meets s d = pick_both (Meets spot None (refused k)) _ no_call (of (c.object v (slot_object (c.slot v p s) - 1)) (rep.good (slot_object (c.slot v p s) - 1)))
    where
      of : (x : c.Object) → Good spot (slot_at k.bytes) (mark_at ring) k (slot_object (c.slot v p s) - 1) x →
          Meets spot None (refused k) (w.receiving Cpu fresh act v p (slot_object (c.slot v p s) - 1) d x)
      of w.gone h = no_call
      of (w.pool f m u) h = no_call
      of (w.table f ss) h = no_call
      of (w.port f ws) h = absurd h
      of (w.page f bs) h = no_call
      of (w.thread f q c t ps rs) h = no_call
      of (w.line xs ys) h = no_call

pub calls_meet : CallsMeet
calls_meet spot ring k v rep p i e (Cut s n d) = cut_meets spot ring k v rep p i e s d n
calls_meet spot ring k v rep p i e (Copy s d r b) = copy_meets spot ring k v rep p i e s d r b
calls_meet spot ring k v rep p i e (Move s d) = move_meets spot ring k v rep p i e s d
calls_meet spot ring k v rep p i e (Drop s) = drop_meets spot ring k v rep p i e s
calls_meet spot ring k v rep p i e (Revoke s) = revoke_meets spot ring k v rep p i e s
calls_meet spot ring k v rep p i e (Send s g ws) = send_meets spot ring k v rep p i e s g ws
calls_meet spot ring k v rep p i e (Receive s d) = receive_meets spot ring k v rep p i e s d
calls_meet spot ring k v rep p i e (Map s z a) = map_meets spot ring k v rep p i e s z a
calls_meet spot ring k v rep p i e (Unmap z a) = unmap_meets spot ring k v rep p i e z a
calls_meet spot ring k v rep p i e (Bind z s) = bind_meets spot ring k v rep p i e z s
calls_meet spot ring k v rep p i e (Go z a) = go_meets spot ring k v rep p i e z a
calls_meet spot ring k v rep p i e (Say s b) = say_meets spot ring k v rep p i e s b
calls_meet spot ring k v rep p i e (Hear s) = hear_meets spot ring k v rep p i e s
