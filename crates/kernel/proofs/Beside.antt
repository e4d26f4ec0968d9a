-- One object is changed, and what is kept of it: a thread, a line, or a page's bytes. All other objects stay.
use mathlib.Core.Path.{◌≡◌, refl, sym, subst, ◌∙◌}
use mathlib.Core.Bool.{Bool}
use mathlib.Core.List.{List}
use mathlib.Core.Logic.{◌≢◌}
use Prim.Native.Nat.{ℕ}
use native.Mathlib.Omega.{arith}
use lib.ListN.{length, length-set}
use Rattle.std.specs.Prelude.{Option, Some}
use Rattle.std.proofs.lemmas.List.{get_or-set_same, get_or-set_other}
use Rattle.rights.specs.World as w
use Rattle.rv32.specs.declared.registers.Cpu.{Cpu}
use Rattle.rv32.specs.Registers.{fresh}
use Rattle.rv32.specs.Execute.{act}
use Rattle.board.specs.declared.slots.Object.{Object}
use Rattle.board.specs.declared.slots.Object.TheVariants as at
use Rattle.board.specs.Links.{cell}
use Rattle.board.specs.Parts.{page_at}
use Rattle.board.specs.Slots.{slot_at}
use Rattle.space.specs.declared.lines.Line.{Line}
use Rattle.space.specs.declared.side.State.{State}
use Rattle.space.specs.declared.side.State.TheVariants.{Stopped, Ready, Sends, Receives}
use Rattle.space.specs.declared.side.Thread.{Thread}
use Rattle.space.specs.Laws.{Kept}
use Rattle.space.specs.Lines as lines
use Rattle.space.specs.Lines.{waiting}
use Rattle.space.specs.Side.{fresh_thread}
use Rattle.calls.specs.Machine.{Machine, thread_at, with_thread, line_at, with_line}
use Rattle.chain.specs.Entries.{Entry}
use Rattle.chain.specs.Ring.{Stands}
use Rattle.laws.proofs.Tests.{same_or_not, clash}
use Rattle.kernel.specs.Core as c
use Rattle.kernel.specs.Relation.{Rep, Good, Alike, Like, mark_at}
use Rattle.kernel.proofs.Written.{put_same, put_other, live, good_live}

-- a state on both sides: no thread waits yet
pub data SameState : State → w.State Cpu → Type 0 where
  both_stopped : SameState Stopped w.stopped
  both_ready : SameState Ready w.ready

pub same_state : (a : State) (s : w.State Cpu) → Like a s → SameState a s
same_state Stopped w.stopped h = both_stopped
same_state Stopped w.ready h = absurd h
same_state Stopped (w.waits u f) h = absurd h
same_state Ready w.stopped h = absurd h
same_state Ready w.ready h = both_ready
same_state Ready (w.waits u f) h = absurd h
same_state (Sends a b g) w.stopped h = absurd h
same_state (Sends a b g) w.ready h = absurd h
same_state (Sends a b g) (w.waits u f) h = absurd h
same_state (Receives a) w.stopped h = absurd h
same_state (Receives a) w.ready h = absurd h
same_state (Receives a) (w.waits u f) h = absurd h

-- what lies somewhere, on both sides: no pools and no ports yet
pub data Met (spot : ℕ → Option Object) (k : Machine) (o : ℕ) : Object → c.Object → Type 0 where
  tables : (p n f : ℕ) (ss : List w.Slot) → Met spot k o (at.Table p n) (w.table f ss)
  pages : (p f : ℕ) (bs : List ℕ) → page_at k.bytes p ≡ bs → Met spot k o (at.Page p) (w.page f bs)
  threads : (i f : ℕ) (s : w.State Cpu) (d : Cpu) (b : ℕ) (ps : List ℕ) (rs : List Bool) → Alike spot (thread_at k.side i) o s d b ps rs → Met spot k o (at.Thread i) (w.thread f s d b ps rs)
  lines_met : (j : ℕ) (xs ys : List ℕ) → (line_at k.side j).object ≡ o → Kept (line_at k.side j) → waiting (line_at k.side j) ≡ ys → Met spot k o (at.Line j) (w.line xs ys)

pub met : (spot : ℕ → Option Object) (held : _) (mark : ℕ → ℕ) (k : Machine) (o : ℕ) (x : Object) (y : c.Object) → Good spot held mark k o y → spot o ≡ Some x → Met spot k o x y
met spot held mark k o x w.gone g e = clash (cc)
met spot held mark k o x (w.pool f n u) g e = absurd g
met spot held mark k o x (w.table f ss) (p, g, _) e =
    let z : at.Table p (length ss) ≡ x = cc in
    subst (λ a. Met spot k o a (w.table f ss)) z (tables p (length ss) f ss)
met spot held mark k o x (w.port f ws) g e = absurd g
met spot held mark k o x (w.page f bs) (p, g, h) e =
    let z : at.Page p ≡ x = cc in
    subst (λ a. Met spot k o a (w.page f bs)) z (pages p f bs h)
met spot held mark k o x (w.thread f s d b ps rs) (i, g, h) e =
    let z : at.Thread i ≡ x = cc in
    subst (λ a. Met spot k o a (w.thread f s d b ps rs)) z (threads i f s d b ps rs h)
met spot held mark k o x (w.line xs ys) (j, g, n, h, q) e =
    let z : at.Line j ≡ x = cc in
    subst (λ a. Met spot k o a (w.line xs ys)) z (lines_met j xs ys n h q)

kept_as : (l u : Line) (o : ℕ) (ys : List ℕ) → l ≡ u → l.object ≡ o → Kept l → waiting l ≡ ys → (u.object ≡ o) × Kept u × (waiting u ≡ ys)
kept_as l u o ys e a b y = rw (sym e) (a, b, y)

module _ (spot : ℕ → Option Object) (ring : List Entry) (k : Machine) (v : c.World) (rep : Rep spot ring k v) where
  pub met_at : (o : ℕ) (x : Object) → spot o ≡ Some x → Met spot k o x (c.object v o)
  met_at o x e = met spot (slot_at k.bytes) (mark_at ring) k o x (c.object v o) (rep.good o) e

  -- object o is y then, and k' is kept
  pub rep_change : (k' : Machine) (o : ℕ) (x : Object) (y : c.Object) → spot o ≡ Some x → length k'.bytes ≡ length k.bytes → length k'.side.threads ≡ 64 → length k'.side.lines ≡ 32 →
      Good spot (slot_at k'.bytes) (mark_at ring) k' o y →
      ((q : ℕ) (z : c.Object) → q ≢ o → Good spot (slot_at k.bytes) (mark_at ring) k q z → Good spot (slot_at k'.bytes) (mark_at ring) k' q z) →
      Stands v.lineage v.births (cell k'.bytes) ring → Rep spot ring k' (w.with_object Cpu fresh act v o y)
  unfolding w.with_object
  rep_change k' o x y e long ts ls g others st =
      record {
        small = rw long rep.small;
        threads = ts;
        lines = ls;
        laid = rw long rep.laid;
        good = λ q. same_or_not q o
            (λ z. subst (λ n. Good spot (slot_at k'.bytes) (mark_at ring) k' n (c.object (w.with_object Cpu fresh act v o y) n)) (sym z)
            (subst (Good spot (slot_at k'.bytes) (mark_at ring) k' o) (sym (put_same v o y (live v o (good_live spot (slot_at k.bytes) (mark_at ring) k o (c.object v o) x (rep.good o) e)))) g))
            (λ n. subst (Good spot (slot_at k'.bytes) (mark_at ring) k' q) (sym (put_other v o y q n)) (others q (c.object v q) n (rep.good q)));
        stands = st;
        slots = rep.slots;
      }

  -- a thread is changed
  pub rep_thread : (o i : ℕ) → spot o ≡ Some (at.Thread i) → (t : Thread) (f : ℕ) (s : w.State Cpu) (d : Cpu) (b : ℕ) (ps : List ℕ) (rs : List Bool) → Alike spot t o s d b ps rs →
      Rep spot ring (record { bytes = k.bytes; side = with_thread k.side i t }) (w.with_object Cpu fresh act v o (w.thread f s d b ps rs))
  rep_thread o i e t f s d b ps rs a =
      rep_change (record { bytes = k.bytes; side = with_thread k.side i t }) o (at.Thread i) (w.thread f s d b ps rs) e refl (length-set k.side.threads i t ∙ rep.threads) rep.lines
      (i, e, subst (λ u. Alike spot u o s d b ps rs) (sym (get_or-set_same k.side.threads i t (fresh_thread 4294967295) (omega (arith, rep.laid.few o i e, rep.threads)))) a)
      others rep.stands
    where
      others : (q : ℕ) (z : c.Object) → q ≢ o → Good spot (slot_at k.bytes) (mark_at ring) k q z → Good spot (slot_at k.bytes) (mark_at ring) (record { bytes = k.bytes; side = with_thread k.side i t }) q z
      others q w.gone n g = g
      others q (w.pool f m u) n g = g
      others q (w.table f ss) n g = g
      others q (w.port f ws) n g = g
      others q (w.page f bs) n g = g
      others q (w.thread f s d b ps rs) n (j, g, h) = (
        j,
        g,
        subst (λ u. Alike spot u q s d b ps rs)
            (sym (get_or-set_other k.side.threads i j t (fresh_thread 4294967295) (λ y. n (rep.laid.threads q o i (subst (λ m. spot q ≡ Some (at.Thread m)) y g) e)))) h,
      )
      others q (w.line xs ys) n g = g

  -- a line is changed
  pub rep_line : (o j : ℕ) → spot o ≡ Some (at.Line j) → (l : Line) (xs ys : List ℕ) → l.object ≡ o → Kept l → waiting l ≡ ys →
      Rep spot ring (record { bytes = k.bytes; side = with_line k.side j l }) (w.with_object Cpu fresh act v o (w.line xs ys))
  rep_line o j e l xs ys a b y =
      rep_change (record { bytes = k.bytes; side = with_line k.side j l }) o (at.Line j) (w.line xs ys) e refl rep.threads (length-set k.side.lines j l ∙ rep.lines)
      (let h = kept_as l (line_at (with_line k.side j l) j) o ys (sym (get_or-set_same k.side.lines j l (lines.fresh 65535) (omega (arith, rep.laid.fewer o j e, rep.lines)))) a b y in (j, e, h.0, h.1, h.2))
      others rep.stands
    where
      others : (q : ℕ) (z : c.Object) → q ≢ o → Good spot (slot_at k.bytes) (mark_at ring) k q z → Good spot (slot_at k.bytes) (mark_at ring) (record { bytes = k.bytes; side = with_line k.side j l }) q z
      others q w.gone n g = g
      others q (w.pool f m u) n g = g
      others q (w.table f ss) n g = g
      others q (w.port f ws) n g = g
      others q (w.page f bs) n g = g
      others q (w.thread f s d b ps rs) n g = g
      others q (w.line xs ys) n (i, g, x, y, z) =
          let h = kept_as (line_at k.side i) (line_at (with_line k.side j l) i) q ys
          (sym (get_or-set_other k.side.lines j i l (lines.fresh 65535) (λ y. n (rep.laid.lines q o j (subst (λ m. spot q ≡ Some (at.Line m)) y g) e)))) x y z in
          (i, g, h.0, h.1, h.2)

  -- a line has shown other bytes, of which nothing is kept
  pub rep_shown : (o j : ℕ) → spot o ≡ Some (at.Line j) → (xs ys : List ℕ) → (line_at k.side j).object ≡ o → Kept (line_at k.side j) → waiting (line_at k.side j) ≡ ys →
      Rep spot ring k (w.with_object Cpu fresh act v o (w.line xs ys))
  rep_shown o j e xs ys a b y = rep_change k o (at.Line j) (w.line xs ys) e refl rep.threads rep.lines (j, e, a, b, y) (λ q z n g. g) rep.stands
