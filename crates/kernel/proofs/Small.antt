-- The example.
use mathlib.Core.Path.{◌≡◌, refl, sym, ap, subst, ◌∙◌}
use mathlib.Core.Bool.{Bool, true, false}
use mathlib.Core.List.{List, [], ◌∷◌}
use mathlib.Core.Logic.{◌≢◌}
use Prim.Native.Nat.{ℕ, zero, suc, ◌+◌, ◌/◌, ◌%◌, ◌<◌, ◌≤◌}
use native.Mathlib.Omega.{arith}
use lib.ListN.{length, length-set, get_or, set}
use Rattle.std.proofs.Common.{lit<, lit≤, replicate}
use Rattle.std.specs.Prelude.{Option, Some, None, slice_index_or}
use Rattle.std.proofs.lemmas.List.{get_or-set_same, get_or-set_other, get_or-replicate, length-replicate}
use Rattle.rights.specs.Vocabulary.{everything}
use Rattle.rights.specs.World as w
use Rattle.rv32.specs.Execute as core
use Rattle.rv32.specs.Execute.{act, told}
use Rattle.rv32.specs.declared.steps.Step.{Step}
use Rattle.rv32.specs.Registers.{fresh}
use Rattle.rv32.specs.declared.steps.Step.TheVariants as step
use Rattle.board.specs.declared.slots.Object.{Object}
use Rattle.board.specs.declared.slots.Object.TheVariants as at
use Rattle.board.specs.Links.{cell, put_next, put_depth}
use Rattle.board.specs.Slots.{slot_at, put_slot, upd}
use Rattle.board.specs.Words.{there}
use Rattle.board.proofs.Held.{slots-put_slot, slots-put_word, cells-put_depth, cells-put_next, cells-put_prev}
use Rattle.board.proofs.Units.{around-put_word, around-put_words, there-around}
use Rattle.space.specs.declared.entries.Mapping.{Mapping}
use Rattle.space.specs.declared.lines.Line.{Line}
use Rattle.space.specs.declared.side.State.TheVariants.{Ready}
use Rattle.space.specs.declared.side.Thread.{Thread}
use Rattle.space.specs.Bytes.{seen}
use Rattle.space.specs.Laws.{Kept}
use Rattle.space.specs.Lines as lines
use Rattle.space.specs.Lines.{waiting}
use Rattle.space.specs.Side as side
use Rattle.space.specs.Tables as tables
use Rattle.space.specs.Tables.{look_up}
use Rattle.space.proofs.Spaces.{shaped_fresh, maps, new_is_free, stays_shaped}
use Rattle.space.proofs.Waits.{lines_in_order, stays_kept}
use Rattle.calls.specs.Machine.{Machine, thread_at}
use Rattle.chain.specs.Entries.{run, beyond}
use Rattle.chain.specs.Ring.{Stands}
use Rattle.laws.proofs.Tests.{same_or_not, clash}
use Rattle.kernel.specs.Core as c
use Rattle.kernel.specs.Events.{Ticked, TickedIn, carried}
use Rattle.kernel.specs.Example.{small_spot, small_capability, small_ring, small_bytes, small_thread, small_machine, small_world, CanBeMet}
use Rattle.kernel.specs.Places.{begins, units, OnBoard, Apart, before, after, Laid}
use Rattle.kernel.specs.Relation.{Good, Alike, Mapped, Slotted, mark_at}
use Rattle.kernel.proofs.Bits.{bits_small}
use Rattle.kernel.proofs.Marks.{pick_same, pick_other}

-- what lies where
data Lies : ℕ → Object → Type 0 where
  a_thread : Lies 0 (at.Thread 0)
  a_table : Lies 1 (at.Table 65 1)
  a_page : Lies 2 (at.Page 1)
  a_line : Lies 3 (at.Line 0)

lies : (o : ℕ) (x : Object) → small_spot o ≡ Some x → Lies o x
lies zero x e = let z : at.Thread 0 ≡ x = cc in subst (Lies 0) z a_thread
lies (suc zero) x e = let z : at.Table 65 1 ≡ x = cc in subst (Lies 1) z a_table
lies (suc (suc zero)) x e = let z : at.Page 1 ≡ x = cc in subst (Lies 2) z a_page
lies (suc (suc (suc zero))) x e = let z : at.Line 0 ≡ x = cc in subst (Lies 3) z a_line
lies (suc (suc (suc (suc o)))) x e = clash (cc)

inside_by : (o : ℕ) (x : Object) → Lies o x → OnBoard x → (1 ≤ begins x) × (begins x + units x ≤ 128 + 1)
inside_by _ _ a_thread h = absurd (omega arith)
inside_by _ _ a_table h = (omega arith, omega arith)
inside_by _ _ a_page h = (omega arith, omega arith)
inside_by _ _ a_line h = absurd (omega arith)

apart_by : (o q : ℕ) (x y : Object) → Lies o x → Lies q y → OnBoard x → OnBoard y → o ≢ q → Apart x y
apart_by _ _ _ _ a_thread b h k n = absurd (omega arith)
apart_by _ _ _ _ a_line b h k n = absurd (omega arith)
apart_by _ _ _ _ a_table a_thread h k n = absurd (omega arith)
apart_by _ _ _ _ a_table a_table h k n = absurd (n refl)
apart_by _ _ _ _ a_table a_page h k n = after (omega arith)
apart_by _ _ _ _ a_table a_line h k n = absurd (omega arith)
apart_by _ _ _ _ a_page a_thread h k n = absurd (omega arith)
apart_by _ _ _ _ a_page a_table h k n = before (omega arith)
apart_by _ _ _ _ a_page a_page h k n = absurd (n refl)
apart_by _ _ _ _ a_page a_line h k n = absurd (omega arith)

slots_by : (o : ℕ) (x : Object) (p n : ℕ) → Lies o x → x ≡ at.Table p n → 1 ≤ n
slots_by _ _ p n a_thread e = clash (cc)
slots_by _ _ p n a_table e = let z : 1 ≡ n = cc in omega arith
slots_by _ _ p n a_page e = clash (cc)
slots_by _ _ p n a_line e = clash (cc)

pools_by : (o : ℕ) (x : Object) (p n u l : ℕ) → Lies o x → x ≡ at.Pool p n u l → (1 ≤ n) × (u ≤ n)
pools_by _ _ p n u l a_thread e = clash (cc)
pools_by _ _ p n u l a_table e = clash (cc)
pools_by _ _ p n u l a_page e = clash (cc)
pools_by _ _ p n u l a_line e = clash (cc)

page_by : (o : ℕ) (x : Object) (p : ℕ) → Lies o x → x ≡ at.Page p → p % 64 ≡ 1
page_by _ _ p a_thread e = clash (cc)
page_by _ _ p a_table e = clash (cc)
page_by _ _ p a_page e = let z : 1 ≡ p = cc in omega arith
page_by _ _ p a_line e = clash (cc)

thread_by : (o : ℕ) (x : Object) (i : ℕ) → Lies o x → x ≡ at.Thread i → (o ≡ 0) × (i ≡ 0)
thread_by _ _ i a_thread e = let z : 0 ≡ i = cc in (refl, sym z)
thread_by _ _ i a_table e = clash (cc)
thread_by _ _ i a_page e = clash (cc)
thread_by _ _ i a_line e = clash (cc)

line_by : (o : ℕ) (x : Object) (j : ℕ) → Lies o x → x ≡ at.Line j → (o ≡ 3) × (j ≡ 0)
line_by _ _ j a_thread e = clash (cc)
line_by _ _ j a_table e = clash (cc)
line_by _ _ j a_page e = clash (cc)
line_by _ _ j a_line e = let z : 0 ≡ j = cc in (refl, sym z)

small_laid : Laid 128 small_spot
small_laid = record {
  inside = λ o x e h. inside_by o x (lies o x e) h;
  tables = λ o p n e. slots_by o (at.Table p n) p n (lies o (at.Table p n) e) refl;
  pools = λ o p n u l e. pools_by o (at.Pool p n u l) p n u l (lies o (at.Pool p n u l) e) refl;
  frames = λ o p e. page_by o (at.Page p) p (lies o (at.Page p) e) refl;
  apart = λ o q x y e f h k n. apart_by o q x y (lies o x e) (lies q y f) h k n;
  threads = λ o q i e f. (thread_by o (at.Thread i) i (lies o (at.Thread i) e) refl).0 ∙ sym (thread_by q (at.Thread i) i (lies q (at.Thread i) f) refl).0;
  lines = λ o q j e f. (line_by o (at.Line j) j (lies o (at.Line j) e) refl).0 ∙ sym (line_by q (at.Line j) j (lies q (at.Line j) f) refl).0;
  few = λ o i e. let z = (thread_by o (at.Thread i) i (lies o (at.Thread i) e) refl).1 in omega arith;
  fewer = λ o j e. let z = (line_by o (at.Line j) j (lies o (at.Line j) e) refl).1 in omega arith;
}

-- THE THREAD
one_is : look_up small_thread.pages ≡ upd (look_up tables.fresh) 1 (Some (record { place = 1; writes = true }))
one_is = maps tables.fresh shaped_fresh 1 1 true (lit< tt) refl (lit< tt)

mapped_as : (x y : Option Mapping) (n m : ℕ) (p q : Bool) → x ≡ y → n ≡ m → p ≡ q → Mapped small_spot y m q → Mapped small_spot x n p
mapped_as x y n m p q e f g h = rw (e, f, g) h

abbrev ps : List ℕ
ps = set (replicate 64 0) 1 3

abbrev rs : List Bool
rs = set (replicate 64 false) 1 true

small_alike : Alike small_spot small_thread 0 w.ready (fresh 0) 2 ps rs
small_alike = record {
  number = refl;
  state = tt;
  core = refl;
  table = (65, 1, refl, refl);
  shaped = stays_shaped.1 tables.fresh shaped_fresh 1 1 true;
  wide = length-set {A = ℕ} (replicate 64 0) 1 3 ∙ length-replicate {A = ℕ} 64 0;
  marks = length-set {A = Bool} (replicate 64 false) 1 true ∙ length-replicate {A = Bool} 64 false;
  space = λ a l. same_or_not a 1
      (λ y. mapped_as (look_up small_thread.pages a) (Some (record { place = 1; writes = true })) (get_or ps a 0) 3 (get_or rs a false) true
      (ap (λ f. f a) one_is ∙ pick_same a 1 (Some (record { place = 1; writes = true })) (look_up tables.fresh a) y)
      (ap (λ z. get_or ps z 0) y ∙ get_or-set_same {A = ℕ} (replicate 64 0) 1 3 0 (let h = length-replicate {A = ℕ} 64 0 in omega arith))
      (ap (λ z. get_or rs z false) y ∙ get_or-set_same (replicate 64 false) 1 true false (let h = length-replicate {A = Bool} 64 false in omega arith))
      (1, refl, refl))
      (λ y. mapped_as (look_up small_thread.pages a) None (get_or ps a 0) 0 (get_or rs a false) false
      (ap (λ f. f a) one_is ∙ pick_other a 1 (Some (record { place = 1; writes = true })) (look_up tables.fresh a) y ∙ new_is_free a)
      (get_or-set_other {A = ℕ} (replicate 64 0) 1 a 3 0 y ∙ get_or-replicate {A = ℕ} 64 a 0 0 l)
      (get_or-set_other (replicate 64 false) 1 a true false y ∙ get_or-replicate {A = Bool} 64 a false false l)
      refl);
}

line_as : (l u : Line) → l ≡ u → l.object ≡ 3 → Kept l → waiting l ≡ [] → (u.object ≡ 3) × Kept u × (waiting u ≡ [])
line_as l u e a b y = rw (sym e) (a, b, y)

-- no page is at address 0, so the thread stops
unseen : (m : List ℕ) → act (fresh 0) (seen m small_thread.pages) ≡ w.wrong
unfolding core.there core.read
unseen m = refl

thread_is : (m : List ℕ) → thread_at (small_machine m).side 0 ≡ small_thread
thread_is m = get_or-set_same (replicate 64 (side.fresh_thread 4294967295)) 0 small_thread (side.fresh_thread 4294967295) (let l = length-replicate 64 (side.fresh_thread 4294967295) in omega arith)

-- a ready thread takes a step
ticked : (k : Machine) (i : ℕ) (t : Thread) → thread_at k.side i ≡ t → t.state ≡ Ready → (s : Step) → told t.cpu s ≡ act t.cpu (seen k.bytes t.pages) → Ticked k i (carried k i s)
ticked k i t e f s h =
    subst (λ q. TickedIn q k i (carried k i s)) (sym (ap (λ (u : Thread). u.state) e ∙ f)) (s, subst (λ (u : Thread). told u.cpu s ≡ act u.cpu (seen k.bytes u.pages)) (sym e) h, refl)

-- THE BOARD
module _ (m : List ℕ) (h : length m ≡ 8192) where
  abbrev m1 : List ℕ
  m1 = put_slot m 65 (Some small_capability)

  abbrev m2 : List ℕ
  m2 = put_depth m1 65 0

  abbrev m3 : List ℕ
  m3 = put_next m2 65 65

  long : length (small_bytes m) ≡ 8192
  long = (around-put_word m3 65 10 65).long ∙ (around-put_word m2 65 9 65).long ∙ (around-put_word m1 65 8 0).long ∙ (around-put_words m 65 0 _).long ∙ h

  t0 : there m 65 ≡ true
  t0 = rw h refl

  t1 : there m1 65 ≡ true
  t1 = there-around (around-put_words m 65 0 _) 65 ∙ t0

  t2 : there m2 65 ≡ true
  t2 = there-around (around-put_word m1 65 8 0) 65 ∙ t1

  t3 : there m3 65 ≡ true
  t3 = there-around (around-put_word m2 65 9 65) 65 ∙ t2

  slot : slot_at (small_bytes m) 65 ≡ Some small_capability
  slot =
      ap (λ g. g 65) (slots-put_word m3 65 10 65 (lit≤ tt)) ∙ ap (λ g. g 65) (slots-put_word m2 65 9 65 (lit≤ tt)) ∙ ap (λ g. g 65) (slots-put_word m1 65 8 0 (lit≤ tt))
      ∙ ap (λ g. g 65) (slots-put_slot m 65 (Some small_capability) t0 (bits_small everything)) ∙ pick_same 65 65 (Some small_capability) (slot_at m 65) refl

  after_it : (cell (small_bytes m) 65).next ≡ 65
  after_it = ap (λ g. (g 65).next) (cells-put_prev m3 65 65 t3) ∙ ap (λ g. (g 65).next) (cells-put_next m2 65 65 t2) ∙ pick_same 65 65 65 (cell m2 65).next refl

  before_it : (cell (small_bytes m) 65).prev ≡ 65
  before_it = ap (λ g. (g 65).prev) (cells-put_prev m3 65 65 t3) ∙ pick_same 65 65 65 (cell m3 65).prev refl

  depth : (cell (small_bytes m) 65).depth ≡ 0
  depth =
      ap (λ g. (g 65).depth) (cells-put_prev m3 65 65 t3) ∙ ap (λ g. (g 65).depth) (cells-put_next m2 65 65 t2)
      ∙ ap (λ g. (g 65).depth) (cells-put_depth m1 65 0 t1) ∙ pick_same 65 65 0 (cell m1 65).depth refl

  small_stands : Stands [] 1 (cell (small_bytes m)) small_ring
  unfolding run beyond
  small_stands = record {
    orderly = λ a b e. absurd e;
    chain = record { steps = (omega arith, tt); kin = ((tt, tt, tt), tt); given = (omega arith, tt); once = (tt, tt); apart = (tt, tt) };
    circle = ((after_it, before_it), (depth, tt));
  }

  small_good : (o : ℕ) → Good small_spot (slot_at (small_bytes m)) (mark_at small_ring) (small_machine m) o (c.object (small_world m) o)
  unfolding w.object mark_at
  small_good zero =
      (0, refl, subst (λ t. Alike small_spot t 0 w.ready (fresh 0) 2 ps rs) (sym (thread_is m)) small_alike)
  small_good (suc zero) = (65, refl, by)
    where
      by : (i : ℕ) → i < 1 → Slotted small_spot (slot_at (small_bytes m)) (mark_at small_ring) (65 + i) (slice_index_or (w.cap 3 everything 0 1 0 ∷ []) i w.empty)
      by zero l = (slot, pick_same 65 65 2 0 refl, λ z. clash (cc))
      by (suc i) l = absurd (omega arith)
  small_good (suc (suc zero)) = (1, refl, refl)
  small_good (suc (suc (suc zero))) =
      let e = get_or-set_same (replicate 32 (lines.fresh 65535)) 0 (lines.fresh 3) (lines.fresh 65535) (let l = length-replicate 32 (lines.fresh 65535) in omega arith) in
      let r = line_as (lines.fresh 3) _ (sym e) refl (stays_kept.0 3) (lines_in_order.0 3) in
      (0, refl, r.0, r.1, r.2)
  small_good (suc (suc (suc (suc o)))) = refl

pub can_be_met : CanBeMet
can_be_met m h = (
  record {
    small = let l = long m h in omega arith;
    threads = length-set (replicate 64 (side.fresh_thread 4294967295)) 0 small_thread ∙ length-replicate 64 (side.fresh_thread 4294967295);
    lines = length-set (replicate 32 (lines.fresh 65535)) 0 (lines.fresh 3) ∙ length-replicate 32 (lines.fresh 65535);
    laid = subst (λ n. Laid (n / 64) small_spot) (sym (long m h)) small_laid;
    good = small_good m h;
    stands = small_stands m h;
    slots = (record { table = 1; begin = 65; slots = 1; number = 0; is = refl; small = lit< tt; place = refl }, tt);
  },
  (0, refl, ticked (small_machine m) 0 small_thread (thread_is m) refl step.Stop (sym (unseen (small_bytes m)))),
  λ b. (0, refl, refl),
)
