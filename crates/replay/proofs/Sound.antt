-- A world that means an allowed world is sound.
use Rattle.std.proofs.Common.{◌≡◌, ℕ, suc, ◌<◌, ◌≤◌, true, List, [], map, reverse, length, get_or, Some, Option, Ok, sym, refl, ap, ◌∙◌, subst, inl, inr, arith}
use Rattle.std.proofs.lemmas.List.{length-map, length-reverse, nil_from_length, get_or_past}
use Rattle.std.proofs.lemmas.Bool.{cases_lt}
use Rattle.rights.specs.Vocabulary.{rights_of}
use Rattle.rights.specs.World as w
use Rattle.rights.specs.Promise.{New, new_pool, new_table, new_port, new_page, new_thread, new_line}
use Rattle.rv32.specs.declared.registers.Cpu.{Cpu}
use Rattle.rv32.specs.Registers.{fresh}
use Rattle.rv32.specs.Execute.{act}
use Rattle.image.specs.declared.census.Census.{Census}
use Rattle.image.specs.Meaning as m
use Rattle.image.specs.Verdict.{verdict, all_kinds}
use Rattle.image.specs.Allowed.{Bytes, Allowed}
use Rattle.image.proofs.Means.{means_allowed}
use Rattle.model.specs.declared.objects.Capability.{Capability}
use Rattle.model.specs.declared.objects.Thread.{Thread}
use Rattle.model.specs.Plain as p
use Rattle.model.specs.Calls.{is_page}
use Rattle.model.specs.Sweeps.{base_of}
use Rattle.model.specs.Sound.{Dense, Sound}
use Rattle.model.specs.Meaning.{sizes, number_of, page_of, may_write, cap_of, slot_of, state_of, core_of, object_of, world_of}
use Rattle.model.proofs.Agree.{object, slots_of, read_any, at_world, slot_at_world}

abbrev from_of : w.Object Cpu → ℕ
from_of = w.from_of Cpu fresh act

abbrev Fresh : w.Object Cpu → Type 0
Fresh x = New Cpu fresh act sizes x

-- new objects were not cut from a pool, and a new page has all its bytes
uncut : (x : w.Object Cpu) → Fresh x → from_of x ≡ 0
unfolding w.from_of
uncut x (new_pool a b) = refl
uncut x (new_table a b) = refl
uncut x new_port = refl
uncut x (new_page a b) = refl
uncut x (new_thread a b c) = refl
uncut x new_line = refl

full_page : (x : w.Object Cpu) → Fresh x → (g : ℕ) (bs : List ℕ) → x ≡ w.page g bs → length bs ≡ 4096
full_page x (new_pool a b) g bs e = cc
full_page x (new_table a b) g bs e = cc
full_page x new_port g bs e = cc
full_page x (new_page {bs = ys} a b) g bs e = let q : ys ≡ bs = cc in ap length (sym q) ∙ a
full_page x (new_thread a b c) g bs e = cc
full_page x new_line g bs e = cc

from_back : (x : p.Thing) → number_of (p.from_of x) ≡ from_of (object_of x)
unfolding w.from_of
from_back p.gone = refl
from_back (p.pool f n u) = refl
from_back (p.table f ss) = refl
from_back (p.port f q) = refl
from_back (p.page f bs) = refl
from_back (p.thread t) = refl
from_back (p.line xs ys) = refl

page_back : (x : p.Thing) (g : ℕ) (bs : List ℕ) → object_of x ≡ w.page g bs → is_page x ≡ true
page_back p.gone g bs e = cc
page_back (p.pool f n u) g bs e = cc
page_back (p.table f ss) g bs e = cc
page_back (p.port f q) g bs e = cc
page_back (p.page f ys) g bs e = refl
page_back (p.thread t) g bs e = cc
page_back (p.line xs ys) g bs e = cc

none_made : (xs : List (Option Capability)) → reverse (map slot_of xs) ≡ [] → xs ≡ []
none_made xs e =
    let l : length (reverse (map slot_of xs)) ≡ 0 = ap length e in
    let m : length (map slot_of xs) ≡ length xs = rw length-map refl in
    nil_from_length xs (sym m ∙ sym (length-reverse (map slot_of xs)) ∙ l)

module _ (v : p.Whole) (allowed : Allowed sizes (world_of v)) where
  -- an object is new, or was never there
  is_new : (o : ℕ) → o < length v.things → Fresh (object_of (p.object v o))
  is_new o l = subst Fresh (sym (at_world v o)) (allowed.new o (rw length-map l))

  past_end : (o : ℕ) → length v.things ≤ o → p.object v o ≡ p.gone
  unfolding p.object
  past_end o l = get_or_past v.things o p.gone l

  born : (o s : ℕ) (c : Capability) → p.slot_at (p.object v o) s ≡ Some c → c.birth ≤ v.births
  born o s c e =
      let h : get_or (slots_of (object (world_of v) o)) s w.empty ≡ cap_of c =
      ap (λ x. get_or (slots_of x) s w.empty) (sym (at_world v o)) ∙ sym (slot_at_world (p.object v o) s) ∙ ap slot_of e in
      (allowed.parted.born o s c.object c.badge c.birth c.mother (rights_of c.rights) h).1

  from_none : (o : ℕ) → number_of (p.from_of (p.object v o)) ≡ 0
  from_none o =
      elim (cases_lt o (length v.things)) [
        | inl l ↦ from_back (p.object v o) ∙ uncut (object_of (p.object v o)) (is_new o l)
        | inr l ↦ ap (λ x. number_of (p.from_of x)) (past_end o l)
      ]

  after : (o f : ℕ) → p.from_of (p.object v o) ≡ Some f → f < o
  after o f e = let z : suc f ≡ 0 = ap number_of (sym e) ∙ from_none o in absurd (omega (arith, z))

  full : (o : ℕ) (f : Option ℕ) (bs : List ℕ) → p.object v o ≡ p.page f bs → length bs ≡ 4096
  full o f bs e =
      elim (cases_lt o (length v.things)) [
        | inl l ↦ full_page (object_of (p.object v o)) (is_new o l) (number_of f) bs (ap object_of e)
        | inr l ↦ (let h : p.gone ≡ p.page f bs = sym (past_end o l) ∙ e in cc)
      ]

  paged : (q k o : ℕ) (t : Thread) → p.object v q ≡ p.thread t → p.page_at t.pages k ≡ Some o → is_page (p.object v o) ≡ true
  paged q k o t e h =
      let there : object (world_of v) q ≡ object_of (p.thread t) = sym (at_world v q) ∙ ap object_of e in
      let named : get_or (map page_of t.pages) k 0 ≡ suc o = sym (read_any page_of t.pages k p.unmapped) ∙ ap number_of h in
      let x = allowed.fits.its_pages q 0 (number_of t.table) k o (state_of t.state t.cpu) (core_of t.state t.cpu) (map page_of t.pages) (map may_write t.pages) there named in
      page_back (p.object v o) x.0 x.1 (at_world v o ∙ x.2)

  pub is_sound : Sound v
  unfolding Dense
  is_sound =
      let none = none_made v.lineage allowed.parted.nothing_made in
      let empty : length v.lineage ≡ 0 = ap length none in
      record {
        dense = subst (λ xs. Dense (base_of v) xs) (sym none) tt;
        counted = omega (arith, empty);
        born = born;
        after = after;
        full = full;
        paged = paged;
      }

-- so is what an image that is taken is made into
pub started : (lent : ℕ) (bs : List ℕ) (c : Census) (v : p.Whole) → Bytes bs → verdict all_kinds lent bs ≡ Ok c → world_of v ≡ m.world_of bs → Sound v
started lent bs c v low e h = is_sound v (subst (Allowed sizes) (sym h) (means_allowed all_kinds lent sizes bs c refl refl low e).0)
