-- What is carried out from an image that is taken is what the abstract world does: what is left, what is said, and what lines show.
use Rattle.std.proofs.Common.{◌≡◌, ◌==◌, ℕ, Bool, true, false, cond, List, [], ◌++◌, length, vec_items, Ok, Err, sym, refl, ap, ◌∙◌, inl, inr, subst}
use Rattle.std.proofs.lemmas.List.{get_or_past}
use Rattle.std.proofs.lemmas.Bool.{cases_lt}
use Rattle.rights.specs.declared.refusals.Refusal.TheVariants.{Length}
use Rattle.rights.specs.Vocabulary.{refusal_number}
use Rattle.rights.specs.World as w
use Rattle.rights.specs.Said.{said, said_on, SaidIsShownIn, SaidIsShown}
use Rattle.rights.specs.Promise.{New, new_pool, new_table, new_port, new_page, new_thread, new_line, Kinds, ImageStarts}
use Rattle.rv32.specs.declared.registers.Cpu.{Cpu}
use Rattle.rv32.specs.Registers.{fresh}
use Rattle.rv32.specs.Execute.{act}
use Rattle.image.specs.declared.census.Census.{Census}
use Rattle.image.specs.Allowed.{Bytes, Allowed}
use Rattle.image.specs.Fields.{Read, ◌then◌}
use Rattle.image.specs.Limits as limits
use Rattle.image.specs.Meaning as m
use Rattle.image.specs.Rows.{row}
use Rattle.image.specs.Verdict.{verdict, all_kinds}
use Rattle.image.proofs.Means.{means_allowed}
use Rattle.laws.proofs.Images.{image_starts}
use Rattle.laws.proofs.Spoken.{said_is_shown}
use Rattle.model.specs.Meaning.{sizes, world_of}
use Rattle.model.specs.Plain.{Whole, plain}
use Rattle.model.specs.Same.{Ran}
use Rattle.model.specs.Sound.{Sound}
use Rattle.model.proofs.Lasting.{rows_agree}
use Rattle.replay.specs.declared.runs.Replayed.{Replayed}
use Rattle.replay.specs.Replays.{said_from, Replays}
use Rattle.replay.proofs.Sound.{is_sound}

-- new objects show nothing
new_shows : (x : w.Object Cpu) → New Cpu fresh act sizes x → w.shown_by Cpu fresh act x ≡ []
unfolding w.shown_by
new_shows x (new_pool a b) = refl
new_shows x (new_table a b) = refl
new_shows x new_port = refl
new_shows x (new_page a b) = refl
new_shows x (new_thread a b c) = refl
new_shows x new_line = refl

module _ (bs : List ℕ) (a : Allowed sizes (m.world_of bs)) where
  starts_shown : (o : ℕ) → w.shown_by Cpu fresh act (w.object Cpu fresh act (m.world_of bs) o) ≡ []
  unfolding w.object w.shown_by
  starts_shown o =
      elim (cases_lt o (length (m.world_of bs).objects)) [
        | inl l ↦ new_shows _ (a.new o l)
        | inr l ↦ ap (w.shown_by Cpu fresh act) (get_or_past (m.world_of bs).objects o w.gone l)
      ]

  right_kinds : Kinds Cpu fresh act (m.world_of bs)
  unfolding ImageStarts
  right_kinds = (image_starts Cpu fresh act sizes m.frames (m.world_of bs) a.new a.fits).0

  shows : (o : ℕ) (es : List w.Event) → w.shown_by Cpu fresh act (w.object Cpu fresh act (w.run Cpu fresh act sizes (m.world_of bs) es) o) ≡ said_on o (said Cpu fresh act sizes (m.world_of bs) es)
  unfolding SaidIsShown SaidIsShownIn
  shows o es = said_is_shown Cpu fresh act sizes (m.world_of bs) es o right_kinds ∙ ap (λ xs. xs ++ said_on o (said Cpu fresh act sizes (m.world_of bs) es)) (starts_shown o)

  replays_by : (es : List ℕ) (v : Whole) (r : Replayed) → world_of v ≡ m.world_of bs → Ran v (row es) (plain r.world) → (Sound v → vec_items r.said ≡ said_from v (row es)) → Replays bs es r
  replays_by es v r e ran says =
      let so = is_sound v (subst (Allowed sizes) (sym e) a) in
      let k = rows_agree v (plain r.world) so (row es) ran in
      let left = k.0 ∙ ap (λ x. w.run Cpu fresh act sizes x (row es)) e in
      let told = says so ∙ ap (λ x. said Cpu fresh act sizes x (row es)) e in
      record {
        left = left;
        told = told;
        shown = λ o. ap (λ x. w.shown_by Cpu fresh act (w.object Cpu fresh act x o)) left ∙ shows o (row es) ∙ ap (said_on o) (sym told);
        sound = k.1;
      }

pub replays : (bs es : List ℕ) (v : Whole) (r : Replayed) → Bytes bs → world_of v ≡ m.world_of bs → Ran v (row es) (plain r.world) → (Sound v → vec_items r.said ≡ said_from v (row es)) →
    (lent : ℕ) (c : Census) → verdict all_kinds lent bs ≡ Ok c → Replays bs es r
replays bs es v r low h ran says lent c e = replays_by bs (means_allowed all_kinds lent sizes bs c refl refl low e).0 es v r h ran says

-- where only the first bytes of two files were read, and both are taken, the image is
never_on : (bs : List ℕ) (r : Read Census) (c : Census) → limits.going_on bs r ≡ Ok c → ⊥
never_on bs (Ok d) c e = cc
never_on bs (Err x) c e = by (refusal_number x == 5) e
  where
    by : (t : Bool) → cond t (Err (Length (length bs))) (Err x) ≡ Ok c → ⊥
    by true e = cc
    by false e = cc

part_taken : (lent : ℕ) (more : Bool) (bs : List ℕ) (c : Census) → limits.part_verdict all_kinds lent more bs ≡ Ok c → verdict all_kinds lent bs ≡ Ok c
part_taken lent true bs c e = absurd (never_on bs (verdict all_kinds lent bs) c e)
part_taken lent false bs c e = e

first_ok : {A B : Type 0} (r : Read A) (f : A → Read B) (b : B) → (r then f) ≡ Ok b → (a : A) × (r ≡ Ok a)
first_ok (Ok a) f b e = (a, refl)
first_ok (Err x) f b e = cc

pub both_taken : (lent : ℕ) (more more_events : Bool) (bs es : List ℕ) (c : Census) → limits.both all_kinds lent more bs more_events es ≡ Ok c → (d : Census) × (verdict all_kinds lent bs ≡ Ok d)
both_taken lent more more_events bs es c e =
    let k = first_ok (limits.part_verdict all_kinds lent more bs) _ c e in
    (k.0, part_taken lent more bs k.0 k.1)
