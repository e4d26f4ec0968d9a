-- Events that are taken name threads and lines of the image.
use Rattle.std.proofs.Common.{◌≡◌, ℕ, zero, suc, ◌+◌, ◌<◌, List, [], ◌∷◌, length, get_or, Some, Ok, refl, ap, ◌∙◌, subst, inl, inr, arith}
use Rattle.std.proofs.lemmas.Bool.{lt-ltb, le-ltb, eq-eqb, ne_eqb, cases_lt, cases_eq}
use Rattle.std.proofs.lemmas.Bool.Decides.{nat_tests}
use Rattle.rights.specs.declared.kinds.Kind.TheVariants.{Thread}
use Rattle.rights.specs.World.{Event, tick, byte, gone, line, object}
use Rattle.rights.specs.Promise.{Named}
use Rattle.rv32.specs.declared.registers.Cpu.{Cpu}
use Rattle.rv32.specs.Registers.{fresh}
use Rattle.rv32.specs.Execute.{act}
use Rattle.image.specs.Fields.{one, two, ◌then◌}
use Rattle.image.specs.Format.{head_at}
use Rattle.image.specs.Events.{event, events_from, all_events}
use Rattle.image.specs.Meaning.{Places, objects_from, objects_of, world_of, read_as, object_at, after, first_places}
use Rattle.image.specs.Rows.{row_from, MeetsKind, MeetKinds, RowsNamed}
use Rattle.image.proofs.Sized.{then_back}

objects_length : (bs : List ℕ) (n k o : ℕ) (q : Places) → length (objects_from bs n k o q) ≡ k
unfolding objects_from
objects_length bs n zero o q = refl
objects_length bs n (suc k) o q = ap suc (objects_length bs n k (suc o) (after bs n o q))

-- each object is read at some places
read_somewhere : (bs : List ℕ) (n k o i : ℕ) (q : Places) → i < k → (p : Places) × (get_or (objects_from bs n k o q) i gone ≡ object_at bs (o + i) p)
unfolding objects_from
read_somewhere bs n zero o i q l = absurd (omega arith)
read_somewhere bs n (suc k) o zero q l = let e : o + 0 ≡ o = omega arith in (q, rw e refl)
read_somewhere bs n (suc k) o (suc i) q l = let e : o + suc i ≡ suc o + i = omega arith in rw e (read_somewhere bs n k (suc o) i (after bs n o q) (omega arith))

object_is : (bs : List ℕ) (o : ℕ) → o < two bs 4 → (p : Places) × (object Cpu fresh act (world_of bs) o ≡ object_at bs o p)
unfolding object
object_is bs o l = let e : 0 + o ≡ o = omega arith in subst (λ i. (p : Places) × (get_or (objects_of bs) o gone ≡ object_at bs i p)) e (read_somewhere bs (two bs 4) (two bs 4) 0 o (first_places bs (two bs 4)) l)

a_thread : (bs : List ℕ) (o : ℕ) → o < two bs 4 → one bs (head_at o) ≡ 4 → MeetsKind (world_of bs) (tick o)
a_thread bs o l e = let r = object_is bs o l in let f : object_at bs o r.0 ≡ read_as bs o r.0 (Some Thread) = rw e refl in (_, _, _, _, _, r.1 ∙ f)

a_line : (bs : List ℕ) (o : ℕ) → o < two bs 4 → one bs (head_at o) ≡ 5 → object Cpu fresh act (world_of bs) o ≡ line [] []
a_line bs o l e = grind (arith, nat_tests, object_is bs o l)

-- what was read of an event
tick_back : (bs es : List ℕ) (n at b : ℕ) → one es at ≡ 0 → event bs n es at ≡ Ok b → (two es (at + 1) < n) × (one bs (head_at (two es (at + 1))) ≡ 4) × (b ≡ at + 3)
tick_back bs es n at b h e = grind (arith, nat_tests)

byte_back : (bs es : List ℕ) (n at b : ℕ) → (one es at ≡ 0 → ⊥) → event bs n es at ≡ Ok b → (two es (at + 1) < n) × (one bs (head_at (two es (at + 1))) ≡ 5) × (b ≡ at + 4)
byte_back bs es n at b h e = grind (arith, nat_tests)

module _ (bs es : List ℕ) (low : (k : ℕ) → get_or es k 0 < 256) where
  abbrev AllNamed : List Event → Type 0
  AllNamed xs = Named Cpu fresh act (world_of bs) xs × MeetKinds (world_of bs) xs

  long : length (objects_of bs) ≡ two bs 4
  long = objects_length bs (two bs 4) (two bs 4) 0 (first_places bs (two bs 4))

  tick_named : (o : ℕ) (xs : List Event) → o < two bs 4 → one bs (head_at o) ≡ 4 → AllNamed xs → AllNamed (tick o ∷ xs)
  unfolding Named MeetKinds
  tick_named o xs l e r = ((omega (arith, l, long), r.0), (a_thread bs o l e, r.1))

  byte_named : (o b : ℕ) (xs : List Event) → o < two bs 4 → one bs (head_at o) ≡ 5 → b < 256 → AllNamed xs → AllNamed (byte o b ∷ xs)
  unfolding Named MeetKinds
  byte_named o b xs l e h r = ((omega (arith, l, long), h, r.0), (a_line bs o l e, r.1))

  none_named : AllNamed []
  unfolding Named MeetKinds
  none_named = (tt, tt)

  named_from : (k at end : ℕ) → events_from bs (two bs 4) es k at ≡ Ok end → AllNamed (row_from es k at)
  unfolding events_from row_from
  named_from zero at end e = none_named
  named_from (suc k) at end e =
      elim (cases_lt at (length es)) [
        | inl h ↦
            (let f : (event bs (two bs 4) es at then events_from bs (two bs 4) es k) ≡ Ok end = rw (lt-ltb at (length es) h) at e in
            let t = then_back (event bs (two bs 4) es at) (events_from bs (two bs 4) es k) end f in
            elim (cases_eq (one es at) 0) [
              | inl z ↦
                  (let b = tick_back bs es (two bs 4) at t.0 z t.1 in
                  let r = named_from k (at + 3) end (subst (λ p. events_from bs (two bs 4) es k p ≡ Ok end) b.2 t.2) in
                  rw (lt-ltb at (length es) h, eq-eqb (one es at) 0 z) (tick_named (two es (at + 1)) (row_from es k (at + 3)) b.0 b.1 r))
              | inr z ↦
                  (let b = byte_back bs es (two bs 4) at t.0 z t.1 in
                  let r = named_from k (at + 4) end (subst (λ p. events_from bs (two bs 4) es k p ≡ Ok end) b.2 t.2) in
                  rw (lt-ltb at (length es) h, ne_eqb (one es at) 0 z) (byte_named (two es (at + 1)) (one es (at + 3)) (row_from es k (at + 4)) b.0 b.1 (low (at + 3)) r))
            ])
        | inr h ↦ rw (le-ltb at (length es) h) none_named
      ]

pub rows_named : RowsNamed
rows_named bs es low e =
    let t = then_back (all_events bs (two bs 4) es) (λ _. Ok tt) tt e in named_from bs es low (length es) 0 t.0 t.1
