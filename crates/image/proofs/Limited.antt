-- Files of which only the first bytes are read.
use Rattle.std.proofs.Common.{◌≡◌, ℕ, ◌<◌, ◌≤◌, ltb, ◌⊎◌, List, length, take, Ok, Err, sym, refl, ap, ◌∙◌, inl, inr, arith}
use Rattle.std.proofs.lemmas.List.{length-take-le, get_or-take, take_all}
use Rattle.std.proofs.lemmas.Bool.{cases_lt}
use Rattle.rights.specs.declared.refusals.Refusal.{Refusal}
use Rattle.rights.specs.declared.refusals.Refusal.TheVariants.{Length, Magic, Value, Name, Frames, Event}
use Rattle.rights.specs.Vocabulary.{refusal_number}
use Rattle.std.proofs.lemmas.Bool.Decides.{nat_tests}
use Rattle.image.specs.declared.census.Census.{Census}
use Rattle.image.specs.declared.census.Kinds.{Kinds}
use Rattle.image.specs.Fields.{two, Read}
use Rattle.image.specs.Limits.{going_on, part_verdict}
use Rattle.image.specs.Prefix.{SameBelow, field_end, LimitHolds, NeverTaken, FaultsTold}
use Rattle.image.specs.Verdict.{verdict}
use Rattle.image.proofs.Decided.{decided_early, goes_on, length_inside, never_event}

-- the first bytes of a file are its own
first_same : (limit q : ℕ) (file : List ℕ) → limit ≤ length file → SameBelow q (take limit file) file
first_same limit q file l k h m = grind (arith, length-take-le, get_or-take)

-- and those of the file below the limit are theirs
same_first : (limit q : ℕ) (file : List ℕ) → limit ≤ length file → q ≤ limit → SameBelow q file (take limit file)
same_first limit q file l n k h m = grind (arith, length-take-le, get_or-take)

-- what the check of a part says
part_is : (ks : Kinds) (frames limit : ℕ) (file : List ℕ) → limit < length file →
    part_verdict ks frames (ltb limit (length file)) (take limit file) ≡ going_on (take limit file) (verdict ks frames (take limit file))
part_is ks frames limit file l = grind (arith, nat_tests)

whole_is : (ks : Kinds) (frames limit : ℕ) (file : List ℕ) → length file ≤ limit →
    part_verdict ks frames (ltb limit (length file)) (take limit file) ≡ verdict ks frames file
whole_is ks frames limit file l = grind (arith, nat_tests, take_all)

-- what the first bytes are refused for before their end, the file is refused for too, and the other way round
module _ (ks : Kinds) (frames limit : ℕ) (file : List ℕ) (l : limit < length file) where
  first_early : (e : Refusal) → verdict ks frames (take limit file) ≡ Err e → 2 ≤ refusal_number e → refusal_number e ≤ 4 → verdict ks frames file ≡ Err e
  first_early e v a b = decided_early ks frames frames (take limit file) file e v a b (first_same limit _ file (omega arith))

  first_goes : (p : ℕ) → verdict ks frames (take limit file) ≡ Err (Length p) → p < limit → verdict ks frames file ≡ Err (Length p)
  first_goes p v h =
      let e = length-take-le limit file (omega arith) in goes_on ks frames frames p (take limit file) file v (omega (arith, e)) (omega arith) (first_same limit p file (omega arith))

  file_early : (e : Refusal) → verdict ks frames file ≡ Err e → 2 ≤ refusal_number e → refusal_number e ≤ 4 → field_end (two file 4) e ≤ limit →
      verdict ks frames (take limit file) ≡ Err e
  file_early e v a b h = decided_early ks frames frames file (take limit file) e v a b (same_first limit _ file (omega arith) h)

  file_goes : (p : ℕ) → verdict ks frames file ≡ Err (Length p) → p < limit → verdict ks frames (take limit file) ≡ Err (Length p)
  file_goes p v h =
      let e = length-take-le limit file (omega arith) in
      goes_on ks frames frames p file (take limit file) v (omega arith) (omega (arith, e)) (same_first limit p file (omega arith) (omega arith))

  limit_goes : (r : Read Census) → verdict ks frames (take limit file) ≡ r →
      (going_on (take limit file) r ≡ verdict ks frames file) ⊎ (going_on (take limit file) r ≡ Err (Length limit))
  limit_goes (Ok c) v = inr (ap (λ k. Err (Length k)) (length-take-le limit file (omega arith)))
  limit_goes (Err (Length p)) v =
      elim (cases_lt p limit) [
        | inl q ↦ inl (sym (first_goes p v q))
        | inr q ↦ (let z : p ≡ limit = omega (arith, length-take-le limit file, length_inside ks frames p (take limit file) v) in inr (ap (λ k. Err (Length k)) z))
      ]
  limit_goes (Err Magic) v = inl (sym (first_early Magic v (omega arith) (omega arith)))
  limit_goes (Err (Value p)) v = inl (sym (first_early (Value p) v (omega arith) (omega arith)))
  limit_goes (Err (Name p)) v = inl (sym (first_early (Name p) v (omega arith) (omega arith)))
  limit_goes (Err (Frames f)) v = inr (ap (λ k. Err (Length k)) (length-take-le limit file (omega arith)))
  limit_goes (Err (Event p)) v = absurd (never_event ks frames p (take limit file) v)

pub limit_holds : LimitHolds
limit_holds ks frames limit file = grind (arith, nat_tests, limit_goes ks frames limit file, part_is ks frames limit file, whole_is ks frames limit file)

-- a fault before the limit is the same for the first bytes
seen_early : (ks : Kinds) (frames limit : ℕ) (file : List ℕ) (e : Refusal) → limit < length file → verdict ks frames file ≡ Err e → refusal_number e ≤ 4 →
    field_end (two file 4) e ≤ limit → going_on (take limit file) (verdict ks frames (take limit file)) ≡ Err e
seen_early ks frames limit file e l v n h =
    grind (arith, nat_tests, file_early ks frames limit file l, file_goes ks frames limit file l, limit_goes ks frames limit file l (verdict ks frames (take limit file)) refl)

pub faults_told : FaultsTold
faults_told ks frames limit file e v n h = grind (arith, nat_tests, seen_early ks frames limit file e, part_is ks frames limit file, whole_is ks frames limit file)

never_by : (ks : Kinds) (frames limit : ℕ) (file : List ℕ) (r : Read Census) → verdict ks frames (take limit file) ≡ r →
    (e : Refusal) × (going_on (take limit file) r ≡ Err e) × (refusal_number e ≤ 4)
never_by ks frames limit file (Ok c) v = (Length (length (take limit file)), refl, omega arith)
never_by ks frames limit file (Err (Length p)) v = (Length p, refl, omega arith)
never_by ks frames limit file (Err Magic) v = (Magic, refl, omega arith)
never_by ks frames limit file (Err (Value p)) v = (Value p, refl, omega arith)
never_by ks frames limit file (Err (Name p)) v = (Name p, refl, omega arith)
never_by ks frames limit file (Err (Frames f)) v = (Length (length (take limit file)), refl, omega arith)
never_by ks frames limit file (Err (Event p)) v = absurd (never_event ks frames p (take limit file) v)

pub never_taken : NeverTaken
never_taken ks frames limit file l =
    let r = never_by ks frames limit file (verdict ks frames (take limit file)) refl in
    (r.0, part_is ks frames limit file l ∙ r.1, r.2)
