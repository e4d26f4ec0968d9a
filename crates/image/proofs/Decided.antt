-- What of an image decides about it: the whole reading, and refusals that do not depend on what follows.
use Rattle.std.proofs.Common.{◌≡◌, ℕ, ◌<◌, ◌≤◌, min, Bool, true, false, ◌||◌, leb, ◌⊎◌, List, length, Ok, Err, sym, refl, ap, ◌∙◌, subst, inl, inr, arith}
use Rattle.std.proofs.lemmas.Bool.{cases_lt, cases_Bool, le-leb, lt-leb, lt-ltb}
use Rattle.std.proofs.lemmas.Bool.Decides.{nat_tests}
use Rattle.rights.specs.declared.refusals.Refusal.{Refusal}
use Rattle.rights.specs.declared.refusals.Refusal.TheVariants.{Length, Value, Frames, Event}
use Rattle.rights.specs.Vocabulary.{refusal_number}
use Rattle.image.specs.declared.census.Census.{Census}
use Rattle.image.specs.declared.census.Kinds.{Kinds}
use Rattle.image.specs.Fields.{two, Read, ◌then◌, judged}
use Rattle.image.specs.Format.{head_at, differs, magic, count, headers, body}
use Rattle.image.specs.Layout.{frames_for}
use Rattle.image.specs.Prefix.{SameBelow, field_end, DecidedEarly, GoesOn}
use Rattle.image.specs.Verdict.{verdict}
use Rattle.image.proofs.Told.{Told, Halt, longer, told_then, told_past, told_test, told_ok}
use Rattle.image.proofs.Early.{same_two, headers_told, body_told}

-- readers one after the other, grouped otherwise
pub then_assoc : {A B C : Type 0} (r : Read A) (f : A → Read B) (g : B → Read C) → (r then f) then g ≡ r then (λ x. f x then g)
then_assoc (Ok x) f g = refl
then_assoc (Err e) f g = refl

pub then_cong : {A B : Type 0} (r : Read A) (f g : A → Read B) → ((x : A) → f x ≡ g x) → r then f ≡ r then g
then_cong (Ok x) f g h = h x
then_cong (Err e) f g h = refl

-- the number of objects
pub count_back : (bs : List ℕ) (n : ℕ) → count bs ≡ Ok n → (n ≡ two bs 4) × (n ≤ 1000)
count_back bs n e = grind (arith, nat_tests)

-- the fields in their order: the census, the number of objects, and the place after the last field
abbrev pub Reading : Type 0
Reading = Census × ℕ × ℕ

abbrev pub reading : Kinds → List ℕ → Read Reading
reading ks bs = magic bs then λ _. count bs then λ n. headers ks bs n then λ c. body bs n then λ end. Ok (c, n, end)

-- what is left once they are read
abbrev pub finish : ℕ → List ℕ → Reading → Read Census
finish frames bs x =
    judged (leb (length bs) x.2) (Length x.2) (judged (leb (frames_for bs x.1) (min frames 4096)) (Frames (frames_for bs x.1)) (Ok x.0))

pub verdict_is : (ks : Kinds) (frames : ℕ) (bs : List ℕ) → reading ks bs then finish frames bs ≡ verdict ks frames bs
verdict_is ks frames bs = grind arith

module _ (bs cs : List ℕ) where
  -- whether a byte of "HOLD" differs
  abbrev strange : List ℕ → Bool
  strange ds = differs ds 0 72 || (differs ds 1 79 || (differs ds 2 76 || differs ds 3 68))

  strange_too : SameBelow 4 bs cs → strange bs ≡ true → strange cs ≡ true
  strange_too g e = grind (arith, nat_tests, g 0, g 1, g 2, g 3)

  same_strange : 4 ≤ length bs → SameBelow 4 bs cs → strange cs ≡ strange bs
  same_strange h g = grind (arith, nat_tests, g 0, g 1, g 2, g 3)

  magic_told : (n : ℕ) → Told bs cs (field_end n) (λ _. 4) 0 (magic bs) (magic cs)
  magic_told n =
      elim (cases_Bool (strange bs)) [
        | inl e ↦ rw e (omega arith, λ g. let f = strange_too g e in rw f)
        | inr e ↦
            rw e
            (elim (cases_lt (length bs) 4) [
              | inl h ↦ rw (lt-leb 4 (length bs) h) refl
              | inr h ↦
                  rw (le-leb 4 (length bs) h)
                  (omega arith, h, λ g. let f = same_strange h g in let m = longer bs cs (field_end n) 4 h g in rw (f, e, le-leb 4 (length cs) m))
            ])
      ]

  -- the number of objects
  objects_field : (n : ℕ) → field_end n (Value 4) ≡ 6
  objects_field n = rw (lt-ltb 4 (head_at n) (omega arith))

  count_told : (n : ℕ) → Told bs cs (field_end n) (λ _. 6) 4 (count bs) (count cs)
  count_told n =
      told_past bs cs (field_end n) (λ _. 6) 4 2 _ _
      (λ h. told_test bs cs (field_end n) (λ _. 6) 6 (leb (two bs 4) 1000) (leb (two cs 4) 1000) (Value 4) (Ok (two bs 4)) (Ok (two cs 4)) (λ a s x. x) (objects_field n)
      (λ g. ap (λ v. leb v 1000) (same_two bs cs n 6 4 (omega arith) h g))
      (omega arith, h, λ g. ap Ok (same_two bs cs n 6 4 (omega arith) h g)))

  -- what follows the number of objects
  abbrev rest : Kinds → List ℕ → ℕ → Read Reading
  rest ks ds n = headers ks ds n then λ c. body ds n then λ end. Ok (c, n, end)

  rest_told : (ks : Kinds) (n : ℕ) → 6 ≤ length bs → Told bs cs (field_end n) (λ x. x.2) 6 (rest ks bs n) (rest ks cs n)
  rest_told ks n h =
      told_then bs cs (field_end n) (λ _. head_at n) (λ x. x.2) 6 (headers ks bs n) (headers ks cs n) (λ c. body bs n then λ end. Ok (c, n, end))
      (λ c. body cs n then λ end. Ok (c, n, end)) (headers_told bs cs n ks h)
      (λ c _ high _. told_then bs cs (field_end n) (λ p. p) (λ x. x.2) (head_at n) (body bs n) (body cs n) (λ end. Ok (c, n, end)) (λ end. Ok (c, n, end))
      (body_told bs cs n high) (λ end _ top _. told_ok bs cs (field_end n) (λ x. x.2) end (c, n, end) (omega arith) top))

  pub reading_told : (ks : Kinds) → Told bs cs (field_end (two bs 4)) (λ x. x.2) 0 (reading ks bs) (reading ks cs)
  reading_told ks =
      told_then bs cs (field_end (two bs 4)) (λ _. 4) (λ x. x.2) 0 (magic bs) (magic cs) (λ _. count bs then rest ks bs) (λ _. count cs then rest ks cs) (magic_told (two bs 4))
      (λ _ _ _ _. told_then bs cs (field_end (two bs 4)) (λ _. 6) (λ x. x.2) 4 (count bs) (count cs) (rest ks bs) (rest ks cs) (count_told (two bs 4))
      (λ n _ high e. subst (λ m. Told bs cs (field_end m) (λ x. x.2) 6 (rest ks bs n) (rest ks cs n)) (count_back bs n e).0 (rest_told ks n high)))

same_error : {A : Type 0} (d e : Refusal) → ◌≡◌ {A = Read A} (Err d) (Err e) → d ≡ e
same_error d e p = cc

-- what is left once the fields are read refuses with 1 or with 5
two_ways : {A : Type 0} (t u : Bool) (p f : ℕ) (c : A) (e : Refusal) → judged t (Length p) (judged u (Frames f) (Ok c)) ≡ Err e → ((t ≡ false) × (Length p ≡ e)) ⊎ (Frames f ≡ e)
two_ways t u p f c e q = grind arith

module _ (bs cs : List ℕ) (W : Refusal → ℕ) where
  early : {A : Type 0} (s : Read A) (e : Refusal) → Halt bs cs W e 0 s → 2 ≤ refusal_number e → refusal_number e ≤ 4 → SameBelow (W e) bs cs → s ≡ Err e
  early s e h low high g = grind arith

  -- a refusal among the fields stays, whatever follows the field
  stays : (r s : Read Reading) → Told bs cs W (λ x. x.2) 0 r s → (frames others : ℕ) (e : Refusal) → r then finish frames bs ≡ Err e →
      2 ≤ refusal_number e → refusal_number e ≤ 4 → SameBelow (W e) bs cs → s then finish others cs ≡ Err e
  stays (Ok x) s t frames others e v low high g =
      elim (two_ways (leb (length bs) x.2) (leb (frames_for bs x.1) (min frames 4096)) x.2 (frames_for bs x.1) x.0 e v) [
        | inl q ↦ absurd (let z : 1 ≡ refusal_number e = ap refusal_number q.1 in omega (arith, z))
        | inr q ↦ absurd (let z : 5 ≡ refusal_number e = ap refusal_number q in omega (arith, z))
      ]
  stays (Err d) s t frames others e v low high g =
      ap (λ r. r then finish others cs) (early s e (subst (λ f. Halt bs cs W f 0 s) (same_error d e v) t) low high g)

  -- and so does that bytes go on
  goes : (r s : Read Reading) → Told bs cs W (λ x. x.2) 0 r s → (frames others p : ℕ) → r then finish frames bs ≡ Err (Length p) →
      p < length bs → p < length cs → SameBelow p bs cs → s then finish others cs ≡ Err (Length p)
  goes r s t frames others p v low more g = grind (arith, nat_tests)

  -- a place where bytes are missing or go on lies within
  inside : (r s : Read Reading) → Told bs cs W (λ x. x.2) 0 r s → (frames p : ℕ) → r then finish frames bs ≡ Err (Length p) → p ≤ length bs
  inside r s t frames p v = grind (arith, nat_tests)

  -- and no image is refused as events are
  no_event : (r s : Read Reading) → Told bs cs W (λ x. x.2) 0 r s → (frames p : ℕ) → r then finish frames bs ≡ Err (Event p) → ⊥
  no_event r s t frames p v = grind (arith, nat_tests)

pub decided_early : DecidedEarly
decided_early ks frames others bs cs e v low high g =
    sym (verdict_is ks others cs)
    ∙ stays bs cs (field_end (two bs 4)) (reading ks bs) (reading ks cs) (reading_told bs cs ks) frames others e (verdict_is ks frames bs ∙ v) low high g

pub goes_on : GoesOn
goes_on ks frames others p bs cs v low more g =
    sym (verdict_is ks others cs)
    ∙ goes bs cs (field_end (two bs 4)) (reading ks bs) (reading ks cs) (reading_told bs cs ks) frames others p (verdict_is ks frames bs ∙ v) low more g

pub length_inside : (ks : Kinds) (frames p : ℕ) (bs : List ℕ) → verdict ks frames bs ≡ Err (Length p) → p ≤ length bs
length_inside ks frames p bs v =
    inside bs bs (field_end (two bs 4)) (reading ks bs) (reading ks bs) (reading_told bs bs ks) frames p (verdict_is ks frames bs ∙ v)

pub never_event : (ks : Kinds) (frames p : ℕ) (bs : List ℕ) → verdict ks frames bs ≡ Err (Event p) → ⊥
never_event ks frames p bs v =
    no_event bs bs (field_end (two bs 4)) (reading ks bs) (reading ks bs) (reading_told bs bs ks) frames p (verdict_is ks frames bs ∙ v)
