-- Rows of events of which only the first bytes are read.
use Rattle.std.proofs.Common.{◌≡◌, ℕ, zero, suc, ◌+◌, ◌<◌, ◌≤◌, false, ◌⊎◌, List, length, take, Ok, Err, sym, refl, ap, ◌∙◌, subst, inl, inr, arith}
use Rattle.std.proofs.lemmas.List.{length-take-le, get_or-take, take_all}
use Rattle.std.proofs.lemmas.Bool.{cases_lt, lt-ltb, le-ltb}
use Rattle.std.proofs.lemmas.Bool.Decides.{nat_tests}
use Rattle.rights.specs.declared.refusals.Refusal.{Refusal}
use Rattle.rights.specs.declared.refusals.Refusal.TheVariants.{Event}
use Rattle.rights.specs.Vocabulary.{refusal_place}
use Rattle.image.specs.Fields.{one, two, Read, ◌then◌}
use Rattle.image.specs.Events.{event_kind, event, events_from, all_events, events}
use Rattle.image.specs.Limits.{cut_in_two, events_going_on}
use Rattle.image.specs.Prefix.{end_as, event_end, EventsLimitHolds, EventFaultsTold}
use Rattle.image.proofs.Turns.{event_grows}

-- an event that is wrong is refused at its first byte
wrong_at : (bs es : List ℕ) (n at : ℕ) (e : Refusal) → event bs n es at ≡ Err e → e ≡ Event at
wrong_at bs es n at e q = grind (arith, nat_tests)

ends_at : (bs es : List ℕ) (n at b : ℕ) → event bs n es at ≡ Ok b → (b ≡ event_end es at) × (b ≤ length es)
ends_at bs es n at b q = grind (arith, nat_tests)

whole : (es : List ℕ) (at : ℕ) → at < length es → event_end es at ≤ length es → cut_in_two es at ≡ false
whole es at l h = grind (arith, nat_tests)

not_cut : (es : List ℕ) (at : ℕ) → at < length es → cut_in_two es at ≡ false → event_end es at ≤ length es
not_cut es at l h = grind (arith, nat_tests)

-- a refusal is the first reader's, or the next one's where the first went on
then_wrong : {A B : Type 0} (r : Read A) (f : A → Read B) (e : Refusal) → r then f ≡ Err e → (r ≡ Err e) ⊎ ((a : A) × (r ≡ Ok a) × (f a ≡ Err e))
then_wrong (Ok a) f e q = inr (a, refl, q)
then_wrong (Err d) f e q = inl (cc)

-- the place of a refusal lies at or after the place where the reading begins
starts_before : (bs es : List ℕ) (n k at : ℕ) (e : Refusal) → events_from bs n es k at ≡ Err e → at ≤ refusal_place e
unfolding events_from
starts_before bs es n zero at e q = cc
starts_before bs es n (suc k) at e q =
    elim (cases_lt at (length es)) [
      | inl l ↦
          (let f = rw (lt-ltb at (length es) l) at q in
          elim (then_wrong (event bs n es at) (events_from bs n es k) e f) [
            | inl w ↦ omega (arith, ap refusal_place (wrong_at bs es n at e w))
            | inr w ↦ omega (arith, event_grows bs es n at w.0 (sym w.1), starts_before bs es n k w.0 e w.2)
          ])
      | inr l ↦ (let f : Ok at ≡ Err e = rw (le-ltb at (length es) l) at q in cc)
    ]

module _ (bs file : List ℕ) (n limit : ℕ) (l : limit < length file) where
  abbrev first : List ℕ
  first = take limit file

  same_byte : (at : ℕ) → at < limit → one first at ≡ one file at
  same_byte at h = get_or-take limit file at 0 h

  same_length : length first ≡ limit
  same_length = length-take-le limit file (omega arith)

  -- an event that lies before the limit is read in both
  same_event : (at : ℕ) → at < limit → event_end file at ≤ limit → event bs n first at ≡ event bs n file at
  same_event at h e = grind (arith, nat_tests, same_byte at h, same_byte (at + 1), same_byte (at + 1 + 1), same_length)

  same_end : (at : ℕ) → at < limit → event_end first at ≡ event_end file at
  same_end at h = ap (λ v. end_as at (event_kind v)) (same_byte at h)

  -- a refusal among the first bytes that the limit does not cut in two is that of the file
  first_wrong : (k j at : ℕ) (e : Refusal) → length file ≤ at + j → events_from bs n first k at ≡ Err e → cut_in_two first (refusal_place e) ≡ false →
      events_from bs n file j at ≡ Err e
  unfolding events_from
  first_wrong zero j at e m q c = cc
  first_wrong (suc k) zero at e m q c =
      (let f : Ok at ≡ Err e = rw (le-ltb at (length first) (omega (arith, same_length))) at q in cc)
  first_wrong (suc k) (suc j) at e m q c =
      elim (cases_lt at limit) [
        | inl h ↦
            (let f = rw (lt-ltb at (length first) (omega (arith, same_length))) at q in
            rw (lt-ltb at (length file) (omega arith))
            (elim (then_wrong (event bs n first at) (events_from bs n first k) e f) [
              | inl w ↦
                  (let y : refusal_place e ≡ at = ap refusal_place (wrong_at bs first n at e w) in
                  let i = not_cut first at (omega (arith, same_length)) (subst (λ p. cut_in_two first p ≡ false) y c) in
                  ap (λ r. r then events_from bs n file j) (sym (same_event at h (omega (arith, i, same_end at h, same_length))) ∙ w))
              | inr w ↦
                  (let d = ends_at bs first n at w.0 w.1 in
                  let g = event_grows bs first n at w.0 (sym w.1) in
                  ap (λ r. r then events_from bs n file j) (sym (same_event at h (omega (arith, d.0, d.1, same_end at h, same_length))) ∙ w.1)
                  ∙ first_wrong k j w.0 e (omega (arith, g)) w.2 c)
            ]))
        | inr h ↦ (let f : Ok at ≡ Err e = rw (le-ltb at (length first) (omega (arith, same_length))) at q in cc)
      ]

  -- and a wrong event of the file that lies before the limit is found among the first bytes
  wrong_first : (k j at p : ℕ) → limit ≤ at + k → events_from bs n file j at ≡ Err (Event p) → event_end file p ≤ limit → p < limit →
      events_from bs n first k at ≡ Err (Event p)
  unfolding events_from
  wrong_first k zero at p m q c low = cc
  wrong_first zero (suc j) at p m q c low = absurd (let h = starts_before bs file n (suc j) at (Event p) q in omega (arith, h))
  wrong_first (suc k) (suc j) at p m q c low =
      let h = starts_before bs file n (suc j) at (Event p) q in
      let b : at < limit = omega (arith, h) in
      let f = rw (lt-ltb at (length file) (omega arith)) at q in
      rw (lt-ltb at (length first) (omega (arith, same_length)))
      (elim (then_wrong (event bs n file at) (events_from bs n file j) (Event p) f) [
        | inl w ↦
            (let y : p ≡ at = ap refusal_place (wrong_at bs file n at (Event p) w) in
            ap (λ r. r then events_from bs n first k) (same_event at b (subst (λ a. event_end file a ≤ limit) y c) ∙ w))
        | inr w ↦
            (let d = ends_at bs file n at w.0 w.1 in
            let t = starts_before bs file n j w.0 (Event p) w.2 in
            let g = event_grows bs file n at w.0 (sym w.1) in
            ap (λ r. r then events_from bs n first k) (same_event at b (omega (arith, d.0, t)) ∙ w.1) ∙ wrong_first k j w.0 p (omega (arith, g)) w.2 c low)
      ])

-- a row is refused as its events are
row_wrong : (r : Read ℕ) (e : Refusal) → ◌≡◌ {A = Read (Unit {0})} (r then λ _. Ok tt) (Err e) → r ≡ Err e
row_wrong r e q = grind arith

limit_goes : (bs file : List ℕ) (limit : ℕ) → limit < length file → (r : Read (Unit {0})) → events bs (take limit file) ≡ r →
    (events_going_on (take limit file) r ≡ events bs file) ⊎ (events_going_on (take limit file) r ≡ Err (Event limit))
limit_goes bs file limit l r v = grind (arith, nat_tests, length-take-le limit file, first_wrong bs file (two bs 4) limit l (length (take limit file)) (length file) 0, row_wrong)

pub events_limit_holds : EventsLimitHolds
events_limit_holds limit bs file = grind (arith, nat_tests, limit_goes bs file limit, take_all limit file)

past_kind : (es : List ℕ) (p : ℕ) → p < event_end es p
past_kind es p = grind (arith, nat_tests)

pub event_faults_told : EventFaultsTold
event_faults_told limit p bs file v h =
    grind (
      arith,
      nat_tests,
      take_all limit file,
      past_kind file p,
      same_length bs file (two bs 4) limit,
      same_end bs file (two bs 4) limit,
      wrong_first bs file (two bs 4) limit,
      whole (take limit file) p,
      row_wrong (all_events bs (two bs 4) file) (Event p) v,
    )
