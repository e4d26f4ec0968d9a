-- The bytes that wait at a line.
use Rattle.std.proofs.Common.{◌≡◌, ℕ, zero, suc, ◌+◌, ◌-◌, ◌<◌, ◌≤◌, false, ◌||◌, List, [], ◌∷◌, ◌++◌, nat_lt, length, take, drop, get_or, Some, inl, inr, eqb, refl, sym, ap, subst, length-append, length-drop, lit≤, ◌∙◌, arith}
use Rattle.std.proofs.Math.Seq.{take-suc-set}
use Rattle.std.proofs.lemmas.Bool.{cond_both, or_from, cases_lt, cond-true, cond-false, lt-ltb, le-ltb, ne_eqb}
use Rattle.std.proofs.lemmas.List.{length-replicate, length-take-le, length-set, take-append-le, take_all}
use Rattle.space.specs.declared.lines.Line.{Line}
use Rattle.space.specs.Lines as lines
use Rattle.space.specs.Lines.{waiting}
use Rattle.space.specs.Laws.{Kept, one_more, first, rest, LinesInOrder, StaysKept}

module _ (l : Line) (k : Kept l) (b : ℕ) where
  long : length (waiting l) ≡ l.count
  long = length-take-le l.count l.bytes (let r = k.room in let c = k.count in omega arith)

  comes : waiting (lines.come_in l b) ≡ one_more (waiting l) b
  comes = elim (cases_lt l.count 1024) [
    | inl h ↦ ap waiting (cond-true _ _ _ (lt-ltb l.count 1024 h))
        ∙ ((let e : l.count + 1 ≡ suc l.count = omega arith in rw e (take-suc-set l.bytes l.count b (let r = k.room in omega arith)))
        ∙ sym (cond-true _ _ _ (lt-ltb (length (waiting l)) 1024 (rw long h))))
    | inr h ↦ ap waiting (cond-false _ _ _ (le-ltb l.count 1024 h)) ∙ sym (cond-false _ _ _ (le-ltb (length (waiting l)) 1024 (rw long h)))
  ]

  kept_in : Kept (lines.come_in l b)
  kept_in = elim (cases_lt l.count 1024) [
    | inl h ↦ subst Kept (sym (cond-true _ _ _ (lt-ltb l.count 1024 h))) (record { room = length-set l.bytes l.count b ∙ k.room; count = omega arith })
    | inr h ↦ subst Kept (sym (cond-false _ _ _ (le-ltb l.count 1024 h))) k
  ]

same_in : (l : Line) (b : ℕ) → (lines.come_in l b).object ≡ l.object
same_in l b = cond_both (nat_lt l.count 1024) _ l (λ (x : Line). x.object ≡ l.object) (λ h. refl) (λ h. refl)

-- one that is heard, in a list
after : (xs : List ℕ) (n : ℕ) → n < length xs → take n ((take 0 xs ++ take n (drop 1 xs)) ++ drop n xs) ≡ rest (take (suc n) xs)
after [] n h = absurd (omega arith)
after (x ∷ xs) n h =
    let l : length (take n xs) ≡ n = length-take-le n xs (omega arith) in
    take-append-le n (take n xs) (drop n (x ∷ xs)) (omega arith) ∙ take_all n (take n xs) (omega arith)

oldest : (xs : List ℕ) (n : ℕ) → n < length xs → Some (get_or xs 0 0) ≡ first (take (suc n) xs)
oldest [] n h = absurd (omega arith)
oldest (x ∷ xs) n h = refl

as_long : (xs : List ℕ) (n : ℕ) → n < length xs → length ((take 0 xs ++ take n (drop 1 xs)) ++ drop n xs) ≡ length xs
as_long [] n h = absurd (omega arith)
as_long (x ∷ xs) n h =
    let l : length (take n xs) ≡ n = length-take-le n xs (omega arith) in
    length-append (take n xs) (drop n (x ∷ xs)) ∙ rw (l, length-drop n (x ∷ xs)) (omega arith)

busy : (n : ℕ) → suc n ≤ 1024 → (eqb (suc n) 0 || nat_lt 1024 (suc n)) ≡ false
busy n h = or_from (eqb (suc n) 0) (nat_lt 1024 (suc n)) (ne_eqb (suc n) 0 (λ z. omega arith)) (le-ltb 1024 (suc n) h)

module _ (bs : List ℕ) (o : ℕ) (r : length bs ≡ 1024) where
  line : ℕ → Line
  line c = record { bytes = bs; count = c; object = o }

  shorter : ℕ → Line
  shorter n = record { bytes = (take 0 bs ++ take n (drop 1 bs)) ++ drop n bs; count = n; object = o }

  heard_at : (c : ℕ) → c ≤ 1024 → lines.heard (line c) ≡ first (take c bs)
  unfolding line
  heard_at zero h = refl
  heard_at (suc n) h = cond-false _ _ _ (busy n h) ∙ oldest bs n (omega arith)

  hear_is : (n : ℕ) → suc n ≤ 1024 → lines.hear (line (suc n)) ≡ shorter n
  unfolding line shorter
  hear_is n h =
      let e : suc n - 1 ≡ n = omega arith in
      let f : 0 + n ≡ n = omega arith in
      cond-false _ _ _ (busy n h) ∙ rw (e, f) refl

  hear_at : (c : ℕ) → c ≤ 1024 → waiting (lines.hear (line c)) ≡ rest (take c bs)
  unfolding line shorter
  hear_at zero h = refl
  hear_at (suc n) h = ap waiting (hear_is n h) ∙ after bs n (omega arith)

  kept_at : (c : ℕ) → c ≤ 1024 → Kept (lines.hear (line c))
  unfolding line shorter
  kept_at zero h = record { room = r; count = h }
  kept_at (suc n) h = subst Kept (sym (hear_is n h)) (record { room = as_long bs n (omega arith) ∙ r; count = omega arith })

  same_at : (c : ℕ) → (lines.hear (line c)).object ≡ o
  unfolding line
  same_at c = cond_both (lines.is_silent (line c)) (line c) _ (λ (x : Line). x.object ≡ o) (λ h. refl) (λ h. refl)

pub lines_in_order : LinesInOrder
unfolding line
lines_in_order = (
  λ o. refl,
  λ l k b. comes l k b,
  λ l k. heard_at l.bytes l.object k.room l.count k.count,
  λ l k. hear_at l.bytes l.object k.room l.count k.count,
)

pub stays_kept : StaysKept
unfolding line
stays_kept = (
  λ o. record { room = length-replicate {A = ℕ} 1024 0; count = lit≤ tt },
  λ l k b. (kept_in l k b, same_in l b),
  λ l k. (kept_at l.bytes l.object k.room l.count k.count, same_at l.bytes l.object k.room l.count),
)
