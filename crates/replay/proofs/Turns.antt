-- One turn of a loop that makes slots, bytes or pages of a space: what is made, and what is still to be read, is what was to be read from the start.
use Rattle.std.proofs.Common.{◌≡◌, ℕ, zero, suc, ◌+◌, ◌-◌, ◌*◌, ◌<◌, ◌≤◌, Bool, cond, List, [], ◌∷◌, ◌++◌, map, length, Some, None, Option, refl, ap, ◌∙◌, append_assoc, get_or, subst, ◌==◌, arith}
use Rattle.std.specs.Option.{is_some}
use Rattle.std.proofs.lemmas.List.{map_push, append-nil}
use Rattle.std.proofs.lemmas.Bool.Decides.{nat_tests}
use Rattle.image.specs.Fields.{one, two}
use Rattle.image.specs.Meaning.{slots_from, bytes_from}
use Rattle.image.specs.Meaning as m
use Rattle.model.specs.declared.objects.Capability.{Capability}
use Rattle.model.specs.declared.objects.Mapping.{Mapping}
use Rattle.model.specs.Meaning.{number_of, page_of, may_write, slot_of}
use Rattle.model.specs.Plain.{page_in, mark_in, mapping_of, unmapped}
use Rattle.replay.specs.Reading as reading

-- one more element, before the rest
pub pushed : {X Y : Type 0} (f : X → Y) (xs ys : List X) (x : X) (rest : List Y) → ys ≡ xs ++ x ∷ [] → map f ys ++ rest ≡ map f xs ++ f x ∷ rest
pushed f xs ys x rest e = ap (λ zs. map f zs ++ rest) e ∙ ap (λ zs. zs ++ rest) (map_push f xs x) ∙ append_assoc (map f xs) (f x ∷ []) rest

-- whether a slot holds something, as a number
abbrev pub held : Option Capability → ℕ
held x = cond (is_some x) 1 0

-- the first of some slots
first_slot : (bs : List ℕ) (k a b : ℕ) (x : Option Capability) → slot_of x ≡ reading.slot bs a (b + 1) → slots_from bs (suc k) a b ≡ slot_of x ∷ slots_from bs k (a + 7) (b + held x)
unfolding slots_from
first_slot bs k a b None e = grind (arith, nat_tests)
first_slot bs k a b (Some c) e = grind (arith, nat_tests)

pub slots_on : (bs : List ℕ) (n k a b c : ℕ) (xs ys : List (Option Capability)) (x : Option Capability) → k < n → ys ≡ xs ++ x ∷ [] → slot_of x ≡ reading.slot bs (a + 7 * k) (b + 1)
    → c ≡ b + held x → map slot_of ys ++ slots_from bs (n - (k + 1)) (a + 7 * (k + 1)) c ≡ map slot_of xs ++ slots_from bs (n - k) (a + 7 * k) b
slots_on bs n k a b c xs ys x l e h q =
    let i : n - k ≡ suc (n - (k + 1)) = omega arith in
    let j : a + 7 * (k + 1) ≡ a + 7 * k + 7 = omega arith in
    rw (i, j, q, first_slot bs (n - (k + 1)) (a + 7 * k) b x h) (pushed slot_of xs ys x _ e)

pub slots_end : (bs : List ℕ) (n k a b : ℕ) (xs : List (Option Capability)) → n ≤ k → map slot_of xs ++ slots_from bs (n - k) a b ≡ map slot_of xs
unfolding slots_from
slots_end bs n k a b xs l = let e : n - k ≡ 0 = omega arith in rw e (append-nil (map slot_of xs))

-- the same of bytes
pub bytes_on : (bs : List ℕ) (n k a x : ℕ) (xs ys : List ℕ) → k < n → ys ≡ xs ++ x ∷ [] → x ≡ one bs (a + k) → ys ++ bytes_from bs (n - (k + 1)) (a + (k + 1)) ≡ xs ++ bytes_from bs (n - k) (a + k)
unfolding bytes_from
bytes_on bs n k a x xs ys l e h =
    let i : n - k ≡ suc (n - (k + 1)) = omega arith in
    let j : a + (k + 1) ≡ a + k + 1 = omega arith in
    rw (i, j, e, h) (append_assoc xs (one bs (a + k) ∷ []) (bytes_from bs (n - (k + 1)) (a + k + 1)))

pub bytes_end : (bs : List ℕ) (n k a : ℕ) (xs : List ℕ) → n ≤ k → xs ++ bytes_from bs (n - k) a ≡ xs
unfolding bytes_from
bytes_end bs n k a xs l = let e : n - k ≡ 0 = omega arith in rw e (append-nil xs)

-- the pages of a space
named_back : (n : ℕ) → number_of (reading.named n) ≡ n
named_back zero = refl
named_back (suc n) = grind (arith, nat_tests)

page_in_of : (n : Option ℕ) (m : Bool) → page_in (mapping_of n m) ≡ n
page_in_of None m = refl
page_in_of (Some n) m = refl

mark_in_of : (n : Option ℕ) (m : Bool) → mark_in (mapping_of n m) ≡ m
mark_in_of None m = refl
mark_in_of (Some n) m = refl

first_page : (bs : List ℕ) (a : ℕ) (x : Mapping) → x ≡ reading.mapping bs a → (page_of x ≡ two bs a) × (may_write x ≡ (one bs (a + 2) == 1))
first_page bs a x e = (
  ap page_of e ∙ ap number_of (page_in_of (reading.named (two bs a)) (one bs (a + 2) == 1)) ∙ named_back (two bs a),
  ap may_write e ∙ mark_in_of (reading.named (two bs a)) (one bs (a + 2) == 1),
)

pub spaces : (bs : List ℕ) (a n : ℕ) (xs : List Mapping) → length xs ≡ n → ((i : ℕ) → i < n → get_or xs i unmapped ≡ reading.mapping bs (a + 3 * i))
    → (map page_of xs ≡ m.pages_from bs n a) × (map may_write xs ≡ m.marks_from bs n a)
unfolding m.pages_from m.marks_from
spaces bs a zero [] e h = (refl, refl)
spaces bs a (suc n) [] e h = absurd (omega (arith, e))
spaces bs a zero (x ∷ xs) e h = absurd (omega (arith, e))
spaces bs a (suc n) (x ∷ xs) e h =
    let z : a + 3 * 0 ≡ a = omega arith in
    let p = first_page bs a x (subst (λ v. x ≡ reading.mapping bs v) z (h 0 (omega arith))) in
    let next : (i : ℕ) → a + 3 * suc i ≡ a + 3 + 3 * i = λ i. omega arith in
    let r = spaces bs (a + 3) n xs (omega (arith, e)) (λ i l. subst (λ v. get_or xs i unmapped ≡ reading.mapping bs v) (next i) (h (suc i) (omega (arith, l)))) in
    (rw (p.0, r.0) refl, rw (p.1, r.1) refl)
