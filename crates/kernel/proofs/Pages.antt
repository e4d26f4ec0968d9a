-- A page goes by the bytes of its units.
use Rattle.std.proofs.Common.{◌≡◌, ℕ, ◌+◌, ◌-◌, ◌*◌, ◌/◌, ◌<◌, ◌≤◌, true, List, length, get_or, drop, sym, ◌∙◌, refl, arith, inl, inr}
use Rattle.std.proofs.lemmas.List.{get_or-drop, get_or-take, same_lists}
use Rattle.std.proofs.lemmas.Bool.{cases_Bool}
use Rattle.std.proofs.lemmas.Bool.Decides.{nat_tests}
use Rattle.std.proofs.lemmas.Grind.{get_or_default_zero}
use Rattle.board.specs.Parts.{within, page_at}
use Rattle.board.proofs.Spans.{length-page}

-- byte b of a page that lies within
byte_of_page : (m : List ℕ) (p b : ℕ) → within m p 64 ≡ true → b < 4096 → get_or (page_at m p) b 0 ≡ get_or m (64 * p - 64 + b) 0
unfolding page_at
byte_of_page m p b t l =
    let e : 64 * p - 64 + 4096 - (64 * p - 64) ≡ 4096 = omega arith in
    rw (t, e) (get_or-take 4096 (drop (64 * p - 64) m) b 0 l ∙ get_or-drop (64 * p - 64) m b 0)

pub page_alike : (m n : List ℕ) (q : ℕ) → length n ≡ length m → ((b : ℕ) → q ≤ b / 64 + 1 → b / 64 + 1 < q + 64 → get_or n b 0 ≡ get_or m b 0) → page_at n q ≡ page_at m q
unfolding page_at
page_alike m n q l f =
    let e : within n q 64 ≡ within m q 64 = rw l refl in
    elim (cases_Bool (within m q 64)) [
      | inl t ↦
          let u : within n q 64 ≡ true = e ∙ t in
          let z : 0 < q = grind (arith, nat_tests) in
          let a = length-page m q t in
          let b = length-page n q u in
          let same : (i : ℕ) → i < 4096 → get_or (page_at n q) i 0 ≡ get_or (page_at m q) i 0 =
          λ i j. byte_of_page n q i u j ∙ f (64 * q - 64 + i) (omega arith) (omega arith) ∙ sym (byte_of_page m q i t j) in
          same_lists (page_at n q) (page_at m q) (b ∙ sym a)
          (λ i d j. get_or_default_zero (page_at n q) i d j ∙ same i (omega arith) ∙ sym (get_or_default_zero (page_at m q) i d (omega arith)))
      | inr t ↦ rw (e, t) refl
    ]
