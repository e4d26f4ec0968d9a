-- What lies in one page is found by one look-up.
use Rattle.std.proofs.Common.{◌≡◌, ℕ, suc, ◌+◌, ◌*◌, ◌/◌, ◌%◌, ◌<◌, ◌≤◌, ◌⊎◌, inl, inr, List, length, get_or, Some, None, sym, refl, ap, ◌∙◌, arith}
use Rattle.std.proofs.lemmas.Bool.{cases_Bool, cond-true, cond-false, lt-ltb, le-ltb}
use Rattle.board.specs.Parts.{within, page_at}
use Rattle.board.proofs.Spans.{length-page}
use Rattle.rv32.specs.Execute.{aligned}
use Rattle.rv32.proofs.Reading.{aligned_none, aligned_2, both, halves}
use Rattle.space.specs.declared.tables.PageTables.{PageTables}
use Rattle.space.specs.Bytes.{page_seen, byte_in, seen}

-- a page has all its bytes or none
abbrev pub Whole : List ℕ → Type 0
Whole xs = (length xs ≡ 0) ⊎ (length xs ≡ 4096)

pub whole_page : (m : List ℕ) (p : ℕ) → Whole (page_at m p)
unfolding page_at
whole_page m p = elim (cases_Bool (within m p 64)) [
  | inl h ↦ inr (length-page m p h)
  | inr h ↦ inl (ap length (cond-false _ _ _ h))
]

-- k bytes on in the same page
pub seen_on : (m : List ℕ) (t : PageTables) (a k : ℕ) → a % 4096 + k < 4096 → seen m t (a + k) ≡ byte_in (page_seen m t a) (a % 4096 + k)
seen_on m t a k h =
    let e : (a + k) / 4096 ≡ a / 4096 = omega arith in
    let f : (a + k) % 4096 ≡ a % 4096 + k = omega arith in
    rw (e, f) refl

-- no page is there
pub unseen : (m : List ℕ) (t : PageTables) (a n : ℕ) → a % 4096 + suc n ≤ 4096 → length (page_seen m t a) ≡ 0 → None ≡ aligned (seen m t) a (suc n)
unseen m t a n h e =
    aligned_none (seen m t) a (suc n) n (omega arith)
    (sym (seen_on m t a n (omega arith) ∙ cond-false _ _ _ (le-ltb (a % 4096 + n) (length (page_seen m t a)) (omega arith))))

-- xs are the bytes of the page that an address leads to
module _ (m : List ℕ) (t : PageTables) (a : ℕ) (xs : List ℕ) (e : xs ≡ page_seen m t a) (l : length xs ≡ 4096) where
  byte_on : (k : ℕ) → a % 4096 + k < 4096 → get_or xs (a % 4096 + k) 0 ≡ seen m t (a + k)
  byte_on k h =
      sym (seen_on m t a k h ∙ (ap (λ ys. byte_in ys (a % 4096 + k)) (sym e) ∙ cond-true _ _ _ (lt-ltb (a % 4096 + k) (length xs) (omega arith))))

  byte_here : get_or xs (a % 4096) 0 ≡ seen m t a
  byte_here = ap (λ i. get_or xs i 0) (omega arith) ∙ (byte_on 0 (omega arith) ∙ ap (seen m t) (omega arith))

  -- two and four bytes

  pub read_2 : a % 2 ≡ 0 → get_or xs (a % 4096) 0 < 256 → get_or xs (a % 4096 + 1) 0 < 256 →
      Some (get_or xs (a % 4096) 0 + 256 * get_or xs (a % 4096 + 1) 0) ≡ aligned (seen m t) a 2
  read_2 z x y = aligned_2 (seen m t) a _ _ z byte_here (byte_on 1 (omega arith)) x y

  pub read_4 : a % 4 ≡ 0 → get_or xs (a % 4096) 0 < 256 → get_or xs (a % 4096 + 1) 0 < 256 → get_or xs (a % 4096 + 2) 0 < 256 → get_or xs (a % 4096 + 3) 0 < 256 →
      Some (get_or xs (a % 4096) 0 + 256 * get_or xs (a % 4096 + 1) 0 + 65536 * (get_or xs (a % 4096 + 2) 0 + 256 * get_or xs (a % 4096 + 3) 0)) ≡ aligned (seen m t) a 4
  read_4 z x y u v =
      let g : get_or xs (a % 4096 + 3) 0 ≡ seen m t (a + 2 + 1) = byte_on 3 (omega arith) ∙ ap (seen m t) (omega arith) in
      let low = aligned_2 (seen m t) a _ _ (omega arith) byte_here (byte_on 1 (omega arith)) x y in
      let high = aligned_2 (seen m t) (a + 2) _ _ (omega arith) (byte_on 2 (omega arith)) g u v in
      ap (both (Some (get_or xs (a % 4096) 0 + 256 * get_or xs (a % 4096 + 1) 0))) high ∙ ap (λ o. both o (aligned (seen m t) (a + 2) 2)) low ∙ halves (seen m t) a z
