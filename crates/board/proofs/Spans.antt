-- Bytes that are written over a part of the memory.
use Rattle.std.proofs.Common.{lt-ltb, ◌≡◌, ◌⊎◌, inl, inr, ℕ, zero, suc, ◌+◌, ◌-◌, ◌*◌, ◌/◌, ◌<◌, ◌≤◌, true, false, None, List, [], ◌∷◌, ◌++◌, length, length-append, length-take, length-drop, replicate, get_or, take, drop, ap, sym, ◌∙◌, refl, arith}
use Rattle.std.proofs.lemmas.List.{drop-drop, get_or-append_right, get_or-drop, get_or-replicate, get_or-take, length-replicate, same_lists}
use Rattle.std.proofs.lemmas.Bool.{cases_Bool, cases_lt}
use Rattle.std.proofs.lemmas.Bool.Decides.{nat_tests}
use Rattle.std.proofs.lemmas.Grind.{get_or_default_zero}
use Rattle.std.proofs.Math.ListN.{get_or-append}
use borrow.Rule.Slice.PartMut.{put_mid}
use Rattle.rights.specs.World as world
use Rattle.board.specs.Words.{there, has_word, byte_of, word}
use Rattle.board.specs.Slots.{slot_at}
use Rattle.board.specs.Links.{cell, no_links}
use Rattle.board.specs.Around.{SameBut}
use Rattle.board.specs.Parts.{within, written, cleared, page_at, in_page, store}
use Rattle.board.proofs.Units.{same_but}

-- what a write through a part of a slice leaves
pub written_mid : (a k : ℕ) (xs ys : List ℕ) → length ys ≡ k → put_mid a k xs ys ≡ written xs a ys
written_mid a k xs ys h = rw (← h, drop-drop) refl

-- what a fill of such a part leaves
pub filled_mid : (a k n : ℕ) (xs ys : List ℕ) → a + n ≤ length xs → k ≡ n → ys ≡ replicate (length (take k (drop a xs))) 0 → put_mid a k xs ys ≡ written xs a (replicate n 0)
filled_mid a k n xs ys h e f =
    let l : length (take k (drop a xs)) ≡ n = simp (length-take, length-drop) (omega arith) in
    let g : ys ≡ replicate n 0 = f ∙ ap (λ j. replicate j 0) l in
    written_mid a k xs ys (rw (g, length-replicate {A = ℕ} n 0) (sym e)) ∙ ap (written xs a) g

length-written : (m : List ℕ) (a : ℕ) (ys : List ℕ) → a + length ys ≤ length m → length (written m a ys) ≡ length m
length-written m a ys h = simp (length-append, length-take, length-drop) (omega arith)

-- a byte that was written
written_in : (m : List ℕ) (a : ℕ) (ys : List ℕ) (b : ℕ) → a + length ys ≤ length m → a ≤ b → b < a + length ys → get_or (written m a ys) b 0 ≡ get_or ys (b - a) 0
written_in m a ys b h lo hi =
    let l : length (take a m) ≡ a = rw length-take (omega arith) in
    get_or-append_right (take a m) (ys ++ drop (a + length ys) m) a b 0 l lo ∙ get_or-append ys (drop (a + length ys) m) 0 (b - a) (omega arith)

-- and one around it
written_out : (m : List ℕ) (a : ℕ) (ys : List ℕ) (b : ℕ) → a + length ys ≤ length m → (b < a) ⊎ (a + length ys ≤ b) → get_or (written m a ys) b 0 ≡ get_or m b 0
written_out m a ys b h (inl lo) =
    let l : length (take a m) ≡ a = rw length-take (omega arith) in
    get_or-append (take a m) (ys ++ drop (a + length ys) m) 0 b (omega arith) ∙ get_or-take a m b 0 lo
written_out m a ys b h (inr hi) =
    let l : length (take a m) ≡ a = rw length-take (omega arith) in
    let e : a + length ys + (b - a - length ys) ≡ b = omega arith in
    get_or-append_right (take a m) (ys ++ drop (a + length ys) m) a b 0 l (omega arith)
    ∙ get_or-append_right ys (drop (a + length ys) m) (length ys) (b - a) 0 refl (omega arith)
    ∙ get_or-drop (a + length ys) m (b - a - length ys) 0 ∙ ap (λ i. get_or m i 0) e

-- two lists that agree byte by byte
same_bytes : (xs ys : List ℕ) → length xs ≡ length ys → ((b : ℕ) → b < length xs → get_or xs b 0 ≡ get_or ys b 0) → xs ≡ ys
same_bytes xs ys l h = same_lists xs ys l (λ b d k. get_or_default_zero xs b d k ∙ h b k ∙ sym (get_or_default_zero ys b d (omega arith)))

pub last_unit : (m : List ℕ) (p n : ℕ) → 0 < p → within m p (n + 1) ≡ there m (p + n)
last_unit m p n h =
    let e : 64 * p - 64 + 64 * (n + 1) ≡ 64 * (p + n) = omega arith in
    rw (lt-ltb 0 p h, lt-ltb 0 (p + n) (omega arith), e) refl

pub around-cleared : (m : List ℕ) (p n : ℕ) → SameBut m (cleared m p n) p n
unfolding cleared
around-cleared m p n =
    elim (cases_Bool (within m p n)) [
      | inl t ↦ rw t (changed t)
      | inr t ↦ rw t (same_but m p n)
    ]
  where
    changed : within m p n ≡ true → SameBut m (written m (64 * p - 64) (replicate (64 * n) 0)) p n
    changed t =
        let l : length (replicate {A = ℕ} (64 * n) 0) ≡ 64 * n = length-replicate {A = ℕ} (64 * n) 0 in
        let h : 64 * p - 64 + length (replicate {A = ℕ} (64 * n) 0) ≤ length m = grind (arith, nat_tests) in
        let z : 0 < p = grind (arith, nat_tests) in
        record {
          long = length-written m (64 * p - 64) (replicate (64 * n) 0) h;
          bytes = λ b o. written_out m (64 * p - 64) (replicate (64 * n) 0) b h (elim o [ inl x ↦ inl (omega arith) | inr x ↦ inr (omega arith) ]);
        }

pub around-store : (m : List ℕ) (p o : ℕ) (bs : List ℕ) → SameBut m (store m p o bs) p 64
unfolding store
around-store m p o bs =
    elim (cases_Bool (in_page m p o (length bs))) [
      | inl t ↦ rw t (changed t)
      | inr t ↦ rw t (same_but m p 64)
    ]
  where
    changed : in_page m p o (length bs) ≡ true → SameBut m (written m (64 * p - 64 + o) bs) p 64
    changed t =
        let h : 64 * p - 64 + o + length bs ≤ length m = grind (arith, nat_tests) in
        let k : o + length bs ≤ 4096 = grind (arith, nat_tests) in
        let z : 0 < p = grind (arith, nat_tests) in
        record {
          long = length-written m (64 * p - 64 + o) bs h;
          bytes = λ b e. written_out m (64 * p - 64 + o) bs b h (elim e [ inl x ↦ inl (omega arith) | inr x ↦ inr (omega arith) ]);
        }

-- the bytes of a page that lies within
page_in : (m : List ℕ) (p : ℕ) → within m p 64 ≡ true → page_at m p ≡ take 4096 (drop (64 * p - 64) m)
unfolding page_at
page_in m p t = let e : 64 * p - 64 + 4096 - (64 * p - 64) ≡ 4096 = omega arith in rw (t, e) refl

pub length-page : (m : List ℕ) (p : ℕ) → within m p 64 ≡ true → length (page_at m p) ≡ 4096
length-page m p t = rw (page_in m p t, length-take, length-drop) (grind (arith, nat_tests))

byte-page : (m : List ℕ) (p b : ℕ) → within m p 64 ≡ true → b < 4096 → get_or (page_at m p) b 0 ≡ get_or m (64 * p - 64 + b) 0
byte-page m p b t l = rw (page_in m p t) (get_or-take 4096 (drop (64 * p - 64) m) b 0 l ∙ get_or-drop (64 * p - 64) m b 0)

-- a page apart from what was written
pub page-around : {m n : List ℕ} {p k : ℕ} → SameBut m n p k → (q : ℕ) → (q + 64 ≤ p) ⊎ (p + k ≤ q) → page_at n q ≡ page_at m q
unfolding page_at
page-around {m = m} {n = n} {p = p} {k = k} s q h =
    let l : length n ≡ length m = s.long in
    let e : within n q 64 ≡ within m q 64 = rw l refl in
    elim (cases_Bool (within m q 64)) [
      | inl t ↦
          let u : within n q 64 ≡ true = e ∙ t in
          let a = length-page m q t in
          let b = length-page n q u in
          same_bytes (page_at n q) (page_at m q) (b ∙ sym a) (λ i j. byte-page n q i u (omega arith) ∙ s.bytes (64 * q - 64 + i) (apart i (omega arith) t) ∙ sym (byte-page m q i t (omega arith)))
      | inr t ↦ rw (e, t) refl
    ]
  where
    apart : (i : ℕ) → i < 4096 → within m q 64 ≡ true → ((64 * q - 64 + i) / 64 + 1 < p) ⊎ (p + k ≤ (64 * q - 64 + i) / 64 + 1)
    apart i l t =
        let z : 0 < q = grind (arith, nat_tests) in
        elim h [ inl x ↦ inl (omega arith) | inr x ↦ inr (omega arith) ]

-- what is cleared is 0
pub byte-cleared : (m : List ℕ) (p n b : ℕ) → within m p n ≡ true → p ≤ b / 64 + 1 → b / 64 + 1 < p + n → get_or (cleared m p n) b 0 ≡ 0
unfolding cleared
byte-cleared m p n b t lo hi =
    let l : length (replicate {A = ℕ} (64 * n) 0) ≡ 64 * n = length-replicate {A = ℕ} (64 * n) 0 in
    let h : 64 * p - 64 + length (replicate {A = ℕ} (64 * n) 0) ≤ length m = grind (arith, nat_tests) in
    rw t (written_in m (64 * p - 64) (replicate (64 * n) 0) b h (omega arith) (omega arith) ∙ get_or-replicate {A = ℕ} (64 * n) (b - (64 * p - 64)) 0 0 (omega arith))

pub word-cleared : (m : List ℕ) (p n q j : ℕ) → within m p n ≡ true → p ≤ q → q < p + n → word (cleared m p n) q j ≡ 0
unfolding word
word-cleared m p n q j t lo hi =
    elim (cases_Bool (has_word (cleared m p n) q j)) [
      | inl e ↦ rw e (
          let z : 0 < q = grind (arith, nat_tests) in
          let k : j < 16 = grind (arith, nat_tests) in
          let e0 = byte-cleared m p n (byte_of q j) t (omega arith) (omega arith) in
          let e1 = byte-cleared m p n (byte_of q j + 1) t (omega arith) (omega arith) in
          let e2 = byte-cleared m p n (byte_of q j + 2) t (omega arith) (omega arith) in
          let e3 = byte-cleared m p n (byte_of q j + 3) t (omega arith) (omega arith) in
          simp (e0, e1, e2, e3))
      | inr e ↦ rw e refl
    ]

pub slot-cleared : (m : List ℕ) (p n q : ℕ) → within m p n ≡ true → p ≤ q → q < p + n → slot_at (cleared m p n) q ≡ None
slot-cleared m p n q t lo hi = let w0 = word-cleared m p n q 0 t lo hi in rw w0 refl

pub cell-cleared : (m : List ℕ) (p n q : ℕ) → within m p n ≡ true → p ≤ q → q < p + n → cell (cleared m p n) q ≡ no_links
cell-cleared m p n q t lo hi =
    let w8 = word-cleared m p n q 8 t lo hi in
    let w9 = word-cleared m p n q 9 t lo hi in
    let w10 = word-cleared m p n q 10 t lo hi in
    let w11 = word-cleared m p n q 11 t lo hi in
    simp (w8, w9, w10, w11)

pub page-cleared : (m : List ℕ) (p n q : ℕ) → within m p n ≡ true → p ≤ q → q + 64 ≤ p + n → page_at (cleared m p n) q ≡ replicate (length (page_at m q)) 0
page-cleared m p n q t lo hi =
    let z : 0 < p = grind (arith, nat_tests) in
    let l : length (cleared m p n) ≡ length m = (around-cleared m p n).long in
    let u : within m q 64 ≡ true = grind (arith, nat_tests) in
    let v : within (cleared m p n) q 64 ≡ true = rw l u in
    let a = length-page m q u in
    let b = length-page (cleared m p n) q v in
    same_bytes _ _ (b ∙ sym a ∙ sym (length-replicate {A = ℕ} (length (page_at m q)) 0))
    (λ i k. byte-page (cleared m p n) q i v (omega arith) ∙ byte-cleared m p n (64 * q - 64 + i) t (omega arith) (omega arith) ∙ sym (get_or-replicate {A = ℕ} (length (page_at m q)) i 0 0 (omega arith)))

-- the world's own word for bytes written over a list
drops_are : {A : Type 0} (n : ℕ) (xs : List A) → drop n xs ≡ world.drop n xs
unfolding world.drop
drops_are zero xs = refl
drops_are (suc n) [] = refl
drops_are (suc n) (x ∷ xs) = drops_are n xs

over_is : (xs : List ℕ) (a : ℕ) (ys : List ℕ) → a ≤ length xs → written xs a ys ≡ world.over xs a ys
unfolding world.over
over_is xs zero ys h = let e : 0 + length ys ≡ length ys = omega arith in rw e (ap (λ zs. ys ++ zs) (drops_are (length ys) xs))
over_is [] (suc a) ys h = absurd (omega arith)
over_is (x ∷ xs) (suc a) ys h = let e : suc a + length ys ≡ suc (a + length ys) = omega arith in rw e (ap (λ zs. x ∷ zs) (over_is xs a ys (omega arith)))

byte-store : (m : List ℕ) (p o : ℕ) (bs : List ℕ) (i : ℕ) → in_page m p o (length bs) ≡ true → i < 4096 → get_or (store m p o bs) (64 * p - 64 + i) 0 ≡ get_or (written (page_at m p) o bs) i 0
unfolding store
byte-store m p o bs i t h =
    let u : within m p 64 ≡ true = grind (arith, nat_tests) in
    let k : o + length bs ≤ 4096 = grind (arith, nat_tests) in
    let a = length-page m p u in
    let l : 64 * p - 64 + o + length bs ≤ length m = grind (arith, nat_tests) in
    rw t (elim (cases_lt i o) [
      | inl x ↦ written_out m (64 * p - 64 + o) bs (64 * p - 64 + i) l (inl (omega arith)) ∙ sym (byte-page m p i u h) ∙ sym (written_out (page_at m p) o bs i (omega arith) (inl x))
      | inr x ↦ elim (cases_lt i (o + length bs)) [
        | inl y ↦
            let e : 64 * p - 64 + i - (64 * p - 64 + o) ≡ i - o = omega arith in
            written_in m (64 * p - 64 + o) bs (64 * p - 64 + i) l (omega arith) (omega arith) ∙ ap (λ j. get_or bs j 0) e ∙ sym (written_in (page_at m p) o bs i (omega arith) x y)
        | inr y ↦ written_out m (64 * p - 64 + o) bs (64 * p - 64 + i) l (inr (omega arith)) ∙ sym (byte-page m p i u h) ∙ sym (written_out (page_at m p) o bs i (omega arith) (inr y))
      ]
    ])

pub page-store : (m : List ℕ) (p o : ℕ) (bs : List ℕ) → in_page m p o (length bs) ≡ true → page_at (store m p o bs) p ≡ world.over (page_at m p) o bs
page-store m p o bs t =
    let u : within m p 64 ≡ true = grind (arith, nat_tests) in
    let k : o + length bs ≤ 4096 = grind (arith, nat_tests) in
    let l : length (store m p o bs) ≡ length m = (around-store m p o bs).long in
    let v : within (store m p o bs) p 64 ≡ true = rw l u in
    let a = length-page m p u in
    let b = length-page (store m p o bs) p v in
    let c : length (written (page_at m p) o bs) ≡ length (page_at m p) = length-written (page_at m p) o bs (omega arith) in
    same_bytes _ _ (b ∙ sym a ∙ sym c) (λ i h. byte-page (store m p o bs) p i v (omega arith) ∙ byte-store m p o bs i t (omega arith)) ∙ over_is (page_at m p) o bs (omega arith)

-- where it does not all lie within
pub cleared_nothing : (m : List ℕ) (p n : ℕ) → within m p n ≡ false → cleared m p n ≡ m
unfolding cleared
cleared_nothing m p n t = rw t refl

pub store_nothing : (m : List ℕ) (p o : ℕ) (bs : List ℕ) → in_page m p o (length bs) ≡ false → store m p o bs ≡ m
unfolding store
store_nothing m p o bs t = rw t refl
