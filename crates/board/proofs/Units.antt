-- What a word that is written leaves of the others, and of the bytes around its unit.
use Rattle.std.proofs.Common.{◌≡◌, ◌≢◌, ◌⊎◌, inl, inr, ℕ, zero, suc, ◌+◌, ◌*◌, ◌/◌, ◌%◌, ◌<◌, ◌≤◌, true, false, cond, List, [], ◌∷◌, length, get_or, ap, ◌∙◌, refl, arith}
use Rattle.std.proofs.lemmas.List.{get_or-set_other, get_or-set_same, length-set}
use Rattle.std.proofs.lemmas.Bool.{cases_Bool, cases_lt}
use Rattle.std.proofs.lemmas.Bool.Decides.{nat_tests}
use Rattle.board.specs.Words.{there, has_word, byte_of, four, put_four, word, put_word, put_words}
use Rattle.board.specs.Around.{SameBut}

length-put_four : (m : List ℕ) (a v : ℕ) → length (put_four m a v) ≡ length m
length-put_four m a v = simp length-set

byte-put_four : (m : List ℕ) (a v b : ℕ) → (b < a) ⊎ (a + 4 ≤ b) → get_or (put_four m a v) b 0 ≡ get_or m b 0
byte-put_four m a v b h =
    let n0 : b ≢ a = omega arith in
    let n1 : b ≢ a + 1 = omega arith in
    let n2 : b ≢ a + 2 = omega arith in
    let n3 : b ≢ a + 3 = omega arith in
    simp get_or-set_other

digits : (v : ℕ) → v % 256 + 256 * (v / 256 % 256) + 65536 * (v / 65536 % 256) + 16777216 * (v / 16777216) ≡ v
digits v = omega arith

four-put_same : (m : List ℕ) (a v : ℕ) → a + 4 ≤ length m → four (put_four m a v) a ≡ v
four-put_same m a v h = grind (arith, get_or-set_other {A = ℕ}, get_or-set_same {A = ℕ}, length-set {A = ℕ}, digits v)

-- a write to one word
pub put_word_in : (m : List ℕ) (p k v : ℕ) → has_word m p k ≡ true → put_word m p k v ≡ put_four m (byte_of p k) v
unfolding put_word
put_word_in m p k v h = rw h refl

pub put_word_past : (m : List ℕ) (p k v : ℕ) → has_word m p k ≡ false → put_word m p k v ≡ m
unfolding put_word
put_word_past m p k v h = rw h refl

pub same_but : (m : List ℕ) (p k : ℕ) → SameBut m m p k
same_but m p k = record { long = refl; bytes = λ b h. refl }

pub same_more : {m n o : List ℕ} {p k : ℕ} → SameBut m n p k → SameBut n o p k → SameBut m o p k
same_more s t = record { long = t.long ∙ s.long; bytes = λ b h. t.bytes b h ∙ s.bytes b h }

pub around-put_word : (m : List ℕ) (p k v : ℕ) → SameBut m (put_word m p k v) p 1
around-put_word m p k v =
    elim (cases_Bool (has_word m p k)) [
      | inl h ↦ rw (put_word_in m p k v h) (record { long = length-put_four m (byte_of p k) v; bytes = λ b e. byte-put_four m (byte_of p k) v b (apart b e h) })
      | inr h ↦ rw (put_word_past m p k v h) (same_but m p 1)
    ]
  where
    apart : (b : ℕ) → (b / 64 + 1 < p) ⊎ (p + 1 ≤ b / 64 + 1) → has_word m p k ≡ true → (b < byte_of p k) ⊎ (byte_of p k + 4 ≤ b)
    apart b (inl e) h = inl (grind (arith, nat_tests))
    apart b (inr e) h = inr (grind (arith, nat_tests))

-- four bytes in a row
four_like : (m n : List ℕ) (a : ℕ) → ((b : ℕ) → a ≤ b → b < a + 4 → get_or n b 0 ≡ get_or m b 0) → four n a ≡ four m a
four_like m n a h =
    let e0 = h a (omega arith) (omega arith) in
    let e1 = h (a + 1) (omega arith) (omega arith) in
    let e2 = h (a + 2) (omega arith) (omega arith) in
    let e3 = h (a + 3) (omega arith) (omega arith) in
    simp (e0, e1, e2, e3)

-- a word of another unit
pub word-around : {m n : List ℕ} {p k : ℕ} → SameBut m n p k → (q j : ℕ) → (q < p) ⊎ (p + k ≤ q) → word n q j ≡ word m q j
unfolding word
word-around {m = m} {n = n} {p = p} {k = k} s q j h =
    let l : length n ≡ length m = s.long in
    let e : has_word n q j ≡ has_word m q j = rw l refl in
    rw e (elim (cases_Bool (has_word m q j)) [
      | inl t ↦ rw t (four_like m n (byte_of q j) (λ b lo hi. s.bytes b (inside b lo hi t h)))
      | inr t ↦ rw t refl
    ])
  where
    inside : (b : ℕ) → byte_of q j ≤ b → b < byte_of q j + 4 → has_word m q j ≡ true → (q < p) ⊎ (p + k ≤ q) → (b / 64 + 1 < p) ⊎ (p + k ≤ b / 64 + 1)
    inside b lo hi t (inl e) = inl (grind (arith, nat_tests))
    inside b lo hi t (inr e) = inr (grind (arith, nat_tests))

pub there-around : {m n : List ℕ} {p k : ℕ} → SameBut m n p k → (q : ℕ) → there n q ≡ there m q
there-around s q = rw s.long refl

pub has_word_there : (m : List ℕ) (p k : ℕ) → there m p ≡ true → k < 16 → has_word m p k ≡ true
has_word_there m p k t l = grind (arith, nat_tests)

-- the word that was written
pub word-put_same : (m : List ℕ) (p k v : ℕ) → there m p ≡ true → k < 16 → word (put_word m p k v) p k ≡ v
unfolding word
word-put_same m p k v t l =
    let h = has_word_there m p k t l in
    let e : length (put_four m (byte_of p k) v) ≡ length m = length-put_four m (byte_of p k) v in
    let h2 : has_word (put_four m (byte_of p k) v) p k ≡ true = rw e h in
    rw (put_word_in m p k v h, h2) (four-put_same m (byte_of p k) v (grind (arith, nat_tests)))

-- another word of its unit
pub word-put_other : (m : List ℕ) (p k v j : ℕ) → j ≢ k → word (put_word m p k v) p j ≡ word m p j
unfolding word
word-put_other m p k v j n =
    elim (cases_Bool (has_word m p k)) [
      | inl t ↦
          let e : length (put_four m (byte_of p k) v) ≡ length m = length-put_four m (byte_of p k) v in
          rw (put_word_in m p k v t, e) (ap (λ x. cond (has_word m p j) x 0) (four_like m _ (byte_of p j) (λ b lo hi. byte-put_four m (byte_of p k) v b (apart b lo hi))))
      | inr t ↦ rw (put_word_past m p k v t) refl
    ]
  where
    apart : (b : ℕ) → byte_of p j ≤ b → b < byte_of p j + 4 → (b < byte_of p k) ⊎ (byte_of p k + 4 ≤ b)
    apart b lo hi = elim (cases_lt j k) [ inl h ↦ inl (omega arith) | inr h ↦ inr (omega arith) ]

-- several words
pub around-put_words : (m : List ℕ) (p k : ℕ) (ws : List ℕ) → SameBut m (put_words m p k ws) p 1
unfolding put_words
around-put_words m p k [] = same_but m p 1
around-put_words m p k (w ∷ ws) = same_more (around-put_word m p k w) (around-put_words (put_word m p k w) p (k + 1) ws)

pub word-put_words_other : (m : List ℕ) (p k : ℕ) (ws : List ℕ) (j : ℕ) → (j < k) ⊎ (k + length ws ≤ j) → word (put_words m p k ws) p j ≡ word m p j
unfolding put_words
word-put_words_other m p k [] j h = refl
word-put_words_other m p k (w ∷ ws) j (inl h) = word-put_words_other (put_word m p k w) p (k + 1) ws j (inl (omega arith)) ∙ word-put_other m p k w j (omega arith)
word-put_words_other m p k (w ∷ ws) j (inr h) = word-put_words_other (put_word m p k w) p (k + 1) ws j (inr (omega arith)) ∙ word-put_other m p k w j (omega arith)

pub word-put_words_at : (m : List ℕ) (p k : ℕ) (ws : List ℕ) (i : ℕ) → there m p ≡ true → i < length ws → k + length ws ≤ 16 → word (put_words m p k ws) p (k + i) ≡ get_or ws i 0
unfolding put_words
word-put_words_at m p k [] i t l h = absurd (omega arith)
word-put_words_at m p k (w ∷ ws) zero t l h =
    let e : k + 0 ≡ k = omega arith in
    rw e (word-put_words_other (put_word m p k w) p (k + 1) ws k (inl (omega arith)) ∙ word-put_same m p k w t (omega arith))
word-put_words_at m p k (w ∷ ws) (suc i) t l h =
    let e : k + suc i ≡ k + 1 + i = omega arith in
    rw e (word-put_words_at (put_word m p k w) p (k + 1) ws i (there-around (around-put_word m p k w) p ∙ t) (omega arith) (omega arith))
