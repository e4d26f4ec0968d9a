-- A slot that is written is read again; links and other slots are as they were.
use Rattle.std.proofs.Common.{◌≡◌, ◌≢◌, ◌⊎◌, inl, inr, ℕ, ◌+◌, ◌*◌, ◌/◌, ◌%◌, ◌<◌, ◌≤◌, true, false, ◌&&◌, List, [], ◌∷◌, ◌++◌, length, get_or, leb, le-leb, eq-eqb, ne_eqb, lit<, lit≤, zero-add, eqb, Option, Some, None, ap, ◌∙◌, refl, arith}
use Rattle.std.proofs.lemmas.Bool.{cases_eq, cases_lt}
use Rattle.std.proofs.Math.Path.{fun_ext}
use Rattle.rights.specs.World.{pick}
use Rattle.board.specs.Words.{there, word, put_word, put_words}
use Rattle.board.specs.Around.{SameBut}
use Rattle.board.specs.Slots.{words_of, decoded, encoded, slot_at, put_slot, InRange, upd}
use Rattle.board.specs.Links.{cell, no_links, put_depth, put_next, put_prev, put_up, set_depth, set_next, set_prev, set_up}
use Rattle.board.specs.declared.slots.Object.{Object}
use Rattle.board.specs.declared.slots.Object.TheVariants.{Pool, Table, Port, Page, Thread, Line}
use Rattle.board.specs.declared.slots.Capability.{Capability}
use Rattle.board.proofs.Units.{word-around, word-put_same, word-put_other, word-put_words_at, word-put_words_other, around-put_word, around-put_words}

halves : (n : ℕ) → n % 4294967296 + 4294967296 * (n / 4294967296) ≡ n
halves n = omega arith

back : (o : Object) (r b : ℕ) → leb r 7 ≡ true → decoded (words_of o ++ (r ∷ b ∷ [])) ≡ Some (record { object = o; rights = record { bits = r }; badge = b })
back (Pool p n u l) r b h = rw (halves l, h) refl
back (Table p n) r b h = rw h refl
back (Port p) r b h = rw h refl
back (Page p) r b h = rw h refl
back (Thread i) r b h = rw h refl
back (Line i) r b h = rw h refl

pub decoded-encoded : (x : Option Capability) → InRange x → decoded (encoded x) ≡ x
decoded-encoded None h = refl
decoded-encoded (Some c) h = back c.object c.rights.bits c.badge (le-leb c.rights.bits 7 h)

-- a list has eight numbers, which are these
abbrev Eight : List ℕ → Type 0
Eight ws = (length ws ≡ 8) × (get_or ws 0 0 ∷ get_or ws 1 0 ∷ get_or ws 2 0 ∷ get_or ws 3 0 ∷ get_or ws 4 0 ∷ get_or ws 5 0 ∷ get_or ws 6 0 ∷ get_or ws 7 0 ∷ [] ≡ ws)

eight : (x : Option Capability) → Eight (encoded x)
eight None = (refl, refl)
eight (Some c) = of_object c.object
  where
    of_object : (o : Object) → Eight (words_of o ++ (c.rights.bits ∷ c.badge ∷ []))
    of_object (Pool p n u l) = (refl, refl)
    of_object (Table p n) = (refl, refl)
    of_object (Port p) = (refl, refl)
    of_object (Page p) = (refl, refl)
    of_object (Thread i) = (refl, refl)
    of_object (Line i) = (refl, refl)

pub slot-put_same : (m : List ℕ) (p : ℕ) (x : Option Capability) → there m p ≡ true → InRange x → slot_at (put_slot m p x) p ≡ x
slot-put_same m p x t h =
    let e : length (encoded x) ≡ 8 = (eight x).0 in
    let w : (i : ℕ) → i < 8 → word (put_slot m p x) p i ≡ get_or (encoded x) i 0 = λ i l. rw zero-add at (word-put_words_at m p 0 (encoded x) i t (omega arith) (omega arith)) in
    let w0 = w 0 (lit< tt) in
    let w1 = w 1 (lit< tt) in
    let w2 = w 2 (lit< tt) in
    let w3 = w 3 (lit< tt) in
    let w4 = w 4 (lit< tt) in
    let w5 = w 5 (lit< tt) in
    let w6 = w 6 (lit< tt) in
    let w7 = w 7 (lit< tt) in
    simp (w0, w1, w2, w3, w4, w5, w6, w7) (ap decoded (eight x).1 ∙ decoded-encoded x h)

pub slot-around : {m n : List ℕ} {p k : ℕ} → SameBut m n p k → (q : ℕ) → (q < p) ⊎ (p + k ≤ q) → slot_at n q ≡ slot_at m q
slot-around s q h =
    let w = λ (j : ℕ). word-around s q j h in
    let w0 = w 0 in
    let w1 = w 1 in
    let w2 = w 2 in
    let w3 = w 3 in
    let w4 = w 4 in
    let w5 = w 5 in
    let w6 = w 6 in
    let w7 = w 7 in
    simp (w0, w1, w2, w3, w4, w5, w6, w7)

pub cell-around : {m n : List ℕ} {p k : ℕ} → SameBut m n p k → (q : ℕ) → (q < p) ⊎ (p + k ≤ q) → cell n q ≡ cell m q
cell-around s q h =
    let w = λ (j : ℕ). word-around s q j h in
    let w8 = w 8 in
    let w9 = w 9 in
    let w10 = w 10 in
    let w11 = w 11 in
    simp (w8, w9, w10, w11)

outside : (q p : ℕ) → q ≢ p → (q < p) ⊎ (p + 1 ≤ q)
outside q p n = elim (cases_lt q p) [ inl h ↦ inl h | inr h ↦ inr (omega arith) ]

-- as functions of the place
pub slots-put_slot : (m : List ℕ) (p : ℕ) (x : Option Capability) → there m p ≡ true → InRange x → slot_at (put_slot m p x) ≡ upd (slot_at m) p x
slots-put_slot m p x t h = fun_ext (λ q. elim (cases_eq q p) [
  | inl e ↦ rw (e, eq-eqb p p refl) (slot-put_same m p x t h)
  | inr n ↦ rw (ne_eqb q p n) (slot-around (around-put_words m p 0 (encoded x)) q (outside q p n))
])

pub cells-put_slot : (m : List ℕ) (p : ℕ) (x : Option Capability) → cell (put_slot m p x) ≡ cell m
cells-put_slot m p x = fun_ext (λ q. elim (cases_eq q p) [
  | inl e ↦ rw e here
  | inr n ↦ cell-around (around-put_words m p 0 (encoded x)) q (outside q p n)
])
  where
    here : cell (put_slot m p x) p ≡ cell m p
    here =
        let e : length (encoded x) ≡ 8 = (eight x).0 in
        let w : (j : ℕ) → 8 ≤ j → word (put_slot m p x) p j ≡ word m p j = λ j h. word-put_words_other m p 0 (encoded x) j (inr (omega arith)) in
        let w8 = w 8 (lit≤ tt) in
        let w9 = w 9 (lit≤ tt) in
        let w10 = w 10 (lit≤ tt) in
        let w11 = w 11 (lit≤ tt) in
        simp (w8, w9, w10, w11)

-- a word behind the content
pub slots-put_word : (m : List ℕ) (p k v : ℕ) → 8 ≤ k → slot_at (put_word m p k v) ≡ slot_at m
slots-put_word m p k v h = fun_ext (λ q. elim (cases_eq q p) [
  | inl e ↦ rw e here
  | inr n ↦ slot-around (around-put_word m p k v) q (outside q p n)
])
  where
    here : slot_at (put_word m p k v) p ≡ slot_at m p
    here =
        let w : (j : ℕ) → j < 8 → word (put_word m p k v) p j ≡ word m p j = λ j l. word-put_other m p k v j (omega arith) in
        let w0 = w 0 (lit< tt) in
        let w1 = w 1 (lit< tt) in
        let w2 = w 2 (lit< tt) in
        let w3 = w 3 (lit< tt) in
        let w4 = w 4 (lit< tt) in
        let w5 = w 5 (lit< tt) in
        let w6 = w 6 (lit< tt) in
        let w7 = w 7 (lit< tt) in
        simp (w0, w1, w2, w3, w4, w5, w6, w7)

-- each word after a write of one
pub word-put_word : (m : List ℕ) (p k v : ℕ) → there m p ≡ true → k < 16 → (q j : ℕ) → word (put_word m p k v) q j ≡ pick (eqb j k && eqb q p) v (word m q j)
word-put_word m p k v t l q j =
    elim (cases_eq q p) [
      | inl e ↦ elim (cases_eq j k) [
        | inl d ↦ rw (e, d, eq-eqb k k refl, eq-eqb p p refl) (word-put_same m p k v t l)
        | inr n ↦ rw (e, ne_eqb j k n) (word-put_other m p k v j n)
      ]
      | inr n ↦ elim (cases_eq j k) [
        | inl d ↦ rw (d, eq-eqb k k refl, ne_eqb q p n) (word-around (around-put_word m p k v) q k (outside q p n))
        | inr d ↦ rw (ne_eqb j k d) (word-around (around-put_word m p k v) q j (outside q p n))
      ]
    ]

-- so each link, since the numbers of two words compare by computation
linked : (m : List ℕ) (p k v : ℕ) → there m p ≡ true → k < 16 → (q : ℕ) →
    cell (put_word m p k v) q ≡ record {
      next = pick (eqb 9 k && eqb q p) v (cell m q).next;
      prev = pick (eqb 10 k && eqb q p) v (cell m q).prev;
      depth = pick (eqb 8 k && eqb q p) v (cell m q).depth;
      up = pick (eqb 11 k && eqb q p) v (cell m q).up;
    }
linked m p k v t l q =
    let w = word-put_word m p k v t l q in
    let w8 = w 8 in
    let w9 = w 9 in
    let w10 = w 10 in
    let w11 = w 11 in
    simp (w8, w9, w10, w11)

pub cells-put_depth : (m : List ℕ) (p v : ℕ) → there m p ≡ true → cell (put_depth m p v) ≡ set_depth (cell m) p v
cells-put_depth m p v t = fun_ext (linked m p 8 v t (lit< tt))

pub cells-put_next : (m : List ℕ) (p v : ℕ) → there m p ≡ true → cell (put_next m p v) ≡ set_next (cell m) p v
cells-put_next m p v t = fun_ext (linked m p 9 v t (lit< tt))

pub cells-put_prev : (m : List ℕ) (p v : ℕ) → there m p ≡ true → cell (put_prev m p v) ≡ set_prev (cell m) p v
cells-put_prev m p v t = fun_ext (linked m p 10 v t (lit< tt))

pub cells-put_up : (m : List ℕ) (p v : ℕ) → there m p ≡ true → cell (put_up m p v) ≡ set_up (cell m) p v
cells-put_up m p v t = fun_ext (linked m p 11 v t (lit< tt))

-- where there is no unit
pub put_word_nothing : (m : List ℕ) (p k v : ℕ) → there m p ≡ false → put_word m p k v ≡ m
unfolding put_word
put_word_nothing m p k v t = rw t refl

put_words_nothing : (m : List ℕ) (p k : ℕ) (ws : List ℕ) → there m p ≡ false → put_words m p k ws ≡ m
unfolding put_words
put_words_nothing m p k [] t = refl
put_words_nothing m p k (w ∷ ws) t = rw (put_word_nothing m p k w t) (put_words_nothing m p (k + 1) ws t)

pub put_slot_nothing : (m : List ℕ) (p : ℕ) (x : Option Capability) → there m p ≡ false → put_slot m p x ≡ m
put_slot_nothing m p x t = put_words_nothing m p 0 (encoded x) t

word-nothing : (m : List ℕ) (p k : ℕ) → there m p ≡ false → word m p k ≡ 0
unfolding word
word-nothing m p k t = rw t refl

pub slot-nothing : (m : List ℕ) (p : ℕ) → there m p ≡ false → slot_at m p ≡ None
slot-nothing m p t = let w0 = word-nothing m p 0 t in rw w0 refl

pub cell-nothing : (m : List ℕ) (p : ℕ) → there m p ≡ false → cell m p ≡ no_links
cell-nothing m p t =
    let w8 = word-nothing m p 8 t in
    let w9 = word-nothing m p 9 t in
    let w10 = word-nothing m p 10 t in
    let w11 = word-nothing m p 11 t in
    simp (w8, w9, w10, w11)
