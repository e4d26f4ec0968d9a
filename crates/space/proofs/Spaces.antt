-- A write through two levels of page tables is a write of one page of the space.
use Rattle.std.proofs.Common.{◌≡◌, ℕ, ◌+◌, ◌*◌, ◌/◌, ◌%◌, ◌^◌, ◌<◌, ◌≤◌, ◌≢◌, ◌⊎◌, Bool, true, false, cond, not, List, [], length, set, get_or, Some, None, Option, inl, inr, eqb, refl, sym, ap, subst, lit<, ◌∙◌, arith}
use Rattle.std.proofs.Math.Path.{fun_ext}
use Rattle.std.proofs.lemmas.Bool.{cond_both, cond-true, cond-false, cases_lt, cases_eq, and_from, and_left, and_right, eq-eqb, ne_eqb, lt-ltb, le-ltb}
use Rattle.std.proofs.lemmas.List.{get_or-set_same, get_or-set_other, get_or_past, get_or-replicate, length-set, length-map}
use Rattle.std.proofs.lemmas.List.Elements.{All-map}
use Rattle.std.proofs.lemmas.Nat.Bits.{and_pow}
use Rattle.std.proofs.lemmas.Nat.{pow_pos}
use Rattle.std.proofs.Math.ListN.{get_or-map}
use Rattle.std.specs.Int.{bit_at}
use Rattle.rights.specs.Vocabulary.{has}
use Rattle.board.specs.Slots.{upd}
use Rattle.space.specs.declared.entries.Entry.{Entry}
use Rattle.space.specs.declared.entries.Mapping.{Mapping}
use Rattle.space.specs.declared.tables.PageTables.{PageTables}
use Rattle.space.specs.Entries as entries
use Rattle.space.specs.Tables as tables
use Rattle.space.specs.Tables.{look_up}
use Rattle.space.specs.declared.side.Thread.{Thread}
use Rattle.space.specs.Side.{without_range}
use Rattle.space.specs.Laws.{Shaped, without, IsOutside, EntriesReadBack, NewIsFree, UnusedIsFree, Maps, Unmaps, RangeLeaves, NothingBeyond, StaysShaped, RangeLeavesAll}

mapping_choice : (b : Bool) (x y : Entry) → entries.mapping (cond b x y) ≡ cond b (entries.mapping x) (entries.mapping y)
mapping_choice true x y = refl
mapping_choice false x y = refl

module _ (t : PageTables) (s : Shaped t) (a : ℕ) (e : Entry) (h : a < 64) where
  written : PageTables
  written = record {
    root = set t.root (a / 8) entries.used;
    leaves = set t.leaves (a / 8) (set (tables.leaf t (a / 8)) (a % 8) e);
  }

  put_is : tables.put t a e ≡ written
  unfolding written
  put_is = cond-true _ _ _ (lt-ltb (a / 8) 8 (omega arith))

  leaf_same : tables.leaf written (a / 8) ≡ set (tables.leaf t (a / 8)) (a % 8) e
  unfolding written
  leaf_same =
      let r : a / 8 < length t.root = let i = s.root in omega arith in
      let l : a / 8 < length t.leaves = let i = s.leaves in omega arith in
      rw (get_or-set_same t.root (a / 8) entries.used entries.free r, get_or-set_same t.leaves (a / 8) (set (tables.leaf t (a / 8)) (a % 8) e) [] l) refl

  leaf_other : (i : ℕ) → i ≢ a / 8 → tables.leaf written i ≡ tables.leaf t i
  unfolding written
  leaf_other i n = rw (get_or-set_other t.root (a / 8) i entries.used entries.free n, get_or-set_other t.leaves (a / 8) i (set (tables.leaf t (a / 8)) (a % 8) e) [] n) refl

  leaf_long : length (tables.leaf t (a / 8)) ≡ 8
  leaf_long =
      cond_both (entries.is_valid (get_or t.root (a / 8) entries.free)) (get_or t.leaves (a / 8) []) tables.free_leaf (λ l. length l ≡ 8)
      (λ v. s.leaf (a / 8) (omega arith)) (λ v. refl)

  entry_put : (b : ℕ) → tables.entry (tables.put t a e) b ≡ cond (eqb b a) e (tables.entry t b)
  entry_put b =
      ap (λ u. tables.entry u b) put_is ∙ elim (cases_eq (b / 8) (a / 8)) [
        | inl i ↦ ap (λ j. get_or (tables.leaf written j) (b % 8) entries.free) i ∙ ap (λ l. get_or l (b % 8) entries.free) leaf_same ∙ elim (cases_eq b a) [
          | inl j ↦ rw (eq-eqb b a j, j) (get_or-set_same (tables.leaf t (a / 8)) (a % 8) e entries.free (let k = leaf_long in omega arith))
          | inr n ↦ let m : b % 8 ≢ a % 8 = λ y. n (omega arith) in
              get_or-set_other (tables.leaf t (a / 8)) (a % 8) (b % 8) e entries.free m ∙ ap (λ j. get_or (tables.leaf t j) (b % 8) entries.free) (sym i)
              ∙ sym (cond-false (eqb b a) e (tables.entry t b) (ne_eqb b a n))
        ]
        | inr n ↦ let m : b ≢ a = λ y. n (ap (λ x. x / 8) y) in
            ap (λ l. get_or l (b % 8) entries.free) (leaf_other (b / 8) n) ∙ sym (cond-false (eqb b a) e (tables.entry t b) (ne_eqb b a m))
      ]

  look_up_put : look_up (tables.put t a e) ≡ upd (look_up t) a (entries.mapping e)
  look_up_put = fun_ext (λ b. ap entries.mapping (entry_put b) ∙ mapping_choice (eqb b a) e (tables.entry t b))

  shaped_put : Shaped (tables.put t a e)
  unfolding written
  shaped_put = subst Shaped (sym put_is) (record {
    root = length-set t.root (a / 8) entries.used ∙ s.root;
    leaves = length-set t.leaves (a / 8) (set (tables.leaf t (a / 8)) (a % 8) e) ∙ s.leaves;
    leaf = λ i j. elim (cases_eq i (a / 8)) [
      | inl k ↦ rw k (ap length (get_or-set_same t.leaves (a / 8) (set (tables.leaf t (a / 8)) (a % 8) e) [] (let l = s.leaves in omega arith))
          ∙ length-set (tables.leaf t (a / 8)) (a % 8) e ∙ leaf_long)
      | inr n ↦ ap length (get_or-set_other t.leaves (a / 8) i (set (tables.leaf t (a / 8)) (a % 8) e) [] n) ∙ s.leaf i j
    ];
  })

-- a bit by its place
has_bit : (n k : ℕ) → bit_at n k ≡ 1 → has n (2 ^ k) ≡ true
has_bit n k e = rw (and_pow n k, e) (ap not (ne_eqb (1 * 2 ^ k) 0 (λ z. let p = pow_pos k in omega arith)))

no_bit : (n k : ℕ) → bit_at n k ≡ 0 → has n (2 ^ k) ≡ false
no_bit n k e = rw (and_pow n k, e) (ap not (eq-eqb (0 * 2 ^ k) 0 (omega arith)))

-- the word for a page of frame f, by whether it may be written
word_writes : (f : ℕ) (w : Bool) → has (f * 2 ^ 10 + cond w 7 3) 4 ≡ w
word_writes f true = has_bit (f * 2 ^ 10 + 7) 2 (omega arith)
word_writes f false = no_bit (f * 2 ^ 10 + 3) 2 (omega arith)

bits_few : (w : Bool) → cond w 7 3 < 8
bits_few true = lit< tt
bits_few false = lit< tt

bits_low : (w : Bool) → cond w 7 3 % 4 ≡ 3
bits_low true = refl
bits_low false = refl

module _ (p : ℕ) (w : Bool) (first_unit : p % 64 ≡ 1) (few : p < 2 ^ 28) where
  h : entries.is_page_place p ≡ true
  h = and_from _ _ (eq-eqb (p % 64) 1 first_unit) (lt-ltb p (2 ^ 28) few)

  pub entry_is : entries.entry_of p w ≡ Some (record { word = entries.entry_word p w })
  entry_is = cond-true _ _ _ h

  valid : has (entries.entry_word p w) 1 ≡ true
  valid = let l = bits_low w in has_bit (entries.entry_word p w) 0 (omega arith)

  reads : has (entries.entry_word p w) 2 ≡ true
  reads = let l = bits_low w in has_bit (entries.entry_word p w) 1 (omega arith)

  placed : entries.entry_word p w / 2 ^ 10 * 64 + 1 ≡ p
  placed = let l = bits_few w in omega arith

  fits : entries.entry_word p w < 2 ^ 32
  fits = let l = bits_few w in omega arith

  pub mapping_is : entries.mapping (record { word = entries.entry_word p w }) ≡ Some (record { place = p; writes = w })
  mapping_is = cond-true _ _ _ valid ∙ rw (placed, word_writes (p / 64) w) refl

  pub reads_back : (entries.entry_word p w < 2 ^ 32) × (has (entries.entry_word p w) 2 ≡ true) × (entries.mapping (record { word = entries.entry_word p w }) ≡ Some (record { place = p; writes = w }))
  reads_back = (fits, reads, mapping_is)

pub entries_read_back : EntriesReadBack
entries_read_back p w h g = reads_back p w h g

-- A NEW SPACE, MAP AND UNMAP
free_leaf_at : (i : ℕ) → get_or tables.free_leaf i entries.free ≡ entries.free
free_leaf_at i = elim (cases_lt i 8) [
  | inl h ↦ get_or-replicate 8 i entries.free entries.free h
  | inr h ↦ get_or_past tables.free_leaf i entries.free h
]

-- a leaf that was not used
pub unused_is_free : UnusedIsFree
unused_is_free t a h =
    ap entries.mapping (ap (λ l. get_or l (a % 8) entries.free) (cond-false _ (get_or t.leaves (a / 8) []) tables.free_leaf h) ∙ free_leaf_at (a % 8))

pub new_is_free : NewIsFree
new_is_free a = unused_is_free tables.fresh a (ap entries.is_valid (free_leaf_at (a / 8)))

pub maps : Maps
maps t s a p w h q g =
    ap (λ o. look_up (tables.put_if t a o)) (entry_is p w q g)
    ∙ (look_up_put t s a (record { word = entries.entry_word p w }) h ∙ ap (upd (look_up t) a) (mapping_is p w q g))

pub unmaps : Unmaps
unmaps t s a h = look_up_put t s a entries.free h

put_beyond : (t : PageTables) (a : ℕ) (e : Entry) → 64 ≤ a → tables.put t a e ≡ t
put_beyond t a e h = cond-false _ _ _ (le-ltb (a / 8) 8 (omega arith))

put_if_beyond : (t : PageTables) (a : ℕ) (o : Option Entry) → 64 ≤ a → tables.put_if t a o ≡ t
put_if_beyond t a None h = refl
put_if_beyond t a (Some e) h = put_beyond t a e h

no_place : (p : ℕ) → (p % 64 ≢ 1) ⊎ (2 ^ 28 ≤ p) → entries.is_page_place p ≡ false
no_place p (inl n) = and_left _ _ (ne_eqb (p % 64) 1 n)
no_place p (inr h) = and_right _ _ (le-ltb p (2 ^ 28) h)

pub nothing_beyond : NothingBeyond
nothing_beyond t a p w = (
  λ s h. unused_is_free t a (ap entries.is_valid (get_or_past t.root (a / 8) entries.free (let l = s.root in omega arith))),
  λ h. put_if_beyond t a (entries.entry_of p w) h,
  λ h. ap (tables.put_if t a) (cond-false _ _ _ (no_place p h)),
  λ h. put_beyond t a entries.free h,
)

-- A RANGE LEAVES
outside_free : (from n : ℕ) → entries.outside from n entries.free ≡ entries.free
outside_free from n = cond_both (entries.among from n (entries.place entries.free)) entries.free entries.free (λ e. e ≡ entries.free) (λ h. refl) (λ h. refl)

-- a leaf, used or not, entry by entry
freed_at : (v : Bool) (from n : ℕ) (l : List Entry) (i : ℕ) →
    get_or (cond v (tables.freed from n l) tables.free_leaf) i entries.free ≡ entries.outside from n (get_or (cond v l tables.free_leaf) i entries.free)
freed_at true from n l i =
    ap (get_or (tables.freed from n l) i) (sym (outside_free from n)) ∙ get_or-map (entries.outside from n) l i entries.free
freed_at false from n l i = free_leaf_at i ∙ (sym (outside_free from n) ∙ ap (entries.outside from n) (sym (free_leaf_at i)))

entry_range : (from n : ℕ) (t : PageTables) (a : ℕ) → tables.entry (tables.unmap_range from n t) a ≡ entries.outside from n (tables.entry t a)
entry_range from n t a =
    let v = entries.is_valid (get_or t.root (a / 8) entries.free) in
    ap (λ l. get_or (cond v l tables.free_leaf) (a % 8) entries.free) (get_or-map (tables.freed from n) t.leaves (a / 8) [])
    ∙ freed_at v from n (get_or t.leaves (a / 8) []) (a % 8)

mapping_without : (c v : Bool) (e : Entry) (x : Mapping) → entries.is_valid e ≡ v →
    entries.mapping (cond c entries.free e) ≡ cond v (cond c None (Some (record { place = entries.place e; writes = entries.writes e }))) None
mapping_without true true e x h = refl
mapping_without true false e x h = refl
mapping_without false v e x h = ap (λ b. cond b (Some (record { place = entries.place e; writes = entries.writes e })) None) h

without_choice : (from n : ℕ) (v : Bool) (x : Mapping) → without from n (cond v (Some x) None) ≡ cond v (cond (entries.among from n x.place) None (Some x)) None
without_choice from n true x = refl
without_choice from n false x = refl

pub range_leaves : RangeLeaves
range_leaves from n t = fun_ext (λ a.
    let e = tables.entry t a in
    ap entries.mapping (entry_range from n t a)
    ∙ (mapping_without (entries.among from n (entries.place e)) (entries.is_valid e) e (record { place = 0; writes = false }) refl
    ∙ sym (without_choice from n (entries.is_valid e) (record { place = entries.place e; writes = entries.writes e }))))

without_twice : (from n : ℕ) (o : Option Mapping) → IsOutside from n (without from n o)
without_twice from n None = refl
without_twice from n (Some x) =
    cond_both (entries.among from n x.place) None (Some x) (IsOutside from n) (λ h. refl) (λ h. cond-false _ None (Some x) h)

outside_now : (from n : ℕ) (t : PageTables) (a : ℕ) → IsOutside from n (look_up (tables.unmap_range from n t) a)
outside_now from n t a = subst (IsOutside from n) (sym (ap (λ f. f a) (range_leaves from n t))) (without_twice from n (look_up t a))

pub range_leaves_all : RangeLeavesAll
range_leaves_all from n ts = (
  All-map (λ (t : Thread). (a : ℕ) → IsOutside from n (look_up t.pages a)) (without_range from n) ts (λ i d l a.
      outside_now from n (get_or ts i d).pages a),
  λ t. refl,
)

-- THE SHAPE
pub shaped_fresh : Shaped tables.fresh
shaped_fresh = record {
  root = refl;
  leaves = refl;
  leaf = λ i h. ap length (get_or-replicate 8 i tables.free_leaf [] h);
}

shaped_any : (t : PageTables) → Shaped t → (a : ℕ) (e : Entry) → Shaped (tables.put t a e)
shaped_any t s a e = elim (cases_lt a 64) [
  | inl h ↦ shaped_put t s a e h
  | inr h ↦ subst Shaped (sym (put_beyond t a e h)) s
]

shaped_if : (t : PageTables) → Shaped t → (a : ℕ) (o : Option Entry) → Shaped (tables.put_if t a o)
shaped_if t s a None = s
shaped_if t s a (Some e) = shaped_any t s a e

pub stays_shaped : StaysShaped
stays_shaped = (
  shaped_fresh,
  λ t s a p w. shaped_if t s a (entries.entry_of p w),
  λ t s a. shaped_any t s a entries.free,
  λ from n t s. record {
    root = s.root;
    leaves = length-map t.leaves (tables.freed from n) ∙ s.leaves;
    leaf = λ i h. ap length (get_or-map (tables.freed from n) t.leaves i []) ∙ (length-map (get_or t.leaves i []) (entries.outside from n) ∙ s.leaf i h);
  },
)
