-- What a thread sees and stores through its space is what it does in the world.
use Rattle.std.proofs.Common.{lit<, ◌≡◌, ◌≢◌, ℕ, zero, suc, ◌+◌, ◌-◌, ◌/◌, ◌%◌, ◌<◌, ◌≤◌, inl, inr, Bool, true, false, cond, not, ◌&&◌, List, [], ◌∷◌, length, nat_le, eqb, get_or, set, replicate, Some, None, Option, is_some, MatchOption, IsSomeAnd, IfSome, sym, refl, ap, subst, ◌∙◌, arith}
use Rattle.std.proofs.lemmas.Bool.{cases_Bool, cases_lt, cases_eq, cond_both, cond-true, cond-false, eq-eqb, ne_eqb, lt-ltb, le-ltb, leb-true, le-leb, and_parts, and_from, and_left}
use Rattle.std.proofs.lemmas.List.{get_or_past, get_or-set_same, get_or-set_other, get_or-replicate, length-set}
use Rattle.rights.specs.World as world
use Rattle.rights.specs.World.{World, pick, over, drop}
use Rattle.rv32.specs.Execute.{act}
use Rattle.rv32.specs.Registers.{fresh}
use Rattle.rv32.specs.declared.registers.Cpu.{Cpu}
use Rattle.board.specs.Around.{SameBut}
use Rattle.board.specs.Parts.{within, page_at, store}
use Rattle.board.specs.Slots.{upd}
use Rattle.board.proofs.Spans.{length-page, page-around, around-store, page-store, store_nothing}
use Rattle.space.specs.declared.entries.Mapping.{Mapping}
use Rattle.space.specs.declared.tables.PageTables.{PageTables}
use Rattle.space.specs.Tables as tables
use Rattle.space.specs.Tables.{look_up}
use Rattle.space.specs.Bytes.{store_place, stored, page_of, byte_in, place_to, put_to}
use Rattle.space.specs.Laws.{Shaped, one_page, one_object, CanBeShown, SameOrApart, StoresGoOnShowing, in_range, without, RangeLeavesInWorld, IsShown, Shows, SeenAsInWorld, StoresAsInWorld, StoresInOnePage, GoesOnShowing}
use Rattle.space.proofs.Spaces.{shaped_fresh, range_leaves, maps, unmaps, new_is_free, nothing_beyond}

-- SEEN
seen_by : (m : List ℕ) (w : World Cpu) (o : ℕ) (r : Option Mapping) (k : ℕ) → k < 4096 → IsShown m w o r →
    pick (eqb o 0) 256 (get_or (world.bytes_of Cpu fresh act (world.object Cpu fresh act w (o - 1))) k 0) ≡ byte_in (page_of m r) k
seen_by m w o None k h s = rw (eq-eqb o 0 s) (sym (cond-false _ _ _ (le-ltb k 0 (omega arith))))
seen_by m w o (Some x) k h s = rw (ne_eqb o 0 s.0, s.2) (sym (cond-true _ _ _ (lt-ltb k (length (page_at m x.place)) (let l = s.1 in omega arith))))

-- what is shown at any place, also past the end
shown_at : (m : List ℕ) (t : PageTables) → Shaped t → (w : World Cpu) (ps : List ℕ) (rs : List Bool) → Shows m t w ps rs → (a : ℕ) → IsShown m w (get_or ps a 0) (look_up t a)
shown_at m t s w ps rs h a = elim (cases_lt a 64) [
  | inl l ↦ h.shown a l
  | inr l ↦ subst (IsShown m w (get_or ps a 0)) (sym ((nothing_beyond t a 0 false).0 s l)) (get_or_past ps a 0 (let e = h.pages in omega arith))
]

pub seen_as_in_world : SeenAsInWorld
unfolding world.seen
seen_as_in_world m t s w ps rs h a =
    seen_by m w (get_or ps (a / 4096) 0) (look_up t (a / 4096)) (a % 4096) (omega arith) (shown_at m t s w ps rs h (a / 4096))

-- STORED
written_at : (m : List ℕ) (t : PageTables) → Shaped t → (w : World Cpu) (ps : List ℕ) (rs : List Bool) → Shows m t w ps rs → (a : ℕ) →
    IfSome (look_up t a) (λ x. get_or rs a false ≡ x.writes)
written_at m t s w ps rs h a = elim (cases_lt a 64) [
  | inl l ↦ h.written a l
  | inr l ↦ subst (λ (o : Option Mapping). IfSome o (λ x. get_or rs a false ≡ x.writes)) (sym ((nothing_beyond t a 0 false).0 s l)) tt
]

some_if : (y : Bool) (p : ℕ) → y ≡ is_some (cond y (Some p) None)
some_if true p = refl
some_if false p = refl

may_by : (m : List ℕ) (w : World Cpu) (o : ℕ) (b : Bool) (r : Option Mapping) (k n : ℕ) → IsShown m w o r → IfSome r (λ x. b ≡ x.writes) →
    not (eqb o 0) && (b && nat_le (k + n) 4096) ≡ is_some (place_to m r k n)
may_by m w o b None k n s e = rw (eq-eqb o 0 s) refl
may_by m w o b (Some x) k n s e = rw (ne_eqb o 0 s.0, e, s.1) (some_if (x.writes && nat_le (k + n) 4096) x.place)

pub stores_as_in_world : StoresAsInWorld
unfolding world.may_store
stores_as_in_world m t s w ps rs h a bs =
    may_by m w (get_or ps (a / 4096) 0) (get_or rs (a / 4096) false) (look_up t (a / 4096)) (a % 4096) (length bs)
    (shown_at m t s w ps rs h (a / 4096)) (written_at m t s w ps rs h (a / 4096))

nothing_over : (k : ℕ) (bs : List ℕ) → k + length bs ≤ 0 → [] ≡ over [] k bs
unfolding over drop
nothing_over zero [] h = refl
nothing_over zero (b ∷ bs) h = absurd (omega arith)
nothing_over (suc k) bs h = absurd (omega arith)

-- a store into the page at a place, where the bytes lie inside it
module _ (m : List ℕ) (p k : ℕ) (bs : List ℕ) (h : k + length bs ≤ length (page_at m p)) where
  page_stored : page_at (store m p k bs) p ≡ over (page_at m p) k bs
  unfolding page_at
  page_stored = elim (cases_Bool (within m p 64)) [
    | inl w ↦ let l = length-page m p w in page-store m p k bs (and_from _ _ w (le-leb (k + length bs) 4096 (omega arith)))
    | inr w ↦
        let none : page_at m p ≡ [] = cond-false _ _ _ w in
        let l : length (page_at m p) ≡ 0 = ap length none in
        ap (λ n. page_at n p) (store_nothing m p k bs (and_left _ _ w))
        ∙ (none ∙ (nothing_over k bs (omega arith) ∙ ap (λ xs. over xs k bs) (sym none)))
  ]

stored_by : (m : List ℕ) (o : Option Mapping) (k : ℕ) (bs : List ℕ) →
    MatchOption (place_to m o k (length bs)) (put_to m (place_to m o k (length bs)) k bs ≡ m)
    (λ p. IsSomeAnd o (λ x. (x.place ≡ p) × (x.writes ≡ true))
    × SameBut m (put_to m (place_to m o k (length bs)) k bs) p 64
    × (page_at (put_to m (place_to m o k (length bs)) k bs) p ≡ over (page_at m p) k bs))
stored_by m None k bs = refl
stored_by m (Some x) k bs =
    cond_both (x.writes && nat_le (k + length bs) (length (page_at m x.place))) (Some x.place) None
    (λ (q : Option ℕ). MatchOption q (put_to m q k bs ≡ m)
    (λ p. ((x.place ≡ p) × (x.writes ≡ true)) × SameBut m (put_to m q k bs) p 64 × (page_at (put_to m q k bs) p ≡ over (page_at m p) k bs)))
    (λ t. let b = and_parts _ _ t in ((refl, b.0), around-store m x.place k bs, page_stored m x.place k bs (leb-true _ _ b.1)))
    (λ t. refl)

pub stores_in_one_page : StoresInOnePage
stores_in_one_page m t a bs = stored_by m (look_up t (a / 4096)) (a % 4096) bs

-- MAP AND UNMAP
new_shows : (m : List ℕ) (w : World Cpu) → Shows m tables.fresh w (replicate 64 0) (replicate 64 false)
new_shows m w = record {
  pages = refl;
  marks = refl;
  shown = λ a h. subst (IsShown m w (get_or (replicate 64 0) a 0)) (sym (new_is_free a)) (get_or-replicate {A = ℕ} 64 a 0 0 h);
  written = λ a h. subst (λ (o : Option Mapping). IfSome o (λ x. get_or (replicate 64 false) a false ≡ x.writes)) (sym (new_is_free a)) tt;
}

-- one place of a space changed, and of the world's lists
module _ (m : List ℕ) (t u : PageTables) (w : World Cpu) (ps : List ℕ) (rs : List Bool) (h : Shows m t w ps rs)
    (a o : ℕ) (r : Bool) (x : Option Mapping) (l : a < 64) (e : look_up u ≡ upd (look_up t) a x) (s : IsShown m w o x) (v : IfSome x (λ y. r ≡ y.writes)) where
  here : (b : ℕ) → b ≡ a → look_up u b ≡ x
  here b i = ap (λ f. f b) e ∙ rw (eq-eqb b a i) refl

  there : (b : ℕ) → b ≢ a → look_up u b ≡ look_up t b
  there b n = ap (λ f. f b) e ∙ rw (ne_eqb b a n) refl

  shows : Shows m u w (set ps a o) (set rs a r)
  shows = record {
    pages = length-set ps a o ∙ h.pages;
    marks = length-set rs a r ∙ h.marks;
    shown = λ b k. elim (cases_eq b a) [
      | inl i ↦ rw (here b i, i, get_or-set_same ps a o 0 (let j = h.pages in omega arith)) s
      | inr n ↦ rw (there b n, get_or-set_other ps a b o 0 n) (h.shown b k)
    ];
    written = λ b k. elim (cases_eq b a) [
      | inl i ↦ rw (here b i, i, get_or-set_same rs a r false (let j = h.marks in omega arith)) v
      | inr n ↦ rw (there b n, get_or-set_other rs a b r false n) (h.written b k)
    ];
  }

-- what is gone
length_unmapped : (os ps : List ℕ) → length (world.unmapped Cpu fresh act os ps) ≡ length ps
unfolding world.unmapped
length_unmapped os [] = refl
length_unmapped os (p ∷ ps) = ap suc (length_unmapped os ps)

unmapped_at : (os ps : List ℕ) (a : ℕ) → get_or (world.unmapped Cpu fresh act os ps) a 0 ≡ pick (not (eqb (get_or ps a 0) 0) && world.among (get_or ps a 0 - 1) os) 0 (get_or ps a 0)
unfolding world.unmapped
unmapped_at os [] a = refl
unmapped_at os (p ∷ ps) zero = refl
unmapped_at os (p ∷ ps) (suc a) = unmapped_at os ps a

shown_or : (m : List ℕ) (w : World Cpu) (o : ℕ) (b : Bool) (x : Mapping) → IsShown m w o (Some x) → IsShown m w (pick (true && b) 0 o) (cond b None (Some x))
shown_or m w o true x s = refl
shown_or m w o false x s = s

shown_without : (m : List ℕ) (w : World Cpu) (o from n : ℕ) (os : List ℕ) (x : Option Mapping) → IsShown m w o x →
    IfSome x (λ y. in_range from n y.place ≡ world.among (o - 1) os) → IsShown m w (pick (not (eqb o 0) && world.among (o - 1) os) 0 o) (without from n x)
shown_without m w o from n os None s g = rw s refl
shown_without m w o from n os (Some x) s g = rw (ne_eqb o 0 s.0, g) (shown_or m w o (world.among (o - 1) os) x s)

written_without : (from n : ℕ) (b : Bool) (x : Option Mapping) → IfSome x (λ y. b ≡ y.writes) → IfSome (without from n x) (λ y. b ≡ y.writes)
written_without from n b None g = tt
written_without from n b (Some x) g = cond_both (in_range from n x.place) None (Some x) (λ (z : Option Mapping). IfSome z (λ y. b ≡ y.writes)) (λ h. tt) (λ h. g)

pub range_leaves_in_world : RangeLeavesInWorld
range_leaves_in_world m t w ps rs h from n os g = record {
  pages = length_unmapped os ps ∙ h.pages;
  marks = h.marks;
  shown = λ a l. rw (ap (λ f. f a) (range_leaves from n t), unmapped_at os ps a) (shown_without m w (get_or ps a 0) from n os (look_up t a) (h.shown a l) (g a l));
  written = λ a l. rw (ap (λ f. f a) (range_leaves from n t)) (written_without from n (get_or rs a false) (look_up t a) (h.written a l));
}

pub goes_on_showing : GoesOnShowing
goes_on_showing = (
  new_shows,
  λ m t s w ps rs h a p o r l q f i. shows m t (tables.map_page t a p r) w ps rs h a (suc o) r (Some (record { place = p; writes = r })) l (maps t s a p r l q f) i refl,
  λ m t s w ps rs h a l. shows m t (tables.unmap t a) w ps rs h a 0 false None l (unmaps t s a l) refl tt,
)

-- A STORE, IN ALL SPACES
long_as : (m n : List ℕ) (q : ℕ) → length n ≡ length m → length (page_at m q) ≡ 4096 → length (page_at n q) ≡ 4096
unfolding page_at
long_as m n q e l = elim (cases_Bool (within m q 64)) [
  | inl t ↦ length-page n q (rw e t)
  | inr t ↦
      let none : length (page_at m q) ≡ 0 = ap length (cond-false (within m q 64) _ [] t) in
      absurd (omega arith)
]

-- an object whose bytes are a page's is in the world
module _ (w : World Cpu) (o : ℕ) (bs : List ℕ) (h : length (world.bytes_of Cpu fresh act (world.object Cpu fresh act w o)) ≡ 4096) where
  alive : o < length w.objects
  unfolding world.object world.bytes_of
  alive = elim (cases_lt o (length w.objects)) [
    | inl l ↦ l
    | inr l ↦
        let none : length (world.bytes_of Cpu fresh act (world.object Cpu fresh act w o)) ≡ 0 = ap (λ x. length (world.bytes_of Cpu fresh act x)) (get_or_past w.objects o world.gone l) in
        absurd (omega arith)
  ]

  put_same : (x : world.Object Cpu) → world.object Cpu fresh act (world.with_object Cpu fresh act w o x) o ≡ x
  unfolding world.object world.with_object
  put_same x = get_or-set_same w.objects o x world.gone alive

  put_other : (x : world.Object Cpu) (n : ℕ) → n ≢ o → world.object Cpu fresh act (world.with_object Cpu fresh act w o x) n ≡ world.object Cpu fresh act w n
  unfolding world.object world.with_object
  put_other x n d = get_or-set_other w.objects o n x world.gone d

-- the page at place p, object o - 1, with bytes written over from byte k on
module _ (m n : List ℕ) (w : World Cpu) (o p k f : ℕ) (bs : List ℕ) (c : SameBut m n p 64) (g : page_at n p ≡ over (page_at m p) k bs)
    (z : o ≢ 0) (l : length (page_at m p) ≡ 4096) (e : world.bytes_of Cpu fresh act (world.object Cpu fresh act w (o - 1)) ≡ page_at m p) where
  after : World Cpu
  after = world.with_object Cpu fresh act w (o - 1) (world.page f (over (world.bytes_of Cpu fresh act (world.object Cpu fresh act w (o - 1))) k bs))

  long : length (world.bytes_of Cpu fresh act (world.object Cpu fresh act w (o - 1))) ≡ 4096
  long = ap length e ∙ l

  bytes_after : world.bytes_of Cpu fresh act (world.object Cpu fresh act after (o - 1)) ≡ page_at n p
  unfolding after world.bytes_of
  bytes_after = ap (world.bytes_of Cpu fresh act) (put_same w (o - 1) bs long _) ∙ (ap (λ ys. over ys k bs) e ∙ sym g)

  other_after : (q : ℕ) → q ≢ 0 → q ≢ o → world.object Cpu fresh act after (q - 1) ≡ world.object Cpu fresh act w (q - 1)
  unfolding after
  other_after q i d = put_other w (o - 1) bs long _ (q - 1) (λ j. d (omega arith))

  shown_after : (q : ℕ) (x : Option Mapping) → IsShown m w q x → SameOrApart p o q x → IsShown n after q x
  shown_after q None s d = s
  shown_after q (Some x) s (inl d) = (s.0, long_as m n x.place c.long s.1, rw (d.0, d.1) bytes_after)
  shown_after q (Some x) s (inr d) =
      (s.0, long_as m n x.place c.long s.1, ap (world.bytes_of Cpu fresh act) (other_after q s.0 d.0) ∙ (s.2 ∙ sym (page-around c x.place d.1)))

at_some : (P : Type 0) (Q : ℕ → Type 0) (o : Option ℕ) (p : ℕ) → MatchOption o P Q → o ≡ Some p → Q p
at_some P Q None p h e = cc
at_some P Q (Some x) p h e = let f : x ≡ p = cc in subst Q f h

shown_page : (m : List ℕ) (w : World Cpu) (o p : ℕ) (y : Option Mapping) → IsShown m w o y → IsSomeAnd y (λ x. (x.place ≡ p) × (x.writes ≡ true)) →
    (o ≢ 0) × (length (page_at m p) ≡ 4096) × (world.bytes_of Cpu fresh act (world.object Cpu fresh act w (o - 1)) ≡ page_at m p)
shown_page m w o p None s j = absurd j
shown_page m w o p (Some x) s j = (s.0, ap (λ q. length (page_at m q)) (sym j.0) ∙ s.1, s.2 ∙ ap (page_at m) j.0)

pub stores_go_on_showing : StoresGoOnShowing
unfolding world.stores after
stores_go_on_showing m t s w ps rs h a p bs r u qs ss i v =
    let one = at_some (stored m t a bs ≡ m) (λ q. IsSomeAnd (look_up t (a / 4096)) (λ x. (x.place ≡ q) × (x.writes ≡ true))
    × SameBut m (stored m t a bs) q 64
    × (page_at (stored m t a bs) q ≡ over (page_at m q) (a % 4096) bs)) (store_place m t a (length bs)) p (stores_in_one_page m t a bs) r in
    let y = shown_page m w (get_or ps (a / 4096) 0) p (look_up t (a / 4096)) (shown_at m t s w ps rs h (a / 4096)) one.0 in
    record {
      pages = i.pages;
      marks = i.marks;
      shown = λ b l. shown_after m (stored m t a bs) w (get_or ps (a / 4096) 0) p (a % 4096) _ bs one.1 one.2 y.0 y.1 y.2 (get_or qs b 0) (look_up u b) (i.shown b l) (v b l);
      written = i.written;
    }

-- AN EXAMPLE
one_is : look_up one_page ≡ upd (look_up tables.fresh) 0 (Some (record { place = 1; writes = true }))
one_is = maps tables.fresh shaped_fresh 0 1 true (lit< tt) refl (lit< tt)

one_there : (b : ℕ) → b ≢ 0 → look_up one_page b ≡ None
one_there b n = ap (λ f. f b) one_is ∙ (rw (ne_eqb b 0 n) (new_is_free b))

module _ (m : List ℕ) (h : length m ≡ 4096) where
  lies : within m 1 64 ≡ true
  lies = rw h refl

  one_object_shown : IsShown m (one_object (page_at m 1)) 1 (Some (record { place = 1; writes = true }))
  unfolding world.object world.bytes_of
  one_object_shown = (λ z. omega arith, length-page m 1 lies, refl)

  one_store : store_place m one_page 0 1 ≡ Some 1
  one_store = rw (length-page m 1 lies) refl

one_apart : (b : ℕ) → SameOrApart 1 1 (get_or (set (replicate 64 0) 0 1) b 0) (look_up one_page b)
one_apart b = elim (cases_eq b 0) [
  | inl i ↦ rw i (inl (refl, refl))
  | inr n ↦ rw (one_there b n) tt
]

pub can_be_shown : CanBeShown
can_be_shown m h = (
  goes_on_showing.1 m tables.fresh shaped_fresh (one_object (page_at m 1)) (replicate 64 0) (replicate 64 false) (new_shows m (one_object (page_at m 1)))
      0 1 0 true (lit< tt) refl (lit< tt) (one_object_shown m h),
  one_store m h,
  λ b l. one_apart b,
)
