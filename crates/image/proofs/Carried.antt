-- An allowed world has objects that an image can carry.
use Rattle.std.proofs.Common.{◌≡◌, ℕ, zero, suc, ◌+◌, ◌-◌, ◌*◌, ◌/◌, ◌<◌, Bool, true, ◌≢◌, List, [], ◌∷◌, length, get_or, refl, ap, ◌∙◌, subst, arith}
use Rattle.std.proofs.lemmas.List.{get_or_past}
use Rattle.rights.specs.declared.kinds.Kind.{Kind}
use Rattle.rights.specs.declared.kinds.Kind.TheVariants.{Table, Page}
use Rattle.rights.specs.World.{World, Sizes, Object, Slot, State, Wait, empty, gone, pool, table, port, page, thread, slots_of, object}
use Rattle.rights.specs.Promise.{New, new_pool, new_table, new_port, new_page, new_thread, new_line}
use Rattle.rv32.specs.declared.registers.Cpu.{Cpu}
use Rattle.rv32.specs.Registers.{fresh}
use Rattle.rv32.specs.Execute.{act}
use Rattle.std.proofs.lemmas.Bool.Decides.{nat_tests}
use Rattle.image.specs.Format.{head_at, names, is_a, lets_in}
use Rattle.std.specs.List.{flat_map, zip}
use Rattle.image.specs.Meaning.{state_of, ready_mark, header_bytes}
use Rattle.image.specs.Allowed.{Allowed, ThinWorld}
use Rattle.image.specs.Verdict.{built, all_kinds}
use Rattle.image.proofs.Stands.{At, Alls, alls_from, at_split}
use Rattle.image.proofs.Slots.{GoodSlot}
use Rattle.image.proofs.Spaces.{GoodMap}
use Rattle.image.proofs.Objects.{LetIn, Good, Placed}

-- each header stands where it should
head_step : (bs : List ℕ) (x : Object Cpu) (xs : List (Object Cpu)) (i : ℕ) → At bs (head_at i) (flat_map header_bytes (x ∷ xs)) → At bs (head_at i) (header_bytes x) × At bs (head_at (suc i)) (flat_map header_bytes xs)
head_step bs x xs i h =
    let s = at_split bs (head_at i) (header_bytes x) (flat_map header_bytes xs) h in
    let e : head_at i + 3 ≡ head_at (suc i) = omega arith in
    (s.0, subst (λ k. At bs k (flat_map header_bytes xs)) e s.1)

pub placed_all : (bs : List ℕ) (n : ℕ) (xs : List (Object Cpu)) (i : ℕ) → At bs (head_at i) (flat_map header_bytes xs) → Alls (λ _ x. Good bs n x) i xs → Alls (Placed bs n) i xs
placed_all bs n [] i h g = tt
placed_all bs n (x ∷ xs) i h g = let s = head_step bs x xs i h in ((s.0, g.0), placed_all bs n xs (suc i) s.1 g.1)

head_of : (bs : List ℕ) (xs : List (Object Cpu)) (i j : ℕ) → At bs (head_at i) (flat_map header_bytes xs) → j < length xs → At bs (head_at (i + j)) (header_bytes (get_or xs j gone))
head_of bs [] i j h l = absurd (omega (arith, l))
head_of bs (x ∷ xs) i zero h l = let e : i + 0 ≡ i = omega arith in rw e (head_step bs x xs i h).0
head_of bs (x ∷ xs) i (suc j) h l = let k : i + suc j ≡ suc i + j = omega arith in rw k (head_of bs xs (suc i) j (head_step bs x xs i h).1 (omega (arith, l)))

named : (bs : List ℕ) (n u : ℕ) (k : Kind) → u < n → is_a bs u k ≡ true → names bs n (suc u) k ≡ true
named bs n u k l e = grind (arith, nat_tests)

maps_good : (bs : List ℕ) (n : ℕ) (ps : List ℕ) (rs : List Bool) (i : ℕ) → ((j : ℕ) → (get_or ps j 0 < 65536) × (names bs n (get_or ps j 0) Page ≡ true)) → Alls (GoodMap bs n) i (zip ps rs)
maps_good bs n [] rs i h = tt
maps_good bs n (p ∷ ps) [] i h = tt
maps_good bs n (p ∷ ps) (r ∷ rs) i h = (h 0, maps_good bs n ps rs (suc i) (λ j. h (suc j)))

-- an allowed world, and bytes with the headers of its objects
module _ (z : Sizes) (w : World Cpu) (zb : z.bytes ≡ 4096) (zp : z.pages ≡ 64) (fine : Allowed z w) (bs : List ℕ) (headed : At bs (head_at 0) (flat_map header_bytes w.objects)) where
  abbrev n : ℕ
  n = length w.objects

  abbrev its : ℕ → Object Cpu
  its o = object Cpu fresh act w o

  live : (u : ℕ) → its u ≢ gone → u < n
  unfolding object
  live u h = grind (arith, get_or_past w.objects u gone)

  -- the header of an object that is there
  its_head : (u : ℕ) (x : Object Cpu) → u < n → its u ≡ x → At bs (head_at u) (header_bytes x)
  unfolding object
  its_head u x l e =
      let q : 0 + u ≡ u = omega arith in
      subst (λ y. At bs (head_at u) (header_bytes y)) e (subst (λ k. At bs (head_at k) (header_bytes (get_or w.objects u gone))) q (head_of bs w.objects 0 u headed l))

  names_table : (u g : ℕ) (ss : List Slot) → its u ≡ table g ss → (suc u < 65536) × (names bs n (suc u) Table ≡ true)
  names_table u g ss e = grind (arith, live u, fine.few, named bs n u Table, its_head u (table g ss))

  names_page : (u g : ℕ) (xs : List ℕ) → its u ≡ page g xs → (suc u < 65536) × (names bs n (suc u) Page ≡ true)
  names_page u g xs e = grind (arith, live u, fine.few, named bs n u Page, its_head u (page g xs))

  slot_good : (o i k : ℕ) (s : Slot) → get_or (slots_of Cpu fresh act (its o)) i empty ≡ s → GoodSlot n k s
  slot_good o i k s e = grind (arith, fine.parted.held o i, fine.fits.badges o i, live)

  slots_good : (o f : ℕ) (ss : List Slot) → its o ≡ table f ss → Alls (GoodSlot n) 0 ss
  unfolding slots_of
  slots_good o f ss e =
      alls_from (GoodSlot n) empty ss 0 (λ j l. slot_good o j (0 + j) (get_or ss j empty) (ap (λ (x : Object Cpu). get_or (slots_of Cpu fresh act x) j empty) e))

  page_fine : (o f t : ℕ) (s : State Cpu) (c : Cpu) (ps : List ℕ) (rs : List Bool) → its o ≡ thread f s c t ps rs → (k p : ℕ) → get_or ps k 0 ≡ p → (p < 65536) × (names bs n p Page ≡ true)
  page_fine o f t s c ps rs e k p q = grind (arith, nat_tests, fine.fits.its_pages o f t k (p - 1) s c ps rs e, names_page)

  table_fine : (o f t : ℕ) (s : State Cpu) (c : Cpu) (ps : List ℕ) (rs : List Bool) → its o ≡ thread f s c t ps rs → (t < 65536) × (names bs n t Table ≡ true)
  table_fine o f t s c ps rs e = grind (arith, nat_tests, fine.fits.its_table o f (t - 1) s c ps rs, names_table)

  state_fine : (o f t : ℕ) (s : State Cpu) (c : Cpu) (ps : List ℕ) (rs : List Bool) → its o ≡ thread f s c t ps rs → state_of (ready_mark s) ≡ s
  state_fine o f t s c ps rs e = grind (arith, fine.parted.awake o f t)

  good_of : (o : ℕ) (x : Object Cpu) → its o ≡ x → New Cpu fresh act z x → Good bs n x
  good_of o x e (new_pool {n = k} h l) =
      let q : (k * z.bytes) / 4096 ≡ k = rw zb (omega arith) in
      (refl, refl, rw (q, zb), omega (arith, q, h), omega (arith, q, l))
  good_of o x e (new_table {ss = ss} h l) = (refl, h, l, slots_good o 0 ss e)
  good_of o x e new_port = (refl, refl)
  good_of o x e (new_page {bs = ys} h l) = (refl, h ∙ zb, l)
  good_of o x e (new_thread {s = s} {a = a} {t = t} {ps = ps} {rs = rs} h l k) =
      let q = table_fine o 0 t s (fresh a) ps rs e in (
        refl,
        state_fine o 0 t s (fresh a) ps rs e,
        refl,
        k,
        q.0,
        q.1,
        h ∙ zp,
        l ∙ zp,
        maps_good bs n ps rs 0 (λ j. page_fine o 0 t s (fresh a) ps rs e j (get_or ps j 0) refl),
      )
  good_of o x e new_line = (refl, refl)

  pub all_good : Alls (λ _ x. Good bs n x) 0 w.objects
  unfolding object
  all_good = alls_from (λ _ x. Good bs n x) gone w.objects 0 (λ j l. good_of j (get_or w.objects j gone) refl (fine.new j l))

-- every kind is let in; and without pools and ports all but these
let_all : (k : Kind) → lets_in all_kinds k ≡ true
let_all k = grind arith

pub all_let_in : (xs : List (Object Cpu)) (i : ℕ) → Alls (λ _ x. LetIn all_kinds x) i xs
all_let_in xs i = alls_from (λ _ x. LetIn all_kinds x) gone xs i (λ j l k e. let_all k)

thin_one : (x : Object Cpu) → ((f n u : ℕ) → x ≡ pool f n u → ⊥) → ((f : ℕ) (ws : List Wait) → x ≡ port f ws → ⊥) → LetIn built x
thin_one x a b k e = grind arith

pub thin_let_in : (w : World Cpu) → ThinWorld w → Alls (λ _ x. LetIn built x) 0 w.objects
unfolding object
thin_let_in w t = alls_from (λ _ x. LetIn built x) gone w.objects 0 (λ j l. thin_one (get_or w.objects j gone) (t.0 j) (t.1 j))
