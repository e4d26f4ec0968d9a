-- Spaces, pages' bytes and threads that are written come back.
use Rattle.std.proofs.Common.{◌≡◌, ℕ, zero, suc, ◌+◌, ◌*◌, ◌<◌, ◌≤◌, Bool, true, eqb, List, [], ◌∷◌, ◌++◌, length, Ok, refl, subst, arith, length-append}
use Rattle.std.proofs.lemmas.Bool.Decides.{nat_tests}
use Rattle.std.proofs.lemmas.Slice.Zip.{length-zip}
use Rattle.rights.specs.declared.kinds.Kind.TheVariants.{Table, Page}
use Rattle.image.specs.Fields.{one, two, each}
use Rattle.image.specs.Format.{mapping, entries, state, names}
use Rattle.std.specs.List.{flat_map, zip}
use Rattle.image.specs.Meaning.{four, two_bytes, four_bytes, bit, mapping_bytes, pages_from, marks_from, bytes_from}
use Rattle.image.proofs.Stands.{At, Alls, pieces_length, at_len, at_split, at_two, at_four, each_all}
use Rattle.image.proofs.Slots.{bit_low}

mapping_ok : (bs : List ℕ) (n a : ℕ) → a + 3 ≤ length bs → names bs n (two bs a) Page ≡ true → one bs (a + 2) ≤ 1 → mapping bs n a ≡ Ok (a + 3)
mapping_ok bs n a l h k = grind (arith, nat_tests)

-- what an image of n objects can carry of a page of a space
abbrev pub GoodMap : List ℕ → ℕ → ℕ → ℕ × Bool → Type 0
GoodMap bs n i (p, r) = (p < 65536) × (names bs n p Page ≡ true)

record MapAt (bs : List ℕ) (a v r : ℕ) : Type 0 where
  page_is : two bs a ≡ v
  mark_is : one bs (a + 2) ≡ r
  room : a + 3 ≤ length bs

map_read : (bs : List ℕ) (a v r : ℕ) → v < 65536 → At bs a (two_bytes v ++ (r ∷ [])) → MapAt bs a v r
map_read bs a v r l h =
    let s = at_split bs a (two_bytes v) (r ∷ []) h in
    let e = at_len bs (a + 2) (r ∷ []) s.1 in
    record { page_is = at_two bs a v l s.0; mark_is = s.1.0; room = omega (arith, e) }

map_fine : (bs : List ℕ) (n i a : ℕ) (x : ℕ × Bool) → GoodMap bs n i x → At bs a (mapping_bytes x) → mapping bs n a ≡ Ok (a + length (mapping_bytes x))
map_fine bs n i a (p, r) g h =
    let s = map_read bs a p (bit r) g.0 h in
    mapping_ok bs n a s.room (rw s.page_is g.1) (omega (arith, s.mark_is, bit_low r))

pub maps_length : (xs : List (ℕ × Bool)) → length (flat_map mapping_bytes xs) ≡ 3 * length xs
maps_length xs = pieces_length mapping_bytes 3 (λ x. refl) xs

pub pairs_length : (ps : List ℕ) (rs : List Bool) (k : ℕ) → length ps ≡ k → length rs ≡ k → length (zip ps rs) ≡ k
pairs_length ps rs k e f = omega (arith, length-zip ps rs, e, f)

pub space_fine : (bs : List ℕ) (n a : ℕ) (xs : List (ℕ × Bool)) → length xs ≡ 64 → Alls (GoodMap bs n) 0 xs → At bs a (flat_map mapping_bytes xs) → entries (mapping bs n) 64 a ≡ Ok (a + 192)
space_fine bs n a xs e g h =
    let f = each_all bs (λ _ a. mapping bs n a) mapping_bytes (GoodMap bs n) (map_fine bs n) xs 0 a g h in
    let q : a + length (flat_map mapping_bytes xs) ≡ a + 192 = omega (arith, maps_length xs, e) in
    subst (λ k. each (λ _ a. mapping bs n a) k 0 a ≡ Ok (a + 192)) e (subst (λ p. each (λ _ a. mapping bs n a) (length xs) 0 a ≡ Ok p) q f)

bit_back : (r : Bool) → eqb (bit r) 1 ≡ r
bit_back r = grind arith

pub maps_back : (bs : List ℕ) (n : ℕ) (ps : List ℕ) (rs : List Bool) (k i a : ℕ) → length ps ≡ k → length rs ≡ k → Alls (GoodMap bs n) i (zip ps rs)
    → At bs a (flat_map mapping_bytes (zip ps rs)) → (pages_from bs k a ≡ ps) × (marks_from bs k a ≡ rs)
unfolding pages_from marks_from
maps_back bs n [] [] zero i a e f g h = (refl, refl)
maps_back bs n [] [] (suc k) i a e f g h = absurd (omega (arith, e))
maps_back bs n [] (r ∷ rs) k i a e f g h = absurd (omega (arith, e, f))
maps_back bs n (p ∷ ps) [] k i a e f g h = absurd (omega (arith, e, f))
maps_back bs n (p ∷ ps) (r ∷ rs) zero i a e f g h = absurd (omega (arith, e))
maps_back bs n (p ∷ ps) (r ∷ rs) (suc k) i a e f g h =
    let t = at_split bs a (mapping_bytes (p, r)) (flat_map mapping_bytes (zip ps rs)) h in
    let s = map_read bs a p (bit r) g.0.0 t.0 in
    let k = maps_back bs n ps rs k (suc i) (a + 3) (omega (arith, e)) (omega (arith, f)) g.1 t.1 in
    (rw (s.page_is, k.0), rw (s.mark_is, bit_back r, k.1))

pub bytes_back : (bs xs : List ℕ) (k a : ℕ) → length xs ≡ k → At bs a xs → bytes_from bs k a ≡ xs
unfolding bytes_from
bytes_back bs [] zero a e h = refl
bytes_back bs [] (suc k) a e h = absurd (omega (arith, e))
bytes_back bs (x ∷ xs) zero a e h = absurd (omega (arith, e))
bytes_back bs (x ∷ xs) (suc k) a e h = rw (h.0, bytes_back bs xs k (a + 1) (omega (arith, e)) h.1)

pub state_ok : (bs : List ℕ) (n a : ℕ) → a + 199 ≤ length bs → names bs n (two bs a) Table ≡ true → entries (mapping bs n) 64 (a + 2) ≡ Ok (a + 194) → one bs (a + 194) ≤ 1
    → state bs n a ≡ Ok (a + 199)
state_ok bs n a l h s k = grind (arith, nat_tests)

-- what stands where a thread does
pub record ThreadAt (bs : List ℕ) (a t m c : ℕ) (ps : List ℕ) (rs : List Bool) : Type 0 where
  pub table_is : two bs a ≡ t
  pub space_at : At bs (a + 2) (flat_map mapping_bytes (zip ps rs))
  pub mark_is : one bs (a + 194) ≡ m
  pub pc_is : four bs (a + 195) ≡ c
  pub room : a + 199 ≤ length bs

pub thread_length : (t m c : ℕ) (xs : List (ℕ × Bool)) → length xs ≡ 64 → length (two_bytes t ++ (flat_map mapping_bytes xs ++ (m ∷ four_bytes c))) ≡ 199
thread_length t m c xs e = grind (arith, length-append, maps_length xs)

pub thread_read : (bs : List ℕ) (a t m c : ℕ) (ps : List ℕ) (rs : List Bool) → t < 65536 → c < 4294967296 → length (zip ps rs) ≡ 64
    → At bs a (two_bytes t ++ (flat_map mapping_bytes (zip ps rs) ++ (m ∷ four_bytes c))) → ThreadAt bs a t m c ps rs
thread_read bs a t m c ps rs l k e h =
    let xs : List ℕ = flat_map mapping_bytes (zip ps rs) in
    let s = at_split bs a (two_bytes t) (xs ++ (m ∷ four_bytes c)) h in
    let u = at_split bs (a + 2) xs (m ∷ four_bytes c) s.1 in
    let q : (a + 2) + length xs ≡ a + 194 = omega (arith, maps_length (zip ps rs), e) in
    let v : At bs (a + 194) (m ∷ four_bytes c) = subst (λ p. At bs p (m ∷ four_bytes c)) q u.1 in
    let w : (a + 194) + 1 ≡ a + 195 = omega arith in
    let x : At bs (a + 195) (four_bytes c) = subst (λ p. At bs p (four_bytes c)) w v.1 in
    let y = at_len bs (a + 195) (four_bytes c) x in
    record { table_is = at_two bs a t l s.0; space_at = u.0; mark_is = v.0; pc_is = at_four bs (a + 195) c k x; room = omega (arith, y) }
