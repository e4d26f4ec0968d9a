-- Slots that are written come back.
use Rattle.std.proofs.Common.{◌≡◌, ℕ, suc, ◌+◌, ◌-◌, ◌<◌, ◌≤◌, Bool, List, [], ◌∷◌, ◌++◌, length, Ok, refl, subst, arith}
use lib.Dec.{eqb-suc-zero}
use Rattle.std.proofs.lemmas.Bool.Decides.{nat_tests}
use Rattle.rights.specs.Vocabulary.{rights_of_bits}
use Rattle.rights.specs.World.{Slot, Rights, empty, cap}
use Rattle.image.specs.Fields.{one, two}
use Rattle.image.specs.Format.{slot, entries}
use Rattle.std.specs.List.{flat_map}
use Rattle.image.specs.Meaning.{four, two_bytes, four_bytes, bit, rights_bits, slot_bytes, slots_from}
use Rattle.image.proofs.Stands.{At, Alls, at_len, at_split, at_two, at_four, each_all}

pub rights_back : (r : Rights) → rights_of_bits (rights_bits r) ≡ r
rights_back r = grind arith

pub bit_low : (x : Bool) → bit x ≤ 1
bit_low x = grind arith

pub rights_low : (r : Rights) → rights_bits r ≤ 7
rights_low r = omega (arith, bit_low r.reads, bit_low r.writes, bit_low r.hands)

slot_ok : (bs : List ℕ) (n a : ℕ) → a + 7 ≤ length bs → two bs a ≤ n → one bs (a + 2) ≤ 7 → slot bs n a ≡ Ok (a + 7)
slot_ok bs n a l h k = grind (arith, nat_tests)

-- what stands where a slot does
record SlotAt (bs : List ℕ) (a v r b : ℕ) : Type 0 where
  object_is : two bs a ≡ v
  rights_is : one bs (a + 2) ≡ r
  badge_is : four bs (a + 3) ≡ b
  room : a + 7 ≤ length bs

slot_read : (bs : List ℕ) (a v r b : ℕ) → v < 65536 → b < 4294967296 → At bs a (two_bytes v ++ (r ∷ four_bytes b)) → SlotAt bs a v r b
slot_read bs a v r b l k h =
    let s = at_split bs a (two_bytes v) (r ∷ four_bytes b) h in
    let p : (a + 2) + 1 ≡ a + 3 = omega arith in
    let q : At bs (a + 3) (four_bytes b) = subst (λ x. At bs x (four_bytes b)) p s.1.1 in
    let e = at_len bs (a + 3) (four_bytes b) q in
    record { object_is = at_two bs a v l s.0; rights_is = s.1.0; badge_is = at_four bs (a + 3) b k q; room = omega (arith, e) }

-- what an image of n objects can carry of a slot
abbrev pub GoodSlot : ℕ → ℕ → Slot → Type 0
GoodSlot n i empty = Unit {0}
GoodSlot n i (cap o r b j m) = (o < n) × (b < 4294967296) × (m ≡ 0)

-- births in the order of slots, from b on
abbrev pub Orderly : ℕ → List Slot → Type 0
Orderly b [] = Unit {0}
Orderly b (empty ∷ ss) = Orderly b ss
Orderly b (cap o r g j m ∷ ss) = (j ≡ suc b) × Orderly (suc b) ss

module _ (bs : List ℕ) (n : ℕ) (few : n ≤ 1000) where
  slot_fine : (i a : ℕ) (x : Slot) → GoodSlot n i x → At bs a (slot_bytes x) → slot bs n a ≡ Ok (a + length (slot_bytes x))
  slot_fine i a x g h = grind (arith, nat_tests, slot_read, rights_low)

  pub slots_fine : (ss : List Slot) (a : ℕ) → Alls (GoodSlot n) 0 ss → At bs a (flat_map slot_bytes ss) → entries (slot bs n) (length ss) a ≡ Ok (a + length (flat_map slot_bytes ss))
  slots_fine ss a g h = each_all bs (λ _ a. slot bs n a) slot_bytes (GoodSlot n) slot_fine ss 0 a g h

  pub slots_back : (ss : List Slot) (i a b : ℕ) → Alls (GoodSlot n) i ss → Orderly b ss → At bs a (flat_map slot_bytes ss) → slots_from bs (length ss) a b ≡ ss
  unfolding slots_from
  slots_back [] i a b g o h = refl
  slots_back (empty ∷ ss) i a b g o h =
      let t = at_split bs a (slot_bytes empty) (flat_map slot_bytes ss) h in
      let s = slot_read bs a 0 0 0 (omega arith) (omega arith) t.0 in
      rw (s.object_is, slots_back ss (suc i) (a + 7) b g.1 o t.1)
  slots_back (cap u r c j m ∷ ss) i a b g o h =
      let t = at_split bs a (slot_bytes (cap u r c j m)) (flat_map slot_bytes ss) h in
      let s = slot_read bs a (suc u) (rights_bits r) c (omega (arith, g.0.0, few)) g.0.1 t.0 in
      let e : suc u - 1 ≡ u = omega arith in
      rw (s.object_is, eqb-suc-zero u, e, s.rights_is, s.badge_is, rights_back r, slots_back ss (suc i) (a + 7) (suc b) g.1 o.1 t.1, o.0, g.0.2)
