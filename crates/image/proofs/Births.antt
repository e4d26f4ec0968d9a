-- Births in the order of slots: each is given once, and they are the numbers from 1 on.
use Rattle.std.proofs.Common.{◌≡◌, ℕ, zero, suc, ◌+◌, ◌≤◌, List, [], ◌∷◌, ◌++◌, get_or, refl, ap, subst, add-zero, arith}
use Rattle.rights.specs.World.{Object, Slot, Rights, empty, cap, gone, slots_of}
use Rattle.rights.specs.Promise.{births_in, all_births, up_from}
use Rattle.rv32.specs.declared.registers.Cpu.{Cpu}
use Rattle.rv32.specs.Registers.{fresh}
use Rattle.rv32.specs.Execute.{act}
use Rattle.image.specs.Meaning.{births_of, births_all}
use Rattle.image.proofs.Slots.{Orderly}

slot_range : (b : ℕ) (ss : List Slot) → Orderly b ss → (i u g j m : ℕ) (r : Rights) → get_or ss i empty ≡ cap u r g j m → (suc b ≤ j) × (j ≤ b + births_of ss)
unfolding births_of
slot_range b [] o i u g j m r e = cc
slot_range b (empty ∷ ss) o zero u g j m r e = cc
slot_range b (empty ∷ ss) o (suc i) u g j m r e = slot_range b ss o i u g j m r e
slot_range b (cap v q h k l ∷ ss) o zero u g j m r e = let f : k ≡ j = cc in (omega (arith, f, o.0), omega (arith, f, o.0))
slot_range b (cap v q h k l ∷ ss) o (suc i) u g j m r e = let f = slot_range (suc b) ss o.1 i u g j m r e in (omega (arith, f.0), omega (arith, f.1))

slot_once : (b : ℕ) (ss : List Slot) → Orderly b ss → (i u g j m k v h l : ℕ) (r q : Rights) → get_or ss i empty ≡ cap u r g j m → get_or ss k empty ≡ cap v q h j l → i ≡ k
slot_once b [] o i u g j m k v h l r q e f = cc
slot_once b (empty ∷ ss) o zero u g j m k v h l r q e f = cc
slot_once b (empty ∷ ss) o (suc i) u g j m zero v h l r q e f = cc
slot_once b (empty ∷ ss) o (suc i) u g j m (suc k) v h l r q e f = ap suc (slot_once b ss o i u g j m k v h l r q e f)
slot_once b (cap v0 q0 h0 k0 l0 ∷ ss) o zero u g j m zero v h l r q e f = refl
slot_once b (cap v0 q0 h0 k0 l0 ∷ ss) o zero u g j m (suc k) v h l r q e f =
    let p : k0 ≡ j = cc in let s = slot_range (suc b) ss o.1 k v h j l q f in absurd (omega (arith, p, o.0, s.0))
slot_once b (cap v0 q0 h0 k0 l0 ∷ ss) o (suc i) u g j m zero v h l r q e f =
    let p : k0 ≡ j = cc in let s = slot_range (suc b) ss o.1 i u g j m r e in absurd (omega (arith, p, o.0, s.0))
slot_once b (cap v0 q0 h0 k0 l0 ∷ ss) o (suc i) u g j m (suc k) v h l r q e f = ap suc (slot_once (suc b) ss o.1 i u g j m k v h l r q e f)

abbrev slots : Object Cpu → List Slot
slots x = slots_of Cpu fresh act x

-- the same of all slots of objects
abbrev pub Orders : ℕ → List (Object Cpu) → Type 0
Orders b [] = Unit {0}
Orders b (x ∷ xs) = Orderly b (slots x) × Orders (b + births_of (slots x)) xs

pub range : (b : ℕ) (xs : List (Object Cpu)) → Orders b xs → (o i u g j m : ℕ) (r : Rights) → get_or (slots (get_or xs o gone)) i empty ≡ cap u r g j m
    → (suc b ≤ j) × (j ≤ b + births_all xs)
unfolding births_all slots_of
range b [] h o i u g j m r e = cc
range b (x ∷ xs) h zero i u g j m r e = let s = slot_range b (slots x) h.0 i u g j m r e in (s.0, omega (arith, s.1))
range b (x ∷ xs) h (suc o) i u g j m r e = let s = range (b + births_of (slots x)) xs h.1 o i u g j m r e in (omega (arith, s.0), omega (arith, s.1))

pub once : (b : ℕ) (xs : List (Object Cpu)) → Orders b xs → (o i u g j m p k v h l : ℕ) (r q : Rights) → get_or (slots (get_or xs o gone)) i empty ≡ cap u r g j m
    → get_or (slots (get_or xs p gone)) k empty ≡ cap v q h j l → (o ≡ p) × (i ≡ k)
unfolding slots_of
once b [] d o i u g j m p k v h l r q e f = cc
once b (x ∷ xs) d zero i u g j m zero k v h l r q e f = (refl, slot_once b (slots x) d.0 i u g j m k v h l r q e f)
once b (x ∷ xs) d zero i u g j m (suc p) k v h l r q e f =
    let s = slot_range b (slots x) d.0 i u g j m r e in
    let t = range (b + births_of (slots x)) xs d.1 p k v h j l q f in
    absurd (omega (arith, s.1, t.0))
once b (x ∷ xs) d (suc o) i u g j m zero k v h l r q e f =
    let s = slot_range b (slots x) d.0 k v h j l q f in
    let t = range (b + births_of (slots x)) xs d.1 o i u g j m r e in
    absurd (omega (arith, s.1, t.0))
once b (x ∷ xs) d (suc o) i u g j m (suc p) k v h l r q e f =
    let s = once (b + births_of (slots x)) xs d.1 o i u g j m p k v h l r q e f in (ap suc s.0, s.1)

up_join : (b m k : ℕ) → up_from Cpu fresh act (suc b) m ++ up_from Cpu fresh act (suc (b + m)) k ≡ up_from Cpu fresh act (suc b) (m + k)
unfolding up_from
up_join b zero k = let e : b + 0 ≡ b = omega arith in let f : 0 + k ≡ k = omega arith in rw (e, f)
up_join b (suc m) k =
    let e : b + suc m ≡ suc b + m = omega arith in let f : suc m + k ≡ suc (m + k) = omega arith in
    rw (e, f, up_join (suc b) m k)

births_up : (b : ℕ) (ss : List Slot) → Orderly b ss → births_in Cpu fresh act ss ≡ up_from Cpu fresh act (suc b) (births_of ss)
unfolding births_in births_of up_from
births_up b [] o = refl
births_up b (empty ∷ ss) o = births_up b ss o
births_up b (cap v q h k l ∷ ss) o = rw (births_up (suc b) ss o.1, o.0)

none_up : (b : ℕ) → [] ≡ up_from Cpu fresh act (suc b) (births_all [])
unfolding up_from births_all
none_up b = refl

pub all_up : (b : ℕ) (xs : List (Object Cpu)) → Orders b xs → all_births Cpu fresh act xs ≡ up_from Cpu fresh act (suc b) (births_all xs)
unfolding all_births births_all
all_up b [] d = none_up b
all_up b (x ∷ xs) d =
    rw (births_up b (slots x) d.0, all_up (b + births_of (slots x)) xs d.1) (up_join b (births_of (slots x)) (births_all xs))

-- and back: births that are the numbers from b + 1 on are in the order of slots
order_split : (ss : List Slot) (rest : List ℕ) (b k : ℕ) → births_in Cpu fresh act ss ++ rest ≡ up_from Cpu fresh act (suc b) k
    → Orderly b ss × ((j : ℕ) × (k ≡ births_of ss + j) × (rest ≡ up_from Cpu fresh act (suc (b + births_of ss)) j))
unfolding births_in up_from births_of
order_split [] rest b k e = (tt, (k, omega arith, rw add-zero e))
order_split (empty ∷ ss) rest b k e = order_split ss rest b k e
order_split (cap o r g i m ∷ ss) rest b zero e = cc
order_split (cap o r g i m ∷ ss) rest b (suc k) e =
    let t = order_split ss rest (suc b) k (cc) in
    let q : suc b + births_of ss ≡ b + suc (births_of ss) = omega arith in
    ((cc, t.0), (t.1.0, omega (arith, t.1.1), subst (λ v. rest ≡ up_from Cpu fresh act (suc v) t.1.0) q t.1.2))

none_left : (b k : ℕ) → [] ≡ up_from Cpu fresh act (suc b) k → births_all [] ≡ k
unfolding up_from births_all
none_left b zero e = refl
none_left b (suc k) e = cc

pub order_all : (xs : List (Object Cpu)) (b k : ℕ) → all_births Cpu fresh act xs ≡ up_from Cpu fresh act (suc b) k → Orders b xs × (births_all xs ≡ k)
unfolding all_births births_all
order_all [] b k e = (tt, none_left b k e)
order_all (x ∷ xs) b k e =
    let s = order_split (slots x) (all_births Cpu fresh act xs) b k e in
    let r = order_all xs (b + births_of (slots x)) s.1.0 s.1.2 in
    ((s.0, r.0), omega (arith, r.1, s.1.1))
