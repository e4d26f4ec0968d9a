-- The length of an image that is taken.
use Rattle.std.proofs.Common.{◌≡◌, ℕ, zero, suc, ◌+◌, ◌*◌, ◌≤◌, Bool, true, cond, List, length, Ok, Err, refl, ap, ◌∙◌, subst, arith}
use Rattle.std.proofs.lemmas.Bool.Decides.{nat_tests}
use Rattle.rights.specs.declared.kinds.Kind.{Kind}
use Rattle.rights.specs.declared.kinds.Kind.TheVariants.{Pool, Table, Port, Page, Thread, Line}
use Rattle.rights.specs.declared.refusals.Refusal.{Refusal}
use Rattle.image.specs.declared.census.Census.{Census}
use Rattle.image.specs.declared.census.Kinds.{Kinds}
use Rattle.image.specs.Fields.{two, Read, ◌then◌, past, judged, each}
use Rattle.image.specs.Format.{head_at, is_a, size_at, names, slot, mapping, entries, state, content, part, section, body, count}
use Rattle.image.specs.Prefix.{SameBelow, field_end, content_length, content_lengths, LengthByHeaders, OneLength}
use Rattle.image.proofs.Decided.{count_back, Reading, reading, finish, verdict_is, reading_told}
use Rattle.image.proofs.Early.{ready_pc, same_one}
use Rattle.image.proofs.Told.{Told}

-- a reader that went on, and what it went on from
pub then_back : {A B : Type 0} (r : Read A) (f : A → Read B) (b : B) → r then f ≡ Ok b → (a : A) × (r ≡ Ok a) × (f a ≡ Ok b)
then_back (Ok a) f b e = (a, refl, e)
then_back (Err d) f b e = cc

pub past_back : (bs : List ℕ) (at n b : ℕ) → past bs at n ≡ Ok b → (at + n ≤ length bs) × (b ≡ at + n)
past_back bs at n b e = grind (arith, nat_tests)

pub judged_back : {A : Type 0} (t : Bool) (e : Refusal) (r : Read A) (b : A) → judged t e r ≡ Ok b → (t ≡ true) × (r ≡ Ok b)
judged_back t e r b q = grind arith

-- how much k readers from i on add, if reader i adds g i
unfoldable added : (ℕ → ℕ) → ℕ → ℕ → ℕ
added g zero i = 0
added g (suc k) i = g i + added g k (suc i)

each_adds : (f : ℕ → ℕ → Read ℕ) (g : ℕ → ℕ) → ((i a b : ℕ) → f i a ≡ Ok b → b ≡ a + g i) → (k i a b : ℕ) → each f k i a ≡ Ok b → b ≡ a + added g k i
unfolding each added
each_adds f g turn zero i a b e = let z : a ≡ b = cc in omega (arith, z)
each_adds f g turn (suc k) i a b e =
    let t = then_back (f i a) (each f k (suc i)) b e in
    let x = turn i a t.0 t.1 in
    let y = each_adds f g turn k (suc i) t.0 b t.2 in
    omega (arith, x, y)

added_same : (w k i : ℕ) → added (λ _. w) k i ≡ k * w
unfolding added
added_same w zero i = omega arith
added_same w (suc k) i = let h = added_same w k (suc i) in omega (arith, h)

pub slot_back : (bs : List ℕ) (n a b : ℕ) → slot bs n a ≡ Ok b → (two bs a ≤ n) × (b ≡ a + 7)
slot_back bs n a b e = grind (arith, nat_tests)

pub mapping_back : (bs : List ℕ) (n a b : ℕ) → mapping bs n a ≡ Ok b → (names bs n (two bs a) Page ≡ true) × (b ≡ a + 3)
mapping_back bs n a b e = grind (arith, nat_tests)

pub entries_add : (entry : ℕ → Read ℕ) (width : ℕ) → ((a b : ℕ) → entry a ≡ Ok b → b ≡ a + width) → (count a b : ℕ) → entries entry count a ≡ Ok b → b ≡ a + count * width
entries_add entry width adds count a b e =
    let h = each_adds (λ _ p. entry p) (λ _. width) (λ i p q. adds p q) count 0 a b e in
    let s = added_same width count 0 in
    omega (arith, h, s)

ready_adds : (bs : List ℕ) (a b : ℕ) → ready_pc bs a ≡ Ok b → b ≡ a + 5
ready_adds bs a b e = grind (arith, nat_tests)

pub state_adds : (bs : List ℕ) (n a b : ℕ) → state bs n a ≡ Ok b → b ≡ a + 199
state_adds bs n a b e = grind (arith, nat_tests, entries_add (mapping bs n) 3 (λ p q f. (mapping_back bs n p q f).1) 64, ready_adds bs)

-- how many bytes object o has, if it is of a kind
abbrev of_kind : List ℕ → Kind → ℕ → ℕ
of_kind bs Pool o = 0
of_kind bs Table o = 7 * size_at bs o
of_kind bs Port o = 0
of_kind bs Page o = 4096
of_kind bs Thread o = 199
of_kind bs Line o = 0

content_adds : (bs : List ℕ) (n : ℕ) (k : Kind) (o a b : ℕ) → content bs n k o a ≡ Ok b → b ≡ a + of_kind bs k o
content_adds bs n k o a b e = grind (arith, nat_tests, entries_add (slot bs n) 7 (λ p q f. (slot_back bs n p q f).1) (size_at bs o) a b, state_adds bs n a b)

abbrev share : List ℕ → Kind → ℕ → ℕ
share bs k o = cond (is_a bs o k) (of_kind bs k o) 0

part_adds : (bs : List ℕ) (n : ℕ) (k : Kind) (o a b : ℕ) → part bs n k o a ≡ Ok b → b ≡ a + share bs k o
part_adds bs n k o a b e = grind (arith, nat_tests, content_adds bs n k o a b)

pub parts_grow : (bs : List ℕ) (n : ℕ) (k : Kind) (m o a b : ℕ) → each (part bs n k) m o a ≡ Ok b → a ≤ b
parts_grow bs n k m o a b e = omega (arith, each_adds (part bs n k) (share bs k) (part_adds bs n k) m o a b e)

section_adds : (bs : List ℕ) (n : ℕ) (k : Kind) (a b : ℕ) → section bs n k a ≡ Ok b → b ≡ a + added (share bs k) n 0
section_adds bs n k a b e = each_adds (part bs n k) (share bs k) (part_adds bs n k) n 0 a b e

shares : (bs : List ℕ) (o : ℕ) → share bs Table o + share bs Page o + share bs Thread o ≡ content_length bs o
shares bs o = grind (arith, nat_tests)

all_shares : (bs : List ℕ) (k o : ℕ) → added (share bs Table) k o + added (share bs Page) k o + added (share bs Thread) k o ≡ content_lengths bs k o
unfolding added content_lengths
all_shares bs zero o = refl
all_shares bs (suc k) o = let s = shares bs o in let h = all_shares bs k (suc o) in omega (arith, s, h)

pub body_adds : (bs : List ℕ) (n b : ℕ) → body bs n ≡ Ok b → b ≡ head_at n + content_lengths bs n 0
body_adds bs n b e = grind (arith, section_adds bs n, all_shares bs n 0)

-- what the fields were, if all could be read
reading_adds : (ks : Kinds) (bs : List ℕ) (x : Reading) → reading ks bs ≡ Ok x → x.2 ≡ head_at (two bs 4) + content_lengths bs (two bs 4) 0
reading_adds ks bs x e = grind (arith, nat_tests, count_back bs, body_adds bs)

ended : (frames : ℕ) (bs : List ℕ) (x : Reading) (c : Census) → finish frames bs x ≡ Ok c → length bs ≤ x.2
ended frames bs x c e = grind (arith, nat_tests)

pub length_by_headers : LengthByHeaders
length_by_headers ks frames bs c v =
    let t = then_back (reading ks bs) (finish frames bs) c (verdict_is ks frames bs ∙ v) in
    let w = subst (λ r. Told bs bs (field_end (two bs 4)) (λ x. x.2) 0 r (reading ks bs)) t.1 (reading_told bs bs ks) in
    let l = ended frames bs t.0 c t.2 in
    let a = reading_adds ks bs t.0 t.1 in
    omega (arith, w.1, l, a)

-- the headers say the same of both
same_content : (bs cs : List ℕ) (q o : ℕ) → head_at (suc o) ≤ q → q ≤ length bs → SameBelow q bs cs → content_length cs o ≡ content_length bs o
same_content bs cs q o l h g = grind (arith, nat_tests, same_one bs cs 0 q)

same_contents : (bs cs : List ℕ) (q k o : ℕ) → head_at (o + k) ≤ q → q ≤ length bs → SameBelow q bs cs → content_lengths cs k o ≡ content_lengths bs k o
unfolding content_lengths
same_contents bs cs q zero o l h g = refl
same_contents bs cs q (suc k) o l h g =
    let x = same_content bs cs q o (omega arith) h g in
    let y = same_contents bs cs q k (suc o) (omega arith) h g in
    omega (arith, x, y)

pub one_length : OneLength
one_length ks js frames others bs cs c d v w g =
    let x = length_by_headers ks frames bs c v in
    let y = length_by_headers js others cs d w in
    let q = head_at (two bs 4) in
    let h : q ≤ length bs = omega (arith, x) in
    let a = same_one bs cs 0 q 4 (omega arith) h g in
    let b = same_one bs cs 0 q 5 (omega arith) h g in
    let n : two cs 4 ≡ two bs 4 = omega (arith, a, b) in
    let s = same_contents bs cs q (two bs 4) 0 (omega arith) h g in
    let z : head_at (two cs 4) + content_lengths cs (two cs 4) 0 ≡ head_at (two bs 4) + content_lengths cs (two bs 4) 0 = ap (λ k. head_at k + content_lengths cs k 0) n in
    omega (arith, x, y, s, z)
