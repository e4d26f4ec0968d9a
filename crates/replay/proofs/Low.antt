-- Readers end no later than the bytes, or where they began.
use Rattle.std.proofs.Common.{◌≡◌, ℕ, zero, suc, ◌^◌, ◌<◌, ◌≤◌, Bool, true, false, cond, List, length, Ok, Err, sym, ap, subst, arith}
use Rattle.std.proofs.lemmas.Bool.Decides.{nat_tests}
use Rattle.rights.specs.declared.kinds.Kind.{Kind}
use Rattle.rights.specs.declared.kinds.Kind.TheVariants.{Pool, Table, Port, Page, Thread, Line}
use Rattle.image.specs.Fields.{Read, ◌then◌, past, each}
use Rattle.image.specs.Format.{head_at, is_a, size_at, slot, state, content, part, section}
use Rattle.image.specs.Meaning.{stop}
use Rattle.image.specs.Meaning as m
use Rattle.replay.specs.declared.places.Places.{Places}
use Rattle.replay.specs.Reading.{seen, after, Low}

abbrev pub Below : ℕ → Read ℕ → Type 0
Below m (Ok a) = a ≤ m
Below m (Err e) = Unit {0}

pub stop_below : (m : ℕ) (r : Read ℕ) → Below m r → stop r ≤ m
stop_below m (Ok a) h = h
stop_below m (Err e) h = omega arith

then_below : (m : ℕ) (r : Read ℕ) (f : ℕ → Read ℕ) → Below m r → ((a : ℕ) → a ≤ m → Below m (f a)) → Below m (r then f)
then_below m (Ok a) f l h = h a l
then_below m (Err e) f l h = tt

each_below : (m : ℕ) (f : ℕ → ℕ → Read ℕ) → ((i a : ℕ) → a ≤ m → Below m (f i a)) → (k i a : ℕ) → a ≤ m → Below m (each f k i a)
unfolding each
each_below m f h zero i a l = l
each_below m f h (suc k) i a l = then_below m (f i a) (each f k (suc i)) (h i a l) (λ b g. each_below m f h k (suc i) b g)

slot_below : (bs : List ℕ) (n m a : ℕ) → length bs ≤ m → Below m (slot bs n a)
slot_below bs n m a l = grind (arith, nat_tests)

state_below : (bs : List ℕ) (n m a : ℕ) → length bs ≤ m → Below m (state bs n a)
state_below bs n m a l = grind (arith, nat_tests)

past_below : (bs : List ℕ) (m a n : ℕ) → length bs ≤ m → Below m (past bs a n)
past_below bs m a n l = grind (arith, nat_tests)

content_below : (bs : List ℕ) (n m : ℕ) (k : Kind) (o a : ℕ) → length bs ≤ m → a ≤ m → Below m (content bs n k o a)
content_below bs n m Pool o a l h = h
content_below bs n m Table o a l h = each_below m (λ _ b. slot bs n b) (λ i b g. slot_below bs n m b l) (size_at bs o) 0 a h
content_below bs n m Port o a l h = h
content_below bs n m Page o a l h = past_below bs m a 4096 l
content_below bs n m Thread o a l h = state_below bs n m a l
content_below bs n m Line o a l h = h

pick_below : (m a : ℕ) (t : Bool) (r : Read ℕ) → a ≤ m → Below m r → Below m (cond t r (Ok a))
pick_below m a true r h g = g
pick_below m a false r h g = h

part_below : (bs : List ℕ) (n m : ℕ) (k : Kind) (o a : ℕ) → length bs ≤ m → a ≤ m → Below m (part bs n k o a)
part_below bs n m k o a l h = pick_below m a (is_a bs o k) (content bs n k o a) h (content_below bs n m k o a l h)

section_below : (bs : List ℕ) (n m : ℕ) (k : Kind) (a : ℕ) → length bs ≤ m → a ≤ m → Below m (section bs n k a)
section_below bs n m k a l h = each_below m (part bs n k) (λ o b g. part_below bs n m k o b l g) n 0 a h

-- where an object of some kind ends
ends_low : (bs : List ℕ) (n m : ℕ) (k : Kind) (o a b : ℕ) → length bs ≤ m → a ≤ m → b ≡ stop (part bs n k o a) → b ≤ m
ends_low bs n m k o a b l h e = subst (λ v. v ≤ m) (sym e) (stop_below m (part bs n k o a) (part_below bs n m k o a l h))

closes_low : (bs : List ℕ) (n m : ℕ) (k : Kind) (a b : ℕ) → length bs ≤ m → a ≤ m → b ≡ stop (section bs n k a) → b ≤ m
closes_low bs n m k a b l h e = subst (λ v. v ≤ m) (sym e) (stop_below m (section bs n k a) (section_below bs n m k a l h))

pub after_low : (bs : List ℕ) (n o births : ℕ) (p q : Places) → length bs ≤ 2 ^ 63 → Low p → seen q ≡ after bs n o (seen p) births → Low q
after_low bs n o births p q l h e = record {
  slots = ends_low bs n (2 ^ 63) Table o p.slots_at q.slots_at l h.slots (ap (λ (v : m.Places). v.slots_at) e);
  bytes = ends_low bs n (2 ^ 63) Page o p.bytes_at q.bytes_at l h.bytes (ap (λ (v : m.Places). v.bytes_at) e);
  thread = ends_low bs n (2 ^ 63) Thread o p.thread_at q.thread_at l h.thread (ap (λ (v : m.Places). v.thread_at) e);
}

pub first_low : (bs : List ℕ) (n : ℕ) (q : Places) → length bs ≤ 2 ^ 63 → n < 65536 → seen q ≡ m.first_places bs n → Low q
first_low bs n q l few e =
    let s : q.slots_at ≡ head_at n = ap (λ (v : m.Places). v.slots_at) e in
    let h : head_at n ≤ 2 ^ 63 = omega (arith, few) in
    let t : q.bytes_at ≡ stop (section bs n Table (head_at n)) = ap (λ (v : m.Places). v.bytes_at) e in
    let b = closes_low bs n (2 ^ 63) Table (head_at n) q.bytes_at l h t in
    let u : q.thread_at ≡ stop (section bs n Page q.bytes_at) = rw t (ap (λ (v : m.Places). v.thread_at) e) in
    record { slots = omega (arith, s, h); bytes = b; thread = closes_low bs n (2 ^ 63) Page q.bytes_at q.thread_at l b u }
