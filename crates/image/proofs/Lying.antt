-- Objects lie apart in the frames.
use Rattle.std.proofs.Common.{◌≡◌, ℕ, zero, suc, ◌+◌, ◌-◌, ◌*◌, ◌/◌, ◌<◌, ◌≤◌, Bool, true, cond, List, Some, ap, ◌∙◌, arith}
use Rattle.std.proofs.lemmas.Bool.{eqb-true}
use Rattle.std.proofs.lemmas.Bool.Decides.{nat_tests}
use Rattle.rights.specs.World as world
use Rattle.rights.specs.declared.kinds.Kind.{Kind}
use Rattle.rights.specs.Vocabulary.{kind_number}
use Rattle.image.specs.Apart.{own_frames, LaidOut, board_sizes, as_cut, LiesApart}
use Rattle.image.specs.Fields.{one}
use Rattle.image.specs.Format.{head_at, is_a, size_at}
use Rattle.image.specs.Layout.{frame_up, begins, takes, filled, place}

-- the last of some objects, taken for itself
one_more : (bs : List ℕ) (k o u : ℕ) → filled bs (suc k) o u ≡ begins bs (o + k) (filled bs k o u) + takes bs (o + k)
unfolding filled
one_more bs zero o u = let e : o + 0 ≡ o = omega arith in rw e
one_more bs (suc k) o u =
    let e : suc o + k ≡ o + suc k = omega arith in
    one_more bs k (suc o) (begins bs o u + takes bs o) ∙ ap (λ p. begins bs p (filled bs k (suc o) (begins bs o u + takes bs o)) + takes bs p) e

begins_up : (bs : List ℕ) (o u : ℕ) → u ≤ begins bs o u
begins_up bs o u = grind (arith, nat_tests)

begins_low : (bs : List ℕ) (o u : ℕ) → begins bs o u ≤ frame_up u
begins_low bs o u = grind (arith, nat_tests)

-- what is used after object o
after_one : (bs : List ℕ) (o : ℕ) → filled bs (suc o) 0 0 ≡ place bs o + takes bs o
after_one bs o = let e : 0 + o ≡ o = omega arith in one_more bs o 0 0 ∙ ap (λ p. begins bs p (filled bs o 0 0) + takes bs p) e

grows : (bs : List ℕ) (o : ℕ) → filled bs o 0 0 ≤ filled bs (suc o) 0 0
grows bs o = grind (arith, after_one, begins_up)

grows_on : (bs : List ℕ) (o d : ℕ) → filled bs o 0 0 ≤ filled bs (o + d) 0 0
grows_on bs o zero = let e : o + 0 ≡ o = omega arith in rw e (omega arith)
grows_on bs o (suc d) = let e : o + suc d ≡ suc (o + d) = omega arith in rw e (omega (arith, grows_on bs o d, grows bs (o + d)))

ends_before : (bs : List ℕ) (o p : ℕ) → o < p → place bs o + takes bs o ≤ filled bs p 0 0
ends_before bs o p l = grind (arith, after_one, grows_on bs (suc o) (p - suc o))

-- frames that are used, after frames of their own
few_from : (bs : List ℕ) (k o u s : ℕ) → u ≤ s * 64 → filled bs k o u ≤ (s + own_frames bs k o) * 64
unfolding filled own_frames
few_from bs zero o u s h = omega arith
few_from bs (suc k) o u s h =
    let b = begins_low bs o u in
    let f : begins bs o u + takes bs o ≤ (s + (takes bs o + 63) / 64) * 64 = omega (arith, b) in
    let r = few_from bs k (suc o) (begins bs o u + takes bs o) (s + (takes bs o + 63) / 64) f in
    omega (arith, r)

lies : (bs : List ℕ) → LaidOut bs
lies bs =
    record {
      apart = λ o p l. let h = ends_before bs o p l in let g = begins_up bs p (filled bs p 0 0) in omega (arith, h, g);
      within = λ n o l. let h = ends_before bs o n l in omega (arith, h);
      at_a_frame = λ o e. rw e (omega arith);
      few = λ n. let h = few_from bs n 0 0 0 (omega arith) in omega (arith, h);
    }

pick_is : (b : Bool) (x y : ℕ) → world.pick b x y ≡ cond b x y
pick_is b x y = grind arith

frame_filling : (u : ℕ) → 64 * frame_up u ≡ world.up_to 4096 (64 * u)
unfolding world.up_to
frame_filling u = rw pick_is (grind (arith, nat_tests))

unit_filling : (u : ℕ) → 64 * u ≡ world.up_to 64 (64 * u)
unfolding world.up_to
unit_filling u = rw pick_is (grind (arith, nat_tests))

-- kinds are told apart by their numbers
is_kind : (bs : List ℕ) (o : ℕ) (k : Kind) → is_a bs o k ≡ true → one bs (head_at o) ≡ kind_number k
is_kind bs o k e = eqb-true (one bs (head_at o)) (kind_number k) e

as_cut_is : (bs : List ℕ) (o u : ℕ) (k : Kind) → is_a bs o k ≡ true → (w : world.Kind) → as_cut k (size_at bs o) ≡ Some w →
    (64 * takes bs o ≡ world.cost board_sizes w) × (64 * begins bs o u ≡ world.up_to (world.step_of board_sizes w) (64 * u))
unfolding world.cost world.step_of
as_cut_is bs o u k e w h = grind (arith, nat_tests, frame_filling, unit_filling)

pub lying : LiesApart
lying = (lies, λ bs o u k w e h. as_cut_is bs o u k e w h)
