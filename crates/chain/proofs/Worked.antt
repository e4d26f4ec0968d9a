-- The example.
use Rattle.std.proofs.Common.{◌≡◌, ℕ, ◌/◌, ◌^◌, ◌<◌, List, [], ◌∷◌, length, replicate, refl, sym, subst, arith}
use Rattle.chain.specs.Example.{old, other, two, none, young, two_on_board, ExampleStands, ExampleOnBoard}
use Rattle.chain.specs.Ring.{Stands, inserted}
use Rattle.rights.specs.World.{cap}
use Rattle.chain.specs.Entries.{run, beyond}
use Rattle.chain.proofs.Kept.{roots_stand, insert_keeps}
use Rattle.chain.proofs.Tied.{In, Writes, writes_joined, then_writes, all_still}
use Rattle.chain.proofs.Boarded.{insert_on_board}
use Rattle.chain.specs.OnBoard.{AllThere, Carries}
use Rattle.chain.specs.Bytes as bytes
use Rattle.chain.specs.Ring as ring
use Rattle.board.specs.Words.{word}
use Rattle.board.specs.Links.{cell}

roots : Stands [] 2 two (old ∷ other ∷ [])
roots =
    roots_stand 2 two (old ∷ other ∷ []) (refl, (refl, tt)) (omega arith, (omega arith, tt)) ((λ e. omega arith, tt), (tt, tt)) ((λ e. omega arith, tt), (tt, tt))
    (((refl, refl), (refl, refl)), (refl, (refl, tt)))

three : Stands (cap 0 none 0 3 1 ∷ []) 3 (inserted two 3 5) (old ∷ young ∷ other ∷ [])
three = (insert_keeps [] 2 two [] old (other ∷ []) 5 0 0 none roots (λ e. omega arith, (λ e. omega arith, tt))).0

pub example_stands : ExampleStands
unfolding run beyond
example_stands = (
  (insert_keeps (cap 0 none 0 3 1 ∷ []) 3 (inserted two 3 5) (old ∷ []) young (other ∷ []) 4 0 0 none three (λ e. omega arith, (λ e. omega arith, (λ e. omega arith, tt)))).0,
  (λ e. omega arith, (λ e. omega arith, (λ e. omega arith, (λ e. omega arith, tt)))),
  refl,
  refl,
)

-- on the board
abbrev blank : List ℕ
blank = replicate 576 0

abbrev both : List ℕ
both = 3 ∷ 5 ∷ 7 ∷ []

lies : AllThere blank both
lies = (refl, (refl, (refl, tt)))

in_both_3 : In both 3
in_both_3 P h = h.0

in_both_7 : In both 7
in_both_7 P h = h.1.1.0

first_join : Writes both blank (bytes.joined blank 3 7) (ring.joined (cell blank) 3 7)
first_join = writes_joined both blank 3 7 lies in_both_3 in_both_7

second_join : Writes both blank two_on_board (ring.joined (ring.joined (cell blank) 3 7) 7 3)
second_join = then_writes (λ f. ring.joined f 7 3) first_join (writes_joined both (bytes.joined blank 3 7) 7 3 (all_still first_join.only both lies) in_both_7 in_both_3)

two_lies : AllThere two_on_board both
two_lies = all_still second_join.only both lies

flat : ((cell blank 3).depth ≡ 0) × ((cell blank 7).depth ≡ 0)
unfolding word
flat = (refl, refl)

two_carried : Carries [] 2 two_on_board (old ∷ other ∷ [])
two_carried =
    record {
      stands =
          subst (λ f. Stands [] 2 f (old ∷ other ∷ [])) (sym second_join.cells)
          (roots_stand 2 (ring.joined (ring.joined (cell blank) 3 7) 7 3) (old ∷ other ∷ []) (refl, (refl, tt)) (omega arith, (omega arith, tt)) ((λ e. omega arith, tt), (tt, tt))
          ((λ e. omega arith, tt), (tt, tt)) (((refl, refl), (refl, refl)), (flat.0, (flat.1, tt))));
      lies = (two_lies.0, (two_lies.1.1.0, tt));
    }

pub example_on_board : ExampleOnBoard
example_on_board =
    let long : length two_on_board ≡ 576 = second_join.only.long in
    let few : length two_on_board / 64 < 2 ^ 32 = omega arith in
    (two_carried, few, two_lies.1.0, (insert_on_board [] 2 two_on_board [] old (other ∷ []) 5 0 0 none few two_carried (λ e. omega arith, (λ e. omega arith, tt)) two_lies.1.0).0)
