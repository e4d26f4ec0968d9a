-- The laws: each call keeps the ring, and changes no cell but those named.
use Rattle.std.proofs.Common.{◌≡◌, ℕ, suc, ◌≤◌, ◌≢◌, List, [], ◌∷◌, ◌++◌, refl, sym, subst, ◌∙◌, arith, ne_eqb}
use Rattle.std.specs.List.{AllByRecursion}
use Rattle.rights.specs.World.{cap}
use Rattle.chain.specs.Entries.{Entry, places, child, moved}
use Rattle.chain.specs.Lineage.{Comes}
use Rattle.board.specs.Links.{Cell, set_depth}
use Rattle.chain.specs.Ring.{Circle, Only, joined, placed, bypassed, raise, stop}
use Rattle.chain.specs.Laws.{RootsStand, InsertKeeps, MoveKeeps, TakeOutKeeps, SweepKeeps, RunIsOffspring, DepthBound}
use Rattle.chain.proofs.Lists.{at_birth, at_place, more_all, more_places}
use Rattle.chain.proofs.Taken.{chain_taken, chain_swept, offspring}
use Rattle.chain.proofs.Inserted.{chain_inserted}
use Rattle.chain.proofs.Moved.{chain_moved, chain_roots, depth_most}
use Rattle.chain.proofs.Born.{comes_other, comes_none, orderly_more, grown}
use Rattle.chain.proofs.Linked.{joined_else, all_beside}
use Rattle.chain.proofs.Walked.{raise_like, raise_else}
use Rattle.chain.proofs.Circled.{circle_turn, circle_placed, circle_beside, circle_shifted, round, circle_swept, circle_taken, depth_at, walk_run, stop_within}

pub roots_stand : RootsStand
roots_stand top mem ring h g u v c =
    record {
      orderly = λ m c i. absurd i;
      chain = chain_roots (Comes []) comes_none top ring h g u v;
      circle = c;
    }

-- what holds of all places of a ring holds of the places beside one of them
pub beside : (P : ℕ → Type 0) (mem : ℕ → Cell) (a : List Entry) (x : Entry) (b : List Entry) → Circle mem (a ++ x ∷ b) → AllByRecursion P (places (a ++ x ∷ b)) → P (mem x.place).next × P (mem x.place).prev
beside P mem a x b c h =
    all_beside P mem x.place (places (b ++ a)) (circle_turn mem a (x ∷ b) c).0 (round P a x b h)

set_depth_else : (mem : ℕ → Cell) (p v k : ℕ) → k ≢ p → set_depth mem p v k ≡ mem k
set_depth_else mem p v k n = rw (ne_eqb k p n) refl

placed_only : (mem : ℕ → Cell) (a : List Entry) (x : Entry) (b : List Entry) (d v : ℕ) → Circle mem (a ++ x ∷ b) → Only (d ∷ places (a ++ x ∷ b)) mem (placed mem x.place d v)
placed_only mem a x b d v c = (
  λ k o.
      let near = beside (λ p. k ≢ p) mem a x b c o.1 in
      let q : ℕ = (mem x.place).next in
      set_depth_else (joined (joined mem d q) x.place d) d v k o.0 ∙ joined_else (joined mem d q) x.place d k (at_place (λ p. k ≢ p) a x b o.1) o.0 ∙ joined_else mem d q k o.0 near.0,
  λ k. refl,
)

bypassed_only : (mem : ℕ → Cell) (a : List Entry) (x : Entry) (b : List Entry) → Circle mem (a ++ x ∷ b) → Only (places (a ++ x ∷ b)) mem (bypassed mem x.place)
bypassed_only mem a x b c = (λ k o. let near = beside (λ p. k ≢ p) mem a x b c o in joined_else mem (mem x.place).prev (mem x.place).next k near.1 near.0, λ k. refl)

pub insert_keeps : InsertKeeps
insert_keeps lin top mem a x b d u g r h f =
    let known : x.birth ≤ top = at_birth (λ c. c ≤ top) a x b h.chain.given in
    let n : Entry = child x d (suc top) in
    let e = depth_at mem a x b h.circle in (
      record {
        orderly = orderly_more top lin h.orderly x.birth u g r known;
        chain = chain_inserted (Comes lin) (Comes (cap u r g (suc top) x.birth ∷ lin)) x n (grown top lin h.orderly x.birth u g r known) refl top a b refl f h.chain;
        circle = subst (λ v. Circle (placed mem x.place d (suc v)) (a ++ x ∷ n ∷ b)) (sym e) (circle_placed mem a x n b h.chain.apart f h.circle);
      },
      placed_only mem a x b d (suc (mem x.place).depth) h.circle,
    )

pub move_keeps : MoveKeeps
move_keeps lin top mem a x b d h f =
    let new : ℕ → Cell = placed mem x.place d (mem x.place).depth in
    let first = placed_only mem a x b d (mem x.place).depth h.circle in
    let circle : Circle new (a ++ x ∷ moved d x ∷ b) = circle_beside mem d a x b h.chain.apart f h.circle in
    let second = bypassed_only new a x (moved d x ∷ b) circle in (
      record { orderly = h.orderly; chain = chain_moved (Comes lin) d top a x b f h.chain; circle = circle_shifted mem d a x b h.chain.apart f h.circle },
      (λ k o. second.0 k (more_all (λ p. k ≢ p) (more_places a x (moved d x) b) o.0 o.1) ∙ first.0 k o, λ k. refl),
    )

pub take_out_keeps : TakeOutKeeps
take_out_keeps lin top n mem a x b h few =
    let low : ℕ → Cell = raise n mem x.place (mem x.place).depth (mem x.place).next in
    let like = λ (k : ℕ). raise_like x.place (mem x.place).depth n mem (mem x.place).next k in
    let t = circle_turn mem a (x ∷ b) h.circle in (
      record { orderly = h.orderly; chain = chain_taken (Comes lin) top a x b h.chain; circle = circle_taken mem n a x b h.chain.steps h.chain.apart few h.circle },
      (
        λ k o.
            let near = beside (λ p. k ≢ p) mem a x b h.circle o in
            let around = round (λ p. k ≢ p) a x b o in
            joined_else low (low x.place).prev (low x.place).next k (λ e. near.1 (e ∙ (like x.place).1)) (λ e. near.0 (e ∙ (like x.place).0)) ∙
            raise_else x.place (mem x.place).depth n mem x.place k (places (b ++ a)) t.0 around.1,
        λ k. (like k).2,
      ),
    )

pub sweep_keeps : SweepKeeps
sweep_keeps lin top n mem a x b h few = (
  walk_run mem n a x b h.chain.steps h.chain.apart few h.circle,
  record { orderly = h.orderly; chain = chain_swept (Comes lin) top a x b h.chain; circle = circle_swept mem n a x b h.chain.steps h.chain.apart few h.circle },
  (
    λ k o.
        joined_else mem x.place (stop n mem x.place (mem x.place).depth (mem x.place).next) k (at_place (λ p. k ≢ p) a x b o)
        (stop_within mem n a x b h.chain.steps h.chain.apart few h.circle (λ p. k ≢ p) o),
    λ k. refl,
  ),
)

pub run_is_offspring : RunIsOffspring
run_is_offspring lin top mem a x b h = offspring (Comes lin) top a x b h.chain (comes_other top lin h.orderly x.birth)

pub depth_bound : DepthBound
depth_bound lin top mem a x b h = let most = depth_most 0 a x b h.chain.steps in omega arith
