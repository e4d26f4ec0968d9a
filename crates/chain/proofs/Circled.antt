-- What each call does to the ring in memory, places and depths.
use Rattle.std.proofs.Common.{◌≡◌, ℕ, ◌≤◌, ◌≢◌, List, [], ◌∷◌, ◌++◌, length, length-append, refl, sym, ap, subst, ◌∙◌, arith}
use Rattle.std.specs.List.{AllByRecursion}
use Rattle.chain.specs.Entries.{Entry, places, run, beyond, raised, moved, Steps, Apart}
use Rattle.board.specs.Links.{Cell, set_depth}
use Rattle.chain.specs.Ring.{Ring, Depths, Circle, joined, placed, bypassed, shifted, passed, stop, raise, taken_out, swept}
use Rattle.chain.proofs.Lists.{all_swap, all_back, more_apart, more_places, places_append, places_turned, keep, sub_all, sub_apart, sub_places}
use Rattle.chain.proofs.Runs.{run_beyond, run_root, beyond_root, raised_root, places_raised, sub_beyond, steps_front}
use Rattle.chain.proofs.Linked.{at_same, first_or, leads_like, ring_turn, ring_placed, ring_cut, ring_bypassed}
use Rattle.chain.proofs.Walked.{walk_passes, raise_like, raise_depths, depths_else}

pub circle_turn : (mem : ℕ → Cell) (a b : List Entry) → Circle mem (a ++ b) → Circle mem (b ++ a)
circle_turn mem a b c = (
  subst (λ l. Ring mem l) (sym (places_append b a)) (ring_turn mem (places a) (places b) (subst (λ l. Ring mem l) (places_append a b) c.0)),
  all_swap (λ e. (mem e.place).depth ≡ e.depth) a b c.1,
)

-- what holds of all places of a ring holds of them from x round
pub round : (P : ℕ → Type 0) (a : List Entry) (x : Entry) (b : List Entry) → AllByRecursion P (places (a ++ x ∷ b)) → AllByRecursion P (places (x ∷ b ++ a))
round P a x b h = subst (λ l. AllByRecursion P l) (sym (places_append (x ∷ b) a)) (all_swap P (places a) (places (x ∷ b)) (subst (λ l. AllByRecursion P l) (places_append a (x ∷ b)) h))

-- where a ring is split, its depth at the split is that slot's
pub depth_at : (mem : ℕ → Cell) (a : List Entry) (x : Entry) (b : List Entry) → Circle mem (a ++ x ∷ b) → (mem x.place).depth ≡ x.depth
depth_at mem a x b c = (all_back (λ e. (mem e.place).depth ≡ e.depth) a (x ∷ b) c.1).0

-- n goes in after x
pub circle_placed : (mem : ℕ → Cell) (a : List Entry) (x n : Entry) (b : List Entry) → Apart (places (a ++ x ∷ b)) → AllByRecursion (λ c. n.place ≢ c) (places (a ++ x ∷ b)) → Circle mem (a ++ x ∷ b) →
    Circle (placed mem x.place n.place n.depth) (a ++ x ∷ n ∷ b)
circle_placed mem a x n b u f c =
    let t = circle_turn mem a (x ∷ b) c in
    let f' = round (λ c. n.place ≢ c) a x b f in
    let tied : ℕ → Cell = joined (joined mem n.place (mem x.place).next) x.place n.place in
    let new : ℕ → Cell = set_depth tied n.place n.depth in
    let k : Depths new (x ∷ b ++ a) = depths_else tied n.place n.depth (x ∷ b ++ a) f' t.1 in
    circle_turn new (x ∷ n ∷ b) a (
      leads_like tied new (λ i. refl) (λ i. refl) x.place (n.place ∷ places (b ++ a)) x.place (ring_placed mem x.place n.place (places (b ++ a)) (places_turned a (x ∷ b) u) f' t.0),
      (k.0, (at_same n.place n.place n.depth _ refl, k.1)),
    )

-- x goes out
pub circle_bypassed : (mem : ℕ → Cell) (a : List Entry) (x : Entry) (b : List Entry) → Apart (places (a ++ x ∷ b)) → Circle mem (a ++ x ∷ b) → Circle (bypassed mem x.place) (a ++ b)
circle_bypassed mem a x b u c =
    let t = circle_turn mem a (x ∷ b) c in
    circle_turn (bypassed mem x.place) b a (ring_bypassed mem x.place (places (b ++ a)) (places_turned a (x ∷ b) u) t.0, t.1.1)

-- another slot goes in beside x, as deep, and then x goes out
pub circle_beside : (mem : ℕ → Cell) (d : ℕ) (a : List Entry) (x : Entry) (b : List Entry) → Apart (places (a ++ x ∷ b)) → AllByRecursion (λ c. d ≢ c) (places (a ++ x ∷ b)) → Circle mem (a ++ x ∷ b) →
    Circle (placed mem x.place d (mem x.place).depth) (a ++ x ∷ moved d x ∷ b)
circle_beside mem d a x b u f c = subst (λ k. Circle (placed mem x.place d k) (a ++ x ∷ moved d x ∷ b)) (sym (depth_at mem a x b c)) (circle_placed mem a x (moved d x) b u f c)

pub circle_shifted : (mem : ℕ → Cell) (d : ℕ) (a : List Entry) (x : Entry) (b : List Entry) → Apart (places (a ++ x ∷ b)) → AllByRecursion (λ c. d ≢ c) (places (a ++ x ∷ b)) → Circle mem (a ++ x ∷ b) →
    Circle (shifted mem x.place d) (a ++ moved d x ∷ b)
circle_shifted mem d a x b u f c =
    circle_bypassed (placed mem x.place d (mem x.place).depth) a x (moved d x ∷ b) (more_apart (more_places a x (moved d x) b) f u) (circle_beside mem d a x b u f c)

-- what a walk from x has before it, all other slots, can be read as what follows x alone
module _ (mem : ℕ → Cell) (n : ℕ) (a : List Entry) (x : Entry) (b : List Entry) (steps : Steps 0 (a ++ x ∷ b)) (u : Apart (places (a ++ x ∷ b))) (h : length (a ++ x ∷ b) ≤ n) (c : Circle mem (a ++ x ∷ b)) where
  few : length (b ++ a) ≤ n
  few = omega (arith, length-append b a, length-append a (x ∷ b))

  walked : (passed n mem x.place x.depth (mem x.place).next ≡ places (run x.depth (b ++ a))) × (stop n mem x.place x.depth (mem x.place).next ≡ first_or (places (beyond x.depth (b ++ a))) x.place)
  walked =
      let t = circle_turn mem a (x ∷ b) c in
      walk_passes x.place x.depth mem n x.place (b ++ a) t.0 t.1.1 (places_turned a (x ∷ b) u).0 few

  -- the walk passes the run
  pub walk_run : passed n mem x.place (mem x.place).depth (mem x.place).next ≡ places (run x.depth b)
  walk_run =
      subst (λ k. passed n mem x.place k (mem x.place).next ≡ places (run x.depth b)) (sym (depth_at mem a x b c))
      (walked.0 ∙ ap places (run_root x.depth b a (steps_front 0 a (x ∷ b) steps)))

  -- and where it stops
  stop_at : stop n mem x.place (mem x.place).depth (mem x.place).next ≡ first_or (places (beyond x.depth (b ++ a))) x.place
  stop_at = subst (λ k. stop n mem x.place k (mem x.place).next ≡ first_or (places (beyond x.depth (b ++ a))) x.place) (sym (depth_at mem a x b c)) walked.1

  pub stop_within : (P : ℕ → Type 0) → AllByRecursion P (places (a ++ x ∷ b)) → P (stop n mem x.place (mem x.place).depth (mem x.place).next)
  stop_within P f =
      let t = round P a x b f in
      subst P (sym stop_at) (pick_first (beyond x.depth (b ++ a)) (sub_all P (sub_places (sub_beyond x.depth (b ++ a))) t.1) t.0)
    where
      pick_first : (l : List Entry) → AllByRecursion P (places l) → P x.place → P (first_or (places l) x.place)
      pick_first [] h k = k
      pick_first (y ∷ l) h k = h.0

  -- revoke
  pub circle_swept : Circle (swept n mem x.place) (a ++ x ∷ beyond x.depth b)
  circle_swept =
      let t = circle_turn mem a (x ∷ b) c in
      let l : List Entry = b ++ a in
      let far : List Entry = beyond x.depth l in
      let v = places_turned a (x ∷ b) u in
      let new : ℕ → Cell = joined mem x.place (first_or (places far) x.place) in
      let parts : places l ≡ places (run x.depth l) ++ places far = ap places (sym (run_beyond x.depth l)) ∙ places_append (run x.depth l) far in
      let ring : Ring new (x.place ∷ places far) =
      ring_cut mem x.place (places (run x.depth l)) (places far) (sub_apart (sub_places (keep {x = x} (sub_beyond x.depth l))) v) (subst (λ m. Ring mem (x.place ∷ m)) parts t.0) in
      let circle : Circle new (x ∷ far) = (ring, (t.1.0, sub_all (λ e. (mem e.place).depth ≡ e.depth) (sub_beyond x.depth l) t.1.1)) in
      let turned : Circle new (a ++ x ∷ beyond x.depth b) = circle_turn new (x ∷ beyond x.depth b) a (subst (λ m. Circle new (x ∷ m)) (beyond_root x.depth b a (steps_front 0 a (x ∷ b) steps)) circle) in
      subst (λ q. Circle (joined mem x.place q) (a ++ x ∷ beyond x.depth b)) (sym stop_at) turned

  -- drop
  pub circle_taken : Circle (taken_out n mem x.place) (a ++ raised x.depth b)
  circle_taken =
      let t = circle_turn mem a (x ∷ b) c in
      let l : List Entry = b ++ a in
      let v = places_turned a (x ∷ b) u in
      let low : ℕ → Cell = raise n mem x.place x.depth (mem x.place).next in
      let like = λ (k : ℕ). raise_like x.place x.depth n mem (mem x.place).next k in
      let ring : Ring low (x.place ∷ places l) = leads_like mem low (λ k. (like k).0) (λ k. (like k).1) x.place (places l) x.place t.0 in
      let depths : Depths low (raised x.depth l) = raise_depths x.place x.depth n mem x.place l t.0 t.1.1 v.0 v.1 few in
      let circle : Circle (bypassed low x.place) (raised x.depth l) = (subst (λ m. Ring (bypassed low x.place) m) (sym (places_raised x.depth l)) (ring_bypassed low x.place (places l) v ring), depths) in
      let turned : Circle (bypassed low x.place) (a ++ raised x.depth b) =
      circle_turn (bypassed low x.place) (raised x.depth b) a (subst (λ m. Circle (bypassed low x.place) m) (raised_root x.depth b a (steps_front 0 a (x ∷ b) steps)) circle) in
      subst (λ k. Circle (bypassed (raise n mem x.place k (mem x.place).next) x.place) (a ++ raised x.depth b)) (sym (depth_at mem a x b c)) turned
