-- The laws on the board.
use Rattle.std.proofs.Common.{◌&&◌, ◌≡◌, ℕ, suc, ◌+◌, ◌*◌, ◌^◌, ◌<◌, ◌≤◌, ◌≢◌, true, false, nat_lt, nat_le, min, inl, inr, length-append, ap₂, ◌-◌, List, [], ◌∷◌, ◌++◌, length, eqb, refl, sym, ap, subst, ◌∙◌, arith, ltb-true, leb-true, eqb-true, ne_eqb}
use Rattle.std.specs.List.{AllByRecursion, IsDistinct, list_any}
use Rattle.std.proofs.lemmas.Bool.{or_cases, and_parts}
use Rattle.std.proofs.lemmas.Map.Steps.{length-le_from_distinct_below}
use Rattle.rights.specs.World.{Slot, cap}
use Rattle.board.specs.Words.{there}
use Rattle.board.specs.Links.{Cell, cell}
use Rattle.chain.specs.Entries.{Entry, places, run, beyond, raised, moved, child, Apart}
use Rattle.chain.specs.Ring as ring
use Rattle.chain.specs.Ring.{Stands, Circle}
use Rattle.chain.specs.Bytes.{units, joined, placed, inserted, shifted, raise, taken_out, empty, swept}
use Rattle.chain.specs.OnBoard.{AllThere, Carries, OnlyThese, InsertOnBoard, MoveOnBoard, TakeOutOnBoard, SweepOnBoard, LinksDecide, RunLengths}
use Rattle.chain.proofs.Lists.{all_weaker, all_front, places_append, more_all, more_places, sub_all, sub_places, at_place}
use Rattle.chain.proofs.Taken.{places_taken, swept_sub}
use Rattle.chain.proofs.Moved.{all_moved}
use Rattle.chain.proofs.Runs.{run_beyond}
use Rattle.chain.proofs.Turns.{passed_most}
use Rattle.chain.proofs.Walked.{raise_like}
use Rattle.chain.proofs.Circled.{depth_at, circle_turn, circle_beside, round, stop_within}
use Rattle.chain.proofs.Kept.{insert_keeps, move_keeps, take_out_keeps, sweep_keeps, depth_bound, beside}
use Rattle.chain.proofs.Tied.{Writes, all_still, only_more, writes_joined, writes_placed, writes_bypassed, writes_raised, Empties, empties, then_writes}

-- places on the board that differ are no more than its units
one_of : (P : ℕ → Type 0) (q : ℕ) (l : List ℕ) → AllByRecursion P l → list_any (eqb q) l ≡ true → P q
one_of P q [] h e = cc
one_of P q (x ∷ l) h e = elim (or_cases (eqb q x) (list_any (eqb q) l) e) [ inl i ↦ subst P (sym (eqb-true q x i)) h.0 | inr i ↦ one_of P q l h.1 i ]

distinct : (l : List ℕ) → Apart l → IsDistinct eqb l
unfolding IsDistinct
distinct [] u = tt
distinct (x ∷ l) u = (all_weaker (λ y. x ≢ y) (λ y. eqb x y ≡ false) (λ y n. ne_eqb x y n) l u.0, distinct l u.1)

-- from 1 up to the number of units
counted : (m : List ℕ) (p : ℕ) → there m p ≡ true → (0 < p) × (p ≤ units m)
counted m p t =
    let low : 0 < p = ltb-true 0 p (and_parts (nat_lt 0 p) (nat_le (64 * p) (length m)) t).0 in
    let high : 64 * p ≤ length m = leb-true (64 * p) (length m) (and_parts (nat_lt 0 p) (nat_le (64 * p) (length m)) t).1 in
    (low, omega arith)

few_places : (m : List ℕ) (l : List ℕ) → AllThere m l → Apart l → length l ≤ units m
few_places m l t u =
    let near : AllByRecursion (λ p. (0 < p) × (p ≤ units m)) l = all_weaker (λ p. there m p ≡ true) (λ p. (0 < p) × (p ≤ units m)) (counted m) l t in
    let low : AllByRecursion (λ p. p < suc (units m)) (0 ∷ l) = (omega arith, all_weaker (λ p. (0 < p) × (p ≤ units m)) (λ p. p < suc (units m)) (λ p h. let k = h.1 in omega arith) l near) in
    let apart : Apart (0 ∷ l) = (all_weaker (λ p. (0 < p) × (p ≤ units m)) (λ p. 0 ≢ p) (λ p h e. let k = h.0 in omega arith) l near, u) in
    let most = length-le_from_distinct_below (0 ∷ l) (suc (units m)) (distinct (0 ∷ l) apart) (λ q e. one_of (λ p. p < suc (units m)) q (0 ∷ l) low e) in
    omega arith

length_places : (l : List Entry) → length (places l) ≡ length l
length_places [] = refl
length_places (x ∷ l) = ap suc (length_places l)

-- so the ring has no more slots than the board has units
few : (lineage : List Slot) (top : ℕ) (m : List ℕ) (l : List Entry) → Carries lineage top m l → length l ≤ units m
few lineage top m l c = let most = few_places m (places l) c.lies c.stands.chain.apart in let e = length_places l in omega arith

pub insert_on_board : InsertOnBoard
insert_on_board lin top m a x b d u g r small c f t =
    let ps : List ℕ = d ∷ places (a ++ x ∷ b) in
    let n : Entry = child x d (suc top) in
    let circle = c.stands.circle in
    let v : ℕ = min ((cell m x.place).depth + 1) (2 ^ 32 - 1) in
    let w : Writes ps m (inserted m x.place d) (ring.placed (cell m) x.place d v) =
    writes_placed ps m x.place d v (t, c.lies) (λ P h. at_place P a x b h.1) (λ P h. h.0) (λ P h. (beside P (cell m) a x b circle h.1).0) in
    let most = few lin top m (a ++ x ∷ b) c in
    let deep = depth_bound lin top (cell m) a x b c.stands in
    let same = depth_at (cell m) a x b circle in
    let all = length-append a (x ∷ b) in
    let e : v ≡ suc (cell m x.place).depth = omega arith in
    let cells : cell (inserted m x.place d) ≡ ring.inserted (cell m) x.place d = w.cells ∙ ap (λ k. ring.placed (cell m) x.place d k) e in
    let law = insert_keeps lin top (cell m) a x b d u g r c.stands f in
    let lies = all_still w.only ps (t, c.lies) in (
      record {
        stands = subst (λ h. Stands (cap u r g (suc top) x.birth ∷ lin) (suc top) h (a ++ x ∷ n ∷ b)) (sym cells) law.0;
        lies = more_all (λ p. there (inserted m x.place d) p ≡ true) (more_places a x n b) lies.0 lies.1;
      },
      w.only,
    )

pub move_on_board : MoveOnBoard
move_on_board lin top m a x b d c f t =
    let ps : List ℕ = d ∷ places (a ++ x ∷ b) in
    let circle = c.stands.circle in
    let v : ℕ = (cell m x.place).depth in
    let one : List ℕ = placed m x.place d v in
    let w : Writes ps m one (ring.placed (cell m) x.place d v) =
    writes_placed ps m x.place d v (t, c.lies) (λ P h. at_place P a x b h.1) (λ P h. h.0) (λ P h. (beside P (cell m) a x b circle h.1).0) in
    let two : Circle (cell one) (a ++ x ∷ moved d x ∷ b) = subst (λ h. Circle h (a ++ x ∷ moved d x ∷ b)) (sym w.cells) (circle_beside (cell m) d a x b c.stands.chain.apart f circle) in
    let near = λ (P : ℕ → Type 0) (h : AllByRecursion P ps). beside P (cell one) a x (moved d x ∷ b) two (more_all P (more_places a x (moved d x) b) h.0 h.1) in
    let out : Writes ps m (shifted m x.place d) (ring.shifted (cell m) x.place d) =
    then_writes (λ h. ring.bypassed h x.place) w (writes_bypassed ps one x.place (all_still w.only ps (t, c.lies)) (λ P h. (near P h).1) (λ P h. (near P h).0)) in
    let law = move_keeps lin top (cell m) a x b d c.stands f in
    let lies = all_still out.only ps (t, c.lies) in (
      record {
        stands = subst (λ h. Stands lin top h (a ++ moved d x ∷ b)) (sym out.cells) law.0;
        lies = all_moved (λ p. there (shifted m x.place d) p ≡ true) d a x b lies.0 lies.1;
      },
      out.only,
    )

pub take_out_on_board : TakeOutOnBoard
take_out_on_board lin top m a x b c =
    let ps : List ℕ = places (a ++ x ∷ b) in
    let n : ℕ = units m in
    let s : ℕ = x.place in
    let d : ℕ = (cell m s).depth in
    let low : List ℕ = raise n m s d (cell m s).next in
    let circle = c.stands.circle in
    let w : Writes ps m low (ring.raise n (cell m) s d (cell m s).next) =
    writes_raised ps n s d m s (places (b ++ a)) c.lies (λ P h. (round P a x b h).1) (circle_turn (cell m) a (x ∷ b) circle).0 in
    let like = raise_like s d n (cell m) (cell m s).next s in
    let next : (cell low s).next ≡ (cell m s).next = ap (λ h. (h s).next) w.cells ∙ like.0 in
    let prev : (cell low s).prev ≡ (cell m s).prev = ap (λ h. (h s).prev) w.cells ∙ like.1 in
    let near = λ (P : ℕ → Type 0) (h : AllByRecursion P ps). beside P (cell m) a x b circle h in
    let out : Writes ps m (taken_out m s) (ring.taken_out n (cell m) s) =
    then_writes (λ h. ring.bypassed h s) w
    (writes_bypassed ps low s (all_still w.only ps c.lies) (λ P h. subst P (sym prev) (near P h).1) (λ P h. subst P (sym next) (near P h).0)) in
    let law = take_out_keeps lin top n (cell m) a x b c.stands (few lin top m (a ++ x ∷ b) c) in (
      record {
        stands = subst (λ h. Stands lin top h (a ++ raised x.depth b)) (sym out.cells) law.0;
        lies = sub_all (λ p. there (taken_out m s) p ≡ true) (places_taken a x b) (all_still out.only ps c.lies);
      },
      out.only,
    )

pub sweep_on_board : SweepOnBoard
sweep_on_board lin top m a x b c =
    let ps : List ℕ = places (a ++ x ∷ b) in
    let n : ℕ = units m in
    let s : ℕ = x.place in
    let d : ℕ = (cell m s).depth in
    let most = few lin top m (a ++ x ∷ b) c in
    let law = sweep_keeps lin top n (cell m) a x b c.stands most in
    let gone : List ℕ = places (run x.depth b) in
    let among_them = λ (P : ℕ → Type 0) (h : AllByRecursion P ps). subst (λ l. AllByRecursion P l) (sym law.0) (run_within P a x b h) in
    let e : Empties ps n s d m (cell m s).next = empties ps n s d m (cell m s).next c.lies among_them in
    let clean : List ℕ = (empty n m s d (cell m s).next).0 in
    let end : ℕ = (empty n m s d (cell m s).next).1 in
    let chain = c.stands.chain in
    let w : Writes ps clean (joined clean s end) (ring.joined (cell clean) s end) =
    writes_joined ps clean s end (all_still e.only ps c.lies) (λ P h. at_place P a x b h)
    (λ P h. subst P (sym e.end) (stop_within (cell m) n a x b chain.steps chain.apart most c.stands.circle P h)) in
    let cells : cell (swept m s) ≡ ring.swept n (cell m) s = w.cells ∙ ap₂ (λ h q. ring.joined h s q) e.cells e.end in
    let only : OnlyThese ps (ring.passed n (cell m) s d (cell m s).next) m (swept m s) = only_more e.only w.only in (
      record {
        stands = subst (λ h. Stands lin top h (a ++ x ∷ beyond x.depth b)) (sym cells) law.1;
        lies = sub_all (λ p. there (swept m s) p ≡ true) (sub_places (swept_sub a x b)) (all_still only ps c.lies);
      },
      subst (λ l. OnlyThese ps l m (swept m s)) law.0 only,
    )
  where
    run_within : (P : ℕ → Type 0) (a : List Entry) (x : Entry) (b : List Entry) → AllByRecursion P (places (a ++ x ∷ b)) → AllByRecursion P (places (run x.depth b))
    run_within P [] x b h =
        let all : AllByRecursion P (places (run x.depth b ++ beyond x.depth b)) = subst (λ l. AllByRecursion P (places l)) (sym (run_beyond x.depth b)) h.1 in
        all_front P (places (run x.depth b)) (places (beyond x.depth b)) (subst (λ l. AllByRecursion P l) (places_append (run x.depth b) (beyond x.depth b)) all)
    run_within P (y ∷ a) x b h = run_within P a x b h.1

-- the links of a ring are those of its places
leads_at : (mem new : ℕ → Cell) (p : ℕ) (l : List ℕ) (q : ℕ) → new p ≡ mem p → AllByRecursion (λ k. new k ≡ mem k) l → new q ≡ mem q → ring.Leads mem p l q → ring.Leads new p l q
leads_at mem new p [] q a h b g = (ap (λ c. c.next) a ∙ g.0, ap (λ c. c.prev) b ∙ g.1)
leads_at mem new p (e ∷ l) q a h b g = ((ap (λ c. c.next) a ∙ g.0.0, ap (λ c. c.prev) h.0 ∙ g.0.1), leads_at mem new e l q h.0 h.1 b g.1)

ring_at : (mem new : ℕ → Cell) (l : List ℕ) → AllByRecursion (λ k. new k ≡ mem k) l → ring.Ring mem l → ring.Ring new l
ring_at mem new [] h g = tt
ring_at mem new (a ∷ l) h g = leads_at mem new a l a h.0 h.1 h.0 g

depths_at : (mem new : ℕ → Cell) (l : List Entry) → AllByRecursion (λ k. new k ≡ mem k) (places l) → ring.Depths mem l → ring.Depths new l
depths_at mem new [] h g = tt
depths_at mem new (e ∷ l) h g = (ap (λ c. c.depth) h.0 ∙ g.0, depths_at mem new l h.1 g.1)

pub links_decide : LinksDecide
links_decide lin top m n l c long h =
    record {
      stands =
          record {
            orderly = c.stands.orderly;
            chain = c.stands.chain;
            circle = (ring_at (cell m) (cell n) (places l) h c.stands.circle.0, depths_at (cell m) (cell n) l h c.stands.circle.1);
          };
      lies = all_weaker (λ p. there m p ≡ true) (λ p. there n p ≡ true) (λ p t. ap (λ k. nat_lt 0 p && nat_le (64 * p) k) long ∙ t) (places l) c.lies;
    }

pub run_lengths : RunLengths
run_lengths = (
  λ lin top m a x b c.
      ap length (sweep_keeps lin top (units m) (cell m) a x b c.stands (few lin top m (a ++ x ∷ b) c)).0 ∙ length_places (run x.depth b),
  λ m s. passed_most (units m) (cell m) s (cell m s).depth (cell m s).next,
)
