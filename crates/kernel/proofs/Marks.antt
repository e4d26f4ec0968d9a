-- What stands where in the ring, by place.
use mathlib.Core.Path.{◌≡◌, refl, sym, ap, subst, ◌∙◌}
use mathlib.Core.Bool.{true, false}
use mathlib.Core.List.{List, [], ◌∷◌, ◌++◌}
use mathlib.Core.Logic.{◌≢◌}
use Prim.Native.Nat.{ℕ, suc}
use native.Mathlib.Omega.{arith}
use lib.Dec.{eqb}
use borrow.Author.Tests.{ne_eqb, eq-eqb}
use Rattle.rights.specs.World.{pick, among}
use Rattle.board.specs.Slots.{upd}
use Rattle.chain.specs.Entries.{Entry, places, births, raised, moved, Apart}
use Rattle.chain.specs.Laws.{Outside}
use Rattle.chain.proofs.Lists.{at_place, skip, sub_self, sub_after, sub_places, sub_apart}
use Rattle.chain.proofs.Runs.{places_raised, births_raised}
use Rattle.laws.proofs.Tests.{same_or_not, either_way, clash}
use Rattle.kernel.specs.Relation.{mark_at}

pub pick_same : {A : Type 0} → (k a : ℕ) (v w : A) → k ≡ a → pick (eqb k a) v w ≡ v
pick_same k a v w e = rw (eq-eqb k a e) refl

pub pick_other : {A : Type 0} → (k a : ℕ) (v w : A) → k ≢ a → pick (eqb k a) v w ≡ w
pick_other k a v w n = rw (ne_eqb k a n) refl

mark_here : (e : Entry) (l : List Entry) (p : ℕ) → p ≡ e.place → mark_at (e ∷ l) p ≡ suc e.birth
unfolding mark_at
mark_here e l p h = pick_same p e.place _ _ h

mark_there : (e : Entry) (l : List Entry) (p : ℕ) → p ≢ e.place → mark_at (e ∷ l) p ≡ mark_at l p
unfolding mark_at
mark_there e l p h = pick_other p e.place _ _ h

-- the entry at a place
pub record Found (ring : List Entry) (p b : ℕ) : Type 0 where
  pub before : List Entry
  pub here : Entry
  pub after : List Entry
  pub is : ring ≡ before ++ here ∷ after
  pub place : here.place ≡ p
  pub birth : here.birth ≡ b

pub mark_found : (l : List Entry) (p b : ℕ) → mark_at l p ≡ suc b → Found l p b
unfolding mark_at
mark_found [] p b h = clash (cc)
mark_found (e ∷ l) p b h =
    same_or_not p e.place
    (λ i. record { before = []; here = e; after = l; is = refl; place = sym i; birth = let z : suc e.birth ≡ suc b = sym (mark_here e l p i) ∙ h in omega arith })
    (λ n. let t = mark_found l p b (sym (mark_there e l p n) ∙ h) in
    record { before = e ∷ t.before; here = t.here; after = t.after; is = ap (λ m. e ∷ m) t.is; place = t.place; birth = t.birth })

-- no entry is where no mark is, and the other way round
pub unmarked : (l : List Entry) (p : ℕ) → mark_at l p ≡ 0 → Outside p l
unmarked [] p h = tt
unmarked (e ∷ l) p h =
    same_or_not p e.place
    (λ i. let z : suc e.birth ≡ 0 = sym (mark_here e l p i) ∙ h in absurd (omega arith))
    (λ n. (n, unmarked l p (sym (mark_there e l p n) ∙ h)))

pub outside_unmarked : (l : List Entry) (p : ℕ) → Outside p l → mark_at l p ≡ 0
unfolding mark_at
outside_unmarked [] p h = refl
outside_unmarked (e ∷ l) p h = mark_there e l p h.0 ∙ outside_unmarked l p h.1

-- entries before do not matter to a change behind them, and are passed over where none is at the place
pub mark_behind : (a l k : List Entry) (p : ℕ) → mark_at l p ≡ mark_at k p → mark_at (a ++ l) p ≡ mark_at (a ++ k) p
mark_behind [] l k p h = h
mark_behind (e ∷ a) l k p h =
    same_or_not p e.place
    (λ i. mark_here e (a ++ l) p i ∙ sym (mark_here e (a ++ k) p i))
    (λ n. mark_there e (a ++ l) p n ∙ mark_behind a l k p h ∙ sym (mark_there e (a ++ k) p n))

pub mark_past : (a l : List Entry) (p : ℕ) → Outside p a → mark_at (a ++ l) p ≡ mark_at l p
mark_past [] l p h = refl
mark_past (e ∷ a) l p h = mark_there e (a ++ l) p h.0 ∙ mark_past a l p h.1

-- marks go by places and births alone
pub mark_alike : (l k : List Entry) (p : ℕ) → places l ≡ places k → births l ≡ births k → mark_at l p ≡ mark_at k p
mark_alike [] [] p e f = refl
mark_alike [] (y ∷ k) p e f = clash (cc)
mark_alike (x ∷ l) [] p e f = clash (cc)
mark_alike (x ∷ l) (y ∷ k) p e f =
    let xy : x.place ≡ y.place = cc in
    let b : x.birth ≡ y.birth = cc in
    let ls : places l ≡ places k = cc in
    let bs : births l ≡ births k = cc in
    same_or_not p x.place
    (λ i. mark_here x l p i ∙ ap suc b ∙ sym (mark_here y k p (i ∙ xy)))
    (λ n. mark_there x l p n ∙ mark_alike l k p ls bs ∙ sym (mark_there y k p (λ i. n (i ∙ sym xy))))

-- places before and after an entry are not its own
pub beside : (a : List Entry) (x : Entry) (b : List Entry) → Apart (places (a ++ x ∷ b)) → Outside x.place (a ++ b)
beside [] x b u = u.0
beside (y ∷ a) x b u = ((λ e. at_place (λ c. y.place ≢ c) a x b u.0 (sym e)), beside a x b u.1)

pub outside_front : (a b : List Entry) (p : ℕ) → Outside p (a ++ b) → Outside p a
outside_front [] b p o = tt
outside_front (x ∷ a) b p o = (o.0, outside_front a b p o.1)

pub outside_back : (a b : List Entry) (p : ℕ) → Outside p (a ++ b) → Outside p b
outside_back [] b p o = o
outside_back (x ∷ a) b p o = outside_back a b p o.1

pub outside_insert : (a : List Entry) (y : Entry) (b : List Entry) (p : ℕ) → p ≢ y.place → Outside p (a ++ b) → Outside p (a ++ y ∷ b)
outside_insert [] y b p n o = (n, o)
outside_insert (x ∷ a) y b p n o = (o.0, outside_insert a y b p n o.1)

-- the slot at p is written: its mark is another, the others stay
pub mark_put : (l k : List Entry) (p n : ℕ) → mark_at k p ≡ n → ((q : ℕ) → q ≢ p → mark_at k q ≡ mark_at l q) → (q : ℕ) → mark_at k q ≡ upd (mark_at l) p n q
mark_put l k p n h f q =
    same_or_not q p
    (λ e. rw (e) (h ∙ sym (pick_same p p n (mark_at l p) refl)))
    (λ m. f q m ∙ sym (pick_other q p n (mark_at l q) m))

module _ (before : List Entry) (x : Entry) (after : List Entry) (apart : Apart (places (before ++ x ∷ after))) where
  -- x is left out, and all others stay with their births
  pub mark_out : (rest : List Entry) → places rest ≡ places after → births rest ≡ births after →
      (q : ℕ) → mark_at (before ++ rest) q ≡ upd (mark_at (before ++ x ∷ after)) x.place 0 q
  mark_out rest e f =
      mark_put (before ++ x ∷ after) (before ++ rest) x.place 0
      (mark_behind before rest after x.place (mark_alike rest after x.place e f) ∙ outside_unmarked (before ++ after) x.place (beside before x after apart))
      (λ q n. mark_behind before rest after q (mark_alike rest after q e f) ∙ sym (mark_behind before (x ∷ after) after q (mark_there x after q n)))

  -- drop
  pub mark_drop : (q : ℕ) → mark_at (before ++ raised x.depth after) q ≡ upd (mark_at (before ++ x ∷ after)) x.place 0 q
  mark_drop = mark_out (raised x.depth after) (places_raised x.depth after) (births_raised x.depth after)

  -- copy and cut: a new entry after x
  pub mark_insert : (y : Entry) → Outside y.place (before ++ x ∷ after) →
      (q : ℕ) → mark_at (before ++ x ∷ y ∷ after) q ≡ upd (mark_at (before ++ x ∷ after)) y.place (suc y.birth) q
  mark_insert y o =
      mark_put (before ++ x ∷ after) (before ++ x ∷ y ∷ after) y.place (suc y.birth)
      (mark_past before (x ∷ y ∷ after) y.place (outside_front before (x ∷ after) y.place o)
      ∙ mark_there x (y ∷ after) y.place (outside_back before (x ∷ after) y.place o).0 ∙ mark_here y after y.place refl)
      (λ q n. mark_behind before (x ∷ y ∷ after) (x ∷ after) q (mark_behind (x ∷ []) (y ∷ after) after q (mark_there y after q n)))

  -- move and hand on: the same in another slot
  pub mark_move : (d : ℕ) → Outside d (before ++ x ∷ after) →
      (q : ℕ) → mark_at (before ++ moved d x ∷ after) q ≡ upd (upd (mark_at (before ++ x ∷ after)) d (suc x.birth)) x.place 0 q
  mark_move d o q =
      same_or_not q x.place
      (λ e. rw e
      (outside_unmarked (before ++ moved d x ∷ after) x.place (outside_insert before (moved d x) after x.place (λ i. dx (sym i)) (beside before x after apart))
      ∙ sym (pick_same x.place x.place 0 _ refl)))
      (λ n. same_or_not q d
      (λ e. rw e
      (mark_past before (moved d x ∷ after) d (outside_front before (x ∷ after) d o) ∙ mark_here (moved d x) after d refl
      ∙ sym (pick_same d d _ _ refl) ∙ sym (pick_other d x.place 0 _ dx)))
      (λ m. mark_behind before (moved d x ∷ after) (x ∷ after) q (mark_there (moved d x) after q m ∙ sym (mark_there x after q n))
      ∙ sym (pick_other q d _ _ m) ∙ sym (pick_other q x.place 0 _ n)))
    where
      dx : d ≢ x.place
      dx = (outside_back before (x ∷ after) d o).0

-- REVOKE: the entries b leave the ring
without_one : (a : List Entry) (y : Entry) (b : List Entry) → Apart (places (a ++ y ∷ b)) → Apart (places (a ++ b))
without_one a y b u = sub_apart (sub_places (sub_after a (skip (sub_self b)))) u

fewer : (a b c : List Entry) (q : ℕ) → Outside q (a ++ (b ++ c)) → Outside q (a ++ c)
fewer a [] c q o = o
fewer a (y ∷ b) c q o = fewer a b c q (drop_one a o)
  where
    drop_one : (k : List Entry) → Outside q (k ++ y ∷ (b ++ c)) → Outside q (k ++ (b ++ c))
    drop_one [] o = o.1
    drop_one (z ∷ k) o = (o.0, drop_one k o.1)

pub gone_of : (a b c : List Entry) (q : ℕ) → Apart (places (a ++ (b ++ c))) → among q (places b) ≡ true → Outside q (a ++ c)
unfolding among
gone_of a [] c q u h = clash (cc)
gone_of a (y ∷ b) c q u h =
    same_or_not q y.place
    (λ e. fewer a b c q (subst (λ n. Outside n (a ++ (b ++ c))) (sym e) (beside a y (b ++ c) u)))
    (λ n. let k : among q (places b) ≡ true = rw (ne_eqb q y.place n) at h in gone_of a b c q (without_one a y (b ++ c) u) k)

stays_of : (b : List Entry) (q : ℕ) → among q (places b) ≡ false → Outside q b
unfolding among
stays_of [] q h = tt
stays_of (y ∷ b) q h =
    same_or_not q y.place
    (λ e. let z : true ≡ false = rw (eq-eqb q y.place e) at h in clash (cc))
    (λ n. let k : among q (places b) ≡ false = rw (ne_eqb q y.place n) at h in (n, stays_of b q k))

pub mark_sweep : (a b c : List Entry) → Apart (places (a ++ (b ++ c))) → (q : ℕ) → mark_at (a ++ c) q ≡ pick (among q (places b)) 0 (mark_at (a ++ (b ++ c)) q)
mark_sweep a b c u q =
    either_way (among q (places b))
    (λ h. rw h (outside_unmarked (a ++ c) q (gone_of a b c q u h)))
    (λ h. rw h (mark_behind a c (b ++ c) q (sym (mark_past b c q (stays_of b q h)))))
