-- What is written on the board is what is done to the cells, and nothing else is changed.
use Rattle.std.proofs.Common.{◌≡◌, ℕ, zero, suc, ◌+◌, ◌-◌, ◌*◌, ◌/◌, ◌≤◌, ◌≢◌, Bool, true, false, ◌&&◌, ◌||◌, List, [], ◌∷◌, eqb, nat_le, nat_lt, Option, None, refl, sym, ap, subst, ◌∙◌, inl, inr, arith, lit≤}
use Rattle.std.specs.List.{AllByRecursion}
use Rattle.std.proofs.lemmas.Bool.{cases_Bool, cases_lt}
use Rattle.rights.specs.World.{pick, among}
use Rattle.board.specs.Words.{there, put_word}
use Rattle.board.specs.Slots.{slot_at, put_slot, encoded}
use Rattle.board.specs.declared.slots.Capability.{Capability}
use Rattle.board.specs.Links.{Cell, cell, put_next, put_prev, put_depth, set_next, set_prev, set_depth}
use Rattle.board.proofs.Units.{around-put_word, around-put_words}
use Rattle.board.proofs.Held.{slots-put_word, slots-put_slot, cells-put_slot, cells-put_depth, cells-put_next, cells-put_prev}
use Rattle.chain.specs.Ring as ring
use Rattle.chain.specs.Bytes.{joined, placed, bypassed, ends, raise, empty}
use Rattle.chain.specs.OnBoard.{AllThere, OnlyThese}
use Rattle.chain.proofs.Linked.{leads_like}
use Rattle.chain.proofs.Walked.{ends_back}

-- p is one of ps: what holds of them all holds of it
abbrev pub In : List ℕ → ℕ → Type 1
In ps p = (P : ℕ → Type 0) → AllByRecursion P ps → P p

-- a write, in both words
pub record Writes (ps : List ℕ) (m n : List ℕ) (f : ℕ → Cell) : Type 0 where
  pub cells : cell n ≡ f
  pub only : OnlyThese ps [] m n

pub there_still : {ps es m n : List ℕ} → OnlyThese ps es m n → (p : ℕ) → there m p ≡ true → there n p ≡ true
there_still s p t = ap (λ l. nat_lt 0 p && nat_le (64 * p) l) s.long ∙ t

pub all_still : {ps es m n : List ℕ} → OnlyThese ps es m n → (l : List ℕ) → AllThere m l → AllThere n l
all_still s [] h = tt
all_still s (p ∷ l) h = (there_still s p h.0, all_still s l h.1)

pub only_more : {ps es m k n : List ℕ} → OnlyThese ps es m k → OnlyThese ps [] k n → OnlyThese ps es m n
unfolding among
only_more s t =
    record {
      long = t.long ∙ s.long;
      bytes = λ b h. t.bytes b h ∙ s.bytes b h;
      slots = λ p. t.slots p ∙ s.slots p;
      ups = λ p. t.ups p ∙ s.ups p;
    }

only_word : (ps m : List ℕ) (p k v : ℕ) → In ps p → 8 ≤ k → ((q : ℕ) → (cell (put_word m p k v) q).up ≡ (cell m q).up) → OnlyThese ps [] m (put_word m p k v)
unfolding among
only_word ps m p k v i h u =
    record {
      long = (around-put_word m p k v).long;
      bytes = λ b f. (around-put_word m p k v).bytes b (let n : b / 64 + 1 ≢ p = i (λ q. b / 64 + 1 ≢ q) f in elim (cases_lt (b / 64 + 1) p) [ inl g ↦ inl g | inr g ↦ inr (omega arith) ]);
      slots = λ q. ap (λ g. g q) (slots-put_word m p k v h);
      ups = u;
    }

module _ (ps m : List ℕ) (p v : ℕ) (lies : AllThere m ps) (i : In ps p) where
  t : there m p ≡ true
  t = i (λ q. there m q ≡ true) lies

  writes_next : Writes ps m (put_next m p v) (set_next (cell m) p v)
  writes_next = record { cells = cells-put_next m p v t; only = only_word ps m p 9 v i (lit≤ tt) (λ q. ap (λ f. (f q).up) (cells-put_next m p v t)) }

  writes_prev : Writes ps m (put_prev m p v) (set_prev (cell m) p v)
  writes_prev = record { cells = cells-put_prev m p v t; only = only_word ps m p 10 v i (lit≤ tt) (λ q. ap (λ f. (f q).up) (cells-put_prev m p v t)) }

  writes_depth : Writes ps m (put_depth m p v) (set_depth (cell m) p v)
  writes_depth = record { cells = cells-put_depth m p v t; only = only_word ps m p 8 v i (lit≤ tt) (λ q. ap (λ f. (f q).up) (cells-put_depth m p v t)) }

-- one write after another
pub then_writes : {ps m k n : List ℕ} {f : ℕ → Cell} (g : (ℕ → Cell) → ℕ → Cell) → Writes ps m k f → Writes ps k n (g (cell k)) → Writes ps m n (g f)
then_writes g a b = record { cells = b.cells ∙ ap g a.cells; only = only_more a.only b.only }

module _ (ps : List ℕ) where
  pub writes_joined : (m : List ℕ) (p q : ℕ) → AllThere m ps → In ps p → In ps q → Writes ps m (joined m p q) (ring.joined (cell m) p q)
  writes_joined m p q lies i j =
      let a = writes_next ps m p q lies i in
      then_writes (λ f. set_prev f q p) a (writes_prev ps (put_next m p q) q p (all_still a.only ps lies) j)

  pub writes_placed : (m : List ℕ) (s d v : ℕ) → AllThere m ps → In ps s → In ps d → In ps (cell m s).next → Writes ps m (placed m s d v) (ring.placed (cell m) s d v)
  writes_placed m s d v lies i j n =
      let q : ℕ = (cell m s).next in
      let a = writes_joined m d q lies j n in
      let lies' = all_still a.only ps lies in
      let b = then_writes (λ f. ring.joined f s d) a (writes_joined (joined m d q) s d lies' i j) in
      then_writes (λ f. set_depth f d v) b (writes_depth ps (joined (joined m d q) s d) d v (all_still b.only ps lies) j)

  pub writes_bypassed : (m : List ℕ) (s : ℕ) → AllThere m ps → In ps (cell m s).prev → In ps (cell m s).next → Writes ps m (bypassed m s) (ring.bypassed (cell m) s)
  writes_bypassed m s lies i j = writes_joined m (cell m s).prev (cell m s).next lies i j

  none_yet : (m : List ℕ) → Writes ps m m (cell m)
  unfolding among
  none_yet m = record { cells = refl; only = record { long = refl; bytes = λ b h. refl; slots = λ p. refl; ups = λ p. refl } }

  -- all of l are among ps
  pub writes_raised : (n s d : ℕ) (m : List ℕ) (p : ℕ) (l : List ℕ) → AllThere m ps → ((P : ℕ → Type 0) → AllByRecursion P ps → AllByRecursion P l) → ring.Leads (cell m) p l s →
      Writes ps m (raise n m s d (cell m p).next) (ring.raise n (cell m) s d (cell m p).next)
  unfolding raise ring.raise
  writes_raised zero s d m p l lies i g = none_yet m
  writes_raised (suc n) s d m p [] lies i g = rw (g.0, ends_back (cell m) s d s refl) (none_yet m)
  writes_raised (suc n) s d m p (y ∷ l) lies i g =
      elim (cases_Bool (ends m s d y)) [
        | inl e ↦ rw (g.0.0, e) (none_yet m)
        | inr e ↦
            (let v : ℕ = (cell m y).depth - 1 in
            let a = writes_depth ps m y v lies (λ P h. (i P h).0) in
            let new : List ℕ = put_depth m y v in
            let g' : ring.Leads (cell new) y l s = subst (λ f. ring.Leads f y l s) (sym a.cells) (leads_like (cell m) (set_depth (cell m) y v) (λ k. refl) (λ k. refl) y l s g.1) in
            let rest = writes_raised n s d new y l (all_still a.only ps lies) (λ P h. (i P h).1) g' in
            let next : (cell new y).next ≡ (cell m y).next = ap (λ f. (f y).next) a.cells in
            let rest' = subst (λ c. Writes ps new (raise n new s d c) (ring.raise n (cell new) s d c)) next rest in
            rw (g.0.0, e) (then_writes (λ f. ring.raise n f s d (cell m y).next) a rest'))
      ]

either : (a b : Bool) (x : Option Capability) → pick b None (pick a None x) ≡ pick (a || b) None x
either true true x = refl
either true false x = refl
either false b x = refl

-- a slot emptied, and then others
only_emptied : (ps l m n : List ℕ) (c : ℕ) → In ps c → there m c ≡ true → OnlyThese ps l (put_slot m c None) n → OnlyThese ps (c ∷ l) m n
unfolding among
only_emptied ps l m n c i t s =
    let a = around-put_words m c 0 (encoded None) in
    record {
      long = s.long ∙ a.long;
      bytes =
          λ b f. s.bytes b f ∙
          a.bytes b (let n : b / 64 + 1 ≢ c = i (λ q. b / 64 + 1 ≢ q) f in elim (cases_lt (b / 64 + 1) c) [ inl g ↦ inl g | inr g ↦ inr (omega arith) ]);
      slots = λ p. s.slots p ∙ ap (λ g. pick (among p l) None (g p)) (slots-put_slot m c None t tt) ∙ either (eqb p c) (among p l) (slot_at m p);
      ups = λ p. s.ups p ∙ ap (λ f. (f p).up) (cells-put_slot m c None);
    }

-- a walk that empties, and where it ends
pub record Empties (ps : List ℕ) (n s d : ℕ) (m : List ℕ) (c : ℕ) : Type 0 where
  pub cells : cell (empty n m s d c).0 ≡ cell m
  pub end : (empty n m s d c).1 ≡ ring.stop n (cell m) s d c
  pub only : OnlyThese ps (ring.passed n (cell m) s d c) m (empty n m s d c).0

pub empties : (ps : List ℕ) (n s d : ℕ) (m : List ℕ) (c : ℕ) → AllThere m ps → ((P : ℕ → Type 0) → AllByRecursion P ps → AllByRecursion P (ring.passed n (cell m) s d c)) → Empties ps n s d m c
unfolding empty ring.stop ring.passed among
empties ps zero s d m c lies i = record { cells = refl; end = refl; only = (none_yet ps m).only }
empties ps (suc n) s d m c lies i =
    elim (cases_Bool (ends m s d c)) [
      | inl e ↦ record { cells = rw e refl; end = rw e refl; only = rw e (none_yet ps m).only }
      | inr e ↦
          (let new : List ℕ = put_slot m c None in
          let next : ℕ = (cell m c).next in
          let same : cell new ≡ cell m = cells-put_slot m c None in
          let first : ring.passed (suc n) (cell m) s d c ≡ c ∷ ring.passed n (cell m) s d next = rw e refl in
          let i' : (P : ℕ → Type 0) → AllByRecursion P ps → AllByRecursion P (c ∷ ring.passed n (cell m) s d next) = λ P h. subst (λ l. AllByRecursion P l) first (i P h) in
          let t : there m c ≡ true = (i' (λ q. there m q ≡ true) lies).0 in
          let one : OnlyThese ps (c ∷ []) m new = only_emptied ps [] m new c (λ P h. (i' P h).0) t (none_yet ps new).only in
          let rest : Empties ps n s d new next = empties ps n s d new next (all_still one ps lies) (λ P h. subst (λ f. AllByRecursion P (ring.passed n f s d next)) (sym same) (i' P h).1) in
          let only : OnlyThese ps (ring.passed n (cell m) s d next) new (empty n new s d next).0 = subst (λ f. OnlyThese ps (ring.passed n f s d next) new (empty n new s d next).0) same rest.only in
          record {
            cells = rw e (rest.cells ∙ same);
            end = rw e (rest.end ∙ ap (λ f. ring.stop n f s d next) same);
            only = rw e (only_emptied ps (ring.passed n (cell m) s d next) m (empty n new s d next).0 c (λ P h. (i' P h).0) t only);
          })
    ]
