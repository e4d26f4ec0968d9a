-- The ring in memory: what its links say, and what each call does to them. Assumes nothing: these are definitions.
use Rattle.std.specs.Prelude.{◌≡◌, ℕ, zero, suc, ◌-◌, ◌≢◌, ◌==◌, nat_le, ◌||◌, Bool, List, [], ◌∷◌}
use Rattle.std.specs.List.{AllByRecursion}
use Rattle.rights.specs.World.{pick, Slot}
use Rattle.chain.specs.Entries.{Entry, Chain, places}
use Rattle.chain.specs.Lineage.{Comes, Orderly}
use Rattle.board.specs.Links.{Cell, set_next, set_prev, set_depth}

-- q comes after p, by the links both ways
abbrev pub Tied : (ℕ → Cell) → ℕ → ℕ → Type 0
Tied mem p q = ((mem p).next ≡ q) × ((mem q).prev ≡ p)

-- after p come the places l, and then q
abbrev pub Leads : (ℕ → Cell) → ℕ → List ℕ → ℕ → Type 0
Leads mem p [] q = Tied mem p q
Leads mem p (a ∷ l) q = Tied mem p a × Leads mem a l q

-- the places l in a ring
abbrev pub Ring : (ℕ → Cell) → List ℕ → Type 0
Ring mem [] = Unit {0}
Ring mem (a ∷ l) = Leads mem a l a

abbrev pub Depths : (ℕ → Cell) → List Entry → Type 0
Depths mem l = AllByRecursion (λ e. (mem e.place).depth ≡ e.depth) l

-- the memory's links are this list of slots in a ring
abbrev pub Circle : (ℕ → Cell) → List Entry → Type 0
Circle mem l = Ring mem (places l) × Depths mem l

-- THE INVARIANT: the memory's links are this ring, and its depths tell who was made from whom
pub record Stands (lineage : List Slot) (top : ℕ) (mem : ℕ → Cell) (ring : List Entry) : Type 0 where
  pub orderly : Orderly top lineage
  pub chain : Chain (Comes lineage) top ring
  pub circle : Circle mem ring

-- only links and depths of the places ps are changed
abbrev pub Only : List ℕ → (ℕ → Cell) → (ℕ → Cell) → Type 0
Only ps mem new = ((k : ℕ) → AllByRecursion (λ p. k ≢ p) ps → new k ≡ mem k) × ((k : ℕ) → (new k).up ≡ (mem k).up)

-- p is followed by q
abbrev pub joined : (ℕ → Cell) → ℕ → ℕ → ℕ → Cell
joined mem p q = set_prev (set_next mem p q) q p

-- d goes in right after s, with a depth
abbrev pub placed : (ℕ → Cell) → ℕ → ℕ → ℕ → ℕ → Cell
placed mem s d depth = set_depth (joined (joined mem d (mem s).next) s d) d depth

-- copy and cut: right after what it was made from, one deeper
abbrev pub inserted : (ℕ → Cell) → ℕ → ℕ → ℕ → Cell
inserted mem s d = placed mem s d (suc (mem s).depth)

-- what is before s is followed by what is after s
abbrev pub bypassed : (ℕ → Cell) → ℕ → ℕ → Cell
bypassed mem s = joined mem (mem s).prev (mem s).next

-- move and hand on: d goes in beside s, as deep, and s goes out
abbrev pub shifted : (ℕ → Cell) → ℕ → ℕ → ℕ → Cell
shifted mem s d = bypassed (placed mem s d (mem s).depth) s

-- a walk from s, which is as deep as depth, ends at c: it is back at s, or c is no deeper
abbrev pub ends : (ℕ → Cell) → ℕ → ℕ → ℕ → Bool
ends mem s depth c = c == s || nat_le (mem c).depth depth

-- the places that such a walk passes in at most n turns from c on
unfoldable pub passed : ℕ → (ℕ → Cell) → ℕ → ℕ → ℕ → List ℕ
passed zero mem s depth c = []
passed (suc n) mem s depth c = pick (ends mem s depth c) [] (c ∷ passed n mem s depth (mem c).next)

-- and where it ends
unfoldable pub stop : ℕ → (ℕ → Cell) → ℕ → ℕ → ℕ → ℕ
stop zero mem s depth c = c
stop (suc n) mem s depth c = pick (ends mem s depth c) c (stop n mem s depth (mem c).next)

-- what it passes is less deep by one
unfoldable pub raise : ℕ → (ℕ → Cell) → ℕ → ℕ → ℕ → ℕ → Cell
raise zero mem s depth c = mem
raise (suc n) mem s depth c = pick (ends mem s depth c) mem (raise n (set_depth mem c ((mem c).depth - 1)) s depth (mem c).next)

-- drop: the run of s rises, and s goes out
abbrev pub taken_out : ℕ → (ℕ → Cell) → ℕ → ℕ → Cell
taken_out n mem s = bypassed (raise n mem s (mem s).depth (mem s).next) s

-- revoke: the run of s goes out
abbrev pub swept : ℕ → (ℕ → Cell) → ℕ → ℕ → Cell
swept n mem s = joined mem s (stop n mem s (mem s).depth (mem s).next)
