-- The same over the board's bytes, step by step as the code goes. Assumes nothing: these are definitions.
use Rattle.std.specs.Prelude.{ℕ, zero, suc, ◌+◌, ◌-◌, ◌/◌, ◌^◌, min, Bool, ◌||◌, ◌==◌, nat_le, List, length, Option, Some, None}
use Rattle.rights.specs.World.{pick}
use Rattle.board.specs.Slots.{put_slot}
use Rattle.chain.specs.Ring as ring
use Rattle.board.specs.Links.{cell, put_next, put_prev, put_depth}

-- p is followed by q
abbrev pub joined : List ℕ → ℕ → ℕ → List ℕ
joined m p q = put_prev (put_next m p q) q p

-- d goes in right after s, with a depth
abbrev pub placed : List ℕ → ℕ → ℕ → ℕ → List ℕ
placed m s d depth = put_depth (joined (joined m d (cell m s).next) s d) d depth

-- copy and cut: one deeper, as far as a word can say
abbrev pub inserted : List ℕ → ℕ → ℕ → List ℕ
inserted m s d = placed m s d (min ((cell m s).depth + 1) (2 ^ 32 - 1))

-- what is before s is followed by what is after s
abbrev pub bypassed : List ℕ → ℕ → List ℕ
bypassed m s = joined m (cell m s).prev (cell m s).next

-- move and hand on
abbrev pub shifted : List ℕ → ℕ → ℕ → List ℕ
shifted m s d = bypassed (placed m s d (cell m s).depth) s

-- how many units there are
abbrev pub units : List ℕ → ℕ
units m = length m / 64

-- how many slots a walk from s passes
abbrev pub run_length : List ℕ → ℕ → ℕ
run_length m s = length (ring.passed (units m) (cell m) s (cell m s).depth (cell m s).next)

-- whether a walk from s, which is as deep as depth, ends at c
abbrev pub ends : List ℕ → ℕ → ℕ → ℕ → Bool
ends m s depth c = c == s || nat_le (cell m c).depth depth

-- the slot after c, where the walk goes on
abbrev pub onward : List ℕ → ℕ → ℕ → ℕ → Option ℕ
onward m s depth c = pick (ends m s depth c) None (Some (cell m c).next)

-- one turn: where the walk goes on, the slot is less deep by one
abbrev pub raise_one : List ℕ → ℕ → ℕ → ℕ → List ℕ
raise_one m s depth c = pick (ends m s depth c) m (put_depth m c ((cell m c).depth - 1))

-- and so in at most n turns from c on
unfoldable pub raise : ℕ → List ℕ → ℕ → ℕ → ℕ → List ℕ
raise zero m s depth c = m
raise (suc n) m s depth c = pick (ends m s depth c) m (raise n (put_depth m c ((cell m c).depth - 1)) s depth (cell m c).next)

-- the run of s is less deep by one
abbrev pub run_raised : List ℕ → ℕ → List ℕ
run_raised m s = raise (units m) m s (cell m s).depth (cell m s).next

-- drop
abbrev pub taken_out : List ℕ → ℕ → List ℕ
taken_out m s = bypassed (run_raised m s) s

-- one turn: where the walk goes on, the slot is emptied
abbrev pub empty_one : List ℕ → ℕ → ℕ → ℕ → List ℕ
empty_one m s depth c = pick (ends m s depth c) m (put_slot m c None)

-- and so in at most n turns from c on; with the place where the walk ends
unfoldable pub empty : ℕ → List ℕ → ℕ → ℕ → ℕ → List ℕ × ℕ
empty zero m s depth c = (m, c)
empty (suc n) m s depth c = pick (ends m s depth c) (m, c) (empty n (put_slot m c None) s depth (cell m c).next)

-- the run of s is emptied
abbrev pub run_emptied : List ℕ → ℕ → List ℕ × ℕ
run_emptied m s = empty (units m) m s (cell m s).depth (cell m s).next

-- revoke: the run of s is emptied, and s is followed by what comes after
abbrev pub swept : List ℕ → ℕ → List ℕ
swept m s = joined (run_emptied m s).0 s (run_emptied m s).1
