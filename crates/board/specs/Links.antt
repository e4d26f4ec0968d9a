-- The links of slots, as words of their units and as cells by place. Assumes nothing: these are definitions.
use Rattle.std.specs.Prelude.{ℕ, List, ◌==◌}
use Rattle.rights.specs.World.{pick}
use Rattle.board.specs.Words.{word, put_word}

-- the places of the next and the previous slot in the ring (0: none), how deep the slot is, and a place that only the revoke of a pool uses
pub record Cell : Type 0 where
  pub next : ℕ
  pub prev : ℕ
  pub depth : ℕ
  pub up : ℕ

-- a slot that is in no ring
abbrev pub no_links : Cell
no_links = record { next = 0; prev = 0; depth = 0; up = 0 }

-- the links of the slot at place p
abbrev pub cell : List ℕ → ℕ → Cell
cell m p = record { next = word m p 9; prev = word m p 10; depth = word m p 8; up = word m p 11 }

-- one of them written on the board
abbrev pub put_depth : List ℕ → ℕ → ℕ → List ℕ
put_depth m p v = put_word m p 8 v

abbrev pub put_next : List ℕ → ℕ → ℕ → List ℕ
put_next m p v = put_word m p 9 v

abbrev pub put_prev : List ℕ → ℕ → ℕ → List ℕ
put_prev m p v = put_word m p 10 v

abbrev pub put_up : List ℕ → ℕ → ℕ → List ℕ
put_up m p v = put_word m p 11 v

-- the same among cells: one field at place p is v, all else as it was
abbrev pub set_next : (ℕ → Cell) → ℕ → ℕ → ℕ → Cell
set_next cells p v q = record { next = pick (q == p) v (cells q).next; prev = (cells q).prev; depth = (cells q).depth; up = (cells q).up }

abbrev pub set_prev : (ℕ → Cell) → ℕ → ℕ → ℕ → Cell
set_prev cells p v q = record { next = (cells q).next; prev = pick (q == p) v (cells q).prev; depth = (cells q).depth; up = (cells q).up }

abbrev pub set_depth : (ℕ → Cell) → ℕ → ℕ → ℕ → Cell
set_depth cells p v q = record { next = (cells q).next; prev = (cells q).prev; depth = pick (q == p) v (cells q).depth; up = (cells q).up }

abbrev pub set_up : (ℕ → Cell) → ℕ → ℕ → ℕ → Cell
set_up cells p v q = record { next = (cells q).next; prev = (cells q).prev; depth = (cells q).depth; up = pick (q == p) v (cells q).up }
