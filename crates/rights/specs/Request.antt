-- Which call seven numbers ask for: its number and six arguments. Assumes nothing: these are definitions.
use Rattle.std.specs.Prelude.{ℕ, cond, ◌&&◌, List, [], ◌∷◌, Some, None, Option, ◌==◌, nat_le, nat_lt, slice_index}
use Rattle.rights.specs.declared.calls.Call.{Call}
use Rattle.rights.specs.declared.calls.Call.TheVariants.{Cut, Copy, Move, Drop, Revoke, Send, Receive, Map, Unmap, Bind, Go, Say, Hear}
use Rattle.rights.specs.declared.calls.NewObject.{NewObject}
use Rattle.rights.specs.declared.calls.NewObject.TheVariants.{Pool, Table, Port, Page}
use Rattle.rights.specs.Vocabulary.{four, rights_of, rights_from}
use Rattle.rights.specs.World as world

-- the row of a table with a number, or else the default
abbrev pub choose : {A : Type 0} → ℕ → List (ℕ × A) → A → A
choose n [] d = d
choose n (row ∷ rows) d = cond (n == row.0) row.1 (choose n rows d)

-- a call with a part that has to be there
abbrev pub with_part : {X : Type 0} → Option X → (X → Call) → Option Call
with_part None f = None
with_part (Some x) f = Some (f x)

-- what is to be cut, by kind and size: 1 to 4,096 for a pool or a table, 0 for a port or a page
abbrev pub new_object : ℕ → ℕ → Option NewObject
new_object k n =
    choose k
    ((0, cond (nat_lt 0 n && nat_le n 4096) (Some (Pool n)) None)
    ∷ (1, cond (nat_lt 0 n && nat_le n 4096) (Some (Table n)) None)
    ∷ (2, cond (n == 0) (Some Port) None)
    ∷ (3, cond (n == 0) (Some Page) None) ∷ [])
    None

-- the call that is asked for, by its number and its arguments in order
abbrev pub asked_by : ℕ → ℕ → ℕ → ℕ → ℕ → ℕ → ℕ → Option Call
asked_by n a b c d e f =
    choose n
    ((0, with_part (new_object b c) (λ what. Cut a what d))
    ∷ (1, with_part (rights_from c) (λ rights. Copy a b rights d))
    ∷ (2, Some (Move a b))
    ∷ (3, Some (Drop a))
    ∷ (4, Some (Revoke a))
    ∷ (5, Some (Send a b (c ∷ d ∷ e ∷ f ∷ [])))
    ∷ (6, Some (Receive a b))
    ∷ (7, Some (Map a b c))
    ∷ (8, Some (Unmap a b))
    ∷ (9, Some (Bind a b))
    ∷ (10, Some (Go a b))
    ∷ (11, Some (Say a b))
    ∷ (12, Some (Hear a)) ∷ [])
    None

abbrev pub asked : ℕ → List ℕ → Option Call
asked n xs = asked_by n (slice_index xs 0) (slice_index xs 1) (slice_index xs 2) (slice_index xs 3) (slice_index xs 4) (slice_index xs 5)

-- what is to be cut, in the world
abbrev pub kind_of : NewObject → world.Kind
kind_of (Pool n) = world.a_pool n
kind_of (Table n) = world.a_table n
kind_of Port = world.a_port
kind_of Page = world.a_page

-- a call, in the world; a slot is handed on only if its number is at most 4,095
abbrev pub call_of : Call → world.Call
call_of (Cut s k d) = world.cut s (kind_of k) d
call_of (Copy s d r b) = world.copy s d (rights_of r) b
call_of (Move s d) = world.move s d
call_of (Drop s) = world.drop_it s
call_of (Revoke s) = world.revoke s
call_of (Send s g ws) = world.send s (four ws) (nat_le g 4095) g
call_of (Receive s d) = world.receive s d
call_of (Map s t a) = world.map s t a
call_of (Unmap t a) = world.unmap t a
call_of (Bind t s) = world.bind t s
call_of (Go t a) = world.go t a
call_of (Say s b) = world.say s b
call_of (Hear s) = world.hear s
