-- What holds of every call, kind by kind.
use Rattle.std.proofs.Common.{◌≡◌, ◌⊎◌, ℕ, List, Option, Some, None, inl, inr, refl}
use Rattle.rights.specs.declared.answers.Answer.TheVariants.{No}
use Rattle.rights.specs.declared.calls.Call.{Call}
use Rattle.rights.specs.declared.calls.Call.TheVariants.{Cut, Copy, Move, Drop, Revoke, Send, Receive, Map, Unmap, Bind, Go, Say, Hear}
use Rattle.rights.specs.declared.said.Said.{Said}
use Rattle.space.specs.declared.side.Side.{Side}
use Rattle.space.specs.declared.side.Table.{Table}
use Rattle.calls.specs.declared.outcomes.Outcome.TheVariants.{Answered}
use Rattle.calls.specs.Machine.{Machine, table_of}
use Rattle.calls.specs.Calls.{Ended, refused, on_board, on_side, on_saying, on_hearing, called, copy, move, drop_it, revoke, map, unmap, bind, go, say, hear}
use Rattle.calls.specs.Laws.{RefusedLeaves, OneAlone, NoTableNoCall}

-- what holds of each way to end holds of each call
each : (P : Ended → Type 0) (m : Machine) → P (refused m) → ((x : Option (List ℕ)) → P (on_board m x)) → ((x : Option Side) → P (on_side m x)) →
    ((x : Option Said) → P (on_saying m x)) → ((x : Option (ℕ × Side)) → P (on_hearing m x)) → (t : Option Table) (c : Call) → P (called m t c)
each P m never board side said heard t (Cut s k d) = never
each P m never board side said heard t (Copy s d r b) = board (copy m.bytes t s d r b)
each P m never board side said heard t (Move s d) = board (move m.bytes t s d)
each P m never board side said heard t (Drop s) = board (drop_it m.bytes t s)
each P m never board side said heard t (Revoke s) = board (revoke m.bytes t s)
each P m never board side said heard t (Send s g ws) = never
each P m never board side said heard t (Receive s d) = never
each P m never board side said heard t (Map s o a) = side (map m.bytes m.side t s o a)
each P m never board side said heard t (Unmap o a) = side (unmap m.bytes m.side t o a)
each P m never board side said heard t (Bind o s) = side (bind m.bytes m.side t o s)
each P m never board side said heard t (Go o a) = side (go m.bytes m.side t o a)
each P m never board side said heard t (Say s b) = said (say m.bytes m.side t s b)
each P m never board side said heard t (Hear s) = heard (hear m.bytes m.side t s)

pub refused_leaves : RefusedLeaves
refused_leaves m i c = each (λ e. e.outcome ≡ Answered No → e.machine ≡ m) m (λ _. refl) board side said heard (table_of m.side i) c
  where
    board : (x : Option (List ℕ)) → (on_board m x).outcome ≡ Answered No → (on_board m x).machine ≡ m
    board None e = refl
    board (Some x) e = cc

    side : (x : Option Side) → (on_side m x).outcome ≡ Answered No → (on_side m x).machine ≡ m
    side None e = refl
    side (Some x) e = cc

    said : (x : Option Said) → (on_saying m x).outcome ≡ Answered No → (on_saying m x).machine ≡ m
    said None e = refl
    said (Some x) e = refl

    heard : (x : Option (ℕ × Side)) → (on_hearing m x).outcome ≡ Answered No → (on_hearing m x).machine ≡ m
    heard None e = refl
    heard (Some x) e = cc

pub one_alone : OneAlone
one_alone m i c = each (λ e. (e.machine.bytes ≡ m.bytes) ⊎ (e.machine.side ≡ m.side)) m (inl refl) board side said heard (table_of m.side i) c
  where
    board : (x : Option (List ℕ)) → ((on_board m x).machine.bytes ≡ m.bytes) ⊎ ((on_board m x).machine.side ≡ m.side)
    board None = inl refl
    board (Some x) = inr refl

    side : (x : Option Side) → ((on_side m x).machine.bytes ≡ m.bytes) ⊎ ((on_side m x).machine.side ≡ m.side)
    side None = inl refl
    side (Some x) = inl refl

    said : (x : Option Said) → ((on_saying m x).machine.bytes ≡ m.bytes) ⊎ ((on_saying m x).machine.side ≡ m.side)
    said None = inl refl
    said (Some x) = inl refl

    heard : (x : Option (ℕ × Side)) → ((on_hearing m x).machine.bytes ≡ m.bytes) ⊎ ((on_hearing m x).machine.side ≡ m.side)
    heard None = inl refl
    heard (Some x) = inl refl

none_called : (m : Machine) (c : Call) → called m None c ≡ refused m
none_called m (Cut s k d) = refl
none_called m (Copy s d r b) = refl
none_called m (Move s d) = refl
none_called m (Drop s) = refl
none_called m (Revoke s) = refl
none_called m (Send s g ws) = refl
none_called m (Receive s d) = refl
none_called m (Map s o a) = refl
none_called m (Unmap o a) = refl
none_called m (Bind o s) = refl
none_called m (Go o a) = refl
none_called m (Say s b) = refl
none_called m (Hear s) = refl

pub no_table_no_call : NoTableNoCall
no_table_no_call m i c e = rw e (none_called m c)
