-- What each call does. None: it is refused, and nothing has changed. Assumes nothing: these are definitions.
use Rattle.std.specs.Prelude.{ℕ, ◌%◌, Bool, true, false, cond, ◌&&◌, List, Some, None, Ok, Err, Option, Result, ◌==◌, nat_lt}
use Rattle.std.specs.Option.{option_and_then, option_map, is_none}
use Rattle.rights.specs.declared.answers.Answer.TheVariants.{No, Done, Heard}
use Rattle.rights.specs.declared.bits.Rights.{Rights}
use Rattle.rights.specs.declared.calls.Call.{Call}
use Rattle.rights.specs.declared.calls.Call.TheVariants.{Cut, Copy, Move, Drop, Revoke, Send, Receive, Map, Unmap, Bind, Go, Say, Hear}
use Rattle.rights.specs.declared.said.Said.{Said}
use Rattle.rights.specs.Vocabulary.{met}
use Rattle.rv32.specs.Registers.{fresh}
use Rattle.board.specs.declared.slots.Capability.{Capability}
use Rattle.board.specs.declared.slots.Object.{Object}
use Rattle.board.specs.declared.slots.Object.TheVariants as object
use Rattle.board.specs.Slots.{put_slot}
use Rattle.chain.specs.Bytes.{inserted, shifted, taken_out, swept}
use Rattle.space.specs.declared.lines.Line.{Line}
use Rattle.space.specs.declared.side.Side.{Side}
use Rattle.space.specs.declared.side.State.{State}
use Rattle.space.specs.declared.side.State.TheVariants.{Stopped, Ready}
use Rattle.space.specs.declared.side.Table.{Table}
use Rattle.space.specs.declared.side.Thread.{Thread}
use Rattle.space.specs.Lines as lines
use Rattle.space.specs.Tables.{look_up, map_page, unmap as unmap_page}
use Rattle.calls.specs.declared.outcomes.Outcome.{Outcome}
use Rattle.calls.specs.declared.outcomes.Refused.{Refused}
use Rattle.calls.specs.declared.outcomes.Outcome.TheVariants.{Answered, Said as SaidOn}
use Rattle.calls.specs.declared.slots.Held.{Held}
use Rattle.calls.specs.declared.slots.Page.{Page}
use Rattle.calls.specs.Machine.{Machine, thread_at, with_thread, line_at, with_line, table_of}
use Rattle.calls.specs.Slots.{held, grantable, free, readable_page, writable_table, writable_thread, writable_line, readable_line}

-- SLOTS. What is made of a capability: no more rights, and a badge if it has none
abbrev pub copied : Capability → Rights → ℕ → Capability
copied c r b = record { object = c.object; rights = met c.rights r; badge = cond (c.badge == 0) b c.badge }

-- copy: slot d holds what is made of slot s, right after it in the ring
abbrev pub copy : List ℕ → Option Table → ℕ → ℕ → Rights → ℕ → Option (List ℕ)
copy m t s d r b =
    option_and_then (λ (h : Held). option_map (λ p. inserted (put_slot m p (Some (copied h.capability r b))) h.place p) (free m t d)) (grantable m t s)

-- move: slot d takes the place of slot s, which is empty then
abbrev pub move : List ℕ → Option Table → ℕ → ℕ → Option (List ℕ)
move m t s d =
    option_and_then (λ (h : Held). option_map (λ p. put_slot (put_slot (shifted m h.place p) p (Some h.capability)) h.place None) (free m t d)) (held m t s)

-- drop: slot s is empty and out of the ring
abbrev pub drop_it : List ℕ → Option Table → ℕ → Option (List ℕ)
drop_it m t s = option_map (λ (h : Held). put_slot (taken_out m h.place) h.place None) (held m t s)

-- pools are not built yet
abbrev pub is_pool : Object → Bool
is_pool (object.Pool p n u l) = true
is_pool _ = false

-- revoke: what was made from slot s is in no slot any more
abbrev pub revoke : List ℕ → Option Table → ℕ → Option (List ℕ)
revoke m t s = option_and_then (λ (h : Held). cond (is_pool h.capability.object) None (Some (swept m h.place))) (held m t s)

-- THREADS. Thread i is what becomes of it, if it may be
abbrev pub changed : Side → ℕ → (Thread → Option Thread) → Option Side
changed side i f = option_map (with_thread side i) (f (thread_at side i))

-- a page is page a of its space, which has to be free
abbrev pub mapped : ℕ → Page → Thread → Option Thread
mapped a p t = cond (nat_lt a 64 && is_none (look_up t.pages a)) (Some (record t { pages = map_page t.pages a p.place p.writes })) None

-- page a of its space is free
abbrev pub unmapped : ℕ → Thread → Option Thread
unmapped a t = cond (nat_lt a 64) (Some (record t { pages = unmap_page t.pages a })) None

abbrev pub is_stopped : State → Bool
is_stopped Stopped = true
is_stopped _ = false

-- its slots are those of a table; it has to be stopped
abbrev pub bound : Table → Thread → Option Thread
bound b t = cond (is_stopped t.state) (Some (record t { table = Some b })) None

-- it is ready and new, with pc a; it has to be stopped
abbrev pub started : ℕ → Thread → Option Thread
started a t = cond (is_stopped t.state) (Some (record t { state = Ready; cpu = fresh a })) None

abbrev pub map : List ℕ → Side → Option Table → ℕ → ℕ → ℕ → Option Side
map m side b s t a = option_and_then (λ p. option_and_then (λ i. changed side i (mapped a p)) (writable_thread m b t)) (readable_page m b s)

abbrev pub unmap : List ℕ → Side → Option Table → ℕ → ℕ → Option Side
unmap m side b t a = option_and_then (λ i. changed side i (unmapped a)) (writable_thread m b t)

abbrev pub bind : List ℕ → Side → Option Table → ℕ → ℕ → Option Side
bind m side b t s = option_and_then (λ x. option_and_then (λ i. changed side i (bound x)) (writable_thread m b t)) (writable_table m b s)

abbrev pub go : List ℕ → Side → Option Table → ℕ → ℕ → Option Side
go m side b t a = option_and_then (λ i. changed side i (started a)) (writable_thread m b t)

-- LINES. What is said on a line, by the number of its object
abbrev pub shown : Line → ℕ → Said
shown l b = record { line = l.object; byte = b % 256 }

abbrev pub say : List ℕ → Side → Option Table → ℕ → ℕ → Option Said
say m side t s b = option_map (λ j. shown (line_at side j) b) (writable_line m t s)

-- the oldest byte that came in at line j, and what is left
abbrev pub heard : Side → ℕ → Option (ℕ × Side)
heard side j = option_map (λ b. (b, with_line side j (lines.hear (line_at side j)))) (lines.heard (line_at side j))

abbrev pub hear : List ℕ → Side → Option Table → ℕ → Option (ℕ × Side)
hear m side t s = option_and_then (heard side) (readable_line m t s)

-- THE CALLS. How a call ends: what there is then, and what comes back or is said
pub record Ended : Type 0 where
  pub machine : Machine
  pub outcome : Outcome

-- a call that was tried, by what it left
abbrev pub ended : List ℕ → Side → Result Outcome Refused → Ended
ended m side (Ok x) = record { machine = record { bytes = m; side = side }; outcome = x }
ended m side (Err e) = record { machine = record { bytes = m; side = side }; outcome = Answered No }

abbrev pub refused : Machine → Ended
refused m = record { machine = m; outcome = Answered No }

-- the board has changed, or the side, or nothing and a byte is said, or a byte was heard
abbrev pub on_board : Machine → Option (List ℕ) → Ended
on_board m None = refused m
on_board m (Some bytes) = record { machine = record { bytes = bytes; side = m.side }; outcome = Answered Done }

abbrev pub on_side : Machine → Option Side → Ended
on_side m None = refused m
on_side m (Some side) = record { machine = record { bytes = m.bytes; side = side }; outcome = Answered Done }

abbrev pub on_saying : Machine → Option Said → Ended
on_saying m None = refused m
on_saying m (Some x) = record { machine = m; outcome = SaidOn x }

abbrev pub on_hearing : Machine → Option (ℕ × Side) → Ended
on_hearing m None = refused m
on_hearing m (Some x) = record { machine = record { bytes = m.bytes; side = x.1 }; outcome = Answered (Heard x.0) }

-- a call of a thread that has a table; cut, send and receive are not built yet
abbrev pub called : Machine → Option Table → Call → Ended
called m t (Cut s k d) = refused m
called m t (Copy s d r b) = on_board m (copy m.bytes t s d r b)
called m t (Move s d) = on_board m (move m.bytes t s d)
called m t (Drop s) = on_board m (drop_it m.bytes t s)
called m t (Revoke s) = on_board m (revoke m.bytes t s)
called m t (Send s g ws) = refused m
called m t (Receive s d) = refused m
called m t (Map s o a) = on_side m (map m.bytes m.side t s o a)
called m t (Unmap o a) = on_side m (unmap m.bytes m.side t o a)
called m t (Bind o s) = on_side m (bind m.bytes m.side t o s)
called m t (Go o a) = on_side m (go m.bytes m.side t o a)
called m t (Say s b) = on_saying m (say m.bytes m.side t s b)
called m t (Hear s) = on_hearing m (hear m.bytes m.side t s)

-- a call of thread i
abbrev pub call : Machine → ℕ → Call → Ended
call m i c = called m (table_of m.side i) c
