-- Rows of calls, each with what comes back of its calls and what is left. Assumes nothing: these are definitions and a statement.
-- They begin in the world small all of Examples.antt: object 0 a pool of 3 frames, 1 a line, 2 a port, 3 a page, 4 a table of 12 slots that holds objects 0 to 6
-- in slots 0 to 6 with all rights, 5 and 6 threads with that table. The births of these seven capabilities are 1 to 7.
use Rattle.std.specs.Prelude.{◌≡◌, ℕ, true, false, List, [], ◌∷◌}
use Rattle.std.specs.List.{AllByRecursion}
use Rattle.rights.specs.World.{World, Act, wrong, Object, Slot, Rights, Call, empty, cap, gone, pool, table, port, page, thread, line, stopped, ready, waits, call, tick, no, cut, copy, revoke, send, receive, a_port, a_page, object, slot, event}
use Rattle.rv32.specs.declared.registers.Cpu.{Cpu}
use Rattle.rv32.specs.Registers.{fresh}
use Rattle.laws.specs.Examples.{board, all, small}

-- what is looked at after a row: how much of pool 0 is used, what a slot of table 4 holds, and the words that a thread went on with last
pub data Look : Type 0 where
  used : ℕ → Look
  in_slot : ℕ → Slot → Look
  got : ℕ → List ℕ → Look

-- a call and the thread that makes it; the words that come back of each call at once, none where the thread waits; and what is seen afterwards
pub record Row : Type 0 where
  pub calls : List (ℕ × Call)
  pub back : List (List ℕ)
  pub after : List Look

-- rights to write only, and to write and hand on
abbrev pub writes_only : Rights
writes_only = record { reads = false; writes = true; hands = false }

abbrev pub no_read : Rights
no_read = record { reads = false; writes = true; hands = true }

-- A: a port takes 64 bytes, so the first page begins at 4,096, and after the second the pool is full
abbrev pub row_a : Row
row_a =
    record {
      calls = (5, cut 0 a_port 7) ∷ (5, cut 0 a_page 8) ∷ (5, cut 0 a_page 9) ∷ (5, cut 0 a_port 10) ∷ [];
      back = (0 ∷ []) ∷ (0 ∷ []) ∷ (0 ∷ []) ∷ (no ∷ []) ∷ [];
      after = used 12288 ∷ in_slot 10 empty ∷ [];
    }

-- B: what was cut goes with a revoke of the pool, which then has room again
abbrev pub row_b : Row
row_b =
    record {
      calls = (5, cut 0 a_port 7) ∷ (5, cut 0 a_page 8) ∷ (5, cut 0 a_page 9) ∷ (5, revoke 0) ∷ (5, cut 0 a_page 10) ∷ [];
      back = (0 ∷ []) ∷ (0 ∷ []) ∷ (0 ∷ []) ∷ (0 ∷ []) ∷ (0 ∷ []) ∷ [];
      after = in_slot 7 empty ∷ in_slot 8 empty ∷ in_slot 9 empty ∷ used 4096 ∷ [];
    }

-- C: who receives gets 0, the badge of the copy through which it was sent, and the four words
abbrev pub row_c : Row
row_c =
    record {
      calls = (5, copy 2 7 writes_only 5) ∷ (6, receive 2 8) ∷ (5, send 7 (1 ∷ 2 ∷ 3 ∷ 4 ∷ []) false 0) ∷ [];
      back = (0 ∷ []) ∷ [] ∷ (0 ∷ []) ∷ [];
      after = got 6 (0 ∷ 5 ∷ 1 ∷ 2 ∷ 3 ∷ 4 ∷ []) ∷ in_slot 8 empty ∷ [];
    }

-- D: a copy of a copy goes with a revoke of the copy, which itself stays: birth 8, made from birth 4
abbrev pub row_d : Row
row_d =
    record {
      calls = (5, copy 3 7 all 0) ∷ (5, copy 7 8 all 0) ∷ (5, revoke 7) ∷ (5, copy 8 9 all 0) ∷ [];
      back = (0 ∷ []) ∷ (0 ∷ []) ∷ (0 ∷ []) ∷ (no ∷ []) ∷ [];
      after = in_slot 7 (cap 3 all 0 8 4) ∷ in_slot 8 empty ∷ in_slot 9 empty ∷ [];
    }

-- E: the page goes from slot 3 to slot 8, by a port that may hand on
abbrev pub row_e : Row
row_e =
    record {
      calls = (6, receive 2 8) ∷ (5, send 2 (9 ∷ 0 ∷ 0 ∷ 0 ∷ []) true 3) ∷ [];
      back = [] ∷ (0 ∷ []) ∷ [];
      after = in_slot 3 empty ∷ in_slot 8 (cap 3 all 0 4 0) ∷ got 6 (0 ∷ 0 ∷ 9 ∷ 0 ∷ 0 ∷ 0 ∷ []) ∷ [];
    }

-- F: by a copy that may only write the words go over, and nothing is handed on
abbrev pub row_f : Row
row_f =
    record {
      calls = (6, receive 2 8) ∷ (5, copy 2 7 writes_only 0) ∷ (5, send 7 (9 ∷ 0 ∷ 0 ∷ 0 ∷ []) true 3) ∷ [];
      back = [] ∷ (0 ∷ []) ∷ (0 ∷ []) ∷ [];
      after = in_slot 3 (cap 3 all 0 4 0) ∷ in_slot 8 empty ∷ got 6 (0 ∷ 0 ∷ 9 ∷ 0 ∷ 0 ∷ 0 ∷ []) ∷ [];
    }

-- G: who waits at a port that goes with its pool gets no
abbrev pub row_g : Row
row_g =
    record {
      calls = (5, cut 0 a_port 7) ∷ (6, receive 7 8) ∷ (5, revoke 0) ∷ [];
      back = (0 ∷ []) ∷ [] ∷ (0 ∷ []) ∷ [];
      after = got 6 (no ∷ []) ∷ in_slot 7 empty ∷ used 0 ∷ [];
    }

-- H: a badge that is there stays, and so do rights that are not: the second copy is birth 9, made from birth 8
abbrev pub row_h : Row
row_h =
    record {
      calls = (5, copy 2 7 no_read 5) ∷ (5, copy 7 8 all 6) ∷ [];
      back = (0 ∷ []) ∷ (0 ∷ []) ∷ [];
      after = in_slot 7 (cap 2 no_read 5 8 3) ∷ in_slot 8 (cap 2 no_read 5 9 8) ∷ [];
    }

abbrev pub rows : List Row
rows = row_a ∷ row_b ∷ row_c ∷ row_d ∷ row_e ∷ row_f ∷ row_g ∷ row_h ∷ []

-- no instruction of a core's own is asked for: what it does is the row's
abbrev pub never : Cpu → (ℕ → ℕ) → Act Cpu
never c see = wrong

-- thread p has an instruction's time in which it makes a call; the words that come back are all that its registers then hold
abbrev pub made : World Cpu → ℕ → Call → World Cpu
made w p k = event Cpu fresh (λ c see. call k (λ ws. record { pc = c.pc; registers = ws })) board w (tick p)

-- the words that a thread that is ready went on with last, none of one that waits
abbrev pub words : Object Cpu → List ℕ
words gone = []
words (pool f n u) = []
words (table f ss) = []
words (port f ws) = []
words (page f bs) = []
words (thread f stopped c t ps rs) = []
words (thread f ready c t ps rs) = c.registers
words (thread f (waits o then) c t ps rs) = []
words (line xs ys) = []

-- the world after some calls, and what came back of each at once
abbrev pub left : World Cpu → List (ℕ × Call) → World Cpu
left w [] = w
left w (k ∷ ks) = left (made w k.0 k.1) ks

abbrev pub answers : World Cpu → List (ℕ × Call) → List (List ℕ)
answers w [] = []
answers w (k ∷ ks) = words (object Cpu fresh never (made w k.0 k.1) k.0) ∷ answers (made w k.0 k.1) ks

-- what is looked at is so
abbrev pub Seen : World Cpu → Look → Type 0
Seen w (used n) = object Cpu fresh never w 0 ≡ pool 0 12288 n
Seen w (in_slot s x) = slot Cpu fresh never w 5 s ≡ x
Seen w (got p ws) = words (object Cpu fresh never w p) ≡ ws

-- a row's calls come back as it says, and leave what it says
abbrev pub Right : Row → Type 0
Right r = (answers (small all) r.calls ≡ r.back) × AllByRecursion (Seen (left (small all) r.calls)) r.after

-- so does each row of the table
abbrev pub RowsAreRight : Type 0
RowsAreRight = AllByRecursion Right rows
