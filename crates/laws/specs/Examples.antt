-- Small worlds that meet what the laws ask for, so that none of the laws is empty. Assumes nothing: these are definitions and statements.
use Rattle.std.specs.Prelude.{◌+◌, ◌==◌, ◌≡◌, Bool, true, false, List, [], ◌∷◌, ◌++◌, ◌≢◌, ℕ, suc, ◌≤◌, ◌<◌, ltb, get_or, replicate}
use Rattle.rights.specs.World.{Act, World, Sizes, Object, Slot, Rights, Call, pick, wrong, byte, move, map, unmap, bind, go, say, drop_it, empty, cap, pool, line, port, page, table, thread, ready, waits, call, tick, cut, copy, revoke, send, receive, hear, a_pool, a_table, a_page, on, object, event, run, does, slot, has_slot, slots_of, from_of, offspring, among, up_to}
use Rattle.rights.specs.Promise.{SameButBirths, Parted, New, Fits, Kinds, Paged, Uncut, Comes, Sized, filled, MadeIn, RevokedNow, standing, GoesWith, only, log, event_noted, sends, meets, met_at, got_by, message}
use Rattle.rights.specs.Effects.{HandsOn, When}
use Rattle.rv32.specs.declared.registers.Cpu.{Cpu}
use Rattle.rv32.specs.Registers.{fresh}

-- bytes of a page, pages of a space, and how many bytes can wait at a line
abbrev pub board : Sizes
board = record { bytes = 4096; pages = 64; heard = 1024 }

abbrev pub all : Rights
all = record { reads = true; writes = true; hands = true }

abbrev pub reads_only : Rights
reads_only = record { reads = true; writes = false; hands = false }

-- what can be held but not written
abbrev pub no_write : Rights
no_write = record { reads = true; writes = false; hands = true }

-- a core that makes the calls of a list, one after the other: pc n is at call n
abbrev pub calling : List Call → Cpu → (ℕ → ℕ) → Act Cpu
calling cs c see = call (get_or cs c.pc (hear 11)) (λ ws. record { pc = suc c.pc; registers = c.registers })

-- object 0 a pool of 3 frames, 1 a line, 2 a port, 3 a page, 4 a table of 12 slots, 5 and 6 threads with that table and an empty space;
-- slots 0 to 6 hold objects 0 to 6 with all rights, but the pool with rights r; thread 5 begins at pc 0, thread 6 at pc 4
abbrev pub slots : Rights → List Slot
slots r =
    cap 0 r 0 1 0 ∷ cap 1 all 0 2 0 ∷ cap 2 all 0 3 0 ∷ cap 3 all 0 4 0 ∷ cap 4 all 0 5 0 ∷ cap 5 all 0 6 0 ∷ cap 6 all 0 7 0 ∷ empty ∷ empty ∷ empty ∷ empty ∷ empty ∷ []

abbrev pub small : Rights → World Cpu
small r =
    record {
      objects = pool 0 12288 0 ∷ line [] [] ∷ port 0 [] ∷ page 0 (replicate 4096 0) ∷ table 0 (slots r) ∷ thread 0 ready (fresh 0) 5 (replicate 64 0) (replicate 64 false) ∷ thread 0 ready (fresh 4) 5 (replicate 64 0) (replicate 64 false) ∷ [];
      births = 7;
      lineage = [];
    }

-- it is a start: parted from nothing, of right kinds, threads uncut, pools not overdrawn
abbrev pub Starts : Type 0
Starts =
    (f : ℕ → Cpu) (a : Cpu → (ℕ → ℕ) → Act Cpu) →
    Parted Cpu f a (λ o. true) (small all) × Kinds Cpu f a (small all) × Uncut Cpu f a (small all) × ((o g n u : ℕ) → object Cpu f a (small all) o ≡ pool g n u → u ≤ n)

-- and it is one that an image can carry: of new objects, and it fits, if there are frames for it
abbrev pub Carried : Type 0
Carried =
    (a : Cpu → (ℕ → ℕ) → Act Cpu) → ((o : ℕ) → o < 7 → New Cpu fresh a board (object Cpu fresh a (small all) o)) ×
    ((frames : List (Object Cpu) → ℕ) → frames (small all).objects ≤ 4096 → Fits Cpu fresh a frames (small all))

-- a cut that the pool is large enough for, and one that it is too small for; a pool of which 64 bytes are used is filled up to a whole frame
abbrev pub Cuts : Type 0
Cuts =
    (f : ℕ → Cpu) (a : Cpu → (ℕ → ℕ) → Act Cpu) →
    (slot Cpu f a (small all) 5 0 ≡ cap 0 all 0 1 0) × (object Cpu f a (small all) 0 ≡ pool 0 12288 0) × (has_slot Cpu f a (small all) 5 7 ≡ true) × (slot Cpu f a (small all) 5 7 ≡ empty) ×
    Sized Cpu f a (a_pool 3) × Sized Cpu f a (a_pool 4) × (filled Cpu f a board (a_pool 3) 0 ≤ 12288) × (12288 < filled Cpu f a board (a_pool 4) 0) × (up_to 4096 64 ≡ 4096)

-- thread 5 cuts a table of one slot and then a page: the pool is filled up to a frame before the page, so that more of it is used than what stands costs;
-- both go with the pool, and a revoke of it comes back with 0
abbrev pub cuts_two : Cpu → (ℕ → ℕ) → Act Cpu
cuts_two = calling (cut 0 (a_table 1) 7 ∷ cut 0 a_page 8 ∷ [])

abbrev pub cut_world : World Cpu
cut_world = run Cpu fresh cuts_two board (small all) (tick 5 ∷ tick 5 ∷ [])

abbrev pub Stands : Type 0
Stands =
    Kinds Cpu fresh cuts_two (small all) × Paged Cpu fresh cuts_two board (small all) × ((o : ℕ) → from_of Cpu fresh cuts_two (object Cpu fresh cuts_two (small all) o) ≡ 0) × (object Cpu fresh cuts_two cut_world 0 ≡ pool 0 12288 8192) ×
    (standing Cpu fresh cuts_two 1 cut_world.objects ≡ 4160) ×
    (slot Cpu fresh cuts_two cut_world 5 0 ≡ cap 0 all 0 1 0) × GoesWith Cpu fresh cuts_two cut_world 0 7 × ((v : World Cpu) × (does Cpu fresh cuts_two board cut_world 5 (revoke 0) ≡ on v (0 ∷ [])))

-- thread 5 has copied its capability to the page to slot 7, to be read only
abbrev pub copies : Cpu → (ℕ → ℕ) → Act Cpu
copies = calling (copy 3 7 reads_only 0 ∷ [])

abbrev pub copied_world : World Cpu
copied_world = run Cpu fresh copies board (small all) (tick 5 ∷ [])

-- so there is somebody who was made from somebody, and a revoke that comes back with 0 and has something to take away
abbrev pub Makes : Type 0
Makes =
    Comes Cpu fresh copies board copied_world × (slot Cpu fresh copies copied_world 5 3 ≡ cap 3 all 0 4 0) ×
    (get_or (slots_of Cpu fresh copies (object Cpu fresh copies copied_world 4)) 7 empty ≡ cap 3 reads_only 0 8 4) ×
    (among 8 (offspring Cpu fresh copies copied_world copied_world.births (4 ∷ [])) ≡ true) ×
    ((v : World Cpu) × (does Cpu fresh copies board copied_world 5 (revoke 3) ≡ on v (0 ∷ [])))

-- thread 5 copies its capability to the page to slot 7, and that to slot 8, and revokes the first: the second copy, birth 9, was made from the first capability, birth 4, through the copy with birth 8
abbrev pub copies_twice : Cpu → (ℕ → ℕ) → Act Cpu
copies_twice = calling (copy 3 7 all 0 ∷ copy 7 8 all 0 ∷ revoke 3 ∷ [])

abbrev pub twice_world : World Cpu
twice_world = run Cpu fresh copies_twice board (small all) (tick 5 ∷ tick 5 ∷ [])

-- and the revoke comes back with 0
abbrev pub MakesTwice : Type 0
MakesTwice =
    MadeIn Cpu fresh copies_twice (does Cpu fresh copies_twice) (event Cpu fresh copies_twice) board (small all) (tick 5 ∷ tick 5 ∷ []) 4 9 ×
    RevokedNow Cpu fresh copies_twice (does Cpu fresh copies_twice) (event Cpu fresh copies_twice) board twice_world (tick 5) 4 ×
    (slot Cpu fresh copies_twice twice_world 5 3 ≡ cap 3 all 0 4 0) × (slot Cpu fresh copies_twice twice_world 5 8 ≡ cap 3 all 0 9 8) × ((v : World Cpu) × (does Cpu fresh copies_twice board twice_world 5 (revoke 3) ≡ on v (0 ∷ [])))

-- thread 6 comes to receive and waits at the port; thread 5 comes to send 1 2 3 4: they meet
abbrev pub talks : Cpu → (ℕ → ℕ) → Act Cpu
talks = calling (send 2 (1 ∷ 2 ∷ 3 ∷ 4 ∷ []) false 0 ∷ hear 11 ∷ hear 11 ∷ hear 11 ∷ receive 2 8 ∷ [])

abbrev pub Meets : Type 0
Meets =
    ((c : Cpu) × (then : List ℕ → Cpu) × (object Cpu fresh talks (run Cpu fresh talks board (small all) (tick 6 ∷ [])) 6 ≡ thread 0 (waits 2 then) c 5 (replicate 64 0) (replicate 64 false))) ×
    (met_at 2 (log Cpu fresh talks (does Cpu fresh talks) (event Cpu fresh talks) board (small all) (tick 6 ∷ tick 5 ∷ [])) ≡ got_by (message 5 0 (1 ∷ 2 ∷ 3 ∷ 4 ∷ [])) 6 ∷ []) ×
    (event_noted Cpu fresh talks (does Cpu fresh talks) board (run Cpu fresh talks board (small all) (tick 6 ∷ [])) (tick 5) ≡ sends 2 5 0 (1 ∷ 2 ∷ 3 ∷ 4 ∷ []) ∷ [] ++ meets 2 5 6 0 (1 ∷ 2 ∷ 3 ∷ 4 ∷ []) ∷ [])

-- thread 5 sends 1 2 3 4 and hands on slot n; thread 6 receives in slot 8
abbrev pub hands_over : ℕ → Cpu → (ℕ → ℕ) → Act Cpu
hands_over n = calling (send 2 (1 ∷ 2 ∷ 3 ∷ 4 ∷ []) true n ∷ hear 11 ∷ hear 11 ∷ hear 11 ∷ receive 2 8 ∷ [])

-- the sender comes first and waits, handing on its capability to the page: slot 8 then holds what slot 3 held, and slot 3 is empty
abbrev pub HandsOver : Type 0
HandsOver =
    ((c : Cpu) × (then : List ℕ → Cpu) × (object Cpu fresh (hands_over 3) (run Cpu fresh (hands_over 3) board (small all) (tick 5 ∷ [])) 5 ≡ thread 0 (waits 2 then) c 5 (replicate 64 0) (replicate 64 false))) ×
    (met_at 2 (log Cpu fresh (hands_over 3) (does Cpu fresh (hands_over 3)) (event Cpu fresh (hands_over 3)) board (small all) (tick 5 ∷ tick 6 ∷ [])) ≡ got_by (message 5 0 (1 ∷ 2 ∷ 3 ∷ 4 ∷ [])) 6 ∷ []) ×
    (slot Cpu fresh (hands_over 3) (small all) 5 3 ≡ cap 3 all 0 4 0) × (slot Cpu fresh (hands_over 3) (small all) 6 8 ≡ empty) ×
    (slot Cpu fresh (hands_over 3) (run Cpu fresh (hands_over 3) board (small all) (tick 5 ∷ tick 6 ∷ [])) 6 8 ≡ cap 3 all 0 4 0) ×
    (slot Cpu fresh (hands_over 3) (run Cpu fresh (hands_over 3) board (small all) (tick 5 ∷ tick 6 ∷ [])) 5 3 ≡ empty) ×
    HandsOn Cpu fresh (hands_over 3) board (run Cpu fresh (hands_over 3) board (small all) (tick 5 ∷ [])) (tick 6) 5 3 6 8

-- thread 6 stops, since its instruction is wrong, and a byte comes in at the line
abbrev pub stopping : Cpu → (ℕ → ℕ) → Act Cpu
stopping c see = wrong

abbrev pub stopped_world : World Cpu
stopped_world = run Cpu fresh stopping board (small all) (tick 6 ∷ byte 1 65 ∷ [])

-- each call that is answered in its own time can be done there by thread 5, and each can be refused
abbrev pub CanBeDone : Type 0
CanBeDone =
    When Cpu fresh stopping board stopped_world 5 (cut 0 a_page 7) × When Cpu fresh stopping board stopped_world 5 (copy 3 7 reads_only 0) × When Cpu fresh stopping board stopped_world 5 (move 3 7) ×
    When Cpu fresh stopping board stopped_world 5 (drop_it 3) × When Cpu fresh stopping board stopped_world 5 (revoke 0) × When Cpu fresh stopping board stopped_world 5 (map 3 6 1) ×
    When Cpu fresh stopping board stopped_world 5 (unmap 6 1) × When Cpu fresh stopping board stopped_world 5 (bind 6 4) × When Cpu fresh stopping board stopped_world 5 (go 6 0) ×
    When Cpu fresh stopping board stopped_world 5 (say 1 65) × When Cpu fresh stopping board stopped_world 5 (hear 1) × (When Cpu fresh stopping board stopped_world 5 (move 3 0) → ⊥)

-- thread 5 asks for a copy of its capability to the pool with all rights
abbrev pub asks_all : Cpu → (ℕ → ℕ) → Act Cpu
asks_all = calling (copy 0 7 all 0 ∷ [])

-- thread 5 cuts a pool of two frames
abbrev pub cuts_pool : Cpu → (ℕ → ℕ) → Act Cpu
cuts_pool = calling (cut 0 (a_pool 2) 7 ∷ [])

-- thread 5 cuts a page into slot 7 and revokes the pool
abbrev pub cuts_and_revokes : Cpu → (ℕ → ℕ) → Act Cpu
cuts_and_revokes = calling (cut 0 a_page 7 ∷ revoke 0 ∷ [])

-- thread 5 drops its capability to the page
abbrev pub drops : Cpu → (ℕ → ℕ) → Act Cpu
drops = calling (drop_it 3 ∷ [])

-- object 0 a port, 1 a table whose slot 0 holds it, 2 to 4 threads with that table; 2 and 3 send, 4 receives
abbrev pub crowd : World Cpu
crowd =
    record {
      objects = port 0 [] ∷ table 0 (cap 0 all 0 1 0 ∷ []) ∷ thread 0 ready (fresh 0) 2 [] [] ∷ thread 0 ready (fresh 1) 2 [] [] ∷ thread 0 ready (fresh 2) 2 [] [] ∷ [];
      births = 1;
      lineage = [];
    }

abbrev pub queues : Cpu → (ℕ → ℕ) → Act Cpu
queues = calling (send 0 (1 ∷ []) false 0 ∷ send 0 (2 ∷ []) false 0 ∷ receive 0 5 ∷ [])

-- it is a start, and the first who came to send met the one who came to receive; the second waits
abbrev pub Queues : Type 0
Queues =
    Parted Cpu fresh queues (λ o. true) crowd × Kinds Cpu fresh queues crowd × Uncut Cpu fresh queues crowd ×
    (met_at 0 (log Cpu fresh queues (does Cpu fresh queues) (event Cpu fresh queues) board crowd (tick 2 ∷ tick 3 ∷ tick 4 ∷ [])) ≡ got_by (message 2 0 (1 ∷ [])) 4 ∷ [])

-- two sets that hold nothing of each other: a line, a table and a thread each. The second set's capability has rights r, and its thread begins at pc n; i and j are the births
abbrev pub two : Rights → ℕ → ℕ → ℕ → World Cpu
two r n i j =
    record {
      objects = line [] [] ∷ table 0 (cap 0 all 0 i 0 ∷ []) ∷ thread 0 ready (fresh 0) 2 [] [] ∷ line [] [] ∷ table 0 (cap 3 r 0 j 0 ∷ []) ∷ thread 0 ready (fresh n) 5 [] [] ∷ [];
      births = 2;
      lineage = [];
    }

-- the first set
abbrev pub ours : ℕ → Bool
ours o = ltb o 3

-- what the law about it asks for: two such worlds that differ, also in the births of the set itself, and rows with the same of the set's events
abbrev pub Parts : Type 0
Parts =
    (f : ℕ → Cpu) (a : Cpu → (ℕ → ℕ) → Act Cpu) →
    Parted Cpu f a ours (two all 1 1 2) × Parted Cpu f a ours (two no_write 2 2 1) ×
    (get_or (slots_of Cpu f a (object Cpu f a (two all 1 1 2) 1)) 0 empty ≢ get_or (slots_of Cpu f a (object Cpu f a (two no_write 2 2 1) 1)) 0 empty) ×
    (get_or (slots_of Cpu f a (object Cpu f a (two all 1 1 2) 4)) 0 empty ≢ get_or (slots_of Cpu f a (object Cpu f a (two no_write 2 2 1) 4)) 0 empty) ×
    ((u : ℕ) → u < 6 → ours u ≡ true → SameButBirths Cpu f a (object Cpu f a (two all 1 1 2) u) (object Cpu f a (two no_write 2 2 1) u)) ×
    (only Cpu f a ours (tick 2 ∷ tick 5 ∷ tick 2 ∷ []) ≡ only Cpu f a ours (tick 5 ∷ tick 2 ∷ tick 2 ∷ tick 5 ∷ [])) × ((u : ℕ) → 6 ≤ u → ours u ≡ false)

-- a thread at pc 1 drops what its slot 0 holds; any other says its pc on the line in slot 0, and goes on at 10 and the second word that comes back
abbrev pub telling : Cpu → (ℕ → ℕ) → Act Cpu
telling c see = pick (c.pc == 1) (call (drop_it 0) (λ ws. c)) (call (say 0 c.pc) (λ ws. record { pc = 10 + get_or ws 1 0; registers = c.registers }))
