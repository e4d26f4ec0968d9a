-- Small images and rows for which the hypotheses of the theorems hold. Assumes nothing: these are definitions and statements.
use Rattle.std.specs.Prelude.{◌≡◌, ℕ, true, false, List, [], ◌∷◌, ◌++◌, replicate, Ok, Err}
use Rattle.rights.specs.declared.refusals.Refusal.TheVariants.{Length, Magic, Value, Name, Frames, Event}
use Rattle.rights.specs.World.{World, empty, cap, pool, table, port, page, thread, line, ready}
use Rattle.rv32.specs.declared.registers.Cpu.{Cpu}
use Rattle.rv32.specs.Registers.{fresh}
use Rattle.image.specs.Events.{events}
use Rattle.image.specs.Meaning.{world_of, encode}
use Rattle.image.specs.Verdict.{verdict, built, all_kinds}

-- "HOLD" and a number of objects, and then other bytes
abbrev image_of : ℕ → List ℕ → List ℕ
image_of n bs = 72 ∷ 79 ∷ 76 ∷ 68 ∷ n ∷ 0 ∷ bs

-- a line and a table of one slot, with what it names and its rights, and other bytes
abbrev one_slot : ℕ → ℕ → List ℕ → List ℕ
one_slot name rights bs = image_of 2 (5 ∷ 0 ∷ 0 ∷ 1 ∷ 1 ∷ 0 ∷ name ∷ 0 ∷ rights ∷ 0 ∷ 0 ∷ 0 ∷ 0 ∷ bs)

-- a thread with a table, a space with nothing in it, ready or not, and pc 0
abbrev one_thread : ℕ → List ℕ
one_thread mark = image_of 2 (1 ∷ 1 ∷ 0 ∷ 4 ∷ 0 ∷ 0 ∷ (replicate 7 0 ++ (1 ∷ 0 ∷ (replicate 192 0 ++ (mark ∷ 0 ∷ 0 ∷ 0 ∷ 0 ∷ [])))))

-- AN IMAGE BYTE BY BYTE, with six objects: a pool of two frames, a page, a table of two slots, a port, a thread and a line. The first slot is
-- empty, with what an empty slot may have: rights and a badge; the second holds the page with rights 5, to read and to hand on, and badge
-- 16,909,060. The page begins with 1 and 2. The thread has the table and, as page 1 of its space, the page, to be written too; page 2 is free,
-- with a mark; it is ready, with pc 4,100
abbrev pub full_image : List ℕ → List ℕ
full_image empty_slot =
    (72 ∷ 79 ∷ 76 ∷ 68 ∷ 6 ∷ 0 ∷ [])
    ++ ((0 ∷ 2 ∷ 0 ∷ 3 ∷ 0 ∷ 0 ∷ 1 ∷ 2 ∷ 0 ∷ 2 ∷ 0 ∷ 0 ∷ 4 ∷ 0 ∷ 0 ∷ 5 ∷ 0 ∷ 0 ∷ [])
    ++ ((0 ∷ 0 ∷ empty_slot) ++ ((2 ∷ 0 ∷ 5 ∷ 4 ∷ 3 ∷ 2 ∷ 1 ∷ []) ++ ((1 ∷ 2 ∷ replicate 4094 0)
    ++ ((3 ∷ 0 ∷ []) ++ ((0 ∷ 0 ∷ 0 ∷ 2 ∷ 0 ∷ 1 ∷ 0 ∷ 0 ∷ 1 ∷ replicate 183 0) ++ (1 ∷ 4 ∷ 16 ∷ 0 ∷ 0 ∷ [])))))))

-- and the world that it means
abbrev pub full_world : World Cpu
full_world =
    record {
      objects =
          pool 0 8192 0 ∷ page 0 (1 ∷ 2 ∷ replicate 4094 0)
          ∷ table 0 (empty ∷ cap 1 (record { reads = true; writes = false; hands = true }) 16909060 1 0 ∷ [])
          ∷ port 0 [] ∷ thread 0 ready (fresh 4100) 3 (0 ∷ 2 ∷ replicate 62 0) (false ∷ true ∷ true ∷ replicate 61 false) ∷ line [] [] ∷ [];
      births = 1;
      lineage = [];
    }

-- it is taken on four frames, means that world, and is the image of its objects but for the rights and the badge of the empty slot
abbrev pub Spelled : Type 0
Spelled =
    (verdict all_kinds 4 (full_image (7 ∷ 9 ∷ 0 ∷ 0 ∷ 0 ∷ [])) ≡ Ok (record { objects = 6; threads = 1; lines = 1 }))
    × (verdict all_kinds 3 (full_image (7 ∷ 9 ∷ 0 ∷ 0 ∷ 0 ∷ [])) ≡ Err (Frames 4))
    × (world_of (full_image (7 ∷ 9 ∷ 0 ∷ 0 ∷ 0 ∷ [])) ≡ full_world)
    × (encode full_world.objects ≡ full_image (replicate 5 0))

-- images that are taken, one with a line and one with a thread, one of each refusal, and rows of both kinds
abbrev pub Instances : Type 0
Instances =
    (verdict built 1 (one_slot 1 7 []) ≡ Ok (record { objects = 2; threads = 0; lines = 1 }))
    × (verdict built 1 (one_thread 1) ≡ Ok (record { objects = 2; threads = 1; lines = 0 }))
    × (verdict built 1 (one_thread 2) ≡ Err (Value 213))
    × (verdict built 1 (one_slot 1 7 (9 ∷ [])) ≡ Err (Length 19))
    × (verdict built 1 (image_of 1 []) ≡ Err (Length 6))
    × (verdict built 1 (72 ∷ 80 ∷ []) ≡ Err Magic)
    × (verdict built 1 (one_slot 1 8 []) ≡ Err (Value 14))
    × (verdict built 1 (one_slot 3 7 []) ≡ Err (Name 12))
    × (verdict built 0 (one_slot 1 7 []) ≡ Err (Frames 1))
    × (events (one_slot 1 7 []) (1 ∷ 0 ∷ 0 ∷ 65 ∷ []) ≡ Ok tt)
    × (events (one_thread 1) (0 ∷ 1 ∷ 0 ∷ []) ≡ Ok tt)
    × (events (one_slot 1 7 []) (1 ∷ 0 ∷ 0 ∷ 65 ∷ 0 ∷ 0 ∷ 0 ∷ []) ≡ Err (Event 4))
