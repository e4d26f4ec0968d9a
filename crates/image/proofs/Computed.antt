-- The small images and rows, by computation.
use Rattle.std.proofs.Common.{◌≡◌, ℕ, ◌+◌, true, false, List, [], ◌∷◌, ◌++◌, length, replicate, refl, ap}
use Rattle.image.specs.Events.{events_from}
use Rattle.image.specs.Fields.{each}
use Rattle.image.specs.Instances.{Instances, full_image, Spelled}
use Rattle.image.specs.Layout.{filled}
use Rattle.image.specs.Meaning.{slots_from, births_of, bytes_from, pages_from, marks_from, objects_from, births_all}
use Rattle.rights.specs.World.{slots_of, empty, cap, pool, table, port, page, thread, line, ready}
use Rattle.rv32.specs.Registers.{fresh}
use Rattle.image.proofs.Stands.{At, at_split, at_whole}
use Rattle.image.proofs.Spaces.{bytes_back}

pub met : Instances
unfolding each filled events_from
met = (refl, refl, refl, refl, refl, refl, refl, refl, refl, refl, refl, refl)

-- the image that is written out; its page's bytes are found by where they stand, since 4,096 reads of a long list are slow to compute
abbrev image : List ℕ
image = full_image (7 ∷ 9 ∷ 0 ∷ 0 ∷ 0 ∷ [])

abbrev before : List ℕ
before =
    72 ∷ 79 ∷ 76 ∷ 68 ∷ 6 ∷ 0 ∷ 0 ∷ 2 ∷ 0 ∷ 3 ∷ 0 ∷ 0 ∷ 1 ∷ 2 ∷ 0 ∷ 2 ∷ 0 ∷ 0 ∷ 4 ∷ 0 ∷ 0 ∷ 5 ∷ 0 ∷ 0 ∷ 0 ∷ 0 ∷ 7 ∷ 9 ∷ 0 ∷ 0 ∷ 0
    ∷ 2 ∷ 0 ∷ 5 ∷ 4 ∷ 3 ∷ 2 ∷ 1 ∷ []

abbrev content : List ℕ
content = 1 ∷ 2 ∷ replicate 4094 0

abbrev behind : List ℕ
behind = (3 ∷ 0 ∷ []) ++ ((0 ∷ 0 ∷ 0 ∷ 2 ∷ 0 ∷ 1 ∷ 0 ∷ 0 ∷ 1 ∷ replicate 183 0) ++ (1 ∷ 4 ∷ 16 ∷ 0 ∷ 0 ∷ []))

standing : (xs ys zs : List ℕ) → At (xs ++ (ys ++ zs)) (0 + length xs) ys
standing xs ys zs =
    let bs : List ℕ = xs ++ (ys ++ zs) in (at_split bs (0 + length xs) ys zs (at_split bs 0 xs (ys ++ zs) (at_whole bs)).1).0

its_page : bytes_from image 4096 38 ≡ content
its_page = bytes_back image content 4096 38 refl (standing before content behind)

pub spelled : Spelled
unfolding each filled slots_from births_of pages_from marks_from objects_from births_all slots_of
spelled = (
  refl,
  refl,
  ap (λ xs. record {
    objects = pool 0 8192 0 ∷ page 0 xs ∷ table 0 (empty ∷ cap 1 (record { reads = true; writes = false; hands = true }) 16909060 1 0 ∷ [])
        ∷ port 0 [] ∷ thread 0 ready (fresh 4100) 3 (0 ∷ 2 ∷ replicate 62 0) (false ∷ true ∷ true ∷ replicate 61 false) ∷ line [] [] ∷ [];
    births = 1;
    lineage = [];
  }) its_page,
  refl,
)
