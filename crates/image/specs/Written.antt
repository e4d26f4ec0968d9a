-- An image, and the image that is written of its world: the same bytes, but for what the format passes over. Assumes nothing: these are definitions and statements.
use Rattle.std.specs.Prelude.{◌≡◌, ℕ, ◌+◌, ◌-◌, ◌%◌, Bool, cond, ◌&&◌, List, length, Ok, ◌==◌, nat_le, nat_lt, slice_index}
use Rattle.rights.specs.declared.kinds.Kind.TheVariants.{Table}
use Rattle.rights.specs.World.{World, Sizes}
use Rattle.rv32.specs.declared.registers.Cpu.{Cpu}
use Rattle.image.specs.declared.census.Census.{Census}
use Rattle.image.specs.declared.census.Kinds.{Kinds}
use Rattle.image.specs.Fields.{two}
use Rattle.image.specs.Format.{head_at, section}
use Rattle.image.specs.Meaning.{stop, objects_of, world_of, encode}
use Rattle.image.specs.Verdict.{verdict, all_kinds}
use Rattle.image.specs.Allowed.{Bytes, Taken, Allowed}

-- tables' slots, seven bytes each, stand behind the headers, up to a place
abbrev pub slots_end : List ℕ → ℕ
slots_end bs = stop (section bs (two bs 4) Table (head_at (two bs 4)))

-- where the slot begins that a place among them is in
abbrev pub slot_begin : List ℕ → ℕ → ℕ
slot_begin bs a = a - (a - head_at (two bs 4)) % 7

-- whether a place is in the rights or the badge of a slot that is empty: behind its two bytes that name no object
abbrev pub passed_over : List ℕ → ℕ → Bool
passed_over bs a = (nat_le (head_at (two bs 4)) a && nat_lt a (slots_end bs)) && (two bs (slot_begin bs a) == 0 && nat_le (slot_begin bs a + 2) a)

-- the byte at a place, 0 where it is passed over
abbrev pub kept_byte : List ℕ → ℕ → ℕ
kept_byte bs a = cond (passed_over bs a) 0 (slice_index bs a)

-- the image of an allowed world's objects is taken, and means that world
abbrev pub ReadsBack : Type 0
ReadsBack =
    (z : Sizes) (w : World Cpu) → z.bytes ≡ 4096 → z.pages ≡ 64 → Allowed z w → Taken all_kinds (encode w.objects) × (world_of (encode w.objects) ≡ w)

-- the image of the objects that an image means, if that is taken: it is taken alike, means the same world, is as long, and has the same
-- bytes, but 0 in the rights and badges of empty slots
abbrev pub WritesBack : Type 0
WritesBack =
    (ks : Kinds) (lent : ℕ) (bs : List ℕ) (c : Census) → Bytes bs → verdict ks lent bs ≡ Ok c →
    Bytes (encode (objects_of bs)) × (verdict ks lent (encode (objects_of bs)) ≡ Ok c) × (world_of (encode (objects_of bs)) ≡ world_of bs)
    × (length (encode (objects_of bs)) ≡ length bs) × ((a : ℕ) → slice_index (encode (objects_of bs)) a ≡ kept_byte bs a)

-- images are as long and have the same bytes, but for what is passed over
abbrev pub AsWritten : List ℕ → List ℕ → Type 0
AsWritten bs cs = (length bs ≡ length cs) × ((a : ℕ) → kept_byte bs a ≡ kept_byte cs a)

-- two images that are taken mean the same world exactly if they are the same but for what is passed over
abbrev pub OneWorld : Type 0
OneWorld =
    (ks js : Kinds) (lent others : ℕ) (bs cs : List ℕ) (c d : Census) → Bytes bs → Bytes cs → verdict ks lent bs ≡ Ok c → verdict js others cs ≡ Ok d →
    (world_of bs ≡ world_of cs → AsWritten bs cs) × (AsWritten bs cs → world_of bs ≡ world_of cs)
