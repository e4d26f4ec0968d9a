-- Parts of the world that an image means, each by its name. Assumes nothing: these are definitions.
use Rattle.std.specs.Prelude.{ℕ, ◌+◌, ◌-◌, ◌^◌, ◌≤◌, cond, List, Some, None, Option, ◌==◌}
use Rattle.rights.specs.declared.kinds.Kind.TheVariants.{Table, Page, Thread}
use Rattle.rights.specs.Vocabulary.{rights_of_bits}
use Rattle.rights.specs.World as w
use Rattle.rv32.specs.declared.registers.Cpu.{Cpu}
use Rattle.rv32.specs.Registers.{fresh}
use Rattle.rv32.specs.Execute.{act}
use Rattle.image.specs.Fields as fields
use Rattle.image.specs.Format.{part}
use Rattle.image.specs.Meaning as m
use Rattle.model.specs.declared.objects.Mapping.{Mapping}
use Rattle.model.specs.Plain.{mapping_of}
use Rattle.replay.specs.declared.places.Places.{Places}

-- a slot at a place, where what it holds has a birth
abbrev pub slot : List ℕ → ℕ → ℕ → w.Slot
slot bs a birth = cond (fields.two bs a == 0) w.empty (w.cap (fields.two bs a - 1) (rights_of_bits (fields.one bs (a + 2))) (m.four bs (a + 3)) birth 0)

-- the object that a number names, plus 1; none for 0
abbrev pub named : ℕ → Option ℕ
named n = cond (n == 0) None (Some (n - 1))

-- the page of a space at a place
abbrev pub mapping : List ℕ → ℕ → Mapping
mapping bs a = mapping_of (named (fields.two bs a)) (fields.one bs (a + 2) == 1)

-- a thread at a place
abbrev pub thread : List ℕ → ℕ → w.Object Cpu
thread bs a =
    w.thread 0 (m.state_of (fields.one bs (a + 194))) (fresh (m.four bs (a + 195))) (fields.two bs a) (m.pages_from bs 64 (a + 2)) (m.marks_from bs 64 (a + 2))

-- how many capabilities are in an object's slots
abbrev pub births : w.Object Cpu → ℕ
births x = m.births_of (w.slots_of Cpu fresh act x)

-- places, as the definition has them, and those of which no sum with a size leaves 64 bits
abbrev pub seen : Places → m.Places
seen p = record { slots_at = p.slots_at; bytes_at = p.bytes_at; thread_at = p.thread_at; born = p.born }

pub record Low (p : Places) : Type 0 where
  pub slots : p.slots_at ≤ 2 ^ 63
  pub bytes : p.bytes_at ≤ 2 ^ 63
  pub thread : p.thread_at ≤ 2 ^ 63

-- the places after an object with so many births
abbrev pub after : List ℕ → ℕ → ℕ → m.Places → ℕ → m.Places
after bs n o p births = record {
  slots_at = m.stop (part bs n Table o p.slots_at);
  bytes_at = m.stop (part bs n Page o p.bytes_at);
  thread_at = m.stop (part bs n Thread o p.thread_at);
  born = p.born + births;
}
