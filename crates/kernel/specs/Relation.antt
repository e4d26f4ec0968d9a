-- THE RELATION between what the kernel keeps and the abstract world. Assumes nothing: these are definitions.
use Rattle.std.specs.Prelude.{◌≡◌, ◌≢◌, ℕ, zero, suc, ◌+◌, ◌/◌, ◌<◌, ◌≤◌, Bool, false, List, [], ◌∷◌, length, Option, Some, None, ◌==◌, slice_index, slice_index_or}
use Rattle.std.specs.List.{AllByRecursion}
use Rattle.std.specs.Option.{option_map}
use Rattle.rights.specs.declared.bits.Rights.{Rights}
use Rattle.rights.specs.World as w
use Rattle.rights.specs.World.{pick}
use Rattle.rv32.specs.declared.registers.Cpu.{Cpu}
use Rattle.board.specs.declared.slots.Capability.{Capability}
use Rattle.board.specs.declared.slots.Object.{Object}
use Rattle.board.specs.declared.slots.Object.TheVariants as at
use Rattle.board.specs.Slots.{slot_at}
use Rattle.board.specs.Links.{cell}
use Rattle.board.specs.Parts.{page_at}
use Rattle.space.specs.declared.entries.Mapping.{Mapping}
use Rattle.space.specs.declared.side.State.{State}
use Rattle.space.specs.declared.side.State.TheVariants.{Stopped, Ready}
use Rattle.space.specs.declared.side.Table.{Table}
use Rattle.space.specs.declared.side.Thread.{Thread}
use Rattle.space.specs.Laws.{Shaped, Kept}
use Rattle.space.specs.Lines.{waiting}
use Rattle.space.specs.Tables.{look_up}
use Rattle.chain.specs.Entries.{Entry, places}
use Rattle.chain.specs.Ring.{Stands}
use Rattle.calls.specs.Machine.{Machine, thread_at, line_at}
use Rattle.kernel.specs.Core.{World, object}
use Rattle.kernel.specs.Places.{Laid, SlotPlace}

-- rights as bits
abbrev pub bits_of : w.Rights → Rights
bits_of r = record { bits = pick r.reads 1 0 + (pick r.writes 2 0 + pick r.hands 4 0) }

-- what a slot of the world looks like on the board
abbrev pub shape : (ℕ → Option Object) → w.Slot → Option Capability
shape spot w.empty = None
shape spot (w.cap o r b i m) = option_map (λ (x : Object). record { object = x; rights = bits_of r; badge = b }) (spot o)

-- what a slot holds is there
abbrev pub Known : (ℕ → Option Object) → w.Slot → Type 0
Known spot w.empty = Unit {0}
Known spot (w.cap o r b i m) = spot o ≢ None

-- the birth + 1 of the entry of the ring at a place, 0 where there is none
unfoldable pub mark_at : List Entry → ℕ → ℕ
mark_at [] p = 0
mark_at (e ∷ l) p = pick (p == e.place) (suc e.birth) (mark_at l p)

-- the same of what a slot of the world holds
abbrev pub slot_mark : w.Slot → ℕ
slot_mark w.empty = 0
slot_mark (w.cap o r b i m) = suc i

-- the slot at place p is slot x of the world: it holds the same, and stands in the ring with its birth
abbrev pub Slotted : (ℕ → Option Object) → (ℕ → Option Capability) → (ℕ → ℕ) → ℕ → w.Slot → Type 0
Slotted spot held mark p x = (held p ≡ shape spot x) × (mark p ≡ slot_mark x) × Known spot x

-- the state of a thread; waiting comes with ports
abbrev pub Like : State → w.State Cpu → Type 0
Like Stopped w.stopped = Unit {0}
Like Ready w.ready = Unit {0}
Like _ _ = ⊥

-- the table that a number + 1 names
abbrev pub Bound : (ℕ → Option Object) → Option Table → ℕ → Type 0
Bound spot t zero = t ≡ None
Bound spot t (suc o) = (p : ℕ) × (n : ℕ) × (spot o ≡ Some (at.Table p n)) × (t ≡ Some (record { place = p; slots = n }))

-- page of a space: the page that a number + 1 names, to be written or not
abbrev pub Mapped : (ℕ → Option Object) → Option Mapping → ℕ → Bool → Type 0
Mapped spot x zero m = x ≡ None
Mapped spot x (suc o) m = (p : ℕ) × (spot o ≡ Some (at.Page p)) × (x ≡ Some (record { place = p; writes = m }))

-- thread o of the world
pub record Alike (spot : ℕ → Option Object) (t : Thread) (o : ℕ) (s : w.State Cpu) (c : Cpu) (b : ℕ) (ps : List ℕ) (rs : List Bool) : Type 0 where
  pub number : t.object ≡ o
  pub state : Like t.state s
  pub core : t.cpu ≡ c
  pub table : Bound spot t.table b
  pub shaped : Shaped t.pages
  pub wide : length ps ≡ 64
  pub marks : length rs ≡ 64
  pub space : (a : ℕ) → a < 64 → Mapped spot (look_up t.pages a) (slice_index ps a) (slice_index_or rs a false)

-- object o of the world is what is kept where it lies; held and mark are apart from the rest, so that a write to slots says nothing of it; pools and ports come later
abbrev pub Good : (ℕ → Option Object) → (ℕ → Option Capability) → (ℕ → ℕ) → Machine → ℕ → w.Object Cpu → Type 0
Good spot held mark k o w.gone = spot o ≡ None
Good spot held mark k o (w.pool f n u) = ⊥
Good spot held mark k o (w.table f ss) =
    (p : ℕ) × (spot o ≡ Some (at.Table p (length ss))) × ((i : ℕ) → i < length ss → Slotted spot held mark (p + i) (slice_index_or ss i w.empty))
Good spot held mark k o (w.port f ws) = ⊥
Good spot held mark k o (w.page f bs) = (p : ℕ) × (spot o ≡ Some (at.Page p)) × (page_at k.bytes p ≡ bs)
Good spot held mark k o (w.thread f s c b ps rs) = (i : ℕ) × (spot o ≡ Some (at.Thread i)) × Alike spot (thread_at k.side i) o s c b ps rs
Good spot held mark k o (w.line xs ys) =
    (j : ℕ) × (spot o ≡ Some (at.Line j)) × ((line_at k.side j).object ≡ o) × Kept (line_at k.side j) × (waiting (line_at k.side j) ≡ ys)

-- what is kept is this world
pub record Rep (spot : ℕ → Option Object) (ring : List Entry) (k : Machine) (v : World) : Type 0 where
  pub small : length k.bytes ≤ 16777216
  pub threads : length k.side.threads ≡ 64
  pub lines : length k.side.lines ≡ 32
  pub laid : Laid (length k.bytes / 64) spot
  pub good : (o : ℕ) → Good spot (slot_at k.bytes) (mark_at ring) k o (object v o)
  pub stands : Stands v.lineage v.births (cell k.bytes) ring
  pub slots : AllByRecursion (SlotPlace spot) (places ring)
