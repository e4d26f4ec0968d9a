-- What each instruction keeps: x0 is 0, and the pc and 32 registers are below 2 ^ 32. Assumes nothing: these are statements.
use Rattle.std.specs.Prelude.{◌≡◌, ℕ, ◌^◌, ◌<◌, ◌≤◌, List, length, slice_index, slice_index_or}
use Rattle.std.specs.List.{AllByRecursion}
use Rattle.rights.specs.World as world
use Rattle.rv32.specs.declared.registers.Cpu.{Cpu}
use Rattle.rv32.specs.Registers.{fresh, x, put}
use Rattle.rv32.specs.Execute.{act}

-- x0 reads 0, and a write to it does nothing
abbrev pub ZeroRegister : Type 0
ZeroRegister = (c : Cpu) (v : ℕ) → (x c 0 ≡ 0) × (put c 0 v ≡ c)

-- a core as it should be
pub record Sound (c : Cpu) : Type 0 where
  pub pc_fits : c.pc < 2 ^ 32
  pub count : length c.registers ≡ 32
  pub zero : slice_index_or c.registers 0 0 ≡ 0
  pub fit : (n : ℕ) → slice_index c.registers n < 2 ^ 32

-- numbers of 32 bits
abbrev pub Words : List ℕ → Type 0
Words ws = AllByRecursion (λ w. w < 2 ^ 32) ws

-- what a call hands on to others fits: a badge, the words of a message, a pc
abbrev pub Carries : world.Call → Type 0
Carries (world.cut s k d) = Unit {0}
Carries (world.copy s d r b) = b < 2 ^ 32
Carries (world.move s d) = Unit {0}
Carries (world.drop_it s) = Unit {0}
Carries (world.revoke s) = Unit {0}
Carries (world.send s ws h g) = Words ws
Carries (world.receive s d) = Unit {0}
Carries (world.map s t a) = Unit {0}
Carries (world.unmap t a) = Unit {0}
Carries (world.bind t s) = Unit {0}
Carries (world.go t a) = a < 2 ^ 32
Carries (world.say s b) = Unit {0}
Carries (world.hear s) = Unit {0}

-- what an act leaves is sound, also when a call comes back with words; what is stored are bytes
abbrev pub After : world.Act Cpu → Type 0
After (world.quiet d) = Sound d
After (world.store a bs d) = (a < 2 ^ 32) × AllByRecursion (λ b. b < 256) bs × Sound d
After (world.call k then) = Carries k × ((ws : List ℕ) → Words ws → Sound (then ws))
After world.wrong = Unit {0}

-- every instruction keeps a core sound
abbrev pub StaysSound : Type 0
StaysSound = (c : Cpu) (m : ℕ → ℕ) → ((a : ℕ) → m a ≤ 256) → Sound c → After (act c m)

-- and a new one is
abbrev pub StartsSound : Type 0
StartsSound = (a : ℕ) → a < 2 ^ 32 → Sound (fresh a)
