-- How objects lie: on the board by places, which count units of 64 bytes from 1, and threads and lines beside it by index.
-- Assumes nothing: these are definitions.
use Rattle.std.specs.Prelude.{◌≡◌, ◌≢◌, ℕ, ◌+◌, ◌%◌, ◌<◌, ◌≤◌, Option, Some}
use Rattle.board.specs.declared.slots.Object.{Object}
use Rattle.board.specs.declared.slots.Object.TheVariants.{Pool, Table, Port, Page, Thread, Line}

-- where an object begins on the board, and how many units it takes; a thread and a line do not lie there
abbrev pub begins : Object → ℕ
begins (Pool p n u l) = p
begins (Table p n) = p
begins (Port p) = p
begins (Page p) = p
begins (Thread i) = 0
begins (Line j) = 0

abbrev pub units : Object → ℕ
units (Pool p n u l) = n
units (Table p n) = n
units (Port p) = 1
units (Page p) = 64
units (Thread i) = 0
units (Line j) = 0

-- it lies on the board
abbrev pub OnBoard : Object → Type 0
OnBoard x = 1 ≤ units x

-- a pool in a pool of level l has a higher level
abbrev pub Deeper : ℕ → Object → Type 0
Deeper l (Pool p n u k) = l < k
Deeper l _ = Unit {0}

-- y lies in the used part of x, which is a pool
abbrev pub Inside : Object → Object → Type 0
Inside (Pool p n u l) y = (p ≤ begins y) × (begins y + units y ≤ p + u) × Deeper l y
Inside _ y = ⊥

-- two objects share no byte, unless one lies in the other
pub data Apart (x y : Object) : Type 0 where
  before : begins x + units x ≤ begins y → Apart x y
  after : begins y + units y ≤ begins x → Apart x y
  around : Inside x y → Apart x y
  within : Inside y x → Apart x y

-- spot o is where object o lies, None for what is gone or never was; the board has so many units
pub record Laid (room : ℕ) (spot : ℕ → Option Object) : Type 0 where
  -- on the board, within it
  pub inside : (o : ℕ) (x : Object) → spot o ≡ Some x → OnBoard x → (1 ≤ begins x) × (begins x + units x ≤ room + 1)
  -- a table has a slot, a pool a unit, and no more of it is used than there is
  pub tables : (o p n : ℕ) → spot o ≡ Some (Table p n) → 1 ≤ n
  pub pools : (o p n u l : ℕ) → spot o ≡ Some (Pool p n u l) → (1 ≤ n) × (u ≤ n)
  -- a page is a frame
  pub frames : (o p : ℕ) → spot o ≡ Some (Page p) → p % 64 ≡ 1
  pub apart : (o q : ℕ) (x y : Object) → spot o ≡ Some x → spot q ≡ Some y → OnBoard x → OnBoard y → o ≢ q → Apart x y
  -- each thread and each line has an index of its own
  pub threads : (o q i : ℕ) → spot o ≡ Some (Thread i) → spot q ≡ Some (Thread i) → o ≡ q
  pub lines : (o q j : ℕ) → spot o ≡ Some (Line j) → spot q ≡ Some (Line j) → o ≡ q
  pub few : (o i : ℕ) → spot o ≡ Some (Thread i) → i < 64
  pub fewer : (o j : ℕ) → spot o ≡ Some (Line j) → j < 32

-- p is the place of slot i of a table
pub record SlotPlace (spot : ℕ → Option Object) (p : ℕ) : Type 0 where
  pub table : ℕ
  pub begin : ℕ
  pub slots : ℕ
  pub number : ℕ
  pub is : spot table ≡ Some (Table begin slots)
  pub small : number < slots
  pub place : p ≡ begin + number
