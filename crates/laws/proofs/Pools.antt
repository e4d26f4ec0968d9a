-- A pool is never overdrawn; and what is cut is never a thread or a line, so that its number names nothing that an event is for.
use mathlib.Core.Path.{◌≡◌, refl, ap, subst}
use mathlib.Core.Bool.{Bool, true, false}
use mathlib.Core.List.{List}
use Prim.Native.Nat.{ℕ, suc, ◌≤◌, zero-le}
use native.Mathlib.Omega.{arith}
use lib.ListN.{length, get_or-eq_default}
use Rattle.rights.specs.World.{Slot, Kind, a_pool, a_table, a_port, a_page, Act, Object, gone, pool, table, port, page, thread, line, Sizes, World}
use Rattle.rights.specs.World.{Event, tick, byte, object, made, ticked, comes_in, event, run}
use Rattle.rights.specs.Promise.{WithinIn, Within}
use Rattle.laws.proofs.Tests.{no_yes}
use Rattle.laws.proofs.Steps.{Turn, kept, spoken, stored, mapped, bound, ran, rowed, drawn, slotted, cut_new, one}
use Rattle.laws.proofs.Sweeping.{AfterSweep, lost, untouched, slots_go, waits_go, goes_calm, goes_waiting, goes_woken, swept_at}
use Rattle.laws.proofs.Pass.{event_keeps, run_keeps}

module _ (Cpu : Type 0) (fresh : ℕ → Cpu) (act : Cpu → (ℕ → ℕ) → Act Cpu) where
  abbrev obj : World Cpu → ℕ → Object Cpu
  obj = object Cpu fresh act

  -- not overdrawn
  Fine : Object Cpu → Type 0
  Fine gone = Unit {0}
  Fine (pool f n u) = u ≤ n
  Fine (table f ss) = Unit {0}
  Fine (port f ws) = Unit {0}
  Fine (page f bs) = Unit {0}
  Fine (thread f s c t ps rs) = Unit {0}
  Fine (line xs ys) = Unit {0}

  fine_made : (z : Sizes) (f : ℕ) (k : Kind) → Fine (made Cpu fresh act z f k)
  unfolding made Fine
  fine_made z f (a_pool n) = zero-le
  fine_made z f (a_table n) = tt
  fine_made z f a_port = tt
  fine_made z f a_page = tt

  turn_fine : {w : World Cpu} {new : Slot} {u : ℕ} {x y : Object Cpu} → Turn Cpu fresh act w new u x y → Fine x → Fine y
  unfolding Fine
  turn_fine kept h = h
  turn_fine spoken h = tt
  turn_fine (stored p k e g) h = tt
  turn_fine (mapped g) h = tt
  turn_fine (bound g) h = tt
  turn_fine ran h = tt
  turn_fine rowed h = tt
  turn_fine (drawn g) h = g
  turn_fine (slotted l g) h = tt
  turn_fine (cut_new o z k l g) h = fine_made z (suc o) k

  swept_fine : {ids os : List ℕ} {u : ℕ} {x y : Object Cpu} → AfterSweep Cpu fresh act ids os u x y → Fine x → Fine y
  unfolding Fine
  swept_fine (lost h) i = tt
  swept_fine (untouched h a b c) i = i
  swept_fine (slots_go ss h) i = tt
  swept_fine (waits_go ws h) i = tt
  swept_fine (goes_calm t ps h g) i = tt
  swept_fine (goes_waiting t ps h g) i = tt
  swept_fine (goes_woken o then t ps h g) i = tt

  AllFine : World Cpu → Type 0
  AllFine w = (o : ℕ) → Fine (obj w o)

  fine_run : (z : Sizes) (w : World Cpu) (es : List Event) → AllFine w → AllFine (run Cpu fresh act z w es)
  unfolding AllFine
  fine_run = run_keeps Cpu fresh act AllFine (λ w v c i o. turn_fine (c.turns o) (i o)) (λ w ids os c i o. swept_fine (swept_at Cpu fresh act w ids os o) (i o))

  -- as it is written
  to_fine : (x : Object Cpu) → ((f n u : ℕ) → x ≡ pool f n u → u ≤ n) → Fine x
  unfolding Fine
  to_fine gone h = tt
  to_fine (pool f n u) h = h f n u refl
  to_fine (table f ss) h = tt
  to_fine (port f ws) h = tt
  to_fine (page f bs) h = tt
  to_fine (thread f s c t ps rs) h = tt
  to_fine (line xs ys) h = tt

  from_fine : (x : Object Cpu) (f n u : ℕ) → x ≡ pool f n u → Fine x → u ≤ n
  unfolding Fine
  from_fine x f n u e h = subst Fine e h

  pub within : Within Cpu fresh act
  unfolding Within WithinIn AllFine
  within z v es one h o f n u e = from_fine _ f n u e (fine_run z v es (λ i. to_fine (obj v i) (h i)) o)

  -- neither a thread nor a line
  unfoldable pub dull : Object Cpu → Bool
  dull gone = true
  dull (pool f n u) = true
  dull (table f ss) = true
  dull (port f ws) = true
  dull (page f bs) = true
  dull (thread f s c t ps rs) = false
  dull (line xs ys) = false

  dull_made : (z : Sizes) (f : ℕ) (k : Kind) → dull (made Cpu fresh act z f k) ≡ true
  unfolding made dull
  dull_made z f (a_pool n) = refl
  dull_made z f (a_table n) = refl
  dull_made z f a_port = refl
  dull_made z f a_page = refl

  turn_dull : {w : World Cpu} {new : Slot} {u : ℕ} {x y : Object Cpu} → Turn Cpu fresh act w new u x y → dull x ≡ true → dull y ≡ true
  unfolding dull
  turn_dull kept h = h
  turn_dull spoken h = no_yes h
  turn_dull (stored p k e g) h = refl
  turn_dull (mapped g) h = no_yes h
  turn_dull (bound g) h = no_yes h
  turn_dull ran h = no_yes h
  turn_dull rowed h = refl
  turn_dull (drawn g) h = refl
  turn_dull (slotted l g) h = refl
  turn_dull (cut_new o z k l g) h = dull_made z (suc o) k

  swept_dull : {ids os : List ℕ} {u : ℕ} {x y : Object Cpu} → AfterSweep Cpu fresh act ids os u x y → dull x ≡ true → dull y ≡ true
  unfolding dull
  swept_dull (lost h) i = refl
  swept_dull (untouched h a b c) i = i
  swept_dull (slots_go ss h) i = refl
  swept_dull (waits_go ws h) i = refl
  swept_dull (goes_calm t ps h g) i = no_yes i
  swept_dull (goes_waiting t ps h g) i = no_yes i
  swept_dull (goes_woken o then t ps h g) i = no_yes i

  -- from number l on, nothing is a thread or a line
  module _ (l : ℕ) where
    unfoldable pub DullFrom : World Cpu → Type 0
    DullFrom w = (o : ℕ) → l ≤ o → dull (obj w o) ≡ true

    pub dull_event : (z : Sizes) (w : World Cpu) (e : Event) → DullFrom w → DullFrom (event Cpu fresh act z w e)
    unfolding DullFrom
    dull_event = event_keeps Cpu fresh act DullFrom (λ w v c i o h. turn_dull (c.turns o) (i o h)) (λ w ids os c i o h. swept_dull (swept_at Cpu fresh act w ids os o) (i o h))

    pub dull_first : (w : World Cpu) → length w.objects ≤ l → DullFrom w
    unfolding DullFrom object dull
    dull_first w h o g = ap dull (get_or-eq_default w.objects gone (omega arith))

    -- an event for such a number does nothing
    idle_tick : (z : Sizes) (w : World Cpu) (p : ℕ) (x : Object Cpu) → dull x ≡ true → ticked Cpu fresh act z w p x ≡ w
    unfolding ticked dull
    idle_tick z w p gone g = refl
    idle_tick z w p (pool f n u) g = refl
    idle_tick z w p (table f ss) g = refl
    idle_tick z w p (port f ws) g = refl
    idle_tick z w p (page f bs) g = refl
    idle_tick z w p (thread f s c t ps rs) g = no_yes g
    idle_tick z w p (line xs ys) g = refl

    idle_byte : (z : Sizes) (w : World Cpu) (o b : ℕ) (x : Object Cpu) → dull x ≡ true → comes_in Cpu fresh act z w o b x ≡ w
    unfolding comes_in dull
    idle_byte z w o b gone g = refl
    idle_byte z w o b (pool f n u) g = refl
    idle_byte z w o b (table f ss) g = refl
    idle_byte z w o b (port f ws) g = refl
    idle_byte z w o b (page f bs) g = refl
    idle_byte z w o b (thread f s c t ps rs) g = refl
    idle_byte z w o b (line xs ys) g = no_yes g

    pub idle_t : (z : Sizes) (w : World Cpu) (p : ℕ) → DullFrom w → l ≤ p → event Cpu fresh act z w (tick p) ≡ w
    unfolding event DullFrom
    idle_t z w p k g = idle_tick z w p _ (k p g)

    pub idle_b : (z : Sizes) (w : World Cpu) (p b : ℕ) → DullFrom w → l ≤ p → event Cpu fresh act z w (byte p b) ≡ w
    unfolding event DullFrom
    idle_b z w p b k g = idle_byte z w p b _ (k p g)
