-- One eliminator for each kind of object, each call in terms of it (refused unless the slot leads to that kind), and the tests of the calls by name.
use mathlib.Core.Path.{◌≡◌, refl}
use mathlib.Core.Bool.{Bool, ◌&&◌, ◌||◌, not}
use mathlib.Core.List.{List}
use Prim.Native.Nat.{ℕ, ◌-◌}
use Rattle.rights.specs.World.{Slot, Kind, Act, Wait, State, Object, gone, pool, table, port, page, thread, line, Sizes, World, slot_object}
use Rattle.rights.specs.World.{slot_rights, is_empty, object, slot, has_slot, Went, refuse, cutting, is_pool, sending, receiving, mapping, unmapping}
use Rattle.rights.specs.World.{binding, going, saying, hearing, ticked, comes_in}

unfoldable pub on_pool : {Cpu B : Type 0} → B → (ℕ → ℕ → ℕ → B) → Object Cpu → B
on_pool b g gone = b
on_pool b g (pool f n u) = g f n u
on_pool b g (table f ss) = b
on_pool b g (port f ws) = b
on_pool b g (page f bs) = b
on_pool b g (thread f s c t ps rs) = b
on_pool b g (line xs ys) = b

unfoldable pub on_port : {Cpu B : Type 0} → B → (ℕ → List Wait → B) → Object Cpu → B
on_port b g gone = b
on_port b g (pool f n u) = b
on_port b g (table f ss) = b
on_port b g (port f ws) = g f ws
on_port b g (page f bs) = b
on_port b g (thread f s c t ps rs) = b
on_port b g (line xs ys) = b

unfoldable pub on_thread : {Cpu B : Type 0} → B → (ℕ → State Cpu → Cpu → ℕ → List ℕ → List Bool → B) → Object Cpu → B
on_thread b g gone = b
on_thread b g (pool f n u) = b
on_thread b g (table f ss) = b
on_thread b g (port f ws) = b
on_thread b g (page f bs) = b
on_thread b g (thread f s c t ps rs) = g f s c t ps rs
on_thread b g (line xs ys) = b

unfoldable pub on_line : {Cpu B : Type 0} → B → (List ℕ → List ℕ → B) → Object Cpu → B
on_line b g gone = b
on_line b g (pool f n u) = b
on_line b g (table f ss) = b
on_line b g (port f ws) = b
on_line b g (page f bs) = b
on_line b g (thread f s c t ps rs) = b
on_line b g (line xs ys) = g xs ys

-- what holds of the one and of the other holds of what is chosen
pub by_pool {ℓ} : {Cpu B : Type 0} (P : B → Type ℓ) {b : B} {g : ℕ → ℕ → ℕ → B} (x : Object Cpu) → P b → ((f n u : ℕ) → x ≡ pool f n u → P (g f n u)) → P (on_pool b g x)
unfolding on_pool
by_pool P gone p q = p
by_pool P (pool f n u) p q = q f n u refl
by_pool P (table f ss) p q = p
by_pool P (port f ws) p q = p
by_pool P (page f bs) p q = p
by_pool P (thread f s c t ps rs) p q = p
by_pool P (line xs ys) p q = p

pub by_port {ℓ} : {Cpu B : Type 0} (P : B → Type ℓ) {b : B} {g : ℕ → List Wait → B} (x : Object Cpu) → P b → ((f : ℕ) (ws : List Wait) → x ≡ port f ws → P (g f ws)) → P (on_port b g x)
unfolding on_port
by_port P gone p q = p
by_port P (pool f n u) p q = p
by_port P (table f ss) p q = p
by_port P (port f ws) p q = q f ws refl
by_port P (page f bs) p q = p
by_port P (thread f s c t ps rs) p q = p
by_port P (line xs ys) p q = p

pub by_thread {ℓ} : {Cpu B : Type 0} (P : B → Type ℓ) {b : B} {g : ℕ → State Cpu → Cpu → ℕ → List ℕ → List Bool → B} (x : Object Cpu) → P b →
    ((f : ℕ) (s : State Cpu) (c : Cpu) (t : ℕ) (ps : List ℕ) (rs : List Bool) → x ≡ thread f s c t ps rs → P (g f s c t ps rs)) → P (on_thread b g x)
unfolding on_thread
by_thread P gone p q = p
by_thread P (pool f n u) p q = p
by_thread P (table f ss) p q = p
by_thread P (port f ws) p q = p
by_thread P (page f bs) p q = p
by_thread P (thread f s c t ps rs) p q = q f s c t ps rs refl
by_thread P (line xs ys) p q = p

pub by_line {ℓ} : {Cpu B : Type 0} (P : B → Type ℓ) {b : B} {g : List ℕ → List ℕ → B} (x : Object Cpu) → P b → ((xs ys : List ℕ) → x ≡ line xs ys → P (g xs ys)) → P (on_line b g x)
unfolding on_line
by_line P gone p q = p
by_line P (pool f n u) p q = p
by_line P (table f ss) p q = p
by_line P (port f ws) p q = p
by_line P (page f bs) p q = p
by_line P (thread f s c t ps rs) p q = p
by_line P (line xs ys) p q = q xs ys refl

module _ (Cpu : Type 0) (fresh : ℕ → Cpu) (act : Cpu → (ℕ → ℕ) → Act Cpu) where
  -- the tests of the calls, by name: when each is refused for its slots
  abbrev pub lacks_read : World Cpu → ℕ → ℕ → Bool
  lacks_read w p s = not (slot_rights (slot Cpu fresh act w p s)).reads

  abbrev pub lacks_write : World Cpu → ℕ → ℕ → Bool
  lacks_write w p s = not (slot_rights (slot Cpu fresh act w p s)).writes

  abbrev pub lacks_hand_on : World Cpu → ℕ → ℕ → Bool
  lacks_hand_on w p s = not (slot_rights (slot Cpu fresh act w p s)).hands

  abbrev pub none_in : World Cpu → ℕ → ℕ → Bool
  none_in w p s = is_empty (slot Cpu fresh act w p s)

  abbrev pub not_free : World Cpu → ℕ → ℕ → Bool
  not_free w p d = not (has_slot Cpu fresh act w p d && is_empty (slot Cpu fresh act w p d))

  abbrev pub no_cut : World Cpu → ℕ → ℕ → ℕ → Bool
  no_cut w p s d = none_in w p s || (lacks_write w p s || not_free w p d)

  abbrev pub no_copy : World Cpu → ℕ → ℕ → ℕ → Bool
  no_copy w p s d = none_in w p s || (lacks_hand_on w p s || not_free w p d)

  abbrev pub no_move : World Cpu → ℕ → ℕ → ℕ → Bool
  no_move w p s d = none_in w p s || not_free w p d

  abbrev pub no_revoke : World Cpu → ℕ → ℕ → Bool
  no_revoke w p s = none_in w p s || (is_pool Cpu fresh act (object Cpu fresh act w (slot_object (slot Cpu fresh act w p s) - 1)) && lacks_write w p s)

  abbrev pub no_writing : World Cpu → ℕ → ℕ → Bool
  no_writing w p s = none_in w p s || lacks_write w p s

  abbrev pub no_reading : World Cpu → ℕ → ℕ → Bool
  no_reading w p s = none_in w p s || lacks_read w p s

  abbrev pub no_map : World Cpu → ℕ → ℕ → ℕ → Bool
  no_map w p s t = none_in w p s || (none_in w p t || (lacks_read w p s || lacks_write w p t))

  abbrev pub no_bind : World Cpu → ℕ → ℕ → ℕ → Bool
  no_bind w p t s = none_in w p t || (none_in w p s || (lacks_write w p s || lacks_write w p t))

  abbrev no_call : World Cpu → Went Cpu fresh act
  no_call w = refuse Cpu fresh act w

  pub cutting_is : (z : Sizes) (w : World Cpu) (p o : ℕ) (x : Slot) (k : Kind) (d : ℕ) (y : Object Cpu) →
      cutting Cpu fresh act z w p o x k d y ≡ on_pool (no_call w) (λ f n u. cutting Cpu fresh act z w p o x k d (pool f n u)) y
  unfolding cutting on_pool
  cutting_is z w p o x k d gone = refl
  cutting_is z w p o x k d (pool f n u) = refl
  cutting_is z w p o x k d (table f ss) = refl
  cutting_is z w p o x k d (port f ws) = refl
  cutting_is z w p o x k d (page f bs) = refl
  cutting_is z w p o x k d (thread f s c t ps rs) = refl
  cutting_is z w p o x k d (line xs ys) = refl

  pub sending_is : (w : World Cpu) (p o b : ℕ) (ws : List ℕ) (h g : Bool) (s : ℕ) (y : Object Cpu) →
      sending Cpu fresh act w p o b ws h g s y ≡ on_port (no_call w) (λ f q. sending Cpu fresh act w p o b ws h g s (port f q)) y
  unfolding sending on_port
  sending_is w p o b ws h g s gone = refl
  sending_is w p o b ws h g s (pool f n u) = refl
  sending_is w p o b ws h g s (table f ss) = refl
  sending_is w p o b ws h g s (port f q) = refl
  sending_is w p o b ws h g s (page f bs) = refl
  sending_is w p o b ws h g s (thread f q c t ps rs) = refl
  sending_is w p o b ws h g s (line xs ys) = refl

  pub receiving_is : (w : World Cpu) (p o d : ℕ) (y : Object Cpu) → receiving Cpu fresh act w p o d y ≡ on_port (no_call w) (λ f q. receiving Cpu fresh act w p o d (port f q)) y
  unfolding receiving on_port
  receiving_is w p o d gone = refl
  receiving_is w p o d (pool f n u) = refl
  receiving_is w p o d (table f ss) = refl
  receiving_is w p o d (port f q) = refl
  receiving_is w p o d (page f bs) = refl
  receiving_is w p o d (thread f q c t ps rs) = refl
  receiving_is w p o d (line xs ys) = refl

  pub mapping_is : (z : Sizes) (w : World Cpu) (o : ℕ) (m : Bool) (t a : ℕ) (y : Object Cpu) →
      mapping Cpu fresh act z w o m t a y ≡ on_thread (no_call w) (λ f s c b ps rs. mapping Cpu fresh act z w o m t a (thread f s c b ps rs)) y
  unfolding mapping on_thread
  mapping_is z w o m t a gone = refl
  mapping_is z w o m t a (pool f n u) = refl
  mapping_is z w o m t a (table f ss) = refl
  mapping_is z w o m t a (port f ws) = refl
  mapping_is z w o m t a (page f bs) = refl
  mapping_is z w o m t a (thread f s c b ps rs) = refl
  mapping_is z w o m t a (line xs ys) = refl

  pub unmapping_is : (z : Sizes) (w : World Cpu) (t a : ℕ) (y : Object Cpu) →
      unmapping Cpu fresh act z w t a y ≡ on_thread (no_call w) (λ f s c b ps rs. unmapping Cpu fresh act z w t a (thread f s c b ps rs)) y
  unfolding unmapping on_thread
  unmapping_is z w t a gone = refl
  unmapping_is z w t a (pool f n u) = refl
  unmapping_is z w t a (table f ss) = refl
  unmapping_is z w t a (port f ws) = refl
  unmapping_is z w t a (page f bs) = refl
  unmapping_is z w t a (thread f s c b ps rs) = refl
  unmapping_is z w t a (line xs ys) = refl

  pub binding_is : (w : World Cpu) (t o : ℕ) (y : Object Cpu) → binding Cpu fresh act w t o y ≡ on_thread (no_call w) (λ f s c b ps rs. binding Cpu fresh act w t o (thread f s c b ps rs)) y
  unfolding binding on_thread
  binding_is w t o gone = refl
  binding_is w t o (pool f n u) = refl
  binding_is w t o (table f ss) = refl
  binding_is w t o (port f ws) = refl
  binding_is w t o (page f bs) = refl
  binding_is w t o (thread f s c b ps rs) = refl
  binding_is w t o (line xs ys) = refl

  pub going_is : (w : World Cpu) (t a : ℕ) (y : Object Cpu) → going Cpu fresh act w t a y ≡ on_thread (no_call w) (λ f s c b ps rs. going Cpu fresh act w t a (thread f s c b ps rs)) y
  unfolding going on_thread
  going_is w t a gone = refl
  going_is w t a (pool f n u) = refl
  going_is w t a (table f ss) = refl
  going_is w t a (port f ws) = refl
  going_is w t a (page f bs) = refl
  going_is w t a (thread f s c b ps rs) = refl
  going_is w t a (line xs ys) = refl

  pub saying_is : (w : World Cpu) (o b : ℕ) (y : Object Cpu) → saying Cpu fresh act w o b y ≡ on_line (no_call w) (λ xs ys. saying Cpu fresh act w o b (line xs ys)) y
  unfolding saying on_line
  saying_is w o b gone = refl
  saying_is w o b (pool f n u) = refl
  saying_is w o b (table f ss) = refl
  saying_is w o b (port f ws) = refl
  saying_is w o b (page f bs) = refl
  saying_is w o b (thread f s c t ps rs) = refl
  saying_is w o b (line xs ys) = refl

  pub hearing_is : (w : World Cpu) (o : ℕ) (y : Object Cpu) → hearing Cpu fresh act w o y ≡ on_line (no_call w) (λ xs ys. hearing Cpu fresh act w o (line xs ys)) y
  unfolding hearing on_line
  hearing_is w o gone = refl
  hearing_is w o (pool f n u) = refl
  hearing_is w o (table f ss) = refl
  hearing_is w o (port f ws) = refl
  hearing_is w o (page f bs) = refl
  hearing_is w o (thread f s c t ps rs) = refl
  hearing_is w o (line xs ys) = refl

  pub comes_in_is : (z : Sizes) (w : World Cpu) (o b : ℕ) (y : Object Cpu) → comes_in Cpu fresh act z w o b y ≡ on_line w (λ xs ys. comes_in Cpu fresh act z w o b (line xs ys)) y
  unfolding comes_in on_line
  comes_in_is z w o b gone = refl
  comes_in_is z w o b (pool f n u) = refl
  comes_in_is z w o b (table f ss) = refl
  comes_in_is z w o b (port f ws) = refl
  comes_in_is z w o b (page f bs) = refl
  comes_in_is z w o b (thread f s c t ps rs) = refl
  comes_in_is z w o b (line xs ys) = refl

  pub ticked_is : (z : Sizes) (w : World Cpu) (p : ℕ) (y : Object Cpu) → ticked Cpu fresh act z w p y ≡ on_thread w (λ f s c t ps rs. ticked Cpu fresh act z w p (thread f s c t ps rs)) y
  unfolding ticked on_thread
  ticked_is z w p gone = refl
  ticked_is z w p (pool f n u) = refl
  ticked_is z w p (table f ss) = refl
  ticked_is z w p (port f ws) = refl
  ticked_is z w p (page f bs) = refl
  ticked_is z w p (thread f s c t ps rs) = refl
  ticked_is z w p (line xs ys) = refl
