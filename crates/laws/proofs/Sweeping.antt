-- What a sweep makes of each object.
use mathlib.Core.Path.{◌≡◌, refl, ap, subst, ◌∙◌}
use mathlib.Core.Bool.{Bool, true, false, ◌&&◌, ◌||◌, not}
use mathlib.Core.List.{List, [], ◌∷◌}
use Prim.Native.Nat.{ℕ, zero, suc, ◌+◌, ◌-◌}
use native.Mathlib.Omega.{arith}
use lib.Dec.{eqb}
use lib.ListN.{get_or, length}
use Rattle.rights.specs.World.{pick, no, Slot, empty, Act, Wait, State, stopped, ready, waits, Object, gone, pool, table, port, page, thread, line}
use Rattle.rights.specs.World.{World, slot_object, slot_birth, is_empty, among, object, emptied, without_threads, unmapped, woken, cleaned, clean_all}
use Rattle.rights.specs.World.{cleared}
use Rattle.laws.proofs.Tests.{yes_no, clash, pick_know, or_left, or_right}
use Rattle.laws.proofs.Steps.{to}

module _ (Cpu : Type 0) (fresh : ℕ → Cpu) (act : Cpu → (ℕ → ℕ) → Act Cpu) where
  -- a table number that is gone is none
  abbrev pub unbound : List ℕ → ℕ → ℕ
  unbound os t = pick (not (eqb t 0) && among (t - 1) os) 0 t

  -- object u was x, and is y once births ids and objects os are gone
  pub data AfterSweep (ids os : List ℕ) (u : ℕ) : Object Cpu → Object Cpu → Type 0 where
    lost : {x : Object Cpu} → among u os ≡ true → AfterSweep ids os u x gone
    untouched : {x : Object Cpu} → among u os ≡ false → ((f : ℕ) (ss : List Slot) → x ≡ table f ss → ⊥) → ((f : ℕ) (ws : List Wait) → x ≡ port f ws → ⊥) →
        ((f t : ℕ) (s : State Cpu) (c : Cpu) (ps : List ℕ) (rs : List Bool) → x ≡ thread f s c t ps rs → ⊥) → AfterSweep ids os u x x
    slots_go : {f : ℕ} (ss : List Slot) → among u os ≡ false → AfterSweep ids os u (table f ss) (table f (emptied Cpu fresh act ids os ss))
    waits_go : {f : ℕ} (ws : List Wait) → among u os ≡ false → AfterSweep ids os u (port f ws) (port f (without_threads Cpu fresh act os ws))
    goes_calm : {f : ℕ} {s : State Cpu} {c : Cpu} {rs : List Bool} (t : ℕ) (ps : List ℕ) → among u os ≡ false → ((o : ℕ) (then : List ℕ → Cpu) → s ≡ waits o then → ⊥) →
        AfterSweep ids os u (thread f s c t ps rs) (thread f s c (unbound os t) (unmapped Cpu fresh act os ps) rs)
    goes_waiting : {f o : ℕ} {then : List ℕ → Cpu} {c : Cpu} {rs : List Bool} (t : ℕ) (ps : List ℕ) → among u os ≡ false → among o os ≡ false →
        AfterSweep ids os u (thread f (waits o then) c t ps rs) (thread f (waits o then) c (unbound os t) (unmapped Cpu fresh act os ps) rs)
    goes_woken : {f : ℕ} {c : Cpu} {rs : List Bool} (o : ℕ) (then : List ℕ → Cpu) (t : ℕ) (ps : List ℕ) → among u os ≡ false → among o os ≡ true →
        AfterSweep ids os u (thread f (waits o then) c t ps rs) (thread f ready (then (no ∷ [])) (unbound os t) (unmapped Cpu fresh act os ps) rs)

  swept_cleaned : (ids os : List ℕ) (u : ℕ) (x : Object Cpu) → among u os ≡ false → AfterSweep ids os u x (cleaned Cpu fresh act ids os x)
  unfolding cleaned woken
  swept_cleaned ids os u gone h = untouched h (λ f ss e. clash (cc)) (λ f ws e. clash (cc)) (λ f t s c ps rs e. clash (cc))
  swept_cleaned ids os u (pool g n k) h = untouched h (λ f ss e. clash (cc)) (λ f ws e. clash (cc)) (λ f t s c ps rs e. clash (cc))
  swept_cleaned ids os u (table f ss) h = slots_go ss h
  swept_cleaned ids os u (port f ws) h = waits_go ws h
  swept_cleaned ids os u (page g bs) h = untouched h (λ f ss e. clash (cc)) (λ f ws e. clash (cc)) (λ f t s c ps rs e. clash (cc))
  swept_cleaned ids os u (thread f stopped c t ps rs) h = goes_calm t ps h (λ o then e. clash (cc))
  swept_cleaned ids os u (thread f ready c t ps rs) h = goes_calm t ps h (λ o then e. clash (cc))
  swept_cleaned ids os u (thread f (waits o then) c t ps rs) h =
      pick_know (AfterSweep ids os u (thread f (waits o then) c t ps rs)) (among o os) (λ e. goes_woken o then t ps h e) (λ e. goes_waiting t ps h e)
  swept_cleaned ids os u (line xs ys) h = untouched h (λ f ss e. clash (cc)) (λ f ws e. clash (cc)) (λ f t s c ps rs e. clash (cc))

  pub at_clean : (ids os : List ℕ) (i k m : ℕ) (xs : List (Object Cpu)) → m ≡ i + k → get_or (clean_all Cpu fresh act ids os i xs) k gone ≡ pick (among m os) gone (cleaned Cpu fresh act ids os (get_or xs k gone))
  unfolding clean_all cleaned
  at_clean ids os i k m [] e = same (among m os)
    where
      same : (c : Bool) → gone ≡ pick {A = Object Cpu} c gone gone
      same true = refl
      same false = refl
  at_clean ids os i zero m (x ∷ xs) e = let h : m ≡ i = omega arith in rw h refl
  at_clean ids os i (suc k) m (x ∷ xs) e = at_clean ids os (suc i) k m xs (omega arith)

  pub len_clean : (ids os : List ℕ) (i : ℕ) (xs : List (Object Cpu)) → length (clean_all Cpu fresh act ids os i xs) ≡ length xs
  unfolding clean_all
  len_clean ids os i [] = refl
  len_clean ids os i (x ∷ xs) = ap suc (len_clean ids os (suc i) xs)

  pub swept_at : (w : World Cpu) (ids os : List ℕ) (u : ℕ) → AfterSweep ids os u (object Cpu fresh act w u) (object Cpu fresh act (cleared Cpu fresh act w ids os) u)
  unfolding cleared object
  swept_at w ids os u =
      rw (at_clean ids os 0 u u w.objects (omega arith)) (pick_know (AfterSweep ids os u (get_or w.objects u gone)) (among u os) (λ e. lost e) (λ e. swept_cleaned ids os u (get_or w.objects u gone) e))

  -- a slot that is full after a sweep was so before, and is neither of the births nor to one of the objects
  pub emptied_at : (ids os : List ℕ) (ss : List Slot) (i : ℕ) (y : Slot) → get_or (emptied Cpu fresh act ids os ss) i empty ≡ y → is_empty y ≡ false →
      (get_or ss i empty ≡ y) × (among (slot_birth y) ids ≡ false) × (among (to y) os ≡ false)
  unfolding emptied is_empty
  emptied_at ids os [] i y e n = yes_no (ap is_empty e ∙ n)
  emptied_at ids os (x ∷ xs) zero y e n = go (among (slot_birth x) ids || (not (is_empty x) && among (slot_object x - 1) os)) refl e
    where
      go : (c : Bool) → (among (slot_birth x) ids || (not (is_empty x) && among (slot_object x - 1) os)) ≡ c → pick c empty x ≡ y → (x ≡ y) × (among (slot_birth y) ids ≡ false) × (among (slot_object y - 1) os ≡ false)
      go true g h = yes_no (ap is_empty h ∙ n)
      go false g h = (
        h,
        subst (λ (s : Slot). among (slot_birth s) ids ≡ false) h (or_left _ _ g),
        subst (λ (s : Slot). among (slot_object s - 1) os ≡ false) h (subst (λ (c : Bool). (not c && among (slot_object x - 1) os) ≡ false) (ap is_empty h ∙ n) (or_right (among (slot_birth x) ids) _ g)),
      )
  emptied_at ids os (x ∷ xs) (suc i) y e n = emptied_at ids os xs i y e n
