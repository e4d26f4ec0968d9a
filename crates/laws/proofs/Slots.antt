-- What becomes of each slot in an event: it keeps what it holds or is emptied, or it was empty and is filled by a move, by handing on, by a copy or by a cut.
use mathlib.Core.Path.{◌≡◌, refl, sym, ap, subst, ◌∙◌}
use mathlib.Core.Bool.{false}
use mathlib.Core.List.{List, [], ◌∷◌}
use mathlib.Core.Logic.{◌⊎◌, inl, inr}
use Prim.Native.Nat.{ℕ, zero, suc, ◌-◌, ◌≤◌}
use lib.Dec.{eqb, eqb-suc-zero}
use lib.ListN.{length, get_or, set, length-set, get_or-eq_default}
use Rattle.rights.specs.World.{pick, Act, Slot, empty, Object, gone, pool, table, port, page, thread, line, World, is_empty, object, with_object, slots_of, table_of, slot, with_slots, with_slot, cleared}
use Rattle.laws.proofs.Tests.{yes_no, pick_both, below_or_not, less_one, set_here, set_apart, set_by}
use Rattle.laws.proofs.Moves.{at_slot}
use Rattle.laws.proofs.Cuts.{table_kept}
use Rattle.laws.proofs.Sweeping.{swept_at}
use Rattle.laws.proofs.Caps.{swept_in}

set_empty : (ss : List Slot) (s : ℕ) → get_or (set ss s empty) s empty ≡ empty
set_empty [] s = refl
set_empty (x ∷ ss) zero = refl
set_empty (x ∷ ss) (suc s) = set_empty ss s

module _ (Cpu : Type 0) (fresh : ℕ → Cpu) (act : Cpu → (ℕ → ℕ) → Act Cpu) where
  abbrev obj : World Cpu → ℕ → Object Cpu
  obj = object Cpu fresh act

  abbrev at : World Cpu → ℕ → ℕ → Slot
  at w o i = get_or (slots_of Cpu fresh act (obj w o)) i empty

  abbrev table_at : World Cpu → ℕ → ℕ
  table_at w p = table_of Cpu fresh act (obj w p)

  -- a slot of a thread is one of its table
  pub slot_is : (w : World Cpu) (p t s : ℕ) → table_at w p ≡ suc t → slot Cpu fresh act w p s ≡ at w t s
  unfolding slot
  slot_is w p t s e = rw (e, eqb-suc-zero t, less_one t) refl

  -- a thread with a full slot has a table
  pub has_one : (w : World Cpu) (p s : ℕ) → is_empty (slot Cpu fresh act w p s) ≡ false → (t : ℕ) × (table_at w p ≡ suc t)
  unfolding slot is_empty
  has_one w p s n = go (table_at w p) refl n
    where
      go : (t : ℕ) → table_at w p ≡ t → is_empty (pick (eqb t 0) empty (at w (t - 1) s)) ≡ false → (u : ℕ) × (table_at w p ≡ suc u)
      go zero e m = yes_no m
      go (suc t) e m = (t, e)

  -- every slot that is full held the same before
  pub record Less (w v : World Cpu) : Type 0 where
    pub held : (o i : ℕ) (y : Slot) → at v o i ≡ y → is_empty y ≡ false → at w o i ≡ y

  pub record SameSlots (w v : World Cpu) : Type 0 where
    pub same : (o i : ℕ) → at v o i ≡ at w o i

  pub record SameTables (w v : World Cpu) : Type 0 where
    pub bound_to : (p : ℕ) → table_at v p ≡ table_at w p

  pub less_same : {w v : World Cpu} → SameSlots w v → Less w v
  less_same h = record { held = λ o i y e n. sym (h.same o i) ∙ e }

  pub less_on : {w v u : World Cpu} → Less w v → Less v u → Less w u
  less_on a b = record { held = λ o i y e n. a.held o i y (b.held o i y e n) n }

  pub tables_on : {w v u : World Cpu} → SameTables w v → SameTables v u → SameTables w u
  tables_on a b = record { bound_to = λ p. b.bound_to p ∙ a.bound_to p }

  -- an object in place of another
  pub same_set : (w : World Cpu) (o : ℕ) (x y : Object Cpu) → obj w o ≡ x → slots_of Cpu fresh act y ≡ slots_of Cpu fresh act x → SameSlots w (with_object Cpu fresh act w o y)
  unfolding with_object object
  same_set w o x y e h = record {
    same = λ u i. set_by (λ (k : Object Cpu). get_or (slots_of Cpu fresh act k) i empty ≡ get_or (slots_of Cpu fresh act (get_or w.objects u gone)) i empty) w.objects o u y gone
        (λ q. ap (λ (ss : List Slot). get_or ss i empty) (h ∙ ap (slots_of Cpu fresh act) (sym e ∙ ap (λ (k : ℕ). get_or w.objects k gone) q))) refl;
  }

  pub tables_set : (w : World Cpu) (o : ℕ) (x y : Object Cpu) → obj w o ≡ x → table_of Cpu fresh act y ≡ table_of Cpu fresh act x → SameTables w (with_object Cpu fresh act w o y)
  unfolding with_object object
  tables_set w o x y e h = record {
    bound_to = λ u. set_by (λ (k : Object Cpu). table_of Cpu fresh act k ≡ table_of Cpu fresh act (get_or w.objects u gone)) w.objects o u y gone
        (λ q. h ∙ ap (table_of Cpu fresh act) (sym e ∙ ap (λ (k : ℕ). get_or w.objects k gone) q)) refl;
  }

  pub less_bare : (w : World Cpu) (o : ℕ) (y : Object Cpu) → slots_of Cpu fresh act y ≡ [] → Less w (with_object Cpu fresh act w o y)
  unfolding with_object object is_empty
  less_bare w o y h = record {
    held = λ u i x. set_by (λ (k : Object Cpu). get_or (slots_of Cpu fresh act k) i empty ≡ x → is_empty x ≡ false → get_or (slots_of Cpu fresh act (get_or w.objects u gone)) i empty ≡ x) w.objects o u y gone
        (λ q e n. yes_no (ap is_empty (sym (ap (λ (ss : List Slot). get_or ss i empty) h) ∙ e) ∙ n)) (λ e n. e);
  }

  -- a slot put into a table: others are as they were
  pub other_slot : (x : Object Cpu) (d i : ℕ) (y : Slot) → (d ≡ i → ⊥) → get_or (slots_of Cpu fresh act (with_slots Cpu fresh act x (set (slots_of Cpu fresh act x) d y))) i empty ≡ get_or (slots_of Cpu fresh act x) i empty
  unfolding slots_of with_slots
  other_slot gone d i y h = refl
  other_slot (pool f n u) d i y h = refl
  other_slot (table f ss) d i y h = set_apart ss d i y empty h
  other_slot (port f ws) d i y h = refl
  other_slot (page f bs) d i y h = refl
  other_slot (thread f s c t ps rs) d i y h = refl
  other_slot (line xs ys) d i y h = refl

  pub put_apart : (w : World Cpu) (p t d o i : ℕ) (y : Slot) → table_at w p ≡ suc t → (t ≡ o → d ≡ i → ⊥) → at (with_slot Cpu fresh act w p d y) o i ≡ at w o i
  unfolding with_slot with_object object
  put_apart w p t d o i y e h =
      set_by (λ (k : Object Cpu). get_or (slots_of Cpu fresh act k) i empty ≡ get_or (slots_of Cpu fresh act (get_or w.objects o gone)) i empty) w.objects (table_of Cpu fresh act (get_or w.objects p gone) - 1) o _ gone
      (λ q. other_slot (get_or w.objects (table_of Cpu fresh act (get_or w.objects p gone) - 1) gone) d i y (h (sym (less_one t) ∙ ap (λ (k : ℕ). k - 1) (sym e) ∙ q)) ∙ ap (λ (k : ℕ). get_or (slots_of Cpu fresh act (get_or w.objects k gone)) i empty) q) refl

  pub tables_put : (w : World Cpu) (p d : ℕ) (y : Slot) → SameTables w (with_slot Cpu fresh act w p d y)
  unfolding with_slot
  tables_put w p d y = tables_set w _ _ _ refl (table_kept Cpu fresh act _ _)

  -- a slot emptied
  emptied_slot : (x : Object Cpu) (d i : ℕ) (y : Slot) → get_or (slots_of Cpu fresh act (with_slots Cpu fresh act x (set (slots_of Cpu fresh act x) d empty))) i empty ≡ y → is_empty y ≡ false → get_or (slots_of Cpu fresh act x) i empty ≡ y
  unfolding slots_of with_slots is_empty
  emptied_slot gone d i y e n = e
  emptied_slot (pool f n u) d i y e m = e
  emptied_slot (table f ss) d i y e n = go (at_slot ss d i empty y e)
    where
      go : (get_or ss i empty ≡ y) ⊎ (empty ≡ y) → get_or ss i empty ≡ y
      go (inl q) = q
      go (inr q) = yes_no (ap is_empty q ∙ n)
  emptied_slot (port f ws) d i y e n = e
  emptied_slot (page f bs) d i y e n = e
  emptied_slot (thread f s c t ps rs) d i y e n = e
  emptied_slot (line xs ys) d i y e n = e

  pub less_empty : (w : World Cpu) (p d : ℕ) → Less w (with_slot Cpu fresh act w p d empty)
  unfolding with_slot with_object object
  less_empty w p d =
      record {
        held = λ o i y. set_by (λ (k : Object Cpu). get_or (slots_of Cpu fresh act k) i empty ≡ y → is_empty y ≡ false → get_or (slots_of Cpu fresh act (get_or w.objects o gone)) i empty ≡ y) w.objects (table_of Cpu fresh act (get_or w.objects p gone) - 1) o _ gone
            (λ q e n. sym (ap (λ (k : ℕ). get_or (slots_of Cpu fresh act (get_or w.objects k gone)) i empty) q) ∙ emptied_slot _ d i y e n) (λ e n. e);
      }

  none_there : (x : Object Cpu) (d : ℕ) → get_or (slots_of Cpu fresh act (with_slots Cpu fresh act x (set (slots_of Cpu fresh act x) d empty))) d empty ≡ empty
  unfolding slots_of with_slots
  none_there gone d = refl
  none_there (pool f n u) d = refl
  none_there (table f ss) d = set_empty ss d
  none_there (port f ws) d = refl
  none_there (page f bs) d = refl
  none_there (thread f s c t ps rs) d = refl
  none_there (line xs ys) d = refl

  pub empty_at : (w : World Cpu) (p d : ℕ) → slot Cpu fresh act (with_slot Cpu fresh act w p d empty) p d ≡ empty
  unfolding slot with_slot with_object object slots_of
  empty_at w p d = rw ((tables_put w p d empty).bound_to p) (pick_both (λ (y : Slot). y ≡ empty) (eqb (table_of Cpu fresh act (get_or w.objects p gone)) 0) refl there)
    where
      T : ℕ
      T = table_of Cpu fresh act (get_or w.objects p gone) - 1

      X : Object Cpu
      X = with_slots Cpu fresh act (get_or w.objects T gone) (set (slots_of Cpu fresh act (get_or w.objects T gone)) d empty)

      there : get_or (slots_of Cpu fresh act (get_or (set w.objects T X) T gone)) d empty ≡ empty
      there =
          below_or_not T (length w.objects) (λ l. ap (λ (k : Object Cpu). get_or (slots_of Cpu fresh act k) d empty) (set_here w.objects T X gone l) ∙ none_there (get_or w.objects T gone) d)
          (λ l. ap (λ (k : Object Cpu). get_or (slots_of Cpu fresh act k) d empty) (get_or-eq_default (set w.objects T X) gone (subst (λ (n : ℕ). n ≤ T) (sym (length-set w.objects T X)) l)))

  -- after a sweep
  pub less_cleared : (w : World Cpu) (ids os : List ℕ) → Less w (cleared Cpu fresh act w ids os)
  less_cleared w ids os = record { held = λ u i y e n. (swept_in Cpu fresh act (swept_at Cpu fresh act w ids os u) i y e n).0 }
