-- The marks of the lineage are the abstract world's offspring, and the marks of the objects are what was cut.
use Rattle.std.proofs.Common.{◌≡◌, ℕ, zero, suc, ◌+◌, ◌-◌, ◌<◌, ◌≤◌, Bool, false, cond, not, ◌&&◌, ◌||◌, eqb, ltb, ◌⊎◌, List, [], ◌∷◌, ◌++◌, map, reverse, length, get_or, take, Some, None, Option, sym, refl, ap, ◌∙◌, subst, inl, inr, arith}
use Rattle.std.proofs.lemmas.List.{get_or_past, get_or-take, reverse-append, length-map}
use Rattle.std.proofs.lemmas.Bool.{cases_lt, cases_eq, lt-ltb, le-ltb}
use Rattle.rights.specs.World as w
use Rattle.rv32.specs.declared.registers.Cpu.{Cpu}
use Rattle.rv32.specs.Registers.{fresh}
use Rattle.rv32.specs.Execute.{act}
use Rattle.model.specs.declared.objects.Capability.{Capability}
use Rattle.model.specs.Plain as p
use Rattle.model.specs.Sweeps.{scan, marked, mark_of, base_of, marks, cut_mark}
use Rattle.model.specs.Sound.{Dense, Sound}
use Rattle.model.specs.Meaning.{slot_of, number_of, object_of, world_of}
use Rattle.model.proofs.Agree.{less_one, not_zero}
use Rattle.model.proofs.Descent.{Made, Orderly, up_by, test_is}
use Rattle.model.proofs.Scans.{scan_long, scan_all}

-- LINEAGE
made_append : (xs ys : List w.Slot) (m c : ℕ) → Made (xs ++ ys) m c → Made xs m c ⊎ Made ys m c
unfolding Made
made_append [] ys m c h = inr h
made_append (w.empty ∷ xs) ys m c h = made_append xs ys m c h
made_append (w.cap o r b i j ∷ xs) ys m c (inl h) = inl (inl h)
made_append (w.cap o r b i j ∷ xs) ys m c (inr h) =
    elim (made_append xs ys m c h) [ inl k ↦ inl (inr k) | inr k ↦ inr k ]

made_left : (xs ys : List w.Slot) (m c : ℕ) → Made xs m c → Made (xs ++ ys) m c
unfolding Made
made_left [] ys m c h = absurd h
made_left (w.empty ∷ xs) ys m c h = made_left xs ys m c h
made_left (w.cap o r b i j ∷ xs) ys m c (inl h) = inl h
made_left (w.cap o r b i j ∷ xs) ys m c (inr h) = inr (made_left xs ys m c h)

made_right : (xs ys : List w.Slot) (m c : ℕ) → Made ys m c → Made (xs ++ ys) m c
unfolding Made
made_right [] ys m c h = h
made_right (w.empty ∷ xs) ys m c h = made_right xs ys m c h
made_right (w.cap o r b i j ∷ xs) ys m c h = inr (made_right xs ys m c h)

newest : List (Option Capability) → List w.Slot
newest xs = reverse (map slot_of xs)

newest_cons : (x : Option Capability) (xs : List (Option Capability)) → newest (x ∷ xs) ≡ newest xs ++ slot_of x ∷ []
unfolding newest
newest_cons x xs = reverse-append (slot_of x ∷ []) (map slot_of xs)

abbrev mother_in : Option Capability → Option ℕ
mother_in x = p.on_some x None (λ d. Some d.mother)

abbrev mother_at : ℕ → List (Option Capability) → ℕ → Option ℕ
mother_at top xs c = cond (ltb top c) (mother_in (get_or xs (c - suc top) None)) None

-- who was made from whom, by places
fits : (top : ℕ) (xs : List (Option Capability)) → Dense top xs → (m c : ℕ) → Made (newest xs) m c → (top < c) × (c ≤ top + length xs) × (m < c) × (mother_in (get_or xs (c - suc top) None) ≡ Some m)
unfolding Dense Made newest
fits top [] d m c h = absurd h
fits top (None ∷ xs) d m c h = absurd d
fits top (Some x ∷ xs) d m c h =
    elim (made_append (newest xs) (slot_of (Some x) ∷ []) m c (subst (λ l. Made l m c) (newest_cons (Some x) xs) h)) [
      | inl k ↦
          (let r = fits (suc top) xs d.2 m c k in
          let e : c - suc top ≡ suc (c - suc (suc top)) = omega (arith, r.0) in
          (omega (arith, r.0), omega (arith, r.1), r.2, ap (λ i. mother_in (get_or (Some x ∷ xs) i None)) e ∙ r.3))
      | inr k ↦
          elim k [
            | inl q ↦
                (let e : c - suc top ≡ 0 = omega (arith, q.1, d.0) in
                (omega (arith, q.1, d.0), omega (arith, q.1, d.0), omega (arith, q.0, q.1, d.0, d.1), ap (λ i. mother_in (get_or (Some x ∷ xs) i None)) e ∙ ap Some q.0))
            | inr q ↦ absurd q
          ]
    ]

backs : (top : ℕ) (xs : List (Option Capability)) → Dense top xs → (m c : ℕ) → top < c → mother_in (get_or xs (c - suc top) None) ≡ Some m → Made (newest xs) m c
unfolding Dense Made newest
backs top [] d m c l h = cc
backs top (None ∷ xs) d m c l h = absurd d
backs top (Some x ∷ xs) d m c l h =
    elim (cases_eq c (suc top)) [
      | inl e ↦
          (let i : c - suc top ≡ 0 = omega arith in
          let q : Some x.mother ≡ Some m = sym (ap (λ k. mother_in (get_or (Some x ∷ xs) k None)) i) ∙ h in
          let n : x.mother ≡ m = cc in
          subst (λ l. Made l m c) (sym (newest_cons (Some x) xs)) (made_right (newest xs) (slot_of (Some x) ∷ []) m c (inl (n, d.0 ∙ sym e))))
      | inr n ↦
          (let i : c - suc top ≡ suc (c - suc (suc top)) = omega (arith, n) in
          let q : mother_in (get_or xs (c - suc (suc top)) None) ≡ Some m = sym (ap (λ k. mother_in (get_or (Some x ∷ xs) k None)) i) ∙ h in
          subst (λ l. Made l m c) (sym (newest_cons (Some x) xs)) (made_left (newest xs) (slot_of (Some x) ∷ []) m c (backs (suc top) xs d.2 m c (omega (arith, n)) q)))
    ]

-- marks of a front are the marks, for those before its end
marked_front : (base : ℕ) (ms : List Bool) (k m : ℕ) → m ≤ base + k → marked base (take k ms) m ≡ marked base ms m
marked_front base ms k m h =
    elim (cases_lt base m) [
      | inl l ↦ rw (lt-ltb base m l) (get_or-take k ms (m - suc base) false (omega arith))
      | inr l ↦ rw (le-ltb base m l) refl
    ]

-- a mark goes up by the mother
mark_up : (root base : ℕ) (ms : List Bool) (x : Option Capability) (g : ℕ → Bool) → ((m : ℕ) → mother_in x ≡ Some m → marked base ms m ≡ g m) → mark_of root base ms x ≡ up_by root g (mother_in x)
mark_up root base ms None g h = refl
mark_up root base ms (Some d) g h = ap (λ b. eqb d.mother root || b) (h d.mother refl)

module _ (root base : ℕ) (xs : List (Option Capability)) (d : Dense base xs) where
  abbrev all : List Bool
  all = scan (mark_of root base) [] xs

  all_length : length all ≡ length xs
  all_length = scan_long (mark_of root base) xs

  up : (c : ℕ) → marked base all c ≡ up_by root (marked base all) (mother_at base xs c)
  up c =
      elim (cases_lt base c) [
        | inl l ↦
            rw (lt-ltb base c l)
            (elim (cases_lt (c - suc base) (length xs)) [
              | inl h ↦
                  scan_all (mark_of root base) xs (c - suc base) None h
                  ∙ mark_up root base (take (c - suc base) all) (get_or xs (c - suc base) None) (marked base all)
                  (λ m e. let b = backs base xs d m c l e in let f = fits base xs d m c b in marked_front base all (c - suc base) m (omega (arith, f.2)))
              | inr h ↦
                  get_or_past all (c - suc base) false (omega (arith, all_length, h))
                  ∙ sym (ap (λ x. up_by root (marked base all) (mother_in x)) (get_or_past xs (c - suc base) None h))
            ])
        | inr l ↦ rw (le-ltb base c l) refl
      ]

  orderly : (top : ℕ) → base + length xs ≡ top → Orderly top (newest xs)
  orderly top e m c h = let f = fits base xs d m c h in (f.2, omega (arith, f.1, e))

  fit : (m c : ℕ) → Made (newest xs) m c → mother_at base xs c ≡ Some m
  fit m c h = let f = fits base xs d m c h in rw (lt-ltb base c f.0) f.3

  back : (m c : ℕ) → mother_at base xs c ≡ Some m → Made (newest xs) m c
  back m c h =
      elim (cases_lt base c) [
        | inl l ↦ backs base xs d m c l (rw (lt-ltb base c l) at h)
        | inr l ↦ (let q : None ≡ Some m = rw (le-ltb base c l) at h in cc)
      ]

-- THE MARKS OF THE LINEAGE
pub births_is : (v : p.Whole) → Sound v → (root c : ℕ) →
    marked (base_of v) (marks v root) c ≡ w.among c (w.offspring Cpu fresh act (world_of v) v.births (root ∷ []))
unfolding newest
births_is v s root c =
    test_is v.births (newest v.lineage) (orderly root (base_of v) v.lineage s.dense v.births s.counted) (mother_at (base_of v) v.lineage) root
    (marked (base_of v) (marks v root)) (fit root (base_of v) v.lineage s.dense) (back root (base_of v) v.lineage s.dense) (up root (base_of v) v.lineage s.dense)
    Cpu fresh act (world_of v) refl c

-- CUTTINGS: what was cut from a pool is to it as what was made from a capability is to that
no_rights : w.Rights
no_rights = record { reads = false; writes = false; hands = false }

pseudo : ℕ → ℕ → w.Slot
pseudo i zero = w.empty
pseudo i (suc f) = w.cap 0 no_rights 0 i f

cut_lineage : ℕ → List (w.Object Cpu) → List w.Slot
cut_lineage i [] = []
cut_lineage i (x ∷ xs) = pseudo i (w.from_of Cpu fresh act x) ∷ cut_lineage (suc i) xs

cut_world : w.World Cpu → w.World Cpu
cut_world v = record { objects = v.objects; births = v.births; lineage = cut_lineage 0 v.objects }

cut_one : (os : List ℕ) (i f : ℕ) (a b : List ℕ) →
    w.pick (not (eqb f 0) && w.among (f - 1) os) (i ∷ a) a ≡ w.pick (not (w.is_empty (pseudo i f)) && w.among (w.slot_mother (pseudo i f)) os) (w.slot_birth (pseudo i f) ∷ a) a
unfolding pseudo w.is_empty w.slot_mother w.slot_birth
cut_one os i zero a b = refl
cut_one os i (suc f) a b = rw (not_zero f, less_one f) refl

cut_in_is : (os : List ℕ) (i : ℕ) (xs : List (w.Object Cpu)) → w.cut_in Cpu fresh act os i xs ≡ w.made_from Cpu fresh act os (cut_lineage i xs)
unfolding w.cut_in w.made_from cut_lineage
cut_in_is os i [] = refl
cut_in_is os i (x ∷ xs) =
    ap (λ a. w.pick (not (eqb (w.from_of Cpu fresh act x) 0) && w.among (w.from_of Cpu fresh act x - 1) os) (i ∷ a) a) (cut_in_is os (suc i) xs)
    ∙ cut_one os i (w.from_of Cpu fresh act x) (w.made_from Cpu fresh act os (cut_lineage (suc i) xs)) []

cuttings_is : (v : w.World Cpu) (n : ℕ) (os : List ℕ) → w.cuttings Cpu fresh act v n os ≡ w.offspring Cpu fresh act (cut_world v) n os
unfolding w.cuttings w.offspring cut_world
cuttings_is v zero os = refl
cuttings_is v (suc n) os =
    let e = cut_in_is os 0 v.objects in
    ap (λ a. a ++ w.cuttings Cpu fresh act v n a) e
    ∙ ap (λ a. w.made_from Cpu fresh act os (cut_lineage 0 v.objects) ++ a) (cuttings_is v n (w.made_from Cpu fresh act os (cut_lineage 0 v.objects)))

from_world : (x : p.Thing) → number_of (p.from_of x) ≡ w.from_of Cpu fresh act (object_of x)
unfolding w.from_of
from_world p.gone = refl
from_world _ = refl

-- one object, by the pool that it was cut from
made_one : (i n : ℕ) (f : Option ℕ) (m c : ℕ) (l : List w.Slot) → number_of f ≡ n → Made (pseudo i n ∷ l) m c → ((f ≡ Some m) × (i ≡ c)) ⊎ Made l m c
unfolding pseudo Made
made_one i n None m c l e h = inr (subst (λ k. Made (pseudo i k ∷ l) m c) (sym e) h)
made_one i n (Some f) m c l e h =
    elim (subst (λ k. Made (pseudo i k ∷ l) m c) (sym e) h) [ inl q ↦ inl (ap Some q.0, q.1) | inr q ↦ inr q ]

one_made : (i n : ℕ) (f : Option ℕ) (m : ℕ) (l : List w.Slot) → number_of f ≡ n → f ≡ Some m → Made (pseudo i n ∷ l) m i
unfolding pseudo Made
one_made i n f m l e h = subst (λ k. Made (pseudo i k ∷ l) m i) (sym (ap number_of h) ∙ e) (inl (refl, refl))

made_skip : (i n : ℕ) (m c : ℕ) (l : List w.Slot) → Made l m c → Made (pseudo i n ∷ l) m c
unfolding pseudo Made
made_skip i zero m c l h = h
made_skip i (suc f) m c l h = inr h

cut_fits : (i : ℕ) (xs : List p.Thing) (m c : ℕ) → Made (cut_lineage i (map object_of xs)) m c → (i ≤ c) × (c < i + length xs) × (p.from_of (get_or xs (c - i) p.gone) ≡ Some m)
unfolding cut_lineage Made
cut_fits i [] m c h = absurd h
cut_fits i (x ∷ xs) m c h =
    elim (made_one i (w.from_of Cpu fresh act (object_of x)) (p.from_of x) m c (cut_lineage (suc i) (map object_of xs)) (from_world x) h) [
      | inl q ↦ (let e : c - i ≡ 0 = omega (arith, q.1) in (omega (arith, q.1), omega (arith, q.1), ap (λ k. p.from_of (get_or (x ∷ xs) k p.gone)) e ∙ q.0))
      | inr q ↦
          (let r = cut_fits (suc i) xs m c q in
          let e : c - i ≡ suc (c - suc i) = omega (arith, r.0) in
          (omega (arith, r.0), omega (arith, r.1), ap (λ k. p.from_of (get_or (x ∷ xs) k p.gone)) e ∙ r.2))
    ]

cut_backs : (i : ℕ) (xs : List p.Thing) (m c : ℕ) → i ≤ c → p.from_of (get_or xs (c - i) p.gone) ≡ Some m → Made (cut_lineage i (map object_of xs)) m c
unfolding cut_lineage
cut_backs i [] m c l h = cc
cut_backs i (x ∷ xs) m c l h =
    elim (cases_eq c i) [
      | inl e ↦
          (let k : c - i ≡ 0 = omega arith in
          let q : p.from_of x ≡ Some m = sym (ap (λ j. p.from_of (get_or (x ∷ xs) j p.gone)) k) ∙ h in
          subst (λ j. Made (pseudo i (w.from_of Cpu fresh act (object_of x)) ∷ cut_lineage (suc i) (map object_of xs)) m j) (sym e)
          (one_made i (w.from_of Cpu fresh act (object_of x)) (p.from_of x) m (cut_lineage (suc i) (map object_of xs)) (from_world x) q))
      | inr n ↦
          (let k : c - i ≡ suc (c - suc i) = omega (arith, n) in
          let q : p.from_of (get_or xs (c - suc i) p.gone) ≡ Some m = sym (ap (λ j. p.from_of (get_or (x ∷ xs) j p.gone)) k) ∙ h in
          made_skip i (w.from_of Cpu fresh act (object_of x)) m c (cut_lineage (suc i) (map object_of xs)) (cut_backs (suc i) xs m c (omega (arith, n)) q))
    ]

cut_up : (o : ℕ) (ms : List Bool) (x : p.Thing) (g : ℕ → Bool) (f : Option ℕ) → p.from_of x ≡ f → ((m : ℕ) → f ≡ Some m → get_or ms m false ≡ g m) → cut_mark o ms x ≡ up_by o g f
cut_up o ms x g None e h = ap (λ k. p.on_some k false (λ f. eqb f o || get_or ms f false)) e
cut_up o ms x g (Some f) e h = ap (λ k. p.on_some k false (λ f. eqb f o || get_or ms f false)) e ∙ ap (λ b. eqb f o || b) (h f refl)

module _ (o : ℕ) (xs : List p.Thing) (before : (c f : ℕ) → p.from_of (get_or xs c p.gone) ≡ Some f → f < c) where
  abbrev cuts : List Bool
  cuts = scan (cut_mark o) [] xs

  cuts_length : length cuts ≡ length xs
  cuts_length = scan_long (cut_mark o) xs

  cuts_up : (c : ℕ) → get_or cuts c false ≡ up_by o (λ k. get_or cuts k false) (p.from_of (get_or xs c p.gone))
  cuts_up c =
      elim (cases_lt c (length xs)) [
        | inl h ↦
            scan_all (cut_mark o) xs c p.gone h
            ∙ cut_up o (take c cuts) (get_or xs c p.gone) (λ k. get_or cuts k false) (p.from_of (get_or xs c p.gone)) refl (λ m e. get_or-take c cuts m false (before c m e))
        | inr h ↦
            get_or_past cuts c false (omega (arith, cuts_length, h))
            ∙ sym (ap (λ x. up_by o (λ k. get_or cuts k false) (p.from_of x)) (get_or_past xs c p.gone h))
      ]

  cut_orderly : Orderly (length xs) (cut_lineage 0 (map object_of xs))
  cut_orderly m c h =
      let f = cut_fits 0 xs m c h in
      let e : c - 0 ≡ c = omega arith in
      (before c m (ap (λ k. p.from_of (get_or xs k p.gone)) (sym e) ∙ f.2), omega (arith, f.1))

  cut_fit : (m c : ℕ) → Made (cut_lineage 0 (map object_of xs)) m c → p.from_of (get_or xs c p.gone) ≡ Some m
  cut_fit m c h = let f = cut_fits 0 xs m c h in let e : c - 0 ≡ c = omega arith in ap (λ k. p.from_of (get_or xs k p.gone)) (sym e) ∙ f.2

  cut_back : (m c : ℕ) → p.from_of (get_or xs c p.gone) ≡ Some m → Made (cut_lineage 0 (map object_of xs)) m c
  cut_back m c h = let e : c - 0 ≡ c = omega arith in cut_backs 0 xs m c (omega arith) (ap (λ k. p.from_of (get_or xs k p.gone)) e ∙ h)

-- THE MARKS OF THE OBJECTS
pub cuts_is : (v : p.Whole) → Sound v → (o c : ℕ) →
    get_or (scan (cut_mark o) [] v.things) c false ≡ w.among c (w.cuttings Cpu fresh act (world_of v) (length (world_of v).objects) (o ∷ []))
unfolding p.object cut_world
cuts_is v s o c =
    let xs = v.things in
    test_is (length xs) (cut_lineage 0 (map object_of xs)) (cut_orderly o xs (λ c f. s.after c f)) (λ c. p.from_of (get_or xs c p.gone)) o (λ k. get_or (scan (cut_mark o) [] xs) k false)
    (cut_fit o xs (λ c f. s.after c f)) (cut_back o xs (λ c f. s.after c f)) (cuts_up o xs (λ c f. s.after c f)) Cpu fresh act (cut_world (world_of v)) refl c
    ∙ sym (ap (w.among c) (cuttings_is (world_of v) (length xs) (o ∷ [])))
    ∙ ap (λ n. w.among c (w.cuttings Cpu fresh act (world_of v) n (o ∷ []))) (sym (length-map xs object_of))
