-- One event of a row that is carried out, and the end of a row.
use Rattle.std.proofs.Common.{◌≡◌, ℕ, zero, suc, ◌+◌, ◌<◌, ◌≤◌, List, [], ◌∷◌, ◌++◌, length, Some, None, Option, sym, refl, ap, ◌∙◌, subst, append_assoc, arith}
use Rattle.std.proofs.lemmas.Bool.{lt-ltb, le-ltb, eq-eqb, ne_eqb}
use Rattle.std.proofs.lemmas.List.{append-nil}
use Rattle.rights.specs.declared.said.Said.{Said}
use Rattle.rights.specs.World as w
use Rattle.rights.specs.Said.{with_first, event_says, said}
use Rattle.rv32.specs.declared.registers.Cpu.{Cpu}
use Rattle.rv32.specs.Registers.{fresh}
use Rattle.rv32.specs.Execute.{act}
use Rattle.image.specs.Fields.{one, two}
use Rattle.image.specs.Rows.{row, row_from}
use Rattle.model.specs.Plain.{Whole, object, with_object}
use Rattle.model.specs.Calls.{comes_in}
use Rattle.model.specs.Meaning.{sizes, world_of}
use Rattle.model.specs.Turns.{Ticked}
use Rattle.model.specs.Same.{Ran}
use Rattle.model.specs.Sound.{Sound}
use Rattle.model.proofs.Happens.{events_agree}
use Rattle.model.proofs.Lasting.{stays_sound}
use Rattle.replay.specs.Replays.{said_from}

-- from world a on, at place at, once ys was said: whatever is left of the rest is left of the whole row from v; and what was said, and what the rest says, is what the whole row says
abbrev pub Leads : List ℕ → Whole → List Said → Whole → ℕ → Type 0
Leads es v ys a at =
    (k : ℕ) × (length es ≤ at + k) × ((u : Whole) → Ran a (row_from es k at) u → Ran v (row es) u)
    × (Sound v → Sound a × (ys ++ said_from a (row_from es k at) ≡ said_from v (row es)))

tick_row : (es : List ℕ) (k at : ℕ) → at < length es → one es at ≡ 0 → row_from es (suc k) at ≡ w.tick (two es (at + 1)) ∷ row_from es k (at + 3)
unfolding row_from
tick_row es k at l e = simp (lt-ltb at (length es) l, eq-eqb (one es at) 0 e) refl

byte_row : (es : List ℕ) (k at : ℕ) → at < length es → (one es at ≡ 0 → ⊥) → row_from es (suc k) at ≡ w.byte (two es (at + 1)) (one es (at + 3)) ∷ row_from es k (at + 4)
unfolding row_from
byte_row es k at l n = simp (lt-ltb at (length es) l, ne_eqb (one es at) 0 n) refl

end_row : (es : List ℕ) (k at : ℕ) → length es ≤ at → row_from es k at ≡ []
unfolding row_from
end_row es zero at l = refl
end_row es (suc k) at l = simp (le-ltb at (length es) l) refl

-- one more that was said, before the rest
first_on : (ys : List Said) (s : Option Said) (xs : List Said) → (ys ++ with_first s []) ++ xs ≡ ys ++ with_first s xs
unfolding with_first
first_on ys None xs = ap (λ zs. zs ++ xs) (append-nil ys)
first_on ys (Some x) xs = append_assoc ys (x ∷ []) xs

pub one_more : (ys zs : List Said) (s : Option Said) (x : Said) → s ≡ Some x → zs ≡ ys ++ x ∷ [] → zs ≡ ys ++ with_first s []
unfolding with_first
one_more ys zs s x e h = h ∙ ap (λ t. ys ++ with_first t []) (sym e)

pub no_more : (ys : List Said) (s : Option Said) → s ≡ None → ys ≡ ys ++ with_first s []
unfolding with_first
no_more ys s e = sym (append-nil ys) ∙ ap (λ t. ys ++ with_first t []) (sym e)

-- one event, by what it leaves
says_on : (v a b : Whole) (e : w.Event) (es : List w.Event) (ys zs : List Said) (s : Option Said) (whole : List Said) → world_of b ≡ w.event Cpu fresh act sizes (world_of a) e →
    s ≡ event_says Cpu fresh act sizes (world_of a) e → zs ≡ ys ++ with_first s [] → ys ++ said_from a (e ∷ es) ≡ whole → zs ++ said_from b es ≡ whole
unfolding said
says_on v a b e es ys zs s whole left says more h =
    ap (λ xs. xs ++ said_from b es) more ∙ first_on ys s (said_from b es)
    ∙ ap (λ x. ys ++ with_first s (said Cpu fresh act sizes x es)) left ∙ ap (λ t. ys ++ with_first t (said Cpu fresh act sizes (w.event Cpu fresh act sizes (world_of a) e) es)) says ∙ h

pub ticks : (es : List ℕ) (v a b : Whole) (ys zs : List Said) (s : Option Said) (at o : ℕ) → Leads es v ys a at → at < length es → one es at ≡ 0 → o ≡ two es (at + 1) → Ticked a o b →
    s ≡ event_says Cpu fresh act sizes (world_of a) (w.tick o) → zs ≡ ys ++ with_first s [] → Leads es v zs b (at + 3)
unfolding Ran
ticks es v a b ys zs s at o (zero, h, f, g) l e q t says more = absurd (omega arith)
ticks es v a b ys zs s at o (suc k, h, f, g) l e q t says more = (
  k,
  omega (arith, h),
  λ u r. f u (subst (λ row. Ran a row u) (sym (tick_row es k at l e)) (b, subst (λ p. Ticked a p b) q t, r)),
  λ so. let r = g so in (
    stays_sound.0 a b r.0 o t,
    says_on v a b (w.tick o) (row_from es k (at + 3)) ys zs s (said_from v (row es)) (events_agree.0 a b r.0 o t) says more
        (ap (λ p. ys ++ said_from a (w.tick p ∷ row_from es k (at + 3))) q ∙ ap (λ xs. ys ++ said_from a xs) (sym (tick_row es k at l e)) ∙ r.1),
  ),
)

pub comes : (es : List ℕ) (v a b : Whole) (ys : List Said) (at o c : ℕ) → Leads es v ys a at → at < length es → (one es at ≡ 0 → ⊥) → o ≡ two es (at + 1) → c ≡ one es (at + 3) →
    b ≡ with_object a o (comes_in c (object a o)) → Leads es v ys b (at + 4)
unfolding Ran event_says with_first
comes es v a b ys at o c (zero, h, f, g) l n q r e = absurd (omega arith)
comes es v a b ys at o c (suc k, h, f, g) l n q r e =
    let is : b ≡ with_object a (two es (at + 1)) (comes_in (one es (at + 3)) (object a (two es (at + 1)))) =
    e ∙ ap (λ d. with_object a o (comes_in d (object a o))) r ∙ ap (λ p. with_object a p (comes_in (one es (at + 3)) (object a p))) q in (
      k,
      omega (arith, h),
      λ u s. f u (subst (λ row. Ran a row u) (sym (byte_row es k at l n)) (subst (λ x. Ran x (row_from es k (at + 4)) u) is s)),
      λ so. let m = g so in (
        subst Sound (sym is) (stays_sound.1 a (two es (at + 1)) (one es (at + 3)) m.0),
        says_on v a b (w.byte (two es (at + 1)) (one es (at + 3))) (row_from es k (at + 4)) ys ys None (said_from v (row es)) (ap world_of is ∙ events_agree.1 a (two es (at + 1)) (one es (at + 3))) refl (sym (append-nil ys))
            (ap (λ xs. ys ++ said_from a xs) (sym (byte_row es k at l n)) ∙ m.1),
      ),
    )

pub begins : (es : List ℕ) (v : Whole) (ys : List Said) → ys ≡ [] → Leads es v ys v 0
begins es v ys e = (length es, omega arith, (λ u r. r), λ so. (so, ap (λ xs. xs ++ said_from v (row es)) e))

pub ends : (es : List ℕ) (v a : Whole) (ys : List Said) (at : ℕ) → Leads es v ys a at → length es ≤ at → Ran v (row es) a × (Sound v → ys ≡ said_from v (row es))
unfolding Ran said
ends es v a ys at (k, h, f, g) l = (
  f a (subst (λ row. Ran a row a) (sym (end_row es k at l)) refl),
  λ so. let r = g so in sym (append-nil ys) ∙ ap (λ xs. ys ++ said_from a xs) (sym (end_row es k at l)) ∙ r.1,
)
