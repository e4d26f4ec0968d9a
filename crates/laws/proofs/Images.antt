-- Worlds as images carry them are starts that the laws speak of.
use mathlib.Core.Path.{◌≡◌, refl, sym, ap, subst, ◌∙◌}
use mathlib.Core.Bool.{Bool}
use mathlib.Core.List.{List}
use Prim.Native.Nat.{ℕ}
use native.Mathlib.Omega.{arith}
use lib.ListN.{length, get_or-eq_default}
use Rattle.rights.specs.World.{Act, State, Object, gone, pool, page, thread, Sizes, object, from_of}
use Rattle.rights.specs.Promise.{New, new_pool, new_table, new_port, new_page, new_thread, new_line, Uncut, Paged, ImageStarts}
use Rattle.laws.proofs.Tests.{clash, below_or_not}

module _ (Cpu : Type 0) (fresh : ℕ → Cpu) (act : Cpu → (ℕ → ℕ) → Act Cpu) where
  new_from : (z : Sizes) {x : Object Cpu} → New Cpu fresh act z x → from_of Cpu fresh act x ≡ 0
  unfolding from_of
  new_from z (new_pool a b) = refl
  new_from z (new_table a b) = refl
  new_from z new_port = refl
  new_from z (new_page a b) = refl
  new_from z (new_thread a b c) = refl
  new_from z new_line = refl

  new_unused : (z : Sizes) {x : Object Cpu} → New Cpu fresh act z x → (f n u : ℕ) → x ≡ pool f n u → u ≡ 0
  new_unused z (new_pool a b) f n u e = cc
  new_unused z (new_table a b) f n u e = clash (cc)
  new_unused z new_port f n u e = clash (cc)
  new_unused z (new_page a b) f n u e = clash (cc)
  new_unused z (new_thread a b c) f n u e = clash (cc)
  new_unused z new_line f n u e = clash (cc)

  new_page_long : (z : Sizes) {x : Object Cpu} → New Cpu fresh act z x → (f : ℕ) (bs : List ℕ) → x ≡ page f bs → length bs ≡ z.bytes
  new_page_long z (new_pool a b) f bs e = clash (cc)
  new_page_long z (new_table a b) f bs e = clash (cc)
  new_page_long z new_port f bs e = clash (cc)
  new_page_long z (new_page {bs = cs} a b) f bs e = let h : cs ≡ bs = cc in subst (λ (ys : List ℕ). length ys ≡ z.bytes) h a
  new_page_long z (new_thread a b c) f bs e = clash (cc)
  new_page_long z new_line f bs e = clash (cc)

  pub image_starts : ImageStarts Cpu fresh act
  unfolding ImageStarts Uncut Paged object from_of
  image_starts z frames w new fits = (
    record { its_table = fits.its_table; its_pages = fits.its_pages; its_pool = λ o u e. let h = from_none o in absurd (omega arith) },
    (λ o f t s c ps rs e. sym (thread_from o f t s c ps rs e) ∙ from_none o),
    (λ o f n u e. let h = unused o f n u e in omega arith),
    (λ o f bs e. below_or_not o (length w.objects) (λ l. new_page_long z (new o l) f bs e) (λ l. let h : object Cpu fresh act w o ≡ gone = get_or-eq_default w.objects gone l in clash (cc))),
    from_none,
  )
    where
      from_none : (o : ℕ) → from_of Cpu fresh act (object Cpu fresh act w o) ≡ 0
      from_none o = below_or_not o (length w.objects) (λ l. new_from z (new o l)) (λ l. ap (from_of Cpu fresh act) (get_or-eq_default w.objects gone l))

      thread_from : (o f t : ℕ) (s : State Cpu) (c : Cpu) (ps : List ℕ) (rs : List Bool) → object Cpu fresh act w o ≡ thread f s c t ps rs → from_of Cpu fresh act (object Cpu fresh act w o) ≡ f
      thread_from o f t s c ps rs e = ap (from_of Cpu fresh act) e

      unused : (o f n u : ℕ) → object Cpu fresh act w o ≡ pool f n u → u ≡ 0
      unused o f n u e = below_or_not o (length w.objects) (λ l. new_unused z (new o l) f n u e) (λ l. let h : object Cpu fresh act w o ≡ gone = get_or-eq_default w.objects gone l in clash (cc))
