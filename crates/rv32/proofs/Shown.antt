-- The examples.
use Rattle.std.proofs.Common.{ℕ, ◌+◌, ◌%◌, ◌≤◌, eqb, [], ◌∷◌, sym, refl, arith, lit<, lit≤}
use Rattle.std.proofs.lemmas.Bool.{cond-false, ne_eqb}
use Rattle.rights.specs.World as world
use Rattle.rv32.specs.Execute.{there, little, read}
use Rattle.rv32.specs.Reach.{Agree}
use Rattle.rv32.specs.Examples.{loads, loads', Met}
use Rattle.rv32.proofs.Accounted.{choose_each}
use Rattle.rv32.proofs.Kept.{starts_sound}

loads_small : (a : ℕ) → loads a ≤ 256
loads_small a = choose_each (λ v. v ≤ 256) (a % 4) ((0, 0x83) ∷ (1, 0x20) ∷ (2, 0x40) ∷ []) 0 (λ e. lit≤ tt, (λ e. lit≤ tt, (λ e. lit≤ tt, tt))) (lit≤ tt)

elsewhere : (a n : ℕ) → a + n ≤ 8 → Agree loads loads' a n
elsewhere a n h k l = sym (cond-false (eqb (a + k) 8) 1 (loads (a + k)) (ne_eqb (a + k) 8 (λ e. omega arith)))

pub met : Met
unfolding there little read world.object world.seen world.bytes_of
met =
    record {
      legal = ((lit< tt, lit< tt, lit< tt, tt), refl);
      sound = (starts_sound 0 (lit< tt), loads_small, refl);
      aligned = (refl, lit< tt);
      loaded = refl;
      agree = (elsewhere 0 4 (lit≤ tt), elsewhere 4 4 (lit≤ tt), refl, refl);
      stopped = (refl, tt);
    }
