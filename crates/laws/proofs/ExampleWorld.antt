-- The small worlds are starts, and what is said of them holds.
use mathlib.Core.Path.{◌≡◌, refl, sym, ap, subst, ◌∙◌}
use mathlib.Core.Bool.{Bool, true, false}
use mathlib.Core.List.{List, []}
use Prim.Native.Nat.{ℕ, zero, suc, ◌<◌}
use native.Mathlib.Omega.{arith}
use lib.Dec.{lit≤}
use lib.ListN.{length, get_or, replicate, length-replicate}
use Rattle.rv32.specs.Registers.{fresh as new_core}
use Rattle.rv32.specs.declared.registers.Cpu.{Cpu}
use Rattle.rights.specs.World.{Rights, empty, cap, Act, wrong, Wait, State, ready, waits, Object, gone, pool, port, thread, object, slots_of, from_of}
use Rattle.rights.specs.Promise.{Parted, New, new_pool, new_table, new_port, new_page, new_thread, new_line, births_in, all_births, up_from, threads}
use Rattle.rights.specs.Promise.{lines, Kinds, Paged, Uncut}
use Rattle.laws.specs.Examples.{board, all, slots, small, Starts, Carried}
use Rattle.laws.proofs.Tests.{clash}

-- a list of zeros
zeros : (n k : ℕ) → ◌≡◌ {A = ℕ} (get_or (replicate n 0) k 0) 0
zeros zero k = refl
zeros (suc n) zero = refl
zeros (suc n) (suc k) = zeros n k

module _ (fresh : ℕ → Cpu) (act : Cpu → (ℕ → ℕ) → Act Cpu) (r : Rights) where
  abbrev obj : ℕ → Object Cpu
  obj o = object Cpu fresh act (small r) o

  -- a full slot is one of slots 0 to 6 of object 4, and holds the object of its number
  place : (i u b j m : ℕ) (q : Rights) → get_or (slots r) i empty ≡ cap u q b j m → (i < 7) × (u ≡ i) × (j ≡ suc i) × (m ≡ 0)
  place zero u b j m q e = (lit≤ tt, cc, cc, cc)
  place (suc zero) u b j m q e = (lit≤ tt, cc, cc, cc)
  place (suc (suc zero)) u b j m q e = (lit≤ tt, cc, cc, cc)
  place (suc (suc (suc zero))) u b j m q e = (lit≤ tt, cc, cc, cc)
  place (suc (suc (suc (suc zero)))) u b j m q e = (lit≤ tt, cc, cc, cc)
  place (suc (suc (suc (suc (suc zero))))) u b j m q e = (lit≤ tt, cc, cc, cc)
  place (suc (suc (suc (suc (suc (suc zero)))))) u b j m q e = (lit≤ tt, cc, cc, cc)
  place (suc (suc (suc (suc (suc (suc (suc zero))))))) u b j m q e = clash (cc)
  place (suc (suc (suc (suc (suc (suc (suc (suc zero)))))))) u b j m q e = clash (cc)
  place (suc (suc (suc (suc (suc (suc (suc (suc (suc zero))))))))) u b j m q e = clash (cc)
  place (suc (suc (suc (suc (suc (suc (suc (suc (suc (suc zero)))))))))) u b j m q e = clash (cc)
  place (suc (suc (suc (suc (suc (suc (suc (suc (suc (suc (suc zero))))))))))) u b j m q e = clash (cc)
  place (suc (suc (suc (suc (suc (suc (suc (suc (suc (suc (suc (suc i)))))))))))) u b j m q e = clash (cc)

  full : (o i u b j m : ℕ) (q : Rights) → get_or (slots_of Cpu fresh act (obj o)) i empty ≡ cap u q b j m → (o ≡ 4) × (i < 7) × (u ≡ i) × (j ≡ suc i) × (m ≡ 0)
  unfolding slots_of object
  full zero i u b j m q e = clash (cc)
  full (suc zero) i u b j m q e = clash (cc)
  full (suc (suc zero)) i u b j m q e = clash (cc)
  full (suc (suc (suc zero))) i u b j m q e = clash (cc)
  full (suc (suc (suc (suc zero)))) i u b j m q e = let h = place i u b j m q e in (refl, h.0, h.1, h.2, h.3)
  full (suc (suc (suc (suc (suc zero))))) i u b j m q e = clash (cc)
  full (suc (suc (suc (suc (suc (suc zero)))))) i u b j m q e = clash (cc)
  full (suc (suc (suc (suc (suc (suc (suc o))))))) i u b j m q e = clash (cc)

  there : (u : ℕ) → u < 7 → obj u ≡ gone → ⊥
  unfolding object
  there zero h e = clash (cc)
  there (suc zero) h e = clash (cc)
  there (suc (suc zero)) h e = clash (cc)
  there (suc (suc (suc zero))) h e = clash (cc)
  there (suc (suc (suc (suc zero)))) h e = clash (cc)
  there (suc (suc (suc (suc (suc zero))))) h e = clash (cc)
  there (suc (suc (suc (suc (suc (suc zero)))))) h e = clash (cc)
  there (suc (suc (suc (suc (suc (suc (suc u))))))) h e = absurd (omega arith)

  threads_are : (o f t : ℕ) (s : State Cpu) (c : Cpu) (ps : List ℕ) (rs : List Bool) → obj o ≡ thread f s c t ps rs → (f ≡ 0) × (s ≡ ready) × (t ≡ 5) × (ps ≡ replicate 64 0)
  unfolding object
  threads_are zero f t s c ps rs e = clash (cc)
  threads_are (suc zero) f t s c ps rs e = clash (cc)
  threads_are (suc (suc zero)) f t s c ps rs e = clash (cc)
  threads_are (suc (suc (suc zero))) f t s c ps rs e = clash (cc)
  threads_are (suc (suc (suc (suc zero)))) f t s c ps rs e = clash (cc)
  threads_are (suc (suc (suc (suc (suc zero))))) f t s c ps rs e = (cc, cc, cc, cc)
  threads_are (suc (suc (suc (suc (suc (suc zero)))))) f t s c ps rs e = (cc, cc, cc, cc)
  threads_are (suc (suc (suc (suc (suc (suc (suc o))))))) f t s c ps rs e = clash (cc)

  ports_are : (o f : ℕ) (ws : List Wait) → obj o ≡ port f ws → ws ≡ []
  unfolding object
  ports_are zero f ws e = clash (cc)
  ports_are (suc zero) f ws e = clash (cc)
  ports_are (suc (suc zero)) f ws e = cc
  ports_are (suc (suc (suc zero))) f ws e = clash (cc)
  ports_are (suc (suc (suc (suc zero)))) f ws e = clash (cc)
  ports_are (suc (suc (suc (suc (suc zero))))) f ws e = clash (cc)
  ports_are (suc (suc (suc (suc (suc (suc zero)))))) f ws e = clash (cc)
  ports_are (suc (suc (suc (suc (suc (suc (suc o))))))) f ws e = clash (cc)

  pools_are : (o f n u : ℕ) → obj o ≡ pool f n u → u ≡ 0
  unfolding object
  pools_are zero f n u e = cc
  pools_are (suc zero) f n u e = clash (cc)
  pools_are (suc (suc zero)) f n u e = clash (cc)
  pools_are (suc (suc (suc zero))) f n u e = clash (cc)
  pools_are (suc (suc (suc (suc zero)))) f n u e = clash (cc)
  pools_are (suc (suc (suc (suc (suc zero))))) f n u e = clash (cc)
  pools_are (suc (suc (suc (suc (suc (suc zero)))))) f n u e = clash (cc)
  pools_are (suc (suc (suc (suc (suc (suc (suc o))))))) f n u e = clash (cc)

  pub uncut_all : (o : ℕ) → from_of Cpu fresh act (obj o) ≡ 0
  unfolding object from_of
  uncut_all zero = refl
  uncut_all (suc zero) = refl
  uncut_all (suc (suc zero)) = refl
  uncut_all (suc (suc (suc zero))) = refl
  uncut_all (suc (suc (suc (suc zero)))) = refl
  uncut_all (suc (suc (suc (suc (suc zero))))) = refl
  uncut_all (suc (suc (suc (suc (suc (suc zero)))))) = refl
  uncut_all (suc (suc (suc (suc (suc (suc (suc o))))))) = refl

  nothing_at : (k u : ℕ) → get_or (replicate 64 0) k 0 ≡ suc u → ⊥
  nothing_at k u e = let h = zeros 64 k in omega arith

  pub small_parted : Parted Cpu fresh act (λ o. true) (small r)
  small_parted =
      record {
        held = λ o i u b j m q e. let f = full o i u b j m q e in (refl, f.4, there u (let g = f.1 in let h = f.2 in omega arith));
        tables = λ o f t s c ps rs e. let h = threads_are o f (suc t) s c ps rs e in (refl, there t (let g = h.2 in omega arith));
        spaces = λ o f t k u s c ps rs e g. let h = threads_are o f t s c ps rs e in absurd (nothing_at k u (subst (λ (xs : List ℕ). get_or xs k 0 ≡ suc u) h.3 g));
        from = λ o u e. refl;
        once = λ o i u b j m p k v c n q s e g. let f = full o i u b j m q e in let h = full p k v c j n s g in (f.0 ∙ sym h.0, let a = f.3 in let d = h.3 in omega arith);
        born = λ o i u b j m q e. let f = full o i u b j m q e in let g = f.3 in let h = f.1 in (omega arith, omega arith);
        nothing_made = refl;
        calm = ports_are;
        awake = λ o f t u c ps rs then e. let h = threads_are o f t (waits u then) c ps rs e in asleep u then h.1;
      }
    where
      asleep : (u : ℕ) (then : List ℕ → Cpu) → ◌≡◌ {A = State Cpu} (waits u then) ready → ⊥
      asleep u then e = clash (cc)

  pub small_kinds : Kinds Cpu fresh act (small r)
  unfolding object
  small_kinds =
      record {
        its_table = λ o f t s c ps rs e. let h = threads_are o f (suc t) s c ps rs e in let g = h.2 in let q : t ≡ 4 = omega arith in (0, slots r, ap (λ (i : ℕ). get_or (small r).objects i gone) q);
        its_pages = λ o f t k u s c ps rs e g. let h = threads_are o f t s c ps rs e in absurd (nothing_at k u (subst (λ (xs : List ℕ). get_or xs k 0 ≡ suc u) h.3 g));
        its_pool = λ o u e. let h = uncut_all o in absurd (omega arith);
      }

  pub small_paged : Paged Cpu fresh act board (small r)
  unfolding Paged object
  small_paged zero f bs e = clash (cc)
  small_paged (suc zero) f bs e = clash (cc)
  small_paged (suc (suc zero)) f bs e = clash (cc)
  small_paged (suc (suc (suc zero))) f bs e = let h : replicate {A = ℕ} 4096 0 ≡ bs = cc in subst (λ (ys : List ℕ). length ys ≡ 4096) h (length-replicate {A = ℕ} 4096 0)
  small_paged (suc (suc (suc (suc zero)))) f bs e = clash (cc)
  small_paged (suc (suc (suc (suc (suc zero))))) f bs e = clash (cc)
  small_paged (suc (suc (suc (suc (suc (suc zero)))))) f bs e = clash (cc)
  small_paged (suc (suc (suc (suc (suc (suc (suc o))))))) f bs e = clash (cc)

pub starts : Starts
unfolding Uncut
starts f a =
    (small_parted f a all, small_kinds f a all, (λ o g t s c ps rs e. (threads_are f a all o g t s c ps rs e).0), λ o g n u e. let h = pools_are f a all o g n u e in omega arith)

-- what the slots hold has no badge
unbadged : (i u b j m : ℕ) (q : Rights) → get_or (slots all) i empty ≡ cap u q b j m → b ≡ 0
unbadged zero u b j m q e = cc
unbadged (suc zero) u b j m q e = cc
unbadged (suc (suc zero)) u b j m q e = cc
unbadged (suc (suc (suc zero))) u b j m q e = cc
unbadged (suc (suc (suc (suc zero)))) u b j m q e = cc
unbadged (suc (suc (suc (suc (suc zero))))) u b j m q e = cc
unbadged (suc (suc (suc (suc (suc (suc zero)))))) u b j m q e = cc
unbadged (suc (suc (suc (suc (suc (suc (suc i))))))) u b j m q e = let h = place (λ n. new_core n) (λ c see. wrong) all (suc (suc (suc (suc (suc (suc (suc i))))))) u b j m q e in let g = h.0 in absurd (omega arith)

pub carried : Carried
unfolding object all_births births_in slots_of up_from threads lines
carried a = (
  news,
  λ frames h. record {
    badges = λ o i u b j m q e. let f = full new_core a all o i u b j m q e in let g = f.0 in
        let d : b ≡ 0 = unbadged i u b j m q (subst (λ (k : ℕ). get_or (slots_of Cpu new_core a (object Cpu new_core a (small all) k)) i empty ≡ cap u q b j m) g e) in omega arith;
    in_order = refl;
    few = (lit≤ tt, lit≤ tt, h);
    its_table = (small_kinds new_core a all).its_table;
    its_pages = (small_kinds new_core a all).its_pages;
  },
)
  where
    news : (o : ℕ) → o < 7 → New Cpu new_core a board (object Cpu new_core a (small all) o)
    news zero l = new_pool {n = 3} (lit≤ tt) (lit≤ tt)
    news (suc zero) l = new_line
    news (suc (suc zero)) l = new_port
    news (suc (suc (suc zero))) l = new_page (length-replicate {A = ℕ} 4096 0) (λ k. let h = zeros 4096 k in omega arith)
    news (suc (suc (suc (suc zero)))) l = new_table (lit≤ tt) (lit≤ tt)
    news (suc (suc (suc (suc (suc zero))))) l = new_thread {a = 0} (length-replicate {A = ℕ} 64 0) (length-replicate 64 false) (lit≤ tt)
    news (suc (suc (suc (suc (suc (suc zero)))))) l = new_thread {a = 4} (length-replicate {A = ℕ} 64 0) (length-replicate 64 false) (lit≤ tt)
    news (suc (suc (suc (suc (suc (suc (suc o))))))) l = absurd (omega arith)
