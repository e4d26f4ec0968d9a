-- Nothing dangles: in every world that comes about from a start of right kinds, slots, tables, spaces, pools, ports and rows lead to what is there.
use mathlib.Core.Path.{◌≡◌, refl, sym, ap, subst, ◌∙◌}
use mathlib.Core.Bool.{Bool, true}
use mathlib.Core.List.{List, [], ◌∷◌}
use Prim.Native.Nat.{ℕ, suc}
use native.Mathlib.Omega.{arith}
use lib.Dec.{eqb, eqb-zero-suc}
use borrow.Author.Tests.{eqb-true, eq-eqb}
use Rattle.rights.specs.World.{Act, Wait, stopped, ready, waits, Object, gone, pool, table, port, page, thread, line, Sizes, World, Event, among}
use Rattle.rights.specs.World.{object, event, run}
use Rattle.rights.specs.Promise.{ComesBy, HeldIsThereIn, Parted, HeldIsThere, waiters, NoTwice, Kinds, Rows, NothingDangles, row_of}
use Rattle.laws.proofs.Tests.{no_yes}
use Rattle.laws.proofs.Steps.{one, waits_at}
use Rattle.laws.proofs.Pass.{happens}
use Rattle.laws.proofs.Caps.{held_is_there}
use Rattle.laws.proofs.Places.{kinds_event, kinds_run}
use Rattle.laws.proofs.Rows.{OneSide, Orderly, orderly_event}

module _ (Cpu : Type 0) (fresh : ℕ → Cpu) (act : Cpu → (ℕ → ℕ) → Act Cpu) where
  abbrev obj : World Cpu → ℕ → Object Cpu
  obj = object Cpu fresh act

  -- at the start nobody waits
  pub calm_row : (v : World Cpu) → Parted Cpu fresh act (λ o. true) v → (o : ℕ) (x : Object Cpu) → obj v o ≡ x → row_of Cpu fresh act x ≡ []
  unfolding row_of
  calm_row v p o gone e = refl
  calm_row v p o (pool f n u) e = refl
  calm_row v p o (table f ss) e = refl
  calm_row v p o (port f ws) e = p.calm o f ws e
  calm_row v p o (page f bs) e = refl
  calm_row v p o (thread f s c t ps rs) e = refl
  calm_row v p o (line xs ys) e = refl

  calm_thread : (v : World Cpu) → Parted Cpu fresh act (λ o. true) v → (o : ℕ) (x : Object Cpu) → obj v o ≡ x → waits_at Cpu fresh act x ≡ 0
  unfolding waits_at
  calm_thread v p o gone e = refl
  calm_thread v p o (pool f n u) e = refl
  calm_thread v p o (table f ss) e = refl
  calm_thread v p o (port f ws) e = refl
  calm_thread v p o (page f bs) e = refl
  calm_thread v p o (thread f stopped c t ps rs) e = refl
  calm_thread v p o (thread f ready c t ps rs) e = refl
  calm_thread v p o (thread f (waits u then) c t ps rs) e = absurd (p.awake o f t u c ps rs then e)
  calm_thread v p o (line xs ys) e = refl

  pub orderly_first : (v : World Cpu) → Parted Cpu fresh act (λ o. true) v → Orderly Cpu fresh act v
  unfolding waiters among NoTwice OneSide
  orderly_first v p =
      record {
        tells = λ o t. rw (calm_row v p o (obj v o) refl, calm_thread v p t (obj v t) refl, eqb-zero-suc o) refl;
        once = λ o. rw (calm_row v p o (obj v o) refl) tt;
        sides = λ o. rw (calm_row v p o (obj v o) refl) tt;
      }

  pub orderly_run : (z : Sizes) (w : World Cpu) (es : List Event) → Kinds Cpu fresh act w → Orderly Cpu fresh act w → Orderly Cpu fresh act (run Cpu fresh act z w es)
  unfolding run
  orderly_run z w [] k i = i
  orderly_run z w (e ∷ es) k i = orderly_run z (event Cpu fresh act z w e) es (kinds_event Cpu fresh act z w e k) (orderly_event Cpu fresh act k (happens Cpu fresh act z w e) i)

  -- as it is written
  port_of : (x : Object Cpu) (t : ℕ) → among t (waiters Cpu fresh act (row_of Cpu fresh act x)) ≡ true → (g : ℕ) × (ws : List Wait) × (x ≡ port g ws) × (among t (waiters Cpu fresh act ws) ≡ true)
  unfolding row_of waiters among
  port_of gone t h = no_yes h
  port_of (pool f n u) t h = no_yes h
  port_of (table f ss) t h = no_yes h
  port_of (port f ws) t h = (f, ws, refl, h)
  port_of (page f bs) t h = no_yes h
  port_of (thread f s c a ps rs) t h = no_yes h
  port_of (line xs ys) t h = no_yes h

  pub thread_of : (x : Object Cpu) (o : ℕ) → waits_at Cpu fresh act x ≡ suc o → (g : ℕ) × (a : ℕ) × (c : Cpu) × (ps : List ℕ) × (rs : List Bool) × (then : List ℕ → Cpu) × (x ≡ thread g (waits o then) c a ps rs)
  unfolding waits_at
  thread_of gone o e = absurd (omega arith)
  thread_of (pool f n u) o e = absurd (omega arith)
  thread_of (table f ss) o e = absurd (omega arith)
  thread_of (port f ws) o e = absurd (omega arith)
  thread_of (page f bs) o e = absurd (omega arith)
  thread_of (thread f stopped c a ps rs) o e = absurd (omega arith)
  thread_of (thread f ready c a ps rs) o e = absurd (omega arith)
  thread_of (thread f (waits u then) c a ps rs) o e = let h : u ≡ o = omega arith in (f, a, c, ps, rs, then, ap (λ (i : ℕ). thread f (waits i then) c a ps rs) h)
  thread_of (line xs ys) o e = absurd (omega arith)

  rows_of : (w : World Cpu) → Orderly Cpu fresh act w → Rows Cpu fresh act w
  unfolding row_of waits_at
  rows_of w i =
      record {
        its_port = λ t f u a c ps rs then e. port_of (obj w u) t (i.tells u t ∙ ap (λ (x : Object Cpu). eqb (waits_at Cpu fresh act x) (suc u)) e ∙ eq-eqb (suc u) (suc u) refl);
        its_thread = λ o f t ws e h. thread_of (obj w t) o (eqb-true _ _ (sym (i.tells o t) ∙ ap (λ (x : Object Cpu). among t (waiters Cpu fresh act (row_of Cpu fresh act x))) e ∙ h));
        once = λ o f ws e. subst (λ (x : Object Cpu). NoTwice Cpu fresh act (waiters Cpu fresh act (row_of Cpu fresh act x))) e (i.once o);
      }

  pub nothing_dangles : NothingDangles Cpu fresh act
  unfolding NothingDangles ComesBy HeldIsThere HeldIsThereIn
  nothing_dangles z v es one p k = (
    (λ o i u b j m r e. held_is_there Cpu fresh act z (run Cpu fresh act z v es) o i u b j m r (v, es, one, p, refl) e),
    kinds_run Cpu fresh act z v es k,
    rows_of (run Cpu fresh act z v es) (orderly_run z v es k (orderly_first v p)),
  )
