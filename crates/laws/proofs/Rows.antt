-- Ports and those who wait: whoever is in a port's row waits at that port, and whoever waits is in the row of the port, once. Every event keeps that.
use mathlib.Core.Path.{◌≡◌, refl, sym, ap, subst, ◌∙◌}
use mathlib.Core.Bool.{Bool, true, false, ◌&&◌, ◌||◌, not}
use mathlib.Core.List.{List, [], ◌∷◌, ◌++◌}
use Prim.Native.Nat.{ℕ, zero, suc}
use native.Mathlib.Omega.{arith}
use lib.Dec.{eqb, eqb-zero-suc, eqb-suc-zero, eqb-suc-suc}
use borrow.Author.Tests.{eqb-true, eq-eqb, ne_eqb}
use lib.ListN.{get_or}
use Rattle.rights.specs.World.{pick, Act, Wait, State, stopped, ready, waits, Object, gone, pool, table, port, page, thread, line, World, among}
use Rattle.rights.specs.World.{object, with_object, waits_thread, without_threads, cleared, on, wait, set_state, resumed, handed, went_on}
use Rattle.rights.specs.Promise.{waiters, NoTwice, Kinds, Note, row_of}
use Rattle.laws.proofs.Tests.{yes_no, clash, same_or_not, and_false, less_one, set_here, set_apart, set_by, inside}
use Rattle.laws.proofs.Steps.{is_sender, awake, waits_at, view, waiting_of, waiting, SameFace, SameFaces, Behind, goes, sweeps, rests, joins, told}
use Rattle.laws.proofs.Steps.{Outcome, nothing, heard, stops, calls}
use Rattle.laws.proofs.Sweeping.{unbound, AfterSweep, lost, untouched, slots_go, waits_go, goes_calm, goes_waiting, goes_woken, swept_at}
use Rattle.laws.proofs.Moves.{alike_set, hands_over}

or_false : (c : Bool) → (c || false) ≡ c
or_false true = refl
or_false false = refl

or_true : (c : Bool) → (c || true) ≡ true
or_true true = refl
or_true false = refl

eqb_apart : (a b : ℕ) → (a ≡ b → ⊥) → eqb (suc a) (suc b) ≡ false
eqb_apart a b h = eqb-suc-suc a b ∙ ne_eqb a b h

-- all came for the same
unfoldable pub AllAs : Wait → List Wait → Type 0
AllAs x [] = Unit {0}
AllAs x (y ∷ ws) = (is_sender y ≡ is_sender x) × AllAs x ws

unfoldable pub OneSide : List Wait → Type 0
OneSide [] = Unit {0}
OneSide (x ∷ ws) = AllAs x ws

module _ (Cpu : Type 0) (fresh : ℕ → Cpu) (act : Cpu → (ℕ → ℕ) → Act Cpu) where
  abbrev obj : World Cpu → ℕ → Object Cpu
  obj = object Cpu fresh act

  -- who waits at port o, their threads, and at which port thread t waits (its number + 1)
  abbrev pub row : World Cpu → ℕ → List Wait
  row w o = row_of Cpu fresh act (object Cpu fresh act w o)

  abbrev pub names : List Wait → List ℕ
  names ws = waiters Cpu fresh act ws

  abbrev pub where_at : World Cpu → ℕ → ℕ
  where_at w t = waits_at Cpu fresh act (object Cpu fresh act w t)

  pub record Orderly (w : World Cpu) : Type 0 where
    pub tells : (o t : ℕ) → among t (names (row w o)) ≡ eqb (where_at w t) (suc o)
    pub once : (o : ℕ) → NoTwice Cpu fresh act (names (row w o))
    pub sides : (o : ℕ) → OneSide (row w o)

  -- nothing changes
  orderly_alike : {w v : World Cpu} → SameFaces Cpu fresh act w v → Orderly w → Orderly v
  orderly_alike {w} {v} a q =
      record {
        tells = λ o t. ap (λ (ws : List Wait). among t (names ws)) (a o).rows ∙ q.tells o t ∙ ap (λ (n : ℕ). eqb n (suc o)) (sym (a t).ports);
        once = λ o. subst (λ (ws : List Wait). NoTwice Cpu fresh act (names ws)) (sym (a o).rows) (q.once o);
        sides = λ o. subst OneSide (sym (a o).rows) (q.sides o);
      }

  -- a thread in another state
  row_state : (x : Object Cpu) (s : State Cpu) (c : Cpu) → row_of Cpu fresh act (set_state Cpu fresh act x s c) ≡ row_of Cpu fresh act x
  unfolding row_of set_state
  row_state gone s c = refl
  row_state (pool f n u) s c = refl
  row_state (table f ss) s c = refl
  row_state (port f ws) s c = refl
  row_state (page f bs) s c = refl
  row_state (thread f q d t ps rs) s c = refl
  row_state (line xs ys) s c = refl

  at_stopped : (x : Object Cpu) (c : Cpu) → waits_at Cpu fresh act (set_state Cpu fresh act x stopped c) ≡ 0
  unfolding waits_at set_state
  at_stopped gone c = refl
  at_stopped (pool f n u) c = refl
  at_stopped (table f ss) c = refl
  at_stopped (port f ws) c = refl
  at_stopped (page f bs) c = refl
  at_stopped (thread f q d t ps rs) c = refl
  at_stopped (line xs ys) c = refl

  at_ready : (x : Object Cpu) (c : Cpu) → waits_at Cpu fresh act (set_state Cpu fresh act x ready c) ≡ 0
  unfolding waits_at set_state
  at_ready gone c = refl
  at_ready (pool f n u) c = refl
  at_ready (table f ss) c = refl
  at_ready (port f ws) c = refl
  at_ready (page f bs) c = refl
  at_ready (thread f q d t ps rs) c = refl
  at_ready (line xs ys) c = refl

  -- who waits at no port doesn't wait
  awake_at : (x : Object Cpu) → waits_at Cpu fresh act x ≡ 0 → waiting Cpu fresh act x ≡ awake
  unfolding waits_at view waiting_of
  awake_at gone h = refl
  awake_at (pool f n u) h = refl
  awake_at (table f ss) h = refl
  awake_at (port f ws) h = refl
  awake_at (page f bs) h = refl
  awake_at (thread f stopped d t ps rs) h = refl
  awake_at (thread f ready d t ps rs) h = refl
  awake_at (thread f (waits o then) d t ps rs) h = absurd (omega arith)
  awake_at (line xs ys) h = refl

  pub all_ready : (w : World Cpu) (p : ℕ) (c : Cpu) → where_at w p ≡ 0 → SameFaces Cpu fresh act w (with_object Cpu fresh act w p (set_state Cpu fresh act (obj w p) ready c))
  all_ready w p c h = alike_set Cpu fresh act w p (obj w p) _ refl (record { rows = row_state (obj w p) ready c; ports = at_ready (obj w p) c ∙ sym h; goes_on = awake_at _ (at_ready (obj w p) c) ∙ sym (awake_at (obj w p) h) })

  pub all_stopped : (w : World Cpu) (p : ℕ) (c : Cpu) → where_at w p ≡ 0 → SameFaces Cpu fresh act w (with_object Cpu fresh act w p (set_state Cpu fresh act (obj w p) stopped c))
  all_stopped w p c h = alike_set Cpu fresh act w p (obj w p) _ refl (record { rows = row_state (obj w p) stopped c; ports = at_stopped (obj w p) c ∙ sym h; goes_on = awake_at _ (at_stopped (obj w p) c) ∙ sym (awake_at (obj w p) h) })

  -- a sweep: what it makes of a row, and of who waits
  not_port : (x : Object Cpu) → ((f : ℕ) (ws : List Wait) → x ≡ port f ws → ⊥) → row_of Cpu fresh act x ≡ []
  unfolding row_of
  not_port gone h = refl
  not_port (pool f n u) h = refl
  not_port (table f ss) h = refl
  not_port (port f ws) h = absurd (h f ws refl)
  not_port (page f bs) h = refl
  not_port (thread f s c t ps rs) h = refl
  not_port (line xs ys) h = refl

  not_thread : (x : Object Cpu) → ((f t : ℕ) (s : State Cpu) (c : Cpu) (ps : List ℕ) (rs : List Bool) → x ≡ thread f s c t ps rs → ⊥) → waits_at Cpu fresh act x ≡ 0
  unfolding waits_at
  not_thread gone h = refl
  not_thread (pool f n u) h = refl
  not_thread (table f ss) h = refl
  not_thread (port f ws) h = refl
  not_thread (page f bs) h = refl
  not_thread (thread f s c t ps rs) h = absurd (h f t s c ps rs refl)
  not_thread (line xs ys) h = refl

  not_waiting : (s : State Cpu) → ((o : ℕ) (then : List ℕ → Cpu) → s ≡ waits o then → ⊥) → (f t : ℕ) (c : Cpu) (ps : List ℕ) (rs : List Bool) → waits_at Cpu fresh act (thread f s c t ps rs) ≡ 0
  unfolding waits_at
  not_waiting stopped h f t c ps rs = refl
  not_waiting ready h f t c ps rs = refl
  not_waiting (waits o then) h f t c ps rs = absurd (h o then refl)

  pub swept_row : {ids os : List ℕ} {u : ℕ} {x y : Object Cpu} → AfterSweep Cpu fresh act ids os u x y → row_of Cpu fresh act y ≡ pick (among u os) [] (without_threads Cpu fresh act os (row_of Cpu fresh act x))
  unfolding row_of without_threads
  swept_row (lost h) = rw h refl
  swept_row (untouched {x} h a b c) = rw (h, not_port x b) refl
  swept_row (slots_go ss h) = rw h refl
  swept_row (waits_go ws h) = rw h refl
  swept_row (goes_calm t ps h n) = rw h refl
  swept_row (goes_waiting t ps h n) = rw h refl
  swept_row (goes_woken o then t ps h n) = rw h refl

  swept_waits : {ids os : List ℕ} {u : ℕ} {x y : Object Cpu} → AfterSweep Cpu fresh act ids os u x y → waits_at Cpu fresh act y ≡ pick (among u os) 0 (unbound Cpu fresh act os (waits_at Cpu fresh act x))
  unfolding waits_at
  swept_waits (lost h) = rw h refl
  swept_waits (untouched {x} h a b c) = rw (h, not_thread x c) refl
  swept_waits (slots_go ss h) = rw h refl
  swept_waits (waits_go ws h) = rw h refl
  swept_waits (goes_calm {f} {s} {c} {rs} t ps h n) = rw (h, not_waiting s n f t c ps rs, not_waiting s n f _ c _ rs) refl
  swept_waits (goes_waiting {o} t ps h n) = rw (h, eqb-suc-zero o, less_one o, n) refl
  swept_waits (goes_woken o then t ps h n) = rw (h, eqb-suc-zero o, less_one o, n) refl

  among_without : (os : List ℕ) (ws : List Wait) (t : ℕ) → among t (names (without_threads Cpu fresh act os ws)) ≡ (not (among t os) && among t (names ws))
  unfolding without_threads waiters among
  among_without os [] t = sym (and_false (not (among t os)))
  among_without os (x ∷ ws) t = go (among (waits_thread Cpu fresh act x) os) refl (among_without os ws t)
    where
      n : ℕ
      n = waits_thread Cpu fresh act x

      go : (c : Bool) → among n os ≡ c → among t (names (without_threads Cpu fresh act os ws)) ≡ (not (among t os) && among t (names ws)) →
          among t (names (pick c (without_threads Cpu fresh act os ws) (x ∷ without_threads Cpu fresh act os ws))) ≡ (not (among t os) && (eqb t n || among t (names ws)))
      go true h r = same_or_not t n (λ e. r ∙ rw (e, h) refl) (λ e. r ∙ rw (ne_eqb t n e) refl)
      go false h r = same_or_not t n (λ e. rw (eq-eqb t n e, ap (λ (i : ℕ). among i os) e ∙ h) refl) (λ e. rw (ne_eqb t n e) r)

  once_without : (os : List ℕ) (ws : List Wait) → NoTwice Cpu fresh act (names ws) → NoTwice Cpu fresh act (names (without_threads Cpu fresh act os ws))
  unfolding without_threads waiters NoTwice
  once_without os [] h = tt
  once_without os (x ∷ ws) (h, r) = go (among (waits_thread Cpu fresh act x) os) (once_without os ws r)
    where
      go : (c : Bool) → NoTwice Cpu fresh act (names (without_threads Cpu fresh act os ws)) → NoTwice Cpu fresh act (names (pick c (without_threads Cpu fresh act os ws) (x ∷ without_threads Cpu fresh act os ws)))
      go true i = i
      go false i = (among_without os ws (waits_thread Cpu fresh act x) ∙ ap (λ (c : Bool). not (among (waits_thread Cpu fresh act x) os) && c) h ∙ and_false _, i)

  as_without : (os : List ℕ) (x : Wait) (ws : List Wait) → AllAs x ws → AllAs x (without_threads Cpu fresh act os ws)
  unfolding without_threads AllAs
  as_without os x [] h = tt
  as_without os x (y ∷ ws) (h, r) = go (among (waits_thread Cpu fresh act y) os) (as_without os x ws r)
    where
      go : (c : Bool) → AllAs x (without_threads Cpu fresh act os ws) → AllAs x (pick c (without_threads Cpu fresh act os ws) (y ∷ without_threads Cpu fresh act os ws))
      go true i = i
      go false i = (h, i)

  as_one_side : (x : Wait) (ws : List Wait) → AllAs x ws → OneSide ws
  unfolding AllAs OneSide
  as_one_side x [] h = tt
  as_one_side x (y ∷ ws) (h, r) = over y ws h r
    where
      over : (y : Wait) (ws : List Wait) → is_sender y ≡ is_sender x → AllAs x ws → AllAs y ws
      over y [] h r = tt
      over y (z ∷ ws) h (g, r) = (g ∙ sym h, over y ws h r)

  side_without : (os : List ℕ) (ws : List Wait) → OneSide ws → OneSide (without_threads Cpu fresh act os ws)
  unfolding without_threads OneSide
  side_without os [] h = tt
  side_without os (x ∷ ws) h = go (among (waits_thread Cpu fresh act x) os)
    where
      go : (c : Bool) → OneSide (pick c (without_threads Cpu fresh act os ws) (x ∷ without_threads Cpu fresh act os ws))
      go true = as_one_side x _ (as_without os x ws h)
      go false = as_without os x ws h

  unbound_tells : (os : List ℕ) (n o : ℕ) → eqb (unbound Cpu fresh act os n) (suc o) ≡ (not (among o os) && eqb n (suc o))
  unbound_tells os zero o = rw (eqb-zero-suc o) (sym (and_false (not (among o os))))
  unbound_tells os (suc v) o = rw (eqb-suc-zero v, less_one v, eqb-suc-suc v o) (go (among v os) refl)
    where
      go : (c : Bool) → among v os ≡ c → eqb (pick c 0 (suc v)) (suc o) ≡ (not (among o os) && eqb v o)
      go true h = same_or_not v o (λ e. rw (eqb-zero-suc o, ← e, h) refl) (λ e. rw (eqb-zero-suc o, ne_eqb v o e) (sym (and_false (not (among o os)))))
      go false h = rw (eqb-suc-suc v o) (same_or_not v o (λ e. rw (← e, h) refl) (λ e. rw (ne_eqb v o e) (sym (and_false (not (among o os))))))

  orderly_sweep : (w : World Cpu) (ids os : List ℕ) → Orderly w → Orderly (cleared Cpu fresh act w ids os)
  unfolding among waiters NoTwice OneSide
  orderly_sweep w ids os q =
      record {
        tells = λ o t. ap (λ (ws : List Wait). among t (names ws)) (swept_row (swept_at Cpu fresh act w ids os o)) ∙ both o t (among o os) (among t os) refl refl ∙ ap (λ (n : ℕ). eqb n (suc o)) (sym (swept_waits (swept_at Cpu fresh act w ids os t)));
        once = λ o. subst (λ (ws : List Wait). NoTwice Cpu fresh act (names ws)) (sym (swept_row (swept_at Cpu fresh act w ids os o))) (once_pick _ (among o os) (once_without os _ (q.once o)));
        sides = λ o. subst OneSide (sym (swept_row (swept_at Cpu fresh act w ids os o))) (side_pick _ (among o os) (side_without os _ (q.sides o)));
      }
    where
      both : (o t : ℕ) (c d : Bool) → among o os ≡ c → among t os ≡ d → among t (names (pick (among o os) [] (without_threads Cpu fresh act os (row w o)))) ≡ eqb (pick (among t os) 0 (unbound Cpu fresh act os (where_at w t))) (suc o)
      both o t true true h i = rw (h, i, eqb-zero-suc o) refl
      both o t true false h i = rw (h, i, unbound_tells os (where_at w t) o, h) refl
      both o t false true h i = rw (h, i, among_without os (row w o) t, i, eqb-zero-suc o) refl
      both o t false false h i = rw (h, i, among_without os (row w o) t, i, q.tells o t, unbound_tells os (where_at w t) o, h) refl

      once_pick : (ws : List Wait) (c : Bool) → NoTwice Cpu fresh act (names ws) → NoTwice Cpu fresh act (names (pick c [] ws))
      once_pick ws true h = tt
      once_pick ws false h = h

      side_pick : (ws : List Wait) (c : Bool) → OneSide ws → OneSide (pick c [] ws)
      side_pick ws true h = tt
      side_pick ws false h = h

  -- the row of port o is another, and thread t waits elsewhere or not at all; all else is as it was
  pub record Changed (w v : World Cpu) (o t : ℕ) (ws : List Wait) (n : ℕ) : Type 0 where
    pub here : row v o ≡ ws
    pub elsewhere : (u : ℕ) → (u ≡ o → ⊥) → row v u ≡ row w u
    pub its : where_at v t ≡ n
    pub others : (u : ℕ) → (u ≡ t → ⊥) → where_at v u ≡ where_at w u

  -- somebody comes last
  orderly_rests : {w v : World Cpu} (o p : ℕ) (x : Wait) → Changed w v o p (row w o ++ x ∷ []) (suc o) → waits_thread Cpu fresh act x ≡ p → where_at w p ≡ 0 → Behind Cpu fresh act x (row w o) → Orderly w → Orderly v
  unfolding Behind among waiters NoTwice AllAs OneSide
  orderly_rests {w} {v} o p x c e z b q = record { tells = tells; once = onces; sides = side }
    where
      absent : (k : ℕ) → among p (names (row w k)) ≡ false
      absent k = q.tells k p ∙ ap (λ (n : ℕ). eqb n (suc k)) z ∙ eqb-zero-suc k

      among_last : (ws : List Wait) (t : ℕ) → among t (names (ws ++ x ∷ [])) ≡ (among t (names ws) || eqb t p)
      among_last ws t = last ws
        where
          last : (ws : List Wait) → among t (names (ws ++ x ∷ [])) ≡ (among t (names ws) || eqb t p)
          last [] = or_false (eqb t (waits_thread Cpu fresh act x)) ∙ ap (λ (n : ℕ). eqb t n) e
          last (y ∷ ws) = ap (λ (d : Bool). eqb t (waits_thread Cpu fresh act y) || d) (last ws) ∙ swap (eqb t (waits_thread Cpu fresh act y)) (among t (names ws)) (eqb t p)
            where
              swap : (a b d : Bool) → (a || (b || d)) ≡ ((a || b) || d)
              swap true b d = refl
              swap false b d = refl

      tells : (k t : ℕ) → among t (names (row v k)) ≡ eqb (where_at v t) (suc k)
      tells k t =
          same_or_not k o
          (λ ek. same_or_not t p
          (λ et. rw (ek, et, c.here, c.its, among_last (row w o) p, eq-eqb p p refl, eq-eqb (suc o) (suc o) refl) (or_true _))
          (λ nt. rw (ek, c.here, c.others t nt, among_last (row w o) t, ne_eqb t p nt, or_false (among t (names (row w o)))) (q.tells o t)))
          (λ nk. same_or_not t p
          (λ et. rw (et, c.elsewhere k nk, c.its) (absent k ∙ sym (eqb_apart o k (λ g. nk (sym g)))))
          (λ nt. rw (c.elsewhere k nk, c.others t nt) (q.tells k t)))

      once_last : (ws : List Wait) → among p (names ws) ≡ false → NoTwice Cpu fresh act (names ws) → NoTwice Cpu fresh act (names (ws ++ x ∷ []))
      once_last [] h i = (refl, tt)
      once_last (y ∷ ws) h (i, j) =
          (among_last ws (waits_thread Cpu fresh act y) ∙ rw (i, ne_eqb (waits_thread Cpu fresh act y) p (λ g. yes_no (sym (eq-eqb p (waits_thread Cpu fresh act y) (sym g)) ∙ or_l _ _ h))) refl, once_last ws (or_r _ _ h) j)
        where
          or_l : (a b : Bool) → (a || b) ≡ false → a ≡ false
          or_l true b g = g
          or_l false b g = refl

          or_r : (a b : Bool) → (a || b) ≡ false → b ≡ false
          or_r true b g = yes_no g
          or_r false b g = g

      onces : (k : ℕ) → NoTwice Cpu fresh act (names (row v k))
      onces k =
          same_or_not k o (λ ek. rw (ek, c.here) (once_last (row w o) (absent o) (q.once o))) (λ nk. rw (c.elsewhere k nk) (q.once k))

      as_last : (y : Wait) (ws : List Wait) → is_sender x ≡ is_sender y → AllAs y ws → AllAs y (ws ++ x ∷ [])
      as_last y [] h i = (h, tt)
      as_last y (z ∷ ws) h (i, j) = (i, as_last y ws h j)

      side_last : (ws : List Wait) → Behind Cpu fresh act x ws → OneSide ws → OneSide (ws ++ x ∷ [])
      side_last [] h i = tt
      side_last (y ∷ ws) h i = as_last y ws h i

      side : (k : ℕ) → OneSide (row v k)
      side k = same_or_not k o (λ ek. rw (ek, c.here) (side_last (row w o) b (q.sides o))) (λ nk. rw (c.elsewhere k nk) (q.sides k))

  -- the first goes
  orderly_joins : {w v : World Cpu} (o : ℕ) (y : Wait) (ws : List Wait) → row w o ≡ y ∷ ws → Changed w v o (waits_thread Cpu fresh act y) ws 0 → Orderly w → Orderly v
  unfolding waiters NoTwice among OneSide
  orderly_joins {w} {v} o y ws e c q = record { tells = tells; once = onces; sides = side }
    where
      t₀ : ℕ
      t₀ = waits_thread Cpu fresh act y

      told : (t : ℕ) → (eqb t t₀ || among t (names ws)) ≡ eqb (where_at w t) (suc o)
      told t = ap (λ (vs : List Wait). among t (names vs)) (sym e) ∙ q.tells o t

      apart : (among t₀ (names ws) ≡ false) × NoTwice Cpu fresh act (names ws)
      apart = subst (λ (vs : List Wait). NoTwice Cpu fresh act (names vs)) e (q.once o)

      at_o : where_at w t₀ ≡ suc o
      at_o = eqb-true (where_at w t₀) (suc o) (sym (told t₀) ∙ ap (λ (d : Bool). d || among t₀ (names ws)) (eq-eqb t₀ t₀ refl))

      tells : (k t : ℕ) → among t (names (row v k)) ≡ eqb (where_at v t) (suc k)
      tells k t =
          same_or_not k o
          (λ ek. same_or_not t t₀
          (λ et. rw (ek, et, c.here, c.its, eqb-zero-suc o) apart.0)
          (λ nt. rw (ek, c.here, c.others t nt) (ap (λ (d : Bool). d || among t (names ws)) (sym (ne_eqb t t₀ nt)) ∙ told t)))
          (λ nk. same_or_not t t₀
          (λ et. rw (et, c.elsewhere k nk, c.its, eqb-zero-suc k) (q.tells k t₀ ∙ ap (λ (n : ℕ). eqb n (suc k)) at_o ∙ eqb_apart o k (λ g. nk (sym g))))
          (λ nt. rw (c.elsewhere k nk, c.others t nt) (q.tells k t)))

      onces : (k : ℕ) → NoTwice Cpu fresh act (names (row v k))
      onces k = same_or_not k o (λ ek. rw (ek, c.here) apart.1) (λ nk. rw (c.elsewhere k nk) (q.once k))

      side : (k : ℕ) → OneSide (row v k)
      side k = same_or_not k o (λ ek. rw (ek, c.here) (as_one_side y ws (subst OneSide e (q.sides o)))) (λ nk. rw (c.elsewhere k nk) (q.sides k))

  -- one object put in place of another
  pub put_here : (w : World Cpu) (o : ℕ) (y : Object Cpu) → (obj w o ≡ gone → ⊥) → obj (with_object Cpu fresh act w o y) o ≡ y
  unfolding object with_object
  put_here w o y h = set_here w.objects o y gone (inside w.objects o gone h)

  pub put_else : (w : World Cpu) (o u : ℕ) (y : Object Cpu) → (o ≡ u → ⊥) → obj (with_object Cpu fresh act w o y) u ≡ obj w u
  unfolding object with_object
  put_else w o u y h = set_apart w.objects o u y gone h

  pub rows_stay : (w : World Cpu) (p u : ℕ) (s : State Cpu) (c : Cpu) → row (with_object Cpu fresh act w p (set_state Cpu fresh act (obj w p) s c)) u ≡ row w u
  unfolding object with_object
  rows_stay w p u s c =
      set_by (λ (y : Object Cpu). row_of Cpu fresh act y ≡ row_of Cpu fresh act (get_or w.objects u gone)) w.objects p u _ gone
      (λ e. row_state (get_or w.objects p gone) s c ∙ ap (λ (i : ℕ). row_of Cpu fresh act (get_or w.objects i gone)) e) refl

  pub changed_rests : (w : World Cpu) (o f p g a : ℕ) (ws : List Wait) (x : Wait) (c : Cpu) (ps : List ℕ) (rs : List Bool) (then : List ℕ → Cpu) → obj w o ≡ port f ws → obj w p ≡ thread g ready c a ps rs →
      Changed w (went_on Cpu fresh act w p then (wait (with_object Cpu fresh act w o (port f (ws ++ x ∷ []))) o)) o p (row w o ++ x ∷ []) (suc o)
  unfolding went_on row_of waits_at set_state
  changed_rests w o f p g a ws x c ps rs then e r =
      record {
        here = rows_stay A p o _ _ ∙ ap (row_of Cpu fresh act) A-o ∙ ap (λ (vs : List Wait). vs ++ x ∷ []) (sym (ap (row_of Cpu fresh act) e));
        elsewhere = λ u n. rows_stay A p u _ _ ∙ ap (row_of Cpu fresh act) (put_else w o u _ (λ q. n (sym q)));
        its = ap (waits_at Cpu fresh act) (put_here A p _ (λ q. let h = A-p in clash (cc)) ∙ ap (λ (y : Object Cpu). set_state Cpu fresh act y (waits o then) (fresh 0)) A-p);
        others = λ u n. ap (waits_at Cpu fresh act) (put_else A p u _ (λ q. n (sym q))) ∙ at_a u;
      }
    where
      A : World Cpu
      A = with_object Cpu fresh act w o (port f (ws ++ x ∷ []))

      A-o : obj A o ≡ port f (ws ++ x ∷ [])
      A-o = put_here w o _ (λ q. clash (cc))

      A-p : obj A p ≡ thread g ready c a ps rs
      A-p = put_else w o p _ (λ q. let h : obj w p ≡ port f ws = ap (λ (i : ℕ). obj w i) (sym q) ∙ e in clash (cc)) ∙ r

      at_a : (u : ℕ) → where_at A u ≡ where_at w u
      at_a u = same_or_not o u (λ q. ap (waits_at Cpu fresh act) (ap (λ (i : ℕ). obj A i) (sym q) ∙ A-o) ∙ sym (ap (waits_at Cpu fresh act) (ap (λ (i : ℕ). obj w i) (sym q) ∙ e))) (λ n. ap (waits_at Cpu fresh act) (put_else w o u _ n))

  pub changed_joins : (w : World Cpu) (o f p g k : ℕ) (q : List Wait) (x y : Wait) (h : Bool) (a s b d : ℕ) (c : Cpu) (ps : List ℕ) (rs : List Bool) (then : List ℕ → Cpu) →
      obj w o ≡ port f (y ∷ q) → obj w p ≡ thread g ready c k ps rs → where_at w (waits_thread Cpu fresh act y) ≡ suc o →
      Changed w (went_on Cpu fresh act w p then (on (resumed Cpu fresh act (handed Cpu fresh act (with_object Cpu fresh act w o (port f q)) h a s b d) (waits_thread Cpu fresh act y) (told y x)) (told x y))) o (waits_thread Cpu fresh act y) q 0
  unfolding went_on resumed row_of waits_at
  changed_joins w o f p g k q x y h a s b d c ps rs then e r m =
      record {
        here = (all_v o).rows ∙ rows_stay B t o ready _ ∙ (ab o).rows ∙ ap (row_of Cpu fresh act) A-o;
        elsewhere = λ u n. (all_v u).rows ∙ rows_stay B t u ready _ ∙ (ab u).rows ∙ ap (row_of Cpu fresh act) (put_else w o u _ (λ i. n (sym i)));
        its = (all_v t).ports ∙ ap (waits_at Cpu fresh act) (put_here B t _ (λ i. let j : 0 ≡ suc o = sym (ap (waits_at Cpu fresh act) i) ∙ at_b t ∙ m in omega arith)) ∙ at_ready (obj B t) _;
        others = λ u n. (all_v u).ports ∙ at_c u n;
      }
    where
      t : ℕ
      t = waits_thread Cpu fresh act y

      A : World Cpu
      A = with_object Cpu fresh act w o (port f q)

      B : World Cpu
      B = handed Cpu fresh act A h a s b d

      C : World Cpu
      C = resumed Cpu fresh act B t (told y x)

      ab : (u : ℕ) → SameFace Cpu fresh act (obj B u) (obj A u)
      ab = (hands_over Cpu fresh act A h a s b d).1

      A-o : obj A o ≡ port f q
      A-o = put_here w o _ (λ i. clash (cc))

      at_a : (u : ℕ) → where_at A u ≡ where_at w u
      at_a u = same_or_not o u (λ i. ap (waits_at Cpu fresh act) (ap (λ (j : ℕ). obj A j) (sym i) ∙ A-o) ∙ sym (ap (waits_at Cpu fresh act) (ap (λ (j : ℕ). obj w j) (sym i) ∙ e))) (λ n. ap (waits_at Cpu fresh act) (put_else w o u _ n))

      at_b : (u : ℕ) → where_at B u ≡ where_at w u
      at_b u = (ab u).ports ∙ at_a u

      at_c : (u : ℕ) → (u ≡ t → ⊥) → where_at C u ≡ where_at w u
      at_c u n = ap (waits_at Cpu fresh act) (put_else B t u _ (λ i. n (sym i))) ∙ at_b u

      p_calm : where_at w p ≡ 0
      p_calm = ap (waits_at Cpu fresh act) r

      all_v : SameFaces Cpu fresh act C (with_object Cpu fresh act C p (set_state Cpu fresh act (obj C p) ready (then (told x y))))
      all_v = all_ready C p (then (told x y)) (at_c p (λ i. let j : 0 ≡ suc o = sym p_calm ∙ ap (λ (u : ℕ). where_at w u) i ∙ m in omega arith) ∙ p_calm)

  -- whoever is first in a row waits there
  pub first_waits : {w : World Cpu} → Orderly w → (o f : ℕ) (y : Wait) (q : List Wait) → obj w o ≡ port f (y ∷ q) → where_at w (waits_thread Cpu fresh act y) ≡ suc o
  unfolding row_of waiters among
  first_waits {w} i o f y q e =
      let t = waits_thread Cpu fresh act y in
      eqb-true (where_at w t) (suc o) (sym (i.tells o t) ∙ ap (λ (x : Object Cpu). among t (names (row_of Cpu fresh act x))) e ∙ ap (λ (d : Bool). d || among t (names q)) (eq-eqb t t refl))

  pub at_ready_thread : (w : World Cpu) (p f a : ℕ) (c : Cpu) (ps : List ℕ) (rs : List Bool) → obj w p ≡ thread f ready c a ps rs → where_at w p ≡ 0
  unfolding waits_at
  at_ready_thread w p f a c ps rs e = ap (waits_at Cpu fresh act) e

  -- once swept, a ready thread still doesn't wait
  still_ready : (w : World Cpu) (ids os : List ℕ) (p : ℕ) → where_at w p ≡ 0 → where_at (cleared Cpu fresh act w ids os) p ≡ 0
  still_ready w ids os p h = swept_waits (swept_at Cpu fresh act w ids os p) ∙ ap (λ (n : ℕ). pick (among p os) 0 (unbound Cpu fresh act os n)) h ∙ same (among p os)
    where
      same : (c : Bool) → ◌≡◌ {A = ℕ} (pick c 0 0) 0
      same true = refl
      same false = refl

  -- every event
  pub orderly_event : {w v : World Cpu} {ns : List Note} → Kinds Cpu fresh act w → Outcome Cpu fresh act w ns v → Orderly w → Orderly v
  unfolding went_on row_of waits_at view waiting_of
  orderly_event k nothing i = i
  orderly_event {w} k (heard o {xs} {ys} zs e) i = orderly_alike (alike_set Cpu fresh act w o (line xs ys) (line xs zs) e (record { rows = refl; ports = refl; goes_on = refl })) i
  orderly_event {w} k (stops p {f} {a} {c} {ps} {rs} e) i = orderly_alike (all_stopped w p (fresh 0) (at_ready_thread w p f a c ps rs e)) i
  orderly_event {w} k (calls p {f} {a} {c} {ps} {rs} then e (goes {v} ws s al)) i =
      let b = al k in orderly_alike (all_ready v p (then ws) ((b p).ports ∙ at_ready_thread w p f a c ps rs e)) (orderly_alike b i)
  orderly_event {w} k (calls p {f} {a} {c} {ps} {rs} then e (sweeps {v} ws ids os s al se ac ag)) i =
      orderly_alike (all_ready v p (then ws) ((al p).ports ∙ still_ready w ids os p (at_ready_thread w p f a c ps rs e))) (orderly_alike al (orderly_sweep w ids os i))
  orderly_event {w} k (calls p {f} {a} {c} {ps} {rs} then e (rests {o} {f = g} {ws} x s at t b)) i =
      orderly_rests o p x (changed_rests w o g p f a ws x c ps rs then at e) t (at_ready_thread w p f a c ps rs e) (subst (Behind Cpu fresh act x) (sym (ap (row_of Cpu fresh act) at)) b) i
  orderly_event {w} k (calls p {f} {a} {c} {ps} {rs} then e (joins o {f = g} {q} x y h u l b d s at t n)) i =
      orderly_joins o y q (ap (row_of Cpu fresh act) at) (changed_joins w o g p f a q x y h u l b d c ps rs then at e (first_waits i o g y q at)) i
