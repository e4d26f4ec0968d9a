-- What is said is what lines show: no call but say changes what a line shows, and say adds the byte that is said.
use mathlib.Core.Path.{◌≡◌, refl, sym, ap, ◌∙◌}
use mathlib.Core.Bool.{Bool, true, false, ◌&&◌, ◌||◌, not}
use mathlib.Core.List.{List, [], ◌∷◌, ◌++◌}
use Prim.Native.Nat.{ℕ, zero, suc, ◌+◌, ◌-◌, ◌/◌, ◌%◌, ◌<◌}
use lib.Dec.{ltb, eqb}
use borrow.Author.Tests.{eq-eqb, ne_eqb}
use lib.ListN.{length, get_or, set}
use Rattle.std.specs.Prelude.{Some, None, Option}
use Rattle.std.proofs.Common.{append_assoc}
use Rattle.std.proofs.lemmas.List.{append-nil}
use Rattle.rights.specs.declared.said.Said.{Said}
use Rattle.rights.specs.World.{pick, Slot, empty, Kind, a_pool, a_table, a_port, a_page, Call, cut, copy, move, drop_it, revoke, send, receive, map, unmap, bind, go, say, hear}
use Rattle.rights.specs.World.{Act, quiet, store, call, wrong, Wait, sender, receiver, State, stopped, ready, waits, Object, gone, pool, table, port, page, thread, line, Sizes, World, Event, tick, byte}
use Rattle.rights.specs.World.{over, cost, step_of, up_to, too_many, object, with_object, from_of, among, with_slots, with_slot, cleared, refilled, Went, on, wait, refuse, made, is_pool, is_page, is_table, set_state, resumed, handed}
use Rattle.rights.specs.World.{cutting, revoking, sending, receiving, mapping, unmapping, binding, going, saying, hearing, does, bytes_of, from_page, seen, stores, may_store, went_on, acts, ticked, comes_in, event, run, shown_by}
use Rattle.rights.specs.Promise.{Kinds}
use Rattle.rights.specs.Said.{with_first, said_on, at_line, call_says, act_says, tick_says, event_says, said, SaidIsShownIn, SaidIsShown}
use Rattle.laws.proofs.Tests.{no_yes, pick_both, pick_know, same_or_not, and_left, less_one, set_here, set_apart, set_by, push_by, inside, clash}
use Rattle.laws.proofs.Forms.{by_pool, by_port, by_thread, by_line, cutting_is, sending_is, receiving_is, mapping_is, unmapping_is, binding_is, going_is, hearing_is, comes_in_is}
use Rattle.laws.proofs.Steps.{AllCut}
use Rattle.laws.proofs.Sweeping.{AfterSweep, lost, untouched, slots_go, waits_go, goes_calm, goes_waiting, goes_woken, swept_at}
use Rattle.laws.proofs.Moves.{cut_none, cut_cuttings}
use Rattle.laws.proofs.Places.{kinds_event}

-- what object u shows once something was said, where it showed xs
unfoldable after : ℕ → Option Said → List ℕ → List ℕ
after u None xs = xs
after u (Some x) xs = pick (eqb x.line u) (xs ++ x.byte ∷ []) xs

after_all : (u : ℕ) (s : Option Said) (xs : List ℕ) (rest : List Said) → after u s xs ++ said_on u rest ≡ xs ++ said_on u (with_first s rest)
unfolding after with_first said_on
after_all u None xs rest = refl
after_all u (Some x) xs rest = go (eqb x.line u)
  where
    go : (t : Bool) → pick t (xs ++ x.byte ∷ []) xs ++ said_on u rest ≡ xs ++ pick t (x.byte ∷ said_on u rest) (said_on u rest)
    go true = append_assoc xs (x.byte ∷ []) (said_on u rest)
    go false = refl

module _ (Cpu : Type 0) (fresh : ℕ → Cpu) (act : Cpu → (ℕ → ℕ) → Act Cpu) where
  abbrev obj : World Cpu → ℕ → Object Cpu
  obj = object Cpu fresh act

  abbrev shown : Object Cpu → List ℕ
  shown = shown_by Cpu fresh act

  -- v shows what w showed, and what was said
  record Adds (s : Option Said) (w v : World Cpu) : Type 0 where
    told : (u : ℕ) → shown (obj v u) ≡ after u s (shown (obj w u))

  adds_none : (w : World Cpu) → Adds None w w
  unfolding after
  adds_none w = record { told = λ u. refl }

  then_none : {s : Option Said} {w v u : World Cpu} → Adds s w v → Adds None v u → Adds s w u
  unfolding after
  then_none a b = record { told = λ u. b.told u ∙ a.told u }

  -- an object in place of another
  adds_set : (w : World Cpu) (o : ℕ) (x y : Object Cpu) → obj w o ≡ x → shown y ≡ shown x → Adds None w (with_object Cpu fresh act w o y)
  unfolding with_object object after
  adds_set w o x y e h =
      record { told = λ u. set_by (λ (k : Object Cpu). shown k ≡ shown (get_or w.objects u gone)) w.objects o u y gone (λ q. h ∙ ap shown (sym e ∙ ap (λ (i : ℕ). get_or w.objects i gone) q)) refl }

  shown_state : (x : Object Cpu) (s : State Cpu) (c : Cpu) → shown (set_state Cpu fresh act x s c) ≡ shown x
  unfolding set_state shown_by
  shown_state gone s c = refl
  shown_state (pool f n u) s c = refl
  shown_state (table f ss) s c = refl
  shown_state (port f ws) s c = refl
  shown_state (page f bs) s c = refl
  shown_state (thread f q d t ps rs) s c = refl
  shown_state (line xs ys) s c = refl

  shown_slots : (x : Object Cpu) (ss : List Slot) → shown (with_slots Cpu fresh act x ss) ≡ shown x
  unfolding with_slots shown_by
  shown_slots gone ss = refl
  shown_slots (pool f n u) ss = refl
  shown_slots (table f qs) ss = refl
  shown_slots (port f ws) ss = refl
  shown_slots (page f bs) ss = refl
  shown_slots (thread f q c t ps rs) ss = refl
  shown_slots (line xs ys) ss = refl

  shown_refilled : (x : Object Cpu) → shown (refilled Cpu fresh act x) ≡ shown x
  unfolding refilled shown_by
  shown_refilled gone = refl
  shown_refilled (pool f n u) = refl
  shown_refilled (table f qs) = refl
  shown_refilled (port f ws) = refl
  shown_refilled (page f bs) = refl
  shown_refilled (thread f q c t ps rs) = refl
  shown_refilled (line xs ys) = refl

  shown_made : (z : Sizes) (f : ℕ) (k : Kind) → shown (made Cpu fresh act z f k) ≡ []
  unfolding made shown_by
  shown_made z f (a_pool n) = refl
  shown_made z f (a_table n) = refl
  shown_made z f a_port = refl
  shown_made z f a_page = refl

  adds_state : (w : World Cpu) (p : ℕ) (s : State Cpu) (c : Cpu) → Adds None w (with_object Cpu fresh act w p (set_state Cpu fresh act (obj w p) s c))
  adds_state w p s c = adds_set w p (obj w p) _ refl (shown_state (obj w p) s c)

  adds_slot : (w : World Cpu) (p d : ℕ) (y : Slot) → Adds None w (with_slot Cpu fresh act w p d y)
  unfolding with_slot
  adds_slot w p d y = adds_set w _ _ _ refl (shown_slots _ _)

  adds_handed : (w : World Cpu) (h : Bool) (p s q d : ℕ) → Adds None w (handed Cpu fresh act w h p s q d)
  unfolding handed
  adds_handed w h p s q d = pick_both (Adds None w) _ (then_none (adds_slot w q d _) (adds_slot _ p s empty)) (adds_none w)

  adds_met : (w : World Cpu) (o f : ℕ) (ws q : List Wait) (h : Bool) (a s b d t : ℕ) (us : List ℕ) → obj w o ≡ port f ws →
      Adds None w (resumed Cpu fresh act (handed Cpu fresh act (with_object Cpu fresh act w o (port f q)) h a s b d) t us)
  unfolding resumed shown_by
  adds_met w o f ws q h a s b d t us e = then_none (then_none (adds_set w o (port f ws) (port f q) e refl) (adds_handed _ h a s b d)) (adds_state _ t ready _)

  -- a sweep: what goes was cut, and a line never was
  swept_shows : {ids os : List ℕ} {u : ℕ} {x y : Object Cpu} → AfterSweep Cpu fresh act ids os u x y → (among u os ≡ true → from_of Cpu fresh act x ≡ 0 → ⊥) → shown y ≡ shown x
  unfolding shown_by from_of
  swept_shows (lost {x = gone} h) n = refl
  swept_shows (lost {x = pool f k u} h) n = refl
  swept_shows (lost {x = table f ss} h) n = refl
  swept_shows (lost {x = port f ws} h) n = refl
  swept_shows (lost {x = page f bs} h) n = refl
  swept_shows (lost {x = thread f s c t ps rs} h) n = refl
  swept_shows (lost {x = line xs ys} h) n = absurd (n h refl)
  swept_shows (untouched h a b c) n = refl
  swept_shows (slots_go ss h) n = refl
  swept_shows (waits_go ws h) n = refl
  swept_shows (goes_calm t ps h c) n = refl
  swept_shows (goes_waiting t ps h c) n = refl
  swept_shows (goes_woken o then t ps h c) n = refl

  adds_swept : (w : World Cpu) (ids os : List ℕ) → AllCut Cpu fresh act w os → Adds None w (cleared Cpu fresh act w ids os)
  unfolding AllCut after
  adds_swept w ids os n = record { told = λ u. swept_shows (swept_at Cpu fresh act w ids os u) (n u) }

  -- a line that shows one byte more
  adds_byte : (w : World Cpu) (o b : ℕ) (xs ys : List ℕ) → obj w o ≡ line xs ys → Adds (Some (record { line = o; byte = b })) w (with_object Cpu fresh act w o (line (xs ++ b ∷ []) ys))
  unfolding with_object object after shown_by
  adds_byte w o b xs ys e =
      record {
        told = λ u. same_or_not o u
            (λ q. rw (← q, eq-eqb o o refl, set_here w.objects o (line (xs ++ b ∷ []) ys) gone there, e) refl)
            (λ n. rw (ne_eqb o u n, set_apart w.objects o u (line (xs ++ b ∷ []) ys) gone n) refl);
      }
    where
      there : o < length w.objects
      there = inside w.objects o gone (λ g. let h : line xs ys ≡ gone = sym e ∙ g in clash (cc))

  -- the world that a call leaves shows what it should
  data Tells (s : Option Said) (w : World Cpu) : Went Cpu fresh act → Type 0 where
    tells_on : {v : World Cpu} {ws : List ℕ} → Adds s w v → Tells s w (on v ws)
    tells_wait : {v : World Cpu} {o : ℕ} → Adds s w v → Tells s w (wait v o)

  module _ (z : Sizes) (w : World Cpu) (p : ℕ) where
    refused : Tells None w (refuse Cpu fresh act w)
    unfolding refuse
    refused = tells_on (adds_none w)

    sets : (o : ℕ) (x y : Object Cpu) {ws : List ℕ} → obj w o ≡ x → shown y ≡ shown x → Tells None w (on (with_object Cpu fresh act w o y) ws)
    sets o x y e h = tells_on (adds_set w o x y e h)

    t_cutting : (o : ℕ) (x : Slot) (k : Kind) (d : ℕ) → Tells None w (cutting Cpu fresh act z w p o x k d (obj w o))
    unfolding cutting object with_object after shown_by
    t_cutting o x k d = rw (cutting_is Cpu fresh act z w p o x k d (obj w o)) (by_pool (Tells None w) (obj w o) refused (λ f n u e.
        pick_both (Tells None w) (ltb n (up_to (step_of z k) u + cost z k) || (eqb (cost z k) 0 || too_many k)) refused
        (tells_on (then_none (grown f n u e) (adds_slot _ p d _)))))
      where
        grown : (f n u : ℕ) → obj w o ≡ pool f n u → {b : ℕ} {l : List Slot} →
            Adds None w (record { objects = set w.objects o (pool f n (up_to (step_of z k) u + cost z k)) ++ made Cpu fresh act z (suc o) k ∷ []; births = b; lineage = l })
        grown f n u e =
            let q = adds_set w o (pool f n u) (pool f n (up_to (step_of z k) u + cost z k)) e refl in
            record {
              told = λ t. push_by (λ (x y : Object Cpu). shown y ≡ shown x) (set w.objects o (pool f n (up_to (step_of z k) u + cost z k))) t (made Cpu fresh act z (suc o) k) gone (λ _. shown_made z (suc o) k) (λ y. refl) ∙ q.told t;
            }

    t_revoking : (o : ℕ) (x : Slot) → Tells None w (revoking Cpu fresh act w o x)
    unfolding revoking
    t_revoking o x =
        pick_both (Tells None w) (is_pool Cpu fresh act (obj w o))
        (tells_on (then_none (adds_swept w _ _ (cut_cuttings Cpu fresh act w o)) (adds_set _ o _ _ refl (shown_refilled _))))
        (tells_on (adds_swept w _ [] (cut_none Cpu fresh act w)))

    t_sending : (o b : ℕ) (ws : List ℕ) (h g : Bool) (s : ℕ) → Tells None w (sending Cpu fresh act w p o b ws h g s (obj w o))
    unfolding sending shown_by
    t_sending o b ws h g s = rw (sending_is Cpu fresh act w p o b ws h g s (obj w o)) (by_port (Tells None w) (obj w o) refused at_row)
      where
        at_row : (f : ℕ) (q : List Wait) → obj w o ≡ port f q → Tells None w (sending Cpu fresh act w p o b ws h g s (port f q))
        at_row f [] e = tells_wait (adds_set w o (port f []) _ e refl)
        at_row f (sender t c vs i j r ∷ q) e = tells_wait (adds_set w o (port f (sender t c vs i j r ∷ q)) _ e refl)
        at_row f (receiver t d ∷ q) e = tells_on (adds_met w o f (receiver t d ∷ q) q (h && g) p s t d t (0 ∷ b ∷ ws) e)

    t_receiving : (o d : ℕ) → Tells None w (receiving Cpu fresh act w p o d (obj w o))
    unfolding receiving shown_by
    t_receiving o d = rw (receiving_is Cpu fresh act w p o d (obj w o)) (by_port (Tells None w) (obj w o) refused at_row)
      where
        at_row : (f : ℕ) (q : List Wait) → obj w o ≡ port f q → Tells None w (receiving Cpu fresh act w p o d (port f q))
        at_row f [] e = tells_wait (adds_set w o (port f []) _ e refl)
        at_row f (receiver t c ∷ q) e = tells_wait (adds_set w o (port f (receiver t c ∷ q)) _ e refl)
        at_row f (sender t b ws h g s ∷ q) e = tells_on (adds_met w o f (sender t b ws h g s ∷ q) q (h && g) t s p d t (0 ∷ []) e)

    t_mapping : (o : ℕ) (m : Bool) (t a : ℕ) → Tells None w (mapping Cpu fresh act z w o m t a (obj w t))
    unfolding mapping shown_by
    t_mapping o m t a = rw (mapping_is Cpu fresh act z w o m t a (obj w t)) (by_thread (Tells None w) (obj w t) refused (λ f s c b ps rs e.
        pick_both (Tells None w) (ltb a z.pages && (is_page Cpu fresh act (obj w o) && eqb (get_or ps a 0) 0)) (sets t (thread f s c b ps rs) (thread f s c b (set ps a (suc o)) (set rs a m)) e refl) refused))

    t_unmapping : (t a : ℕ) → Tells None w (unmapping Cpu fresh act z w t a (obj w t))
    unfolding unmapping shown_by
    t_unmapping t a = rw (unmapping_is Cpu fresh act z w t a (obj w t)) (by_thread (Tells None w) (obj w t) refused (λ f s c b ps rs e. pick_both (Tells None w) (ltb a z.pages) (sets t (thread f s c b ps rs) (thread f s c b (set ps a 0) (set rs a false)) e refl) refused))

    t_binding : (t o : ℕ) → Tells None w (binding Cpu fresh act w t o (obj w t))
    unfolding binding shown_by
    t_binding t o = rw (binding_is Cpu fresh act w t o (obj w t)) (by_thread (Tells None w) (obj w t) refused at_state)
      where
        at_state : (f : ℕ) (s : State Cpu) (c : Cpu) (b : ℕ) (ps : List ℕ) (rs : List Bool) → obj w t ≡ thread f s c b ps rs → Tells None w (binding Cpu fresh act w t o (thread f s c b ps rs))
        at_state f stopped c b ps rs e = pick_both (Tells None w) (is_table Cpu fresh act (obj w o)) (sets t (thread f stopped c b ps rs) (thread f stopped c (suc o) ps rs) e refl) refused
        at_state f ready c b ps rs e = refused
        at_state f (waits u then) c b ps rs e = refused

    t_going : (t a : ℕ) → Tells None w (going Cpu fresh act w t a (obj w t))
    unfolding going shown_by
    t_going t a = rw (going_is Cpu fresh act w t a (obj w t)) (by_thread (Tells None w) (obj w t) refused at_state)
      where
        at_state : (f : ℕ) (s : State Cpu) (c : Cpu) (b : ℕ) (ps : List ℕ) (rs : List Bool) → obj w t ≡ thread f s c b ps rs → Tells None w (going Cpu fresh act w t a (thread f s c b ps rs))
        at_state f stopped c b ps rs e = sets t (thread f stopped c b ps rs) (thread f ready (fresh a) b ps rs) e refl
        at_state f ready c b ps rs e = refused
        at_state f (waits u then) c b ps rs e = refused

    t_hearing : (o : ℕ) → Tells None w (hearing Cpu fresh act w o (obj w o))
    unfolding hearing shown_by
    t_hearing o = rw (hearing_is Cpu fresh act w o (obj w o)) (by_line (Tells None w) (obj w o) refused at_bytes)
      where
        at_bytes : (xs ys : List ℕ) → obj w o ≡ line xs ys → Tells None w (hearing Cpu fresh act w o (line xs ys))
        at_bytes xs [] e = refused
        at_bytes xs (y ∷ ys) e = sets o (line xs (y ∷ ys)) (line xs ys) e refl

    t_saying : (o b : ℕ) (x : Object Cpu) → obj w o ≡ x → Tells (at_line Cpu fresh act o b x) w (saying Cpu fresh act w o b x)
    unfolding at_line saying
    t_saying o b gone e = refused
    t_saying o b (pool f n u) e = refused
    t_saying o b (table f ss) e = refused
    t_saying o b (port f ws) e = refused
    t_saying o b (page f bs) e = refused
    t_saying o b (thread f s c t ps rs) e = refused
    t_saying o b (line xs ys) e = tells_on (adds_byte w o b xs ys e)

    say_by : (t : Bool) (s : Option Said) (g : Went Cpu fresh act) → Tells s w g → Tells (pick t None s) w (pick t (refuse Cpu fresh act w) g)
    say_by true s g h = refused
    say_by false s g h = h

    -- THE CALLS
    t_call : (c : Call) → Tells (call_says Cpu fresh act w p c) w (does Cpu fresh act z w p c)
    unfolding call_says does object after
    t_call (cut s k d) = pick_both (Tells None w) _ refused (t_cutting _ _ k d)
    t_call (copy s d r b) = pick_both (Tells None w) _ refused (tells_on (then_none (copied_adds _ _) (adds_slot _ p d _)))
      where
        copied_adds : (b : ℕ) (l : List Slot) → Adds None w (record { objects = w.objects; births = b; lineage = l })
        copied_adds b l = record { told = λ u. refl }
    t_call (move s d) = pick_both (Tells None w) _ refused (tells_on (then_none (adds_slot w p d _) (adds_slot _ p s empty)))
    t_call (drop_it s) = pick_both (Tells None w) _ refused (tells_on (adds_slot w p s empty))
    t_call (revoke s) = pick_both (Tells None w) _ refused (t_revoking _ _)
    t_call (send s ws g h) = pick_both (Tells None w) _ refused (t_sending _ _ _ _ g h)
    t_call (receive s d) = pick_both (Tells None w) _ refused (t_receiving _ d)
    t_call (map s t a) = pick_both (Tells None w) _ refused (t_mapping _ _ _ a)
    t_call (unmap t a) = pick_both (Tells None w) _ refused (t_unmapping _ a)
    t_call (bind t s) = pick_both (Tells None w) _ refused (t_binding _ _)
    t_call (go t a) = pick_both (Tells None w) _ refused (t_going _ a)
    t_call (say s b) = say_by _ _ _ (t_saying _ _ _ refl)
    t_call (hear s) = pick_both (Tells None w) _ refused (t_hearing _)

    went_adds : (s : Option Said) (then : List ℕ → Cpu) (g : Went Cpu fresh act) → Tells s w g → Adds s w (went_on Cpu fresh act w p then g)
    unfolding went_on
    went_adds s then (on v ws) (tells_on a) = then_none a (adds_state v p ready (then ws))
    went_adds s then (wait v o) (tells_wait a) = then_none a (adds_state v p (waits o then) (fresh 0))

    -- a store: where a page is, if spaces have pages only
    module _ (kinds : Kinds Cpu fresh act w) where
      adds_store : (f a : ℕ) (c : Cpu) (ps : List ℕ) (rs : List Bool) (i : ℕ) (bs : List ℕ) → obj w p ≡ thread f ready c a ps rs → may_store Cpu fresh act z ps rs i bs ≡ true →
          Adds None w (stores Cpu fresh act z w ps rs i bs)
      unfolding stores may_store shown_by
      adds_store f a c ps rs i bs e g = at_page (get_or ps (i / z.bytes) 0) refl (and_left _ _ g)
        where
          at_page : (u : ℕ) → get_or ps (i / z.bytes) 0 ≡ u → not (eqb u 0) ≡ true →
              Adds None w (with_object Cpu fresh act w (u - 1) (page (from_page Cpu fresh act (obj w (u - 1))) (over (bytes_of Cpu fresh act (obj w (u - 1))) (i % z.bytes) bs)))
          at_page zero q h = no_yes h
          at_page (suc u) q h =
              let y = kinds.its_pages p f a (i / z.bytes) u ready c ps rs e q in
              rw (less_one u) (adds_set w u (page y.0 y.1) _ y.2 refl)

      t_acts : (f a : ℕ) (c : Cpu) (ps : List ℕ) (rs : List Bool) (x : Act Cpu) → obj w p ≡ thread f ready c a ps rs → Adds (act_says Cpu fresh act w p x) w (acts Cpu fresh act z w p ps rs x)
      unfolding act_says acts
      t_acts f a c ps rs (quiet d) e = adds_state w p ready d
      t_acts f a c ps rs (store i bs d) e =
          pick_know (Adds None w) (may_store Cpu fresh act z ps rs i bs) (λ g. then_none (adds_store f a c ps rs i bs e g) (adds_state _ p ready d)) (λ _. adds_state w p stopped (fresh 0))
      t_acts f a c ps rs (call d then) e = went_adds _ then _ (t_call d)
      t_acts f a c ps rs wrong e = adds_state w p stopped (fresh 0)

      t_ticked : (x : Object Cpu) → obj w p ≡ x → Adds (tick_says Cpu fresh act z w p x) w (ticked Cpu fresh act z w p x)
      unfolding tick_says ticked
      t_ticked gone e = adds_none w
      t_ticked (pool f n u) e = adds_none w
      t_ticked (table f ss) e = adds_none w
      t_ticked (port f ws) e = adds_none w
      t_ticked (page f bs) e = adds_none w
      t_ticked (thread f stopped c t ps rs) e = adds_none w
      t_ticked (thread f ready c t ps rs) e = t_acts f t c ps rs (act c (seen Cpu fresh act z w ps)) e
      t_ticked (thread f (waits o then) c t ps rs) e = adds_none w
      t_ticked (line xs ys) e = adds_none w

  t_comes : (z : Sizes) (w : World Cpu) (o b : ℕ) → Adds None w (comes_in Cpu fresh act z w o b (obj w o))
  unfolding comes_in shown_by
  t_comes z w o b =
      rw (comes_in_is Cpu fresh act z w o b (obj w o)) (by_line (Adds None w) (obj w o) (adds_none w) (λ xs ys e. pick_both (Adds None w) (ltb (length ys) z.heard) (adds_set w o (line xs ys) (line xs (ys ++ b ∷ [])) e refl) (adds_none w)))

  event_adds : (z : Sizes) (w : World Cpu) (e : Event) → Kinds Cpu fresh act w → Adds (event_says Cpu fresh act z w e) w (event Cpu fresh act z w e)
  unfolding event_says event
  event_adds z w (tick p) k = t_ticked z w p k (obj w p) refl
  event_adds z w (byte o b) k = t_comes z w o b

  pub said_is_shown : SaidIsShown Cpu fresh act
  unfolding SaidIsShown SaidIsShownIn said run said_on
  said_is_shown z v [] o k = sym (append-nil (shown (obj v o)))
  said_is_shown z v (e ∷ es) o k =
      said_is_shown z (event Cpu fresh act z v e) es o (kinds_event Cpu fresh act z v e k)
      ∙ ap (λ xs. xs ++ said_on o (said Cpu fresh act z (event Cpu fresh act z v e) es)) ((event_adds z v e k).told o)
      ∙ after_all o (event_says Cpu fresh act z v e) (shown (obj v o)) (said Cpu fresh act z (event Cpu fresh act z v e) es)
