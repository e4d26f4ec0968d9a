-- What was made from what by calls is what the world's record says, and so a revoke takes all of it.
use mathlib.Core.Path.{◌≡◌, refl, sym, ap, subst, ◌∙◌}
use mathlib.Core.Bool.{Bool, true, false, ◌&&◌, ◌||◌, not}
use mathlib.Core.List.{List, [], ◌∷◌, ◌++◌}
use mathlib.Core.Logic.{◌⊎◌, inl, inr}
use Prim.Native.Nat.{ℕ, zero, suc, ◌+◌, ◌-◌, ◌≤◌, ◌<◌}
use native.Mathlib.Omega.{arith}
use lib.Dec.{ltb, eqb}
use borrow.Author.Tests.{eqb-true, eq-eqb, ne_eqb, ltb-true}
use lib.ListN.{length, get_or, set}
use Rattle.rights.specs.World.{pick, Slot, empty, cap, Call, cut, copy, move, drop_it, revoke, send, receive, map, unmap, bind, go, say, hear}
use Rattle.rights.specs.World.{Act, quiet, store, call, wrong, State, stopped, ready, waits, Object, gone, pool, table, port, page, thread, line, Sizes, World, Event, tick, byte}
use Rattle.rights.specs.World.{cost, step_of, up_to, slot_birth, slot_mother, is_empty, copied, too_many, among, object, with_object, slots_of, table_of, slot, has_slot, with_slots, with_slot}
use Rattle.rights.specs.World.{made_from, offspring, cleared, Went, on, wait, refuse, cutting, is_pool, revoking, set_state, seen, stores, may_store, does, went_on, acts, ticked, comes_in, event, run}
use Rattle.rights.specs.Promise.{Parted, Making, by_copy, by_cut, Holds, MadeNow, made_by, MadeIn, in_first, in_rest, through, revoked_by, RevokedByCallsIn, RevokedByCalls, RecordIsExact}
use Rattle.laws.proofs.Tests.{yes_no, no_yes, pick_both, pick_know, or_left, or_right, or_cases, or_first, or_second, both_hold, and_left, and_right, set_here, set_by, inside, among-++}
use Rattle.laws.proofs.Forms.{by_pool, by_line, no_cut, no_copy, no_revoke, cutting_is, comes_in_is}
use Rattle.laws.proofs.Steps.{to, Change}
use Rattle.laws.proofs.Moves.{slot_in, copied_is, copied_full}
use Rattle.laws.proofs.Cuts.{after_cut, table_kept, filled_in, slot_after}
use Rattle.laws.proofs.Pass.{event_keeps, run_keeps}
use Rattle.laws.proofs.Caps.{Good, good_first, good_event, good_run, revoked_then}
use Rattle.laws.proofs.Quiet.{plain, left, quiet_call}
use Rattle.laws.proofs.Asked.{is_call}

module _ (Cpu : Type 0) (fresh : ℕ → Cpu) (act : Cpu → (ℕ → ℕ) → Act Cpu) where
  abbrev obj : World Cpu → ℕ → Object Cpu
  obj = object Cpu fresh act

  -- a slot that is put into a place is there
  pub slot_put : (w : World Cpu) (p d : ℕ) (y : Slot) → has_slot Cpu fresh act w p d ≡ true → slot Cpu fresh act (with_slot Cpu fresh act w p d y) p d ≡ y
  unfolding slot with_slot with_object object has_slot slots_of
  slot_put w p d y h = rw (p_table, ne_eqb (table_of Cpu fresh act (get_or w.objects p gone)) 0 has_table) (ap (λ (x : Object Cpu). get_or (slots_of Cpu fresh act x) d empty) (set_here w.objects T X gone there) ∙ filled_in Cpu fresh act (get_or w.objects T gone) d y room)
    where
      T : ℕ
      T = table_of Cpu fresh act (get_or w.objects p gone) - 1

      X : Object Cpu
      X = with_slots Cpu fresh act (get_or w.objects T gone) (set (slots_of Cpu fresh act (get_or w.objects T gone)) d y)

      has_table : table_of Cpu fresh act (get_or w.objects p gone) ≡ 0 → ⊥
      has_table q = yes_no (sym (and_left _ _ h) ∙ ap not (eq-eqb _ 0 q))

      room : d < length (slots_of Cpu fresh act (get_or w.objects T gone))
      room = ltb-true d _ (and_right (not (eqb (table_of Cpu fresh act (get_or w.objects p gone)) 0)) _ h)

      there : T < length w.objects
      there = inside w.objects T gone (λ g. no_room (ap (slots_of Cpu fresh act) g))
        where
          no_room : slots_of Cpu fresh act (get_or w.objects T gone) ≡ slots_of Cpu fresh act gone → ⊥
          no_room g = let l : d < 0 = subst (λ (ss : List Slot). d < length ss) g room in omega arith

      p_table : table_of Cpu fresh act (get_or (set w.objects T X) p gone) ≡ table_of Cpu fresh act (get_or w.objects p gone)
      p_table = set_by (λ (x : Object Cpu). table_of Cpu fresh act x ≡ table_of Cpu fresh act (get_or w.objects p gone)) w.objects T p X gone
          (λ q. table_kept Cpu fresh act (get_or w.objects T gone) (set (slots_of Cpu fresh act (get_or w.objects T gone)) d y) ∙ ap (λ (i : ℕ). table_of Cpu fresh act (get_or w.objects i gone)) q) refl

  -- a thread in another state: slots are as they were
  pub table_state : (x : Object Cpu) (s : State Cpu) (c : Cpu) → table_of Cpu fresh act (set_state Cpu fresh act x s c) ≡ table_of Cpu fresh act x
  unfolding table_of set_state
  table_state gone s c = refl
  table_state (pool f n u) s c = refl
  table_state (table f ss) s c = refl
  table_state (port f ws) s c = refl
  table_state (page f bs) s c = refl
  table_state (thread f q d t ps rs) s c = refl
  table_state (line xs ys) s c = refl

  pub slots_state : (x : Object Cpu) (s : State Cpu) (c : Cpu) → slots_of Cpu fresh act (set_state Cpu fresh act x s c) ≡ slots_of Cpu fresh act x
  unfolding slots_of set_state
  slots_state gone s c = refl
  slots_state (pool f n u) s c = refl
  slots_state (table f ss) s c = refl
  slots_state (port f ws) s c = refl
  slots_state (page f bs) s c = refl
  slots_state (thread f q d t ps rs) s c = refl
  slots_state (line xs ys) s c = refl

  pub slot_stays : (w : World Cpu) (p d : ℕ) (s : State Cpu) (c : Cpu) → slot Cpu fresh act (with_object Cpu fresh act w p (set_state Cpu fresh act (obj w p) s c)) p d ≡ slot Cpu fresh act w p d
  unfolding slot with_object object
  slot_stays w p d s c = rw (tables p, slots (table_of Cpu fresh act (get_or w.objects p gone) - 1)) refl
    where
      X : Object Cpu
      X = set_state Cpu fresh act (get_or w.objects p gone) s c

      tables : (u : ℕ) → table_of Cpu fresh act (get_or (set w.objects p X) u gone) ≡ table_of Cpu fresh act (get_or w.objects u gone)
      tables u = set_by (λ (x : Object Cpu). table_of Cpu fresh act x ≡ table_of Cpu fresh act (get_or w.objects u gone)) w.objects p u X gone
          (λ q. table_state (get_or w.objects p gone) s c ∙ ap (λ (i : ℕ). table_of Cpu fresh act (get_or w.objects i gone)) q) refl

      slots : (u : ℕ) → slots_of Cpu fresh act (get_or (set w.objects p X) u gone) ≡ slots_of Cpu fresh act (get_or w.objects u gone)
      slots u = set_by (λ (x : Object Cpu). slots_of Cpu fresh act x ≡ slots_of Cpu fresh act (get_or w.objects u gone)) w.objects p u X gone
          (λ q. slots_state (get_or w.objects p gone) s c ∙ ap (λ (i : ℕ). slots_of Cpu fresh act (get_or w.objects i gone)) q) refl

  -- what becomes of a copy or a cut with slot s into slot d: it is refused, or one more is made, recorded, and in d
  data Deal (w : World Cpu) (p s d : ℕ) : Went Cpu fresh act → Type 0 where
    not_done : Deal w p s d (refuse Cpu fresh act w)
    done : {v : World Cpu} (y : Slot) → v.lineage ≡ y ∷ w.lineage → v.births ≡ suc w.births → is_empty y ≡ false → is_empty (slot Cpu fresh act w p s) ≡ false →
        slot_mother y ≡ slot_birth (slot Cpu fresh act w p s) → slot_birth y ≡ suc w.births → slot Cpu fresh act v p d ≡ y → Deal w p s d (on v (0 ∷ []))

  -- the same where something was born and recorded
  put_next : (w : World Cpu) (p d : ℕ) (y : Slot) (l : List Slot) → has_slot Cpu fresh act w p d ≡ true → slot Cpu fresh act (with_slot Cpu fresh act (record { objects = w.objects; births = suc w.births; lineage = l }) p d y) p d ≡ y
  unfolding has_slot object
  put_next w p d y l h = slot_put (record { objects = w.objects; births = suc w.births; lineage = l }) p d y h

  deal : (z : Sizes) (w : World Cpu) (p : ℕ) {x : Call} {s d : ℕ} → Making Cpu fresh act x s d → Deal w p s d (does Cpu fresh act z w p x)
  unfolding does cutting after_cut with_slot with_object slot_birth slot_mother is_empty
  deal z w p (by_copy {s} {d} {b} {r}) =
      pick_know (Deal w p s d) (no_copy Cpu fresh act w p s d) (λ _. not_done) (λ g.
      let n = or_left _ _ g in
      let f = copied_is Cpu fresh act (slot Cpu fresh act w p s) r b (suc w.births) n in
      done (copied (slot Cpu fresh act w p s) r b (suc w.births)) refl refl (copied_full Cpu fresh act _ r b _ n) n f.0 f.1 (put_next w p d _ _ (both_hold _ _ (or_right _ _ (or_right (is_empty (slot Cpu fresh act w p s)) _ g)))))
  deal z w p (by_cut {s} {d} {k}) =
      pick_know (Deal w p s d) (no_cut Cpu fresh act w p s d) (λ _. not_done) (λ g.
      let x = slot Cpu fresh act w p s in
      rw (cutting_is Cpu fresh act z w p (to x) x k d (obj w (to x))) (by_pool (Deal w p s d) (obj w (to x)) not_done (λ f n u e.
      pick_both (Deal w p s d) (ltb n (up_to (step_of z k) u + cost z k) || (eqb (cost z k) 0 || too_many k)) not_done
      (done _ refl refl refl (or_left _ _ g) refl refl (slot_after Cpu fresh act z w p (to x) d x k f n u (up_to (step_of z k) u + cost z k) (both_hold _ _ (or_right _ _ (or_right (is_empty (slot Cpu fresh act w p s)) _ g))) e)))))

  -- what a row of events makes, in the world's own way
  abbrev MadeNowHere : Sizes → World Cpu → Event → ℕ → ℕ → Type 0
  MadeNowHere = MadeNow Cpu fresh act (does Cpu fresh act) (event Cpu fresh act)

  abbrev MadeHere : Sizes → World Cpu → List Event → ℕ → ℕ → Type 0
  MadeHere = MadeIn Cpu fresh act (does Cpu fresh act) (event Cpu fresh act)

  holds_of : (w : World Cpu) (p s : ℕ) (y : Slot) → slot Cpu fresh act w p s ≡ y → is_empty y ≡ false → Holds Cpu fresh act w p s (slot_birth y)
  unfolding Holds is_empty slot_birth
  holds_of w p s empty e n = yes_no n
  holds_of w p s (cap u r b j m) e n = (u, r, b, m, e)

  birth_of : (w : World Cpu) (p s j : ℕ) → Holds Cpu fresh act w p s j → slot_birth (slot Cpu fresh act w p s) ≡ j
  unfolding Holds slot_birth
  birth_of w p s j (u, r, b, m, e) = ap slot_birth e

  -- what an event leaves of the record: it is as it was, or there is one entry more, of what was made in this event
  data Recorded (z : Sizes) (w : World Cpu) (e : Event) (v : World Cpu) : Type 0 where
    as_was : v.lineage ≡ w.lineage → Recorded z w e v
    one_more : (y : Slot) → v.lineage ≡ y ∷ w.lineage → is_empty y ≡ false → slot_mother y ≤ w.births → slot_birth y ≡ suc w.births → suc w.births ≤ v.births → MadeNowHere z w e (slot_mother y) (slot_birth y) → Recorded z w e v

  module _ (z : Sizes) (w : World Cpu) (g : Good Cpu fresh act w) (p f a : ℕ) (c : Cpu) (ps : List ℕ) (rs : List Bool) (r : obj w p ≡ thread f ready c a ps rs) where
    by_deal : (x : Call) (then : List ℕ → Cpu) → act c (seen Cpu fresh act z w ps) ≡ call x then → (s d : ℕ) → Making Cpu fresh act x s d → (q : Went Cpu fresh act) → does Cpu fresh act z w p x ≡ q → Deal w p s d q →
        Recorded z w (tick p) (went_on Cpu fresh act w p then q)
    unfolding went_on refuse with_object
    by_deal x then m s d k q i not_done = as_was refl
    by_deal x then m s d k q i (done {v} y l b n o u h t) =
        one_more y l n (subst (λ (i : ℕ). i ≤ w.births) (sym u) (g.low (slot Cpu fresh act w p s) (slot_in Cpu fresh act w p s o)).0) h (subst (λ (i : ℕ). suc w.births ≤ i) (sym b) (omega arith))
        (made_by p s d f a x c ps rs then v refl r m k i (subst (λ (i : ℕ). Holds Cpu fresh act w p s i) (sym u) (holds_of w p s _ refl o))
        (holds_of (event Cpu fresh act z w (tick p)) p d y (ap (λ (k : World Cpu). slot Cpu fresh act k p d) ((is_call Cpu fresh act z w p f a c ps rs x then r m).0 ∙ ap (went_on Cpu fresh act w p then) i) ∙ slot_stays v p d ready (then (0 ∷ [])) ∙ t) n))

    -- the record after any other call
    plain_recorded : (x : Call) (then : List ℕ → Cpu) → plain x ≡ true → Recorded z w (tick p) (went_on Cpu fresh act w p then (does Cpu fresh act z w p x))
    unfolding went_on left with_object
    plain_recorded x then n = as_was (same_went (does Cpu fresh act z w p x) (quiet_call Cpu fresh act z w p x n).same_record)
      where
        same_went : (q : Went Cpu fresh act) → (left Cpu fresh act q).lineage ≡ w.lineage → (went_on Cpu fresh act w p then q).lineage ≡ w.lineage
        same_went (on v ws) h = h
        same_went (wait v o) h = h

    -- after a revoke
    revoke_recorded : (s : ℕ) (then : List ℕ → Cpu) → Recorded z w (tick p) (went_on Cpu fresh act w p then (does Cpu fresh act z w p (revoke s)))
    unfolding does revoking refuse went_on with_object cleared
    revoke_recorded s then = as_was (pick_both (λ (q : Went Cpu fresh act). (went_on Cpu fresh act w p then q).lineage ≡ w.lineage) (no_revoke Cpu fresh act w p s) refl
        (pick_both (λ (q : Went Cpu fresh act). (went_on Cpu fresh act w p then q).lineage ≡ w.lineage) (is_pool Cpu fresh act (obj w (to (slot Cpu fresh act w p s)))) refl refl))

    recorded_call : (x : Call) (then : List ℕ → Cpu) → act c (seen Cpu fresh act z w ps) ≡ call x then → Recorded z w (tick p) (went_on Cpu fresh act w p then (does Cpu fresh act z w p x))
    unfolding plain
    recorded_call (cut s k d) then m = by_deal (cut s k d) then m s d by_cut _ refl (deal z w p by_cut)
    recorded_call (copy s d q b) then m = by_deal (copy s d q b) then m s d by_copy _ refl (deal z w p by_copy)
    recorded_call (move s d) then m = plain_recorded (move s d) then refl
    recorded_call (drop_it s) then m = plain_recorded (drop_it s) then refl
    recorded_call (revoke s) then m = revoke_recorded s then
    recorded_call (send s ws l h) then m = plain_recorded (send s ws l h) then refl
    recorded_call (receive s d) then m = plain_recorded (receive s d) then refl
    recorded_call (map s t b) then m = plain_recorded (map s t b) then refl
    recorded_call (unmap t b) then m = plain_recorded (unmap t b) then refl
    recorded_call (bind t s) then m = plain_recorded (bind t s) then refl
    recorded_call (go t b) then m = plain_recorded (go t b) then refl
    recorded_call (say s b) then m = plain_recorded (say s b) then refl
    recorded_call (hear s) then m = plain_recorded (hear s) then refl

    recorded_act : (x : Act Cpu) → act c (seen Cpu fresh act z w ps) ≡ x → Recorded z w (tick p) (acts Cpu fresh act z w p ps rs x)
    unfolding acts with_object stores
    recorded_act (quiet d) m = as_was refl
    recorded_act (store b bs d) m = as_was (pick_both (λ (v : World Cpu). v.lineage ≡ w.lineage) (may_store Cpu fresh act z ps rs b bs) refl refl)
    recorded_act (call x then) m = recorded_call x then m
    recorded_act wrong m = as_was refl

  recorded_tick : (z : Sizes) (w : World Cpu) → Good Cpu fresh act w → (p : ℕ) (x : Object Cpu) → obj w p ≡ x → Recorded z w (tick p) (ticked Cpu fresh act z w p x)
  unfolding ticked
  recorded_tick z w g p gone e = as_was refl
  recorded_tick z w g p (pool f n u) e = as_was refl
  recorded_tick z w g p (table f ss) e = as_was refl
  recorded_tick z w g p (port f ws) e = as_was refl
  recorded_tick z w g p (page f bs) e = as_was refl
  recorded_tick z w g p (thread f stopped c t ps rs) e = as_was refl
  recorded_tick z w g p (thread f ready c t ps rs) e = recorded_act z w g p f t c ps rs e (act c (seen Cpu fresh act z w ps)) refl
  recorded_tick z w g p (thread f (waits o then) c t ps rs) e = as_was refl
  recorded_tick z w g p (line xs ys) e = as_was refl

  recorded : (z : Sizes) (w : World Cpu) → Good Cpu fresh act w → (e : Event) → Recorded z w e (event Cpu fresh act z w e)
  unfolding event comes_in with_object
  recorded z w g (tick p) = recorded_tick z w g p (obj w p) refl
  recorded z w g (byte o b) =
      rw (comes_in_is Cpu fresh act z w o b (obj w o)) (by_line (Recorded z w (byte o b)) (obj w o) (as_was refl) (λ xs ys e. pick_both (Recorded z w (byte o b)) (ltb (length ys) z.heard) (as_was refl) (as_was refl)))

  -- an entry of the record: k was made from j
  pub data Entry (j k : ℕ) : List Slot → Type 0 where
    here : {y : Slot} {xs : List Slot} → is_empty y ≡ false → slot_mother y ≡ j → slot_birth y ≡ k → Entry j k (y ∷ xs)
    beyond : {y : Slot} {xs : List Slot} → Entry j k xs → Entry j k (y ∷ xs)

  -- what was made in an event is recorded in it
  made_entry : (z : Sizes) (w : World Cpu) (e : Event) (j k : ℕ) → MadeNowHere z w e j k → Entry j k (event Cpu fresh act z w e).lineage
  unfolding refuse went_on with_object
  made_entry z w e j k (made_by p s d f a x c ps rs then v q r m t i hs hd) = subst (λ (l : World Cpu). Entry j k l.lineage) (sym at_event) (by (does Cpu fresh act z w p x) i (deal z w p t))
    where
      at_event : event Cpu fresh act z w e ≡ went_on Cpu fresh act w p then (on v (0 ∷ []))
      at_event = ap (event Cpu fresh act z w) q ∙ (is_call Cpu fresh act z w p f a c ps rs x then r m).0 ∙ ap (went_on Cpu fresh act w p then) i

      born : slot_birth (slot Cpu fresh act v p d) ≡ k
      born = ap slot_birth (sym (ap (λ (l : World Cpu). slot Cpu fresh act l p d) at_event ∙ slot_stays v p d ready (then (0 ∷ [])))) ∙ birth_of (event Cpu fresh act z w e) p d k hd

      by : (g : Went Cpu fresh act) → g ≡ on v (0 ∷ []) → Deal w p s d g → Entry j k v.lineage
      by g h not_done = let n : ◌≡◌ {A = ℕ} 4294967295 0 = cc in absurd (omega arith)
      by g h (done {v = u} y l b n o mo bi at) =
          let same : u ≡ v = cc in
          subst (λ (i : World Cpu). Entry j k i.lineage) same (subst (Entry j k) (sym l) (here n (mo ∙ birth_of w p s j hs) (ap slot_birth (sym at) ∙ ap (λ (i : World Cpu). slot_birth (slot Cpu fresh act i p d)) same ∙ born)))

  -- entries stay
  entry_small : (j k : ℕ) (w v : World Cpu) → Change Cpu fresh act w v → Entry j k w.lineage → Entry j k v.lineage
  entry_small j k w v c i = go c.lines
    where
      go : (v.lineage ≡ w.lineage) ⊎ ((v.lineage ≡ c.new ∷ w.lineage) × (is_empty c.new ≡ false)) → Entry j k v.lineage
      go (inl h) = subst (Entry j k) (sym h) i
      go (inr h) = subst (Entry j k) (sym h.0) (beyond i)

  entry_run : (j k : ℕ) (z : Sizes) (w : World Cpu) (es : List Event) → Entry j k w.lineage → Entry j k (run Cpu fresh act z w es).lineage
  unfolding cleared
  entry_run j k = run_keeps Cpu fresh act (λ w. Entry j k w.lineage) (entry_small j k) (λ w ids os c i. i)

  -- entries one after the other
  pub data Chain (xs : List Slot) (j : ℕ) : ℕ → Type 0 where
    single : {k : ℕ} → Entry j k xs → Chain xs j k
    further : {i k : ℕ} → Chain xs j i → Entry i k xs → Chain xs j k

  chain_on : {xs : List Slot} {j i k : ℕ} → Chain xs j i → Chain xs i k → Chain xs j k
  chain_on a (single e) = further a e
  chain_on a (further b e) = further (chain_on a b) e

  pub made_chain : (z : Sizes) (w : World Cpu) (es : List Event) (j k : ℕ) → MadeHere z w es j k → Chain (run Cpu fresh act z w es).lineage j k
  unfolding run
  made_chain z w (e ∷ es) j k (in_first m) = single (entry_run j k z (event Cpu fresh act z w e) es (made_entry z w e j k m))
  made_chain z w (e ∷ es) j k (in_rest m) = made_chain z (event Cpu fresh act z w e) es j k m
  made_chain z w es j k (through {i} a b) = chain_on (made_chain z w es j i a) (made_chain z w es i k b)

  -- mothers are born before their children
  data Ordered (b : ℕ) : List Slot → Type 0 where
    ordered_nil : Ordered b []
    ordered_cons : {y : Slot} {xs : List Slot} → slot_mother y < slot_birth y → slot_birth y ≤ b → Ordered b xs → Ordered b (y ∷ xs)

  ordered_more : {b c : ℕ} {xs : List Slot} → b ≤ c → Ordered b xs → Ordered c xs
  ordered_more h ordered_nil = ordered_nil
  ordered_more h (ordered_cons l k r) = ordered_cons l (omega arith) (ordered_more h r)

  entry_order : {b j k : ℕ} {xs : List Slot} → Ordered b xs → Entry j k xs → (j < k) × (k ≤ b)
  entry_order ordered_nil e = elim e [ ]
  entry_order (ordered_cons l h r) (here n m i) = (omega arith, omega arith)
  entry_order (ordered_cons l h r) (beyond e) = entry_order r e

  births_grow : (z : Sizes) (w : World Cpu) (e : Event) → w.births ≤ (event Cpu fresh act z w e).births
  unfolding cleared
  births_grow z w e = event_keeps Cpu fresh act (λ v. w.births ≤ v.births) (λ a b c h. let m = c.more in omega arith) (λ a ids os c h. h) z w e (omega arith)

  ordered_event : (z : Sizes) (w : World Cpu) → Good Cpu fresh act w → (e : Event) → Ordered w.births w.lineage → Ordered (event Cpu fresh act z w e).births (event Cpu fresh act z w e).lineage
  ordered_event z w g e o = go (recorded z w g e)
    where
      go : Recorded z w e (event Cpu fresh act z w e) → Ordered (event Cpu fresh act z w e).births (event Cpu fresh act z w e).lineage
      go (as_was h) = subst (Ordered (event Cpu fresh act z w e).births) (sym h) (ordered_more (births_grow z w e) o)
      go (one_more y l n m b c k) = subst (Ordered (event Cpu fresh act z w e).births) (sym l) (ordered_cons (omega arith) (omega arith) (ordered_more (births_grow z w e) o))

  ordered_run : (z : Sizes) (w : World Cpu) (es : List Event) → Good Cpu fresh act w → Ordered w.births w.lineage → Ordered (run Cpu fresh act z w es).births (run Cpu fresh act z w es).lineage
  unfolding run
  ordered_run z w [] g o = o
  ordered_run z w (e ∷ es) g o = ordered_run z (event Cpu fresh act z w e) es (good_event Cpu fresh act z w e g) (ordered_event z w g e o)

  -- an entry is found in one step, a chain in as many as there are births between
  entry_made : (ids : List ℕ) {i k : ℕ} {xs : List Slot} → among i ids ≡ true → Entry i k xs → among k (made_from Cpu fresh act ids xs) ≡ true
  unfolding made_from among
  entry_made ids {i} {k} h (here {y} {xs} n m b) =
      rw (n, m, h, b, eq-eqb k k refl) refl
  entry_made ids {i} {k} h (beyond {y} {xs} e) = go (not (is_empty y) && among (slot_mother y) ids) (entry_made ids h e)
    where
      go : (c : Bool) → among k (made_from Cpu fresh act ids xs) ≡ true → among k (pick c (slot_birth y ∷ made_from Cpu fresh act ids xs) (made_from Cpu fresh act ids xs)) ≡ true
      go true r = or_second (eqb k (slot_birth y)) _ r
      go false r = r

  module _ (w : World Cpu) where
    kin : ℕ → List ℕ → List ℕ
    kin n ids = offspring Cpu fresh act w n ids

    first_kin : (n : ℕ) (ids : List ℕ) {i k : ℕ} → among i ids ≡ true → Entry i k w.lineage → among k (kin (suc n) ids) ≡ true
    unfolding offspring kin
    first_kin n ids {k = k} h e = among-++ k (made_from Cpu fresh act ids w.lineage) _ ∙ or_first _ _ (entry_made ids h e)

    next_kin : (n : ℕ) (ids : List ℕ) {i k : ℕ} → among i (kin n ids) ≡ true → Entry i k w.lineage → among k (kin (suc n) ids) ≡ true
    unfolding offspring kin among
    next_kin zero ids h e = no_yes h
    next_kin (suc n) ids {i} {k} h e = go (λ q. next_kin n (made_from Cpu fresh act ids w.lineage) q e) (or_cases _ _ (sym (among-++ i xs (kin n xs)) ∙ h))
      where
        xs : List ℕ
        xs = made_from Cpu fresh act ids w.lineage

        go : (among i (kin n xs) ≡ true → among k (kin (suc n) xs) ≡ true) → (among i xs ≡ true) ⊎ (among i (kin n xs) ≡ true) → among k (xs ++ kin (suc n) xs) ≡ true
        go f (inl q) = among-++ k xs (kin (suc n) xs) ∙ or_second _ _ (first_kin n xs q e)
        go f (inr q) = among-++ k xs (kin (suc n) xs) ∙ or_second _ _ (f q)

    more_kin : (n m : ℕ) (ids : List ℕ) (k : ℕ) → n ≤ m → among k (kin n ids) ≡ true → among k (kin m ids) ≡ true
    unfolding offspring kin among
    more_kin zero m ids k h e = no_yes e
    more_kin (suc n) zero ids k h e = absurd (omega arith)
    more_kin (suc n) (suc m) ids k h e = go (λ q. more_kin n m (made_from Cpu fresh act ids w.lineage) k (omega arith) q) (or_cases _ _ (sym (among-++ k xs (kin n xs)) ∙ e))
      where
        xs : List ℕ
        xs = made_from Cpu fresh act ids w.lineage

        go : (among k (kin n xs) ≡ true → among k (kin m xs) ≡ true) → (among k xs ≡ true) ⊎ (among k (kin n xs) ≡ true) → among k (xs ++ kin m xs) ≡ true
        go f (inl q) = among-++ k xs (kin m xs) ∙ or_first _ _ q
        go f (inr q) = among-++ k xs (kin m xs) ∙ or_second _ _ (f q)

    in_itself : (j : ℕ) → among j (j ∷ []) ≡ true
    unfolding among
    in_itself j = or_first _ _ (eq-eqb j j refl)

    chain_kin : {b j k : ℕ} → Ordered b w.lineage → Chain w.lineage j k → (j < k) × (k ≤ b) × (among k (kin (k - j) (j ∷ [])) ≡ true)
    chain_kin {b} {j} {k} o (single e) = let l = entry_order o e in (l.0, l.1, more_kin 1 (k - j) (j ∷ []) k (let a = l.0 in omega arith) (first_kin 0 (j ∷ []) (in_itself j) e))
    chain_kin {b} {j} {k} o (further {i} c e) =
        let h = chain_kin o c in
        let l = entry_order o e in (let a = l.0 in let d = h.0 in omega arith, l.1, more_kin (suc (i - j)) (k - j) (j ∷ []) k (let a = l.0 in let d = h.0 in omega arith) (next_kin (i - j) (j ∷ []) h.2 e))

    -- and what is found is a chain
    made_is_entry : (ids : List ℕ) (k : ℕ) (xs : List Slot) → among k (made_from Cpu fresh act ids xs) ≡ true → (i : ℕ) × (among i ids ≡ true) × Entry i k xs
    unfolding made_from among
    made_is_entry ids k [] e = no_yes e
    made_is_entry ids k (y ∷ xs) e = go (not (is_empty y) && among (slot_mother y) ids) refl (λ q. made_is_entry ids k xs q) e
      where
        full : (c d : Bool) → (not c && d) ≡ true → c ≡ false
        full true d q = no_yes q
        full false d q = refl

        later : (i : ℕ) × (among i ids ≡ true) × Entry i k xs → (i : ℕ) × (among i ids ≡ true) × Entry i k (y ∷ xs)
        later (i, h, n) = (i, h, beyond n)

        go : (c : Bool) → (not (is_empty y) && among (slot_mother y) ids) ≡ c → (among k (made_from Cpu fresh act ids xs) ≡ true → (i : ℕ) × (among i ids ≡ true) × Entry i k xs) →
            among k (pick c (slot_birth y ∷ made_from Cpu fresh act ids xs) (made_from Cpu fresh act ids xs)) ≡ true → (i : ℕ) × (among i ids ≡ true) × Entry i k (y ∷ xs)
        go true h f q = at (or_cases (eqb k (slot_birth y)) (among k (made_from Cpu fresh act ids xs)) q)
          where
            at : (eqb k (slot_birth y) ≡ true) ⊎ (among k (made_from Cpu fresh act ids xs) ≡ true) → (i : ℕ) × (among i ids ≡ true) × Entry i k (y ∷ xs)
            at (inl r) = (slot_mother y, and_right _ _ h, here (full _ _ h) refl (sym (eqb-true k (slot_birth y) r)))
            at (inr r) = later (f r)
        go false h f q = later (f q)

    kin_is_chain : (n : ℕ) (ids : List ℕ) (k : ℕ) → among k (kin n ids) ≡ true → (i : ℕ) × (among i ids ≡ true) × Chain w.lineage i k
    unfolding offspring kin among
    kin_is_chain zero ids k e = no_yes e
    kin_is_chain (suc n) ids k e = go (λ q. kin_is_chain n (made_from Cpu fresh act ids w.lineage) k q) (or_cases _ _ (sym (among-++ k xs (kin n xs)) ∙ e))
      where
        xs : List ℕ
        xs = made_from Cpu fresh act ids w.lineage

        go : (among k (kin n xs) ≡ true → (i : ℕ) × (among i xs ≡ true) × Chain w.lineage i k) → (among k xs ≡ true) ⊎ (among k (kin n xs) ≡ true) → (i : ℕ) × (among i ids ≡ true) × Chain w.lineage i k
        go f (inl q) = let h = made_is_entry ids k w.lineage q in (h.0, h.1, single h.2)
        go f (inr q) = let c = f q in let h = made_is_entry ids c.0 w.lineage c.1 in (h.0, h.1, chain_on (single h.2) c.2)

  -- an entry was there before the row of events, or was made in it
  entry_was_made : (z : Sizes) (w : World Cpu) (es : List Event) (j k : ℕ) → Good Cpu fresh act w → Entry j k (run Cpu fresh act z w es).lineage → Entry j k w.lineage ⊎ MadeHere z w es j k
  unfolding run
  entry_was_made z w [] j k g e = inl e
  entry_was_made z w (x ∷ es) j k g e = go (entry_was_made z (event Cpu fresh act z w x) es j k (good_event Cpu fresh act z w x g) e)
    where
      newest : {y : Slot} → MadeNowHere z w x (slot_mother y) (slot_birth y) → Entry j k (y ∷ w.lineage) → Entry j k w.lineage ⊎ MadeHere z w (x ∷ es) j k
      newest m (here n a b) = inr (in_first (subst (λ (i : ℕ). MadeNowHere z w x i k) a (subst (MadeNowHere z w x _) b m)))
      newest m (beyond i) = inl i

      at : Entry j k (event Cpu fresh act z w x).lineage → Recorded z w x (event Cpu fresh act z w x) → Entry j k w.lineage ⊎ MadeHere z w (x ∷ es) j k
      at i (as_was h) = inl (subst (Entry j k) h i)
      at i (one_more y l n a b c m) = newest m (subst (Entry j k) l i)

      go : Entry j k (event Cpu fresh act z w x).lineage ⊎ MadeHere z (event Cpu fresh act z w x) es j k → Entry j k w.lineage ⊎ MadeHere z w (x ∷ es) j k
      go (inl i) = at i (recorded z w g x)
      go (inr m) = inr (in_rest m)

  module _ (z : Sizes) (v : World Cpu) (es : List Event) (p : Parted Cpu fresh act (λ o. true) v) where
    W : World Cpu
    W = run Cpu fresh act z v es

    from_entry : (j k : ℕ) → Entry j k W.lineage → MadeHere z v es j k
    unfolding W
    from_entry j k e = go (entry_was_made z v es j k (good_first Cpu fresh act v p) e)
      where
        go : Entry j k v.lineage ⊎ MadeHere z v es j k → MadeHere z v es j k
        go (inl i) = elim (subst (Entry j k) p.nothing_made i) [ ]
        go (inr m) = m

    from_chain : (j k : ℕ) → Chain W.lineage j k → MadeHere z v es j k
    from_chain j k (single e) = from_entry j k e
    from_chain j k (further {i} c e) = through (from_chain j i c) (from_entry i k e)

    complete : (j k : ℕ) → MadeHere z v es j k → among k (offspring Cpu fresh act W W.births (j ∷ [])) ≡ true
    unfolding W kin
    complete j k m =
        let o = ordered_run z v es (good_first Cpu fresh act v p) (subst (Ordered v.births) (sym p.nothing_made) ordered_nil) in
        let c = chain_kin W o (made_chain z v es j k m) in more_kin W (k - j) W.births (j ∷ []) k (let h = c.1 in omega arith) c.2

    exact : (j k : ℕ) → among k (offspring Cpu fresh act W W.births (j ∷ [])) ≡ true → MadeHere z v es j k
    unfolding W kin among
    exact j k e = let c = kin_is_chain W W.births (j ∷ []) k e in from_chain j k (subst (λ (i : ℕ). Chain W.lineage i k) (only c.0 c.1) c.2)
      where
        only : (i : ℕ) → (eqb i j || false) ≡ true → i ≡ j
        only i h = go (or_cases (eqb i j) false h)
          where
            go : (eqb i j ≡ true) ⊎ (false ≡ true) → i ≡ j
            go (inl q) = eqb-true i j q
            go (inr q) = no_yes q

  pub record_is_exact : RecordIsExact Cpu fresh act
  unfolding RecordIsExact W
  record_is_exact z v es j k one p = (complete z v es p j k, exact z v es p j k)

  pub revoked_by_calls : RevokedByCalls Cpu fresh act
  unfolding RevokedByCalls RevokedByCallsIn W went_on
  revoked_by_calls z v es e j k o i t c n q one start made (revoked_by p s f a d ps rs then x ev at m back h) fs l =
      revoked_then Cpu fresh act z (run Cpu fresh act z v es) x p s k (good_run Cpu fresh act z v es (good_first Cpu fresh act v start))
      (subst (λ (b : ℕ). among k (offspring Cpu fresh act (run Cpu fresh act z v es) (run Cpu fresh act z v es).births (b ∷ [])) ≡ true) (sym (birth_of (run Cpu fresh act z v es) p s j h)) (complete z v es start j k made))
      back ready (then (0 ∷ [])) fs o i t c n q (sym (ap (λ (u : World Cpu). get_or (slots_of Cpu fresh act (obj (run Cpu fresh act z u fs) o)) i empty) after) ∙ l)
    where
      after : event Cpu fresh act z (run Cpu fresh act z v es) e ≡ went_on Cpu fresh act (run Cpu fresh act z v es) p then (on x (0 ∷ []))
      after = ap (event Cpu fresh act z (run Cpu fresh act z v es)) ev ∙ (is_call Cpu fresh act z (run Cpu fresh act z v es) p f a d ps rs (revoke s) then at m).0 ∙ ap (went_on Cpu fresh act (run Cpu fresh act z v es) p then) back
