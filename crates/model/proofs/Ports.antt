-- Send and receive: the world in the code's parts does what the abstract world does.
use Rattle.std.proofs.Common.{◌≡◌, ℕ, Bool, true, false, cond, not, ◌&&◌, leb, List, [], ◌∷◌, sym, refl, ap, ◌∙◌, Some, None, Option}
use Rattle.std.specs.Option.{is_none}
use Rattle.std.proofs.lemmas.List.{map-append}
use Rattle.rights.specs.declared.answers.Answer.{Answer}
use Rattle.rights.specs.declared.answers.Answer.TheVariants.{Done, Received}
use Rattle.rights.specs.Vocabulary.{four, words}
use Rattle.rights.specs.World as w
use Rattle.rv32.specs.declared.registers.Cpu.{Cpu}
use Rattle.rv32.specs.Registers.{fresh}
use Rattle.rv32.specs.Execute.{act}
use Rattle.model.specs.declared.objects.Capability.{Capability}
use Rattle.model.specs.declared.objects.Letter.{Letter}
use Rattle.model.specs.declared.objects.State.{State}
use Rattle.model.specs.declared.objects.State.TheVariants.{Stopped, Ready, Waits}
use Rattle.model.specs.declared.objects.Wait.{Wait}
use Rattle.model.specs.declared.objects.Wait.TheVariants.{Sender, Receiver}
use Rattle.model.specs.Plain as p
use Rattle.model.specs.Calls as calls
use Rattle.model.specs.Meaning.{slot_of, number_of, wait_of, object_of, world_of, went_of}
use Rattle.model.proofs.Agree.{with_object, slot, with_slot, goes, waits, less_one, at_world, put_world, slot_world, free_world, empty_world, with_world, full_has, free_has}
use Rattle.model.proofs.Same.{does, refused, flip, only_is}
use Rattle.model.proofs.Slots.{tabled_after}

-- handing on
pub handed_world : (v : p.Whole) (h : Bool) (q s r d : ℕ) → world_of (calls.handed v h q s r d) ≡ w.handed Cpu fresh act (world_of v) h q s r d
unfolding w.handed
handed_world v h q s r d =
    both h (is_none (p.slot v q s)) (p.free v r d) _ _ refl refl (empty_world (p.slot v q s) ∙ ap w.is_empty (slot_world v q s)) (free_world v r d)
  where
    done : is_none (p.slot v q s) ≡ false → p.free v r d ≡ true →
        world_of (p.with_slot (p.with_slot v r d (p.slot v q s)) q s None) ≡ with_slot (with_slot (world_of v) r d (slot (world_of v) q s)) q s w.empty
    done e f =
        with_world (p.with_slot v r d (p.slot v q s)) q s None (tabled_after v r q d (p.slot v q s) (full_has v q s e))
        ∙ ap (λ u. with_slot u q s w.empty) (with_world v r d (p.slot v q s) (free_has v r d f) ∙ ap (with_slot (world_of v) r d) (slot_world v q s))

    both : (a b c e f : Bool) → b ≡ is_none (p.slot v q s) → c ≡ p.free v r d → b ≡ e → c ≡ f →
        world_of (cond (a && (not b && c)) (p.with_slot (p.with_slot v r d (p.slot v q s)) q s None) v)
        ≡ w.pick (a && (not e && f)) (with_slot (with_slot (world_of v) r d (slot (world_of v) q s)) q s w.empty) (world_of v)
    both true false true e f x y i j = rw (sym i, sym j) (done (sym x) (sym y))
    both true false false e f x y i j = rw (sym i, sym j) refl
    both true true c e f x y i j = rw (sym i) refl
    both false b c e f x y i j = refl

resumed_one_world : (x : p.Thing) (a : Answer) →
    object_of (calls.resumed_one x a) ≡ w.set_state Cpu fresh act (object_of x) w.ready (w.then_of Cpu fresh act (object_of x) (words a) (fresh 0))
unfolding w.then_of w.set_state
resumed_one_world (p.thread t) a = by t.state
  where
    by : (s : State) → object_of (p.thread (calls.with_state t Ready (calls.then_of s t.cpu a)))
        ≡ w.set_state Cpu fresh act (object_of (p.thread (calls.with_state t s t.cpu))) w.ready (w.then_of Cpu fresh act (object_of (p.thread (calls.with_state t s t.cpu))) (words a) (fresh 0))
    by Stopped = refl
    by Ready = refl
    by (Waits o) = refl
resumed_one_world _ a = refl

pub resumed_world : (v : p.Whole) (t : ℕ) (a : Answer) → world_of (calls.resumed v t a) ≡ w.resumed Cpu fresh act (world_of v) t (words a)
unfolding w.resumed
resumed_world v t a =
    put_world v t (calls.resumed_one (p.object v t) a)
    ∙ ap (with_object (world_of v) t)
    (resumed_one_world (p.object v t) a ∙ ap (λ x. w.set_state Cpu fresh act x w.ready (w.then_of Cpu fresh act x (words a) (fresh 0))) (at_world v t))

-- one more waits, or the first is served, at the object x with number o
joined_world : (v : p.Whole) (o : ℕ) (x : p.Thing) (u : Wait) → x ≡ p.object v o →
    world_of (p.with_object v o (calls.joined (p.object v o) u)) ≡ with_object (world_of v) o (object_of (calls.joined x u))
joined_world v o x u e = put_world v o _ ∙ ap (λ y. with_object (world_of v) o (object_of (calls.joined y u))) (sym e)

served_world : (v : p.Whole) (o : ℕ) (x : p.Thing) → x ≡ p.object v o →
    world_of (p.with_object v o (calls.served (p.object v o))) ≡ with_object (world_of v) o (object_of (calls.served x))
served_world v o x e = put_world v o _ ∙ ap (λ y. with_object (world_of v) o (object_of (calls.served y))) (sym e)

-- a meeting
met_world : (v : p.Whole) (o : ℕ) (x : p.Thing) (y : Letter) (r d t : ℕ) (a : Answer) → x ≡ p.object v o →
    world_of (calls.resumed (calls.handed (p.with_object v o (calls.served (p.object v o))) (calls.may_hand_on y) y.thread y.slot r d) t a)
    ≡ w.resumed Cpu fresh act (w.handed Cpu fresh act (with_object (world_of v) o (object_of (calls.served x))) (y.hands_on && leb y.slot 4095) y.thread y.slot r d) t (words a)
met_world v o x y r d t a e =
    resumed_world (calls.handed (p.with_object v o (calls.served (p.object v o))) (calls.may_hand_on y) y.thread y.slot r d) t a
    ∙ ap (λ u. w.resumed Cpu fresh act u t (words a))
    (handed_world (p.with_object v o (calls.served (p.object v o))) (calls.may_hand_on y) y.thread y.slot r d
    ∙ ap (λ u. w.handed Cpu fresh act u (y.hands_on && leb y.slot 4095) y.thread y.slot r d) (served_world v o x e))

send_at_world : (v : p.Whole) (o : ℕ) (y : Letter) (x : p.Thing) → x ≡ p.object v o →
    went_of (calls.send_by v o y (calls.first x)) ≡ w.sending Cpu fresh act (world_of v) y.thread o y.badge (four y.words) y.hands_on (leb y.slot 4095) y.slot (object_of x)
unfolding w.sending w.refuse
send_at_world v o y (p.port f []) e = ap (λ u. waits u o) (joined_world v o (p.port f []) (Sender y) e)
send_at_world v o y (p.port f (Sender z ∷ l)) e =
    ap (λ u. waits u o) (joined_world v o (p.port f (Sender z ∷ l)) (Sender y) e
    ∙ ap (λ u. with_object (world_of v) o (w.port (number_of f) (wait_of (Sender z) ∷ u))) (map-append wait_of l (Sender y ∷ [])))
send_at_world v o y (p.port f (Receiver t d ∷ l)) e =
    ap (λ u. goes u (0 ∷ [])) (met_world v o (p.port f (Receiver t d ∷ l)) y t d t (Received y.badge y.words) e)
send_at_world v o y _ e = refl

send_with : (v : p.Whole) (q s g : ℕ) (ws : List ℕ) (x : Option Capability) → slot_of x ≡ slot (world_of v) q s →
    went_of (p.on_some x (p.refuse v) (λ c. cond (calls.writes c) (calls.send_at v c.object (calls.letter q c ws g)) (p.refuse v)))
    ≡ does (world_of v) q (w.send s (four ws) (leb g 4095) g)
unfolding w.does w.is_empty w.slot_rights w.slot_object w.slot_badge w.refuse
send_with v q s g ws None e = rw (sym e) refl
send_with v q s g ws (Some c) e =
    rw (sym e, less_one c.object)
    (flip (calls.writes c) _ _ ∙ ap (w.pick (not (calls.writes c)) (refused (world_of v)))
    (send_at_world v c.object (calls.letter q c ws g) (p.object v c.object) refl
    ∙ ap (w.sending Cpu fresh act (world_of v) q c.object c.badge (four ws) (calls.hands c) (leb g 4095) g) (at_world v c.object)))

pub send_same : (v : p.Whole) (q s g : ℕ) (ws : List ℕ) → went_of (calls.send v q s g ws) ≡ does (world_of v) q (w.send s (four ws) (leb g 4095) g)
send_same v q s g ws = ap went_of (only_is calls.writes (p.slot v q s) (p.refuse v) (λ c. calls.send_at v c.object (calls.letter q c ws g))) ∙ send_with v q s g ws (p.slot v q s) (slot_world v q s)

receive_at_world : (v : p.Whole) (q o d : ℕ) (x : p.Thing) → x ≡ p.object v o →
    went_of (calls.receive_by v q o d (calls.first x)) ≡ w.receiving Cpu fresh act (world_of v) q o d (object_of x)
unfolding w.receiving w.refuse
receive_at_world v q o d (p.port f []) e = ap (λ u. waits u o) (joined_world v o (p.port f []) (Receiver q d) e)
receive_at_world v q o d (p.port f (Receiver t r ∷ l)) e =
    ap (λ u. waits u o) (joined_world v o (p.port f (Receiver t r ∷ l)) (Receiver q d) e
    ∙ ap (λ u. with_object (world_of v) o (w.port (number_of f) (wait_of (Receiver t r) ∷ u))) (map-append wait_of l (Receiver q d ∷ [])))
receive_at_world v q o d (p.port f (Sender y ∷ l)) e =
    ap (λ u. goes u (0 ∷ y.badge ∷ four y.words)) (met_world v o (p.port f (Sender y ∷ l)) y q d y.thread Done e)
receive_at_world v q o d _ e = refl

receive_with : (v : p.Whole) (q s d : ℕ) (x : Option Capability) → slot_of x ≡ slot (world_of v) q s →
    went_of (p.on_some x (p.refuse v) (λ c. cond (calls.reads c) (calls.receive_at v q c.object d) (p.refuse v))) ≡ does (world_of v) q (w.receive s d)
unfolding w.does w.is_empty w.slot_rights w.slot_object w.refuse
receive_with v q s d None e = rw (sym e) refl
receive_with v q s d (Some c) e =
    rw (sym e, less_one c.object)
    (flip (calls.reads c) _ _ ∙ ap (w.pick (not (calls.reads c)) (refused (world_of v)))
    (receive_at_world v q c.object d (p.object v c.object) refl ∙ ap (w.receiving Cpu fresh act (world_of v) q c.object d) (at_world v c.object)))

pub receive_same : (v : p.Whole) (q s d : ℕ) → went_of (calls.receive v q s d) ≡ does (world_of v) q (w.receive s d)
receive_same v q s d = ap went_of (only_is calls.reads (p.slot v q s) (p.refuse v) (λ c. calls.receive_at v q c.object d)) ∙ receive_with v q s d (p.slot v q s) (slot_world v q s)
