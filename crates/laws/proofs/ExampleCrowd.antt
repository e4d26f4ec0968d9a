-- The world with three threads at one port is a start, and the first who came is met first.
use mathlib.Core.Path.{◌≡◌, refl, sym, ap, subst, ◌∙◌}
use mathlib.Core.Bool.{Bool, true}
use mathlib.Core.List.{List, [], ◌∷◌}
use Prim.Native.Nat.{ℕ, zero, suc}
use native.Mathlib.Omega.{arith}
use lib.ListN.{get_or}
use Rattle.rv32.specs.declared.registers.Cpu.{Cpu}
use Rattle.rv32.specs.Registers.{fresh}
use Rattle.rights.specs.World.{Rights, empty, cap, Wait, State, ready, waits, Object, gone, port, table, thread, object, with_object, slots_of, from_of, table_of, slot, is_empty, slot_rights, slot_badge, slot_object, set_state, sending, receiving, does, seen, went_on, acts, ticked, event, run, waits_thread}
use Rattle.rights.specs.Promise.{Parted, Kinds, Uncut, met_at, log, event_noted, tick_noted, act_noted, call_noted, send_noted, receive_noted, port_at, first_at, first_of, row_of}
use Rattle.laws.specs.Examples.{all, crowd, queues, Queues}
use Rattle.laws.proofs.Tests.{clash}

abbrev obj : ℕ → Object Cpu
obj o = object Cpu fresh queues crowd o

-- only slot 0 of object 1 is full
full : (o i u b j m : ℕ) (q : Rights) → get_or (slots_of Cpu fresh queues (obj o)) i empty ≡ cap u q b j m → (o ≡ 1) × (i ≡ 0) × (u ≡ 0) × (j ≡ 1) × (m ≡ 0)
unfolding slots_of object
full zero i u b j m q e = clash (cc)
full (suc zero) zero u b j m q e = (refl, refl, cc, cc, cc)
full (suc zero) (suc i) u b j m q e = clash (cc)
full (suc (suc zero)) i u b j m q e = clash (cc)
full (suc (suc (suc zero))) i u b j m q e = clash (cc)
full (suc (suc (suc (suc zero)))) i u b j m q e = clash (cc)
full (suc (suc (suc (suc (suc o))))) i u b j m q e = clash (cc)

threads_are : (o f t : ℕ) (s : State Cpu) (c : Cpu) (ps : List ℕ) (rs : List Bool) → obj o ≡ thread f s c t ps rs → (f ≡ 0) × (s ≡ ready) × (t ≡ 2) × (ps ≡ [])
unfolding object
threads_are zero f t s c ps rs e = clash (cc)
threads_are (suc zero) f t s c ps rs e = clash (cc)
threads_are (suc (suc zero)) f t s c ps rs e = (cc, cc, cc, cc)
threads_are (suc (suc (suc zero))) f t s c ps rs e = (cc, cc, cc, cc)
threads_are (suc (suc (suc (suc zero)))) f t s c ps rs e = (cc, cc, cc, cc)
threads_are (suc (suc (suc (suc (suc o))))) f t s c ps rs e = clash (cc)

ports_are : (o f : ℕ) (ws : List Wait) → obj o ≡ port f ws → ws ≡ []
unfolding object
ports_are zero f ws e = cc
ports_are (suc zero) f ws e = clash (cc)
ports_are (suc (suc zero)) f ws e = clash (cc)
ports_are (suc (suc (suc zero))) f ws e = clash (cc)
ports_are (suc (suc (suc (suc zero)))) f ws e = clash (cc)
ports_are (suc (suc (suc (suc (suc o))))) f ws e = clash (cc)

uncut_all : (o : ℕ) → from_of Cpu fresh queues (obj o) ≡ 0
unfolding object from_of
uncut_all zero = refl
uncut_all (suc zero) = refl
uncut_all (suc (suc zero)) = refl
uncut_all (suc (suc (suc zero))) = refl
uncut_all (suc (suc (suc (suc zero)))) = refl
uncut_all (suc (suc (suc (suc (suc o))))) = refl

nothing_at : (k u : ℕ) → get_or {A = ℕ} [] k 0 ≡ suc u → ⊥
nothing_at k u e = omega arith

is_there : (u : ℕ) → u ≡ 0 → obj u ≡ gone → ⊥
unfolding object
is_there u e g = let h : obj 0 ≡ gone = ap obj (sym e) ∙ g in clash (cc)

table_there : (t : ℕ) → suc t ≡ 2 → obj t ≡ table 0 (cap 0 all 0 1 0 ∷ [])
unfolding object
table_there t e = let h : t ≡ 1 = omega arith in ap obj h

pub crowd_parted : Parted Cpu fresh queues (λ o. true) crowd
crowd_parted =
    record {
      held = λ o i u b j m q e. let h = full o i u b j m q e in (refl, h.4, is_there u h.2);
      tables = λ o f t s c ps rs e. let h = threads_are o f (suc t) s c ps rs e in (refl, λ g. let k = table_there t h.2 in clash (cc));
      spaces = λ o f t k u s c ps rs e g. let h = threads_are o f t s c ps rs e in absurd (nothing_at k u (subst (λ (xs : List ℕ). get_or xs k 0 ≡ suc u) h.3 g));
      from = λ o u e. let h = uncut_all o in absurd (omega arith);
      once = λ o i u b j m p k v c n r q e g. let h = full o i u b j m r e in let l = full p k v c j n q g in (h.0 ∙ sym l.0, h.1 ∙ sym l.1);
      born = λ o i u b j m q e. let h = full o i u b j m q e in let l = h.3 in (omega arith, omega arith);
      nothing_made = refl;
      calm = ports_are;
      awake = λ o f t u c ps rs then e. let h = threads_are o f t (waits u then) c ps rs e in let l = h.1 in clash (cc);
    }

pub crowd_kinds : Kinds Cpu fresh queues crowd
crowd_kinds =
    record {
      its_table = λ o f t s c ps rs e. let h = threads_are o f (suc t) s c ps rs e in (0, cap 0 all 0 1 0 ∷ [], table_there t h.2);
      its_pages = λ o f t k u s c ps rs e g. let h = threads_are o f t s c ps rs e in absurd (nothing_at k u (subst (λ (xs : List ℕ). get_or xs k 0 ≡ suc u) h.3 g));
      its_pool = λ o u e. let h = uncut_all o in absurd (omega arith);
    }

pub crowd_uncut : Uncut Cpu fresh queues crowd
unfolding Uncut
crowd_uncut o f t s c ps rs e = (threads_are o f t s c ps rs e).0

pub in_order : Queues
unfolding met_at log event_noted tick_noted act_noted call_noted send_noted receive_noted port_at first_at first_of row_of slot object table_of slots_of run event ticked acts does went_on with_object set_state is_empty slot_rights slot_badge slot_object seen sending receiving waits_thread
in_order = (crowd_parted, crowd_kinds, crowd_uncut, refl)
