-- The calls over the world in the code's own parts, but for those that sweep. Assumes nothing: these are definitions.
use Rattle.std.specs.Prelude.{ℕ, suc, ◌+◌, ◌-◌, ◌*◌, ◌%◌, Bool, true, false, cond, not, ◌&&◌, List, [], ◌∷◌, ◌++◌, length, replicate, Some, None, Option, ◌==◌, nat_le, nat_lt, slice_set}
use Rattle.std.specs.Option.{is_none}
use Rattle.rights.specs.declared.answers.Answer.{Answer}
use Rattle.rights.specs.declared.answers.Answer.TheVariants.{No, Done, Heard, Received}
use Rattle.rights.specs.declared.bits.Rights.{Rights}
use Rattle.rights.specs.declared.calls.NewObject.{NewObject}
use Rattle.rights.specs.declared.calls.NewObject.TheVariants as new
use Rattle.rights.specs.Vocabulary.{rights_of, met, all_three, words}
use Rattle.rv32.specs.declared.registers.Cpu.{Cpu}
use Rattle.rv32.specs.Registers.{fresh, returned}
use Rattle.model.specs.declared.objects.Capability.{Capability}
use Rattle.model.specs.declared.objects.Letter.{Letter}
use Rattle.model.specs.declared.objects.Mapping.{Mapping}
use Rattle.model.specs.declared.objects.State.{State}
use Rattle.model.specs.declared.objects.State.TheVariants.{Stopped, Ready, Waits}
use Rattle.model.specs.declared.objects.Thread.{Thread}
use Rattle.model.specs.declared.objects.Wait.{Wait}
use Rattle.model.specs.declared.objects.Wait.TheVariants.{Sender, Receiver}
use Rattle.model.specs.Plain.{Thing, pool, table, port, page, thread, line, Whole, on_pool, on_table, on_port, on_page, on_thread, on_line, on_some, mapping_of, unmapped, page_at, object, with_object, slot, free, with_slot, Left, left, Ended, on, wait, refuse, done, change}

-- the rights of a capability
abbrev pub reads : Capability → Bool
reads c = (rights_of c.rights).reads

abbrev pub writes : Capability → Bool
writes c = (rights_of c.rights).writes

abbrev pub hands : Capability → Bool
hands c = (rights_of c.rights).hands

-- what a slot of a thread holds, if its rights say reads, or writes
abbrev pub only : (Capability → Bool) → Option Capability → Option Capability
only f None = None
only f (Some c) = cond (f c) (Some c) None

abbrev pub readable : Whole → ℕ → ℕ → Option Capability
readable w p s = only reads (slot w p s)

abbrev pub writable : Whole → ℕ → ℕ → Option Capability
writable w p s = only writes (slot w p s)

-- LINES: say and hear
abbrev pub says : ℕ → Thing → Left
says b x = on_line x (left x No) (λ xs ys. left (line (xs ++ b ∷ []) ys) Done)

abbrev pub heard_by : List ℕ → List ℕ → Left
heard_by xs [] = left (line xs []) No
heard_by xs (y ∷ ys) = left (line xs ys) (Heard y)

abbrev pub hears : Thing → Left
hears x = on_line x (left x No) heard_by

abbrev pub say : Whole → ℕ → ℕ → ℕ → Ended
say w p s b = on_some (writable w p s) (refuse w) (λ c. change w c.object (says (b % 256) (object w c.object)))

abbrev pub hear : Whole → ℕ → ℕ → Ended
hear w p s = on_some (readable w p s) (refuse w) (λ c. change w c.object (hears (object w c.object)))

-- a byte comes in at a line; one beyond 1,024 is lost
abbrev pub comes_in : ℕ → Thing → Thing
comes_in b x = on_line x x (λ xs ys. line xs (cond (nat_lt (length ys) 1024) (ys ++ b ∷ []) ys))

-- SLOTS: drop, move, copy
abbrev pub drop_it : Whole → ℕ → ℕ → Ended
drop_it w p s = on_some (slot w p s) (refuse w) (λ c. done (with_slot w p s None))

abbrev pub move : Whole → ℕ → ℕ → ℕ → Ended
move w p s d = on_some (slot w p s) (refuse w) (λ c. cond (free w p d) (done (with_slot (with_slot w p d (Some c)) p s None)) (refuse w))

-- one more capability was made
abbrev pub born : Whole → Option Capability → Whole
born w x = record { things = w.things; births = suc w.births; lineage = w.lineage ++ x ∷ [] }

abbrev pub copied : Capability → Rights → ℕ → ℕ → Capability
copied c r b i = record { object = c.object; rights = met c.rights r; badge = cond (c.badge == 0) b c.badge; birth = i; mother = c.birth }

abbrev pub copy : Whole → ℕ → ℕ → ℕ → Rights → ℕ → Ended
copy w p s d r b =
    on_some (slot w p s) (refuse w)
    (λ c. cond (hands c && free w p d) (done (with_slot (born w (Some (copied c r b (suc w.births)))) p d (Some (copied c r b (suc w.births))))) (refuse w))

-- THREADS: go, bind, map, unmap
abbrev pub is_stopped : State → Bool
is_stopped Stopped = true
is_stopped _ = false

abbrev pub with_state : Thread → State → Cpu → Thread
with_state t s c = record { state = s; cpu = c; table = t.table; pages = t.pages }

abbrev pub with_table : Thread → ℕ → Thread
with_table t n = record { state = t.state; cpu = t.cpu; table = Some n; pages = t.pages }

abbrev pub with_page : Thread → ℕ → Mapping → Thread
with_page t a m = record { state = t.state; cpu = t.cpu; table = t.table; pages = slice_set t.pages a m }

abbrev pub starts : ℕ → Thing → Left
starts a x = on_thread x (left x No) (λ t. cond (is_stopped t.state) (left (thread (with_state t Ready (fresh a))) Done) (left x No))

abbrev pub binds : ℕ → Thing → Left
binds n x = on_thread x (left x No) (λ t. cond (is_stopped t.state) (left (thread (with_table t n)) Done) (left x No))

abbrev pub maps : ℕ → ℕ → Bool → Thing → Left
maps a q m x =
    on_thread x (left x No)
    (λ t. cond (nat_lt a 64 && is_none (page_at t.pages a)) (left (thread (with_page t a (mapping_of (Some q) m))) Done) (left x No))

abbrev pub unmaps : ℕ → Thing → Left
unmaps a x = on_thread x (left x No) (λ t. cond (nat_lt a 64) (left (thread (with_page t a unmapped)) Done) (left x No))

abbrev pub is_page : Thing → Bool
is_page x = on_page x false (λ f bs. true)

abbrev pub is_table : Thing → Bool
is_table x = on_table x false (λ f ss. true)

abbrev pub is_pool : Thing → Bool
is_pool x = on_pool x false (λ f n u. true)

abbrev pub go : Whole → ℕ → ℕ → ℕ → Ended
go w p t a = on_some (writable w p t) (refuse w) (λ c. change w c.object (starts a (object w c.object)))

abbrev pub bind : Whole → ℕ → ℕ → ℕ → Ended
bind w p t s =
    on_some (writable w p s) (refuse w) (λ d. on_some (writable w p t) (refuse w)
    (λ c. cond (is_table (object w d.object)) (change w c.object (binds d.object (object w c.object))) (refuse w)))

abbrev pub map : Whole → ℕ → ℕ → ℕ → ℕ → Ended
map w p s t a =
    on_some (readable w p s) (refuse w) (λ c. on_some (writable w p t) (refuse w)
    (λ d. cond (is_page (object w c.object)) (change w d.object (maps a c.object (writes c) (object w d.object))) (refuse w)))

abbrev pub unmap : Whole → ℕ → ℕ → ℕ → Ended
unmap w p t a = on_some (writable w p t) (refuse w) (λ c. change w c.object (unmaps a (object w c.object)))

-- PORTS: send and receive. Who waits first at an object
abbrev pub first_of : List Wait → Option Wait
first_of [] = None
first_of (x ∷ q) = Some x

-- none for what is no port
abbrev pub first : Thing → Option (Option Wait)
first x = on_port x None (λ f q. Some (first_of q))

abbrev pub joined : Thing → Wait → Thing
joined x u = on_port x x (λ f q. port f (q ++ u ∷ []))

abbrev pub rest : List Wait → List Wait
rest [] = []
rest (x ∷ q) = q

abbrev pub served : Thing → Thing
served x = on_port x x (λ f q. port f (rest q))

-- a thread that waits goes on with an answer; its registers were kept
abbrev pub then_of : State → Cpu → Answer → Cpu
then_of (Waits o) c a = returned c (words a)
then_of _ c a = c

abbrev pub resumed_one : Thing → Answer → Thing
resumed_one x a = on_thread x x (λ t. thread (with_state t Ready (then_of t.state t.cpu a)))

abbrev pub resumed : Whole → ℕ → Answer → Whole
resumed w t a = with_object w t (resumed_one (object w t) a)

-- slot s of thread p goes to slot d of thread q, if it may, there is something in it and d is there and empty
abbrev pub handed : Whole → Bool → ℕ → ℕ → ℕ → ℕ → Whole
handed w h p s q d = cond (h && (not (is_none (slot w p s)) && free w q d)) (with_slot (with_slot w q d (slot w p s)) p s None) w

-- whether a letter hands on what is in its slot: by the right, and a number that is a slot's
abbrev pub may_hand_on : Letter → Bool
may_hand_on x = x.hands_on && nat_le x.slot 4095

abbrev pub waiting : Whole → ℕ → Wait → Ended
waiting w o u = wait (with_object w o (joined (object w o) u)) o

abbrev pub send_by : Whole → ℕ → Letter → Option (Option Wait) → Ended
send_by w o x None = refuse w
send_by w o x (Some (Some (Receiver t d))) = done (resumed (handed (with_object w o (served (object w o))) (may_hand_on x) x.thread x.slot t d) t (Received x.badge x.words))
send_by w o x _ = waiting w o (Sender x)

abbrev pub send_at : Whole → ℕ → Letter → Ended
send_at w o x = send_by w o x (first (object w o))

abbrev pub letter : ℕ → Capability → List ℕ → ℕ → Letter
letter p c ws g = record { thread = p; badge = c.badge; words = ws; hands_on = hands c; slot = g }

abbrev pub send : Whole → ℕ → ℕ → ℕ → List ℕ → Ended
send w p s g ws = on_some (writable w p s) (refuse w) (λ c. send_at w c.object (letter p c ws g))

abbrev pub receive_by : Whole → ℕ → ℕ → ℕ → Option (Option Wait) → Ended
receive_by w p o d None = refuse w
receive_by w p o d (Some (Some (Sender x))) =
    on (resumed (handed (with_object w o (served (object w o))) (may_hand_on x) x.thread x.slot p d) x.thread Done) (Received x.badge x.words)
receive_by w p o d _ = waiting w o (Receiver p d)

abbrev pub receive_at : Whole → ℕ → ℕ → ℕ → Ended
receive_at w p o d = receive_by w p o d (first (object w o))

abbrev pub receive : Whole → ℕ → ℕ → ℕ → Ended
receive w p s d = on_some (readable w p s) (refuse w) (λ c. receive_at w p c.object d)

-- POOLS: cut. What an object costs, and to which multiple its pool is filled up before
abbrev pub cost : NewObject → ℕ
cost (new.Pool n) = n * 4096
cost (new.Table n) = n * 64
cost new.Port = 64
cost new.Page = 4096

abbrev pub filling : NewObject → ℕ
filling (new.Pool n) = 4096
filling (new.Table n) = 64
filling new.Port = 64
filling new.Page = 4096

abbrev pub right : NewObject → Bool
right (new.Pool n) = nat_lt 0 n && nat_le n 4096
right (new.Table n) = nat_lt 0 n && nat_le n 4096
right _ = true

abbrev pub up_to : ℕ → ℕ → ℕ
up_to s n = cond (n % s == 0) n (n + (s - n % s))

-- how much of a pool is used after
abbrev pub used_after : NewObject → ℕ → ℕ
used_after k u = up_to (filling k) u + cost k

abbrev pub new_thing : ℕ → NewObject → Thing
new_thing o (new.Pool n) = pool (Some o) (n * 4096) 0
new_thing o (new.Table n) = table (Some o) (replicate n None)
new_thing o new.Port = port (Some o) []
new_thing o new.Page = page (Some o) (replicate 4096 0)

abbrev pub grown : Whole → Thing → Whole
grown w x = record { things = w.things ++ x ∷ []; births = w.births; lineage = w.lineage }

abbrev pub newborn : Whole → ℕ → Capability
newborn w m = record { object = length w.things; rights = all_three; badge = 0; birth = suc w.births; mother = m }
