-- The abstract world: objects that threads reach by what they hold, and by nothing else.
-- There are no addresses, frames, page tables or queues of memory in it. Objects have numbers in the order in which they came to be,
-- and no number is used again. The core is a parameter: what the instruction at hand does, given its registers and the bytes of its space.
-- Assumes nothing: these are definitions.
use Rattle.std.specs.Prelude.{ℕ, zero, suc, ◌+◌, ◌-◌, ◌*◌, ◌/◌, ◌%◌, Bool, true, false, not, ◌&&◌, ◌||◌, List, [], ◌∷◌, ◌++◌, length, take, replicate, ◌==◌, nat_le, nat_lt, slice_index, slice_index_or, slice_set}

-- one of two things, by a test
abbrev pub pick : {A : Type 0} → Bool → A → A → A
pick true a b = a
pick false a b = b

-- the smaller of two numbers
abbrev pub lesser : ℕ → ℕ → ℕ
lesser a b = pick (nat_lt a b) a b

-- the first word that comes back from a call that can't be done
abbrev pub no : ℕ
no = 4294967295

-- a list without its first n elements
unfoldable pub drop : {A : Type 0} → ℕ → List A → List A
drop zero xs = xs
drop (suc n) [] = []
drop (suc n) (x ∷ xs) = drop n xs

-- a list with other bytes written over it from a place on
unfoldable pub over : List ℕ → ℕ → List ℕ → List ℕ
over xs zero ys = ys ++ drop (length ys) xs
over [] (suc a) ys = 0 ∷ over [] a ys
over (x ∷ xs) (suc a) ys = x ∷ over xs a ys

-- rights: may read, may write or send, may hand on
pub record Rights : Type 0 where
  pub reads : Bool
  pub writes : Bool
  pub hands : Bool

-- the rights that are in both
unfoldable pub meet : Rights → Rights → Rights
meet a b = record { reads = a.reads && b.reads; writes = a.writes && b.writes; hands = a.hands && b.hands }

-- a slot holds nothing, or a capability: an object, rights, a badge, its own birth number, and that of the one it was made from (0 for none)
pub data Slot : Type 0 where
  empty : Slot
  cap : ℕ → Rights → ℕ → ℕ → ℕ → Slot

-- what can be cut from a pool: a kind, and how many frames or slots it has
pub data Kind : Type 0 where
  a_pool : ℕ → Kind
  a_table : ℕ → Kind
  a_port : Kind
  a_page : Kind

-- what a thread does, as the core sees it. Slots are numbers in the thread's table
pub data Call : Type 0 where
  cut : ℕ → Kind → ℕ → Call
  copy : ℕ → ℕ → Rights → ℕ → Call
  move : ℕ → ℕ → Call
  drop_it : ℕ → Call
  revoke : ℕ → Call
  send : ℕ → List ℕ → Bool → ℕ → Call
  receive : ℕ → ℕ → Call
  map : ℕ → ℕ → ℕ → Call
  unmap : ℕ → ℕ → Call
  bind : ℕ → ℕ → Call
  go : ℕ → ℕ → Call
  say : ℕ → ℕ → Call
  hear : ℕ → Call

-- what an instruction does: nothing that others see, a store of bytes at an address, a call with what the core is once words come back, or something wrong
pub data Act (Cpu : Type 0) : Type 0 where
  quiet : Cpu → Act Cpu
  store : ℕ → List ℕ → Cpu → Act Cpu
  call : Call → (List ℕ → Cpu) → Act Cpu
  wrong : Act Cpu

-- who waits at a port: a sender with badge, words and perhaps the slot it hands on; a receiver with the slot for it
pub data Wait : Type 0 where
  sender : ℕ → ℕ → List ℕ → Bool → Bool → ℕ → Wait
  receiver : ℕ → ℕ → Wait

-- a thread is stopped, ready, or waits at a port and goes on with the words that come back
pub data State (Cpu : Type 0) : Type 0 where
  stopped : State Cpu
  ready : State Cpu
  waits : ℕ → (List ℕ → Cpu) → State Cpu

-- objects; the first number is the pool that an object was cut from, its own number + 1, 0 for those of the start.
-- A thread has a table (its number + 1, 0 for none) and a space: for each page of addresses a page object's number + 1, or 0, and whether it may be written
pub data Object (Cpu : Type 0) : Type 0 where
  gone : Object Cpu
  pool : ℕ → ℕ → ℕ → Object Cpu
  table : ℕ → List Slot → Object Cpu
  port : ℕ → List Wait → Object Cpu
  page : ℕ → List ℕ → Object Cpu
  thread : ℕ → State Cpu → Cpu → ℕ → List ℕ → List Bool → Object Cpu
  line : List ℕ → List ℕ → Object Cpu

-- bytes of a page, pages of a space, and how many bytes can wait at a line
pub record Sizes : Type 0 where
  pub bytes : ℕ
  pub pages : ℕ
  pub heard : ℕ

-- births: the last birth number given; lineage: every capability that was made from another, as it was made, also when it is in no slot any more
pub record World (Cpu : Type 0) : Type 0 where
  pub objects : List (Object Cpu)
  pub births : ℕ
  pub lineage : List Slot

-- a thread's instruction has its time, or a byte comes in at a line
pub data Event : Type 0 where
  tick : ℕ → Event
  byte : ℕ → ℕ → Event

-- what an object costs of its pool, and to which multiple the pool is filled up before it
unfoldable pub cost : Sizes → Kind → ℕ
cost z (a_pool n) = n * z.bytes
cost z (a_table n) = n * 64
cost z a_port = 64
cost z a_page = z.bytes

unfoldable pub step_of : Sizes → Kind → ℕ
step_of z (a_pool n) = z.bytes
step_of z (a_table n) = 64
step_of z a_port = 64
step_of z a_page = z.bytes

-- the next multiple of s from n on
unfoldable pub up_to : ℕ → ℕ → ℕ
up_to s n = pick (n % s == 0) n (n + (s - (n % s)))

-- what a slot holds: its object's number + 1, its rights, its badge, its birth and the birth that it was made from; of an empty one nothing
unfoldable pub slot_object : Slot → ℕ
slot_object empty = 0
slot_object (cap o r b i m) = suc o

unfoldable pub slot_rights : Slot → Rights
slot_rights empty = record { reads = false; writes = false; hands = false }
slot_rights (cap o r b i m) = r

unfoldable pub slot_badge : Slot → ℕ
slot_badge empty = 0
slot_badge (cap o r b i m) = b

unfoldable pub slot_birth : Slot → ℕ
slot_birth empty = 0
slot_birth (cap o r b i m) = i

unfoldable pub slot_mother : Slot → ℕ
slot_mother empty = 0
slot_mother (cap o r b i m) = m

-- whether a slot is empty
unfoldable pub is_empty : Slot → Bool
is_empty empty = true
is_empty (cap o r b i m) = false

-- what a copy of a slot is: the same object, fewer rights, the badge that is there or the new one, made from it
unfoldable pub copied : Slot → Rights → ℕ → ℕ → Slot
copied empty r b i = empty
copied (cap o q c j m) r b i = cap o (meet q r) (pick (c == 0) b c) i j

-- more than 4,096 frames or slots are asked for
unfoldable pub too_many : Kind → Bool
too_many (a_pool n) = nat_lt 4096 n
too_many (a_table n) = nat_lt 4096 n
too_many a_port = false
too_many a_page = false

-- whether a number is in a list
unfoldable pub among : ℕ → List ℕ → Bool
among c [] = false
among c (d ∷ ds) = c == d || among c ds

module _ (Cpu : Type 0) (fresh : ℕ → Cpu) (act : Cpu → (ℕ → ℕ) → Act Cpu) where
  -- the object with a number; what was never there is gone
  unfoldable pub object : World Cpu → ℕ → Object Cpu
  object w o = slice_index_or w.objects o gone

  -- the world with another object in the place of one
  unfoldable pub with_object : World Cpu → ℕ → Object Cpu → World Cpu
  with_object w o x = record { objects = slice_set w.objects o x; births = w.births; lineage = w.lineage }

  -- a table's slots
  unfoldable pub slots_of : Object Cpu → List Slot
  slots_of gone = []
  slots_of (pool f n u) = []
  slots_of (table f ss) = ss
  slots_of (port f ws) = []
  slots_of (page f bs) = []
  slots_of (thread f s c t ps rs) = []
  slots_of (line xs ys) = []

  -- the number + 1 of the pool that an object was cut from, 0 for none
  unfoldable pub from_of : Object Cpu → ℕ
  from_of gone = 0
  from_of (pool f n u) = f
  from_of (table f ss) = f
  from_of (port f ws) = f
  from_of (page f bs) = f
  from_of (thread f s c t ps rs) = f
  from_of (line xs ys) = 0

  -- the number + 1 of a thread's table, 0 for none
  unfoldable pub table_of : Object Cpu → ℕ
  table_of gone = 0
  table_of (pool f n u) = 0
  table_of (table f ss) = 0
  table_of (port f ws) = 0
  table_of (page f bs) = 0
  table_of (thread f s c t ps rs) = t
  table_of (line xs ys) = 0

  -- the slot that number s means for thread p
  unfoldable pub slot : World Cpu → ℕ → ℕ → Slot
  slot w p s = pick (table_of (object w p) == 0) empty (slice_index_or (slots_of (object w (table_of (object w p) - 1))) s empty)

  -- whether thread p's table has a slot with number s
  unfoldable pub has_slot : World Cpu → ℕ → ℕ → Bool
  has_slot w p s = not (table_of (object w p) == 0) && nat_lt s (length (slots_of (object w (table_of (object w p) - 1))))

  -- a table with other slots
  unfoldable pub with_slots : Object Cpu → List Slot → Object Cpu
  with_slots gone ss = gone
  with_slots (pool f n u) ss = pool f n u
  with_slots (table f old) ss = table f ss
  with_slots (port f ws) ss = port f ws
  with_slots (page f bs) ss = page f bs
  with_slots (thread f s c t ps rs) ss = thread f s c t ps rs
  with_slots (line xs ys) ss = line xs ys

  -- the world with x in slot s of thread p's table
  unfoldable pub with_slot : World Cpu → ℕ → ℕ → Slot → World Cpu
  with_slot w p s x =
      with_object w (table_of (object w p) - 1) (with_slots (object w (table_of (object w p) - 1)) (slice_set (slots_of (object w (table_of (object w p) - 1))) s x))

  -- births of the capabilities in a list of slots that were made from one of those in the list ids
  unfoldable pub made_from : List ℕ → List Slot → List ℕ
  made_from ids [] = []
  made_from ids (x ∷ xs) = pick (not (is_empty x) && among (slot_mother x) ids) (slot_birth x ∷ made_from ids xs) (made_from ids xs)

  -- all births that come from those in ids, in n steps
  unfoldable pub offspring : World Cpu → ℕ → List ℕ → List ℕ
  offspring w zero ids = []
  offspring w (suc n) ids = made_from ids w.lineage ++ offspring w n (made_from ids w.lineage)

  -- slots whose capability was born as one of ids, or is to one of the objects os, are emptied
  unfoldable pub emptied : List ℕ → List ℕ → List Slot → List Slot
  emptied ids os [] = []
  emptied ids os (x ∷ xs) = pick (among (slot_birth x) ids || (not (is_empty x) && among (slot_object x - 1) os)) empty x ∷ emptied ids os xs

  -- objects cut from a pool among os, in n steps
  unfoldable pub cut_in : List ℕ → ℕ → List (Object Cpu) → List ℕ
  cut_in os i [] = []
  cut_in os i (x ∷ xs) = pick (not (from_of x == 0) && among (from_of x - 1) os) (i ∷ cut_in os (suc i) xs) (cut_in os (suc i) xs)

  -- all objects cut from pools among os, and from pools among those, in n steps
  unfoldable pub cuttings : World Cpu → ℕ → List ℕ → List ℕ
  cuttings w zero os = []
  cuttings w (suc n) os = cut_in os 0 w.objects ++ cuttings w n (cut_in os 0 w.objects)

  -- the thread that waits
  unfoldable pub waits_thread : Wait → ℕ
  waits_thread (sender t b ws h g s) = t
  waits_thread (receiver t s) = t

  -- those who wait, without the threads among os
  unfoldable pub without_threads : List ℕ → List Wait → List Wait
  without_threads os [] = []
  without_threads os (x ∷ xs) = pick (among (waits_thread x) os) (without_threads os xs) (x ∷ without_threads os xs)

  -- pages that are gone are no longer in a space
  unfoldable pub unmapped : List ℕ → List ℕ → List ℕ
  unmapped os [] = []
  unmapped os (p ∷ ps) = pick (not (p == 0) && among (p - 1) os) 0 p ∷ unmapped os ps

  -- a thread that waits at a port that is gone goes on with the word no
  unfoldable pub woken : List ℕ → State Cpu → Cpu → Object Cpu → Object Cpu
  woken os s c gone = gone
  woken os s c (pool f n u) = pool f n u
  woken os s c (table f ss) = table f ss
  woken os s c (port f ws) = port f ws
  woken os s c (page f bs) = page f bs
  woken os stopped c (thread f q d t ps rs) = thread f stopped c t ps rs
  woken os ready c (thread f q d t ps rs) = thread f ready c t ps rs
  woken os (waits o then) c (thread f q d t ps rs) = pick (among o os) (thread f ready (then (no ∷ [])) t ps rs) (thread f (waits o then) c t ps rs)
  woken os s c (line xs ys) = line xs ys

  -- an object once the births ids and the objects os are gone
  unfoldable pub cleaned : List ℕ → List ℕ → Object Cpu → Object Cpu
  cleaned ids os gone = gone
  cleaned ids os (pool f n u) = pool f n u
  cleaned ids os (table f ss) = table f (emptied ids os ss)
  cleaned ids os (port f ws) = port f (without_threads os ws)
  cleaned ids os (page f bs) = page f bs
  cleaned ids os (thread f s c t ps rs) =
      woken os s c (thread f s c (pick (not (t == 0) && among (t - 1) os) 0 t) (unmapped os ps) rs)
  cleaned ids os (line xs ys) = line xs ys

  -- the same of every object; those among os are gone themselves
  unfoldable pub clean_all : List ℕ → List ℕ → ℕ → List (Object Cpu) → List (Object Cpu)
  clean_all ids os i [] = []
  clean_all ids os i (x ∷ xs) = pick (among i os) gone (cleaned ids os x) ∷ clean_all ids os (suc i) xs

  -- the same of the world
  unfoldable pub cleared : World Cpu → List ℕ → List ℕ → World Cpu
  cleared w ids os = record { objects = clean_all ids os 0 w.objects; births = w.births; lineage = w.lineage }

  -- a pool of which nothing is used
  unfoldable pub refilled : Object Cpu → Object Cpu
  refilled gone = gone
  refilled (pool f n u) = pool f n 0
  refilled (table f ss) = table f ss
  refilled (port f ws) = port f ws
  refilled (page f bs) = page f bs
  refilled (thread f s c t ps rs) = thread f s c t ps rs
  refilled (line xs ys) = line xs ys

  -- a call goes on with words for its thread, or makes it wait at an object
  pub data Went : Type 0 where
    on : World Cpu → List ℕ → Went
    wait : World Cpu → ℕ → Went

  -- a call that can't be done: the word no, and nothing has changed
  unfoldable pub refuse : World Cpu → Went
  refuse w = on w (no ∷ [])

  -- a new object of a kind, cut from the pool with the number f - 1
  unfoldable pub made : Sizes → ℕ → Kind → Object Cpu
  made z f (a_pool n) = pool f (n * z.bytes) 0
  made z f (a_table n) = table f (replicate n empty)
  made z f a_port = port f []
  made z f a_page = page f (replicate z.bytes 0)

  -- all three rights
  unfoldable pub all_rights : Rights
  all_rights = record { reads = true; writes = true; hands = true }

  -- cutting out of what the slot leads to
  unfoldable pub cutting : Sizes → World Cpu → ℕ → ℕ → Slot → Kind → ℕ → Object Cpu → Went
  cutting z w p o x k d gone = refuse w
  cutting z w p o x k d (pool f n u) =
      pick (nat_lt n (up_to (step_of z k) u + cost z k) || (cost z k == 0 || too_many k)) (refuse w)
      (on (with_slot (record {
        objects = slice_set w.objects o (pool f n (up_to (step_of z k) u + cost z k)) ++ made z (suc o) k ∷ [];
        births = suc w.births;
        lineage = cap (length w.objects) all_rights 0 (suc w.births) (slot_birth x) ∷ w.lineage;
      })
      p d (cap (length w.objects) all_rights 0 (suc w.births) (slot_birth x)))
      (0 ∷ []))
  cutting z w p o x k d (table f ss) = refuse w
  cutting z w p o x k d (port f ws) = refuse w
  cutting z w p o x k d (page f bs) = refuse w
  cutting z w p o x k d (thread f s c t ps rs) = refuse w
  cutting z w p o x k d (line xs ys) = refuse w

  -- whether a slot leads to a pool
  unfoldable pub is_pool : Object Cpu → Bool
  is_pool gone = false
  is_pool (pool f n u) = true
  is_pool (table f ss) = false
  is_pool (port f ws) = false
  is_pool (page f bs) = false
  is_pool (thread f s c t ps rs) = false
  is_pool (line xs ys) = false

  -- revoking what slot content x holds, object o: what was made from it goes; for a pool also what was cut from it, and nothing of it is used
  unfoldable pub revoking : World Cpu → ℕ → Slot → Went
  revoking w o x =
      pick (is_pool (object w o))
      (on (with_object (cleared w (offspring w w.births (slot_birth x ∷ [])) (cuttings w (length w.objects) (o ∷ [])))
      o (refilled (object (cleared w (offspring w w.births (slot_birth x ∷ [])) (cuttings w (length w.objects) (o ∷ []))) o)))
      (0 ∷ []))
      (on (cleared w (offspring w w.births (slot_birth x ∷ [])) []) (0 ∷ []))

  -- a thread in another state, with another core
  unfoldable pub set_state : Object Cpu → State Cpu → Cpu → Object Cpu
  set_state gone s c = gone
  set_state (pool f n u) s c = pool f n u
  set_state (table f ss) s c = table f ss
  set_state (port f ws) s c = port f ws
  set_state (page f bs) s c = page f bs
  set_state (thread f q d t ps rs) s c = thread f s c t ps rs
  set_state (line xs ys) s c = line xs ys

  -- the core of a waiting thread once words come back
  unfoldable pub then_of : Object Cpu → List ℕ → Cpu → Cpu
  then_of gone ws c = c
  then_of (pool f n u) ws c = c
  then_of (table f ss) ws c = c
  then_of (port f q) ws c = c
  then_of (page f bs) ws c = c
  then_of (thread f stopped d t ps rs) ws c = d
  then_of (thread f ready d t ps rs) ws c = d
  then_of (thread f (waits o then) d t ps rs) ws c = then ws
  then_of (line xs ys) ws c = c

  -- a waiting thread goes on with words
  unfoldable pub resumed : World Cpu → ℕ → List ℕ → World Cpu
  resumed w t ws = with_object w t (set_state (object w t) ready (then_of (object w t) ws (fresh 0)))

  -- slot s of thread p is handed on to slot d of thread q, if there is something in it and d is there and empty
  unfoldable pub handed : World Cpu → Bool → ℕ → ℕ → ℕ → ℕ → World Cpu
  handed w h p s q d =
      pick (h && (not (is_empty (slot w p s)) && (has_slot w q d && is_empty (slot w q d))))
      (with_slot (with_slot w q d (slot w p s)) p s empty) w

  -- sending at what the slot leads to: it meets the first receiver that waits, or waits itself, last in the row
  unfoldable pub sending : World Cpu → ℕ → ℕ → ℕ → List ℕ → Bool → Bool → ℕ → Object Cpu → Went
  sending w p o b ws h g s gone = refuse w
  sending w p o b ws h g s (pool f n u) = refuse w
  sending w p o b ws h g s (table f ss) = refuse w
  sending w p o b ws h g s (port f []) = wait (with_object w o (port f (sender p b ws h g s ∷ []))) o
  sending w p o b ws h g s (port f (sender t c vs i j r ∷ q)) = wait (with_object w o (port f (sender t c vs i j r ∷ q ++ sender p b ws h g s ∷ []))) o
  sending w p o b ws h g s (port f (receiver t d ∷ q)) =
      on (resumed (handed (with_object w o (port f q)) (h && g) p s t d) t (0 ∷ b ∷ ws)) (0 ∷ [])
  sending w p o b ws h g s (page f bs) = refuse w
  sending w p o b ws h g s (thread f q c t ps rs) = refuse w
  sending w p o b ws h g s (line xs ys) = refuse w

  -- receiving at what the slot leads to: it meets the first sender that waits, or waits itself, last in the row
  unfoldable pub receiving : World Cpu → ℕ → ℕ → ℕ → Object Cpu → Went
  receiving w p o d gone = refuse w
  receiving w p o d (pool f n u) = refuse w
  receiving w p o d (table f ss) = refuse w
  receiving w p o d (port f []) = wait (with_object w o (port f (receiver p d ∷ []))) o
  receiving w p o d (port f (receiver t e ∷ q)) = wait (with_object w o (port f (receiver t e ∷ q ++ receiver p d ∷ []))) o
  receiving w p o d (port f (sender t b ws h g s ∷ q)) =
      on (resumed (handed (with_object w o (port f q)) (h && g) t s p d) t (0 ∷ [])) (0 ∷ b ∷ ws)
  receiving w p o d (page f bs) = refuse w
  receiving w p o d (thread f q c t ps rs) = refuse w
  receiving w p o d (line xs ys) = refuse w

  -- whether it is a page
  unfoldable pub is_page : Object Cpu → Bool
  is_page gone = false
  is_page (pool f n u) = false
  is_page (table f ss) = false
  is_page (port f ws) = false
  is_page (page f bs) = true
  is_page (thread f s c t ps rs) = false
  is_page (line xs ys) = false

  -- whether it is a table
  unfoldable pub is_table : Object Cpu → Bool
  is_table gone = false
  is_table (pool f n u) = false
  is_table (table f ss) = true
  is_table (port f ws) = false
  is_table (page f bs) = false
  is_table (thread f s c t ps rs) = false
  is_table (line xs ys) = false

  -- page o goes to page a of the space of thread t, if that is free
  unfoldable pub mapping : Sizes → World Cpu → ℕ → Bool → ℕ → ℕ → Object Cpu → Went
  mapping z w o m t a gone = refuse w
  mapping z w o m t a (pool f n u) = refuse w
  mapping z w o m t a (table f ss) = refuse w
  mapping z w o m t a (port f ws) = refuse w
  mapping z w o m t a (page f bs) = refuse w
  mapping z w o m t a (thread f s c b ps rs) =
      pick (nat_lt a z.pages && (is_page (object w o) && slice_index ps a == 0))
      (on (with_object w t (thread f s c b (slice_set ps a (suc o)) (slice_set rs a m))) (0 ∷ [])) (refuse w)
  mapping z w o m t a (line xs ys) = refuse w

  -- page a of the space of thread t is free
  unfoldable pub unmapping : Sizes → World Cpu → ℕ → ℕ → Object Cpu → Went
  unmapping z w t a gone = refuse w
  unmapping z w t a (pool f n u) = refuse w
  unmapping z w t a (table f ss) = refuse w
  unmapping z w t a (port f ws) = refuse w
  unmapping z w t a (page f bs) = refuse w
  unmapping z w t a (thread f s c b ps rs) =
      pick (nat_lt a z.pages) (on (with_object w t (thread f s c b (slice_set ps a 0) (slice_set rs a false))) (0 ∷ [])) (refuse w)
  unmapping z w t a (line xs ys) = refuse w

  -- the slots of thread t, which has to be stopped, are those of table o
  unfoldable pub binding : World Cpu → ℕ → ℕ → Object Cpu → Went
  binding w t o gone = refuse w
  binding w t o (pool f n u) = refuse w
  binding w t o (table f ss) = refuse w
  binding w t o (port f ws) = refuse w
  binding w t o (page f bs) = refuse w
  binding w t o (thread f stopped c b ps rs) = pick (is_table (object w o)) (on (with_object w t (thread f stopped c (suc o) ps rs)) (0 ∷ [])) (refuse w)
  binding w t o (thread f ready c b ps rs) = refuse w
  binding w t o (thread f (waits u then) c b ps rs) = refuse w
  binding w t o (line xs ys) = refuse w

  -- thread t, which has to be stopped, is ready and new, with pc a
  unfoldable pub going : World Cpu → ℕ → ℕ → Object Cpu → Went
  going w t a gone = refuse w
  going w t a (pool f n u) = refuse w
  going w t a (table f ss) = refuse w
  going w t a (port f ws) = refuse w
  going w t a (page f bs) = refuse w
  going w t a (thread f stopped c b ps rs) = on (with_object w t (thread f ready (fresh a) b ps rs)) (0 ∷ [])
  going w t a (thread f ready c b ps rs) = refuse w
  going w t a (thread f (waits u then) c b ps rs) = refuse w
  going w t a (line xs ys) = refuse w

  -- the line shows one byte more
  unfoldable pub saying : World Cpu → ℕ → ℕ → Object Cpu → Went
  saying w o b gone = refuse w
  saying w o b (pool f n u) = refuse w
  saying w o b (table f ss) = refuse w
  saying w o b (port f ws) = refuse w
  saying w o b (page f bs) = refuse w
  saying w o b (thread f s c t ps rs) = refuse w
  saying w o b (line xs ys) = on (with_object w o (line (xs ++ b ∷ []) ys)) (0 ∷ [])

  -- the next byte that came in at the line
  unfoldable pub hearing : World Cpu → ℕ → Object Cpu → Went
  hearing w o gone = refuse w
  hearing w o (pool f n u) = refuse w
  hearing w o (table f ss) = refuse w
  hearing w o (port f ws) = refuse w
  hearing w o (page f bs) = refuse w
  hearing w o (thread f s c t ps rs) = refuse w
  hearing w o (line xs []) = refuse w
  hearing w o (line xs (y ∷ ys)) = on (with_object w o (line xs ys)) (0 ∷ y ∷ [])

  -- THE CALLS: what a call of thread p does, by the slots that it names
  unfoldable pub does : Sizes → World Cpu → ℕ → Call → Went
  does z w p (cut s k d) =
      pick (is_empty (slot w p s) || (not (slot_rights (slot w p s)).writes || not (has_slot w p d && is_empty (slot w p d)))) (refuse w)
      (cutting z w p (slot_object (slot w p s) - 1) (slot w p s) k d (object w (slot_object (slot w p s) - 1)))
  does z w p (copy s d r b) =
      pick (is_empty (slot w p s) || (not (slot_rights (slot w p s)).hands || not (has_slot w p d && is_empty (slot w p d)))) (refuse w)
      (on (with_slot (record { objects = w.objects; births = suc w.births; lineage = copied (slot w p s) r b (suc w.births) ∷ w.lineage }) p d
      (copied (slot w p s) r b (suc w.births)))
      (0 ∷ []))
  does z w p (move s d) =
      pick (is_empty (slot w p s) || not (has_slot w p d && is_empty (slot w p d))) (refuse w)
      (on (with_slot (with_slot w p d (slot w p s)) p s empty) (0 ∷ []))
  does z w p (drop_it s) = pick (is_empty (slot w p s)) (refuse w) (on (with_slot w p s empty) (0 ∷ []))
  does z w p (revoke s) =
      pick (is_empty (slot w p s) || (is_pool (object w (slot_object (slot w p s) - 1)) && not (slot_rights (slot w p s)).writes)) (refuse w)
      (revoking w (slot_object (slot w p s) - 1) (slot w p s))
  does z w p (send s ws g h) =
      pick (is_empty (slot w p s) || not (slot_rights (slot w p s)).writes) (refuse w)
      (sending w p (slot_object (slot w p s) - 1) (slot_badge (slot w p s)) (take 4 ws) (slot_rights (slot w p s)).hands g h (object w (slot_object (slot w p s) - 1)))
  does z w p (receive s d) =
      pick (is_empty (slot w p s) || not (slot_rights (slot w p s)).reads) (refuse w)
      (receiving w p (slot_object (slot w p s) - 1) d (object w (slot_object (slot w p s) - 1)))
  does z w p (map s t a) =
      pick (is_empty (slot w p s) || (is_empty (slot w p t) || (not (slot_rights (slot w p s)).reads || not (slot_rights (slot w p t)).writes))) (refuse w)
      (mapping z w (slot_object (slot w p s) - 1) (slot_rights (slot w p s)).writes (slot_object (slot w p t) - 1) a (object w (slot_object (slot w p t) - 1)))
  does z w p (unmap t a) =
      pick (is_empty (slot w p t) || not (slot_rights (slot w p t)).writes) (refuse w)
      (unmapping z w (slot_object (slot w p t) - 1) a (object w (slot_object (slot w p t) - 1)))
  does z w p (bind t s) =
      pick (is_empty (slot w p t) || (is_empty (slot w p s) || (not (slot_rights (slot w p s)).writes || not (slot_rights (slot w p t)).writes))) (refuse w)
      (binding w (slot_object (slot w p t) - 1) (slot_object (slot w p s) - 1) (object w (slot_object (slot w p t) - 1)))
  does z w p (go t a) =
      pick (is_empty (slot w p t) || not (slot_rights (slot w p t)).writes) (refuse w)
      (going w (slot_object (slot w p t) - 1) a (object w (slot_object (slot w p t) - 1)))
  does z w p (say s b) =
      pick (is_empty (slot w p s) || not (slot_rights (slot w p s)).writes) (refuse w)
      (saying w (slot_object (slot w p s) - 1) (b % 256) (object w (slot_object (slot w p s) - 1)))
  does z w p (hear s) =
      pick (is_empty (slot w p s) || not (slot_rights (slot w p s)).reads) (refuse w)
      (hearing w (slot_object (slot w p s) - 1) (object w (slot_object (slot w p s) - 1)))

  -- a page's bytes
  unfoldable pub bytes_of : Object Cpu → List ℕ
  bytes_of gone = []
  bytes_of (pool f n u) = []
  bytes_of (table f ss) = []
  bytes_of (port f ws) = []
  bytes_of (page f bs) = bs
  bytes_of (thread f s c t ps rs) = []
  bytes_of (line xs ys) = []

  -- the number + 1 of the pool that a page was cut from
  unfoldable pub from_page : Object Cpu → ℕ
  from_page gone = 0
  from_page (pool f n u) = 0
  from_page (table f ss) = 0
  from_page (port f ws) = 0
  from_page (page f bs) = f
  from_page (thread f s c t ps rs) = 0
  from_page (line xs ys) = 0

  -- the byte at an address of a space, 256 where there is none
  unfoldable pub seen : Sizes → World Cpu → List ℕ → ℕ → ℕ
  seen z w ps a = pick (slice_index ps (a / z.bytes) == 0) 256 (slice_index (bytes_of (object w (slice_index ps (a / z.bytes) - 1))) (a % z.bytes))

  -- bytes stored inside one page that may be written
  unfoldable pub stores : Sizes → World Cpu → List ℕ → List Bool → ℕ → List ℕ → World Cpu
  stores z w ps rs a bs =
      with_object w (slice_index ps (a / z.bytes) - 1)
      (page (from_page (object w (slice_index ps (a / z.bytes) - 1))) (over (bytes_of (object w (slice_index ps (a / z.bytes) - 1))) (a % z.bytes) bs))

  -- whether bytes may be stored: a page is there, it may be written, and they lie inside it
  unfoldable pub may_store : Sizes → List ℕ → List Bool → ℕ → List ℕ → Bool
  may_store z ps rs a bs =
      not (slice_index ps (a / z.bytes) == 0) && (slice_index_or rs (a / z.bytes) false && nat_le (a % z.bytes + length bs) z.bytes)

  -- after a call its thread goes on with words, or waits
  unfoldable pub went_on : World Cpu → ℕ → (List ℕ → Cpu) → Went → World Cpu
  went_on w p then (on v ws) = with_object v p (set_state (object v p) ready (then ws))
  went_on w p then (wait v o) = with_object v p (set_state (object v p) (waits o then) (fresh 0))

  -- an instruction of thread p, by what the core says that it does; what is wrong stops the thread, and it is as new
  unfoldable pub acts : Sizes → World Cpu → ℕ → List ℕ → List Bool → Act Cpu → World Cpu
  acts z w p ps rs (quiet c) = with_object w p (set_state (object w p) ready c)
  acts z w p ps rs (store a bs c) =
      pick (may_store z ps rs a bs) (with_object (stores z w ps rs a bs) p (set_state (object (stores z w ps rs a bs) p) ready c))
      (with_object w p (set_state (object w p) stopped (fresh 0)))
  acts z w p ps rs (call c then) = went_on w p then (does z w p c)
  acts z w p ps rs wrong = with_object w p (set_state (object w p) stopped (fresh 0))

  -- one instruction's time for thread p, nothing if it is not ready
  unfoldable pub ticked : Sizes → World Cpu → ℕ → Object Cpu → World Cpu
  ticked z w p gone = w
  ticked z w p (pool f n u) = w
  ticked z w p (table f ss) = w
  ticked z w p (port f ws) = w
  ticked z w p (page f bs) = w
  ticked z w p (thread f stopped c t ps rs) = w
  ticked z w p (thread f ready c t ps rs) = acts z w p ps rs (act c (seen z w ps))
  ticked z w p (thread f (waits o then) c t ps rs) = w
  ticked z w p (line xs ys) = w

  -- a byte comes in at line o; it is lost where too many wait already
  unfoldable pub comes_in : Sizes → World Cpu → ℕ → ℕ → Object Cpu → World Cpu
  comes_in z w o b gone = w
  comes_in z w o b (pool f n u) = w
  comes_in z w o b (table f ss) = w
  comes_in z w o b (port f ws) = w
  comes_in z w o b (page f bs) = w
  comes_in z w o b (thread f s c t ps rs) = w
  comes_in z w o b (line xs ys) = pick (nat_lt (length ys) z.heard) (with_object w o (line xs (ys ++ b ∷ []))) w

  -- one event
  unfoldable pub event : Sizes → World Cpu → Event → World Cpu
  event z w (tick p) = ticked z w p (object w p)
  event z w (byte o b) = comes_in z w o b (object w o)

  -- a row of events
  unfoldable pub run : Sizes → World Cpu → List Event → World Cpu
  run z w [] = w
  run z w (e ∷ es) = run z (event z w e) es

  -- what a line has shown
  unfoldable pub shown_by : Object Cpu → List ℕ
  shown_by gone = []
  shown_by (pool f n u) = []
  shown_by (table f ss) = []
  shown_by (port f ws) = []
  shown_by (page f bs) = []
  shown_by (thread f s c t ps rs) = []
  shown_by (line xs ys) = xs
