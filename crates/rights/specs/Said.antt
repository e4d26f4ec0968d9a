-- What is said: the bytes that lines show, in the order in which they come. Assumes nothing: these are definitions and a statement.
-- As the statements of Promise.antt, they are about every core.
use Rattle.std.specs.Prelude.{◌≡◌, ℕ, ◌-◌, ◌/◌, ◌%◌, not, ◌||◌, List, [], ◌∷◌, ◌++◌, Some, None, Option, cond, codes, decimal, ◌==◌, nat_lt, ◌+◌}
use Rattle.rights.specs.declared.said.Said.{Said}
use Rattle.rights.specs.World.{Act, World, Sizes, Event, Object, Call, gone, pool, table, port, page, thread, line, stopped, ready, waits, tick, byte, quiet, store, call, wrong}
use Rattle.rights.specs.World.{cut, copy, move, drop_it, revoke, send, receive, map, unmap, bind, go, say, hear}
use Rattle.rights.specs.World.{object, slot, slot_object, slot_rights, is_empty, seen, event, run, shown_by, pick}
use Rattle.rights.specs.Promise.{Kinds}

-- a digit of a number in base 16, as a lowercase character
abbrev pub hex_digit : ℕ → ℕ
hex_digit n = cond (nat_lt n 10) (48 + n) (87 + n)

-- what is printed of a byte that was said: the line in decimal, a space, the byte as two digits in base 16
abbrev pub said_text : Said → List ℕ
said_text x = decimal x.line ++ (codes " " ++ (hex_digit (x.byte / 16) ∷ hex_digit (x.byte % 16) ∷ []))

-- a row with one more before it, if there is one
unfoldable pub with_first : Option Said → List Said → List Said
with_first None xs = xs
with_first (Some x) xs = x ∷ xs

-- the bytes said on line o, in order
unfoldable pub said_on : ℕ → List Said → List ℕ
said_on o [] = []
said_on o (x ∷ xs) = pick (x.line == o) (x.byte ∷ said_on o xs) (said_on o xs)

module _ (Cpu : Type 0) (fresh : ℕ → Cpu) (act : Cpu → (ℕ → ℕ) → Act Cpu) where
  -- byte b is said at object o, if that is a line
  unfoldable pub at_line : ℕ → ℕ → Object Cpu → Option Said
  at_line o b gone = None
  at_line o b (pool f n u) = None
  at_line o b (table f ss) = None
  at_line o b (port f ws) = None
  at_line o b (page f bs) = None
  at_line o b (thread f s c t ps rs) = None
  at_line o b (line xs ys) = Some (record { line = o; byte = b })

  -- what thread p says with a call: with write on a line one byte; nothing with any other call
  unfoldable pub call_says : World Cpu → ℕ → Call → Option Said
  call_says w p (cut s k d) = None
  call_says w p (copy s d r b) = None
  call_says w p (move s d) = None
  call_says w p (drop_it s) = None
  call_says w p (revoke s) = None
  call_says w p (send s ws g h) = None
  call_says w p (receive s d) = None
  call_says w p (map s t a) = None
  call_says w p (unmap t a) = None
  call_says w p (bind t s) = None
  call_says w p (go t a) = None
  call_says w p (say s b) =
      pick (is_empty (slot Cpu fresh act w p s) || not (slot_rights (slot Cpu fresh act w p s)).writes) None
      (at_line (slot_object (slot Cpu fresh act w p s) - 1) (b % 256) (object Cpu fresh act w (slot_object (slot Cpu fresh act w p s) - 1)))
  call_says w p (hear s) = None

  -- what it says with an instruction: with the call, if it is one
  unfoldable pub act_says : World Cpu → ℕ → Act Cpu → Option Said
  act_says w p (quiet c) = None
  act_says w p (store a bs c) = None
  act_says w p (call c then) = call_says w p c
  act_says w p wrong = None

  -- what it says in an instruction's time, if it is ready
  unfoldable pub tick_says : Sizes → World Cpu → ℕ → Object Cpu → Option Said
  tick_says z w p gone = None
  tick_says z w p (pool f n u) = None
  tick_says z w p (table f ss) = None
  tick_says z w p (port f ws) = None
  tick_says z w p (page f bs) = None
  tick_says z w p (thread f stopped c t ps rs) = None
  tick_says z w p (thread f ready c t ps rs) = act_says w p (act c (seen Cpu fresh act z w ps))
  tick_says z w p (thread f (waits o then) c t ps rs) = None
  tick_says z w p (line xs ys) = None

  -- what an event says: at most one byte
  unfoldable pub event_says : Sizes → World Cpu → Event → Option Said
  event_says z w (tick p) = tick_says z w p (object Cpu fresh act w p)
  event_says z w (byte o b) = None

  -- what a row of events says, in order
  unfoldable pub said : Sizes → World Cpu → List Event → List Said
  said z w [] = []
  said z w (e ∷ es) = with_first (event_says z w e) (said z (event Cpu fresh act z w e) es)

  -- from a start of right kinds, after every row of events, each object shows what it showed at the start and then exactly the bytes said on it, in order.
  -- Without right kinds this is false: a space that names a line would let a store make a page of it.
  -- running says what a row of events leaves: in the law as in this world, elsewhere it is faulty, and the law has to refuse it
  unfoldable pub SaidIsShownIn : (Sizes → World Cpu → List Event → World Cpu) → Type 0
  SaidIsShownIn running =
      (z : Sizes) (v : World Cpu) (es : List Event) (o : ℕ) → Kinds Cpu fresh act v →
      shown_by Cpu fresh act (object Cpu fresh act (running z v es) o) ≡ shown_by Cpu fresh act (object Cpu fresh act v o) ++ said_on o (said z v es)

  unfoldable pub SaidIsShown : Type 0
  SaidIsShown = SaidIsShownIn (run Cpu fresh act)
