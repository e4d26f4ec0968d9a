-- The laws of the abstract world, for the registers of the RV32I core. Assumes nothing: these are statements.
-- A contract can't speak of every type of core, so the type is the core's own; what a new core is (fresh) and what an instruction does (act) may be anything.
use Rattle.std.specs.Prelude.{ℕ}
use Rattle.rights.specs.World.{Act}
use Rattle.rights.specs.Promise as promise
use Rattle.rights.specs.Effects as effects
use Rattle.rv32.specs.declared.registers.Cpu.{Cpu}

-- a pool is never overdrawn: no more of it is used than there is, whatever happens
abbrev pub Within : Type 0
Within = (fresh : ℕ → Cpu) (act : Cpu → (ℕ → ℕ) → Act Cpu) → promise.Within Cpu fresh act

-- a cut with write on a pool, into an empty slot, of a right kind and size, is refused exactly if the pool is too small;
-- else it comes back with 0, the pool is filled up and what the kind costs is used, and the new object is in the slot
abbrev pub CutExactly : Type 0
CutExactly = (fresh : ℕ → Cpu) (act : Cpu → (ℕ → ℕ) → Act Cpu) → promise.CutExactly Cpu fresh act

-- filling up goes to the least multiple that is not below, and what a kind is filled up to is a multiple of something above 0
abbrev pub FillsUpLeast : Type 0
FillsUpLeast = promise.FillsUpLeast

-- what is used of a pool covers what stands cut from it: the costs of these objects together are no more; and what is cut stands for what it cost
abbrev pub UsedCovers : Type 0
UsedCovers = (fresh : ℕ → Cpu) (act : Cpu → (ℕ → ℕ) → Act Cpu) → promise.UsedCovers Cpu fresh act

-- a capability has no right that the one that it was made from lacks, as long as both lead to the same object
abbrev pub NoMore : Type 0
NoMore = (fresh : ℕ → Cpu) (act : Cpu → (ℕ → ℕ) → Act Cpu) → promise.NoMore Cpu fresh act

-- after a revoke that came back with 0, nothing that was made from what was revoked, through any others, is in any slot, whatever happens then
abbrev pub Revoked : Type 0
Revoked = (fresh : ℕ → Cpu) (act : Cpu → (ℕ → ℕ) → Act Cpu) → promise.Revoked Cpu fresh act

-- the same by what happened, whatever the world's own record says: nothing that was made by calls, in the row of events before, from what was revoked is in any slot
abbrev pub RevokedByCalls : Type 0
RevokedByCalls = (fresh : ℕ → Cpu) (act : Cpu → (ℕ → ℕ) → Act Cpu) → promise.RevokedByCalls Cpu fresh act

-- the world's record of what was made from what is exact: it says what happened, no less and no more
abbrev pub RecordIsExact : Type 0
RecordIsExact = (fresh : ℕ → Cpu) (act : Cpu → (ℕ → ℕ) → Act Cpu) → promise.RecordIsExact Cpu fresh act

-- what a revoke that came back with 0 takes, and that it takes nothing else: of a pool what was cut from it; and what was made from what was revoked, leads to what is gone or is in it
abbrev pub RevokeTakes : Type 0
RevokeTakes = (fresh : ℕ → Cpu) (act : Cpu → (ℕ → ℕ) → Act Cpu) → promise.RevokeTakes Cpu fresh act

-- the same can't be said of a revoke that came back with anything: one that is refused leaves what was made
abbrev pub RevokedAnyFails : Type 0
RevokedAnyFails = ((fresh : ℕ → Cpu) (act : Cpu → (ℕ → ℕ) → Act Cpu) → promise.RevokedAny Cpu fresh act) → ⊥

-- what a slot holds is there
abbrev pub HeldIsThere : Type 0
HeldIsThere = (fresh : ℕ → Cpu) (act : Cpu → (ℕ → ℕ) → Act Cpu) → promise.HeldIsThere Cpu fresh act

-- what is gone is held by nobody: no slot, table, space, pool that something was cut from, port or row leads to it;
-- and a thread waits at a port exactly if it is in that port's row, where it is once
abbrev pub NothingDangles : Type 0
NothingDangles = (fresh : ℕ → Cpu) (act : Cpu → (ℕ → ℕ) → Act Cpu) → promise.NothingDangles Cpu fresh act

-- what a set of objects shows depends on nothing that doesn't lead to it: neither on what the others are nor on what they do
abbrev pub Unreached : Type 0
Unreached = (fresh : ℕ → Cpu) (act : Cpu → (ℕ → ℕ) → Act Cpu) → promise.Unreached Cpu fresh act

-- the first who came to send at a port met the first who came to receive there, the second the second, and so on, and each got the badge and the words that were sent
abbrev pub FirstCome : Type 0
FirstCome = (fresh : ℕ → Cpu) (act : Cpu → (ℕ → ℕ) → Act Cpu) → promise.FirstCome Cpu fresh act

-- who waited at a port comes back with 0 only by one meeting that is noted, a sender with 0 alone, a receiver with the badge and the words of that meeting;
-- and with no only if the port is gone
abbrev pub ComesBack : Type 0
ComesBack = (fresh : ℕ → Cpu) (act : Cpu → (ℕ → ℕ) → Act Cpu) → promise.ComesBack Cpu fresh act

-- worlds as images carry them are starts that the laws speak of: of right kinds, threads not cut, pools not overdrawn
abbrev pub ImageStarts : Type 0
ImageStarts = (fresh : ℕ → Cpu) (act : Cpu → (ℕ → ℕ) → Act Cpu) → promise.ImageStarts Cpu fresh act

-- a send or a receive is refused and goes on with no; or waits; or comes back at once with 0, by one meeting that is noted
abbrev pub AtOnce : Type 0
AtOnce = (fresh : ℕ → Cpu) (act : Cpu → (ℕ → ℕ) → Act Cpu) → promise.AtOnce Cpu fresh act

-- whoever meets goes on in that very event: the sender with 0, the receiver with 0, the badge and the words; one of them waited there, the other made a call
abbrev pub MetGoOn : Type 0
MetGoOn = (fresh : ℕ → Cpu) (act : Cpu → (ℕ → ℕ) → Act Cpu) → promise.MetGoOn Cpu fresh act

-- a capability in a slot was there before the event, or came into an empty slot by a move, by handing on, by a copy or by a cut
abbrev pub ComesFrom : Type 0
ComesFrom = (fresh : ℕ → Cpu) (act : Cpu → (ℕ → ℕ) → Act Cpu) → effects.ComesFrom Cpu fresh act

-- no birth is ever in two slots
abbrev pub OnceStays : Type 0
OnceStays = (fresh : ℕ → Cpu) (act : Cpu → (ℕ → ℕ) → Act Cpu) → effects.OnceStays Cpu fresh act

-- what each call does but a send and a receive: when it is done, and what it leaves; else it is refused, and the world is as it was
abbrev pub CallsDo : Type 0
CallsDo = (fresh : ℕ → Cpu) (act : Cpu → (ℕ → ℕ) → Act Cpu) → effects.CallsDo Cpu fresh act

-- a call that is refused leaves the world as it was
abbrev pub RefusedLeaves : Type 0
RefusedLeaves = (fresh : ℕ → Cpu) (act : Cpu → (ℕ → ℕ) → Act Cpu) → effects.RefusedLeaves Cpu fresh act

-- rights never grow by calls, whatever the world's own record says
abbrev pub NoMoreByCalls : Type 0
NoMoreByCalls = (fresh : ℕ → Cpu) (act : Cpu → (ℕ → ℕ) → Act Cpu) → effects.NoMoreByCalls Cpu fresh act

-- an object has the same kind, size and pool until it is gone, and what is gone stays gone
abbrev pub Stays : Type 0
Stays = (fresh : ℕ → Cpu) (act : Cpu → (ℕ → ℕ) → Act Cpu) → effects.Stays Cpu fresh act

-- what a revoke does, whole: when it is refused, and what it leaves of every slot and object
abbrev pub RevokeExactly : Type 0
RevokeExactly = (fresh : ℕ → Cpu) (act : Cpu → (ℕ → ℕ) → Act Cpu) → effects.RevokeExactly Cpu fresh act × effects.EmptyStays Cpu fresh act

-- each send that comes back with 0 was received once: the messages answered with 0 at a port are those of its meetings, one for one and in the same order
abbrev pub SentOnce : Type 0
SentOnce = (fresh : ℕ → Cpu) (act : Cpu → (ℕ → ℕ) → Act Cpu) → effects.SentOnce Cpu fresh act
