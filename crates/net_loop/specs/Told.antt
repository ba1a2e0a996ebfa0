-- What one call on the outside adds to the acts.
use Rattle.std.specs.Prelude.{◌≡◌, ℕ, ◌≤◌, ◌<◌, Bool, List, [], ◌∷◌, ◌++◌, length, take, IsTrue}
use Rattle.net_loop.specs.declared.act.Act.{Act}
use Rattle.net_loop.specs.declared.act.Act.TheVariants.{Began, Late, Waits, Resumed, Came, NoneCame, Displaced, InUse, Heard}
use Rattle.net_loop.specs.declared.act.Act.TheVariants.{ReadBlocked, Over, Sent, WriteBlocked, Lost, Full, Dropped}
use Rattle.net_loop.specs.declared.outcome.Accepted.{Accepted}
use Rattle.net_loop.specs.declared.outcome.Accepted.TheVariants as accepted
use Rattle.net_loop.specs.declared.outcome.Input.{Input}
use Rattle.net_loop.specs.declared.outcome.Input.TheVariants as input
use Rattle.net_loop.specs.declared.outcome.Output.{Output}
use Rattle.net_loop.specs.declared.outcome.Output.TheVariants as output

-- no more octets of a connection are read at once
abbrev pub largest_piece : ℕ
largest_piece = 4096

-- what an outside O tells of itself, for a machine that notes N and acts on R
pub record Telling (O N R : Type 0) : Type 0 where
  -- whether it tells what happens; once it no longer does, it never does again
  pub tells : O → Bool
  -- all acts so far, in their order, if it tells them
  pub seen : O → List (Act N)
  -- all of it that is neither sockets nor clock: what a machine keeps there, and acts on
  pub rest : O → R

-- if it tells after a call, it told before
abbrev pub ToldBefore : {O N R : Type 0} → Telling O N R → O → O → Type 0
ToldBefore told old new = IsTrue (told.tells new) → IsTrue (told.tells old)

-- one act was added
abbrev pub TellsAct : {N : Type 0} → List (Act N) → Act N → List (Act N) → Type 0
TellsAct seen act later = later ≡ seen ++ act ∷ []

-- the same, if it is told
abbrev pub TellsIf : {O N R : Type 0} → Telling O N R → O → Act N → O → Type 0
TellsIf told old act new = IsTrue (told.tells new) → TellsAct (told.seen old) act (told.seen new)

-- all that is neither sockets nor clock is as it was, if it is told
abbrev pub LeavesIf : {O N R : Type 0} → Telling O N R → O → O → Type 0
LeavesIf told old new = IsTrue (told.tells new) → told.rest new ≡ told.rest old

-- accepting: a connection came, or none did
abbrev pub AfterAccept : {N : Type 0} → List (Act N) → ℕ → ℕ → Accepted → List (Act N) → Type 0
AfterAccept seen kind id accepted.Came later = TellsAct seen (Came id kind) later
AfterAccept seen kind id accepted.Nobody later = TellsAct seen (NoneCame kind) later

-- the octets that were read come first in the buffer
abbrev pub AfterRead : {N : Type 0} → List (Act N) → ℕ → List ℕ → Input → List (Act N) → Type 0
AfterRead seen id buffer (input.Got count) later = TellsAct seen (Heard id (take count buffer)) later
AfterRead seen id buffer input.Nothing later = TellsAct seen (ReadBlocked id) later
AfterRead seen id buffer input.Over later = TellsAct seen (Over id) later
AfterRead seen id buffer input.Lost later = TellsAct seen (Lost id) later

-- dropping: octets were dropped, or none had come, or the connection is over or lost
abbrev pub AfterDiscard : {N : Type 0} → List (Act N) → ℕ → Input → List (Act N) → Type 0
AfterDiscard seen id (input.Got count) later = TellsAct seen (Dropped id count) later
AfterDiscard seen id input.Nothing later = TellsAct seen (ReadBlocked id) later
AfterDiscard seen id input.Over later = TellsAct seen (Over id) later
AfterDiscard seen id input.Lost later = TellsAct seen (Lost id) later

-- sending: the first octets were sent, or none could be, or the connection is lost
abbrev pub AfterWrite : {N : Type 0} → List (Act N) → ℕ → List ℕ → Output → List (Act N) → Type 0
AfterWrite seen id octets (output.Taken count) later = TellsAct seen (Sent id (take count octets)) later
AfterWrite seen id octets output.Nothing later = TellsAct seen (WriteBlocked id) later
AfterWrite seen id octets output.Lost later = TellsAct seen (Lost id) later

-- what the loop tells of itself, with nothing done outside
abbrev pub IsLoopAct : {N : Type 0} → Act N → Type 0
IsLoopAct (Began wake) = Unit {0}
IsLoopAct (Late id) = Unit {0}
IsLoopAct (Waits id) = Unit {0}
IsLoopAct (Resumed id) = Unit {0}
IsLoopAct (Displaced id) = Unit {0}
IsLoopAct (InUse id) = Unit {0}
IsLoopAct (Full id) = Unit {0}
IsLoopAct _ = ⊥

-- a count is within a buffer, and not zero
abbrev pub ReadFits : List ℕ → Input → Type 0
ReadFits buffer (input.Got count) = (0 < count) × (count ≤ length buffer)
ReadFits buffer input.Nothing = Unit {0}
ReadFits buffer input.Over = Unit {0}
ReadFits buffer input.Lost = Unit {0}

-- a count is within what may be dropped at once, and not zero
abbrev pub DiscardFits : Input → Type 0
DiscardFits (input.Got count) = (0 < count) × (count ≤ largest_piece)
DiscardFits input.Nothing = Unit {0}
DiscardFits input.Over = Unit {0}
DiscardFits input.Lost = Unit {0}

-- a count is within the octets, and not zero
abbrev pub WriteFits : List ℕ → Output → Type 0
WriteFits octets (output.Taken count) = (0 < count) × (count ≤ length octets)
WriteFits octets output.Nothing = Unit {0}
WriteFits octets output.Lost = Unit {0}
