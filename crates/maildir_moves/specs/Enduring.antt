-- What a store shows after a call, and what a crash leaves of it then.
use Rattle.std.specs.Prelude.{◌≡◌, ◌⊎◌, List, IsTrue}
use Rattle.sqlite_trees.specs.Tree.{Trees}
use Rattle.sqlite.specs.State.{State, HasCleanDisk}
use Rattle.store_accounts.specs.Account.{Accounts}
use Rattle.store_accounts.specs.Shows.{ShowsIn}
use Rattle.managesieve_sessions.specs.Acts.{HasAccounts}
use Rattle.store_engine.specs.World.{World, Runs}
use Rattle.store_engine.specs.declared.answer.Answer.{Answer}
use Rattle.store_engine.specs.declared.answer.Answer.TheVariants.{Refused}
use Rattle.store_engine.specs.declared.event.Event.{Event}

-- the trees show the accounts that these events make of a world, one after the other, with some answers
pub record ShowsMade (events : List Event) (met : World) (trees : Trees) : Type 0 where
  pub told : List Answer
  pub after : World
  pub run : Runs met events told after
  pub shown : ShowsIn trees after.accounts

-- events that are one act, and were refused, may have come to the disk all the same, as a whole; what was made is among the
-- accounts, and isn't left beside them
abbrev pub ShowsTried : List Event → Answer → World → Trees → Type 0
ShowsTried events (Refused refusal) met trees = ShowsMade events met trees
ShowsTried events answer met trees = ⊥

-- nothing was tried
abbrev pub none_tried : Trees → Type 0
none_tried trees = ⊥

-- what a crash after a call may leave: the later accounts; if the call changed none, what a crash before it might have left; or
-- what the call tried
abbrev pub MayLeave : (Trees → Type 0) → Accounts → (Trees → Type 0) → Accounts → (Trees → Type 0) → Type 0
MayLeave before accounts after later Tried = (trees : Trees) → after trees → ShowsIn trees later ⊎ ((later ≡ accounts) × before trees) ⊎ Tried trees

-- what an open after a crash at this moment may find; of a connection that a fault of the disk has shut nothing is said
abbrev pub leaves_of : State → Trees → Type 0
leaves_of s trees = IsTrue s.is_open × s.may_leave trees

-- after a call the store shows the later accounts (`HasAccounts`), and a crash leaves what it may (`MayLeave`)
pub record Endures (old : State) (accounts : Accounts) (new : State) (later : Accounts) (Tried : Trees → Type 0) : Type 0 where
  pub shown : HasAccounts new later
  pub left : MayLeave (leaves_of old) accounts (leaves_of new) later Tried

-- a call that only reads: a store whose disk returned what was written had such a disk before, and shows the same accounts
abbrev pub OnlyReads : State → State → Type 0
OnlyReads old new = HasCleanDisk new → HasCleanDisk old × ((accounts : Accounts) → HasAccounts old accounts → Endures old accounts new accounts none_tried)
