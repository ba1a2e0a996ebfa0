-- What becomes of mail that moves on.
use Rattle.std.specs.Prelude.{◌≡◌, ◌≤◌, ℕ, true, false, List, length, map, All, Contains}
use Rattle.sqlite_trees.specs.Tree.{Trees}
use Rattle.sqlite.specs.State.{State, HasCleanDisk}
use Rattle.store_accounts.specs.Account.{Accounts}
use Rattle.store_accounts.specs.Refusals.{IsTransient}
use Rattle.managesieve_sessions.specs.Acts.{HasAccounts}
use Rattle.store_accounts.specs.declared.taking.NumberedMessage.{NumberedMessage}
use Rattle.maildir_files.specs.Kept.{kept_mail}
use Rattle.maildir_files.specs.declared.kept.KeptMail.{KeptMail}
use Rattle.store_engine.specs.Takings.{LosesMails, times}
use Rattle.store_engine.specs.World.{World}
use Rattle.store_engine.specs.declared.answer.Answer.{Answer}
use Rattle.store_engine.specs.declared.answer.Answer.TheVariants.{MailTaken, Refused}
use Rattle.store_engine.specs.declared.event.Event.{Event}
use Rattle.store_engine.specs.declared.event.Event.TheVariants.{TakeMail}
use Rattle.maildir_moves.specs.Enduring.{Endures, ShowsTried}
use Rattle.maildir_moves.specs.declared.batch.MailBatch.{MailBatch}
use Rattle.maildir_moves.specs.declared.moving.MovePause.{MovePause}
use Rattle.maildir_moves.specs.declared.moving.Moving.{Moving}
use Rattle.maildir_moves.specs.declared.moving.Moving.TheVariants as moving

-- a message of a user's folder, as a sink is told of it
abbrev pub mail_told : List ℕ → List ℕ → NumberedMessage → KeptMail
mail_told user folder m = kept_mail user folder m.number m.message m.flags

abbrev pub kept_mails : MailBatch → List KeptMail
kept_mails batch = map (mail_told batch.user batch.folder) batch.mails

-- the events that take so many messages of a batch out of its folder
abbrev pub takings_of : MailBatch → ℕ → List Event
takings_of batch n = times n (TakeMail batch.user batch.folder)

-- the messages of a batch were the first of their folder, with their flags there, and left, each by an event `TakeMail`; or the
-- take-out was refused, and nothing left
abbrev pub LeavesTogether : MailBatch → Answer → Accounts → Accounts → Type 0
LeavesTogether batch MailTaken accounts later = LosesMails batch.user batch.folder batch.mails (length batch.mails) accounts later
LeavesTogether batch (Refused refusal) accounts later = IsTransient refusal × (later ≡ accounts)
LeavesTogether batch answer accounts later = ⊥

abbrev pub MovesMessage : Moving → Accounts → Accounts → Type 0
MovesMessage (moving.Kept batch answer) accounts later = LeavesTogether batch answer accounts later
MovesMessage other accounts later = later ≡ accounts

-- a take-out that was refused may have come to the disk: as a whole, of so many of the messages
abbrev pub TriedMoving : Moving → World → Trees → Type 0
TriedMoving (moving.Kept batch answer) w trees = (n : ℕ) × (n ≤ length batch.mails) × ShowsTried (takings_of batch n) answer w trees
TriedMoving other w trees = ⊥

-- what became of it, over a store, whatever accounts it showed: it shows the later ones, and a crash leaves them, or what it might
-- leave (`Endures`)
abbrev pub MovesNext : Moving → State → State → Type 0
MovesNext result old new =
    HasCleanDisk new → (w : World) → HasAccounts old w.accounts
    → (later : Accounts) × MovesMessage result w.accounts later × Endures old w.accounts new later (TriedMoving result w)

-- no message left its folder, or was about to
abbrev pub IsStill : Moving → Type 0
IsStill (moving.Kept batch answer) = ⊥
IsStill other = Unit {0}

-- each message of a batch that left, or was about to, is among those that the sink tells
abbrev pub LeftAmong : Moving → List KeptMail → Type 0
LeftAmong (moving.Kept batch answer) kept = All (Contains kept) (kept_mails batch)
LeftAmong other kept = Unit {0}

-- a store whose disk returned what was written had such a disk before
abbrev pub WasClean : State → State → Type 0
WasClean old new = HasCleanDisk new → HasCleanDisk old

-- when the next call is due: for how many milliseconds nothing else is to move; what goes on is due as soon as others had their
-- turns
abbrev pub pause_behind : Moving → MovePause
pause_behind moving.Nothing = record { span = 60000; goes_on = false }
pause_behind moving.Passed = record { span = 0; goes_on = false }
pause_behind (moving.Failed refusal) = record { span = 1000; goes_on = false }
pause_behind (moving.Stays stay) = record { span = 100; goes_on = false }
pause_behind moving.Went = record { span = 0; goes_on = true }
pause_behind (moving.Kept batch (Refused refusal)) = record { span = 100; goes_on = false }
pause_behind (moving.Kept batch answer) = record { span = 0; goes_on = false }
