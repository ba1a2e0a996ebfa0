-- What a run does with rows.
use Rattle.std.specs.Prelude.{◌≡◌, Bool, true, List, [], ◌∷◌, Option, Some, None, IsSome, Result, Ok, Err}
use Rattle.std.specs.List.{All}
use Rattle.smtp_dialogue.specs.Messages.{SmtpMail, LeavesPath}
use Rattle.smtp_dialogue.specs.declared.extension.Extensions.{Extensions}
use Rattle.smtp_dialogue.specs.declared.dialogue.Ending.{Ending}
use Rattle.smtp_dialogue.specs.declared.dialogue.Ending.TheVariants.{Sent}
use Rattle.smtp_send.specs.Rows.{Rows, IsThere, RowTakenOut}
use Rattle.smtp_send.specs.Talks.{SendTalk, Treats}
use Rattle.smtp_send.specs.declared.queue.DueMessage.{DueMessage}
use Rattle.smtp_send.specs.declared.queue.TakenOut.{TakenOut}
use Rattle.smtp_send.specs.declared.row.Stop.{Stop}
use Rattle.smtp_send.specs.declared.row.Stop.TheVariants.{Memory, Store, Output, Kept, Unreachable}

-- a row's message: its own sender and target, and its text without our `Return-Path`
pub record IsMessageOfRow (row : DueMessage) (mail : SmtpMail) : Type 0 where
  pub sender : mail.sender ≡ row.sender
  pub target : mail.target ≡ row.target
  pub text : LeavesPath row.message mail.text

-- what was done with a row
pub record SendAttempt : Type 0 where
  pub row : DueMessage
  -- what the server offers
  pub offered : Extensions
  pub ending : Ending
  -- what became of the row if it was to be taken out
  pub taken : Option TakenOut

-- the rows of all queues, and what passed over the connection
pub record SendState : Type 0 where
  pub rows : Rows
  pub talk : SendTalk

abbrev pub state : Rows → SendTalk → SendState
state rows talk = record { rows = rows; talk = talk }

-- the row is taken out only if it was sent; otherwise no row changes
abbrev pub RowLeaves : Option TakenOut → DueMessage → Ending → Rows → Rows → Type 0
RowLeaves (Some taken) row ending before after = (ending ≡ Sent) × RowTakenOut row taken before after
RowLeaves None row ending before after = after ≡ before

-- one row: it is in the queue and due, its message is handed to the server, and then it leaves or stays
pub record MakesAttempt (may_eight_bit : Bool) (attempt : SendAttempt) (before after : SendState) : Type 0 where
  pub there : IsThere attempt.row before.rows
  pub mail : SmtpMail
  pub message : IsMessageOfRow attempt.row mail
  pub treats : Treats attempt.offered may_eight_bit mail before.talk after.talk attempt.ending
  pub leaves : RowLeaves attempt.taken attempt.row attempt.ending before.rows after.rows

-- what was done with rows, the last one first
abbrev pub AttemptsLead : Bool → List SendAttempt → SendState → SendState → Type 0
AttemptsLead may_eight_bit [] before after = after ≡ before
AttemptsLead may_eight_bit (attempt ∷ earlier) before after = (mid : SendState) × AttemptsLead may_eight_bit earlier before mid × MakesAttempt may_eight_bit attempt mid after

-- a row that was sent was taken out, or it wasn't there any more
abbrev pub HasLeft : SendAttempt → Type 0
HasLeft attempt = attempt.ending ≡ Sent → IsSome attempt.taken

-- what was done leads to rows that are shown, and to what was said; if the run ended well each row that was sent has left
pub record RunReaches (may_eight_bit : Bool) (Shows : Rows → Type 0) (Said : SendTalk → Type 0) (before : SendState) (is_whole : Bool) : Type 0 where
  pub attempts : List SendAttempt
  pub after : SendState
  pub shows : Shows after.rows
  pub said : Said after.talk
  pub leads : AttemptsLead may_eight_bit attempts before after
  pub left : is_whole ≡ true → All HasLeft attempts

-- ---- one row

-- what is done with a row that is there
pub record Handles (offered : Extensions) (may_eight_bit : Bool) (row : DueMessage) (before after : SendState) (ending : Ending) (taken : Option TakenOut) : Type 0 where
  pub mail : SmtpMail
  pub message : IsMessageOfRow row mail
  pub treats : Treats offered may_eight_bit mail before.talk after.talk ending
  pub leaves : RowLeaves taken row ending before.rows after.rows

-- it was handed over; or there was no memory, and nothing happened; or it was sent and can't be taken out
abbrev pub EndsRow : Extensions → Bool → DueMessage → SendState → SendState → Result Ending Stop → Type 0
EndsRow offered may_eight_bit row before after (Ok ending) =
    (taken : Option TakenOut) × Handles offered may_eight_bit row before after ending taken × (ending ≡ Sent → IsSome taken)
EndsRow offered may_eight_bit row before after (Err Memory) = after ≡ before
EndsRow offered may_eight_bit row before after (Err Kept) = Handles offered may_eight_bit row before after Sent None
EndsRow offered may_eight_bit row before after (Err Store) = ⊥
EndsRow offered may_eight_bit row before after (Err Output) = ⊥
EndsRow offered may_eight_bit row before after (Err Unreachable) = ⊥
