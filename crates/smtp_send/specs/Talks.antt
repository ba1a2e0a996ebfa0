-- What is written for a message and answered, over a connection that is open.
use Rattle.std.specs.Prelude.{◌≡◌, ◌<◌, ℕ, Bool, List, [], ◌∷◌, ◌++◌}
use Rattle.smtp_dialogue.specs.Messages.{SmtpMail, smtp_mail_of, mail_line, rcpt_line, IsMailAddressed, IsOffered}
use Rattle.smtp_dialogue.specs.Dialogues.{Speaks, stage_text, smtp_turn_of}
use Rattle.smtp_dialogue.specs.declared.extension.Extensions.{Extensions}
use Rattle.smtp_dialogue.specs.declared.dialogue.SmtpStage.{SmtpStage}
use Rattle.smtp_dialogue.specs.declared.dialogue.SmtpStage.TheVariants.{Sender, Recipient, Data, Text}
use Rattle.smtp_dialogue.specs.declared.dialogue.Ending.{Ending}
use Rattle.smtp_dialogue.specs.declared.dialogue.Ending.TheVariants.{Sent, Refused, Delayed, OutOfPlace, Lost, Undeclared, Unaddressed}
use Rattle.smtp_dialogue.specs.declared.dialogue.NextStage.{NextStage}
use Rattle.smtp_dialogue.specs.declared.dialogue.NextStage.TheVariants.{Goes, Ends}
use Rattle.smtp_send.specs.declared.dialogue.Spelled.{Spelled}

-- what was written and answered so far
pub record SendTalk : Type 0 where
  pub written : List ℕ
  pub answered : List ℕ

abbrev pub talk : List ℕ → List ℕ → SendTalk
talk written answered = record { written = written; answered = answered }

-- with octets that were written more, and with one reply more
abbrev pub talk_written : SendTalk → List ℕ → SendTalk
talk_written t octets = talk (t.written ++ octets) t.answered

abbrev pub talk_heard : SendTalk → ℕ → SendTalk
talk_heard t code = talk t.written (t.answered ++ code ∷ [])

-- a prefix of octets was written
pub record WritesPrefix (octets : List ℕ) (before after : SendTalk) : Type 0 where
  pub front : List ℕ
  pub rest : List ℕ
  pub cut : octets ≡ front ++ rest
  pub written : after.written ≡ before.written ++ front
  pub answered : after.answered ≡ before.answered

-- a prefix of octets is written, and these are left
pub record Writing (all : List ℕ) (before now : SendTalk) (rest : List ℕ) : Type 0 where
  pub done : List ℕ
  pub written : now.written ≡ before.written ++ done
  pub answered : now.answered ≡ before.answered
  pub whole : all ≡ done ++ rest

-- a message's lines are its own
pub record IsSpelled (spelled : Spelled) : Type 0 where
  pub mail : spelled.mail.now ≡ mail_line spelled.offered (smtp_mail_of spelled.message)
  pub rcpt : spelled.rcpt.now ≡ rcpt_line (smtp_mail_of spelled.message)

-- a message's dialogue from a stage on
pub record TalkSays (offered : Extensions) (mail : SmtpMail) (stage : SmtpStage) (before after : SendTalk) (ending : Ending) : Type 0 where
  pub lines : List ℕ
  pub codes : List ℕ
  pub written : after.written ≡ before.written ++ lines
  pub answered : after.answered ≡ before.answered ++ codes
  pub speaks : Speaks offered mail codes stage lines ending

-- a stage of it that another follows
pub record StageGoesOn (offered : Extensions) (mail : SmtpMail) (stage : SmtpStage) (before after : SendTalk) (onward : SmtpStage) : Type 0 where
  pub code : ℕ
  pub written : after.written ≡ before.written ++ stage_text offered mail stage
  pub answered : after.answered ≡ before.answered ++ code ∷ []
  pub turns : smtp_turn_of stage code ≡ Goes onward

-- how many stages follow one
abbrev pub stages_behind : SmtpStage → ℕ
stages_behind Sender = 3
stages_behind Recipient = 2
stages_behind Data = 1
stages_behind Text = 0

-- a stage that follows is a later one
abbrev pub IsLater : SmtpStage → NextStage → Type 0
IsLater stage (Goes onward) = stages_behind onward < stages_behind stage
IsLater stage (Ends ending) = Unit {0}

-- one stage
abbrev pub StageSteps : Extensions → SmtpMail → SmtpStage → SendTalk → SendTalk → NextStage → Type 0
StageSteps offered mail stage before after (Goes onward) = StageGoesOn offered mail stage before after onward
StageSteps offered mail stage before after (Ends ending) = TalkSays offered mail stage before after ending

-- a message that goes out: its addresses are mailboxes, what it needs is offered, and this is its dialogue
pub record MessageGoesOut (offered : Extensions) (may_eight_bit : Bool) (mail : SmtpMail) (before after : SendTalk) (ending : Ending) : Type 0 where
  pub addressed : IsMailAddressed mail
  pub needs : IsOffered offered may_eight_bit mail
  pub says : TalkSays offered mail Sender before after ending

-- what is done with a message: it goes out, or nothing is written, for a cause
abbrev pub Treats : Extensions → Bool → SmtpMail → SendTalk → SendTalk → Ending → Type 0
Treats offered may_eight_bit mail before after Unaddressed = (after ≡ before) × (IsMailAddressed mail → ⊥)
Treats offered may_eight_bit mail before after Undeclared = (after ≡ before) × IsMailAddressed mail × (IsOffered offered may_eight_bit mail → ⊥)
Treats offered may_eight_bit mail before after Sent = MessageGoesOut offered may_eight_bit mail before after Sent
Treats offered may_eight_bit mail before after Lost = MessageGoesOut offered may_eight_bit mail before after Lost
Treats offered may_eight_bit mail before after (Refused code) = MessageGoesOut offered may_eight_bit mail before after (Refused code)
Treats offered may_eight_bit mail before after (Delayed code) = MessageGoesOut offered may_eight_bit mail before after (Delayed code)
Treats offered may_eight_bit mail before after (OutOfPlace code) = MessageGoesOut offered may_eight_bit mail before after (OutOfPlace code)
