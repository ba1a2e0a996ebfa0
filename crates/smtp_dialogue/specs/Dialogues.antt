-- What is written for a message, what is answered, and how it ends (RFC 5321, section 4.3.2).
use Rattle.std.specs.Prelude.{◌≡◌, ◌==◌, ℕ, ◌/◌, if◌then◌else◌, Bool, List, [], ◌∷◌, ◌++◌}
use Rattle.smtp_dialogue.specs.Messages.{SmtpMail, mail_line, rcpt_line, data_line}
use Rattle.smtp_dialogue.specs.Replies.{IsSmtpReply}
use Rattle.smtp_dialogue.specs.Sent.{sent_from, sent_start}
use Rattle.smtp_dialogue.specs.declared.extension.Extensions.{Extensions}
use Rattle.smtp_dialogue.specs.declared.dialogue.SmtpStage.{SmtpStage}
use Rattle.smtp_dialogue.specs.declared.dialogue.SmtpStage.TheVariants.{Sender, Recipient, Data, Text}
use Rattle.smtp_dialogue.specs.declared.dialogue.Ending.{Ending}
use Rattle.smtp_dialogue.specs.declared.dialogue.Ending.TheVariants.{Sent, Refused, Delayed, OutOfPlace, Lost}
use Rattle.smtp_dialogue.specs.declared.dialogue.NextStage.{NextStage}
use Rattle.smtp_dialogue.specs.declared.dialogue.NextStage.TheVariants.{Goes, Ends}

-- what is written at a stage of a message
abbrev pub stage_text : Extensions → SmtpMail → SmtpStage → List ℕ
stage_text offered mail Sender = mail_line offered mail
stage_text offered mail Recipient = rcpt_line mail
stage_text offered mail Data = data_line
stage_text offered mail Text = sent_from sent_start mail.text

-- a reply's first digit
abbrev pub reply_class : ℕ → ℕ
reply_class code = code / 100

-- what a reply other than the awaited one makes of a message
abbrev pub ending_of : ℕ → Ending
ending_of code = if reply_class code == 5 then Refused code else (if reply_class code == 4 then Delayed code else OutOfPlace code)

abbrev pub next_or_end : Bool → SmtpStage → ℕ → NextStage
next_or_end is_taken stage code = if is_taken then Goes stage else Ends (ending_of code)

-- what a reply makes of it: MAIL and RCPT are taken by 2yz, DATA continues by 3yz, and by 250 alone the message is taken
abbrev pub smtp_turn_of : SmtpStage → ℕ → NextStage
smtp_turn_of Sender code = next_or_end (reply_class code == 2) Recipient code
smtp_turn_of Recipient code = next_or_end (reply_class code == 2) Data code
smtp_turn_of Data code = next_or_end (reply_class code == 3) Text code
smtp_turn_of Text code = if code == 250 then Ends Sent else Ends (ending_of code)

-- the dialogue continues at a stage, as another relation has it, or is at its end
abbrev pub ByTurn : NextStage → List ℕ → (SmtpStage → List ℕ → Ending → Type 0) → List ℕ → Ending → Type 0
ByTurn (Goes stage) codes Later written ending = Later stage written ending
ByTurn (Ends end) codes Later written ending = (codes ≡ []) × (written ≡ []) × (ending ≡ end)

-- a message's dialogue from a stage on, with the codes of the replies that came: what was written, and how it ended. If no more
-- replies came the connection was lost, with a prefix of what was to be written there
abbrev pub Speaks : Extensions → SmtpMail → List ℕ → SmtpStage → List ℕ → Ending → Type 0
Speaks offered mail [] stage written ending = ((rest : List ℕ) × (stage_text offered mail stage ≡ written ++ rest)) × (ending ≡ Lost)
Speaks offered mail (code ∷ codes) stage written ending =
    (more : List ℕ) × (written ≡ stage_text offered mail stage ++ more) × ByTurn (smtp_turn_of stage code) codes (Speaks offered mail codes) more ending

-- all of a message's dialogue
abbrev pub SpeaksAll : Extensions → SmtpMail → List ℕ → List ℕ → Ending → Type 0
SpeaksAll offered mail codes written ending = Speaks offered mail codes Sender written ending

-- ---- what holds of it

-- a message is sent only if all of it was written, and its last reply, that to the text, is 250
pub record IsMessageTaken (offered : Extensions) (mail : SmtpMail) (codes written : List ℕ) : Type 0 where
  pub sender : ℕ
  pub target : ℕ
  pub go_ahead : ℕ
  pub replies : codes ≡ sender ∷ target ∷ go_ahead ∷ 250 ∷ []
  pub classes : (reply_class sender ≡ 2) × (reply_class target ≡ 2) × (reply_class go_ahead ≡ 3)
  pub whole : written ≡ mail_line offered mail ++ (rcpt_line mail ++ (data_line ++ sent_from sent_start mail.text))

-- whatever came, a prefix of just its own lines was written; and it is sent only so
pub record SpeaksRight : Type 0 where
  pub sent : (offered : Extensions) (mail : SmtpMail) (codes written : List ℕ) → SpeaksAll offered mail codes written Sent → IsMessageTaken offered mail codes written
  pub front : (offered : Extensions) (mail : SmtpMail) (codes written : List ℕ) (ending : Ending) → SpeaksAll offered mail codes written ending
      → (rest : List ℕ) × (mail_line offered mail ++ (rcpt_line mail ++ (data_line ++ sent_from sent_start mail.text)) ≡ written ++ rest)

-- these octets are replies with these codes, one after the other
abbrev pub AreSmtpReplies : List ℕ → List ℕ → Type 0
AreSmtpReplies [] octets = octets ≡ []
AreSmtpReplies (code ∷ codes) octets = (rest : List ℕ) × IsSmtpReply octets code rest × AreSmtpReplies codes rest
