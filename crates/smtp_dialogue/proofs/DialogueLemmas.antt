-- A message's dialogue.
use Rattle.std.proofs.Common.{◌≡◌, ℕ, ◌==◌, Bool, true, false, List, [], ◌∷◌, ◌++◌, refl, sym, ap, ◌∙◌, append-nil, append_assoc, arith}
use Rattle.smtp_dialogue.specs.Messages.{SmtpMail, mail_line, rcpt_line, data_line}
use Rattle.smtp_dialogue.specs.Sent.{sent_from, sent_start}
use Rattle.smtp_dialogue.specs.Dialogues.{Speaks, SpeaksRight, IsMessageTaken, ByTurn, smtp_turn_of, next_or_end, ending_of, reply_class, stage_text}
use Rattle.smtp_dialogue.specs.declared.extension.Extensions.{Extensions}
use Rattle.smtp_dialogue.specs.declared.dialogue.SmtpStage.{SmtpStage}
use Rattle.smtp_dialogue.specs.declared.dialogue.SmtpStage.TheVariants.{Sender, Recipient, Data, Text}
use Rattle.smtp_dialogue.specs.declared.dialogue.Ending.{Ending}
use Rattle.smtp_dialogue.specs.declared.dialogue.Ending.TheVariants as ending
use Rattle.smtp_dialogue.specs.declared.dialogue.NextStage.TheVariants.{Ends}

-- ---- a message that was sent

never_by : (code : ℕ) (five four : Bool) → (reply_class code == 5) ≡ five → (reply_class code == 4) ≡ four → ending.Sent ≡ ending_of code → ⊥
never_by code true four first second same = let no : ending.Sent ≡ ending.Refused code = rw first at same in absurd (cc no)
never_by code false true first second same = let no : ending.Sent ≡ ending.Delayed code = rw (first, second) at same in absurd (cc no)
never_by code false false first second same = let no : ending.Sent ≡ ending.OutOfPlace code = rw (first, second) at same in absurd (cc no)

never : (code : ℕ) → ending.Sent ≡ ending_of code → ⊥
never code same = never_by code (reply_class code == 5) (reply_class code == 4) refl refl same

passes : (is_taken : Bool) (onward : SmtpStage) (code : ℕ) (codes written : List ℕ) (Later : SmtpStage → List ℕ → Ending → Type 0) → ByTurn (next_or_end is_taken onward code) codes Later written ending.Sent
    → (is_taken ≡ true) × Later onward written ending.Sent
passes true onward code codes written Later by = (refl, by)
passes false onward code codes written Later by = absurd (never code by.2)

lost : ending.Sent ≡ ending.Lost → ⊥
lost same = absurd (cc same)

-- the last reply
last_by : (offered : Extensions) (mail : SmtpMail) (code : ℕ) (codes written : List ℕ) (is_taken : Bool) → (code == 250) ≡ is_taken
    → ByTurn (smtp_turn_of Text code) codes (Speaks offered mail codes) written ending.Sent → (code ≡ 250) × (codes ≡ []) × (written ≡ [])
last_by offered mail code codes written true test by =
    let same : code ≡ 250 = grind (arith, test) in
    let it : ByTurn (Ends ending.Sent) codes (Speaks offered mail codes) written ending.Sent = rw test at by in
    (same, it.0, it.1)
last_by offered mail code codes written false test by =
    let it : ByTurn (Ends (ending_of code)) codes (Speaks offered mail codes) written ending.Sent = rw test at by in
    absurd (never code it.2)

record Last (offered : Extensions) (mail : SmtpMail) (codes written : List ℕ) : Type 0 where
  replies : codes ≡ 250 ∷ []
  whole : written ≡ sent_from sent_start mail.text

from_text : (offered : Extensions) (mail : SmtpMail) (codes written : List ℕ) → Speaks offered mail codes Text written ending.Sent → Last offered mail codes written
from_text offered mail [] written speaks = absurd (lost speaks.1)
from_text offered mail (code ∷ codes) written (more, same, by) =
    let it = last_by offered mail code codes more (code == 250) refl by in
    record { replies = ap (λ c. c ∷ codes) it.0 ∙ ap (λ l. 250 ∷ l) it.1; whole = same ∙ (ap (λ t. sent_from sent_start mail.text ++ t) it.2 ∙ append-nil (sent_from sent_start mail.text)) }

record FromData (offered : Extensions) (mail : SmtpMail) (codes written : List ℕ) : Type 0 where
  go_ahead : ℕ
  replies : codes ≡ go_ahead ∷ 250 ∷ []
  class : reply_class go_ahead ≡ 3
  whole : written ≡ data_line ++ sent_from sent_start mail.text

same_class : (a b : ℕ) → (a == b) ≡ true → a ≡ b
same_class a b is = grind (arith, is)

from_data : (offered : Extensions) (mail : SmtpMail) (codes written : List ℕ) → Speaks offered mail codes Data written ending.Sent → FromData offered mail codes written
from_data offered mail [] written speaks = absurd (lost speaks.1)
from_data offered mail (code ∷ codes) written (more, same, by) =
    let it = passes (reply_class code == 3) Text code codes more (Speaks offered mail codes) by in
    let later = from_text offered mail codes more it.1 in
    record {
      go_ahead = code;
      replies = ap (λ l. code ∷ l) later.replies;
      class = same_class (reply_class code) 3 it.0;
      whole = same ∙ ap (λ t. data_line ++ t) later.whole;
    }

record FromTarget (offered : Extensions) (mail : SmtpMail) (codes written : List ℕ) : Type 0 where
  target : ℕ
  go_ahead : ℕ
  replies : codes ≡ target ∷ go_ahead ∷ 250 ∷ []
  classes : (reply_class target ≡ 2) × (reply_class go_ahead ≡ 3)
  whole : written ≡ rcpt_line mail ++ (data_line ++ sent_from sent_start mail.text)

from_target : (offered : Extensions) (mail : SmtpMail) (codes written : List ℕ) → Speaks offered mail codes Recipient written ending.Sent → FromTarget offered mail codes written
from_target offered mail [] written speaks = absurd (lost speaks.1)
from_target offered mail (code ∷ codes) written (more, same, by) =
    let it = passes (reply_class code == 2) Data code codes more (Speaks offered mail codes) by in
    let later = from_data offered mail codes more it.1 in
    record {
      target = code;
      go_ahead = later.go_ahead;
      replies = ap (λ l. code ∷ l) later.replies;
      classes = (same_class (reply_class code) 2 it.0, later.class);
      whole = same ∙ ap (λ t. rcpt_line mail ++ t) later.whole;
    }

sent : (offered : Extensions) (mail : SmtpMail) (codes written : List ℕ) → Speaks offered mail codes Sender written ending.Sent → IsMessageTaken offered mail codes written
sent offered mail [] written speaks = absurd (lost speaks.1)
sent offered mail (code ∷ codes) written (more, same, by) =
    let it = passes (reply_class code == 2) Recipient code codes more (Speaks offered mail codes) by in
    let later = from_target offered mail codes more it.1 in
    record {
      sender = code;
      target = later.target;
      go_ahead = later.go_ahead;
      replies = ap (λ l. code ∷ l) later.replies;
      classes = (same_class (reply_class code) 2 it.0, later.classes.0, later.classes.1);
      whole = same ∙ ap (λ t. mail_line offered mail ++ t) later.whole;
    }

-- ---- what was written is a front of its own lines

-- what is written behind a stage
abbrev behind : SmtpMail → SmtpStage → List ℕ
behind mail Sender = rcpt_line mail ++ (data_line ++ (sent_from sent_start mail.text ++ []))
behind mail Recipient = data_line ++ (sent_from sent_start mail.text ++ [])
behind mail Data = sent_from sent_start mail.text ++ []
behind mail Text = []

abbrev Fronts : List ℕ → List ℕ → Type 0
Fronts all written = (rest : List ℕ) × (all ≡ written ++ rest)

longer : (first more written later : List ℕ) → written ≡ first ++ more → Fronts later more → Fronts (first ++ later) written
longer first more written later same front =
    (front.0, ap (λ t. first ++ t) front.1 ∙ (sym (append_assoc first more front.0) ∙ ap (λ t. t ++ front.0) (sym same)))

ended : (first more written later : List ℕ) → written ≡ first ++ more → more ≡ [] → Fronts (first ++ later) written
ended first more written later same none =
    (later, ap (λ t. t ++ later) (sym (same ∙ (ap (λ t. first ++ t) none ∙ append-nil first))))

cut : (first written later rest : List ℕ) → first ≡ written ++ rest → Fronts (first ++ later) written
cut first written later rest same = (rest ++ later, ap (λ t. t ++ later) same ∙ append_assoc written rest later)

next_by : (is_taken : Bool) (onward : SmtpStage) (code : ℕ) (codes more : List ℕ) (end : Ending) (Later : SmtpStage → List ℕ → Ending → Type 0) (first written later : List ℕ) → written ≡ first ++ more
    → ByTurn (next_or_end is_taken onward code) codes Later more end → (Later onward more end → Fronts later more) → Fronts (first ++ later) written
next_by true onward code codes more end Later first written later same by goes = longer first more written later same (goes by)
next_by false onward code codes more end Later first written later same by goes = ended first more written later same by.1

text_by : (is_taken : Bool) (code : ℕ) (codes more : List ℕ) (end : Ending) (Later : SmtpStage → List ℕ → Ending → Type 0) (first written : List ℕ) → written ≡ first ++ more → (code == 250) ≡ is_taken
    → ByTurn (smtp_turn_of Text code) codes Later more end → Fronts (first ++ []) written
text_by true code codes more end Later first written same test by =
    let it : ByTurn (Ends ending.Sent) codes Later more end = rw test at by in ended first more written [] same it.1
text_by false code codes more end Later first written same test by =
    let it : ByTurn (Ends (ending_of code)) codes Later more end = rw test at by in ended first more written [] same it.1

fronts : (offered : Extensions) (mail : SmtpMail) (codes : List ℕ) (stage : SmtpStage) (written : List ℕ) (end : Ending) → Speaks offered mail codes stage written end
    → Fronts (stage_text offered mail stage ++ behind mail stage) written
fronts offered mail [] stage written end speaks = cut (stage_text offered mail stage) written (behind mail stage) speaks.0.0 speaks.0.1
fronts offered mail (code ∷ codes) Sender written end (more, same, by) =
    next_by (reply_class code == 2) Recipient code codes more end (Speaks offered mail codes) (mail_line offered mail) written (behind mail Sender) same by (fronts offered mail codes Recipient more end)
fronts offered mail (code ∷ codes) Recipient written end (more, same, by) =
    next_by (reply_class code == 2) Data code codes more end (Speaks offered mail codes) (rcpt_line mail) written (behind mail Recipient) same by (fronts offered mail codes Data more end)
fronts offered mail (code ∷ codes) Data written end (more, same, by) =
    next_by (reply_class code == 3) Text code codes more end (Speaks offered mail codes) data_line written (behind mail Data) same by (fronts offered mail codes Text more end)
fronts offered mail (code ∷ codes) Text written end (more, same, by) =
    text_by (code == 250) code codes more end (Speaks offered mail codes) (sent_from sent_start mail.text) written same refl by

pub speaks_right : SpeaksRight
speaks_right = record {
  sent = sent;
  front = λ offered mail codes written end speaks.
      let it = fronts offered mail codes Sender written end speaks in
      (it.0, ap (λ t. mail_line offered mail ++ (rcpt_line mail ++ (data_line ++ t))) (sym (append-nil (sent_from sent_start mail.text))) ∙ it.1);
}
