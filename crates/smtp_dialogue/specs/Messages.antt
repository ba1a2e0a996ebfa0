-- A message with its envelope, and what is written for it.
use Rattle.std.specs.Prelude.{◌≡◌, ◌⊎◌, ℕ, ◌||◌, ◌&&◌, if◌then◌else◌, Bool, true, List, [], ◌++◌, length, codes, decimal}
use Rattle.std.specs.List.{list_any}
use Rattle.mail_head.specs.Cuts.{CutsLogicalLine}
use Rattle.lmtp_dialogue.specs.Copies.{is_path_line}
use Rattle.lmtp_dialogue.specs.Lines.{line_end}
use Rattle.smtp_dialogue.specs.Mailboxes.{IsSmtpMailbox, is_high}
use Rattle.smtp_dialogue.specs.Sent.{text_from, sent_start}
use Rattle.smtp_dialogue.specs.declared.extension.Extensions.{Extensions}
use Rattle.smtp_dialogue.specs.declared.message.SmtpMessage.{SmtpMessage}

-- a sender, which is empty for a bounce, a recipient, and the text of a message
pub record SmtpMail : Type 0 where
  pub sender : List ℕ
  pub target : List ℕ
  pub text : List ℕ

-- from the value of the code
abbrev pub smtp_mail_of : SmtpMessage → SmtpMail
smtp_mail_of message = record { sender = message.sender.now; target = message.target.now; text = message.text.now }

-- ---- the text

-- a message without the field `Return-Path` that its first line is (RFC 5321, section 4.4), or all of it
abbrev pub LeavesPath : List ℕ → List ℕ → Type 0
LeavesPath message text =
    ((line : List ℕ) × CutsLogicalLine message line text × (is_path_line line ≡ true))
    ⊎ ((text ≡ message) × ((line after : List ℕ) → CutsLogicalLine message line after → is_path_line line ≡ true → ⊥))

-- ---- what it needs

-- its addresses are mailboxes; a sender may be empty
abbrev pub IsSender : List ℕ → Type 0
IsSender sender = (sender ≡ []) ⊎ IsSmtpMailbox sender

-- its sender, unless it is empty, and its recipient are mailboxes
abbrev pub IsMailAddressed : SmtpMail → Type 0
IsMailAddressed mail = IsSender mail.sender × IsSmtpMailbox mail.target

-- an octet over 127 is in an address; in its text
abbrev pub has_high : List ℕ → Bool
has_high text = list_any is_high text

abbrev pub needs_smtputf8 : SmtpMail → Bool
needs_smtputf8 mail = has_high mail.sender || has_high mail.target

abbrev pub needs_eight_bit : SmtpMail → Bool
needs_eight_bit mail = has_high mail.text

-- what it needs is offered; without 8BITMIME it may go if that is allowed
pub record IsOffered (offered : Extensions) (may_eight_bit : Bool) (mail : SmtpMail) : Type 0 where
  pub addresses : needs_smtputf8 mail ≡ true → offered.smtputf8 ≡ true
  pub text : needs_eight_bit mail ≡ true → (offered.eight_bit_mime || may_eight_bit) ≡ true

-- ---- what is written

-- how many octets the other side has of it (RFC 1870)
abbrev pub sent_size : List ℕ → ℕ
sent_size text = length (text_from sent_start text)

abbrev pub size_part : Extensions → SmtpMail → List ℕ
size_part offered mail = if offered.size then codes " SIZE=" ++ decimal (sent_size mail.text) else []

abbrev pub body_part : Extensions → SmtpMail → List ℕ
body_part offered mail = if offered.eight_bit_mime && needs_eight_bit mail then codes " BODY=8BITMIME" else []

abbrev pub utf8_part : SmtpMail → List ℕ
utf8_part mail = if needs_smtputf8 mail then codes " SMTPUTF8" else []

-- MAIL, with what is needed and offered (RFC 5321, section 4.1.1.2; RFC 1870, section 6; RFC 6152; RFC 6531, section 3.4)
abbrev pub mail_line : Extensions → SmtpMail → List ℕ
mail_line offered mail =
    codes "MAIL FROM:<" ++ (mail.sender ++ (codes ">" ++ (size_part offered mail ++ (body_part offered mail ++ (utf8_part mail ++ line_end)))))

-- RCPT (section 4.1.1.3)
abbrev pub rcpt_line : SmtpMail → List ℕ
rcpt_line mail = codes "RCPT TO:<" ++ (mail.target ++ (codes ">" ++ line_end))

-- EHLO with the name of this host (section 4.1.1.1)
abbrev pub ehlo_line : List ℕ → List ℕ
ehlo_line host = codes "EHLO " ++ (host ++ line_end)

abbrev pub data_line : List ℕ
data_line = codes "DATA" ++ line_end

abbrev pub rset_line : List ℕ
rset_line = codes "RSET" ++ line_end

abbrev pub quit_line : List ℕ
quit_line = codes "QUIT" ++ line_end
