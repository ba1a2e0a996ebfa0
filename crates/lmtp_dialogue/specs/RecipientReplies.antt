-- What becomes of a recipient behind the text (RFC 2033, section 4.2), and the lines that tell it.
use Rattle.std.specs.Prelude.{ℕ, List, ◌++◌, codes}
use Rattle.lmtp_dialogue.specs.Lines.{line_end}
use Rattle.lmtp_dialogue.specs.Replies.{lmtp_line_of, lmtp_shown, IsOneReplyLine}
use Rattle.lmtp_dialogue.specs.declared.recipient_reply.RecipientReply.{RecipientReply}
use Rattle.lmtp_dialogue.specs.declared.recipient_reply.RecipientReply.TheVariants.{Delivered, Refused}

-- of a reply's own text this many octets are said: with a code, an enhanced one and CRLF a line has no more than it may then
-- (RFC 5321, section 4.5.3.1.5)
abbrev pub max_reply_text : ℕ
max_reply_text = 500

-- both codes, each with a space behind it (RFC 5321, section 4.2; RFC 2034, section 4), and what is said of a text
abbrev pub coded_reply : List ℕ → List ℕ → List ℕ
coded_reply code text = code ++ (lmtp_shown max_reply_text text ++ line_end)

-- what a recipient is told: the report of the delivery, or by a fixed line why there was none
abbrev pub recipient_lines : RecipientReply → List ℕ
recipient_lines (Delivered report) = coded_reply (codes "250 2.1.5 ") report
recipient_lines (Refused reply) = lmtp_line_of reply

-- whatever a text has, and for each fixed line
abbrev pub RepliesAreLines : Type 0
RepliesAreLines = (outcome : RecipientReply) → IsOneReplyLine (recipient_lines outcome)
