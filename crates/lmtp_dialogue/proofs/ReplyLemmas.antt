-- What is answered in one line.
use Rattle.std.proofs.Common.{◌≡◌, ℕ, ◌≤◌, Bool, true, false, List, [], ◌∷◌, ◌++◌, codes, length, map, take, refl, sym, ◌∙◌, append_assoc, length-append, lit≤, arith}
use Rattle.std.proofs.lemmas.List.{length-take, length-map}
use Rattle.std.proofs.lemmas.List.Folds.{list_all-append}
use Rattle.std.specs.List.{list_all}
use Rattle.octets.specs.Ascii.{is_printable}
use Rattle.lmtp_dialogue.specs.Lines.{line_end}
use Rattle.lmtp_dialogue.specs.RecipientReplies.{coded_reply, RepliesAreLines}
use Rattle.lmtp_dialogue.specs.Replies.{lmtp_line_of, lmtp_shown_octet, lmtp_shown, IsOneReplyLine}
use Rattle.lmtp_dialogue.specs.declared.recipient_reply.RecipientReply.TheVariants.{Delivered, Refused}
use Rattle.lmtp_dialogue.specs.declared.reply.LmtpReply.{LmtpReply}
use Rattle.lmtp_dialogue.specs.declared.reply.LmtpReply.TheVariants.{Done, SenderTaken, RecipientTaken, Unverified, GoAhead, Helped, Goodbye, UnknownCommand, NotSmtp, LineTooLong, BadArgument, BadSender, BadRecipient, OutOfOrder, NoRecipient, BadParameter, NoSuchUser, AccountClosed, MessageTooLarge, HeaderTooLarge, MailLoop, NoRoom, TooManyRecipients, StoreAway, LocalFault, Idle}

ended : (line : List ℕ) → list_all is_printable line ≡ true → length (line ++ line_end) ≤ 512 → IsOneReplyLine (line ++ line_end)
ended line printable short = record { line = line; written = refl; printable = printable; short = short }

one_line : (reply : LmtpReply) → IsOneReplyLine (lmtp_line_of reply)
one_line Done = ended (codes "250 2.0.0 Ok") refl (lit≤ tt)
one_line SenderTaken = ended (codes "250 2.1.0 Ok") refl (lit≤ tt)
one_line RecipientTaken = ended (codes "250 2.1.5 Ok") refl (lit≤ tt)
one_line Unverified = ended (codes "252 2.5.0 Not verified") refl (lit≤ tt)
one_line GoAhead = ended (codes "354 End with a dot on a line of its own") refl (lit≤ tt)
one_line Helped = ended (codes "214 2.0.0 See RFC 2033") refl (lit≤ tt)
one_line Goodbye = ended (codes "221 2.0.0 Bye") refl (lit≤ tt)
one_line UnknownCommand = ended (codes "500 5.5.1 No such command") refl (lit≤ tt)
one_line NotSmtp = ended (codes "500 5.5.1 This is LMTP, say LHLO") refl (lit≤ tt)
one_line LineTooLong = ended (codes "500 5.5.2 Line too long") refl (lit≤ tt)
one_line BadArgument = ended (codes "501 5.5.4 Bad argument") refl (lit≤ tt)
one_line BadSender = ended (codes "501 5.1.7 Bad sender address") refl (lit≤ tt)
one_line BadRecipient = ended (codes "501 5.1.3 Bad recipient address") refl (lit≤ tt)
one_line OutOfOrder = ended (codes "503 5.5.1 Command out of order") refl (lit≤ tt)
one_line NoRecipient = ended (codes "503 5.5.1 No recipient") refl (lit≤ tt)
one_line BadParameter = ended (codes "555 5.5.4 Parameter not known") refl (lit≤ tt)
one_line NoSuchUser = ended (codes "550 5.1.1 No such user") refl (lit≤ tt)
one_line AccountClosed = ended (codes "451 4.2.1 Account is closed, try later") refl (lit≤ tt)
one_line MessageTooLarge = ended (codes "552 5.3.4 Message too large") refl (lit≤ tt)
one_line HeaderTooLarge = ended (codes "552 5.3.4 Header too large") refl (lit≤ tt)
one_line MailLoop = ended (codes "554 5.4.6 Mail loop") refl (lit≤ tt)
one_line NoRoom = ended (codes "452 4.3.1 Out of memory, try later") refl (lit≤ tt)
one_line TooManyRecipients = ended (codes "452 4.5.3 Too many recipients") refl (lit≤ tt)
one_line StoreAway = ended (codes "451 4.3.2 Store is busy, try later") refl (lit≤ tt)
one_line LocalFault = ended (codes "451 4.3.0 Local fault, try later") refl (lit≤ tt)
one_line Idle = ended (codes "421 4.4.2 Idle") refl (lit≤ tt)

-- ---- a text of its own

printable_by : (octet : ℕ) (test : Bool) → is_printable octet ≡ test → is_printable (lmtp_shown_octet octet) ≡ true
printable_by octet true is = rw is is
printable_by octet false is = rw is refl

printable_all : (text : List ℕ) → list_all is_printable (map lmtp_shown_octet text) ≡ true
printable_all [] = refl
printable_all (octet ∷ text) = rw (printable_by octet (is_printable octet) refl) (printable_all text)

pub all_shown : (most : ℕ) (text : List ℕ) → list_all is_printable (lmtp_shown most text) ≡ true
all_shown most text = printable_all (take most text)

shown_short : (most : ℕ) (text : List ℕ) → length (lmtp_shown most text) ≤ most
shown_short most text = omega (arith, length-map (take most text) lmtp_shown_octet, length-take most text)

-- a reply with a text of its own, whatever that has
coded_line : (code text : List ℕ) → list_all is_printable code ≡ true → length code ≤ 10 → IsOneReplyLine (coded_reply code text)
coded_line code text printable short =
    let said = lmtp_shown 500 text in
    record {
      line = code ++ said;
      written = sym (append_assoc code said line_end);
      printable = list_all-append is_printable code said ∙ (rw printable (all_shown 500 text));
      short = omega (arith, length-append code (said ++ line_end), length-append said line_end, shown_short 500 text, short);
    }

pub replies_are_lines : RepliesAreLines
replies_are_lines (Delivered report) = coded_line (codes "250 2.1.5 ") report refl (lit≤ tt)
replies_are_lines (Refused reply) = one_line reply
