-- What is answered (RFC 5321, sections 4.2 and 4.3.2; the codes after the first: RFC 3463, RFC 2034).
use Rattle.std.specs.Prelude.{◌≡◌, ℕ, ◌≤◌, Bool, true, false, if◌then◌else◌, List, [], ◌∷◌, ◌++◌, codes, length, map, take}
use Rattle.std.specs.List.{list_all}
use Rattle.octets.specs.Ascii.{is_printable}
use Rattle.lmtp_dialogue.specs.Lines.{line_end}
use Rattle.lmtp_dialogue.specs.declared.reply.LmtpReply.{LmtpReply}
use Rattle.lmtp_dialogue.specs.declared.reply.LmtpReply.TheVariants.{Done, SenderTaken, RecipientTaken, Unverified, GoAhead, Helped, Goodbye, UnknownCommand, NotSmtp, LineTooLong, BadArgument, BadSender, BadRecipient, OutOfOrder, NoRecipient, BadParameter, NoSuchUser, AccountClosed, MessageTooLarge, HeaderTooLarge, MailLoop, NoRoom, TooManyRecipients, StoreAway, LocalFault, Idle}

-- a line with its code, and what it says for people
abbrev pub lmtp_line_of : LmtpReply → List ℕ
lmtp_line_of Done = codes "250 2.0.0 Ok" ++ line_end
lmtp_line_of SenderTaken = codes "250 2.1.0 Ok" ++ line_end
lmtp_line_of RecipientTaken = codes "250 2.1.5 Ok" ++ line_end
lmtp_line_of Unverified = codes "252 2.5.0 Not verified" ++ line_end
lmtp_line_of GoAhead = codes "354 End with a dot on a line of its own" ++ line_end
lmtp_line_of Helped = codes "214 2.0.0 See RFC 2033" ++ line_end
lmtp_line_of Goodbye = codes "221 2.0.0 Bye" ++ line_end
lmtp_line_of UnknownCommand = codes "500 5.5.1 No such command" ++ line_end
lmtp_line_of NotSmtp = codes "500 5.5.1 This is LMTP, say LHLO" ++ line_end
lmtp_line_of LineTooLong = codes "500 5.5.2 Line too long" ++ line_end
lmtp_line_of BadArgument = codes "501 5.5.4 Bad argument" ++ line_end
lmtp_line_of BadSender = codes "501 5.1.7 Bad sender address" ++ line_end
lmtp_line_of BadRecipient = codes "501 5.1.3 Bad recipient address" ++ line_end
lmtp_line_of OutOfOrder = codes "503 5.5.1 Command out of order" ++ line_end
lmtp_line_of NoRecipient = codes "503 5.5.1 No recipient" ++ line_end
lmtp_line_of BadParameter = codes "555 5.5.4 Parameter not known" ++ line_end
lmtp_line_of NoSuchUser = codes "550 5.1.1 No such user" ++ line_end
lmtp_line_of AccountClosed = codes "451 4.2.1 Account is closed, try later" ++ line_end
lmtp_line_of MessageTooLarge = codes "552 5.3.4 Message too large" ++ line_end
lmtp_line_of HeaderTooLarge = codes "552 5.3.4 Header too large" ++ line_end
lmtp_line_of MailLoop = codes "554 5.4.6 Mail loop" ++ line_end
lmtp_line_of NoRoom = codes "452 4.3.1 Out of memory, try later" ++ line_end
lmtp_line_of TooManyRecipients = codes "452 4.5.3 Too many recipients" ++ line_end
lmtp_line_of StoreAway = codes "451 4.3.2 Store is busy, try later" ++ line_end
lmtp_line_of LocalFault = codes "451 4.3.0 Local fault, try later" ++ line_end
lmtp_line_of Idle = codes "421 4.4.2 Idle" ++ line_end

-- one for which the host is to blame, and not the client
abbrev pub is_of_host : LmtpReply → Bool
is_of_host AccountClosed = true
is_of_host NoRoom = true
is_of_host TooManyRecipients = true
is_of_host StoreAway = true
is_of_host LocalFault = true
is_of_host Idle = true
is_of_host Done = false
is_of_host SenderTaken = false
is_of_host RecipientTaken = false
is_of_host Unverified = false
is_of_host GoAhead = false
is_of_host Helped = false
is_of_host Goodbye = false
is_of_host UnknownCommand = false
is_of_host NotSmtp = false
is_of_host LineTooLong = false
is_of_host BadArgument = false
is_of_host BadSender = false
is_of_host BadRecipient = false
is_of_host OutOfOrder = false
is_of_host NoRecipient = false
is_of_host BadParameter = false
is_of_host NoSuchUser = false
is_of_host MessageTooLarge = false
is_of_host HeaderTooLarge = false
is_of_host MailLoop = false

abbrev pub first_octet : List ℕ → ℕ
first_octet [] = 0
first_octet (octet ∷ rest) = octet

-- a client is told to try such a one again: its code begins with 4, so no message is bounced for it
abbrev pub HostsFaultsPass : Type 0
HostsFaultsPass = (reply : LmtpReply) → is_of_host reply ≡ true → first_octet (lmtp_line_of reply) ≡ 52

-- ---- texts from elsewhere

-- an octet that isn't printable ASCII is shown as `?`
abbrev pub lmtp_shown_octet : ℕ → ℕ
lmtp_shown_octet octet = if is_printable octet then octet else 63

-- at most this many octets of a text
abbrev pub lmtp_shown : ℕ → List ℕ → List ℕ
lmtp_shown most text = map lmtp_shown_octet (take most text)

-- ---- one line

-- a line of an answer has at most this many octets, with its CRLF (RFC 5321, section 4.5.3.1.5)
abbrev pub max_reply : ℕ
max_reply = 512

-- one line of printable octets, and no longer than one may be
pub record IsOneReplyLine (said : List ℕ) : Type 0 where
  pub line : List ℕ
  pub written : said ≡ line ++ line_end
  pub printable : list_all is_printable line ≡ true
  pub short : length said ≤ max_reply

-- ---- who greets, and what is announced to LHLO

-- a host's name has at most this many octets (RFC 1035, section 2.3.4)
abbrev pub max_host : ℕ
max_host = 255

-- the greeting, with the host's name
abbrev pub lmtp_greeting : List ℕ → List ℕ
lmtp_greeting host = codes "220 " ++ (lmtp_shown max_host host ++ (codes " LMTP" ++ line_end))

-- an answer of several lines: each has the code, the last followed by a space and the others by a hyphen (RFC 5321, section 4.2.1)
abbrev pub lmtp_lines_of : List ℕ → List ℕ → List (List ℕ) → List ℕ
lmtp_lines_of code line [] = code ++ 32 ∷ (line ++ line_end)
lmtp_lines_of code line (next ∷ others) = code ++ 45 ∷ (line ++ (line_end ++ lmtp_lines_of code next others))

-- SIZE: RFC 1870; PIPELINING: RFC 2920; 8BITMIME: RFC 6152; SMTPUTF8: RFC 6531
abbrev pub announced : List (List ℕ)
announced =
    codes "PIPELINING" ∷ codes "SIZE 33552232" ∷ codes "8BITMIME" ∷ codes "SMTPUTF8" ∷ codes "ENHANCEDSTATUSCODES" ∷ []

-- the answer to LHLO
abbrev pub lmtp_capabilities : List ℕ → List ℕ
lmtp_capabilities host = lmtp_lines_of (codes "250") (lmtp_shown max_host host) announced
