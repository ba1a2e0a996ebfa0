-- The octets of a response (RFC 5230, 5; RFC 3834, 3).
use Rattle.std.specs.Prelude.{◌≡◌, ℕ, nat_le, nat_lt, nat_eq, Bool, true, false, ◌==◌, ◌&&◌, ◌||◌, not, cond, List, [], ◌∷◌, ◌++◌, length, take, codes, encode_utf8_all, Option, None, Some, option_map, unwrap_or, is_some}
use Rattle.std.specs.List.{list_all, ends_with}
use Rattle.std.specs.Str.{is_utf8, chars}
use Rattle.octets.specs.Ascii.{is_printable, trimmed}
use Rattle.mail_head.specs.Fields.{FieldText}
use Rattle.mail_head.specs.Heads.{fields_of, unfold_of}
use Rattle.mail_words.specs.Headers.{IsHeaderText, IsWorded}
use Rattle.mail_words.specs.Written.{has_written_words, has_phrase_words, lines_for, IsWrittenText}
use Rattle.mail_address.specs.declared.address.Addr.{Addr}
use Rattle.mail_address.specs.Spelling.{address_spelling, quoted}
use Rattle.sieve_syntax.specs.declared.extension.vacation.VacationArgs.{VacationArgs}
use Rattle.sieve_syntax.specs.declared.extension.vacation.ReplyFrom.{ReplyFrom}
use Rattle.sieve_exec.specs.Mails.{MailSpec, text_shown}
use Rattle.sieve_vacation.specs.Cases.{same_ignoring_case}
use Rattle.sieve_vacation.specs.Dates.{IsUtcDateText}

-- CRLF
abbrev pub crlf_octets : List ℕ
crlf_octets = 13 ∷ (10 ∷ [])

-- a line of the response: what it begins with, its value and CRLF
abbrev pub reply_line : List ℕ → List ℕ → List ℕ
reply_line front value = front ++ (value ++ crlf_octets)

-- the raw value of the first field with this name, ignoring case
abbrev pub first_raw : List ℕ → List FieldText → Option (List ℕ)
first_raw name [] = None
first_raw name (field ∷ more) = cond (same_ignoring_case name field.name) (Some field.raw) (first_raw name more)

-- a text that is UTF-8; any other counts as none
abbrev pub usable : Option (List ℕ) → Option (List ℕ)
usable None = None
usable (Some text) = cond (is_utf8 text) (Some text) None

-- the display name of `:from`; one that isn't UTF-8 counts as empty
abbrev pub display_of : ReplyFrom → List ℕ
display_of from = unwrap_or (usable (Some from.display)) []

-- at most 200 octets, all from 32 to 126
abbrev pub is_quotable_display : List ℕ → Bool
is_quotable_display display = nat_le (length display) 200 && list_all is_printable display

-- a mark that no atom has (RFC 5322, 3.2.3: specials): one of `( ) < > [ ] : ; @ \ , . "`
abbrev pub is_special : ℕ → Bool
is_special octet =
    octet == 34 || (octet == 40 || (octet == 41 || (octet == 44 || (octet == 46 || (octet == 58 || (octet == 59 || (octet == 60
    || (octet == 62 || (octet == 64 || (octet == 91 || (octet == 92 || octet == 93)))))))))))

abbrev pub is_phrase_octet : ℕ → Bool
is_phrase_octet octet = not (is_special octet)

-- atoms, and words that the script's author encoded, as a phrase has them (RFC 5322, 3.2.5; RFC 2047, 5)
abbrev pub is_phrase_text : List ℕ → Bool
is_phrase_text display = list_all is_phrase_octet display && (has_phrase_words display && has_written_words display)

-- a phrase with such words is written as it is, any other display name as a quoted string (RFC 5322, 3.2.4) if it can be one, otherwise
-- as encoded words (RFC 2047, 5)
pub record IsDisplay (display value : List ℕ) : Type 0 where
  pub phrase : is_phrase_text display ≡ true → value ≡ lines_for display
  pub string : is_phrase_text display ≡ false → is_quotable_display display ≡ true → value ≡ quoted display
  pub words : is_phrase_text display ≡ false → is_quotable_display display ≡ false → IsWorded display value

-- an address with a display name before it, or if that is empty only the address
abbrev pub IsFromMailbox : List ℕ → List ℕ → List ℕ → Type 0
IsFromMailbox [] address value = value ≡ address
IsFromMailbox (octet ∷ rest) address value =
    (display : List ℕ) × (IsDisplay (octet ∷ rest) display × (value ≡ display ++ (codes " <" ++ (address ++ codes ">"))))

-- the value of From: the account's address, or what `:from` says
abbrev pub IsFrom : Option ReplyFrom → Addr → List ℕ → Type 0
IsFrom None own value = value ≡ address_spelling own
IsFrom (Some from) own value = IsFromMailbox (display_of from) (address_spelling from.address) value

-- the text of the first Subject field: unfolded, decoded, and without the blanks at its ends
abbrev pub subject_of : MailSpec → Option (List ℕ)
subject_of mail = option_map (λ raw. text_shown (unfold_of raw)) (first_raw (codes "subject") mail.fields)

-- the first 256 characters of a text, and then `...` if it has more
abbrev pub shortened : List ℕ → List ℕ
shortened text = encode_utf8_all (take 256 (chars text)) ++ cond (nat_lt 256 (length (chars text))) (codes "...") []

-- `Auto: ` and that text, shortened; `Automated reply` if there is none or it is empty
abbrev pub auto_subject : Option (List ℕ) → List ℕ
auto_subject None = codes "Automated reply"
auto_subject (Some []) = codes "Automated reply"
auto_subject (Some (octet ∷ rest)) = codes "Auto: " ++ shortened (octet ∷ rest)

-- the value of Subject: the text of `:subject`, with the words that the script's author encoded, or one made from the mail's
abbrev pub IsSubject : Option (List ℕ) → MailSpec → List ℕ → Type 0
IsSubject None mail value = IsHeaderText (auto_subject (usable (subject_of mail))) value
IsSubject (Some text) mail value = IsWrittenText text value

-- 33 to 126
abbrev pub is_visible : ℕ → Bool
is_visible octet = nat_le 33 octet && nat_le octet 126

-- a Message-ID that can be written in a line: 1 to 250 octets, all visible
abbrev pub is_message_id : List ℕ → Bool
is_message_id id = nat_le 1 (length id) && (nat_le (length id) 250 && list_all is_visible id)

-- the line In-Reply-To with a Message-ID, if there is one that can be written there
abbrev pub in_reply_to_line : Option (List ℕ) → List ℕ
in_reply_to_line None = []
in_reply_to_line (Some id) = cond (is_message_id id) (reply_line (codes "In-Reply-To: ") id) []

-- that line with the value of the mail's first Message-ID field, unfolded and without the blanks at its ends
abbrev pub in_reply_to : MailSpec → List ℕ
in_reply_to mail = in_reply_to_line (option_map (λ raw. trimmed (unfold_of raw)) (first_raw (codes "message-id") mail.fields))

-- the header of a reason has a field MIME-Version
abbrev pub has_version : List ℕ → Bool
has_version reason = is_some (first_raw (codes "mime-version") (fields_of reason))

-- the line MIME-Version, unless the reason has it
abbrev pub version : VacationArgs → List ℕ
version args = cond (args.mime && has_version args.reason) [] (reply_line (codes "MIME-Version: 1.0") [])

-- the header of a reason that is plain text, with the empty line after it; with `:mime` the reason has its own
abbrev pub content_header : Bool → List ℕ
content_header true = []
content_header false =
    reply_line (codes "Content-Type: text/plain; charset=utf-8") [] ++ (reply_line (codes "Content-Transfer-Encoding: 8bit") [] ++ crlf_octets)

-- a reason, and CRLF unless it ends with that
abbrev pub with_line_end : List ℕ → List ℕ
with_line_end reason = cond (ends_with nat_eq reason crlf_octets) reason (reason ++ crlf_octets)

-- what follows the date
abbrev pub body_text : VacationArgs → MailSpec → List ℕ
body_text args mail =
    reply_line (codes "Auto-Submitted: auto-replied") [] ++ (in_reply_to mail ++ (version args ++ (content_header args.mime ++ with_line_end args.reason)))

-- the line To: the envelope's sender as it was received
abbrev pub to_line : List ℕ → List ℕ
to_line sender = codes "To: <" ++ (sender ++ (codes ">" ++ crlf_octets))

-- the lines of the response, in order
abbrev pub reply_text : List ℕ → List ℕ → List ℕ → List ℕ → List ℕ → List ℕ
reply_text from to subject date rest =
    reply_line (codes "From: ") from ++ (to_line to ++ (reply_line (codes "Subject: ") subject ++ (reply_line (codes "Date: ") date ++ rest)))

-- the response of the user with this address to a mail at this moment
pub record IsVacationReply (args : VacationArgs) (mail : MailSpec) (own : Addr) (moment : ℕ) (reply : List ℕ) : Type 0 where
  pub from : List ℕ
  pub subject : List ℕ
  pub date : List ℕ
  pub is_from : IsFrom args.from own from
  pub is_subject : IsSubject (usable args.subject) mail subject
  pub is_date : IsUtcDateText moment date
  pub spelled : reply ≡ reply_text from mail.from subject date (body_text args mail)

-- a line with such a value is appended to what was there
pub record WritesLine (front : List ℕ) (IsValue : List ℕ → Type 0) (old new : List ℕ) : Type 0 where
  pub value : List ℕ
  pub is_value : IsValue value
  pub appended : new ≡ old ++ reply_line front value
