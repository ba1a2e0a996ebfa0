-- The terms in which the reasons to send no response are given.
use Rattle.std.specs.Prelude.{ℕ, ◌+◌, ◌-◌, ◌*◌, max, min, nat_lt, nat_eq, Bool, true, false, not, ◌==◌, ◌&&◌, ◌||◌, cond, List, [], ◌∷◌, length, take, drop, map, codes, Option, None, Some, unwrap_or}
use Rattle.std.specs.List.{list_any, flat_map, before_first}
use Rattle.std.specs.Cmp.Lexicographic.{pointwise}
use Rattle.octets.specs.Ascii.{lowered, trimmed}
use Rattle.mail_head.specs.Fields.{FieldText}
use Rattle.mail_head.specs.Lines.{at_front}
use Rattle.mail_head.specs.Heads.{unfold_of}
use Rattle.mail_address.specs.declared.address.Addr.{Addr}
use Rattle.mail_address.specs.Spelling.{unquoted_address}
use Rattle.mail_address.specs.Reading.{addrs}
use Rattle.sieve_syntax.specs.declared.extension.vacation.VacationArgs.{VacationArgs}
use Rattle.sieve_exec.specs.Mails.{MailSpec}

abbrev pub is_empty : List ℕ → Bool
is_empty [] = true
is_empty (octet ∷ rest) = false

-- the same text ignoring ASCII case
abbrev pub same_ignoring_case : List ℕ → List ℕ → Bool
same_ignoring_case one two = pointwise nat_eq (lowered one) (lowered two)

-- one of these texts, ignoring case
abbrev pub is_one_of : List (List ℕ) → List ℕ → Bool
is_one_of texts text = list_any (λ one. same_ignoring_case one text) texts

-- the text begins with `front`, ignoring case
abbrev pub begins_with_text : List ℕ → List ℕ → Bool
begins_with_text front text = same_ignoring_case front (take (length front) text)

-- the text ends with `end`, ignoring case
abbrev pub ends_with : List ℕ → List ℕ → Bool
ends_with end text = same_ignoring_case end (drop (length text - length end) text)

-- the local part of a program that answers mail (RFC 5230, 4.6)
abbrev pub is_robot : List ℕ → Bool
is_robot local =
    is_one_of (codes "mailer-daemon" ∷ (codes "listserv" ∷ (codes "majordomo" ∷ []))) local
    || (begins_with_text (codes "owner-") local || ends_with (codes "-request") local)

-- some field with one of these names, ignoring case, has an unfolded value that passes
abbrev pub has_value : List (List ℕ) → (List ℕ → Bool) → FieldText → Bool
has_value names passes field = is_one_of names field.name && passes (unfold_of field.raw)

abbrev pub some_value : List (List ℕ) → (List ℕ → Bool) → MailSpec → Bool
some_value names passes mail = list_any (has_value names passes) mail.fields

-- one of these addresses, each with nothing quoted; ignoring case
abbrev pub has_address : List Addr → List ℕ → Bool
has_address addresses text = list_any (λ one. same_ignoring_case (unquoted_address one) text) addresses

-- the user's addresses: the account's, the envelope's recipient as it was written, and those of `:addresses`; ignoring case
abbrev pub is_users : VacationArgs → MailSpec → Addr → List ℕ → Bool
is_users args mail own text =
    same_ignoring_case (unquoted_address own) text || (same_ignoring_case mail.to text || has_address args.addresses text)

-- `;`
abbrev pub begins_parameters : ℕ → Bool
begins_parameters octet = octet == 59

-- what precedes the first `;`, without the blanks at its ends, isn't `no` (RFC 3834, 5)
abbrev pub is_automatic : List ℕ → Bool
is_automatic value = not (same_ignoring_case (codes "no") (trimmed (before_first begins_parameters value)))

-- `,`
abbrev pub is_comma : ℕ → Bool
is_comma octet = octet == 44

-- what is before, between and after the commas of a text
abbrev pub between_commas : List ℕ → List (List ℕ)
between_commas [] = [] ∷ []
between_commas (octet ∷ rest) = cond (is_comma octet) ([] ∷ between_commas rest) (at_front octet (between_commas rest))

-- `All`, `OOF` or `AutoReply`, without the blanks at the ends
abbrev pub refuses_answer : List ℕ → Bool
refuses_answer value = is_one_of (codes "all" ∷ (codes "oof" ∷ (codes "autoreply" ∷ []))) (trimmed value)

-- one of its values refuses an answer (X-Auto-Response-Suppress, a field of Microsoft's: [MS-OXCMAIL])
abbrev pub is_suppressing : List ℕ → Bool
is_suppressing value = list_any refuses_answer (between_commas value)

-- the names of the fields that mailing lists add (RFC 2369; RFC 2919)
abbrev pub list_fields : List (List ℕ)
list_fields =
    codes "list-id" ∷ (codes "list-help" ∷ (codes "list-subscribe" ∷ (codes "list-unsubscribe" ∷ (codes "list-post"
    ∷ (codes "list-owner" ∷ (codes "list-archive" ∷ []))))))

-- `bulk`, `list` or `junk`, without the blanks at the ends
abbrev pub is_bulk : List ℕ → Bool
is_bulk value = is_one_of (codes "bulk" ∷ (codes "list" ∷ (codes "junk" ∷ []))) (trimmed value)

-- the names of the fields that name recipients (RFC 5322, 3.6.3 and 3.6.6)
abbrev pub recipient_fields : List (List ℕ)
recipient_fields =
    codes "to" ∷ (codes "cc" ∷ (codes "bcc" ∷ (codes "resent-to" ∷ (codes "resent-cc" ∷ (codes "resent-bcc" ∷ [])))))

-- the addresses in a field that names recipients, each with nothing quoted; none in any other
abbrev pub recipients_in : FieldText → List (List ℕ)
recipients_in field = cond (is_one_of recipient_fields field.name) (map unquoted_address (addrs (unfold_of field.raw))) []

-- the addresses of a mail's recipient fields, in order
abbrev pub recipients_of : MailSpec → List (List ℕ)
recipients_of mail = flat_map recipients_in mail.fields

-- 1 to 365 days; 7 if `:days` isn't given (RFC 5230, 4.1)
abbrev pub days_period : Option ℕ → ℕ
days_period days = max 1 (min 365 (unwrap_or days 7)) * 86400

-- for that many seconds a sender gets no second response: `:seconds` if they are given, at most 365 days (RFC 6131, 2), otherwise the
-- days
abbrev pub period_of : VacationArgs → ℕ
period_of args = elim args.seconds [
  | None ↦ days_period args.days
  | Some seconds ↦ min 31536000 seconds
]

-- a moment is kept, and this one comes before its period is over; a period of 0 is over at once
abbrev pub is_too_soon : VacationArgs → Option ℕ → ℕ → Bool
is_too_soon args None moment = false
is_too_soon args (Some kept) moment = nat_lt 0 (period_of args) && nat_lt moment (kept + period_of args)
