-- A message with its envelope and when it is delivered, as the tests of a script see it (RFC 5228, 2.4.2 and 5).
use Rattle.std.specs.Prelude.{ℕ, ℤ, Bool, true, false, cond, codes, List, [], ◌∷◌, map, nat_eq, Option, unwrap_or}
use Rattle.std.specs.List.{filter, flat_map, list_any}
use Rattle.std.specs.Cmp.Lexicographic.{pointwise}
use Rattle.octets.specs.Ascii.{lowered, trimmed}
use Rattle.mail_head.specs.Fields.{FieldText}
use Rattle.mail_head.specs.Heads.{fields_of, size_of, unfold_of}
use Rattle.mail_words.specs.Values.{decoded_text}
use Rattle.mail_address.specs.declared.address.Addr.{Addr}
use Rattle.mail_address.specs.Reading.{addrs}
use Rattle.sieve_exec.specs.declared.envelope.Envelope.{Envelope}
use Rattle.sieve_exec.specs.declared.when.When.{When}

-- what tests see of a message, its envelope and its delivery
pub record MailSpec : Type 0 where
  -- the message's fields, in order
  pub fields : List FieldText
  -- the envelope's addresses as they were written; the null reverse-path is empty
  pub from : List ℕ
  pub to : List ℕ
  -- the message's octets, and one more for each LF without CR right before it
  pub size : ℕ
  -- the message's octets
  pub octets : List ℕ
  -- when it is delivered, in seconds since 1970-01-01 UTC
  pub moment : ℕ
  -- the host's zone at that moment, in minutes east of UTC
  pub zone : ℤ

-- the mail of a message, its envelope and the moment of delivery
abbrev pub mail_spec_of : List ℕ → Envelope → When → MailSpec
mail_spec_of message envelope when =
    record {
      fields = fields_of message;
      from = envelope.from;
      to = envelope.to;
      size = size_of message;
      octets = message;
      moment = when.moment;
      zone = when.zone;
    }

-- the mail with this size, if one is given
abbrev pub with_size : Option ℕ → MailSpec → MailSpec
with_size told mail = record mail { size = unwrap_or told mail.size }

-- a field has this name, in any ASCII case
abbrev pub has_name : List ℕ → FieldText → Bool
has_name name field = pointwise nat_eq (lowered field.name) (lowered name)

-- the unfolded values of the fields with a name, in order (RFC 5322, 2.2.3); a field that is absent has none
abbrev pub field_values : MailSpec → List ℕ → List (List ℕ)
field_values mail name = map unfold_of (map (λ field. field.raw) (filter (λ field. has_name name field) mail.fields))

-- the text of an unfolded value: it is decoded (RFC 2047), and then the blanks at its ends are removed (RFC 5228, 5.7)
abbrev pub text_shown : List ℕ → List ℕ
text_shown value = trimmed (decoded_text value)

-- the texts of the fields with a name
abbrev pub field_texts : MailSpec → List ℕ → List (List ℕ)
field_texts mail name = map text_shown (field_values mail name)

-- the names of the fields that have addresses, in lower case
abbrev pub address_fields : List (List ℕ)
address_fields =
    codes "from" ∷ codes "to" ∷ codes "cc" ∷ codes "bcc" ∷ codes "sender" ∷ codes "reply-to" ∷ codes "resent-from"
    ∷ codes "resent-to" ∷ codes "resent-cc" ∷ codes "resent-bcc" ∷ codes "resent-sender" ∷ codes "delivered-to"
    ∷ codes "x-original-to" ∷ codes "return-path" ∷ []

-- whether fields with this name, in any ASCII case, have addresses
abbrev pub has_addresses : List ℕ → Bool
has_addresses name = list_any (λ field. pointwise nat_eq field (lowered name)) address_fields

-- the addresses of the unfolded values, which aren't decoded, of the fields with a name; none if such fields have no addresses
abbrev pub field_addresses : MailSpec → List ℕ → List Addr
field_addresses mail name = cond (has_addresses name) (flat_map addrs (field_values mail name)) []

-- whether a text isn't empty
abbrev pub is_some_of : List ℕ → Bool
is_some_of [] = false
is_some_of (octet ∷ rest) = true
