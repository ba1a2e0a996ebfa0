-- Content-Type (RFC 2045, section 5).
use Rattle.std.specs.Prelude.{ℕ, ◌+◌, ◌==◌, nat_le, nat_lt, Bool, true, false, cond, not, ◌&&◌, Option, None, Some, List, [], ◌∷◌, ◌++◌, length, take, drop, map, codes, option_map, unwrap_or}
use Rattle.std.specs.List.{prefix_len, list_all, list_any}
use Rattle.std.specs.Str.{str_eq_ignore_ascii_case}
use Rattle.octets.specs.Ascii.{lowered}
use denote.Ref.{Bor}
use Rattle.mail_parts.specs.Letters.{letters_of}
use Rattle.mail_parts.specs.declared.limits.TheConstants.{MAX_FIELD_BODY}
use Rattle.mail_parts.specs.declared.letter.Letter.{Letter}
use Rattle.mail_parts.specs.declared.media_type.MediaType.{MediaType}

-- an octet outside of quoted strings
abbrev pub is_plain_sign : ℕ → Letter → Bool
is_plain_sign sign letter = not letter.quoted && letter.octet == sign

-- where the first such sign is
abbrev pub sign_place : ℕ → List Letter → ℕ
sign_place sign letters = prefix_len (λ letter. not (is_plain_sign sign letter)) letters

-- what comes before the first such sign
abbrev pub letters_before : ℕ → List Letter → List Letter
letters_before sign letters = take (sign_place sign letters) letters

-- what comes behind the first such sign; nothing if there is none
abbrev pub letters_behind : ℕ → List Letter → List Letter
letters_behind sign letters = drop (sign_place sign letters + 1) letters

-- tspecials: ( ) < > @ , ; : \ " / [ ] ? = (RFC 2045, section 5.1)
abbrev pub tspecials : List ℕ
tspecials = 40 ∷ 41 ∷ 60 ∷ 62 ∷ 64 ∷ 44 ∷ 59 ∷ 58 ∷ 92 ∷ 34 ∷ 47 ∷ 91 ∷ 93 ∷ 63 ∷ 61 ∷ []

-- an octet of a token: any of US-ASCII but SPACE, controls and tspecials
abbrev pub is_token_octet : ℕ → Bool
is_token_octet octet = nat_lt 32 octet && nat_lt octet 127 && not (list_any (λ special. special == octet) tspecials)

abbrev pub is_token_letter : Letter → Bool
is_token_letter letter = not letter.quoted && is_token_octet letter.octet

-- token = 1*<an octet of a token>
abbrev pub is_mime_token : List Letter → Bool
is_mime_token letters = not (length letters == 0) && list_all is_token_letter letters

-- the octets of letters
abbrev pub text_of : List Letter → List ℕ
text_of letters = map (λ letter. letter.octet) letters

-- type "/" subtype, up to the first semicolon, each a token in small letters
abbrev pub media_of : List Letter → Option (List ℕ × List ℕ)
media_of letters =
    let media = letters_before 59 letters in
    let kind = letters_before 47 media in
    let subtype = letters_behind 47 media in
    cond (is_mime_token kind && is_mime_token subtype) (Some (lowered (text_of kind), lowered (text_of subtype))) None

-- the texts of a kind and a subtype, in small letters
abbrev pub media_texts : Bor (List Letter) × Bor (List Letter) → List ℕ × List ℕ
media_texts media = (lowered (text_of media.0.now), lowered (text_of media.1.now))

-- whether such a sign is there
abbrev pub has_sign : ℕ → List Letter → Bool
has_sign sign letters = nat_lt (sign_place sign letters) (length letters)

-- a parameter's value, if this is a parameter with that name: name "=" value, the name in any case
abbrev pub value_named : List ℕ → List Letter → Option (List ℕ)
value_named name parameter =
    cond (has_sign 61 parameter && str_eq_ignore_ascii_case (text_of (letters_before 61 parameter)) name)
    (Some (text_of (letters_behind 61 parameter))) None

-- the first of two values
abbrev pub value_or : Option (List ℕ) → Option (List ℕ) → Option (List ℕ)
value_or None other = other
value_or (Some value) other = Some value

-- the value of the first parameter with a name: each stands behind a semicolon, up to the next one or the end
abbrev pub parameter_of : List ℕ → List Letter → Option (List ℕ)
parameter_of name [] = None
parameter_of name (letter ∷ more) =
    let later = parameter_of name more in
    cond (is_plain_sign 59 letter) (value_or (value_named name (letters_before 59 more)) later) later

-- a section's value and what follows it; nothing follows one that isn't there
abbrev pub section_then : Option (List ℕ) → List ℕ → List ℕ
section_then None later = []
section_then (Some value) later = value ++ later

-- a section of a value: the parameter name "*" digit (RFC 2231, section 3)
abbrev pub value_section : List ℕ → List Letter → ℕ → Option (List ℕ)
value_section name letters digit = parameter_of (name ++ 42 ∷ digit ∷ []) letters

-- the sections with these digits, up to the first that isn't there
abbrev pub value_sections : List ℕ → List Letter → List ℕ → List ℕ
value_sections name letters [] = []
value_sections name letters (digit ∷ more) =
    let later = value_sections name letters more in
    section_then (value_section name letters digit) later

-- a value in sections, numbered from 0 on, of which the first ten count
abbrev pub value_in_sections : List ℕ → List Letter → Option (List ℕ)
value_in_sections name letters =
    option_map (λ first. first ++ value_sections name letters (codes "123456789")) (value_section name letters 48)

-- a parameter's value, as it stands or else in sections
abbrev pub parameter_value : List ℕ → List Letter → Option (List ℕ)
parameter_value name letters = value_or (parameter_of name letters) (value_in_sections name letters)

-- a Content-Type as letters: its type, subtype and the parameters that count here, if it is one
abbrev pub media_type_in : List Letter → Option MediaType
media_type_in letters =
    option_map (λ media. record {
      kind = media.0;
      subtype = media.1;
      boundary = parameter_value (codes "boundary") letters;
      charset = parameter_of (codes "charset") letters;
    }) (media_of letters)

-- text/plain, or message/rfc822 in a multipart/digest (RFC 2046, section 5.1.5)
abbrev pub default_type : Bool → MediaType
default_type false = record { kind = codes "text"; subtype = codes "plain"; boundary = None; charset = None }
default_type true = record { kind = codes "message"; subtype = codes "rfc822"; boundary = None; charset = None }

-- what a Content-Type says; text/plain if it doesn't parse or is too long (RFC 2045, section 5.2)
abbrev pub said_type : List ℕ → MediaType
said_type body = cond (nat_le (length body) MAX_FIELD_BODY) (unwrap_or (media_type_in (letters_of body)) (default_type false)) (default_type false)

-- what a part is: as its Content-Type says, or the default
abbrev pub type_by : Bool → Option (List ℕ) → MediaType
type_by digest None = default_type digest
type_by digest (Some body) = said_type body
