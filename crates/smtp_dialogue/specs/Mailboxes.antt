-- Mailboxes: the addresses of senders and recipients (RFC 5321, section 4.1.2; octets over 127 as RFC 6531, section 3.3, has them).
-- How long one may be isn't looked at.
use Rattle.std.specs.Prelude.{codes, ◌≡◌, ◌⊎◌, ℕ, nat_le, ◌==◌, ◌&&◌, ◌||◌, not, Bool, true, false, if◌then◌else◌, List, [], ◌∷◌, ◌++◌, length, Option, Some, None}
use Rattle.std.specs.List.{list_all, flat_map, slice_split}
use Rattle.std.specs.Str.{is_utf8}
use Rattle.octets.specs.Ascii.{is_letter, is_digit, is_printable}
use Rattle.smtp_dialogue.specs.Addresses.{IsIpv6, is_dot, is_filled, is_ipv4}
use Rattle.smtp_dialogue.specs.Extensions.{is_same_word}

abbrev pub is_octet_between : ℕ → ℕ → ℕ → Bool
is_octet_between low high octet = nat_le low octet && nat_le octet high

-- ---- octets

-- one of a character that isn't ASCII (UTF8-non-ascii, in a text that is UTF-8)
abbrev pub is_high : ℕ → Bool
is_high octet = nat_le 128 octet

-- Let-dig
abbrev pub is_let_dig : ℕ → Bool
is_let_dig octet = is_letter octet || is_digit octet

-- the marks of atext: `!`, `#` to `'`, `*`, `+`, `-`, `/`, `=`, `?`, `^` to the backquote, `{` to `~`
abbrev pub is_atext_mark : ℕ → Bool
is_atext_mark octet =
    octet == 33 || is_octet_between 35 39 octet || is_octet_between 42 43 octet || octet == 45 || octet == 47 || octet == 61 || octet == 63
    || is_octet_between 94 96 octet || is_octet_between 123 126 octet

abbrev pub is_atext : ℕ → Bool
is_atext octet = is_let_dig octet || is_high octet || is_atext_mark octet

-- qtextSMTP: printable, none of `"` and the backslash
abbrev pub is_qtext : ℕ → Bool
is_qtext octet = (is_printable octet || is_high octet) && not (octet == 34 || octet == 92)

-- dcontent: printable, none of SP, `[`, the backslash and `]`
abbrev pub is_dcontent : ℕ → Bool
is_dcontent octet = is_octet_between 33 90 octet || is_octet_between 94 126 octet

-- one that begins or ends a sub-domain: Let-dig, or of another character (U-label)
abbrev pub is_label_end : ℕ → Bool
is_label_end octet = is_let_dig octet || is_high octet

-- ---- local parts

abbrev pub is_smtp_atom : List ℕ → Bool
is_smtp_atom text = is_filled text && list_all is_atext text

-- Dot-string: the texts between its dots are atoms
abbrev pub is_dot_string : List ℕ → Bool
is_dot_string text = list_all is_smtp_atom (slice_split is_dot text)

-- QcontentSMTP: an octet of qtext, or a backslash and a printable octet
abbrev pub is_qcontent : List ℕ → Bool
is_qcontent [] = false
is_qcontent (octet ∷ []) = is_qtext octet
is_qcontent (first ∷ octet ∷ []) = first == 92 && is_printable octet
is_qcontent (first ∷ second ∷ third ∷ rest) = false

abbrev pub joined_parts : List (List ℕ) → List ℕ
joined_parts parts = flat_map (λ part. part) parts

-- what is between the marks of a quoted string, the mark that closes it, and what follows that
pub record ClosesQuotes (text rest : List ℕ) : Type 0 where
  pub parts : List (List ℕ)
  pub each : list_all is_qcontent parts ≡ true
  pub written : text ≡ joined_parts parts ++ 34 ∷ rest

-- Local-part: a Dot-string or a Quoted-string
abbrev pub IsLocal : List ℕ → Type 0
IsLocal local = (is_dot_string local ≡ true) ⊎ ((text : List ℕ) × (local ≡ 34 ∷ text) × ClosesQuotes text [])

-- ---- hosts

-- sub-domain: letters, digits and hyphens; a hyphen neither begins nor ends it
abbrev pub begins_well : List ℕ → Bool
begins_well [] = false
begins_well (octet ∷ rest) = is_label_end octet

abbrev pub ends_well : List ℕ → Bool
ends_well [] = false
ends_well (octet ∷ []) = is_label_end octet
ends_well (octet ∷ next ∷ rest) = ends_well (next ∷ rest)

abbrev pub is_label_octet : ℕ → Bool
is_label_octet octet = is_label_end octet || octet == 45

abbrev pub is_label : List ℕ → Bool
is_label text = begins_well text && list_all is_label_octet text && ends_well text

-- Domain: the texts between its dots are sub-domains
abbrev pub is_domain : List ℕ → Bool
is_domain text = list_all is_label (slice_split is_dot text)

-- Standardized-tag
abbrev pub is_tag_octet : ℕ → Bool
is_tag_octet octet = is_let_dig octet || octet == 45

abbrev pub is_tag : List ℕ → Bool
is_tag text = list_all is_tag_octet text && ends_well text

abbrev pub is_content : List ℕ → Bool
is_content text = is_filled text && list_all is_dcontent text

-- the tag of an IPv6 address, in upper or lower case
abbrev pub is_ipv6_tag : List ℕ → Bool
is_ipv6_tag tag = is_same_word (codes "ipv6") tag

-- IPv6-address-literal: the tag, a colon and an address
pub record IsIpv6Tagged (text : List ℕ) : Type 0 where
  pub tag : List ℕ
  pub address : List ℕ
  pub written : text ≡ tag ++ 58 ∷ address
  pub named : is_ipv6_tag tag ≡ true
  pub is : IsIpv6 address

-- General-address-literal: another tag, a colon, and what the tag says. That isn't looked into
pub record IsTagged (text : List ℕ) : Type 0 where
  pub tag : List ℕ
  pub content : List ℕ
  pub written : text ≡ tag ++ 58 ∷ content
  pub other : is_ipv6_tag tag ≡ false
  pub named : is_tag tag ≡ true
  pub each : is_content content ≡ true

abbrev pub IsInner : List ℕ → Type 0
IsInner text = (is_ipv4 text ≡ true) ⊎ IsIpv6Tagged text ⊎ IsTagged text

-- address-literal
pub record IsAddressLiteral (text : List ℕ) : Type 0 where
  pub inner : List ℕ
  pub written : text ≡ 91 ∷ (inner ++ 93 ∷ [])
  pub is : IsInner inner

abbrev pub IsHost : List ℕ → Type 0
IsHost text = (is_domain text ≡ true) ⊎ IsAddressLiteral text

-- ---- mailboxes

-- a local part, `@`, and what follows it
pub record CutsLocal (text host : List ℕ) : Type 0 where
  pub local : List ℕ
  pub written : text ≡ local ++ 64 ∷ host
  pub is : IsLocal local

-- Mailbox: a local part, `@` and a host, of any length. What a literal has after another tag than `IPv6` isn't looked at
pub record IsSmtpMailbox (text : List ℕ) : Type 0 where
  pub host : List ℕ
  pub cut : CutsLocal text host
  pub is : IsHost host
  pub utf8 : is_utf8 text ≡ true

-- ---- what holds of one

-- an octet that isn't a control: neither below 32, as CR, LF and NUL are, nor 127
abbrev pub is_no_control_octet : ℕ → Bool
is_no_control_octet octet = nat_le 32 octet && not (octet == 127)

-- a mailbox has no control: none ends the line that it is written in
pub record MailboxStands : Type 0 where
  pub shown : (text : List ℕ) → IsSmtpMailbox text → list_all is_no_control_octet text ≡ true

-- ---- what is read of one

-- a Dot-string, `@`, and what follows it
pub record CutsDotted (text host : List ℕ) : Type 0 where
  pub local : List ℕ
  pub written : text ≡ local ++ 64 ∷ host
  pub is : is_dot_string local ≡ true

-- what follows the mark that closes a quoted string, if these octets follow the one that opens it, or a backslash
abbrev pub behind_quotes : Bool → List ℕ → Option (List ℕ)
behind_quotes escaped [] = None
behind_quotes true (octet ∷ rest) = if is_printable octet then behind_quotes false rest else None
behind_quotes false (octet ∷ rest) =
    if octet == 34 then Some rest else (if octet == 92 then behind_quotes true rest else (if is_qtext octet then behind_quotes false rest else None))

-- what may follow a tag
abbrev pub TagSays : List ℕ → List ℕ → Type 0
TagSays tag content =
    ((is_ipv6_tag tag ≡ true) × IsIpv6 content) ⊎ ((is_ipv6_tag tag ≡ false) × (is_tag tag ≡ true) × (is_content content ≡ true))

-- the first such octet, what comes before it and what comes after it
pub record CutsAtOctet (mark : ℕ) (text front rest : List ℕ) : Type 0 where
  pub written : text ≡ front ++ mark ∷ rest
  pub first : list_all (λ octet. not (octet == mark)) front ≡ true

abbrev pub HasNoMark : ℕ → List ℕ → Type 0
HasNoMark mark text = (front rest : List ℕ) → text ≡ front ++ mark ∷ rest → ⊥
