-- Content-Transfer-Encoding (RFC 2045, section 6).
use Rattle.std.specs.Prelude.{ℕ, nat_le, cond, Option, None, Some, List, length, codes}
use Rattle.std.specs.Str.{str_eq_ignore_ascii_case}
use Rattle.mail_parts.specs.Letters.{letters_of}
use Rattle.mail_parts.specs.MediaTypes.{text_of}
use Rattle.mail_parts.specs.declared.limits.TheConstants.{MAX_FIELD_BODY}
use Rattle.mail_parts.specs.declared.transfer_encoding.TransferEncoding.{TransferEncoding}
use Rattle.mail_parts.specs.declared.transfer_encoding.TransferEncoding.TheVariants.{Identity, Base64, QuotedPrintable, Unknown}

-- the encoding with a name, in any case
abbrev pub encoding_named : List ℕ → TransferEncoding
encoding_named name =
    cond (str_eq_ignore_ascii_case name (codes "7bit")) Identity
    (cond (str_eq_ignore_ascii_case name (codes "8bit")) Identity
    (cond (str_eq_ignore_ascii_case name (codes "binary")) Identity
    (cond (str_eq_ignore_ascii_case name (codes "base64")) Base64
    (cond (str_eq_ignore_ascii_case name (codes "quoted-printable")) QuotedPrintable Unknown))))

-- what a Content-Transfer-Encoding says; one that is too long is unknown
abbrev pub said_encoding : List ℕ → TransferEncoding
said_encoding body = cond (nat_le (length body) MAX_FIELD_BODY) (encoding_named (text_of (letters_of body))) Unknown

-- how a part is encoded: as its Content-Transfer-Encoding says, by default 7bit (RFC 2045, section 6.1)
abbrev pub encoding_by : Option (List ℕ) → TransferEncoding
encoding_by None = Identity
encoding_by (Some body) = said_encoding body
