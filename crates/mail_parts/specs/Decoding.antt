-- What the body of a part stands for (RFC 2045, section 6).
use Rattle.std.specs.Prelude.{ℕ, Option, None, Some, List}
use Rattle.mail_parts.specs.Base64Bodies.{base64_body}
use Rattle.mail_parts.specs.QuotedPrintable.{quoted_body}
use Rattle.mail_parts.specs.declared.decoding.BodyOctets.{BodyOctets}
use Rattle.mail_parts.specs.declared.decoding.BodyOctets.TheVariants.{AsItStands, Decoded}
use Rattle.mail_parts.specs.declared.transfer_encoding.TransferEncoding.{TransferEncoding}
use Rattle.mail_parts.specs.declared.transfer_encoding.TransferEncoding.TheVariants.{Identity, Base64, QuotedPrintable, Unknown}

-- the octets that a body stands for; none are known under an unknown encoding
abbrev pub body_meaning : TransferEncoding → List ℕ → Option (List ℕ)
body_meaning Identity body = Some body
body_meaning Base64 body = Some (base64_body body)
body_meaning QuotedPrintable body = Some (quoted_body body)
body_meaning Unknown body = None

abbrev pub body_octets : BodyOctets → List ℕ
body_octets (AsItStands body) = body.now
body_octets (Decoded octets) = octets
