-- The definitions at a few texts: what they hold of, and what is near it that they don't.
use Rattle.std.proofs.Common.{◌≡◌, true, false, None, Some, [], ◌∷◌, refl}
use Rattle.std.specs.Prelude.{codes}
use Rattle.mail_head.specs.Lines.{lines_of}
use Rattle.mail_parts.specs.Letters.{letters_of}
use Rattle.mail_parts.specs.MediaTypes.{text_of, media_of, parameter_of, parameter_value, said_type, default_type}
use Rattle.mail_parts.specs.Encodings.{said_encoding}
use Rattle.mail_parts.specs.Parts.{usable_boundary}
use Rattle.mail_parts.specs.Selection.{texts_looked_at}
use Rattle.mail_parts.specs.Sections.{line_mark, sections_of}
use Rattle.mail_parts.specs.QuotedPrintable.{quoted_body}
use Rattle.mail_parts.specs.Base64Bodies.{base64_digits}
use Rattle.mail_parts.specs.declared.media_type.MediaType.{MediaType}
use Rattle.mail_parts.specs.declared.section.LineMark.TheVariants.{Inside, Delimiter, Close}
use Rattle.mail_parts.specs.declared.transfer_encoding.TransferEncoding.TheVariants.{Identity, Base64, Unknown}

abbrev message : MediaType
message = default_type true

-- comments nest, and count for nothing, nor does white space
letters-comments : text_of (letters_of (codes "a (b (c) d)\r\n /e")) ≡ codes "a/e"
letters-comments = refl

-- in a quoted string a parenthesis is itself
letters-quoted : text_of (letters_of (codes "\"a (b)\"")) ≡ codes "a (b)"
letters-quoted = refl

media-small : media_of (letters_of (codes "Text/HTML; charset=utf-8")) ≡ Some (codes "text", codes "html")
media-small = refl

-- a type without a subtype isn't one
media-alone : media_of (letters_of (codes "text; charset=utf-8")) ≡ None
media-alone = refl

-- nor is one with two slashes
media-slashes : media_of (letters_of (codes "text/a/b")) ≡ None
media-slashes = refl

-- a semicolon in a quoted string doesn't end a parameter
parameter-quoted : parameter_of (codes "boundary") (letters_of (codes "a/b; x=y; Boundary=\"c;d\"")) ≡ Some (codes "c;d")
parameter-quoted = refl

-- the first one counts
parameter-first : parameter_of (codes "x") (letters_of (codes "a/b; x=1; x=2")) ≡ Some (codes "1")
parameter-first = refl

-- and none that stands in a quoted string
parameter-inside : parameter_of (codes "x") (letters_of (codes "a/b; y=\"; x=1\"")) ≡ None
parameter-inside = refl

-- without an equals sign it is none
parameter-bare : parameter_of (codes "x") (letters_of (codes "a/b; x; x=2")) ≡ Some (codes "2")
parameter-bare = refl

-- with one its value may be empty
parameter-empty : parameter_of (codes "x") (letters_of (codes "a/b; x=; x=2")) ≡ Some []
parameter-empty = refl

-- a value in sections, in any order
parameter-sections : parameter_value (codes "x") (letters_of (codes "a/b; x*1=\"2 \"; x*0=1; x*3=4")) ≡ Some (codes "12 ")
parameter-sections = refl

-- as it stands it comes first
parameter-whole : parameter_value (codes "x") (letters_of (codes "a/b; x*0=1; x=2")) ≡ Some (codes "2")
parameter-whole = refl

-- without the first section there is none
parameter-tail : parameter_value (codes "x") (letters_of (codes "a/b; x*1=1")) ≡ None
parameter-tail = refl

-- blanks at the end of a boundary aren't part of it
boundary-blanks : usable_boundary (Some (codes "a b \t")) ≡ Some (codes "a b")
boundary-blanks = refl

-- and one of blanks alone is none
boundary-blank : usable_boundary (Some (codes "  ")) ≡ None
boundary-blank = refl

-- of a message/rfc822 the header of its message is looked at
message-open : texts_looked_at message Identity (codes "a:b\n\nc") ≡ codes "a:b\n\n" ∷ []
message-open = refl

-- of an encoded one what it stands for
message-encoded : texts_looked_at message Base64 (codes "a:b\n\nc") ≡ codes "a:b\n\nc" ∷ []
message-encoded = refl

type-broken : said_type (codes "text") ≡ default_type false
type-broken = refl

encoding-case : said_encoding (codes "BASE64") ≡ Base64
encoding-case = refl

encoding-other : said_encoding (codes "x-base64") ≡ Unknown
encoding-other = refl

-- a delimiter with transport padding
mark-padded : line_mark (codes "ab") (codes "--ab \t\r\n") ≡ Delimiter
unfolding line_mark
mark-padded = refl

-- a longer boundary is another one
mark-longer : line_mark (codes "ab") (codes "--abc\r\n") ≡ Inside
unfolding line_mark
mark-longer = refl

-- a boundary within a line is none
mark-within : line_mark (codes "ab") (codes "x--ab\r\n") ≡ Inside
unfolding line_mark
mark-within = refl

mark-close : line_mark (codes "ab") (codes "--ab-- \n") ≡ Close
unfolding line_mark
mark-close = refl

-- one hyphen doesn't close
mark-hyphen : line_mark (codes "ab") (codes "--ab-\n") ≡ Inside
unfolding line_mark
mark-hyphen = refl

-- a preamble, two sections, the second without octets, and an epilogue; the line end before a boundary line belongs to it
sections-two : sections_of (codes "b") (lines_of (codes "p\n--b\nx\r\n--b\n--b--\n--b\n")) ≡ codes "x" ∷ [] ∷ []
unfolding line_mark
sections-two = refl

-- without the closing line the last section goes up to the end
sections-open : sections_of (codes "b") (lines_of (codes "--b\nx\n")) ≡ codes "x\n" ∷ []
unfolding line_mark
sections-open = refl

-- what stands before the first delimiter is no section
sections-none : sections_of (codes "b") (lines_of (codes "x\n--c\n")) ≡ []
unfolding line_mark
sections-none = refl

-- an escape, a soft line break, blanks at the end of a line
quoted-rules : quoted_body (codes "a=3Db= \nc \n") ≡ codes "a=bc\n"
quoted-rules = refl

-- an equals sign without two digits stays
quoted-odd : quoted_body (codes "a=3G=z") ≡ codes "a=3G=z"
quoted-odd = refl

-- octets that aren't of the alphabet are passed over, up to the padding
digits-passed : base64_digits (codes "Y\r\nW-E=Yg") ≡ codes "YWE"
digits-passed = refl
