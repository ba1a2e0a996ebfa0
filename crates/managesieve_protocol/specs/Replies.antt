-- How replies are spelled (RFC 5804, sections 1.2, 1.3, 2 and 4).
use Rattle.std.specs.Prelude.{◌≡◌, ℕ, ◌+◌, Bool, true, false, ◌&&◌, cond, nat_le, List, [], ◌∷◌, ◌++◌, length, Option, Some, None, codes, decimal}
use Rattle.managesieve_protocol.specs.Arguments.{inside, is_quotable_octet}
use Rattle.managesieve_protocol.specs.declared.replies.DataLine.{DataLine}
use Rattle.managesieve_protocol.specs.declared.replies.DataLine.TheVariants as line
use Rattle.managesieve_protocol.specs.declared.replies.Status.{Status}
use Rattle.managesieve_protocol.specs.declared.replies.Status.TheVariants as status
use Rattle.managesieve_protocol.specs.declared.replies.ReplyCode.{ReplyCode}
use Rattle.managesieve_protocol.specs.declared.replies.ReplyCode.TheVariants as code
use Rattle.managesieve_protocol.specs.declared.replies.ServerReply.{ServerReply}

-- ---- strings

-- each octet may be between quotation marks
abbrev pub all_quotable : List ℕ → Bool
all_quotable [] = true
all_quotable (octet ∷ rest) = is_quotable_octet octet && all_quotable rest

-- the text fits between quotation marks, which have that many octets between them already
abbrev pub fits_quotes : ℕ → List ℕ → Bool
fits_quotes count text = all_quotable text && nat_le (count + length (inside text)) 1024

-- `{n}` CRLF and the n octets
abbrev pub literal_spelled : List ℕ → List ℕ
literal_spelled text = 123 ∷ (decimal (length text) ++ 125 ∷ 13 ∷ 10 ∷ text)

-- quoted, if it fits, else a literal
abbrev pub string_spelled : List ℕ → List ℕ
string_spelled text = cond (fits_quotes 0 text) (34 ∷ (inside text ++ 34 ∷ [])) (literal_spelled text)

-- ---- lines

abbrev pub end : List ℕ
end = 13 ∷ 10 ∷ []

-- a space and a string, if there is one
abbrev pub spaced_string : Option (List ℕ) → List ℕ
spaced_string None = []
spaced_string (Some text) = 32 ∷ string_spelled text

-- a mark after the active script's name
abbrev pub active_spelled : Bool → List ℕ
active_spelled false = []
active_spelled true = codes " ACTIVE"

abbrev pub line_spelled : DataLine → List ℕ
line_spelled (line.Capability name value) = string_spelled name ++ (spaced_string value ++ end)
line_spelled (line.Script name active) = string_spelled name ++ (active_spelled active ++ end)
line_spelled (line.Text text) = literal_spelled text ++ end
line_spelled line.Empty = 34 ∷ 34 ∷ end

abbrev pub lines_spelled : List DataLine → List ℕ
lines_spelled [] = []
lines_spelled (line ∷ more) = line_spelled line ++ lines_spelled more

-- ---- the last line

abbrev pub code_spelled : Option ReplyCode → List ℕ
code_spelled None = []
code_spelled (Some (code.Tag tag)) = codes " (TAG " ++ (string_spelled tag ++ codes ")")
code_spelled (Some code.MaxSize) = codes " (QUOTA/MAXSIZE)"
code_spelled (Some code.MaxScripts) = codes " (QUOTA/MAXSCRIPTS)"
code_spelled (Some code.NonExistent) = codes " (NONEXISTENT)"
code_spelled (Some code.Active) = codes " (ACTIVE)"
code_spelled (Some code.AlreadyExists) = codes " (ALREADYEXISTS)"
code_spelled (Some code.TryLater) = codes " (TRYLATER)"

abbrev pub status_word : Status → List ℕ
status_word status.Ok = codes "OK"
status_word status.No = codes "NO"
status_word status.Bye = codes "BYE"

-- a status, a code in parentheses and a text, as far as there are any; without a status there is no last line
abbrev pub last_spelled : Option Status → Option ReplyCode → Option (List ℕ) → List ℕ
last_spelled None code text = []
last_spelled (Some status) code text = status_word status ++ (code_spelled code ++ (spaced_string text ++ end))

-- a reply's octets
abbrev pub reply_octets : ServerReply → List ℕ
reply_octets reply = lines_spelled reply.lines ++ last_spelled reply.word reply.code reply.text

-- ---- what an error leaves

-- the new text is the old one with more after it
pub record ExtendsText (old new : List ℕ) : Type 0 where
  pub more : List ℕ
  pub written : new ≡ old ++ more
