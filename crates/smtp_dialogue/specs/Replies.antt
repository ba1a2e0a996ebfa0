-- What a server answers (RFC 5321, section 4.2).
use Rattle.std.specs.Prelude.{◌≡◌, ◌⊎◌, ℕ, ◌+◌, ◌*◌, ◌≤◌, Bool, true, false, List, [], ◌∷◌, ◌++◌, length, drop, Option, Some, None}
use Rattle.lmtp_dialogue.specs.Lines.{IsFirstLine, max_line}
use Rattle.smtp_dialogue.specs.declared.reply.Heard.{Heard}
use Rattle.smtp_dialogue.specs.declared.reply.Heard.TheVariants.{Need, Reply, Bad}
use Rattle.smtp_dialogue.specs.declared.reply.ReplyLine.{ReplyLine}

-- three digits, of which the first is 2 to 5
pub record IsCode (first second third code : ℕ) : Type 0 where
  pub class : (50 ≤ first) × (first ≤ 53)
  pub other : (48 ≤ second) × (second ≤ 57)
  pub last : (48 ≤ third) × (third ≤ 57)
  pub means : code + 5328 ≡ 100 * first + (10 * second + third)

-- what follows them: nothing, or a space and a text, if no line follows; otherwise a hyphen and a text
abbrev pub IsMark : List ℕ → Bool → List ℕ → Type 0
IsMark rest true text = ((rest ≡ []) × (text ≡ [])) ⊎ (rest ≡ 32 ∷ text)
IsMark rest false text = rest ≡ 45 ∷ text

-- a line of a reply
pub record IsReplyLine (line : List ℕ) (code : ℕ) (is_last : Bool) (text : List ℕ) : Type 0 where
  pub first : ℕ
  pub second : ℕ
  pub third : ℕ
  pub rest : List ℕ
  pub written : line ≡ first ∷ second ∷ third ∷ rest
  pub digits : IsCode first second third code
  pub mark : IsMark rest is_last text

-- a line is read, or it is none
abbrev pub ReadsReplyLine : List ℕ → Option ReplyLine → Type 0
ReadsReplyLine line (Some it) = IsReplyLine line it.code it.is_last it.text.now
ReadsReplyLine line None = (code : ℕ) (is_last : Bool) (text : List ℕ) → IsReplyLine line code is_last text → ⊥

abbrev pub ReadsCode : ℕ → ℕ → ℕ → Option ℕ → Type 0
ReadsCode first second third (Some code) = IsCode first second third code
ReadsCode first second third None = (code : ℕ) → IsCode first second third code → ⊥

abbrev pub ReadsMark : ℕ → List ℕ → Option ReplyLine → Type 0
ReadsMark code rest (Some it) = (it.code ≡ code) × IsMark rest it.is_last it.text.now
ReadsMark code rest None = (is_last : Bool) (text : List ℕ) → IsMark rest is_last text → ⊥

-- ---- a reply

-- a line comes first, and that after it; with its CRLF it isn't longer than a line may be
pub record IsHere (octets line behind : List ℕ) : Type 0 where
  pub first : IsFirstLine octets line behind
  pub short : length line + 2 ≤ max_line

-- these lines come first, each of which says that another one follows, and then one that says that none does; all have the same code
abbrev pub ReplyFollows : List (List ℕ) → List ℕ → ℕ → List ℕ → Type 0
ReplyFollows [] octets code rest = (line text : List ℕ) × IsHere octets line rest × IsReplyLine line code true text
ReplyFollows (line ∷ lines) octets code rest = (text behind : List ℕ) × IsHere octets line behind × IsReplyLine line code false text × ReplyFollows lines behind code rest

-- a reply comes first in the octets of a server, and that after it
abbrev pub IsSmtpReply : List ℕ → ℕ → List ℕ → Type 0
IsSmtpReply octets code rest = (lines : List (List ℕ)) × ReplyFollows lines octets code rest

-- a reply of this many octets was heard; or there is none yet; or there is none, whatever follows
abbrev pub HearsReply : List ℕ → Heard → Type 0
HearsReply octets (Reply code count) = (count ≤ length octets) × IsSmtpReply octets code (drop count octets)
HearsReply octets Need = (code : ℕ) (rest : List ℕ) → IsSmtpReply octets code rest → ⊥
HearsReply octets Bad = (more : List ℕ) (code : ℕ) (rest : List ℕ) → IsSmtpReply (octets ++ more) code rest → ⊥

-- ---- one line after others

-- the code is that of the lines before it, if there are any
abbrev pub CodeAgrees : Option ℕ → ℕ → Type 0
CodeAgrees None code = Unit {0}
CodeAgrees (Some other) code = code ≡ other

abbrev pub ReadsNextLine : Option ℕ → List ℕ → Option ReplyLine → Type 0
ReadsNextLine other line (Some it) = IsReplyLine line it.code it.is_last it.text.now × CodeAgrees other it.code
ReadsNextLine other line None = (code : ℕ) (is_last : Bool) (text : List ℕ) → IsReplyLine line code is_last text → CodeAgrees other code → ⊥

-- the first `at` octets are lines of a reply after which others follow: with a reply after them they are one, and a reply that they begin
-- goes on there
pub record BeginsReply (octets : List ℕ) (at : ℕ) (other : Option ℕ) : Type 0 where
  pub within : at ≤ length octets
  pub joins : (code : ℕ) (rest : List ℕ) → CodeAgrees other code → IsSmtpReply (drop at octets) code rest → IsSmtpReply octets code rest
  pub goes_on : (more : List ℕ) (code : ℕ) (rest : List ℕ) → IsSmtpReply (octets ++ more) code rest → CodeAgrees other code × IsSmtpReply (drop at octets ++ more) code rest
