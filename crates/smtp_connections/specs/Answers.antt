-- What comes first in the octets of a server, exactly (RFC 5321, section 4.2.1).
use Rattle.std.specs.Prelude.{◌≡◌, ◌≢◌, ℕ, ◌+◌, Bool, true, false, List, [], ◌∷◌, ◌++◌, take, drop, Option, Some, None}
use Rattle.lmtp_dialogue.specs.Lines.{LineFinds}
use Rattle.lmtp_dialogue.specs.declared.command_line.Found.TheVariants.{Need, Line, TooLong}
use Rattle.smtp_dialogue.specs.Replies.{IsReplyLine, CodeAgrees, HearsReply}
use Rattle.smtp_dialogue.specs.declared.reply.Heard.{Heard}
use Rattle.smtp_dialogue.specs.declared.reply.Heard.TheVariants as heard
use Rattle.smtp_connections.specs.declared.answer.SmtpAnswer.{SmtpAnswer}
use Rattle.smtp_connections.specs.declared.answer.SmtpAnswer.TheVariants.{Part, Whole, NoReply, LongLine}
use Rattle.smtp_connections.specs.declared.answer.LineMeans.{LineMeans}
use Rattle.smtp_connections.specs.declared.answer.LineMeans.TheVariants as means

-- ---- a line

-- a line of a reply, with this code and the code of the lines before it
pub record IsLineOfReply (before : Option ℕ) (line : List ℕ) (code : ℕ) (is_last : Bool) : Type 0 where
  pub text : List ℕ
  pub reads : IsReplyLine line code is_last text
  pub agrees : CodeAgrees before code

-- a line is the last one of a reply, or one that others follow, or none of it
abbrev pub MeansOfReply : Option ℕ → List ℕ → LineMeans → Type 0
MeansOfReply before line (means.Last code) = IsLineOfReply before line code true
MeansOfReply before line (means.More code) = IsLineOfReply before line code false
MeansOfReply before line means.None = (code : ℕ) (is_last : Bool) → IsLineOfReply before line code is_last → ⊥

-- ---- what comes first

-- the line that comes first, which has this many octets, is one of the reply
pub record IsFirstOfReply (before : Option ℕ) (octets : List ℕ) (count code : ℕ) (is_last : Bool) : Type 0 where
  pub finds : LineFinds (Line count) octets
  pub line : IsLineOfReply before (take count octets) code is_last

-- the line that comes first is none of it
pub record IsFirstOfNone (before : Option ℕ) (octets : List ℕ) (count : ℕ) : Type 0 where
  pub finds : LineFinds (Line count) octets
  pub none : (code : ℕ) (is_last : Bool) → IsLineOfReply before (take count octets) code is_last → ⊥

-- behind lines with this code, of so many octets: no whole line; the last one; one that is none of the reply; or one that is too long
abbrev pub EndsAnswer : Option ℕ → ℕ → List ℕ → SmtpAnswer → Type 0
EndsAnswer before at octets Part = LineFinds Need octets
EndsAnswer before at octets (Whole code count) = (line : ℕ) × IsFirstOfReply before octets line code true × (count ≡ at + (line + 2))
EndsAnswer before at octets NoReply = (line : ℕ) × IsFirstOfNone before octets line
EndsAnswer before at octets LongLine = LineFinds TooLong octets

-- lines of so many octets each come first, all with one code and each saying that another follows; and then that
abbrev pub AnswerFollows : List ℕ → Option ℕ → ℕ → List ℕ → SmtpAnswer → Type 0
AnswerFollows [] before at octets answer = EndsAnswer before at octets answer
AnswerFollows (line ∷ lines) before at octets answer =
    (code : ℕ) × IsFirstOfReply before octets line code false × AnswerFollows lines (Some code) (at + (line + 2)) (drop (line + 2) octets) answer

-- that comes first in the octets of a server
abbrev pub Answers : List ℕ → SmtpAnswer → Type 0
Answers octets answer = (lines : List ℕ) × AnswerFollows lines None 0 octets answer

-- ---- what holds of it

-- the same in fewer words: a fault is no reply, whatever follows
abbrev pub heard_by : SmtpAnswer → Heard
heard_by Part = heard.Need
heard_by (Whole code count) = heard.Reply code count
heard_by NoReply = heard.Bad
heard_by LongLine = heard.Bad

-- one thing comes first, and what isn't a part stays so whatever follows; it is as `HearsReply` has it
pub record SmtpAnswersStand : Type 0 where
  pub one : (octets : List ℕ) (a b : SmtpAnswer) → Answers octets a → Answers octets b → a ≡ b
  pub stays : (octets more : List ℕ) (answer : SmtpAnswer) → answer ≢ Part → Answers octets answer → Answers (octets ++ more) answer
  pub hears : (octets : List ℕ) (answer : SmtpAnswer) → Answers octets answer → HearsReply octets (heard_by answer)
