-- What is sent of a message after DATA (RFC 5321, sections 2.3.8 and 4.5.2).
use Rattle.std.specs.Prelude.{◌≡◌, ◌≢◌, ℕ, ◌==◌, ◌&&◌, Bool, true, false, if◌then◌else◌, List, [], ◌∷◌, ◌++◌, Option, Some, None}
use Rattle.std.specs.Borrow.{Bor}
use Rattle.std.specs.List.{All, flat_map}
use Rattle.lmtp_dialogue.specs.Lines.{line_end}
use Rattle.lmtp_dialogue.specs.Texts.{line_with_crlf, IsSentText}
use Rattle.smtp_dialogue.specs.declared.sent.SentState.{SentState}
use Rattle.smtp_dialogue.specs.declared.sent.SentState.TheVariants.{Start, Inside, Over}
use Rattle.smtp_dialogue.specs.declared.sent.DotStuffed.{DotStuffed}

-- ---- by lines

-- an octet other than LF
abbrev pub IsNoFeed : ℕ → Type 0
IsNoFeed octet = (octet == 10) ≡ false

-- a message is these lines, each with an LF after it, and what follows the last one. A line may have a CR before its LF
pub record IsCutInLines (message : List ℕ) (lines : List (List ℕ)) (last : List ℕ) : Type 0 where
  pub each : All (All IsNoFeed) lines
  pub tail : All IsNoFeed last
  pub written : message ≡ flat_map (λ line. line ++ 10 ∷ []) lines ++ last

abbrev pub is_none : List ℕ → Bool
is_none [] = true
is_none (octet ∷ rest) = false

-- a line without a CR at its end
abbrev pub chomped : List ℕ → List ℕ
chomped [] = []
chomped (octet ∷ rest) = if octet == 13 && is_none rest then [] else octet ∷ chomped rest

-- a CR is sent as a space
abbrev pub cr_as_space : List ℕ → List ℕ
cr_as_space [] = []
cr_as_space (octet ∷ rest) = (if octet == 13 then 32 else octet) ∷ cr_as_space rest

-- and as `?` if it begins a line: with a space the line would continue the field before it (RFC 5322, section 2.2.3)
abbrev pub mended : List ℕ → List ℕ
mended [] = []
mended (octet ∷ rest) = (if octet == 13 then 63 else octet) ∷ cr_as_space rest

-- the lines as the other side has them: what follows the last LF is one, if it is anything
abbrev pub mended_lines : List (List ℕ) → List ℕ → List (List ℕ)
mended_lines [] [] = []
mended_lines [] (octet ∷ rest) = mended (octet ∷ rest) ∷ []
mended_lines (line ∷ lines) last = mended (chomped line) ∷ mended_lines lines last

-- a dot is put before one that begins with a dot
abbrev pub dotted : List ℕ → List ℕ
dotted [] = []
dotted (octet ∷ rest) = if octet == 46 then 46 ∷ octet ∷ rest else octet ∷ rest

-- of a message this is sent, and the other side has that
pub record IsSent (message sent text : List ℕ) : Type 0 where
  pub lines : List (List ℕ)
  pub last : List ℕ
  pub cut : IsCutInLines message lines last
  pub written : sent ≡ flat_map (λ line. line_with_crlf (dotted line)) (mended_lines lines last) ++ line_with_crlf (46 ∷ [])
  pub means : text ≡ flat_map line_with_crlf (mended_lines lines last)

-- ---- the same octet by octet

abbrev pub begins_feed : List ℕ → Bool
begins_feed [] = false
begins_feed (octet ∷ rest) = octet == 10

-- what is still to be sent, if these octets are left at a place
abbrev pub sent_from : SentState → List ℕ → List ℕ
sent_from Start [] = line_with_crlf (46 ∷ [])
sent_from Start (octet ∷ rest) =
    if octet == 10 then line_end ++ sent_from Start rest else
    (if octet == 13 then (if begins_feed rest then sent_from Start rest else 63 ∷ sent_from Inside rest) else
    (if octet == 46 then 46 ∷ octet ∷ sent_from Inside rest else octet ∷ sent_from Inside rest))
sent_from Inside [] = line_end ++ line_with_crlf (46 ∷ [])
sent_from Inside (octet ∷ rest) =
    if octet == 10 then line_end ++ sent_from Start rest else
    (if octet == 13 then (if begins_feed rest then sent_from Inside rest else 32 ∷ sent_from Inside rest) else octet ∷ sent_from Inside rest)
sent_from Over octets = []

-- the same text as the other side has it
abbrev pub text_from : SentState → List ℕ → List ℕ
text_from Start [] = []
text_from Start (octet ∷ rest) =
    if octet == 10 then line_end ++ text_from Start rest else
    (if octet == 13 then (if begins_feed rest then text_from Start rest else 63 ∷ text_from Inside rest) else octet ∷ text_from Inside rest)
text_from Inside [] = line_end
text_from Inside (octet ∷ rest) =
    if octet == 10 then line_end ++ text_from Start rest else
    (if octet == 13 then (if begins_feed rest then text_from Inside rest else 32 ∷ text_from Inside rest) else octet ∷ text_from Inside rest)
text_from Over octets = []

-- ---- what holds of it

-- a line begins with a blank
abbrev pub is_folded : List ℕ → Bool
is_folded [] = false
is_folded (octet ∷ rest) = if octet == 32 then true else octet == 9

-- what is sent is one, whatever message there is; the other side takes the dots off (`IsSentText`) and has the message's lines; and no line
-- continues a field that didn't, or ceases to
pub record SentStands : Type 0 where
  pub is : (message : List ℕ) → IsSent message (sent_from Start message) (text_from Start message)
  pub one : (message sent text : List ℕ) → IsSent message sent text → (sent ≡ sent_from Start message) × (text ≡ text_from Start message)
  pub read : (message sent text : List ℕ) → IsSent message sent text → IsSentText sent text
  pub folds : (line : List ℕ) → is_folded (mended line) ≡ is_folded line

-- ---- in parts

abbrev pub sent_start : SentState
sent_start = Start

abbrev pub left_of : DotStuffed → List ℕ
left_of s = sent_from s.place s.left.now

-- the next part is handed out, or all was
abbrev pub Hands : Option (Bor (List ℕ)) → DotStuffed → DotStuffed → Type 0
Hands None s t = (left_of s ≡ []) × (t ≡ s)
Hands (Some part) s t = (left_of s ≡ part.now ++ left_of t) × (part.now ≢ [])

-- the same, if not all was
abbrev pub HandsPart : Bor (List ℕ) → DotStuffed → DotStuffed → Type 0
HandsPart part s t = (left_of s ≡ part.now ++ left_of t) × (part.now ≢ [])

-- a CR or an LF
abbrev pub is_break : ℕ → Bool
is_break octet = if octet == 13 then true else octet == 10

-- what is left is sent as in a line
abbrev pub IsWithinLine : DotStuffed → Type 0
IsWithinLine s = left_of s ≡ sent_from Inside s.left.now

-- a CR or an LF comes first, or nothing
abbrev pub BeginsBreak : List ℕ → Type 0
BeginsBreak [] = Unit {0}
BeginsBreak (octet ∷ rest) = is_break octet ≡ true
