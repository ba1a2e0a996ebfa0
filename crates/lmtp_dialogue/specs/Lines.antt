-- Lines, which end at CRLF and nowhere else (RFC 5321, section 2.3.8).
use Rattle.std.specs.Prelude.{◌≡◌, ◌≢◌, ◌⊎◌, ℕ, ◌+◌, ◌-◌, ◌<◌, ◌≤◌, List, [], ◌∷◌, ◌++◌, length, take, drop}
use Rattle.lmtp_dialogue.specs.declared.command_line.Found.{Found}
use Rattle.lmtp_dialogue.specs.declared.command_line.Found.TheVariants.{Need, Line, TooLong}

-- CRLF
abbrev pub line_end : List ℕ
line_end = 13 ∷ 10 ∷ []

-- a text has no CRLF
abbrev pub HasNoLineEnd : List ℕ → Type 0
HasNoLineEnd text = (front back : List ℕ) → text ≡ front ++ (line_end ++ back) → ⊥

-- a line without its CRLF: followed by a CR it has no CRLF. A CR or an LF alone is an octet of the line
abbrev pub IsCrlfLine : List ℕ → Type 0
IsCrlfLine line = HasNoLineEnd (line ++ 13 ∷ [])

-- the octets before the first line end of a stream, and what follows it
pub record IsFirstLine (stream line rest : List ℕ) : Type 0 where
  pub whole : IsCrlfLine line
  pub written : stream ≡ line ++ (line_end ++ rest)

-- ---- command lines

-- a command line has at most this many octets, with its CRLF
abbrev pub max_line : ℕ
max_line = 2048

-- what comes first in a stream of command lines: no whole line yet, the octets of one, or more than a line may have
abbrev pub LineFinds : Found → List ℕ → Type 0
LineFinds Need stream = HasNoLineEnd stream × (length stream < max_line)
LineFinds (Line count) stream = IsFirstLine stream (take count stream) (drop (count + 2) stream) × (count + 2 ≤ max_line) × (count + 2 ≤ length stream)
LineFinds TooLong stream = HasNoLineEnd (take max_line stream) × (max_line ≤ length stream)

-- this many octets of a line that is too long are dropped: those before its CRLF, or all but the last one, which may be a CR
abbrev pub Skips : ℕ → List ℕ → Type 0
Skips count stream = (IsFirstLine stream (take count stream) (drop (count + 2) stream) × (count + 2 ≤ length stream)) ⊎ (HasNoLineEnd stream × (count ≡ length stream - 1))

-- each stream has one first line or none, whatever follows
pub record LinesStand : Type 0 where
  pub one : (a b : Found) (stream : List ℕ) → LineFinds a stream → LineFinds b stream → a ≡ b
  pub stays : (found : Found) (stream more : List ℕ) → found ≢ Need → LineFinds found stream → LineFinds found (stream ++ more)
