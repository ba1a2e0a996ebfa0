-- The text of a message after DATA, as it is sent (RFC 5321, section 4.5.2): its lines, a dot before each that begins with one, and a line
-- that is a dot alone.
use Rattle.std.specs.Prelude.{◌≡◌, ◌≢◌, ℕ, ◌+◌, ◌<◌, ◌≤◌, ◌==◌, if◌then◌else◌, List, [], ◌∷◌, ◌++◌, length, Option, Some, None, Result, Ok, Err}
use Rattle.std.specs.Borrow.{Bor}
use Rattle.std.specs.List.{All, flat_map}
use Rattle.lmtp_dialogue.specs.Lines.{line_end, IsCrlfLine}
use Rattle.lmtp_dialogue.specs.declared.message_text.TextState.{TextState}
use Rattle.lmtp_dialogue.specs.declared.message_text.TextState.TheVariants.{Start, Dot, DotReturn, Inside, Return, Ended}
use Rattle.lmtp_dialogue.specs.declared.message_text.Text.{Text}
use Rattle.lmtp_dialogue.specs.declared.message_text.TextFault.{TextFault}
use Rattle.lmtp_dialogue.specs.declared.message_text.TextFault.TheVariants.{TooLarge, Memory}

-- ---- what a text is, by its lines

-- a line with its CRLF
abbrev pub line_with_crlf : List ℕ → List ℕ
line_with_crlf line = line ++ line_end

-- a line as it was before it was sent: a dot at its start is taken off
abbrev pub undotted : List ℕ → List ℕ
undotted [] = []
undotted (octet ∷ rest) = if octet == 46 then rest else octet ∷ rest

-- a line of a text that is sent: any but one that is a dot alone
pub record IsSentLine (line : List ℕ) : Type 0 where
  pub whole : IsCrlfLine line
  pub other : line ≢ 46 ∷ []

-- what is sent is these lines, and a dot alone; the text is the lines, each without a dot at its start
pub record IsSentText (sent text : List ℕ) : Type 0 where
  pub lines : List (List ℕ)
  pub each : All IsSentLine lines
  pub written : sent ≡ flat_map line_with_crlf lines ++ line_with_crlf (46 ∷ [])
  pub means : text ≡ flat_map (λ line. line_with_crlf (undotted line)) lines

-- ---- the same octet by octet

-- where the next octet is, after one that was there
abbrev pub after : TextState → ℕ → TextState
after Start octet = if octet == 46 then Dot else (if octet == 13 then Return else Inside)
after Dot octet = if octet == 13 then DotReturn else Inside
after DotReturn octet = if octet == 10 then Ended else (if octet == 13 then Return else Inside)
after Inside octet = if octet == 13 then Return else Inside
after Return octet = if octet == 10 then Start else (if octet == 13 then Return else Inside)
after Ended octet = Ended

-- what the text has more after it
abbrev pub gained : TextState → ℕ → List ℕ
gained Start octet = if octet == 46 then [] else octet ∷ []
gained Dot octet = if octet == 13 then [] else octet ∷ []
gained DotReturn octet = if octet == 10 then [] else 13 ∷ octet ∷ []
gained Inside octet = octet ∷ []
gained Return octet = octet ∷ []
gained Ended octet = []

-- where the next octet is after these
abbrev pub text_state_after : TextState → List ℕ → TextState
text_state_after place [] = place
text_state_after place (octet ∷ rest) = text_state_after (after place octet) rest

-- and the text so far
abbrev pub text_after : TextState → List ℕ → List ℕ
text_after place [] = []
text_after place (octet ∷ rest) = gained place octet ++ text_after (after place octet) rest

-- the last of these octets ends the text, and none before it
abbrev pub TextEndsAt : TextState → List ℕ → Type 0
TextEndsAt place [] = place ≡ Ended
TextEndsAt place (octet ∷ rest) = (place ≢ Ended) × TextEndsAt (after place octet) rest

-- this many octets of it aren't kept yet though they may be of the text: a CR after a dot, which may begin the end
abbrev pub put_by : TextState → ℕ
put_by DotReturn = 1
put_by other = 0

-- both say the same
pub record TextsAgree : Type 0 where
  pub ends : (sent text : List ℕ) → IsSentText sent text → TextEndsAt Start sent
  pub same : (sent text : List ℕ) → IsSentText sent text → text_after Start sent ≡ text
  pub only : (sent : List ℕ) → TextEndsAt Start sent → IsSentText sent (text_after Start sent)

-- ---- a text that comes in pieces

-- none of these octets comes after the end
abbrev pub RunsFrom : TextState → List ℕ → Type 0
RunsFrom place [] = Unit {0}
RunsFrom place (octet ∷ rest) = (place ≢ Ended) × RunsFrom (after place octet) rest

-- what is kept of it; nothing if it is too large, or there was no memory for it
abbrev pub TextKeeps : Text → List ℕ → Option TextFault → Type 0
TextKeeps t text None = (t.kept ≡ text) × (length text ≤ t.limit)
TextKeeps t text (Some TooLarge) = (t.kept ≡ []) × (t.limit < length text)
TextKeeps t text (Some Memory) = t.kept ≡ []

-- how many octets it holds
abbrev pub held_text : Text → ℕ
held_text t = length t.kept + put_by t.place

-- it stands for these octets
pub record TextStandsFor (t : Text) (sent : List ℕ) : Type 0 where
  pub runs : RunsFrom Start sent
  pub place : t.place ≡ text_state_after Start sent
  pub keeps : TextKeeps t (text_after Start sent) t.fault

-- it took these octets more
abbrev pub Feeds : Text → List ℕ → Text → Type 0
Feeds t octets u = (sent : List ℕ) → TextStandsFor t sent → TextStandsFor u (sent ++ octets)

-- a text of a message was sent, or why it isn't kept: it has more octets than the limit, or memory was lacking
abbrev pub TextFinishes : ℕ → List ℕ → Result (List ℕ) TextFault → Type 0
TextFinishes limit sent (Ok text) = IsSentText sent text × (length text ≤ limit)
TextFinishes limit sent (Err TooLarge) = (text : List ℕ) × IsSentText sent text × (limit < length text)
TextFinishes limit sent (Err Memory) = Unit {0}

-- the text as it is kept, or why it isn't
abbrev pub IsFinishedText : Text → Result (Bor (List ℕ)) TextFault → Type 0
IsFinishedText text (Ok kept) = (text.fault ≡ None) × (kept.now ≡ text.kept)
IsFinishedText text (Err fault) = text.fault ≡ Some fault
