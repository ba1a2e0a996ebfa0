-- The state of a server's dialogue with a client, and what comes first in it (RFC 2033, section 4; RFC 5321, section 4.1.4).
use Rattle.std.specs.Prelude.{◌≡◌, ℕ, ◌<◌, ◌≤◌, List, [], ◌++◌, length}
use Rattle.lmtp_dialogue.specs.Lines.{IsCrlfLine, max_line}
use Rattle.lmtp_dialogue.specs.Texts.{line_with_crlf, IsSentText}

-- ---- its state

-- what goes on in it
pub data DialoguePhase : Type 0 where
  -- the client was greeted and hasn't said LHLO
  Greeted : DialoguePhase
  -- no mail transaction is open
  Ready : DialoguePhase
  -- one is: its sender, and the recipients that were taken, in the order of their RCPT
  Opened : List ℕ → List (List ℕ) → DialoguePhase
  -- the same, and it is asked whether there is an account for one recipient more
  Asking : List ℕ → List (List ℕ) → List ℕ → DialoguePhase
  -- a text is sent, or was: its sender, and the recipients for whom a reply is owed, in that order
  Sending : List ℕ → List (List ℕ) → DialoguePhase
  -- the client has said QUIT
  Over : DialoguePhase

-- a dialogue: what goes on in it, and the octets that came after what was answered
pub record Dialogue : Type 0 where
  pub phase : DialoguePhase
  -- the octets that came after the items that were answered
  pub unread : List ℕ

-- a client was greeted
abbrev pub new_dialogue : Dialogue
new_dialogue = record { phase = Greeted; unread = [] }

-- octets of the client come
abbrev pub dialogue_given : List ℕ → Dialogue → Dialogue
dialogue_given piece d = record d { unread = d.unread ++ piece }

-- ---- what comes first

pub data Item : Type 0 where
  -- a command line, without its CRLF
  Command : List ℕ → Item
  -- a line that has more octets than one may have
  LongLine : Item
  -- the text of a message
  Message : List ℕ → Item

-- octets that are a line
abbrev pub IsLineItem : Item → List ℕ → Type 0
IsLineItem (Command line) octets = IsCrlfLine line × (octets ≡ line_with_crlf line) × (length octets ≤ max_line)
IsLineItem LongLine octets = (line : List ℕ) × IsCrlfLine line × (octets ≡ line_with_crlf line) × (max_line < length octets)
IsLineItem (Message text) octets = ⊥

-- octets that are a text as it is sent
abbrev pub IsTextItem : Item → List ℕ → Type 0
IsTextItem (Message text) octets = IsSentText octets text
IsTextItem item octets = ⊥

-- octets that are an item in this phase: lines, or a text after a DATA that was accepted; while a recipient is asked for, and after
-- QUIT, nothing is read
abbrev pub SpellsItem : DialoguePhase → Item → List ℕ → Type 0
SpellsItem Greeted item octets = IsLineItem item octets
SpellsItem Ready item octets = IsLineItem item octets
SpellsItem (Opened sender taken) item octets = IsLineItem item octets
SpellsItem (Sending sender left) item octets = IsTextItem item octets
SpellsItem (Asking sender taken address) item octets = ⊥
SpellsItem Over item octets = ⊥

-- an item, and what follows it
pub record IsNextItem (d : Dialogue) (item : Item) (rest : List ℕ) : Type 0 where
  pub octets : List ℕ
  pub spelled : SpellsItem d.phase item octets
  pub written : d.unread ≡ octets ++ rest

-- no item is whole
abbrev pub DialogueWaits : Dialogue → Type 0
DialogueWaits d = (item : Item) (rest : List ℕ) → IsNextItem d item rest → ⊥

-- in each dialogue one item comes first or none, whatever follows; and it doesn't matter in which pieces octets come
pub record ItemsStand : Type 0 where
  pub one : (d : Dialogue) (a b : Item) (x y : List ℕ) → IsNextItem d a x → IsNextItem d b y → (a ≡ b) × (x ≡ y)
  pub stays : (d : Dialogue) (item : Item) (rest more : List ℕ) → IsNextItem d item rest → IsNextItem (dialogue_given more d) item (rest ++ more)
  pub pieces : (d : Dialogue) (a b : List ℕ) → dialogue_given b (dialogue_given a d) ≡ dialogue_given (a ++ b) d
