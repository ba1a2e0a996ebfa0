-- What goes on in a dialogue, as the code holds it.
use Rattle.std.specs.Prelude.{◌≡◌, ℕ, ◌-◌, Bool, true, false, List, [], ◌∷◌, ◌++◌, length, take, drop, slice_index_or}
use Rattle.lmtp_dialogue.specs.Dialogues.{DialoguePhase, Greeted, Ready, Opened, Asking, Sending, Over, Item, Command, LongLine}
use Rattle.lmtp_dialogue.specs.Texts.{TextStandsFor}
use Rattle.lmtp_dialogue.specs.Turns.{LmtpTurn, says, IsLineTurn, lookup_reply, taken_by, max_text}
use Rattle.lmtp_dialogue.specs.declared.receiver.Lookup.{Lookup}
use Rattle.lmtp_dialogue.specs.declared.receiver.LmtpStage.{LmtpStage}
use Rattle.lmtp_dialogue.specs.declared.receiver.LmtpStage.TheVariants as stage
use Rattle.lmtp_dialogue.specs.declared.talk.Talk.{Talk}
use Rattle.lmtp_dialogue.specs.declared.message_text.Text.{Text}

-- what goes on, by what is held: a recipient that is asked for comes after those that were taken
abbrev pub phase_by : LmtpStage → List ℕ → List (List ℕ) → ℕ → DialoguePhase
phase_by stage.Greeted sender recipients told = Greeted
phase_by stage.Ready sender recipients told = Ready
phase_by stage.Opened sender recipients told = Opened sender recipients
phase_by stage.Asking sender recipients told =
    Asking sender (take (length recipients - 1) recipients) (slice_index_or recipients (length recipients - 1) [])
phase_by stage.Sending sender recipients told = Sending sender (drop told recipients)
phase_by stage.Over sender recipients told = Over

abbrev pub phase_of : Talk → DialoguePhase
phase_of t = phase_by t.stage t.sender t.recipients t.told

-- no text was begun, unless one is sent
abbrev pub IsSoundAt : LmtpStage → Text → Type 0
IsSoundAt stage.Sending text = Unit {0}
IsSoundAt other text = TextStandsFor text []

abbrev pub IsTalkSound : Talk → Type 0
IsTalkSound t = IsSoundAt t.stage t.text

-- between two outputs this was said, and this goes on then; no text was touched
pub record TalkObeys (turn : LmtpTurn) (t u : Talk) (before after : List ℕ) : Type 0 where
  pub said : after ≡ before ++ turn.said
  pub phase : phase_of u ≡ turn.phase
  pub hello : u.hello ≡ t.hello
  pub text : u.text ≡ t.text

-- the same, if another says it
abbrev pub TalkDoes : LmtpTurn → Talk → Talk → Type 0
TalkDoes turn t u = TalkObeys turn t u [] turn.said

-- nothing changed
pub record IsSame (t u : Talk) (before after : List ℕ) : Type 0 where
  pub talk : u ≡ t
  pub silent : after ≡ before

-- the line is obeyed, whatever it comes to
pub record TakesTurn (item : Item) (t u : Talk) (before after : List ℕ) : Type 0 where
  pub turn : LmtpTurn
  pub takes : IsLineTurn t.hello (phase_of t) item turn
  pub obeys : TalkObeys turn t u before after

-- a line, or one that has too many octets
abbrev pub item_by : Bool → List ℕ → Item
item_by false line = Command line
item_by true line = LongLine

-- it was found whether there is an account for the recipient that was asked for
abbrev pub resolved_turn : DialoguePhase → Lookup → LmtpTurn
resolved_turn (Asking sender taken address) lookup = says (lookup_reply lookup) (Opened sender (taken_by lookup taken address))
resolved_turn phase lookup = record { said = []; phase = phase }

-- one reply was made after a text
abbrev pub phase_replied : DialoguePhase → DialoguePhase
phase_replied (Sending sender (recipient ∷ next ∷ left)) = Sending sender (next ∷ left)
phase_replied (Sending sender left) = Ready
phase_replied phase = phase

-- the text is kept while a reply is owed, and then none was begun
abbrev pub IsTextAfter : DialoguePhase → Text → Text → Type 0
IsTextAfter Ready old new = TextStandsFor new []
IsTextAfter phase old new = new ≡ old

-- a reply was made for the next recipient
pub record PassesReply (t u : Talk) : Type 0 where
  pub phase : phase_of u ≡ phase_replied (phase_of t)
  pub hello : u.hello ≡ t.hello
  pub text : IsTextAfter (phase_of u) t.text u.text
  pub limit : t.text.limit ≡ max_text → u.text.limit ≡ max_text

-- and this is it
pub record TalkReports (t u : Talk) (said before after : List ℕ) : Type 0 where
  pub written : after ≡ before ++ said
  pub passes : PassesReply t u

-- the message is done with
pub record EndsMessage (t u : Talk) : Type 0 where
  pub stage : u.stage ≡ stage.Ready
  pub hello : u.hello ≡ t.hello
  pub text : TextStandsFor u.text []
  pub limit : u.text.limit ≡ max_text
