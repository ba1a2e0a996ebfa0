-- What acts tell of one client of LMTP.
use Rattle.std.specs.Prelude.{◌≡◌, ℕ, ◌==◌, List, [], ◌∷◌, ◌++◌, Bool, true, false, Option, Some, None}
use Rattle.lmtp_dialogue.specs.Replies.{lmtp_greeting, lmtp_line_of}
use Rattle.lmtp_dialogue.specs.declared.name.Names.{Names}
use Rattle.lmtp_dialogue.specs.declared.reply.LmtpReply.TheVariants.{Idle}
use Rattle.lmtp_connections.specs.Connections.{LmtpState, new_lmtp_state, lmtp_state_heard, LmtpStep, LmtpGoes}
use Rattle.net_loop.specs.Talk.{is_same_id}
use Rattle.net_loop.specs.declared.act.Act.{Act}
use Rattle.net_loop.specs.declared.act.Act.TheVariants.{Late, Displaced, Worked, Came, Heard, Sent, Noted}
use Rattle.daemon_core.specs.Acts.{moment_after}
use Rattle.daemon_core.specs.DaemonRules.{lmtp}
use Rattle.daemon_core.specs.LmtpSteps.{IsLmtpStep, steps_of}
use Rattle.daemon_core.specs.declared.note.Note.{Note}

-- its state, what its acts spell, and what was sent on it
pub record MailLine : Type 0 where
  pub connection : LmtpState
  pub spelled : List ℕ
  pub sent : List ℕ

abbrev pub new_mail : Names → List ℕ → ℕ → MailLine
new_mail names host now = record { connection = new_lmtp_state names host now; spelled = lmtp_greeting host; sent = [] }

-- one that came; a client of ManageSieve has no such line
abbrev pub mail_came : Names → List ℕ → ℕ → Bool → Option MailLine
mail_came names host now true = Some (new_mail names host now)
mail_came names host now false = None

abbrev pub says_more : List ℕ → MailLine → MailLine
says_more octets l = record l { spelled = l.spelled ++ octets }

abbrev pub sent_more : List ℕ → MailLine → MailLine
sent_more octets l = record l { sent = l.sent ++ octets }

-- a note is a step that it allows, and what is said with that is spelled
pub record IsLmtpNoted (now : ℕ) (l : MailLine) (note : Note) (k : MailLine) : Type 0 where
  pub lmtp_step : LmtpStep
  pub told : IsLmtpStep note lmtp_step
  pub said : List ℕ
  pub after : LmtpState
  pub goes : LmtpGoes now l.connection lmtp_step said after
  pub leaves : k ≡ record { connection = after; spelled = l.spelled ++ said; sent = l.sent }

-- if it is an act of the connection
abbrev pub Its : Bool → Type 0 → Type 0 → Type 0
Its true is other = is
Its false is other = other

-- notes of several connections tell it those of its own, one after the other
abbrev pub TellsEach : ℕ → ℕ → MailLine → List (ℕ × Note) → MailLine → Type 0
TellsEach id now l [] k = k ≡ l
TellsEach id now l (it ∷ more) k = (mid : MailLine) × Its (is_same_id it.0 id) (IsLmtpNoted now l it.1 mid) (mid ≡ l) × TellsEach id now mid more k

-- what an act tells of it, at a moment; others' acts nothing
abbrev pub TellsOf : ℕ → ℕ → MailLine → Act Note → MailLine → Type 0
TellsOf id now l (Heard n piece) k = Its (is_same_id n id) (k ≡ record l { connection = lmtp_state_heard now piece l.connection }) (k ≡ l)
TellsOf id now l (Noted n note) k = Its (is_same_id n id) (IsLmtpNoted now l note k) (k ≡ l)
TellsOf id now l (Late n) k = Its (is_same_id n id) (k ≡ says_more (lmtp_line_of Idle) l) (k ≡ l)
TellsOf id now l (Displaced n) k = Its (is_same_id n id) (k ≡ says_more (lmtp_line_of Idle) l) (k ≡ l)
TellsOf id now l (Sent n octets) k = Its (is_same_id n id) (k ≡ sent_more octets l) (k ≡ l)
TellsOf id now l (Worked note) k = TellsEach id now l (steps_of note) k
TellsOf id now l act k = k ≡ l

abbrev pub TellsBy : ℕ → ℕ → Option MailLine → Act Note → Option MailLine → Type 0
TellsBy id now None act p = p ≡ None
TellsBy id now (Some l) act p = (k : MailLine) × TellsOf id now l act k × (p ≡ Some k)

-- the same, once it came
abbrev pub LmtpTells : Names → List ℕ → ℕ → ℕ → Option MailLine → Act Note → Option MailLine → Type 0
LmtpTells names host id now o (Came n kind) p = Its (is_same_id n id) (p ≡ mail_came names host now (kind == lmtp)) (p ≡ o)
LmtpTells names host id now o act p = TellsBy id now o act p

abbrev pub TellsOn : Names → List ℕ → ℕ → ℕ → Option MailLine → List (Act Note) → Option MailLine → Type 0
TellsOn names host id now o [] p = p ≡ o
TellsOn names host id now o (act ∷ acts) p =
    (mid : Option MailLine) × LmtpTells names host id now o act mid × TellsOn names host id (moment_after now act) mid acts p
