-- One connection: what is written, what is asked, and what is made of what comes.
use Rattle.std.specs.Prelude.{◌≡◌, ℕ, ◌+◌, ◌<◌, ◌≤◌, nat_lt, Bool, true, false, if◌then◌else◌, List, [], ◌∷◌, ◌++◌, length, drop}
use Rattle.dovecot_userdb.specs.Requests.{userdb_hello, userdb_request}
use Rattle.dovecot_userdb.specs.Talks.{HearsUserdbLines, talk_ended, talk_with_part}
use Rattle.dovecot_userdb.specs.declared.answer.UserdbReply.{UserdbReply}
use Rattle.dovecot_userdb.specs.declared.connection.UserdbConnection.{UserdbConnection}
use Rattle.dovecot_userdb.specs.declared.end.UserdbEnd.{UserdbEnd}
use Rattle.dovecot_userdb.specs.declared.end.UserdbEnd.TheVariants as ends
use Rattle.dovecot_userdb.specs.declared.talk.UserdbPhase.{UserdbPhase}
use Rattle.dovecot_userdb.specs.declared.talk.UserdbPhase.TheVariants.{Greeting, Open, Over}
use Rattle.dovecot_userdb.specs.declared.talk.UserdbTalk.{UserdbTalk}
use Rattle.dovecot_userdb.specs.declared.wanted.UserdbWanted.{UserdbWanted}
use Rattle.dovecot_userdb.specs.declared.wanted.UserdbWanted.TheVariants as wanted

-- ---- a new one

-- nothing was asked and nothing came; what a client says first is to be written
pub record IsNewUserdb (c : UserdbConnection) : Type 0 where
  pub phase : c.talk.phase ≡ Greeting
  pub waiting : c.talk.waiting ≡ []
  pub unwritten : c.unwritten ≡ userdb_hello
  pub heard : c.heard ≡ []
  pub asked : c.asked ≡ 0

-- ---- what is waited for

-- the last number of a request
abbrev pub max_asked : ℕ
max_asked = 4294967295

abbrev pub wants_asked : ℕ → UserdbWanted
wants_asked asked = if nat_lt asked max_asked then wanted.Request else wanted.Nothing ends.Spent

abbrev pub wants_waiting : List ℕ → ℕ → UserdbWanted
wants_waiting [] asked = wants_asked asked
wants_waiting (id ∷ waiting) asked = wanted.Answer

abbrev pub wants_open : UserdbConnection → UserdbWanted
wants_open c = wants_waiting c.talk.waiting c.asked

abbrev pub wants_in : UserdbPhase → UserdbConnection → UserdbWanted
wants_in Greeting c = wanted.Greeting
wants_in Open c = wants_open c
wants_in (Over end) c = wanted.Nothing end

-- its version; answers, if requests wait; else a request, as long as there are numbers
abbrev pub userdb_wants : UserdbConnection → UserdbWanted
userdb_wants c = wants_in c.talk.phase c

-- ---- octets are written

abbrev pub is_phase_over : UserdbPhase → Bool
is_phase_over Greeting = false
is_phase_over Open = false
is_phase_over (Over end) = true

abbrev pub unwritten_in : UserdbPhase → List ℕ → List ℕ
unwritten_in Greeting octets = octets
unwritten_in Open octets = octets
unwritten_in (Over end) octets = []

-- what is to be written; nothing at its end
abbrev pub userdb_unwritten : UserdbConnection → List ℕ
userdb_unwritten c = unwritten_in c.talk.phase c.unwritten

-- so many octets of it were written
abbrev pub userdb_wrote : ℕ → UserdbConnection → UserdbConnection
userdb_wrote count c = record c { unwritten = drop count c.unwritten }

-- ---- a user is asked for

-- the most requests that wait, and the most octets that wait to be written before another request
abbrev pub max_unanswered : ℕ
max_unanswered = 64

abbrev pub max_unwritten : ℕ
max_unwritten = 65536

-- a request may be made
pub record MayAskUserdb (c : UserdbConnection) : Type 0 where
  pub goes : is_phase_over c.talk.phase ≡ false
  pub few : length c.talk.waiting < max_unanswered
  pub numbers : c.asked < max_asked
  pub written : length c.unwritten ≤ max_unwritten

-- a request is made: it has the next number, waits from now on, and its line is to be written behind all others
pub record AsksUserdb (name : List ℕ) (c : UserdbConnection) (id : ℕ) (e : UserdbConnection) : Type 0 where
  pub next : id ≡ c.asked + 1
  pub leaves : e ≡ record c { talk = record c.talk { waiting = c.talk.waiting ++ id ∷ [] }; unwritten = c.unwritten ++ userdb_request id name; asked = id }

-- ---- it ends

-- one that is at its end stays so; what came of a line is forgotten
abbrev pub userdb_ended : UserdbEnd → UserdbConnection → UserdbConnection
userdb_ended end c = record c { talk = talk_ended end c.talk; heard = [] }

-- ---- octets come

-- of a line that isn't whole nothing is kept at its end
abbrev pub part_kept : UserdbPhase → List ℕ → List ℕ
part_kept Greeting part = part
part_kept Open part = part
part_kept (Over end) part = []

-- with what was kept of a line: all lines that are whole are heard, and the beginning of the next one is kept
pub record HearsUserdbOpen (piece : List ℕ) (c : UserdbConnection) (told : List UserdbReply) (e : UserdbConnection) : Type 0 where
  pub part : List ℕ
  pub talk : UserdbTalk
  pub hears : HearsUserdbLines (c.heard ++ piece) c.talk told part talk
  pub leaves : e ≡ record c { talk = talk_with_part part talk; heard = part_kept (talk_with_part part talk).phase part }

abbrev pub HearsUserdbIn : UserdbPhase → List ℕ → UserdbConnection → List UserdbReply → UserdbConnection → Type 0
HearsUserdbIn Greeting piece c told e = HearsUserdbOpen piece c told e
HearsUserdbIn Open piece c told e = HearsUserdbOpen piece c told e
HearsUserdbIn (Over end) piece c told e = (told ≡ []) × (e ≡ c)

-- octets came, and these answers are told; at its end nothing is looked at
abbrev pub HearsUserdb : List ℕ → UserdbConnection → List UserdbReply → UserdbConnection → Type 0
HearsUserdb piece c told e = HearsUserdbIn c.talk.phase piece c told e
