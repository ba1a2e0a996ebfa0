-- All that may happen to a connection, and what passed over it.
use Rattle.std.specs.Prelude.{◌≡◌, ℕ, ◌+◌, ◌<◌, ◌≤◌, List, [], ◌∷◌, ◌++◌, map, length, take, IsPermutation, All}
use Rattle.std.specs.List.{flat_map}
use Rattle.dovecot_userdb.specs.Connections.{IsNewUserdb, userdb_unwritten, userdb_wrote, MayAskUserdb, AsksUserdb, HearsUserdb, userdb_ended, max_unanswered}
use Rattle.dovecot_userdb.specs.Cuts.{reply_id, IsSaidIn}
use Rattle.dovecot_userdb.specs.Requests.{IsAskable, userdb_hello, userdb_request}
use Rattle.dovecot_userdb.specs.Talks.{max_userdb_line}
use Rattle.dovecot_userdb.specs.declared.answer.UserdbReply.{UserdbReply}
use Rattle.dovecot_userdb.specs.declared.end.UserdbEnd.{UserdbEnd}
use Rattle.dovecot_userdb.specs.declared.connection.UserdbConnection.{UserdbConnection}

-- ---- what passed

-- a request that was made
pub record UserdbAsked : Type 0 where
  pub id : ℕ
  pub name : List ℕ

-- the requests that were made and the answers that were told, each in order; all that was written, and all that came
pub record UserdbPassed : Type 0 where
  pub asked : List UserdbAsked
  pub told : List UserdbReply
  pub sent : List ℕ
  pub came : List ℕ

abbrev pub nothing_said : UserdbPassed
nothing_said = record { asked = []; told = []; sent = []; came = [] }

abbrev pub passed_asked : ℕ → List ℕ → UserdbPassed → UserdbPassed
passed_asked id name p = record p { asked = p.asked ++ record { id = id; name = name } ∷ [] }

abbrev pub passed_sent : List ℕ → UserdbPassed → UserdbPassed
passed_sent octets p = record p { sent = p.sent ++ octets }

abbrev pub passed_told : List ℕ → List UserdbReply → UserdbPassed → UserdbPassed
passed_told piece told p = record p { told = p.told ++ told; came = p.came ++ piece }

-- ---- all that may happen

pub data UserdbLives : UserdbConnection → UserdbPassed → Type 0 where
  -- it is new
  userdb_new : (c : UserdbConnection) → IsNewUserdb c → UserdbLives c nothing_said
  -- a user is asked for
  userdb_asks : (name : List ℕ) (id : ℕ) (c e : UserdbConnection) (p : UserdbPassed) → UserdbLives c p → MayAskUserdb c → IsAskable name → AsksUserdb name c id e → UserdbLives e (passed_asked id name p)
  -- some of what is to be written was
  userdb_writes : (count : ℕ) (c : UserdbConnection) (p : UserdbPassed) → UserdbLives c p → count ≤ length (userdb_unwritten c)
      → UserdbLives (userdb_wrote count c) (passed_sent (take count (userdb_unwritten c)) p)
  -- octets came
  userdb_hears : (piece : List ℕ) (c e : UserdbConnection) (told : List UserdbReply) (p : UserdbPassed) → UserdbLives c p → HearsUserdb piece c told e → UserdbLives e (passed_told piece told p)
  -- it was ended
  userdb_ends : (end : UserdbEnd) (c : UserdbConnection) (p : UserdbPassed) → UserdbLives c p → UserdbLives (userdb_ended end c) p

-- ---- what holds of it

abbrev pub asked_id : UserdbAsked → ℕ
asked_id asked = asked.id

-- the numbers of that many requests: 1, 2 and so on
abbrev pub numbered_from : ℕ → List UserdbAsked → Type 0
numbered_from before [] = Unit {0}
numbered_from before (asked ∷ more) = (asked.id ≡ before + 1) × numbered_from (before + 1) more

abbrev pub written_asked : UserdbAsked → List ℕ
written_asked asked = userdb_request asked.id asked.name

-- whatever happened, and in whatever pieces: no two requests have one number; each is answered once, or waits; each answer is what a line of
-- its own number said; what was written, with what is to be, is one's own version and the requests, in order
pub record UserdbStands (c : UserdbConnection) (p : UserdbPassed) : Type 0 where
  pub numbers : numbered_from 0 p.asked
  pub count : length p.asked ≡ c.asked
  pub answered : IsPermutation (map asked_id p.asked) (map reply_id p.told ++ c.talk.waiting)
  pub said : All (IsSaidIn p.came) p.told
  pub written : p.sent ++ c.unwritten ≡ userdb_hello ++ flat_map written_asked p.asked
  -- what is kept is bounded
  pub heard : length c.heard < max_userdb_line
  pub waiting : length c.talk.waiting ≤ max_unanswered
  pub unwritten : length c.unwritten ≤ 66560

pub record UserdbLivesStand : Type 0 where
  pub stands : (c : UserdbConnection) (p : UserdbPassed) → UserdbLives c p → UserdbStands c p
