-- Octets in other pieces do the same; and each answer that is told is to a request that waited, by a line of its own.
use Rattle.std.specs.Prelude.{◌≡◌, ℕ, List, ◌∷◌, ◌++◌, map, IsPermutation, All}
use Rattle.dovecot_userdb.specs.Answers.{SaysAnswer}
use Rattle.dovecot_userdb.specs.Connections.{HearsUserdb}
use Rattle.dovecot_userdb.specs.Lines.{HasNone, userdb_line_end, lines_written, AreUserdbLines}
use Rattle.dovecot_userdb.specs.declared.answer.UserdbReply.{UserdbReply}
use Rattle.dovecot_userdb.specs.declared.connection.UserdbConnection.{UserdbConnection}

-- two pieces do what both in one do; and what a piece does is one thing
pub record UserdbCutsStand : Type 0 where
  pub joins : (a b : List ℕ) (c d e : UserdbConnection) (first second : List UserdbReply) → HearsUserdb a c first d → HearsUserdb b d second e → HearsUserdb (a ++ b) c (first ++ second) e
  pub one : (piece : List ℕ) (c d e : UserdbConnection) (first second : List UserdbReply) → HearsUserdb piece c first d → HearsUserdb piece c second e → (first ≡ second) × (d ≡ e)

abbrev pub reply_id : UserdbReply → ℕ
reply_id reply = reply.id

-- a line of these octets says so: whole lines come before it, and its LF follows it
pub record IsSaidIn (octets : List ℕ) (reply : UserdbReply) : Type 0 where
  pub before : List (List ℕ)
  pub line : List ℕ
  pub after : List ℕ
  pub each : AreUserdbLines before
  pub whole : HasNone userdb_line_end line
  pub written : octets ≡ lines_written before ++ (line ++ userdb_line_end ∷ after)
  pub says : SaysAnswer line reply.id reply.answer

-- those that waited are those that are answered and those that wait still: so an answer is to a request that waited, each gets one at most,
-- and a request that isn't answered waits on; and each answer is what a line of its own number said
pub record UserdbAnswersFit : Type 0 where
  pub waited : (piece : List ℕ) (c e : UserdbConnection) (told : List UserdbReply) → HearsUserdb piece c told e → IsPermutation c.talk.waiting (map reply_id told ++ e.talk.waiting)
  pub said : (piece : List ℕ) (c e : UserdbConnection) (told : List UserdbReply) → HearsUserdb piece c told e → All (IsSaidIn (c.heard ++ piece)) told
