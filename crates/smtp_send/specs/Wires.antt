-- What passes over a connection, and what of it was for messages.
use Rattle.std.specs.Prelude.{ℕ, List, [], ◌∷◌, ◌++◌}
use Rattle.smtp_dialogue.specs.Replies.{IsSmtpReply}
use Rattle.smtp_send.specs.Talks.{SendTalk}

-- of what was sent this was written for messages, in this order; the rest was for others: EHLO, RSET, QUIT
pub data CarriesMessages : List ℕ → List ℕ → Type 0 where
  sent_none : CarriesMessages [] []
  sent_message : (sent written octets : List ℕ) → CarriesMessages sent written → CarriesMessages (sent ++ octets) (written ++ octets)
  sent_other : (sent written octets : List ℕ) → CarriesMessages sent written → CarriesMessages (sent ++ octets) written

-- of what came these are the codes of the replies to messages, in this order; the rest was other replies, or none
pub data CarriesReplies : List ℕ → List ℕ → Type 0 where
  came_none : CarriesReplies [] []
  came_reply : (came codes octets rest : List ℕ) (code : ℕ) → CarriesReplies came codes → IsSmtpReply (octets ++ rest) code rest → CarriesReplies (came ++ octets) (codes ++ code ∷ [])
  came_other : (came codes octets : List ℕ) → CarriesReplies came codes → CarriesReplies (came ++ octets) codes

-- what passed over a connection, with the octets that came and aren't read yet, is this talk
pub record WirePasses (Passed : List ℕ → List ℕ → Type 0) (unread : List ℕ) (talk : SendTalk) : Type 0 where
  pub sent : List ℕ
  pub came : List ℕ
  pub passed : Passed sent (came ++ unread)
  pub carries : CarriesMessages sent talk.written
  pub answers : CarriesReplies came talk.answered
