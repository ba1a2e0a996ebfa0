-- The replies of a session (RFC 5804, sections 1.2, 1.3 and 1.7).
use Rattle.std.specs.Prelude.{ℕ, Bool, true, false, List, [], ◌∷◌, Option, Some, None, codes}
use Rattle.std.specs.Borrow.{Bor}
use Rattle.sieve_syntax.specs.Capabilities.{offered_names}
use Rattle.managesieve_protocol.specs.declared.replies.ServerReply.{ServerReply}
use Rattle.managesieve_protocol.specs.declared.replies.DataLine.{DataLine}
use Rattle.managesieve_protocol.specs.declared.replies.DataLine.TheVariants as line
use Rattle.managesieve_protocol.specs.declared.replies.ReplyCode.{ReplyCode}
use Rattle.managesieve_protocol.specs.declared.replies.ReplyCode.TheVariants as code
use Rattle.managesieve_protocol.specs.declared.replies.Status.{Status}
use Rattle.managesieve_protocol.specs.declared.replies.Status.TheVariants.{Ok, No, Bye}

-- `OK` and a text
abbrev pub ok_reply : List ℕ → ServerReply
ok_reply text = record { lines = []; word = Some Ok; code = None; text = Some text }

-- `NO`, a code if there is one, and a text
abbrev pub negative_reply : Option ReplyCode → List ℕ → ServerReply
negative_reply code text = record { lines = []; word = Some No; code = code; text = Some text }

-- `BYE` and a text
abbrev pub bye_reply : List ℕ → ServerReply
bye_reply text = record { lines = []; word = Some Bye; code = None; text = Some text }

-- lines, and `OK` alone
abbrev pub listed : List DataLine → ServerReply
listed lines = record { lines = lines; word = Some Ok; code = None; text = None }

-- the empty string of a challenge, without a last line
abbrev pub challenge_reply : ServerReply
challenge_reply = record { lines = line.Empty ∷ []; word = None; code = None; text = None }

-- `OK "Done."`; if the client sent a string it comes back
abbrev pub done_reply : ServerReply
done_reply = ok_reply (codes "Done.")

abbrev pub noop_reply : Option (List ℕ) → ServerReply
noop_reply None = done_reply
noop_reply (Some tag) = record { lines = []; word = Some Ok; code = Some (code.Tag tag); text = Some (codes "Done.") }

abbrev pub syntax : ServerReply
syntax = negative_reply None (codes "Syntax error.")

abbrev pub too_big : ServerReply
too_big = bye_reply (codes "Too big.")

abbrev pub try_later : ServerReply
try_later = negative_reply (Some code.TryLater) (codes "Try later.")

-- the text in a reference, if there is one
abbrev pub borrowed_text : Option (Bor (List ℕ)) → Option (List ℕ)
borrowed_text None = None
borrowed_text (Some text) = Some text.now

-- whether a reply's status is OK
abbrev pub is_ok : Option Status → Bool
is_ok (Some Ok) = true
is_ok _ = false

-- ---- the greeting, which is also the reply to `CAPABILITY`

abbrev pub owner_line : Option (List ℕ) → List DataLine
owner_line None = []
owner_line (Some user) = line.Capability (codes "OWNER") (Some user) ∷ []

-- what the server can do, and whose scripts it serves after a login
abbrev pub capability_lines : Option (List ℕ) → List DataLine
capability_lines user =
    line.Capability (codes "IMPLEMENTATION") (Some (codes "sieved 1"))
    ∷ line.Capability (codes "SASL") (Some (codes "PLAIN"))
    ∷ line.Capability (codes "SIEVE") (Some offered_names)
    ∷ line.Capability (codes "MAXREDIRECTS") (Some (codes "16"))
    ∷ line.Capability (codes "UNAUTHENTICATE") None
    ∷ line.Capability (codes "VERSION") (Some (codes "1.0"))
    ∷ owner_line user

-- the reply to `CAPABILITY`, and the greeting
abbrev pub capability_reply : Option (List ℕ) → ServerReply
capability_reply user = listed (capability_lines user)
