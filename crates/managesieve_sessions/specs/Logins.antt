-- Logins: whom a text logs in, the reply, and how the session changes (RFC 5804, 2.1; RFC 4616).
use Rattle.std.specs.Prelude.{ℕ, ◌+◌, Bool, cond, not, nat_eq, nat_lt, is_some, List, map, Option, Some, None, codes}
use Rattle.std.specs.Char.{to_ascii_lowercase}
use Rattle.std.specs.Cmp.Lexicographic.{pointwise}
use Rattle.managesieve_protocol.specs.declared.replies.ServerReply.{ServerReply}
use Rattle.sasl_plain.specs.Parts.{login_of}
use Rattle.sasl_plain.specs.Password.{digest_of}
use Rattle.store_accounts.specs.Account.{Account, Accounts, Password, open_account_of}
use Rattle.managesieve_sessions.specs.Clients.{Client, shut, challenged}
use Rattle.managesieve_sessions.specs.Replies.{ok_reply, negative_reply, bye_reply, challenge_reply}

-- ---- whom a text logs in

-- whether the password is the stored one
abbrev pub has_password : List ℕ → Password → Bool
has_password password kept = pointwise nat_eq (digest_of kept.salt password kept.rounds) kept.digest

-- the user of a login whose password is that of the open account, if there is one
abbrev pub checked_by : List ℕ × List ℕ → Option Account → Option (List ℕ)
checked_by login None = None
checked_by login (Some a) = cond (has_password login.1 a.password) (Some login.0) None

abbrev pub admitted_by : Accounts → Option (List ℕ × List ℕ) → Option (List ℕ)
admitted_by accounts None = None
admitted_by accounts (Some login) = checked_by login (open_account_of accounts login.0)

-- the user whom a text logs in: it is a login by PLAIN, the user has an open account, and the password is its own
abbrev pub admitted : Accounts → List ℕ → Option (List ℕ)
admitted accounts text = admitted_by accounts (login_of text)

-- ---- the reply, and the session after it; the third failure ends the session

abbrev pub login_reply : Option (List ℕ) → ℕ → ServerReply
login_reply (Some user) failures = ok_reply (codes "Logged in.")
login_reply None failures = cond (nat_lt failures 2) (negative_reply None (codes "Authentication failed.")) (bye_reply (codes "Too many failures."))

abbrev pub login_client : Option (List ℕ) → Client → Client
login_client (Some user) c = record c { user = Some user; failures = 0 }
login_client None c = cond (nat_lt c.failures 2) (record c { failures = c.failures + 1 }) (shut c)

-- ---- `AUTHENTICATE`, check by check, once for the reply and once for the session

-- the only mechanism, in upper or lower case
abbrev pub is_plain_mechanism : List ℕ → Bool
is_plain_mechanism mechanism = pointwise nat_eq (map to_ascii_lowercase mechanism) (codes "plain")

-- with an initial response the login is decided at once, without one it waits for the answer to a challenge
abbrev pub opening_reply : Accounts → ℕ → Option (List ℕ) → ServerReply
opening_reply accounts failures None = challenge_reply
opening_reply accounts failures (Some text) = login_reply (admitted accounts text) failures

abbrev pub opening_client : Accounts → Option (List ℕ) → Client → Client
opening_client accounts None c = challenged c
opening_client accounts (Some text) c = login_client (admitted accounts text) c

abbrev pub authenticate_reply : Accounts → Client → List ℕ → Option (List ℕ) → ServerReply
authenticate_reply accounts c mechanism response =
    cond (is_some c.user) (negative_reply None (codes "Already logged in."))
    (cond (not (is_plain_mechanism mechanism)) (negative_reply None (codes "Unknown mechanism."))
    (opening_reply accounts c.failures response))

abbrev pub authenticate_client : Accounts → List ℕ → Option (List ℕ) → Client → Client
authenticate_client accounts mechanism response c =
    cond (is_some c.user) c (cond (not (is_plain_mechanism mechanism)) c (opening_client accounts response c))

-- ---- the answer to a challenge

abbrev pub is_star : List ℕ → Bool
is_star text = pointwise nat_eq text (codes "*")

abbrev pub response_reply : Accounts → Client → List ℕ → ServerReply
response_reply accounts c text = cond (is_star text) (negative_reply None (codes "Cancelled.")) (login_reply (admitted accounts text) c.failures)

abbrev pub response_client : Accounts → List ℕ → Client → Client
response_client accounts text c = cond (is_star text) c (login_client (admitted accounts text) c)
