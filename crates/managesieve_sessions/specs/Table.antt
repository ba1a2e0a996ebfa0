-- The table of the commands: the reply to each in a session, and how the session changes (RFC 5804, section 2).
use Rattle.std.specs.Prelude.{◌≡◌, Bool, true, false, cond, ◌&&◌, is_none, List, ℕ, Option, Some, None, MatchBool, codes}
use Rattle.managesieve_protocol.specs.declared.commands.ClientCommand.{ClientCommand}
use Rattle.managesieve_protocol.specs.declared.commands.ClientCommand.TheVariants.{Capability, Noop, Logout, Authenticate, Unauthenticate, HaveSpace, PutScript, CheckScript, ListScripts, SetActive, GetScript, DeleteScript, RenameScript, Response}
use Rattle.managesieve_protocol.specs.declared.replies.ServerReply.{ServerReply}
use Rattle.store_accounts.specs.Account.{Account, Accounts, open_account_of}
use Rattle.managesieve_sessions.specs.Clients.{Client, shut, after_logout}
use Rattle.managesieve_sessions.specs.Replies.{ok_reply, negative_reply, done_reply, noop_reply, capability_reply}
use Rattle.managesieve_sessions.specs.Scripts.{RepliesTo, RepliesToCheck}
use Rattle.managesieve_sessions.specs.Logins.{authenticate_reply, authenticate_client, response_reply, response_client}

-- a command that only a user who is logged in may send
abbrev pub needs_login : ClientCommand → Bool
needs_login Capability = false
needs_login (Noop tag) = false
needs_login Logout = false
needs_login (Authenticate mechanism response) = false
needs_login (Response text) = false
needs_login _ = true

-- a command about the scripts of an account
abbrev pub is_about_scripts : ClientCommand → Bool
is_about_scripts (HaveSpace name size) = true
is_about_scripts (PutScript name script) = true
is_about_scripts ListScripts = true
is_about_scripts (SetActive name) = true
is_about_scripts (GetScript name) = true
is_about_scripts (DeleteScript name) = true
is_about_scripts (RenameScript old new) = true
is_about_scripts _ = false

-- the reply to a command that is early
abbrev pub early_reply : ServerReply
early_reply = negative_reply None (codes "Log in first.")

-- such a command if this user is logged in, or nobody: it lacks the login
abbrev pub lacks_login : Option (List ℕ) → ClientCommand → Bool
lacks_login user command = needs_login command && is_none user

-- such a command before anybody is logged in
abbrev pub is_early : Client → ClientCommand → Bool
is_early c command = lacks_login c.user command

-- the open account of the user who is logged in
abbrev pub account_of : Accounts → Option (List ℕ) → Option Account
account_of accounts None = None
account_of accounts (Some user) = open_account_of accounts user

-- the reply about an open account; if there is none, the command is early
abbrev pub RepliesOf : Option Account → ClientCommand → ServerReply → Type 0
RepliesOf None command reply = reply ≡ early_reply
RepliesOf (Some a) command reply = RepliesTo a command reply

-- the reply to a command that isn't early
abbrev pub RepliesTaken : Accounts → Client → ClientCommand → ServerReply → Type 0
RepliesTaken accounts c Capability reply = reply ≡ capability_reply c.user
RepliesTaken accounts c (Noop tag) reply = reply ≡ noop_reply tag
RepliesTaken accounts c Logout reply = reply ≡ ok_reply (codes "Bye.")
RepliesTaken accounts c (Authenticate mechanism response) reply = reply ≡ authenticate_reply accounts c mechanism response
RepliesTaken accounts c (Response text) reply = reply ≡ response_reply accounts c text
RepliesTaken accounts c Unauthenticate reply = reply ≡ done_reply
RepliesTaken accounts c (CheckScript text) reply = RepliesToCheck text reply
RepliesTaken accounts c command reply = RepliesOf (account_of accounts c.user) command reply

-- the reply to a command in a session; for one that is early nothing else is looked at
abbrev pub RepliesIn : Accounts → Client → ClientCommand → ServerReply → Type 0
RepliesIn accounts c command reply = MatchBool (is_early c command) (reply ≡ early_reply) (RepliesTaken accounts c command reply)

-- the session after a command about an account: a user whose account isn't open any more is logged out
abbrev pub asked_client : Option Account → Client → Client
asked_client None c = after_logout c
asked_client (Some a) c = c

abbrev pub taken_client : Accounts → ClientCommand → Client → Client
taken_client accounts Capability c = c
taken_client accounts (Noop tag) c = c
taken_client accounts Logout c = shut c
taken_client accounts (Authenticate mechanism response) c = authenticate_client accounts mechanism response c
taken_client accounts (Response text) c = response_client accounts text c
taken_client accounts Unauthenticate c = after_logout c
taken_client accounts (CheckScript text) c = c
taken_client accounts command c = asked_client (account_of accounts c.user) c

-- the session after a command
abbrev pub client_in : Accounts → ClientCommand → Client → Client
client_in accounts command c = cond (is_early c command) c (taken_client accounts command c)
