-- The outcome of a command that isn't about scripts, decided from the session and the login.
use Rattle.std.specs.Prelude.{◌≡◌, ◌⊎◌, ℕ, Bool, true, false, cond, ◌&&◌, is_none, is_some, List, Option, Some, None}
use Rattle.managesieve_protocol.specs.declared.commands.ClientCommand.{ClientCommand}
use Rattle.managesieve_protocol.specs.declared.commands.ClientCommand.TheVariants.{Authenticate, Response}
use Rattle.sasl_plain.specs.declared.password.PasswordHash.{PasswordHash}
use Rattle.sasl_plain.specs.Parts.{login_of}
use Rattle.store_accounts.specs.Account.{Accounts, Password}
use Rattle.managesieve_sessions.specs.declared.free.FreeOutcome.{FreeOutcome}
use Rattle.managesieve_sessions.specs.declared.free.FreeOutcome.TheVariants.{Made, Asks}
use Rattle.managesieve_sessions.specs.declared.command_outcome.CommandOutcome.{CommandOutcome}
use Rattle.managesieve_sessions.specs.declared.command_outcome.SessionChange.{SessionChange}
use Rattle.managesieve_sessions.specs.declared.command_outcome.SessionChange.TheVariants.{Stay, Close, Challenge, LogIn, Fail, LogOut}
use Rattle.managesieve_sessions.specs.Clients.{Client, shut, challenged, after_logout}
use Rattle.managesieve_sessions.specs.Logins.{admitted, is_plain_mechanism, is_star, login_reply, login_client}
use Rattle.managesieve_sessions.specs.Replies.{negative_reply}
use Rattle.managesieve_sessions.specs.CommandClasses.{of_store_command, IsStoreCommandOf}
use Rattle.managesieve_sessions.specs.Steps.{is_free}
use Rattle.managesieve_sessions.specs.Table.{RepliesTaken, taken_client, lacks_login, early_reply}

-- the session after it
abbrev pub client_after : SessionChange → Client → Client
client_after Stay c = c
client_after Close c = shut c
client_after Challenge c = challenged c
client_after (LogIn user) c = login_client (Some user) c
client_after Fail c = login_client None c
client_after LogOut c = after_logout c

-- for all accounts and every session that fit: the reply is that of the command's row, and the session changes as the table says
pub record IsCommandOutcome (Fits : Accounts → Client → Type 0) (command : ClientCommand) (turn : CommandOutcome) : Type 0 where
  pub replies : (accounts : Accounts) (c : Client) → Fits accounts c → RepliesTaken accounts c command turn.reply
  pub session : (accounts : Accounts) (c : Client) → Fits accounts c → taken_client accounts command c ≡ client_after turn.session_change c

-- this user is logged in, or nobody
abbrev pub HasSessionUser : Option (List ℕ) → Accounts → Client → Type 0
HasSessionUser user accounts c = c.user ≡ user

-- the outcome of a command that asks no store, if this user is logged in, or nobody: one that lacks a login is told so, another has its row's reply
abbrev pub IsOutcomeAlone : Option (List ℕ) → ClientCommand → CommandOutcome → Type 0
IsOutcomeAlone user command turn =
    ((lacks_login user command ≡ true) × (turn ≡ record { reply = early_reply; session_change = Stay }))
    ⊎ ((lacks_login user command ≡ false) × (is_free command ≡ true) × IsCommandOutcome (HasSessionUser user) command turn)

-- what a command comes to without the store: its outcome, if it lacks a login or asks no store, else the order for the store
abbrev pub IsFreeOutcome : Option (List ℕ) → ClientCommand → FreeOutcome → Type 0
IsFreeOutcome user command (Made turn) = IsOutcomeAlone user command turn
IsFreeOutcome user command (Asks order) = (lacks_login user command ≡ false) × (is_free command ≡ false) × (of_store_command order ≡ command) × IsStoreCommandOf user order

-- ---- logins

-- the text that decides a login, if the command has one and it is looked at
abbrev pub login_text : Option (List ℕ) → ClientCommand → Option (List ℕ)
login_text user (Authenticate mechanism (Some text)) = cond (is_none user && is_plain_mechanism mechanism) (Some text) None
login_text user (Response text) = cond (is_star text) None (Some text)
login_text user _ = None

-- whether there is such a text, and it is a login
abbrev pub says_login : Option (List ℕ) → Bool
says_login None = false
says_login (Some text) = is_some (login_of text)

-- the user whom it logs in
abbrev pub admitted_in : Accounts → Option (List ℕ) → Option (List ℕ)
admitted_in accounts None = None
admitted_in accounts (Some text) = admitted accounts text

-- this user is logged in or nobody, that many logins failed, and the command's text logs this one in, or none
pub record FitsLogin (user : Option (List ℕ)) (failures : ℕ) (command : ClientCommand) (who : Option (List ℕ)) (accounts : Accounts) (c : Client) : Type 0 where
  pub user_is : c.user ≡ user
  pub failed : c.failures ≡ failures
  pub admits : admitted_in accounts (login_text user command) ≡ who

-- the outcome of a login: this user's, or a failed one
pub record IsLoginOutcome (who : Option (List ℕ)) (failures : ℕ) (turn : CommandOutcome) : Type 0 where
  pub reply_is : turn.reply ≡ login_reply who failures
  pub session_is : (c : Client) → login_client who c ≡ client_after turn.session_change c

-- `NO` and a text, and the session stays
abbrev pub stays : List ℕ → CommandOutcome
stays text = record { reply = negative_reply None text; session_change = Stay }

-- a stored password, as the account has it
abbrev pub account_password : PasswordHash → Password
account_password kept = record { salt = kept.salt; rounds = kept.rounds; digest = kept.digest }
