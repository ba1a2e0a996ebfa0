-- From the outcome of a command to the step that it makes: for those who answer one over a store.
use Rattle.std.specs.Prelude.{◌≡◌, ℕ, true, false, List, Some, None}
use Rattle.managesieve_protocol.specs.declared.commands.ClientCommand.{ClientCommand}
use Rattle.managesieve_protocol.specs.declared.items.ClientItem.TheVariants as item
use Rattle.managesieve_protocol.specs.declared.replies.ServerReply.{ServerReply}
use Rattle.managesieve_protocol.specs.Replies as octets_of
use Rattle.store_accounts.specs.Account.{Account, Accounts, open_account_of, with_user}
use Rattle.managesieve_sessions.specs.declared.progress.Progress.TheVariants.{Done}
use Rattle.managesieve_sessions.specs.declared.command_outcome.CommandOutcome.{CommandOutcome}
use Rattle.managesieve_sessions.specs.Clients.{Client, item_in, without_octets, after_logout}
use Rattle.managesieve_sessions.specs.Scripts.{RepliesTo, obeyed}
use Rattle.managesieve_sessions.specs.Steps.{IsStep, progress_of}
use Rattle.managesieve_sessions.specs.Table.{is_early, is_about_scripts, early_reply, RepliesTaken, taken_client}
use Rattle.managesieve_sessions.specs.CommandOutcomes.{client_after}

-- this command comes first, in a session that hasn't ended
abbrev pub ComesFirst : Client → ClientCommand → ℕ → Type 0
ComesFirst c command used = (c.closed ≡ false) × (item_in c ≡ item.Command command used)

-- a command that is early is answered with that, and nothing changes
abbrev pub EarlySteps : Type 0
EarlySteps =
    (accounts : Accounts) (c : Client) (command : ClientCommand) (used : ℕ) → ComesFirst c command used → is_early c command ≡ true
    → IsStep accounts c Done (octets_of.reply_octets early_reply) (without_octets used c) accounts

-- a command that isn't about scripts makes the step of its outcome, and no account changes
abbrev pub TurnSteps : Type 0
TurnSteps =
    (accounts : Accounts) (c : Client) (command : ClientCommand) (used : ℕ) (turn : CommandOutcome)
    → ComesFirst c command used → is_early c command ≡ false → is_about_scripts command ≡ false
    → RepliesTaken accounts (without_octets used c) command turn.reply → taken_client accounts command (without_octets used c) ≡ client_after turn.session_change (without_octets used c)
    → IsStep accounts c (progress_of (client_after turn.session_change (without_octets used c))) (octets_of.reply_octets turn.reply) (client_after turn.session_change (without_octets used c)) accounts

-- a command about scripts makes the step of its reply: if the status is OK the open account of the user who is logged in changes, and no other
abbrev pub ScriptSteps : Type 0
ScriptSteps =
    (accounts : Accounts) (c : Client) (command : ClientCommand) (used : ℕ) (user : List ℕ) (a : Account) (reply : ServerReply)
    → ComesFirst c command used → is_about_scripts command ≡ true
    → c.user ≡ Some user → open_account_of accounts user ≡ Some a → RepliesTo a command reply
    → IsStep accounts c Done (octets_of.reply_octets reply) (without_octets used c) (with_user accounts user (obeyed command reply.word))

-- and if that user has no open account any more, it is answered like one that is early: the user is logged out, and no account changes
abbrev pub ClosedSteps : Type 0
ClosedSteps =
    (accounts : Accounts) (c : Client) (command : ClientCommand) (used : ℕ) (user : List ℕ)
    → ComesFirst c command used → is_about_scripts command ≡ true → c.user ≡ Some user → open_account_of accounts user ≡ None
    → IsStep accounts c Done (octets_of.reply_octets early_reply) (after_logout (without_octets used c)) (with_user accounts user (obeyed command early_reply.word))
