-- Commands that are answered over a store: the step over one.
use Rattle.std.specs.Prelude.{◌≡◌, ℕ, true, List, ◌++◌, Some, Result, Ok, Err, OnOk, OnErr, IfErr, Bool, is_some}
use Rattle.sqlite.specs.State.{State}
use Rattle.managesieve_protocol.specs.declared.commands.ClientCommand.{ClientCommand}
use Rattle.managesieve_protocol.specs.declared.replies.ServerReply.{ServerReply}
use Rattle.managesieve_protocol.specs.Replies as octets_of
use Rattle.store_accounts.specs.declared.refusal.Refusal.{Refusal}
use Rattle.store_accounts.specs.declared.refusal.Refusal.TheVariants.{Memory, Store}
use Rattle.store_accounts.specs.Account.{Account, Accounts, open_account_of, with_user}
use Rattle.store_accounts.specs.Refusals.{IsTransient}
use Rattle.managesieve_sessions.specs.declared.progress.Progress.{Progress}
use Rattle.managesieve_sessions.specs.Acts.{Acts}
use Rattle.managesieve_sessions.specs.Clients.{Client}
use Rattle.managesieve_sessions.specs.Scripts.{obeyed}
use Rattle.managesieve_sessions.specs.Table.{RepliesOf}
use Rattle.managesieve_sessions.specs.Counts.{SessionView, scanned_past}
use Rattle.managesieve_sessions.specs.Steps.{IsStep, may_lack, may_fail}

-- ---- a command about a user's scripts

-- the user's open account, if there is one, is answered by a reply of the command's row, and changes as its status says
pub record ObeysUser (user : List ℕ) (command : ClientCommand) (reply : ServerReply) (accounts later : Accounts) : Type 0 where
  pub replies : RepliesOf (open_account_of accounts user) command reply
  pub changed : later ≡ with_user accounts user (obeyed command reply.word)

-- what the call wrote between two outputs is such a reply, and it returns whether the account is open; after a refusal no account changed
abbrev pub ObeyedTo : List ℕ → ClientCommand → Result Bool Refusal → List ℕ → List ℕ → Accounts → Accounts → Type 0
ObeyedTo user command (Ok is_open) before after accounts later =
    (reply : ServerReply) × (is_open ≡ is_some (open_account_of accounts user)) × (after ≡ before ++ octets_of.reply_octets reply)
    × ObeysUser user command reply accounts later
ObeyedTo user command (Err refusal) before after accounts later = later ≡ accounts

-- what the accounts may turn into by the command
abbrev pub MayObey : List ℕ → ClientCommand → Accounts → Accounts → Type 0
MayObey user command accounts later = (reply : ServerReply) × ObeysUser user command reply accounts later

-- how the command changes the store, with what was written between two outputs
abbrev pub ActsCommand : List ℕ → ClientCommand → List ℕ → List ℕ → State → State → Result Bool Refusal → Type 0
ActsCommand user command before after old new result = Acts (ObeyedTo user command result before after) (MayObey user command) old new result

-- ---- a step

-- what the call wrote between two outputs answers a step that leaves the session and the accounts like this; after a refusal nothing changed
abbrev pub SessionStepsTo : Client → Client → Result Progress Refusal → List ℕ → List ℕ → Accounts → Accounts → Type 0
SessionStepsTo c d (Ok progress) before after accounts later = (octets : List ℕ) × (after ≡ before ++ octets) × IsStep accounts c progress octets d later
SessionStepsTo c d (Err refusal) before after accounts later = later ≡ accounts

-- what the accounts may turn into by a step of the session
abbrev pub MayStep : Client → Accounts → Accounts → Type 0
MayStep c accounts later = (progress : Progress) × (octets : List ℕ) × (d : Client) × IsStep accounts c progress octets d later

-- how a step from one session to another changes the store, with what was written between two outputs
abbrev pub ActsStep : Client → Client → List ℕ → List ℕ → State → State → Result Progress Refusal → Type 0
ActsStep c d before after old new result = Acts (SessionStepsTo c d result before after) (MayStep c) old new result

-- a step of a command that is answered over the store: its item is taken off, and its scan counts; after a refusal the session and the output are as before
pub record StepsAsked (from to : SessionView) (before after : List ℕ) (old new : State) (result : Result Progress Refusal) : Type 0 where
  pub acts : ActsStep from.client to.client before after old new result
  pub counts : OnOk result (to.given ≡ from.given)
  pub scans : OnOk result (to.scanned ≡ scanned_past from)
  pub err : OnErr result ((to ≡ from) × (after ≡ before))
  pub named : IfErr result IsTransient

-- the refusals that a step may have
abbrev pub MayRefuse : Client → Refusal → Type 0
MayRefuse c Memory = may_lack c ≡ true
MayRefuse c Store = may_fail c ≡ true
MayRefuse c _ = ⊥
