-- One step of a session: the first item is taken off and answered.
use Rattle.std.specs.Prelude.{◌≡◌, ℕ, Bool, true, false, cond, not, ◌&&◌, List, [], ◌++◌, Option, Some, None, MatchBool}
use Rattle.managesieve_protocol.specs.declared.commands.ClientCommand.{ClientCommand}
use Rattle.managesieve_protocol.specs.declared.commands.ClientCommand.TheVariants.{Capability, Noop, Logout, Unauthenticate, CheckScript}
use Rattle.managesieve_protocol.specs.declared.items.ClientItem.{ClientItem}
use Rattle.managesieve_protocol.specs.declared.items.ClientItem.TheVariants as item
use Rattle.managesieve_protocol.specs.declared.replies.ServerReply.{ServerReply}
use Rattle.managesieve_protocol.specs.Replies as octets_of
use Rattle.store_accounts.specs.Account.{Account, Accounts, with_user}
use Rattle.managesieve_sessions.specs.declared.progress.FirstItem.{FirstItem}
use Rattle.managesieve_sessions.specs.declared.progress.FirstItem.TheVariants as over
use Rattle.managesieve_sessions.specs.declared.progress.Progress.{Progress}
use Rattle.managesieve_sessions.specs.declared.progress.FreeStep.{FreeStep}
use Rattle.managesieve_sessions.specs.declared.progress.FreeStep.TheVariants.{Made, Asks}
use Rattle.managesieve_sessions.specs.declared.progress.Progress.TheVariants.{Need, Done, Close}
use Rattle.managesieve_sessions.specs.declared.command_class.StoreCommand.{StoreCommand}
use Rattle.managesieve_sessions.specs.Clients.{Client, item_in, reach_in, is_command, without_octets, shut}
use Rattle.managesieve_sessions.specs.Replies.{syntax, too_big}
use Rattle.managesieve_sessions.specs.Scripts.{obeyed}
use Rattle.managesieve_sessions.specs.CommandClasses.{of_store_command, IsStoreCommandOf}
use Rattle.managesieve_sessions.specs.Table.{is_early, RepliesIn, client_in}

-- the account of the user who is logged in is changed, and no other
abbrev pub changed_for : Option (List ℕ) → (Account → Account) → Accounts → Accounts
changed_for None change accounts = accounts
changed_for (Some user) change accounts = with_user accounts user change

-- how a session that is now in this state goes on
abbrev pub progress_of : Client → Progress
progress_of c = cond c.closed Close Done

-- a command is answered by a reply of its row, which decides what changes
pub record ObeysCommand (accounts : Accounts) (c : Client) (command : ClientCommand) (progress : Progress) (octets : List ℕ) (d : Client) (later : Accounts) : Type 0 where
  pub reply : ServerReply
  pub replies : RepliesIn accounts c command reply
  pub spelled : octets ≡ octets_of.reply_octets reply
  pub session : d ≡ client_in accounts command c
  pub goes_on : progress ≡ progress_of d
  pub changed : later ≡ changed_for c.user (obeyed command reply.word) accounts

-- nothing changes but the session
abbrev pub StepAnswers : Accounts → Progress → List ℕ → Client → Progress → List ℕ → Client → Accounts → Type 0
StepAnswers accounts said text left progress octets d later = (progress ≡ said) × (octets ≡ text) × (d ≡ left) × (later ≡ accounts)

-- the step of the first item: what is answered, and the session and the accounts after it
abbrev pub StepsAt : Accounts → Client → ClientItem → Progress → List ℕ → Client → Accounts → Type 0
StepsAt accounts c item.Need progress octets d later = StepAnswers accounts Need [] c progress octets d later
StepsAt accounts c (item.Command command used) progress octets d later = ObeysCommand accounts (without_octets used c) command progress octets d later
StepsAt accounts c (item.Bad used) progress octets d later = StepAnswers accounts Done (octets_of.reply_octets syntax) (without_octets used c) progress octets d later
StepsAt accounts c item.TooBig progress octets d later = StepAnswers accounts Close (octets_of.reply_octets too_big) (shut c) progress octets d later

-- a step of this session over these accounts, with this answer, leads to this session and these accounts
abbrev pub IsStep : Accounts → Client → Progress → List ℕ → Client → Accounts → Type 0
IsStep accounts c progress octets d later =
    MatchBool c.closed (StepAnswers accounts Close [] c progress octets d later) (StepsAt accounts c (item_in c) progress octets d later)

-- what was written between two outputs answers a step that leads to this session, and all accounts stay as they are
pub record StepsOver (c d : Client) (progress : Progress) (before later : List ℕ) : Type 0 where
  pub octets : List ℕ
  pub written : later ≡ before ++ octets
  pub step : (accounts : Accounts) → IsStep accounts c progress octets d accounts

-- a command comes first, in a session that hasn't ended
abbrev pub has_command : Client → Bool
has_command c = not c.closed && is_command (reach_in c)

-- a command that is answered without the store
abbrev pub is_free : ClientCommand → Bool
is_free Capability = true
is_free (Noop tag) = true
is_free Logout = true
is_free Unauthenticate = true
is_free (CheckScript text) = true
is_free _ = false

-- this command comes first, in a session that hasn't ended
pub record HasFirstCommand (c : Client) (command : ClientCommand) : Type 0 where
  pub live : c.closed ≡ false
  pub used : ℕ
  pub first : item_in c ≡ item.Command command used

-- whether a command comes first
abbrev pub gives_command : FirstItem → Bool
gives_command (over.Made progress) = false
gives_command (over.Command command) = true

-- the step was made, or a command comes first
abbrev pub StepsFirst : Client → Client → FirstItem → List ℕ → List ℕ → Type 0
StepsFirst c d (over.Made progress) before later = StepsOver c d progress before later
StepsFirst c d (over.Command command) before later = HasFirstCommand c command

-- a fact if the step was made
abbrev pub IfOver : FirstItem → Type 0 → Type 0
IfOver (over.Made progress) P = P
IfOver (over.Command command) P = Unit {0}

-- a fact if a command comes first
abbrev pub IfCommand : FirstItem → Type 0 → Type 0
IfCommand (over.Made progress) P = Unit {0}
IfCommand (over.Command command) P = P

-- this comes first in a session that hasn't ended, and is answered over the store; scripts are those of the user who is logged in
pub record Asked (c : Client) (order : StoreCommand) : Type 0 where
  pub live : c.closed ≡ false
  pub used : ℕ
  pub first : item_in c ≡ item.Command (of_store_command order) used
  pub owner : IsStoreCommandOf c.user order
  pub late : is_early c (of_store_command order) ≡ false
  pub asks : is_free (of_store_command order) ≡ false

-- this comes first and is answered over the store, and nothing changed
pub record AsksFor (c d : Client) (order : StoreCommand) (before later : List ℕ) : Type 0 where
  pub asked : Asked c order
  pub stays : d ≡ c
  pub silent : later ≡ before

-- the step was made, or what comes first asks the store
abbrev pub StepsFree : Client → Client → FreeStep → List ℕ → List ℕ → Type 0
StepsFree c d (Made progress) before later = StepsOver c d progress before later
StepsFree c d (Asks order) before later = AsksFor c d order before later

-- a fact if the step was made
abbrev pub IfMade : FreeStep → Type 0 → Type 0
IfMade (Made progress) P = P
IfMade (Asks order) P = Unit {0}

-- a fact if the step wasn't made
abbrev pub IfAsks : FreeStep → Type 0 → Type 0
IfAsks (Made progress) P = Unit {0}
IfAsks (Asks order) P = P

-- whether the store is asked about the item
abbrev pub asks_store : Client → ClientItem → Bool
asks_store c (item.Command command used) = not (is_early c command) && not (is_free command)
asks_store c _ = false

-- whether memory is asked for
abbrev pub asks_memory : ClientItem → Bool
asks_memory item.Need = false
asks_memory _ = true

-- whether a step may be refused as Memory, and as Store
abbrev pub may_lack : Client → Bool
may_lack c = not c.closed && asks_memory (item_in c)

abbrev pub may_fail : Client → Bool
may_fail c = not c.closed && asks_store c (item_in c)
