-- Events of the accounts alone: a delivery, a new user, a whole account, a row taken out of the queue, a message taken out of a folder
-- (RFC 5228, 2.10). What an administrator does to one account is in `Upkeep`.
use Rattle.std.specs.Prelude.{◌≡◌, ℕ, true, cond, List, [], ◌∷◌, Option, Some, None, MatchBool}
use Rattle.std.specs.FinMap.{empty, get, insert}
use Rattle.store_text.specs.declared.head.AccountHead.{AccountHead}
use Rattle.store_text.specs.declared.part.Part.{Part}
use Rattle.mail_address.specs.declared.address.Addr.{Addr}
use Rattle.mail_address.specs.Outbound.{IsBareAddress}
use Rattle.sasl_plain.specs.Password.{digest_of}
use Rattle.store_accounts.specs.Account.{Account, Accounts, Scripts, is_closed_account, is_removed, open_account_of, has_mail, renews, new_user, with_user, messages_in, row_with, takes_out, takes_mail}
use Rattle.store_accounts.specs.Whole.{password_of, whole, takes_whole}
use Rattle.store_accounts.specs.declared.queue.QueuedMessage.{QueuedMessage}
use Rattle.store_accounts.specs.declared.report.Report.{Report}
use Rattle.store_accounts.specs.declared.refusal.Refusal.{Refusal}
use Rattle.store_accounts.specs.declared.refusal.Refusal.TheVariants.{NoUser, UserExists, BadUser, NoRow, AccountClosed, UserHasMail, BadAccount}
use Rattle.sieve_exec.specs.declared.envelope.Envelope.{Envelope}
use Rattle.sieve_exec.specs.Mails.{mail_spec_of}
use Rattle.sieve_plan.specs.Sequences.{DeliversInSequence}
use Rattle.managesieve_sessions.specs.Scripts.{IfElse}
use Rattle.store_engine.specs.declared.answer.Answer.{Answer}
use Rattle.store_engine.specs.declared.answer.Answer.TheVariants.{Delivered, Added, Imported, Taken, MailTaken, Refused}
use Rattle.store_engine.specs.Limits.{limit_refusal, is_user_name, IsNewUser}
use Rattle.store_engine.specs.Importable.{may_guard, have_short_flags}
use Rattle.store_engine.specs.Sound.{IsSoundAccount}
use Rattle.store_engine.specs.declared.terms.Terms.{Terms}
use Rattle.store_engine.specs.Upkeep.{rounds, kept_password}

-- the event is refused by the machine itself, and nothing changes
pub record MachineRefuses {X : Type 0} (refusal : Refusal) (x : X) (answer : Answer) (later : X) : Type 0 where
  pub refused : answer ≡ Refused refusal
  pub stays : later ≡ x

-- ---- a delivery

-- the text of a script, if the name is one's
abbrev pub text_named : Scripts → Option (List ℕ) → Option (List ℕ)
text_named scripts None = None
text_named scripts (Some name) = get scripts name

-- the text of the active script, if there is one
abbrev pub active_text : Account → Option (List ℕ)
active_text a = text_named a.scripts a.active

-- the text by which an account's mail is delivered: that of its active script, and if none is active the host's default, if there is one
abbrev pub script_or_default : Option (List ℕ) → Option (List ℕ) → Option (List ℕ)
script_or_default None default = default
script_or_default (Some text) default = Some text

-- the text of the active script, or the host's default; an active name that no script has counts as none
abbrev pub deciding_text : Option (List ℕ) → Account → Option (List ℕ)
deciding_text default a = script_or_default (active_text a) default

-- a message is delivered to an account: to the address that it has, by the host's scripts and, in its turn, the text that decides
pub record DeliversTo (terms : Terms) (envelope : Envelope) (message : List ℕ) (a : Account) (report : Report) (a2 : Account) : Type 0 where
  pub own : Addr
  pub address : IsBareAddress a.address own
  pub delivers : DeliversInSequence own terms.host.scripts (mail_spec_of message envelope terms.when) (deciding_text terms.host.default a) a report a2

-- a delivery to the user: the account is as after it, and no other changes
pub record DeliversUser (accounts : Accounts) (user : List ℕ) (terms : Terms) (envelope : Envelope) (message : List ℕ)
    (a : Account) (answer : Answer) (later : Accounts) : Type 0 where
  pub report : Report
  pub account : Account
  pub delivers : DeliversTo terms envelope message a report account
  pub reported : answer ≡ Delivered report
  pub changed : later ≡ insert accounts user account

-- why nothing is delivered if no account is open: one that is closed and not removed may be on its way to another machine
abbrev pub absence : Option Account → Refusal
absence None = NoUser
absence (Some a) = cond (is_removed a) NoUser AccountClosed

-- depending on the open account of the user, if there is one
abbrev pub DeliversIn : Accounts → List ℕ → Terms → Envelope → List ℕ → Option Account → Answer → Accounts → Type 0
DeliversIn accounts user terms envelope message None answer later = MachineRefuses (absence (get accounts user)) accounts answer later
DeliversIn accounts user terms envelope message (Some a) answer later = DeliversUser accounts user terms envelope message a answer later

-- depending on the limit that forbids it, if there is one
abbrev pub DeliversUnder : Option Refusal → Accounts → List ℕ → Terms → Envelope → List ℕ → Answer → Accounts → Type 0
DeliversUnder (Some refusal) accounts user terms envelope message answer later = MachineRefuses refusal accounts answer later
DeliversUnder None accounts user terms envelope message answer later = DeliversIn accounts user terms envelope message (open_account_of accounts user) answer later

-- a message comes: a limit refuses it, NoUser, AccountClosed, or it is delivered to the account and no other changes
abbrev pub Delivery : Accounts → List ℕ → Envelope → List ℕ → Terms → Answer → Accounts → Type 0
Delivery accounts user envelope message terms answer later =
    DeliversUnder (limit_refusal envelope message terms.when.moment) accounts user terms envelope message answer later

-- ---- a new user

-- the user is there with an empty account: the password is stored as its digest
pub record Adds (accounts : Accounts) (name address salt password : List ℕ) (answer : Answer) (later : Accounts) : Type 0 where
  pub added : answer ≡ Added
  pub changed : later ≡ new_user name address salt rounds (digest_of salt password rounds) accounts

-- a closed account is opened again, empty but for the moments of its replies and its numbers
pub record Renews (accounts : Accounts) (name address salt password : List ℕ) (answer : Answer) (later : Accounts) : Type 0 where
  pub added : answer ≡ Added
  pub changed : later ≡ with_user accounts name (renews address (kept_password salt password))

-- over an account that has the name: one that is open stays, and so does one that is closed and has mail, so that nobody's mail is lost or comes to another
abbrev pub AddsOver : Accounts → List ℕ → List ℕ → List ℕ → List ℕ → Account → Answer → Accounts → Type 0
AddsOver accounts name address salt password a answer later =
    MatchBool (is_closed_account a)
    (MatchBool (has_mail a) (MachineRefuses UserHasMail accounts answer later) (Renews accounts name address salt password answer later))
    (MachineRefuses UserExists accounts answer later)

-- depending on the account that has the name, if one has
abbrev pub AddsUnder : Accounts → List ℕ → List ℕ → List ℕ → List ℕ → Option Account → Answer → Accounts → Type 0
AddsUnder accounts name address salt password None answer later = Adds accounts name address salt password answer later
AddsUnder accounts name address salt password (Some a) answer later = AddsOver accounts name address salt password a answer later

abbrev pub Addition : Accounts → List ℕ → List ℕ → List ℕ → List ℕ → Answer → Accounts → Type 0
Addition accounts name address salt password answer later =
    IfElse (IsNewUser name address password) (AddsUnder accounts name address salt password (get accounts name) answer later)
    (MachineRefuses BadUser accounts answer later)

-- ---- a whole account, as a text says it (`whole`)

-- an account of this text may be kept: its name is a user's, its password one that accounts have, its copies have no longer flags than a
-- delivery gives them, and what the text makes is sound
pub record IsImportable (head : AccountHead) (parts : List Part) : Type 0 where
  pub named : is_user_name head.owner.name ≡ true
  pub guarded : may_guard (password_of head) ≡ true
  pub flagged : have_short_flags parts ≡ true
  pub sound : IsSoundAccount (whole head parts empty)

-- it is there, as the text says
pub record Imports (accounts : Accounts) (head : AccountHead) (parts : List Part) (answer : Answer) (later : Accounts) : Type 0 where
  pub imported : answer ≡ Imported
  pub changed : later ≡ insert accounts head.owner.name (whole head parts empty)

-- it takes the place of a closed one, of whose moments of replies those stay that are later than the text's, or that the text lacks
pub record Replaces (accounts : Accounts) (head : AccountHead) (parts : List Part) (answer : Answer) (later : Accounts) : Type 0 where
  pub imported : answer ≡ Imported
  pub changed : later ≡ with_user accounts head.owner.name (takes_whole head parts)

-- over an account that has the name: one that is open stays, and so does one that is closed and has mail, so that nobody's mail is lost
abbrev pub ImportsOver : Accounts → AccountHead → List Part → Account → Answer → Accounts → Type 0
ImportsOver accounts head parts a answer later =
    MatchBool (is_closed_account a)
    (MatchBool (has_mail a) (MachineRefuses UserHasMail accounts answer later) (Replaces accounts head parts answer later))
    (MachineRefuses UserExists accounts answer later)

-- depending on the account that has the name, if one has
abbrev pub ImportsUnder : Accounts → AccountHead → List Part → Option Account → Answer → Accounts → Type 0
ImportsUnder accounts head parts None answer later = Imports accounts head parts answer later
ImportsUnder accounts head parts (Some a) answer later = ImportsOver accounts head parts a answer later

-- an account comes as a text: BadAccount, UserExists, UserHasMail, or the account of the text
abbrev pub Importing : Accounts → AccountHead → List Part → Answer → Accounts → Type 0
Importing accounts head parts answer later =
    IfElse (IsImportable head parts) (ImportsUnder accounts head parts (get accounts head.owner.name) answer later)
    (MachineRefuses BadAccount accounts answer later)

-- ---- a row taken out of the queue

-- the row is returned, and no longer queued; its number isn't used again
pub record Takes (accounts : Accounts) (user : List ℕ) (row : QueuedMessage) (answer : Answer) (later : Accounts) : Type 0 where
  pub taken : answer ≡ Taken row
  pub changed : later ≡ with_user accounts user (takes_out row.id)

abbrev pub TakesQueueRow : Accounts → List ℕ → Option QueuedMessage → Answer → Accounts → Type 0
TakesQueueRow accounts user None answer later = MachineRefuses NoRow accounts answer later
TakesQueueRow accounts user (Some row) answer later = Takes accounts user row answer later

abbrev pub TakesFromQueue : Accounts → List ℕ → ℕ → Option Account → Answer → Accounts → Type 0
TakesFromQueue accounts user id None answer later = MachineRefuses NoUser accounts answer later
TakesFromQueue accounts user id (Some a) answer later = TakesQueueRow accounts user (row_with id a.queue) answer later

-- a row is taken out of the queue: NoUser, NoRow, or it leaves
abbrev pub Taking : Accounts → List ℕ → ℕ → Answer → Accounts → Type 0
Taking accounts user id answer later = TakesFromQueue accounts user id (open_account_of accounts user) answer later

-- ---- a message taken out of a folder

-- the first message leaves the folder, which disappears with its last one
pub record LosesMail (accounts : Accounts) (user folder : List ℕ) (answer : Answer) (later : Accounts) : Type 0 where
  pub taken : answer ≡ MailTaken
  pub changed : later ≡ with_user accounts user (takes_mail folder 1)

-- depending on the messages that the folder has
abbrev pub TakesFirst : Accounts → List ℕ → List ℕ → List (List ℕ) → Answer → Accounts → Type 0
TakesFirst accounts user folder [] answer later = MachineRefuses NoRow accounts answer later
TakesFirst accounts user folder (message ∷ more) answer later = LosesMail accounts user folder answer later

abbrev pub TakesMailIn : Accounts → List ℕ → List ℕ → Option Account → Answer → Accounts → Type 0
TakesMailIn accounts user folder None answer later = MachineRefuses NoUser accounts answer later
TakesMailIn accounts user folder (Some a) answer later = TakesFirst accounts user folder (messages_in a.folders folder) answer later

-- a folder's first message is taken out: NoUser, NoRow, or it leaves
abbrev pub MailTaking : Accounts → List ℕ → List ℕ → Answer → Accounts → Type 0
MailTaking accounts user folder answer later = TakesMailIn accounts user folder (open_account_of accounts user) answer later
