-- What one user does and is answered among all events, and the machine of one user's account alone.
use Rattle.std.specs.Prelude.{◌≡◌, ℕ, Bool, true, false, cond, nat_eq, List, [], ◌∷◌, ◌++◌, Option, Some, None, option_map, codes, MatchBool}
use Rattle.std.specs.Cmp.Lexicographic.{pointwise}
use Rattle.std.specs.FinMap.{empty, get}
use Rattle.std.specs.Ordering.{is_eq}
use Rattle.store_text.specs.declared.head.AccountHead.{AccountHead}
use Rattle.store_text.specs.declared.part.Part.{Part}
use Rattle.managesieve_protocol.specs.declared.commands.ClientCommand.{ClientCommand}
use Rattle.managesieve_protocol.specs.declared.commands.ClientCommand.TheVariants.{Unauthenticate, CheckScript}
use Rattle.managesieve_protocol.specs.declared.items.ClientItem.{ClientItem}
use Rattle.managesieve_protocol.specs.declared.items.ClientItem.TheVariants as item
use Rattle.managesieve_protocol.specs.declared.replies.ServerReply.{ServerReply}
use Rattle.managesieve_protocol.specs.Replies.{reply_octets}
use Rattle.sasl_plain.specs.Parts.{login_of}
use Rattle.sieve_exec.specs.declared.envelope.Envelope.{Envelope}
use Rattle.store_accounts.specs.Account.{bytes_cmp, Account, is_closed_account, open_one, has_mail, renews, messages_in, new_account, takes_out, takes_mail}
use Rattle.store_accounts.specs.Whole.{whole, takes_whole}
use Rattle.store_accounts.specs.declared.queue.QueuedMessage.{QueuedMessage}
use Rattle.store_accounts.specs.declared.report.Report.{Report}
use Rattle.store_accounts.specs.declared.refusal.Refusal.{Refusal}
use Rattle.store_accounts.specs.declared.refusal.Refusal.TheVariants.{Memory, Store, NoUser, UserExists, BadUser, NoRow, UserHasMail, BadAccount}
use Rattle.managesieve_sessions.specs.Clients.{Client, item_in}
use Rattle.managesieve_sessions.specs.Logins.{has_password}
use Rattle.managesieve_sessions.specs.Replies.{ok_reply, done_reply}
use Rattle.managesieve_sessions.specs.Scripts.{IfElse, RepliesToCheck, obeyed}
use Rattle.managesieve_sessions.specs.Table.{needs_login, RepliesOf}
use Rattle.managesieve_sessions.specs.CommandOutcomes.{login_text}
use Rattle.store_engine.specs.declared.event.Event.{Event}
use Rattle.store_engine.specs.declared.event.Event.TheVariants.{Step, Deliver, AddUser, Import, TakeOut, TakeMail, DoUpkeep}
use Rattle.store_engine.specs.declared.answer.Answer.{Answer}
use Rattle.store_engine.specs.declared.answer.Answer.TheVariants.{Out, Delivered, Added, Imported, Taken, MailTaken, Refused}
use Rattle.store_engine.specs.Limits.{limit_refusal, IsNewUser}
use Rattle.store_accounts.specs.Account.{row_with}
use Rattle.store_engine.specs.AccountEvents.{MachineRefuses, DeliversTo, absence, IsImportable}
use Rattle.store_engine.specs.declared.upkeep.Upkeep.{Upkeep}
use Rattle.store_engine.specs.Upkeep.{kept_password, KeepingAlone}
use Rattle.store_engine.specs.declared.terms.Terms.{Terms}
use Rattle.store_engine.specs.World.{World, Runs}

-- ---- acts

-- an act of one user, with its answer: it has nothing of tables, of sessions or of other accounts
pub data UserAct : Type 0 where
  -- a command of a session in which the user is logged in, and the octets that answer it
  Commands : ClientCommand → List ℕ → UserAct
  -- a login that names the user: its password, and whether it succeeds
  LogsIn : List ℕ → Bool → UserAct
  -- a message comes, with its envelope and its terms
  Receives : Envelope → List ℕ → Terms → Answer → UserAct
  -- the user is to be added, with an address, a salt and a password
  Joins : List ℕ → List ℕ → List ℕ → Answer → UserAct
  -- the account of a text is to be made under the user's name
  IsImported : AccountHead → List Part → Answer → UserAct
  -- a row of the queue is to be taken out
  TakesOut : ℕ → Answer → UserAct
  -- the first message of a folder is to be taken out
  TakesMail : List ℕ → Answer → UserAct
  -- an administrator does something to the account
  IsKept : Upkeep → Answer → UserAct

-- ---- the machine of one account: there is one, open or closed, or there is none

-- what is answered to a command of the user; two of them need no account, and each of the others is early if the account isn't open
abbrev pub RepliesAlone : Option Account → ClientCommand → ServerReply → Type 0
RepliesAlone account Unauthenticate reply = reply ≡ done_reply
RepliesAlone account (CheckScript text) reply = RepliesToCheck text reply
RepliesAlone account command reply = RepliesOf (open_one account) command reply

-- a command is answered by a reply of its row, and the account becomes what the reply's status says
pub record CommandsAlone (account : Option Account) (command : ClientCommand) (octets : List ℕ) (later : Option Account) : Type 0 where
  pub reply : ServerReply
  pub replies : RepliesAlone account command reply
  pub spells : octets ≡ reply_octets reply
  pub changed : later ≡ option_map (obeyed command reply.word) account

-- whether the password is that of the open account
abbrev pub admits : List ℕ → Option Account → Bool
admits password None = false
admits password (Some a) = has_password password a.password

pub record LogsInAlone (account : Option Account) (password : List ℕ) (succeeds : Bool) (later : Option Account) : Type 0 where
  pub says : succeeds ≡ admits password (open_one account)
  pub stays : later ≡ account

-- a message that no limit forbids is delivered to the account
pub record ReceivesAlone (envelope : Envelope) (message : List ℕ) (terms : Terms) (a : Account) (answer : Answer) (later : Option Account) : Type 0 where
  pub report : Report
  pub after : Account
  pub delivers : DeliversTo terms envelope message a report after
  pub says : answer ≡ Delivered report
  pub changed : later ≡ Some after

-- depending on the open account, if there is one
abbrev pub ReceivesOpen : Option Account → Option Account → Envelope → List ℕ → Terms → Answer → Option Account → Type 0
ReceivesOpen account None envelope message terms answer later = MachineRefuses (absence account) account answer later
ReceivesOpen account (Some a) envelope message terms answer later = ReceivesAlone envelope message terms a answer later

abbrev pub ReceivesIn : Option Refusal → Option Account → Envelope → List ℕ → Terms → Answer → Option Account → Type 0
ReceivesIn (Some refusal) account envelope message terms answer later = MachineRefuses refusal account answer later
ReceivesIn None account envelope message terms answer later = ReceivesOpen account (open_one account) envelope message terms answer later

-- the account of a user who was just added
abbrev pub fresh_account : List ℕ → List ℕ → List ℕ → Account
fresh_account address salt password = new_account address (kept_password salt password)

pub record JoinsAlone (address salt password : List ℕ) (answer : Answer) (later : Option Account) : Type 0 where
  pub says : answer ≡ Added
  pub changed : later ≡ Some (fresh_account address salt password)

-- a closed account is opened again over what it remembers
pub record RenewsAlone (a : Account) (address salt password : List ℕ) (answer : Answer) (later : Option Account) : Type 0 where
  pub says : answer ≡ Added
  pub changed : later ≡ Some (renews address (kept_password salt password) a)

abbrev pub JoinsOver : Account → List ℕ → List ℕ → List ℕ → Answer → Option Account → Type 0
JoinsOver a address salt password answer later =
    MatchBool (is_closed_account a)
    (MatchBool (has_mail a) (MachineRefuses UserHasMail (Some a) answer later) (RenewsAlone a address salt password answer later))
    (MachineRefuses UserExists (Some a) answer later)

abbrev pub JoinsIn : Option Account → List ℕ → List ℕ → List ℕ → Answer → Option Account → Type 0
JoinsIn None address salt password answer later = JoinsAlone address salt password answer later
JoinsIn (Some a) address salt password answer later = JoinsOver a address salt password answer later

pub record ImportsAlone (head : AccountHead) (parts : List Part) (answer : Answer) (later : Option Account) : Type 0 where
  pub says : answer ≡ Imported
  pub changed : later ≡ Some (whole head parts empty)

-- over a closed account: of the moments of replies the later ones stay
pub record ReplacesAlone (a : Account) (head : AccountHead) (parts : List Part) (answer : Answer) (later : Option Account) : Type 0 where
  pub says : answer ≡ Imported
  pub changed : later ≡ Some (takes_whole head parts a)

abbrev pub ImportsOverAlone : Account → AccountHead → List Part → Answer → Option Account → Type 0
ImportsOverAlone a head parts answer later =
    MatchBool (is_closed_account a)
    (MatchBool (has_mail a) (MachineRefuses UserHasMail (Some a) answer later) (ReplacesAlone a head parts answer later))
    (MachineRefuses UserExists (Some a) answer later)

abbrev pub ImportsIn : Option Account → AccountHead → List Part → Answer → Option Account → Type 0
ImportsIn None head parts answer later = ImportsAlone head parts answer later
ImportsIn (Some a) head parts answer later = ImportsOverAlone a head parts answer later

pub record TakesAlone (a : Account) (row : QueuedMessage) (answer : Answer) (later : Option Account) : Type 0 where
  pub says : answer ≡ Taken row
  pub changed : later ≡ Some (takes_out row.id a)

abbrev pub TakesRowAlone : Account → Option QueuedMessage → Answer → Option Account → Type 0
TakesRowAlone a None answer later = MachineRefuses NoRow (Some a) answer later
TakesRowAlone a (Some row) answer later = TakesAlone a row answer later

-- depending on the open account, if there is one
abbrev pub TakesOpen : Option Account → Option Account → ℕ → Answer → Option Account → Type 0
TakesOpen account None id answer later = MachineRefuses NoUser account answer later
TakesOpen account (Some a) id answer later = TakesRowAlone a (row_with id a.queue) answer later

abbrev pub TakesAloneIn : Option Account → ℕ → Answer → Option Account → Type 0
TakesAloneIn account id answer later = TakesOpen account (open_one account) id answer later

pub record TakesMailAlone (a : Account) (folder : List ℕ) (answer : Answer) (later : Option Account) : Type 0 where
  pub says : answer ≡ MailTaken
  pub changed : later ≡ Some (takes_mail folder 1 a)

abbrev pub TakesFirstAlone : Account → List ℕ → List (List ℕ) → Answer → Option Account → Type 0
TakesFirstAlone a folder [] answer later = MachineRefuses NoRow (Some a) answer later
TakesFirstAlone a folder (message ∷ more) answer later = TakesMailAlone a folder answer later

-- depending on the open account, if there is one
abbrev pub TakesMailOpen : Option Account → Option Account → List ℕ → Answer → Option Account → Type 0
TakesMailOpen account None folder answer later = MachineRefuses NoUser account answer later
TakesMailOpen account (Some a) folder answer later = TakesFirstAlone a folder (messages_in a.folders folder) answer later

abbrev pub TakesMailAloneIn : Option Account → List ℕ → Answer → Option Account → Type 0
TakesMailAloneIn account folder answer later = TakesMailOpen account (open_one account) folder answer later

-- an act of the user with this name turns the account into that
abbrev pub ActsAlone : List ℕ → Option Account → UserAct → Option Account → Type 0
ActsAlone user account (Commands command octets) later = CommandsAlone account command octets later
ActsAlone user account (LogsIn password succeeds) later = LogsInAlone account password succeeds later
ActsAlone user account (Receives envelope message terms answer) later =
    ReceivesIn (limit_refusal envelope message terms.when.moment) account envelope message terms answer later
ActsAlone user account (Joins address salt password answer) later =
    IfElse (IsNewUser user address password) (JoinsIn account address salt password answer later) (MachineRefuses BadUser account answer later)
ActsAlone user account (IsImported head parts answer) later =
    IfElse (IsImportable head parts) (ImportsIn account head parts answer later) (MachineRefuses BadAccount account answer later)
ActsAlone user account (TakesOut id answer) later = TakesAloneIn account id answer later
ActsAlone user account (TakesMail folder answer) later = TakesMailAloneIn account folder answer later
ActsAlone user account (IsKept upkeep answer) later = KeepingAlone account upkeep answer later

-- acts in order, from one account or none
abbrev pub ActsInTurn : List ℕ → Option Account → List UserAct → Option Account → Type 0
ActsInTurn user account [] end = end ≡ account
ActsInTurn user account (act ∷ user_acts) end = (later : Option Account) × ActsAlone user account act later × ActsInTurn user later user_acts end

-- ---- which acts are a user's

abbrev pub is_user : List ℕ → List ℕ → Bool
is_user user name = is_eq (bytes_cmp user name)

-- the act, if it is this user's
abbrev pub when_of : List ℕ → Option (List ℕ) → UserAct → List UserAct
when_of user None act = []
when_of user (Some name) act = cond (is_user user name) (act ∷ []) []

-- the answer to a login that succeeds
abbrev pub welcome : List ℕ
welcome = reply_octets (ok_reply (codes "Logged in."))

abbrev pub is_welcome : List ℕ → Bool
is_welcome octets = pointwise nat_eq octets welcome

-- a login in a text, if there is one
abbrev pub login_acts : List ℕ → Option (List ℕ × List ℕ) → List ℕ → List UserAct
login_acts user None octets = []
login_acts user (Some login) octets = when_of user (Some login.0) (LogsIn login.1 (is_welcome octets))

abbrev pub text_acts : List ℕ → Option (List ℕ) → List ℕ → List UserAct
text_acts user None octets = []
text_acts user (Some text) octets = login_acts user (login_of text) octets

-- a command that needs a login is an act of the user who is logged in; another one may be a login
abbrev pub command_acts : List ℕ → Client → ClientCommand → List ℕ → List UserAct
command_acts user c command octets =
    cond (needs_login command) (when_of user c.user (Commands command octets)) (text_acts user (login_text c.user command) octets)

abbrev pub item_acts : List ℕ → Client → ClientItem → List ℕ → List UserAct
item_acts user c (item.Command command used) octets = command_acts user c command octets
item_acts user c _ octets = []

abbrev pub step_acts : List ℕ → Option Client → Answer → List UserAct
step_acts user (Some c) (Out progress octets) = cond c.closed [] (item_acts user c (item_in c) octets)
step_acts user _ answer = []

-- whether an answer is a refusal for lack of memory or by the store
abbrev pub is_lost : Answer → Bool
is_lost (Refused Memory) = true
is_lost (Refused Store) = true
is_lost answer = false

-- the acts of the user in one event, by the sessions that there are
abbrev pub event_acts : List ℕ → World → Event → Answer → List UserAct
event_acts user w (Step s) answer = step_acts user (get w.sessions s) answer
event_acts user w (Deliver name envelope message terms) answer = when_of user (Some name) (Receives envelope message terms answer)
event_acts user w (AddUser name address salt password) answer = when_of user (Some name) (Joins address salt password answer)
event_acts user w (Import file) answer = when_of user (Some file.head.owner.name) (IsImported file.head file.parts answer)
event_acts user w (TakeOut name id) answer = when_of user (Some name) (TakesOut id answer)
event_acts user w (TakeMail name folder) answer = when_of user (Some name) (TakesMail folder answer)
event_acts user w (DoUpkeep name upkeep) answer = when_of user (Some name) (IsKept upkeep answer)
event_acts user w event answer = []

-- the acts of the user in one event; none if it was lost, which changes nothing
abbrev pub acts_in : List ℕ → World → Event → Answer → List UserAct
acts_in user w event answer = cond (is_lost answer) [] (event_acts user w event answer)

-- the acts of the user along a run
abbrev pub user_acts : List ℕ → (w : World) (events : List Event) (told : List Answer) (end : World) → Runs w events told end → List UserAct
user_acts user w [] [] end run = []
user_acts user w (event ∷ events) (answer ∷ told) end run = acts_in user w event answer ++ user_acts user run.0 events told end run.2
user_acts user w [] (answer ∷ told) end run = []
user_acts user w (event ∷ events) [] end run = []

-- each user's account at the end of a run is what the user's acts make of the one at the start, and each answer among them is allowed
abbrev pub IsAlone : (w : World) (events : List Event) (told : List Answer) (end : World) → Runs w events told end → Type 0
IsAlone w events told end run = (user : List ℕ) → ActsInTurn user (get w.accounts user) (user_acts user w events told end run) (get end.accounts user)
