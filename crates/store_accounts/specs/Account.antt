-- What a store keeps of its users, without its tables.
use Rattle.std.specs.Prelude.{◌++◌, ◌-◌, ◌==◌, ◌&&◌, ◌||◌, ℕ, suc, max, Bool, cond, not, nat_lt, List, [], ◌∷◌, drop, fold, filter, length, Option, Some, None, unwrap_or, option_map, if◌then◌else◌}
use Rattle.std.specs.declared.cmp.Ordering.{Ordering}
use Rattle.std.specs.FinMap.{FinMap, empty, get, insert, remove, len}
use Rattle.std.specs.List.{find}
use Rattle.std.specs.Ordering.{nat_cmp, on, then_cmp, is_eq}
use Rattle.octets.specs.Ascii.{lowered}
use Rattle.std.specs.Cmp.Lexicographic.{slice_cmp}
use Rattle.mail_flags.specs.declared.placement.Placement.{Placement}
use Rattle.store_tables.specs.declared.queue.QueuedKind.{QueuedKind}
use Rattle.store_tables.specs.declared.queue.QueuedKind.TheVariants as kind
use Rattle.store_accounts.specs.declared.queue.QueuedMessage.{QueuedMessage}
use Rattle.store_accounts.specs.declared.notice.Notice.{Notice}
use Rattle.store_accounts.specs.declared.reply.ReplyKey.{ReplyKey}
use Rattle.store_accounts.specs.declared.report.SentMemory.{SentMemory}
use Rattle.store_accounts.specs.declared.report.VacationReply.{VacationReply}
use Rattle.store_accounts.specs.declared.report.Plan.{Plan}

-- the order of octets
abbrev pub bytes_cmp : List ℕ → List ℕ → Ordering
bytes_cmp = slice_cmp nat_cmp

-- by the key of the handle, and then by the sender
abbrev pub reply_cmp : List ℕ × List ℕ → List ℕ × List ℕ → Ordering
reply_cmp = then_cmp (on (λ k. k.0) bytes_cmp) (on (λ k. k.1) bytes_cmp)

-- what a password is tested against
pub record Password : Type 0 where
  pub salt : List ℕ
  pub rounds : ℕ
  pub digest : List ℕ

abbrev pub Scripts : Type 0
Scripts = FinMap bytes_cmp (List ℕ)

-- to each name the messages in the order in which they came
abbrev pub Folders : Type 0
Folders = FinMap bytes_cmp (List (List ℕ))

-- to the key of a handle and a sender in lower case the moment of the last reply
abbrev pub ReplyMoments : Type 0
ReplyMoments = FinMap reply_cmp ℕ

-- one user's account
pub record Account : Type 0 where
  pub address : List ℕ
  pub password : Password
  pub scripts : Scripts
  pub active : Option (List ℕ)
  pub folders : Folders
  -- to each folder's name the flags of its messages, as the text that names them, in the same order
  pub flags : Folders
  pub queue : List QueuedMessage
  pub replies : ReplyMoments
  pub notices : List Notice
  -- the number of the next message on its way out
  pub next_out : ℕ

-- the accounts, by the names of their users
abbrev pub Accounts : Type 0
Accounts = FinMap bytes_cmp Account

-- there is no account
abbrev pub no_accounts : Accounts
no_accounts = empty

-- ---- open, closed and removed accounts

-- a closed account's password has no rounds; its salt and its digest stay
abbrev pub is_closed_account : Account → Bool
is_closed_account a = a.password.rounds == 0

-- a removed account is a closed one without a digest
abbrev pub is_removed : Account → Bool
is_removed a = is_closed_account a && length a.password.digest == 0

-- the account, where it is open
abbrev pub open_one : Option Account → Option Account
open_one None = None
open_one (Some a) = cond (is_closed_account a) None (Some a)

-- the account, where it is open or closed and not removed
abbrev pub known_one : Option Account → Option Account
known_one None = None
known_one (Some a) = cond (is_removed a) None (Some a)

-- the user's open account
abbrev pub open_account_of : Accounts → List ℕ → Option Account
open_account_of accounts user = open_one (get accounts user)

-- a message is in a folder, or on its way out
abbrev pub has_mail : Account → Bool
has_mail a = not (len a.folders == 0) || not (length a.queue == 0)

-- ---- what each write makes of an account

-- an account that was just made
abbrev pub new_account : List ℕ → Password → Account
new_account address password = record {
  address = address;
  password = password;
  scripts = empty;
  active = None;
  folders = empty;
  flags = empty;
  queue = [];
  replies = empty;
  notices = [];
  next_out = 1;
}

-- the script is kept under its name, in place of one that has it
abbrev pub keeps_script : List ℕ → List ℕ → Account → Account
keeps_script name text a = record a { scripts = insert a.scripts name text }

-- another script is active, or none
abbrev pub activates : Option (List ℕ) → Account → Account
activates name a = record a { active = name }

-- one name in place of another
abbrev pub other_name : List ℕ → List ℕ → List ℕ → List ℕ
other_name name other active = if is_eq (bytes_cmp active name) then other else active

abbrev pub moved : Scripts → List ℕ → List ℕ → Option (List ℕ) → Scripts
moved scripts name other None = scripts
moved scripts name other (Some text) = insert (remove scripts name) other text

-- a script's text under another name
abbrev pub renamed : List ℕ → List ℕ → Scripts → Scripts
renamed name other scripts = moved scripts name other (get scripts name)

-- the messages of a folder, none where it is absent
abbrev pub messages_in : Folders → List ℕ → List (List ℕ)
messages_in folders name = unwrap_or (get folders name) []

-- the flags of a folder's messages, none where it is absent
abbrev pub folder_flags : Folders → List ℕ → List (List ℕ)
folder_flags = messages_in

-- a message joins the end of its folder; its flags join those of the folder in the same way
abbrev pub filed : Folders → List ℕ → List ℕ → Folders
filed folders name message = insert folders name (messages_in folders name ++ message ∷ [])

-- of each copy this joins its folder in turn
abbrev pub filed_in : (Placement → List ℕ) → Folders → List Placement → Folders
filed_in what = fold (λ folders copy. filed folders copy.mailbox (what copy))

-- the message joins each of the mailboxes in turn, with the flags of the copy there
abbrev pub files_copies : List Placement → List ℕ → Account → Account
files_copies copies message a = record a { folders = filed_in (λ copy. message) a.folders copies; flags = filed_in (λ copy. copy.flags) a.flags copies }

-- the script has another name, which was free; it stays active where it was
abbrev pub renames_script : List ℕ → List ℕ → Account → Account
renames_script name other a = record a { scripts = renamed name other a.scripts; active = option_map (other_name name other) a.active }

-- the script is no longer kept
abbrev pub deletes_script : List ℕ → Account → Account
deletes_script name a = record a { scripts = remove a.scripts name }

-- a message joins the queue, with the account's next number
abbrev pub queues : QueuedKind → List ℕ → List ℕ → List ℕ → Account → Account
queues kind sender target message a = record a {
  queue = a.queue ++ record { id = a.next_out; kind = kind; sender = sender; target = target; message = message } ∷ [];
  next_out = suc a.next_out;
}

-- the row of the queue with the number, if there is one
abbrev pub row_with : ℕ → List QueuedMessage → Option QueuedMessage
row_with id rows = find (λ row. row.id == id) rows

-- how many rows of a user's queue wait at most
abbrev pub max_waiting : ℕ
max_waiting = 1000

-- how many more may join it
abbrev pub room_in : Account → ℕ
room_in a = max_waiting - length a.queue

-- the row with the number leaves the queue; the number is not used again
abbrev pub takes_out : ℕ → Account → Account
takes_out id a = record a { queue = filter (λ out. not (out.id == id)) a.queue }

-- these are the folder's messages, or their flags; a folder without messages doesn't exist
abbrev pub holding : Folders → List ℕ → List (List ℕ) → Folders
holding folders name [] = remove folders name
holding folders name (message ∷ more) = insert folders name (message ∷ more)

-- the first k leave the folder
abbrev pub left_in : Folders → List ℕ → ℕ → Folders
left_in folders folder k = holding folders folder (drop k (messages_in folders folder))

-- the first k messages leave the folder with their flags, and it goes with its last one; their numbers are not used again
abbrev pub takes_mail : List ℕ → ℕ → Account → Account
takes_mail folder k a = record a { folders = left_in a.folders folder k; flags = left_in a.flags folder k }

-- of the moment that is kept, if one is, and another one the later is kept, so that none is forgotten
abbrev pub latest : Option ℕ → ℕ → ℕ
latest None moment = moment
latest (Some last) moment = max last moment

-- the moment of the last reply to the sender is kept, under the key of its handle
abbrev pub remembers : List ℕ → List ℕ → ℕ → Account → Account
remembers handle sender moment a = record a { replies = insert a.replies (handle, lowered sender) moment }

-- a moment is kept under just this key
abbrev pub keeps_moment : List ℕ × List ℕ → ℕ → Account → Account
keeps_moment key moment a = record a { replies = insert a.replies key moment }

-- the moment is kept of the message under each of these handles' keys
abbrev pub keeps_sent : List ℕ → ℕ → List (List ℕ) → Account → Account
keeps_sent message moment handles a = fold (λ b handle. keeps_moment (handle, message) moment b) a handles

-- what is kept under these keys is forgotten
abbrev pub forgets : List ReplyKey → Account → Account
forgets keys a = record a { replies = fold (λ kept key. remove kept (key.handle, key.sender)) a.replies keys }

-- what is over is forgotten, and the moment is kept of the message under these handles' keys
abbrev pub remembers_sent : SentMemory → ℕ → Account → Account
remembers_sent memory moment a = keeps_sent memory.message moment memory.handles (forgets memory.forgotten a)

-- a notice joins the others
abbrev pub adds_notice : ℕ → List ℕ → Account → Account
adds_notice moment text a = record a { notices = a.notices ++ record { moment = moment; text = text } ∷ [] }

-- ---- an account that is kept up

-- another address
abbrev pub changes_address : List ℕ → Account → Account
changes_address address a = record a { address = address }

-- another password
abbrev pub changes_password : Password → Account → Account
changes_password password a = record a { password = password }

-- the password has that many rounds: none closes the account, and takes nothing away
abbrev pub with_password_rounds : ℕ → Account → Account
with_password_rounds rounds a = record a { password = record a.password { rounds = rounds } }

abbrev pub closes : Account → Account
closes = with_password_rounds 0

abbrev pub opens : ℕ → Account → Account
opens = with_password_rounds

-- the script is kept and is the active one
abbrev pub keeps_active : List ℕ → List ℕ → Account → Account
keeps_active name text a = activates (Some name) (keeps_script name text a)

-- the notices up to a moment go; the others stay in their order
abbrev pub takes_notices : ℕ → Account → Account
takes_notices until a = record a { notices = filter (λ n. nat_lt until n.moment) a.notices }

-- scripts, messages, queue and notices go; what stays is the address, the password, the moments of replies and the numbers
abbrev pub empties : Account → Account
empties a = record a { scripts = empty; active = None; folders = empty; flags = empty; queue = []; notices = [] }

-- the same, and it is closed under this salt and this digest
abbrev pub empties_under : List ℕ → List ℕ → Account → Account
empties_under salt digest a = changes_password (record { salt = salt; rounds = 0; digest = digest }) (empties a)

-- the account is closed, and all of it goes but its address, the moments of replies and the numbers
abbrev pub removes : Account → Account
removes = empties_under [] []

-- a new account over the moments of replies and the numbers of one that was there
abbrev pub renews : List ℕ → Password → Account → Account
renews address password a = changes_password password (changes_address address (empties a))

-- ---- a delivery

-- the message goes on to each of the addresses in turn, from its sender
abbrev pub sends_on : List ℕ → List ℕ → List (List ℕ) → Account → Account
sends_on sender message targets a = fold (λ b target. queues kind.Redirect sender target message b) a targets

-- a reply of its own octets joins the queue for the sender, from the empty sender, and its moment is kept under its handle
abbrev pub replies_if_any : List ℕ → Option VacationReply → Account → Account
replies_if_any sender None a = a
replies_if_any sender (Some reply) a = remembers reply.handle sender reply.moment (queues kind.Reply [] sender reply.message a)

abbrev pub adds_notice_if_any : ℕ → Option (List ℕ) → Account → Account
adds_notice_if_any moment None a = a
adds_notice_if_any moment (Some text) a = adds_notice moment text a

-- the message joins the end of each mailbox with its flags there and goes on to each address, which is remembered, the reply is sent and remembered, and the
-- notice joins the others
abbrev pub delivers : Plan → Account → Account
delivers plan a =
    adds_notice_if_any plan.moment plan.report.notice
    (replies_if_any plan.sender.now plan.reply
    (remembers_sent plan.memory plan.moment
    (sends_on plan.sender.now plan.message.now plan.report.sent (files_copies plan.filed plan.message.now a))))

-- ---- accounts by name

-- an account that was just made joins the others
abbrev pub new_user : List ℕ → List ℕ → List ℕ → ℕ → List ℕ → Accounts → Accounts
new_user name address salt rounds digest accounts = insert accounts name (new_account address (record { salt = salt; rounds = rounds; digest = digest }))

abbrev pub in_place : Accounts → List ℕ → (Account → Account) → Option Account → Accounts
in_place accounts user change None = accounts
in_place accounts user change (Some a) = insert accounts user (change a)

-- one user's account is changed, and no other
abbrev pub with_user : Accounts → List ℕ → (Account → Account) → Accounts
with_user accounts user change = in_place accounts user change (get accounts user)
