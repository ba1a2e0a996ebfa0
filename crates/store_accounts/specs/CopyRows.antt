-- What rows show of the copies of a user's messages, which make up the folders, and what is read of them.
use Rattle.std.specs.Prelude.{◌≡◌, ◌≤◌, ◌==◌, ◌&&◌, Bool, not, ℕ, ℤ, pos, List, [], ◌∷◌, filter, fold, map, Option, option_map, slice_get}
use Rattle.std.specs.List.{AllByRecursion, list_any}
use Rattle.std.specs.FinMap.{empty}
use Rattle.std.specs.Ordering.{is_eq}
use Rattle.sqlite_value.specs.declared.value.Value.TheVariants.{Int, Blob}
use Rattle.sqlite_value.specs.Order.{Row}
use Rattle.sqlite_rules.specs.Lists.{Has}
use Rattle.store_tables.specs.CopyTable.{copy_cells}
use Rattle.store_accounts.specs.Account.{bytes_cmp, Account, Folders, messages_in, folder_flags, filed}
use Rattle.store_accounts.specs.declared.filing.Filing.{Filing}
use Rattle.store_accounts.specs.declared.taking.Leaving.{Leaving}
use Rattle.store_accounts.specs.declared.taking.NumberedMessage.{NumberedMessage}
use Rattle.store_accounts.specs.Numbers.{AreNumbered}
use Rattle.store_accounts.specs.MessageRows.{Message, message_row}

-- ---- what rows show

-- a copy in a folder, with its number, the message that it is a copy of, and its own flags
pub record Copy : Type 0 where
  pub folder : List ℕ
  pub n : ℕ
  pub id : ℕ
  pub message : List ℕ
  -- the text that names its flags
  pub flags : List ℕ

abbrev pub copy_row : List ℕ → Copy → Row
copy_row user copy = copy_cells user copy.folder (pos copy.n) (pos copy.id) copy.flags

-- a copy without flags
abbrev pub IsUnflagged : Copy → Type 0
IsUnflagged copy = copy.flags ≡ []

abbrev pub message_of : Copy → Message
message_of copy = record { id = copy.id; bytes = copy.message }

-- for each folder what the copies have in it, in the order of their numbers
abbrev pub filed_from : (Copy → List ℕ) → List Copy → Folders
filed_from what = fold (λ folders copy. filed folders copy.folder (what copy)) empty

-- the folders that the copies make, and the flags of the messages there
abbrev pub folders_from : List Copy → Folders
folders_from = filed_from (λ copy. copy.message)

abbrev pub flags_from : List Copy → Folders
flags_from = filed_from (λ copy. copy.flags)

-- the message has a copy
abbrev pub HasCopy : List Copy → Message → Type 0
HasCopy copies m = (c : Copy) × Has copies c × (c.id ≡ m.id)

-- each copy's message is kept, and each message that is kept has a copy; its number is that of its first copy, which may be gone
pub record AreKept (copies : List Copy) (messages : List Message) : Type 0 where
  pub present : AllByRecursion (λ c. Has messages (message_of c)) copies
  pub used : AllByRecursion (HasCopy copies) messages
  pub first : AllByRecursion (λ c. c.id ≤ c.n) copies

-- the rows are those of the user's copies and of their messages: a folder is the list of its copies in the order of their numbers, and there is no
-- folder without copies
pub record ShowsCopies (user : List ℕ) (rows message_rows : List Row) (folders flags : Folders) (next : ℕ) : Type 0 where
  pub entries : List Copy
  pub messages : List Message
  pub numbered : AreNumbered (λ c. c.n) (copy_row user) rows entries next
  pub stored : AreNumbered (λ m. m.id) (message_row user) message_rows messages next
  pub kept : AreKept entries messages
  pub shown : folders ≡ folders_from entries
  pub shown_flags : flags ≡ flags_from entries

-- the copy is in the folder
abbrev pub is_in : List ℕ → Copy → Bool
is_in folder c = is_eq (bytes_cmp c.folder folder)

-- those in the folder, in their order
abbrev pub copies_in : List ℕ → List Copy → List Copy
copies_in folder copies = filter (is_in folder) copies

-- ---- what is read of them

-- the place of a copy, its number, its message's and its flags
abbrev pub filing_of : Copy → Filing
filing_of c = record { folder = c.folder; n = c.n; id = c.id; flags = c.flags }

-- what the query for the copies shows of one
abbrev pub filing_cells : Filing → Row
filing_cells f = Blob f.folder ∷ Int (pos f.n) ∷ Int (pos f.id) ∷ Blob f.flags ∷ []

-- it is another copy of the same message
abbrev pub is_other_copy : Filing → Copy → Bool
is_other_copy f c = c.id == f.id && not (c.n == f.n)

-- a copy that leaves, among all of the user's
abbrev pub leaving_of : List Copy → Copy → Leaving
leaving_of copies c = record { copy = filing_of c; is_shared = list_any (is_other_copy (filing_of c)) copies }

-- a copy's message, with the copy's number and flags
abbrev pub numbered_of : Copy → NumberedMessage
numbered_of c = record { number = c.n; message = c.message; flags = c.flags }

-- it is the first of the messages, or none if there is none
abbrev pub HasFirst : Option NumberedMessage → List (List ℕ) → Type 0
HasFirst first messages = option_map (λ m. m.message) first ≡ slice_get messages 0

-- its flags are the first of these, or there are none if it is none
abbrev pub HasFirstFlags : Option NumberedMessage → List (List ℕ) → Type 0
HasFirstFlags first flags = option_map (λ m. m.flags) first ≡ slice_get flags 0

-- it is the first message of the account's folder, with its flags there, or none if the folder is absent
pub record IsFirstIn (folder : List ℕ) (first : Option NumberedMessage) (a : Account) : Type 0 where
  pub message : HasFirst first (messages_in a.folders folder)
  pub flags : HasFirstFlags first (folder_flags a.flags folder)

-- these are the messages of the folder, in the order in which they came
abbrev pub AreMessagesOf : List ℕ → List (List ℕ) → Account → Type 0
AreMessagesOf folder messages a = messages ≡ messages_in a.folders folder

-- it is the message of the folder after that many, or none if there are no more
abbrev pub IsMessageAt : List ℕ → ℕ → Option (List ℕ) → Account → Type 0
IsMessageAt folder at message a = message ≡ slice_get (messages_in a.folders folder) at

-- the same for a number as the database has it
abbrev pub IsNthMessage : List ℕ → ℤ → Option (List ℕ) → Account → Type 0
IsNthMessage folder count message a = (n : ℕ) → count ≡ pos n → IsMessageAt folder n message a

-- the rows are the messages of the folder, in the order in which they came
abbrev pub AreMessageRows : List ℕ → List Row → Account → Type 0
AreMessageRows folder rows a = rows ≡ map (λ message. Blob message ∷ []) (messages_in a.folders folder)
