-- An account that is written whole: what the parts of its text make of it.
use Rattle.std.specs.Prelude.{◌≡◌, ◌++◌, ℕ, List, [], ◌∷◌, fold, map, Option, None}
use Rattle.std.specs.List.{flat_map}
use Rattle.std.specs.FinMap.{empty, get, insert}
use Rattle.store_text.specs.Text.{IsAccountText}
use Rattle.store_text.specs.declared.head.AccountHead.{AccountHead}
use Rattle.store_text.specs.declared.part.LetterKind.{LetterKind}
use Rattle.store_text.specs.declared.part.LetterKind.TheVariants.{Redirect, Answer}
use Rattle.store_text.specs.declared.part.Part.{Part}
use Rattle.store_text.specs.declared.part.Part.TheVariants.{Script, Reply, Mail, Copy, Letter, Notice}
use Rattle.store_tables.specs.declared.queue.QueuedKind.{QueuedKind}
use Rattle.store_tables.specs.declared.queue.QueuedKind.TheVariants as kind
use Rattle.store_accounts.specs.declared.notice.Notice.{Notice as KeptNotice}
use Rattle.store_accounts.specs.declared.queue.QueuedMessage.{QueuedMessage}
use Rattle.store_accounts.specs.Account.{Account, Password, ReplyMoments, Scripts, latest}
use Rattle.store_accounts.specs.CopyRows.{Copy as KeptCopy, folders_from, flags_from}
use Rattle.store_accounts.specs.MessageRows.{Message}

-- ---- what each part makes

abbrev pub scripts_with : Scripts → Part → Scripts
scripts_with scripts (Script name text) = insert scripts name text
scripts_with scripts part = scripts

-- if there is a moment under the same handle for the same sender already, the later one of it and the text's is kept
abbrev pub replies_with : ReplyMoments → Part → ReplyMoments
replies_with replies (Reply handle sender moment) = insert replies (handle, sender) (latest (get replies (handle, sender)) moment)
replies_with replies part = replies

abbrev pub queued_kind : LetterKind → QueuedKind
queued_kind Redirect = kind.Redirect
queued_kind Answer = kind.Reply

abbrev pub letters_in : Part → List QueuedMessage
letters_in (Letter id way sender target message) = record { id = id; kind = queued_kind way; sender = sender; target = target; message = message } ∷ []
letters_in part = []

abbrev pub notices_in : Part → List (ℕ × KeptNotice)
notices_in (Notice number moment text) = (number, record { moment = moment; text = text }) ∷ []
notices_in part = []

-- a message is kept with the number of its first copy
abbrev pub messages_in_part : Part → List Message
messages_in_part (Mail number folder message flags) = record { id = number; bytes = message } ∷ []
messages_in_part part = []

-- the octets of the last message that came
abbrev pub octets_after_part : List ℕ → Part → List ℕ
octets_after_part last (Mail number folder message flags) = message
octets_after_part last part = last

-- a copy has the octets of the last message that came, and its own flags
abbrev pub copies_in_part : List ℕ → Part → List KeptCopy
copies_in_part last (Mail number folder message flags) = record { folder = folder; n = number; id = number; message = message; flags = flags } ∷ []
copies_in_part last (Copy number folder first flags) = record { folder = folder; n = number; id = first; message = last; flags = flags } ∷ []
copies_in_part last part = []

abbrev pub copies_of : List ℕ → List Part → List KeptCopy
copies_of last [] = []
copies_of last (part ∷ parts) = copies_in_part last part ++ copies_of (octets_after_part last part) parts

-- ---- the account

abbrev pub password_of : AccountHead → Password
password_of head = record { salt = head.owner.salt; rounds = head.numbers.rounds; digest = head.owner.digest }

-- the account in a text, over moments of replies that are there
abbrev pub whole : AccountHead → List Part → ReplyMoments → Account
whole head parts replies = record {
  address = head.owner.address;
  password = password_of head;
  scripts = fold scripts_with empty parts;
  active = head.owner.active;
  folders = folders_from (copies_of [] parts);
  flags = flags_from (copies_of [] parts);
  queue = flat_map letters_in parts;
  replies = fold replies_with replies parts;
  notices = map (λ e. e.1) (flat_map notices_in parts);
  next_out = head.numbers.next_out;
}

-- the same in place of an account that is there: the moments of its replies stay, except where the text has a later one
abbrev pub takes_whole : AccountHead → List Part → Account → Account
takes_whole head parts a = whole head parts a.replies

-- ---- the text of an account

-- the text is one of this user's account: when it is read, it makes that account again
pub record IsCopyOf (text user : List ℕ) (a : Account) : Type 0 where
  pub head : AccountHead
  pub parts : List Part
  pub spelled : IsAccountText text head parts
  pub named : head.owner.name ≡ user
  pub makes : whole head parts empty ≡ a
