-- What rows show of the moments of a user's last replies, and what is read of them.
use Rattle.std.specs.Prelude.{◌≡◌, ◌&&◌, Bool, not, take, ℕ, pos, List, [], ◌∷◌, map, filter, slice_get, Option, option_map}
use Rattle.std.specs.FinMap.{get, entries, keys, from_entries}
use Rattle.std.specs.Ordering.{is_eq, is_lt}
use Rattle.octets.specs.Ascii.{lowered}
use Rattle.sqlite_value.specs.declared.value.Value.TheVariants.{Int, Blob}
use Rattle.sqlite_value.specs.Order.{Row}
use Rattle.store_tables.specs.ReplyTable.{reply_cells}
use Rattle.store_accounts.specs.declared.reply.KeptReply.{KeptReply}
use Rattle.store_accounts.specs.declared.reply.ReplyKey.{ReplyKey}
use Rattle.store_accounts.specs.Account.{bytes_cmp, Account, ReplyMoments}
use Rattle.store_accounts.specs.ScriptRows.{AreKeysApart}

-- ---- what rows show

-- the row of a handle's key, a sender and the moment
abbrev pub reply_row : List ℕ → (List ℕ × List ℕ) × ℕ → Row
reply_row user entry = reply_cells user entry.0.0 entry.0.1 (pos entry.1)

-- the rows are those of the moments that the user's account keeps, in any order
pub record ShowsReplies (user : List ℕ) (rows : List Row) (replies : ReplyMoments) : Type 0 where
  pub entries : List ((List ℕ × List ℕ) × ℕ)
  pub rows_are : rows ≡ map (reply_row user) entries
  pub shown : replies ≡ from_entries entries
  pub apart : AreKeysApart entries

-- ---- what is read of them

-- the first row is the moment that is kept under the handle's key and the sender, if one is
abbrev pub HasMomentRow : List ℕ × List ℕ → List Row → Account → Type 0
HasMomentRow key rows a = slice_get rows 0 ≡ option_map (λ moment. Int (pos moment) ∷ []) (get a.replies key)

-- the replies to one sender, in the order of the octets of their handles' keys
abbrev pub replies_to : List ℕ → ReplyMoments → List ((List ℕ × List ℕ) × ℕ)
replies_to sender replies = filter (λ e. is_eq (bytes_cmp e.0.1 sender)) (entries replies)

abbrev pub kept_reply : (List ℕ × List ℕ) × ℕ → KeptReply
kept_reply e = record { handle = e.0.0; moment = e.1 }

-- what the query for the replies shows of one
abbrev pub kept_cells : KeptReply → Row
kept_cells kept = Blob kept.handle ∷ Int (pos kept.moment) ∷ []

-- this is the moment that is kept under the handle's key and the sender, if one is
abbrev pub IsReplyMoment : List ℕ → List ℕ → Option ℕ → Account → Type 0
IsReplyMoment handle sender moment a = moment ≡ get a.replies (handle, sender)

-- the same, case ignored in the sender
abbrev pub IsLastReply : List ℕ → List ℕ → Option ℕ → Account → Type 0
IsLastReply handle sender = IsReplyMoment handle (lowered sender)

-- these are the replies to the sender, in that order; case ignored in the sender
abbrev pub AreKeptReplies : List ℕ → List KeptReply → Account → Type 0
AreKeptReplies sender replies a = replies ≡ map kept_reply (replies_to (lowered sender) a.replies)

-- the rows are the replies to the sender, in that order
abbrev pub AreReplyRows : List ℕ → List Row → Account → Type 0
AreReplyRows sender rows a = rows ≡ map kept_cells (map kept_reply (replies_to sender a.replies))

-- ---- their keys

abbrev pub reply_key_of : List ℕ × List ℕ → ReplyKey
reply_key_of key = record { handle = key.0; sender = key.1 }

-- a handle's key stands from the first of these on and before the second, in the order of octets
abbrev pub is_key_between : List ℕ → List ℕ → List ℕ × List ℕ → Bool
is_key_between from below key = not (is_lt (bytes_cmp key.0 from)) && is_lt (bytes_cmp key.0 below)

-- the first of these keys, and how many at most are read of them
abbrev pub first_between : List ℕ → List ℕ → ReplyMoments → List (List ℕ × List ℕ)
first_between from below replies = take 32 (filter (is_key_between from below) (keys replies))

-- these are the first keys of the account from the one key on and before the other, 32 at most
abbrev pub AreFirstBetween : List ℕ → List ℕ → List ReplyKey → Account → Type 0
AreFirstBetween from below all a = all ≡ map reply_key_of (first_between from below a.replies)

-- what the query for them shows of one
abbrev pub key_cells : ReplyKey → Row
key_cells key = Blob key.handle ∷ Blob key.sender ∷ []

-- the rows are the keys of all that are kept, in the order of the octets of the handles' keys, and of those of the senders
abbrev pub AreKeyRows : List Row → Account → Type 0
AreKeyRows rows a = rows ≡ map key_cells (map reply_key_of (keys a.replies))

-- the rows are the first keys between these handles' keys, in that order
abbrev pub AreBetweenRows : List ℕ → List ℕ → List Row → Account → Type 0
AreBetweenRows from below rows a = rows ≡ map key_cells (map reply_key_of (first_between from below a.replies))
