-- What is remembered of messages that were sent on, so that none is sent to the same address again for a while, nor to many.
use Rattle.std.specs.Prelude.{ℕ, ◌+◌, ◌-◌, ◌/◌, ◌++◌, ◌&&◌, Bool, false, cond, not, nat_eq, nat_lt, codes, drop, flat_map, fold, length, List, [], ◌∷◌, filter, map, max, take, Option, None, Some}
use Rattle.std.specs.FinMap.{get}
use Rattle.std.specs.List.{list_any}
use Rattle.std.specs.Cmp.Lexicographic.{pointwise}
use Rattle.octets.specs.Ascii.{trimmed}
use Rattle.sha2.specs.Sha256.{sha256}
use Rattle.mail_head.specs.Heads.{body_of, unfold_of}
use Rattle.mail_address.specs.declared.address.Addr.{Addr}
use Rattle.mail_address.specs.Spelling.{address_spelling}
use Rattle.sieve_exec.specs.Mails.{MailSpec}
use Rattle.sieve_vacation.specs.Handles.{four_octets}
use Rattle.sieve_vacation.specs.Layout.{first_raw}
use Rattle.store_accounts.specs.Account.{Account, room_in}
use Rattle.store_accounts.specs.ReplyRows.{first_between, reply_key_of}
use Rattle.store_accounts.specs.declared.reply.ReplyKey.{ReplyKey}

-- ---- what stands for a message

-- the value of the first Message-ID field, unfolded and without the blanks at its ends; empty where there is none (RFC 5322, 3.6.4)
abbrev pub id_in : Option (List ℕ) → List ℕ
id_in None = []
id_in (Some raw) = trimmed (unfold_of raw)

abbrev pub message_id_of : MailSpec → List ℕ
message_id_of mail = id_in (first_raw (codes "message-id") mail.fields)

-- the names of a message, the first of which it is kept under: octet 1 and its Message-ID, then octet 2 and its body; only the latter
-- where it has no Message-ID
abbrev pub named_by : (id body : List ℕ) → List ℕ
named_by [] body = 2 ∷ body
named_by (octet ∷ id) body = 1 ∷ (octet ∷ id)

abbrev pub names_by : (id body : List ℕ) → List (List ℕ)
names_by [] body = (2 ∷ body) ∷ []
names_by (octet ∷ id) body = (1 ∷ (octet ∷ id)) ∷ (2 ∷ body) ∷ []

abbrev pub name_of : MailSpec → List ℕ
name_of mail = named_by (message_id_of mail) (body_of mail.octets)

abbrev pub redirect_names : MailSpec → List (List ℕ)
redirect_names mail = names_by (message_id_of mail) (body_of mail.octets)

-- the SHA-256 of a name: 32 octets, however long a stranger makes the field
unfoldable pub key_of : List ℕ → List ℕ
key_of name = sha256 name

-- under this key it is kept that a message was sent on
abbrev pub redirect_key : MailSpec → List ℕ
redirect_key mail = key_of (name_of mail)

-- under these it is looked up: one that was kept while it had no Message-ID is known when it comes back with one
abbrev pub redirect_keys : MailSpec → List (List ℕ)
redirect_keys mail = map key_of (redirect_names mail)

-- ---- under which handles' keys its moments are kept

-- 12 hours, in seconds
abbrev pub half_day : ℕ
half_day = 43200

-- the number of a moment's half day, counted from 1 as 1970 begins, so that each has one before it
abbrev pub half_of : ℕ → ℕ
half_of moment = moment / half_day + 1

-- octet 3, which no handle's key of a response begins with, and the number in four octets: so the oldest stand first
abbrev pub half_handle : ℕ → List ℕ
half_handle half = 3 ∷ four_octets half

-- then the message's key, octet 0 and the address as it is spelled: so all addresses of a message in a half day stand together
abbrev pub sent_handle : (half : ℕ) → (key target : List ℕ) → List ℕ
sent_handle half key target = half_handle half ++ key ++ 0 ∷ target

-- no handle's key of that message and half day stands from here on
abbrev pub sent_end : (half : ℕ) → (key : List ℕ) → List ℕ
sent_end half key = half_handle half ++ key ++ 1 ∷ []

-- ---- where it was sent

-- two moments are less than 12 hours apart, whichever is the earlier one
abbrev pub is_near : ℕ → ℕ → Bool
is_near moment kept = nat_lt moment (kept + half_day) && nat_lt kept (moment + half_day)

abbrev pub is_near_if : ℕ → Option ℕ → Bool
is_near_if moment None = false
is_near_if moment (Some kept) = is_near moment kept

-- the half day before a moment's, the moment's own and the one behind it: no other has a moment that is near
abbrev pub halves_near : ℕ → List ℕ
halves_near moment = (half_of moment - 1) ∷ half_of moment ∷ (half_of moment + 1) ∷ []

-- what stands behind this many octets in those handles' keys under which a moment near this one is kept
abbrev pub near_targets : Account → (moment before : ℕ) → List ReplyKey → List (List ℕ)
near_targets a moment before keys = map (λ key. drop before key.handle) (filter (λ key. is_near_if moment (get a.replies (key.handle, key.sender))) keys)

-- the handles' keys of a message in a half day, 32 of them at most
abbrev pub sent_keys : Account → (key : List ℕ) → (half : ℕ) → List ReplyKey
sent_keys a key half = map reply_key_of (first_between (sent_handle half key []) (sent_end half key) a.replies)

-- the addresses to which the message with this key was sent in a half day, less than 12 hours from this moment
abbrev pub known_in_half : Account → (moment : ℕ) → (key : List ℕ) → (half : ℕ) → List (List ℕ)
known_in_half a moment key half = near_targets a moment (length (sent_handle half key [])) (sent_keys a key half)

-- the same in any half day
abbrev pub known_under : Account → (moment : ℕ) → (key : List ℕ) → List (List ℕ)
known_under a moment key = flat_map (known_in_half a moment key) (halves_near moment)

-- the addresses to which a message was sent less than 12 hours from its moment, as they are spelled, one for each time
abbrev pub known_targets : Account → MailSpec → List (List ℕ)
known_targets a mail = flat_map (known_under a mail.moment) (redirect_keys mail)

-- ---- what goes on

-- one of the texts is this one
abbrev pub is_among_texts : List (List ℕ) → List ℕ → Bool
is_among_texts texts text = list_any (λ other. pointwise nat_eq other text) texts

-- the addresses of which none is among these, in order
abbrev pub not_among : List (List ℕ) → List Addr → List Addr
not_among known targets = filter (λ target. not (is_among_texts known (address_spelling target))) targets

-- those to which the message wasn't sent before
abbrev pub fresh : Account → MailSpec → List Addr → List Addr
fresh a mail targets = not_among (known_targets a mail) targets

-- the notices on a message that isn't sent on to all of them
abbrev pub full_text : List ℕ
full_text = codes "queue is full"

abbrev pub large_text : List ℕ
large_text = codes "too large to be sent on to all"

abbrev pub many_text : List ℕ
many_text = codes "sent on to 16 addresses before"

abbrev pub before_text : List ℕ
before_text = codes "sent on before"

-- as often one message goes on from an account within 12 hours
abbrev pub most_sent : ℕ
most_sent = 16

-- so many octets one delivery writes into the queue, 64 MiB, so that it doesn't hold up others; one address gets any message
abbrev pub most_written : ℕ
most_written = 67108864

abbrev pub most_of_size : ℕ → ℕ
most_of_size size = max 1 (most_written / max 1 size)

-- so many of the fresh addresses each limit lets through, in turn, and the notice where that is fewer than there are: the room in the
-- queue; what one delivery may write; how often the message may still go on
abbrev pub limits_by : (room size known : ℕ) → List (ℕ × List ℕ)
limits_by room size known = (room, full_text) ∷ (most_of_size size, large_text) ∷ (most_sent - known, many_text) ∷ []

-- the first ones, as many as each of the limits lets through
abbrev pub let_through : List (ℕ × List ℕ) → List Addr → List Addr
let_through limits targets = fold (λ rest limit. take limit.0 rest) targets limits

-- of all addresses these many are fresh: the notice of the first limit that holds one back, else that the message was sent to one before
abbrev pub held_notice : List (ℕ × List ℕ) → (all fresh : ℕ) → Option (List ℕ)
held_notice [] all fresh = cond (nat_lt fresh all) (Some before_text) None
held_notice (limit ∷ more) all fresh = cond (nat_lt limit.0 fresh) (Some limit.1) (held_notice more all fresh)

abbrev pub limits : Account → MailSpec → List (ℕ × List ℕ)
limits a mail = limits_by (room_in a) (length mail.octets) (length (known_targets a mail))

-- the addresses to which the message goes on
abbrev pub going : Account → MailSpec → List Addr → List Addr
going a mail targets = let_through (limits a mail) (fresh a mail targets)

-- ---- what is kept of it, and what is forgotten

-- under these handles' keys the moment is kept
abbrev pub kept_handles : MailSpec → List Addr → List (List ℕ)
kept_handles mail targets = map (λ target. sent_handle (half_of mail.moment) (redirect_key mail) (address_spelling target)) targets

-- the keys of moments that are over, all of half days before the last one; 32 of them at most, the oldest first
abbrev pub over_keys : Account → ℕ → List ReplyKey
over_keys a moment = map reply_key_of (first_between (3 ∷ []) (half_handle (half_of moment - 1)) a.replies)
