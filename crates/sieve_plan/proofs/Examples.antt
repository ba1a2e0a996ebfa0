-- The definitions on small cases: one that is right, and one that nearly is.
use Rattle.std.proofs.Common.{◌≡◌, ◌-◌, ℕ, suc, Bool, cond, true, false, drop, List, [], ◌∷◌, ◌++◌, codes, filter, length, map, take, unwrap_or, Some, None, refl, ap, arith, sym, ◌∙◌, subst, pos}
use Rattle.std.specs.Prelude.{Option, nat_lt, replicate}
use Rattle.std.specs.FinMap.{find, from_sorted, get, entries-from_sorted, get-from_sorted}
use Rattle.std.proofs.Math.Seq.{take-nil}
use Rattle.mail_head.specs.Fields.{FieldText}
use Rattle.mail_head.specs.Heads.{body_start}
use Rattle.mail_address.specs.declared.address.Addr.{Addr}
use Rattle.mail_flags.specs.declared.placement.Placement.{Placement}
use Rattle.sieve_syntax.specs.RunState.{TwoVacations, TooManyRedirects, TooManyMailboxes, TooMuchWork, inbox}
use Rattle.sieve_syntax.specs.Meaning.{Actions, Failed}
use Rattle.sieve_syntax.specs.declared.extension.vacation.VacationArgs.{VacationArgs}
use Rattle.sieve_exec.specs.Mails.{MailSpec}
use Rattle.sieve_vacation.specs.declared.reason.ReplyDecision.TheVariants as D
use Rattle.sieve_vacation.specs.declared.reason.Reason.TheVariants as R
use Rattle.store_accounts.specs.Account.{Account, latest, files_copies, forgets, new_account, adds_notice, remembers, reply_cmp, room_in}
use Rattle.store_accounts.specs.ReplyRows.{first_between, is_key_between, reply_key_of}
use Rattle.store_accounts.specs.declared.reply.ReplyKey.{ReplyKey}
use Rattle.store_tables.specs.declared.queue.QueuedKind.TheVariants.{Redirect, Reply}
use Rattle.store_accounts.specs.declared.report.VacationReport.TheVariants as V
use Rattle.sieve_plan.specs.Sent.{half_handle, half_of, halves_near, held_notice, is_near, is_near_if, key_of, let_through, limits_by, most_of_size, name_of, redirect_names, near_targets, not_among, over_keys, sent_end, sent_handle, sent_keys, known_targets, known_under}
use Rattle.sieve_plan.specs.Delivered.{Acts, Tells, Disposes, DisposesUnlessLong, disposition_of, has_long_header, held_of, invalid_text, is_looping, is_received_field, kept, long_text, loop_text, max_header, Silent, NoRoom, Quiet, Sent, FollowsDecision, Responds, done_of, responds, redirects, report_of, notice_report, Delivers, unflagged_copy, with_inbox}
use Rattle.sieve_plan.proofs.DeliveryLaws.{one_delivery}
use Rattle.sieve_plan.proofs.PlanLemmas.{none_goes, none_told}

abbrev alice : Addr
alice = record { local = codes "alice"; domain = codes "example.org" }

-- a local part with a blank is quoted
abbrev carol : Addr
carol = record { local = codes "c d"; domain = codes "example.com" }

abbrev bob : List ℕ
bob = codes "Bob@example.net"

abbrev field : List ℕ → FieldText
field name = record { name = name; raw = codes " x" }

abbrev mail_with : List ℕ → List FieldText → MailSpec
mail_with sender fields = record { fields = fields; from = sender; to = codes "alice@example.org"; size = 1; octets = 65 ∷ []; moment = 5; zone = pos 0 }

abbrev away : VacationArgs
away = record { days = None; seconds = None; subject = None; from = None; addresses = []; mime = false; handle = None; reason = codes "Away." }

-- ---- what becomes of a message

-- case ignored; a longer name is another field
received : (is_received_field (field (codes "RECEIVED")) ≡ true) × (is_received_field (field (codes "Received-SPF")) ≡ false)
received = (refl, refl)

-- 101 are too many, 100 aren't
loops : (is_looping (mail_with bob (replicate 101 (field (codes "Received")))) ≡ true)
    × (is_looping (mail_with bob (field (codes "Subject") ∷ replicate 100 (field (codes "Received")))) ≡ false)
loops = (refl, refl)

-- without a script the message is kept; near misses: it is dropped, or the user is told
kept_without_script : Disposes None (mail_with bob []) (Acts kept)
kept_without_script = refl

dropped_without_script : Disposes None (mail_with bob []) (Acts (record { filed = []; sent = []; reply = None })) → ⊥
dropped_without_script same = let is : [] ≡ unflagged_copy inbox ∷ [] = ap (λ d. elim d as (λ _. List Placement) [ Acts deeds ↦ deeds.filed | Tells text ↦ [] ]) same in cc

told_without_script : Disposes None (mail_with bob []) (Tells invalid_text) → ⊥
told_without_script same = cc

-- the count goes before the script, also where there is none
looping_without_script : Disposes None (mail_with bob (replicate 101 (field (codes "Received")))) (Tells loop_text)
looping_without_script = refl

-- a header at the limit is read, and one an octet above it isn't
long_headers : (at above : List ℕ) → body_start at ≡ 1048576 → body_start above ≡ 1048577 → (has_long_header at ≡ false) × (has_long_header above ≡ true)
long_headers at above is was = (ap (nat_lt max_header) is, ap (nat_lt max_header) was)

-- it goes before the count and the script; near miss: the message is kept, and nobody told
long_before_all : (text : Option (List ℕ)) (mail : MailSpec) → has_long_header mail.octets ≡ true → Disposes text mail (Tells long_text)
long_before_all text mail long = subst (λ is_long. DisposesUnlessLong is_long text mail (Tells long_text)) (sym long) refl

long_kept_untold : (text : Option (List ℕ)) (mail : MailSpec) → has_long_header mail.octets ≡ true → Disposes text mail (Acts kept) → ⊥
long_kept_untold text mail long is =
    let told : Acts kept ≡ Tells long_text = subst (λ is_long. DisposesUnlessLong is_long text mail (Acts kept)) long is in
    cc

failures : (disposition_of (Failed TwoVacations) ≡ Tells (codes "vacation executed twice")) × ((disposition_of (Failed TooManyRedirects) ≡ Tells (codes "more than 16 redirects")) × ((disposition_of (Failed TooManyMailboxes) ≡ Tells (codes "more than 100 mailboxes")) × (disposition_of (Failed TooMuchWork) ≡ Tells (codes "script takes too much work"))))
failures = (refl, (refl, (refl, refl)))

-- ---- the response to the sender

-- the null sender is answered nothing, and nothing of it is kept; near miss: it is answered
null_sender : Responds alice 5 (mail_with [] []) (λ key. None) 5 (Some away) (Quiet R.NullSender)
null_sender = refl

null_sender_answered : (key reply : List ℕ) (moment : ℕ) → Responds alice 5 (mail_with [] []) (λ key. None) 5 (Some away) (Sent key reply moment) → ⊥
null_sender_answered key reply moment is = cc

-- without `vacation` there is no reason either
no_vacation : (own : Addr) (mail : MailSpec) (room : ℕ) → Responds own 5 mail (λ key. None) room None (Quiet R.NullSender) → ⊥
no_vacation own mail room is = cc

-- the decision to send is carried out where there is room for one row; near miss: it is sent without room
no_room : FollowsDecision alice 5 (mail_with bob []) away None 0 D.Send NoRoom
no_room = refl

sent_without_room : (key reply : List ℕ) (moment : ℕ) → FollowsDecision alice 5 (mail_with bob []) away None 0 D.Send (Sent key reply moment) → ⊥
sent_without_room key reply moment is = cc

untold_with_room : FollowsDecision alice 5 (mail_with bob []) away None 1 D.Send NoRoom → ⊥
untold_with_room (reply, (is, same)) = cc

-- ---- the account afterwards

-- two addresses, in order, each as it is spelled, from the sender as received
two_redirects : (a : Account) → (redirects (mail_with bob []) (alice ∷ carol ∷ []) a).queue
    ≡ a.queue ++ record { id = a.next_out; kind = Redirect; sender = bob; target = codes "alice@example.org"; message = 65 ∷ [] } ∷ []
    ++ record { id = suc a.next_out; kind = Redirect; sender = bob; target = codes "\"c d\"@example.com"; message = 65 ∷ [] } ∷ []
two_redirects a = refl

-- a response goes out from the empty sender
reply_row : (a : Account) → (responds (mail_with bob []) (Sent (codes "k") (codes "r") 5) a).queue
    ≡ a.queue ++ record { id = a.next_out; kind = Reply; sender = []; target = bob; message = codes "r" } ∷ []
reply_row a = refl

-- its moment is kept for the sender in lower case; where none is sent, nothing changes
reply_moment : (a : Account) → (responds (mail_with bob []) (Sent (codes "k") (codes "r") 5) a).replies ≡ (remembers (codes "k") (codes "bob@example.net") 5 a).replies
reply_moment a = refl

-- what is kept is the later one of two moments, whichever comes first
kept_is_latest : (latest (Some 1700000000) 1699999999 ≡ 1700000000) × (latest (Some 1700000000) 1700000001 ≡ 1700000001) × (latest None 5 ≡ 5)
kept_is_latest = (refl, refl, refl)

quiet_changes_nothing : (a : Account) → responds (mail_with bob []) (Quiet R.TooSoon) a ≡ a
quiet_changes_nothing a = refl

-- ---- what was sent on before

abbrev with_id : List ℕ → MailSpec
with_id id = mail_with bob (record { name = codes "Message-Id"; raw = id } ∷ [])

-- the value counts, without blanks at its ends and without what folds it; an empty one is as none, and then the body counts, here an empty one
names : (name_of (with_id (codes " <1@a>")) ≡ 1 ∷ codes "<1@a>") × (name_of (with_id (codes " \r\n <1@a> ")) ≡ name_of (with_id (codes "<1@a>")))
    × (name_of (with_id (codes "  ")) ≡ 2 ∷ []) × (name_of (mail_with bob []) ≡ 2 ∷ [])
names = (refl, refl, refl, refl)

-- near miss: the name in the field is that of a body with the same octets
name_is_no_body : name_of (with_id (codes "a")) ≡ 2 ∷ codes "a" → ⊥
name_is_no_body same = cc

-- one with a Message-ID is looked up under the name of its body too, and one without under that alone
both_names : (redirect_names (with_id (codes "<1@a>")) ≡ (1 ∷ codes "<1@a>") ∷ (2 ∷ []) ∷ []) × (redirect_names (mail_with bob []) ≡ (2 ∷ []) ∷ [])
both_names = (refl, refl)

-- so what was kept of it without a Message-ID is found when it has one
body_is_looked_up : (a : Account) → known_targets a (with_id (codes "<1@a>")) ≡ known_under a 5 (key_of (1 ∷ codes "<1@a>")) ++ (known_under a 5 (key_of (2 ∷ [])) ++ [])
body_is_looked_up a = refl

-- the half day stands before the message, the highest octet first, and the first one has number 1
handles : (sent_handle 258 (7 ∷ 8 ∷ []) (codes "a@b") ≡ 3 ∷ 0 ∷ 0 ∷ 1 ∷ 2 ∷ 7 ∷ 8 ∷ 0 ∷ codes "a@b") × (sent_end 258 (7 ∷ 8 ∷ []) ≡ 3 ∷ 0 ∷ 0 ∷ 1 ∷ 2 ∷ 7 ∷ 8 ∷ 1 ∷ [])
    × (half_of 0 ≡ 1) × (half_of 43199 ≡ 1) × (half_of 43200 ≡ 2) × (halves_near 0 ≡ 0 ∷ 1 ∷ 2 ∷ [])
handles = (refl, refl, refl, refl, refl, refl)

-- 12 hours to the second, whichever comes first
near : (is_near 100000 56801 ≡ true) × (is_near 100000 56800 ≡ false) × (is_near 100000 143199 ≡ true) × (is_near 100000 143200 ≡ false)
    × (is_near_if 100000 (Some 56801) ≡ true) × (is_near_if 100000 None ≡ false)
near = (refl, refl, refl, refl, refl, refl)

-- an account that keeps one moment
abbrev keeping : (List ℕ × List ℕ) → ℕ → Account
keeping key moment = record (new_account [] (record { salt = []; rounds = 1; digest = [] })) { replies = from_sorted ((key, moment) ∷ []) }

-- as a message with this key is kept
abbrev sent_key : (half : ℕ) → (key target : List ℕ) → List ℕ × List ℕ
sent_key half key target = (sent_handle half key target, key)

between_with : (key : List ℕ × List ℕ) (kept : ℕ) (from below : List ℕ) → first_between from below (keeping key kept).replies ≡ take 32 (filter (is_key_between from below) (key ∷ []))
between_with key kept from below = ap (λ entries. take 32 (filter (is_key_between from below) (map (λ e. e.0) entries))) (entries-from_sorted reply_cmp ((key, kept) ∷ []) tt)

-- the keys of the message and the half day, and no others: not those of another message, of one whose key is longer, or of another half day
found : (sent_keys (keeping (sent_key 1 (7 ∷ []) (codes "a@b")) 43000) (7 ∷ []) 1 ≡ record { handle = sent_handle 1 (7 ∷ []) (codes "a@b"); sender = 7 ∷ [] } ∷ [])
    × (sent_keys (keeping (sent_key 1 (7 ∷ []) (codes "a@b")) 43000) (8 ∷ []) 1 ≡ [])
    × (sent_keys (keeping (sent_key 1 (7 ∷ 1 ∷ []) (codes "a@b")) 43000) (7 ∷ []) 1 ≡ [])
    × (sent_keys (keeping (sent_key 1 (7 ∷ []) (codes "a@b")) 43000) (7 ∷ []) 2 ≡ [])
found =
    let is = λ (key : List ℕ × List ℕ) (name : List ℕ) (half : ℕ). ap (map reply_key_of) (between_with key 43000 (sent_handle half name []) (sent_end half name)) in (
      is (sent_key 1 (7 ∷ []) (codes "a@b")) (7 ∷ []) 1,
      is (sent_key 1 (7 ∷ []) (codes "a@b")) (8 ∷ []) 1,
      is (sent_key 1 (7 ∷ 1 ∷ []) (codes "a@b")) (7 ∷ []) 1,
      is (sent_key 1 (7 ∷ []) (codes "a@b")) (7 ∷ []) 2,
    )

kept_under : (key : List ℕ × List ℕ) (moment : ℕ) (other : List ℕ × List ℕ) → get (keeping key moment).replies other ≡ find reply_cmp other ((key, moment) ∷ [])
kept_under key moment other = get-from_sorted reply_cmp ((key, moment) ∷ []) other tt

near_with : (key : ReplyKey) (kept moment before : ℕ) → near_targets (keeping (key.handle, key.sender) kept) moment before (key ∷ []) ≡ cond (is_near_if moment (find reply_cmp (key.handle, key.sender) (((key.handle, key.sender), kept) ∷ []))) (drop before key.handle ∷ []) []
near_with key kept moment before = rw (kept_under (key.handle, key.sender) kept (key.handle, key.sender)) (by (is_near_if moment (find reply_cmp (key.handle, key.sender) (((key.handle, key.sender), kept) ∷ []))))
  where
    by : (b : Bool) → map (λ (k : ReplyKey). drop before k.handle) (cond b (key ∷ []) []) ≡ cond b (drop before key.handle ∷ []) []
    by true = refl
    by false = refl

-- of a moment that is near the address is found, and of one that is 12 hours away it isn't
where_sent : (near_targets (keeping (sent_key 1 (7 ∷ []) (codes "a@b")) 43000) 43300 7 (record { handle = sent_handle 1 (7 ∷ []) (codes "a@b"); sender = 7 ∷ [] } ∷ []) ≡ codes "a@b" ∷ [])
    × (near_targets (keeping (sent_key 1 (7 ∷ []) (codes "a@b")) 100) 43300 7 (record { handle = sent_handle 1 (7 ∷ []) (codes "a@b"); sender = 7 ∷ [] } ∷ []) ≡ [])
where_sent =
    let key : ReplyKey = record { handle = sent_handle 1 (7 ∷ []) (codes "a@b"); sender = 7 ∷ [] } in
    (near_with key 43000 43300 7, near_with key 100 43300 7)

over_with : (key : List ℕ × List ℕ) (kept moment : ℕ) → over_keys (keeping key kept) moment ≡ map reply_key_of (take 32 (filter (is_key_between (3 ∷ []) (half_handle (half_of moment - 1))) (key ∷ [])))
over_with key kept moment = ap (map reply_key_of) (between_with key kept (3 ∷ []) (half_handle (half_of moment - 1)))

-- what is over goes, and nothing else: not the moment of the last half day, and no response's
over : (over_keys (keeping (sent_key 1 (7 ∷ []) (codes "a@b")) 43000) 86400 ≡ record { handle = sent_handle 1 (7 ∷ []) (codes "a@b"); sender = 7 ∷ [] } ∷ [])
    × (over_keys (keeping (sent_key 2 (7 ∷ []) (codes "a@b")) 43200) 86400 ≡ [])
    × (over_keys (keeping (1 ∷ codes "h", codes "bob") 5) 86400 ≡ [])
over = (over_with (sent_key 1 (7 ∷ []) (codes "a@b")) 43000 86400, over_with (sent_key 2 (7 ∷ []) (codes "a@b")) 43200 86400, over_with (1 ∷ codes "h", codes "bob") 5 86400)

-- ---- how many it goes on to

-- 64 MiB at once: 4 MiB to 16, an octet more to 15, 10 MB to 6, the largest message to 2, a larger one than all to 1, and an empty one to as many as there are
sizes : (most_of_size 4194304 ≡ 16) × (most_of_size 4194305 ≡ 15) × (most_of_size 10000000 ≡ 6) × (most_of_size 33554432 ≡ 2) × (most_of_size 70000000 ≡ 1) × (most_of_size 0 ≡ 67108864)
sizes = (refl, refl, refl, refl, refl, refl)

-- three addresses as far as the room, the size and the number of times let them: it is the least that decides
through : (let_through (limits_by 2 1 0) (alice ∷ carol ∷ alice ∷ []) ≡ alice ∷ carol ∷ []) × (let_through (limits_by 3 33554433 0) (alice ∷ carol ∷ alice ∷ []) ≡ alice ∷ [])
    × (let_through (limits_by 3 1 15) (alice ∷ carol ∷ alice ∷ []) ≡ alice ∷ []) × (let_through (limits_by 3 1 16) (alice ∷ carol ∷ []) ≡ []) × (let_through (limits_by 3 1 20) (alice ∷ carol ∷ []) ≡ [])
through = (refl, refl, refl, refl, refl)

-- the notice is that of the first limit that holds one back, else that it was sent to one before; none where the message goes to all, or to none because the
-- script names none
held : (held_notice (limits_by 1 33554433 16) 3 2 ≡ Some (codes "queue is full")) × (held_notice (limits_by 2 33554433 16) 3 2 ≡ Some (codes "too large to be sent on to all"))
    × (held_notice (limits_by 2 1 15) 3 2 ≡ Some (codes "sent on to 16 addresses before")) × (held_notice (limits_by 2 1 14) 3 2 ≡ Some (codes "sent on before"))
    × (held_notice (limits_by 2 1 14) 2 2 ≡ None) × (held_notice (limits_by 0 1 16) 0 0 ≡ None)
held = (refl, refl, refl, refl, refl, refl)

-- near misses: who should have got the message is told that it was sent before, or nothing
held_unsaid : (held_notice (limits_by 1 1 0) 3 2 ≡ Some (codes "sent on before") → ⊥) × (held_notice (limits_by 2 1 0) 3 2 ≡ None → ⊥)
held_unsaid = (λ same. let is : 13 ≡ 14 = ap (λ o. length (unwrap_or o [])) same in absurd (omega arith), λ same. cc)

-- one of the addresses is known; case counts
apart : (not_among (codes "alice@example.org" ∷ []) (alice ∷ carol ∷ []) ≡ carol ∷ []) × (not_among (codes "Alice@example.org" ∷ []) (alice ∷ carol ∷ []) ≡ alice ∷ carol ∷ [])
apart = (refl, refl)

-- what isn't sent on is kept: in INBOX once, with the flags that the script gives it there
kept_too : (with_inbox [] ≡ unflagged_copy inbox ∷ []) × (with_inbox (unflagged_copy (codes "a") ∷ []) ≡ unflagged_copy (codes "a") ∷ unflagged_copy inbox ∷ [])
    × (with_inbox (record { mailbox = codes "INBOX"; flags = codes "\\Seen" } ∷ []) ≡ record { mailbox = codes "INBOX"; flags = codes "\\Seen" } ∷ [])
kept_too = (refl, refl, refl)

-- a message that comes again goes nowhere, and is kept; near miss: it is dropped
module _ (a : Account) (mail : MailSpec) (before : known_targets a mail ≡ codes "alice@example.org" ∷ []) where
  again : done_of a mail (record { filed = []; sent = alice ∷ []; reply = None }) ≡ record { filed = unflagged_copy inbox ∷ []; sent = []; reply = None }
  again = rw before (rw (take-nil (room_in a)) (rw (take-nil (most_of_size (length mail.octets))) refl))

  dropped_again : done_of a mail (record { filed = []; sent = alice ∷ []; reply = None }) ≡ record { filed = []; sent = []; reply = None } → ⊥
  dropped_again same =
      let is : unflagged_copy inbox ∷ [] ≡ [] = ap (λ (d : Actions). d.filed) (sym again ∙ same) in
      cc

-- two addresses to which a message of one octet wasn't sent
abbrev to_both : Actions
to_both = record { filed = []; sent = alice ∷ carol ∷ []; reply = None }

module _ (a : Account) (mail : MailSpec) (small : mail.octets ≡ 65 ∷ []) (new : known_targets a mail ≡ []) where
  -- with room for both it goes to both, and nowhere else
  room_for_both : room_in a ≡ 2 → done_of a mail to_both ≡ to_both
  room_for_both room = rw (new, room, small) refl

  -- with room for one it goes to the first, and is kept
  room_for_one : room_in a ≡ 1 → done_of a mail to_both ≡ record { filed = unflagged_copy inbox ∷ []; sent = alice ∷ []; reply = None }
  room_for_one room = rw (new, room, small) refl

  -- without room it is kept
  room_for_none : room_in a ≡ 0 → done_of a mail to_both ≡ record { filed = unflagged_copy inbox ∷ []; sent = []; reply = None }
  room_for_none room = rw (new, room, small) refl

  -- near misses: it goes to both with room for one; it is dropped where there is no room
  both_with_room_for_one : room_in a ≡ 1 → done_of a mail to_both ≡ to_both → ⊥
  both_with_room_for_one room same =
      let is : alice ∷ [] ≡ alice ∷ carol ∷ [] = ap (λ (d : Actions). d.sent) (sym (room_for_one room) ∙ same) in
      cc

  dropped_without_room : room_in a ≡ 0 → done_of a mail to_both ≡ record { filed = []; sent = []; reply = None } → ⊥
  dropped_without_room room same =
      let is : unflagged_copy inbox ∷ [] ≡ [] = ap (λ (d : Actions). d.filed) (sym (room_for_none room) ∙ same) in
      cc

-- where the script sends to nobody, all is done, whatever the room
nobody : (a : Account) (mail : MailSpec) → done_of a mail kept ≡ kept
nobody a mail = rw (none_goes a mail) refl

nobody_held : (a : Account) (mail : MailSpec) → held_of a mail kept ≡ None
nobody_held a mail = none_told a mail

-- ---- what is reported

reports : (report_of (record { filed = record { mailbox = inbox; flags = codes "\\Seen" } ∷ []; sent = carol ∷ []; reply = Some away }) (Quiet R.TooSoon) None
    ≡ record { filed = inbox ∷ []; sent = codes "\"c d\"@example.com" ∷ []; vacation = V.Quiet 9; notice = None })
    × (notice_report (codes "n") ≡ record { filed = inbox ∷ []; sent = []; vacation = V.None; notice = Some (codes "n") })
reports = (refl, refl)

-- ---- a delivery

-- what is over goes with each delivery by a script
delivered : (a : Account) → Delivers alice (mail_with bob []) None a (report_of kept Silent None) (forgets (over_keys a 5) (files_copies (unflagged_copy inbox ∷ []) (65 ∷ []) a))
delivered a =
    let mail = mail_with bob [] in
    record {
      disposition = Acts kept;
      disposes = refl;
      delivers = record { response = Silent; is_response = refl; reported = rw (none_goes a mail, nobody_held a mail) refl; changed = rw (none_goes a mail, nobody_held a mail) refl };
    }

looped : (a : Account) → Delivers alice (mail_with bob (replicate 101 (field (codes "Received")))) None a (notice_report loop_text) (adds_notice 5 loop_text (files_copies (unflagged_copy inbox ∷ []) (65 ∷ []) a))
looped a = record { disposition = Tells loop_text; disposes = refl; delivers = record { reported = refl; changed = refl } }

-- near miss: the delivery leaves a notice, and doesn't tell of it
silent_notice : (a after : Account) → Delivers alice (mail_with bob (replicate 101 (field (codes "Received")))) None a (report_of kept Silent None) after → ⊥
silent_notice a after is =
    let same = one_delivery alice (mail_with bob (replicate 101 (field (codes "Received")))) None a (report_of kept Silent None) (notice_report loop_text) after _ is (looped a) in
    let told : None ≡ Some loop_text = ap (λ r. r.notice) same.0 in
    cc
