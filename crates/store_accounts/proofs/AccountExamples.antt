-- Examples of what writes make of an account, and near misses.
use Rattle.std.proofs.Common.{◌≡◌, ℕ, suc, cond, true, false, length, List, [], ◌∷◌, ◌++◌, codes, drop, unwrap_or, Some, None, refl, ap, ◌∙◌}
use Rattle.std.specs.FinMap.{empty, get, insert, remove, get-remove}
use Rattle.std.proofs.lemmas.Cmp.{nat_list_cmp_total}
use Rattle.sqlite_typed.proofs.TestLemmas.{bytes_eq_refl}
use Rattle.store_tables.specs.declared.queue.QueuedKind.TheVariants.{Redirect, Reply}
use Rattle.store_accounts.specs.declared.report.VacationReply.{VacationReply}
use Rattle.store_accounts.specs.declared.report.Plan.{Plan}
use Rattle.store_accounts.proofs.TakingLemmas.{held_get}
use Rattle.store_accounts.specs.Account.{Account, holding, messages_in, deletes_script, renames_script, queues, takes_out, takes_mail, remembers, sends_on, replies_if_any, delivers, files_copies, remembers_sent, room_in}
use Rattle.store_accounts.specs.Delivery.{no_memory}
use Rattle.store_accounts.specs.ReplyRows.{is_key_between}

abbrev one : List ℕ
one = codes "one"

abbrev two : List ℕ
two = codes "two"

-- a number that was taken out is not used again: the next message has the next number
taken_stays_used : (a : Account) → (takes_out 1 (queues Redirect one two one a)).next_out ≡ suc a.next_out
taken_stays_used a = refl

-- only the row with the number goes
one_is_taken : (a : Account) → a.queue ≡ [] → a.next_out ≡ 1
    → (takes_out 1 (queues Reply [] two two (queues Redirect one two one a))).queue ≡ record { id = 2; kind = Reply; sender = []; target = two; message = two } ∷ []
one_is_taken a none first = rw (none, first) refl

-- the first message leaves its folder, and the second stays
first_leaves : (a : Account) → get a.folders one ≡ Some (codes "M1" ∷ codes "M2" ∷ []) → get (takes_mail one 1 a).folders one ≡ Some (codes "M2" ∷ [])
first_leaves a has = ap (λ o. get (holding a.folders one (drop 1 (unwrap_or o []))) one) has ∙ held_get a.folders one (codes "M2" ∷ []) one ∙ ap (λ b. cond b (Some (codes "M2" ∷ [])) (get a.folders one)) (bytes_eq_refl one)

-- a folder goes with its last message
folder_goes : (a : Account) → get a.folders one ≡ Some (codes "M1" ∷ []) → get (takes_mail one 1 a).folders one ≡ None
folder_goes a has = ap (λ o. get (holding a.folders one (drop 1 (unwrap_or o []))) one) has ∙ held_get a.folders one [] one ∙ ap (λ b. cond b None (get a.folders one)) (bytes_eq_refl one)

-- and its flags leave with it
flags_leave : (a : Account) → get a.flags one ≡ Some (codes "\\Seen" ∷ [] ∷ []) → get (takes_mail one 1 a).flags one ≡ Some ([] ∷ [])
flags_leave a has = ap (λ o. get (holding a.flags one (drop 1 (unwrap_or o []))) one) has ∙ held_get a.flags one ([] ∷ []) one ∙ ap (λ b. cond b (Some ([] ∷ [])) (get a.flags one)) (bytes_eq_refl one)

-- a copy that is filed has its flags behind those of the others there
flags_join : (a : Account) → get a.flags one ≡ Some (codes "\\Seen" ∷ [])
    → (files_copies (record { mailbox = one; flags = codes "\\Flagged" } ∷ []) two a).flags ≡ insert a.flags one (codes "\\Seen" ∷ codes "\\Flagged" ∷ [])
flags_join a has = ap (λ o. insert a.flags one (unwrap_or o [] ++ codes "\\Flagged" ∷ [])) has

-- near miss: a copy without flags has an empty text in its place, so that the flags stand beside the messages
no_flags_join : (a : Account) → get a.flags one ≡ Some (codes "\\Seen" ∷ []) → (files_copies (record { mailbox = one; flags = [] } ∷ []) two a).flags ≡ insert a.flags one (codes "\\Seen" ∷ [] ∷ [])
no_flags_join a has = ap (λ o. insert a.flags one (unwrap_or o [] ++ [] ∷ [])) has

-- near miss: no other folder loses a message
other_folder_stays : (a : Account) (k : ℕ) → get (takes_mail one k a).folders two ≡ get a.folders two
other_folder_stays a k = held_get a.folders one (drop k (messages_in a.folders one)) two

-- a deleted script is gone
deleted_is_gone : (a : Account) → get (deletes_script one a).scripts one ≡ None
deleted_is_gone a = get-remove nat_list_cmp_total a.scripts one one ∙ ap (λ b. cond b None (get a.scripts one)) (bytes_eq_refl one)

-- and no other
other_is_kept : (a : Account) → get (deletes_script one a).scripts two ≡ get a.scripts two
other_is_kept a = get-remove nat_list_cmp_total a.scripts one two

-- the active script stays active under its other name
renamed_is_active : (a : Account) → a.active ≡ Some one → (renames_script one two a).active ≡ Some two
renamed_is_active a is = rw is refl

-- near miss: another active script keeps its name
other_keeps_name : (a : Account) → a.active ≡ Some two → (renames_script one (codes "three") a).active ≡ Some two
other_keeps_name a is = rw is refl

-- the sender's letters are folded, so one moment is kept for both spellings
sender_is_folded : (a : Account) (handle : List ℕ) (moment : ℕ) → remembers handle (codes "Bob@Example.org") moment a ≡ remembers handle (codes "bob@example.org") moment a
sender_is_folded a handle moment = refl

-- a delivery that goes on to two addresses: they have the account's next two numbers, in order, with its sender and message
two_redirects : (a : Account) → a.queue ≡ [] → a.next_out ≡ 7
    → (sends_on one (codes "Hi") (two ∷ one ∷ []) a).queue
    ≡ record { id = 7; kind = Redirect; sender = one; target = two; message = codes "Hi" } ∷ record { id = 8; kind = Redirect; sender = one; target = one; message = codes "Hi" } ∷ []
two_redirects a none first = rw (none, first) refl

-- a reply goes to the sender, from the empty sender, with its own octets
abbrev reply : VacationReply
reply = record { handle = two; message = codes "Away"; moment = 5 }

one_reply : (a : Account) → a.queue ≡ [] → a.next_out ≡ 7 → (replies_if_any one (Some reply) a).queue ≡ record { id = 7; kind = Reply; sender = []; target = one; message = codes "Away" } ∷ []
one_reply a none first = rw (none, first) refl

-- near miss: nothing is remembered and no notice is left where the plan has none
nothing_more : (plan : Plan) (a : Account) → plan.reply ≡ None → plan.report.notice ≡ None → plan.report.sent ≡ [] → plan.memory ≡ no_memory → delivers plan a ≡ files_copies plan.filed plan.message.now a
nothing_more plan a forgets quiet sends nothing = rw (forgets, quiet, sends, nothing) refl

-- a message that goes to two addresses is remembered under both handles' keys, and what is over goes first
sent_to_two : (a : Account) → a.replies ≡ empty
    → (remembers_sent (record { message = two; handles = one ∷ two ∷ []; forgotten = record { handle = two; sender = one } ∷ [] }) 5 a).replies ≡ insert (insert (remove empty (two, one)) (one, two) 5) (two, two) 5
sent_to_two a none = rw none refl

-- near miss: the case of letters counts in what stands for a message
message_is_not_folded : (a : Account) → a.replies ≡ empty → (remembers_sent (record { message = codes "M"; handles = one ∷ []; forgotten = [] }) 5 a).replies ≡ insert empty (one, codes "M") 5
message_is_not_folded a none = rw none refl

-- 1,000 rows may wait; of more there is no room
room_left : (a : Account) → length a.queue ≡ 998 → room_in a ≡ 2
room_left a many = rw many refl

no_room_left : (a : Account) → length a.queue ≡ 1001 → room_in a ≡ 0
no_room_left a many = rw many refl

-- from the first handle's key on, and before the second
between : (is_key_between (codes "b") (codes "bc") (codes "b", one) ≡ true) × (is_key_between (codes "b") (codes "bc") (codes "bbz", one) ≡ true) × (is_key_between (codes "b") (codes "bc") (codes "a", one) ≡ false)
    × (is_key_between (codes "b") (codes "bc") (codes "bc", one) ≡ false)
between = (refl, refl, refl, refl)
