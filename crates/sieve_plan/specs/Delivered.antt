-- What a delivery makes of an account, and what it reports (RFC 5228, 2.10; RFC 5230).
use Rattle.std.specs.Prelude.{◌≡◌, ◌++◌, ◌-◌, ℕ, zero, suc, ◌⊎◌, cond, length, nat_lt, Bool, true, false, List, [], ◌∷◌, map, codes, count_by, Option, None, Some}
use Rattle.std.specs.List.{fold}
use Rattle.mail_head.specs.Fields.{FieldText}
use Rattle.mail_head.specs.Heads.{body_start}
use Rattle.mail_address.specs.declared.address.Addr.{Addr}
use Rattle.mail_address.specs.Spelling.{address_spelling}
use Rattle.mail_flags.specs.declared.placement.Placement.{Placement}
use Rattle.sieve_syntax.specs.Tree.{Commands}
use Rattle.sieve_syntax.specs.Means.{Means}
use Rattle.sieve_syntax.specs.RunState.{Failure, TwoVacations, TooManyRedirects, TooManyMailboxes, TooMuchWork, inbox, is_filed}
use Rattle.sieve_syntax.specs.Meaning.{Actions, Outcome, Done, Failed}
use Rattle.sieve_syntax.specs.declared.extension.vacation.VacationArgs.{VacationArgs}
use Rattle.sieve_exec.specs.Mails.{MailSpec}
use Rattle.sieve_exec.specs.Outcomes.{outcome_at}
use Rattle.sieve_vacation.specs.Cases.{same_ignoring_case}
use Rattle.sieve_vacation.specs.Handles.{handle_of, handle_key_of}
use Rattle.sieve_vacation.specs.Layout.{IsVacationReply}
use Rattle.sieve_vacation.specs.Reasons.{decision_of, reason_number}
use Rattle.sieve_vacation.specs.declared.reason.Reason.{Reason}
use Rattle.sieve_vacation.specs.declared.reason.ReplyDecision.{ReplyDecision}
use Rattle.sieve_vacation.specs.declared.reason.ReplyDecision.TheVariants as D
use Rattle.store_accounts.specs.Account.{Account, latest, room_in, files_copies, forgets, keeps_sent, queues, remembers, adds_notice, adds_notice_if_any}
use Rattle.store_tables.specs.declared.queue.QueuedKind.TheVariants as kind
use Rattle.store_accounts.specs.declared.reply.ReplyKey.{ReplyKey}
use Rattle.store_accounts.specs.declared.report.Report.{Report}
use Rattle.store_accounts.specs.declared.report.VacationReport.{VacationReport}
use Rattle.store_accounts.specs.declared.report.VacationReport.TheVariants as V
use Rattle.sieve_plan.specs.Sent.{fresh, going, held_notice, kept_handles, limits, redirect_key, over_keys}
use Rattle.sieve_plan.specs.Views.{last_reply}

-- ---- what becomes of a message

-- the script's actions are carried out; or the message goes into INBOX, and the user is left a notice with this text
pub data Disposition : Type 0 where
  Acts : Actions → Disposition
  Tells : List ℕ → Disposition

-- the notice on a run that failed (RFC 5228, 2.10.6)
abbrev pub failure_text : Failure → List ℕ
failure_text TwoVacations = codes "vacation executed twice"
failure_text TooManyRedirects = codes "more than 16 redirects"
failure_text TooManyMailboxes = codes "more than 100 mailboxes"
failure_text TooMuchWork = codes "script takes too much work"

-- the notice on a message that may go round in a loop
abbrev pub loop_text : List ℕ
loop_text = codes "more than 100 Received fields"

-- the notice on a message with a long header
abbrev pub long_text : List ℕ
long_text = codes "header larger than 1 MiB"

-- the notice on an active text that doesn't mean a tree
abbrev pub invalid_text : List ℕ
invalid_text = codes "script is not valid"

-- a field that each host adds which passes the message on, ignoring case (RFC 5321, 4.4)
abbrev pub is_received_field : FieldText → Bool
is_received_field field = same_ignoring_case (codes "received") field.name

-- more than 100 of them: the message may go round in a loop (RFC 5321, 6.3)
abbrev pub is_looping : MailSpec → Bool
is_looping mail = nat_lt 100 (count_by is_received_field mail.fields)

-- the most octets of a header whose fields are read, including the empty line that ends it: 1 MiB
abbrev pub max_header : ℕ
max_header = 1048576

-- whether a message's header has more; if no line is empty, the whole message is its header (RFC 5322, 2.1)
abbrev pub has_long_header : List ℕ → Bool
has_long_header message = nat_lt max_header (body_start message)

abbrev pub disposition_of : Outcome → Disposition
disposition_of (Done deeds) = Acts deeds
disposition_of (Failed failure) = Tells (failure_text failure)

-- a mailbox that the message goes into without flags
abbrev pub unflagged_copy : List ℕ → Placement
unflagged_copy mailbox = record { mailbox = mailbox; flags = [] }

-- the implicit keep, and nothing else (RFC 5228, 2.10.2)
abbrev pub kept : Actions
kept = record { filed = unflagged_copy inbox ∷ []; sent = []; reply = None }

-- given the text of a script: the outcome of its tree, if it means one
abbrev pub DisposesBy : List ℕ → MailSpec → Disposition → Type 0
DisposesBy text mail disposition =
    ((tree : Commands) × Means text tree × (disposition ≡ disposition_of (outcome_at mail tree)))
    ⊎ (((tree : Commands) → Means text tree → ⊥) × (disposition ≡ Tells invalid_text))

-- given the text of the active script, if there is one
abbrev pub DisposesUnder : Option (List ℕ) → MailSpec → Disposition → Type 0
DisposesUnder None mail disposition = disposition ≡ Acts kept
DisposesUnder (Some text) mail disposition = DisposesBy text mail disposition

-- no script is run on a message that may go round in a loop
abbrev pub DisposesUnlessLooping : Bool → Option (List ℕ) → MailSpec → Disposition → Type 0
DisposesUnlessLooping true text mail disposition = disposition ≡ Tells loop_text
DisposesUnlessLooping false text mail disposition = DisposesUnder text mail disposition

-- nor on one with a long header, none of whose fields is looked at
abbrev pub DisposesUnlessLong : Bool → Option (List ℕ) → MailSpec → Disposition → Type 0
DisposesUnlessLong true text mail disposition = disposition ≡ Tells long_text
DisposesUnlessLong false text mail disposition = DisposesUnlessLooping (is_looping mail) text mail disposition

-- what becomes of a message under the active text, if there is one: a notice for a long header, else for more than 100 Received fields,
-- else for a text that means no tree, or a run that failed; else the run's actions, and without a text the implicit keep
abbrev pub Disposes : Option (List ℕ) → MailSpec → Disposition → Type 0
Disposes text mail disposition = DisposesUnlessLong (has_long_header mail.octets) text mail disposition

-- ---- the response to the sender

-- no `vacation` was executed; a reason stands against a response; there is no room for one in the queue; or a response with these
-- octets is sent, known by this key, and this moment is kept
pub data Response : Type 0 where
  Silent : Response
  NoRoom : Response
  Quiet : Reason → Response
  Sent : (key octets : List ℕ) → (kept : ℕ) → Response

-- a response is sent where there is room for one
abbrev pub Sends : Addr → ℕ → MailSpec → VacationArgs → Option ℕ → ℕ → Response → Type 0
Sends own moment mail args last zero response = response ≡ NoRoom
Sends own moment mail args last (suc room) response =
    (reply : List ℕ) × (IsVacationReply args mail own moment reply × (response ≡ Sent (handle_key_of (handle_of args)) reply (latest last moment)))

-- what is answered where the decision on a response is made; last is the moment that is kept under its key
abbrev pub FollowsDecision : Addr → ℕ → MailSpec → VacationArgs → Option ℕ → ℕ → ReplyDecision → Response → Type 0
FollowsDecision own moment mail args last room D.Send response = Sends own moment mail args last room response
FollowsDecision own moment mail args last room (D.Quiet reason) response = response ≡ Quiet reason

-- what the sender is answered by the user with this address at this moment; last gives the moment that is kept under a key, and room is
-- how many rows may join the queue
abbrev pub Responds : Addr → ℕ → MailSpec → (List ℕ → Option ℕ) → ℕ → Option VacationArgs → Response → Type 0
Responds own moment mail last room None response = response ≡ Silent
Responds own moment mail last room (Some args) response =
    FollowsDecision own moment mail args (last (handle_key_of (handle_of args))) room (decision_of args mail own (last (handle_key_of (handle_of args))) moment) response

-- ---- the account afterwards

-- the message is queued for each of the addresses, in order
abbrev pub redirects : MailSpec → List Addr → Account → Account
redirects mail targets a = fold (λ b target. queues kind.Redirect mail.from (address_spelling target) mail.octets b) a targets

-- the message goes into INBOX too, without flags, unless it does so already
abbrev pub with_inbox : List Placement → List Placement
with_inbox filed = cond (is_filed filed inbox) filed (filed ++ unflagged_copy inbox ∷ [])

-- what is done of the deeds: the message goes to those addresses to which it wasn't sent before, as far as the limits let it; where it
-- doesn't go to one it is in INBOX, once
abbrev pub done_of : Account → MailSpec → Actions → Actions
done_of a mail deeds =
    let going = going a mail deeds.sent in
    record { filed = cond (nat_lt (length going) (length deeds.sent)) (with_inbox deeds.filed) deeds.filed; sent = going; reply = deeds.reply }

-- why it doesn't go to one
abbrev pub held_of : Account → MailSpec → Actions → Option (List ℕ)
held_of a mail deeds = held_notice (limits a mail) (length deeds.sent) (length (fresh a mail deeds.sent))

-- what is over is forgotten, and what was sent on is remembered
abbrev pub remembers_going : MailSpec → List Addr → List ReplyKey → Account → Account
remembers_going mail going over a = keeps_sent (redirect_key mail) mail.moment (kept_handles mail going) (forgets over a)

-- a copy of the message joins the end of each folder, with its flags, then the message is queued, and that is remembered
abbrev pub acts : MailSpec → Actions → List ReplyKey → Account → Account
acts mail deeds over a = remembers_going mail deeds.sent over (redirects mail deeds.sent (files_copies deeds.filed mail.octets a))

-- a response is queued for the sender, and a moment is kept; nothing is kept of one that isn't sent
abbrev pub responds : MailSpec → Response → Account → Account
responds mail Silent a = a
responds mail NoRoom a = a
responds mail (Quiet reason) a = a
responds mail (Sent key reply moment) a = remembers key mail.from moment (queues kind.Reply [] mail.from reply a)

-- ---- what is reported

abbrev pub vacation_report : Response → VacationReport
vacation_report Silent = V.None
vacation_report NoRoom = V.Quiet 10
vacation_report (Quiet reason) = V.Quiet (reason_number reason)
vacation_report (Sent key reply moment) = V.Sent

abbrev pub report_of : Actions → Response → Option (List ℕ) → Report
report_of deeds response notice =
    record { filed = map (λ f. f.mailbox) deeds.filed; sent = map address_spelling deeds.sent; vacation = vacation_report response; notice = notice }

abbrev pub notice_report : List ℕ → Report
notice_report text = record { filed = inbox ∷ []; sent = []; vacation = V.None; notice = Some text }

-- ---- a delivery

-- the deeds are carried out as far as mail may be sent on, the sender is answered, and the user is told where it wasn't
pub record CarriesOut (own : Addr) (moment : ℕ) (mail : MailSpec) (deeds : Actions) (a : Account) (report : Report) (a2 : Account) : Type 0 where
  pub response : Response
  pub is_response : Responds own moment mail (last_reply a mail.from) (room_in a - length (done_of a mail deeds).sent) deeds.reply response
  pub reported : report ≡ report_of (done_of a mail deeds) response (held_of a mail deeds)
  pub changed : a2 ≡ adds_notice_if_any moment (held_of a mail deeds) (responds mail response (acts mail (done_of a mail deeds) (over_keys a moment) a))

-- the message is filed into INBOX, and a notice is added to the others; nothing is sent
pub record LeavesNotice (moment : ℕ) (mail : MailSpec) (text : List ℕ) (a : Account) (report : Report) (a2 : Account) : Type 0 where
  pub reported : report ≡ notice_report text
  pub changed : a2 ≡ adds_notice moment text (files_copies (unflagged_copy inbox ∷ []) mail.octets a)

-- a delivery that comes to this: the actions are carried out, or a notice is left
abbrev pub DeliversAs : Addr → ℕ → MailSpec → Disposition → Account → Report → Account → Type 0
DeliversAs own moment mail (Acts deeds) a report a2 = CarriesOut own moment mail deeds a report a2
DeliversAs own moment mail (Tells text) a report a2 = LeavesNotice moment mail text a report a2

-- a mail is delivered at its moment to an account with this address, given the text of its active script, if one is active:
-- what it reports, and the account afterwards
pub record Delivers (own : Addr) (mail : MailSpec) (text : Option (List ℕ)) (a : Account) (report : Report) (a2 : Account) : Type 0 where
  pub disposition : Disposition
  pub disposes : Disposes text mail disposition
  pub delivers : DeliversAs own mail.moment mail disposition a report a2
