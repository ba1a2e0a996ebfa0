-- Plans of deliveries, by what they are to do.
use Rattle.std.specs.Prelude.{◌≡◌, ℕ, cond, length, nat_lt, List, [], ◌∷◌, Option, None, Some}
use Rattle.mail_address.specs.declared.address.Addr.{Addr}
use Rattle.mail_flags.specs.declared.placement.Placement.{Placement}
use Rattle.sieve_syntax.specs.RunState.{inbox}
use Rattle.sieve_syntax.specs.Meaning.{Actions}
use Rattle.sieve_syntax.specs.declared.extension.vacation.VacationArgs.{VacationArgs}
use Rattle.sieve_exec.specs.Mails.{MailSpec}
use Rattle.sieve_exec.specs.Runs.{failure_view}
use Rattle.sieve_vacation.specs.Layout.{IsVacationReply}
use Rattle.store_accounts.specs.Account.{latest}
use Rattle.store_accounts.specs.Delivery.{no_memory}
use Rattle.store_accounts.specs.declared.reply.ReplyKey.{ReplyKey}
use Rattle.store_accounts.specs.declared.report.SentMemory.{SentMemory}
use Rattle.store_accounts.specs.declared.report.VacationReply.{VacationReply}
use Rattle.store_accounts.specs.declared.report.Plan.{Plan}
use Rattle.store_accounts.specs.declared.report.VacationReport.{VacationReport}
use Rattle.sieve_plan.specs.declared.deeds.Deeds.{Deeds}
use Rattle.sieve_plan.specs.declared.limits.Limits.{Limits}
use Rattle.sieve_plan.specs.declared.notice.NoticeCause.{NoticeCause}
use Rattle.sieve_plan.specs.declared.notice.NoticeCause.TheVariants.{Invalid, Failed}
use Rattle.sieve_plan.specs.declared.vacation.VacationPlan.{VacationPlan}
use Rattle.sieve_plan.specs.declared.view.AccountView.{AccountView}
use Rattle.sieve_plan.specs.Sent.{full_text, held_notice, kept_handles, large_text, let_through, limits_by, many_text, not_among, redirect_key}
use Rattle.sieve_plan.specs.Delivered.{Response, Silent, NoRoom, Quiet, Sent, Responds, failure_text, invalid_text, vacation_report, notice_report, unflagged_copy, with_inbox}

-- ---- what becomes of a message, as the code has it

-- why a script failed
abbrev pub notice_cause_text : NoticeCause → List ℕ
notice_cause_text Invalid = invalid_text
notice_cause_text (Failed failure) = failure_text (failure_view failure)

abbrev pub deeds_in : Deeds → Actions
deeds_in deeds = record { filed = deeds.filed; sent = deeds.sent; reply = deeds.reply }

-- ---- what a view says of the deeds

-- the limits, as the code has them
abbrev pub limits_of : Limits → List (ℕ × List ℕ)
limits_of limits = (limits.room, full_text) ∷ (limits.by_size, large_text) ∷ (limits.left, many_text) ∷ []

abbrev pub fresh_by : AccountView → Actions → List Addr
fresh_by view deeds = not_among view.known deeds.sent

abbrev pub limits_in : AccountView → MailSpec → List (ℕ × List ℕ)
limits_in view mail = limits_by view.room (length mail.octets) (length view.known)

abbrev pub going_by : AccountView → MailSpec → Actions → List Addr
going_by view mail deeds = let_through (limits_in view mail) (fresh_by view deeds)

abbrev pub filed_by : AccountView → MailSpec → Actions → List Placement
filed_by view mail deeds = cond (nat_lt (length (going_by view mail deeds)) (length deeds.sent)) (with_inbox deeds.filed) deeds.filed

abbrev pub deeds_by : AccountView → MailSpec → Actions → Actions
deeds_by view mail deeds = record { filed = filed_by view mail deeds; sent = going_by view mail deeds; reply = deeds.reply }

abbrev pub notice_by : AccountView → MailSpec → Actions → Option (List ℕ)
notice_by view mail deeds = held_notice (limits_in view mail) (length deeds.sent) (length (fresh_by view deeds))

-- ---- plans

-- what is queued and remembered of a response, if one is sent
abbrev pub reply_of : Response → Option VacationReply
reply_of Silent = None
reply_of NoRoom = None
reply_of (Quiet reason) = None
reply_of (Sent key reply kept) = Some (record { handle = key; message = reply; moment = kept })

-- what is to be done about `vacation`; last is the moment that is kept under its key
pub record IsVacationPlan (own : Addr) (mail : MailSpec) (last : Option ℕ) (room : ℕ) (reply : Option VacationArgs) (plan : VacationPlan) : Type 0 where
  pub response : Response
  pub is_response : Responds own mail.moment mail (λ key. last) room reply response
  pub vacation : plan.vacation ≡ vacation_report response
  pub sent : plan.reply ≡ reply_of response

-- a response with this key is sent; last is the moment that is kept under it
pub record SendsReply (own : Addr) (mail : MailSpec) (args : VacationArgs) (key : List ℕ) (last : Option ℕ) (plan : VacationPlan) : Type 0 where
  pub octets : List ℕ
  pub is_reply : IsVacationReply args mail own mail.moment octets
  pub vacation : plan.vacation ≡ vacation_report (Sent key octets (latest last mail.moment))
  pub sent : plan.reply ≡ reply_of (Sent key octets (latest last mail.moment))

-- no response is sent, and nothing is kept
abbrev pub unsent_plan : VacationReport → VacationPlan
unsent_plan vacation = record { vacation = vacation; reply = None }

-- the message is remembered under the keys of these addresses, if it goes to some; what is over is forgotten
pub record IsMemoryOf (over : List ReplyKey) (mail : MailSpec) (going : List Addr) (memory : SentMemory) : Type 0 where
  pub message : (target : Addr) (more : List Addr) → going ≡ target ∷ more → memory.message ≡ redirect_key mail
  pub handles : memory.handles ≡ kept_handles mail going
  pub forgotten : memory.forgotten ≡ over

-- a plan that files the message into INBOX and leaves a notice
pub record IsNoticePlan (moment : ℕ) (octets text : List ℕ) (plan : Plan) : Type 0 where
  pub message : plan.message.now ≡ octets
  pub at : plan.moment ≡ moment
  pub filed : plan.filed ≡ unflagged_copy inbox ∷ []
  pub report : plan.report ≡ notice_report text
  pub memory : plan.memory ≡ no_memory
  pub reply : plan.reply ≡ None
