-- What the host's scripts and the user's come to, as the code has it, and plans of deliveries by them.
use Rattle.std.specs.Prelude.{◌≡◌, ◌-◌, ℕ, length, List, Option, None, Some}
use Rattle.sieve_exec.specs.Mails.{MailSpec}
use Rattle.store_accounts.specs.declared.report.Plan.{Plan}
use Rattle.sieve_plan.specs.declared.notice.FailureNotice.{FailureNotice}
use Rattle.sieve_plan.specs.declared.notice.FailureNotice.TheVariants.{Loop, Script}
use Rattle.sieve_plan.specs.declared.settlement.Settlement.{Settlement}
use Rattle.sieve_plan.specs.declared.view.AccountView.{AccountView}
use Rattle.sieve_plan.specs.Delivered.{Response, Responds, loop_text, report_of}
use Rattle.sieve_plan.specs.Plans.{IsMemoryOf, deeds_by, deeds_in, filed_by, going_by, notice_by, notice_cause_text, reply_of}
use Rattle.sieve_plan.specs.Sequences.{Settled, notice_left, forgotten_unless, told_of}

-- ---- what they come to

-- the notice, and that of a failure, if there was one
abbrev pub failure_notice_text : FailureNotice → List ℕ
failure_notice_text Loop = loop_text
failure_notice_text (Script whose cause) = told_of whose (notice_cause_text cause)

abbrev pub notice_of : Option FailureNotice → Option (List ℕ)
notice_of None = None
notice_of (Some why) = Some (failure_notice_text why)

abbrev pub settled_of : Settlement → Settled
settled_of settlement = record { deeds = deeds_in settlement.deeds; notice = notice_of settlement.notice }

-- ---- plans

-- a plan that carries out what the host's scripts and the user's come to, as far as the view lets it, and a response to the sender
pub record IsSettledPlan (view : AccountView) (mail : MailSpec) (settled : Settled) (plan : Plan) : Type 0 where
  pub response : Response
  pub is_response : Responds view.address mail.moment mail (λ key. view.last) (view.room - length (going_by view mail settled.deeds)) settled.deeds.reply response
  pub message : plan.message.now ≡ mail.octets
  pub sender : plan.sender.now ≡ mail.from
  pub at : plan.moment ≡ mail.moment
  pub filed : plan.filed ≡ filed_by view mail settled.deeds
  pub report : plan.report ≡ report_of (deeds_by view mail settled.deeds) response (notice_left settled.notice (notice_by view mail settled.deeds))
  pub memory : IsMemoryOf (forgotten_unless settled.notice view.over) mail (going_by view mail settled.deeds) plan.memory
  pub reply : plan.reply ≡ reply_of response
