use Rattle.std.proofs.Common.{◌≡◌, length, map, refl, ap, ◌∙◌}
use Rattle.mail_address.specs.Spelling.{address_spelling}
use Rattle.store_accounts.specs.Cells.{borrowed_octets}
use Rattle.store_accounts.specs.declared.report.Plan.{Plan}
use Rattle.sieve_plan.specs.Sent.{limits_by, not_among}
use Rattle.sieve_plan.specs.SequencePlans.{settled_of}
use Rattle.sieve_plan.specs.Plans.{fresh_by, limits_in, limits_of}
use Rattle.sieve_plan.proofs.PlanLemmas.{acted}
use Rattle.sieve_plan.proofs.SequencePlanLemmas.{settling}
use Rattle.sieve_plan.proofs.delivery.plan.Goals as goal

pub returns : goal.returns
returns c a of =
    let view = c.args.view in
    let mail = c.args.mail.now in
    let settled = settled_of c.args.settlement in
    let deeds = settled.deeds in
    let found : c.in_ok-fresh.fresh ≡ map address_spelling (fresh_by view deeds) =
    c.in_ok-fresh.ensures ∙ (ap (λ known. map address_spelling (not_among known c.as_slice-2.result.now)) c.as_slice.ensures ∙ ap (λ targets. map address_spelling (not_among view.known targets)) c.as_slice-2.ensures) in
    let limited : limits_of c.new-limits.result ≡ limits_in view mail =
    c.new-limits.ensures ∙ (ap (λ size. limits_by view.room size c.len.result) (ap length c.message.ensures) ∙ ap (limits_by view.room (length mail.octets)) c.len.ensures) in
    let filed = rw (c.len-4.ensures, c.len-5.ensures) at c.in_ok-filed.ensures in
    let held = rw (c.len-2.ensures, c.len-3.ensures) at c.held_notice-held.ensures in
    let answer = rw (c.saturating_sub-left.ensures, c.len-6.ensures, c.as_ref.ensures.value) at c.in_ok-vacation.ensures in
    let remembers = rw (c.as_slice-4.ensures, c.forgotten_unless-over.ensures) at c.in_ok-memory.ensures in
    let names : c.in_ok-names.names ≡ map (λ f. f.mailbox) c.in_ok-filed.filed = rw c.as_slice-3.ensures at c.in_ok-names.ensures in
    let told = c.in_ok-notice.ensures in
    let plan : Plan =
    record {
      message = c.message-2.result;
      sender = c.from.result;
      moment = c.moment.result;
      filed = c.in_ok-filed.filed;
      report = record { filed = c.in_ok-names.names; sent = c.let_through-going.result; vacation = c.in_ok-vacation.field-0.vacation; notice = c.in_ok-notice.notice };
      memory = c.in_ok-memory.memory;
      reply = c.in_ok-vacation.field-0.reply;
    } in
    let is =
    acted view mail deeds c.in_ok-fresh.fresh c.let_through-going.result (limits_of c.new-limits.result) found limited (record { texts = c.let_through-going.ensures })
    settled.notice c.in_ok-filed.filed (borrowed_octets c.held_notice-held.result) c.in_ok-memory.memory c.in_ok-vacation.field-0 plan filed held answer remembers
    c.message-2.ensures c.from.ensures c.moment.ensures refl refl refl
    (λ i. record { filed = names i; sent = c.let_through-going.result; vacation = c.in_ok-vacation.field-0.vacation; notice = told i }) in
    settling view mail settled plan a is of
