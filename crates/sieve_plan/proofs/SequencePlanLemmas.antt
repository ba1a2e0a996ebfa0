-- What a plan of a sequence makes of an account is what a delivery by the sequence makes of it.
use Rattle.std.proofs.Common.{◌≡◌, ◌-◌, ℕ, Bool, true, length, List, Option, refl, ap, sym, ◌∙◌, subst}
use Rattle.std.specs.Prelude.{MatchBool}
use Rattle.mail_address.specs.declared.address.Addr.{Addr}
use Rattle.sieve_syntax.specs.Meaning.{Actions}
use Rattle.sieve_exec.specs.Mails.{MailSpec}
use Rattle.store_accounts.specs.Account.{Account, room_in, adds_notice_if_any, replies_if_any, delivers}
use Rattle.store_accounts.specs.declared.report.Plan.{Plan}
use Rattle.sieve_plan.specs.declared.view.AccountView.{AccountView}
use Rattle.sieve_plan.specs.Sent.{over_keys}
use Rattle.sieve_plan.specs.Views.{IsViewOf, last_reply}
use Rattle.sieve_plan.specs.declared.scripts.HostScripts.{HostScripts}
use Rattle.sieve_plan.specs.Delivered.{Tells, LeavesNotice, Responds, acts, done_of, has_long_header, held_of, is_looping, long_text, loop_text, report_of}
use Rattle.sieve_plan.specs.Plans.{IsMemoryOf, IsNoticePlan, going_by, notice_by, reply_of}
use Rattle.sieve_plan.specs.Sequences.{Settled, settled_unrun, SettlesInTurn, sequence_of, at_beginning, notice_left, forgotten_unless, CarriesOutSettled, DeliversInSequence}
use Rattle.sieve_plan.specs.SequencePlans.{IsSettledPlan}
use Rattle.sieve_plan.proofs.PlanLemmas.{answered, done, done_are, going_are, held_is, responds_along}
use Rattle.sieve_plan.proofs.SequenceLaws.{carries_out}

-- of what the host's scripts and the user's come to
pub settling : (view : AccountView) (mail : MailSpec) (settled : Settled) (plan : Plan) (a : Account)
    → IsSettledPlan view mail settled plan → IsViewOf view mail settled.deeds a → CarriesOutSettled view.address mail.moment mail settled a plan.report (delivers plan a)
settling view mail settled plan a is of =
    let deeds = settled.deeds in
    let going = going_are view mail deeds a of in
    let wanted = done_are view mail deeds a of in
    let notice = notice_left settled.notice (held_of a mail deeds) in
    let over = forgotten_unless settled.notice (over_keys a mail.moment) in
    let held : notice_left settled.notice (notice_by view mail deeds) ≡ notice = ap (notice_left settled.notice) (held_is view mail deeds a of) in
    let reported : plan.report ≡ report_of (done_of a mail deeds) is.response notice =
    is.report ∙ (ap (λ d. report_of d is.response (notice_left settled.notice (notice_by view mail deeds))) wanted ∙ ap (report_of (done_of a mail deeds) is.response) held) in
    let filed : plan.filed ≡ (done_of a mail deeds).filed = is.filed ∙ ap (λ (d : Actions). d.filed) wanted in
    let memory : IsMemoryOf over mail (done_of a mail deeds).sent plan.memory =
    subst (λ l. IsMemoryOf over mail l plan.memory) going (subst (λ o. IsMemoryOf (forgotten_unless settled.notice o) mail (going_by view mail deeds) plan.memory) of.over is.memory) in
    let along = responds_along view mail deeds a of deeds.reply deeds.sent (length (going_by view mail deeds)) is.response of.last of.room is.is_response in
    record {
      response = is.response;
      is_response = subst (λ l. Responds view.address mail.moment mail (last_reply a mail.from) (room_in a - length l) deeds.reply is.response) going along;
      reported = reported;
      changed =
          rw (reported, filed, is.reply, is.sender, is.message, is.at)
          (ap (λ b. adds_notice_if_any mail.moment notice (replies_if_any mail.from (reply_of is.response) b)) (done mail (done_of a mail deeds) over plan.memory a memory)
          ∙ ap (adds_notice_if_any mail.moment notice) (answered mail is.response (acts mail (done_of a mail deeds) over a)));
    }

-- of a message with a long header
telling : (moment : ℕ) (mail : MailSpec) (text : List ℕ) (plan : Plan) (a : Account)
    → IsNoticePlan moment mail.octets text plan → LeavesNotice moment mail text a plan.report (delivers plan a)
telling moment mail text plan a is =
    record { reported = is.report; changed = rw (is.filed, is.report, is.memory, is.reply, is.message, is.at) refl }

pub unread : (own : Addr) (host : HostScripts) (mail : MailSpec) (text : Option (List ℕ)) (plan : Plan) (a : Account)
    → has_long_header mail.octets ≡ true → IsNoticePlan mail.moment mail.octets long_text plan → DeliversInSequence own host mail text a plan.report (delivers plan a)
unread own host mail text plan a long is =
    let P : Bool → Type 0 = λ long. MatchBool long (settled_unrun long_text ≡ settled_unrun long_text)
    (MatchBool (is_looping mail) (settled_unrun long_text ≡ settled_unrun loop_text) (SettlesInTurn mail (sequence_of host text) at_beginning (settled_unrun long_text))) in
    record {
      settled = settled_unrun long_text;
      settles = subst P (sym long) refl;
      delivers = carries_out own mail.moment mail a plan.report (delivers plan a) (Tells long_text) (telling mail.moment mail long_text plan a is);
    }
