use Rattle.std.proofs.Common.{◌≡◌, Some, option_copied, ap, ◌∙◌}
use Rattle.sieve_vacation.specs.Reasons.{decision_of}
use Rattle.store_accounts.specs.declared.report.VacationReport.TheVariants as V
use Rattle.sieve_plan.specs.Plans.{unsent_plan}
use Rattle.sieve_plan.proofs.VacationLemmas.{answering, staying_quiet}
use Rattle.sieve_plan.proofs.vacation.plan_vacation.Goals as goal

pub returns-in-Send : goal.returns-in-Send
returns-in-Send c =
    let there : option_copied c.args.reply ≡ Some c.in-Some.args.now = ap option_copied c.in-Some.is in
    answering c.args.own.now c.args.mail.now c.args.last c.args.room (option_copied c.args.reply) c.in-Some.args.now there
    c.in_ok-addressed.addressed c.send_in.result c.in_ok-addressed.ensures (c.in-Send.ensures ∙ ap (λ m. decision_of c.in-Some.args.now c.in_ok-addressed.addressed c.args.own.now c.args.last m) c.moment.ensures) c.send_in.ensures.crowded c.send_in.ensures.sends

pub returns : goal.returns
returns c =
    let there : option_copied c.args.reply ≡ Some c.in-Some.args.now = ap option_copied c.in-Some.is in
    staying_quiet c.args.own.now c.args.mail.now c.args.last c.args.room (option_copied c.args.reply) c.in-Some.args.now there
    c.in_ok-addressed.addressed c.in-Quiet.reason c.unsent-in-Quiet.result c.in_ok-addressed.ensures (c.in-Quiet.ensures ∙ ap (λ m. decision_of c.in-Some.args.now c.in_ok-addressed.addressed c.args.own.now c.args.last m) c.moment.ensures)
    (c.unsent-in-Quiet.ensures ∙ ap (λ n. unsent_plan (V.Quiet n)) c.number.ensures)
