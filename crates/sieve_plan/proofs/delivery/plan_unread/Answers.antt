use Rattle.std.proofs.Common.{ℕ, List, Option}
use Rattle.std.proofs.lemmas.Result.{IfOk-weaker}
use Rattle.mail_address.specs.declared.address.Addr.{Addr}
use Rattle.sieve_exec.specs.Mails.{mail_spec_of}
use Rattle.store_accounts.specs.Account.{Account, delivers}
use Rattle.sieve_plan.specs.declared.scripts.HostScripts.{HostScripts}
use Rattle.sieve_plan.specs.Delivered.{long_text}
use Rattle.sieve_plan.specs.Plans.{IsNoticePlan}
use Rattle.sieve_plan.specs.Sequences.{DeliversInSequence}
use Rattle.sieve_plan.proofs.SequencePlanLemmas.{unread}
use Rattle.sieve_plan.proofs.delivery.plan_unread.Goals as goal

pub returns : goal.returns
returns c =
    IfOk-weaker c.tell.result (IsNoticePlan c.args.when.moment c.args.message.now long_text)
    (λ plan. (own : Addr) (host : HostScripts) (text : Option (List ℕ)) (a : Account)
    → DeliversInSequence own host (mail_spec_of c.args.message.now c.args.envelope.now c.args.when) text a plan.report (delivers plan a))
    (λ plan is own host text a. unread own host (mail_spec_of c.args.message.now c.args.envelope.now c.args.when) text plan a c.requires is)
    c.tell.ensures
