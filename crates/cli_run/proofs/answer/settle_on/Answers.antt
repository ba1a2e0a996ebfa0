-- The script of the length 0 is none, and a prefix that decides stands for the message.
use Rattle.std.proofs.Common.{ℕ, List, subst}
use Rattle.std.proofs.lemmas.Result.{IfOk-weaker}
use Rattle.mail_head.specs.Prefixes.{IsHeaderPrefix}
use Rattle.mail_head.specs.SizeCounts.{CountsSize}
use Rattle.sieve_plan.specs.SequencePlans.{settled_of}
use Rattle.store_accounts.specs.Cells.{borrowed_octets}
use Rattle.store_engine.specs.Attempts.{SettlesUnderTerms}
use Rattle.store_engine.specs.Terms.{terms_of}
use Rattle.cli_run.specs.KeptInputs.{IsMessagePrefix}
use Rattle.cli_run.specs.TryScript.{own_script}
use Rattle.cli_run.proofs.OwnLemmas.{fault_of_own}
use Rattle.cli_run.proofs.answer.settle_on.Goals as goal

pub returns-in-Some-clause-done : goal.returns-in-Some-clause-done
returns-in-Some-clause-done c =
    let front = c.args.front.now in
    IfOk-weaker c.attempt_on_prefix.result
    _
    (λ done. (message : List ℕ) → IsMessagePrefix front c.args.count message → SettlesUnderTerms (terms_of c.args.terms) c.args.envelope (own_script c.args.script.now) message (settled_of done))
    (λ done so message stands.
    let both : IsHeaderPrefix front message × CountsSize message c.in-Some.count = subst (λ count. IsMessagePrefix front count message) c.in-Some.is stands in
    subst (λ own. SettlesUnderTerms (terms_of c.args.terms) c.args.envelope own message (settled_of done)) c.own_of-own.ensures (so message both.0 (c.size.ensures.counted message both.1)))
    c.attempt_on_prefix.ensures.done

pub returns-in-Some-clause-fault : goal.returns-in-Some-clause-fault
returns-in-Some-clause-fault c = fault_of_own c.args.script.now (borrowed_octets c.own_of-own.result) c.attempt_on_prefix.result c.own_of-own.ensures c.attempt_on_prefix.ensures.fault

pub returns-in-None-clause-fault : goal.returns-in-None-clause-fault
returns-in-None-clause-fault c = fault_of_own c.args.script.now (borrowed_octets c.own_of-own.result) c.attempt.result c.own_of-own.ensures c.attempt.ensures.fault
