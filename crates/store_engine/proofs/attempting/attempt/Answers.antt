use Rattle.std.proofs.Common.{IfOk, subst}
use Rattle.sieve_exec.specs.Mails.{MailSpec}
use Rattle.sieve_plan.specs.Sequences.{SettlesInTurn, at_beginning, sequence_of}
use Rattle.sieve_plan.specs.SequencePlans.{settled_of}
use Rattle.store_accounts.specs.Cells.{borrowed_octets}
use Rattle.store_engine.specs.AccountEvents.{script_or_default}
use Rattle.store_engine.proofs.attempting.attempt.Goals as goal

pub returns-clause-valid : goal.returns-clause-valid
returns-clause-valid c = c.settle_on.ensures.valid

pub returns-clause-done : goal.returns-clause-done
returns-clause-done c =
    let host = c.args.terms.host.now in
    let scripts = sequence_of host.scripts (script_or_default (borrowed_octets c.args.own) host.default) in
    subst (λ (mail : MailSpec). IfOk c.settle_on.result (λ done. SettlesInTurn mail scripts at_beginning (settled_of done))) c.in_ok-mail.ensures c.settle_on.ensures.done

pub returns-clause-fault : goal.returns-clause-fault
returns-clause-fault c = c.settle_on.ensures.fault

pub returns-clause-line : goal.returns-clause-line
returns-clause-line c = c.settle_on.ensures.line
