-- What scripts come to depends on the fields and the size alone.
use Rattle.std.proofs.Common.{◌≡◌, ℕ, List, Some, IfOk, subst}
use Rattle.std.proofs.lemmas.Result.{IfOk-weaker}
use Rattle.mail_head.specs.Heads.{size_of}
use Rattle.mail_head.specs.Prefixes.{IsHeaderPrefix}
use Rattle.sieve_exec.specs.Mails.{MailSpec, mail_spec_of, with_size}
use Rattle.sieve_plan.specs.Sequences.{SettlesInTurn, at_beginning, sequence_of}
use Rattle.sieve_plan.specs.SequencePlans.{settled_of}
use Rattle.store_accounts.specs.Cells.{borrowed_octets}
use Rattle.store_engine.specs.AccountEvents.{script_or_default}
use Rattle.store_engine.specs.Attempts.{SettlesUnderTerms}
use Rattle.store_engine.specs.Terms.{terms_of}
use Rattle.store_engine.proofs.SequenceFrontLemmas.{settles_of_front}
use Rattle.store_engine.proofs.attempting.attempt_on_prefix.Goals as goal

pub returns-clause-valid : goal.returns-clause-valid
returns-clause-valid c = c.settle_on.ensures.valid

pub returns-clause-done : goal.returns-clause-done
returns-clause-done c =
    let envelope = c.args.envelope in
    let when = c.args.terms.when in
    let front = c.args.front.now in
    let host = c.args.terms.host.now in
    let scripts = sequence_of host.scripts (script_or_default (borrowed_octets c.args.own) host.default) in
    IfOk-weaker c.settle_on.result
    (λ done. SettlesInTurn (with_size (Some c.args.size) (mail_spec_of front envelope when)) scripts at_beginning (settled_of done))
    (λ done. (message : List ℕ) → IsHeaderPrefix front message → c.args.size ≡ size_of message
    → SettlesUnderTerms (terms_of c.args.terms) envelope (borrowed_octets c.args.own) message (settled_of done))
    (λ done so message has is. settles_of_front envelope when front message c.args.size scripts at_beginning (settled_of done) has is so)
    (subst (λ (mail : MailSpec). IfOk c.settle_on.result (λ done. SettlesInTurn mail scripts at_beginning (settled_of done))) c.in_ok-known.ensures c.settle_on.ensures.done)

pub returns-clause-fault : goal.returns-clause-fault
returns-clause-fault c = c.settle_on.ensures.fault

pub returns-clause-line : goal.returns-clause-line
returns-clause-line c = c.settle_on.ensures.line
