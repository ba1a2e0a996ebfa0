use Rattle.std.proofs.Common.{sym, ap, ◌∙◌, ◌∷◌, Some}
use Rattle.smtp_dialogue.proofs.MailboxLemmas.{some_by, none_by, closes_back, closes_forth, one_close, same_host}
use Rattle.smtp_dialogue.proofs.mailbox.behind_quoted.Goals as goal

pub returns-in-Some-clause-found : goal.returns-in-Some-clause-found
returns-in-Some-clause-found c =
    some_by c.strip.result c.strip.ensures.found (λ host is. closes_back c.args.inner.now (64 ∷ host.now) (sym c.in-Some.ensures ∙ ap (λ t. Some t) is))

pub returns-in-Some-clause-one : goal.returns-in-Some-clause-one
returns-in-Some-clause-one c =
    some_by c.strip.result c.strip.ensures.found (λ host is other closes.
    same_host host.now other (sym is ∙ one_close c.args.inner.now c.in-Some.behind.now other (sym c.in-Some.ensures) closes))

pub returns-in-Some-clause-none : goal.returns-in-Some-clause-none
returns-in-Some-clause-none c =
    none_by c.strip.result c.strip.ensures.none (λ none host closes. none host (one_close c.args.inner.now c.in-Some.behind.now host (sym c.in-Some.ensures) closes))

pub returns-in-None-clause-none : goal.returns-in-None-clause-none
returns-in-None-clause-none c = λ host closes. let no = c.in-None.ensures ∙ closes_forth c.args.inner.now (64 ∷ host) closes in absurd (cc no)
