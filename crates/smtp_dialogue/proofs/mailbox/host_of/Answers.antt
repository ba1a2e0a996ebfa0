use Rattle.std.proofs.Common.{sym, subst}
use Rattle.smtp_dialogue.specs.Mailboxes.{CutsLocal}
use Rattle.smtp_dialogue.proofs.MailboxLemmas.{some_by, none_by, quoted_cut, cut_quoted, cut_dotted}
use Rattle.smtp_dialogue.proofs.mailbox.host_of.Goals as goal

pub returns-in-Some-clause-found : goal.returns-in-Some-clause-found
returns-in-Some-clause-found c =
    some_by c.behind_quoted.result c.behind_quoted.ensures.found (λ host is.
    subst (λ t. CutsLocal t host.now) (sym c.in-Some.ensures.found) (quoted_cut c.in-Some.inner.now host.now is))

pub returns-in-Some-clause-one : goal.returns-in-Some-clause-one
returns-in-Some-clause-one c =
    some_by c.behind_quoted.result c.behind_quoted.ensures.one (λ host one other is.
    one other (cut_quoted c.in-Some.inner.now other (subst (λ t. CutsLocal t other) c.in-Some.ensures.found is)))

pub returns-in-Some-clause-none : goal.returns-in-Some-clause-none
returns-in-Some-clause-none c =
    none_by c.behind_quoted.result c.behind_quoted.ensures.none (λ none host is.
    none host (cut_quoted c.in-Some.inner.now host (subst (λ t. CutsLocal t host) c.in-Some.ensures.found is)))

pub returns-in-None-clause-one : goal.returns-in-None-clause-one
returns-in-None-clause-one c =
    some_by c.behind_dotted.result c.behind_dotted.ensures.one (λ host one other is. one other (cut_dotted c.args.text.now other c.in-None.ensures.none is))

pub returns-in-None-clause-none : goal.returns-in-None-clause-none
returns-in-None-clause-none c =
    none_by c.behind_dotted.result c.behind_dotted.ensures.none (λ none host is. none host (cut_dotted c.args.text.now host c.in-None.ensures.none is))
