-- What is answered of what is kept is answered of what came.
use Rattle.std.proofs.Common.{◌≡◌, List, ℕ, Err, IfErr, subst, sym, rules}
use Rattle.std.proofs.lemmas.Result.{IfErr-weaker, IfOk-weaker}
use Rattle.store_engine.specs.Terms.{terms_of}
use Rattle.cli_run.specs.Faults.{IsUnanswered}
use Rattle.cli_run.specs.KeptInputs.{KeepsInput}
use Rattle.cli_run.specs.TryScript.{AnswersInput, HasNoAnswer, IsNoInput, OfInput}
use Rattle.cli_run.proofs.FrontLemmas.{not_read, of_input, unanswered}
use Rattle.cli_run.proofs.try_script.answer_of.Goals as goal

pub returns-in_err-front-clause-none : goal.returns-in_err-front-clause-none
returns-in_err-front-clause-none g c =
    let given = g.R.Read.remaining c.args.input.now in
    let fault = c.in_err-front.field-0.0 in
    let is : c.from_residual.result ≡ Err fault = search rules in
    subst (λ r. IfErr r (HasNoAnswer given)) (sym is) (not_read given fault c.in_err-front.ensures.err c.in_err-front.ensures.failed)

pub returns-clause-answer : goal.returns-clause-answer
returns-clause-answer g c =
    let front = c.in_ok-front.front in
    let given = g.R.Read.remaining c.args.input.now in
    IfOk-weaker c.answer_to.result
    (λ answer. (came : List ℕ) → KeepsInput came front.octets.items front.count → AnswersInput c.args.envelope (terms_of c.args.terms) came answer)
    (λ answer. OfInput given (λ came. AnswersInput c.args.envelope (terms_of c.args.terms) came answer))
    (λ answer so. of_input given (λ came. KeepsInput came front.octets.items front.count) (λ came. AnswersInput c.args.envelope (terms_of c.args.terms) came answer) so c.in_ok-front.ensures.ok)
    c.answer_to.ensures.answer

pub returns-clause-none : goal.returns-clause-none
returns-clause-none g c =
    let front = c.in_ok-front.front in
    let given = g.R.Read.remaining c.args.input.now in
    IfErr-weaker c.answer_to.result
    (λ fault. (came : List ℕ) → KeepsInput came front.octets.items front.count → IsUnanswered (IsNoInput came) fault)
    (HasNoAnswer given)
    (λ fault so. unanswered given front.octets.items front.count c.in_ok-front.ensures.ok fault so)
    c.answer_to.ensures.none
