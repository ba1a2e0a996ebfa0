-- What is kept stands for what came.
use Rattle.std.proofs.Common.{List, ℕ, sym, subst}
use Rattle.std.proofs.lemmas.Result.{IfOk-weaker}
use Rattle.store_engine.specs.Terms.{terms_of}
use Rattle.cli_run.specs.Framing.{IsFramed}
use Rattle.cli_run.specs.KeptInputs.{KeepsInput, IsMessagePrefix}
use Rattle.cli_run.specs.TryScript.{AnswersInput}
use Rattle.cli_run.proofs.FrontLemmas.{stands_for}
use Rattle.cli_run.proofs.answer.answer_to.Goals as goal

pub returns-in-Some-clause-answer : goal.returns-in-Some-clause-answer
returns-in-Some-clause-answer c =
    let script = c.in-Some.framed.script.now in
    let front = c.in-Some.framed.message.now in
    let kept = c.kept.result.now in
    let input = c.args.input.now in
    IfOk-weaker c.answer_on.result
    (λ answer. (came message : List ℕ) → IsFramed came script message → IsMessagePrefix front c.count.result message → AnswersInput c.args.envelope (terms_of c.args.terms) came answer)
    (λ answer. (came : List ℕ) → KeepsInput came input.octets.items input.count → AnswersInput c.args.envelope (terms_of c.args.terms) came answer)
    (λ answer so came keeps.
    let here = subst (λ n. KeepsInput came kept n) (sym c.count.ensures) (subst (λ t. KeepsInput came t input.count) (sym c.kept.ensures) keeps) in
    let (message, whole, stands) = stands_for came kept script front c.count.result c.in-Some.ensures.found c.in-Some.ensures.only here in
    so came message whole stands)
    c.answer_on.ensures.answer
