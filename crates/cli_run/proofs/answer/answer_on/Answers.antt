use Rattle.std.proofs.Common.{◌≡◌, List, ℕ, refl, subst, sym}
use Rattle.std.proofs.lemmas.Result.{IfOk-weaker}
use Rattle.sieve_plan.specs.SequencePlans.{settled_of}
use Rattle.store_engine.specs.Terms.{terms_of}
use Rattle.cli_reports.specs.Reports.{settled_report}
use Rattle.cli_run.specs.declared.answer.TryAnswer.TheVariants.{Report}
use Rattle.cli_run.specs.Framing.{IsFramed}
use Rattle.cli_run.specs.KeptInputs.{IsMessagePrefix}
use Rattle.cli_run.specs.TryScript.{AnswersInput}
use Rattle.cli_run.proofs.answer.answer_on.Goals as goal

pub returns-in-Ok-clause-answer : goal.returns-in-Ok-clause-answer
returns-in-Ok-clause-answer c =
    IfOk-weaker c.report.result
    (λ answer. answer ≡ Report (settled_report (settled_of c.in-Ok.settlement)))
    (λ answer. (input message : List ℕ) → IsFramed input c.args.script.now message → IsMessagePrefix c.args.front.now c.args.count message → AnswersInput c.args.envelope (terms_of c.args.terms) input answer)
    (λ answer is input message framed stands. subst (AnswersInput c.args.envelope (terms_of c.args.terms) input) (sym is) (record {
      script = c.args.script.now;
      message = message;
      framed = framed;
      valid = c.in-Ok.ensures.valid;
      settled = settled_of c.in-Ok.settlement;
      settles = c.in-Ok.ensures.done message stands;
      told = refl;
    }))
    c.report.ensures.report
