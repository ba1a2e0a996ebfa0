-- Without an answer nothing is written.
use Rattle.std.proofs.Common.{rules}
use Rattle.store_engine.specs.Terms.{terms_of}
use Rattle.cli_run.proofs.FrontLemmas.{leaves_nothing}
use Rattle.cli_run.proofs.try_script.print_answer.Goals as goal

pub returns-in_err-answer-clause-leaves : goal.returns-in_err-answer-clause-leaves
returns-in_err-answer-clause-leaves g c =
    leaves_nothing c.args.envelope (terms_of c.args.terms) (g.R.Read.remaining c.args.input.now) (g.W.Write.contents c.args.output.now) c.in_err-answer.field-0.0 c.from_residual.result (search rules) c.in_err-answer.ensures.none
