-- The script was tried with the envelope, or there was no memory for one; or a value of the words is none; or the clock has no moment.
use Rattle.std.proofs.Common.{◌≡◌, Err, inl, inr, refl, ap, ◌∙◌, subst}
use Rattle.store_engine.specs.declared.terms.Terms.{Terms}
use Rattle.cli_run.specs.Faults.{memory, status_of, run_fault_line}
use Rattle.cli_run.specs.Streams.{IsWritten}
use Rattle.cli_run.specs.TryScript.{RunsTry, TriesNothing}
use Rattle.cli_run.specs.declared.fault.RunFault.{RunFault}
use Rattle.cli_run.specs.declared.fault.RunFault.TheVariants.{BadArgument, Stream}
use Rattle.cli_run.proofs.WordLemmas.{kept_same}
use Rattle.cli_run.proofs.run.try_script.Goals as goal
use Rattle.cli_run.specs.Transitions.{from_to}

pub returns-in-Err-clause-runs : goal.returns-in-Err-clause-runs
returns-in-Err-clause-runs g c =
    elim c.in-Err.ensures.fault [
      | inl bad ↦ inr (inl (bad.1, nothing BadArgument bad.0))
      | inr late ↦ inr (inr (late.1, late.2, nothing Stream late.0))
    ]
  where
    nothing : (fault : RunFault) → c.in-Err.fault ≡ fault → TriesNothing fault (from_to (g.W.Write.contents c.args.output.now) (g.W.Write.contents c.args.output.now)) (from_to (g.E.Write.contents c.args.errors.now) (g.E.Write.contents c.refuse.new.errors)) c.refuse.result
    nothing fault is = (c.refuse.ensures.status ∙ ap status_of is, refl, subst (λ (told : RunFault). IsWritten (g.E.Write.contents c.args.errors.now) (g.E.Write.contents c.refuse.new.errors) (run_fault_line told)) is c.refuse.ensures.line)

pub returns-in-Ok-envelope_of-clause-runs : goal.returns-in-Ok-envelope_of-clause-runs
returns-in-Ok-envelope_of-clause-runs g c =
    inl (
      c.in-Ok.terms,
      c.in-Ok.ensures.ok,
      subst (λ envelope. RunsTry envelope c.in-Ok.terms (g.R.Read.remaining c.args.input.now) (from_to (g.W.Write.contents c.args.output.now) (g.W.Write.contents c.try_run.new.output)) (from_to (g.E.Write.contents c.args.errors.now) (g.E.Write.contents c.try_run.new.errors)) c.try_run.result)
          c.in-Ok-envelope_of.ensures
          (subst (λ (terms : Terms). RunsTry c.in-Ok-envelope_of.envelope terms (g.R.Read.remaining c.args.input.now) (from_to (g.W.Write.contents c.args.output.now) (g.W.Write.contents c.try_run.new.output)) (from_to (g.E.Write.contents c.args.errors.now) (g.E.Write.contents c.try_run.new.errors)) c.try_run.result)
          c.lend.ensures.lent c.try_run.ensures.runs),
    )

pub returns-clause-runs : goal.returns-clause-runs
returns-clause-runs g c =
    inl (
      c.in-Ok.terms,
      c.in-Ok.ensures.ok,
      record { ending = Err memory; told = c.refuse-in-Err-envelope_of.ensures.status; left_output = kept_same (g.W.Write.contents c.args.output.now); left_errors = c.refuse-in-Err-envelope_of.ensures.line },
    )
