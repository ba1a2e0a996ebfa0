-- Without memory nothing is shown.
use Rattle.std.proofs.Common.{refl, inl, inr}
use Rattle.cli_run.specs.Faults.{memory}
use Rattle.cli_run.proofs.WordLemmas.{kept_same}
use Rattle.cli_run.proofs.run.tell.Goals as goal

pub returns-then-eq : goal.returns-then-eq
returns-then-eq g c = inr (inr (record { fault = memory; cause = inl (refl, kept_same (g.W.Write.contents c.args.output.now)); ended = c.refuse.ensures.status; told = c.refuse.ensures.line }))

pub returns-in_default : goal.returns-in_default
returns-in_default g c = inr (inr (record { fault = memory; cause = inl (refl, kept_same (g.W.Write.contents c.args.output.now)); ended = c.refuse-in_default.ensures.status; told = c.refuse-in_default.ensures.line }))
