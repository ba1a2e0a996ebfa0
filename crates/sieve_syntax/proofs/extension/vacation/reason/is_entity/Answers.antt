use Rattle.std.proofs.Common.{sym, ◌∙◌}
use Rattle.sieve_syntax.proofs.ReasonLemmas.{entity_step, entity_stop}
use Rattle.sieve_syntax.proofs.extension.vacation.reason.is_entity.Goals as goal

pub returns-then-not-is_mime_line : goal.returns-then-not-is_mime_line
returns-then-not-is_mime_line c = entity_stop _ _ _ c.logical_line.ensures (sym c.in_default.ensures) (sym c.if-not-is_mime_line.ensures) ∙ c.loop-rest.invariant

pub loop-rest-preserved : goal.loop-rest-preserved
loop-rest-preserved c = entity_step _ _ _ c.logical_line.ensures (sym c.in_default.ensures) (sym c.if-not-is_mime_line.ensures) ∙ c.loop-rest.invariant
