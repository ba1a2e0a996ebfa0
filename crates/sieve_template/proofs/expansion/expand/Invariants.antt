use Rattle.std.proofs.Common.{◌≡◌, take}
use Rattle.sieve_template.specs.Expansion.{expanded_text}
use Rattle.sieve_template.proofs.expansion.expand.Given as goal

abbrev pub invariant-loop-piece : goal.invariant-loop-piece
invariant-loop-piece g l =
    l.text ≡ expanded_text (g.V.Variables.variable l.variables) (g.V.Variables.capture l.variables) (g.V.Variables.namespaced l.variables) (take l.piece-index l.pieces)
