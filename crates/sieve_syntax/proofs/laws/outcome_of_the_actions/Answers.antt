use Rattle.std.proofs.Common.{◌∙◌}
use Rattle.sieve_syntax.proofs.LookingLemmas.{outcome_looking}
use Rattle.sieve_syntax.proofs.TraceLemmas.{outcome_in_turn}
use Rattle.sieve_syntax.proofs.laws.outcome_of_the_actions.Goals as goal

pub returns : goal.returns
returns c = λ asking truth tree only. outcome_looking asking truth tree only ∙ outcome_in_turn truth tree
