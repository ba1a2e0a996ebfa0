use Rattle.sieve_plan.proofs.OverLaws.{over_is_far}
use Rattle.sieve_plan.proofs.SentLaws.{at_most_16, goes_once, keeps_going}
use Rattle.sieve_plan.proofs.laws.sent_on_within_bounds.Goals as goal

pub returns-clause-often : goal.returns-clause-often
returns-clause-often c = at_most_16

pub returns-clause-once : goal.returns-clause-once
returns-clause-once c = goes_once

pub returns-clause-kept : goal.returns-clause-kept
returns-clause-kept c = keeps_going

pub returns-clause-over : goal.returns-clause-over
returns-clause-over c = over_is_far
