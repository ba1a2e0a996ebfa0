use Rattle.sieve_plan.proofs.InboxLaws.{told_and_in_inbox}
use Rattle.sieve_plan.proofs.SequenceLaws.{none_undoes, once_over_all, host_work_bounded}
use Rattle.sieve_plan.proofs.laws.scripts_in_sequence.Goals as goal

pub returns-clause-stands : goal.returns-clause-stands
returns-clause-stands c = none_undoes

pub returns-clause-once : goal.returns-clause-once
returns-clause-once c = once_over_all

pub returns-clause-work : goal.returns-clause-work
returns-clause-work c = host_work_bounded

pub returns-clause-told : goal.returns-clause-told
returns-clause-told c = told_and_in_inbox
