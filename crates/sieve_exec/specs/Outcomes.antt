-- The outcome of a script on a mail.
use Rattle.std.specs.Prelude.{ℕ}
use Rattle.sieve_syntax.specs.RunState.{at_first}
use Rattle.sieve_syntax.specs.Tree.{Commands}
use Rattle.sieve_syntax.specs.Meaning.{asking_at, Outcome}
use Rattle.sieve_syntax.specs.Work.{all_take, outcome_within}
use Rattle.sieve_exec.specs.Mails.{MailSpec}
use Rattle.sieve_exec.specs.Truth.{truth_at}
use Rattle.sieve_exec.specs.Work.{work_at}

-- the outcome of a script, if its tests have the truth and the work that they have for the mail and what the run has done by then: they only
-- look, and change nothing
abbrev pub outcome_at : MailSpec → Commands → Outcome
outcome_at mail tree = outcome_within (asking_at (truth_at mail)) (work_at mail) tree

-- the work that it takes
abbrev pub work_of : MailSpec → Commands → ℕ
work_of mail tree = all_take (asking_at (truth_at mail)) (work_at mail) tree at_first
