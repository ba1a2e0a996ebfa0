-- What is left to run gives what the whole code gives, behind the work that was taken.
use Rattle.std.proofs.Common.{◌≡◌, ◌-◌, false, length}
use Rattle.sieve_code.specs.Jumps.{jumps_from}
use Rattle.sieve_syntax.specs.Meaning.{asking_at}
use Rattle.sieve_exec.specs.Truth.{truth_at}
use Rattle.sieve_exec.specs.Work.{work_at}
use Rattle.sieve_exec.specs.Runs.{run_state_of}
use Rattle.sieve_exec.proofs.MachineLemmas.{Gives}
use Rattle.sieve_exec.proofs.machine.run_from.Given as goal

abbrev pub invariant-loop-place : goal.invariant-loop-place
invariant-loop-place l = record {
  cached : l.machine.cached ≡ l.mail;
  gives : Gives (asking_at (truth_at l.mail)) (work_at l.mail) l.most l.code (jumps_from (asking_at (truth_at l.mail)) (work_at l.mail) l.code (length l.code) 0 false (run_state_of l.initial.machine.state)) l.place l.machine.flag (run_state_of l.machine.state) l.machine.left;
}

abbrev pub decreases-loop-place : goal.decreases-loop-place
decreases-loop-place l = length l.instrs - l.place
