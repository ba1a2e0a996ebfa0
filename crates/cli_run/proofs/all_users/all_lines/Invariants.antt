-- The lines so far, and the next user.
use Rattle.sqlite.specs.Held.{state}
use Rattle.store_accounts.specs.Users.{FindsOver}
use Rattle.cli_run.proofs.AllUserLemmas.{Listed, ok_of}
use Rattle.cli_run.proofs.all_users.all_lines.Given as goal

abbrev pub invariant-users : goal.invariant-users
invariant-users g l = FindsOver (Listed (g.L.AccountLines.lines l.fn.lines) l.text) (state g.S.Store l.fn.store) (state g.S.Store l.store) (ok_of l.next)
