-- What is read of an input, how a subcommand ended, and the machine that it works on.
use Rattle.std.specs.Prelude.{◌==◌, ℕ, Bool, not, List, take, Result, Ok, Err}
use Rattle.std.specs.List.{prefix_len}
use Rattle.std.specs.FinMap.{empty}
use Rattle.store_accounts.specs.Account.{Accounts}
use Rattle.store_engine.specs.World.{World}
use Rattle.cli_run.specs.declared.fault.RunFault.{RunFault}
use Rattle.cli_run.specs.Faults.{status_of}

-- an octet that doesn't end a line
abbrev pub is_in_line : ℕ → Bool
is_in_line octet = not (octet == 10)

-- the octets before the first LF, or all if there is none
abbrev pub first_line : List ℕ → List ℕ
first_line text = take (prefix_len is_in_line text) text

-- the exit status of what was done or went wrong
abbrev pub status_after : {X : Type 0} → Result X RunFault → ℕ
status_after (Ok done) = 0
status_after (Err fault) = status_of fault

-- the machine with these accounts, and without sessions
abbrev pub world_of_accounts : Accounts → World
world_of_accounts accounts = record { accounts = accounts; sessions = empty }
