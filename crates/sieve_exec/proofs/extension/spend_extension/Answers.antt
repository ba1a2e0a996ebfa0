use Rattle.sieve_exec.proofs.extension.spend_extension.Goals as goal

pub returns-in-HasFlag : goal.returns-in-HasFlag
returns-in-HasFlag c = rw c.in-HasFlag.is (rw c.names.ensures at c.spend_flags.ensures)
