-- What the keys so far leave.
use Rattle.std.proofs.Common.{◌≡◌, ◌+◌, take}
use Rattle.sieve_exec.specs.Sizes.{keys_work}
use Rattle.sieve_exec.proofs.work.spend_keys.Given as goal

abbrev pub invariant-loop-key : goal.invariant-loop-key
invariant-loop-key l = l.left + keys_work l.names l.matching l.sizes (take l.key-index l.keys) ≡ l.initial.left
