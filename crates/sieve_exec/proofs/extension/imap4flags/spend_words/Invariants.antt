-- What the keys so far leave.
use Rattle.std.proofs.Common.{◌≡◌, ◌+◌, take}
use Rattle.std.specs.Prelude.{sum_by}
use Rattle.sieve_exec.specs.Sizes.{tried_work}
use Rattle.sieve_exec.proofs.extension.imap4flags.spend_words.Given as goal

abbrev pub invariant-loop-key : goal.invariant-loop-key
invariant-loop-key l = l.left + sum_by (tried_work l.octets) (take l.key-index l.keys) ≡ l.initial.left
