-- What the texts so far leave.
use Rattle.std.proofs.Common.{◌≡◌, ◌+◌, take}
use Rattle.sieve_exec.specs.Sizes.{texts_size}
use Rattle.sieve_exec.proofs.work.spend_texts.Given as goal

abbrev pub invariant-loop-text : goal.invariant-loop-text
invariant-loop-text l = l.left + texts_size (take l.text-index l.texts) ≡ l.initial.left
