-- No key so far matches.
use Rattle.std.proofs.Common.{◌≡◌, false, take}
use Rattle.std.specs.List.{list_any}
use Rattle.sieve_exec.specs.Matches.{matches_key}
use Rattle.sieve_exec.proofs.matching.matches_some.Given as goal

abbrev pub invariant-loop-key : goal.invariant-loop-key
invariant-loop-key l = list_any (λ key. matches_key l.collation l.matching key l.value) (take l.key-index l.keys) ≡ false
