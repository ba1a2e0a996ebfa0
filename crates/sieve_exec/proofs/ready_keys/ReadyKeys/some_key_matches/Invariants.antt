-- No key so far matches.
use Rattle.std.proofs.Common.{◌≡◌, false, take}
use Rattle.std.specs.List.{list_any}
use Rattle.sieve_exec.specs.Ready.{key_spec_of, matches_of}
use Rattle.sieve_exec.proofs.ready_keys.ReadyKeys.some_key_matches.Given as goal

abbrev pub invariant-loop-key : goal.invariant-loop-key
invariant-loop-key g l = list_any (λ key. list_any (matches_of (key_spec_of l.self.collation l.self.matching key)) (g.V.Values.texts l.values)) (take l.key-index l.keys) ≡ false
