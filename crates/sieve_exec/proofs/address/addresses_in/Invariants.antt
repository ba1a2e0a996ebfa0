-- The addresses so far are those of the values so far.
use Rattle.std.proofs.Common.{◌≡◌, map, take}
use Rattle.std.specs.List.{flat_map}
use Rattle.mail_head.specs.Heads.{unfold_of}
use Rattle.mail_address.specs.Reading.{addrs}
use Rattle.sieve_exec.proofs.address.addresses_in.Given as goal

abbrev pub invariant-loop-raw : goal.invariant-loop-raw
invariant-loop-raw l = l.found ≡ flat_map addrs (map unfold_of (map (λ raw. raw.now) (take l.raw-index l.raws)))
