use Rattle.std.proofs.Common.{◌≡◌, ◌-◌, ◌≤◌, length, take}
use Rattle.std.specs.Prelude.{fold}
use Rattle.managesieve_protocol.specs.Scanning.{fed}
use Rattle.managesieve_protocol.proofs.Feeding.{NoneBefore}
use Rattle.managesieve_protocol.proofs.scanner.Scan.feed.Given as goal

abbrev pub invariant-loop-self : goal.invariant-loop-self
invariant-loop-self l = record {
  within : l.taken ≤ length l.octets;
  by : l.self ≡ fold fed l.fn.self (take l.taken l.octets);
  before : NoneBefore l.fn.self l.octets l.taken;
}

abbrev pub decreases-loop-self : goal.decreases-loop-self
decreases-loop-self l = length l.octets - l.taken
