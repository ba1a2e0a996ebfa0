use Rattle.std.proofs.Common.{◌≡◌}
use Rattle.test_sockets.proofs.fake.tell_wakes.Given as goal

abbrev pub invariant-loop-wake : goal.invariant-loop-wake
invariant-loop-wake l = l.told ≡ l.ready.items
