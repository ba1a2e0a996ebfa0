use Rattle.std.proofs.Common.{◌≡◌, take}
use Rattle.dovecot_userdb.specs.Probes as s
use Rattle.dovecot_userdb.proofs.probe.probe_name.Given as goal

abbrev pub invariant-loop-octet : goal.invariant-loop-octet
invariant-loop-octet l = l.name ≡ s.probe_letters (take l.octet-index l.random)
