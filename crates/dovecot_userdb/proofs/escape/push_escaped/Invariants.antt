use Rattle.std.proofs.Common.{◌≡◌, ◌++◌, take}
use Rattle.dovecot_userdb.specs.Escapes as s
use Rattle.dovecot_userdb.proofs.escape.push_escaped.Given as goal

abbrev pub invariant-loop-octet : goal.invariant-loop-octet
invariant-loop-octet l = l.field ≡ l.initial.field ++ s.tab_escaped (take l.octet-index l.value)
