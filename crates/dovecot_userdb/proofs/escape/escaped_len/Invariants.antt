use Rattle.std.proofs.Common.{◌≡◌, ◌≤◌, ◌*◌, length, take}
use Rattle.dovecot_userdb.specs.Escapes as s
use Rattle.dovecot_userdb.proofs.escape.escaped_len.Given as goal

abbrev pub invariant-loop-octet : goal.invariant-loop-octet
invariant-loop-octet l = record { so_far : l.count ≡ length (s.tab_escaped (take l.octet-index l.value)); small : l.count ≤ 2 * l.octet-index }
