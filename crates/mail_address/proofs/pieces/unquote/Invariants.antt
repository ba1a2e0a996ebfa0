use Rattle.std.proofs.Common.{◌≡◌, ◌++◌, false, drop}
use Rattle.mail_address.specs.Pieces.{unquoted_from}
use Rattle.mail_address.proofs.pieces.unquote.Given as goal

abbrev pub invariant-loop-octet : goal.invariant-loop-octet
invariant-loop-octet l = l.out ++ unquoted_from l.escaped (drop l.octet-index l.text) ≡ l.initial.out ++ unquoted_from false l.text
