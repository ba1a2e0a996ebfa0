use Rattle.std.proofs.Common.{◌≡◌, true, drop}
use Rattle.mail_address.specs.Spelling.{is_dotted}
use Rattle.mail_address.proofs.address.is_dot_atom.Given as goal

abbrev pub invariant-loop-octet : goal.invariant-loop-octet
invariant-loop-octet l = is_dotted l.due (drop l.octet-index l.text) ≡ is_dotted true l.text
