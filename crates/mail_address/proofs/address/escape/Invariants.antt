use Rattle.std.proofs.Common.{◌≡◌, ◌++◌, drop}
use Rattle.mail_address.specs.Spelling.{with_quoted_pairs}
use Rattle.mail_address.proofs.address.escape.Given as goal

abbrev pub invariant-loop-octet : goal.invariant-loop-octet
invariant-loop-octet l = l.out ++ with_quoted_pairs (drop l.octet-index l.text) ≡ l.initial.out ++ with_quoted_pairs l.text
