use Rattle.std.proofs.Common.{◌≡◌, false, drop}
use Rattle.sieve_syntax.specs.Extension.Vacation.Reasons.{has_whole_lines}
use Rattle.sieve_syntax.proofs.extension.vacation.reason.has_whole_lines.Given as goal

abbrev pub invariant-loop-octet : goal.invariant-loop-octet
invariant-loop-octet l = has_whole_lines l.after_cr (drop l.octet-index l.text) ≡ has_whole_lines false l.text
