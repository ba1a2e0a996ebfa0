use Rattle.std.proofs.Common.{◌≡◌, take}
use Rattle.sieve_template.specs.Values.{quoted_text}
use Rattle.sieve_template.proofs.modifier.quote_all.Given as goal

abbrev pub invariant-loop-octet : goal.invariant-loop-octet
invariant-loop-octet l = l.quoted ≡ quoted_text (take l.octet-index l.text)
