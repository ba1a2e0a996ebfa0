use Rattle.std.proofs.Common.{◌≡◌, ◌++◌, length}
use Rattle.mail_parts.specs.Base64Bodies.{base64_digits}
use Rattle.mail_parts.proofs.base64_body.base64_digits.Given as goal

abbrev pub invariant-loop-octet : goal.invariant-loop-octet
invariant-loop-octet l = l.digits.items ++ base64_digits l.left ≡ base64_digits l.body

abbrev pub decreases-loop-octet : goal.decreases-loop-octet
decreases-loop-octet l = length l.left
