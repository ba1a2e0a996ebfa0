use Rattle.std.proofs.Common.{◌≡◌, drop}
use Rattle.sieve_lex.specs.Body.{body_from}
use Rattle.sieve_lex.specs.Inside.{onto}
use Rattle.sieve_lex.specs.declared.multiline.BodyState.TheVariants.{Opening}
use Rattle.sieve_lex.proofs.multiline.read_body.Given as goal

abbrev pub invariant-loop-i : goal.invariant-loop-i
invariant-loop-i l = onto l.value (body_from l.stage (drop l.i l.octets)) ≡ body_from Opening l.octets
