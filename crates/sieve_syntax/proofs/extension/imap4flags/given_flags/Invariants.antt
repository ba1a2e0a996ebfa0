use Rattle.std.proofs.Common.{◌≡◌, drop}
use Rattle.sieve_syntax.specs.Extension.Imap4flags.{flags_in}
use Rattle.sieve_syntax.proofs.extension.imap4flags.given_flags.Given as goal

abbrev pub invariant-loop-tag_value : goal.invariant-loop-tag_value
invariant-loop-tag_value l = flags_in (drop l.tag_value-index l.tag_values) ≡ flags_in l.tag_values
