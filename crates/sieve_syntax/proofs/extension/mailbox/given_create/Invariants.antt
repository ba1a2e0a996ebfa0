use Rattle.std.proofs.Common.{◌≡◌, drop}
use Rattle.sieve_syntax.specs.Extension.Mailbox.{create_in}
use Rattle.sieve_syntax.proofs.extension.mailbox.given_create.Given as goal

abbrev pub invariant-loop-tag_value : goal.invariant-loop-tag_value
invariant-loop-tag_value l = create_in (drop l.tag_value-index l.tag_values) ≡ create_in l.tag_values
