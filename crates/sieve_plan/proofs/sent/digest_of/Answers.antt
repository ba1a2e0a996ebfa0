use Rattle.std.proofs.Common.{rules}
use Rattle.sieve_plan.specs.Sent.{key_of}
use Rattle.sieve_plan.proofs.sent.digest_of.Goals as goal

pub returns : goal.returns
unfolding key_of
returns c = search rules
