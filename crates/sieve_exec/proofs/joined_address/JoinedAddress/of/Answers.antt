use Rattle.sieve_exec.proofs.JoinedLemmas.{joined_from}
use Rattle.sieve_exec.proofs.joined_address.JoinedAddress.of.Goals as goal

pub returns : goal.returns
returns c = joined_from c.args.address.now c.in_ok-all.field-0 c.len.result c.in_ok-all.ensures c.len.ensures
