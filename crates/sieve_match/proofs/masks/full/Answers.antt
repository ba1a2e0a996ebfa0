use Rattle.std.proofs.lemmas.List.{get_or-replicate}
use Rattle.sieve_match.proofs.masks.full.Goals as goal

pub returns : goal.returns
returns c b l = get_or-replicate 256 b 18446744073709551615 0 l
