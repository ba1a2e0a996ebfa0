use Rattle.std.proofs.Common.{◌∙◌}
use Rattle.sieve_exec.specs.Parts.{address_part_of}
use Rattle.sieve_exec.specs.Ready.{matches_of}
use Rattle.sieve_exec.proofs.KeyLemmas.{any_part}
use Rattle.sieve_exec.proofs.address.PartsValues.some_matches.Goals as goal

pub returns : goal.returns
returns c = let parts = c.args.self.now in c.some_matches.ensures ∙ any_part (address_part_of parts.part) (matches_of c.args.key.now) parts.found.now
