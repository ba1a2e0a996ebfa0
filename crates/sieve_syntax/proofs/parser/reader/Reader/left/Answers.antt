use Rattle.std.proofs.Common.{arith}
use Rattle.std.proofs.lemmas.Grind.{common_steps}
use Rattle.sieve_syntax.proofs.DecodingLemmas.{seen_length}
use Rattle.sieve_syntax.proofs.parser.reader.Reader.left.Goals as goal

pub returns-in-Some : goal.returns-in-Some
returns-in-Some c = let e = seen_length c.self.inside.decoding c.self.inside.rest in grind (arith, common_steps, e)
