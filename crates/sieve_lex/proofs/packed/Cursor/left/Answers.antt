use Rattle.std.proofs.Common.{ap, sym, ◌∙◌, length}
use Rattle.sieve_lex.proofs.Packing.{length_unpacked}
use Rattle.sieve_lex.proofs.packed.Cursor.left.Goals as goal

pub returns-clause-left : goal.returns-clause-left
returns-clause-left c = sym (length_unpacked c.self.inside.kinds.now c.self.inside.rows.numbers.now c.self.inside.rows.octets.now) ∙ ap length c.self.view_is
