use Rattle.std.proofs.Common.{length}
use Rattle.store_text.proofs.NetstringLemmas.{IsTaking}
use Rattle.store_text.proofs.line.take_line.Given as goal

abbrev pub invariant-fields : goal.invariant-fields
invariant-fields l = IsTaking l.octets l.fields.items l.rest

abbrev pub decreases-fields : goal.decreases-fields
decreases-fields l = length l.rest
