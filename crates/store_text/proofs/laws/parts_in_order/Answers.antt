-- By going from each part to the next one.
use Rattle.std.proofs.Common.{None}
use Rattle.store_text.proofs.OrderLemmas.{all_before}
use Rattle.store_text.proofs.laws.parts_in_order.Goals as goal

pub returns : goal.returns
returns c = λ front more p is. all_before None front p more is
