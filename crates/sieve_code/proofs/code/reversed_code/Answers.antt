use Rattle.std.proofs.Common.{length, reverse, rules}
use Rattle.std.proofs.lemmas.Iterator.{YieldsList-from_map_by}
use Rattle.std.proofs.lemmas.Iterator.Adapters.{YieldsList-from_rev_slice}
use Rattle.std.proofs.lemmas.Iterator.Consumers.{map_from_collect, YieldsList-at}
use Rattle.std.proofs.lemmas.Simd.{map-map}
use Rattle.sieve_code.specs.Instructions.{instr_view}
use Rattle.sieve_code.specs.Layout.{forward}
use Rattle.sieve_code.proofs.LayoutLemmas.{length-seen}
use Rattle.sieve_code.proofs.code.reversed_code.Goals as goal

pub returns : goal.returns
returns c =
    let rows = c.args.rows.now in
    rw (length-seen rows, map-map (forward (length rows)) instr_view (reverse rows))
    (map_from_collect _ c.collect.ensures.ran (YieldsList-from_map_by _ instr_view (λ row. forward (length rows) (instr_view row)) (YieldsList-at c.map.ensures.source (YieldsList-from_rev_slice rows (cc))) c.map.ensures.closure (λ x r q k. search rules)))
