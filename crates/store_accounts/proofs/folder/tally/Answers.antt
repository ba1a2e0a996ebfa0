use Rattle.std.proofs.Common.{◌≡◌, ◌∙◌, map, refl, sym, ap, arith, rules}
use Rattle.std.proofs.lemmas.List.{take_all}
use Rattle.sqlite_value.specs.declared.value.Value.TheVariants.{Blob}
use Rattle.sqlite_value.specs.Order.{Row, column, bytes}
use Rattle.sqlite_keyed.proofs.ListLemmas.{map-map, map_back}
use Rattle.store_accounts.specs.Tally.{tallied}
use Rattle.store_accounts.proofs.folder.tally.Goals as goal

pub returns-clause-ok : goal.returns-clause-ok
returns-clause-ok c names are =
    let made : c.from_vec.result ≡ c.loop-row.all.items = search rules in
    made ∙ c.loop-row.invariant ∙ ap (λ l. tallied (map (λ r. bytes (column r 0)) l)) (take_all c.loop-row.row-index c.args.rows.now (omega arith))
    ∙ ap tallied (sym (map-map bytes (λ (r : Row). column r 0) c.args.rows.now) ∙ ap (map bytes) are ∙ map_back (λ n. Blob n) bytes (λ n. refl) names)
