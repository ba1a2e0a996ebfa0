use Rattle.std.proofs.Common.{◌≡◌, [], ◌∷◌, ap, sym, ◌∙◌}
use Rattle.store_tables.proofs.SchemaLemmas.{only_item, only_same, same_text}
use Rattle.store_tables.proofs.schema.is_only_key.Goals as goal

pub returns : goal.returns
returns c =
    let one : c.args.keys.now ≡ c.only-item.result ∷ [] = only_item c.args.keys.now c.only-item.result c.in-len1.len_at_least c.in-len1.len_below c.only-item.is in
    let same = same_text c.as_slice.result.now c.args.key.now c.eq.result c.eq.ensures in
    (λ e. one ∙ ap (λ t. t ∷ []) (sym c.as_slice.ensures ∙ same.0 e), λ h. same.1 (c.as_slice.ensures ∙ only_same c.args.keys.now _ _ one h))
