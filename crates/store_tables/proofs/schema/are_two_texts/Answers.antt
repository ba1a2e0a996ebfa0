use Rattle.std.proofs.Common.{◌≡◌, [], ◌∷◌, get_or, ap, ap₂, sym, ◌∙◌}
use Rattle.store_tables.proofs.SchemaLemmas.{two_items, same_text}
use Rattle.store_tables.proofs.schema.are_two_texts.Goals as goal

pub returns-then-eq : goal.returns-then-eq
returns-then-eq c =
    let both : c.args.texts.now ≡ c.one-item.result ∷ c.other-item.result ∷ [] = two_items c.args.texts.now c.one-item.result c.other-item.result c.in-len2.len_at_least c.in-len2.len_below c.one-item.is c.other-item.is in
    let first = same_text c.as_slice.result.now c.args.first.now c.eq.result c.eq.ensures in
    let last = same_text c.as_slice-then-eq.result.now c.args.last.now c.eq-then-eq.result c.eq-then-eq.ensures in (
      λ e. both ∙ ap₂ (λ a b. a ∷ b ∷ []) (sym c.as_slice.ensures ∙ first.0 c.if-eq.true) (sym c.as_slice-then-eq.ensures ∙ last.0 e),
      λ h. last.1 (c.as_slice-then-eq.ensures ∙ ap (λ l. get_or l 1 c.other-item.result) (sym both ∙ h)),
    )
