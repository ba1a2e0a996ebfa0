-- The hash is that of all that was handed out.
use Rattle.std.proofs.Common.{[], ◌∷◌, ◌++◌, codes, ap, ◌∙◌}
use Rattle.hex.specs.Hex.{encode_lower}
use Rattle.store_text.specs.Netstring.{line}
use Rattle.store_text.proofs.writing.Writer.end.Goals as goal

pub returns : goal.returns
returns c = λ text held.
    let sum = c.as_bytes.ensures.value ∙ c.in_ok-sum.ensures ∙ ap encode_lower (c.finalize.ensures text held) in
    let spelled = ap (λ s. line (codes "sum" ∷ s ∷ [])) sum in
    c.in_ok-push_pair.ensures ∙ (ap (λ t. t ++ line (codes "sum" ∷ c.as_bytes.result.now ∷ [])) c.new-line.ensures ∙ spelled)
