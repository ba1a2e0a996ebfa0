use Rattle.std.proofs.Common.{◌++◌, take, drop, length, ap, sym, ◌∙◌}
use Rattle.std.proofs.Math.Seq.{take-add, take-append_seam}
use Rattle.std.proofs.lemmas.Bool.Decides.{Decides-eqb}
use Rattle.std.proofs.lemmas.Slice.Eq.{starts_is}
use Rattle.mail_address.proofs.pieces.goes_on.Goals as goal

pub returns-clause-joined : goal.returns-clause-joined
returns-clause-joined c = λ yes'.
    let from = c.args.from.now in
    let piece = c.args.piece.now in
    let after = c.split_at.result.1.now in
    let stands = (starts_is Decides-eqb after piece c.starts_with.result c.starts_with.ensures.value).0 yes' in
    take-add c.args.len (length piece) from
    ∙ ap (λ text. take c.args.len from ++ take (length piece) text) (sym c.split_at.ensures.back ∙ stands)
    ∙ ap (λ text. take c.args.len from ++ text) (take-append_seam piece (drop (length piece) after))
