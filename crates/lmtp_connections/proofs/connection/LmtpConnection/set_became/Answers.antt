use Rattle.std.proofs.Common.{◌≡◌, ◌∙◌, ◌∷◌, ◌++◌, Some, ap, sym, get_or, set}
use Rattle.std.proofs.Math.Seq.{set-append_seam, get_or-append_seam}
use Rattle.lmtp_connections.specs.declared.addressee.Addressee.{Addressee}
use Rattle.lmtp_connections.proofs.connection.LmtpConnection.set_became.Goals as goal

pub returns-in-Some-clause-noted : goal.returns-in-Some-clause-noted
returns-in-Some-clause-noted c = λ before after it items told.
    let there : c.in-Some.addressee.now ≡ it =
    c.in-Some.ensures.value ∙ (ap (λ xs. get_or xs c.args.self.now.progress.told c.in-Some.addressee.now) items
    ∙ (ap (λ k. get_or (before ++ it ∷ after) k c.in-Some.addressee.now) (sym told) ∙ get_or-append_seam before it after c.in-Some.addressee.now)) in
    let put : Addressee → Addressee = λ a. record a { became = Some c.args.became } in
    ap (λ a. set c.args.self.now.addressees.items c.args.self.now.progress.told (put a)) there
    ∙ (ap (λ xs. set xs c.args.self.now.progress.told (put it)) items ∙ (ap (λ k. set (before ++ it ∷ after) k (put it)) (sym told) ∙ set-append_seam before it after (put it)))
