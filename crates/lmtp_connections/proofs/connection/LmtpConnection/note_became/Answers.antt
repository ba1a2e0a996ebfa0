use Rattle.std.proofs.Common.{◌∙◌, ◌<◌, ap, length, sym, subst}
use Rattle.lmtp_connections.specs.Connections.{next_recipient}
use Rattle.lmtp_connections.specs.declared.connection.LmtpConnection.{LmtpConnection as Code}
use Rattle.lmtp_connections.proofs.connection.LmtpConnection.note_became.Goals as goal

pub returns-clause-counted : goal.returns-clause-counted
returns-clause-counted c = λ within.
    let same = ap (λ (x : Code). x.progress) c.set_became.ensures.rest in
    c.pass_recipient.ensures.counted (subst (λ k. c.set_became.new.self.progress.told < k) (sym c.set_became.ensures.count) (subst (λ t. t.told < length c.args.self.now.addressees.items) (sym same) within))
    ∙ ap next_recipient same
