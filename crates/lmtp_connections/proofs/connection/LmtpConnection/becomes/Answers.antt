use Rattle.std.proofs.Common.{◌≡◌, ◌∙◌, Some, ap, sym}
use Rattle.lmtp_connections.specs.Connections.{earlier}
use Rattle.lmtp_connections.specs.Stands.{told_before}
use Rattle.lmtp_connections.proofs.DemandLemmas.{again}
use Rattle.lmtp_connections.proofs.connection.LmtpConnection.becomes.Goals as goal

pub returns-in_ok-try_clone-in-Some : goal.returns-in_ok-try_clone-in-Some
returns-in_ok-try_clone-in-Some c =
    let is : earlier (told_before c.args.self.now) c.args.addressee.now ≡ Some c.in_ok-try_clone-in-Some.field-0 =
    ap (λ xs. earlier xs c.args.addressee.now) (sym c.told_before.ensures) ∙ (sym c.in-Some.ensures ∙ ap (λ b. Some b) (sym c.in_ok-try_clone-in-Some.ensures)) in
    again c.args.now c.args.self.now c.args.addressee.now c.args.text.now c.requires.fresh c.in_ok-try_clone-in-Some.field-0 is
