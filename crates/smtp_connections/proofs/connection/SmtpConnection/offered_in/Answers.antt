use Rattle.std.proofs.Common.{sym, subst}
use Rattle.smtp_dialogue.specs.Extensions.{OffersExtensions}
use Rattle.smtp_connections.specs.Connections.{OffersBy}
use Rattle.smtp_connections.proofs.connection.SmtpConnection.offered_in.Goals as goal

pub returns-in-Ehlo : goal.returns-in-Ehlo
returns-in-Ehlo c =
    subst (λ x. OffersBy x c.args.self.now.heard c.args.self.now.offered c.read_extensions.result) (sym c.in-Ehlo.is)
    (subst (λ o. OffersExtensions o c.read_extensions.result) c.as_slice.ensures c.read_extensions.ensures)
