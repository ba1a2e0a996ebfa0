use Rattle.std.proofs.Common.{◌≡◌, ◌∙◌, Some, ap, sym, rules}
use Rattle.std.specs.Prelude.{slice_get}
use Rattle.lmtp_connections.proofs.DemandLemmas.{owes}
use Rattle.lmtp_connections.proofs.connection.LmtpConnection.request_by.Goals as goal

pub request_of-requires-clause-owes : goal.request_of-requires-clause-owes
request_of-requires-clause-owes c =
    let s = c.args.self.now in
    let there : slice_get s.addressees.items s.progress.told ≡ Some c.in-Some.addressee.now = ap (λ xs. slice_get xs s.progress.told) (sym c.as_slice.ensures.value) ∙ sym c.in-Some.ensures in
    let same : c.in-Some.addressee.now.address ≡ c.args.received.recipient.now = search rules in
    owes c.args.now s c.in-Some.addressee.now c.args.received c.requires there same c.in-Ok.text c.in-Ok.is
