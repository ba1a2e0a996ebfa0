use Rattle.std.proofs.Common.{◌≡◌, ◌∙◌, Some, None, is_some, true, ap, sym, subst, rules}
use Rattle.std.specs.Prelude.{slice_get}
use Rattle.lmtp_connections.specs.Stands.{Demands}
use Rattle.lmtp_dialogue.specs.declared.recipient_reply.RecipientReply.TheVariants.{Refused}
use Rattle.lmtp_connections.specs.declared.demand.Demand.TheVariants.{Reply}
use Rattle.lmtp_connections.proofs.DemandLemmas.{known, owes, unkept, within}
use Rattle.lmtp_connections.proofs.connection.LmtpConnection.demand_reply.Goals as goal

pub returns-then-is_some : goal.returns-then-is_some
returns-then-is_some c =
    let s = c.args.self.now in
    let there : slice_get s.addressees.items s.progress.told ≡ Some c.in-Some.addressee.now = ap (λ xs. slice_get xs s.progress.told) (sym c.as_slice.ensures.value) ∙ sym c.in-Some.ensures in
    let same : c.in-Some.addressee.now.address ≡ c.args.received.recipient.now = search rules in
    let some : is_some c.in-Some.addressee.now.became ≡ true = search rules in
    known c.args.now s c.in-Some.addressee.now c.args.received c.requires there same some

pub demand_by-requires-clause-some : goal.demand_by-requires-clause-some
demand_by-requires-clause-some c =
    let s = c.args.self.now in
    within s.addressees.items s.progress.told c.in-Some.addressee.now (ap (λ xs. slice_get xs s.progress.told) (sym c.as_slice.ensures.value) ∙ sym c.in-Some.ensures)

pub demand_by-requires-clause-owes : goal.demand_by-requires-clause-owes
demand_by-requires-clause-owes c =
    let s = c.args.self.now in
    let there : slice_get s.addressees.items s.progress.told ≡ Some c.in-Some.addressee.now = ap (λ xs. slice_get xs s.progress.told) (sym c.as_slice.ensures.value) ∙ sym c.in-Some.ensures in
    let same : c.in-Some.addressee.now.address ≡ c.args.received.recipient.now = search rules in
    owes c.args.now s c.in-Some.addressee.now c.args.received c.requires there same c.in-Ok.text c.in-Ok.is

pub returns-in-Err : goal.returns-in-Err
returns-in-Err c =
    let s = c.args.self.now in
    let there : slice_get s.addressees.items s.progress.told ≡ Some c.in-Some.addressee.now = ap (λ xs. slice_get xs s.progress.told) (sym c.as_slice.ensures.value) ∙ sym c.in-Some.ensures in
    let same : c.in-Some.addressee.now.address ≡ c.args.received.recipient.now = search rules in
    let fresh : c.in-Some.addressee.now.became ≡ None = search rules in
    subst (λ r. Demands c.args.now s (Reply (Refused r))) (sym c.reply_for.ensures) (unkept c.args.now s c.in-Some.addressee.now c.args.received c.requires there same fresh c.in-Err.fault c.in-Err.is)
