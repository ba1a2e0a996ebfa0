use Rattle.std.proofs.Common.{◌∙◌, true, false, refl, sym, ap, subst}
use Rattle.lmtp_dialogue.specs.Receivers.{ReceiverRefuses as RefusesIn}
use Rattle.lmtp_dialogue.specs.declared.receiver.Receiver.{Receiver}
use Rattle.lmtp_connections.specs.Stands.{ConnectionRefuses}
use Rattle.lmtp_connections.specs.declared.connection.LmtpConnection.{LmtpConnection as Code}
use Rattle.lmtp_connections.proofs.ConnectionLemmas.{declines}
use Rattle.lmtp_connections.proofs.connection.LmtpConnection.refuse.Goals as goal

pub returns-then-did-clause-ok : goal.returns-then-did-clause-ok
returns-then-did-clause-ok c =
    let s = c.args.self.now in
    let m : Code = record s { receiver = c.refuse.new.self } in
    let refused : RefusesIn c.args.room s.receiver c.refuse.new.self c.args.out.now c.refuse.new.out true =
    subst (RefusesIn c.args.room s.receiver c.refuse.new.self c.args.out.now c.refuse.new.out) c.if-did.true c.in_ok-did.ensures.ok in
    subst (λ did. ConnectionRefuses c.args.now c.args.room c.refuse.new.out did s c.go_on.new.self) (sym c.if-did.true)
    (declines c.args.now c.args.room s m c.go_on.new.self c.args.out.now c.refuse.new.out c.requires.out refused c.refuse.ensures.hello refl refl refl c.go_on.ensures.goes)

pub returns-else-did-clause-ok : goal.returns-else-did-clause-ok
returns-else-did-clause-ok c =
    let s = c.args.self.now in
    let m : Code = record s { receiver = c.refuse.new.self } in
    let none : RefusesIn c.args.room s.receiver c.refuse.new.self c.args.out.now c.refuse.new.out false =
    subst (RefusesIn c.args.room s.receiver c.refuse.new.self c.args.out.now c.refuse.new.out) c.if-did.false c.in_ok-did.ensures.ok in
    subst (λ did. ConnectionRefuses c.args.now c.args.room c.refuse.new.out did s m) (sym c.if-did.false)
    (none.1 ∙ c.requires.out, ap (λ (r : Receiver). record s { receiver = r }) none.0, λ p stands. none.2 p.dialogue stands.holds.dialogue)
