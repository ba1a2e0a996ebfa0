use Rattle.std.proofs.Common.{◌≡◌, ◌∙◌, refl, sym, ap, subst}
use Rattle.lmtp_dialogue.specs.declared.receiver.Lookup.TheVariants.{Known, Unknown, Fault, NoRoom}
use Rattle.lmtp_connections.specs.Connections.{taken_with, Asked}
use Rattle.lmtp_connections.specs.Stands.{ConnectionDoes}
use Rattle.lmtp_connections.specs.declared.connection.LmtpConnection.{LmtpConnection as Code}
use Rattle.lmtp_connections.proofs.ConnectionLemmas.{found, tried, not_taken}
use Rattle.lmtp_connections.proofs.connection.LmtpConnection.answer_recipient.Goals as goal

pub returns-in-Known-clause-does : goal.returns-in-Known-clause-does
returns-in-Known-clause-does c =
    let s = c.args.self.now in
    let q = c.args.question in
    let m : Code = record s { addressees = c.push_reserved.new.self } in
    let items : c.push_reserved.new.self.items ≡ taken_with c.args.lookup q.user q.address s.addressees.items =
    c.push_reserved.ensures.items ∙ ap (λ l. taken_with l q.user q.address s.addressees.items) (sym c.in-Known.is) in
    found c.args.now c.args.lookup c.resolve.result s m c.resolve.new.self q c.requires.found c.requires.asked (λ none. absurd (let never : Known ≡ Unknown = sym c.in-Known.is ∙ none in cc)) refl refl items refl c.resolve.ensures.resolves

pub returns-in-Some-clause-does : goal.returns-in-Some-clause-does
returns-in-Some-clause-does c =
    let s = c.args.self.now in
    let q = c.args.question in
    subst (λ l. ConnectionDoes c.args.now (Asked q.user l) c.try_next.result s c.try_next.new.self) (sym c.in-Unknown.is)
    (subst (λ e. ConnectionDoes c.args.now (Asked q.user Unknown) c.try_next.result s e) (sym c.try_next.ensures.rest)
    (subst (λ x. ConnectionDoes c.args.now (Asked q.user Unknown) x s (record s { progress = c.try_next.new.self.progress })) (sym c.try_next.ensures.said)
    (tried c.args.now c.in-Some.next s c.try_next.new.self.progress q c.requires.asked c.in-Some.is c.try_next.ensures.progress)))

pub returns-in-None-clause-does : goal.returns-in-None-clause-does
returns-in-None-clause-does c =
    let s = c.args.self.now in
    let q = c.args.question in
    let items : s.addressees.items ≡ taken_with c.args.lookup q.user q.address s.addressees.items =
    not_taken c.args.lookup q.user q.address s.addressees.items (λ known. let never : Unknown ≡ Known = sym c.in-Unknown.is ∙ known in cc) in
    found c.args.now c.args.lookup c.resolve-in-None.result s s c.resolve-in-None.new.self q c.requires.found c.requires.asked (λ unknown. c.in-None.is) refl refl items refl c.resolve-in-None.ensures.resolves

pub returns-in-Fault-clause-does : goal.returns-in-Fault-clause-does
returns-in-Fault-clause-does c =
    let s = c.args.self.now in
    let q = c.args.question in
    let items : s.addressees.items ≡ taken_with c.args.lookup q.user q.address s.addressees.items =
    not_taken c.args.lookup q.user q.address s.addressees.items (λ known. let never : Fault ≡ Known = sym c.in-Fault.is ∙ known in cc) in
    found c.args.now c.args.lookup c.resolve-in-Fault.result s s c.resolve-in-Fault.new.self q c.requires.found c.requires.asked
    (λ unknown. absurd (let never : Fault ≡ Unknown = sym c.in-Fault.is ∙ unknown in cc)) refl refl items refl c.resolve-in-Fault.ensures.resolves

pub returns-in-NoRoom-clause-does : goal.returns-in-NoRoom-clause-does
returns-in-NoRoom-clause-does c =
    let s = c.args.self.now in
    let q = c.args.question in
    let items : s.addressees.items ≡ taken_with c.args.lookup q.user q.address s.addressees.items =
    not_taken c.args.lookup q.user q.address s.addressees.items (λ known. let never : NoRoom ≡ Known = sym c.in-NoRoom.is ∙ known in cc) in
    found c.args.now c.args.lookup c.resolve-in-NoRoom.result s s c.resolve-in-NoRoom.new.self q c.requires.found c.requires.asked
    (λ unknown. absurd (let never : NoRoom ≡ Unknown = sym c.in-NoRoom.is ∙ unknown in cc)) refl refl items refl c.resolve-in-NoRoom.ensures.resolves
