use Rattle.std.proofs.Common.{false, sym, subst}
use Rattle.lmtp_connections.specs.Connections.{Answered, Declined}
use Rattle.lmtp_connections.specs.Stands.{ConnectionRefuses, Demands, ConnectionDoes}
use Rattle.lmtp_connections.specs.declared.demand.Demand.TheVariants as demand
use Rattle.daemon_core.proofs.LmtpStepLemmas.{answered, declined, less_then}
use Rattle.daemon_core.proofs.mail_step.answer_line.Goals as goal

pub returns-then-refused-clause-ok : goal.returns-then-refused-clause-ok
returns-then-refused-clause-ok g c =
    let does : ConnectionDoes c.args.now (Declined c.args.spare) c.refuse.new.out c.args.connection.now c.refuse.new.self =
    subst (λ did. ConnectionRefuses c.args.now c.args.spare c.refuse.new.out did c.args.connection.now c.refuse.new.self) c.if-refused.true c.in_ok-refused.ensures.ok in
    λ daemon.
    declined g.O.Outside.told g.O.StoreAccess.store g.met.O.StoreAccess.sure c.args.outside.now c.tell_answered.new.self daemon daemon.clients c.args.now c.args.id c.refuse.new.out
    c.args.connection.now c.refuse.new.self c.args.spare c.refuse.ensures.held does c.tell_answered.ensures.told c.tell_answered.ensures.shown

pub answer-requires-clause-line : goal.answer-requires-clause-line
answer-requires-clause-line g c =
    let none : ConnectionRefuses c.args.now c.args.spare c.refuse.new.out false c.args.connection.now c.refuse.new.self =
    subst (λ did. ConnectionRefuses c.args.now c.args.spare c.refuse.new.out did c.args.connection.now c.refuse.new.self) c.if-refused.false c.in_ok-refused.ensures.ok in
    subst (λ x. Demands c.args.now x demand.Line) (sym none.1) c.requires.line

pub answer-requires-clause-out : goal.answer-requires-clause-out
answer-requires-clause-out g c =
    let none : ConnectionRefuses c.args.now c.args.spare c.refuse.new.out false c.args.connection.now c.refuse.new.self =
    subst (λ did. ConnectionRefuses c.args.now c.args.spare c.refuse.new.out did c.args.connection.now c.refuse.new.self) c.if-refused.false c.in_ok-refused.ensures.ok in
    none.0

pub returns-clause-ok : goal.returns-clause-ok
returns-clause-ok g c =
    let none : ConnectionRefuses c.args.now c.args.spare c.refuse.new.out false c.args.connection.now c.refuse.new.self =
    subst (λ did. ConnectionRefuses c.args.now c.args.spare c.refuse.new.out did c.args.connection.now c.refuse.new.self) c.if-refused.false c.in_ok-refused.ensures.ok in
    let does : ConnectionDoes c.args.now Answered c.answer.new.out c.args.connection.now c.answer.new.self = subst (λ x. ConnectionDoes c.args.now Answered c.answer.new.out x c.answer.new.self) none.1 c.in_ok-answer.ensures.does in
    λ daemon.
    answered g.O.Outside.told g.O.StoreAccess.store g.met.O.StoreAccess.sure c.args.outside.now c.tell_answered-2.new.self daemon daemon.clients c.args.now c.args.id
    c.answer.new.out c.args.connection.now c.answer.new.self c.args.spare (less_then c.args.connection.now c.refuse.new.self c.answer.new.self c.refuse.ensures.held c.answer.ensures.held) does c.tell_answered-2.ensures.told c.tell_answered-2.ensures.shown
