use Rattle.std.proofs.Common.{[], ◌∙◌, subst, sym, arith}
use Rattle.lmtp_connections.specs.Connections.{Answered}
use Rattle.lmtp_connections.specs.Stands.{Demands}
use Rattle.lmtp_connections.specs.declared.demand.Demand.TheVariants as demand
use Rattle.net_loop.specs.Rules.{step_at}
use Rattle.daemon_core.specs.LmtpSteps.{DoesOneIf, lmtp_moment}
use Rattle.daemon_core.proofs.LmtpStepLemmas.{behind, answered, gathered, gathers, keeps_then, less_behind, one_behind}
use Rattle.daemon_core.proofs.EventLemmas.{ok_then}
use Rattle.daemon_core.proofs.mail_step.do_next.Goals as goal

pub answer_line-requires-clause-line : goal.answer_line-requires-clause-line
answer_line-requires-clause-line g c = subst (Demands c.args.now c.demand.new.self) c.in-Line.is c.in_ok-demand.ensures.demands

pub put_off-requires : goal.put_off-requires
put_off-requires g c = subst (Demands c.args.now c.demand.new.self) c.in-PutOff.is c.in_ok-demand.ensures.demands

pub reply-requires : goal.reply-requires
reply-requires g c = subst (Demands c.args.now c.demand.new.self) c.in-Reply.is c.in_ok-demand.ensures.demands

pub reply_noted-requires : goal.reply_noted-requires
reply_noted-requires g c = subst (Demands c.args.now c.demand.new.self) c.in-Noted.is c.in_ok-demand.ensures.demands

pub find_account_for-requires-clause-asked : goal.find_account_for-requires-clause-asked
find_account_for-requires-clause-asked g c = subst (Demands c.args.now c.demand.new.self) c.in-Account.is c.in_ok-demand.ensures.demands

pub returns-in-Line-clause-ok : goal.returns-in-Line-clause-ok
returns-in-Line-clause-ok g c = ok_then c.answer_line.result c.answer_line.ensures.ok (λ ok.
    one_behind g.O.Outside.told g.O.StoreAccess.store.view c.args.outside.now c.answer_line.new.outside c.args.daemon.now c.args.daemon.now c.args.connection.now c.demand.new.self c.answer_line.new.connection c.args.now c.args.id
    c.answer_line.new.out c.args.spare c.demand.ensures.keeps c.demand.ensures.receiver (ok c.args.daemon.now))

pub returns-in_ok-line-in-PutOff-clause-ok : goal.returns-in_ok-line-in-PutOff-clause-ok
returns-in_ok-line-in-PutOff-clause-ok g c =
    answered g.O.Outside.told g.O.StoreAccess.store g.met.O.StoreAccess.sure c.args.outside.now c.tell_answered.new.self c.args.daemon.now c.args.daemon.now.clients c.args.now c.args.id
    c.in_ok-line-in-PutOff.line c.args.connection.now c.put_off.new.self c.args.spare
    (less_behind c.args.connection.now c.demand.new.self c.put_off.new.self c.demand.ensures.receiver c.put_off.ensures.held) (behind c.args.now Answered c.in_ok-line-in-PutOff.line c.args.connection.now c.demand.new.self c.put_off.new.self c.demand.ensures.keeps c.in_ok-line-in-PutOff.ensures.does)
    c.tell_answered.ensures.told c.tell_answered.ensures.shown

pub returns-in_ok-line-in-Reply-clause-ok : goal.returns-in_ok-line-in-Reply-clause-ok
returns-in_ok-line-in-Reply-clause-ok g c =
    answered g.O.Outside.told g.O.StoreAccess.store g.met.O.StoreAccess.sure c.args.outside.now c.tell_answered-in-Reply.new.self c.args.daemon.now c.args.daemon.now.clients c.args.now c.args.id
    c.in_ok-line-in-Reply.line c.args.connection.now c.reply.new.self c.args.spare
    (less_behind c.args.connection.now c.demand.new.self c.reply.new.self c.demand.ensures.receiver c.reply.ensures.held) (behind c.args.now Answered c.in_ok-line-in-Reply.line c.args.connection.now c.demand.new.self c.reply.new.self c.demand.ensures.keeps c.in_ok-line-in-Reply.ensures.does)
    c.tell_answered-in-Reply.ensures.told c.tell_answered-in-Reply.ensures.shown

pub returns-in_ok-room-in-Account-clause-ok : goal.returns-in_ok-room-in-Account-clause-ok
returns-in_ok-room-in-Account-clause-ok g c =
    one_behind g.O.Outside.told g.O.StoreAccess.store.view c.args.outside.now c.find_account_for.new.outside c.args.daemon.now c.find_account_for.new.daemon c.args.connection.now c.demand.new.self c.find_account_for.new.connection c.args.now c.args.id
    c.find_account_for.result c.args.spare c.demand.ensures.keeps c.demand.ensures.receiver (c.find_account_for.ensures.does c.args.spare)

pub returns-in_ok-line-in-Noted-clause-ok : goal.returns-in_ok-line-in-Noted-clause-ok
returns-in_ok-line-in-Noted-clause-ok g c =
    answered g.O.Outside.told g.O.StoreAccess.store g.met.O.StoreAccess.sure c.args.outside.now c.tell_answered-in-Noted.new.self c.args.daemon.now c.args.daemon.now.clients c.args.now c.args.id
    c.in_ok-line-in-Noted.line c.args.connection.now c.reply_noted.new.self c.args.spare
    (less_behind c.args.connection.now c.demand.new.self c.reply_noted.new.self c.demand.ensures.receiver c.reply_noted.ensures.held) (behind c.args.now Answered c.in_ok-line-in-Noted.line c.args.connection.now c.demand.new.self c.reply_noted.new.self c.demand.ensures.keeps c.in_ok-line-in-Noted.ensures.does)
    c.tell_answered-in-Noted.ensures.told c.tell_answered-in-Noted.ensures.shown

pub returns-then-goes_together-clause-ok : goal.returns-then-goes_together-clause-ok
returns-then-goes_together-clause-ok g c = ok_then c.gather.result c.gather.ensures.gathers (λ both.
    let mid = c.demand.new.self in
    let reserved = c.reserve_reply.new.self in
    let asked : Demands c.args.now mid demand.Delivery = subst (Demands c.args.now mid) c.in-Delivery.is c.in_ok-demand.ensures.demands in
    let still : Demands c.args.now reserved demand.Delivery = λ p stands. asked p (c.reserve_reply.ensures.alike.1 p stands) in
    subst (λ said. DoesOneIf g.O.Outside.told g.O.StoreAccess.store.view c.args.spare (lmtp_moment c.args.outside.now c.args.daemon.now c.args.connection.now) (step_at c.args.now c.args.id said) (lmtp_moment c.gather.new.outside c.args.daemon.now reserved)) (sym c.requires)
    (one_behind g.O.Outside.told g.O.StoreAccess.store.view c.args.outside.now c.gather.new.outside c.args.daemon.now c.args.daemon.now c.args.connection.now reserved reserved c.args.now c.args.id [] c.args.spare
    (keeps_then c.args.connection.now mid reserved c.demand.ensures.keeps c.reserve_reply.ensures.alike.0) (c.reserve_reply.ensures.receiver ∙ c.demand.ensures.receiver)
    (gathered g.O.Outside.told g.O.StoreAccess.store g.met.O.StoreAccess.sure c.args.outside.now c.gather.new.outside c.args.daemon.now c.args.daemon.now.clients c.args.now c.args.id [] reserved reserved c.args.spare (omega arith) (gathers c.args.now reserved still) both.0 both.1)))

pub returns-in_ok-request-in-Delivery-clause-ok : goal.returns-in_ok-request-in-Delivery-clause-ok
returns-in_ok-request-in-Delivery-clause-ok g c =
    let reserved = c.reserve_reply.new.self in
    subst (λ said. DoesOneIf g.O.Outside.told g.O.StoreAccess.store.view c.args.spare (lmtp_moment c.args.outside.now c.args.daemon.now c.args.connection.now) (step_at c.args.now c.args.id said) (lmtp_moment c.deliver.new.outside c.deliver.new.daemon c.deliver.new.connection)) (sym c.requires)
    (one_behind g.O.Outside.told g.O.StoreAccess.store.view c.args.outside.now c.deliver.new.outside c.args.daemon.now c.deliver.new.daemon c.args.connection.now reserved c.deliver.new.connection c.args.now c.args.id
    [] c.args.spare (keeps_then c.args.connection.now c.demand.new.self reserved c.demand.ensures.keeps c.reserve_reply.ensures.alike.0) (c.reserve_reply.ensures.receiver ∙ c.demand.ensures.receiver) (c.deliver.ensures.does c.args.spare))
