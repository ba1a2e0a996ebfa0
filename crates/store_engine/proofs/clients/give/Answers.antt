use Rattle.std.proofs.Common.{◌≡◌, rules, Some}
use Rattle.std.specs.Ordering.{nat_cmp}
use Rattle.std.specs.BTreeMap as tree
use Rattle.store_accounts.specs.declared.refusal.Refusal.TheVariants.{Memory}
use Rattle.store_engine.specs.declared.answer.Answer.TheVariants.{Refused}
use Rattle.store_engine.specs.declared.event.Event.TheVariants.{Give}
use Rattle.store_engine.specs.Hosts.{answer_of}
use Rattle.store_engine.proofs.HostLemmas.{ignored_give, lacking_back, given_told, give_lacks}
use Rattle.store_engine.proofs.clients.give.Goals as goal

pub returns-in_default : goal.returns-in_default
returns-in_default c = ignored_give c.args.sessions.now c.get_mut.follows.lender-at-none c.args.number c.args.piece.now (search rules) (search rules)

pub returns-in_err-give : goal.returns-in_err-give
returns-in_err-give c =
    let is : answer_of c.from_residual.result ≡ Refused Memory = search rules in
    let one : Some c.in-Some.session.now ≡ tree.get nat_cmp c.args.sessions.now c.args.number = search rules in
    let put : tree.Updates nat_cmp c.args.sessions.now (c.get_mut.follows.lender c.give.new.self) c.args.number (Some c.in-Some.session.now) = search rules in
    lacking_back (Give c.args.number c.args.piece.now) c.args.sessions.now (c.get_mut.follows.lender c.give.new.self) c.args.number c.in-Some.session.now (answer_of c.from_residual.result) is
    (give_lacks c.args.sessions.now c.args.number c.args.piece.now c.in-Some.session.now one) one put

pub returns : goal.returns
returns c =
    let one : Some c.in-Some.session.now ≡ tree.get nat_cmp c.args.sessions.now c.args.number = search rules in
    let put : tree.Updates nat_cmp c.args.sessions.now (c.get_mut.follows.lender c.give.new.self) c.args.number (Some c.give.new.self) = search rules in
    given_told c.args.sessions.now (c.get_mut.follows.lender c.give.new.self) c.args.number c.args.piece.now c.in-Some.session.now c.give.new.self c.progress.result c.new.result (search rules) (search rules) one (search rules) put
