use Rattle.std.proofs.Common.{◌≡◌, rules, Some, sym, subst}
use Rattle.std.specs.Prelude.{IfSome}
use Rattle.std.specs.Ordering.{nat_cmp}
use Rattle.std.specs.BTreeMap as tree
use Rattle.managesieve_sessions.specs.GivenUp.{text_given_up}
use Rattle.store_engine.proofs.HostLemmas.{ignored_give_up, gave_up}
use Rattle.store_engine.proofs.clients.give_up.Goals as goal

pub returns-in_default : goal.returns-in_default
returns-in_default c = ignored_give_up c.args.sessions.now c.get_mut.follows.lender-at-none c.args.number (search rules) (search rules)

pub returns : goal.returns
returns c =
    let one : Some c.in-Some.session.now ≡ tree.get nat_cmp c.args.sessions.now c.args.number = search rules in
    let put : tree.Updates nat_cmp c.args.sessions.now (c.get_mut.follows.lender c.give_up.new.self) c.args.number (Some c.give_up.new.self) = search rules in
    let told : c.args.text ≡ text_given_up c.in-Some.session.now.client = subst (λ o. IfSome o (λ session. c.args.text ≡ text_given_up session.client)) (sym one) c.requires in
    gave_up c.args.sessions.now (c.get_mut.follows.lender c.give_up.new.self) c.args.number c.args.text c.in-Some.session.now c.give_up.new.self c.progress_given_up-progress.result one (search rules) told (search rules) put
