use Rattle.std.proofs.Common.{◌≡◌, ◌++◌, ◌∷◌, [], rules}
use Rattle.store_tables.specs.declared.change.Change.TheVariants.{RemoveCopy, RemoveMessage}
use Rattle.store_accounts.proofs.LeavingLemmas.{takings_pushed}
use Rattle.store_accounts.proofs.taking.push_taking.Goals as goal

pub returns-clause-taking : goal.returns-clause-taking
returns-clause-taking c =
    let one : c.push.new.self.items ≡ c.args.changes.now.items ++ RemoveCopy c.args.user c.args.folder c.in_ok-n.n ∷ [] = search rules in
    let two : c.push-2.new.self.items ≡ c.push.new.self.items ++ RemoveMessage c.args.user c.in_ok-id.id ∷ [] = search rules in
    takings_pushed c.args.user c.args.folder c.args.leaving.now c.in_ok-n.n c.in_ok-id.id c.args.changes.now.items c.push.new.self.items c.push-2.new.self.items c.in_ok-n.ensures.same c.in_ok-id.ensures.same c.if-leaving.false one two
