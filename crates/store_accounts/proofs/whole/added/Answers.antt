-- First the account's row comes, then it has what is had once, then the parts come.
use Rattle.std.proofs.Common.{subst}
use Rattle.store_tables.specs.Changes.{ExtendsChanges}
use Rattle.store_accounts.specs.WholeRows.{account_made, head_made, parts_made}
use Rattle.store_accounts.proofs.WholeLemmas.{making}
use Rattle.store_accounts.proofs.whole.added.Goals as goal

pub returns-clause-made : goal.returns-clause-made
returns-clause-made c =
    let head = c.args.head.now in
    let user = head.owner.name in
    let one = c.push_account.new.changes.items in
    let two = c.push_head.new.changes.items in
    let three = c.push_parts.new.changes.items in
    making user (account_made head) head c.args.parts.now one two three
    (subst (λ ds. ExtendsChanges user (account_made head) ds one) c.new-changes.ensures.items c.in_ok-push_account.ensures.made)
    c.in_ok-push_head.ensures.made (subst (λ u. ExtendsChanges u (parts_made u c.args.parts.now) two three) c.as_slice.ensures c.in_ok-push_parts.ensures.made)
