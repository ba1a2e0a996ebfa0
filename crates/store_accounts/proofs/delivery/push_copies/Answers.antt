use Rattle.std.proofs.Common.{◌≡◌, ◌+◌, ◌++◌, ◌∷◌, ◌∙◌, [], pos, ap, rules}
use Rattle.store_tables.specs.declared.change.Change.TheVariants.{AddCopy}
use Rattle.store_accounts.proofs.DeliveryLemmas.{copies_more}
use Rattle.store_accounts.proofs.delivery.push_copies.Goals as goal

pub loop-i-preserved : goal.loop-i-preserved
loop-i-preserved c =
    let number : c.in_ok-number_after.field-0 ≡ pos (c.args.next + c.loop-i.i) = search rules in
    let first : c.in_ok-number.field-0 ≡ pos c.args.next = search rules in
    let joined : c.push.new.self.items ≡ c.loop-i.changes.items ++ AddCopy c.args.user c.as_slice.result c.in_ok-number_after.field-0 c.in_ok-number.field-0 c.as_slice-in-loop-i.result ∷ [] = search rules in
    copies_more c.args.user c.args.copies.now c.args.next c.loop-i.i _ c.args.changes.now.items c.loop-i.changes.items c.push.new.self.items c.as_slice.result c.as_slice-in-loop-i.result c.in_ok-number_after.field-0 c.in_ok-number.field-0
    c.loop-i-test.true (c.as_slice.ensures ∙ ap (λ p. p.mailbox) c.index-copies-i.is) (c.as_slice-in-loop-i.ensures ∙ ap (λ p. p.flags) c.index-copies-i.is) number first joined c.loop-i.invariant
