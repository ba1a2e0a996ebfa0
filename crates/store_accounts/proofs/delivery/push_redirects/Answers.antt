use Rattle.std.proofs.Common.{◌≡◌, ◌+◌, ◌++◌, ◌∷◌, ◌∙◌, [], pos, w64, SFits, to_z-of_z, rules}
use Rattle.store_accounts.proofs.DeliveryLemmas.{redirects_more}
use Rattle.store_accounts.proofs.delivery.push_redirects.Goals as goal

pub loop-i-preserved : goal.loop-i-preserved
loop-i-preserved c =
    let fits : SFits w64 c.in_ok-id.id = search rules in
    let number : c.in_ok-id.id ≡ pos (c.args.next + c.loop-i.i) = search rules in
    let joined : c.push.new.self.items ≡ c.loop-i.changes.items ++ c.redirect.result ∷ [] = search rules in
    redirects_more c.args.user.now c.args.sender.now c.args.message.now c.args.targets.now c.args.next c.loop-i.i _ c.as_slice.result.now c.args.changes.now.items c.loop-i.changes.items c.push.new.self.items c.redirect.result _
    c.loop-i-test.true (c.as_slice.ensures ∙ c.index-targets-i.is) (to_z-of_z fits ∙ number) joined c.redirect.ensures c.loop-i.invariant
