use Rattle.std.proofs.Common.{◌≡◌, ◌∙◌, slice_get, w64, SFits, to_z-of_z, rules}
use Rattle.sqlite.specs.Held.{state}
use Rattle.store_accounts.specs.Account.{messages_in}
use Rattle.store_accounts.specs.CopyRows.{IsNthMessage}
use Rattle.store_accounts.proofs.EnterLemmas.{entered_told}
use Rattle.store_accounts.proofs.store.Store.message_at_of.Goals as goal

pub returns-in-Ok : goal.returns-in-Ok
returns-in-Ok g c =
    let fits : SFits w64 c.in-Ok.count = search rules in
    let number = to_z-of_z fits ∙ c.in-Ok.ensures.1 in
    entered_told c.args.user.now (IsNthMessage c.args.folder.now _) (λ message a. message ≡ slice_get (messages_in a.folders c.args.folder.now) c.args.at) (state g.S.Store c.args.self.now) (state g.S.Store c.nth_message_of.new.self) c.nth_message_of.result
    (λ message a is. is c.args.at number) c.nth_message_of.ensures
