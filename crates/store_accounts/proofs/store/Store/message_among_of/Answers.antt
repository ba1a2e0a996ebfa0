use Rattle.std.proofs.Common.{◌≡◌, ◌∙◌, ℕ, List, Ok, Err, OnOk, IfErr, IfOk, Result, Option, ap, slice_get, rules}
use Rattle.sqlite.specs.Held.{state}
use Rattle.store_accounts.specs.Account.{messages_in}
use Rattle.store_accounts.specs.Refusals.{IsTransient}
use Rattle.store_accounts.specs.declared.refusal.Refusal.{Refusal}
use Rattle.store_accounts.proofs.EnterLemmas.{entered_other, entered_again}
use Rattle.store_accounts.proofs.store.Store.message_among_of.Goals as goal

made : (r : Result (Option (List ℕ)) Refusal) (found wanted : Option (List ℕ)) → found ≡ wanted → IfOk r (λ copy. copy ≡ found) → IfOk r (λ copy. copy ≡ wanted)
made (Err e) found wanted same h = tt
made (Ok copy) found wanted same h = h ∙ same

pub returns-in_err-messages : goal.returns-in_err-messages
returns-in_err-messages g c =
    let none : OnOk c.from_residual.result ⊥ = search rules in
    let transient : IfErr c.from_residual.result IsTransient = search rules in
    entered_again c.args.user.now (λ messages a. messages ≡ messages_in a.folders c.args.folder.now) (λ message a. message ≡ slice_get (messages_in a.folders c.args.folder.now) c.args.at) (state g.S.Store c.args.self.now) (state g.S.Store c.folder_of.new.self)
    c.folder_of.result c.folder_of.ensures c.from_residual.result none transient

pub returns : goal.returns
returns g c =
    entered_other c.args.user.now (λ messages a. messages ≡ messages_in a.folders c.args.folder.now) (λ message a. message ≡ slice_get (messages_in a.folders c.args.folder.now) c.args.at) (state g.S.Store c.args.self.now) (state g.S.Store c.folder_of.new.self)
    c.folder_of.result c.folder_of.ensures c.cloned_at.result c.in_ok-messages.messages c.in_ok-messages.was c.cloned_at.ensures.named
    (λ a is. made c.cloned_at.result _ (slice_get (messages_in a.folders c.args.folder.now) c.args.at) (ap (λ l. slice_get l c.args.at) (c.as_slice.ensures ∙ is)) c.cloned_at.ensures.same)
