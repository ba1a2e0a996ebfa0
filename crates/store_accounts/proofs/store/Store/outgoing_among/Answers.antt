use Rattle.std.proofs.Common.{◌≡◌, ◌∙◌, Ok, Err, OnOk, IfErr, IfOk, Result, Option, ap, option_copied, rules}
use Rattle.sqlite.specs.Held.{state}
use Rattle.store_accounts.specs.Account.{Account, row_with}
use Rattle.store_accounts.specs.Refusals.{IsTransient}
use Rattle.store_accounts.specs.declared.queue.QueuedMessage.{QueuedMessage}
use Rattle.store_accounts.specs.declared.refusal.Refusal.{Refusal}
use Rattle.store_accounts.proofs.EnterLemmas.{entered_other, entered_again}
use Rattle.store_accounts.proofs.store.Store.outgoing_among.Goals as goal

made : (r : Result (Option QueuedMessage) Refusal) (found wanted : Option QueuedMessage) → found ≡ wanted → IfOk r (λ copy. copy ≡ found) → IfOk r (λ copy. copy ≡ wanted)
made (Err e) found wanted same h = tt
made (Ok copy) found wanted same h = h ∙ same

pub returns-in_err-queue : goal.returns-in_err-queue
returns-in_err-queue g c =
    let none : OnOk c.from_residual.result ⊥ = search rules in
    let transient : IfErr c.from_residual.result IsTransient = search rules in
    entered_again c.args.user.now (λ queue a. queue ≡ a.queue) (λ row a. row ≡ row_with c.args.id a.queue) (state g.S.Store c.args.self.now) (state g.S.Store c.queue_of.new.self) c.queue_of.result c.queue_of.ensures c.from_residual.result none transient

pub returns : goal.returns
returns g c =
    entered_other c.args.user.now (λ queue a. queue ≡ a.queue) (λ row a. row ≡ row_with c.args.id a.queue) (state g.S.Store c.args.self.now) (state g.S.Store c.queue_of.new.self) c.queue_of.result c.queue_of.ensures c.cloned.result
    c.in_ok-queue.queue c.in_ok-queue.was c.cloned.ensures.named
    (λ a is. made c.cloned.result _ (row_with c.args.id a.queue) (c.row_in.ensures ∙ ap (row_with c.args.id) (c.as_slice.ensures ∙ is)) c.cloned.ensures.same)
