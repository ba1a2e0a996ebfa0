use Rattle.std.proofs.Common.{◌≡◌, OnOk, IfErr, subst, rules}
use Rattle.octets.specs.Ascii.{lowered}
use Rattle.sqlite.specs.Held.{state}
use Rattle.store_accounts.specs.Promises.{ReadsEntered}
use Rattle.store_accounts.specs.Refusals.{IsTransient}
use Rattle.store_accounts.specs.ReplyRows.{IsReplyMoment, IsLastReply}
use Rattle.store_accounts.proofs.EnterLemmas.{entered_unasked}
use Rattle.store_accounts.proofs.store.Store.last_reply_of.Goals as goal

pub returns-in_err-sender : goal.returns-in_err-sender
returns-in_err-sender g c =
    let none : OnOk c.from_residual.result ⊥ = search rules in
    let transient : IfErr c.from_residual.result IsTransient = search rules in
    entered_unasked c.args.user.now (IsLastReply c.args.handle.now c.args.sender.now) (state g.S.Store c.args.self.now) c.from_residual.result none transient

pub returns : goal.returns
returns g c =
    let folded : c.as_slice.result.now ≡ lowered c.args.sender.now = search rules in
    subst (λ s. ReadsEntered c.args.user.now (IsReplyMoment c.args.handle.now s) (state g.S.Store c.args.self.now) (state g.S.Store c.moment_of.new.self) c.moment_of.result) folded c.moment_of.ensures
