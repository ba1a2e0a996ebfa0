use Rattle.std.proofs.Common.{◌≡◌, ◌∙◌, ℕ, Option, None, Ok, OnOk, IfErr, option_copied, ap, sym, rules}
use Rattle.std.specs.FinMap.{get}
use Rattle.sqlite.specs.Held.{state}
use Rattle.octets.specs.Ascii.{lowered}
use Rattle.sieve_plan.specs.Views.{last_of}
use Rattle.store_accounts.specs.Refusals.{IsTransient}
use Rattle.store_accounts.specs.ReplyRows.{IsLastReply}
use Rattle.store_engine.proofs.RecallLemmas.{recalls_none, recalls_read, recalls_told, recalls_unmade}
use Rattle.store_engine.proofs.delivery.recall_last.Goals as goal

pub returns-in_default : goal.returns-in_default
returns-in_default g c =
    recalls_none c.args.user.now (λ (last : Option ℕ) a. last ≡ last_of a c.args.sender.now (option_copied c.args.reply)) (state g.S.Store c.args.store.now) (Ok None) tt (λ a. ap (λ r. last_of a c.args.sender.now (option_copied r)) (sym c.in_default.is))

pub returns-then-not-has_short_texts : goal.returns-then-not-has_short_texts
returns-then-not-has_short_texts g c =
    recalls_unmade c.args.user.now (λ (last : Option ℕ) a. last ≡ last_of a c.args.sender.now (option_copied c.args.reply)) (state g.S.Store c.args.store.now) _ tt (search rules)

pub returns-in_err-key : goal.returns-in_err-key
returns-in_err-key g c =
    let none : OnOk c.from_residual.result ⊥ = search rules in
    let transient : IfErr c.from_residual.result IsTransient = search rules in
    recalls_unmade c.args.user.now (λ (last : Option ℕ) a. last ≡ last_of a c.args.sender.now (option_copied c.args.reply)) (state g.S.Store c.args.store.now) c.from_residual.result none transient

pub returns : goal.returns
returns g c =
    recalls_told c.args.user.now (IsLastReply c.as_slice.result.now c.args.sender.now) (λ (last : Option ℕ) a. last ≡ last_of a c.args.sender.now (option_copied c.args.reply)) (state g.S.Store c.args.store.now) (state g.S.Store c.last_reply_of.new.self) c.last_reply_of.result
    (λ last a is. is ∙ (ap (λ k. get a.replies (k, lowered c.args.sender.now)) (c.as_slice.ensures ∙ c.in_ok-key.ensures) ∙ ap (λ r. last_of a c.args.sender.now (option_copied r)) (sym c.in-Some.is)))
    (recalls_read c.args.user.now (IsLastReply c.as_slice.result.now c.args.sender.now) (state g.S.Store c.args.store.now) (state g.S.Store c.last_reply_of.new.self) c.last_reply_of.result c.last_reply_of.ensures)
