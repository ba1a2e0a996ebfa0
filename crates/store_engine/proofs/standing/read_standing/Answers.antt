use Rattle.std.proofs.Common.{◌≡◌, Ok, Some, OnOk, IfErr, rules}
use Rattle.sqlite.specs.Held.{state}
use Rattle.store_accounts.specs.Refusals.{IsTransient}
use Rattle.store_engine.proofs.StandingLemmas.{standing_none, standing_unread, standing_unseen, standing_seen}
use Rattle.store_engine.proofs.standing.read_standing.Goals as goal

pub returns-in_err-profile : goal.returns-in_err-profile
returns-in_err-profile g c =
    let none : OnOk c.from_residual.result ⊥ = search rules in
    let transient : IfErr c.from_residual.result IsTransient = search rules in
    standing_unread c.args.user.now (state g.S.Store c.args.store.now) (state g.S.Store c.account.new.self) c.account.result c.account.ensures c.from_residual.result none transient

pub returns-in_default : goal.returns-in_default
returns-in_default g c = standing_none c.args.user.now (state g.S.Store c.args.store.now) (state g.S.Store c.account.new.self) c.account.result c.account.ensures cc

pub returns-in_err-has_mail : goal.returns-in_err-has_mail
returns-in_err-has_mail g c =
    let is : c.account.result ≡ Ok (Some c.in-Some.profile) = cc in
    let none : OnOk c.from_residual-in_err-has_mail.result ⊥ = search rules in
    let transient : IfErr c.from_residual-in_err-has_mail.result IsTransient = search rules in
    standing_unseen c.args.user.now (state g.S.Store c.args.store.now) (state g.S.Store c.account.new.self) c.account.result c.account.ensures c.in-Some.profile is
    (state g.S.Store c.has_mail_of.new.self) c.has_mail_of.result c.has_mail_of.ensures c.from_residual-in_err-has_mail.result none transient

pub returns : goal.returns
returns g c =
    let is : c.account.result ≡ Ok (Some c.in-Some.profile) = cc in
    standing_seen c.args.user.now (state g.S.Store c.args.store.now) (state g.S.Store c.account.new.self) c.account.result c.account.ensures c.in-Some.profile is
    (state g.S.Store c.has_mail_of.new.self) c.has_mail_of.result c.has_mail_of.ensures c.in_ok-has_mail.has_mail c.in_ok-has_mail.was c.is_closed.result c.is_removed.result c.is_closed.ensures c.is_removed.ensures
