use Rattle.std.proofs.Common.{sym, subst}
use Rattle.sqlite.specs.Held.{state}
use Rattle.store_accounts.specs.Promises.{ReadsEntered}
use Rattle.store_export.specs.Saying.{SaysAt}
use Rattle.store_export.proofs.part.part_at.Goals as goal

pub returns-in-Mail : goal.returns-in-Mail
returns-in-Mail g c =
    let a = state g.S.Store c.args.store.now in
    let b = state g.S.Store c.read_mail.new.store in
    subst (λ p. ReadsEntered c.args.user.now (λ part account. SaysAt c.args.user.now p part a.now account) a b c.read_mail.result) (sym c.in-Mail.is) c.read_mail.ensures
