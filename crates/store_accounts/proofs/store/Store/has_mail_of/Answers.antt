use Rattle.std.proofs.Common.{◌≡◌, ◌==◌, ◌∙◌, true, false, not, length, List, Ok, map, OnOk, IfErr, sym, ap, rules}
use Rattle.sqlite.specs.Held.{state}
use Rattle.store_accounts.specs.Account.{Account, has_mail}
use Rattle.store_accounts.specs.declared.queued_envelope.QueuedEnvelope.{QueuedEnvelope}
use Rattle.store_accounts.specs.HeadRows.{queued_envelope}
use Rattle.store_accounts.specs.Refusals.{IsTransient}
use Rattle.store_accounts.specs.Tally.{AreFolders}
use Rattle.store_accounts.proofs.EnterLemmas.{entered_again, entered_other, entered_both, entered_both_failed}
use Rattle.store_accounts.proofs.StandingLemmas.{empty_is, mail_filed, mail_queued}
use Rattle.store_accounts.proofs.store.Store.has_mail_of.Goals as goal

abbrev AreHeads : List QueuedEnvelope → Account → Type 0
AreHeads heads a = heads ≡ map queued_envelope a.queue

pub returns-in_err-folders : goal.returns-in_err-folders
returns-in_err-folders g c =
    let none : OnOk c.from_residual.result ⊥ = search rules in
    let transient : IfErr c.from_residual.result IsTransient = search rules in
    entered_again c.args.user.now AreFolders (λ found a. found ≡ has_mail a) (state g.S.Store c.args.self.now) (state g.S.Store c.folders_of.new.self) c.folders_of.result c.folders_of.ensures c.from_residual.result none transient

pub returns-in_err-heads : goal.returns-in_err-heads
returns-in_err-heads g c =
    let none : OnOk c.from_residual-in_err-heads.result ⊥ = search rules in
    let transient : IfErr c.from_residual-in_err-heads.result IsTransient = search rules in
    entered_both_failed c.args.user.now AreFolders AreHeads (state g.S.Store c.args.self.now) (state g.S.Store c.folders_of.new.self) (state g.S.Store c.queue_heads_of.new.self) c.folders_of.result c.in_ok-folders.folders c.in_ok-folders.was c.folders_of.ensures
    c.queue_heads_of.result c.queue_heads_of.ensures (λ found a. found ≡ has_mail a) c.from_residual-in_err-heads.result none transient

pub returns-then-not-is_empty : goal.returns-then-not-is_empty
returns-then-not-is_empty g c =
    let some : (length c.in_ok-folders.folders == 0) ≡ false = empty_is c.in_ok-folders.folders c.is_empty.result c.is_empty.ensures ∙ c.if-not-is_empty.true in
    entered_other c.args.user.now AreFolders (λ found a. found ≡ has_mail a) (state g.S.Store c.args.self.now) (state g.S.Store c.folders_of.new.self) c.folders_of.result c.folders_of.ensures (Ok true) c.in_ok-folders.folders c.in_ok-folders.was tt
    (λ a folders. mail_filed c.in_ok-folders.folders a some folders)

pub returns : goal.returns
returns g c =
    let none : (length c.in_ok-folders.folders == 0) ≡ true = empty_is c.in_ok-folders.folders c.is_empty.result c.is_empty.ensures ∙ c.if-not-is_empty.false in
    entered_both c.args.user.now AreFolders AreHeads (state g.S.Store c.args.self.now) (state g.S.Store c.folders_of.new.self) (state g.S.Store c.queue_heads_of.new.self) c.folders_of.result c.in_ok-folders.folders c.in_ok-folders.was c.folders_of.ensures
    c.queue_heads_of.result c.queue_heads_of.ensures c.in_ok-heads.heads c.in_ok-heads.was (λ found a. found ≡ has_mail a) _ (λ a folders heads. ap not (sym (empty_is c.in_ok-heads.heads c.is_empty-2.result c.is_empty-2.ensures)) ∙ mail_queued c.in_ok-folders.folders c.in_ok-heads.heads a none folders heads)
