use Rattle.std.proofs.Common.{◌≡◌, is_some, true, false, OnOk, IfErr, None, subst, sym, ◌∙◌, rules}
use Rattle.std.specs.FinMap.{empty, insert}
use Rattle.sqlite.specs.Held.{state}
use Rattle.store_text.specs.Text.{IsAccount}
use Rattle.store_accounts.specs.declared.refusal.Refusal.TheVariants.{Memory}
use Rattle.store_accounts.specs.Promises.{IsFree, WritesStore, WritesAccount}
use Rattle.store_accounts.specs.Refusals.{IsTransient}
use Rattle.store_accounts.specs.Whole.{whole, takes_whole}
use Rattle.store_engine.specs.AccountEvents.{IsImportable}
use Rattle.store_engine.specs.Lookups.{over_standing, ReadsStanding}
use Rattle.store_engine.proofs.ImportingLemmas.{import_over_refuses, import_transient, import_bad, import_lacks, import_unread, import_over, import_added, import_replaced}
use Rattle.store_engine.proofs.importing.import.Goals as goal

pub returns-in_err-is_importable-clause-acts : goal.returns-in_err-is_importable-clause-acts
returns-in_err-is_importable-clause-acts g c =
    let undone : OnOk c.from_residual.result ⊥ = search rules in
    let lack : IfErr c.from_residual.result (λ e. e ≡ Memory) = search rules in
    import_lacks c.args.file.now.head c.args.file.now.parts (state g.S.Store c.args.store.now) c.from_residual.result undone lack

pub returns-then-not-branch-clause-acts : goal.returns-then-not-branch-clause-acts
returns-then-not-branch-clause-acts g c =
    let bad : IsImportable c.args.file.now.head c.args.file.now.parts → ⊥ = search (rules, c.in_ok-is_importable.ensures) in
    import_bad c.args.file.now.head c.args.file.now.parts (state g.S.Store c.args.store.now) bad

pub returns-in_err-found-clause-acts : goal.returns-in_err-found-clause-acts
returns-in_err-found-clause-acts g c =
    let fit : IsImportable c.args.file.now.head c.args.file.now.parts = search (rules, c.in_ok-is_importable.ensures) in
    let undone : OnOk c.from_residual-in_err-found.result ⊥ = search rules in
    let transient : IfErr c.from_residual-in_err-found.result IsTransient = search rules in
    let old = state g.S.Store c.args.store.now in
    let mid = state g.S.Store c.read_standing.new.store in
    let read = subst (λ u. ReadsStanding u old mid c.read_standing.result) c.as_slice.ensures c.read_standing.ensures in
    import_unread c.args.file.now.head c.args.file.now.parts fit old mid c.read_standing.result read c.from_residual-in_err-found.result undone transient

pub returns-in-Some-clause-acts : goal.returns-in-Some-clause-acts
returns-in-Some-clause-acts g c =
    let fit : IsImportable c.args.file.now.head c.args.file.now.parts = search (rules, c.in_ok-is_importable.ensures) in
    let old = state g.S.Store c.args.store.now in
    let mid = state g.S.Store c.read_standing.new.store in
    let read = subst (λ u. ReadsStanding u old mid c.read_standing.result) c.as_slice.ensures c.read_standing.ensures in
    import_over c.args.file.now.head c.args.file.now.parts fit old mid c.read_standing.result read c.in_ok-found.found c.in_ok-found.was c.in-Some.refusal (sym c.refusal_over.ensures ∙ c.in-Some.is)

pub returns-in-Some-clause-named : goal.returns-in-Some-clause-named
returns-in-Some-clause-named g c =
    let fit : IsImportable c.args.file.now.head c.args.file.now.parts = search (rules, c.in_ok-is_importable.ensures) in
    import_over_refuses c.args.file.now.head c.args.file.now.parts c.in_ok-found.found c.in-Some.refusal fit (sym c.refusal_over.ensures ∙ c.in-Some.is)

pub renew_whole-requires : goal.renew_whole-requires
renew_whole-requires g c = subst (IsAccount c.args.file.now.head) (sym c.as_slice-then-is_some.ensures) c.args.file.now.is_account

pub add_whole-requires : goal.add_whole-requires
add_whole-requires g c = subst (IsAccount c.args.file.now.head) (sym c.as_slice-2.ensures) c.args.file.now.is_account

pub returns-then-is_some-clause-acts : goal.returns-then-is_some-clause-acts
returns-then-is_some-clause-acts g c =
    let head = c.args.file.now.head in
    let parts = c.args.file.now.parts in
    let fit : IsImportable c.args.file.now.head c.args.file.now.parts = search (rules, c.in_ok-is_importable.ensures) in
    let clear : over_standing c.in_ok-found.found ≡ None = sym c.refusal_over.ensures ∙ c.in_default.is in
    let some : is_some c.in_ok-found.found ≡ true = sym c.is_some.ensures ∙ c.if-is_some.true in
    let old = state g.S.Store c.args.store.now in
    let mid = state g.S.Store c.read_standing.new.store in
    let end = state g.S.Store c.renew_whole.new.self in
    let read = subst (λ u. ReadsStanding u old mid c.read_standing.result) c.as_slice.ensures c.read_standing.ensures in
    let late = subst (λ ps. WritesAccount head.owner.name (takes_whole head ps) mid end c.renew_whole.result) c.as_slice-then-is_some.ensures c.renew_whole.ensures.writes in
    import_replaced head parts fit old mid c.read_standing.result read c.in_ok-found.found c.in_ok-found.was some clear end c.renew_whole.result late c.renew_whole.ensures.named

pub returns-then-is_some-clause-named : goal.returns-then-is_some-clause-named
returns-then-is_some-clause-named g c =
    let fit : IsImportable c.args.file.now.head c.args.file.now.parts = search (rules, c.in_ok-is_importable.ensures) in
    import_transient c.args.file.now.head c.args.file.now.parts c.renew_whole.result fit c.renew_whole.ensures.named

pub returns-clause-acts : goal.returns-clause-acts
returns-clause-acts g c =
    let head = c.args.file.now.head in
    let parts = c.args.file.now.parts in
    let fit : IsImportable c.args.file.now.head c.args.file.now.parts = search (rules, c.in_ok-is_importable.ensures) in
    let none : is_some c.in_ok-found.found ≡ false = sym c.is_some.ensures ∙ c.if-is_some.false in
    let old = state g.S.Store c.args.store.now in
    let mid = state g.S.Store c.read_standing.new.store in
    let end = state g.S.Store c.add_whole.new.self in
    let read = subst (λ u. ReadsStanding u old mid c.read_standing.result) c.as_slice.ensures c.read_standing.ensures in
    let late = subst (λ ps. WritesStore (IsFree head.owner.name) (λ all. insert all head.owner.name (whole head ps empty)) mid end c.add_whole.result) c.as_slice-2.ensures c.add_whole.ensures in
    import_added head parts fit old mid c.read_standing.result read c.in_ok-found.found c.in_ok-found.was none end c.add_whole.result late

pub returns-clause-named : goal.returns-clause-named
returns-clause-named g c =
    let fit : IsImportable c.args.file.now.head c.args.file.now.parts = search (rules, c.in_ok-is_importable.ensures) in
    import_transient c.args.file.now.head c.args.file.now.parts c.add_whole.result fit c.add_whole.ensures.named
