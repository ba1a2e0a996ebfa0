-- The lines were added, and the next name read, as far as that went.
use Rattle.std.proofs.Common.{OnOk, rules}
use Rattle.sqlite.specs.Held.{state}
use Rattle.store_accounts.proofs.WalkLemmas.{over_failed}
use Rattle.cli_run.specs.AllUsers.{AddsLines}
use Rattle.cli_run.proofs.AllUserLemmas.{Adds, user_added}
use Rattle.cli_run.proofs.all_users.add_user.Goals as goal

pub returns-in_err-add-clause-adds : goal.returns-in_err-add-clause-adds
returns-in_err-add-clause-adds g c =
    let lines = g.L.AccountLines.lines c.args.lines.now in
    let name = c.args.name.now in
    let none : OnOk c.from_residual.result ⊥ = search rules in
    over_failed (λ (done : Unit {0}). Adds lines name c.args.text.now c.add.new.text) (AddsLines lines name c.args.text.now c.add.new.text) (state g.S.Store c.args.store.now) (state g.S.Store c.add.new.store) c.add.result c.add.ensures.adds c.from_residual.result none

pub returns-clause-adds : goal.returns-clause-adds
returns-clause-adds g c =
    let lines = g.L.AccountLines.lines c.args.lines.now in
    user_added lines c.args.name.now c.args.text.now c.add.new.text (state g.S.Store c.args.store.now) (state g.S.Store c.add.new.store) (state g.S.Store c.next_user.new.self) c.add.result c.in_ok-add.field-0 c.in_ok-add.was c.add.ensures.adds
    c.next_user.result c.next_user.ensures.next
