-- The account was read, and its line added, as far as that went.
use Rattle.std.proofs.Common.{◌≡◌, ◌++◌, OnOk, rules}
use Rattle.sqlite.specs.Held.{state}
use Rattle.store_accounts.proofs.WalkLemmas.{over_failed, profile_over}
use Rattle.cli_run.specs.Subcommands.{found_line, user_line}
use Rattle.cli_run.proofs.AllUserLemmas.{Adds, Answered, standing_added}
use Rattle.cli_run.proofs.users.StandingLineAccountLines.add.Goals as goal

pub returns-in_err-found-clause-adds : goal.returns-in_err-found-clause-adds
returns-in_err-found-clause-adds g c =
    let name = c.args.name.now in
    let old = state g.S.Store c.args.store.now in
    let mid = state g.S.Store c.account.new.self in
    let none : OnOk c.from_residual.result ⊥ = search rules in
    over_failed (Answered name) (λ (done : Unit {0}). Adds user_line name c.args.text.now c.args.text.now) old mid c.account.result (profile_over name old mid c.account.result c.account.ensures) c.from_residual.result none

pub returns-in_err-add_found-clause-adds : goal.returns-in_err-add_found-clause-adds
returns-in_err-add_found-clause-adds g c =
    let name = c.args.name.now in
    let old = state g.S.Store c.args.store.now in
    let mid = state g.S.Store c.account.new.self in
    let none : OnOk c.from_residual-in_err-add_found.result ⊥ = search rules in
    over_failed (Answered name) (λ (done : Unit {0}). Adds user_line name c.args.text.now c.add_found.new.text) old mid c.account.result (profile_over name old mid c.account.result c.account.ensures) c.from_residual-in_err-add_found.result none

pub returns-clause-adds : goal.returns-clause-adds
returns-clause-adds g c =
    let added : c.add_found.new.text ≡ c.args.text.now ++ found_line c.args.name.now c.in_ok-found.found = search rules in
    standing_added c.args.name.now c.args.text.now c.add_found.new.text (state g.S.Store c.args.store.now) (state g.S.Store c.account.new.self) c.account.result c.in_ok-found.found c.in_ok-found.was c.account.ensures added
