use Rattle.std.proofs.Common.{◌≡◌, ◌∙◌, Ok, Err, Vec, OnOk, IfErr, ap, rules}
use Rattle.sqlite.specs.Held.{state}
use Rattle.store_accounts.specs.Refusals.{IsTransient}
use Rattle.store_accounts.specs.Tally.{AreFolders, AreFolderRows}
use Rattle.store_accounts.proofs.DecodeLemmas.{tally_of}
use Rattle.store_accounts.proofs.EnterLemmas.{entered_answer, entered_failed}
use Rattle.store_accounts.proofs.store.Store.folders_of.Goals as goal

pub returns-in_err-rows : goal.returns-in_err-rows
returns-in_err-rows g c =
    let same : c.self.inside.conn ≡ c.args.self.now = search rules in
    let none : OnOk c.from_residual.result ⊥ = search rules in
    let transient : IfErr c.from_residual.result IsTransient = search rules in
    entered_failed c.args.user.now AreFolderRows AreFolders (state g.S.Store c.args.self.now) (state g.S.Store c.find_folders.new.conn) c.find_folders.result (rw same at c.find_folders.ensures.finds) c.from_residual.result none transient

pub returns : goal.returns
returns g c =
    let same : c.self.inside.conn ≡ c.args.self.now = search rules in
    entered_answer c.args.user.now AreFolderRows AreFolders (state g.S.Store c.args.self.now) (state g.S.Store c.find_folders.new.conn) c.find_folders.result (rw same at c.find_folders.ensures.finds) c.tally.result c.in_ok-rows.rows c.in_ok-rows.was c.tally.ensures.named
    (λ a told. tally_of c.tally.result c.deref.result.now a (told.0, c.deref.ensures.value ∙ told.1, told.2) c.tally.ensures.ok)
