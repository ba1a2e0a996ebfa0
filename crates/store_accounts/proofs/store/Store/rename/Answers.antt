use Rattle.std.proofs.Common.{◌≡◌, Err, option_map, ap, ◌∙◌, rules}
use Rattle.sqlite.specs.Held.{state}
use Rattle.store_accounts.specs.Account.{other_name, renames_script}
use Rattle.store_tables.specs.Cells.{borrowed_octets}
use Rattle.store_accounts.specs.ScriptRows.{HasTextAndActive, IsRenaming}
use Rattle.store_accounts.proofs.AfterLemmas.{known_writes, write_refused}
use Rattle.store_accounts.proofs.CallLemmas.{contents_is}
use Rattle.store_accounts.proofs.store.Store.rename.Goals as goal

pub returns-in_err-text : goal.returns-in_err-text
returns-in_err-text g c =
    let is : c.from_residual.result ≡ Err c.in_err-text.field-0.0 = search rules in
    let read = c.in_err-text.ensures in
    write_refused (state g.S.Store c.args.self.now) (state g.S.Store c.text_and_active.new.self) c.text_and_active.result c.args.user.now (renames_script c.args.name.now c.args.other.now) c.in_err-text.field-0.0 c.from_residual.result is
    c.text_and_active.ensures.keeps (λ clean accounts p none. read.absent clean accounts p none) read.named

pub returns : goal.returns
returns g c =
    let name = c.args.name.now in
    let other = c.args.other.now in
    known_writes c.args.user.now (IsRenaming name other (borrowed_octets c.as_ref-2.result) (borrowed_octets c.active_renamed-active.result)) (renames_script name other) (state g.S.Store c.args.self.now) (state g.S.Store c.text_and_active.new.self)
    (state g.S.Store c.write_renamed.new.self) c.text_and_active.result (c.in_ok-text.text, c.in_ok-text.active) c.in_ok-text.was (HasTextAndActive name) c.text_and_active.ensures
    (λ a known. (contents_is c.as_ref-2.result ∙ c.as_ref-2.ensures.value ∙ known.0, c.active_renamed-active.ensures ∙ ap (option_map (other_name name other)) (contents_is c.as_ref.result ∙ c.as_ref.ensures.value ∙ known.1)))
    c.write_renamed.result c.write_renamed.ensures
