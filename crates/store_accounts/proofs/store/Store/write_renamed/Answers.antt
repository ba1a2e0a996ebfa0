use Rattle.std.proofs.Common.{◌≡◌, None, Some, [], ◌∷◌, sym, ap, ◌∙◌, subst}
use Rattle.sqlite.specs.Held.{state}
use Rattle.store_tables.specs.declared.change.Change.TheVariants.{AddScript, RemoveScript, SetActive}
use Rattle.store_accounts.specs.Account.{renames_script, with_user}
use Rattle.store_tables.specs.Cells.{borrowed_octets}
use Rattle.store_accounts.specs.Promises.{OfUser, WritesKnown}
use Rattle.store_accounts.specs.ScriptRows.{IsRenaming}
use Rattle.store_accounts.proofs.CallLemmas.{carries_active_name, carries_renaming}
use Rattle.store_accounts.proofs.KeepLemmas.{writes}
use Rattle.store_accounts.proofs.store.Store.write_renamed.Goals as goal

pub returns-in_default : goal.returns-in_default
returns-in_default g c =
    let user = c.args.user.now in
    let name = c.args.name.now in
    let other = c.args.other.now in
    let old = state g.S.Store c.args.self.now in
    let new = state g.S.Store c.apply.new.self in
    subst (λ t. WritesKnown user (IsRenaming name other t (borrowed_octets c.args.active)) (renames_script name other) old new c.apply.result) (sym (ap borrowed_octets c.in_default.is))
    (writes c.apply.result old new (SetActive c.args.user c.args.active ∷ []) (λ all. OfUser all user (IsRenaming name other None (borrowed_octets c.args.active))) (λ all. with_user all user (renames_script name other))
    (carries_active_name c.args.user c.args.name c.args.other c.args.active) c.apply.ensures.made c.apply.ensures.settled c.apply.ensures.same c.apply.ensures.crash c.apply.ensures.named)

pub returns : goal.returns
returns g c =
    let user = c.args.user.now in
    let name = c.args.name.now in
    let other = c.args.other.now in
    let old = state g.S.Store c.args.self.now in
    let new = state g.S.Store c.apply-2.new.self in
    let same : Some c.as_slice.result.now ≡ borrowed_octets c.args.text = ap Some c.as_slice.ensures ∙ sym (ap borrowed_octets c.in-Some.is) in
    subst (λ t. WritesKnown user (IsRenaming name other t (borrowed_octets c.args.active)) (renames_script name other) old new c.apply-2.result) same
    (writes c.apply-2.result old new (RemoveScript c.args.user c.args.name ∷ RemoveScript c.args.user c.args.other ∷ AddScript c.args.user c.args.other c.as_slice.result ∷ SetActive c.args.user c.args.active ∷ [])
    (λ all. OfUser all user (IsRenaming name other (Some c.as_slice.result.now) (borrowed_octets c.args.active))) (λ all. with_user all user (renames_script name other))
    (carries_renaming c.args.user c.args.name c.args.other c.args.active c.as_slice.result) c.apply-2.ensures.made c.apply-2.ensures.settled c.apply-2.ensures.same c.apply-2.ensures.crash c.apply-2.ensures.named)
