-- The change is put to the machine, and told.
use Rattle.std.proofs.Common.{◌≡◌, ◌∙◌, ap, rules}
use Rattle.store_engine.specs.declared.script_edit.ScriptEdit.TheVariants.{Rename}
use Rattle.cli_run.specs.Faults.{memory}
use Rattle.cli_run.specs.Serving.{HasDenied}
use Rattle.cli_run.proofs.ScriptEditLemmas.{edit_hindered, edit_same}
use Rattle.cli_run.proofs.WordLemmas.{no_memory}
use Rattle.cli_run.proofs.script_edits.run_rename.Goals as goal

pub returns-in_err-name-clause-does : goal.returns-in_err-name-clause-does
returns-in_err-name-clause-does g c tells =
    let asked = c.args.asked in
    edit_hindered (HasDenied g.K.Keeper.refuses g.K.Keeper.will_wait asked.location) asked.user.now (Rename asked.script.now asked.new_name.now) (g.W.Write.contents c.args.output.now) (g.K.Keeper.holds c.args.keeper.now) memory c.from_residual.result (search rules)
    (no_memory ⊥ ⊥ (HasDenied g.K.Keeper.refuses g.K.Keeper.will_wait asked.location))

pub returns-in_err-other-clause-does : goal.returns-in_err-other-clause-does
returns-in_err-other-clause-does g c tells =
    let asked = c.args.asked in
    edit_hindered (HasDenied g.K.Keeper.refuses g.K.Keeper.will_wait asked.location) asked.user.now (Rename asked.script.now asked.new_name.now) (g.W.Write.contents c.args.output.now) (g.K.Keeper.holds c.args.keeper.now) memory c.from_residual-in_err-other.result (search rules)
    (no_memory ⊥ ⊥ (HasDenied g.K.Keeper.refuses g.K.Keeper.will_wait asked.location))

pub returns-clause-does : goal.returns-clause-does
returns-clause-does g c tells =
    let asked = c.args.asked in
    let whom : c.as_bytes-user.result.now ≡ asked.user.now = search rules in
    let named : c.in_ok-name.name ≡ asked.script.now = search rules in
    let called : c.in_ok-other.other ≡ asked.new_name.now = search rules in
    edit_same (HasDenied g.K.Keeper.refuses g.K.Keeper.will_wait asked.location) c.as_bytes-user.result.now asked.user.now (Rename c.in_ok-name.name c.in_ok-other.other) (Rename asked.script.now asked.new_name.now) whom
    (ap (λ n. Rename n c.in_ok-other.other) named ∙ ap (Rename asked.script.now) called) (g.W.Write.contents c.args.output.now)
    (g.W.Write.contents c.edit_and_tell.new.output) c.edit_and_tell.result (g.K.Keeper.holds c.args.keeper.now) (g.K.Keeper.holds c.edit_and_tell.new.keeper) (c.edit_and_tell.ensures.does tells)
