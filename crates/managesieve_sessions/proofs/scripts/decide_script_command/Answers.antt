use Rattle.std.proofs.Common.{ℕ, List, sym, ap, ◌∙◌}
use Rattle.managesieve_protocol.specs.declared.commands.ClientCommand.TheVariants.{HaveSpace, PutScript, RenameScript}
use Rattle.managesieve_sessions.specs.CommandClasses.{of_named}
use Rattle.managesieve_sessions.proofs.ScriptLemmas.{decided_by, two_texts}
use Rattle.managesieve_sessions.proofs.scripts.decide_script_command.Goals as goal

pub returns-in-HaveSpace : goal.returns-in-HaveSpace
returns-in-HaveSpace c =
    decided_by _ _ _ _ c.have_space.result (λ a fits. c.as_slice-there.ensures ∙ fits.0) (ap of_named c.in-HaveSpace.is ∙ ap (λ (name : List ℕ). HaveSpace name c.in-HaveSpace.size) (sym c.as_slice.ensures)) c.have_space.ensures

pub returns-in-PutScript : goal.returns-in-PutScript
returns-in-PutScript c =
    decided_by _ _ _ _ c.put_script.result (λ a fits. c.as_slice-there.ensures ∙ fits.0) (ap of_named c.in-PutScript.is ∙ two_texts PutScript _ _ _ _ (sym c.as_slice-in-PutScript.ensures) (sym c.as_slice-in-PutScript-2.ensures)) c.put_script.ensures

pub returns : goal.returns
returns c =
    decided_by _ _ _ _ c.rename_script.result (λ a fits. c.as_slice-there.ensures ∙ fits.0) (ap of_named c.in-RenameScript.is ∙ two_texts RenameScript _ _ _ _ (sym c.as_slice-in-RenameScript.ensures) (sym c.as_slice-in-RenameScript-2.ensures)) c.rename_script.ensures
