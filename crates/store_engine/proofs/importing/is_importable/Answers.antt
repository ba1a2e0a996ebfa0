-- The scripts are tested last.
use Rattle.std.proofs.Common.{◌∙◌, sym, ap, subst, IfOk, MatchBool, rules}
use Rattle.store_engine.specs.Importable.{HasSoundScripts, have_short_flags}
use Rattle.store_engine.specs.Limits.{IsOwnAddress, is_user_name}
use Rattle.store_engine.proofs.ImportLemmas.{tested}
use Rattle.store_engine.proofs.importing.is_importable.Goals as goal

pub returns : goal.returns
returns c =
    let file = c.args.file.now in
    let own : IsOwnAddress c.as_slice-2.result.now = search (rules, c.in_ok-is_own_address.ensures) in
    tested file.head file.parts file.is_account (ap is_user_name (sym c.as_slice.ensures) ∙ (sym c.is_user_name.ensures ∙ c.if-not-is_user_name.false)) (sym c.may_guard.ensures ∙ c.if-not-may_guard.false)
    (ap have_short_flags (sym c.as_slice-3.ensures) ∙ (sym c.have_short_flags.ensures ∙ c.if-not-have_short_flags.false)) (subst IsOwnAddress c.as_slice-2.ensures own) c.has_sound_scripts.result
    (subst (λ ps. IfOk c.has_sound_scripts.result (λ holds. MatchBool holds (HasSoundScripts ps) (HasSoundScripts ps → ⊥))) c.as_slice-4.ensures c.has_sound_scripts.ensures)
