use Rattle.std.proofs.Common.{refl, sym, ◌∙◌, inl, inr}
use Rattle.managesieve_sessions.proofs.ScriptLemmas.{decided, active_is, active_not}
use Rattle.managesieve_sessions.proofs.scripts.delete_script.Goals as goal

pub returns-then-not-has_script : goal.returns-then-not-has_script
returns-then-not-has_script c =
    decided _ _ _ c.refuse.result c.refuse.ensures (record { replies = λ a fits. inr (c.if-not-has_script.ensures a fits.0, refl); changes = λ a. refl })

pub returns-then-is_active : goal.returns-then-is_active
returns-then-is_active c =
    decided _ _ _ c.refuse-then-is_active.result c.refuse-then-is_active.ensures
    (record { replies = λ a fits. inl (c.if-not-has_script.ensures a fits.0, inl (fits.1 ∙ active_is _ c.args.name.now (sym c.is_active.ensures ∙ c.if-is_active.true), refl)); changes = λ a. refl })

pub returns : goal.returns
returns c =
    decided _ _ _ c.agree.result c.agree.ensures
    (record { replies = λ a fits. inl (c.if-not-has_script.ensures a fits.0, inr ((λ same. active_not _ c.args.name.now (sym c.is_active.ensures ∙ c.if-is_active.false) (sym fits.1 ∙ same)), refl)); changes = λ a. refl })
