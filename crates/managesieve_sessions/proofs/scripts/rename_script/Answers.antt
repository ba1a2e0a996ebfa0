use Rattle.std.proofs.Common.{refl, inl, inr}
use Rattle.managesieve_sessions.proofs.ScriptLemmas.{decided}
use Rattle.managesieve_sessions.proofs.scripts.rename_script.Goals as goal

pub returns-then-not-has_script : goal.returns-then-not-has_script
returns-then-not-has_script c =
    decided _ _ _ c.refuse.result c.refuse.ensures (record { replies = λ a fits. inr (c.if-not-has_script.ensures a fits, refl); changes = λ a. refl })

pub returns-then-not-is_script_name : goal.returns-then-not-is_script_name
returns-then-not-is_script_name c =
    decided _ _ _ c.refuse-then-not-is_script_name.result c.refuse-then-not-is_script_name.ensures
    (record { replies = λ a fits. inl (c.if-not-has_script.ensures a fits, inr (c.if-not-is_script_name.ensures, refl)); changes = λ a. refl })

pub returns-then-has_script : goal.returns-then-has_script
returns-then-has_script c =
    decided _ _ _ c.refuse-then-has_script.result c.refuse-then-has_script.ensures
    (record { replies = λ a fits. inl (c.if-not-has_script.ensures a fits, inl (c.if-not-is_script_name.ensures, inl (c.if-has_script.ensures a fits, refl))); changes = λ a. refl })

pub returns : goal.returns
returns c =
    decided _ _ _ c.agree.result c.agree.ensures
    (record { replies = λ a fits. inl (c.if-not-has_script.ensures a fits, inl (c.if-not-is_script_name.ensures, inr (c.if-has_script.ensures a fits, refl))); changes = λ a. refl })
