use Rattle.std.proofs.Common.{ℕ, List, Option, refl, sym, ap, ◌∙◌, inl, inr}
use Rattle.store_accounts.specs.Account.{activates}
use Rattle.managesieve_sessions.proofs.ScriptLemmas.{decided, cannot_activate, active_name_some}
use Rattle.managesieve_sessions.proofs.scripts.set_active.Goals as goal

pub returns-then-not-has_script : goal.returns-then-not-has_script
returns-then-not-has_script c =
    decided _ _ _ c.refuse.result c.refuse.ensures
    (record { replies = λ a fits. inr (cannot_activate a c.args.name.now (sym c.is_empty.ensures ∙ c.if-is_empty.false) (c.if-not-has_script.ensures a fits), refl); changes = λ a. refl })

pub returns : goal.returns
returns c =
    decided _ _ _ c.agree-2.result c.agree-2.ensures
    (record {
      replies = λ a fits. inl (inr (c.if-not-has_script.ensures a fits), refl);
      changes = λ a. ap (λ (o : Option (List ℕ)). activates o a) (sym (active_name_some c.args.name.now (sym c.is_empty.ensures ∙ c.if-is_empty.false)));
    })
