-- Changes of scripts beside their texts: they are those of ManageSieve's commands; near misses.
use Rattle.std.proofs.Common.{◌≡◌, ℕ, true, false, cond, List, [], ◌∷◌, Option, Some, None, refl, sym, ◌∙◌, ap, subst, inl, inr, true≢false}
use Rattle.store_accounts.specs.Account.{Account, open_one}
use Rattle.store_accounts.specs.declared.refusal.Refusal.TheVariants.{BadScriptName}
use Rattle.managesieve_protocol.specs.declared.commands.ClientCommand.TheVariants.{SetActive, DeleteScript, RenameScript}
use Rattle.managesieve_sessions.specs.Limits.{IsScriptName}
use Rattle.managesieve_sessions.specs.Replies.{done_reply}
use Rattle.managesieve_sessions.specs.Scripts.{RepliesToSet, RepliesToDelete, RepliesToRename, carried_out, is_active}
use Rattle.managesieve_sessions.proofs.ScriptLemmas.{active_not}
use Rattle.store_engine.specs.ScriptEdits.{edited, has_script, objection_to}
use Rattle.store_engine.specs.Upkeep.{DoesUpkeep, InAccount, Edits, EditsUnless}
use Rattle.store_engine.specs.declared.answer.Answer.TheVariants.{Edited, Refused}
use Rattle.store_engine.specs.declared.script_edit.ScriptEdit.TheVariants as edit
use Rattle.store_engine.specs.declared.script_edit.ScriptObjection.{ScriptObjection}
use Rattle.store_engine.specs.declared.script_edit.ScriptObjection.TheVariants.{NoScript, IsActive, NameTaken}
use Rattle.store_engine.specs.declared.upkeep.Upkeep.TheVariants.{EditScripts}
use Rattle.store_engine.proofs.EditLemmas.{passed, passed_by}

-- ---- what nothing stands against is what the command answers OK to, and it changes the same (RFC 5804, 2.8, 2.10, 2.11)

as_set : (a : Account) (octet : ℕ) (rest : List ℕ) → objection_to (edit.Activate (octet ∷ rest)) a ≡ None
    → RepliesToSet a (octet ∷ rest) done_reply × (edited (edit.Activate (octet ∷ rest)) a ≡ carried_out (SetActive (octet ∷ rest)) a)
as_set a octet rest free = (inl (inr (passed (has_script a (octet ∷ rest)) None NoScript free).0, refl), refl)

as_set_none : (a : Account) → RepliesToSet a [] done_reply × (edited edit.Deactivate a ≡ carried_out (SetActive []) a)
as_set_none a = (inl (inl refl, refl), refl)

as_delete : (a : Account) (name : List ℕ) → objection_to (edit.Delete name) a ≡ None → RepliesToDelete a name done_reply × (edited (edit.Delete name) a ≡ carried_out (DeleteScript name) a)
as_delete a name free =
    let tests = passed (has_script a name) (cond (is_active a.active name) (Some IsActive) None) NoScript free in
    (inl (tests.0, inr (active_not a.active name (passed_by (is_active a.active name) IsActive tests.1), refl)), refl)

as_rename : (a : Account) (name other : List ℕ) → IsScriptName other → objection_to (edit.Rename name other) a ≡ None
    → RepliesToRename a name other done_reply × (edited (edit.Rename name other) a ≡ carried_out (RenameScript name other) a)
as_rename a name other named free =
    let tests = passed (has_script a name) (cond (has_script a other) (Some NameTaken) None) NoScript free in
    (inl (tests.0, inl (named, inr ((λ there. true≢false (sym there ∙ passed_by (has_script a other) NameTaken tests.1)), refl))), refl)

-- ---- near misses: the active script is deleted; a script takes the place of another; one that isn't there is made active

module _ (a : Account) (name other : List ℕ) (change : Option Account) where
  active_deleted : has_script a name ≡ true → is_active a.active name ≡ true → Edits (edit.Delete name) a Edited change → ⊥
  active_deleted there live is =
      let against : objection_to (edit.Delete name) a ≡ Some IsActive = ap (λ b. cond b (cond (is_active a.active name) (Some IsActive) None) (Some NoScript)) there ∙ ap (λ b. cond b (Some IsActive) None) live in
      let row = subst (λ (o : Option ScriptObjection). EditsUnless o (edit.Delete name) a Edited change) against is in
      let no = row.says in
      cc

  taken_over : has_script a name ≡ true → has_script a other ≡ true → Edits (edit.Rename name other) a Edited change → ⊥
  taken_over there taken is =
      let against : objection_to (edit.Rename name other) a ≡ Some NameTaken = ap (λ b. cond b (cond (has_script a other) (Some NameTaken) None) (Some NoScript)) there ∙ ap (λ b. cond b (Some NameTaken) None) taken in
      let row = subst (λ (o : Option ScriptObjection). EditsUnless o (edit.Rename name other) a Edited change) against is in
      let no = row.says in
      cc

  absent_active : has_script a name ≡ false → Edits (edit.Activate name) a Edited change → ⊥
  absent_active absent is =
      let against : objection_to (edit.Activate name) a ≡ Some NoScript = ap (λ b. cond b None (Some NoScript)) absent in
      let row = subst (λ (o : Option ScriptObjection). EditsUnless o (edit.Activate name) a Edited change) against is in
      let no = row.says in
      cc

-- a name that no script may have is told before it is looked for a user
bad_new_name : (name other : List ℕ) → (IsScriptName other → ⊥) → DoesUpkeep (EditScripts (edit.Rename name other)) None (Refused BadScriptName) None
bad_new_name name other bad = inr (bad, record { says = refl; stays = refl })

-- near miss: nothing was changed, and the answer says that it was
unsaid : (o : Option Account) → DoesUpkeep (EditScripts edit.Deactivate) o Edited None → ⊥
unsaid o (inl is) = go (open_one o) is.1
  where
    go : (found : Option Account) → InAccount found (Edits edit.Deactivate) Edited None → ⊥
    go None row = let no = row.says in cc
    go (Some a) row = let no = row.changed in cc
unsaid o (inr is) = let no = is.1.says in cc
