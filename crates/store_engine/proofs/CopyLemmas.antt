-- A text of an account, imported, is that account again.
use Rattle.std.proofs.Common.{◌≡◌, ℕ, true, List, [], None, sym, ap, ◌∙◌, subst, inl, inr}
use Rattle.std.proofs.lemmas.List.{append-nil}
use Rattle.std.specs.FinMap.{empty, get, insert}
use Rattle.store_text.specs.Text.{IsAccountText}
use Rattle.store_text.specs.declared.head.AccountHead.{AccountHead}
use Rattle.store_text.specs.declared.part.Part.{Part}
use Rattle.store_text.proofs.ReadLemmas.{texts_same}
use Rattle.store_accounts.specs.Account.{Account, Accounts}
use Rattle.store_accounts.specs.Whole.{whole, IsCopyOf}
use Rattle.store_engine.specs.AccountEvents.{ImportsUnder, Importing}
use Rattle.store_engine.specs.Importable.{may_guard, have_short_flags}
use Rattle.store_engine.specs.Limits.{is_user_name}
use Rattle.store_engine.specs.Sound.{IsSoundAccount}
use Rattle.store_engine.specs.declared.answer.Answer.{Answer}
use Rattle.store_engine.specs.declared.answer.Answer.TheVariants.{Imported}

module _ (text user : List ℕ) (a : Account) (head : AccountHead) (parts : List Part) (copy : IsCopyOf text user a) (of : IsAccountText text head parts) where
  same : (copy.head ≡ head) × (copy.parts ≡ parts)
  same = (texts_same text [] copy.head head copy.parts parts copy.spelled (subst (λ t. IsAccountText t head parts) (sym (append-nil text)) of)).1

  pub copy_named : head.owner.name ≡ user
  copy_named = ap (λ (h : AccountHead). h.owner.name) (sym same.0) ∙ copy.named

  pub copy_makes : whole head parts empty ≡ a
  copy_makes = ap (λ h. whole h parts empty) (sym same.0) ∙ (ap (λ ps. whole copy.head ps empty) (sym same.1) ∙ copy.makes)

  pub copy_imported : (accounts later : Accounts) (answer : Answer) → is_user_name user ≡ true → may_guard a.password ≡ true → have_short_flags parts ≡ true → IsSoundAccount a → get accounts user ≡ None → Importing accounts head parts answer later → (answer ≡ Imported) × (later ≡ insert accounts user a)
  copy_imported accounts later answer name guarded flagged sound free (inl (fit, made)) =
      let is = subst (λ o. ImportsUnder accounts head parts o answer later) (ap (get accounts) copy_named ∙ free) made in
      (is.imported, is.changed ∙ (ap (λ n. insert accounts n (whole head parts empty)) copy_named ∙ ap (insert accounts user) copy_makes))
  copy_imported accounts later answer name guarded flagged sound free (inr (bad, made)) = absurd (bad (record { named = ap is_user_name copy_named ∙ name; guarded = ap (λ (account : Account). may_guard account.password) copy_makes ∙ guarded; flagged = flagged; sound = subst IsSoundAccount (sym copy_makes) sound }))
