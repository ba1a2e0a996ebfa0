-- What an administrator does to one account: what it leaves as it was, and that it is one thing.
use Rattle.std.proofs.Common.{◌≡◌, ℕ, ◌≤◌, Bool, true, false, cond, not, ◌&&◌, List, length, Option, Some, None, IfSome, MatchBool, refl, sym, ◌∙◌, subst, inl, inr}
use Rattle.store_accounts.specs.Account.{Account, Password, is_closed_account, is_removed, open_one, known_one, has_mail, changes_address, changes_password, with_password_rounds, closes, opens, takes_notices, removes}
use Rattle.store_accounts.specs.declared.refusal.Refusal.TheVariants.{NoUser, UserIsOpen, UserHasMail}
use Rattle.managesieve_sessions.specs.Limits.{script_limit, IsScriptName}
use Rattle.managesieve_sessions.specs.Scripts.{HasRoom, IsValidScript}
use Rattle.store_engine.specs.declared.answer.Answer.{Answer}
use Rattle.store_engine.specs.declared.answer.Answer.TheVariants.{Changed, Stored, Edited, Objected, Closed, Opened, Removed, NoticesTaken, Refused}
use Rattle.store_engine.specs.declared.script_edit.ScriptEdit.{ScriptEdit}
use Rattle.store_engine.specs.declared.script_edit.ScriptObjection.{ScriptObjection}
use Rattle.store_engine.specs.declared.upkeep.Upkeep.{Upkeep}
use Rattle.store_engine.specs.declared.upkeep.Upkeep.TheVariants.{SetPassword, SetAddress, StoreScript, EditScripts, CloseAccount, OpenAccount, RemoveAccount, TakeNotices}
use Rattle.store_engine.specs.Limits.{IsOwnAddress}
use Rattle.store_engine.specs.OwnActs.{is_lost}
use Rattle.store_engine.specs.Upkeep.{rounds, kept_password, Alters, OnlyAnswers, InAccount, stores, Stores, EditsUnless, Edits, OpensClosed, Removes, DoesUpkeep, instead}
use Rattle.store_engine.specs.ScriptEdits.{GivesScriptName, edited, objection_to}

-- ---- an answer that is lost

module _ (answer : Answer) (change : Option Account) (lost : (said : Answer) → answer ≡ said → is_lost said ≡ false → ⊥) where
  -- such an answer tells of no change
  altered_never : (said : Answer) (a : Account) → is_lost said ≡ false → Alters said a answer change → change ≡ None
  altered_never said a found is = absurd (lost said is.says found)

  in_account : (o : Option Account) (row : Account → Answer → Option Account → Type 0) → ((a : Account) → row a answer change → change ≡ None) → InAccount o row answer change → change ≡ None
  in_account None row stays is = is.stays
  in_account (Some a) row stays is = stays a is

  opens_lost : (a : Account) → OpensClosed a answer change → change ≡ None
  opens_lost a is = go (is_closed_account a) is
    where
      go : (b : Bool) → MatchBool b (Alters Opened (opens rounds a) answer change) (OnlyAnswers (Refused UserIsOpen) answer change) → change ≡ None
      go true told = altered_never Opened (opens rounds a) refl told
      go false told = told.stays

  removes_lost : (mail : Bool) (a : Account) → Removes mail a answer change → change ≡ None
  removes_lost mail a is = go (not mail && has_mail a) is
    where
      go : (b : Bool) → MatchBool b (OnlyAnswers (Refused UserHasMail) answer change) (Alters Removed (removes a) answer change) → change ≡ None
      go true told = told.stays
      go false told = altered_never Removed (removes a) refl told

  stores_lost : (name text : List ℕ) (activate : Bool) (a : Account) → Stores name text activate a answer change → change ≡ None
  stores_lost name text activate a (inl (room, inl (valid, is))) = altered_never Stored (stores name text activate a) refl is
  stores_lost name text activate a (inl (room, inr (wrong, is))) = is.2.stays
  stores_lost name text activate a (inr (full, is)) = is.stays

  edits_lost : (edit : ScriptEdit) (a : Account) → Edits edit a answer change → change ≡ None
  edits_lost edit a is = go (objection_to edit a) is
    where
      go : (o : Option ScriptObjection) → EditsUnless o edit a answer change → change ≡ None
      go None told = altered_never Edited (edited edit a) refl told
      go (Some objection) told = told.stays

  pub lost_stays : (upkeep : Upkeep) (account : Option Account) → DoesUpkeep upkeep account answer change → change ≡ None
  lost_stays (SetPassword salt password) account (inl (fit, is)) = in_account (open_one account) _ (λ a. altered_never Changed (changes_password (kept_password salt password) a) refl) is
  lost_stays (SetPassword salt password) account (inr (unfit, is)) = is.stays
  lost_stays (SetAddress address) account (inl (fit, is)) = in_account (open_one account) _ (λ a. altered_never Changed (changes_address address a) refl) is
  lost_stays (SetAddress address) account (inr (unfit, is)) = is.stays
  lost_stays (StoreScript name text activate) account (inl (named, inl (short, is))) = in_account (open_one account) _ (stores_lost name text activate) is
  lost_stays (StoreScript name text activate) account (inl (named, inr (long, is))) = is.stays
  lost_stays (StoreScript name text activate) account (inr (bad, is)) = is.stays
  lost_stays (EditScripts edit) account (inl (named, is)) = in_account (open_one account) _ (edits_lost edit) is
  lost_stays (EditScripts edit) account (inr (bad, is)) = is.stays
  lost_stays CloseAccount account is = in_account (open_one account) _ (λ a. altered_never Closed (closes a) refl) is
  lost_stays OpenAccount account is = in_account (known_one account) _ opens_lost is
  lost_stays (RemoveAccount mail) account is = in_account (known_one account) _ (removes_lost mail) is
  lost_stays (TakeNotices until) account is = in_account (open_one account) _ (λ a. altered_never NoticesTaken (takes_notices until a) refl) is

-- ---- one thing: the same answer, and the same change

both_altered : (said : Answer) (a : Account) (answer : Answer) (one two : Option Account) → Alters said a answer one → Alters said a answer two → one ≡ two
both_altered said a answer one two is was = is.changed ∙ sym was.changed

both_told : (said other : Answer) (answer : Answer) (one two : Option Account) → OnlyAnswers said answer one → OnlyAnswers other answer two → one ≡ two
both_told said other answer one two is was = is.stays ∙ sym was.stays

in_one : (answer : Answer) (one two : Option Account) (o : Option Account) (row : Account → Answer → Option Account → Type 0) → ((a : Account) → row a answer one → row a answer two → one ≡ two)
    → InAccount o row answer one → InAccount o row answer two → one ≡ two
in_one answer one two None row same is was = is.stays ∙ sym was.stays
in_one answer one two (Some a) row same is was = same a is was

module _ (answer : Answer) (one two : Option Account) where
  opens_one : (a : Account) → OpensClosed a answer one → OpensClosed a answer two → one ≡ two
  opens_one a is was = go (is_closed_account a) is was
    where
      go : (b : Bool) → MatchBool b (Alters Opened (opens rounds a) answer one) (OnlyAnswers (Refused UserIsOpen) answer one)
          → MatchBool b (Alters Opened (opens rounds a) answer two) (OnlyAnswers (Refused UserIsOpen) answer two) → one ≡ two
      go true h k = h.changed ∙ sym k.changed
      go false h k = h.stays ∙ sym k.stays

  removes_one : (mail : Bool) (a : Account) → Removes mail a answer one → Removes mail a answer two → one ≡ two
  removes_one mail a is was = go (not mail && has_mail a) is was
    where
      go : (b : Bool) → MatchBool b (OnlyAnswers (Refused UserHasMail) answer one) (Alters Removed (removes a) answer one)
          → MatchBool b (OnlyAnswers (Refused UserHasMail) answer two) (Alters Removed (removes a) answer two) → one ≡ two
      go true h k = h.stays ∙ sym k.stays
      go false h k = h.changed ∙ sym k.changed

  stores_one : (name text : List ℕ) (activate : Bool) (a : Account) → Stores name text activate a answer one → Stores name text activate a answer two → one ≡ two
  stores_one name text activate a (inl (room, inl (valid, is))) (inl (again, inl (too, was))) = is.changed ∙ sym was.changed
  stores_one name text activate a (inl (room, inr (wrong, is))) (inl (again, inr (too, was))) = is.2.stays ∙ sym was.2.stays
  stores_one name text activate a (inl (room, inl (valid, is))) (inl (again, inr (wrong, was))) = absurd (wrong valid)
  stores_one name text activate a (inl (room, inr (wrong, is))) (inl (again, inl (valid, was))) = absurd (wrong valid)
  stores_one name text activate a (inr (full, is)) (inr (too, was)) = is.stays ∙ sym was.stays
  stores_one name text activate a (inl (room, is)) (inr (full, was)) = absurd (full room)
  stores_one name text activate a (inr (full, is)) (inl (room, was)) = absurd (full room)

  edits_one : (edit : ScriptEdit) (a : Account) → Edits edit a answer one → Edits edit a answer two → one ≡ two
  edits_one edit a is was = go (objection_to edit a) is was
    where
      go : (o : Option ScriptObjection) → EditsUnless o edit a answer one → EditsUnless o edit a answer two → one ≡ two
      go None h k = h.changed ∙ sym k.changed
      go (Some objection) h k = h.stays ∙ sym k.stays

  pub keeps_one : (upkeep : Upkeep) (account : Option Account) → DoesUpkeep upkeep account answer one → DoesUpkeep upkeep account answer two → one ≡ two
  keeps_one (SetPassword salt password) account (inl (fit, is)) (inl (too, was)) = in_one answer one two (open_one account) _ (λ a h k. h.changed ∙ sym k.changed) is was
  keeps_one (SetPassword salt password) account (inr (unfit, is)) (inr (too, was)) = is.stays ∙ sym was.stays
  keeps_one (SetPassword salt password) account (inl (fit, is)) (inr (unfit, was)) = absurd (unfit fit)
  keeps_one (SetPassword salt password) account (inr (unfit, is)) (inl (fit, was)) = absurd (unfit fit)
  keeps_one (SetAddress address) account (inl (fit, is)) (inl (too, was)) = in_one answer one two (open_one account) _ (λ a h k. h.changed ∙ sym k.changed) is was
  keeps_one (SetAddress address) account (inr (unfit, is)) (inr (too, was)) = is.stays ∙ sym was.stays
  keeps_one (SetAddress address) account (inl (fit, is)) (inr (unfit, was)) = absurd (unfit fit)
  keeps_one (SetAddress address) account (inr (unfit, is)) (inl (fit, was)) = absurd (unfit fit)
  keeps_one (StoreScript name text activate) account (inl (named, inl (short, is))) (inl (again, inl (too, was))) = in_one answer one two (open_one account) _ (stores_one name text activate) is was
  keeps_one (StoreScript name text activate) account (inl (named, inr (long, is))) (inl (again, inr (too, was))) = is.stays ∙ sym was.stays
  keeps_one (StoreScript name text activate) account (inl (named, inl (short, is))) (inl (again, inr (long, was))) = absurd (long short)
  keeps_one (StoreScript name text activate) account (inl (named, inr (long, is))) (inl (again, inl (short, was))) = absurd (long short)
  keeps_one (StoreScript name text activate) account (inr (bad, is)) (inr (too, was)) = is.stays ∙ sym was.stays
  keeps_one (StoreScript name text activate) account (inl (named, is)) (inr (bad, was)) = absurd (bad named)
  keeps_one (StoreScript name text activate) account (inr (bad, is)) (inl (named, was)) = absurd (bad named)
  keeps_one (EditScripts edit) account (inl (named, is)) (inl (again, was)) = in_one answer one two (open_one account) _ (edits_one edit) is was
  keeps_one (EditScripts edit) account (inr (bad, is)) (inr (too, was)) = is.stays ∙ sym was.stays
  keeps_one (EditScripts edit) account (inl (named, is)) (inr (bad, was)) = absurd (bad named)
  keeps_one (EditScripts edit) account (inr (bad, is)) (inl (named, was)) = absurd (bad named)
  keeps_one CloseAccount account is was = in_one answer one two (open_one account) _ (λ a h k. h.changed ∙ sym k.changed) is was
  keeps_one OpenAccount account is was = in_one answer one two (known_one account) _ opens_one is was
  keeps_one (RemoveAccount mail) account is was = in_one answer one two (known_one account) _ (removes_one mail) is was
  keeps_one (TakeNotices until) account is was = in_one answer one two (open_one account) _ (λ a h k. h.changed ∙ sym k.changed) is was

-- ---- what lasts

-- what holds of an account holds of it whatever an administrator makes of it
pub record LastsThrough (P : Account → Type 0) : Type 0 where
  pub guarded : (a : Account) (password : Password) → P a → P (changes_password password a)
  pub addressed : (a : Account) (address : List ℕ) → IsOwnAddress address → P a → P (changes_address address a)
  pub stored : (a : Account) (name text : List ℕ) (activate : Bool) → IsScriptName name → length text ≤ script_limit → IsValidScript text → HasRoom a name → P a → P (stores name text activate a)
  pub edits : (a : Account) (edit : ScriptEdit) → GivesScriptName edit → objection_to edit a ≡ None → P a → P (edited edit a)
  pub counted : (a : Account) (rounds : ℕ) → P a → P (with_password_rounds rounds a)
  pub removed : (a : Account) → P a → P (removes a)
  pub noticed : (a : Account) (until : ℕ) → P a → P (takes_notices until a)

module _ (P : Account → Type 0) (lasts : LastsThrough P) (answer : Answer) (change : Option Account) where
  told : (said : Answer) → OnlyAnswers said answer change → IfSome change P
  told said is = subst (λ o. IfSome o P) (sym is.stays) tt

  altered : (said : Answer) (b : Account) → P b → Alters said b answer change → IfSome change P
  altered said b holds is = subst (λ o. IfSome o P) (sym is.changed) holds

  in_holds : (o : Option Account) (row : Account → Answer → Option Account → Type 0) → IfSome o P → ((a : Account) → P a → row a answer change → IfSome change P) → InAccount o row answer change → IfSome change P
  in_holds None row holds each is = told (Refused NoUser) is
  in_holds (Some a) row holds each is = each a holds is

  unless_holds : (b : Bool) (a : Account) → P a → IfSome (cond b None (Some a)) P
  unless_holds true a holds = tt
  unless_holds false a holds = holds

  open_holds : (o : Option Account) → IfSome o P → IfSome (open_one o) P
  open_holds None holds = tt
  open_holds (Some a) holds = unless_holds (is_closed_account a) a holds

  known_holds : (o : Option Account) → IfSome o P → IfSome (known_one o) P
  known_holds None holds = tt
  known_holds (Some a) holds = unless_holds (is_removed a) a holds

  opens_holds : (a : Account) → P a → OpensClosed a answer change → IfSome change P
  opens_holds a holds is = go (is_closed_account a) is
    where
      go : (b : Bool) → MatchBool b (Alters Opened (opens rounds a) answer change) (OnlyAnswers (Refused UserIsOpen) answer change) → IfSome change P
      go true h = altered Opened (opens rounds a) (lasts.counted a rounds holds) h
      go false h = told (Refused UserIsOpen) h

  removes_holds : (mail : Bool) (a : Account) → P a → Removes mail a answer change → IfSome change P
  removes_holds mail a holds is = go (not mail && has_mail a) is
    where
      go : (b : Bool) → MatchBool b (OnlyAnswers (Refused UserHasMail) answer change) (Alters Removed (removes a) answer change) → IfSome change P
      go true h = told (Refused UserHasMail) h
      go false h = altered Removed (removes a) (lasts.removed a holds) h

  stores_holds : (name text : List ℕ) (activate : Bool) → IsScriptName name → length text ≤ script_limit → (a : Account) → P a → Stores name text activate a answer change → IfSome change P
  stores_holds name text activate named short a holds (inl (room, inl (valid, is))) = altered Stored (stores name text activate a) (lasts.stored a name text activate named short valid room holds) is
  stores_holds name text activate named short a holds (inl (room, inr (wrong, is))) = told _ is.2
  stores_holds name text activate named short a holds (inr (full, is)) = told _ is

  edits_holds : (edit : ScriptEdit) → GivesScriptName edit → (a : Account) → P a → Edits edit a answer change → IfSome change P
  edits_holds edit named a holds is = go (objection_to edit a) refl is
    where
      go : (o : Option ScriptObjection) → objection_to edit a ≡ o → EditsUnless o edit a answer change → IfSome change P
      go None free h = altered Edited (edited edit a) (lasts.edits a edit named free holds) h
      go (Some objection) against h = told (Objected objection) h

  pub keeps_holds : (upkeep : Upkeep) (account : Option Account) → IfSome account P → DoesUpkeep upkeep account answer change → IfSome change P
  keeps_holds (SetPassword salt password) account holds (inl (fit, is)) =
      in_holds (open_one account) _ (open_holds account holds) (λ a h. altered Changed (changes_password (kept_password salt password) a) (lasts.guarded a (kept_password salt password) h)) is
  keeps_holds (SetPassword salt password) account holds (inr (unfit, is)) = told _ is
  keeps_holds (SetAddress address) account holds (inl (fit, is)) = in_holds (open_one account) _ (open_holds account holds) (λ a h. altered Changed (changes_address address a) (lasts.addressed a address fit h)) is
  keeps_holds (SetAddress address) account holds (inr (unfit, is)) = told _ is
  keeps_holds (StoreScript name text activate) account holds (inl (named, inl (short, is))) = in_holds (open_one account) _ (open_holds account holds) (stores_holds name text activate named short) is
  keeps_holds (StoreScript name text activate) account holds (inl (named, inr (long, is))) = told _ is
  keeps_holds (StoreScript name text activate) account holds (inr (bad, is)) = told _ is
  keeps_holds (EditScripts edit) account holds (inl (named, is)) = in_holds (open_one account) _ (open_holds account holds) (edits_holds edit named) is
  keeps_holds (EditScripts edit) account holds (inr (bad, is)) = told _ is
  keeps_holds CloseAccount account holds is = in_holds (open_one account) _ (open_holds account holds) (λ a h. altered Closed (closes a) (lasts.counted a 0 h)) is
  keeps_holds OpenAccount account holds is = in_holds (known_one account) _ (known_holds account holds) opens_holds is
  keeps_holds (RemoveAccount mail) account holds is = in_holds (known_one account) _ (known_holds account holds) (removes_holds mail) is
  keeps_holds (TakeNotices until) account holds is = in_holds (open_one account) _ (open_holds account holds) (λ a h. altered NoticesTaken (takes_notices until a) (lasts.noticed a until h)) is

  -- the account that is there afterwards
  pub instead_holds : (upkeep : Upkeep) (account : Option Account) → IfSome account P → DoesUpkeep upkeep account answer change → IfSome (instead change account) P
  instead_holds upkeep account holds is = go change (keeps_holds upkeep account holds is)
    where
      go : (o : Option Account) → IfSome o P → IfSome (instead o account) P
      go None h = holds
      go (Some a) h = h
