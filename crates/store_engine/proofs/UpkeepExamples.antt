-- What an administrator does to an account, and what becomes of a closed one, on small cases, and near misses.
use Rattle.std.proofs.Common.{◌≡◌, ◌||◌, not, ℕ, ◌≤◌, Bool, true, false, List, [], ◌∷◌, codes, length, Option, Some, None, refl, sym, ap, subst, inl, inr}
use Rattle.std.specs.Prelude.{◌==◌, MatchBool}
use Rattle.std.specs.FinMap.{empty, len-empty}
use Rattle.store_accounts.specs.Account.{bytes_cmp, Account, Accounts, open_one, known_one, has_mail, keeps_script, changes_address, changes_password, closes, removes, takes_notices, renews, with_user}
use Rattle.store_accounts.specs.declared.refusal.Refusal.TheVariants.{NoUser, UserExists, AccountClosed, UserHasMail, BadScriptName, Memory}
use Rattle.managesieve_sessions.specs.Limits.{script_limit, IsScriptName}
use Rattle.managesieve_sessions.specs.Replies.{ok_reply}
use Rattle.managesieve_sessions.specs.Scripts.{RepliesToPut, IsValidScript}
use Rattle.store_engine.specs.declared.answer.Answer.{Answer}
use Rattle.store_engine.specs.declared.answer.Answer.TheVariants.{Added, Changed, Stored, Closed, Opened, Removed, NoticesTaken, Refused}
use Rattle.store_engine.specs.declared.event.Event.TheVariants.{DoUpkeep}
use Rattle.store_engine.specs.declared.upkeep.Upkeep.TheVariants.{SetPassword, SetAddress, StoreScript, CloseAccount, OpenAccount, RemoveAccount, TakeNotices}
use Rattle.store_engine.specs.AccountEvents.{MachineRefuses, Renews, AddsOver, absence}
use Rattle.store_engine.specs.OwnActs as own
use Rattle.store_engine.specs.OwnActs.{admits, acts_in}
use Rattle.store_engine.specs.Spacing.{Thread, kept_in}
use Rattle.store_engine.specs.Upkeep.{kept_password, InAccount, Alters, OnlyAnswers, Stores, OpensClosed, Removes, DoesUpkeep}
use Rattle.store_engine.specs.World.{World}

abbrev salt : List ℕ
salt = codes "0123456789abcdef"

abbrev secret : List ℕ
secret = codes "secret"

abbrev away : List ℕ
away = codes "away"

-- an open account, whose digest is one
module _ (a : Account) (open_is : a.password.rounds ≡ 10000) (long : length a.password.digest ≡ 32) where
  found : open_one (Some a) ≡ Some a
  found = rw open_is refl

  known : known_one (Some a) ≡ Some a
  known = rw open_is refl

  closed_known : known_one (Some (closes a)) ≡ Some (closes a)
  closed_known = rw long refl

  -- ---- passwords and addresses

  -- the password is kept as the digest of 10,000 rounds
  password_set : DoesUpkeep (SetPassword salt secret) (Some a) Changed (Some (changes_password (kept_password salt secret) a))
  password_set = inl (refl, subst (λ o. InAccount o (λ b. Alters Changed (changes_password (kept_password salt secret) b)) Changed (Some (changes_password (kept_password salt secret) a))) (sym found) (record { says = refl; changed = refl }))

  -- near misses: the answer is right, and nothing changed; an empty password is taken
  password_unset : DoesUpkeep (SetPassword salt secret) (Some a) Changed None → ⊥
  password_unset (inl (fit, is)) = let made = subst (λ o. InAccount o (λ b. Alters Changed (changes_password (kept_password salt secret) b)) Changed None) found is in let no = made.changed in cc
  password_unset (inr (unfit, is)) = let no = is.says in cc

  password_empty : (change : Option Account) → DoesUpkeep (SetPassword salt []) (Some a) Changed change → ⊥
  password_empty change (inl (fit, is)) = let no : false ≡ true = fit in cc
  password_empty change (inr (unfit, is)) = let no = is.says in cc

  -- the address is changed and nothing else: near miss, the password with it
  address_alone : (address : List ℕ) (b : Account) → DoesUpkeep (SetAddress address) (Some a) Changed (Some b) → b.password ≡ a.password
  address_alone address b (inl (fit, is)) =
      let made = subst (λ o. InAccount o (λ c. Alters Changed (changes_address address c)) Changed (Some b)) found is in
      let same : b ≡ changes_address address a = let e = made.changed in cc in
      ap (λ (c : Account). c.password) same
  address_alone address b (inr (unfit, is)) = absurd (let no = is.says in cc)

  -- ---- closed, and opened again

  account_closed : DoesUpkeep CloseAccount (Some a) Closed (Some (closes a))
  account_closed = subst (λ o. InAccount o (λ b. Alters Closed (closes b)) Closed (Some (closes a))) (sym found) (record { says = refl; changed = refl })

  account_opened : DoesUpkeep OpenAccount (Some (closes a)) Opened (Some a)
  account_opened = subst (λ o. InAccount o OpensClosed Opened (Some a)) (sym closed_known) (record { says = refl; changed = rw (sym open_is) refl })

  -- near misses: an open account is opened; a closed one is closed again
  open_opened : (change : Option Account) → DoesUpkeep OpenAccount (Some a) Opened change → ⊥
  open_opened change is =
      let made = subst (λ o. InAccount o OpensClosed Opened change) known is in
      let row = subst (λ rounds. OpensClosed (record a { password = record a.password { rounds = rounds } }) Opened change) open_is made in
      let no = row.says in cc

  closed_twice : (change : Option Account) → DoesUpkeep CloseAccount (Some (closes a)) Closed change → ⊥
  closed_twice change is = let no = is.says in cc

  -- of a closed account there is no user for what changes it or hands out of it
  closed_nobody : (address : List ℕ) (until : ℕ) (answer : Answer) (change : Option Account)
      → DoesUpkeep (TakeNotices until) (Some (closes a)) answer change → (answer ≡ Refused NoUser) × (change ≡ None)
  closed_nobody address until answer change is = (is.says, is.stays)

  -- no password logs in, not even the right one; opened again it does
  closed_out : admits secret (open_one (Some (closes a))) ≡ false
  closed_out = refl

  -- mail may be on its way to another machine; near miss: it is delivered
  closed_undelivered : absence (Some (closes a)) ≡ AccountClosed
  closed_undelivered = rw long refl

  removed_undelivered : absence (Some (removes a)) ≡ NoUser
  removed_undelivered = refl

  -- ---- removed

  mail_unsaid : has_mail a ≡ true → DoesUpkeep (RemoveAccount false) (Some a) (Refused UserHasMail) None
  mail_unsaid some =
      subst (λ o. InAccount o (Removes false) (Refused UserHasMail) None) (sym known)
      (subst (λ b. MatchBool b (OnlyAnswers (Refused UserHasMail) (Refused UserHasMail) None) (Alters Removed (removes a) (Refused UserHasMail) None)) (sym some) (record { says = refl; stays = refl }))

  removed : DoesUpkeep (RemoveAccount true) (Some a) Removed (Some (removes a))
  removed = subst (λ o. InAccount o (Removes true) Removed (Some (removes a))) (sym known) (record { says = refl; changed = refl })

  -- near misses: mail goes unsaid; a removed one is removed again, or opened
  mail_gone : has_mail a ≡ true → (change : Option Account) → DoesUpkeep (RemoveAccount false) (Some a) Removed change → ⊥
  mail_gone some change is =
      let made = subst (λ o. InAccount o (Removes false) Removed change) known is in
      let row = subst (λ b. MatchBool b (OnlyAnswers (Refused UserHasMail) Removed change) (Alters Removed (removes a) Removed change)) some made in
      let no = row.says in
      cc

  removed_twice : (mail : Bool) (change : Option Account) → DoesUpkeep (RemoveAccount mail) (Some (removes a)) Removed change → ⊥
  removed_twice mail change is = let no = is.says in cc

  removed_opened : (change : Option Account) → DoesUpkeep OpenAccount (Some (removes a)) Opened change → ⊥
  removed_opened change is = let no = is.says in cc

  -- whom it answered is still known
  removed_remembers : (thread : Thread) → kept_in (Some (removes a)) thread ≡ kept_in (Some a) thread
  removed_remembers thread = refl

  -- ---- a name that is added again

  module _ (accounts : Accounts) (address password : List ℕ) where
    again : has_mail a ≡ false → AddsOver accounts away address salt password (closes a) Added (with_user accounts away (renews address (kept_password salt password)))
    again none =
        subst (λ b. MatchBool b (MachineRefuses UserHasMail accounts Added (with_user accounts away (renews address (kept_password salt password)))) (Renews accounts away address salt password Added (with_user accounts away (renews address (kept_password salt password))))) (sym none)
        (record { added = refl; changed = refl })

    -- near misses: the mail of a closed account goes to another user, or is lost; an open account is added again
    again_with_mail : has_mail a ≡ true → (later : Accounts) → AddsOver accounts away address salt password (closes a) Added later → ⊥
    again_with_mail some later is =
        let row = subst (λ b. MatchBool b (MachineRefuses UserHasMail accounts Added later) (Renews accounts away address salt password Added later)) some is in
        let no = row.refused in
        cc

    again_open : (later : Accounts) → AddsOver accounts away address salt password a Added later → ⊥
    again_open later is =
        let row = subst (λ n. MatchBool (n == 0) (MatchBool (has_mail a) (MachineRefuses UserHasMail accounts Added later) (Renews accounts away address salt password Added later)) (MachineRefuses UserExists accounts Added later)) open_is is in
        let no = row.refused in
        cc

    -- one that was removed has no mail
    again_removed : has_mail (removes a) ≡ false
    again_removed = ap (λ n. not (n == 0) || false) (len-empty bytes_cmp (List (List ℕ)))

-- ---- notices

-- none are there: that is no refusal
none_taken : (a : Account) → a.password.rounds ≡ 10000 → DoesUpkeep (TakeNotices 5) (Some a) NoticesTaken (Some (takes_notices 5 a))
none_taken a open_is =
    let found : open_one (Some a) ≡ Some a = rw open_is refl in
    subst (λ o. InAccount o (λ b. Alters NoticesTaken (takes_notices 5 b)) NoticesTaken (Some (takes_notices 5 a))) (sym found) (record { says = refl; changed = refl })

-- ---- scripts

-- the name goes before all else, before the account too
bad_name_first : (text : List ℕ) → (IsScriptName [] → ⊥) → DoesUpkeep (StoreScript [] text false) None (Refused BadScriptName) None
bad_name_first text bad = inr (bad, record { says = refl; stays = refl })

-- what is stored by it is what PUTSCRIPT stores, and where
as_put : (a b : Account) (name text : List ℕ) → IsScriptName name → length text ≤ script_limit → Stores name text false a Stored (Some b)
    → RepliesToPut a name text (ok_reply (codes "Stored.")) × (b ≡ keeps_script name text a)
as_put a b name text named short (inl (room, inl (valid, is))) = (inl (named, inl (short, inl (room, inl (valid, refl)))), let same = is.changed in cc)
as_put a b name text named short (inl (room, inr (wrong, is))) = absurd (let no = is.2.says in cc)
as_put a b name text named short (inr (full, is)) = absurd (let no = is.says in cc)

-- near miss: a text without a tree is stored
stored_unread : (a : Account) (name text : List ℕ) (activate : Bool) (change : Option Account) → (IsValidScript text → ⊥) → Stores name text activate a Stored change → ⊥
stored_unread a name text activate change wrong (inl (room, inl (valid, is))) = wrong valid
stored_unread a name text activate change wrong (inl (room, inr (bad, is))) = let no = is.2.says in cc
stored_unread a name text activate change wrong (inr (full, is)) = let no = is.says in cc

-- ---- whose act it is

abbrev nobody : World
nobody = record { accounts = empty; sessions = empty }

kept_by_carol : acts_in (codes "carol") nobody (DoUpkeep (codes "carol") CloseAccount) (Refused NoUser) ≡ own.IsKept CloseAccount (Refused NoUser) ∷ []
kept_by_carol = refl

kept_of_another : acts_in (codes "carol") nobody (DoUpkeep (codes "alice") CloseAccount) (Refused NoUser) ≡ []
kept_of_another = refl

-- near miss: without memory it is no act
kept_without_memory : acts_in (codes "carol") nobody (DoUpkeep (codes "carol") CloseAccount) (Refused Memory) ≡ []
kept_without_memory = refl
