-- Examples of open, closed and removed accounts, of what keeps an account up, and near misses.
use Rattle.std.proofs.Common.{◌≡◌, ◌≢◌, ℕ, true, false, List, [], ◌∷◌, codes, length, Option, Some, None, refl, sym, ap, ◌∙◌}
use Rattle.std.specs.Prelude.{◌==◌, ◌||◌, not}
use Rattle.std.specs.FinMap.{get, get-empty, get-insert, len-empty}
use Rattle.std.proofs.lemmas.Cmp.{nat_list_cmp_total}
use Rattle.store_tables.specs.declared.queue.QueuedKind.TheVariants.{Redirect}
use Rattle.store_accounts.specs.declared.notice.Notice.{Notice}
use Rattle.store_accounts.specs.Account.{bytes_cmp, reply_cmp, Account, Accounts, Password, is_closed_account, is_removed, open_one, known_one, open_account_of, has_mail, keeps_script, keeps_active, changes_address, changes_password, closes, opens, takes_notices, removes, renews, remembers, queues, files_copies, new_account, with_user, in_place}

abbrev alice : List ℕ
alice = codes "alice"

abbrev bob : List ℕ
bob = codes "bob"

abbrev other : Password
other = record { salt = codes "salt"; rounds = 10000; digest = codes "digest" }

-- ---- open, closed, removed

-- a closed account is closed, and all of it is there
closed_keeps : (a : Account) → (is_closed_account (closes a) ≡ true) × ((closes a).folders ≡ a.folders) × ((closes a).password.digest ≡ a.password.digest)
closed_keeps a = (refl, refl, refl)

-- opened again, it is as it was
opened_again : (a : Account) → a.password.rounds ≡ 10000 → opens 10000 (closes a) ≡ a
opened_again a is = rw (sym is) refl

-- near misses: opened with no rounds it is closed still; an account with rounds isn't closed
opened_with_none : (a : Account) → open_one (Some (opens 0 a)) ≡ None
opened_with_none a = refl

open_stays : (a : Account) → a.password.rounds ≡ 10000 → open_one (Some a) ≡ Some a
open_stays a is = rw is refl

-- nothing of a closed account is found, nor of none
closed_unfound : (accounts : Accounts) (a : Account) → get accounts alice ≡ Some (closes a) → open_account_of accounts alice ≡ None
closed_unfound accounts a has = ap open_one has

absent_unfound : (accounts : Accounts) → get accounts alice ≡ None → open_account_of accounts alice ≡ None
absent_unfound accounts has = ap open_one has

-- a closed account is known, and a removed one isn't
closed_known : (a : Account) → length a.password.digest ≡ 32 → known_one (Some (closes a)) ≡ Some (closes a)
closed_known a long = rw long refl

removed_unknown : (a : Account) → known_one (Some (removes a)) ≡ None
removed_unknown a = refl

-- ---- passwords and addresses

-- the new password is the account's, and the rest of it stays
guarded : (a : Account) → ((changes_password other a).password ≡ other) × ((changes_password other a).scripts ≡ a.scripts) × ((changes_password other a).address ≡ a.address)
guarded a = (refl, refl, refl)

-- near miss: another user's password is changed
password_of : Option Account → Option Password
password_of None = None
password_of (Some a) = Some a.password

others_password : (accounts : Accounts) (a b : Account) → get accounts alice ≡ Some a → get accounts bob ≡ Some b → b.password ≢ other → get (with_user accounts alice (changes_password other)) bob ≡ Some (changes_password other b) → ⊥
others_password accounts a b has its differs is =
    let kept : get (with_user accounts alice (changes_password other)) bob ≡ Some b = ap (λ o. get (in_place accounts alice (changes_password other) o) bob) has ∙ (get-insert nat_list_cmp_total accounts alice (changes_password other a) bob ∙ its) in
    let same : Some (changes_password other b) ≡ Some b = sym is ∙ kept in
    let no : other ≡ b.password = let own : changes_password other b ≡ b = cc in ap (λ (c : Account). c.password) own in
    differs (sym no)

-- the address is another one, and the moments of replies stay under their keys
addressed : (a : Account) → ((changes_address bob a).address ≡ bob) × ((changes_address bob a).replies ≡ a.replies)
addressed a = (refl, refl)

-- near miss: the address isn't changed
unaddressed : (a : Account) → a.address ≡ alice → changes_address bob a ≡ a → ⊥
unaddressed a is same = let no : bob ≡ alice = ap (λ (b : Account). b.address) same ∙ is in let short : ◌≡◌ {A = ℕ} 3 5 = ap length no in cc

-- ---- scripts

-- a script that is stored and activated is the active one
stored_active : (a : Account) → (keeps_active alice bob a).active ≡ Some alice
stored_active a = refl

-- near miss: one that is stored alone is not
stored_idle : (a : Account) → a.active ≡ None → (keeps_script alice bob a).active ≡ None
stored_idle a none = none

-- ---- notices

notice_at : ℕ → Notice
notice_at moment = record { moment = moment; text = alice }

-- those up to the moment go, with the one at it
taken_until : (a : Account) → a.notices ≡ notice_at 4 ∷ notice_at 6 ∷ notice_at 5 ∷ [] → (takes_notices 5 a).notices ≡ notice_at 6 ∷ []
unfolding notice_at
taken_until a has = rw has refl

-- near miss: a later one goes too
none_later : (a : Account) → a.notices ≡ notice_at 6 ∷ [] → (takes_notices 5 a).notices ≡ [] → ⊥
unfolding notice_at
none_later a has is = let left : (takes_notices 5 a).notices ≡ notice_at 6 ∷ [] = rw has refl in let no : notice_at 6 ∷ [] ≡ [] = sym left ∙ is in cc

-- ---- removal

-- nothing is left that anyone could read
removed_empty : (a : Account) → (has_mail (removes a) ≡ false) × ((removes a).notices ≡ []) × ((removes a).active ≡ None) × ((removes a).password.digest ≡ [])
removed_empty a = (ap (λ n. not (n == 0) || false) (len-empty bytes_cmp (List (List ℕ))), refl, refl, refl)

removed_scripts : (a : Account) (name : List ℕ) → get (removes a).scripts name ≡ None
removed_scripts a name = get-empty bytes_cmp name

-- but the moment of an answer, and the numbers that were given
removed_remembers : (a : Account) → ((removes a).replies ≡ a.replies) × ((removes a).next_out ≡ a.next_out)
removed_remembers a = (refl, refl)

-- near miss: the removal forgets whom the account answered
removed_forgets : (a b : Account) (key : List ℕ × List ℕ) (last : ℕ) → get a.replies key ≡ Some last → get b.replies key ≡ None → b ≡ removes a → ⊥
removed_forgets a b key last kept gone is = let no : None ≡ Some last = sym gone ∙ (ap (λ (c : Account). get c.replies key) is ∙ kept) in cc

-- the name added again: the address and the password are new, and whom it answered is still known
renewed : (a : Account) → (is_closed_account (renews bob other a) ≡ false) × ((renews bob other a).address ≡ bob) × ((renews bob other a).replies ≡ a.replies) × ((renews bob other a).next_out ≡ a.next_out)
renewed a = (refl, refl, refl, refl)

-- near miss: it is the same as an account that was never there, where the old one had answered
renewed_as_new : (a : Account) (key : List ℕ × List ℕ) (last : ℕ) → get a.replies key ≡ Some last → renews bob other a ≡ new_account bob other → ⊥
renewed_as_new a key last kept is = let no : None ≡ Some last = sym (get-empty reply_cmp key) ∙ (sym (ap (λ (c : Account). get c.replies key) is) ∙ kept) in cc

-- ---- mail

-- a row of the queue is mail, and a new account has none
queued_mail : (a : Account) → has_mail (queues Redirect alice bob alice (new_account alice other)) ≡ true
queued_mail a = ap (λ n. not (n == 0) || true) (len-empty bytes_cmp (List (List ℕ)))

no_mail : has_mail (new_account alice other) ≡ false
no_mail = ap (λ n. not (n == 0) || false) (len-empty bytes_cmp (List (List ℕ)))
