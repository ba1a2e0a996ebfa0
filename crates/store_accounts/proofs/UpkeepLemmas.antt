-- What the row changes that keep an account up make of the account that one user's rows show.
use Rattle.std.proofs.Common.{◌≡◌, ℕ, ℤ, pos, true, false, not, drop, nat_le, nat_lt, List, [], ◌∷◌, map, filter, Option, Some, None, refl, ap, ◌∙◌, subst, arith}
use Rattle.std.proofs.lemmas.Int.{ints}
use Rattle.std.proofs.lemmas.Bool.Decides.{nat_tests}
use Rattle.std.specs.Borrow.{Bor}
use Rattle.sqlite_value.specs.declared.value.Value.TheVariants.{Int}
use Rattle.sqlite_value.specs.Order.{Row}
use Rattle.sqlite_sql.specs.declared.ops.CompareOp.TheVariants.{Le}
use Rattle.sqlite_keyed.specs.Lists.{update_where, delete_where}
use Rattle.sqlite_keyed.proofs.ListLemmas.{filter-map, filter_same}
use Rattle.sqlite_typed.proofs.TestLemmas.{at_ints}
use Rattle.store_tables.specs.Rows.{Tables, has_key, row_added, rows_removed, removed_where, set_in}
use Rattle.store_tables.proofs.ListLemmas.{owner_key, owned_by, equal_itself}
use Rattle.store_tables.specs.Cells.{or_null}
use Rattle.store_tables.specs.AccountTable.{with_active, with_address, with_password, with_rounds, account_tree}
use Rattle.store_tables.specs.ScriptTable.{script_cells, scripts_tree}
use Rattle.store_tables.specs.QueueTable.{outgoing_tree}
use Rattle.store_tables.specs.MessageTable.{message_tree}
use Rattle.store_tables.specs.CopyTable.{copy_tree}
use Rattle.store_tables.specs.NoticeTable.{is_early_notice, notice_tree}
use Rattle.store_tables.specs.Changes.{owned_removed}
use Rattle.store_tables.specs.declared.change.Change.{Change}
use Rattle.store_tables.specs.declared.change.Change.TheVariants.{SetActive, SetAddress, SetPassword, SetRounds, AddScript, RemoveScript, RemoveScripts, RemoveQueue, RemoveCopies, RemoveMessages, RemoveNotices, RemoveEarlyNotices}
use Rattle.store_accounts.specs.declared.notice.Notice.{Notice}
use Rattle.std.specs.FinMap.{empty}
use Rattle.store_accounts.specs.declared.queue.QueuedMessage.{QueuedMessage}
use Rattle.store_accounts.specs.Account.{Account, changes_address, changes_password, with_password_rounds, takes_notices, empties, empties_under, renews, keeps_active, with_user}
use Rattle.store_accounts.specs.NoticeRows.{notice_row}
use Rattle.store_accounts.specs.QueueRows.{queue_row}
use Rattle.store_accounts.specs.ScriptRows.{script_row}
use Rattle.store_accounts.specs.MessageRows.{Message, message_row}
use Rattle.store_accounts.specs.CopyRows.{Copy, copy_row}
use Rattle.store_accounts.specs.Numbers.{AreNumbered}
use Rattle.store_accounts.specs.Promises.{HasUser}
use Rattle.store_accounts.specs.Shows.{IsShown}
use Rattle.store_accounts.proofs.NumberLemmas.{numbered_without}
use Rattle.store_accounts.proofs.AccountLemmas.{active_put, script_put}
use Rattle.store_accounts.proofs.CallLemmas.{Carries, carries_user}

-- a notice's row is early where its moment is
early_is : (user : List ℕ) (until : ℕ) (e : ℕ × Notice) → is_early_notice user (pos until) (notice_row user e) ≡ nat_le e.1.moment until
early_is user until e = rw (equal_itself user, at_ints false Le (pos e.1.moment) (pos until)) (grind (arith, ints, nat_tests))

later_stays : (m until : ℕ) → nat_lt until m ≡ not (nat_le m until)
later_stays m until = grind (arith, nat_tests)

module _ (user : List ℕ) (own : Tables) (a : Account) (s : IsShown user own a) where
  pub address_put : (address : List ℕ) → IsShown user (set_in account_tree (owner_key user) (with_address address) own) (changes_address address a)
  address_put address = record {
    next_copy = s.next_copy;
    next_notice = s.next_notice;
    account_is = ap (update_where (has_key (owner_key user)) (with_address address)) s.account_is ∙ rw (equal_itself user) refl;
    scripts = s.scripts;
    queue = s.queue;
    replies = s.replies;
    notices = s.notices;
    copies = s.copies;
  }

  pub password_put : (salt : List ℕ) (rounds : ℕ) (digest : List ℕ)
      → IsShown user (set_in account_tree (owner_key user) (with_password salt rounds digest) own) (changes_password (record { salt = salt; rounds = rounds; digest = digest }) a)
  password_put salt rounds digest = record {
    next_copy = s.next_copy;
    next_notice = s.next_notice;
    account_is = ap (update_where (has_key (owner_key user)) (with_password salt rounds digest)) s.account_is ∙ rw (equal_itself user) refl;
    scripts = s.scripts;
    queue = s.queue;
    replies = s.replies;
    notices = s.notices;
    copies = s.copies;
  }

  pub rounds_put : (rounds : ℕ) → IsShown user (set_in account_tree (owner_key user) (with_rounds rounds) own) (with_password_rounds rounds a)
  rounds_put rounds = record {
    next_copy = s.next_copy;
    next_notice = s.next_notice;
    account_is = ap (update_where (has_key (owner_key user)) (with_rounds rounds)) s.account_is ∙ rw (equal_itself user) refl;
    scripts = s.scripts;
    queue = s.queue;
    replies = s.replies;
    notices = s.notices;
    copies = s.copies;
  }

  pub notices_gone : (until : ℕ) → IsShown user (removed_where notice_tree (is_early_notice user (pos until)) own) (takes_notices until a)
  notices_gone until = record {
    next_copy = s.next_copy;
    next_notice = s.next_notice;
    account_is = s.account_is;
    scripts = s.scripts;
    queue = s.queue;
    replies = s.replies;
    notices = record {
      entries = delete_where (λ e. nat_le e.1.moment until) s.notices.entries;
      numbered = numbered_without (λ e. e.0) (notice_row user) (is_early_notice user (pos until)) (λ e. nat_le e.1.moment until) (early_is user until) (own notice_tree) s.notices.entries s.next_notice s.notices.numbered;
      shown = ap (filter (λ n. nat_lt until n.moment)) s.notices.shown ∙ filter-map (λ n. nat_lt until n.moment) (λ e. e.1) s.notices.entries
          ∙ ap (map (λ e. e.1)) (filter_same (λ e. nat_lt until e.1.moment) (λ e. not (nat_le e.1.moment until)) (λ e. later_stays e.1.moment until) s.notices.entries);
    };
    copies = s.copies;
  }

-- ---- all of an owner's rows

all_gone : {X : Type 0} (xs : List X) → delete_where (λ x. true) xs ≡ []
all_gone [] = refl
all_gone (x ∷ xs) = all_gone xs

-- rows that are all the owner's
pub owned_gone : {X : Type 0} (user : List ℕ) (row : X → Row) → ((x : X) → has_key (owner_key user) (row x) ≡ true) → (xs : List X) → delete_where (has_key (owner_key user)) (map row xs) ≡ []
owned_gone user row owned [] = refl
owned_gone user row owned (x ∷ xs) = rw (owned x) (owned_gone user row owned xs)

pub numbered_gone : {X : Type 0} (number : X → ℕ) (row : X → Row) (user : List ℕ) → ((x : X) → has_key (owner_key user) (row x) ≡ true) → (rows : List Row) (entries : List X) (next : ℕ) → AreNumbered number row rows entries next
    → AreNumbered number row (delete_where (has_key (owner_key user)) rows) [] next
numbered_gone number row user owned rows entries next h =
    subst (λ l. AreNumbered number row (delete_where (has_key (owner_key user)) rows) l next) (all_gone entries) (numbered_without number row (has_key (owner_key user)) (λ x. true) owned rows entries next h)

module _ (user : List ℕ) (own : Tables) (a : Account) (s : IsShown user own a) where
  scripts_gone : IsShown user (owned_removed scripts_tree user own) (record a { scripts = empty })
  scripts_gone = record {
    next_copy = s.next_copy;
    next_notice = s.next_notice;
    account_is = s.account_is;
    scripts = record {
      entries = [];
      rows_are = ap (delete_where (has_key (owner_key user))) s.scripts.rows_are ∙ owned_gone user (script_row user) (λ e. owned_by user (drop 1 (script_row user e))) s.scripts.entries;
      shown = refl;
      apart = tt;
    };
    queue = s.queue;
    replies = s.replies;
    notices = s.notices;
    copies = s.copies;
  }

  queue_gone : IsShown user (owned_removed outgoing_tree user own) (record a { queue = [] })
  queue_gone = record {
    next_copy = s.next_copy;
    next_notice = s.next_notice;
    account_is = s.account_is;
    scripts = s.scripts;
    queue = numbered_gone (λ (q : QueuedMessage). q.id) (queue_row user) user (λ q. owned_by user (drop 1 (queue_row user q))) (own outgoing_tree) a.queue a.next_out s.queue;
    replies = s.replies;
    notices = s.notices;
    copies = s.copies;
  }

  all_notices_gone : IsShown user (owned_removed notice_tree user own) (record a { notices = [] })
  all_notices_gone = record {
    next_copy = s.next_copy;
    next_notice = s.next_notice;
    account_is = s.account_is;
    scripts = s.scripts;
    queue = s.queue;
    replies = s.replies;
    notices = record {
      entries = [];
      numbered = numbered_gone (λ (e : ℕ × Notice). e.0) (notice_row user) user (λ e. owned_by user (drop 1 (notice_row user e))) (own notice_tree) s.notices.entries s.next_notice s.notices.numbered;
      shown = refl;
    };
    copies = s.copies;
  }

  folders_gone : IsShown user (owned_removed message_tree user (owned_removed copy_tree user own)) (record a { folders = empty; flags = empty })
  folders_gone = record {
    next_copy = s.next_copy;
    next_notice = s.next_notice;
    account_is = s.account_is;
    scripts = s.scripts;
    queue = s.queue;
    replies = s.replies;
    notices = s.notices;
    copies = record {
      entries = [];
      messages = [];
      numbered = numbered_gone (λ (c : Copy). c.n) (copy_row user) user (λ c. owned_by user (drop 1 (copy_row user c))) (own copy_tree) s.copies.entries s.next_copy s.copies.numbered;
      stored = numbered_gone (λ (m : Message). m.id) (message_row user) user (λ m. owned_by user (drop 1 (message_row user m))) (own message_tree) s.copies.messages s.next_copy s.copies.stored;
      kept = record { present = tt; used = tt; first = tt };
      shown = refl;
      shown_flags = refl;
    };
  }

-- the rows of scripts, queue, notices, copies and messages, and no script is active
abbrev pub emptied : List ℕ → Tables → Tables
emptied user own =
    set_in account_tree (owner_key user) (with_active (or_null None))
    (owned_removed message_tree user (owned_removed copy_tree user (owned_removed notice_tree user (owned_removed outgoing_tree user (owned_removed scripts_tree user own)))))

pub emptied_shown : (user : List ℕ) (own : Tables) (a : Account) → IsShown user own a → IsShown user (emptied user own) (empties a)
emptied_shown user own a s =
    active_put user _ _ (folders_gone user _ _ (all_notices_gone user _ _ (queue_gone user _ _ (scripts_gone user own a s)))) None

-- ---- the writes

pub carries_address : (user address : Bor (List ℕ)) → Carries (SetAddress user address ∷ []) (HasUser user.now) (λ all. with_user all user.now (changes_address address.now))
carries_address user address = carries_user user.now (SetAddress user address ∷ []) (changes_address address.now) (refl, tt) (λ own a s. address_put user.now own a s address.now)

pub carries_password : (user salt : Bor (List ℕ)) (rounds : ℕ) (digest : Bor (List ℕ))
    → Carries (SetPassword user salt rounds digest ∷ []) (HasUser user.now) (λ all. with_user all user.now (changes_password (record { salt = salt.now; rounds = rounds; digest = digest.now })))
carries_password user salt rounds digest =
    carries_user user.now (SetPassword user salt rounds digest ∷ []) (changes_password (record { salt = salt.now; rounds = rounds; digest = digest.now })) (refl, tt) (λ own a s. password_put user.now own a s salt.now rounds digest.now)

pub carries_rounds : (user : Bor (List ℕ)) (rounds : ℕ) → Carries (SetRounds user rounds ∷ []) (HasUser user.now) (λ all. with_user all user.now (with_password_rounds rounds))
carries_rounds user rounds = carries_user user.now (SetRounds user rounds ∷ []) (with_password_rounds rounds) (refl, tt) (λ own a s. rounds_put user.now own a s rounds)

pub carries_active_script : (user name text other : Bor (List ℕ)) → other.now ≡ name.now
    → Carries (RemoveScript user name ∷ AddScript user name text ∷ SetActive user (Some other) ∷ []) (HasUser user.now) (λ all. with_user all user.now (keeps_active name.now text.now))
carries_active_script user name text other same =
    carries_user user.now (RemoveScript user name ∷ AddScript user name text ∷ SetActive user (Some other) ∷ []) (keeps_active name.now text.now) (refl, (refl, (refl, tt)))
    (λ own a s. rw same (active_put user.now _ _ (script_put user.now own a s name.now text.now) (Some name.now)))

pub carries_notices : (user : Bor (List ℕ)) (moment : ℤ) (until : ℕ) → moment ≡ pos until → Carries (RemoveEarlyNotices user moment ∷ []) (HasUser user.now) (λ all. with_user all user.now (takes_notices until))
carries_notices user moment until is = carries_user user.now (RemoveEarlyNotices user moment ∷ []) (takes_notices until) (refl, tt) (λ own a s. rw is (notices_gone user.now own a s until))

-- all goes but the address, the moments of replies and the numbers, and there is another password
abbrev pub emptying : Bor (List ℕ) → List Change → List Change
emptying user more = RemoveScripts user ∷ RemoveQueue user ∷ RemoveNotices user ∷ RemoveCopies user ∷ RemoveMessages user ∷ SetActive user None ∷ more

pub carries_removal : (user salt digest : Bor (List ℕ)) → Carries (emptying user (SetPassword user salt 0 digest ∷ [])) (HasUser user.now) (λ all. with_user all user.now (empties_under salt.now digest.now))
carries_removal user salt digest =
    carries_user user.now (emptying user (SetPassword user salt 0 digest ∷ [])) (empties_under salt.now digest.now) (refl, (refl, (refl, (refl, (refl, (refl, (refl, tt)))))))
    (λ own a s. password_put user.now _ _ (emptied_shown user.now own a s) salt.now 0 digest.now)

pub carries_renewal : (user address salt : Bor (List ℕ)) (rounds : ℕ) (digest : Bor (List ℕ))
    → Carries (emptying user (SetAddress user address ∷ SetPassword user salt rounds digest ∷ [])) (HasUser user.now)
    (λ all. with_user all user.now (renews address.now (record { salt = salt.now; rounds = rounds; digest = digest.now })))
carries_renewal user address salt rounds digest =
    carries_user user.now (emptying user (SetAddress user address ∷ SetPassword user salt rounds digest ∷ [])) (renews address.now (record { salt = salt.now; rounds = rounds; digest = digest.now }))
    (refl, (refl, (refl, (refl, (refl, (refl, (refl, (refl, tt))))))))
    (λ own a s. password_put user.now _ _ (address_put user.now _ _ (emptied_shown user.now own a s) address.now) salt.now rounds digest.now)
