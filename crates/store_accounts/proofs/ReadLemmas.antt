-- From the rows that a query finds to what a read answers.
use Rattle.std.proofs.Common.{◌≡◌, ℕ, List, [], ◌∷◌, map, filter, Option, Some, None, option_map, slice_get, Ok, Err, Result, IfOk, IfErr, IfSome, refl, sym, ap, ◌∙◌}
use Rattle.std.specs.FinMap.{get, keys, get-from_entries}
use Rattle.std.proofs.lemmas.Cmp.{nat_list_cmp_total}
use Rattle.sqlite_value.specs.declared.value.Value.TheVariants.{Blob}
use Rattle.sqlite_value.specs.Order.{Row, column}
use Rattle.sqlite_keyed.proofs.ListLemmas.{map-map, filter-map, filter_same}
use Rattle.sqlite.specs.Effect.{Database}
use Rattle.sqlite.specs.State.{State, Shown}
use Rattle.store_tables.specs.Rows.{Tables, has_key}
use Rattle.store_tables.proofs.ListLemmas.{owner_key, pair_key}
use Rattle.store_accounts.specs.FirstCells.{first_three}
use Rattle.store_accounts.specs.declared.account.Counters.{Counters}
use Rattle.store_accounts.specs.declared.refusal.Refusal.{Refusal}
use Rattle.store_accounts.specs.declared.refusal.Refusal.TheVariants.{NoUser}
use Rattle.store_accounts.specs.Account.{bytes_cmp, Account, Accounts, messages_in}
use Rattle.store_accounts.specs.AccountRows.{shown_account, profile_row, counter_cells, HasCounters, shown_counters}
use Rattle.store_tables.specs.AccountTable.{account_tree}
use Rattle.store_tables.specs.ScriptTable.{select_names, select_script, scripts_tree, text_column}
use Rattle.store_accounts.specs.ScriptRows.{script_row, AreNameRows, HasTextRow}
use Rattle.store_tables.specs.CopyTable.{select_folder}
use Rattle.store_accounts.specs.CopyRows.{Copy, is_in, AreMessageRows}
use Rattle.store_accounts.specs.Shows.{rows_of, IsShown, IsShownOrAbsent, ShowsAccounts, Presents}
use Rattle.store_accounts.proofs.AccountLemmas.{pair_is, is_named, bytes_antisymmetric}
use Rattle.store_accounts.proofs.MapLemmas.{first_found}
use Rattle.store_accounts.proofs.QueryLemmas.{script_found}
use Rattle.store_accounts.proofs.OrderLemmas.{of_owner, folder_found, names_found, messages_are, notices_found, queue_found}
use Rattle.store_accounts.specs.NoticeRows.{AreNoticeRows, notice_cells}
use Rattle.store_tables.specs.NoticeTable.{select_notices}
use Rattle.store_accounts.specs.QueueRows.{AreQueueRows}
use Rattle.store_tables.specs.QueueTable.{select_queue}

first_mapped : (own : List Row) → option_map first_three (slice_get (map shown_counters own) 0) ≡ option_map shown_counters (slice_get own 0)
first_mapped [] = refl
first_mapped (r ∷ own) = refl

pub counters_are : (r : Result Counters Refusal) (rows own : List Row) → rows ≡ map shown_counters own → IfOk r (λ c. option_map first_three (slice_get rows 0) ≡ Some (counter_cells c)) → IfOk r (HasCounters own)
counters_are (Err e) rows own are h = tt
counters_are (Ok c) rows own are h = sym (first_mapped own) ∙ ap (λ l. option_map first_three (slice_get l 0)) (sym are) ∙ h

no_rows_mapped : (own : List Row) → map shown_counters own ≡ [] → own ≡ []
no_rows_mapped [] e = refl
no_rows_mapped (r ∷ own) e = absurd (let no = e in cc)

pub none_counted : (r : Result Counters Refusal) (rows own : List Row) → rows ≡ map shown_counters own → IfErr r (λ e. e ≡ NoUser → rows ≡ []) → IfErr r (λ e. e ≡ NoUser → own ≡ [])
none_counted (Ok c) rows own are h = tt
none_counted (Err e) rows own are h = λ none. no_rows_mapped own (sym are ∙ h none)

-- ---- what a query shows of an account

-- at one user, if there is an account
abbrev AtUser : Accounts → List ℕ → (Account → Type 0) → Type 0
AtUser accounts user P = IfSome (get accounts user) P

pub at_user : (accounts : Accounts) (user : List ℕ) (tables : Tables) (shows : ShowsAccounts tables accounts) (P : Account → Type 0) → ((a : Account) → IsShown user (rows_of user tables) a → P a) → AtUser accounts user P
at_user accounts user tables shows P each = go (get accounts user) (shows.users user)
  where
    go : (o : Option Account) → IsShownOrAbsent user (rows_of user tables) o → IfSome o P
    go None h = tt
    go (Some a) h = each a h

-- the first of the rows that were found is the account's, if there is one
pub profile_first : (db : Database) (rows : List Row) (accounts : Accounts) (p : Presents db accounts) (user : List ℕ) → rows ≡ map shown_account (rows_of user p.0 account_tree) → slice_get rows 0 ≡ option_map profile_row (get accounts user)
profile_first db rows accounts p user are = ap (λ l. slice_get l 0) are ∙ go (get accounts user) (p.2.users user)
  where
    go : (o : Option Account) → IsShownOrAbsent user (rows_of user p.0) o → slice_get (map shown_account (rows_of user p.0 account_tree)) 0 ≡ option_map profile_row o
    go None h = ap (λ l. slice_get (map shown_account l) 0) h.accounts
    go (Some a) h = ap (λ l. slice_get (map shown_account l) 0) h.account_is

module _ (old new : State) (rows : List Row) (accounts : Accounts) (p : Presents old.now accounts) (user : List ℕ) where
  pub names_read : Shown select_names (owner_key user) old new rows → IfSome (get accounts user) (AreNameRows rows)
  names_read shown = at_user accounts user p.0 p.2 _ (λ a s. names_found old new rows p.0 p.1 user s.scripts.entries s.scripts.rows_are s.scripts.apart shown ∙ ap (λ m. map (λ n. Blob n ∷ []) (keys m)) (sym s.scripts.shown))

  pub messages_read : (folder : List ℕ) → Shown select_folder (pair_key user folder) old new rows → IfSome (get accounts user) (AreMessageRows folder rows)
  messages_read folder shown = at_user accounts user p.0 p.2 _ (λ a s.
      folder_found old new rows p.0 p.1 user folder s.copies.entries s.copies.messages s.copies.numbered.rows_are s.copies.numbered.rise s.copies.stored.rows_are s.copies.stored.rise s.copies.kept.present shown ∙ sym (map-map (λ (m : List ℕ). Blob m ∷ []) (λ (c : Copy). c.message) (filter (is_in folder) s.copies.entries))
      ∙ ap (map (λ m. Blob m ∷ [])) (sym (messages_are s.copies.entries folder)) ∙ ap (λ m. map (λ t. Blob t ∷ []) (messages_in m folder)) (sym s.copies.shown))

  pub queue_read : Shown select_queue (owner_key user) old new rows → IfSome (get accounts user) (AreQueueRows rows)
  queue_read shown = at_user accounts user p.0 p.2 _ (λ a s. queue_found old new rows p.0 p.1 user a.queue s.queue.rows_are s.queue.rise shown)

  pub notices_read : Shown select_notices (owner_key user) old new rows → IfSome (get accounts user) (AreNoticeRows rows)
  notices_read shown = at_user accounts user p.0 p.2 _ (λ a s. notices_found old new rows p.0 p.1 user s.notices.entries s.notices.numbered.rows_are s.notices.numbered.rise shown ∙ ap (map notice_cells) (sym s.notices.shown))

  pub script_read : (name : List ℕ) → Shown select_script (pair_key user name) old new rows → IfSome (get accounts user) (HasTextRow name rows)
  script_read name shown = at_user accounts user p.0 p.2 _ (λ a s.
      let mine = of_owner user name p.0 scripts_tree ∙ ap (filter (has_key (pair_key user name))) s.scripts.rows_are ∙ filter-map (has_key (pair_key user name)) (script_row user) s.scripts.entries
      ∙ ap (map (script_row user)) (filter_same _ (is_named name) (λ e. pair_is user name e.0 (Blob e.1 ∷ [])) s.scripts.entries) in
      ap (λ l. slice_get l 0) (script_found old new rows p.0 p.1 user name shown ∙ ap (map (λ cells. column cells text_column ∷ [])) mine ∙ map-map (λ (cells : Row). column cells text_column ∷ []) (script_row user) (filter (is_named name) s.scripts.entries))
      ∙ first_found bytes_cmp nat_list_cmp_total bytes_antisymmetric (λ text. Blob text ∷ []) name s.scripts.entries
      ∙ ap (option_map (λ t. Blob t ∷ [])) (sym (ap (λ m. get m name) s.scripts.shown ∙ get-from_entries nat_list_cmp_total s.scripts.entries name)))
