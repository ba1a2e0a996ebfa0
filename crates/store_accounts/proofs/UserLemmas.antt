-- The query for the next user, and what its rows tell of the accounts.
use Rattle.std.proofs.Common.{◌≡◌, ℕ, pos, inl, true≢false, is_some, Bool, true, false, List, [], ◌∷◌, map, filter, codes, refl, sym, ap, ◌∙◌, subst, is_lt, Ordering, Less, Equal, Greater, Option, Some, None, Ok, Err, Result, Vec, OnOk, IfOk, option_map, slice_get}
use Rattle.std.specs.declared.alloc.Global.{Global}
use Rattle.std.specs.FinMap.{get}
use Rattle.std.specs.List.{list_all}
use Rattle.std.proofs.lemmas.Cmp.{nat_list_cmp_total}
use Rattle.sqlite_value.specs.declared.value.Value.{Value}
use Rattle.sqlite_value.specs.declared.value.Value.TheVariants.{Int, Blob}
use Rattle.sqlite_value.specs.declared.keys.Collation.TheVariants.{Binary}
use Rattle.sqlite_value.specs.declared.keys.Key.{Key}
use Rattle.sqlite_value.specs.Keys.{ascending}
use Rattle.sqlite_value.specs.Order.{Row, column}
use Rattle.sqlite_value.proofs.OrderLemmas.{value_cmp-Blob}
use Rattle.sqlite_schema.specs.declared.command.Command.TheVariants.{Select}
use Rattle.sqlite_rules.specs.Lists.{Has}
use Rattle.sqlite_rules.proofs.ListLemmas.{has_filtered, has_kept}
use Rattle.sqlite_tied.specs.Compute.{everything}
use Rattle.sqlite_sql.specs.Term.{Term, lit, col, holds}
use Rattle.sqlite_sql.specs.Query.{Query, Output, output_cmp}
use Rattle.sqlite_sql.specs.declared.ops.CompareOp.TheVariants.{Gt}
use Rattle.sqlite_typed.proofs.TestLemmas.{at_blobs, last_term, last_key}
use Rattle.sqlite.specs.Listing.{understood, reads_listing}
use Rattle.sqlite.specs.State.{State, Shown, HasCleanDisk}
use Rattle.sqlite.specs.declared.error.Error.{Error}
use Rattle.sqlite.proofs.Callers.{IsPlain, command_of}
use Rattle.store_tables.specs.Forms.{first_over}
use Rattle.store_tables.specs.Rows.{Tables, HoldsTables, has_key}
use Rattle.store_tables.specs.Schema.{mail_schema}
use Rattle.store_tables.specs.AccountTable.{account, account_tree}
use Rattle.store_tables.proofs.AnswerLemmas.{has_map, has_unmap}
use Rattle.store_tables.proofs.FirstRowLemmas.{first_row}
use Rattle.store_tables.proofs.ListLemmas.{owner_key, equal_itself}
use Rattle.store_tables.proofs.ReadLemmas.{answered_nth}
use Rattle.store_tables.proofs.SchemaFacts.{account_listed}
use Rattle.store_tables.proofs.TextFacts.{exceeds}
use Rattle.store_accounts.specs.Account.{Account, Accounts, bytes_cmp}
use Rattle.store_accounts.specs.AccountRows.{account_row}
use Rattle.store_accounts.specs.FirstCells.{first_one, text_cells}
use Rattle.store_accounts.specs.Next.{FindsAll, IsLeast}
use Rattle.store_accounts.specs.Promises.{HasUser}
use Rattle.store_accounts.specs.declared.refusal.Refusal.{Refusal}
use Rattle.store_accounts.specs.Shows.{rows_of, IsShown, IsShownOrAbsent, ShowsAccounts}
use Rattle.store_accounts.specs.Users.{FindsOver, IsLaterName, HasAccountRow, IsNextUser, ShowLaterUser, select_later_user}
use Rattle.store_accounts.proofs.KeepLemmas.{keeps_ok, keeps_failed, none_if}
use Rattle.store_accounts.proofs.LeastLemmas.{row_least, shown_least}
use Rattle.store_accounts.proofs.NextLemmas.{owner_params}

-- ---- the query

abbrev name_shown : List Term
name_shown = col 1 1 ∷ []

abbrev by_name : List (Term × Key)
by_name = (col 1 1, ascending Binary) ∷ []

abbrev later_terms : List Term
later_terms = exceeds 1 0 ∷ []

pub select_later_user_is : command_of (understood mail_schema select_later_user) ≡ Select (first_over account_tree later_terms name_shown by_name) (codes "name" ∷ [])
unfolding understood everything
select_later_user_is = refl

pub select_later_user_plain : IsPlain (understood mail_schema select_later_user) × (reads_listing mail_schema select_later_user ≡ false)
unfolding understood everything
select_later_user_plain = ((refl, refl), refl)

abbrev name_query : Query
name_query = (first_over account_tree later_terms name_shown by_name).body

name_orders : (x y : List ℕ) → output_cmp name_query (text_cells x, text_cells x) (text_cells y, text_cells y) ≡ bytes_cmp x y
name_orders x y = last_key (value_cmp-Blob x y)

abbrev passes : Row → Row → Bool
passes params cells = list_all (holds (params ∷ (Int (pos 0) ∷ cells) ∷ [])) later_terms

name_tested : (name other : List ℕ) → passes (owner_params name) (text_cells other) ≡ is_lt (bytes_cmp name other)
name_tested name other = last_term (at_blobs false Gt other name)

less_is : (o : Ordering) → is_lt o ≡ true → o ≡ Less
less_is Less h = refl
less_is Equal h = absurd (true≢false (sym h))
less_is Greater h = absurd (true≢false (sym h))

abbrev shown_as : Row → Output
shown_as c = (first_one c, first_one c)

module _ (old new : State) (rows : List Row) (tables : Tables) (h : HoldsTables mail_schema old.now tables) where
  pub later_user_read : (name : List ℕ) → Shown select_later_user (owner_params name) old new rows → ShowLaterUser name rows tables
  later_user_read name shown =
      let params = owner_params name in
      row_least text_cells first_one (λ c. refl) bytes_cmp nat_list_cmp_total (IsLaterName name) (tables account_tree) (output_cmp name_query) (passes params) (λ c. refl)
      (λ other passed. less_is (bytes_cmp name other) (sym (name_tested name other) ∙ passed)) (λ other later. name_tested name other ∙ ap is_lt later) name_orders rows
      (first_row old.now.trees account_tree later_terms name_shown by_name params (tables account_tree) (h.each account account_listed) (passes params) (λ n cells. refl) shown_as (λ n cells. refl) rows
      (answered_nth mail_schema select_later_user params old new h.is select_later_user_plain.0 (lit (Int (pos 0))) account_tree later_terms name_shown _ _ select_later_user_is select_later_user_plain.1 rows shown))

-- ---- a name has a row where it has an account

module _ (tables : Tables) (accounts : Accounts) (shows : ShowsAccounts tables accounts) (name : List ℕ) where
  abbrev own : List Row
  own = rows_of name tables account_tree

  row_has_user : (row : Row) → Has own row → HasUser name accounts
  row_has_user row there = go (get accounts name) (shows.users name)
    where
      go : (o : Option Account) → IsShownOrAbsent name (rows_of name tables) o → is_some o ≡ true
      go None h = absurd (subst (λ l. Has l row) h.accounts there)
      go (Some a) h = refl

  pub named_has_user : HasAccountRow tables name → HasUser name accounts
  named_has_user named =
      let at = has_unmap first_one (tables account_tree) (text_cells name) named in
      let cell : column at.0 0 ≡ Blob name = cc in
      row_has_user at.0 (has_kept (has_key (owner_key name)) (tables account_tree) at.0 at.1 (rw (cell, equal_itself name) refl))

  user_has_row : (o : Option Account) → IsShownOrAbsent name (rows_of name tables) o → is_some o ≡ true → HasAccountRow tables name
  user_has_row None h some = absurd (true≢false (sym some))
  user_has_row (Some a) h some =
      let row = account_row name a h.next_copy h.next_notice in
      let there : Has own row = subst (λ l. Has l row) (sym h.account_is) (inl refl) in
      has_map first_one (tables account_tree) row (has_filtered (has_key (owner_key name)) (tables account_tree) row there).0

  pub user_is_named : HasUser name accounts → HasAccountRow tables name
  user_is_named some = user_has_row (get accounts name) (shows.users name) some

-- ---- the read

-- the same are there
least_of_same : {X : Type 0} (cmp : X → X → Ordering) (A B Holds : X → Type 0) → ((x : X) → A x → B x) → ((x : X) → B x → A x) → (o : Option X) → IsLeast cmp A Holds o → IsLeast cmp B Holds o
least_of_same cmp A B Holds to back None none = λ x there holds. none x (back x there) holds
least_of_same cmp A B Holds to back (Some least) first = (to least first.0, first.1, λ x there holds. first.2 x (back x there) holds)

module _ (name : List ℕ) (a b : State) (r : Result (Vec Row Global) Error) (h : FindsAll (λ (rows : Vec Row Global). ShowLaterUser name rows.items) a b r) where
  pub user_found : (rows : Vec Row Global) → r ≡ Ok rows → (q : Result (Option (List ℕ)) Refusal) → IfOk q (λ next. option_map text_cells next ≡ option_map first_one (slice_get rows.items 0)) → FindsOver (IsNextUser name) a b q
  user_found rows was q read = record {
    found = λ clean accounts p.
        let least = shown_least text_cells first_one bytes_cmp (HasAccountRow p.0) (IsLaterName name) q rows.items rows.items refl (subst (λ o. IfOk o (λ (z : Vec Row Global). ShowLaterUser name z.items p.0)) was (h.found clean p.0 p.1)) read in
        told q accounts p.0 p.2 least;
    keeps = keeps_ok a b r rows q was h.keeps;
  }
    where
      told : (o : Result (Option (List ℕ)) Refusal) (accounts : Accounts) (tables : Tables) → ShowsAccounts tables accounts → IfOk o (λ next. IsLeast bytes_cmp (HasAccountRow tables) (IsLaterName name) next) → IfOk o (λ next. IsNextUser name next accounts)
      told (Err e) accounts tables shows least = tt
      told (Ok next) accounts tables shows least =
          least_of_same bytes_cmp (HasAccountRow tables) (λ user. HasUser user accounts) (IsLaterName name) (λ x named. named_has_user tables accounts shows x named) (λ x some. user_is_named tables accounts shows x some) next least

  pub user_refused : (q : Result (Option (List ℕ)) Refusal) → OnOk q ⊥ → FindsOver (IsNextUser name) a b q
  user_refused q none = record { found = λ clean accounts p. none_if q (λ next. IsNextUser name next accounts) none; keeps = keeps_failed a b r q none h.keeps }
