-- What opening makes of the tables of version 2 shows the accounts that they showed.
use Rattle.std.proofs.Common.{◌≡◌, ℕ, List, [], ◌∷◌, map, filter, length, Option, Some, None, IsPermutation, refl, sym, ap, ◌∙◌, subst, inl, inr}
use Rattle.std.specs.FinMap.{get}
use Rattle.std.specs.List.{AllByRecursion}
use Rattle.std.proofs.lemmas.List.{nil_from_length}
use Rattle.std.proofs.lemmas.List.Sorted.{length_permutation, IsPermutation-trans, IsPermutation-map}
use Rattle.sqlite_value.specs.Order.{Row}
use Rattle.sqlite_keyed.proofs.ListLemmas.{filter-map, IsPermutation-filter}
use Rattle.sqlite.specs.Effect.{Database}
use Rattle.store_tables.specs.Rows.{Tables}
use Rattle.store_tables.specs.MetaTable.{meta_tree}
use Rattle.store_tables.specs.AccountTable.{account_tree}
use Rattle.store_tables.specs.ScriptTable.{scripts_tree}
use Rattle.store_tables.specs.QueueTable.{outgoing_tree}
use Rattle.store_tables.specs.ReplyTable.{reply_tree}
use Rattle.store_tables.specs.NoticeTable.{notice_tree}
use Rattle.store_tables.specs.MessageTable.{message_tree}
use Rattle.store_tables.specs.CopyTable.{copy_tree}
use Rattle.store_versions.specs.SecondSchema.{second_schema, second_unindexed_schema, flagless}
use Rattle.store_versions.specs.Third.{IsThird, TurnsThird}
use Rattle.store_accounts.specs.Account.{Account, Accounts, Folders}
use Rattle.store_accounts.specs.CopyRows.{Copy, copy_row, ShowsCopies, IsUnflagged}
use Rattle.store_accounts.specs.ScriptRows.{ShowsScripts}
use Rattle.store_accounts.specs.QueueRows.{ShowsQueue}
use Rattle.store_accounts.specs.ReplyRows.{ShowsReplies}
use Rattle.store_accounts.specs.NoticeRows.{ShowsNotices}
use Rattle.store_accounts.specs.Shows.{rows_of, IsShown, IsAbsent, IsShownOrAbsent, ShowsAccounts, Presents}
use Rattle.store_accounts.specs.SecondShows.{second_copy_row, ShowsSecondCopies, IsShownSecond, IsAbsentSecond, IsShownSecondOrAbsent, ShowsSecondAccounts, HoldsSecond}
use Rattle.store_accounts.proofs.OldLemmas.{is_theirs, renewed_version}

module _ (user : List ℕ) where
  -- of copies without flags the rows are those of version 3
  same_copies : (entries : List Copy) → AllByRecursion IsUnflagged entries → map flagless (map (second_copy_row user) entries) ≡ map (copy_row user) entries
  same_copies [] bare = refl
  same_copies (c ∷ entries) bare = rw (bare.0, same_copies entries bare.1) refl

  kept_theirs : (rows : List Row) → filter (λ cells. is_theirs user (flagless cells)) rows ≡ filter (is_theirs user) rows
  kept_theirs [] = refl
  kept_theirs (row ∷ rows) = rw (kept_theirs rows) refl

  -- what one user's rows become, of rows in any order
  theirs : (before after : List Row) → IsPermutation (map flagless before) after → IsPermutation (map flagless (filter (is_theirs user) before)) (filter (is_theirs user) after)
  theirs before after same =
      subst (λ l. IsPermutation l (filter (is_theirs user) after)) (filter-map (is_theirs user) flagless before ∙ ap (map flagless) (kept_theirs before))
      (IsPermutation-filter (is_theirs user) (map flagless before) after same)

  -- the folders of version 2 are those of version 3, and no copy has flags
  copies_shown : (before after messages : List Row) (folders flags : Folders) (next : ℕ) → ShowsSecondCopies user (filter (is_theirs user) before) (filter (is_theirs user) messages) folders flags next → IsPermutation (map flagless before) after
      → ShowsCopies user (filter (is_theirs user) after) (filter (is_theirs user) messages) folders flags next
  copies_shown before after messages folders flags next s same = record {
    entries = s.entries;
    messages = s.messages;
    numbered = record {
      rows_are =
          IsPermutation-trans _ _ _ (subst (λ l. IsPermutation l (map flagless (filter (is_theirs user) before))) (same_copies s.entries s.bare) (IsPermutation-map flagless _ _ s.numbered.rows_are))
          (theirs before after same);
      rise = s.numbered.rise;
      from_one = s.numbered.from_one;
      below = s.numbered.below;
      counter = s.numbered.counter;
    };
    stored = s.stored;
    kept = s.kept;
    shown = s.shown;
    shown_flags = s.shown_flags;
  }

module _ (before after : Tables) (m : IsThird before after) where
  user_shown : (user : List ℕ) (a : Account) → IsShownSecond user (rows_of user before) a → IsShown user (rows_of user after) a
  user_shown user a s = record {
    next_copy = s.next_copy;
    next_notice = s.next_notice;
    account_is = ap (filter (is_theirs user)) m.accounts ∙ s.account_is;
    scripts = subst (λ rows. ShowsScripts user (filter (is_theirs user) rows) a.scripts) (sym m.scripts) s.scripts;
    queue = subst (λ rows. ShowsQueue user (filter (is_theirs user) rows) a.queue a.next_out) (sym m.queue) s.queue;
    replies = subst (λ rows. ShowsReplies user (filter (is_theirs user) rows) a.replies) (sym m.replies) s.replies;
    notices = subst (λ rows. ShowsNotices user (filter (is_theirs user) rows) a.notices s.next_notice) (sym m.notices) s.notices;
    copies = subst (λ rows. ShowsCopies user (filter (is_theirs user) (after copy_tree)) (filter (is_theirs user) rows) a.folders a.flags s.next_copy) (sym m.messages)
        (copies_shown user (before copy_tree) (after copy_tree) (before message_tree) a.folders a.flags s.next_copy s.copies m.filed);
  }

  user_absent : (user : List ℕ) → IsAbsentSecond (rows_of user before) → IsAbsent (rows_of user after)
  user_absent user s = record {
    accounts = ap (filter (is_theirs user)) m.accounts ∙ s.accounts;
    scripts = ap (filter (is_theirs user)) m.scripts ∙ s.scripts;
    queue = ap (filter (is_theirs user)) m.queue ∙ s.queue;
    replies = ap (filter (is_theirs user)) m.replies ∙ s.replies;
    notices = ap (filter (is_theirs user)) m.notices ∙ s.notices;
    messages = ap (filter (is_theirs user)) m.messages ∙ s.messages;
    copies = nil_from_length (filter (is_theirs user) (after copy_tree))
        (length_permutation _ _ (theirs user (before copy_tree) (after copy_tree) m.filed) ∙ ap (λ l. length (map flagless l)) s.copies);
  }

  -- of every user
  third_of_all : (accounts : Accounts) → ShowsSecondAccounts before accounts → ShowsAccounts after accounts
  third_of_all accounts s = record { version = renewed_version (before meta_tree) (after meta_tree) m.version; users = λ user. go user (get accounts user) (s.users user) }
    where
      go : (user : List ℕ) (o : Option Account) → IsShownSecondOrAbsent user (rows_of user before) o → IsShownOrAbsent user (rows_of user after) o
      go user (Some a) h = user_shown user a h
      go user None h = user_absent user h

-- with the index of the copies, or without it
pub third_shows : (old new : Database) → TurnsThird old new → (tables : Tables) → HoldsSecond old tables → (accounts : Accounts) → ShowsSecondAccounts tables accounts → Presents new accounts
third_shows old new turned tables (inl h) accounts s = let all = turned second_schema (inl refl) tables h in (all.0, all.2, third_of_all tables all.0 all.1 accounts s)
third_shows old new turned tables (inr h) accounts s = let all = turned second_unindexed_schema (inr refl) tables h in (all.0, all.2, third_of_all tables all.0 all.1 accounts s)
