-- What a migration leaves shows the accounts that version 1 showed.
use Rattle.std.proofs.Common.{◌≡◌, ◌≤◌, ◌<◌, ℕ, pos, Bool, true, false, not, ◌&&◌, cond, codes, List, [], ◌∷◌, ◌++◌, map, filter, length, Option, Some, None, IsPermutation, refl, sym, ap, ◌∙◌, subst, inl, inr, arith}
use Rattle.std.specs.FinMap.{get}
use Rattle.std.specs.List.{AllByRecursion}
use Rattle.std.proofs.lemmas.List.{nil_from_length}
use Rattle.std.proofs.lemmas.List.Sorted.{length_permutation, IsPermutation-trans, IsPermutation-sym, IsPermutation-map}
use Rattle.sqlite_value.specs.declared.value.Value.TheVariants.{Int, Blob}
use Rattle.sqlite_value.specs.Order.{Row}
use Rattle.sqlite_keyed.specs.Lists.{delete_where}
use Rattle.sqlite_keyed.proofs.ListLemmas.{filter-map, IsPermutation-filter}
use Rattle.sqlite_rules.specs.Lists.{Has}
use Rattle.store_tables.specs.Rows.{Tables, HoldsTables, has_key}
use Rattle.store_tables.specs.MetaTable.{meta_tree, version_key, version_row}
use Rattle.store_versions.specs.OldSchema.{old_schema, oldest_schema, old_cells, message_from, copy_from, old_copy_tree, queue_columns, four_cells, oldest_outgoing_tree, oldest_reply_tree, oldest_notice_tree}
use Rattle.store_tables.specs.AccountTable.{account_tree}
use Rattle.store_tables.specs.ScriptTable.{scripts_tree}
use Rattle.store_tables.specs.QueueTable.{outgoing_tree}
use Rattle.store_tables.specs.ReplyTable.{reply_tree}
use Rattle.store_tables.specs.NoticeTable.{notice_tree}
use Rattle.store_tables.specs.MessageTable.{message_tree}
use Rattle.store_tables.specs.CopyTable.{copy_tree}
use Rattle.store_versions.specs.Migration.{IsMigrated, IsMoved, TurnsNew, TurnsNewest}
use Rattle.sqlite.specs.Effect.{Database}
use Rattle.store_accounts.specs.Account.{Account, Accounts, Folders}
use Rattle.store_accounts.specs.Numbers.{AreNumbered}
use Rattle.store_accounts.specs.CopyRows.{Copy, copy_row, message_of, folders_from, ShowsCopies, AreKept, HasCopy, IsUnflagged}
use Rattle.store_accounts.specs.MessageRows.{Message, message_row}
use Rattle.sqlite_trees.specs.Tree.{IsAscending}
use Rattle.store_accounts.specs.ScriptRows.{ShowsScripts}
use Rattle.store_accounts.specs.QueueRows.{queue_row, ShowsQueue}
use Rattle.store_accounts.specs.ReplyRows.{ShowsReplies}
use Rattle.store_accounts.specs.NoticeRows.{notice_row, ShowsNotices}
use Rattle.store_accounts.specs.Shows.{rows_of, IsShown, IsAbsent, IsShownOrAbsent, ShowsAccounts, Presents}
use Rattle.store_accounts.specs.OldShows.{old_copy_row, ShowsOldCopies, IsShownOld, IsAbsentOld, IsShownOldOrAbsent, ShowsOldAccounts}
use Rattle.store_accounts.proofs.VersionLemmas.{version_itself}
use Rattle.store_accounts.proofs.PermutedLemmas.{replies_moved}

-- none that was taken out is left
none_left : {X : Type 0} (p : X → Bool) (xs : List X) → filter p (delete_where p xs) ≡ []
none_left p [] = refl
none_left p (x ∷ xs) = go (p x) refl (none_left p xs)
  where
    go : (b : Bool) → p x ≡ b → filter p (delete_where p xs) ≡ [] → filter p (cond (not b) (x ∷ delete_where p xs) (delete_where p xs)) ≡ []
    go true is rest = rest
    go false is rest = rw is rest

filter_append : {X : Type 0} (p : X → Bool) (xs ys : List X) → filter p (xs ++ ys) ≡ filter p xs ++ filter p ys
filter_append p [] ys = refl
filter_append p (x ∷ xs) ys = elim (p x) as (λ b. cond b (x ∷ filter p (xs ++ ys)) (filter p (xs ++ ys)) ≡ cond b (x ∷ filter p xs) (filter p xs) ++ filter p ys) [ true ↦ ap (λ l. x ∷ l) (filter_append p xs ys) | false ↦ filter_append p xs ys ]

-- the version
pub renewed_version : (before after : List Row) → after ≡ delete_where (has_key version_key) before ++ version_row ∷ [] → filter (has_key version_key) after ≡ version_row ∷ []
renewed_version before after is =
    ap (filter (has_key version_key)) is ∙ filter_append (has_key version_key) (delete_where (has_key version_key) before) (version_row ∷ [])
    ∙ ap (λ l. l ++ filter (has_key version_key) (version_row ∷ [])) (none_left (has_key version_key) before) ∙ ap (λ b. cond (b && true) (version_row ∷ []) []) version_itself

module _ (user : List ℕ) where
  abbrev pub is_theirs : Row → Bool
  is_theirs = has_key (Blob user ∷ [])

  -- what one user's rows become, of rows in any order
  theirs : (f : Row → Row) → ((cells : Row) → is_theirs (f cells) ≡ is_theirs cells) → (all copies : List Row) → IsPermutation (map old_cells all) copies → IsPermutation (map f (map old_cells (filter is_theirs all))) (filter is_theirs (map f copies))
  theirs f same all copies are =
      let kept = IsPermutation-filter is_theirs (map old_cells all) copies are in
      let mapped = IsPermutation-map f _ _ kept in
      subst (λ l. IsPermutation (map f l) (filter is_theirs (map f copies))) (filter-map is_theirs old_cells all)
      (subst (IsPermutation (map f (filter is_theirs (map old_cells all)))) (sym (filter-map is_theirs f copies ∙ ap (map f) (whole same copies))) mapped)
    where
      whole : ((cells : Row) → is_theirs (f cells) ≡ is_theirs cells) → (rows : List Row) → filter (λ r. is_theirs (f r)) rows ≡ filter is_theirs rows
      whole same [] = refl
      whole same (r ∷ rows) = rw (same r, whole same rows) refl

-- each copy has its own message, and each message its copy
has_message : (entries more : List Copy) (c : Copy) → Has entries c → Has (map message_of entries) (message_of c)
has_message [] more c there = there
has_message (d ∷ entries) more c (inl same) = inl (ap message_of same)
has_message (d ∷ entries) more c (inr later) = inr (has_message entries more c later)

all_here : {X : Type 0} (P : X → Type 0) (xs : List X) → ((x : X) → Has xs x → P x) → AllByRecursion P xs
all_here P [] each = tt
all_here P (x ∷ xs) each = (each x (inl refl), all_here P xs (λ y there. each y (inr there)))

all_mapped : {X Y : Type 0} (f : X → Y) (P : Y → Type 0) (xs : List X) → AllByRecursion (λ x. P (f x)) xs → AllByRecursion P (map f xs)
all_mapped f P [] all = tt
all_mapped f P (x ∷ xs) all = (all.0, all_mapped f P xs all.1)

all_weaker : {X : Type 0} (P Q : X → Type 0) → ((x : X) → P x → Q x) → (xs : List X) → AllByRecursion P xs → AllByRecursion Q xs
all_weaker P Q w [] all = tt
all_weaker P Q w (x ∷ xs) all = (w x all.0, all_weaker P Q w xs all.1)

own_kept : (entries : List Copy) → AllByRecursion (λ c. c.id ≡ c.n) entries → AreKept entries (map message_of entries)
own_kept entries own = record {
  present = all_here (λ c. Has (map message_of entries) (message_of c)) entries (λ c there. has_message entries [] c there);
  used = all_mapped message_of (HasCopy entries) entries (all_here (λ c. HasCopy entries (message_of c)) entries (λ c there. (c, there, refl)));
  first = all_weaker (λ c. c.id ≡ c.n) (λ c. c.id ≤ c.n) (λ c same. omega (arith, same)) entries own;
}

module _ (user : List ℕ) where
  same_copies : (entries : List Copy) → AllByRecursion (λ c. c.id ≡ c.n) entries → AllByRecursion IsUnflagged entries → map copy_from (map old_cells (map (old_copy_row user) entries)) ≡ map (copy_row user) entries
  same_copies [] own bare = refl
  same_copies (c ∷ entries) own bare = rw (own.0, bare.0, same_copies entries own.1 bare.1) refl

  same_messages : (entries : List Copy) → AllByRecursion (λ c. c.id ≡ c.n) entries → map message_from (map old_cells (map (old_copy_row user) entries)) ≡ map (message_row user) (map message_of entries)
  same_messages [] own = refl
  same_messages (c ∷ entries) own = rw (own.0, same_messages entries own.1) refl

  ascending_mapped : (entries : List Copy) → AllByRecursion (λ c. c.id ≡ c.n) entries → IsAscending (λ c d. c.n < d.n) entries → IsAscending (λ (m k : Message). m.id < k.id) (map message_of entries)
  ascending_mapped [] own up = tt
  ascending_mapped (c ∷ entries) own up = (all_mapped message_of (λ m. c.id < m.id) entries (above entries own.1 up.0), ascending_mapped entries own.1 up.1)
    where
      above : (rest : List Copy) → AllByRecursion (λ d. d.id ≡ d.n) rest → AllByRecursion (λ d. c.n < d.n) rest → AllByRecursion (λ d. c.id < d.id) rest
      above [] same less = tt
      above (d ∷ rest) same less = (let one = own.0 in let other = same.0 in let low = less.0 in omega (arith, one, other, low), above rest same.1 less.1)

  -- the folders of version 1 are those of version 3, and no copy has flags
  pub copies_shown : (before copies after messages : List Row) (folders flags : Folders) (next : ℕ) → ShowsOldCopies user (filter (is_theirs user) before) folders flags next → IsPermutation (map old_cells before) copies → after ≡ map copy_from copies
      → messages ≡ map message_from copies → ShowsCopies user (filter (is_theirs user) after) (filter (is_theirs user) messages) folders flags next
  copies_shown before copies after messages folders flags next s same after_is messages_are = record {
    entries = s.entries;
    messages = map message_of s.entries;
    numbered = record {
      rows_are = subst (λ l. IsPermutation (map (copy_row user) s.entries) (filter (is_theirs user) l)) (sym after_is)
          (IsPermutation-trans _ _ _ (subst (λ l. IsPermutation l (map copy_from (map old_cells (filter (is_theirs user) before)))) (same_copies s.entries s.own s.bare) (IsPermutation-map copy_from _ _ (IsPermutation-map old_cells _ _ s.numbered.rows_are)))
          (theirs user copy_from (λ cells. refl) before copies same));
      rise = s.numbered.rise;
      from_one = s.numbered.from_one;
      below = s.numbered.below;
      counter = s.numbered.counter;
    };
    stored = record {
      rows_are = subst (λ l. IsPermutation (map (message_row user) (map message_of s.entries)) (filter (is_theirs user) l)) (sym messages_are)
          (IsPermutation-trans _ _ _ (subst (λ l. IsPermutation l (map message_from (map old_cells (filter (is_theirs user) before)))) (same_messages s.entries s.own) (IsPermutation-map message_from _ _ (IsPermutation-map old_cells _ _ s.numbered.rows_are)))
          (theirs user message_from (λ cells. refl) before copies same));
      rise = ascending_mapped s.entries s.own s.numbered.rise;
      from_one = all_mapped message_of (λ m. 1 ≤ m.id) s.entries (from_one s.entries s.own s.numbered.from_one);
      below = all_mapped message_of (λ m. m.id < next) s.entries (below s.entries s.own s.numbered.below);
      counter = s.numbered.counter;
    };
    kept = own_kept s.entries s.own;
    shown = s.shown;
    shown_flags = s.shown_flags;
  }
    where
      from_one : (entries : List Copy) → AllByRecursion (λ c. c.id ≡ c.n) entries → AllByRecursion (λ c. 1 ≤ c.n) entries → AllByRecursion (λ c. 1 ≤ c.id) entries
      from_one [] own all = tt
      from_one (c ∷ entries) own all = (let one = own.0 in let low = all.0 in omega (arith, one, low), from_one entries own.1 all.1)

      below : (entries : List Copy) → AllByRecursion (λ c. c.id ≡ c.n) entries → AllByRecursion (λ c. c.n < next) entries → AllByRecursion (λ c. c.id < next) entries
      below [] own all = tt
      below (c ∷ entries) own all = (let one = own.0 in let low = all.0 in omega (arith, one, low), below entries own.1 all.1)

-- ---- the whole

module _ (before after : Tables) (m : IsMigrated before after) where
  user_shown : (user : List ℕ) (a : Account) → IsShownOld user (rows_of user before) a → IsShown user (rows_of user after) a
  user_shown user a s = record {
    next_copy = s.next_copy;
    next_notice = s.next_notice;
    account_is = ap (filter (is_theirs user)) m.accounts ∙ s.account_is;
    scripts = subst (λ rows. ShowsScripts user (filter (is_theirs user) rows) a.scripts) (sym m.scripts) s.scripts;
    queue = subst (λ rows. ShowsQueue user (filter (is_theirs user) rows) a.queue a.next_out) (sym m.queue) s.queue;
    replies = subst (λ rows. ShowsReplies user (filter (is_theirs user) rows) a.replies) (sym m.replies) s.replies;
    notices = subst (λ rows. ShowsNotices user (filter (is_theirs user) rows) a.notices s.next_notice) (sym m.notices) s.notices;
    copies = copies_shown user (before old_copy_tree) m.copies (after copy_tree) (after message_tree) a.folders a.flags s.next_copy s.copies m.same m.filed m.messages;
  }

  user_absent : (user : List ℕ) → IsAbsentOld (rows_of user before) → IsAbsent (rows_of user after)
  user_absent user s = record {
    accounts = ap (filter (is_theirs user)) m.accounts ∙ s.accounts;
    scripts = ap (filter (is_theirs user)) m.scripts ∙ s.scripts;
    queue = ap (filter (is_theirs user)) m.queue ∙ s.queue;
    replies = ap (filter (is_theirs user)) m.replies ∙ s.replies;
    notices = ap (filter (is_theirs user)) m.notices ∙ s.notices;
    messages = ap (filter (is_theirs user)) m.messages ∙ nothing message_from _ (theirs user message_from (λ cells. refl) (before old_copy_tree) m.copies m.same);
    copies = ap (filter (is_theirs user)) m.filed ∙ nothing copy_from _ (theirs user copy_from (λ cells. refl) (before old_copy_tree) m.copies m.same);
  }
    where
      nothing : (f : Row → Row) (rows : List Row) → IsPermutation (map f (map old_cells (filter (is_theirs user) (before old_copy_tree)))) rows → rows ≡ []
      nothing f rows same = none_of rows (subst (λ l. IsPermutation (map f (map old_cells l)) rows) s.copies same)
        where
          none_of : (ys : List Row) → IsPermutation [] ys → ys ≡ []
          none_of [] is = refl
          none_of (y ∷ ys) is = absurd (omega (arith, length_permutation _ _ is))

  -- of every user
  pub migrated_shows : (accounts : Accounts) → ShowsOldAccounts before accounts → ShowsAccounts after accounts
  migrated_shows accounts s = record { version = renewed_version (before meta_tree) (after meta_tree) m.version; users = λ user. go user (get accounts user) (s.users user) }
    where
      go : (user : List ℕ) (o : Option Account) → IsShownOldOrAbsent user (rows_of user before) o → IsShownOrAbsent user (rows_of user after) o
      go user (Some a) h = user_shown user a h
      go user None h = user_absent user h

-- with the copies last
pub last_shows : (old new : Database) → TurnsNew old new → (tables : Tables) → HoldsTables old_schema old tables → (accounts : Accounts) → ShowsOldAccounts tables accounts → Presents new accounts
last_shows old new turned tables h accounts s = let all = turned tables h in (all.0, all.2, migrated_shows tables all.0 all.1 accounts s)

-- ---- the later tables, moved in two ways

module _ (there tables moved : Tables) (one : IsMoved there tables) (other : IsMoved there moved) where
  same_rows : (user : List ℕ) (columns : Row → Row) (from to : ℕ) → IsPermutation (map columns (there from)) (tables to) → IsPermutation (map columns (there from)) (moved to) → IsPermutation (rows_of user tables to) (rows_of user moved to)
  same_rows user columns from to first second = IsPermutation-filter (is_theirs user) (tables to) (moved to) (IsPermutation-trans _ _ _ (IsPermutation-sym _ _ first) second)

  numbered_moved : {X : Type 0} (number : X → ℕ) (row : X → Row) (before after : List Row) (entries : List X) (next : ℕ) → IsPermutation before after → AreNumbered number row before entries next → AreNumbered number row after entries next
  numbered_moved number row before after entries next same h = record { rows_are = IsPermutation-trans _ _ _ h.rows_are same; rise = h.rise; from_one = h.from_one; below = h.below; counter = h.counter }

  accounts_same : moved account_tree ≡ tables account_tree
  accounts_same = other.accounts ∙ sym one.accounts

  scripts_same : moved scripts_tree ≡ tables scripts_tree
  scripts_same = other.scripts ∙ sym one.scripts

  copies_same : moved old_copy_tree ≡ tables old_copy_tree
  copies_same = other.copies ∙ sym one.copies

  queue_same : (user : List ℕ) → IsPermutation (rows_of user tables outgoing_tree) (rows_of user moved outgoing_tree)
  queue_same user = same_rows user queue_columns oldest_outgoing_tree outgoing_tree one.queue other.queue

  replies_same : (user : List ℕ) → IsPermutation (rows_of user tables reply_tree) (rows_of user moved reply_tree)
  replies_same user = same_rows user four_cells oldest_reply_tree reply_tree one.replies other.replies

  notices_same : (user : List ℕ) → IsPermutation (rows_of user tables notice_tree) (rows_of user moved notice_tree)
  notices_same user = same_rows user four_cells oldest_notice_tree notice_tree one.notices other.notices

  shown_moved : (user : List ℕ) (a : Account) → IsShownOld user (rows_of user tables) a → IsShownOld user (rows_of user moved) a
  shown_moved user a s = record {
    next_copy = s.next_copy;
    next_notice = s.next_notice;
    account_is = ap (filter (is_theirs user)) accounts_same ∙ s.account_is;
    scripts = subst (λ rows. ShowsScripts user (filter (is_theirs user) rows) a.scripts) (sym scripts_same) s.scripts;
    queue = numbered_moved (λ q. q.id) (queue_row user) _ _ a.queue a.next_out (queue_same user) s.queue;
    replies = replies_moved user _ _ a.replies (replies_same user) s.replies;
    notices = record { entries = s.notices.entries; numbered = numbered_moved (λ e. e.0) (notice_row user) _ _ s.notices.entries s.next_notice (notices_same user) s.notices.numbered; shown = s.notices.shown };
    copies = subst (λ rows. ShowsOldCopies user (filter (is_theirs user) rows) a.folders a.flags s.next_copy) (sym copies_same) s.copies;
  }

  absent_moved : (user : List ℕ) → IsAbsentOld (rows_of user tables) → IsAbsentOld (rows_of user moved)
  absent_moved user s = record {
    accounts = ap (filter (is_theirs user)) accounts_same ∙ s.accounts;
    scripts = ap (filter (is_theirs user)) scripts_same ∙ s.scripts;
    queue = none_there _ _ s.queue (queue_same user);
    replies = none_there _ _ s.replies (replies_same user);
    notices = none_there _ _ s.notices (notices_same user);
    copies = ap (filter (is_theirs user)) copies_same ∙ s.copies;
  }
    where
      none_there : (before after : List Row) → before ≡ [] → IsPermutation before after → after ≡ []
      none_there before after none same = nil_from_length after (length_permutation before after same ∙ ap length none)

  pub moved_shows : (accounts : Accounts) → ShowsOldAccounts tables accounts → ShowsOldAccounts moved accounts
  moved_shows accounts s = record { version = ap (filter (has_key version_key)) (other.versions ∙ sym one.versions) ∙ s.version; users = λ user. go user (get accounts user) (s.users user) }
    where
      go : (user : List ℕ) (o : Option Account) → IsShownOldOrAbsent user (rows_of user tables) o → IsShownOldOrAbsent user (rows_of user moved) o
      go user (Some a) h = shown_moved user a h
      go user None h = absent_moved user h

-- with the copies fourth
pub fourth_shows : (old new : Database) → TurnsNewest old new → (there tables : Tables) → HoldsTables oldest_schema old there → IsMoved there tables → (accounts : Accounts) → ShowsOldAccounts tables accounts → Presents new accounts
fourth_shows old new turned there tables h moved accounts s = let all = turned there h in (all.1, all.4, migrated_shows all.0 all.1 all.3 accounts (moved_shows there tables all.0 moved all.2 accounts s))
