-- Examples of what tables of version 2 show, and near misses.
use Rattle.std.proofs.Common.{◌≡◌, ◌==◌, ℕ, pos, cond, codes, List, [], ◌∷◌, filter, map, length, None, inl, inr, refl, sym, ap, ◌∙◌, subst, arith}
use Rattle.std.specs.FinMap.{empty}
use Rattle.std.specs.List.{AllByRecursion}
use Rattle.std.proofs.lemmas.List.Sorted.{IsPermutation-append_comm, IsPermutation-refl, length_permutation}
use Rattle.sqlite_value.specs.Order.{Row}
use Rattle.sqlite_keyed.proofs.ListLemmas.{all-filter}
use Rattle.sqlite_rules.specs.Lists.{Has}
use Rattle.store_tables.specs.Rows.{Tables, has_key}
use Rattle.store_tables.specs.MetaTable.{meta_tree, version_key, version_row}
use Rattle.store_tables.specs.AccountTable.{account_tree}
use Rattle.store_tables.specs.MessageTable.{message_tree}
use Rattle.store_tables.specs.CopyTable.{copy_cells, copy_tree}
use Rattle.store_versions.specs.SecondSchema.{flagless}
use Rattle.store_accounts.specs.Account.{Account, Accounts, Folders, messages_in, folder_flags}
use Rattle.store_accounts.specs.AccountRows.{account_row}
use Rattle.store_accounts.specs.QueueRows.{queue_row}
use Rattle.store_accounts.specs.NoticeRows.{notice_row}
use Rattle.store_accounts.specs.MessageRows.{Message, message_row}
use Rattle.store_accounts.specs.CopyRows.{Copy, IsUnflagged, message_of, folders_from, flags_from, is_in}
use Rattle.store_accounts.specs.SecondShows.{second_copy_row, ShowsSecondCopies, IsShownSecond, ShowsSecondAccounts}
use Rattle.store_accounts.proofs.NumberLemmas.{numbered_none}
use Rattle.store_accounts.proofs.VersionLemmas.{version_itself}
use Rattle.store_accounts.proofs.OrderLemmas.{all_mapped, messages_are, flags_are}

abbrev alice : List ℕ
alice = codes "alice"

abbrev first : Copy
first = record { folder = codes "lists"; n = 1; id = 1; message = codes "M1"; flags = [] }

abbrev second : Copy
second = record { folder = codes "INBOX"; n = 2; id = 1; message = codes "M1"; flags = [] }

abbrev third : Copy
third = record { folder = codes "INBOX"; n = 3; id = 3; message = codes "M2"; flags = [] }

abbrev hers : Account
hers = record {
  address = codes "alice@example.org";
  password = record { salt = codes "salt"; rounds = 10000; digest = codes "digest" };
  scripts = empty;
  active = None;
  folders = folders_from (first ∷ second ∷ third ∷ []);
  flags = flags_from (first ∷ second ∷ third ∷ []);
  queue = [];
  replies = empty;
  notices = [];
  next_out = 1;
}

abbrev her_messages : List Row
her_messages = message_row alice (message_of first) ∷ message_row alice (message_of third) ∷ []

-- her rows: those of the copies stand in another order than their numbers
abbrev her_rows : Tables
her_rows tree =
    cond (tree == account_tree) (account_row alice hers 4 1 ∷ [])
    (cond (tree == message_tree) her_messages (cond (tree == copy_tree) (second_copy_row alice third ∷ second_copy_row alice first ∷ second_copy_row alice second ∷ []) []))

rows_show_account : IsShownSecond alice her_rows hers
rows_show_account = record {
  next_copy = 4;
  next_notice = 1;
  account_is = refl;
  scripts = record { entries = []; rows_are = refl; shown = refl; apart = tt };
  queue = numbered_none (λ q. q.id) (queue_row alice) [] refl;
  replies = record { entries = []; rows_are = refl; shown = refl; apart = tt };
  notices = record { entries = []; numbered = numbered_none (λ e. e.0) (notice_row alice) [] refl; shown = refl };
  copies = record {
    entries = first ∷ second ∷ third ∷ [];
    messages = message_of first ∷ message_of third ∷ [];
    numbered = record {
      rows_are = IsPermutation-append_comm (second_copy_row alice first ∷ second_copy_row alice second ∷ []) (second_copy_row alice third ∷ []);
      rise = ((omega arith, (omega arith, tt)), ((omega arith, tt), (tt, tt)));
      from_one = (omega arith, (omega arith, (omega arith, tt)));
      below = (omega arith, (omega arith, (omega arith, tt)));
      counter = omega arith;
    };
    stored = record { rows_are = IsPermutation-refl her_messages; rise = ((omega arith, tt), (tt, tt)); from_one = (omega arith, (omega arith, tt)); below = (omega arith, (omega arith, tt)); counter = omega arith };
    kept = record {
      present = (inl refl, (inl refl, (inr (inl refl), tt)));
      used = ((first, inl refl, refl), ((third, inr (inr (inl refl)), refl), tt));
      first = (omega arith, (omega arith, (omega arith, tt)));
    };
    bare = (refl, (refl, (refl, tt)));
    shown = refl;
    shown_flags = refl;
  };
}

-- the folders, and no flags beside each message
messages_of_inbox : messages_in hers.folders (codes "INBOX") ≡ codes "M1" ∷ codes "M2" ∷ []
messages_of_inbox = messages_are (first ∷ second ∷ third ∷ []) (codes "INBOX")

flags_of_inbox : folder_flags hers.flags (codes "INBOX") ≡ [] ∷ [] ∷ []
flags_of_inbox = flags_are (first ∷ second ∷ third ∷ []) (codes "INBOX")

-- what the rows of the copies become: one cell more, which is empty
three_copies : map flagless (map (second_copy_row alice) (first ∷ second ∷ third ∷ []))
    ≡ copy_cells alice (codes "lists") (pos 1) (pos 1) [] ∷ copy_cells alice (codes "INBOX") (pos 2) (pos 1) [] ∷ copy_cells alice (codes "INBOX") (pos 3) (pos 3) [] ∷ []
three_copies = refl

-- near miss: a folder whose message has a flag
not_flagged : (rows messages : List Row) (folders flags : Folders) (next : ℕ) (folder : List ℕ) → ShowsSecondCopies alice rows messages folders flags next → folder_flags flags folder ≡ codes "\\Seen" ∷ [] → ⊥
not_flagged rows messages folders flags next folder s has =
    let bare = all_mapped (λ (f : List ℕ). f ≡ []) (λ (c : Copy). c.flags) (filter (is_in folder) s.entries) (all-filter IsUnflagged (is_in folder) s.entries s.bare) in
    let told : codes "\\Seen" ∷ [] ≡ map (λ (c : Copy). c.flags) (filter (is_in folder) s.entries) = sym has ∙ ap (λ m. folder_flags m folder) s.shown_flags ∙ flags_are s.entries folder in
    let one = subst (AllByRecursion (λ (f : List ℕ). f ≡ [])) (sym told) bare in
    let none = one.0 in
    cc

-- near miss: a copy whose message has no row
not_without_message : (a : Account) (next : ℕ) → ShowsSecondCopies alice (second_copy_row alice first ∷ []) [] a.folders a.flags next → ⊥
not_without_message a next c = at c.entries c.messages (length_permutation _ _ c.numbered.rows_are) (length_permutation _ _ c.stored.rows_are) c.kept.present
  where
    at : (es : List Copy) (ms : List Message) → 1 ≡ length (map (second_copy_row alice) es) → 0 ≡ length (map (message_row alice) ms) → AllByRecursion (λ e. Has ms (message_of e)) es → ⊥
    at [] ms same none present = omega (arith, same)
    at (e ∷ es) [] same none present = present.0
    at (e ∷ es) (m ∷ ms) same none present = omega (arith, none)

-- near miss: the row of version 3
not_version_3 : (tables : Tables) (accounts : Accounts) → tables meta_tree ≡ version_row ∷ [] → ShowsSecondAccounts tables accounts → ⊥
not_version_3 tables accounts is s = let e = sym says ∙ sym (ap (filter (has_key version_key)) is) ∙ s.version in cc
  where
    says : filter (has_key version_key) (version_row ∷ []) ≡ version_row ∷ []
    says = rw version_itself refl
