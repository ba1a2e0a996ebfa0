-- Examples of what tables of version 1 show, and near misses.
use Rattle.std.proofs.Common.{◌≡◌, ◌==◌, ℕ, pos, ◌<◌, ◌≤◌, cond, codes, List, [], ◌∷◌, filter, map, length, None, inl, inr, refl, sym, ap, ◌∙◌, subst, arith}
use Rattle.std.specs.FinMap.{empty}
use Rattle.std.specs.List.{AllByRecursion}
use Rattle.std.proofs.lemmas.List.Elements.{recursion_from_All, All-from_recursion}
use Rattle.std.proofs.lemmas.List.Sorted.{IsPermutation-append_comm, IsPermutation-sym, length_permutation, All-permutation}
use Rattle.sqlite_value.specs.declared.value.Value.TheVariants.{Int}
use Rattle.sqlite_value.specs.Order.{Row, column}
use Rattle.sqlite_trees.specs.Tree.{IsAscending}
use Rattle.sqlite_keyed.proofs.ListLemmas.{all-filter}
use Rattle.store_tables.specs.Rows.{Tables, has_key}
use Rattle.store_tables.specs.MetaTable.{meta_tree, version_key, version_row}
use Rattle.store_tables.specs.AccountTable.{account_tree}
use Rattle.store_tables.specs.MessageTable.{message_cells}
use Rattle.store_tables.specs.CopyTable.{copy_cells, n_column}
use Rattle.store_versions.specs.OldSchema.{old_copy_tree, message_from, copy_from}
use Rattle.store_accounts.specs.Account.{Account, Accounts, Folders, messages_in, folder_flags}
use Rattle.store_accounts.specs.AccountRows.{account_row}
use Rattle.store_accounts.specs.QueueRows.{queue_row}
use Rattle.store_accounts.specs.NoticeRows.{notice_row}
use Rattle.store_accounts.specs.CopyRows.{Copy, folders_from, flags_from, is_in, IsUnflagged}
use Rattle.store_accounts.specs.OldShows.{old_copy_row, old_version_row, ShowsOldCopies, IsShownOld, ShowsOldAccounts}
use Rattle.store_accounts.proofs.NumberLemmas.{numbered_none}
use Rattle.store_accounts.proofs.VersionLemmas.{version_itself}
use Rattle.store_accounts.proofs.OrderLemmas.{all_mapped, messages_are, flags_are}

abbrev alice : List ℕ
alice = codes "alice"

abbrev first : Copy
first = record { folder = codes "INBOX"; n = 1; id = 1; message = codes "M1"; flags = [] }

abbrev second : Copy
second = record { folder = codes "lists"; n = 2; id = 2; message = codes "M1"; flags = [] }

abbrev third : Copy
third = record { folder = codes "INBOX"; n = 3; id = 3; message = codes "M2"; flags = [] }

abbrev hers : Account
hers = record {
  address = codes "alice@example.org";
  password = record { salt = codes "salt"; rounds = 10000; digest = codes "digest" };
  scripts = empty;
  active = None;
  folders = folders_from (first ∷ second ∷ third ∷ []);
  flags = flags_from (first ∷ second ∷ third ∷ []);
  queue = [];
  replies = empty;
  notices = [];
  next_out = 1;
}

-- her rows: those of the copies stand in another order than their numbers
abbrev her_rows : Tables
her_rows tree = cond (tree == account_tree) (account_row alice hers 4 1 ∷ []) (cond (tree == old_copy_tree) (old_copy_row alice third ∷ old_copy_row alice first ∷ old_copy_row alice second ∷ []) [])

rows_show_account : IsShownOld alice her_rows hers
rows_show_account = record {
  next_copy = 4;
  next_notice = 1;
  account_is = refl;
  scripts = record { entries = []; rows_are = refl; shown = refl; apart = tt };
  queue = numbered_none (λ q. q.id) (queue_row alice) [] refl;
  replies = record { entries = []; rows_are = refl; shown = refl; apart = tt };
  notices = record { entries = []; numbered = numbered_none (λ e. e.0) (notice_row alice) [] refl; shown = refl };
  copies = record {
    entries = first ∷ second ∷ third ∷ [];
    numbered = record {
      rows_are = IsPermutation-append_comm (old_copy_row alice first ∷ old_copy_row alice second ∷ []) (old_copy_row alice third ∷ []);
      rise = ((omega arith, (omega arith, tt)), ((omega arith, tt), (tt, tt)));
      from_one = (omega arith, (omega arith, (omega arith, tt)));
      below = (omega arith, (omega arith, (omega arith, tt)));
      counter = omega arith;
    };
    own = (refl, (refl, (refl, tt)));
    bare = (refl, (refl, (refl, tt)));
    shown = refl;
    shown_flags = refl;
  };
}

-- the folders
messages_of_inbox : messages_in hers.folders (codes "INBOX") ≡ codes "M1" ∷ codes "M2" ∷ []
messages_of_inbox = messages_are (first ∷ second ∷ third ∷ []) (codes "INBOX")

messages_of_lists : messages_in hers.folders (codes "lists") ≡ codes "M1" ∷ []
messages_of_lists = messages_are (first ∷ second ∷ third ∷ []) (codes "lists")

-- near miss: a folder whose message has a flag
not_flagged : (rows : List Row) (folders flags : Folders) (next : ℕ) (folder : List ℕ) → ShowsOldCopies alice rows folders flags next → folder_flags flags folder ≡ codes "\\Seen" ∷ [] → ⊥
not_flagged rows folders flags next folder s has =
    let bare = all_mapped (λ (f : List ℕ). f ≡ []) (λ (c : Copy). c.flags) (filter (is_in folder) s.entries) (all-filter IsUnflagged (is_in folder) s.entries s.bare) in
    let told : codes "\\Seen" ∷ [] ≡ map (λ (c : Copy). c.flags) (filter (is_in folder) s.entries) = sym has ∙ ap (λ m. folder_flags m folder) s.shown_flags ∙ flags_are s.entries folder in
    let one = subst (AllByRecursion (λ (f : List ℕ). f ≡ [])) (sym told) bare in
    let none = one.0 in
    cc

-- what they become: a message a copy, with the copy's number, though two have the same octets
three_messages : map message_from (map (old_copy_row alice) (first ∷ second ∷ third ∷ []))
    ≡ message_cells alice (pos 1) (codes "M1") ∷ message_cells alice (pos 2) (codes "M1") ∷ message_cells alice (pos 3) (codes "M2") ∷ []
three_messages = refl

three_copies : map copy_from (map (old_copy_row alice) (first ∷ second ∷ third ∷ []))
    ≡ copy_cells alice (codes "INBOX") (pos 1) (pos 1) [] ∷ copy_cells alice (codes "lists") (pos 2) (pos 2) [] ∷ copy_cells alice (codes "INBOX") (pos 3) (pos 3) [] ∷ []
three_copies = refl

-- near miss: the row of version 3
not_version_3 : (tables : Tables) (accounts : Accounts) → tables meta_tree ≡ version_row ∷ [] → ShowsOldAccounts tables accounts → ⊥
not_version_3 tables accounts is s = let e = sym says ∙ sym (ap (filter (has_key version_key)) is) ∙ s.version in cc
  where
    says : filter (has_key version_key) (version_row ∷ []) ≡ version_row ∷ []
    says = rw version_itself refl

abbrev IsOne : Row → Type 0
IsOne row = column row n_column ≡ Int (pos 1)

-- near miss: two copies with one number, though in different folders
abbrev twice : List Row
twice = old_copy_row alice first ∷ old_copy_row alice (record { folder = codes "work"; n = 1; id = 1; message = codes "M1"; flags = [] }) ∷ []

not_twice : (a : Account) (next : ℕ) → ShowsOldCopies alice twice a.folders a.flags next → ⊥
not_twice a next c = at c.entries (length_permutation _ _ c.numbered.rows_are) ones c.numbered.rise
  where
    ones : AllByRecursion IsOne (map (old_copy_row alice) c.entries)
    ones = recursion_from_All IsOne _ (All-permutation IsOne twice _ (IsPermutation-sym _ _ c.numbered.rows_are) (All-from_recursion IsOne twice (refl, (refl, tt))))

    at : (es : List Copy) → 2 ≡ length (map (old_copy_row alice) es) → AllByRecursion IsOne (map (old_copy_row alice) es) → IsAscending (λ d e. d.n < e.n) es → ⊥
    at [] same ones up = omega (arith, same)
    at (d ∷ []) same ones up = omega (arith, same)
    at (d ∷ e ∷ es) same ones up =
        let one : d.n ≡ 1 = let h = ones.0 in cc in
        let other : e.n ≡ 1 = let h = ones.1.0 in cc in
        let less = up.0.0 in
        omega (arith, one, other, less)
