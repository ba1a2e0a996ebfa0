-- Examples of what tables show, and near misses.
use Rattle.std.proofs.Common.{◌≡◌, ◌==◌, ℕ, pos, ◌<◌, ◌≤◌, false, cond, List, [], ◌∷◌, filter, take, map, length, codes, Option, Some, None, option_map, inl, inr, refl, sym, ap, ◌∙◌, arith}
use Rattle.std.specs.FinMap.{empty, insert}
use Rattle.std.specs.List.{AllByRecursion, find}
use Rattle.std.proofs.lemmas.List.Elements.{recursion_from_All, All-from_recursion}
use Rattle.std.proofs.lemmas.List.Sorted.{IsPermutation-refl, IsPermutation-append_comm, IsPermutation-sym, length_permutation, All-permutation}
use Rattle.sqlite_value.specs.declared.value.Value.{Value}
use Rattle.sqlite_value.specs.declared.value.Value.TheVariants.{Int, Text}
use Rattle.sqlite_value.specs.declared.keys.Collation.TheVariants.{Binary}
use Rattle.sqlite_sql.specs.declared.ops.CompareOp.TheVariants.{Eq}
use Rattle.sqlite_typed.proofs.TestLemmas.{at_texts}
use Rattle.sqlite_schema.specs.Rules.{equal}
use Rattle.sqlite_value.specs.Order.{Row, column}
use Rattle.sqlite_trees.specs.Tree.{IsAscending}
use Rattle.store_tables.specs.Rows.{Tables, has_key}
use Rattle.store_accounts.specs.Account.{Account, Accounts, messages_in, folder_flags}
use Rattle.store_tables.specs.MetaTable.{meta_tree, version_key, version_row}
use Rattle.store_tables.specs.AccountTable.{account_tree}
use Rattle.store_accounts.specs.AccountRows.{account_row}
use Rattle.store_tables.specs.ScriptTable.{scripts_tree, script_cells}
use Rattle.store_accounts.specs.QueueRows.{queue_row}
use Rattle.store_accounts.specs.NoticeRows.{notice_row}
use Rattle.sqlite_rules.specs.Lists.{Has}
use Rattle.store_accounts.specs.Delivery.{copied}
use Rattle.store_tables.specs.Changes.{copy_removed, message_removed}
use Rattle.store_accounts.specs.Taking.{copies_taken, leaving_in_turn}
use Rattle.store_accounts.specs.MessageRows.{Message, message_row}
use Rattle.store_tables.specs.MessageTable.{message_cells, message_tree}
use Rattle.store_tables.specs.CopyTable.{copy_tree, n_column, copy_cells}
use Rattle.store_accounts.specs.CopyRows.{Copy, copy_row, folders_from, flags_from, message_of, HasCopy, AreKept, ShowsCopies, is_in, copies_in, numbered_of}
use Rattle.store_accounts.specs.Shows.{IsShown, IsAbsent, IsFirstOf, ShowsAccounts}
use Rattle.store_accounts.specs.declared.taking.NumberedMessage.{NumberedMessage}
use Rattle.store_accounts.proofs.NumberLemmas.{numbered_none}
use Rattle.store_accounts.proofs.VersionLemmas.{version_itself}
use Rattle.store_accounts.proofs.OrderLemmas.{messages_are, flags_are}

abbrev alice : List ℕ
alice = codes "alice"

abbrev first : Copy
first = record { folder = codes "lists"; n = 1; id = 1; message = codes "one"; flags = [] }

abbrev second : Copy
second = record { folder = codes "INBOX"; n = 2; id = 1; message = codes "one"; flags = codes "\\Seen" }

abbrev third : Copy
third = record { folder = codes "INBOX"; n = 3; id = 3; message = codes "two"; flags = [] }

-- an account with two messages in INBOX, of which one is in another folder too, and one script
abbrev hers : Account
hers = record {
  address = codes "alice@example.org";
  password = record { salt = codes "salt"; rounds = 10000; digest = codes "digest" };
  scripts = insert empty (codes "main") (codes "keep;");
  active = None;
  folders = folders_from (first ∷ second ∷ third ∷ []);
  flags = flags_from (first ∷ second ∷ third ∷ []);
  queue = [];
  replies = empty;
  notices = [];
  next_out = 1;
}

-- her rows: those of the copies stand in another order than their numbers
abbrev her_rows : ℕ → List Row → List Row → Tables
her_rows next_copy messages copies tree =
    cond (tree == account_tree) (account_row alice hers next_copy 1 ∷ [])
    (cond (tree == scripts_tree) (script_cells alice (codes "main") (codes "keep;") ∷ []) (cond (tree == message_tree) messages (cond (tree == copy_tree) copies [])))

-- one row of a message for its two copies
abbrev her_messages : List Row
her_messages = message_row alice (message_of first) ∷ message_row alice (message_of third) ∷ []

rows_show_account : IsShown alice (her_rows 4 her_messages (copy_row alice third ∷ copy_row alice first ∷ copy_row alice second ∷ [])) hers
rows_show_account = record {
  next_copy = 4;
  next_notice = 1;
  account_is = refl;
  scripts = record { entries = (codes "main", codes "keep;") ∷ []; rows_are = refl; shown = refl; apart = (tt, tt) };
  queue = numbered_none (λ q. q.id) (queue_row alice) [] refl;
  replies = record { entries = []; rows_are = refl; shown = refl; apart = tt };
  notices = record { entries = []; numbered = numbered_none (λ e. e.0) (notice_row alice) [] refl; shown = refl };
  copies = record {
    entries = first ∷ second ∷ third ∷ [];
    messages = message_of first ∷ message_of third ∷ [];
    numbered = record {
      rows_are = IsPermutation-append_comm (copy_row alice first ∷ copy_row alice second ∷ []) (copy_row alice third ∷ []);
      rise = ((omega arith, (omega arith, tt)), ((omega arith, tt), (tt, tt)));
      from_one = (omega arith, (omega arith, (omega arith, tt)));
      below = (omega arith, (omega arith, (omega arith, tt)));
      counter = omega arith;
    };
    stored = record { rows_are = IsPermutation-refl her_messages; rise = ((omega arith, tt), (tt, tt)); from_one = (omega arith, (omega arith, tt)); below = (omega arith, (omega arith, tt)); counter = omega arith };
    kept = record {
      present = (inl refl, (inl refl, (inr (inl refl), tt)));
      used = ((first, inl refl, refl), ((third, inr (inr (inl refl)), refl), tt));
      first = (omega arith, (omega arith, (omega arith, tt)));
    };
    shown = refl;
    shown_flags = refl;
  };
}

-- ---- the first message of a folder, with the number of its copy and its flags

abbrev numbered : ℕ → List ℕ → Option NumberedMessage
numbered n message = Some (record { number = n; message = message; flags = codes "\\Seen" })

first_of_inbox : option_map numbered_of (find (is_in (codes "INBOX")) (first ∷ second ∷ third ∷ [])) ≡ numbered 2 (codes "one")
first_of_inbox = refl

number_two : (n : ℕ) (message : List ℕ) → numbered n message ≡ numbered 2 (codes "one") → n ≡ 2
number_two n message is = let both : Some n ≡ Some 2 = ap (option_map (λ (m : NumberedMessage). m.number)) is in cc

below_two : (n : ℕ) (message : List ℕ) → n < 2 → numbered n message ≡ numbered 2 (codes "one") → ⊥
below_two n message below is = let same : n ≡ 2 = number_two n message is in absurd (omega arith)

above_two : (n : ℕ) (message : List ℕ) → 2 < n → numbered n message ≡ numbered 2 (codes "one") → ⊥
above_two n message above is = let same : n ≡ 2 = number_two n message is in absurd (omega arith)

-- near misses: it has no other number, not that of its message either, and it isn't the one after it
not_unnumbered : IsFirstOf alice (codes "INBOX") (numbered 0 (codes "one")) (her_rows 4 her_messages (copy_row alice third ∷ copy_row alice first ∷ copy_row alice second ∷ [])) → ⊥
unfolding rows_show_account
not_unnumbered is = below_two 0 (codes "one") (omega arith) (is hers rows_show_account)

not_by_its_message : IsFirstOf alice (codes "INBOX") (numbered 1 (codes "one")) (her_rows 4 her_messages (copy_row alice third ∷ copy_row alice first ∷ copy_row alice second ∷ [])) → ⊥
unfolding rows_show_account
not_by_its_message is = below_two 1 (codes "one") (omega arith) (is hers rows_show_account)

not_the_next : IsFirstOf alice (codes "INBOX") (numbered 3 (codes "two")) (her_rows 4 her_messages (copy_row alice third ∷ copy_row alice first ∷ copy_row alice second ∷ [])) → ⊥
unfolding rows_show_account
not_the_next is = above_two 3 (codes "two") (omega arith) (is hers rows_show_account)

-- the folder is the list in the order of the numbers
messages_by_number : messages_in hers.folders (codes "INBOX") ≡ codes "one" ∷ codes "two" ∷ []
messages_by_number = messages_are (first ∷ second ∷ third ∷ []) (codes "INBOX")

-- and so are their flags
flags_by_number : folder_flags hers.flags (codes "INBOX") ≡ codes "\\Seen" ∷ [] ∷ []
flags_by_number = flags_are (first ∷ second ∷ third ∷ []) (codes "INBOX")

-- a message in three folders has one row, with the number of its first copy
abbrev filed_thrice : Tables
filed_thrice =
    copied alice (codes "M1") 1 (record { mailbox = codes "a"; flags = [] } ∷ record { mailbox = codes "b"; flags = codes "\\Seen" } ∷ record { mailbox = codes "INBOX"; flags = [] } ∷ []) (λ tree. [])

one_message_row : filed_thrice message_tree ≡ message_cells alice (pos 1) (codes "M1") ∷ []
one_message_row = refl

a_row_a_folder : filed_thrice copy_tree
    ≡ copy_cells alice (codes "a") (pos 1) (pos 1) [] ∷ copy_cells alice (codes "b") (pos 2) (pos 1) (codes "\\Seen") ∷ copy_cells alice (codes "INBOX") (pos 3) (pos 1) [] ∷ []
a_row_a_folder = refl

-- and one that is filed nowhere has none
not_kept_unfiled : copied alice (codes "M1") 1 [] (λ tree. []) message_tree ≡ []
not_kept_unfiled = refl

-- the user's rows once the first copies, up to that many, have left the folder
abbrev without_first : ℕ → List ℕ → List Copy → Tables → Tables
without_first count folder copies = copies_taken alice folder (leaving_in_turn copies [] (take count (copies_in folder copies)))

-- the first message of a folder is taken: of two copies of a message one goes, and its row stays
row_stays : (own : Tables) → without_first 1 (codes "lists") (first ∷ second ∷ []) own ≡ copy_removed alice (codes "lists") (pos 1) own
row_stays own = refl

-- with the last copy the message's row goes
row_goes : (own : Tables) → without_first 1 (codes "INBOX") (second ∷ []) own ≡ message_removed alice (pos 1) (copy_removed alice (codes "INBOX") (pos 2) own)
row_goes own = refl

-- near miss: of two messages in the folder the first goes, and not the later one
not_the_later : (own : Tables) → without_first 1 (codes "INBOX") (first ∷ second ∷ third ∷ []) own ≡ copy_removed alice (codes "INBOX") (pos 2) own
not_the_later own = refl

-- near miss: from a folder that has none nothing goes
none_to_take : (own : Tables) → without_first 2 (codes "work") (first ∷ second ∷ []) own ≡ own
none_to_take own = refl

-- two copies of one message leave the folder together: its row goes once, with the later one
abbrev again : Copy
again = record second { n = 5 }

row_goes_once : (own : Tables) → without_first 2 (codes "INBOX") (second ∷ again ∷ []) own ≡ message_removed alice (pos 1) (copy_removed alice (codes "INBOX") (pos 5) (copy_removed alice (codes "INBOX") (pos 2) own))
row_goes_once own = refl

-- near miss: it stays where a third one is in another folder
row_stays_thrice : (own : Tables) → without_first 2 (codes "INBOX") (first ∷ second ∷ again ∷ []) own ≡ copy_removed alice (codes "INBOX") (pos 5) (copy_removed alice (codes "INBOX") (pos 2) own)
row_stays_thrice own = refl

-- a message whose first copy is gone keeps that copy's number
second_keeps : AreKept (second ∷ []) (message_of first ∷ [])
second_keeps = record { present = (inl refl, tt); used = ((second, inl refl, refl), tt); first = (omega arith, tt) }

-- near miss: a number that is not below the counter of the row
not_at_counter : (a : Account) → IsShown alice (her_rows 1 her_messages (copy_row alice first ∷ [])) a → ⊥
not_at_counter a s = go s.copies
  where
    next_is : s.next_copy ≡ 1
    next_is = let e = s.account_is in cc

    go : ShowsCopies alice (copy_row alice first ∷ []) her_messages a.folders a.flags s.next_copy → ⊥
    go c = at c.entries (length_permutation _ _ c.numbered.rows_are) c.numbered.from_one c.numbered.below
      where
        at : (es : List Copy) → length (copy_row alice first ∷ []) ≡ length (map (copy_row alice) es) → AllByRecursion (λ e. 1 ≤ e.n) es → AllByRecursion (λ e. e.n < s.next_copy) es → ⊥
        at [] same one below = omega (arith, same)
        at (e ∷ es) same one below = let low = below.0 in let least = one.0 in omega (arith, low, least, next_is)

-- near miss: a copy whose message has no row
not_without_message : (a : Account) (next : ℕ) → ShowsCopies alice (copy_row alice first ∷ []) [] a.folders a.flags next → ⊥
not_without_message a next c = at c.entries c.messages (length_permutation _ _ c.numbered.rows_are) (length_permutation _ _ c.stored.rows_are) c.kept.present
  where
    at : (es : List Copy) (ms : List Message) → 1 ≡ length (map (copy_row alice) es) → 0 ≡ length (map (message_row alice) ms) → AllByRecursion (λ e. Has ms (message_of e)) es → ⊥
    at [] ms same none present = omega (arith, same)
    at (e ∷ es) [] same none present = present.0
    at (e ∷ es) (m ∷ ms) same none present = omega (arith, none)

-- near miss: a message that no folder has
not_without_copy : (a : Account) (next : ℕ) → ShowsCopies alice [] (message_row alice (message_of first) ∷ []) a.folders a.flags next → ⊥
not_without_copy a next c = at c.entries c.messages (length_permutation _ _ c.numbered.rows_are) (length_permutation _ _ c.stored.rows_are) c.kept.used
  where
    at : (es : List Copy) (ms : List Message) → 0 ≡ length (map (copy_row alice) es) → 1 ≡ length (map (message_row alice) ms) → AllByRecursion (HasCopy es) ms → ⊥
    at es [] none same used = omega (arith, same)
    at [] (m ∷ ms) none same used = used.0.1
    at (e ∷ es) (m ∷ ms) none same used = omega (arith, none)

abbrev IsOne : Row → Type 0
IsOne row = column row n_column ≡ Int (pos 1)

-- near miss: two copies with one number, though in different folders
abbrev twice : List Row
twice = copy_row alice first ∷ copy_row alice (record { folder = codes "work"; n = 1; id = 1; message = codes "one"; flags = [] }) ∷ []

not_twice : (a : Account) (messages : List Row) (next : ℕ) → ShowsCopies alice twice messages a.folders a.flags next → ⊥
not_twice a messages next c = at c.entries (length_permutation _ _ c.numbered.rows_are) ones c.numbered.rise
  where
    ones : AllByRecursion IsOne (map (copy_row alice) c.entries)
    ones = recursion_from_All IsOne _ (All-permutation IsOne twice _ (IsPermutation-sym _ _ c.numbered.rows_are) (All-from_recursion IsOne twice (refl, (refl, tt))))

    at : (es : List Copy) → 2 ≡ length (map (copy_row alice) es) → AllByRecursion IsOne (map (copy_row alice) es) → IsAscending (λ d e. d.n < e.n) es → ⊥
    at [] same ones up = omega (arith, same)
    at (d ∷ []) same ones up = omega (arith, same)
    at (d ∷ e ∷ es) same ones up =
        let one : d.n ≡ 1 = let h = ones.0 in cc in
        let other : e.n ≡ 1 = let h = ones.1.0 in cc in
        let less = up.0.0 in
        omega (arith, one, other, less)

-- near miss: a script of a name that has no account
not_orphaned : IsAbsent (λ tree. cond (tree == scripts_tree) (script_cells alice (codes "main") (codes "keep;") ∷ []) []) → ⊥
not_orphaned s = let e = s.scripts in cc

-- a row of the version is found by its key
says : (value : Value) → filter (has_key version_key) ((Text (codes "version") ∷ value ∷ []) ∷ []) ≡ (Text (codes "version") ∷ value ∷ []) ∷ []
says value = rw version_itself refl

-- near misses: other versions
not_version_2 : (tables : Tables) (accounts : Accounts) → tables meta_tree ≡ (Text (codes "version") ∷ Int (pos 2) ∷ []) ∷ [] → ShowsAccounts tables accounts → ⊥
not_version_2 tables accounts is s = let e = sym (says (Int (pos 2))) ∙ sym (ap (filter (has_key version_key)) is) ∙ s.version in cc

not_version_1 : (tables : Tables) (accounts : Accounts) → tables meta_tree ≡ (Text (codes "version") ∷ Int (pos 1) ∷ []) ∷ [] → ShowsAccounts tables accounts → ⊥
not_version_1 tables accounts is s = let e = sym (says (Int (pos 1))) ∙ sym (ap (filter (has_key version_key)) is) ∙ s.version in cc

other_apart : equal Binary (Text (codes "other")) (Text (codes "version")) ≡ false
other_apart = at_texts false Eq (codes "other") (codes "version")

-- right: another row beside that of the version; near miss: the version twice
further_rows : filter (has_key version_key) (version_row ∷ (Text (codes "other") ∷ Int (pos 7) ∷ []) ∷ []) ≡ version_row ∷ []
further_rows = rw (version_itself, other_apart) refl

not_twice_said : (tables : Tables) (accounts : Accounts) → tables meta_tree ≡ version_row ∷ version_row ∷ [] → ShowsAccounts tables accounts → ⊥
not_twice_said tables accounts is s = let e = sym both ∙ sym (ap (filter (has_key version_key)) is) ∙ s.version in cc
  where
    both : filter (has_key version_key) (version_row ∷ version_row ∷ []) ≡ version_row ∷ version_row ∷ []
    both = rw version_itself refl
