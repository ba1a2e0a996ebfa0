-- The tables show one map of accounts alone.
use Rattle.std.proofs.Common.{◌≡◌, ℕ, ℤ, pos, List, [], ◌∷◌, map, filter, Option, Some, None, refl, sym, ◌∙◌, ap, ap₂, ◌==◌, cond, subst, ◌<◌, ◌≤◌, IsPermutation}
use Rattle.std.specs.FinMap.{get, from_entries, same_map}
use Rattle.std.proofs.lemmas.Cmp.{nat_list_cmp_total}
use Rattle.sqlite_value.specs.declared.value.Value.{Value}
use Rattle.sqlite_value.specs.declared.value.Value.TheVariants.{Null, Int, Blob}
use Rattle.sqlite_value.specs.Order.{Row, bytes, column}
use Rattle.sqlite_schema.specs.declared.schema.Table.{Table}
use Rattle.sqlite_rules.specs.Lists.{Has}
use Rattle.sqlite.specs.Effect.{Database}
use Rattle.store_tables.specs.Rows.{Entry, cells_of, stored, IsHeld, Tables, HoldsTables, has_key}
use Rattle.store_tables.specs.declared.queue.QueuedKind.{QueuedKind}
use Rattle.store_tables.specs.declared.queue.QueuedKind.TheVariants.{Redirect, Reply}
use Rattle.store_accounts.specs.declared.queue.QueuedMessage.{QueuedMessage}
use Rattle.store_accounts.specs.declared.notice.Notice.{Notice}
use Rattle.store_tables.specs.Schema.{mail_schema}
use Rattle.store_tables.specs.Cells.{or_null}
use Rattle.store_accounts.specs.Account.{Account, Accounts}
use Rattle.store_tables.specs.AccountTable.{account, account_tree}
use Rattle.store_tables.specs.ScriptTable.{script, scripts_tree}
use Rattle.store_accounts.specs.ScriptRows.{script_row}
use Rattle.store_tables.specs.QueueTable.{outgoing, outgoing_tree, kind_number}
use Rattle.store_accounts.specs.QueueRows.{queue_row}
use Rattle.store_tables.specs.ReplyTable.{reply, reply_tree}
use Rattle.store_accounts.specs.ReplyRows.{reply_row}
use Rattle.store_tables.specs.NoticeTable.{notice, notice_tree}
use Rattle.store_accounts.specs.NoticeRows.{notice_row}
use Rattle.sqlite_trees.specs.Tree.{IsAscending}
use Rattle.sqlite_keyed.proofs.ListLemmas.{map-map, ascending-map}
use Rattle.std.specs.List.{AllByRecursion}
use Rattle.store_accounts.specs.Numbers.{AreNumbered}
use Rattle.store_tables.specs.MessageTable.{message, message_tree, message_id_column, bytes_column}
use Rattle.store_accounts.specs.MessageRows.{Message, message_row}
use Rattle.store_tables.specs.CopyTable.{copy, copy_cells, copy_tree, folder_column, id_column, flags_column, n_column}
use Rattle.store_accounts.specs.CopyRows.{Copy, copy_row, folders_from, flags_from, message_of}
use Rattle.store_accounts.specs.Shows.{rows_of, IsShown, IsShownOrAbsent, Presents}
use Rattle.store_accounts.proofs.AccountLemmas.{bytes_antisymmetric}
use Rattle.store_tables.proofs.SchemaFacts.{account_listed, copy_listed, message_listed, notice_listed, outgoing_listed, reply_listed, script_listed}
use Rattle.std.proofs.Math.IntN.{nat_abs}
use Rattle.store_accounts.proofs.NumberLemmas.{numbered_one, alone_at}
use Rattle.store_accounts.proofs.OrderLemmas.{all_mapped}

pub map_one : {X Y : Type 0} (f : X → Y) → ((x y : X) → f x ≡ f y → x ≡ y) → (xs ys : List X) → map f xs ≡ map f ys → xs ≡ ys
map_one f one [] [] e = refl
map_one f one [] (y ∷ ys) e = absurd (let no = e in cc)
map_one f one (x ∷ xs) [] e = absurd (let no = e in cc)
map_one f one (x ∷ xs) (y ∷ ys) e =
    let head : f x ≡ f y = cc in
    let rest : map f xs ≡ map f ys = cc in
    let same : x ≡ y = one x y head in
    let more : xs ≡ ys = map_one f one xs ys rest in
    cc

-- ---- the rows of a table

stored_one : (x y : Entry) → stored x ≡ stored y → x ≡ y
stored_one x y e =
    let id : x.0 ≡ y.0 = cc in
    let cells : x.1 ≡ y.1 = cc in
    λ i. (id i, cells i)

held_one : (rows a b : List Row) → IsHeld rows a → IsHeld rows b → a ≡ b
held_one rows a b h k = h.cells_are ∙ ap (map cells_of) (map_one stored stored_one h.entries k.entries (sym h.rows_are ∙ k.rows_are)) ∙ sym k.cells_are

-- the rows are the same in each table that has owners, and in that of accounts
record AreAlike (a b : Tables) : Type 0 where
  accounts : a account_tree ≡ b account_tree
  scripts : a scripts_tree ≡ b scripts_tree
  messages : a message_tree ≡ b message_tree
  copies : a copy_tree ≡ b copy_tree
  queue : a outgoing_tree ≡ b outgoing_tree
  replies : a reply_tree ≡ b reply_tree
  notices : a notice_tree ≡ b notice_tree

tables_one : (db : Database) (a b : Tables) → HoldsTables mail_schema db a → HoldsTables mail_schema db b → AreAlike a b
tables_one db a b h k = record {
  accounts = both account account_listed;
  scripts = both script script_listed;
  messages = both message message_listed;
  copies = both copy copy_listed;
  queue = both outgoing outgoing_listed;
  replies = both reply reply_listed;
  notices = both notice notice_listed;
}
  where
    both : (t : Table) → Has mail_schema.tables t → a t.tree ≡ b t.tree
    both t there = held_one (db.trees t.tree) (a t.tree) (b t.tree) (h.each t there) (k.each t there)

own_alike : (user : List ℕ) (a b : Tables) → AreAlike a b → AreAlike (rows_of user a) (rows_of user b)
own_alike user a b same = record {
  accounts = ap own same.accounts;
  scripts = ap own same.scripts;
  messages = ap own same.messages;
  copies = ap own same.copies;
  queue = ap own same.queue;
  replies = ap own same.replies;
  notices = ap own same.notices;
}
  where
    own : List Row → List Row
    own = filter (has_key (Blob user ∷ []))

-- ---- what one row tells

pub or_null_one : (x y : Option (List ℕ)) → or_null x ≡ or_null y → x ≡ y
or_null_one None None e = refl
or_null_one None (Some n) e = absurd (let no : Null ≡ Blob n = e in cc)
or_null_one (Some m) None e = absurd (let no : Blob m ≡ Null = e in cc)
or_null_one (Some m) (Some n) e = let is : Blob m ≡ Blob n = e in cc

script_one : (user : List ℕ) (x y : List ℕ × List ℕ) → script_row user x ≡ script_row user y → x ≡ y
script_one user x y e =
    let name : x.0 ≡ y.0 = cc in
    let text : x.1 ≡ y.1 = cc in
    λ i. (name i, text i)

-- what a row of a numbered table tells of its entry
int_in : Value → ℤ
int_in (Int n) = n
int_in other = pos 0

number_in : Row → ℕ → ℕ
unfolding int_in
number_in row place = nat_abs (int_in (column row place))

message_in : Row → Message
unfolding number_in
message_in row = record { id = number_in row message_id_column; bytes = bytes (column row bytes_column) }

message_back : (user : List ℕ) (m : Message) → message_in (message_row user m) ≡ m
unfolding message_in
message_back user m = refl

-- what the row of a copy tells: the folder, its number, its message's, and its flags
abbrev Filing : Type 0
Filing = List ℕ × ℕ × ℕ × List ℕ

abbrev filing_of : Copy → Filing
filing_of c = (c.folder, c.n, c.id, c.flags)

abbrev filing_row : List ℕ → Filing → Row
filing_row user f = copy_cells user f.0 (pos f.1) (pos f.2) f.3

filing_in : Row → Filing
unfolding number_in
filing_in row = (bytes (column row folder_column), number_in row n_column, number_in row id_column, bytes (column row flags_column))

filing_back : (user : List ℕ) (f : Filing) → filing_in (filing_row user f) ≡ f
unfolding filing_in
filing_back user f = refl

filings_numbered : (user : List ℕ) (rows : List Row) (copies : List Copy) (next : ℕ) → AreNumbered (λ c. c.n) (copy_row user) rows copies next → AreNumbered (λ f. f.1) (filing_row user) rows (map filing_of copies) next
filings_numbered user rows copies next h = record {
  rows_are = subst (λ l. IsPermutation l rows) (sym (map-map (filing_row user) filing_of copies)) h.rows_are;
  rise = ascending-map (λ (x y : Filing). x.1 < y.1) filing_of copies h.rise;
  from_one = all_mapped (λ (f : Filing). 1 ≤ f.1) filing_of copies h.from_one;
  below = all_mapped (λ (f : Filing). f.1 < next) filing_of copies h.below;
  counter = h.counter;
}

-- messages of one number are one
message_one : (messages : List Message) → IsAscending (λ x y. x.id < y.id) messages → (m o : Message) → Has messages m → Has messages o → m.id ≡ o.id → m ≡ o
message_one messages rise m o there other same =
    let row = message_row [] in
    let both : m ∷ [] ≡ o ∷ [] = sym (alone_at (λ x. x.id) row messages rise m there) ∙ ap (λ n. filter (λ (x : Message). x.id == n) messages) same ∙ alone_at (λ x. x.id) row messages rise o other in
    cc

copies_one : (messages : List Message) → IsAscending (λ x y. x.id < y.id) messages → (xs ys : List Copy) → map filing_of xs ≡ map filing_of ys → AllByRecursion (λ c. Has messages (message_of c)) xs
    → AllByRecursion (λ c. Has messages (message_of c)) ys → xs ≡ ys
copies_one messages rise [] [] e h k = refl
copies_one messages rise [] (y ∷ ys) e h k = absurd (let no = e in cc)
copies_one messages rise (x ∷ xs) [] e h k = absurd (let no = e in cc)
copies_one messages rise (x ∷ xs) (y ∷ ys) e h k =
    let head : filing_of x ≡ filing_of y = cc in
    let folder : x.folder ≡ y.folder = ap (λ f. f.0) head in
    let n : x.n ≡ y.n = ap (λ f. f.1) head in
    let id : x.id ≡ y.id = ap (λ f. f.2) head in
    let flags : x.flags ≡ y.flags = ap (λ f. f.3) head in
    let text = ap (λ (m : Message). m.bytes) (message_one messages rise (message_of x) (message_of y) h.0 k.0 id) in
    let same : x ≡ y = λ i. record { folder = folder i; n = n i; id = id i; message = text i; flags = flags i } in
    let rest : map filing_of xs ≡ map filing_of ys = cc in
    ap₂ ◌∷◌ same (copies_one messages rise xs ys rest h.1 k.1)

kind_in : ℕ → QueuedKind
kind_in n = cond (n == 1) Redirect Reply

kind_back : (k : QueuedKind) → kind_in (kind_number k) ≡ k
unfolding kind_in
kind_back Redirect = refl
kind_back Reply = refl

queued_in : Row → QueuedMessage
unfolding number_in
queued_in row = record { id = number_in row 1; kind = kind_in (number_in row 2); sender = bytes (column row 3); target = bytes (column row 4); message = bytes (column row 5) }

queued_back : (user : List ℕ) (q : QueuedMessage) → queued_in (queue_row user q) ≡ q
unfolding queued_in
queued_back user q = ap (λ k. let out : QueuedMessage = record { id = q.id; kind = k; sender = q.sender; target = q.target; message = q.message } in out) (kind_back q.kind)

notice_in : Row → ℕ × Notice
unfolding number_in
notice_in row = (number_in row 1, record { moment = number_in row 2; text = bytes (column row 3) })

notice_back : (user : List ℕ) (e : ℕ × Notice) → notice_in (notice_row user e) ≡ e
unfolding notice_in
notice_back user e = refl

reply_one : (user : List ℕ) (x y : (List ℕ × List ℕ) × ℕ) → reply_row user x ≡ reply_row user y → x ≡ y
reply_one user x y e =
    let handle : x.0.0 ≡ y.0.0 = cc in
    let sender : x.0.1 ≡ y.0.1 = cc in
    let moment : x.1 ≡ y.1 = cc in
    λ i. ((handle i, sender i), moment i)

-- ---- one account

module _ (user : List ℕ) (own other : Tables) (alike : AreAlike own other) where
  account_one : (a b : Account) → IsShown user own a → IsShown user other b → a ≡ b
  account_one a b s t =
      let row : own account_tree ≡ other account_tree = alike.accounts in
      let one = sym s.account_is ∙ row ∙ t.account_is in
      let address : a.address ≡ b.address = cc in
      let salt : a.password.salt ≡ b.password.salt = cc in
      let rounds : a.password.rounds ≡ b.password.rounds = cc in
      let digest : a.password.digest ≡ b.password.digest = cc in
      let null : or_null a.active ≡ or_null b.active = cc in
      let active : a.active ≡ b.active = or_null_one a.active b.active null in
      let next_out : a.next_out ≡ b.next_out = cc in
      let scripts : a.scripts ≡ b.scripts =
      s.scripts.shown ∙ ap from_entries (map_one (script_row user) (script_one user) s.scripts.entries t.scripts.entries (sym s.scripts.rows_are ∙ alike.scripts ∙ t.scripts.rows_are)) ∙ sym t.scripts.shown in
      let messages = numbered_one (λ m. m.id) (message_row user) message_in (message_back user) _ _ alike.messages s.copies.messages t.copies.messages _ _ s.copies.stored t.copies.stored in
      let filings = numbered_one (λ f. f.1) (filing_row user) filing_in (filing_back user) _ _ alike.copies (map filing_of s.copies.entries) (map filing_of t.copies.entries) _ _ (filings_numbered user _ s.copies.entries _ s.copies.numbered)
      (filings_numbered user _ t.copies.entries _ t.copies.numbered) in
      let copies = copies_one s.copies.messages s.copies.stored.rise s.copies.entries t.copies.entries filings s.copies.kept.present (subst (λ l. AllByRecursion (λ c. Has l (message_of c)) t.copies.entries) (sym messages) t.copies.kept.present) in
      let folders : a.folders ≡ b.folders = s.copies.shown ∙ ap folders_from copies ∙ sym t.copies.shown in
      let flags : a.flags ≡ b.flags = s.copies.shown_flags ∙ ap flags_from copies ∙ sym t.copies.shown_flags in
      let queue : a.queue ≡ b.queue = numbered_one (λ q. q.id) (queue_row user) queued_in (queued_back user) _ _ alike.queue a.queue b.queue _ _ s.queue t.queue in
      let replies : a.replies ≡ b.replies =
      s.replies.shown ∙ ap from_entries (map_one (reply_row user) (reply_one user) s.replies.entries t.replies.entries (sym s.replies.rows_are ∙ alike.replies ∙ t.replies.rows_are)) ∙ sym t.replies.shown in
      let told = numbered_one (λ e. e.0) (notice_row user) notice_in (notice_back user) _ _ alike.notices s.notices.entries t.notices.entries _ _ s.notices.numbered t.notices.numbered in
      let notices : a.notices ≡ b.notices = s.notices.shown ∙ ap (map (λ e. e.1)) told ∙ sym t.notices.shown in
      λ i. record {
        address = address i;
        password = record { salt = salt i; rounds = rounds i; digest = digest i };
        scripts = scripts i;
        active = active i;
        folders = folders i;
        flags = flags i;
        queue = queue i;
        replies = replies i;
        notices = notices i;
        next_out = next_out i;
      }

  shown_one : (x y : Option Account) → IsShownOrAbsent user own x → IsShownOrAbsent user other y → x ≡ y
  shown_one None None s t = refl
  shown_one None (Some b) s t = absurd (let no = sym s.accounts ∙ (alike.accounts ∙ t.account_is) in cc)
  shown_one (Some a) None s t = absurd (let no = sym s.account_is ∙ (alike.accounts ∙ t.accounts) in cc)
  shown_one (Some a) (Some b) s t = ap Some (account_one a b s t)

-- a database shows one map of accounts
pub accounts_one : (db : Database) (a b : Accounts) → Presents db a → Presents db b → a ≡ b
accounts_one db a b p q =
    let alike = tables_one db p.0 q.0 p.1 q.1 in
    same_map nat_list_cmp_total bytes_antisymmetric a b
    (λ user. shown_one user (rows_of user p.0) (rows_of user q.0) (own_alike user p.0 q.0 alike) (get a user) (get b user) (p.2.users user) (q.2.users user))
