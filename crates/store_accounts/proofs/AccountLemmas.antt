-- What row changes make of the account that one user's rows show.
use Rattle.std.proofs.Common.{◌≡◌, ◌==◌, ℕ, pos, Bool, false, not, List, [], ◌∷◌, ◌++◌, map, Option, Some, None, option_map, refl, sym, ap, ◌∙◌, subst, is_eq, Ordering, Less, Equal, Greater, inl, inr, int_eq, eq-eqb, ne_eqb}
use Rattle.std.proofs.lemmas.Bool.{cases_eq}
use Rattle.std.proofs.lemmas.Bool.Decides.{Decides-int_eq}
use Rattle.sqlite_keyed.proofs.KeyedLemmas.{int_eq_apart}
use Rattle.std.specs.Cmp.{IsTotalOrder, tied_then}
use Rattle.std.specs.Ordering.{ordering_then}
use Rattle.std.specs.FinMap.{get, insert, IsAntisymmetric, slice_cmp-IsAntisymmetric, nat_cmp-IsAntisymmetric, remove}
use Rattle.std.proofs.lemmas.Cmp.{nat_list_cmp_total, then_total, on_total}
use Rattle.std.proofs.lemmas.List.{map-append}
use Rattle.sqlite_value.specs.declared.value.Value.TheVariants.{Blob, Int}
use Rattle.sqlite_value.specs.Order.{Row}
use Rattle.sqlite_sql.specs.declared.ops.CompareOp.TheVariants.{Eq}
use Rattle.sqlite_keyed.specs.Lists.{update_where, delete_where}
use Rattle.sqlite_keyed.proofs.ListLemmas.{filter-map, filter_same}
use Rattle.sqlite_typed.proofs.TestLemmas.{at_blobs, at_ints, last_term, then_term}
use Rattle.store_tables.specs.Rows.{Tables, has_key, row_added, rows_removed, set_in}
use Rattle.store_tables.proofs.ListLemmas.{owner_key, pair_key, equal_itself}
use Rattle.store_accounts.specs.declared.queue.QueuedMessage.{QueuedMessage}
use Rattle.store_tables.specs.Cells.{or_null}
use Rattle.store_accounts.specs.Account.{bytes_cmp, reply_cmp, Account, ReplyMoments, Scripts, new_account, keeps_script, activates, deletes_script, renames_script, moved, other_name, takes_out}
use Rattle.store_tables.specs.AccountTable.{account_cells, with_active, account_tree}
use Rattle.store_tables.specs.ScriptTable.{script_cells, scripts_tree}
use Rattle.store_accounts.specs.ScriptRows.{script_row, ShowsScripts}
use Rattle.store_accounts.specs.MessageRows.{Message, message_row}
use Rattle.store_tables.specs.MessageTable.{message_key, message_tree}
use Rattle.store_accounts.specs.CopyRows.{copy_row}
use Rattle.store_tables.specs.CopyTable.{copy_tree}
use Rattle.store_tables.specs.ReplyTable.{reply_cells, reply_key}
use Rattle.store_accounts.specs.ReplyRows.{reply_row, ShowsReplies}
use Rattle.store_accounts.specs.Shows.{IsShown, IsAbsent}
use Rattle.store_accounts.proofs.NumberLemmas.{numbered_none, numbered_without}
use Rattle.store_accounts.proofs.MapLemmas.{shown_put, shown_without, apart_put, apart_without}
use Rattle.store_accounts.specs.NoticeRows.{notice_row}
use Rattle.store_tables.specs.NoticeTable.{notice_tree}
use Rattle.store_tables.specs.QueueTable.{outgoing_tree, queue_key}
use Rattle.store_accounts.specs.QueueRows.{queue_row}

pub bytes_antisymmetric : IsAntisymmetric bytes_cmp
bytes_antisymmetric = slice_cmp-IsAntisymmetric nat_cmp-IsAntisymmetric

-- a row with a name has a key of two where the name is that
pub pair_is : (user name m : List ℕ) (rest : Row) → has_key (pair_key user name) (Blob user ∷ Blob m ∷ rest) ≡ is_eq (bytes_cmp m name)
pair_is user name m rest = rw (equal_itself user) (last_term (at_blobs false Eq m name))

abbrev pub is_named : {X : Type 0} → List ℕ → List ℕ × X → Bool
is_named name e = is_eq (bytes_cmp e.0 name)

-- the order of the replies' keys
pub reply_total : IsTotalOrder reply_cmp
reply_total = then_total (on_total (λ k. k.0) nat_list_cmp_total) (on_total (λ k. k.1) nat_list_cmp_total)

both_equal : (x y : Ordering) → ordering_then x y ≡ Equal → (x ≡ Equal) × (y ≡ Equal)
both_equal Less y h = absurd (let no = h in cc)
both_equal Equal y h = (refl, h)
both_equal Greater y h = absurd (let no = h in cc)

pub reply_antisymmetric : IsAntisymmetric reply_cmp
reply_antisymmetric x y h =
    let both = both_equal (bytes_cmp x.0 y.0) (bytes_cmp x.1 y.1) h in
    let handle = bytes_antisymmetric x.0 y.0 both.0 in
    let sender = bytes_antisymmetric x.1 y.1 both.1 in
    λ i. (handle i, sender i)

abbrev pub is_reply : {X : Type 0} → List ℕ × List ℕ → (List ℕ × List ℕ) × X → Bool
is_reply key e = is_eq (reply_cmp e.0 key)

-- a row with a handle's key and a sender has a key of three where both are these
pub reply_is : (user handle sender h t : List ℕ) (rest : Row) → has_key (reply_key user handle sender) (Blob user ∷ Blob h ∷ Blob t ∷ rest) ≡ is_eq (reply_cmp (h, t) (handle, sender))
reply_is user handle sender h t rest = rw (equal_itself user) (then_term (at_blobs false Eq h handle) (last_term (at_blobs false Eq t sender)) ∙ tied_then (bytes_cmp h handle) (bytes_cmp t sender))

pub same_numbers : (m n : ℕ) → int_eq (pos m) (pos n) ≡ (m == n)
same_numbers m n = elim (cases_eq m n) [
  | inl is ↦ (Decides-int_eq (pos m) (pos n)).1 (ap pos is) ∙ sym (eq-eqb m n is)
  | inr differ ↦ int_eq_apart (pos m) (pos n) (λ same. differ (let is : m ≡ n = cc in is)) ∙ sym (ne_eqb m n differ)
]

-- a row of the queue has a key of its owner and a number where the number is that
pub queue_is : (user : List ℕ) (id : ℕ) (out : QueuedMessage) → has_key (queue_key user (pos id)) (queue_row user out) ≡ (out.id == id)
queue_is user id out = rw (equal_itself user) (last_term (at_ints false Eq (pos out.id) (pos id)) ∙ same_numbers out.id id)

-- a row of a message has a key of its owner and a number where the number is that
pub message_is : (user : List ℕ) (id : ℕ) (m : Message) → has_key (message_key user (pos id)) (message_row user m) ≡ (m.id == id)
message_is user id m = rw (equal_itself user) (last_term (at_ints false Eq (pos m.id) (pos id)) ∙ same_numbers m.id id)

-- a reply in place of one with its key
module _ (user : List ℕ) (rows : List Row) (replies : ReplyMoments) (s : ShowsReplies user rows replies) (key : List ℕ × List ℕ) where
  -- the rows of the other replies
  replies_left : delete_where (has_key (reply_key user key.0 key.1)) rows ≡ map (reply_row user) (delete_where (is_reply key) s.entries)
  replies_left =
      ap (delete_where (has_key (reply_key user key.0 key.1))) s.rows_are ∙ filter-map (λ r. not (has_key (reply_key user key.0 key.1) r)) (reply_row user) s.entries
      ∙ ap (map (reply_row user)) (filter_same _ (λ e. not (is_reply key e)) (λ e. ap not (reply_is user key.0 key.1 e.0.0 e.0.1 (Int (pos e.1) ∷ []))) s.entries)

  pub replies_put : (moment : ℕ) → ShowsReplies user (delete_where (has_key (reply_key user key.0 key.1)) rows ++ reply_cells user key.0 key.1 (pos moment) ∷ []) (insert replies key moment)
  replies_put moment =
      let left = delete_where (is_reply key) s.entries in
      record {
        entries = left ++ (key, moment) ∷ [];
        rows_are = ap (λ l. l ++ reply_cells user key.0 key.1 (pos moment) ∷ []) replies_left ∙ sym (map-append (reply_row user) left ((key, moment) ∷ []));
        shown = shown_put reply_cmp reply_total reply_antisymmetric replies s.entries key moment s.shown;
        apart = apart_put reply_cmp reply_total reply_antisymmetric s.entries key moment s.apart;
      }

  pub replies_dropped : ShowsReplies user (delete_where (has_key (reply_key user key.0 key.1)) rows) (remove replies key)
  replies_dropped = record {
    entries = delete_where (is_reply key) s.entries;
    rows_are = replies_left;
    shown = shown_without reply_cmp reply_total reply_antisymmetric replies s.entries key s.shown;
    apart = apart_without reply_cmp reply_total reply_antisymmetric s.entries key s.apart;
  }

-- a script in place of one with its name
module _ (user : List ℕ) (rows : List Row) (scripts : Scripts) (s : ShowsScripts user rows scripts) (name : List ℕ) where
  -- the rows of the other names
  scripts_left : delete_where (has_key (pair_key user name)) rows ≡ map (script_row user) (delete_where (is_named name) s.entries)
  scripts_left =
      ap (delete_where (has_key (pair_key user name))) s.rows_are ∙ filter-map (λ r. not (has_key (pair_key user name) r)) (script_row user) s.entries
      ∙ ap (map (script_row user)) (filter_same _ (λ e. not (is_named name e)) (λ e. ap not (pair_is user name e.0 (Blob e.1 ∷ []))) s.entries)

  pub scripts_put : (text : List ℕ) → ShowsScripts user (delete_where (has_key (pair_key user name)) rows ++ script_cells user name text ∷ []) (insert scripts name text)
  scripts_put text =
      let left = delete_where (is_named name) s.entries in
      record {
        entries = left ++ (name, text) ∷ [];
        rows_are = ap (λ l. l ++ script_cells user name text ∷ []) scripts_left ∙ sym (map-append (script_row user) left ((name, text) ∷ []));
        shown = shown_put bytes_cmp nat_list_cmp_total bytes_antisymmetric scripts s.entries name text s.shown;
        apart = apart_put bytes_cmp nat_list_cmp_total bytes_antisymmetric s.entries name text s.apart;
      }

module _ (user : List ℕ) (own : Tables) (a : Account) (s : IsShown user own a) where
  pub script_gone : (name : List ℕ) → IsShown user (rows_removed scripts_tree (pair_key user name) own) (deletes_script name a)
  script_gone name = record {
    next_copy = s.next_copy;
    next_notice = s.next_notice;
    account_is = s.account_is;
    scripts = record {
      entries = delete_where (is_named name) s.scripts.entries;
      rows_are = scripts_left user (own scripts_tree) a.scripts s.scripts name;
      shown = shown_without bytes_cmp nat_list_cmp_total bytes_antisymmetric a.scripts s.scripts.entries name s.scripts.shown;
      apart = apart_without bytes_cmp nat_list_cmp_total bytes_antisymmetric s.scripts.entries name s.scripts.apart;
    };
    queue = s.queue;
    replies = s.replies;
    notices = s.notices;
    copies = s.copies;
  }

  pub script_put : (name text : List ℕ) → IsShown user (row_added scripts_tree (script_cells user name text) (rows_removed scripts_tree (pair_key user name) own)) (keeps_script name text a)
  script_put name text = record {
    next_copy = s.next_copy;
    next_notice = s.next_notice;
    account_is = s.account_is;
    scripts = scripts_put user (own scripts_tree) a.scripts s.scripts name text;
    queue = s.queue;
    replies = s.replies;
    notices = s.notices;
    copies = s.copies;
  }

  -- the row with the number is gone from the queue
  pub queue_gone : (id : ℕ) → IsShown user (rows_removed outgoing_tree (queue_key user (pos id)) own) (takes_out id a)
  queue_gone id = record {
    next_copy = s.next_copy;
    next_notice = s.next_notice;
    account_is = s.account_is;
    scripts = s.scripts;
    queue = numbered_without (λ q. q.id) (queue_row user) (has_key (queue_key user (pos id))) (λ out. out.id == id) (λ out. queue_is user id out) (own outgoing_tree) a.queue a.next_out s.queue;
    replies = s.replies;
    notices = s.notices;
    copies = s.copies;
  }

  pub active_put : (active : Option (List ℕ)) → IsShown user (set_in account_tree (owner_key user) (with_active (or_null active)) own) (activates active a)
  active_put active = record {
    next_copy = s.next_copy;
    next_notice = s.next_notice;
    account_is = ap (update_where (has_key (owner_key user)) (with_active (or_null active))) s.account_is ∙ rw (equal_itself user) refl;
    scripts = s.scripts;
    queue = s.queue;
    replies = s.replies;
    notices = s.notices;
    copies = s.copies;
  }

-- a script under another name
module _ (user name other : List ℕ) (active : Option (List ℕ)) (own : Tables) (a : Account) (s : IsShown user own a) (is : active ≡ option_map (other_name name other) a.active) where
  pub script_moved : (text : List ℕ) → Some text ≡ get a.scripts name
      → IsShown user (set_in account_tree (owner_key user) (with_active (or_null active)) (row_added scripts_tree (script_cells user other text) (rows_removed scripts_tree (pair_key user other) (rows_removed scripts_tree (pair_key user name) own)))) (renames_script name other a)
  script_moved text has =
      let gone = script_gone user own a s name in
      let put = script_put user _ _ gone other text in
      let same : activates active (keeps_script other text (deletes_script name a)) ≡ renames_script name other a = λ i. record a { scripts = moved a.scripts name other (has i); active = is i } in
      subst (IsShown user _) same (active_put user _ _ put active)

  pub none_moved : None ≡ get a.scripts name → IsShown user (set_in account_tree (owner_key user) (with_active (or_null active)) own) (renames_script name other a)
  none_moved none =
      let same : activates active a ≡ renames_script name other a = λ i. record a { scripts = moved a.scripts name other (none i); active = is i } in
      subst (IsShown user _) same (active_put user own a s active)

-- from no rows to a new account
pub account_put : (user address salt : List ℕ) (rounds : ℕ) (digest : List ℕ) (own : Tables) → IsAbsent own
    → IsShown user (row_added account_tree (account_cells user address salt rounds digest) own) (new_account address (record { salt = salt; rounds = rounds; digest = digest }))
account_put user address salt rounds digest own s = record {
  next_copy = 1;
  next_notice = 1;
  account_is = ap (λ l. l ++ account_cells user address salt rounds digest ∷ []) s.accounts;
  scripts = record { entries = []; rows_are = s.scripts; shown = refl; apart = tt };
  queue = numbered_none (λ q. q.id) (queue_row user) (own outgoing_tree) s.queue;
  replies = record { entries = []; rows_are = s.replies; shown = refl; apart = tt };
  notices = record { entries = []; numbered = numbered_none (λ e. e.0) (notice_row user) (own notice_tree) s.notices; shown = refl };
  copies = record {
    entries = [];
    messages = [];
    numbered = numbered_none (λ c. c.n) (copy_row user) (own copy_tree) s.copies;
    stored = numbered_none (λ m. m.id) (message_row user) (own message_tree) s.messages;
    kept = record { present = tt; used = tt; first = tt };
    shown = refl;
    shown_flags = refl;
  };
}
