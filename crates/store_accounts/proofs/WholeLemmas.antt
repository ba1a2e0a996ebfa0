-- The rows of a user whose account is written whole.
use Prim.Native.Nat.{zero}
use Rattle.std.proofs.Common.{◌≡◌, ◌≢◌, ◌==◌, ◌≤◌, ◌<◌, ◌+◌, ◌⊎◌, inl, inr, ℕ, suc, ℤ, pos, Bool, true, false, List, [], ◌∷◌, ◌++◌, fold, map, length, take, drop, get_or, IsPermutation, Option, Some, None, cond, Ordering, Less, Equal, Greater, is_lt, is_eq, append-nil, append_assoc, refl, sym, ap, ◌∙◌, subst, arith}
use Rattle.std.specs.List.{flat_map, AllByRecursion, list_all}
use Rattle.std.specs.FinMap.{empty, insert, get, get-empty, get-insert}
use Rattle.std.specs.Ordering.{nat_cmp, ordering_then}
use Rattle.std.proofs.lemmas.Bool.{and_parts, eqb-true, ltb-true, leb-true}
use Rattle.std.proofs.lemmas.List.{take_more, map-append, nil_from_length}
use Rattle.std.proofs.lemmas.List.Sorted.{length_permutation}
use Rattle.std.proofs.lemmas.Bool.Decides.{nat_tests}
use Rattle.std.proofs.lemmas.List.Concat.{flat_map-append}
use Rattle.std.proofs.lemmas.List.Sums.{fold-append}
use Rattle.sqlite_value.specs.declared.value.Value.TheVariants.{Int, Blob}
use Rattle.sqlite_value.specs.Order.{Row}
use Rattle.sqlite_keyed.specs.Lists.{update_where, delete_where}
use Rattle.sqlite_keyed.proofs.ListLemmas.{all-append, all_weaker}
use Rattle.sqlite_rules.specs.Lists.{Has}
use Rattle.sqlite_rules.proofs.ListLemmas.{has_left, has_last}
use Rattle.store_tables.specs.Rows.{Tables, has_key, row_added, set_in}
use Rattle.store_tables.proofs.ListLemmas.{owner_key, owned_by, equal_itself}
use Rattle.store_tables.specs.Cells.{or_null}
use Rattle.store_tables.specs.Changes.{AreOf, made, ExtendsChanges}
use Rattle.store_tables.specs.AccountTable.{account_cells, with_active, with_address, with_counters, with_password, account_tree}
use Rattle.store_tables.specs.ScriptTable.{scripts_tree}
use Rattle.store_tables.specs.QueueTable.{outgoing_tree}
use Rattle.store_tables.specs.ReplyTable.{reply_tree}
use Rattle.store_tables.specs.NoticeTable.{notice_tree}
use Rattle.store_tables.specs.MessageTable.{message_tree}
use Rattle.store_tables.specs.CopyTable.{copy_tree}
use Rattle.store_tables.specs.declared.change.Change.{Change}
use Rattle.store_text.specs.Order.{part_cmp, is_given, fits, follows, joins, has_come, comes_after, are_chained, are_numbers}
use Rattle.store_text.specs.Text.{IsAccount}
use Rattle.store_text.specs.declared.head.AccountHead.{AccountHead}
use Rattle.store_text.specs.declared.head.Numbers.{Numbers}
use Rattle.store_text.specs.declared.part.LetterKind.{LetterKind}
use Rattle.store_text.specs.declared.part.Part.{Part}
use Rattle.store_text.specs.declared.part.Part.TheVariants.{Script, Reply, Mail, Copy, Letter, Notice}
use Rattle.store_text.proofs.OrderLemmas.{Before, all_before}
use Rattle.store_text.proofs.ReadLemmas.{last_of, numbers_below, given_at, chained_at}
use Rattle.store_accounts.specs.declared.notice.Notice.{Notice as KeptNotice}
use Rattle.store_accounts.specs.declared.queue.QueuedMessage.{QueuedMessage}
use Rattle.store_accounts.specs.Account.{reply_cmp, latest, Account, ReplyMoments, Scripts, empties, new_account, with_user}
use Rattle.store_accounts.specs.AccountRows.{account_row}
use Rattle.store_accounts.specs.CopyRows.{Copy as KeptCopy, copy_row, message_of, HasCopy, AreKept, ShowsCopies}
use Rattle.store_accounts.specs.MessageRows.{Message, message_row}
use Rattle.store_accounts.specs.NoticeRows.{notice_row, ShowsNotices}
use Rattle.store_accounts.specs.QueueRows.{queue_row, ShowsQueue}
use Rattle.store_accounts.specs.ReplyRows.{reply_row, ShowsReplies}
use Rattle.store_accounts.specs.ScriptRows.{script_row, ShowsScripts}
use Rattle.store_accounts.specs.Numbers.{AreNumbered}
use Rattle.store_accounts.specs.Promises.{IsFree, OfUser}
use Rattle.store_accounts.specs.Shows.{rows_of, IsShown, IsAbsent, IsShownOrAbsent}
use Rattle.store_accounts.proofs.CallLemmas.{Carries, carries_known}
use Rattle.store_accounts.proofs.ShowLemmas.{shows_after}
use Rattle.store_accounts.specs.Whole.{scripts_with, replies_with, queued_kind, letters_in, notices_in, messages_in_part, octets_after_part, copies_in_part, copies_of, password_of, whole, takes_whole}
use Rattle.store_accounts.specs.Delivery.{moment_put}
use Rattle.store_accounts.specs.WholeRows.{part_made, parts_made, over_kept, part_over, parts_over, numbers_made, owner_made, head_made, account_made, emptied_by, IsMaking}
use Rattle.store_accounts.proofs.NumberLemmas.{numbered_none, numbered_up, numbered_push}
use Rattle.store_accounts.proofs.AccountLemmas.{reply_total, reply_antisymmetric, scripts_put, replies_put}
use Rattle.store_accounts.proofs.MapLemmas.{tied_is, tied, itself}
use Rattle.store_accounts.proofs.DeliveryLemmas.{kept_push, kept_first}
use Rattle.store_accounts.proofs.UpkeepLemmas.{owned_gone, numbered_gone}

-- ---- the changes, one part more at a time

parts_push : (user : List ℕ) (parts : List Part) (part : Part) (own : Tables) → parts_made user (parts ++ part ∷ []) own ≡ part_made user part (parts_made user parts own)
parts_push user parts part own = fold-append (λ rows p. part_made user p rows) own parts (part ∷ [])

pub parts_more : (user : List ℕ) (f : Part → Part) (parts : List Part) (i : ℕ) (part : Part) (a b c : List Change) → i < length parts → part ≡ get_or parts i part → ExtendsChanges user (parts_made user (map f (take i parts))) a b → ExtendsChanges user (part_made user (f part)) b c
    → ExtendsChanges user (parts_made user (map f (take (i + 1) parts))) a c
parts_more user f parts i part a b c within is was more = record {
  owned = λ were. more.owned (was.owned were);
  makes = λ own.
      more.makes own ∙ (ap (part_made user (f part)) (was.makes own) ∙ (sym (parts_push user (map f (take i parts)) (f part) (made own a))
      ∙ ap (λ ps. parts_made user ps (made own a)) (sym (map-append f (take i parts) (part ∷ [])) ∙ ap (map f) (ap (λ p. take i parts ++ p ∷ []) is ∙ sym (take_more parts i part within)))));
}

pub making : (user : List ℕ) (first : Tables → Tables) (head : AccountHead) (parts : List Part) (one two three : List Change) → ExtendsChanges user first [] one → ExtendsChanges user (head_made head) one two → ExtendsChanges user (parts_made user parts) two three → IsMaking user first head parts three
making user first head parts one two three begins goes ends = record {
  owned = ends.owned (goes.owned (begins.owned tt));
  makes = λ own. ends.makes own ∙ ap (parts_made user parts) (goes.makes own ∙ ap (head_made head) (begins.makes own));
}

-- ---- an account's row, and no others but moments of replies

record IsBare (user : List ℕ) (row : Row) (replies : ReplyMoments) (own : Tables) : Type 0 where
  account_is : own account_tree ≡ row ∷ []
  scripts : own scripts_tree ≡ []
  queue : own outgoing_tree ≡ []
  replies_are : ShowsReplies user (own reply_tree) replies
  notices : own notice_tree ≡ []
  copies : own copy_tree ≡ []
  messages : own message_tree ≡ []

-- a change of the account's row
row_set : (user : List ℕ) (cells : Row) (f : Row → Row) → update_where (has_key (owner_key user)) f ((Blob user ∷ cells) ∷ []) ≡ f (Blob user ∷ cells) ∷ []
row_set user cells f = rw (equal_itself user) refl

-- the row has what is had once
head_row : AccountHead → Row
head_row head =
    Blob head.owner.name ∷ Blob head.owner.address ∷ Blob head.owner.salt ∷ Int (pos head.numbers.rounds) ∷ Blob head.owner.digest ∷ or_null head.owner.active
    ∷ Int (pos head.numbers.next_copy) ∷ Int (pos head.numbers.next_out) ∷ Int (pos head.numbers.next_notice) ∷ []

bare_head : (head : AccountHead) (b : Account) (copy notice : ℕ) (replies : ReplyMoments) (own : Tables) → IsBare head.owner.name (account_row head.owner.name b copy notice) replies own → IsBare head.owner.name (head_row head) replies (head_made head own)
unfolding head_row
bare_head head b copy notice replies own is =
    let user = head.owner.name in
    let up = λ (f : Row → Row) (rows : List Row). update_where (has_key (owner_key user)) f rows in
    let one = with_address head.owner.address in
    let two = with_password head.owner.salt head.numbers.rounds head.owner.digest in
    let three = with_counters (pos head.numbers.next_copy) (pos head.numbers.next_out) (pos head.numbers.next_notice) in
    let four = with_active (or_null head.owner.active) in
    let row = account_row user b copy notice in
    record {
      account_is =
          ap (λ rows. up four (up three (up two (up one rows)))) is.account_is
          ∙ (ap (λ rows. up four (up three (up two rows))) (row_set user (drop 1 row) one)
          ∙ (ap (λ rows. up four (up three rows)) (row_set user (drop 1 (one row)) two)
          ∙ (ap (up four) (row_set user (drop 1 (two (one row))) three) ∙ row_set user (drop 1 (three (two (one row)))) four)));
      scripts = is.scripts;
      queue = is.queue;
      replies_are = is.replies_are;
      notices = is.notices;
      copies = is.copies;
      messages = is.messages;
    }

-- a new account's row alone
bare_added : (head : AccountHead) (own : Tables) → IsAbsent own → IsBare head.owner.name (account_row head.owner.name (new_account head.owner.address (password_of head)) 1 1) empty (account_made head own)
bare_added head own none = record {
  account_is = ap (λ l. l ++ account_cells head.owner.name head.owner.address head.owner.salt head.numbers.rounds head.owner.digest ∷ []) none.accounts;
  scripts = none.scripts;
  queue = none.queue;
  replies_are = record { entries = []; rows_are = none.replies; shown = refl; apart = tt };
  notices = none.notices;
  copies = none.copies;
  messages = none.messages;
}

-- what an account has is gone
no_rows : {X : Type 0} (number : X → ℕ) (row : X → Row) (rows : List Row) (next : ℕ) → AreNumbered number row rows [] next → rows ≡ []
no_rows number row rows next h = nil_from_length rows (length_permutation [] rows h.rows_are)

bare_emptied : (user : List ℕ) (own : Tables) (a : Account) (s : IsShown user own a) → IsBare user (account_row user (empties a) s.next_copy s.next_notice) a.replies (emptied_by user own)
bare_emptied user own a s = record {
  account_is = ap (update_where (has_key (owner_key user)) (with_active (or_null None))) s.account_is ∙ row_set user (drop 1 (account_row user a s.next_copy s.next_notice)) (with_active (or_null None));
  scripts = ap (delete_where (has_key (owner_key user))) s.scripts.rows_are ∙ owned_gone user (script_row user) (λ e. owned_by user (drop 1 (script_row user e))) s.scripts.entries;
  queue = no_rows (λ (q : QueuedMessage). q.id) (queue_row user) _ a.next_out (numbered_gone (λ (q : QueuedMessage). q.id) (queue_row user) user (λ q. owned_by user (drop 1 (queue_row user q))) (own outgoing_tree) a.queue a.next_out s.queue);
  replies_are = s.replies;
  notices = no_rows (λ (e : ℕ × KeptNotice). e.0) (notice_row user) _ s.next_notice
      (numbered_gone (λ (e : ℕ × KeptNotice). e.0) (notice_row user) user (λ e. owned_by user (drop 1 (notice_row user e))) (own notice_tree) s.notices.entries s.next_notice s.notices.numbered);
  copies = no_rows (λ (c : KeptCopy). c.n) (copy_row user) _ s.next_copy
      (numbered_gone (λ (c : KeptCopy). c.n) (copy_row user) user (λ c. owned_by user (drop 1 (copy_row user c))) (own copy_tree) s.copies.entries s.next_copy s.copies.numbered);
  messages = no_rows (λ (m : Message). m.id) (message_row user) _ s.next_copy
      (numbered_gone (λ (m : Message). m.id) (message_row user) user (λ m. owned_by user (drop 1 (message_row user m))) (own message_tree) s.copies.messages s.next_copy s.copies.stored);
}

-- ---- the rows while the parts come

record IsAt (user : List ℕ) (row : Row) (numbers : Numbers) (scripts : Scripts) (queue : List QueuedMessage) (replies : ReplyMoments) (notices : List (ℕ × KeptNotice)) (copies : List KeptCopy) (messages : List Message) (own : Tables) : Type 0 where
  account_is : own account_tree ≡ row ∷ []
  scripts_are : ShowsScripts user (own scripts_tree) scripts
  queue_is : AreNumbered (λ (q : QueuedMessage). q.id) (queue_row user) (own outgoing_tree) queue numbers.next_out
  replies_are : ShowsReplies user (own reply_tree) replies
  notices_are : AreNumbered (λ (e : ℕ × KeptNotice). e.0) (notice_row user) (own notice_tree) notices numbers.next_notice
  copies_are : AreNumbered (λ (c : KeptCopy). c.n) (copy_row user) (own copy_tree) copies numbers.next_copy
  messages_are : AreNumbered (λ (m : Message). m.id) (message_row user) (own message_tree) messages numbers.next_copy
  kept : AreKept copies messages

none_numbered : {X : Type 0} (number : X → ℕ) (row : X → Row) (rows : List Row) (next : ℕ) → rows ≡ [] → 1 ≤ next → AreNumbered number row rows [] next
none_numbered number row rows next none one = numbered_up number row rows [] 1 next one (numbered_none number row rows none)

at_none : (user : List ℕ) (row : Row) (numbers : Numbers) (replies : ReplyMoments) (own : Tables) → are_numbers numbers ≡ true → IsBare user row replies own → IsAt user row numbers empty [] replies [] [] [] own
at_none user row numbers replies own are b =
    let below = numbers_below numbers are in
    record {
      account_is = b.account_is;
      scripts_are = record { entries = []; rows_are = b.scripts; shown = refl; apart = tt };
      queue_is = none_numbered (λ (q : QueuedMessage). q.id) (queue_row user) (own outgoing_tree) numbers.next_out b.queue below.1.0.0;
      replies_are = b.replies_are;
      notices_are = none_numbered (λ (e : ℕ × KeptNotice). e.0) (notice_row user) (own notice_tree) numbers.next_notice b.notices below.1.1.0;
      copies_are = none_numbered (λ (c : KeptCopy). c.n) (copy_row user) (own copy_tree) numbers.next_copy b.copies below.0.0;
      messages_are = none_numbered (λ (m : Message). m.id) (message_row user) (own message_tree) numbers.next_copy b.messages below.0.0;
      kept = record { present = tt; used = tt; first = tt };
    }

-- a number that was given, above those that are there
record IsNext {X : Type 0} (number : X → ℕ) (entries : List X) (n next : ℕ) : Type 0 where
  above : AllByRecursion (λ y. number y < n) entries
  one : 1 ≤ n
  low : n < next

-- what a part asks of those before it: a moment, that what was kept under its handle for its sender is kept still
abbrev IsReady : ReplyMoments → Numbers → List ℕ → List QueuedMessage → ReplyMoments → List (ℕ × KeptNotice) → List KeptCopy → List Message → Part → Type 0
IsReady base numbers last queue replies notices copies messages (Reply handle sender moment) = get replies (handle, sender) ≡ get base (handle, sender)
IsReady base numbers last queue replies notices copies messages (Mail number folder message flags) = IsNext (λ c. c.n) copies number numbers.next_copy × AllByRecursion (λ m. m.id < number) messages
IsReady base numbers last queue replies notices copies messages (Copy number folder first flags) = IsNext (λ c. c.n) copies number numbers.next_copy × (Has messages (record { id = first; bytes = last }) × (first ≤ number))
IsReady base numbers last queue replies notices copies messages (Letter id way sender target message) = IsNext (λ q. q.id) queue id numbers.next_out
IsReady base numbers last queue replies notices copies messages (Notice number moment text) = IsNext (λ e. e.0) notices number numbers.next_notice
IsReady base numbers last queue replies notices copies messages part = Unit {0}

module _ (base : ReplyMoments) (user : List ℕ) (row : Row) (numbers : Numbers) (scripts : Scripts) (queue : List QueuedMessage) (replies : ReplyMoments) (notices : List (ℕ × KeptNotice)) (copies : List KeptCopy) (messages : List Message) (own : Tables)
    (at : IsAt user row numbers scripts queue replies notices copies messages own) (last : List ℕ) where
  -- the same with nothing more
  at_still : (rows : Tables) → IsAt user row numbers scripts queue replies notices copies messages rows → IsAt user row numbers scripts (queue ++ []) replies (notices ++ []) (copies ++ []) (messages ++ []) rows
  at_still rows at = record {
    account_is = at.account_is;
    scripts_are = at.scripts_are;
    queue_is = subst (λ l. AreNumbered (λ (q : QueuedMessage). q.id) (queue_row user) (rows outgoing_tree) l numbers.next_out) (sym (append-nil queue)) at.queue_is;
    replies_are = at.replies_are;
    notices_are = subst (λ l. AreNumbered (λ (e : ℕ × KeptNotice). e.0) (notice_row user) (rows notice_tree) l numbers.next_notice) (sym (append-nil notices)) at.notices_are;
    copies_are = subst (λ l. AreNumbered (λ (c : KeptCopy). c.n) (copy_row user) (rows copy_tree) l numbers.next_copy) (sym (append-nil copies)) at.copies_are;
    messages_are = subst (λ l. AreNumbered (λ (m : Message). m.id) (message_row user) (rows message_tree) l numbers.next_copy) (sym (append-nil messages)) at.messages_are;
    kept = subst (λ l. AreKept l (messages ++ [])) (sym (append-nil copies)) (subst (AreKept copies) (sym (append-nil messages)) at.kept);
  }

  at_on : (part : Part) → IsReady base numbers last queue replies notices copies messages part
      → IsAt user row numbers (scripts_with scripts part) (queue ++ letters_in part) (replies_with replies part) (notices ++ notices_in part) (copies ++ copies_in_part last part) (messages ++ messages_in_part part) (part_over user part base own)
  at_on (Script name text) ready =
      let still = at_still own at in
      record {
        account_is = still.account_is;
        scripts_are = scripts_put user (own scripts_tree) scripts at.scripts_are name text;
        queue_is = still.queue_is;
        replies_are = still.replies_are;
        notices_are = still.notices_are;
        copies_are = still.copies_are;
        messages_are = still.messages_are;
        kept = still.kept;
      }
  at_on (Reply handle sender moment) ready =
      let still = at_still own at in
      record {
        account_is = still.account_is;
        scripts_are = still.scripts_are;
        queue_is = still.queue_is;
        replies_are =
            subst (λ o. ShowsReplies user (moment_put user handle sender (latest (get base (handle, sender)) moment) own reply_tree) (insert replies (handle, sender) (latest o moment))) (sym ready)
            (replies_put user (own reply_tree) replies at.replies_are (handle, sender) (latest (get base (handle, sender)) moment));
        notices_are = still.notices_are;
        copies_are = still.copies_are;
        messages_are = still.messages_are;
        kept = still.kept;
      }
  at_on (Mail number folder message flags) ready =
      let still = at_still own at in
      let c : KeptCopy = record { folder = folder; n = number; id = number; message = message; flags = flags } in
      record {
        account_is = still.account_is;
        scripts_are = still.scripts_are;
        queue_is = still.queue_is;
        replies_are = still.replies_are;
        notices_are = still.notices_are;
        copies_are = numbered_push (λ (c : KeptCopy). c.n) (copy_row user) (own copy_tree) copies numbers.next_copy c ready.0.above ready.0.one ready.0.low at.copies_are;
        messages_are = numbered_push (λ (m : Message). m.id) (message_row user) (own message_tree) messages numbers.next_copy (message_of c) ready.1 ready.0.one ready.0.low at.messages_are;
        kept = kept_first copies messages c refl at.kept;
      }
  at_on (Copy number folder first flags) ready =
      let still = at_still own at in
      let c : KeptCopy = record { folder = folder; n = number; id = first; message = last; flags = flags } in
      record {
        account_is = still.account_is;
        scripts_are = still.scripts_are;
        queue_is = still.queue_is;
        replies_are = still.replies_are;
        notices_are = still.notices_are;
        copies_are = numbered_push (λ (c : KeptCopy). c.n) (copy_row user) (own copy_tree) copies numbers.next_copy c ready.0.above ready.0.one ready.0.low at.copies_are;
        messages_are = still.messages_are;
        kept = subst (AreKept (copies ++ c ∷ [])) (sym (append-nil messages)) (kept_push copies messages c ready.1.0 ready.1.1 at.kept);
      }
  at_on (Letter id way sender target message) ready =
      let still = at_still own at in
      let out : QueuedMessage = record { id = id; kind = queued_kind way; sender = sender; target = target; message = message } in
      record {
        account_is = still.account_is;
        scripts_are = still.scripts_are;
        queue_is = numbered_push (λ (q : QueuedMessage). q.id) (queue_row user) (own outgoing_tree) queue numbers.next_out out ready.above ready.one ready.low at.queue_is;
        replies_are = still.replies_are;
        notices_are = still.notices_are;
        copies_are = still.copies_are;
        messages_are = still.messages_are;
        kept = still.kept;
      }
  at_on (Notice number moment text) ready =
      let still = at_still own at in
      let one : ℕ × KeptNotice = (number, record { moment = moment; text = text }) in
      record {
        account_is = still.account_is;
        scripts_are = still.scripts_are;
        queue_is = still.queue_is;
        replies_are = still.replies_are;
        notices_are = numbered_push (λ (e : ℕ × KeptNotice). e.0) (notice_row user) (own notice_tree) notices numbers.next_notice one ready.above ready.one ready.low at.notices_are;
        copies_are = still.copies_are;
        messages_are = still.messages_are;
        kept = still.kept;
      }

-- ---- numbers below a part's

nat_less : (n m : ℕ) → nat_cmp n m ≡ Less → n < m
nat_less n m is = grind (arith, nat_tests)

less_of : (n m : ℕ) → is_lt (ordering_then (nat_cmp n m) Equal) ≡ true → n < m
less_of n m is = go (nat_cmp n m) refl is
  where
    go : (o : Ordering) → nat_cmp n m ≡ o → is_lt (ordering_then o Equal) ≡ true → n < m
    go Less at h = nat_less n m at
    go Equal at h = absurd (let never = h in cc)
    go Greater at h = absurd (let never = h in cc)

abbrev CopyLess : ℕ → Part → Type 0
CopyLess n (Mail m folder message flags) = m < n
CopyLess n (Copy m folder first flags) = m < n
CopyLess n part = Unit {0}

abbrev LetterLess : ℕ → Part → Type 0
LetterLess n (Letter id way sender target message) = id < n
LetterLess n part = Unit {0}

abbrev NoticeLess : ℕ → Part → Type 0
NoticeLess n (Notice m moment text) = m < n
NoticeLess n part = Unit {0}

before_mail : (n : ℕ) (folder message flags : List ℕ) (q : Part) → Before q (Mail n folder message flags) → CopyLess n q
before_mail n folder message flags (Script a b) h = tt
before_mail n folder message flags (Reply a b c) h = tt
before_mail n folder message flags (Mail m a b e) h = less_of m n h
before_mail n folder message flags (Copy m a b e) h = less_of m n h
before_mail n folder message flags (Letter a b c d e) h = tt
before_mail n folder message flags (Notice a b c) h = tt

before_copy : (n : ℕ) (folder : List ℕ) (first : ℕ) (flags : List ℕ) (q : Part) → Before q (Copy n folder first flags) → CopyLess n q
before_copy n folder first flags (Script a b) h = tt
before_copy n folder first flags (Reply a b c) h = tt
before_copy n folder first flags (Mail m a b e) h = less_of m n h
before_copy n folder first flags (Copy m a b e) h = less_of m n h
before_copy n folder first flags (Letter a b c d e) h = tt
before_copy n folder first flags (Notice a b c) h = tt

before_letter : (n : ℕ) (way : LetterKind) (sender target message : List ℕ) (q : Part) → Before q (Letter n way sender target message) → LetterLess n q
before_letter n way sender target message (Script a b) h = tt
before_letter n way sender target message (Reply a b c) h = tt
before_letter n way sender target message (Mail a b c e) h = tt
before_letter n way sender target message (Copy a b c e) h = tt
before_letter n way sender target message (Letter m b c d e) h = less_of m n h
before_letter n way sender target message (Notice a b c) h = tt

before_notice : (n moment : ℕ) (text : List ℕ) (q : Part) → Before q (Notice n moment text) → NoticeLess n q
before_notice n moment text (Script a b) h = tt
before_notice n moment text (Reply a b c) h = tt
before_notice n moment text (Mail a b c e) h = tt
before_notice n moment text (Copy a b c e) h = tt
before_notice n moment text (Letter a b c d e) h = tt
before_notice n moment text (Notice m b c) h = less_of m n h

-- ---- moments of other handles or senders

-- the part is no moment under this key
abbrev IsOther : List ℕ × List ℕ → Part → Type 0
IsOther key (Reply handle sender moment) = is_eq (reply_cmp key (handle, sender)) ≡ false
IsOther key part = Unit {0}

before_reply : (handle sender : List ℕ) (moment : ℕ) (q : Part) → Before q (Reply handle sender moment) → IsOther (handle, sender) q
before_reply handle sender moment (Script a b) h = tt
before_reply handle sender moment (Reply a b c) h = go (is_eq (reply_cmp (handle, sender) (a, b))) refl
  where
    go : (t : Bool) → is_eq (reply_cmp (handle, sender) (a, b)) ≡ t → t ≡ false
    go false is = refl
    go true is =
        let same = tied reply_cmp reply_total reply_antisymmetric (handle, sender) (a, b) is in
        let less : is_lt (reply_cmp (a, b) (a, b)) ≡ true = subst (λ k. is_lt (reply_cmp (a, b) k) ≡ true) same h in
        absurd (let never : false ≡ true = sym (ap is_lt (tied_is (reply_cmp (a, b) (a, b)) (itself reply_cmp reply_total reply_antisymmetric (a, b)))) ∙ less in cc)
before_reply handle sender moment (Mail a b c e) h = tt
before_reply handle sender moment (Copy a b c e) h = tt
before_reply handle sender moment (Letter a b c d e) h = tt
before_reply handle sender moment (Notice a b c) h = tt

-- such parts leave what is kept under the key
kept_so_far : (key : List ℕ × List ℕ) (done : List Part) (replies : ReplyMoments) → AllByRecursion (IsOther key) done → get (fold replies_with replies done) key ≡ get replies key
kept_so_far key [] replies all = refl
kept_so_far key (Script a b ∷ done) replies all = kept_so_far key done replies all.1
kept_so_far key (Reply a b c ∷ done) replies all =
    let moment = latest (get replies (a, b)) c in
    kept_so_far key done (insert replies (a, b) moment) all.1 ∙ (get-insert reply_total replies (a, b) moment key ∙ ap (λ t. cond t (Some moment) (get replies key)) all.0)
kept_so_far key (Mail a b c e ∷ done) replies all = kept_so_far key done replies all.1
kept_so_far key (Copy a b c e ∷ done) replies all = kept_so_far key done replies all.1
kept_so_far key (Letter a b c d e ∷ done) replies all = kept_so_far key done replies all.1
kept_so_far key (Notice a b c ∷ done) replies all = kept_so_far key done replies all.1

-- over no moments each part is as it is
over_none : (part : Part) → over_kept empty part ≡ part
over_none (Script a b) = refl
over_none (Reply a b c) = ap (λ o. Reply a b (latest o c)) (get-empty reply_cmp (a, b))
over_none (Mail a b c e) = refl
over_none (Copy a b c e) = refl
over_none (Letter a b c d e) = refl
over_none (Notice a b c) = refl

all_over_none : (parts : List Part) → map (over_kept empty) parts ≡ parts
all_over_none [] = refl
all_over_none (p ∷ parts) = ap (λ q. q ∷ map (over_kept empty) parts) (over_none p) ∙ ap (λ qs. p ∷ qs) (all_over_none parts)

copies_less : (n : ℕ) (last : List ℕ) (parts : List Part) → AllByRecursion (CopyLess n) parts → AllByRecursion (λ (c : KeptCopy). c.n < n) (copies_of last parts)
copies_less n last [] all = tt
copies_less n last (Script a b ∷ parts) all = copies_less n last parts all.1
copies_less n last (Reply a b c ∷ parts) all = copies_less n last parts all.1
copies_less n last (Mail a b c e ∷ parts) all = (all.0, copies_less n c parts all.1)
copies_less n last (Copy a b c e ∷ parts) all = (all.0, copies_less n last parts all.1)
copies_less n last (Letter a b c d e ∷ parts) all = copies_less n last parts all.1
copies_less n last (Notice a b c ∷ parts) all = copies_less n last parts all.1

messages_less : (n : ℕ) (parts : List Part) → AllByRecursion (CopyLess n) parts → AllByRecursion (λ (m : Message). m.id < n) (flat_map messages_in_part parts)
messages_less n [] all = tt
messages_less n (Script a b ∷ parts) all = messages_less n parts all.1
messages_less n (Reply a b c ∷ parts) all = messages_less n parts all.1
messages_less n (Mail a b c e ∷ parts) all = (all.0, messages_less n parts all.1)
messages_less n (Copy a b c e ∷ parts) all = messages_less n parts all.1
messages_less n (Letter a b c d e ∷ parts) all = messages_less n parts all.1
messages_less n (Notice a b c ∷ parts) all = messages_less n parts all.1

letters_less : (n : ℕ) (parts : List Part) → AllByRecursion (LetterLess n) parts → AllByRecursion (λ (q : QueuedMessage). q.id < n) (flat_map letters_in parts)
letters_less n [] all = tt
letters_less n (Script a b ∷ parts) all = letters_less n parts all.1
letters_less n (Reply a b c ∷ parts) all = letters_less n parts all.1
letters_less n (Mail a b c e ∷ parts) all = letters_less n parts all.1
letters_less n (Copy a b c e ∷ parts) all = letters_less n parts all.1
letters_less n (Letter a b c d e ∷ parts) all = (all.0, letters_less n parts all.1)
letters_less n (Notice a b c ∷ parts) all = letters_less n parts all.1

notices_less : (n : ℕ) (parts : List Part) → AllByRecursion (NoticeLess n) parts → AllByRecursion (λ (e : ℕ × KeptNotice). e.0 < n) (flat_map notices_in parts)
notices_less n [] all = tt
notices_less n (Script a b ∷ parts) all = notices_less n parts all.1
notices_less n (Reply a b c ∷ parts) all = notices_less n parts all.1
notices_less n (Mail a b c e ∷ parts) all = notices_less n parts all.1
notices_less n (Copy a b c e ∷ parts) all = notices_less n parts all.1
notices_less n (Letter a b c d e ∷ parts) all = notices_less n parts all.1
notices_less n (Notice a b c ∷ parts) all = (all.0, notices_less n parts all.1)

-- ---- the parts so far, and one more

abbrev At : List ℕ → Row → Numbers → ReplyMoments → List Part → Tables → Type 0
At user row numbers replies done own =
    IsAt user row numbers (fold scripts_with empty done) (flat_map letters_in done) (fold replies_with replies done) (flat_map notices_in done) (copies_of [] done) (flat_map messages_in_part done) own

flat_push : {X : Type 0} (f : Part → List X) (done : List Part) (p : Part) → flat_map f done ++ f p ≡ flat_map f (done ++ p ∷ [])
flat_push f done p = ap (λ l. flat_map f done ++ l) (sym (append-nil (f p))) ∙ sym (flat_map-append f done (p ∷ []))

copies_push : (last : List ℕ) (done : List Part) (p : Part) → copies_of last done ++ copies_in_part (fold octets_after_part last done) p ≡ copies_of last (done ++ p ∷ [])
copies_push last [] p = sym (append-nil (copies_in_part last p))
copies_push last (q ∷ done) p =
    append_assoc (copies_in_part last q) (copies_of (octets_after_part last q) done) (copies_in_part (fold octets_after_part (octets_after_part last q) done) p)
    ∙ ap (λ l. copies_in_part last q ++ l) (copies_push (octets_after_part last q) done p)

at_pushed : (user : List ℕ) (row : Row) (numbers : Numbers) (replies : ReplyMoments) (done : List Part) (p : Part) (own : Tables)
    → IsAt user row numbers (scripts_with (fold scripts_with empty done) p) (flat_map letters_in done ++ letters_in p) (replies_with (fold replies_with replies done) p) (flat_map notices_in done ++ notices_in p)
    (copies_of [] done ++ copies_in_part (fold octets_after_part [] done) p) (flat_map messages_in_part done ++ messages_in_part p) own
    → At user row numbers replies (done ++ p ∷ []) own
at_pushed user row numbers replies done p own at = record {
  account_is = at.account_is;
  scripts_are = subst (ShowsScripts user (own scripts_tree)) (sym (fold-append scripts_with empty done (p ∷ []))) at.scripts_are;
  queue_is = subst (λ l. AreNumbered (λ (q : QueuedMessage). q.id) (queue_row user) (own outgoing_tree) l numbers.next_out) (flat_push letters_in done p) at.queue_is;
  replies_are = subst (ShowsReplies user (own reply_tree)) (sym (fold-append replies_with replies done (p ∷ []))) at.replies_are;
  notices_are = subst (λ l. AreNumbered (λ (e : ℕ × KeptNotice). e.0) (notice_row user) (own notice_tree) l numbers.next_notice) (flat_push notices_in done p) at.notices_are;
  copies_are = subst (λ l. AreNumbered (λ (c : KeptCopy). c.n) (copy_row user) (own copy_tree) l numbers.next_copy) (copies_push [] done p) at.copies_are;
  messages_are = subst (λ l. AreNumbered (λ (m : Message). m.id) (message_row user) (own message_tree) l numbers.next_copy) (flat_push messages_in_part done p) at.messages_are;
  kept = subst (λ l. AreKept l (flat_map messages_in_part (done ++ p ∷ []))) (copies_push [] done p) (subst (AreKept (copies_of [] done ++ copies_in_part (fold octets_after_part [] done) p)) (flat_push messages_in_part done p) at.kept);
}

-- the last part's message is kept
abbrev IsHere : Option Part → List ℕ → List Message → Type 0
IsHere (Some (Mail number folder message flags)) last messages = Has messages (record { id = number; bytes = last })
IsHere (Some (Copy number folder first flags)) last messages = Has messages (record { id = first; bytes = last }) × (first ≤ number)
IsHere part last messages = Unit {0}

last_push : (last : Option Part) (done : List Part) (p : Part) → last_of last (done ++ p ∷ []) ≡ Some p
last_push last [] p = refl
last_push last (q ∷ done) p = last_push (Some q) done p

here_after : (base : ReplyMoments) (numbers : Numbers) (last : List ℕ) (queue : List QueuedMessage) (replies : ReplyMoments) (notices : List (ℕ × KeptNotice)) (copies : List KeptCopy) (messages : List Message) (p : Part) → IsReady base numbers last queue replies notices copies messages p
    → IsHere (Some p) (octets_after_part last p) (messages ++ messages_in_part p)
here_after base numbers last queue replies notices copies messages (Script a b) ready = tt
here_after base numbers last queue replies notices copies messages (Reply a b c) ready = tt
here_after base numbers last queue replies notices copies messages (Mail number folder message flags) ready = has_last (messages ++ record { id = number; bytes = message } ∷ []) messages (record { id = number; bytes = message }) refl
here_after base numbers last queue replies notices copies messages (Copy number folder first flags) ready = (has_left messages [] (record { id = first; bytes = last }) ready.1.0, ready.1.1)
here_after base numbers last queue replies notices copies messages (Letter a b c d e) ready = tt
here_after base numbers last queue replies notices copies messages (Notice a b c) ready = tt

here_push : (done : List Part) (p : Part) → IsHere (Some p) (octets_after_part (fold octets_after_part [] done) p) (flat_map messages_in_part done ++ messages_in_part p)
    → IsHere (last_of None (done ++ p ∷ [])) (fold octets_after_part [] (done ++ p ∷ [])) (flat_map messages_in_part (done ++ p ∷ []))
here_push done p here =
    subst (λ o. IsHere o (fold octets_after_part [] (done ++ p ∷ [])) (flat_map messages_in_part (done ++ p ∷ []))) (sym (last_push None done p))
    (subst (λ l. IsHere (Some p) l (flat_map messages_in_part (done ++ p ∷ []))) (sym (fold-append octets_after_part [] done (p ∷ [])))
    (subst (IsHere (Some p) (octets_after_part (fold octets_after_part [] done) p)) (flat_push messages_in_part done p) here))

-- what a copy is of, by the part before it
come_from : (first n : ℕ) (folder flags : List ℕ) (last : Option Part) (octets : List ℕ) (messages : List Message) → IsHere last octets messages → comes_after last (Copy n folder first flags) ≡ true → has_come first last ≡ true
    → Has messages (record { id = first; bytes = octets }) × (first ≤ n)
come_from first n folder flags (Some (Mail m a b e)) octets messages here after come =
    let same : m ≡ first = eqb-true m first come in
    let less = less_of m n after in
    (subst (λ i. Has messages (record { id = i; bytes = octets })) same here, omega (arith, same, less))
come_from first n folder flags (Some (Copy m a f e)) octets messages here after come =
    let same : f ≡ first = eqb-true f first come in
    let less = less_of m n after in
    let low = here.1 in
    (subst (λ i. Has messages (record { id = i; bytes = octets })) same here.0, omega (arith, same, less, low))
come_from first n folder flags (Some (Script a b)) octets messages here after come = absurd (let never = come in cc)
come_from first n folder flags (Some (Reply a b c)) octets messages here after come = absurd (let never = come in cc)
come_from first n folder flags (Some (Letter a b c d e)) octets messages here after come = absurd (let never = come in cc)
come_from first n folder flags (Some (Notice a b c)) octets messages here after come = absurd (let never = come in cc)
come_from first n folder flags None octets messages here after come = absurd (let never = come in cc)

given_is : (next n : ℕ) → is_given next n ≡ true → (1 ≤ n) × (n < next)
given_is next n is = let parts = and_parts _ _ is in (leb-true 1 n parts.0, ltb-true n next parts.1)

-- a part of an account may come next
ready_next : (base : ReplyMoments) (numbers : Numbers) (done : List Part) (p : Part) → AllByRecursion (λ q. Before q p) done → fits numbers p ≡ true → follows (last_of None done) p ≡ true
    → IsHere (last_of None done) (fold octets_after_part [] done) (flat_map messages_in_part done)
    → IsReady base numbers (fold octets_after_part [] done) (flat_map letters_in done) (fold replies_with base done) (flat_map notices_in done) (copies_of [] done) (flat_map messages_in_part done) p
ready_next base numbers done (Script a b) before fit follow here = tt
ready_next base numbers done (Reply a b c) before fit follow here = kept_so_far (a, b) done base (all_weaker (λ q. Before q (Reply a b c)) (IsOther (a, b)) (before_reply a b c) done before)
ready_next base numbers done (Mail n folder message flags) before fit follow here =
    let given = given_is numbers.next_copy n fit in
    let less = all_weaker (λ q. Before q (Mail n folder message flags)) (CopyLess n) (before_mail n folder message flags) done before in
    (record { above = copies_less n [] done less; one = given.0; low = given.1 }, messages_less n done less)
ready_next base numbers done (Copy n folder first flags) before fit follow here =
    let fits_both = and_parts (is_given numbers.next_copy n) (is_given numbers.next_copy first) fit in
    let given = given_is numbers.next_copy n fits_both.0 in
    let less = all_weaker (λ q. Before q (Copy n folder first flags)) (CopyLess n) (before_copy n folder first flags) done before in
    let both = and_parts (comes_after (last_of None done) (Copy n folder first flags)) (joins (last_of None done) (Copy n folder first flags)) follow in
    (record { above = copies_less n [] done less; one = given.0; low = given.1 }, come_from first n folder flags (last_of None done) (fold octets_after_part [] done) (flat_map messages_in_part done) here both.0 both.1)
ready_next base numbers done (Letter id way sender target message) before fit follow here =
    let given = given_is numbers.next_out id fit in
    let less = all_weaker (λ q. Before q (Letter id way sender target message)) (LetterLess id) (before_letter id way sender target message) done before in
    record { above = letters_less id done less; one = given.0; low = given.1 }
ready_next base numbers done (Notice n moment text) before fit follow here =
    let fits_both = and_parts (is_given numbers.next_notice n) _ fit in
    let given = given_is numbers.next_notice n fits_both.0 in
    let less = all_weaker (λ q. Before q (Notice n moment text)) (NoticeLess n) (before_notice n moment text) done before in
    record { above = notices_less n done less; one = given.0; low = given.1 }

module _ (user : List ℕ) (row : Row) (numbers : Numbers) (replies : ReplyMoments) where
  all_parts : (done rest : List Part) (own : Tables) → are_chained None (done ++ rest) ≡ true → list_all (fits numbers) (done ++ rest) ≡ true → At user row numbers replies done own
      → IsHere (last_of None done) (fold octets_after_part [] done) (flat_map messages_in_part done) → At user row numbers replies (done ++ rest) (parts_over user rest replies own)
  all_parts done [] own chained given at here = subst (λ l. At user row numbers replies l own) (sym (append-nil done)) at
  all_parts done (p ∷ rest) own chained given at here =
      let ready = ready_next replies numbers done p (all_before None done p rest chained) (given_at numbers done rest p given) (chained_at None done rest p chained) here in
      let next = at_on replies user row numbers (fold scripts_with empty done) (flat_map letters_in done) (fold replies_with replies done) (flat_map notices_in done) (copies_of [] done) (flat_map messages_in_part done) own at (fold octets_after_part [] done) p ready in
      let then_here = here_push done p (here_after replies numbers (fold octets_after_part [] done) (flat_map letters_in done) (fold replies_with replies done) (flat_map notices_in done) (copies_of [] done) (flat_map messages_in_part done) p ready) in
      let same : (done ++ p ∷ []) ++ rest ≡ done ++ p ∷ rest = append_assoc done (p ∷ []) rest in
      subst (λ l. At user row numbers replies l (parts_over user rest replies (part_over user p replies own))) same
      (all_parts (done ++ p ∷ []) rest (part_over user p replies own) (ap (are_chained None) same ∙ chained) (ap (list_all (fits numbers)) same ∙ given) (at_pushed user row numbers replies done p (part_over user p replies own) next) then_here)

-- ---- the account

whole_at : (head : AccountHead) (parts : List Part) (replies : ReplyMoments) (own : Tables) → At head.owner.name (head_row head) head.numbers replies parts own → IsShown head.owner.name own (whole head parts replies)
unfolding head_row
whole_at head parts replies own at = record {
  next_copy = head.numbers.next_copy;
  next_notice = head.numbers.next_notice;
  account_is = at.account_is;
  scripts = at.scripts_are;
  queue = at.queue_is;
  replies = at.replies_are;
  notices = record { entries = flat_map notices_in parts; numbered = at.notices_are; shown = refl };
  copies = record { entries = copies_of [] parts; messages = flat_map messages_in_part parts; numbered = at.copies_are; stored = at.messages_are; kept = at.kept; shown = refl; shown_flags = refl };
}

bare_whole : (head : AccountHead) (parts : List Part) (b : Account) (copy notice : ℕ) (replies : ReplyMoments) (own : Tables) → IsAccount head parts → IsBare head.owner.name (account_row head.owner.name b copy notice) replies own
    → IsShown head.owner.name (parts_over head.owner.name parts replies (head_made head own)) (whole head parts replies)
bare_whole head parts b copy notice replies own is bare =
    let row = bare_head head b copy notice replies own bare in
    whole_at head parts replies _
    (all_parts head.owner.name (head_row head) head.numbers replies [] parts (head_made head own) is.chained is.given (at_none head.owner.name (head_row head) head.numbers replies (head_made head own) is.once.counters row) tt)

-- ---- the writes

pub carries_whole : (head : AccountHead) (parts : List Part) (ds : List Change) → IsAccount head parts → IsMaking head.owner.name (account_made head) head parts ds
    → Carries ds (IsFree head.owner.name) (λ all. insert all head.owner.name (whole head parts empty))
carries_whole head parts ds is making tables accounts shows free =
    let user = head.owner.name in
    let none = subst (IsShownOrAbsent user (rows_of user tables)) free (shows.users user) in
    let own = rows_of user tables in
    let over = bare_whole head parts (new_account head.owner.address (password_of head)) 1 1 empty (account_made head own) is (bare_added head own none) in
    let shown = subst (λ ps. IsShown user (parts_made user ps (head_made head (account_made head own))) (whole head parts empty)) (all_over_none parts) over in
    shows_after tables accounts user ds (whole head parts empty) making.owned shows (subst (λ t. IsShown user t (whole head parts empty)) (sym (making.makes own)) shown)

-- the changes are those of the parts over the moments that the account keeps
abbrev pub IsRenewing : AccountHead → List Part → List Change → Account → Type 0
IsRenewing head parts ds a = IsMaking head.owner.name (emptied_by head.owner.name) head (map (over_kept a.replies) parts) ds

pub carries_renewed : (head : AccountHead) (parts : List Part) (ds : List Change) → IsAccount head parts → AreOf head.owner.name ds
    → Carries ds (λ all. OfUser all head.owner.name (IsRenewing head parts ds)) (λ all. with_user all head.owner.name (takes_whole head parts))
carries_renewed head parts ds is are =
    carries_known head.owner.name ds (takes_whole head parts) (IsRenewing head parts ds) are
    (λ own a making s. subst (λ t. IsShown head.owner.name t (takes_whole head parts a)) (sym (making.makes own))
    (bare_whole head parts (empties a) s.next_copy s.next_notice a.replies (emptied_by head.owner.name own) is (bare_emptied head.owner.name own a s)))
