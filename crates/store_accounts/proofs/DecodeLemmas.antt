-- From the cells of rows to what a call answers.
use Rattle.std.proofs.Common.{◌≡◌, ℕ, ℤ, List, [], ◌∷◌, map, Option, Some, None, option_map, slice_get, Ok, Err, Result, IfOk, refl, sym, ap, ◌∙◌, subst, arith}
use Rattle.sqlite_value.specs.declared.value.Value.TheVariants.{Blob}
use Rattle.sqlite_value.specs.Order.{Row, column}
use Rattle.sqlite_keyed.proofs.ListLemmas.{map-map}
use Rattle.store_accounts.specs.Account.{Account, row_with}
use Rattle.store_accounts.specs.Tally.{tallied, AreFolders, AreFolderRows}
use Rattle.store_accounts.specs.declared.folder.Folder.{Folder}
use Rattle.store_tables.specs.declared.queue.QueuedKind.{QueuedKind}
use Rattle.store_tables.specs.declared.queue.QueuedKind.TheVariants.{Redirect, Reply}
use Rattle.store_accounts.specs.declared.queue.QueuedMessage.{QueuedMessage}
use Rattle.store_accounts.specs.declared.notice.Notice.{Notice}
use Rattle.store_accounts.specs.NoticeRows.{AreNoticeRows, notice_cells}
use Rattle.store_accounts.specs.FirstCells.{text_cells, first_one, first_five, first_two}
use Rattle.store_accounts.specs.QueueRows.{AreQueueRows, HasOutgoingRow, IsOutgoing, outgoing_cells}
use Rattle.store_tables.specs.QueueTable.{kind_number}
use Rattle.store_accounts.proofs.OneLemmas.{map_one}

text_one : (x y : List ℕ) → text_cells x ≡ text_cells y → x ≡ y
text_one x y e = cc

-- texts that were read from rows of one column
pub texts_are : {E : Type 0} (r : Result (List (List ℕ)) E) (rows : List Row) (wanted : List (List ℕ)) → rows ≡ map text_cells wanted → IfOk r (λ all. map text_cells all ≡ map first_one rows) → IfOk r (λ all. all ≡ wanted)
texts_are (Err e) rows wanted are h = tt
texts_are (Ok all) rows wanted are h = map_one text_cells text_one all wanted (h ∙ ap (map first_one) are ∙ map-map first_one text_cells wanted)

same_text : (x y : Option (List ℕ)) → option_map (λ t. Blob t) x ≡ option_map (λ t. Blob t) y → x ≡ y
same_text None None e = refl
same_text None (Some y) e = cc
same_text (Some x) None e = cc
same_text (Some x) (Some y) e = let same : x ≡ y = cc in ap Some same

first_column : (o : Option (List ℕ)) → option_map (λ row. column row 0) (option_map (λ t. Blob t ∷ []) o) ≡ option_map (λ t. Blob t) o
first_column None = refl
first_column (Some t) = refl

pub text_is : {E : Type 0} (r : Result (Option (List ℕ)) E) (rows : List Row) (wanted : Option (List ℕ)) → slice_get rows 0 ≡ option_map (λ t. Blob t ∷ []) wanted
    → IfOk r (λ text. option_map (λ t. Blob t) text ≡ option_map (λ row. column row 0) (slice_get rows 0)) → IfOk r (λ text. text ≡ wanted)
text_is (Err e) rows wanted are h = tt
text_is (Ok text) rows wanted are h = same_text text wanted (h ∙ ap (option_map (λ row. column row 0)) are ∙ first_column wanted)

-- the folders that were counted from rows of names
pub tally_of : {E : Type 0} (r : Result (List Folder) E) (rows : List Row) (a : Account) → AreFolderRows rows a
    → IfOk r (λ all. (names : List (List ℕ)) → map (λ row. column row 0) rows ≡ map (λ n. Blob n) names → all ≡ tallied names) → IfOk r (λ all. AreFolders all a)
tally_of (Err e) rows a told h = tt
tally_of (Ok all) rows a told h =
    subst (λ fs. AreFolders fs a) (sym (h told.0 (ap (map (λ row. column row 0)) told.1 ∙ map-map (λ (row : Row). column row 0) (λ (n : List ℕ). Blob n ∷ []) told.0))) told.2

-- what was read of rows is the queue, or the notices, that they show
outgoing_one : (x y : QueuedMessage) → outgoing_cells x ≡ outgoing_cells y → x ≡ y
outgoing_one x y e =
    let id : x.id ≡ y.id = cc in
    let number : kind_number x.kind ≡ kind_number y.kind = cc in
    let kind : x.kind ≡ y.kind = kind_one x.kind y.kind number in
    let sender : x.sender ≡ y.sender = cc in
    let target : x.target ≡ y.target = cc in
    let message : x.message ≡ y.message = cc in
    λ i. record { id = id i; kind = kind i; sender = sender i; target = target i; message = message i }
  where
    kind_one : (k l : QueuedKind) → kind_number k ≡ kind_number l → k ≡ l
    kind_one Redirect Redirect e = refl
    kind_one Reply Reply e = refl
    kind_one Redirect Reply e = absurd (omega (arith, e))
    kind_one Reply Redirect e = absurd (omega (arith, e))

pub queue_is : {E : Type 0} (r : Result (List QueuedMessage) E) (rows : List Row) (a : Account) → AreQueueRows rows a → IfOk r (λ all. map outgoing_cells all ≡ map first_five rows) → IfOk r (λ all. all ≡ a.queue)
queue_is (Err e) rows a are h = tt
queue_is (Ok all) rows a are h = map_one outgoing_cells outgoing_one all a.queue (h ∙ ap (map first_five) are ∙ map-map first_five outgoing_cells a.queue)

outgoing_same : (x y : Option QueuedMessage) → option_map outgoing_cells x ≡ option_map outgoing_cells y → x ≡ y
outgoing_same None None e = refl
outgoing_same None (Some y) e = absurd (let no = e in cc)
outgoing_same (Some x) None e = absurd (let no = e in cc)
outgoing_same (Some x) (Some y) e = let cells : outgoing_cells x ≡ outgoing_cells y = cc in ap Some (outgoing_one x y cells)

first_read : (o : Option QueuedMessage) → option_map first_five (option_map outgoing_cells o) ≡ option_map outgoing_cells o
first_read None = refl
first_read (Some q) = refl

-- what was read of the first row is the message that it shows
pub outgoing_told : {E : Type 0} (r : Result (Option QueuedMessage) E) (rows : List Row) (id : ℤ) (a : Account) → HasOutgoingRow id rows a → IfOk r (λ first. option_map outgoing_cells first ≡ option_map first_five (slice_get rows 0))
    → IfOk r (λ first. IsOutgoing id first a)
outgoing_told (Err e) rows id a are h = tt
outgoing_told (Ok first) rows id a are h = λ n is. outgoing_same first (row_with n a.queue) (h ∙ ap (option_map first_five) (are n is) ∙ first_read (row_with n a.queue))

pub noticed_one : (x y : Notice) → notice_cells x ≡ notice_cells y → x ≡ y
noticed_one x y e =
    let moment : x.moment ≡ y.moment = cc in
    let text : x.text ≡ y.text = cc in
    λ i. record { moment = moment i; text = text i }

pub notices_are : {E : Type 0} (r : Result (List Notice) E) (rows : List Row) (a : Account) → AreNoticeRows rows a → IfOk r (λ all. map notice_cells all ≡ map first_two rows) → IfOk r (λ all. all ≡ a.notices)
notices_are (Err e) rows a are h = tt
notices_are (Ok all) rows a are h = map_one notice_cells noticed_one all a.notices (h ∙ ap (map first_two) are ∙ map-map first_two notice_cells a.notices)
