-- What is listed of one user: copies, notices and moments of replies, without messages and texts, and one notice by its number.
use Rattle.std.specs.Prelude.{◌≡◌, ◌==◌, ℕ, ℤ, pos, List, codes, map, take, Option, option_map, slice_get}
use Rattle.std.specs.List.{find}
use Rattle.sqlite_value.specs.Order.{Row}
use Rattle.store_tables.specs.Rows.{Tables}
use Rattle.store_tables.specs.AccountTable.{account_tree}
use Rattle.store_accounts.specs.declared.account.Counters.{Counters}
use Rattle.store_accounts.specs.declared.filing.Filing.{Filing}
use Rattle.store_accounts.specs.declared.notice.Notice.{Notice}
use Rattle.store_accounts.specs.Account.{Account, max_waiting}
use Rattle.store_accounts.specs.AccountRows.{HasCounters}
use Rattle.store_accounts.specs.CopyRows.{filing_of, filing_cells}
use Rattle.store_accounts.specs.FolderNumbers.{number_cells}
use Rattle.store_accounts.specs.NoticeRows.{notice_cells}
use Rattle.store_accounts.specs.Shows.{IsShown, OfCopies}

-- ---- the counters

-- the row of the user's account has these counters
abbrev pub AreCountersOf : Counters → Tables → Type 0
AreCountersOf c own = HasCounters (own account_tree) c

-- ---- copies

-- these are the user's copies, in the order of their numbers
abbrev pub AreFilingsOf : List ℕ → List Filing → Tables → Type 0
AreFilingsOf user filings own = OfCopies user own (λ copies. filings ≡ map filing_of copies)

-- and the rows show them
abbrev pub AreFilingRows : List ℕ → List Row → Tables → Type 0
AreFilingRows user rows own = OfCopies user own (λ copies. rows ≡ map filing_cells (map filing_of copies))

-- ---- notices

-- of the notices that the user's rows show with their numbers, whatever else they show, this holds
abbrev pub OfNotices : List ℕ → Tables → (List (ℕ × Notice) → Type 0) → Type 0
OfNotices user own P = (a : Account) (s : IsShown user own a) → P s.notices.entries

-- these are the numbers of the user's notices, in their order
abbrev pub AreNoticeNumbersOf : List ℕ → List ℕ → Tables → Type 0
AreNoticeNumbersOf user numbers own = OfNotices user own (λ entries. numbers ≡ map (λ e. e.0) entries)

-- and the rows show them
abbrev pub AreNoticeNumberRows : List ℕ → List Row → Tables → Type 0
AreNoticeNumberRows user rows own = OfNotices user own (λ entries. rows ≡ map number_cells (map (λ e. e.0) entries))

-- the notice with the number, if there is one
abbrev pub notice_with : ℕ → List (ℕ × Notice) → Option Notice
notice_with n entries = option_map (λ e. e.1) (find (λ e. e.0 == n) entries)

-- it is the user's notice with the number, or there is none
abbrev pub IsNoticeOf : List ℕ → ℕ → Option Notice → Tables → Type 0
IsNoticeOf user n notice own = OfNotices user own (λ entries. notice ≡ notice_with n entries)

-- and the first row shows it, of a number as the database has it
abbrev pub HasNoticeRow : List ℕ → ℤ → List Row → Tables → Type 0
HasNoticeRow user id rows own = OfNotices user own (λ entries. (n : ℕ) → id ≡ pos n → slice_get rows 0 ≡ option_map notice_cells (notice_with n entries))

-- ---- the queue

-- the rows are the numbers of its first rows
abbrev pub AreFirstIdRows : List Row → Account → Type 0
AreFirstIdRows rows a = rows ≡ map number_cells (take max_waiting (map (λ out. out.id) a.queue))

-- ---- the queries

abbrev pub select_filings : List ℕ
select_filings = codes "SELECT folder, n, id, flags FROM copy WHERE owner = ?1 ORDER BY n"

abbrev pub select_reply_keys : List ℕ
select_reply_keys = codes "SELECT handle, sender FROM reply WHERE owner = ?1 ORDER BY handle, sender"

-- of the keys from one handle's on and before another's the first 32
abbrev pub select_keys_between : List ℕ
select_keys_between = codes "SELECT handle, sender FROM reply WHERE owner = ?1 AND handle >= ?2 AND handle < ?3 ORDER BY handle, sender LIMIT 32"

-- the numbers of the first rows of a queue
abbrev pub select_first_ids : List ℕ
select_first_ids = codes "SELECT id FROM outgoing WHERE owner = ?1 ORDER BY id LIMIT 1000"

abbrev pub select_notice_numbers : List ℕ
select_notice_numbers = codes "SELECT id FROM notice WHERE owner = ?1 ORDER BY id"

abbrev pub select_notice : List ℕ
select_notice = codes "SELECT moment, text FROM notice WHERE owner = ?1 AND id = ?2"
