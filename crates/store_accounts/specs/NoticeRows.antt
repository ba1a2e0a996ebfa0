-- What rows show of a user's notices, and what is read of them.
use Rattle.std.specs.Prelude.{◌≡◌, ℕ, pos, List, [], ◌∷◌, map}
use Rattle.sqlite_value.specs.declared.value.Value.TheVariants.{Int, Blob}
use Rattle.sqlite_value.specs.Order.{Row}
use Rattle.store_tables.specs.NoticeTable.{notice_row_cells}
use Rattle.store_accounts.specs.declared.notice.Notice.{Notice}
use Rattle.store_accounts.specs.Account.{Account}
use Rattle.store_accounts.specs.Numbers.{AreNumbered}

-- what the query for the notices shows of one
abbrev pub notice_cells : Notice → Row
notice_cells notice = Int (pos notice.moment) ∷ Blob notice.text ∷ []

-- the rows are the notices, in the order of their numbers
abbrev pub AreNoticeRows : List Row → Account → Type 0
AreNoticeRows rows a = rows ≡ map notice_cells a.notices

-- the row of a number and a notice
abbrev pub notice_row : List ℕ → ℕ × Notice → Row
notice_row user entry = notice_row_cells user (pos entry.0) (pos entry.1.moment) entry.1.text

-- the rows are those of the user's notices, which are in the order of their numbers
pub record ShowsNotices (user : List ℕ) (rows : List Row) (notices : List Notice) (next : ℕ) : Type 0 where
  pub entries : List (ℕ × Notice)
  pub numbered : AreNumbered (λ e. e.0) (notice_row user) rows entries next
  pub shown : notices ≡ map (λ e. e.1) entries
