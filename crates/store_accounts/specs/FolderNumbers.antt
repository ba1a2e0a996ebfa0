-- What rows show of a folder's numbers.
use Rattle.std.specs.Prelude.{◌≡◌, ℕ, pos, List, [], ◌∷◌, length, map}
use Rattle.sqlite_value.specs.declared.value.Value.TheVariants.{Int}
use Rattle.sqlite_value.specs.Order.{Row}
use Rattle.store_tables.specs.Rows.{Tables}
use Rattle.store_accounts.specs.Account.{Account, messages_in}
use Rattle.store_accounts.specs.CopyRows.{Copy, copies_in}
use Rattle.store_accounts.specs.Shows.{OfCopies}

-- the numbers of the copies in the folder, in the order of the copies
abbrev pub numbers_in : List ℕ → List Copy → List ℕ
numbers_in folder copies = map (λ c. c.n) (copies_in folder copies)

-- what the query for them shows of one
abbrev pub number_cells : ℕ → Row
number_cells n = Int (pos n) ∷ []

-- the rows are the numbers of the folder's copies that the user's rows show
abbrev pub AreNumberRows : List ℕ → List ℕ → List Row → Tables → Type 0
AreNumberRows user folder rows own = OfCopies user own (λ copies. rows ≡ map number_cells (numbers_in folder copies))

-- these are the numbers of the folder's copies that the user's rows show
abbrev pub AreNumbersOf : List ℕ → List ℕ → List ℕ → Tables → Type 0
AreNumbersOf user folder numbers own = OfCopies user own (λ copies. numbers ≡ numbers_in folder copies)

-- there are as many as the account's folder has messages
abbrev pub AreAsMany : List ℕ → List ℕ → Account → Type 0
AreAsMany folder numbers a = length numbers ≡ length (messages_in a.folders folder)
