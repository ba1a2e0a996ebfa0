-- What is listed of all users: the lines of each account, in the order of the octets of the names.
use Rattle.std.specs.Prelude.{◌≡◌, ℕ, List, [], ◌++◌, codes, map, cond, Option, Some, None}
use Rattle.std.specs.FinMap.{entries, get}
use Rattle.std.specs.List.{flat_map}
use Rattle.store_accounts.specs.Account.{Account, Accounts, is_closed_account}
use Rattle.store_accounts.specs.HeadRows.{queued_envelope}
use Rattle.store_accounts.specs.Users.{IsNextUser}
use Rattle.cli_reports.specs.Listings.{notice_line, queue_line}
use Rattle.cli_reports.specs.Reports.{ended_line}

-- how an account is listed, by its name
abbrev pub AccountListing : Type 0
AccountListing = List ℕ → Account → List ℕ

-- the lines of all accounts
abbrev pub listing_of : AccountListing → List (List ℕ × Account) → List ℕ
listing_of lines users = flat_map (λ user. lines user.0 user.1) users

-- the lines of the user with the name, if there is an account
abbrev pub lines_at : AccountListing → List ℕ → Option Account → List ℕ
lines_at lines name None = []
lines_at lines name (Some a) = lines name a

-- the lines of the user with the name are appended to the text, and the next user is this one
pub record AddsLines (lines : AccountListing) (name old new : List ℕ) (next : Option (List ℕ)) (accounts : Accounts) : Type 0 where
  pub added : new ≡ old ++ lines_at lines name (get accounts name)
  pub follows : IsNextUser name next accounts

-- ---- `queue --all` and `notices --all`

-- a line behind the user's name, of which no octet is a space
abbrev pub named_line : List ℕ → List ℕ → List ℕ
named_line name line = name ++ (codes " " ++ line)

-- the lines, each behind the user's name
abbrev pub named_lines : List ℕ → List (List ℕ) → List ℕ
named_lines name lines = flat_map (λ line. ended_line (named_line name line)) lines

-- what is on its way out of an account; of a closed one nothing is listed
abbrev pub named_queue : AccountListing
named_queue name a = cond (is_closed_account a) [] (named_lines name (map queue_line (map queued_envelope a.queue)))

-- what went wrong in an account's deliveries; of a closed one nothing is listed
abbrev pub named_notices : AccountListing
named_notices name a = cond (is_closed_account a) [] (named_lines name (map notice_line a.notices))
