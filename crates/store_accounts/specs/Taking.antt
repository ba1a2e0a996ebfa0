-- How a folder's first messages leave it: which copies those are, and how the row changes that take them out change the tables.
use Rattle.std.specs.Prelude.{◌≡◌, ◌++◌, ◌+◌, ◌==◌, ◌&&◌, ℕ, pos, Bool, true, false, not, Result, IfOk, List, [], ◌∷◌, filter, fold, take}
use Rattle.std.specs.List.{list_any}
use Rattle.sqlite.specs.State.{State, HasCleanDisk}
use Rattle.store_tables.specs.Rows.{Tables}
use Rattle.store_tables.specs.declared.change.Change.{Change}
use Rattle.store_tables.specs.Changes.{AreOf, message_removed, copy_removed, made}
use Rattle.store_accounts.specs.declared.filing.Filing.{Filing}
use Rattle.store_accounts.specs.declared.taking.Leaving.{Leaving}
use Rattle.store_accounts.specs.CopyRows.{Copy, copies_in, filing_of, is_other_copy, leaving_of}
use Rattle.store_accounts.specs.Promises.{FindsAmong, KeepsSeen, OverTables}
use Rattle.store_accounts.specs.Shows.{OfCopies, rows_of}

-- ---- which copies they are

-- the one has the numbers of the other, its own and its message's
abbrev pub is_filing_of : Filing → Filing → Bool
is_filing_of f g = g.n == f.n && g.id == f.id

-- the copy is none of those that leave
abbrev pub stays_behind : List Leaving → Copy → Bool
stays_behind gone c = not (list_any (λ l. is_filing_of (filing_of c) l.copy) gone)

-- the copies without those that leave
abbrev pub left_behind : List Leaving → List Copy → List Copy
left_behind gone copies = filter (stays_behind gone) copies

-- these copies as they leave in turn, after those that are gone: each with whether another one of its message is left then
abbrev pub leaving_in_turn : List Copy → List Leaving → List Copy → List Leaving
leaving_in_turn copies gone [] = []
leaving_in_turn copies gone (c ∷ more) =
    let one = leaving_of (left_behind gone copies) c in
    one ∷ leaving_in_turn copies (gone ++ one ∷ []) more

-- the first copies of the folder that the user's rows show, up to that many, as they leave in turn
abbrev pub AreLeaving : List ℕ → List ℕ → ℕ → List Leaving → Tables → Type 0
AreLeaving user folder count leaving own = OfCopies user own (λ copies. leaving ≡ leaving_in_turn copies [] (take count (copies_in folder copies)))

-- it is another copy of the same message, and none of those that leave
abbrev pub is_other_beside : Filing → List Leaving → Filing → Bool
is_other_beside f gone g = g.id == f.id && not (g.n == f.n) && not (list_any (λ l. is_filing_of g l.copy) gone)

-- whether the user's rows show another copy of the same message beside those that leave
abbrev pub IsSharedBeside : List ℕ → Filing → List Leaving → Bool → Tables → Type 0
IsSharedBeside user f gone shared own = OfCopies user own (λ copies. shared ≡ list_any (is_other_copy f) (left_behind gone copies))

-- queries for one user in order, maybe none: this holds of what they find and of all rows that the user has
pub record SeesAmong {X E : Type 0} (user : List ℕ) (Part : X → Tables → Type 0) (old new : State) (result : Result X E) : Type 0 where
  pub found : HasCleanDisk new → OverTables old (λ tables. IfOk result (λ x. Part x (rows_of user tables)))
  pub keeps : KeepsSeen old new result

-- a read after which, where these were the folder's first up to that many, those are up to one more
abbrev pub PushesLeaving : {X E : Type 0} → List ℕ → List ℕ → ℕ → List Leaving → List Leaving → State → State → Result X E → Type 0
PushesLeaving user folder at before after = FindsAmong user (λ done own. AreLeaving user folder at before own → AreLeaving user folder (at + 1) after own)

-- ---- how the changes that take them out change the tables

-- a message is removed with the last of its copies
abbrev pub message_left : List ℕ → Filing → Bool → Tables → Tables
message_left user f true own = own
message_left user f false own = message_removed user (pos f.id) own

-- what the user's rows become: the copy is removed from the folder, and its message if no other copy has it
abbrev pub copy_taken : List ℕ → List ℕ → Leaving → Tables → Tables
copy_taken user folder l own = message_left user l.copy l.is_shared (copy_removed user folder (pos l.copy.n) own)

-- the same of each, one after the other
abbrev pub copies_taken : List ℕ → List ℕ → List Leaving → Tables → Tables
copies_taken user folder leaving own = fold (λ left l. copy_taken user folder l left) own leaving

-- the changes that take the copies out of the user's folder
pub record AreTaking (user folder : List ℕ) (leaving : List Leaving) (changes : List Change) : Type 0 where
  pub owned : AreOf user changes
  pub makes : (own : Tables) → made own changes ≡ copies_taken user folder leaving own
