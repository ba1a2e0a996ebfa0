-- The places of the parts of an account.
use Rattle.std.specs.Prelude.{◌≡◌, ◌++◌, ℕ, Bool, true, false, List, [], ◌∷◌, map, Option, Result, Some, None, if◌then◌else◌}
use Rattle.std.specs.List.{list_any}
use Rattle.std.specs.FinMap.{keys}
use Rattle.sqlite.specs.Effect.{Database}
use Rattle.sqlite.specs.State.{State}
use Rattle.store_text.specs.Netstring.{same_text}
use Rattle.store_tables.specs.Rows.{Tables, HoldsTables}
use Rattle.store_tables.specs.Schema.{mail_schema}
use Rattle.store_accounts.specs.declared.filing.Filing.{Filing}
use Rattle.store_accounts.specs.declared.notice.Notice.{Notice as KeptNotice}
use Rattle.store_accounts.specs.declared.refusal.Refusal.{Refusal}
use Rattle.store_accounts.specs.Account.{Account}
use Rattle.store_accounts.specs.CopyRows.{Copy as KeptCopy, filing_of}
use Rattle.store_accounts.specs.Promises.{ReadsEntered}
use Rattle.store_accounts.specs.ReplyRows.{reply_key_of}
use Rattle.store_accounts.specs.Shows.{rows_of, IsShown}
use Rattle.store_export.specs.declared.place.PartPlace.{PartPlace}
use Rattle.store_export.specs.declared.place.PartPlace.TheVariants as place
use Rattle.store_export.specs.declared.run.Run.{Run}
use Rattle.store_export.specs.Parts.{first_in, continues_run, run_with}

-- whatever rows of our tables the database has, if the user's show the account, this holds of them
abbrev pub OfShown : Database → (user : List ℕ) (a : Account) → ((own : Tables) → IsShown user own a → Type 0) → Type 0
OfShown db user a P = (tables : Tables) → HoldsTables mail_schema db tables → (s : IsShown user (rows_of user tables) a) → P (rows_of user tables) s

-- ---- the places

abbrev pub copy_place : Option Run → Filing → PartPlace
copy_place run f = if continues_run run f.id then place.Copy f (first_in run f.n f.id) else place.Mail f

abbrev pub copy_places : Option Run → List Filing → List PartPlace
copy_places run [] = []
copy_places run (f ∷ filings) = copy_place run f ∷ copy_places (Some (run_with run f.n f.id)) filings

abbrev pub script_places : Account → List PartPlace
script_places a = map place.Script (keys a.scripts)

abbrev pub reply_places : Account → List PartPlace
reply_places a = map place.Reply (map reply_key_of (keys a.replies))

abbrev pub letter_places : Account → List PartPlace
letter_places a = map (λ out. place.Letter out.id) a.queue

-- each part of the account has its place, in the same order
abbrev pub part_places : Account → List KeptCopy → List (ℕ × KeptNotice) → List PartPlace
part_places a copies notices =
    script_places a ++ (reply_places a ++ (copy_places None (map filing_of copies) ++ (letter_places a ++ map place.Notice (map (λ e. e.0) notices))))

-- ---- what is read of them

abbrev pub ArePlaces : List ℕ → List PartPlace → Database → Account → Type 0
ArePlaces user places db a = OfShown db user a (λ own s. places ≡ part_places a s.copies.entries s.notices.entries)

-- the places of the copies join the others
abbrev pub AreCopyPlaces : List ℕ → List PartPlace → List PartPlace → Database → Account → Type 0
AreCopyPlaces user old new db a = OfShown db user a (λ own s. new ≡ old ++ copy_places None (map filing_of s.copies.entries))

-- and those of the notices
abbrev pub AreNoticePlaces : List ℕ → List PartPlace → List PartPlace → Database → Account → Type 0
AreNoticePlaces user old new db a = OfShown db user a (λ own s. new ≡ old ++ map place.Notice (map (λ e. e.0) s.notices.entries))

-- ---- the promises of the calls, for an account that was entered and that the state before shows

-- the read of all places
abbrev pub ListsPlaces : List ℕ → State → State → Result (List PartPlace) Refusal → Type 0
ListsPlaces user old new r = ReadsEntered user (λ places a. ArePlaces user places old.now a) old new r

-- the read of the copies, whose places are appended to the others
abbrev pub JoinsCopies : List ℕ → List PartPlace → List PartPlace → State → State → Result (Unit {0}) Refusal → Type 0
JoinsCopies user before after old new r = ReadsEntered user (λ _ a. AreCopyPlaces user before after old.now a) old new r

-- and that of the notices
abbrev pub JoinsNotices : List ℕ → List PartPlace → List PartPlace → State → State → Result (Unit {0}) Refusal → Type 0
JoinsNotices user before after old new r = ReadsEntered user (λ _ a. AreNoticePlaces user before after old.now a) old new r

-- ---- the active script

-- the place is that of the script with the name
abbrev pub is_script_place : List ℕ → PartPlace → Bool
is_script_place name (place.Script other) = same_text name other
is_script_place name other = false

-- the active script, if there is one, has a place
abbrev pub has_active_place : Option (List ℕ) → List PartPlace → Bool
has_active_place None places = true
has_active_place (Some name) places = list_any (is_script_place name) places
