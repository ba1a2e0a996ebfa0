-- What the rows say about a place.
use Rattle.std.specs.Prelude.{◌≡◌, ℕ, List, Result, Some, option_map}
use Rattle.std.specs.FinMap.{get}
use Rattle.sqlite.specs.Effect.{Database}
use Rattle.sqlite.specs.State.{State}
use Rattle.store_text.specs.declared.part.Part.{Part}
use Rattle.store_text.specs.declared.part.Part.TheVariants as part
use Rattle.store_tables.specs.Rows.{Tables}
use Rattle.store_accounts.specs.declared.refusal.Refusal.{Refusal}
use Rattle.store_accounts.specs.Account.{Account, row_with}
use Rattle.store_accounts.specs.Listing.{notice_with}
use Rattle.store_accounts.specs.Promises.{ReadsEntered}
use Rattle.store_accounts.specs.Shows.{HasMessageOctets, IsShown}
use Rattle.store_export.specs.declared.place.PartPlace.{PartPlace}
use Rattle.store_export.specs.declared.place.PartPlace.TheVariants as place
use Rattle.store_export.specs.Parts.{letter_part}
use Rattle.store_export.specs.Places.{OfShown}

-- this is the part at the place, in an account that these rows show
abbrev pub SaysPart : (user : List ℕ) (a : Account) (p : Part) → PartPlace → (own : Tables) → IsShown user own a → Type 0
SaysPart user a p (place.Script name) own s = Some p ≡ option_map (part.Script name) (get a.scripts name)
SaysPart user a p (place.Reply key) own s = Some p ≡ option_map (part.Reply key.handle key.sender) (get a.replies (key.handle, key.sender))
SaysPart user a p (place.Mail copy) own s = (octets : List ℕ) × HasMessageOctets user copy.id octets own × (p ≡ part.Mail copy.n copy.folder octets copy.flags)
SaysPart user a p (place.Copy copy first) own s = p ≡ part.Copy copy.n copy.folder first copy.flags
SaysPart user a p (place.Letter id) own s = Some p ≡ option_map letter_part (row_with id a.queue)
SaysPart user a p (place.Notice n) own s = Some p ≡ option_map (λ e. part.Notice n e.moment e.text) (notice_with n s.notices.entries)

-- the same for the rows of a database
abbrev pub SaysAt : List ℕ → PartPlace → Part → Database → Account → Type 0
SaysAt user place p db a = OfShown db user a (SaysPart user a p place)

-- the read of the part at a place, for an account that was entered
abbrev pub ReadsPlace : List ℕ → PartPlace → State → State → Result Part Refusal → Type 0
ReadsPlace user place old new r = ReadsEntered user (λ part a. SaysAt user place part old.now a) old new r
