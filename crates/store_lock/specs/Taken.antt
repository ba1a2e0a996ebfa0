-- What a store that was taken sees.
use Rattle.std.specs.Prelude.{◌≡◌, ℕ, Bool, true, false, List}
use Rattle.sqlite.specs.Effect.{Database}
use Rattle.store_accounts.specs.Account.{no_accounts}
use Rattle.store_accounts.specs.Schema.{no_schema, mail_schema}
use Rattle.store_accounts.specs.Opening.{IsKnown}
use Rattle.store_lock.specs.declared.keeper.StoreUnavailable.{StoreUnavailable}
use Rattle.store_accounts.specs.Shows.{Presents, OpensAs}

-- one that was there sees what `open` makes of the tables that were held, which were ours, of either version, and sees them as they were if
-- they had our schema; a new one has no accounts, and no table was held
abbrev pub IsStoreTaken : Bool → Database → Database → Type 0
IsStoreTaken false held seen = OpensAs held seen × (held.schema ≡ mail_schema → seen ≡ held) × IsKnown held
IsStoreTaken true held seen = Presents seen no_accounts × (held.schema ≡ no_schema)

-- a keeper that waits for the lock, or doesn't, refused the store at this path so
abbrev pub DeniesStore : {K : Type 0} → (K → List ℕ → StoreUnavailable → Type 0) → (K → Bool) → List ℕ → Bool → StoreUnavailable → Type 0
DeniesStore refuses will_wait path waits denial = (keeper : _) × refuses keeper path denial × (will_wait keeper ≡ waits)

-- one that waits, or doesn't, gave it out at this path
abbrev pub GivesStore : {K : Type 0} → (K → List ℕ → Type 0) → (K → Bool) → List ℕ → Bool → Type 0
GivesStore gives will_wait path waits = (keeper : _) × gives keeper path × (will_wait keeper ≡ waits)
