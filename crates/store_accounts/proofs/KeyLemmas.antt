-- Keys that begin with an owner.
use Rattle.std.proofs.Common.{◌≡◌, ◌≢◌, ℕ, true, false, List, ◌∷◌, refl}
use Rattle.std.proofs.lemmas.Bool.{and_parts, and_from}
use Rattle.sqlite_value.specs.declared.value.Value.TheVariants.{Blob}
use Rattle.sqlite_value.specs.Order.{Row}
use Rattle.store_tables.specs.Rows.{has_key}
use Rattle.store_tables.proofs.ListLemmas.{owner_key, owners_apart}

-- a row with such a key is its owner's
pub key_owned : (a : List ℕ) (more cells : Row) → has_key (Blob a ∷ more) cells ≡ true → has_key (owner_key a) cells ≡ true
key_owned a more cells h = and_from _ _ (and_parts _ _ h).0 refl

-- and no other's
pub key_apart : (a c : List ℕ) (more : Row) → a ≢ c → (cells : Row) → has_key (Blob c ∷ more) cells ≡ true → has_key (owner_key a) cells ≡ false
key_apart a c more differ cells h = owners_apart a c differ cells (key_owned c more cells h)
