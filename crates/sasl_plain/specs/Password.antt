-- A password's digest under a salt.
use Rattle.std.specs.Prelude.{ℕ, zero, suc, List, ◌++◌}
use Rattle.sha2.specs.Sha256.{sha256}

-- the first is the hash of the salt and the password, and each round hashes the one before, the salt and the password
unfoldable pub digest_of : List ℕ → List ℕ → ℕ → List ℕ
digest_of salt password zero = sha256 (salt ++ password)
digest_of salt password (suc round) = sha256 (digest_of salt password round ++ salt ++ password)
