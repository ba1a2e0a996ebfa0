-- A digest and the one a round later.
use Rattle.std.proofs.Common.{◌≡◌, ℕ, suc, ◌+◌, List, ◌++◌, refl, ap, ◌∙◌, arith}
use Rattle.sha2.specs.Sha256.{sha256}
use Rattle.sasl_plain.specs.Password.{digest_of}

pub digest_of-zero : (salt password : List ℕ) → sha256 (salt ++ password) ≡ digest_of salt password 0
unfolding digest_of
digest_of-zero salt password = refl

digest_of-suc : (salt password : List ℕ) (n : ℕ) → digest_of salt password (suc n) ≡ sha256 (digest_of salt password n ++ salt ++ password)
unfolding digest_of
digest_of-suc salt password n = refl

pub digest_of-more : (salt password : List ℕ) (n : ℕ) → digest_of salt password (n + 1) ≡ sha256 (digest_of salt password n ++ salt ++ password)
digest_of-more salt password n = let next : n + 1 ≡ suc n = omega arith in ap (digest_of salt password) next ∙ digest_of-suc salt password n
