-- Messages of PLAIN at work: what the definition takes, and one beside it that it doesn't.
use Rattle.std.proofs.Common.{◌≡◌, ℕ, inl, inr, List, [], ◌∷◌, ◌++◌, refl, arith}
use Rattle.sha2.specs.Sha256.{sha256}
use Rattle.sasl_plain.specs.Login.{NoNul, IsMessage}
use Rattle.sasl_plain.specs.Password.{digest_of}
use Rattle.sasl_plain.proofs.Messages.{login_said}
use Rattle.sasl_plain.proofs.Rounds.{digest_of-zero, digest_of-more}

-- NUL `a` NUL `b` is user `a` with password `b`
message : IsMessage (0 ∷ 97 ∷ 0 ∷ 98 ∷ []) (97 ∷ []) (98 ∷ [])
message = record {
  authzid = [];
  same = inl refl;
  user_is_some = λ e. cc;
  user_without = ((λ e. omega (arith, e)), tt);
  password_is_some = λ e. cc;
  password_without = ((λ e. omega (arith, e)), tt);
  written = refl;
}

-- so is `a` NUL `a` NUL `b`, and `c` NUL `a` NUL `b` isn't
authzid : IsMessage (97 ∷ 0 ∷ 97 ∷ 0 ∷ 98 ∷ []) (97 ∷ []) (98 ∷ [])
authzid = record {
  authzid = 97 ∷ [];
  same = inr refl;
  user_is_some = λ e. cc;
  user_without = ((λ e. omega (arith, e)), tt);
  password_is_some = λ e. cc;
  password_without = ((λ e. omega (arith, e)), tt);
  written = refl;
}

not_authzid : (user password : List ℕ) → IsMessage (99 ∷ 0 ∷ 97 ∷ 0 ∷ 98 ∷ []) user password → ⊥
not_authzid user password h = let never = login_said (99 ∷ 0 ∷ 97 ∷ 0 ∷ 98 ∷ []) user password h in cc (never)

-- NUL `a` alone has no password, and none is empty
not_one : (user password : List ℕ) → IsMessage (0 ∷ 97 ∷ []) user password → ⊥
not_one user password h = let never = login_said (0 ∷ 97 ∷ []) user password h in cc (never)

not_empty : (user password : List ℕ) → IsMessage (0 ∷ 97 ∷ 0 ∷ []) user password → ⊥
not_empty user password h = let never = login_said (0 ∷ 97 ∷ 0 ∷ []) user password h in cc (never)

-- a NUL is no octet of a password
not_nul : NoNul (97 ∷ 0 ∷ []) → ⊥
not_nul h = h.1.0 refl

-- one round hashes the first digest, the salt and the password
one_round : (salt password : List ℕ) → digest_of salt password 1 ≡ sha256 (sha256 (salt ++ password) ++ salt ++ password)
one_round salt password = rw (digest_of-zero salt password) (digest_of-more salt password 0)
