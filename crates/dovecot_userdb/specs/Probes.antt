-- Whether a userdb can be believed: it is asked for a name that nobody has.
use Rattle.std.specs.Prelude.{◌≡◌, ℕ, ◌+◌, ◌*◌, ◌/◌, ◌%◌, ◌<◌, ◌≤◌, List, [], ◌∷◌, length, All}
use Rattle.std.specs.List.{flat_map}
use Rattle.dovecot_userdb.specs.declared.answer.UserdbAnswer.{UserdbAnswer}
use Rattle.dovecot_userdb.specs.declared.answer.UserdbAnswer.TheVariants.{Found, NotFound, Failed}
use Rattle.dovecot_userdb.specs.declared.probe.UserdbTrust.{UserdbTrust}
use Rattle.dovecot_userdb.specs.declared.probe.UserdbTrust.TheVariants.{Believed, FindsAnybody, Unknown}

-- a userdb that finds nobody's name finds anybody's
abbrev pub trust_by : UserdbAnswer → UserdbTrust
trust_by (Found name) = FindsAnybody
trust_by NotFound = Believed
trust_by Failed = Unknown

-- the letter of a number below 16: `a` to `p`
abbrev pub probe_letter : ℕ → ℕ
probe_letter number = 97 + number

-- two letters for each octet
abbrev pub probe_pair : ℕ → List ℕ
probe_pair octet = probe_letter (octet / 16) ∷ probe_letter (octet % 16) ∷ []

abbrev pub probe_letters : List ℕ → List ℕ
probe_letters octets = flat_map probe_pair octets

-- letters from `a` to `p`, two for each octet; and no two texts of octets make the same ones
pub record ProbesStand : Type 0 where
  pub letters : (octets : List ℕ) → All (λ octet. octet < 256) octets → All (λ letter. (97 ≤ letter) × (letter < 113)) (probe_letters octets)
  pub length_of : (octets : List ℕ) → length (probe_letters octets) ≡ 2 * length octets
  pub one_to_one : (a b : List ℕ) → probe_letters a ≡ probe_letters b → a ≡ b
