-- The parts of a message of PLAIN, from its start.
use Rattle.std.specs.Prelude.{ℕ, zero, suc, ◌&&◌, ◌||◌, not, cond, ◌==◌, nat_eq, nat_lt, ◌+◌, List, [], ◌∷◌, length, take, drop, Option, Some, None, Result, Ok, Err}
use Rattle.std.specs.Cmp.Lexicographic.{pointwise}
use Rattle.std.specs.Borrow.{Bor}
use Rattle.base64.specs.Engines.{standard}
use Rattle.base64.specs.GeneralPurpose.{decode_of}
use Rattle.base64.specs.declared.decode.DecodeError.{DecodeError}
use Rattle.sasl_plain.specs.declared.message.Login.{Login}

-- two texts
abbrev pub TextPair : Type 0
TextPair = Option (List ℕ × List ℕ)

-- how many octets come before the first NUL
abbrev pub nul_place : List ℕ → ℕ
nul_place [] = zero
nul_place (octet ∷ rest) = cond (octet == 0) zero (suc (nul_place rest))

-- what comes before the first NUL and what comes after it
abbrev pub cut_in : List ℕ → TextPair
cut_in text = cond (nul_place text == length text) None (Some (take (nul_place text) text, drop (nul_place text + 1) text))

-- user and password after the authzid
abbrev pub checked : List ℕ → TextPair → TextPair
checked authzid None = None
checked authzid (Some parts) =
    cond (length parts.0 == 0 || length parts.1 == 0 || nat_lt (nul_place parts.1) (length parts.1)) None
    (cond (not (length authzid == 0) && not (pointwise nat_eq authzid parts.0)) None (Some parts))

abbrev pub cut_twice : TextPair → TextPair
cut_twice None = None
cut_twice (Some parts) = checked parts.0 (cut_in parts.1)

-- user and password of a message
abbrev pub login_in : List ℕ → TextPair
login_in message = cut_twice (cut_in message)

abbrev pub decoded_in : Result (List ℕ) DecodeError → TextPair
decoded_in (Ok message) = login_in message
decoded_in (Err fault) = None

-- user and password of a text in base64
abbrev pub login_of : List ℕ → TextPair
login_of text = decoded_in (decode_of standard text)

-- ---- the results of the code, as values

abbrev pub login_shown : Option Login → TextPair
login_shown None = None
login_shown (Some login) = Some (login.user, login.password)

abbrev pub message_cuts : Option (Bor (List ℕ) × Bor (List ℕ)) → TextPair
message_cuts None = None
message_cuts (Some parts) = Some (parts.0.now, parts.1.now)
