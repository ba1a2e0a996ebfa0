-- The message of PLAIN (RFC 4616, section 2).
use Rattle.std.specs.Prelude.{◌≡◌, ◌≢◌, ℕ, ◌⊎◌, List, [], ◌∷◌, ◌++◌, Option, Some, None}
use Rattle.sasl_plain.specs.declared.message.Login.{Login}
use Rattle.base64.specs.Engines.{standard}
use Rattle.base64.specs.GeneralPurpose.{IsBytes, encode_of}

-- no octet is NUL
abbrev pub NoNul : List ℕ → Type 0
NoNul [] = Unit {0}
NoNul (octet ∷ rest) = (octet ≢ 0) × NoNul rest

-- `[authzid] NUL authcid NUL passwd`: the user is the authcid, and an authzid, if there is one, is the same
pub record IsMessage (message user password : List ℕ) : Type 0 where
  pub authzid : List ℕ
  pub same : (authzid ≡ []) ⊎ (authzid ≡ user)
  pub user_is_some : user ≢ []
  pub user_without : NoNul user
  pub password_is_some : password ≢ []
  pub password_without : NoNul password
  pub written : message ≡ authzid ++ 0 ∷ (user ++ 0 ∷ password)

-- the text is the message in base64
pub record IsLogin (text user password : List ℕ) : Type 0 where
  pub message : List ℕ
  pub octets : IsBytes message
  pub encoded : text ≡ encode_of standard message
  pub said : IsMessage message user password

-- the login in a text; `None` if it has none
abbrev pub FindsLogin : List ℕ → Option Login → Type 0
FindsLogin text None = (user password : List ℕ) → IsLogin text user password → ⊥
FindsLogin text (Some login) = IsLogin text login.user login.password
