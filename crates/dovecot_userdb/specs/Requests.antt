-- What is written to the server.
use Rattle.std.specs.Prelude.{◌≡◌, ℕ, ◌<◌, ◌≤◌, ◌^◌, List, [], ◌∷◌, ◌++◌, length, codes, decimal}
use Rattle.dovecot_userdb.specs.Escapes.{tab_escaped}
use Rattle.dovecot_userdb.specs.Lines.{HasNone, CutsLines}

-- `VERSION`, 1, 1: a client says so first
abbrev pub userdb_hello : List ℕ
userdb_hello = codes "VERSION" ++ 9 ∷ 49 ∷ 9 ∷ 49 ∷ 10 ∷ []

-- what follows the name
abbrev pub request_back : List ℕ
request_back = 9 ∷ codes "service=sieved"

-- `USER`, the request's number, the name, and the service that asks
abbrev pub request_text : ℕ → List ℕ → List ℕ
request_text id name = codes "USER" ++ 9 ∷ (decimal id ++ 9 ∷ (tab_escaped name ++ request_back))

-- with its LF
abbrev pub userdb_request : ℕ → List ℕ → List ℕ
userdb_request id name = request_text id name ++ 10 ∷ []

-- a name that can be asked for: Dovecot ends a name at a NUL, and the connection at a request of more than 1,024 octets
pub record IsAskable (name : List ℕ) : Type 0 where
  pub no_nul : HasNone 0 name
  pub short : length (tab_escaped name) ≤ 992

-- a request is one line, whatever the name has; it has at most 1,024 octets; and it tells number and name
pub record RequestsStand : Type 0 where
  pub one_line : (id : ℕ) (name : List ℕ) → id < 2 ^ 32 → CutsLines (userdb_request id name) (request_text id name ∷ []) []
  pub short : (id : ℕ) (name : List ℕ) → id < 2 ^ 32 → IsAskable name → length (userdb_request id name) ≤ 1024
  pub tells : (id other : ℕ) (name another : List ℕ) → id < 2 ^ 32 → other < 2 ^ 32 → userdb_request id name ≡ userdb_request other another → (id ≡ other) × (name ≡ another)
