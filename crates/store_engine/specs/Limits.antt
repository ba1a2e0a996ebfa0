-- The limits of the engine: users, addresses, sizes and moments.
use Rattle.std.specs.Prelude.{◌≡◌, ℕ, Bool, true, cond, not, ◌&&◌, ◌||◌, ◌==◌, nat_le, nat_lt, List, length, Option, Some, None}
use Rattle.std.specs.List.{list_all, list_any}
use Rattle.octets.specs.Ascii.{is_letter, is_digit}
use Rattle.mail_address.specs.declared.address.Addr.{Addr}
use Rattle.mail_address.specs.Outbound.{IsBareAddress}
use Rattle.store_accounts.specs.declared.refusal.Refusal.{Refusal}
use Rattle.store_accounts.specs.declared.refusal.Refusal.TheVariants.{TooLarge, BadEnvelope, BadMoment}
use Rattle.sieve_exec.specs.declared.envelope.Envelope.{Envelope}

-- ---- accounts

-- an octet of a user's name: a letter, a digit, or one of `. _ - @`
abbrev pub is_user_octet : ℕ → Bool
is_user_octet octet = is_letter octet || is_digit octet || octet == 46 || octet == 95 || octet == 45 || octet == 64

-- a user's name: 1 to 64 of these
abbrev pub is_user_name : List ℕ → Bool
is_user_name name = nat_le 1 (length name) && nat_le (length name) 64 && list_all is_user_octet name

-- a password: 1 to 1024 octets without NUL (RFC 4616, 2)
abbrev pub is_password : List ℕ → Bool
is_password password = nat_le 1 (length password) && nat_le (length password) 1024 && not (list_any (λ octet. octet == 0) password)

-- a user's own address: an addr-spec without display (RFC 5322, 3.4.1)
abbrev pub IsOwnAddress : List ℕ → Type 0
IsOwnAddress text = (address : Addr) × IsBareAddress text address

-- the name, address and password that a new account may have
pub record IsNewUser (name address password : List ℕ) : Type 0 where
  pub named : is_user_name name ≡ true
  pub addressed : IsOwnAddress address
  pub guarded : is_password password ≡ true

-- ---- deliveries

-- how many octets a message may have
abbrev pub message_limit : ℕ
message_limit = 33554432

-- an octet that no envelope address may have: NUL, LF, CR
abbrev pub is_forbidden_octet : ℕ → Bool
is_forbidden_octet octet = octet == 0 || octet == 10 || octet == 13

-- an envelope address that is accepted, including the null sender
abbrev pub is_envelope_address : List ℕ → Bool
is_envelope_address text = nat_le (length text) 1024 && not (list_any is_forbidden_octet text)

-- both addresses are accepted
abbrev pub is_envelope : Envelope → Bool
is_envelope envelope = is_envelope_address envelope.from && is_envelope_address envelope.to

-- the last second of the year 9999, in seconds since 1970-01-01 UTC
abbrev pub moment_limit : ℕ
moment_limit = 253402300799

-- why a delivery is refused before anything is looked up: the first cause in this order: TooLarge past 33,554,432 octets, BadEnvelope
-- past 1,024 octets or with NUL, LF or CR, BadMoment past 253402300799
abbrev pub limit_refusal : Envelope → List ℕ → ℕ → Option Refusal
limit_refusal envelope message moment =
    cond (nat_lt message_limit (length message)) (Some TooLarge)
    (cond (not (is_envelope envelope)) (Some BadEnvelope)
    (cond (nat_lt moment_limit moment) (Some BadMoment) None))
