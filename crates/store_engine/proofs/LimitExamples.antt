-- What is taken, at each limit and one past it.
use Rattle.std.proofs.Common.{◌≡◌, ℕ, true, false, List, [], ◌∷◌, codes, length, Some, None, refl}
use Rattle.std.specs.Prelude.{replicate}
use Rattle.sieve_exec.specs.declared.envelope.Envelope.{Envelope}
use Rattle.store_accounts.specs.declared.refusal.Refusal.TheVariants.{TooLarge, BadEnvelope, BadMoment}
use Rattle.store_engine.specs.Limits.{is_user_name, is_password, is_envelope_address, is_envelope, limit_refusal}

-- ---- users

name_length : (is_user_name (replicate 64 97) ≡ true) × (is_user_name (replicate 65 97) ≡ false) × (is_user_name [] ≡ false)
name_length = (refl, refl, refl)

-- all the marks of a name; a blank is none of them
name_marks : (is_user_name (codes "A.b_c-d@9") ≡ true) × (is_user_name (codes "a b") ≡ false)
name_marks = (refl, refl)

password_length : (is_password (replicate 1024 97) ≡ true) × (is_password (replicate 1025 97) ≡ false) × (is_password [] ≡ false)
password_length = (refl, refl, refl)

-- each octet but NUL (RFC 4616, 2)
password_octets : (is_password (1 ∷ 255 ∷ []) ≡ true) × (is_password (1 ∷ 0 ∷ []) ≡ false)
password_octets = (refl, refl)

-- ---- deliveries

abbrev envelope : Envelope
envelope = record { from = codes "bob@example.net"; to = codes "alice@example.org" }

-- the null sender is taken (RFC 5321, 4.5.5)
null_sender : is_envelope (record envelope { from = [] }) ≡ true
null_sender = refl

address_length : (is_envelope_address (replicate 1024 97) ≡ true) × (is_envelope_address (replicate 1025 97) ≡ false)
address_length = (refl, refl)

-- a TAB may stand in it, a line end may not
address_octets : (is_envelope_address (97 ∷ 9 ∷ []) ≡ true) × (is_envelope_address (97 ∷ 10 ∷ []) ≡ false)
address_octets = (refl, refl)

largest_message : (message : List ℕ) → length message ≡ 33554432 → limit_refusal envelope message 0 ≡ None
largest_message message is = rw is refl

too_large_message : (message : List ℕ) → length message ≡ 33554433 → limit_refusal envelope message 0 ≡ Some TooLarge
too_large_message message is = rw is refl

-- the last second of the year 9999, and the next
last_moment : (limit_refusal envelope [] 253402300799 ≡ None) × (limit_refusal envelope [] 253402300800 ≡ Some BadMoment)
last_moment = (refl, refl)

-- of two causes the first is told
first_cause : limit_refusal (record envelope { to = 10 ∷ [] }) [] 253402300800 ≡ Some BadEnvelope
first_cause = refl
