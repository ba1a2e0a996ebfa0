-- Nobody is logged in at a connection that claims to go; how many of LMTP haven't said LHLO.
use Rattle.std.proofs.Common.{◌≡◌, ◌∙◌, ℕ, ◌+◌, ◌-◌, Bool, true, false, Option, Some, None, List, [], ◌∷◌, is_some, refl, if◌then◌else◌, arith}
use Rattle.managesieve_sessions.specs.Clients.{Client}
use Rattle.lmtp_connections.specs.declared.connection.LmtpConnection.{LmtpConnection}
use Rattle.net_loop.specs.declared.machine.Claim.{Claim}
use Rattle.daemon_core.specs.ClientStates.{has_login}
use Rattle.lmtp_connections.specs.Stands.{has_said_hello}
use Rattle.daemon_core.specs.Eviction.{waits_claim, unauthenticated_claim, silent_by, silent_in, claim_by_kind}
use Rattle.daemon_core.specs.declared.client_state.ClientState.{ClientState}

no_user : (test : Bool) (o : Option Claim) (its : Claim) → (if test then None else o) ≡ Some its → test ≡ false
no_user true o its is = let never : ◌≡◌ {A = Option Claim} None (Some its) = is in cc
no_user false o its is = refl

no_unauthenticated : (now : ℕ) (state : Option ClientState) (o : Option Client) (its : Claim) → unauthenticated_claim now state o ≡ Some its → has_login o ≡ false
no_unauthenticated now None None its is = refl
no_unauthenticated now (Some state) None its is = refl
no_unauthenticated now None (Some c) its is = let never : ◌≡◌ {A = Option Claim} None (Some its) = is in cc
no_unauthenticated now (Some state) (Some c) its is = no_user (is_some c.user) (waits_claim now state.waits state c) its is

pub no_user_goes : (now : ℕ) (flooded : Bool) (connection : Option LmtpConnection) (state : Option ClientState) (o : Option Client) (its : Claim) → claim_by_kind now flooded connection state o ≡ Some its → has_login o ≡ false
no_user_goes now flooded None state o its is = no_unauthenticated now state o its is
no_user_goes now flooded (Some connection) state o its is = no_user (has_login o) _ its is

abbrev pub less_silent : ℕ → List (ℕ × LmtpConnection) → ℕ
less_silent left [] = left
less_silent left (it ∷ entries) = less_silent (left - silent_by (has_said_hello it.1)) entries

two_off : (left one more : ℕ) → left - one - more ≡ left - (one + more)
two_off left one more = omega arith

pub all_silent : (left : ℕ) (entries : List (ℕ × LmtpConnection)) → less_silent left entries ≡ left - silent_in entries
all_silent left [] = omega arith
all_silent left (it ∷ entries) = all_silent (left - silent_by (has_said_hello it.1)) entries ∙ two_off left (silent_by (has_said_hello it.1)) (silent_in entries)
