-- Which connection makes room for another of its kind when all places are taken.
use Rattle.std.specs.Prelude.{◌≡◌, ℕ, ◌-◌, ◌==◌, ◌&&◌, nat_le, nat_lt, Bool, true, false, if◌then◌else◌, List, [], ◌∷◌, Option, Some, None, option_map}
use Rattle.std.specs.List.{Contains}
use Rattle.net_loop.specs.declared.machine.Claim.{Claim}
use Rattle.net_loop.specs.declared.service.Client.{Client}
use Rattle.net_loop.specs.declared.service.Service.{Service}
use Rattle.net_loop.specs.Rules.{Rules}
use Rattle.net_loop.specs.Talk.{waits, is_open_by, after_span, max_unsent}

-- ---- of all that claim, the first

-- a claim goes before another one: it is of a lower rank, or of the same with an earlier moment
abbrev pub goes_before : Claim → Claim → Bool
goes_before a b = if nat_lt a.rank b.rank then true else if nat_lt b.rank a.rank then false else nat_lt a.moment b.moment

-- of two, each with a claim, the one whose claim goes before the other's; of two that are alike the first
abbrev pub better : Option (ℕ × Claim) → ℕ → Option Claim → Option (ℕ × Claim)
better best id None = best
better None id (Some claim) = Some (id, claim)
better (Some best) id (Some claim) = if goes_before claim best.1 then Some (id, claim) else Some best

abbrev pub best_from : (Client → Option Claim) → Option (ℕ × Claim) → List (ℕ × Client) → Option (ℕ × Claim)
best_from claim best [] = best
best_from claim best (it ∷ entries) = best_from claim (better best it.1.id (claim it.1)) entries

abbrev pub best_number : Option (ℕ × Claim) → Option ℕ
best_number best = option_map (λ (it : ℕ × Claim). it.0) best

-- ---- who may go

-- something waits to be sent to it, of which it took nothing for this many milliseconds
abbrev pub min_deaf : ℕ
min_deaf = 1000

abbrev pub has_had_by : ℕ → ℕ → List ℕ → Bool
has_had_by now until [] = true
has_had_by now until (x ∷ more) = nat_le until (after_span now (max_unsent - min_deaf))

-- it is open, of that kind, and has received what was said to it, or doesn't take it
abbrev pub may_go : ℕ → ℕ → Client → Bool
may_go now kind c = is_open_by c.phase && ((c.kind == kind) && has_had_by now c.until (waits c))

abbrev pub claim_in : {M N R : Type 0} → Rules M N R → M → ℕ → ℕ → Client → Option Claim
claim_in rules m now kind c = if may_go now kind c then rules.claim m now c.id else None

-- the one that makes room for another of that kind: of those that may go the first that claims
abbrev pub makes_room : {M N R : Type 0} → Rules M N R → M → Service → ℕ → Option ℕ
makes_room rules m s kind = best_number (best_from (claim_in rules m s.moment kind) None s.clients.entries)

-- ---- the law of it

-- it may go and claims that, and no other claims what goes before that
pub record MakesRoom {M N R : Type 0} (rules : Rules M N R) (m : M) (s : Service) (kind id : ℕ) : Type 0 where
  pub at : ℕ
  pub client : Client
  pub is_there : Contains s.clients.entries (at, client)
  pub number : client.id ≡ id
  pub may : may_go s.moment kind client ≡ true
  pub claim : Claim
  pub claims : rules.claim m s.moment id ≡ Some claim
  pub first : (it : ℕ × Client) (other : Claim) → Contains s.clients.entries it → claim_in rules m s.moment kind it.1 ≡ Some other → goes_before other claim ≡ false

-- nobody that may go claims
abbrev pub NobodyGoes : {M N R : Type 0} → Rules M N R → M → Service → ℕ → Type 0
NobodyGoes rules m s kind = (it : ℕ × Client) → Contains s.clients.entries it → claim_in rules m s.moment kind it.1 ≡ None

abbrev pub RoomChoice : {M N R : Type 0} → Rules M N R → M → Service → ℕ → Option ℕ → Type 0
RoomChoice rules m s kind (Some id) = MakesRoom rules m s kind id
RoomChoice rules m s kind None = NobodyGoes rules m s kind

-- whatever machine, service and kind: the one that makes room is the first that claims; there is none if nobody that may go claims
abbrev pub FirstGoes : {M N R : Type 0} → Rules M N R → Type 0
FirstGoes {M = M} rules = (m : M) (s : Service) (kind : ℕ) → RoomChoice rules m s kind (makes_room rules m s kind)
