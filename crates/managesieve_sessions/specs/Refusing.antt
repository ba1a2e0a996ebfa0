-- That a step was refused.
use Rattle.store_accounts.specs.declared.refusal.Refusal.{Refusal}
use Rattle.managesieve_sessions.specs.Clients.{Client}
use Rattle.managesieve_sessions.specs.Orders.{MayRefuse}

-- a step of this client was refused, as it may be. The definition is opaque, and only the refusals of `step_free` and `step_asked` say it: so
-- whoever can say it asked for a step, and was refused
pub WasRefused : Client → Type 0
WasRefused c = (refusal : Refusal) × MayRefuse c refusal

-- for the proofs of these two calls alone
pub was_refused : (c : Client) (refusal : Refusal) → MayRefuse c refusal → WasRefused c
unfolding WasRefused
was_refused c refusal may = (refusal, may)

-- the refusal is one that a step may have
pub may_refuse : (c : Client) → WasRefused c → (refusal : Refusal) × MayRefuse c refusal
unfolding WasRefused
may_refuse c was = was
