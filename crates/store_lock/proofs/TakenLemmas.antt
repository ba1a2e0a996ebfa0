-- A store that was taken, from what is known of it in either case.
use Rattle.std.proofs.Common.{◌≡◌, Bool, true, false, Result, Ok, Err, IfOk, IsTrue, refl}
use Rattle.sqlite.specs.Effect.{Database}
use Rattle.store_accounts.specs.Account.{no_accounts}
use Rattle.store_accounts.specs.Schema.{no_schema, mail_schema}
use Rattle.store_accounts.specs.Shows.{Presents, OpensAs}
use Rattle.store_accounts.specs.Opening.{IsKnown}
use Rattle.store_lock.specs.Taken.{IsStoreTaken}

pub is_taken : (fresh : Bool) (held seen : Database) → (fresh ≡ false → OpensAs held seen) → (fresh ≡ false → held.schema ≡ mail_schema → seen ≡ held) → (fresh ≡ false → IsKnown held)
    → (IsTrue fresh → Presents seen no_accounts) → (IsTrue fresh → held.schema ≡ no_schema) → IsStoreTaken fresh held seen
is_taken false held seen opened same ours none blank = (opened refl, same refl, ours refl)
is_taken true held seen opened same ours none blank = (none refl, blank refl)

-- what is known of one that was there, whether or not it is asked for so
pub same_if : {X E : Type 0} (r : Result X E) (Clean Same : X → Type 0) (Indexed : Type 0) (fresh : Bool) → IfOk r (λ x. Clean x → Indexed → Same x) → IfOk r (λ x. Clean x → fresh ≡ false → Indexed → Same x)
same_if (Ok x) Clean Same Indexed fresh same = λ clean stale indexed. same clean indexed
same_if (Err e) Clean Same Indexed fresh same = tt

pub if_stale : {X E : Type 0} (r : Result X E) (Clean : X → Type 0) (Known : Type 0) (fresh : Bool) → IfOk r (λ x. Clean x → Known) → IfOk r (λ x. Clean x → fresh ≡ false → Known)
if_stale (Ok x) Clean Known fresh known = λ clean stale. known clean
if_stale (Err e) Clean Known fresh known = tt
