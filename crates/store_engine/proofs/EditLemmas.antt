-- Changes of a user's scripts beside their texts: what the names tell, what stays sound, and the write.
use Rattle.std.proofs.Common.{◌≡◌, ℕ, Bool, true, false, cond, List, Option, Some, None, Ok, Err, Result, IfErr, refl, sym, ◌∙◌, subst}
use Rattle.sqlite.specs.State.{State}
use Rattle.store_accounts.specs.declared.refusal.Refusal.{Refusal}
use Rattle.store_accounts.specs.Account.{Account}
use Rattle.store_accounts.specs.Promises.{WritesUser, WritesAccount}
use Rattle.store_accounts.specs.Refusals.{IsTransient}
use Rattle.store_engine.specs.ScriptEdits.{WritesFound}
use Rattle.store_engine.specs.declared.script_edit.ScriptObjection.{ScriptObjection}

-- ---- what stands against a change, by tests

-- nothing stands against it, so the first test passed
pub passed : (b : Bool) (o : Option ScriptObjection) (objection : ScriptObjection) → cond b o (Some objection) ≡ None → (b ≡ true) × (o ≡ None)
passed true o objection is = (refl, is)
passed false o objection is = absurd (let no = is in cc)

-- and the second one didn't
pub passed_by : (b : Bool) (objection : ScriptObjection) → cond b (Some objection) None ≡ None → b ≡ false
passed_by true objection is = absurd (let no = is in cc)
passed_by false objection is = refl

-- ---- the write

-- a write that never finds the account absent
pub found_written : (user : List ℕ) (change : Account → Account) (b c : State) (w : Result (Unit {0}) Refusal) → WritesUser user change b c w → WritesFound user change b c w
found_written user change b c w late = record { made = late.made; settled = late.settled; same = λ clean tables. late.same clean; crash = late.crash; named = late.named }

-- one that looks for it, whose refusal is reported as one without visible cause
pub found_ok : (user : List ℕ) (change : Account → Account) (b c : State) (w q : Result (Unit {0}) Refusal) → w ≡ Ok tt → q ≡ Ok tt → WritesAccount user change b c w → WritesFound user change b c q
found_ok user change b c w q was is late =
    let same : w ≡ q = was ∙ sym is in
    let it = subst (λ o. WritesAccount user change b c o) same late in
    record { made = it.made; settled = it.settled; same = it.same; crash = it.crash; named = subst (λ o. IfErr o IsTransient) (sym is) tt }

pub found_err : (user : List ℕ) (change : Account → Account) (b c : State) (w q : Result (Unit {0}) Refusal) (e f : Refusal) → w ≡ Err e → q ≡ Err f → IsTransient f → WritesAccount user change b c w → WritesFound user change b c q
found_err user change b c w q e f was is transient late =
    let it = subst (λ o. WritesAccount user change b c o) was late in
    subst (λ o. WritesFound user change b c o) (sym is)
    (record { made = λ clean. tt; settled = λ clean. tt; same = λ clean tables. it.same clean tables; crash = it.crash; named = transient })
