-- What the keeper denied is denied, and what it gives was given at the path, and presents what it held, which was ours.
use Rattle.std.proofs.Common.{◌≡◌, ℕ, List, false, Option, Some, None, Result, Ok, Err, IfOk, OnOk, IsTrue, Bool, rules, subst, sym}
use Rattle.sqlite.specs.Effect.{Database}
use Rattle.sqlite.specs.Held.{state}
use Rattle.store_accounts.specs.Opening.{IsKnown}
use Rattle.store_accounts.specs.Shows.{OffersAccounts}
use Rattle.store_lock.specs.Taken.{IsStoreTaken}
use Rattle.cli_subcommands.specs.declared.location.StoreLocation.{StoreLocation}
use Rattle.cli_run.specs.Serving.{AreSeen, HasGiven, PresentsSeen}
use Rattle.cli_run.proofs.ServingLemmas.{busy_by, denied_by}
use Rattle.cli_run.proofs.session.open_store.Goals as goal

known_where : {X E : Type 0} (r : Result X E) (Tells Absent : Type 0) (Seen : X → Type 0) (seen held : Database) → (Tells → seen ≡ held) → ((x : X) → Seen x → IsKnown seen) → IfOk r (λ x. Tells → Seen x) → OnOk r (Tells → Absent → IsKnown held)
known_where (Ok x) Tells Absent Seen seen held same so taken = λ tells absent. subst IsKnown (same tells) (so x (taken tells))
known_where (Err e) Tells Absent Seen seen held same so taken = tt

-- where no store was open, the one that was given presents what was held
given_seen : {X E K : Type 0} (gives : K → List ℕ → Type 0) (waits : K → Bool) (keeper : K) (location : StoreLocation) → waits keeper ≡ location.waits → (sees : X → Database) (held seen : Database) (store : Option X) → store ≡ None → (Tells : Type 0) → (Tells → seen ≡ held) → (r : Result X E) → OnOk r (gives keeper location.path.now)
    → IfOk r (λ x. Tells → IsStoreTaken false seen (sees x)) → IfOk r (λ x. Tells → PresentsSeen (HasGiven gives waits location) (AreSeen (HasGiven gives waits location) sees held store) (sees x))
given_seen gives waits keeper location asked sees held seen store none Tells same (Ok x) given taken =
    λ tells accounts shown. ((keeper, given, asked), (taken tells).0.shown accounts (subst (λ db. OffersAccounts db accounts) (sym (same tells)) (subst (λ o. AreSeen (HasGiven gives waits location) sees held o accounts) none shown)))
given_seen gives waits keeper location asked sees held seen store none Tells same (Err e) given taken = tt

pub returns-in-Some-clause-opened : goal.returns-in-Some-clause-opened
returns-in-Some-clause-opened g c tells accounts shown =
    let was : c.args.store.now ≡ Some c.in-Some.opened = search rules in
    subst (λ o. AreSeen (HasGiven g.K.Keeper.gives g.K.Keeper.will_wait c.args.location) (λ s. (state g.K.S.Store s).now) (g.K.Keeper.holds c.args.keeper.now) o accounts) was shown

pub returns-in-None-clause-opened : goal.returns-in-None-clause-opened
returns-in-None-clause-opened g c =
    let none : c.args.store.now ≡ None = search rules in
    given_seen g.K.Keeper.gives g.K.Keeper.will_wait c.wait_for_lock.new.self c.args.location c.wait_for_lock.ensures.asked (λ s. (state g.K.S.Store s).now) (g.K.Keeper.holds c.args.keeper.now) (g.K.Keeper.holds c.wait_for_lock.new.self) c.args.store.now none (IsTrue g.K.Keeper.tells)
    c.wait_for_lock.ensures.same c.take-in-None.result c.take-in-None.ensures.given c.take-in-None.ensures.taken

pub returns-in-None-clause-denied : goal.returns-in-None-clause-denied
returns-in-None-clause-denied g c = denied_by g.K.Keeper.refuses g.K.Keeper.will_wait c.wait_for_lock.new.self c.args.location c.take-in-None.result c.take-in-None.ensures.denied c.wait_for_lock.ensures.asked

pub returns-in-None-clause-ours : goal.returns-in-None-clause-ours
returns-in-None-clause-ours g c =
    let held = g.K.Keeper.holds c.args.keeper.now in
    let seen = g.K.Keeper.holds c.wait_for_lock.new.self in
    known_where c.take-in-None.result (IsTrue g.K.Keeper.tells) (c.args.store.now ≡ None) (λ store. IsStoreTaken false seen (state g.K.S.Store store).now) seen held c.wait_for_lock.ensures.same (λ store taken. taken.2) c.take-in-None.ensures.taken

pub returns-in-None-clause-busy : goal.returns-in-None-clause-busy
returns-in-None-clause-busy g c is = busy_by g.K.Keeper.refuses g.K.Keeper.will_wait c.wait_for_lock.new.self c.args.location c.take-in-None.result c.take-in-None.ensures.denied c.wait_for_lock.ensures.asked is
