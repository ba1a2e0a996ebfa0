use Rattle.std.proofs.Common.{◌≡◌, ℕ, List, [], OnOk, IfErr, rules}
use Rattle.sqlite.specs.Held.{state}
use Rattle.sqlite.specs.Effect.{Database}
use Rattle.store_tables.specs.Rows.{Tables, HoldsTables}
use Rattle.store_tables.specs.Schema.{mail_schema}
use Rattle.store_accounts.specs.declared.account.Counters.{Counters}
use Rattle.store_accounts.specs.declared.profile.Profile.{Profile}
use Rattle.store_accounts.specs.Account.{Account}
use Rattle.store_accounts.specs.AccountRows.{profile_of}
use Rattle.store_accounts.specs.Listing.{AreCountersOf}
use Rattle.store_accounts.specs.Refusals.{IsTransient}
use Rattle.store_accounts.specs.Shows.{rows_of}
use Rattle.store_accounts.proofs.EnterLemmas.{entered_again}
use Rattle.store_accounts.proofs.KeepLemmas.{none_if}
use Rattle.store_export.specs.declared.contents.Contents.{Contents}
use Rattle.store_export.specs.declared.place.PartPlace.{PartPlace}
use Rattle.store_export.specs.Places.{ArePlaces}
use Rattle.store_export.specs.Reading.{AreRead}
use Rattle.store_export.proofs.KeptLemmas.{Both, among_entered, learned, learned_answer, learned_failed, learned_then}
use Rattle.store_export.proofs.ListingLemmas.{begins_read}
use Rattle.store_export.proofs.contents.list_of.Goals as goal

abbrev Counted : List ℕ → Counters → Database → Account → Type 0
Counted user c db account = (tables : Tables) → HoldsTables mail_schema db tables → AreCountersOf c (rows_of user tables)

abbrev Placed : List ℕ → List PartPlace → Database → Account → Type 0
Placed user places db account = ArePlaces user places db account

abbrev Begins : Profile → Database → Contents → Account → Type 0
Begins profile db contents account = profile ≡ profile_of account → AreRead contents [] db account

pub returns-in_err-counters-clause-reads : goal.returns-in_err-counters-clause-reads
returns-in_err-counters-clause-reads g c =
    let user = c.args.user.now in
    let a = state g.S.Store c.args.store.now in
    let b = state g.S.Store c.counters_of.new.self in
    let none : OnOk c.from_residual.result ⊥ = search rules in
    let transient : IfErr c.from_residual.result IsTransient = search rules in
    entered_again user (λ counters account. Counted user counters a.now account) (Begins c.args.profile a.now) a b c.counters_of.result (among_entered user AreCountersOf a b c.counters_of.result c.counters_of.ensures.named c.counters_of.ensures.finds)
    c.from_residual.result none transient

pub returns-in_err-places-clause-reads : goal.returns-in_err-places-clause-reads
returns-in_err-places-clause-reads g c =
    let user = c.args.user.now in
    let a = state g.S.Store c.args.store.now in
    let b = state g.S.Store c.counters_of.new.self in
    let d = state g.S.Store c.list_places.new.store in
    let none : OnOk c.from_residual-in_err-places.result ⊥ = search rules in
    let transient : IfErr c.from_residual-in_err-places.result IsTransient = search rules in
    let one = learned user (Counted user) a b c.counters_of.result c.in_ok-counters.counters c.in_ok-counters.was (among_entered user AreCountersOf a b c.counters_of.result c.counters_of.ensures.named c.counters_of.ensures.finds) in
    learned_failed user (Counted user c.in_ok-counters.counters) (Placed user) a b d one c.list_places.result c.list_places.ensures (Begins c.args.profile a.now) c.from_residual-in_err-places.result none transient

pub returns-in_err-head-clause-reads : goal.returns-in_err-head-clause-reads
returns-in_err-head-clause-reads g c =
    let user = c.args.user.now in
    let a = state g.S.Store c.args.store.now in
    let b = state g.S.Store c.counters_of.new.self in
    let d = state g.S.Store c.list_places.new.store in
    let none : OnOk c.from_residual-in_err-head.result ⊥ = search rules in
    let transient : IfErr c.from_residual-in_err-head.result IsTransient = search rules in
    let one = learned user (Counted user) a b c.counters_of.result c.in_ok-counters.counters c.in_ok-counters.was (among_entered user AreCountersOf a b c.counters_of.result c.counters_of.ensures.named c.counters_of.ensures.finds) in
    let two = learned_then user (Counted user c.in_ok-counters.counters) (Placed user) a b d one c.list_places.result c.list_places.ensures c.in_ok-places.places c.in_ok-places.was in
    learned_answer user (Both (Counted user c.in_ok-counters.counters) (Placed user c.in_ok-places.places)) (Begins c.args.profile a.now) a d two c.from_residual-in_err-head.result transient
    (λ account all. none_if c.from_residual-in_err-head.result (λ contents. Begins c.args.profile a.now contents account) none)

pub returns-clause-reads : goal.returns-clause-reads
returns-clause-reads g c =
    let user = c.args.user.now in
    let a = state g.S.Store c.args.store.now in
    let b = state g.S.Store c.counters_of.new.self in
    let d = state g.S.Store c.list_places.new.store in
    let one = learned user (Counted user) a b c.counters_of.result c.in_ok-counters.counters c.in_ok-counters.was (among_entered user AreCountersOf a b c.counters_of.result c.counters_of.ensures.named c.counters_of.ensures.finds) in
    let two = learned_then user (Counted user c.in_ok-counters.counters) (Placed user) a b d one c.list_places.result c.list_places.ensures c.in_ok-places.places c.in_ok-places.was in
    let made = c.contents_of.ensures in
    learned_answer user (Both (Counted user c.in_ok-counters.counters) (Placed user c.in_ok-places.places)) (Begins c.args.profile a.now) a d two c.contents_of.result made.named
    (λ account all. begins_read user c.args.profile c.in_ok-counters.counters c.in_ok-places.places c.in_ok-head.head a.now account c.contents_of.result c.in_ok-head.ensures all.0 all.1 made.made made.head made.active)
