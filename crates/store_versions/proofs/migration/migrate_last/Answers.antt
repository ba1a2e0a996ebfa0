use Rattle.std.proofs.Common.{◌≡◌, Err, rules}
use Rattle.sqlite.specs.Effect.{Database}
use Rattle.store_tables.specs.Connection.{TurnsRows}
use Rattle.store_versions.specs.Migration.{AreOldCopies, Remakes, TurnsNew, filled, renewed}
use Rattle.store_tables.proofs.CreateLemmas.{inside_then, inside_failed}
use Rattle.store_versions.proofs.MigrationLemmas.{found_makes, find_failed, turns_new}
use Rattle.store_versions.proofs.migration.migrate_last.Goals as goal

pub returns-in_err-copies : goal.returns-in_err-copies
returns-in_err-copies g c =
    let e = c.in_err-copies.field-0.0 in
    let is : c.from_residual.result ≡ Err e = search rules in
    find_failed g.S.Store AreOldCopies TurnsNew c.args.tx.now c.find_copies.new.tx c.find_copies.result e c.from_residual.result is c.find_copies.ensures

pub returns-in_err-remake : goal.returns-in_err-remake
returns-in_err-remake g c =
    let e = c.in_err-remake.field-0.0 in
    let is : c.from_residual-in_err-remake.result ≡ Err e = search rules in
    let rows = c.in_ok-copies.copies in
    let found = found_makes g.S.Store AreOldCopies c.args.tx.now c.find_copies.new.tx c.find_copies.result rows c.in_ok-copies.was c.find_copies.ensures in
    let both = inside_then g.S.Store (AreOldCopies rows) Remakes (λ _ _. Unit {0}) (λ _ _ _ _ _. tt) c.args.tx.now c.find_copies.new.tx c.remake.new.tx c.find_copies.result _ c.remake.result c.in_ok-copies.was found c.remake.ensures in
    inside_failed g.S.Store (λ _ _. Unit {0}) TurnsNew c.args.tx.now c.remake.new.tx c.remake.result e c.from_residual-in_err-remake.result is both

pub returns : goal.returns
returns g c =
    let rows = c.in_ok-copies.copies in
    let Both : Database → Database → Type 0 = λ old new. (found : Database) × AreOldCopies rows old found × Remakes found new in
    let found = found_makes g.S.Store AreOldCopies c.args.tx.now c.find_copies.new.tx c.find_copies.result rows c.in_ok-copies.was c.find_copies.ensures in
    let both = inside_then g.S.Store (AreOldCopies rows) Remakes Both (λ _ middle _ first second. (middle, first, second)) c.args.tx.now c.find_copies.new.tx c.remake.new.tx c.find_copies.result _ c.remake.result c.in_ok-copies.was found c.remake.ensures in
    inside_then g.S.Store Both (TurnsRows (λ tables. renewed (filled rows.items tables))) TurnsNew (λ old middle new first second. turns_new old first.0 middle new rows first.1 first.2 second)
    c.args.tx.now c.remake.new.tx c.refill.new.tx c.remake.result _ c.refill.result c.in_ok-remake.was both (rw (c.deref.ensures.value) at c.refill.ensures)
