use Rattle.std.proofs.Common.{◌≡◌, Err, rules}
use Rattle.sqlite.specs.Effect.{Database}
use Rattle.store_tables.specs.Connection.{TurnsRows}
use Rattle.store_versions.specs.Third.{AreSecondCopies, RemakesCopies, TurnsThird, flagged}
use Rattle.store_tables.proofs.CreateLemmas.{inside_then, inside_failed}
use Rattle.store_versions.proofs.MigrationLemmas.{found_makes, find_failed}
use Rattle.store_versions.proofs.ThirdLemmas.{turns_third}
use Rattle.store_versions.proofs.third.migrate_second.Goals as goal

pub returns-in_err-copies : goal.returns-in_err-copies
returns-in_err-copies g c =
    let e = c.in_err-copies.field-0.0 in
    let is : c.from_residual.result ≡ Err e = search rules in
    find_failed g.S.Store AreSecondCopies TurnsThird c.args.tx.now c.find_second.new.tx c.find_second.result e c.from_residual.result is c.find_second.ensures

pub returns-in_err-remake_copies : goal.returns-in_err-remake_copies
returns-in_err-remake_copies g c =
    let e = c.in_err-remake_copies.field-0.0 in
    let is : c.from_residual-in_err-remake_copies.result ≡ Err e = search rules in
    let rows = c.in_ok-copies.copies in
    let found = found_makes g.S.Store AreSecondCopies c.args.tx.now c.find_second.new.tx c.find_second.result rows c.in_ok-copies.was c.find_second.ensures in
    let both = inside_then g.S.Store (AreSecondCopies rows) RemakesCopies (λ _ _. Unit {0}) (λ _ _ _ _ _. tt) c.args.tx.now c.find_second.new.tx c.remake_copies.new.tx c.find_second.result _ c.remake_copies.result c.in_ok-copies.was found c.remake_copies.ensures in
    inside_failed g.S.Store (λ _ _. Unit {0}) TurnsThird c.args.tx.now c.remake_copies.new.tx c.remake_copies.result e c.from_residual-in_err-remake_copies.result is both

pub returns : goal.returns
returns g c =
    let rows = c.in_ok-copies.copies in
    let Both : Database → Database → Type 0 = λ old new. (found : Database) × AreSecondCopies rows old found × RemakesCopies found new in
    let found = found_makes g.S.Store AreSecondCopies c.args.tx.now c.find_second.new.tx c.find_second.result rows c.in_ok-copies.was c.find_second.ensures in
    let both = inside_then g.S.Store (AreSecondCopies rows) RemakesCopies Both (λ _ middle _ first second. (middle, first, second)) c.args.tx.now c.find_second.new.tx c.remake_copies.new.tx c.find_second.result _ c.remake_copies.result c.in_ok-copies.was found c.remake_copies.ensures in
    inside_then g.S.Store Both (TurnsRows (flagged rows.items)) TurnsThird (λ old middle new first second. turns_third old first.0 middle new rows first.1 first.2 second)
    c.args.tx.now c.remake_copies.new.tx c.refill_copies.new.tx c.remake_copies.result _ c.refill_copies.result c.in_ok-remake_copies.was both (rw (c.deref.ensures.value) at c.refill_copies.ensures)
