use Rattle.std.proofs.Common.{◌≡◌, Err, rules}
use Rattle.sqlite.specs.Effect.{Database}
use Rattle.store_tables.specs.Connection.{TurnsRows}
use Rattle.store_versions.specs.Migration.{AreOldCopies, AreLater, RemakesAll, TurnsNewest, restored, filled, renewed}
use Rattle.store_tables.proofs.CreateLemmas.{inside_then, inside_failed}
use Rattle.store_versions.proofs.MigrationLemmas.{found_makes, find_failed, makes_stopped, makes_keeps, keeps_chain, keeps_refused, keeps_made}
use Rattle.store_versions.proofs.MovingLemmas.{Remade, remade, turns_newest}
use Rattle.store_versions.proofs.moving.migrate_fourth.Goals as goal

abbrev Any : Database → Database → Type 0
Any old new = Unit {0}

pub returns-in_err-copies : goal.returns-in_err-copies
returns-in_err-copies g c =
    let e = c.in_err-copies.field-0.0 in
    let is : c.from_residual.result ≡ Err e = search rules in
    find_failed g.S.Store AreOldCopies TurnsNewest c.args.tx.now c.find_copies.new.tx c.find_copies.result e c.from_residual.result is c.find_copies.ensures

pub returns-in_err-later : goal.returns-in_err-later
returns-in_err-later g c =
    let e = c.in_err-later.field-0.0 in
    let is : c.from_residual-in_err-later.result ≡ Err e = search rules in
    let one = found_makes g.S.Store AreOldCopies c.args.tx.now c.find_copies.new.tx c.find_copies.result c.in_ok-copies.copies c.in_ok-copies.was c.find_copies.ensures in
    makes_stopped g.S.Store _ TurnsNewest AreLater c.args.tx.now c.find_copies.new.tx c.find_later.new.tx c.find_copies.result _ c.in_ok-copies.was c.find_later.result e c.from_residual-in_err-later.result is one c.find_later.ensures

pub returns-in_err-remake_all : goal.returns-in_err-remake_all
returns-in_err-remake_all g c =
    let e = c.in_err-remake_all.field-0.0 in
    let is : c.from_residual-in_err-remake_all.result ≡ Err e = search rules in
    let one = found_makes g.S.Store AreOldCopies c.args.tx.now c.find_copies.new.tx c.find_copies.result c.in_ok-copies.copies c.in_ok-copies.was c.find_copies.ensures in
    let two = found_makes g.S.Store AreLater c.find_copies.new.tx c.find_later.new.tx c.find_later.result c.in_ok-later.later c.in_ok-later.was c.find_later.ensures in
    let both = inside_then g.S.Store _ _ Any (λ _ _ _ _ _. tt) c.args.tx.now c.find_copies.new.tx c.find_later.new.tx c.find_copies.result _ c.find_later.result c.in_ok-copies.was one two in
    let all = inside_then g.S.Store Any RemakesAll Any (λ _ _ _ _ _. tt) c.args.tx.now c.find_later.new.tx c.remake_all.new.tx c.find_later.result _ c.remake_all.result c.in_ok-later.was both c.remake_all.ensures in
    inside_failed g.S.Store Any TurnsNewest c.args.tx.now c.remake_all.new.tx c.remake_all.result e c.from_residual-in_err-remake_all.result is all

pub returns-in_err-restore : goal.returns-in_err-restore
returns-in_err-restore g c =
    let e = c.in_err-restore.field-0.0 in
    let is : c.from_residual-in_err-restore.result ≡ Err e = search rules in
    let one = found_makes g.S.Store AreOldCopies c.args.tx.now c.find_copies.new.tx c.find_copies.result c.in_ok-copies.copies c.in_ok-copies.was c.find_copies.ensures in
    let two = found_makes g.S.Store AreLater c.find_copies.new.tx c.find_later.new.tx c.find_later.result c.in_ok-later.later c.in_ok-later.was c.find_later.ensures in
    let both = inside_then g.S.Store _ _ Any (λ _ _ _ _ _. tt) c.args.tx.now c.find_copies.new.tx c.find_later.new.tx c.find_copies.result _ c.find_later.result c.in_ok-copies.was one two in
    let all = inside_then g.S.Store Any RemakesAll Any (λ _ _ _ _ _. tt) c.args.tx.now c.find_later.new.tx c.remake_all.new.tx c.find_later.result _ c.remake_all.result c.in_ok-later.was both c.remake_all.ensures in
    let kept = keeps_chain g.S.Store Any _ Any c.args.tx.now c.remake_all.new.tx c.restore.new.tx c.remake_all.result _ c.in_ok-remake_all.was c.restore.result (makes_keeps g.S.Store Any c.args.tx.now c.remake_all.new.tx c.remake_all.result all) c.restore.ensures (λ _ _ _ _ _. tt) in
    keeps_refused g.S.Store Any TurnsNewest c.args.tx.now c.restore.new.tx c.restore.result e c.from_residual-in_err-restore.result is kept

pub returns : goal.returns
returns g c =
    let rows = c.in_ok-copies.copies in
    let later = c.in_ok-later.later in
    let Two : Database → Database → Type 0 = λ old new. (first : Database) × AreOldCopies rows old first × AreLater later first new in
    let Three : Database → Database → Type 0 = λ old new. (second : Database) × Two old second × RemakesAll second new in
    let one = found_makes g.S.Store AreOldCopies c.args.tx.now c.find_copies.new.tx c.find_copies.result rows c.in_ok-copies.was c.find_copies.ensures in
    let two = found_makes g.S.Store AreLater c.find_copies.new.tx c.find_later.new.tx c.find_later.result later c.in_ok-later.was c.find_later.ensures in
    let both = inside_then g.S.Store (AreOldCopies rows) (AreLater later) Two (λ _ between _ first second. (between, first, second)) c.args.tx.now c.find_copies.new.tx c.find_later.new.tx c.find_copies.result _ c.find_later.result c.in_ok-copies.was one two in
    let made = inside_then g.S.Store Two RemakesAll Three (λ _ between _ first second. (between, first, second)) c.args.tx.now c.find_later.new.tx c.remake_all.new.tx c.find_later.result _ c.remake_all.result c.in_ok-later.was both c.remake_all.ensures in
    let kept = keeps_chain g.S.Store Three (TurnsRows (restored later)) (Remade rows later) c.args.tx.now c.remake_all.new.tx c.restore.new.tx c.remake_all.result _ c.in_ok-remake_all.was c.restore.result
    (makes_keeps g.S.Store Three c.args.tx.now c.remake_all.new.tx c.remake_all.result made) c.restore.ensures
    (λ old third new was restores. remade rows later old was.1.0 was.0 third new was.1.1 was.1.2 was.2 restores) in
    keeps_made g.S.Store (Remade rows later) (TurnsRows (λ tables. renewed (filled rows.items tables))) TurnsNewest c.args.tx.now c.restore.new.tx c.refill.new.tx c.restore.result _ c.in_ok-restore.was c.refill.result
    kept (rw (c.deref.ensures.value) at c.refill.ensures) (λ first second. turns_newest rows later _ _ _ first second)
