use Rattle.std.proofs.Common.{sym, subst}
use Rattle.sqlite.specs.Held.{state}
use Rattle.store_versions.specs.Opening.{OpensKnown}
use Rattle.store_versions.proofs.OpeningLemmas.{opens_current, opens_second, opens_last, opens_fourth}
use Rattle.store_versions.proofs.opening.open_known.Goals as goal

pub returns-in-Current-clause-opens : goal.returns-in-Current-clause-opens
returns-in-Current-clause-opens g c =
    let old = state g.S.Store c.args.conn.now in
    let new = state g.S.Store c.open_tables.new.conn in
    subst (λ layout. OpensKnown layout old new c.open_tables.result) (sym c.in-Current.is) (opens_current old new c.open_tables.result c.open_tables.ensures.opens)

pub returns-in-Second-clause-opens : goal.returns-in-Second-clause-opens
returns-in-Second-clause-opens g c =
    let old = state g.S.Store c.args.conn.now in
    let new = state g.S.Store c.open_old.new.conn in
    subst (λ layout. OpensKnown layout old new c.open_old.result) (sym c.in-Second.is) (opens_second old new c.open_old.result c.open_old.ensures.opens)

pub returns-in-CopiesLast-clause-opens : goal.returns-in-CopiesLast-clause-opens
returns-in-CopiesLast-clause-opens g c =
    let old = state g.S.Store c.args.conn.now in
    let new = state g.S.Store c.open_old-in-CopiesLast.new.conn in
    subst (λ layout. OpensKnown layout old new c.open_old-in-CopiesLast.result) (sym c.in-CopiesLast.is) (opens_last old new c.open_old-in-CopiesLast.result c.open_old-in-CopiesLast.ensures.opens)

pub returns-in-CopiesFourth-clause-opens : goal.returns-in-CopiesFourth-clause-opens
returns-in-CopiesFourth-clause-opens g c =
    let old = state g.S.Store c.args.conn.now in
    let new = state g.S.Store c.open_old-in-CopiesFourth.new.conn in
    subst (λ layout. OpensKnown layout old new c.open_old-in-CopiesFourth.result) (sym c.in-CopiesFourth.is) (opens_fourth old new c.open_old-in-CopiesFourth.result c.open_old-in-CopiesFourth.ensures.opens)
