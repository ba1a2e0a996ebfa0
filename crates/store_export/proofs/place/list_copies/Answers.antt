use Rattle.sqlite.specs.Held.{state}
use Rattle.store_tables.specs.Rows.{Tables, HoldsTables}
use Rattle.store_tables.specs.Schema.{mail_schema}
use Rattle.store_accounts.specs.Listing.{AreFilingsOf}
use Rattle.store_accounts.specs.Shows.{rows_of}
use Rattle.store_accounts.proofs.EnterLemmas.{entered_other}
use Rattle.store_export.proofs.KeptLemmas.{among_entered}
use Rattle.store_export.proofs.ListingLemmas.{HasCopies, copies_placed}
use Rattle.store_export.proofs.place.list_copies.Goals as goal

pub returns : goal.returns
returns g c =
    let user = c.args.user.now in
    let old = c.args.places.now in
    let new = c.push_copies.new.places in
    let a = state g.S.Store c.args.store.now in
    let b = state g.S.Store c.filings_of.new.self in
    entered_other user (λ filings account. (tables : Tables) → HoldsTables mail_schema a.now tables → AreFilingsOf user filings (rows_of user tables)) (λ x account. HasCopies user old new x a.now account) a b c.filings_of.result
    (among_entered user (AreFilingsOf user) a b c.filings_of.result c.filings_of.ensures.named c.filings_of.ensures.finds) c.push_copies.result c.in_ok-filings.filings c.in_ok-filings.was c.push_copies.ensures.named
    (λ account told. copies_placed user old new a.now account c.push_copies.result c.in_ok-filings.filings told c.push_copies.ensures.pushed)
