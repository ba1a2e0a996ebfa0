use Rattle.sqlite.specs.Held.{state}
use Rattle.store_tables.specs.Rows.{Tables, HoldsTables}
use Rattle.store_tables.specs.Schema.{mail_schema}
use Rattle.store_accounts.specs.Listing.{AreNoticeNumbersOf}
use Rattle.store_accounts.specs.Shows.{rows_of}
use Rattle.store_accounts.proofs.EnterLemmas.{entered_other}
use Rattle.store_export.proofs.KeptLemmas.{among_entered}
use Rattle.store_export.proofs.ListingLemmas.{HasNotices, notices_placed}
use Rattle.store_export.proofs.place.list_notices.Goals as goal

pub returns : goal.returns
returns g c =
    let user = c.args.user.now in
    let old = c.args.places.now in
    let new = c.push_notices.new.places in
    let a = state g.S.Store c.args.store.now in
    let b = state g.S.Store c.notice_numbers_of.new.self in
    entered_other user (λ numbers account. (tables : Tables) → HoldsTables mail_schema a.now tables → AreNoticeNumbersOf user numbers (rows_of user tables)) (λ x account. HasNotices user old new x a.now account) a b
    c.notice_numbers_of.result (among_entered user (AreNoticeNumbersOf user) a b c.notice_numbers_of.result c.notice_numbers_of.ensures.named c.notice_numbers_of.ensures.finds) c.push_notices.result c.in_ok-numbers.numbers c.in_ok-numbers.was
    c.push_notices.ensures.named (λ account told. notices_placed user old new a.now account c.push_notices.result c.in_ok-numbers.numbers told c.push_notices.ensures.pushed)
