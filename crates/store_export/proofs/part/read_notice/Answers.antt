use Rattle.sqlite.specs.Held.{state}
use Rattle.store_tables.specs.Rows.{Tables, HoldsTables}
use Rattle.store_tables.specs.Schema.{mail_schema}
use Rattle.store_accounts.specs.Listing.{IsNoticeOf}
use Rattle.store_accounts.specs.Shows.{rows_of}
use Rattle.store_accounts.proofs.EnterLemmas.{entered_other}
use Rattle.store_export.specs.declared.place.PartPlace.TheVariants as place
use Rattle.store_export.specs.Saying.{SaysAt}
use Rattle.store_export.proofs.KeptLemmas.{among_entered}
use Rattle.store_export.proofs.SayingLemmas.{said_notice}
use Rattle.store_export.proofs.part.read_notice.Goals as goal

pub returns : goal.returns
returns g c =
    let user = c.args.user.now in
    let n = c.args.number in
    let a = state g.S.Store c.args.store.now in
    let b = state g.S.Store c.notice_of.new.self in
    entered_other user (λ found account. (tables : Tables) → HoldsTables mail_schema a.now tables → IsNoticeOf user n found (rows_of user tables)) (λ part account. SaysAt user (place.Notice n) part a.now account) a b c.notice_of.result
    (among_entered user (IsNoticeOf user n) a b c.notice_of.result c.notice_of.ensures.named c.notice_of.ensures.finds) c.notice.result c.in_ok-found.found c.in_ok-found.was c.notice.ensures.named
    (λ account told. said_notice user n c.in_ok-found.found a.now account c.notice.result told c.notice.ensures.made)
