-- What an open account has was read, and its lines were added; without one there are none.
use Rattle.std.proofs.Common.{◌≡◌, ◌++◌, List, Err, OnOk, map, refl, rules}
use Rattle.sqlite.specs.Held.{state}
use Rattle.store_accounts.specs.Account.{Account}
use Rattle.store_accounts.specs.declared.notice.Notice.{Notice}
use Rattle.store_accounts.specs.declared.refusal.Refusal.TheVariants.{NoUser}
use Rattle.cli_reports.specs.Listings.{notice_line}
use Rattle.cli_run.specs.AllUsers.{named_lines, named_notices}
use Rattle.cli_run.proofs.AllUserLemmas.{open_added, open_failed, shut_added, notices_open, notices_shut}
use Rattle.cli_run.proofs.all_queues.NoticeLinesAccountLines.add.Goals as goal

abbrev Found : List Notice → Account → Type 0
Found notices a = notices ≡ a.notices

pub returns-in-Err-NoUser-clause-adds : goal.returns-in-Err-NoUser-clause-adds
returns-in-Err-NoUser-clause-adds g c =
    let was : c.notices-read.result ≡ Err NoUser = search rules in
    shut_added named_notices c.args.name.now c.args.text.now c.args.text.now Found (state g.S.Store c.args.store.now) (state g.S.Store c.notices-read.new.self) c.notices-read.result c.notices-read.ensures was (notices_shut c.args.name.now) refl

pub returns-in_err-notices-clause-adds : goal.returns-in_err-notices-clause-adds
returns-in_err-notices-clause-adds g c =
    let none : OnOk c.from_residual.result ⊥ = search rules in
    open_failed named_notices c.args.name.now c.args.text.now c.args.text.now Found (state g.S.Store c.args.store.now) (state g.S.Store c.notices-read.new.self) c.notices-read.result c.notices-read.ensures c.from_residual.result none

pub returns-in_err-add_notices-clause-adds : goal.returns-in_err-add_notices-clause-adds
returns-in_err-add_notices-clause-adds g c =
    let none : OnOk c.from_residual-in_err-add_notices.result ⊥ = search rules in
    open_failed named_notices c.args.name.now c.args.text.now c.add_notices.new.text Found (state g.S.Store c.args.store.now) (state g.S.Store c.notices-read.new.self) c.notices-read.result c.notices-read.ensures c.from_residual-in_err-add_notices.result none

pub returns-clause-adds : goal.returns-clause-adds
returns-clause-adds g c =
    let notices = c.in_ok-notices.notices in
    let added : c.add_notices.new.text ≡ c.args.text.now ++ named_lines c.args.name.now (map notice_line notices) = search rules in
    open_added named_notices c.args.name.now c.args.text.now c.add_notices.new.text Found (state g.S.Store c.args.store.now) (state g.S.Store c.notices-read.new.self) c.notices-read.result c.notices-read.ensures notices (named_lines c.args.name.now (map notice_line notices)) c.in_ok-notices.was
    (λ a live are. notices_open c.args.name.now notices a live are) added
