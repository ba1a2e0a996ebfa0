-- What an open account has was read, and its lines were added; without one there are none.
use Rattle.std.proofs.Common.{◌≡◌, ◌++◌, List, Err, OnOk, map, refl, rules}
use Rattle.sqlite.specs.Held.{state}
use Rattle.store_accounts.specs.Account.{Account}
use Rattle.store_accounts.specs.HeadRows.{queued_envelope}
use Rattle.store_accounts.specs.declared.queued_envelope.QueuedEnvelope.{QueuedEnvelope}
use Rattle.store_accounts.specs.declared.refusal.Refusal.TheVariants.{NoUser}
use Rattle.cli_reports.specs.Listings.{queue_line}
use Rattle.cli_run.specs.AllUsers.{named_lines, named_queue}
use Rattle.cli_run.proofs.AllUserLemmas.{open_added, open_failed, shut_added, queue_open, queue_shut}
use Rattle.cli_run.proofs.all_queues.QueueLinesAccountLines.add.Goals as goal

abbrev Found : List QueuedEnvelope → Account → Type 0
Found rows a = rows ≡ map queued_envelope a.queue

pub returns-in-Err-NoUser-clause-adds : goal.returns-in-Err-NoUser-clause-adds
returns-in-Err-NoUser-clause-adds g c =
    let was : c.queue_heads-read.result ≡ Err NoUser = search rules in
    shut_added named_queue c.args.name.now c.args.text.now c.args.text.now Found (state g.S.Store c.args.store.now) (state g.S.Store c.queue_heads-read.new.self) c.queue_heads-read.result c.queue_heads-read.ensures was (queue_shut c.args.name.now) refl

pub returns-in_err-rows-clause-adds : goal.returns-in_err-rows-clause-adds
returns-in_err-rows-clause-adds g c =
    let none : OnOk c.from_residual.result ⊥ = search rules in
    open_failed named_queue c.args.name.now c.args.text.now c.args.text.now Found (state g.S.Store c.args.store.now) (state g.S.Store c.queue_heads-read.new.self) c.queue_heads-read.result c.queue_heads-read.ensures c.from_residual.result none

pub returns-in_err-add_queue-clause-adds : goal.returns-in_err-add_queue-clause-adds
returns-in_err-add_queue-clause-adds g c =
    let none : OnOk c.from_residual-in_err-add_queue.result ⊥ = search rules in
    open_failed named_queue c.args.name.now c.args.text.now c.add_queue.new.text Found (state g.S.Store c.args.store.now) (state g.S.Store c.queue_heads-read.new.self) c.queue_heads-read.result c.queue_heads-read.ensures c.from_residual-in_err-add_queue.result none

pub returns-clause-adds : goal.returns-clause-adds
returns-clause-adds g c =
    let rows = c.in_ok-rows.rows in
    let added : c.add_queue.new.text ≡ c.args.text.now ++ named_lines c.args.name.now (map queue_line rows) = search rules in
    open_added named_queue c.args.name.now c.args.text.now c.add_queue.new.text Found (state g.S.Store c.args.store.now) (state g.S.Store c.queue_heads-read.new.self) c.queue_heads-read.result c.queue_heads-read.ensures rows (named_lines c.args.name.now (map queue_line rows)) c.in_ok-rows.was
    (λ a live are. queue_open c.args.name.now rows a live are) added
