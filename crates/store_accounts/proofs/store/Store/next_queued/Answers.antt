use Rattle.std.proofs.Common.{◌⊎◌, ◌∙◌, Ok, Some, None, ap}
use Rattle.sqlite.specs.Held.{state}
use Rattle.store_accounts.specs.Next.{IsNextQueued, LeastQueued, IsLaterId, IsLaterQueue}
use Rattle.store_accounts.proofs.AllLemmas.{all_made, all_then}
use Rattle.store_accounts.proofs.PlaceLemmas.{queued_same, queued_later}
use Rattle.store_accounts.proofs.store.Store.next_queued.Goals as goal

pub returns-in-Some-clause-next : goal.returns-in-Some-clause-next
returns-in-Some-clause-next g c =
    let start = c.args.start.now in
    let found = c.in-Some.queued in
    all_made (LeastQueued (IsLaterId start.user start.id)) (IsNextQueued start) (state g.S.Store c.args.self.now) (state g.S.Store c.later_queued.new.self) c.later_queued.result c.later_queued.ensures.finds (Some found) (c.in_ok-queued.was ∙ ap Ok c.in-Some.is) (Ok (Some found)) (λ tables least. queued_same start tables found least)

pub returns-in-None-clause-next : goal.returns-in-None-clause-next
returns-in-None-clause-next g c =
    let start = c.args.start.now in
    all_then (LeastQueued (IsLaterId start.user start.id)) (LeastQueued (IsLaterQueue start.user)) (IsNextQueued start) (state g.S.Store c.args.self.now) (state g.S.Store c.later_queued.new.self) (state g.S.Store c.queued_of_later.new.self) c.later_queued.result None (c.in_ok-queued.was ∙ ap Ok c.in-None.is) c.later_queued.ensures.finds c.queued_of_later.result
    (rw c.as_slice.ensures at c.queued_of_later.ensures.finds) (λ tables next none least. queued_later start tables next none least)
