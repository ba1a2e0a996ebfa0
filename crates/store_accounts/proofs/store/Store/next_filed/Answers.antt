use Rattle.std.proofs.Common.{◌⊎◌, ◌∙◌, Ok, Some, None, ap}
use Rattle.sqlite.specs.Held.{state}
use Rattle.store_accounts.specs.Next.{IsNextFiled, LeastFiled, IsLaterNumber, IsLaterFolder, IsLaterOwner}
use Rattle.store_accounts.proofs.AllLemmas.{all_made, all_then}
use Rattle.store_accounts.proofs.PlaceLemmas.{of_same, of_later}
use Rattle.store_accounts.proofs.store.Store.next_filed.Goals as goal

pub returns-in-Some-clause-next : goal.returns-in-Some-clause-next
returns-in-Some-clause-next g c =
    let start = c.args.start.now in
    let found = c.in-Some.filed in
    all_made (LeastFiled (λ f. IsLaterNumber start.user start.folder start.number f ⊎ IsLaterFolder start.user start.folder f)) (IsNextFiled start) (state g.S.Store c.args.self.now) (state g.S.Store c.later_filed.new.self) c.later_filed.result c.later_filed.ensures.finds (Some found) (c.in_ok-filed.was ∙ ap Ok c.in-Some.is) (Ok (Some found)) (λ tables least. of_same start tables found least)

pub returns-in-None-clause-next : goal.returns-in-None-clause-next
returns-in-None-clause-next g c =
    let start = c.args.start.now in
    all_then (LeastFiled (λ f. IsLaterNumber start.user start.folder start.number f ⊎ IsLaterFolder start.user start.folder f)) (LeastFiled (IsLaterOwner start.user)) (IsNextFiled start) (state g.S.Store c.args.self.now) (state g.S.Store c.later_filed.new.self) (state g.S.Store c.filed_of_later.new.self) c.later_filed.result None (c.in_ok-filed.was ∙ ap Ok c.in-None.is) c.later_filed.ensures.finds c.filed_of_later.result
    (rw c.as_slice.ensures at c.filed_of_later.ensures.finds) (λ tables next none least. of_later start tables next none least)
