use Rattle.std.proofs.Common.{◌⊎◌, ◌∙◌, Ok, Some, None, ap}
use Rattle.sqlite.specs.Held.{state}
use Rattle.store_accounts.specs.Next.{LeastFiled, IsLaterNumber, IsLaterFolder}
use Rattle.store_accounts.proofs.AllLemmas.{all_made, all_then}
use Rattle.store_accounts.proofs.PlaceLemmas.{in_same, in_later}
use Rattle.store_accounts.proofs.store.Store.later_filed.Goals as goal

pub returns-in-Some-clause-finds : goal.returns-in-Some-clause-finds
returns-in-Some-clause-finds g c =
    let start = c.args.start.now in
    let found = c.in-Some.filed in
    all_made (LeastFiled (IsLaterNumber start.user start.folder start.number)) (LeastFiled (λ f. IsLaterNumber start.user start.folder start.number f ⊎ IsLaterFolder start.user start.folder f)) (state g.S.Store c.args.self.now) (state g.S.Store c.filed_in_same.new.self) c.filed_in_same.result c.filed_in_same.ensures.finds (Some found) (c.in_ok-filed.was ∙ ap Ok c.in-Some.is) (Ok (Some found)) (λ tables least. in_same start tables found least)

pub returns-in-None-clause-finds : goal.returns-in-None-clause-finds
returns-in-None-clause-finds g c =
    let start = c.args.start.now in
    all_then (LeastFiled (IsLaterNumber start.user start.folder start.number)) (LeastFiled (IsLaterFolder start.user start.folder)) (LeastFiled (λ f. IsLaterNumber start.user start.folder start.number f ⊎ IsLaterFolder start.user start.folder f)) (state g.S.Store c.args.self.now) (state g.S.Store c.filed_in_same.new.self) (state g.S.Store c.filed_in_later.new.self) c.filed_in_same.result None (c.in_ok-filed.was ∙ ap Ok c.in-None.is) c.filed_in_same.ensures.finds c.filed_in_later.result
    (rw (c.as_slice.ensures, c.as_slice-in-None.ensures) at c.filed_in_later.ensures.finds) (λ tables next none least. in_later start tables next none least)
