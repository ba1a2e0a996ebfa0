use Rattle.std.proofs.Common.{◌≡◌, ◌∙◌, Ok, Err, Some, slice_get, get_or, ap, inr, refl, sym, subst}
use Rattle.std.proofs.lemmas.Option.{slice_get-get_or}
use Rattle.sqlite.specs.Held.{state}
use Rattle.store_accounts.specs.declared.refusal.Refusal.TheVariants.{Store}
use Rattle.store_accounts.specs.Promises.{ReadsEntered}
use Rattle.store_accounts.proofs.EnterLemmas.{entered_other}
use Rattle.store_export.specs.Reading.{IsNextPart}
use Rattle.store_export.specs.Saying.{SaysAt}
use Rattle.store_export.proofs.PartLemmas.{next_part}
use Rattle.store_export.proofs.part.read_part.Goals as goal

pub returns-then-not-may_have : goal.returns-then-not-may_have
returns-then-not-may_have g c =
    let contents = c.args.contents.now in
    let name = contents.head.owner.name in
    let place = c.index-as_slice-at.result in
    let a = state g.S.Store c.args.store.now in
    let b = state g.S.Store c.part_at.new.store in
    let read = subst (λ u. ReadsEntered u (λ part account. SaysAt u place part a.now account) a b c.part_at.result) c.as_slice-user.ensures c.part_at.ensures in
    entered_other name (λ part account. SaysAt name place part a.now account) (λ part account. IsNextPart contents c.args.at part a.now account) a b c.part_at.result read (Err Store) c.in_ok-part.part c.in_ok-part.was (inr refl) (λ account says. tt)

pub returns : goal.returns
returns g c =
    let contents = c.args.contents.now in
    let name = contents.head.owner.name in
    let place = c.index-as_slice-at.result in
    let a = state g.S.Store c.args.store.now in
    let b = state g.S.Store c.part_at.new.store in
    let read = subst (λ u. ReadsEntered u (λ part account. SaysAt u place part a.now account) a b c.part_at.result) c.as_slice-user.ensures c.part_at.ensures in
    let here : slice_get contents.places c.args.at ≡ Some place =
    slice_get-get_or contents.places c.args.at place c.requires ∙ ap Some (ap (λ l. get_or l c.args.at place) (sym c.as_slice.ensures) ∙ sym c.index-as_slice-at.is) in
    entered_other name (λ part account. SaysAt name place part a.now account) (λ part account. IsNextPart contents c.args.at part a.now account) a b c.part_at.result read (Ok c.in_ok-part.part) c.in_ok-part.part c.in_ok-part.was tt
    (λ account says. next_part contents c.args.at place c.in_ok-part.part a.now account here says (c.may_have.ensures.0 c.if-not-may_have.false))
