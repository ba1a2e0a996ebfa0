use Rattle.std.proofs.Common.{◌≡◌, map}
use Rattle.sqlite.specs.Held.{state}
use Rattle.store_accounts.specs.HeadRows.{queued_envelope}
use Rattle.store_accounts.proofs.EnterLemmas.{entered_other}
use Rattle.store_export.proofs.ListingLemmas.{HasLetters, letters_placed}
use Rattle.store_export.proofs.place.list_letters.Goals as goal

pub returns : goal.returns
returns g c =
    let user = c.args.user.now in
    let old = c.args.places.now in
    let new = c.push_letters.new.places in
    let a = state g.S.Store c.args.store.now in
    let b = state g.S.Store c.queue_heads_of.new.self in
    entered_other user (λ heads account. heads ≡ map queued_envelope account.queue) (λ x account. HasLetters old new x a.now account) a b c.queue_heads_of.result c.queue_heads_of.ensures c.push_letters.result c.in_ok-heads.heads c.in_ok-heads.was
    c.push_letters.ensures.named (λ account told. letters_placed user old new a.now account c.push_letters.result c.in_ok-heads.heads told c.push_letters.ensures.pushed)
