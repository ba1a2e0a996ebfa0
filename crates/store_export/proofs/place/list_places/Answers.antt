use Rattle.std.proofs.Common.{Ok, OnOk, IfErr, rules}
use Rattle.sqlite.specs.Held.{state}
use Rattle.store_accounts.specs.Refusals.{IsTransient}
use Rattle.store_accounts.proofs.EnterLemmas.{entered_again}
use Rattle.store_export.specs.Places.{ArePlaces}
use Rattle.store_export.proofs.KeptLemmas.{Both, learned, learned_answer, learned_failed, learned_then}
use Rattle.store_export.proofs.ListingLemmas.{HasScripts, HasReplies, HasCopies, HasLetters, HasNotices, all_placed}
use Rattle.store_export.proofs.place.list_places.Goals as goal

pub returns-in_err-list_scripts : goal.returns-in_err-list_scripts
returns-in_err-list_scripts g c =
    let user = c.args.user.now in
    let a = state g.S.Store c.args.store.now in
    let p0 = c.new-places.result in
    let p1 = c.list_scripts.new.places in
    let s1 = state g.S.Store c.list_scripts.new.store in
    let none : OnOk c.from_residual.result ⊥ = search rules in
    let transient : IfErr c.from_residual.result IsTransient = search rules in
    entered_again user (λ x account. HasScripts p0 p1 x a.now account) (λ places account. ArePlaces user places a.now account) a s1 c.list_scripts.result c.list_scripts.ensures c.from_residual.result none transient

pub returns-in_err-list_replies : goal.returns-in_err-list_replies
returns-in_err-list_replies g c =
    let user = c.args.user.now in
    let a = state g.S.Store c.args.store.now in
    let p0 = c.new-places.result in
    let p1 = c.list_scripts.new.places in
    let s1 = state g.S.Store c.list_scripts.new.store in
    let p2 = c.list_replies.new.places in
    let s2 = state g.S.Store c.list_replies.new.store in
    let none : OnOk c.from_residual-in_err-list_replies.result ⊥ = search rules in
    let transient : IfErr c.from_residual-in_err-list_replies.result IsTransient = search rules in
    let one = learned user (HasScripts p0 p1) a s1 c.list_scripts.result tt c.in_ok-list_scripts.was c.list_scripts.ensures in
    learned_failed user (HasScripts p0 p1 tt) (HasReplies p1 p2) a s1 s2 one c.list_replies.result c.list_replies.ensures (λ places account. ArePlaces user places a.now account) c.from_residual-in_err-list_replies.result none transient

pub returns-in_err-list_copies : goal.returns-in_err-list_copies
returns-in_err-list_copies g c =
    let user = c.args.user.now in
    let a = state g.S.Store c.args.store.now in
    let p0 = c.new-places.result in
    let p1 = c.list_scripts.new.places in
    let s1 = state g.S.Store c.list_scripts.new.store in
    let p2 = c.list_replies.new.places in
    let s2 = state g.S.Store c.list_replies.new.store in
    let p3 = c.list_copies.new.places in
    let s3 = state g.S.Store c.list_copies.new.store in
    let none : OnOk c.from_residual-in_err-list_copies.result ⊥ = search rules in
    let transient : IfErr c.from_residual-in_err-list_copies.result IsTransient = search rules in
    let one = learned user (HasScripts p0 p1) a s1 c.list_scripts.result tt c.in_ok-list_scripts.was c.list_scripts.ensures in
    let two = learned_then user (HasScripts p0 p1 tt) (HasReplies p1 p2) a s1 s2 one c.list_replies.result c.list_replies.ensures tt c.in_ok-list_replies.was in
    learned_failed user (Both (HasScripts p0 p1 tt) (HasReplies p1 p2 tt)) (HasCopies user p2 p3) a s2 s3 two c.list_copies.result c.list_copies.ensures (λ places account. ArePlaces user places a.now account) c.from_residual-in_err-list_copies.result none transient

pub returns-in_err-list_letters : goal.returns-in_err-list_letters
returns-in_err-list_letters g c =
    let user = c.args.user.now in
    let a = state g.S.Store c.args.store.now in
    let p0 = c.new-places.result in
    let p1 = c.list_scripts.new.places in
    let s1 = state g.S.Store c.list_scripts.new.store in
    let p2 = c.list_replies.new.places in
    let s2 = state g.S.Store c.list_replies.new.store in
    let p3 = c.list_copies.new.places in
    let s3 = state g.S.Store c.list_copies.new.store in
    let p4 = c.list_letters.new.places in
    let s4 = state g.S.Store c.list_letters.new.store in
    let none : OnOk c.from_residual-in_err-list_letters.result ⊥ = search rules in
    let transient : IfErr c.from_residual-in_err-list_letters.result IsTransient = search rules in
    let one = learned user (HasScripts p0 p1) a s1 c.list_scripts.result tt c.in_ok-list_scripts.was c.list_scripts.ensures in
    let two = learned_then user (HasScripts p0 p1 tt) (HasReplies p1 p2) a s1 s2 one c.list_replies.result c.list_replies.ensures tt c.in_ok-list_replies.was in
    let three = learned_then user (Both (HasScripts p0 p1 tt) (HasReplies p1 p2 tt)) (HasCopies user p2 p3) a s2 s3 two c.list_copies.result c.list_copies.ensures tt c.in_ok-list_copies.was in
    learned_failed user (Both (Both (HasScripts p0 p1 tt) (HasReplies p1 p2 tt)) (HasCopies user p2 p3 tt)) (HasLetters p3 p4) a s3 s4 three c.list_letters.result c.list_letters.ensures (λ places account. ArePlaces user places a.now account) c.from_residual-in_err-list_letters.result none transient

pub returns-in_err-list_notices : goal.returns-in_err-list_notices
returns-in_err-list_notices g c =
    let user = c.args.user.now in
    let a = state g.S.Store c.args.store.now in
    let p0 = c.new-places.result in
    let p1 = c.list_scripts.new.places in
    let s1 = state g.S.Store c.list_scripts.new.store in
    let p2 = c.list_replies.new.places in
    let s2 = state g.S.Store c.list_replies.new.store in
    let p3 = c.list_copies.new.places in
    let s3 = state g.S.Store c.list_copies.new.store in
    let p4 = c.list_letters.new.places in
    let s4 = state g.S.Store c.list_letters.new.store in
    let p5 = c.list_notices.new.places in
    let s5 = state g.S.Store c.list_notices.new.store in
    let none : OnOk c.from_residual-in_err-list_notices.result ⊥ = search rules in
    let transient : IfErr c.from_residual-in_err-list_notices.result IsTransient = search rules in
    let one = learned user (HasScripts p0 p1) a s1 c.list_scripts.result tt c.in_ok-list_scripts.was c.list_scripts.ensures in
    let two = learned_then user (HasScripts p0 p1 tt) (HasReplies p1 p2) a s1 s2 one c.list_replies.result c.list_replies.ensures tt c.in_ok-list_replies.was in
    let three = learned_then user (Both (HasScripts p0 p1 tt) (HasReplies p1 p2 tt)) (HasCopies user p2 p3) a s2 s3 two c.list_copies.result c.list_copies.ensures tt c.in_ok-list_copies.was in
    let four = learned_then user (Both (Both (HasScripts p0 p1 tt) (HasReplies p1 p2 tt)) (HasCopies user p2 p3 tt)) (HasLetters p3 p4) a s3 s4 three c.list_letters.result c.list_letters.ensures tt c.in_ok-list_letters.was in
    learned_failed user (Both (Both (Both (HasScripts p0 p1 tt) (HasReplies p1 p2 tt)) (HasCopies user p2 p3 tt)) (HasLetters p3 p4 tt)) (HasNotices user p4 p5) a s4 s5 four c.list_notices.result c.list_notices.ensures (λ places account. ArePlaces user places a.now account) c.from_residual-in_err-list_notices.result none transient

pub returns : goal.returns
returns g c =
    let user = c.args.user.now in
    let a = state g.S.Store c.args.store.now in
    let p0 = c.new-places.result in
    let p1 = c.list_scripts.new.places in
    let s1 = state g.S.Store c.list_scripts.new.store in
    let p2 = c.list_replies.new.places in
    let s2 = state g.S.Store c.list_replies.new.store in
    let p3 = c.list_copies.new.places in
    let s3 = state g.S.Store c.list_copies.new.store in
    let p4 = c.list_letters.new.places in
    let s4 = state g.S.Store c.list_letters.new.store in
    let p5 = c.list_notices.new.places in
    let s5 = state g.S.Store c.list_notices.new.store in
    let one = learned user (HasScripts p0 p1) a s1 c.list_scripts.result tt c.in_ok-list_scripts.was c.list_scripts.ensures in
    let two = learned_then user (HasScripts p0 p1 tt) (HasReplies p1 p2) a s1 s2 one c.list_replies.result c.list_replies.ensures tt c.in_ok-list_replies.was in
    let three = learned_then user (Both (HasScripts p0 p1 tt) (HasReplies p1 p2 tt)) (HasCopies user p2 p3) a s2 s3 two c.list_copies.result c.list_copies.ensures tt c.in_ok-list_copies.was in
    let four = learned_then user (Both (Both (HasScripts p0 p1 tt) (HasReplies p1 p2 tt)) (HasCopies user p2 p3 tt)) (HasLetters p3 p4) a s3 s4 three c.list_letters.result c.list_letters.ensures tt c.in_ok-list_letters.was in
    let five = learned_then user (Both (Both (Both (HasScripts p0 p1 tt) (HasReplies p1 p2 tt)) (HasCopies user p2 p3 tt)) (HasLetters p3 p4 tt)) (HasNotices user p4 p5) a s4 s5 four c.list_notices.result c.list_notices.ensures tt c.in_ok-list_notices.was in
    learned_answer user (Both (Both (Both (Both (HasScripts p0 p1 tt) (HasReplies p1 p2 tt)) (HasCopies user p2 p3 tt)) (HasLetters p3 p4 tt)) (HasNotices user p4 p5 tt)) (λ places account. ArePlaces user places a.now account) a s5 five (Ok p5) tt (λ account all. all_placed user p0 p1 p2 p3 p4 p5 a.now account c.new-places.ensures all.0.0.0.0 all.0.0.0.1 all.0.0.1 all.0.1 all.1)
