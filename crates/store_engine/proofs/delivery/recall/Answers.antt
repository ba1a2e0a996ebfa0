use Rattle.std.proofs.Common.{◌≡◌, ◌∙◌, ℕ, true, List, Option, Ok, OnOk, IfErr, option_copied, ap, refl, rules}
use Rattle.sqlite.specs.Held.{state}
use Rattle.mail_address.specs.declared.address.Addr.{Addr}
use Rattle.sieve_syntax.specs.Meaning.{Actions}
use Rattle.sieve_syntax.specs.declared.extension.vacation.VacationArgs.{VacationArgs}
use Rattle.sieve_exec.specs.Mails.{MailSpec}
use Rattle.sieve_plan.specs.declared.view.AccountView.{AccountView}
use Rattle.sieve_plan.specs.Plans.{deeds_in}
use Rattle.sieve_plan.specs.Sent.{over_keys}
use Rattle.sieve_plan.specs.Views.{asks_room, known_of, last_of}
use Rattle.store_accounts.specs.declared.reply.ReplyKey.{ReplyKey}
use Rattle.store_accounts.specs.Account.{Account, room_in}
use Rattle.store_accounts.specs.Refusals.{IsTransient}
use Rattle.store_engine.specs.Lookups.{IsRecalled}
use Rattle.store_engine.proofs.RecallLemmas.{Besides, deeds_recalled, recalls_besides, recalls_both, recalls_both_failed, recalls_failed}
use Rattle.store_engine.proofs.delivery.recall.Goals as goal

abbrev Last : List ℕ → Option VacationArgs → Option ℕ → Account → Type 0
Last sender reply last a = last ≡ last_of a sender reply

abbrev Known : MailSpec → List Addr → List (List ℕ) → Account → Type 0
Known mail targets known a = known ≡ known_of a mail targets

abbrev Room : Actions → ℕ → Account → Type 0
Room deeds room a = asks_room deeds ≡ true → room ≡ room_in a

abbrev Over : ℕ → List ReplyKey → Account → Type 0
Over moment over a = over ≡ over_keys a moment

abbrev View : Addr → MailSpec → Actions → AccountView → Account → Type 0
View address mail deeds view a = IsRecalled view address mail deeds a

pub returns-in_err-last : goal.returns-in_err-last
returns-in_err-last g c =
    let user = c.args.user.now in
    let mail = c.args.mail.now in
    let deeds = deeds_in c.args.deeds.now in
    let s0 = state g.S.Store c.args.store.now in
    let s1 = state g.S.Store c.recall_last.new.store in
    let none : OnOk c.from_residual.result ⊥ = search rules in
    let transient : IfErr c.from_residual.result IsTransient = search rules in
    recalls_failed user (Last c.from.result.now (option_copied c.as_ref.result)) (View c.args.address mail deeds) s0 s1 c.recall_last.result c.recall_last.ensures c.from_residual.result none transient

pub returns-in_err-known : goal.returns-in_err-known
returns-in_err-known g c =
    let user = c.args.user.now in
    let mail = c.args.mail.now in
    let deeds = deeds_in c.args.deeds.now in
    let targets = c.as_slice.result.now in
    let s0 = state g.S.Store c.args.store.now in
    let s1 = state g.S.Store c.recall_last.new.store in
    let s2 = state g.S.Store c.recall_known.new.store in
    let none : OnOk c.from_residual-in_err-known.result ⊥ = search rules in
    let transient : IfErr c.from_residual-in_err-known.result IsTransient = search rules in
    recalls_both_failed user (Last c.from.result.now (option_copied c.as_ref.result)) (Known mail targets) s0 s1 s2 c.recall_last.result c.in_ok-last.last c.in_ok-last.was c.recall_last.ensures c.recall_known.result c.recall_known.ensures (View c.args.address mail deeds) c.from_residual-in_err-known.result none transient

pub returns-in_err-room : goal.returns-in_err-room
returns-in_err-room g c =
    let user = c.args.user.now in
    let mail = c.args.mail.now in
    let deeds = deeds_in c.args.deeds.now in
    let targets = c.as_slice.result.now in
    let s0 = state g.S.Store c.args.store.now in
    let s1 = state g.S.Store c.recall_last.new.store in
    let s2 = state g.S.Store c.recall_known.new.store in
    let s3 = state g.S.Store c.recall_room.new.store in
    let last = c.in_ok-last.last in
    let known = c.in_ok-known.known in
    let none : OnOk c.from_residual-in_err-room.result ⊥ = search rules in
    let transient : IfErr c.from_residual-in_err-room.result IsTransient = search rules in
    let two = recalls_besides user (Last c.from.result.now (option_copied c.as_ref.result)) (Known mail targets) s0 s1 s2 c.recall_last.result last c.in_ok-last.was c.recall_last.ensures c.recall_known.result c.recall_known.ensures known c.in_ok-known.was in
    recalls_both_failed user (Besides (Last c.from.result.now (option_copied c.as_ref.result)) last (Known mail targets)) (Room deeds) s0 s2 s3 (Ok known) known refl two c.recall_room.result c.recall_room.ensures (View c.args.address mail deeds) c.from_residual-in_err-room.result none transient

pub returns-in_err-over : goal.returns-in_err-over
returns-in_err-over g c =
    let user = c.args.user.now in
    let mail = c.args.mail.now in
    let deeds = deeds_in c.args.deeds.now in
    let targets = c.as_slice.result.now in
    let s0 = state g.S.Store c.args.store.now in
    let s1 = state g.S.Store c.recall_last.new.store in
    let s2 = state g.S.Store c.recall_known.new.store in
    let s3 = state g.S.Store c.recall_room.new.store in
    let s4 = state g.S.Store c.recall_over.new.store in
    let last = c.in_ok-last.last in
    let known = c.in_ok-known.known in
    let room = c.in_ok-room.room in
    let none : OnOk c.from_residual-in_err-over.result ⊥ = search rules in
    let transient : IfErr c.from_residual-in_err-over.result IsTransient = search rules in
    let two = recalls_besides user (Last c.from.result.now (option_copied c.as_ref.result)) (Known mail targets) s0 s1 s2 c.recall_last.result last c.in_ok-last.was c.recall_last.ensures c.recall_known.result c.recall_known.ensures known c.in_ok-known.was in
    let three = recalls_besides user (Besides (Last c.from.result.now (option_copied c.as_ref.result)) last (Known mail targets)) (Room deeds) s0 s2 s3 (Ok known) known refl two c.recall_room.result c.recall_room.ensures room c.in_ok-room.was in
    recalls_both_failed user (Besides (Besides (Last c.from.result.now (option_copied c.as_ref.result)) last (Known mail targets)) known (Room deeds)) (Over c.moment.result) s0 s3 s4 (Ok room) room refl three c.recall_over.result c.recall_over.ensures (View c.args.address mail deeds) c.from_residual-in_err-over.result none transient

pub returns : goal.returns
returns g c =
    let user = c.args.user.now in
    let mail = c.args.mail.now in
    let deeds = deeds_in c.args.deeds.now in
    let targets = c.as_slice.result.now in
    let s0 = state g.S.Store c.args.store.now in
    let s1 = state g.S.Store c.recall_last.new.store in
    let s2 = state g.S.Store c.recall_known.new.store in
    let s3 = state g.S.Store c.recall_room.new.store in
    let s4 = state g.S.Store c.recall_over.new.store in
    let last = c.in_ok-last.last in
    let known = c.in_ok-known.known in
    let room = c.in_ok-room.room in
    let two = recalls_besides user (Last c.from.result.now (option_copied c.as_ref.result)) (Known mail targets) s0 s1 s2 c.recall_last.result last c.in_ok-last.was c.recall_last.ensures c.recall_known.result c.recall_known.ensures known c.in_ok-known.was in
    let three = recalls_besides user (Besides (Last c.from.result.now (option_copied c.as_ref.result)) last (Known mail targets)) (Room deeds) s0 s2 s3 (Ok known) known refl two c.recall_room.result c.recall_room.ensures room c.in_ok-room.was in
    recalls_both user (Besides (Besides (Last c.from.result.now (option_copied c.as_ref.result)) last (Known mail targets)) known (Room deeds)) (Over c.moment.result) s0 s3 s4 (Ok room) room refl three c.recall_over.result c.recall_over.ensures c.in_ok-over.over c.in_ok-over.was (View c.args.address mail deeds) _
    (λ a found over. deeds_recalled _ c.args.address mail deeds a refl (found.0.0 ∙ (ap (λ sender. last_of a sender (option_copied c.as_ref.result)) c.from.ensures ∙ ap (last_of a mail.from) c.as_ref.ensures.value))
    (found.0.1 ∙ ap (known_of a mail) c.as_slice.ensures) found.1 (over ∙ ap (over_keys a) c.moment.ensures))
