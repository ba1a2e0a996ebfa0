use Rattle.std.proofs.Common.{◌≡◌, ◌<◌, ◌∷◌, length, List, ap, subst, sym, rules, arith}
use Rattle.store_engine.specs.declared.answer.Answer.{Answer}
use Rattle.daemon_core.specs.Batches.{AreMessagesReady}
use Rattle.daemon_core.specs.Deliveries.{NotesEach}
use Rattle.daemon_core.specs.MailRules.{lmtp_connection_at}
use Rattle.daemon_core.specs.declared.gathered.GatheredRequest.{GatheredRequest}
use Rattle.daemon_core.proofs.DeliveriesLemmas.{notes_more, ready_behind}
use Rattle.daemon_core.proofs.deliveries.+note_answers.Goals as goal

pub note_answers-requires : goal.note_answers-requires
note_answers-requires t c =
    let is : c.args.requests.now ≡ c.in-Some.first.now ∷ c.in-Some.others.now = search rules in
    let less : length c.in-Some.others.now < t = omega (arith, c.decreases, ap (λ (l : List GatheredRequest). length l) is) in
    (less, ready_behind c.args.now c.in-Some.first.now c.in-Some.others.now c.args.mail.now c.note_answer.new.mail (subst (AreMessagesReady c.args.now (lmtp_connection_at c.args.mail.now)) is c.requires) c.note_answer.ensures.one)

pub returns-clause-notes : goal.returns-clause-notes
returns-clause-notes t c =
    let is : c.args.requests.now ≡ c.in-Some.first.now ∷ c.in-Some.others.now = search rules in
    let answered : c.args.answers.now ≡ c.in-Some-split_first.answer.now ∷ c.in-Some-split_first.rest.now = search rules in
    subst (λ (requests : List GatheredRequest). NotesEach c.args.now requests c.args.answers.now c.args.mail.now c.note_answers.new.mail) (sym is)
    (subst (λ (answers : List Answer). NotesEach c.args.now (c.in-Some.first.now ∷ c.in-Some.others.now) answers c.args.mail.now c.note_answers.new.mail) (sym answered)
    (notes_more c.args.now c.in-Some.first.now c.in-Some.others.now c.in-Some-split_first.answer.now c.in-Some-split_first.rest.now c.args.mail.now c.note_answer.new.mail c.note_answers.new.mail c.note_answer.ensures.notes c.note_answers.ensures.notes))
