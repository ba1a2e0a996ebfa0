use Rattle.std.proofs.Common.{◌∙◌, ap, get_or, subst, take}
use Rattle.std.proofs.lemmas.List.Elements.{All-more, All-weaker}
use Rattle.maildir_moves.specs.Moving.{mail_told}
use Rattle.maildir_moves.proofs.CarryLemmas.{told_so}
use Rattle.maildir_moves.proofs.batch.BegunBatch.put_next.Goals as goal

pub returns-clause-underway : goal.returns-clause-underway
returns-clause-underway g c = λ path so.
    let begun = c.args.self.now in
    let batch = begun.batch in
    let mail = c.index-as_slice-self.result in
    let told = mail_told batch.user batch.folder in
    let has = g.T.MailSink.has_put in
    let before = All-weaker (λ m. has c.args.sink.now path (told m)) (λ m. has c.put.new.self path (told m)) (λ m. c.put.ensures.still_put path (told m)) (take begun.put batch.mails) so.1 in
    let this = told_so (has c.put.new.self path) batch.user batch.folder c.as_slice-2.result.now c.as_slice-3.result.now mail c.as_slice-4.result.now c.as_slice-5.result.now
    c.as_slice-2.ensures c.as_slice-3.ensures c.as_slice-4.ensures c.as_slice-5.ensures (c.in_ok-put.ensures.put_there path so.0) in
    (c.put.ensures.stays path so.0, All-more (λ m. has c.put.new.self path (told m)) batch.mails begun.put mail c.requires before (subst (λ m. has c.put.new.self path (told m)) (c.index-as_slice-self.is ∙ ap (λ l. get_or l begun.put mail) c.as_slice.ensures) this))
