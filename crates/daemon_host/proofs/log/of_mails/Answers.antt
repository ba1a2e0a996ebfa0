-- One more line.
use Rattle.std.proofs.Common.{◌++◌, ◌+◌, ◌∙◌, drop, sym, ap, append_assoc}
use Rattle.std.specs.List.{flat_map}
use Rattle.std.proofs.lemmas.List.{at_drop_more}
use Rattle.daemon_host.specs.Log.{moved_line}
use Rattle.daemon_host.proofs.log.of_mails.Goals as goal

pub loop-mail-preserved : goal.loop-mail-preserved
loop-mail-preserved c =
    let f = moved_line c.args.user.now c.args.folder.now in
    let mails = c.args.mails.now in
    let i = c.loop-mail.mail-index in
    ap (λ l. l ++ flat_map f (drop (i + 1) mails)) (c.in_ok-add_moved.ensures ∙ ap (λ m. c.loop-mail.lines ++ f m) c.mail-item.is)
    ∙ (append_assoc c.loop-mail.lines _ (flat_map f (drop (i + 1) mails))
    ∙ (ap (λ t. c.loop-mail.lines ++ t) (sym (at_drop_more (flat_map f) mails i c.mail-item.result c.loop-mail-test.true))
    ∙ c.loop-mail.invariant))
