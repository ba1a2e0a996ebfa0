use Rattle.std.proofs.Common.{◌∙◌, sym}
use Rattle.sieve_exec.proofs.MailboxLemmas.{filed_at, filed_behind}
use Rattle.sieve_exec.proofs.mailboxes.file.Goals as goal

pub returns-in-Some : goal.returns-in-Some
returns-in-Some c =
    let found = rw (c.as_slice.ensures.value, c.as_slice-2.ensures) at c.in-Some.ensures in
    (filed_at c.args.one c.args.filed.now.items c.in-Some.place (sym found)).1

pub returns-in_ok-push-in-None : goal.returns-in_ok-push-in-None
returns-in_ok-push-in-None c =
    let none = rw (c.as_slice.ensures.value, c.as_slice-2.ensures) at c.in-None.ensures in
    c.in_ok-push-in-None.ensures.items ∙ filed_behind c.args.one c.args.filed.now.items (sym none)
