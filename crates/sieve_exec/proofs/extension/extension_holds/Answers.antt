use Rattle.sieve_exec.proofs.MailboxTestLemmas.{mailboxes_same}
use Rattle.sieve_exec.proofs.extension.extension_holds.Goals as goal

pub returns-in-MailboxExists : goal.returns-in-MailboxExists
returns-in-MailboxExists c =
    rw c.in-MailboxExists.is (mailboxes_same c.are_mailboxes.result c.in-MailboxExists.names (rw c.as_slice.ensures at c.are_mailboxes.ensures))
